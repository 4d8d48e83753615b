-- What was gathered, where more interrupts are avoided than when the links were asked.
use Rattle.std.specs.Prelude.{ℕ, List, [], ◌∷◌, Option, Ok, Err, if◌then◌else◌}
use Rattle.ar_space.specs.declared.refusal.Refusal.TheVariants as refusal
use Rattle.ar_space.specs.declared.refusal.RoutingFault.TheVariants.{Avoided}
use Rattle.ar_space.specs.Outcome.{Outcome, ◌>>=◌}
use Rattle.aml_path.specs.Text.{text_of}
use Rattle.route_model.specs.Avoided.{are_all_avoided}
use Rattle.acpi_links.specs.Links.{PresentLink}
use Rattle.acpi_links.specs.Gatherings.{Gathering, gathering}

-- something of each link's offer is left where these interrupts are avoided
unfoldable pub all_left : List ℕ → List PresentLink → Outcome (Unit {0})
all_left avoid [] = Ok tt
all_left avoid (l ∷ ls) = if are_all_avoided avoid l.1.numbers then Err (refusal.Routing (Avoided (text_of l.0))) else all_left avoid ls

-- the same pins and links, and the problem that they pose where these interrupts are avoided
unfoldable pub avoiding : List ℕ → Option ℕ → Gathering → Outcome Gathering
avoiding avoid sci g = do
  _ ← all_left avoid g.links
  Ok (gathering avoid sci g.pins g.links)
