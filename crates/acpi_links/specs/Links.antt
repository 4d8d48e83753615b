-- The link devices that pins lead to, and those of them that are present.
use Rattle.std.specs.Prelude.{◌≡◌, ⊤, ℕ, List, [], ◌∷◌, ◌++◌, length, nat_lt, option_to_list, ◌+◌, Bool, true, false, ◌&&◌, Option, Some, None, Ok, Err, if◌then◌else◌}
use Rattle.std.specs.List.{list_any}
use Rattle.std.specs.BTreeSet.{insert_key}
use Rattle.ar_space.specs.declared.refusal.Refusal.TheVariants as refusal
use Rattle.ar_space.specs.declared.refusal.RoutingFault.TheVariants.{Avoided, MixedPolarity, TooMany}
use Rattle.ar_space.specs.Accesses.{Accesses}
use Rattle.ar_space.specs.Outcome.{Outcome}
use Rattle.ar_space.specs.Change.{Change, give, settle, ◌>>=◌, ◌>>◌}
use Rattle.aml_path.specs.declared.segment.Seg.{Seg}
use Rattle.aml_path.specs.Paths.{path_cmp}
use Rattle.aml_path.specs.Text.{text_of}
use Rattle.acpi_resources.specs.declared.form.Polarity.{Polarity}
use Rattle.acpi_resources.specs.declared.form.Polarity.TheVariants.{Low, High}
use Rattle.acpi_resources.specs.Records.{InterruptOffer}
use Rattle.acpi_machine.specs.MachineStates.{MachineState}
use Rattle.acpi_prt.specs.declared.pin.Pin.{Pin}
use Rattle.acpi_prt.specs.declared.pin.Route.{Route}
use Rattle.acpi_prt.specs.declared.pin.Route.TheVariants.{Wired, Link}
use Rattle.route_model.specs.Avoided.{are_all_avoided}
use Rattle.acpi_links.specs.Presence.{is_present}
use Rattle.acpi_links.specs.Resources.{possible_resources, current_resources}
use Rattle.acpi_links.specs.Folds.{folded}

-- at most 4,096 pins and the source of the System Control Interrupt, if there is one, together
abbrev pub few_pins : Option ℕ → List (List Seg × Pin) → Outcome (Unit {0})
few_pins sci pins = if nat_lt 4096 (length pins + length (option_to_list sci)) then Err (refusal.Routing TooMany) else Ok tt

-- the links that routes lead to: paths in path order, each once
abbrev pub with_route : List (List Seg) → Route → List (List Seg)
with_route links (Wired n) = links
with_route links (Link p) = insert_key path_cmp links p

unfoldable pub with_links : List (List Seg) → List (List Seg × Pin) → List (List Seg)
with_links links [] = links
with_links links (pin ∷ pins) = with_links (with_route links pin.1.route) pins

abbrev pub links_named : List (List Seg × Pin) → List (List Seg)
links_named pins = with_links [] pins

-- at most 256 links
abbrev pub few_links : List (List Seg) → Outcome (Unit {0})
few_links links = if nat_lt 256 (length links) then Err (refusal.Routing TooMany) else Ok tt

-- a present link: its path, what it offers, and what it is set to
abbrev pub PresentLink : Type 0
PresentLink = List Seg × InterruptOffer × Option (List ℕ)

-- a link that was found is that at a path
abbrev pub IsAt : List Seg → Option PresentLink → Type 0
IsAt p None = ⊤
IsAt p (Some link) = link.0 ≡ p

-- something of an offer is left where these interrupts are avoided
abbrev pub some_left : List ℕ → List Seg → InterruptOffer → Outcome (Unit {0})
some_left avoid link offer = if are_all_avoided avoid offer.numbers then Err (refusal.Routing (Avoided (text_of link))) else Ok tt

abbrev pub HasLeft : List ℕ → PresentLink → Type 0
HasLeft avoid link = are_all_avoided avoid link.1.numbers ≡ false

-- the same of a link that was found
abbrev pub IsLeft : List ℕ → Option PresentLink → Type 0
IsLeft avoid None = ⊤
IsLeft avoid (Some link) = HasLeft avoid link

abbrev pub with_link : List PresentLink → Option PresentLink → List PresentLink
with_link links None = links
with_link links (Some link) = links ++ link ∷ []

-- accesses: what the register space makes of them; avoid: the interrupts that no link is to be given
module _ {S : Type 0} (accesses : Accesses S) (avoid : List ℕ) where
  -- that all it offers is avoided is found before it is asked for its setting
  unfoldable pub link_found : List Seg → Change (MachineState S) (Option PresentLink)
  link_found link = do
    offer ← possible_resources accesses link
    settle (some_left avoid link offer)
    now ← current_resources accesses link
    give (Some (link, offer, now))

  -- a link that is absent isn't asked
  unfoldable pub link_if : Bool → List Seg → Change (MachineState S) (Option PresentLink)
  link_if true link = link_found link
  link_if false link = give None

  unfoldable pub link_asked : List Seg → Change (MachineState S) (Option PresentLink)
  link_asked link = do
    present ← is_present accesses link
    link_if present link

  -- those of some links that are present, in the order of the links
  abbrev pub links_of_each : List (List Seg) → Change (MachineState S) (List PresentLink)
  links_of_each list = folded with_link link_asked list []

abbrev pub is_low : Polarity → Bool
is_low Low = true
is_low High = false

abbrev pub is_high : Polarity → Bool
is_high Low = false
is_high High = true

-- all links of one polarity
abbrev pub mixed : List PresentLink → Bool
mixed links = list_any (λ l. is_low l.1.polarity) links && list_any (λ l. is_high l.1.polarity) links

abbrev pub one_polarity : List PresentLink → Outcome (Unit {0})
one_polarity links = if mixed links then Err (refusal.Routing MixedPolarity) else Ok tt
