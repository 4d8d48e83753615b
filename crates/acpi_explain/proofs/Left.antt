-- Where more interrupts are avoided than when the links were asked: nothing else is refused than that nothing is left.
use Rattle.std.proofs.Common.{◌≡◌, ◌∙◌, ap, sym, refl, inl, inr}
use Rattle.std.specs.Prelude.{ℕ, Bool, true, false, List, [], ◌∷◌, Option, Ok, Err, if◌then◌else◌}
use Rattle.ar_space.specs.Outcome.{Outcome, ◌>>=◌}
use Rattle.ar_space.specs.declared.refusal.Refusal.{Refusal}
use Rattle.ar_space.specs.declared.refusal.Refusal.TheVariants as refusal
use Rattle.ar_space.specs.declared.refusal.RoutingFault.TheVariants.{Avoided}
use Rattle.aml_path.specs.Text.{text_of}
use Rattle.route_model.specs.Avoided.{are_all_avoided}
use Rattle.acpi_links.specs.Gatherings.{Gathering, gathering}
use Rattle.acpi_links.specs.Links.{PresentLink}
use Rattle.acpi_links.specs.Sparing.{all_left, avoiding}
use Rattle.acpi_configure.specs.WithOptions.{narrowed}
use Rattle.acpi_explain.specs.Stages.{IsOfNoObject}

all_left_only : (avoid : List ℕ) (links : List PresentLink) (e : Refusal) → all_left avoid links ≡ Err e → IsOfNoObject {A = Gathering} (Err e)
unfolding all_left
all_left_only avoid [] e h = absurd (cc h)
all_left_only avoid (l ∷ ls) e h = by (are_all_avoided avoid l.1.numbers) (all_left_only avoid ls e) h
  where
    by : (b : Bool) → (all_left avoid ls ≡ Err e → IsOfNoObject {A = Gathering} (Err e)) → (if b then Err (refusal.Routing (Avoided (text_of l.0))) else all_left avoid ls) ≡ Err e → IsOfNoObject {A = Gathering} (Err e)
    by true further i = let same : refusal.Routing (Avoided (text_of l.0)) ≡ e = cc i in inr (inl (text_of l.0, sym same))
    by false further i = further i

avoiding_only : (barred : List ℕ) (sci : Option ℕ) (g : Gathering) (e : Refusal) → avoiding barred sci g ≡ Err e → IsOfNoObject {A = Gathering} (Err e)
unfolding avoiding ◌>>=◌
avoiding_only barred sci g e h = by (all_left barred g.links) refl h
  where
    by : (x : Outcome (Unit {0})) → all_left barred g.links ≡ x → (x >>= (λ _. Ok (gathering barred sci g.pins g.links))) ≡ Err e → IsOfNoObject {A = Gathering} (Err e)
    by (Ok u) is i = absurd (cc i)
    by (Err x) is i = let same : x ≡ e = cc i in all_left_only barred g.links e (is ∙ ap Err same)

pub narrowed_only : (spare : Bool) (barred : List ℕ) (sci : Option ℕ) (g : Gathering) (e : Refusal) → narrowed spare barred sci g ≡ Err e → IsOfNoObject {A = Gathering} (Err e)
narrowed_only true barred sci g e h = avoiding_only barred sci g e h
narrowed_only false barred sci g e h = absurd (cc h)
