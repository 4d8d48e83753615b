-- Whether something of each link's offer is left.
use Rattle.std.proofs.Common.{◌≡◌, ◌∙◌, ap, sym, refl, ℕ, suc, ◌+◌, ◌<◌, ◌≤◌, List, [], ◌∷◌, length, drop, take, get_or, drop-cons, add-one, true, false, Ok, Err, subst, arith}
use Rattle.std.specs.Prelude.{All}
use Rattle.std.proofs.lemmas.List.{drop_all, take_all}
use Rattle.std.proofs.lemmas.List.Elements.{All-more}
use Rattle.ar_space.specs.declared.refusal.Refusal.TheVariants as refusal
use Rattle.ar_space.specs.declared.refusal.RoutingFault.TheVariants.{Avoided}
use Rattle.ar_space.specs.Outcome.{Outcome, Answers}
use Rattle.aml_path.specs.Text.{text_of}
use Rattle.route_model.specs.Avoided.{are_all_avoided}
use Rattle.acpi_links.specs.Links.{PresentLink, HasLeft}
use Rattle.acpi_links.specs.Sparing.{all_left}

passes : (avoid : List ℕ) (l : PresentLink) (ls : List PresentLink) → are_all_avoided avoid l.1.numbers ≡ false → all_left avoid (l ∷ ls) ≡ all_left avoid ls
unfolding all_left
passes avoid l ls some = rw some refl

refuses : (avoid : List ℕ) (l : PresentLink) (ls : List PresentLink) → are_all_avoided avoid l.1.numbers ≡ true → all_left avoid (l ∷ ls) ≡ Err (refusal.Routing (Avoided (text_of l.0)))
unfolding all_left
refuses avoid l ls none = rw none refl

done : (avoid : List ℕ) → all_left avoid [] ≡ Ok tt
unfolding all_left
done avoid = refl

module _ (avoid : List ℕ) (ls : List PresentLink) (i : ℕ) (l : PresentLink) (so : all_left avoid (drop i ls) ≡ all_left avoid ls) (within : i < length ls) (at : l ≡ get_or ls i l) where
  here : drop i ls ≡ l ∷ drop (suc i) ls
  here = drop-cons ls i l within ∙ ap (λ x. x ∷ drop (suc i) ls) (sym at)

  pub left_on : are_all_avoided avoid l.1.numbers ≡ false → all_left avoid (drop (i + 1) ls) ≡ all_left avoid ls
  left_on some = rw add-one (sym (ap (all_left avoid) here ∙ passes avoid l (drop (suc i) ls) some) ∙ so)

  pub left_refused : are_all_avoided avoid l.1.numbers ≡ true → all_left avoid ls ≡ Err (refusal.Routing (Avoided (text_of l.0)))
  left_refused none = sym so ∙ (ap (all_left avoid) here ∙ refuses avoid l (drop (suc i) ls) none)

  pub has_more : All (HasLeft avoid) (take i ls) → are_all_avoided avoid l.1.numbers ≡ false → All (HasLeft avoid) (take (i + 1) ls)
  has_more h some = All-more (HasLeft avoid) ls i l within h (subst (λ x. HasLeft avoid x) at some)

pub left_end : (avoid : List ℕ) (ls : List PresentLink) (i : ℕ) → all_left avoid (drop i ls) ≡ all_left avoid ls → length ls ≤ i → all_left avoid ls ≡ Ok tt
left_end avoid ls i so past = sym so ∙ (ap (all_left avoid) (drop_all i ls past) ∙ done avoid)

pub has_all : (avoid : List ℕ) (ls : List PresentLink) (i : ℕ) → All (HasLeft avoid) (take i ls) → length ls ≤ i → All (HasLeft avoid) ls
has_all avoid ls i h past = subst (All (HasLeft avoid)) (take_all i ls past) h
