-- Parts of memory, one after the other.
use Rattle.std.specs.Prelude.{◌≡◌, ◌≢◌, ℕ, suc, ◌+◌, ◌<◌, ◌≤◌, List, [], ◌∷◌, length, drop, Ok, Err, IsErr, IsErrAnd, refl}
use Rattle.std.specs.FinMap as map
use Rattle.std.specs.Ordering.{nat_cmp}
use Rattle.std.proofs.Common.{◌∙◌, sym, ap, get_or, drop-cons, add-one}
use Rattle.std.proofs.lemmas.List.{drop_all}
use Rattle.ar_space.specs.declared.refusal.Refusal.{Refusal}
use Rattle.ar_space.specs.declared.refusal.Refusal.TheVariants.{OutOfMemory}
use Rattle.ar_space.specs.Outcome.{Outcome, Answers, NotMemory, ◌>>=◌}
use Rattle.ar_space.proofs.Outcomes.{answers_refused}
use Rattle.recorded_route.specs.declared.description.TablePart.{TablePart}
use Rattle.recorded_route.specs.Runs.{with_part, with_parts}

abbrev Image : Type 0
Image = map.FinMap nat_cmp ℕ

next_part : (image next : Image) (part : TablePart) (parts : List TablePart) → with_part image part ≡ Ok next → with_parts image (part ∷ parts) ≡ with_parts next parts
unfolding with_parts ◌>>=◌
next_part image next part parts is = rw is refl

bad_part : (image : Image) (part : TablePart) (parts : List TablePart) (e : Refusal) → with_part image part ≡ Err e → with_parts image (part ∷ parts) ≡ Err e
unfolding with_parts ◌>>=◌
bad_part image part parts e is = rw is refl

no_part : (image : Image) → with_parts image [] ≡ Ok image
unfolding with_parts
no_part image = refl

pub parts_on : (start image next : Image) (parts : List TablePart) (i : ℕ) (p : TablePart) → with_parts start parts ≡ with_parts image (drop i parts) → i < length parts → Answers (Ok next) (with_part image (get_or parts i p))
    → with_parts start parts ≡ with_parts next (drop (i + 1) parts)
parts_on start image next parts i p so below is =
    rw (add-one i) (so ∙ (ap (with_parts image) (drop-cons parts i p below) ∙ next_part image next (get_or parts i p) (drop (suc i) parts) (is.is tt)))

pub parts_end : (start image : Image) (parts : List TablePart) (i : ℕ) → with_parts start parts ≡ with_parts image (drop i parts) → length parts ≤ i → Answers (Ok image) (with_parts start parts)
parts_end start image parts i so past = record { is = λ _. so ∙ (ap (with_parts image) (drop_all i parts past) ∙ no_part image) }

pub parts_bad : (start image : Image) (parts : List TablePart) (i : ℕ) (e : Refusal) (r : Outcome Image) (p : TablePart) → with_parts start parts ≡ with_parts image (drop i parts) → i < length parts
    → Answers {A = Image} (Err e) (with_part image (get_or parts i p)) → IsErr r × IsErrAnd r (λ x. x ≡ e) → Answers r (with_parts start parts)
parts_bad start image parts i e (Ok out) p so below is f = absurd (cc f.0)
parts_bad start image parts i e (Err x) p so below is f = record {
  is = λ ne.
      let same : x ≡ e = f.1 in
      let stop = is.is (λ q. ne (same ∙ q)) in
      rw same (so ∙ (ap (with_parts image) (drop-cons parts i p below) ∙ bad_part image (get_or parts i p) (drop (suc i) parts) e stop));
}
