-- What comparisons answer, by the order of two values.
use Rattle.std.specs.Prelude.{◌≡◌, ◌-◌, ◌^◌, ℕ, Ok, Err, refl}
use Rattle.std.proofs.Common.{ap, ◌∙◌}
use Rattle.std.specs.declared.cmp.Ordering.{Ordering}
use Rattle.std.specs.declared.cmp.Ordering.TheVariants.{Less, Equal, Greater}
use Rattle.ar_space.specs.declared.integer_width.IntegerWidth.{IntegerWidth}
use Rattle.ar_space.specs.declared.refusal.Refusal.{Refusal}
use Rattle.ar_space.specs.Outcome.{Outcome}
use Rattle.aml_objects.specs.declared.value.Value.{Value}
use Rattle.aml_objects.specs.declared.value.Value.TheVariants as value
use Rattle.aml_convert.specs.declared.logic.Comparison.{Comparison}
use Rattle.aml_convert.specs.declared.logic.Comparison.TheVariants as comparison
use Rattle.aml_convert.specs.Integers.{bits_of, ones, truth}
use Rattle.aml_convert.specs.Conversions.{compared}
use Rattle.aml_convert.specs.Operators.{holds}
use Rattle.aml_world.specs.values.Operations.{truth_of, compared_in}
use Rattle.aml_objects.specs.Contents.{content_in}
use Rattle.aml_world.specs.state.State.{State}
use Rattle.aml_laws.specs.Comparisons.{AsksFor, equal, greater, less}

module _ {S : Type 0} (w : State S) (c : Comparison) (a b : Value) where
  by_order : (x : Outcome Ordering) → compared w.width (content_in w.objects a) (content_in w.objects b) ≡ x → compared_in c a b w ≡ (truth_of w.width c x, w)
  unfolding compared_in
  by_order x is = ap (λ (y : Outcome Ordering). (truth_of w.width c y, w)) is

true_for : (width : IntegerWidth) (c : Comparison) (o : Ordering) → AsksFor c o → truth width (holds c o) ≡ 2 ^ bits_of width - 1
true_for width comparison.Equal Less x = elim x [ ]
true_for width comparison.Equal Equal x = refl
true_for width comparison.Equal Greater x = elim x [ ]
true_for width comparison.Greater Less x = elim x [ ]
true_for width comparison.Greater Equal x = elim x [ ]
true_for width comparison.Greater Greater x = refl
true_for width comparison.Less Less x = refl
true_for width comparison.Less Equal x = elim x [ ]
true_for width comparison.Less Greater x = elim x [ ]

false_for : (width : IntegerWidth) (c : Comparison) (o : Ordering) → (AsksFor c o → ⊥) → truth width (holds c o) ≡ 0
false_for width comparison.Equal Less other = refl
false_for width comparison.Equal Equal other = absurd (other equal)
false_for width comparison.Equal Greater other = refl
false_for width comparison.Greater Less other = refl
false_for width comparison.Greater Equal other = refl
false_for width comparison.Greater Greater other = absurd (other greater)
false_for width comparison.Less Less other = absurd (other less)
false_for width comparison.Less Equal other = refl
false_for width comparison.Less Greater other = refl

module _ {S : Type 0} (w : State S) (c : Comparison) (a b : Value) where
  pub asked_for : (o : Ordering) → compared w.width (content_in w.objects a) (content_in w.objects b) ≡ Ok o → AsksFor c o → compared_in c a b w ≡ (Ok (value.Integer (2 ^ bits_of w.width - 1)), w)
  asked_for o is asks = by_order w c a b (Ok o) is ∙ ap (λ (n : ℕ). (Ok (value.Integer n), w)) (true_for w.width c o asks)

  pub not_asked_for : (o : Ordering) → compared w.width (content_in w.objects a) (content_in w.objects b) ≡ Ok o → (AsksFor c o → ⊥) → compared_in c a b w ≡ (Ok (value.Integer 0), w)
  not_asked_for o is other = by_order w c a b (Ok o) is ∙ ap (λ (n : ℕ). (Ok (value.Integer n), w)) (false_for w.width c o other)

  pub not_compared : (e : Refusal) → compared w.width (content_in w.objects a) (content_in w.objects b) ≡ Err e → compared_in c a b w ≡ (Err e, w)
  not_compared e is = by_order w c a b (Err e) is
