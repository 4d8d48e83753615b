-- A package is filled up one element at a time.
use Rattle.std.proofs.Common.{◌≡◌, ℕ, suc, ◌+◌, ◌-◌, ◌<◌, ◌≤◌, List, [], ◌∷◌, ◌++◌, length, arith, ap, sym, ◌∙◌}
use Rattle.std.specs.Prelude.{replicate}
use Rattle.std.proofs.lemmas.List.{append_assoc, append-nil, length-append}
use Rattle.aml_objects.specs.declared.value.Value.TheVariants.{Uninitialized}
use Rattle.aml_objects.specs.declared.object.Element.{Element}
use Rattle.aml_objects.specs.declared.object.Element.TheVariants.{Value}
use Rattle.aml_world.specs.state.NewObjects.{filled}

one_more : (n m : ℕ) → m < n → n - m ≡ suc (n - (m + 1))
one_more n m h = omega arith

pub grown : (n : ℕ) (es : List Element) → length es < n → filled n es ≡ filled n (es ++ Value Uninitialized ∷ [])
grown n es h =
    ap (λ k. es ++ replicate k (Value Uninitialized)) (one_more n (length es) h)
    ∙ sym (append_assoc es (Value Uninitialized ∷ []) (replicate (n - (length es + 1)) (Value Uninitialized)))
    ∙ ap (λ k. (es ++ Value Uninitialized ∷ []) ++ replicate (n - k) (Value Uninitialized)) (sym (length-append es (Value Uninitialized ∷ [])))

none_left : (n m : ℕ) → n ≤ m → n - m ≡ 0
none_left n m h = omega arith

pub full : (n : ℕ) (es : List Element) → n ≤ length es → filled n es ≡ es
full n es h = ap (λ k. es ++ replicate k (Value Uninitialized)) (none_left n (length es) h) ∙ append-nil es
