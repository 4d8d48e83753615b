-- An object that is made stands at the end, where it isn't refused.
use Rattle.std.specs.Prelude.{◌≡◌, ◌⊎◌, ℕ, nat_le, Bool, true, false, List, [], ◌∷◌, ◌++◌, length, slice_get, Some, Ok, Err, refl, if◌then◌else◌}
use Rattle.std.proofs.Common.{inl, inr}
use Rattle.ar_space.specs.declared.refusal.Refusal.{Refusal}
use Rattle.ar_space.specs.declared.refusal.Refusal.TheVariants as refusal
use Rattle.ar_space.specs.declared.refusal.EvaluationFault.TheVariants.{ObjectLimit}
use Rattle.ar_space.specs.Outcome.{Outcome}
use Rattle.ar_space.specs.Change.{Change, give, settle, go_on, ◌>>=◌}
use Rattle.aml_objects.specs.Objects.{make, fits, few, make_string, make_buffer, make_package}
use Rattle.aml_objects.specs.declared.object.Element.{Element}
use Rattle.aml_objects.specs.declared.object.Object.{Object}
use Rattle.aml_objects.specs.declared.object.Object.TheVariants as object
use Rattle.aml_objects.specs.declared.value.Value.{Value}
use Rattle.aml_objects.specs.declared.value.Value.TheVariants as value

pub stands_there : (h later : List Object) (x : Object) → slice_get ((h ++ x ∷ []) ++ later) (length h) ≡ Some x
stands_there [] later x = refl
stands_there (a ∷ h) later x = stands_there h later x

abbrev pub made_by : Outcome (Unit {0}) → Object → (ℕ → Value) → Change (List Object) Value
made_by check x kind = settle check >>= (λ _. make x >>= (λ n. give (kind n)))

-- it is refused, or it stands at the end
abbrev pub MadeOrNot : (ℕ → Value) → Object → List Object → Outcome Value × List Object → Type 0
MadeOrNot kind x h p = ((e : Refusal) × (p ≡ (Err e, h))) ⊎ (p ≡ (Ok (kind (length h)), h ++ x ∷ []))

by_room : (b : Bool) (kind : ℕ → Value) (x : Object) (h : List Object)
    → MadeOrNot kind x h (go_on (if◌then◌else◌ {A = Outcome ℕ × List Object} b (Err (refusal.Evaluation ObjectLimit), h) (Ok (length h), h ++ x ∷ [])).0 (if◌then◌else◌ {A = Outcome ℕ × List Object} b (Err (refusal.Evaluation ObjectLimit), h) (Ok (length h), h ++ x ∷ [])).1 (λ n. give (kind n)))
unfolding go_on give
by_room true kind x h = inl (refusal.Evaluation ObjectLimit, refl)
by_room false kind x h = inr refl

made_or_not : (check : Outcome (Unit {0})) (kind : ℕ → Value) (x : Object) (h : List Object) → MadeOrNot kind x h (made_by check x kind h)
unfolding settle make go_on ◌>>=◌
made_or_not (Err e) kind x h = inl (e, refl)
made_or_not (Ok u) kind x h = by_room (nat_le 262144 (length h)) kind x h

pub string_made : (bs : List ℕ) (h : List Object) → MadeOrNot value.String (object.String bs) h (make_string bs h)
unfolding make_string
string_made bs h = made_or_not (fits bs) value.String (object.String bs) h

pub buffer_made : (bs : List ℕ) (h : List Object) → MadeOrNot value.Buffer (object.Buffer bs) h (make_buffer bs h)
unfolding make_buffer
buffer_made bs h = made_or_not (fits bs) value.Buffer (object.Buffer bs) h

pub package_made : (es : List Element) (h : List Object) → MadeOrNot value.Package (object.Package es) h (make_package es h)
unfolding make_package
package_made es h = made_or_not (few es) value.Package (object.Package es) h
