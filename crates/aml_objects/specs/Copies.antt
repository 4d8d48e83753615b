-- Deep copies of values.
use Rattle.std.specs.Prelude.{ℕ, zero, suc, List, [], ◌∷◌, ◌++◌, Ok, Err}
use Rattle.ar_space.specs.declared.refusal.Refusal.TheVariants as refusal
use Rattle.ar_space.specs.declared.refusal.EvaluationFault.TheVariants.{ObjectLimit}
use Rattle.ar_space.specs.Outcome.{Outcome}
use Rattle.ar_space.specs.Change.{Change, give, stop, ◌>>=◌}
use Rattle.aml_objects.specs.declared.value.Value.{Value}
use Rattle.aml_objects.specs.declared.value.Value.TheVariants as value
use Rattle.aml_objects.specs.declared.object.Element.{Element}
use Rattle.aml_objects.specs.declared.object.Element.TheVariants as element
use Rattle.aml_objects.specs.declared.object.Object.TheVariants as object
use Rattle.aml_objects.specs.Objects.{Objects, make, make_string, make_buffer, string_at, buffer_at, elements_at}

unfoldable pub string_copy : ℕ → Change Objects Value
string_copy o = do
  bs ← string_at o
  make_string bs

unfoldable pub buffer_copy : ℕ → Change Objects Value
buffer_copy o = do
  bs ← buffer_at o
  make_buffer bs

-- a value's copy, by how a package is copied
unfoldable pub value_copy : (ℕ → Change Objects Value) → Value → Change Objects Value
value_copy pk value.Uninitialized = give value.Uninitialized
value_copy pk (value.Integer n) = give (value.Integer n)
value_copy pk (value.String o) = string_copy o
value_copy pk (value.Buffer o) = buffer_copy o
value_copy pk (value.Package o) = pk o
value_copy pk (value.Reference r) = give (value.Reference r)

unfoldable pub held_copy : (ℕ → Change Objects Value) → Value → Change Objects Element
held_copy pk v = do
  u ← value_copy pk v
  give (element.Value u)

unfoldable pub element_copy : (ℕ → Change Objects Value) → Element → Change Objects Element
element_copy pk (element.Value v) = held_copy pk v
element_copy pk (element.Name n s) = give (element.Name n s)

-- the copies of some elements, after those that are done
unfoldable pub copies_of : (ℕ → Change Objects Value) → List Element → List Element → Change Objects (List Element)
copies_of pk [] done = give done
copies_of pk (e ∷ es) done = do
  c ← element_copy pk e
  copies_of pk es (done ++ c ∷ [])

unfoldable pub whole_copy : (ℕ → Change Objects Value) → ℕ → Change Objects Value
whole_copy pk o = do
  es ← elements_at o
  cs ← copies_of pk es []
  n ← make (object.Package cs)
  give (value.Package n)

-- packages nest at most so deep
unfoldable pub package_copy : ℕ → ℕ → Change Objects Value
package_copy zero o = stop (refusal.Evaluation ObjectLimit)
package_copy (suc n) o = whole_copy (package_copy n) o

-- a refused copy makes no object
abbrev pub if_whole : {A : Type 0} → Objects → Outcome A → Objects → Outcome A × Objects
if_whole h (Ok a) h1 = (Ok a, h1)
if_whole h (Err e) h1 = (Err e, h)

unfoldable pub whole : {A : Type 0} → Change Objects A → Change Objects A
whole m h = if_whole h (m h).0 (m h).1

-- a value's copy, packages deeply
unfoldable pub copied : Value → Change Objects Value
copied v = whole (value_copy (package_copy 64) v)
