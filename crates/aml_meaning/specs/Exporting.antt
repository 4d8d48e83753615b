-- How an answer is handed out: each element of a package costs a step.
use Rattle.std.specs.Prelude.{ℕ, zero, suc, List, [], ◌∷◌, ◌++◌}
use Rattle.ar_space.specs.declared.refusal.Refusal.TheVariants as refusal
use Rattle.ar_space.specs.declared.refusal.EvaluationFault.TheVariants.{ObjectLimit}
use Rattle.ar_space.specs.Accesses.{Accesses}
use Rattle.ar_space.specs.Change.{give, stop, ◌>>=◌}
use Rattle.aml_path.specs.declared.segment.Seg.{Seg}
use Rattle.aml_path.specs.Paths.{Name}
use Rattle.aml_objects.specs.declared.value.Value.{Value}
use Rattle.aml_objects.specs.declared.value.Value.TheVariants as value
use Rattle.aml_objects.specs.declared.value.Reference.{Reference}
use Rattle.aml_objects.specs.declared.value.Reference.TheVariants as reference
use Rattle.aml_objects.specs.declared.object.Element.{Element}
use Rattle.aml_objects.specs.declared.object.Element.TheVariants as element
use Rattle.aml_objects.specs.declared.entry.Field.{Field}
use Rattle.aml_objects.specs.Objects.{string_at, buffer_at, elements_at}
use Rattle.aml_world.specs.declared.state.name_use.NameUse.{NameUse}
use Rattle.aml_world.specs.declared.state.name_use.NameUse.TheVariants as uses
use Rattle.aml_world.specs.state.State.{on_objects}
use Rattle.aml_world.specs.state.Run.{Run, lift, charge}
use Rattle.aml_world.specs.state.Given as given
use Rattle.aml_world.specs.fields.Fields.{field_given}
use Rattle.aml_world.specs.state.NameUses.{path_of, name_use}
use Rattle.aml_meaning.specs.FieldCalls.{called_at}
use Rattle.aml_meaning.specs.Meaning.{meaning}

unfoldable pub text_exported : {S : Type 0} → ℕ → Run S given.Given
text_exported o = do
  bytes ← lift (on_objects (string_at o))
  give (given.Text bytes)

unfoldable pub bytes_exported : {S : Type 0} → ℕ → Run S given.Given
bytes_exported o = do
  bytes ← lift (on_objects (buffer_at o))
  give (given.Bytes bytes)

unfoldable pub reference_exported : {S : Type 0} → Reference → Run S given.Given
reference_exported (reference.Name n) = lift (path_of n)
reference_exported (reference.Slot slot n) = give given.Reference
reference_exported (reference.Element o i) = give given.Reference
reference_exported (reference.Byte o i) = give given.Reference

-- a field is read as in a call of its own; its bits are handed out as they are, so no object is made of them
abbrev pub field_exported : {S : Type 0} → Accesses S → Field → Run S given.Given
field_exported accesses f = field_given accesses (called_at accesses (meaning accesses) 1) f

-- accesses: what the register space makes of them
module _ {S : Type 0} (accesses : Accesses S) (package_exported : ℕ → Run S given.Given) where
  unfoldable pub value_exported : Value → Run S given.Given
  value_exported value.Uninitialized = give given.Nothing
  value_exported (value.Integer n) = give (given.Integer n)
  value_exported (value.String o) = text_exported o
  value_exported (value.Buffer o) = bytes_exported o
  value_exported (value.Package o) = package_exported o
  value_exported (value.Reference r) = reference_exported r

  unfoldable pub use_exported : NameUse → Run S given.Given
  use_exported (uses.Value v) = value_exported v
  use_exported (uses.Field f) = field_exported accesses f
  use_exported (uses.Path p) = give (given.Named p)

  unfoldable pub name_exported : Name → List Seg → Run S given.Given
  name_exported n scope = do
    u ← lift (name_use n scope)
    use_exported u

  unfoldable pub held_exported : Element → Run S given.Given
  held_exported (element.Value v) = value_exported v
  held_exported (element.Name n scope) = name_exported n scope

  unfoldable pub element_exported : Element → Run S given.Given
  element_exported e = do
    step ← charge
    held_exported e

  unfoldable pub each_exported : List Element → List given.Given → Run S (List given.Given)
  each_exported [] done = give done
  each_exported (e ∷ es) done = do
    g ← element_exported e
    each_exported es (done ++ g ∷ [])

  -- the elements are those that the package has when its turn comes: what the address of a field stores into it meanwhile doesn't show
  unfoldable pub elements_exported : ℕ → Run S given.Given
  elements_exported o = do
    es ← lift (on_objects (elements_at o))
    gs ← each_exported es []
    give (given.Package (given.givens gs))

-- packages nest at most so deep
unfoldable pub package_exported : {S : Type 0} → Accesses S → ℕ → ℕ → Run S given.Given
package_exported accesses zero o = stop (refusal.Evaluation ObjectLimit)
package_exported accesses (suc n) o = elements_exported accesses (package_exported accesses n) o

-- a value as an answer hands it out
unfoldable pub exported : {S : Type 0} → Accesses S → Value → Run S given.Given
exported accesses v = value_exported accesses (package_exported accesses 64) v
