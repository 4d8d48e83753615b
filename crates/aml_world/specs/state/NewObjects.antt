-- Objects that terms form (ACPI 6.5, 19.6: Buffer, Package, VarPackage).
use Rattle.std.specs.Prelude.{ℕ, ◌-◌, List, ◌++◌, length, replicate, Ok, Err, nat_lt, if◌then◌else◌}
use Rattle.ar_space.specs.declared.refusal.Refusal.TheVariants as refusal
use Rattle.ar_space.specs.declared.refusal.EvaluationFault.TheVariants.{ObjectLimit}
use Rattle.ar_space.specs.Change.{Change, ◌>>=◌}
use Rattle.aml_objects.specs.declared.value.Value.{Value}
use Rattle.aml_objects.specs.declared.value.Value.TheVariants as value
use Rattle.aml_objects.specs.declared.object.Element.{Element}
use Rattle.aml_objects.specs.declared.object.Element.TheVariants as element
use Rattle.aml_objects.specs.Objects.{make_buffer, make_package}
use Rattle.aml_world.specs.state.State.{State, on_objects}

-- an object has at most so many bytes, and a package at most so many elements
unfoldable pub within : {S : Type 0} → ℕ → ℕ → Change (State S) (Unit {0})
within most n w = (if nat_lt most n then Err (refusal.Evaluation ObjectLimit) else Ok tt, w)

-- bytes, and zeros up to a length
abbrev pub sized : ℕ → List ℕ → List ℕ
sized n bytes = bytes ++ replicate (n - length bytes) 0

-- a buffer is as long as its size says, or as its bytes where they are more (DefBuffer)
unfoldable pub new_buffer : {S : Type 0} → ℕ → List ℕ → Change (State S) Value
new_buffer n bytes = do
  short ← within 1048576 n
  on_objects (make_buffer (sized n bytes))

-- a package has as many elements as it says; those that are left out are uninitialized (DefPackage)
abbrev pub filled : ℕ → List Element → List Element
filled n elements = elements ++ replicate (n - length elements) (element.Value value.Uninitialized)

unfoldable pub new_package : {S : Type 0} → ℕ → List Element → Change (State S) Value
new_package n elements = on_objects (make_package (filled n elements))
