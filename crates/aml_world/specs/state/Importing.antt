-- Arguments that callers hand in (ACPI 6.5, 5.5.2.3).
use Rattle.std.specs.Prelude.{ℕ, zero, suc, List, [], ◌∷◌, ◌++◌, length, take, Ok, Err}
use Rattle.ar_space.specs.declared.refusal.Refusal.TheVariants as refusal
use Rattle.ar_space.specs.declared.refusal.EvaluationFault.TheVariants.{ObjectLimit}
use Rattle.ar_space.specs.declared.refusal.ValueFault.TheVariants.{WrongType}
use Rattle.ar_space.specs.Outcome.{Outcome}
use Rattle.ar_space.specs.Change.{Change, give, stop, ◌>>=◌}
use Rattle.aml_path.specs.declared.segment.Seg.{Seg}
use Rattle.aml_objects.specs.declared.value.Value.{Value}
use Rattle.aml_objects.specs.declared.value.Value.TheVariants as value
use Rattle.aml_objects.specs.declared.value.Reference.TheVariants as reference
use Rattle.aml_objects.specs.declared.object.Element.{Element}
use Rattle.aml_objects.specs.declared.object.Element.TheVariants as element
use Rattle.aml_objects.specs.Objects.{make_string, make_buffer, make_package}
use Rattle.aml_world.specs.state.State.{State, on_objects}
use Rattle.aml_world.specs.state.Readings.{absolute, integer_kept, entry_found}
use Rattle.aml_world.specs.state.Given.{Given, Nothing, Integer, Text, Bytes, Package, Named, Reference, Givens, none, more}

-- a reference to the name at a path
unfoldable pub reference_to : {S : Type 0} → List Seg → Change (State S) Value
reference_to p = do
  e ← entry_found [] (absolute p)
  give (value.Reference (reference.Name e.number))

-- pack: how a package is imported
module _ {S : Type 0} (pack : Givens → Change (State S) Value) where
  abbrev pub imported_by : Given → Change (State S) Value
  imported_by Nothing = give value.Uninitialized
  imported_by (Integer n) = integer_kept n
  imported_by (Text bytes) = on_objects (make_string bytes)
  imported_by (Bytes bytes) = on_objects (make_buffer bytes)
  imported_by (Package gs) = pack gs
  imported_by (Named p) = reference_to p
  imported_by Reference = stop (refusal.Value WrongType)

  -- the elements of a package, behind those that are done
  unfoldable pub each_imported : Givens → List Element → Change (State S) (List Element)
  each_imported none done = give done
  each_imported (more g gs) done = do
    v ← imported_by g
    each_imported gs (done ++ element.Value v ∷ [])

  unfoldable pub elements_imported : Givens → Change (State S) Value
  elements_imported gs = do
    elements ← each_imported gs []
    on_objects (make_package elements)

-- packages nest at most so deep
unfoldable pub package_imported : {S : Type 0} → ℕ → Givens → Change (State S) Value
package_imported zero gs = stop (refusal.Evaluation ObjectLimit)
package_imported (suc n) gs = elements_imported (package_imported n) gs

-- a refused argument makes no object: those that it made are taken back
abbrev pub taken_back : {S : Type 0} → ℕ → Outcome Value × State S → Outcome Value × State S
taken_back count (Ok v, w) = (Ok v, w)
taken_back count (Err e, w) = (Err e, record w { objects = take count w.objects })

unfoldable pub imported : {S : Type 0} → Given → Change (State S) Value
imported g w = taken_back (length w.objects) (imported_by (package_imported 64) g w)

-- arguments one after another, behind those that are done
unfoldable pub all_imported : {S : Type 0} → List Given → List Value → Change (State S) (List Value)
all_imported [] done = give done
all_imported (g ∷ gs) done = do
  v ← imported g
  all_imported gs (done ++ v ∷ [])
