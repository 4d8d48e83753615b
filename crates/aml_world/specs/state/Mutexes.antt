-- Mutexes (ACPI 6.5, 19.6: Acquire, Release): how often each is acquired is counted; nothing else holds one.
use Rattle.std.specs.Prelude.{ℕ, ◌+◌, ◌-◌, ◌^◌, ◌==◌, List, Option, Some, None, Ok, Err, if◌then◌else◌}
use Rattle.std.specs.FinMap.{get}
use Rattle.ar_space.specs.declared.refusal.Refusal.TheVariants as refusal
use Rattle.ar_space.specs.declared.refusal.EvaluationFault.TheVariants.{NotAcquired, ObjectLimit}
use Rattle.ar_space.specs.declared.refusal.NamespaceFault.TheVariants.{NotFound}
use Rattle.ar_space.specs.declared.refusal.ValueFault.TheVariants.{WrongType}
use Rattle.ar_space.specs.Outcome.{Outcome}
use Rattle.ar_space.specs.Change.{Change, stop, settle, ◌>>=◌}
use Rattle.aml_path.specs.declared.segment.Seg.{Seg}
use Rattle.aml_objects.specs.declared.entry.Entry.{Entry}
use Rattle.aml_objects.specs.declared.entry.NamedObject.{NamedObject}
use Rattle.aml_objects.specs.declared.entry.NamedObject.TheVariants as object
use Rattle.aml_namespace.specs.Namespace.{replaced, mutexes_released}
use Rattle.aml_world.specs.declared.values.store_target.StoreTarget.{StoreTarget}
use Rattle.aml_world.specs.declared.values.store_target.StoreTarget.TheVariants as targets
use Rattle.aml_objects.specs.declared.value.Reference.{Reference}
use Rattle.aml_objects.specs.declared.value.Reference.TheVariants as reference
use Rattle.aml_world.specs.state.State.{State, on_names}
use Rattle.aml_world.specs.values.StoreTargets.{declaration}

-- how often a mutex is acquired
abbrev pub count_of_object : NamedObject → Outcome ℕ
count_of_object (object.Mutex n) = Ok n
count_of_object _ = Err (refusal.Value WrongType)

abbrev pub count_in : Option Entry → Outcome ℕ
count_in None = Err (refusal.Namespace NotFound)
count_in (Some e) = count_of_object e.object

unfoldable pub mutex_count : {S : Type 0} → List Seg → Change (State S) ℕ
mutex_count p w = (count_in (get w.names.map p), w)

abbrev pub once_more : ℕ → Outcome ℕ
once_more n = if n == 2 ^ 64 - 1 then Err (refusal.Evaluation ObjectLimit) else Ok (n + 1)

abbrev pub once_less : ℕ → Outcome ℕ
once_less n = if n == 0 then Err (refusal.Evaluation NotAcquired) else Ok (n - 1)

unfoldable pub acquired : {S : Type 0} → List Seg → Change (State S) (Unit {0})
acquired p = do
  n ← mutex_count p
  m ← settle (once_more n)
  on_names (replaced p (object.Mutex m))

unfoldable pub given_back : {S : Type 0} → List Seg → Change (State S) (Unit {0})
given_back p = do
  n ← mutex_count p
  m ← settle (once_less n)
  on_names (replaced p (object.Mutex m))

-- a mutex is given by its own name, or by a reference to its declaration
unfoldable pub acquired_by_number : {S : Type 0} → ℕ → Change (State S) (Unit {0})
acquired_by_number n = do
  e ← declaration n
  acquired e.0

unfoldable pub given_back_by_number : {S : Type 0} → ℕ → Change (State S) (Unit {0})
given_back_by_number n = do
  e ← declaration n
  given_back e.0

abbrev pub acquired_by : {S : Type 0} → Reference → Change (State S) (Unit {0})
acquired_by (reference.Name n) = acquired_by_number n
acquired_by (reference.Slot slot n) = stop (refusal.Value WrongType)
acquired_by (reference.Element o i) = stop (refusal.Value WrongType)
acquired_by (reference.Byte o i) = stop (refusal.Value WrongType)

abbrev pub given_back_by : {S : Type 0} → Reference → Change (State S) (Unit {0})
given_back_by (reference.Name n) = given_back_by_number n
given_back_by (reference.Slot slot n) = stop (refusal.Value WrongType)
given_back_by (reference.Element o i) = stop (refusal.Value WrongType)
given_back_by (reference.Byte o i) = stop (refusal.Value WrongType)

abbrev pub acquired_at : {S : Type 0} → StoreTarget → Change (State S) (Unit {0})
acquired_at targets.Nowhere = stop (refusal.Value WrongType)
acquired_at (targets.Slot slot) = stop (refusal.Value WrongType)
acquired_at (targets.Name p) = acquired p
acquired_at (targets.Refers r) = acquired_by r

abbrev pub given_back_at : {S : Type 0} → StoreTarget → Change (State S) (Unit {0})
given_back_at targets.Nowhere = stop (refusal.Value WrongType)
given_back_at (targets.Slot slot) = stop (refusal.Value WrongType)
given_back_at (targets.Name p) = given_back p
given_back_at (targets.Refers r) = given_back_by r

-- however an evaluation ended, all mutexes are free after it
abbrev pub released : {S : Type 0} → State S → State S
released w = record w { names = mutexes_released w.names }
