-- What Acquire and Release do to the count of a mutex.
use Rattle.std.specs.Prelude.{◌≡◌, ◌<◌, ℕ, ◌+◌, ◌-◌, ◌^◌, ◌==◌, List, false, Some, Ok, Err, refl}
use Rattle.std.proofs.Common.{arith}
use Rattle.std.proofs.lemmas.Bool.Decides.{nat_tests}
use Rattle.std.specs.FinMap.{get}
use Rattle.ar_space.specs.declared.refusal.Refusal.TheVariants as refusal
use Rattle.ar_space.specs.declared.refusal.EvaluationFault.TheVariants.{NotAcquired, ObjectLimit}
use Rattle.ar_space.specs.declared.refusal.ValueFault.TheVariants.{WrongType}
use Rattle.ar_space.specs.Change.{stop, settle, go_on, ◌>>=◌}
use Rattle.aml_path.specs.declared.segment.Seg.{Seg}
use Rattle.aml_objects.specs.declared.entry.Entry.{Entry}
use Rattle.aml_objects.specs.declared.entry.NamedObject.{NamedObject}
use Rattle.aml_objects.specs.declared.entry.NamedObject.TheVariants as object
use Rattle.aml_objects.specs.declared.value.Reference.{Reference}
use Rattle.aml_objects.specs.declared.value.Reference.TheVariants as reference
use Rattle.aml_objects.specs.declared.value.Slot.{Slot}
use Rattle.aml_namespace.specs.Numbering.{Numbered}
use Rattle.aml_namespace.proofs.Finding.{numbered_found}
use Rattle.aml_namespace.specs.Namespace.{replaced}
use Rattle.aml_world.specs.declared.values.store_target.StoreTarget.TheVariants as targets
use Rattle.aml_world.specs.state.State.{State, on_names}
use Rattle.aml_world.specs.state.Mutexes.{count_of_object, mutex_count, acquired, given_back, acquired_by_number, given_back_by_number, acquired_at, given_back_at}
use Rattle.aml_world.specs.values.StoreTargets.{declaration}
use Rattle.aml_laws.specs.Mutexes.{mutex_entry, with_acquisitions, IsNoMutex}

module _ {S : Type 0} (w : State S) (path : List Seg) (n : ℕ) where
  put_is : (count more : ℕ) → get w.names.map path ≡ Some (mutex_entry n count) → on_names (replaced path (object.Mutex more)) w ≡ (Ok tt, with_acquisitions w path n more)
  unfolding on_names replaced
  put_is count more at = rw at refl

  pub acquire_adds : (count : ℕ) → get w.names.map path ≡ Some (mutex_entry n count) → count < 2 ^ 64 - 1 → acquired path w ≡ (Ok tt, with_acquisitions w path n (count + 1))
  unfolding acquired mutex_count settle go_on ◌>>=◌
  acquire_adds count at less = let apart : (count == 2 ^ 64 - 1) ≡ false = grind (arith, nat_tests) in rw (at, apart) (put_is count (count + 1) at)

  pub full_refused : get w.names.map path ≡ Some (mutex_entry n (2 ^ 64 - 1)) → acquired path w ≡ (Err (refusal.Evaluation ObjectLimit), w)
  unfolding acquired mutex_count settle go_on ◌>>=◌
  full_refused at = rw at refl

  pub release_takes : (count : ℕ) → get w.names.map path ≡ Some (mutex_entry n count) → 0 < count → given_back path w ≡ (Ok tt, with_acquisitions w path n (count - 1))
  unfolding given_back mutex_count settle go_on ◌>>=◌
  release_takes count at some = let apart : (count == 0) ≡ false = grind (arith, nat_tests) in rw (at, apart) (put_is count (count - 1) at)

  pub free_refused : get w.names.map path ≡ Some (mutex_entry n 0) → given_back path w ≡ (Err (refusal.Evaluation NotAcquired), w)
  unfolding given_back mutex_count settle go_on ◌>>=◌
  free_refused at = rw at refl

  pub by_its_name : (acquired_at (targets.Name path) w ≡ acquired path w) × (given_back_at (targets.Name path) w ≡ given_back path w)
  by_its_name = (refl, refl)

pub ruleset acquisitions_are_counted_one_by_one = (acquire_adds, full_refused, release_takes, free_refused, by_its_name)

-- ---- what is no mutex

no_count : (o : NamedObject) → IsNoMutex o → count_of_object o ≡ Err (refusal.Value WrongType)
no_count object.Scope not = refl
no_count object.Device not = refl
no_count object.Processor not = refl
no_count object.PowerResource not = refl
no_count object.ThermalZone not = refl
no_count (object.Method m) not = refl
no_count (object.Data v) not = refl
no_count (object.OperationRegion r) not = refl
no_count (object.FieldUnit u) not = refl
no_count (object.BufferField f) not = refl
no_count (object.Mutex count) not = absurd (not count refl)
no_count (object.Event count) not = refl
no_count (object.Alias p) not = refl

module _ {S : Type 0} (w : State S) where
  pub no_mutex_refused : (path : List Seg) (e : Entry) → get w.names.map path ≡ Some e → IsNoMutex e.object → (acquired_at (targets.Name path) w ≡ (Err (refusal.Value WrongType), w)) × (given_back_at (targets.Name path) w ≡ (Err (refusal.Value WrongType), w))
  unfolding acquired given_back mutex_count go_on ◌>>=◌
  no_mutex_refused path e at not = (rw (at, no_count e.object not) refl, rw (at, no_count e.object not) refl)

  pub no_name_refused : (s : Slot) → (acquired_at (targets.Slot s) w ≡ (Err (refusal.Value WrongType), w)) × (given_back_at (targets.Slot s) w ≡ (Err (refusal.Value WrongType), w)) × (acquired_at targets.Nowhere w ≡ (Err (refusal.Value WrongType), w))
      × (given_back_at targets.Nowhere w ≡ (Err (refusal.Value WrongType), w))
  unfolding stop
  no_name_refused s = (refl, refl, refl, refl)

  pub by_reference : (path : List Seg) (e : Entry) → Numbered w.names → get w.names.map path ≡ Some e → (acquired_at (targets.Refers (reference.Name e.number)) w ≡ acquired_at (targets.Name path) w)
      × (given_back_at (targets.Refers (reference.Name e.number)) w ≡ given_back_at (targets.Name path) w)
  unfolding acquired_by_number given_back_by_number declaration go_on ◌>>=◌
  by_reference path e standing at = let here = numbered_found w.names standing path e at in (rw here refl, rw here refl)

  pub by_no_reference : (r : Reference) → ((number : ℕ) → r ≡ reference.Name number → ⊥) → (acquired_at (targets.Refers r) w ≡ (Err (refusal.Value WrongType), w)) × (given_back_at (targets.Refers r) w ≡ (Err (refusal.Value WrongType), w))
  unfolding stop
  by_no_reference (reference.Name n) not = absurd (not n refl)
  by_no_reference (reference.Slot s n) not = (refl, refl)
  by_no_reference (reference.Element o i) not = (refl, refl)
  by_no_reference (reference.Byte o i) not = (refl, refl)
