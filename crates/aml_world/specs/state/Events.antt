-- Events (ACPI 6.5, 19.6: Signal, Reset, Wait): the signals that no Wait has taken are counted; nobody else signals.
use Rattle.std.specs.Prelude.{ℕ, ◌-◌, ◌==◌, List, Option, Some, None, Ok, Err, if◌then◌else◌}
use Rattle.ar_space.specs.declared.refusal.Refusal.TheVariants as refusal
use Rattle.ar_space.specs.declared.refusal.ValueFault.TheVariants.{WrongType}
use Rattle.ar_space.specs.Outcome.{Outcome}
use Rattle.ar_space.specs.Change.{Change, give, settle, ◌>>=◌}
use Rattle.aml_path.specs.declared.segment.Seg.{Seg}
use Rattle.aml_objects.specs.declared.entry.NamedObject.{NamedObject}
use Rattle.aml_objects.specs.declared.entry.NamedObject.TheVariants as object
use Rattle.aml_objects.specs.declared.value.Reference.{Reference}
use Rattle.aml_objects.specs.declared.value.Reference.TheVariants as reference
use Rattle.aml_objects.specs.declared.value.Slot.{Slot}
use Rattle.aml_objects.specs.declared.value.Slot.TheVariants.{Local, Argument}
use Rattle.aml_objects.specs.declared.value.Value.{Value}
use Rattle.aml_objects.specs.declared.value.Value.TheVariants as value
use Rattle.aml_namespace.specs.Namespace.{replaced}
use Rattle.aml_world.specs.declared.values.store_target.StoreTarget.{StoreTarget}
use Rattle.aml_world.specs.declared.values.store_target.StoreTarget.TheVariants as targets
use Rattle.aml_world.specs.declared.values.operation_kind.EventChange.{EventChange}
use Rattle.aml_world.specs.declared.values.operation_kind.EventChange.TheVariants as changes
use Rattle.aml_world.specs.state.State.{State, on_names}
use Rattle.aml_world.specs.state.Readings.{integer_kept, integer_in}
use Rattle.aml_world.specs.values.StoreTargets.{own_slot, declaration, entry_declared, declared_number, name_tested}
use Rattle.aml_world.specs.state.Mutexes.{once_more}

-- ---- the name that an operand names, by the number of its declaration: none where it names something else

-- the name that a reference refers to has to stand
unfoldable pub name_referred : {S : Type 0} → ℕ → Change (State S) (Option ℕ)
name_referred n = do
  there ← name_tested n
  give (Some n)

abbrev pub named_by_reference : {S : Type 0} → Reference → Change (State S) (Option ℕ)
named_by_reference (reference.Name n) = name_referred n
named_by_reference (reference.Slot slot n) = give None
named_by_reference (reference.Element o i) = give None
named_by_reference (reference.Byte o i) = give None

abbrev pub named_by_value : {S : Type 0} → Value → Change (State S) (Option ℕ)
named_by_value (value.Reference r) = named_by_reference r
named_by_value value.Uninitialized = give None
named_by_value (value.Integer n) = give None
named_by_value (value.String o) = give None
named_by_value (value.Buffer o) = give None
named_by_value (value.Package o) = give None

-- an argument names what it refers to, one step on; a local names nothing
unfoldable pub named_by_argument : {S : Type 0} → ℕ → Change (State S) (Option ℕ)
named_by_argument i = do
  v ← own_slot (Argument i)
  named_by_value v

abbrev pub named_by_slot : {S : Type 0} → Slot → Change (State S) (Option ℕ)
named_by_slot (Local i) = give None
named_by_slot (Argument i) = named_by_argument i

unfoldable pub name_at : {S : Type 0} → List Seg → Change (State S) (Option ℕ)
name_at p = do
  n ← declared_number p
  give (Some n)

abbrev pub event_named : {S : Type 0} → StoreTarget → Change (State S) (Option ℕ)
event_named targets.Nowhere = give None
event_named (targets.Slot slot) = named_by_slot slot
event_named (targets.Name p) = name_at p
event_named (targets.Refers r) = named_by_reference r

-- ---- the signals of an event

abbrev pub named_or_not : Option ℕ → Outcome ℕ
named_or_not None = Err (refusal.Value WrongType)
named_or_not (Some n) = Ok n

abbrev pub signals_of : NamedObject → Outcome ℕ
signals_of (object.Event n) = Ok n
signals_of _ = Err (refusal.Value WrongType)

-- those of the event under a number
unfoldable pub signals_under : {S : Type 0} → ℕ → Change (State S) ℕ
signals_under n = do
  e ← entry_declared n
  settle (signals_of e.object)

unfoldable pub put_signals : {S : Type 0} → ℕ → ℕ → Change (State S) (Unit {0})
put_signals n count = do
  e ← declaration n
  on_names (replaced e.0 (object.Event count))

-- ---- Signal and Reset

abbrev pub signals_after : EventChange → ℕ → Outcome ℕ
signals_after changes.Signal count = once_more count
signals_after changes.Reset count = Ok 0

unfoldable pub event_changed : {S : Type 0} → EventChange → Option ℕ → Change (State S) (Unit {0})
event_changed k event = do
  n ← settle (named_or_not event)
  count ← signals_under n
  after ← settle (signals_after k count)
  put_signals n after

-- ---- Wait: it takes a signal and gives False; where there is none it gives True at once, since none would come

unfoldable pub signal_taken : {S : Type 0} → ℕ → ℕ → Change (State S) Value
signal_taken n fewer = do
  done ← put_signals n fewer
  give (value.Integer 0)

abbrev pub taken_or_not : {S : Type 0} → ℕ → ℕ → Change (State S) Value
taken_or_not n count = if count == 0 then integer_kept 18446744073709551615 else signal_taken n (count - 1)

unfoldable pub waited : {S : Type 0} → Option ℕ → Value → Change (State S) Value
waited event timeout = do
  n ← settle (named_or_not event)
  count ← signals_under n
  time ← integer_in timeout
  taken_or_not n count
