-- What Signal, Reset and Wait do to the count of an event, which outlives an answer.
use Rattle.std.specs.Prelude.{◌≡◌, ◌<◌, ℕ, ◌+◌, ◌-◌, ◌^◌, ◌%◌, ◌==◌, List, length, false, Some, Ok, Err, refl}
use Rattle.std.specs.Option.{option_map}
use Rattle.std.proofs.Common.{arith, ap, ◌∙◌}
use Rattle.std.proofs.lemmas.Bool.Decides.{nat_tests}
use Rattle.std.specs.FinMap.{get}
use Rattle.ar_space.specs.declared.integer_width.IntegerWidth.{IntegerWidth}
use Rattle.ar_space.specs.declared.integer_width.IntegerWidth.TheVariants.{Bits32, Bits64}
use Rattle.ar_space.specs.declared.refusal.Refusal.TheVariants as refusal
use Rattle.ar_space.specs.declared.refusal.EvaluationFault.TheVariants.{ObjectLimit}
use Rattle.ar_space.specs.Accesses.{Accesses}
use Rattle.ar_space.specs.Change.{Change, settle, give, go_on, ◌>>=◌}
use Rattle.aml_path.specs.declared.segment.Seg.{Seg}
use Rattle.aml_objects.specs.declared.value.Value.{Value}
use Rattle.aml_objects.specs.declared.value.Value.TheVariants as value
use Rattle.aml_namespace.specs.Namespace.{entry_released}
use Rattle.aml_namespace.specs.Numbering.{Numbered}
use Rattle.aml_namespace.proofs.Changes.{released_at}
use Rattle.aml_convert.specs.Integers.{bits_of, ones}
use Rattle.aml_world.specs.declared.values.operation_kind.EventChange.TheVariants as changes
use Rattle.aml_world.specs.state.Given.{Given}
use Rattle.aml_world.specs.state.State.{State}
use Rattle.aml_world.specs.state.Readings.{integer_kept, integer_in}
use Rattle.aml_world.specs.state.Events.{event_changed, waited}
use Rattle.aml_meaning.specs.Calling.{ending, with_steps, table_run, loaded, answer_exported, answered}
use Rattle.aml_laws.specs.Events.{event_entry, with_signals}
use Rattle.aml_laws.proofs.SignalsTaken.{put_is, under_is, signaled, refused, taken}

all_ones : (width : IntegerWidth) → 18446744073709551615 % 2 ^ bits_of width ≡ ones width
all_ones Bits32 = refl
all_ones Bits64 = refl

module _ {S : Type 0} (w : State S) (path : List Seg) (n : ℕ) (standing : Numbered w.names) where
  pub signal_adds : (count : ℕ) → get w.names.map path ≡ Some (event_entry n count) → count < 2 ^ 64 - 1 → event_changed changes.Signal (Some n) w ≡ (Ok tt, with_signals w path n (count + 1))
  signal_adds count at less = let apart : (count == 2 ^ 64 - 1) ≡ false = grind (arith, nat_tests) in signaled w path n count standing at apart

  pub full_refused : get w.names.map path ≡ Some (event_entry n (2 ^ 64 - 1)) → event_changed changes.Signal (Some n) w ≡ (Err (refusal.Evaluation ObjectLimit), w)
  full_refused at = refused w path n (2 ^ 64 - 1) standing at refl

  pub reset_leaves_none : (count : ℕ) → get w.names.map path ≡ Some (event_entry n count) → event_changed changes.Reset (Some n) w ≡ (Ok tt, with_signals w path n 0)
  unfolding event_changed settle ◌>>=◌ go_on
  reset_leaves_none count at = rw (under_is w path n count standing at, put_is w path n count standing at 0) refl

  pub wait_takes : (count : ℕ) (timeout : Value) (time : ℕ) → get w.names.map path ≡ Some (event_entry n count) → 0 < count → integer_in timeout w ≡ (Ok time, w) → waited (Some n) timeout w ≡ (Ok (value.Integer 0), with_signals w path n (count - 1))
  wait_takes count timeout time at some reads = let apart : (count == 0) ≡ false = grind (arith, nat_tests) in taken w path n count standing at timeout time reads apart

  pub wait_finds_none : (timeout : Value) (time : ℕ) → get w.names.map path ≡ Some (event_entry n 0) → integer_in timeout w ≡ (Ok time, w) → waited (Some n) timeout w ≡ (Ok (value.Integer (ones w.width)), w)
  unfolding waited integer_kept settle give ◌>>=◌ go_on
  wait_finds_none timeout time at reads = rw (under_is w path n 0 standing at, reads) (ap (λ k. (Ok (value.Integer k), w)) (all_ones w.width))

-- ---- what is counted outlives an answer

module _ {S : Type 0} (path : List Seg) (n count : ℕ) where
  ending_keeps_signals : {A : Type 0} (m : Change (State S) A) (w : State S) → get (m w).1.names.map path ≡ Some (event_entry n count) → get (ending m w).1.names.map path ≡ Some (event_entry n count)
  unfolding ending
  ending_keeps_signals m w at = released_at (m w).1.names path ∙ ap (option_map entry_released) at

  pub table_keeps_signals : (accesses : Accesses S) (bytes : List ℕ) (steps : ℕ) (w : State S) → get (table_run accesses steps bytes w).1.names.map path ≡ Some (event_entry n count) → get (loaded accesses bytes steps w).1.names.map path ≡ Some (event_entry n count)
  unfolding loaded
  table_keeps_signals accesses bytes steps w at = ending_keeps_signals _ w at

  pub answer_keeps_signals : (accesses : Accesses S) (p : List Seg) (arguments : List Given) (steps : ℕ) (w : State S) → get (with_steps steps (answer_exported accesses p (length arguments) arguments) w).1.names.map path ≡ Some (event_entry n count)
      → get (answered accesses p arguments steps w).1.names.map path ≡ Some (event_entry n count)
  unfolding answered
  answer_keeps_signals accesses p arguments steps w at = ending_keeps_signals _ w at

pub ruleset signals_are_counted_one_by_one = (signal_adds, full_refused, reset_leaves_none, wait_takes, wait_finds_none)

pub ruleset signals_outlive_an_answer = (table_keeps_signals, answer_keeps_signals)
