-- Loading a table, and what an object answers (ACPI 6.5, 5.4 and 5.5).
use Rattle.std.specs.Prelude.{ℕ, List, [], length, replicate, Ok, Err}
use Rattle.ar_space.specs.Accesses.{Accesses}
use Rattle.ar_space.specs.Outcome.{Outcome, seen}
use Rattle.ar_space.specs.Change.{Change, give, ◌>>=◌}
use Rattle.aml_path.specs.declared.segment.Seg.{Seg}
use Rattle.aml_arities.specs.declared.arities.Arity.{Arity}
use Rattle.aml_grammar.specs.Tree.{Tree, Trees}
use Rattle.aml_grammar.specs.Shape.{trees_of}
use Rattle.aml_grammar.specs.Grammar.{table_reading_within}
use Rattle.aml_objects.specs.declared.value.Value.{Value}
use Rattle.aml_objects.specs.declared.value.Value.TheVariants as value
use Rattle.aml_world.specs.declared.state.invocation.Invocation.{Invocation}
use Rattle.aml_world.specs.declared.state.invocation.Invocation.TheVariants as invocation
use Rattle.aml_world.specs.state.Given.{Given}
use Rattle.aml_world.specs.state.State.{State}
use Rattle.aml_world.specs.state.Run.{Run, lift}
use Rattle.aml_world.specs.state.Slots.{opened, closed}
use Rattle.aml_world.specs.state.Readings.{absolute}
use Rattle.aml_world.specs.state.Invocations.{invocation_found}
use Rattle.aml_world.specs.state.Osi.{osi_answered}
use Rattle.aml_world.specs.state.Importing.{all_imported}
use Rattle.aml_world.specs.state.Mutexes.{released}
use Rattle.aml_meaning.specs.Tasks.{in_turn}
use Rattle.aml_meaning.specs.Calls.{method_value}
use Rattle.aml_meaning.specs.FieldCalls.{field_read}
use Rattle.aml_meaning.specs.Meaning.{meaning}
use Rattle.aml_meaning.specs.Exporting.{exported, field_exported}

unfoldable pub ending : {S A : Type 0} → Change (State S) A → Change (State S) A
ending m w = ((m w).0, released (m w).1)

-- with so many steps
unfoldable pub with_steps : {S A : Type 0} → ℕ → Run S A → Change (State S) A
with_steps steps m w = ((m (w, steps)).0, (m (w, steps)).1.0)

-- in a frame of its own, which is closed however the evaluation ended
unfoldable pub framed : {S A : Type 0} → Change (State S) A → Change (State S) A
framed m w = ((m w).0, closed (m w).1)

unfoldable pub in_frame : {S A : Type 0} → List Value → Change (State S) A → Change (State S) A
in_frame arguments m = do
  number ← opened arguments
  framed m

-- the terms of a table, within the levels that are allowed; names that it declares take arguments from now on
abbrev pub terms_kept : {S : Type 0} → Outcome (List Tree × List Arity) → Change (State S) Trees
terms_kept (Ok (ts, after)) w = (Ok (trees_of ts), record w { arities = after })
terms_kept (Err e) w = (Err e, w)

unfoldable pub table_terms : {S : Type 0} → List ℕ → Change (State S) Trees
table_terms bytes w = terms_kept (table_reading_within w.nesting.levels bytes w.arities) w

-- the terms of a table, evaluated at the root
unfoldable pub at_root : {S : Type 0} → Accesses S → Trees → Run S (Unit {0})
at_root accesses ts = do
  last ← in_turn (meaning accesses) [] 0 ts
  give tt

unfoldable pub table_run : {S : Type 0} → Accesses S → ℕ → List ℕ → Change (State S) (Unit {0})
table_run accesses steps bytes = do
  ts ← table_terms bytes
  in_frame (replicate 7 value.Uninitialized) (with_steps steps (at_root accesses ts))

-- a table, loaded
unfoldable pub loaded : {S : Type 0} → Accesses S → List ℕ → ℕ → Change (State S) (Unit {0})
loaded accesses bytes steps = ending (table_run accesses steps bytes)

-- a name that is no control method is read; this counts as one call
abbrev pub value_of : {S : Type 0} → Accesses S → Invocation → List Value → Run S Value
value_of accesses (invocation.Value v) arguments = give v
value_of accesses (invocation.Field f) arguments = field_read accesses (meaning accesses) 1 f
value_of accesses (invocation.Method p body) arguments = method_value (meaning accesses) 0 p body arguments
value_of accesses invocation.Osi arguments = lift (osi_answered arguments)

-- the value of the object at a path, with these arguments
unfoldable pub called : {S : Type 0} → Accesses S → List Seg → List Value → Run S Value
called accesses p arguments = do
  i ← lift (invocation_found [] (absolute p) (length arguments))
  value_of accesses i arguments

-- a value, and the steps that are left
abbrev pub with_rest : Outcome Value → ℕ → Outcome (Value × ℕ)
with_rest r rest = seen (λ v. (v, rest)) r

unfoldable pub counted : {S : Type 0} → ℕ → Run S Value → Change (State S) (Value × ℕ)
counted steps m w = (with_rest (m (w, steps)).0 (m (w, steps)).1.1, (m (w, steps)).1.0)

unfoldable pub evaluated : {S : Type 0} → Accesses S → List Seg → List Value → ℕ → Change (State S) (Value × ℕ)
evaluated accesses p arguments steps = counted steps (called accesses p arguments)

-- what the object at a path gives, handed out
abbrev pub invocation_exported : {S : Type 0} → Accesses S → Invocation → List Value → Run S Given
invocation_exported accesses (invocation.Field f) arguments = field_exported accesses f
invocation_exported accesses i arguments = do
  v ← value_of accesses i arguments
  exported accesses v

-- the value that is handed out, in the same steps; arguments are imported once they are as many as are wanted
unfoldable pub answer_exported : {S : Type 0} → Accesses S → List Seg → ℕ → List Given → Run S Given
answer_exported accesses p count arguments = do
  i ← lift (invocation_found [] (absolute p) count)
  vs ← lift (all_imported arguments [])
  invocation_exported accesses i vs

unfoldable pub answered : {S : Type 0} → Accesses S → List Seg → List Given → ℕ → Change (State S) Given
answered accesses p arguments steps = ending (with_steps steps (answer_exported accesses p (length arguments) arguments))
