-- Names of one segment without a prefix that stand next, and what becomes of the nodes that they find.
use Rattle.std.specs.Prelude.{◌≡◌, ℕ, List, Some, Ok, true}
use Rattle.ar_space.specs.Accesses.{Accesses}
use Rattle.ar_space.specs.Outcome.{Outcome}
use Rattle.ar_space.specs.Change.{Does, ◌>>=◌}
use Rattle.aml_path.specs.declared.segment.Seg.{Seg}
use Rattle.aml_grammar.specs.Names.{starts_name}
use Rattle.aml_grammar.specs.Tree.{no_trees}
use Rattle.aml_marks.specs.Marked.{Place, first, name_length, a_name}
use Rattle.aml_objects.specs.declared.entry.Entry.{Entry}
use Rattle.aml_objects.specs.declared.value.Value.{Value}
use Rattle.aml_namespace.specs.Namespace.{numbered}
use Rattle.aml_namespace.specs.OneSegment.{segment_name}
use Rattle.aml_namespace.specs.Search.{found}
use Rattle.aml_world.specs.declared.values.store_target.StoreTarget.TheVariants as targets
use Rattle.aml_world.specs.state.State.{State}
use Rattle.aml_world.specs.state.Run.{Run, lift}
use Rattle.aml_world.specs.state.Invocations.{use_found}
use Rattle.aml_meaning.specs.declared.flow.Flow.{Flow}
use Rattle.aml_meaning.specs.Tasks.{Task}
use Rattle.aml_meaning.specs.InvocationTerms.{invocation_rule}
use Rattle.aml_meaning.specs.FieldCalls.{stored_to}

-- a name of this segment alone stands there, without a prefix
pub record IsSegmentAt (p : Place) (s : Seg) : Type 0 where
  pub name : (a_name p).0 ≡ segment_name s
  pub ends : name_length p.rest ≡ 4
  pub starts : starts_name (first p.rest) ≡ true

-- such a name stands there, and finds the node with this number from a scope
pub record FindsAt {S : Type 0} (w : State S) (scope : List Seg) (p : Place) (number : ℕ) : Type 0 where
  pub segment : Seg
  pub stands : IsSegmentAt p segment
  pub node : List Seg × Entry
  pub is : numbered number w.names.map ≡ Some node
  pub finds : found w.names.map scope (segment_name segment) ≡ Ok node

-- what a name that finds a node is where a value stands, without arguments
unfoldable pub node_value : {S : Type 0} → Accesses S → (Task → Run S Flow) → List Seg → ℕ → List Seg × Entry → Run S Flow
node_value accesses ev scope depth f = do
  i ← lift (use_found f 0)
  invocation_rule accesses ev scope depth no_trees i

-- the node with a number is evaluated
pub record Reads {S : Type 0} (accesses : Accesses S) (number : ℕ) (r : Outcome Flow) (after before : State S) : Type 0 where
  pub is : (ev : Task → Run S Flow) → (scope : List Seg) → (depth : ℕ) → (f : List Seg × Entry) → (steps : ℕ) → numbered number before.names.map ≡ Some f → Does r (after, steps) (node_value accesses ev scope depth f) (before, steps)

-- a value is stored to the node with a number
pub record Puts {S : Type 0} (accesses : Accesses S) (number : ℕ) (v : Value) (r : Outcome (Unit {0})) (after before : State S) : Type 0 where
  pub is : (ev : Task → Run S Flow) → (depth : ℕ) → (f : List Seg × Entry) → (steps : ℕ) → numbered number before.names.map ≡ Some f → Does r (after, steps) (stored_to accesses ev depth (targets.Name f.0) v) (before, steps)
