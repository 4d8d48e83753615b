-- Terms to evaluate, one after another (ACPI 6.5, 5.5 and 19.6). Operands are evaluated from left to right.
use Rattle.std.specs.Prelude.{ℕ, ◌==◌, ◌&&◌, List, Bool, true, false, Ok, Err, if◌then◌else◌}
use Rattle.ar_space.specs.Change.{give, settle, ◌>>=◌}
use Rattle.ar_space.specs.declared.refusal.Refusal.TheVariants as refusal
use Rattle.ar_space.specs.declared.refusal.EvaluationFault.TheVariants.{NoValue}
use Rattle.ar_space.specs.Outcome.{Outcome}
use Rattle.aml_path.specs.declared.segment.Seg.{Seg}
use Rattle.aml_grammar.specs.Tree.{Tree, Trees, no_trees, tree}
use Rattle.aml_grammar.specs.Apart.{operand_of}
use Rattle.aml_objects.specs.declared.value.Value.{Value}
use Rattle.aml_world.specs.declared.state.profile.Profile.{Profile}
use Rattle.aml_world.specs.state.Run.{Run, lift}
use Rattle.aml_world.specs.state.Profiles.{is_wide}
use Rattle.aml_world.specs.state.Readings.{integer_in}
use Rattle.aml_meaning.specs.declared.flow.Flow.{Flow}
use Rattle.aml_meaning.specs.declared.flow.Flow.TheVariants as flow
use Rattle.aml_meaning.specs.Passing.{passing}
use Rattle.aml_meaning.specs.Terms.{inner_of}

-- a term to evaluate: the scope that its names stand in, how many control methods are being called, and its tree
pub record Task : Type 0 where
  pub scope : List Seg
  pub depth : ℕ
  pub term : Tree

abbrev pub task : List Seg → ℕ → Tree → Task
task scope depth t = record { scope = scope; depth = depth; term = t }

-- names that no control method declares stand at module level
abbrev pub module_level : ℕ → Bool
module_level depth = depth == 0

-- at module level the wide profile passes an item over that is refused, and the list goes on: tables declare names twice, and use such as
-- nothing declares
abbrev pub passes_over : ℕ → Profile → Bool
passes_over depth p = module_level depth && is_wide p

-- whether a list goes on after an item
abbrev pub goes_on : Flow → Bool
goes_on (flow.Value v) = true
goes_on flow.Next = true
goes_on flow.Break = false
goes_on flow.Continue = false
goes_on (flow.Return v) = false

-- the value of a term, where one is wanted
abbrev pub value_in : Flow → Outcome Value
value_in (flow.Value v) = Ok v
value_in flow.Next = Err (refusal.Evaluation NoValue)
value_in flow.Break = Err (refusal.Evaluation NoValue)
value_in flow.Continue = Err (refusal.Evaluation NoValue)
value_in (flow.Return v) = Err (refusal.Evaluation NoValue)

-- ev: what a part evaluates to
module _ {S : Type 0} (ev : Task → Run S Flow) where
  -- an operand's value
  unfoldable pub operand_value : List Seg → ℕ → Tree → Run S Value
  operand_value scope depth t = do
    f ← ev (task scope depth t)
    settle (value_in f)

  -- the value of the operand at a position, and of the first two
  unfoldable pub value_at : List Seg → ℕ → Tree → ℕ → Run S Value
  value_at scope depth t i = do
    x ← settle (inner_of (operand_of t i))
    operand_value scope depth x

  unfoldable pub two_values : List Seg → ℕ → Tree → Run S (Value × Value)
  two_values scope depth t = do
    v ← value_at scope depth t 0
    u ← value_at scope depth t 1
    give (v, u)

  -- an integer that an operand gives
  unfoldable pub operand_integer : List Seg → ℕ → Tree → Run S ℕ
  operand_integer scope depth t = do
    v ← operand_value scope depth t
    lift (integer_in v)

  -- an item of a list is done: the list goes on, or it ends
  abbrev pub after_item : Flow → Run S Flow → Run S Flow
  after_item f rest = if goes_on f then rest else give f

  -- an item of a list
  unfoldable pub item : List Seg → ℕ → Tree → Run S Flow
  item scope depth t s = if passes_over depth s.0.profile then passing scope (ev (task scope depth t)) s else ev (task scope depth t) s

  unfoldable pub in_turn : List Seg → ℕ → Trees → Run S Flow
  in_turn scope depth no_trees = give flow.Next
  in_turn scope depth (tree t ts) = do
    f ← item scope depth t
    after_item f (in_turn scope depth ts)
