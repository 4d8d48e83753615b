-- Operands, lists of terms, calls of control methods and fields go the same way over two register spaces, where the parts of a term do.
use Rattle.std.specs.Prelude.{ℕ, zero, suc, ◌+◌, List, Bool, true, false, if◌then◌else◌}
use Rattle.ar_space.specs.Accesses.{Accesses}
use Rattle.ar_space.specs.Change.{give}
use Rattle.aml_path.specs.declared.segment.Seg.{Seg}
use Rattle.aml_grammar.specs.Tree.{Tree, Trees, no_trees, tree}
use Rattle.aml_objects.specs.declared.value.Value.{Value}
use Rattle.aml_world.specs.declared.state.invocation.Invocation.{Invocation}
use Rattle.aml_world.specs.declared.state.invocation.Invocation.TheVariants as invocations
use Rattle.aml_world.specs.declared.values.store_target.StoreTarget.{StoreTarget}
use Rattle.aml_world.specs.declared.values.store_target.Held.{Held}
use Rattle.aml_world.specs.declared.values.object_type.Referent.{Referent}
use Rattle.aml_world.specs.declared.values.object_type.Referent.TheVariants as referent
use Rattle.aml_world.specs.declared.values.store_target.Held.TheVariants as held
use Rattle.aml_world.specs.declared.values.store_target.Stored.{Stored}
use Rattle.aml_world.specs.declared.values.store_target.Stored.TheVariants as store
use Rattle.aml_world.specs.state.Run.{Run}
use Rattle.aml_objects.specs.declared.entry.Field.{Field}
use Rattle.aml_world.specs.values.StoreTargets.{is_element}
use Rattle.aml_meaning.specs.declared.flow.Flow.{Flow}
use Rattle.aml_meaning.specs.Tasks.{Task, operand_value, value_at, two_values, operand_integer, goes_on, item, in_turn}
use Rattle.aml_meaning.specs.Calls.{invoked, method_value}
use Rattle.aml_meaning.specs.FieldCalls.{called_at, asked, method_integer, answer_over, answer_within, field_read, held_value, held_integer, referent_read, completed, stored_to, back_to, stored_back}
use Rattle.aml_laws.proofs.Together.{Sides, Together, give_together, settle_together, stop_together, then_together}
use Rattle.aml_laws.proofs.Levels.{level, from_body}
use Rattle.aml_laws.proofs.WorldsTogether.{leaving_together, lift_together, opened_together, runs}
use Rattle.aml_laws.proofs.ChangesTogether.{integer_in_together, invocation_found_together}
use Rattle.aml_laws.proofs.NestingTogether.{body_terms_together, call_allowed_together}
use Rattle.aml_laws.proofs.StoreTargetsTogether.{stored_together}
use Rattle.aml_laws.proofs.FieldsTogether.{field_integer_together, field_part_together, field_referent_together, field_stored_together, field_value_together}

-- the parts of a term, and the items of lists, go the same way at their levels
pub record PartsTogether {S T : Type 0} {accesses : Accesses S} {accesses2 : Accesses T} (side : Sides accesses accesses2) (ev : Task → Run S Flow) (ev2 : Task → Run T Flow) : Type 0 where
  pub part : (t : Task) → Together (level side t.depth) runs (ev t) (ev2 t)
  pub item_of : (scope : List Seg) (depth : ℕ) (t : Tree) → Together (level side depth) runs (item ev scope depth t) (item ev2 scope depth t)

module _ {S T : Type 0} {accesses : Accesses S} {accesses2 : Accesses T} {side : Sides accesses accesses2} {ev : Task → Run S Flow} {ev2 : Task → Run T Flow} (parts : PartsTogether side ev ev2) where
  pub operand_value_together : (scope : List Seg) (depth : ℕ) (t : Tree) → Together (level side depth) runs (operand_value ev scope depth t) (operand_value ev2 scope depth t)
  unfolding operand_value
  operand_value_together scope depth t = then_together (parts.part _) (λ f. settle_together _)

  pub operand_integer_together : (scope : List Seg) (depth : ℕ) (t : Tree) → Together (level side depth) runs (operand_integer ev scope depth t) (operand_integer ev2 scope depth t)
  unfolding operand_integer
  operand_integer_together scope depth t = then_together (operand_value_together scope depth t) (λ v. lift_together (integer_in_together v))

  pub value_at_together : (scope : List Seg) (depth : ℕ) (t : Tree) (i : ℕ) → Together (level side depth) runs (value_at ev scope depth t i) (value_at ev2 scope depth t i)
  unfolding value_at
  value_at_together scope depth t i = then_together (settle_together _) (λ x. operand_value_together scope depth x)

  pub two_values_together : (scope : List Seg) (depth : ℕ) (t : Tree) → Together (level side depth) runs (two_values ev scope depth t) (two_values ev2 scope depth t)
  unfolding two_values
  two_values_together scope depth t = then_together (value_at_together scope depth t 0) (λ v. then_together (value_at_together scope depth t 1) (λ u. give_together _))

  pub after_item_together : (depth : ℕ) (go : Bool) (f : Flow) {m : Run S Flow} {m2 : Run T Flow} → Together (level side depth) runs m m2 → Together (level side depth) runs (if go then m else give f) (if go then m2 else give f)
  after_item_together depth true f h = h
  after_item_together depth false f h = give_together _

  pub in_turn_together : (scope : List Seg) (depth : ℕ) (ts : Trees) → Together (level side depth) runs (in_turn ev scope depth ts) (in_turn ev2 scope depth ts)
  unfolding in_turn
  in_turn_together scope depth no_trees = give_together _
  in_turn_together scope depth (tree t ts) = then_together (parts.item_of scope depth t) (λ f. after_item_together depth (goes_on f) f (in_turn_together scope depth ts))

  -- a call of a control method
  pub invoked_together : (d depth : ℕ) (q : List Seg) (body : List ℕ) (arguments : List Value) → Together (level side d) runs (invoked ev depth q body arguments) (invoked ev2 depth q body arguments)
  unfolding invoked
  invoked_together d depth q body arguments =
      then_together (lift_together (call_allowed_together depth)) (λ few. then_together (lift_together (body_terms_together q body)) (λ ts. then_together (lift_together (opened_together _)) (λ number. leaving_together q (from_body side depth d (in_turn_together q (depth + 1) ts)))))

  pub method_value_together : (d depth : ℕ) (q : List Seg) (body : List ℕ) (arguments : List Value) → Together (level side d) runs (method_value ev depth q body arguments) (method_value ev2 depth q body arguments)
  unfolding method_value
  method_value_together d depth q body arguments = then_together (invoked_together d depth q body arguments) (λ f. give_together _)

  -- ---- field units

  asked_together : (d : ℕ) {answer : Invocation → Run S ℕ} {answer2 : Invocation → Run T ℕ} → ((i : Invocation) → Together (level side d) runs (answer i) (answer2 i)) → (q : List Seg) → Together (level side d) runs (asked answer q) (asked answer2 q)
  unfolding asked
  asked_together d each q = then_together (lift_together (invocation_found_together _ _ _)) each

  answer_over_together : (d k : ℕ) {call : List Seg → Run S ℕ} {call2 : List Seg → Run T ℕ} → ((q : List Seg) → Together (level side d) runs (call q) (call2 q)) → (i : Invocation) → Together (level side d) runs (answer_over accesses ev k call i) (answer_over accesses2 ev2 k call2 i)
  unfolding method_integer
  answer_over_together d k each (invocations.Value v) = settle_together _
  answer_over_together d k each (invocations.Field f) = field_part_together each f
  answer_over_together d k each (invocations.Method q body) = then_together (method_value_together d _ q body _) (λ v. settle_together _)
  answer_over_together d k each invocations.Osi = stop_together _

  answer_within_together : (d k : ℕ) (i : Invocation) → Together (level side d) runs (answer_within accesses ev k i) (answer_within accesses2 ev2 k i)
  unfolding answer_within
  answer_within_together d zero i = stop_together _
  answer_within_together d (suc k) i = then_together (lift_together (call_allowed_together _)) (λ few. answer_over_together d k (asked_together d (answer_within_together d k)) i)

  pub called_at_together : (depth : ℕ) (q : List Seg) → Together (level side depth) runs (called_at accesses ev depth q) (called_at accesses2 ev2 depth q)
  called_at_together depth q = asked_together depth (answer_within_together depth _) q

  pub field_read_together : (depth : ℕ) (u : Field) → Together (level side depth) runs (field_read accesses ev depth u) (field_read accesses2 ev2 depth u)
  field_read_together depth u = field_value_together (called_at_together depth) u

  pub held_integer_together : (depth : ℕ) (h : Held) → Together (level side depth) runs (held_integer accesses ev depth h) (held_integer accesses2 ev2 depth h)
  held_integer_together depth (held.Value v) = lift_together (integer_in_together v)
  held_integer_together depth (held.Field u) = field_integer_together (called_at_together depth) u

  pub referent_read_together : (depth : ℕ) (r : Referent) → Together (level side depth) runs (referent_read accesses ev depth r) (referent_read accesses2 ev2 depth r)
  referent_read_together depth (referent.Value v) = give_together _
  referent_read_together depth (referent.Object t) = give_together _
  referent_read_together depth (referent.Field u) = field_referent_together (called_at_together depth) u
  referent_read_together depth (referent.Bytes n) = give_together _

  pub completed_together : (depth : ℕ) (s : Stored) (v : Value) → Together (level side depth) runs (completed accesses ev depth s v) (completed accesses2 ev2 depth s v)
  completed_together depth store.Done v = give_together _
  completed_together depth (store.Field u) v = field_stored_together (called_at_together depth) u v

  pub stored_to_together : (depth : ℕ) (q : StoreTarget) (v : Value) → Together (level side depth) runs (stored_to accesses ev depth q v) (stored_to accesses2 ev2 depth q v)
  unfolding stored_to
  stored_to_together depth q v = then_together (lift_together (stored_together q v)) (λ s. completed_together depth s v)

  pub held_value_together : (depth : ℕ) (h : Held) → Together (level side depth) runs (held_value accesses ev depth h) (held_value accesses2 ev2 depth h)
  held_value_together depth (held.Value v) = give_together _
  held_value_together depth (held.Field u) = field_read_together depth u

  back_to_together : (b : Bool) (depth : ℕ) (h : Held) (q : StoreTarget) (v : Value) → Together (level side depth) runs (back_to accesses ev b depth h q v) (back_to accesses2 ev2 b depth h q v)
  back_to_together true depth h q v = stored_to_together depth q v
  back_to_together false depth (held.Value old) q v = stored_to_together depth q v
  back_to_together false depth (held.Field u) q v = field_stored_together (called_at_together depth) u v

  pub stored_back_together : (depth : ℕ) (h : Held) (q : StoreTarget) (v : Value) → Together (level side depth) runs (stored_back accesses ev depth h q v) (stored_back accesses2 ev2 depth h q v)
  stored_back_together depth h q v = back_to_together (is_element q) depth h q v
