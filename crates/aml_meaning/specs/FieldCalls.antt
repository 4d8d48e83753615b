-- Fields where terms read them and store to them. The objects of an address (`_SEG`, `_BBN`, `_ADR`) are called, one call deeper.
use Rattle.std.specs.Prelude.{ℕ, zero, suc, ◌-◌, List, [], Bool, true, false}
use Rattle.ar_space.specs.declared.refusal.Refusal.TheVariants as refusal
use Rattle.ar_space.specs.declared.refusal.EvaluationFault.TheVariants.{CallDepth}
use Rattle.ar_space.specs.declared.refusal.ValueFault.TheVariants.{WrongType}
use Rattle.ar_space.specs.Accesses.{Accesses}
use Rattle.ar_space.specs.Change.{give, stop, settle, ◌>>=◌}
use Rattle.aml_path.specs.declared.segment.Seg.{Seg}
use Rattle.aml_objects.specs.declared.value.Value.{Value}
use Rattle.aml_objects.specs.declared.entry.Field.{Field}
use Rattle.aml_world.specs.declared.state.invocation.Invocation.{Invocation}
use Rattle.aml_world.specs.declared.state.invocation.Invocation.TheVariants as invocation
use Rattle.aml_world.specs.declared.values.object_type.Referent.{Referent}
use Rattle.aml_world.specs.declared.values.object_type.Referent.TheVariants as referent
use Rattle.aml_world.specs.declared.values.store_target.StoreTarget.{StoreTarget}
use Rattle.aml_world.specs.declared.values.store_target.Held.{Held}
use Rattle.aml_world.specs.declared.values.store_target.Held.TheVariants as held
use Rattle.aml_world.specs.declared.values.store_target.Stored.{Stored}
use Rattle.aml_world.specs.declared.values.store_target.Stored.TheVariants as store
use Rattle.aml_world.specs.state.Run.{Run, lift}
use Rattle.aml_world.specs.state.Readings.{absolute, integer_in}
use Rattle.aml_world.specs.values.Stores.{stored}
use Rattle.aml_world.specs.fields.Regions.{integer_only}
use Rattle.aml_world.specs.state.Invocations.{invocation_found, call_allowed}
use Rattle.aml_world.specs.fields.Fields.{field_value, field_integer, field_part, field_referent, field_stored}
use Rattle.aml_world.specs.values.StoreTargets.{is_element}
use Rattle.aml_meaning.specs.declared.flow.Flow.{Flow}
use Rattle.aml_meaning.specs.Tasks.{Task}
use Rattle.aml_meaning.specs.Calls.{method_value}

-- the integer that the object at a path answers, without arguments; answer: what it is, answered
unfoldable pub asked : {S : Type 0} → (Invocation → Run S ℕ) → List Seg → Run S ℕ
asked answer p = do
  i ← lift (invocation_found [] (absolute p) 0)
  answer i

module _ {S : Type 0} (accesses : Accesses S) (ev : Task → Run S Flow) where
  unfoldable pub method_integer : ℕ → List Seg → List ℕ → Run S ℕ
  method_integer depth p body = do
    v ← method_value ev depth p body []
    settle (integer_only v)

  -- n: how many calls may still be made one inside another, this one aside. \_OSI takes an argument, and is never asked without one
  abbrev pub answer_over : ℕ → (List Seg → Run S ℕ) → Invocation → Run S ℕ
  answer_over n call (invocation.Value v) = settle (integer_only v)
  answer_over n call (invocation.Field f) = field_part accesses call f
  answer_over n call (invocation.Method p body) = method_integer (31 - n) p body
  answer_over n call invocation.Osi = stop (refusal.Value WrongType)

  unfoldable pub answer_within : ℕ → Invocation → Run S ℕ
  answer_within zero i = stop (refusal.Evaluation CallDepth)
  answer_within (suc n) i = do
    few ← lift (call_allowed (31 - n))
    answer_over n (asked (answer_within n)) i

  -- what is called where so many control methods are being called
  abbrev pub called_at : ℕ → List Seg → Run S ℕ
  called_at depth = asked (answer_within (32 - depth))

  -- ---- a field, read and stored to

  abbrev pub field_read : ℕ → Field → Run S Value
  field_read depth f = field_value accesses (called_at depth) f

  abbrev pub field_written : ℕ → Field → Value → Run S (Unit {0})
  field_written depth f v = field_stored accesses (called_at depth) f v

  -- what a target holds, as an integer
  abbrev pub held_integer : ℕ → Held → Run S ℕ
  held_integer depth (held.Value v) = lift (integer_in v)
  held_integer depth (held.Field f) = field_integer accesses (called_at depth) f

  -- what a reference refers to, where an element of a package that is the name of a field stands for the field's value
  abbrev pub referent_read : ℕ → Referent → Run S Referent
  referent_read depth (referent.Value v) = give (referent.Value v)
  referent_read depth (referent.Object t) = give (referent.Object t)
  referent_read depth (referent.Field f) = field_referent accesses (called_at depth) f
  referent_read depth (referent.Bytes n) = give (referent.Bytes n)

  -- a store is done, or a field is written next
  abbrev pub completed : ℕ → Stored → Value → Run S (Unit {0})
  completed depth store.Done v = give tt
  completed depth (store.Field f) v = field_written depth f v

  unfoldable pub stored_to : ℕ → StoreTarget → Value → Run S (Unit {0})
  stored_to depth p v = do
    s ← lift (stored p v)
    completed depth s v

  -- what a target holds, as a value
  abbrev pub held_value : ℕ → Held → Run S Value
  held_value depth (held.Value v) = give v
  held_value depth (held.Field f) = field_read depth f

  -- a store to a target whose value was read before; a field that was read is the one that is written, unless an element of a
  -- package named it: then the element is replaced
  abbrev pub back_to : Bool → ℕ → Held → StoreTarget → Value → Run S (Unit {0})
  back_to true depth h p v = stored_to depth p v
  back_to false depth (held.Value old) p v = stored_to depth p v
  back_to false depth (held.Field f) p v = field_written depth f v

  abbrev pub stored_back : ℕ → Held → StoreTarget → Value → Run S (Unit {0})
  stored_back depth h p v = back_to (is_element p) depth h p v
