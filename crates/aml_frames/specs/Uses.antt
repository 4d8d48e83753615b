-- What is done with targets, with the values of operands, and with the bits of fields: what of a rule is left behind the part that is
-- evaluated (ACPI 6.5, 19.6 and 20.2.2).
use Rattle.std.specs.Prelude.{◌≡◌, ◌≢◌, ℕ, List, Option, Some, None, Ok}
use Rattle.ar_space.specs.Accesses.{Accesses}
use Rattle.ar_space.specs.Change.{Change, give, settle, ◌>>=◌}
use Rattle.aml_path.specs.declared.segment.Seg.{Seg}
use Rattle.aml_marks.specs.Marked.{Below, Walk, over, a_super_name, a_target}
use Rattle.aml_grammar.specs.Tree.{Part}
use Rattle.aml_objects.specs.declared.entry.Field.{Field}
use Rattle.aml_objects.specs.Fields.{bits_of_field}
use Rattle.aml_objects.specs.declared.value.Value.{Value}
use Rattle.aml_objects.specs.declared.value.Value.TheVariants as value
use Rattle.aml_objects.specs.declared.value.Reference.{Reference}
use Rattle.aml_world.specs.declared.values.object_type.Referent.{Referent}
use Rattle.aml_world.specs.declared.values.object_type.Referent.TheVariants as referent
use Rattle.aml_world.specs.declared.values.store_target.Held.{Held}
use Rattle.aml_world.specs.declared.values.store_target.Stored.{Stored}
use Rattle.aml_world.specs.declared.values.store_target.StoreTarget.{StoreTarget}
use Rattle.aml_world.specs.declared.values.operation_kind.Count.{Count}
use Rattle.aml_world.specs.state.State.{State}
use Rattle.aml_world.specs.state.Run.{Run, lift}
use Rattle.aml_world.specs.state.Readings.{integer_kept}
use Rattle.aml_world.specs.values.StoreTargets.{dereferenced, target_read, reference_of, if_initialized, target_referent, value_followed, followed, most_references, reference_in}
use Rattle.aml_world.specs.values.Stores.{copied_to}
use Rattle.aml_world.specs.state.Events.{event_named, event_changed, waited}
use Rattle.aml_world.specs.state.Mutexes.{acquired_at, given_back_at}
use Rattle.aml_world.specs.values.Operations.{divided_in, lnot_in, size_in, type_of_referent, type_number, result_of_one, result_of_two, result_of_test, counted_by}
use Rattle.aml_world.specs.values.FormedStores.{formed_to}
use Rattle.aml_world.specs.values.WideOperations.{converted, string_in, middle_in}
use Rattle.aml_world.specs.fields.Regions.{value_of_bits, integer_of_bits, integer_alone, referent_of_bits}
use Rattle.aml_world.specs.fields.Fields.{unit_of, bits_in, written_in, region_bits, region_written}
use Rattle.aml_meaning.specs.declared.flow.Flow.{Flow}
use Rattle.aml_meaning.specs.declared.flow.Flow.TheVariants as flow
use Rattle.aml_meaning.specs.Tasks.{value_in, Task, operand_value}
use Rattle.aml_meaning.specs.FieldCalls.{asked, answer_within, field_written, completed, stored_to, stored_back, held_value, held_integer, referent_read}
use Rattle.aml_meaning.specs.TargetTerms.{part_target, operand_target, dereferenced_target}
use Rattle.aml_frames.specs.declared.uses.Access.{Access}
use Rattle.aml_frames.specs.declared.uses.Accessed.{Accessed}
use Rattle.aml_frames.specs.declared.uses.Accessed.TheVariants as object
use Rattle.aml_frames.specs.declared.uses.Doing.{Doing}
use Rattle.aml_frames.specs.declared.uses.Doing.TheVariants as doing
use Rattle.aml_frames.specs.declared.uses.Dyadic.{Dyadic}
use Rattle.aml_frames.specs.declared.uses.Dyadic.TheVariants as dyadic
use Rattle.aml_frames.specs.declared.uses.Inquiry.{Inquiry}
use Rattle.aml_frames.specs.declared.uses.Inquiry.TheVariants as inquiry
use Rattle.aml_frames.specs.declared.uses.Monadic.{Monadic}
use Rattle.aml_frames.specs.declared.uses.Monadic.TheVariants as monadic
use Rattle.aml_frames.specs.declared.uses.Reading.{Reading}
use Rattle.aml_frames.specs.declared.uses.Reading.TheVariants as reading
use Rattle.aml_frames.specs.declared.uses.SecondOperand.{SecondOperand}
use Rattle.aml_frames.specs.declared.uses.Target.{Target}
use Rattle.aml_frames.specs.declared.uses.TargetForm.{TargetForm}
use Rattle.aml_frames.specs.declared.uses.TargetForm.TheVariants as forms
use Rattle.aml_frames.specs.declared.uses.TargetUse.{TargetUse}
use Rattle.aml_frames.specs.declared.uses.TargetUse.TheVariants as uses
use Rattle.aml_frames.specs.Places.{Site, at_place, terms, next_term, behind_term}

-- ---- targets that stand next

-- a target that stands in a position without null, and one that may be left out
abbrev pub super : ℕ → Target
super levels = record { form = forms.SuperName; levels = levels }

abbrev pub optional : ℕ → Target
optional levels = record { form = forms.Target; levels = levels }

abbrev pub part_formed : TargetForm → Below → Walk Part
part_formed forms.SuperName b = a_super_name b
part_formed forms.Target b = a_target b

abbrev pub target_part : Target → Site → Part
target_part t c = (part_formed t.form (terms c t.levels) c.place).0

abbrev pub behind_target : Target → Site → Site
behind_target t c = at_place c (part_formed t.form (terms c t.levels) c.place).1

-- where evaluation stands when all is done with a target that stood before: behind that of Acquire stands a timeout
abbrev pub use_ends : TargetUse → Site → Site
use_ends (uses.Store v) c = c
use_ends (uses.CopyObject v) c = c
use_ends (uses.Form v) c = c
use_ends (uses.Count k) c = c
use_ends (uses.Inquire i) c = c
use_ends uses.Acquire c = at_place c (over 2 c.place)
use_ends uses.Release c = c
use_ends uses.RefOf c = c
use_ends (uses.CondRefOf levels) c = behind_target (optional levels) c
use_ends (uses.Notify levels) c = behind_term c levels
use_ends (uses.Event k) c = c
use_ends (uses.Wait levels) c = behind_term c levels

abbrev pub target_ends : Target → TargetUse → Site → Site
target_ends t u c = use_ends u (behind_target t c)

-- where the targets of an operator end whose operands stand before
abbrev pub monadic_ends : Monadic → ℕ → Site → Site
monadic_ends monadic.Store levels c = behind_target (super levels) c
monadic_ends monadic.CopyObject levels c = behind_target (super levels) c
monadic_ends (monadic.One k) levels c = behind_target (optional levels) c
monadic_ends (monadic.Convert k) levels c = behind_target (optional levels) c
monadic_ends monadic.LNot levels c = c
monadic_ends monadic.DerefOf levels c = c

abbrev pub dyadic_ends : Dyadic → ℕ → Site → Site
dyadic_ends (dyadic.Two k) levels c = behind_target (optional levels) c
dyadic_ends dyadic.Divide levels c = behind_target (optional levels) (behind_target (optional levels) c)
dyadic_ends (dyadic.Test k) levels c = c
dyadic_ends dyadic.ToString levels c = behind_target (optional levels) c
dyadic_ends dyadic.Mid levels c = behind_target (optional levels) (behind_term c levels)

-- ---- what is told of what an operand refers to

abbrev pub told : {S : Type 0} → Inquiry → Referent → Change (State S) Value
told inquiry.SizeOf r = size_in r
told inquiry.ObjectType r = give (value.Integer (type_number (type_of_referent r)))

-- ---- what the bits of a field are read as: so many bits

unfoldable pub read_as : {S : Type 0} → Reading → ℕ → List ℕ → Run S Flow
read_as reading.Value count bytes = do
  v ← lift (value_of_bits count bytes)
  give (flow.Value v)
read_as reading.Integer count bytes = do
  n ← lift (integer_of_bits bytes)
  give (flow.Value (value.Integer n))
read_as reading.Part count bytes = do
  n ← lift (integer_alone count bytes)
  give (flow.Value (value.Integer n))
read_as (reading.Unit w) count bytes = give (flow.Value (value.Integer (unit_of w bytes)))
read_as (reading.Inquire i) count bytes = do
  r ← lift (referent_of_bits count bytes)
  v ← lift (told i r)
  give (flow.Value v)

abbrev pub bits_of_accessed : Accessed → ℕ
bits_of_accessed (object.Field f) = bits_of_field f
bits_of_accessed (object.Unit f) = f.unit.bits

module _ {S : Type 0} (accesses : Accesses S) (ev : Task → Run S Flow) where
  -- ---- accesses of fields

  -- the integer that the object at a path answers, where so many calls may still be made
  abbrev pub asking : ℕ → List Seg → Run S ℕ
  asking calls = asked (answer_within accesses ev calls)

  abbrev pub accessed_bits : ℕ → Accessed → Run S (List ℕ)
  accessed_bits calls (object.Field f) = bits_in accesses (asking calls) f
  accessed_bits calls (object.Unit f) = region_bits accesses (asking calls) f

  abbrev pub accessed_written : ℕ → Accessed → List ℕ → Run S (Unit {0})
  accessed_written calls (object.Field f) bytes = written_in accesses (asking calls) f bytes
  accessed_written calls (object.Unit f) bytes = region_written accesses (asking calls) f bytes

  abbrev pub access_done : ℕ → Accessed → Doing → Run S Flow
  access_done calls o (doing.Read r) = do
    bytes ← accessed_bits calls o
    read_as r (bits_of_accessed o) bytes
  access_done calls o (doing.Write bytes) = do
    done ← accessed_written calls o bytes
    give flow.Next

  abbrev pub access_run : Access → Run S Flow
  access_run a = access_done a.calls a.object a.doing

  -- ---- what is done with a target

  -- a field is written with a value, which is the value of the term; and a store is completed, or done again where a value was read
  abbrev pub field_put : Field → Value → Site → Run S Flow
  field_put f v c = do
    done ← field_written accesses ev c.depth f v
    give (flow.Value v)

  abbrev pub put_complete : Stored → Value → Site → Run S Flow
  put_complete s v c = do
    done ← completed accesses ev c.depth s v
    give (flow.Value v)

  abbrev pub put_back : Held → StoreTarget → Value → Site → Run S Flow
  put_back h p v c = do
    done ← stored_back accesses ev c.depth h p v
    give (flow.Value v)

  -- the value that a target holds, as that of the term
  abbrev pub held_given : Held → Site → Run S Flow
  held_given h c = do
    x ← held_value accesses ev c.depth h
    give (flow.Value x)

  unfoldable pub stored_at : Value → Site → StoreTarget → Run S Flow
  stored_at v c p = do
    done ← stored_to accesses ev c.depth p v
    give (flow.Value v)

  -- what is told of a referent, where a field's value is read first
  unfoldable pub inquired : Inquiry → Site → Referent → Run S Flow
  inquired i c r = do
    s ← referent_read accesses ev c.depth r
    v ← lift (told i s)
    give (flow.Value v)

  -- what a target holds was read: it is counted, and stored back
  unfoldable pub counted_back : Count → StoreTarget → Held → Site → ℕ → Run S Flow
  counted_back k p h c n = do
    r ← lift (counted_by k n)
    put_back h p r c

  -- a value is stored to the target that stands next
  abbrev pub put_next : Target → Value → Site → Run S Flow
  put_next t v c = do
    p ← part_target ev c.scope c.depth (target_part t c)
    stored_at v (behind_target t c) p

  -- CondRefOf: a reference that was found is stored and gives True
  unfoldable pub found_next : ℕ → Option Reference → Site → Run S Flow
  found_next levels None c = give (flow.Value (value.Integer 0))
  found_next levels (Some r) c = do
    done ← put_next (optional levels) (value.Reference r) c
    v ← lift (integer_kept 18446744073709551615)
    give (flow.Value v)

  -- Wait, with the value of its timeout
  abbrev pub wait_done : Option ℕ → Value → Run S Flow
  wait_done e v = do
    r ← lift (waited e v)
    give (flow.Value r)

  abbrev pub used : TargetUse → Site → StoreTarget → Run S Flow
  used (uses.Store v) c p = stored_at v c p
  used (uses.CopyObject v) c p = do
    s ← lift (copied_to p v)
    put_complete s v c
  used (uses.Form v) c p = do
    s ← lift (formed_to p v)
    put_complete s v c
  used (uses.Count k) c p = do
    h ← lift (target_read p)
    n ← held_integer accesses ev c.depth h
    counted_back k p h c n
  used (uses.Inquire i) c p = do
    r ← lift (target_referent p)
    inquired i c r
  used uses.Acquire c p = do
    done ← lift (acquired_at p)
    give (flow.Value (value.Integer 0))
  used uses.Release c p = do
    done ← lift (given_back_at p)
    give flow.Next
  used uses.RefOf c p = do
    r ← lift (reference_of p)
    give (flow.Value (value.Reference r))
  used (uses.CondRefOf levels) c p = do
    r ← lift (reference_of p)
    o ← lift (if_initialized r)
    found_next levels o c
  used (uses.Notify levels) c p = do
    v ← operand_value ev c.scope c.depth (next_term c levels)
    give flow.Next
  used (uses.Event k) c p = do
    e ← lift (event_named p)
    done ← lift (event_changed k e)
    give flow.Next
  used (uses.Wait levels) c p = do
    e ← lift (event_named p)
    v ← operand_value ev c.scope c.depth (next_term c levels)
    wait_done e v

  -- the target that stands next, and what is done with it
  abbrev pub target_run : Target → TargetUse → Site → Run S Flow
  target_run t u c = part_target ev c.scope c.depth (target_part t c) >>= used u (behind_target t c)

  -- a term that refers to a target, where it stands next: RefOf and DerefOf
  abbrev pub operand_used : ℕ → TargetUse → Site → Run S Flow
  operand_used levels u c = operand_target ev c.scope c.depth (next_term c levels) >>= used u (behind_term c levels)

  abbrev pub dereferenced_used : ℕ → TargetUse → Site → Run S Flow
  dereferenced_used levels u c = dereferenced_target ev c.scope c.depth (next_term c levels) >>= used u (behind_term c levels)

  -- ---- what operators do with the values of their operands

  abbrev pub monadic_done : Monadic → ℕ → Value → Site → Run S Flow
  monadic_done monadic.Store levels v c = target_run (super levels) (uses.Store v) c
  monadic_done monadic.CopyObject levels v c = target_run (super levels) (uses.CopyObject v) c
  monadic_done (monadic.One k) levels v c = do
    r ← lift (result_of_one k v)
    target_run (optional levels) (uses.Store r) c
  monadic_done (monadic.Convert k) levels v c = do
    r ← lift (converted k v)
    target_run (optional levels) (uses.Form r) c
  monadic_done monadic.LNot levels v c = do
    r ← lift (lnot_in v)
    give (flow.Value r)
  monadic_done monadic.DerefOf levels v c = do
    r ← settle (reference_in v)
    h ← lift (dereferenced r)
    held_given h c

  -- Mid, with the values of its three operands
  abbrev pub middle_done : ℕ → Value → Value → Value → Site → Run S Flow
  middle_done levels v u n c = do
    r ← lift (middle_in v u n)
    target_run (optional levels) (uses.Store r) c

  abbrev pub dyadic_by : Dyadic → ℕ → Value → Value → Site → Run S Flow
  dyadic_by (dyadic.Two k) levels v u c = do
    r ← lift (result_of_two k v u)
    target_run (optional levels) (uses.Store r) c
  dyadic_by dyadic.Divide levels v u c = do
    d ← lift (divided_in v u)
    done ← target_run (optional levels) (uses.Store (value.Integer d.remainder)) c
    target_run (optional levels) (uses.Store (value.Integer d.quotient)) (behind_target (optional levels) c)
  dyadic_by (dyadic.Test k) levels v u c = do
    r ← lift (result_of_test k v u)
    give (flow.Value r)
  dyadic_by dyadic.ToString levels v u c = do
    r ← lift (string_in v u)
    target_run (optional levels) (uses.Form r) c
  dyadic_by dyadic.Mid levels v u c = do
    n ← operand_value ev c.scope c.depth (next_term c levels)
    middle_done levels v u n (behind_term c levels)

  abbrev pub dyadic_done : SecondOperand → Value → Site → Run S Flow
  dyadic_done o u c = dyadic_by o.kind o.levels o.first u c

-- what a term gives refers to no field: its size and its type are told without an access, and so without memory
abbrev pub RefersToNoField : {S : Type 0} → Flow → State S → Type 0
RefersToNoField f w = (v : Value) (x : Field) → value_in f ≡ Ok v → (value_followed (followed most_references) v w).0 ≢ Ok (referent.Field x)
