-- A name of a field is read as its bits, and a store to it writes them.
use Rattle.std.specs.Prelude.{◌≡◌, ◌<◌, ◌≤◌, ◌∷◌, ℕ, suc, nat_lt, true, false, List, length, take, Some, Ok, Err, refl}
use Rattle.std.proofs.Common.{arith, ap, ◌∙◌}
use Rattle.std.proofs.lemmas.Bool.Decides.{nat_tests}
use Rattle.std.specs.FinMap.{get}
use Rattle.ar_space.specs.Accesses.{Accesses}
use Rattle.ar_space.specs.Outcome.{Outcome}
use Rattle.ar_space.specs.Change.{give, settle, go_on, ◌>>=◌}
use Rattle.ar_space.specs.declared.refusal.Refusal.{Refusal}
use Rattle.ar_space.specs.declared.refusal.Refusal.TheVariants as refusal
use Rattle.ar_space.specs.declared.refusal.EvaluationFault.TheVariants.{ObjectLimit}
use Rattle.aml_path.specs.declared.segment.Seg.{Seg}
use Rattle.aml_path.specs.Paths.{Name}
use Rattle.aml_grammar.specs.declared.opcode.Opcode.TheVariants as opcodes
use Rattle.aml_grammar.specs.Apart.{operand_of}
use Rattle.aml_grammar.specs.Tree.{Tree, name}
use Rattle.aml_objects.specs.Contents.{content_in}
use Rattle.aml_objects.specs.Fields.{bits_of_field}
use Rattle.aml_objects.specs.declared.entry.Field.{Field}
use Rattle.aml_objects.specs.declared.entry.NamedObject.{NamedObject}
use Rattle.aml_objects.specs.declared.object.Object.TheVariants as object
use Rattle.aml_objects.specs.declared.value.Value.{Value}
use Rattle.aml_objects.specs.declared.value.Value.TheVariants as value
use Rattle.aml_convert.specs.Conversions.{to_buffer_of}
use Rattle.aml_convert.specs.Integers.{bits_of, bytes_of}
use Rattle.aml_namespace.specs.Search.{found}
use Rattle.aml_world.specs.declared.values.store_target.Holding.TheVariants as holding
use Rattle.aml_world.specs.declared.values.store_target.StoreTarget.TheVariants as targets
use Rattle.aml_world.specs.declared.values.store_target.Stored.TheVariants as store
use Rattle.aml_world.specs.state.State.{State, on_objects}
use Rattle.aml_world.specs.state.Run.{lift}
use Rattle.aml_world.specs.state.Readings.{entry_found, arguments_found}
use Rattle.aml_world.specs.fields.Regions.{integer_of_bits, integer_value, value_of_bits}
use Rattle.aml_world.specs.state.Invocations.{named_use, invocation_found}
use Rattle.aml_world.specs.values.StoreTargets.{held_at, holding_of}
use Rattle.aml_world.specs.values.Stores.{bytes_in, store_in_name, copy_in_name, stored, copied_to}
use Rattle.aml_world.specs.fields.Fields.{field_value, field_stored}
use Rattle.aml_meaning.specs.declared.flow.Flow.{Flow}
use Rattle.aml_meaning.specs.declared.flow.Flow.TheVariants as flow
use Rattle.aml_meaning.specs.Tasks.{task, operand_value, value_at}
use Rattle.aml_meaning.specs.InvocationTerms.{field_rule, name_value}
use Rattle.aml_meaning.specs.FieldCalls.{field_written, stored_to}
use Rattle.aml_meaning.specs.TargetTerms.{target_at, targeted}
use Rattle.aml_meaning.specs.OperatorTerms.{store_rule, copy_rule}
use Rattle.aml_meaning.specs.Evaluation.{rule}
use Rattle.aml_meaning.specs.Meaning.{meaning}
use Rattle.aml_laws.specs.OperatorTerms.{one_to, named, GivesValue, Gives, IsRefused}
use Rattle.aml_laws.specs.NamesUsed.{use_of}
use Rattle.aml_laws.specs.JoinedTerms.{with_object, Fits}
use Rattle.aml_laws.specs.IntegersOfValues.{lowest_first}
use Rattle.aml_laws.specs.MatchedValues.{Exceeds}
use Rattle.aml_laws.specs.FieldNames.{IsField, of_unit, of_buffer, NamesField, bits_read_at, bits_written_at}
use Rattle.aml_laws.proofs.FoundNamesStand.{found_stands}
use Rattle.aml_laws.proofs.IntegersOfValues.{little_is}
use Rattle.aml_laws.proofs.LimitsRefused.{no_buffer_made}
use Rattle.aml_laws.proofs.LimitsTaken.{buffer_made}
use Rattle.aml_laws.proofs.OperatorsComputed.{target_is}
use Rattle.aml_laws.proofs.TreesCost.{term_begins}

pub bits_are : (o : NamedObject) (f : Field) (bits : ℕ) → IsField o f bits → bits_of_field f ≡ bits
bits_are _ _ _ (of_unit u) = refl
bits_are _ _ _ (of_buffer b) = refl

pub holding_is : (o : NamedObject) (f : Field) (bits : ℕ) → IsField o f bits → holding_of o ≡ holding.Field f
holding_is _ _ _ (of_unit u) = refl
holding_is _ _ _ (of_buffer b) = refl

-- ---- bits as a value

module _ {S : Type 0} (w : State S) (bits : ℕ) where
  pub number_of_bits : (b : ℕ) (bytes : List ℕ) → bits ≤ bits_of w.width → value_of_bits bits (b ∷ bytes) w ≡ (Ok (value.Integer (lowest_first (take (bytes_of w.width) (b ∷ bytes)))), w)
  unfolding value_of_bits integer_value integer_of_bits give go_on ◌>>=◌
  number_of_bits b bytes few = let short : nat_lt (bits_of w.width) bits ≡ false = grind (arith, nat_tests) in rw short (ap (λ (n : ℕ). (Ok (value.Integer n), w)) (little_is (bytes_of w.width) (b ∷ bytes)))

  pub buffer_of_bits : (bytes : List ℕ) → bits_of w.width < bits → Fits w bytes → value_of_bits bits bytes w ≡ (Ok (value.Buffer (length w.objects)), with_object w (object.Buffer bytes))
  unfolding value_of_bits on_objects
  buffer_of_bits bytes many fits = let long : nat_lt (bits_of w.width) bits ≡ true = grind (arith, nat_tests) in rw (long, buffer_made bytes w.objects fits.0 fits.1) refl

  pub no_room_for_bits : (bytes : List ℕ) → bits_of w.width < bits → Exceeds w bytes → value_of_bits bits bytes w ≡ (Err (refusal.Evaluation ObjectLimit), w)
  unfolding value_of_bits on_objects
  no_room_for_bits bytes many exceeds = let long : nat_lt (bits_of w.width) bits ≡ true = grind (arith, nat_tests) in rw (long, no_buffer_made bytes w.objects exceeds) refl

-- ---- a name that is read

module _ {S : Type 0} (accesses : Accesses S) (scope : List Seg) (depth : ℕ) (w : State S) (steps : ℕ) (n : Name) where
  used_as : (path : List Seg) (number : ℕ) (o : NamedObject) (f : Field) (bits : ℕ) → found w.names.map scope n ≡ Ok (path, record { number = number; object = o }) → IsField o f bits
      → rule accesses (meaning accesses) (task scope depth (use_of n)) (w, steps) ≡ field_rule accesses (meaning accesses) depth f (w, steps)
  unfolding rule name_value invocation_found arguments_found entry_found named_use settle lift give go_on ◌>>=◌
  used_as path number _ _ _ finds (of_unit u) = rw (finds, finds) refl
  used_as path number _ _ _ finds (of_buffer b) = rw (finds, finds) refl

  begins : (f : Field) (bits : ℕ) → NamesField w scope n f bits → meaning accesses (task scope depth (use_of n)) (w, suc steps) ≡ field_rule accesses (meaning accesses) depth f (w, steps)
  begins f bits h = (term_begins accesses (task scope depth (use_of n))).paid w steps ∙ used_as h.path h.number h.object f bits h.finds h.is

  formed : (f : Field) (bytes : List ℕ) (v : Value) (after : State S × ℕ) (end : State S) → bits_read_at accesses depth f (w, steps) ≡ (Ok bytes, after) → value_of_bits (bits_of_field f) bytes after.0 ≡ (Ok v, end)
      → field_rule accesses (meaning accesses) depth f (w, steps) ≡ (Ok (flow.Value v), (end, after.1))
  unfolding field_rule field_value lift give go_on ◌>>=◌
  formed f bytes v after end is makes = rw (is, makes) refl

  pub integer_read : (f : Field) (bits b : ℕ) (bytes : List ℕ) (after : State S × ℕ) → NamesField w scope n f bits → bits_read_at accesses depth f (w, steps) ≡ (Ok (b ∷ bytes), after) → bits ≤ bits_of after.0.width
      → Gives accesses scope depth (use_of n) (w, suc steps) (lowest_first (take (bytes_of after.0.width) (b ∷ bytes))) after
  integer_read f bits b bytes after h is few =
      begins f bits h ∙ formed f (b ∷ bytes) (value.Integer (lowest_first (take (bytes_of after.0.width) (b ∷ bytes)))) after after.0 is (rw (bits_are h.object f bits h.is) (number_of_bits after.0 bits b bytes few))

  pub buffer_read : (f : Field) (bits : ℕ) (bytes : List ℕ) (after : State S × ℕ) → NamesField w scope n f bits → bits_read_at accesses depth f (w, steps) ≡ (Ok bytes, after) → bits_of after.0.width < bits → Fits after.0 bytes
      → GivesValue accesses scope depth (use_of n) (w, suc steps) (value.Buffer (length after.0.objects)) (with_object after.0 (object.Buffer bytes), after.1)
  buffer_read f bits bytes after h is many fits =
      begins f bits h ∙ formed f bytes (value.Buffer (length after.0.objects)) after (with_object after.0 (object.Buffer bytes)) is (rw (bits_are h.object f bits h.is) (buffer_of_bits after.0 bits bytes many fits))

  not_formed : (f : Field) (bytes : List ℕ) (e : Refusal) (after : State S × ℕ) → bits_read_at accesses depth f (w, steps) ≡ (Ok bytes, after) → value_of_bits (bits_of_field f) bytes after.0 ≡ (Err e, after.0)
      → field_rule accesses (meaning accesses) depth f (w, steps) ≡ (Err e, after)
  unfolding field_rule field_value lift give go_on ◌>>=◌
  not_formed f bytes e after is makes = rw (is, makes) refl

  pub no_room_read : (f : Field) (bits : ℕ) (bytes : List ℕ) (after : State S × ℕ) → NamesField w scope n f bits → bits_read_at accesses depth f (w, steps) ≡ (Ok bytes, after) → bits_of after.0.width < bits → Exceeds after.0 bytes
      → IsRefused accesses scope depth (use_of n) (w, suc steps) (refusal.Evaluation ObjectLimit) after
  no_room_read f bits bytes after h is many exceeds =
      begins f bits h ∙ not_formed f bytes (refusal.Evaluation ObjectLimit) after is (rw (bits_are h.object f bits h.is) (no_room_for_bits after.0 bits bytes many exceeds))

  stopped : (f : Field) (e : Refusal) (after : State S × ℕ) → bits_read_at accesses depth f (w, steps) ≡ (Err e, after) → field_rule accesses (meaning accesses) depth f (w, steps) ≡ (Err e, after)
  unfolding field_rule field_value lift give go_on ◌>>=◌
  stopped f e after is = rw is refl

  pub unread : (f : Field) (bits : ℕ) (e : Refusal) (after : State S × ℕ) → NamesField w scope n f bits → bits_read_at accesses depth f (w, steps) ≡ (Err e, after) → IsRefused accesses scope depth (use_of n) (w, suc steps) e after
  unread f bits e after h is = begins f bits h ∙ stopped f e after is

-- ---- a name that is stored to

module _ {S : Type 0} (w : State S) (scope : List Seg) (n : Name) (f : Field) (bits : ℕ) (h : NamesField w scope n f bits) (v : Value) where
  pub there : get w.names.map h.path ≡ Some (record { number = h.number; object = h.object })
  there = let s = found_stands w.names.map scope n (h.path, record { number = h.number; object = h.object }) h.finds in s.there

  pub field_is_stored : stored (targets.Name h.path) v w ≡ (Ok (store.Field f), w)
  unfolding store_in_name held_at give go_on ◌>>=◌
  field_is_stored = rw (there, holding_is h.object f bits h.is) refl

  pub field_is_copied : copied_to (targets.Name h.path) v w ≡ (Ok (store.Field f), w)
  unfolding copy_in_name held_at give go_on ◌>>=◌
  field_is_copied = rw (there, holding_is h.object f bits h.is) refl

module _ {S : Type 0} (accesses : Accesses S) (depth : ℕ) (f : Field) (v : Value) (s : State S × ℕ) where
  pub written_so : (bytes : List ℕ) (r : Outcome (Unit {0})) (after : State S × ℕ) → to_buffer_of s.0.width (content_in s.0.objects v) ≡ Ok bytes → bits_written_at accesses depth f bytes s ≡ (r, after) → field_written accesses (meaning accesses) depth f v s ≡ (r, after)
  unfolding field_stored bytes_in lift go_on ◌>>=◌
  written_so bytes r after converts writes = rw converts writes

  pub not_converted : (e : Refusal) → to_buffer_of s.0.width (content_in s.0.objects v) ≡ Err e → field_written accesses (meaning accesses) depth f v s ≡ (Err e, s)
  unfolding field_stored bytes_in lift go_on ◌>>=◌
  not_converted e is = rw is refl

module _ {S : Type 0} (accesses : Accesses S) (scope : List Seg) (depth : ℕ) (x : Tree) (n : Name) (w : State S) (steps : ℕ) (v : Value) (between : State S × ℕ) (gives : GivesValue accesses scope depth x (w, steps) v between) (f : Field) (bits : ℕ) (h : NamesField between.0 scope n f bits) where
  abbrev then_gives : Outcome (Unit {0}) × (State S × ℕ) → Outcome Flow × (State S × ℕ)
  then_gives r = go_on r.0 r.1 (λ done. give (flow.Value v))

  named_target : (t : Tree) → operand_of t 1 ≡ Some (name n) → target_at (meaning accesses) scope depth t 1 between ≡ (Ok (targets.Name h.path), between)
  named_target t is = target_is accesses scope depth t 1 between.0 between.1 (name n) (targets.Name h.path) (named n h.path (record { number = h.number; object = h.object }) h.finds) is

  store_goes_on : rule accesses (meaning accesses) (task scope depth (one_to opcodes.Store x (name n))) (w, steps) ≡ then_gives (field_written accesses (meaning accesses) depth f v between)
  unfolding rule store_rule targeted stored_to value_at operand_value settle lift go_on ◌>>=◌
  store_goes_on = rw (gives, named_target (one_to opcodes.Store x (name n)) refl, field_is_stored between.0 scope n f bits h v) refl

  copy_goes_on : rule accesses (meaning accesses) (task scope depth (one_to opcodes.CopyObject x (name n))) (w, steps) ≡ then_gives (field_written accesses (meaning accesses) depth f v between)
  unfolding rule copy_rule value_at operand_value settle lift go_on ◌>>=◌
  copy_goes_on = rw (gives, named_target (one_to opcodes.CopyObject x (name n)) refl, field_is_copied between.0 scope n f bits h v) refl

  store_begins : meaning accesses (task scope depth (one_to opcodes.Store x (name n))) (w, suc steps) ≡ then_gives (field_written accesses (meaning accesses) depth f v between)
  store_begins = (term_begins accesses (task scope depth (one_to opcodes.Store x (name n)))).paid w steps ∙ store_goes_on

  copy_begins : meaning accesses (task scope depth (one_to opcodes.CopyObject x (name n))) (w, suc steps) ≡ then_gives (field_written accesses (meaning accesses) depth f v between)
  copy_begins = (term_begins accesses (task scope depth (one_to opcodes.CopyObject x (name n)))).paid w steps ∙ copy_goes_on

  pub field_takes : (bytes : List ℕ) (after : State S × ℕ) → to_buffer_of between.0.width (content_in between.0.objects v) ≡ Ok bytes → bits_written_at accesses depth f bytes between ≡ (Ok tt, after)
      → GivesValue accesses scope depth (one_to opcodes.Store x (name n)) (w, suc steps) v after × GivesValue accesses scope depth (one_to opcodes.CopyObject x (name n)) (w, suc steps) v after
  unfolding give go_on
  field_takes bytes after converts writes =
      let done = written_so accesses depth f v between bytes (Ok tt) after converts writes in
      (store_begins ∙ ap then_gives done, copy_begins ∙ ap then_gives done)

  pub field_refuses : (bytes : List ℕ) (e : Refusal) (after : State S × ℕ) → to_buffer_of between.0.width (content_in between.0.objects v) ≡ Ok bytes → bits_written_at accesses depth f bytes between ≡ (Err e, after)
      → IsRefused accesses scope depth (one_to opcodes.Store x (name n)) (w, suc steps) e after × IsRefused accesses scope depth (one_to opcodes.CopyObject x (name n)) (w, suc steps) e after
  unfolding go_on
  field_refuses bytes e after converts writes =
      let done = written_so accesses depth f v between bytes (Err e) after converts writes in
      (store_begins ∙ ap then_gives done, copy_begins ∙ ap then_gives done)

  pub field_takes_nothing : (e : Refusal) → to_buffer_of between.0.width (content_in between.0.objects v) ≡ Err e
      → IsRefused accesses scope depth (one_to opcodes.Store x (name n)) (w, suc steps) e between × IsRefused accesses scope depth (one_to opcodes.CopyObject x (name n)) (w, suc steps) e between
  unfolding go_on
  field_takes_nothing e is =
      let done = not_converted accesses depth f v between e is in
      (store_begins ∙ ap then_gives done, copy_begins ∙ ap then_gives done)
