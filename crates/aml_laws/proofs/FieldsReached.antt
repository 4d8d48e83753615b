-- Fields that are read through a reference, and that Increment and Decrement read and write.
use Rattle.std.specs.Prelude.{◌≡◌, ◌≤◌, ◌<◌, ◌+◌, ◌%◌, ◌^◌, ◌∷◌, ℕ, suc, List, length, take, Ok, Err, refl}
use Rattle.std.proofs.Common.{ap, ◌∙◌}
use Rattle.ar_space.specs.Accesses.{Accesses}
use Rattle.ar_space.specs.declared.refusal.Refusal.{Refusal}
use Rattle.ar_space.specs.declared.refusal.Refusal.TheVariants as refusal
use Rattle.ar_space.specs.declared.refusal.EvaluationFault.TheVariants.{ObjectLimit}
use Rattle.ar_space.specs.Change.{give, settle, go_on, ◌>>=◌}
use Rattle.aml_path.specs.declared.segment.Seg.{Seg}
use Rattle.aml_path.specs.Paths.{Name}
use Rattle.aml_grammar.specs.declared.opcode.Opcode.{Opcode}
use Rattle.aml_grammar.specs.declared.opcode.Opcode.TheVariants as opcodes
use Rattle.aml_grammar.specs.Tree.{name}
use Rattle.aml_objects.specs.Fields.{bits_of_field}
use Rattle.aml_objects.specs.declared.entry.Field.{Field}
use Rattle.aml_objects.specs.declared.entry.NamedObject.{NamedObject}
use Rattle.aml_objects.specs.declared.object.Object.TheVariants as object
use Rattle.aml_objects.specs.declared.value.Reference.TheVariants as reference
use Rattle.aml_objects.specs.declared.value.Value.{Value}
use Rattle.aml_objects.specs.declared.value.Value.TheVariants as value
use Rattle.aml_convert.specs.Conversions.{to_buffer_of}
use Rattle.aml_convert.specs.Integers.{bits_of, bytes_of, truncated}
use Rattle.aml_objects.specs.Contents.{content_in}
use Rattle.aml_namespace.specs.Numbering.{Numbered}
use Rattle.aml_world.specs.declared.values.store_target.Held.TheVariants as held
use Rattle.aml_world.specs.declared.values.store_target.StoreTarget.TheVariants as targets
use Rattle.aml_world.specs.declared.values.operation_kind.Count.{Count}
use Rattle.aml_world.specs.declared.values.operation_kind.Count.TheVariants as count
use Rattle.aml_world.specs.state.State.{State}
use Rattle.aml_world.specs.state.Run.{lift}
use Rattle.aml_world.specs.fields.Regions.{value_of_bits, integer_of_bits}
use Rattle.aml_world.specs.fields.Fields.{field_value, field_integer}
use Rattle.aml_world.specs.values.StoreTargets.{once, declared_once, held_at, name_read, target_read, declared_number, name_reference, reference_of, dereferenced}
use Rattle.aml_world.specs.values.Operations.{counted_by}
use Rattle.aml_meaning.specs.declared.flow.Flow.TheVariants as flow
use Rattle.aml_meaning.specs.declared.term_kind.TermKind.TheVariants as kinds
use Rattle.aml_meaning.specs.declared.term_kind.OperatorKind.TheVariants as operators
use Rattle.aml_meaning.specs.Terms.{kind_of}
use Rattle.aml_meaning.specs.Tasks.{task, operand_value, value_at}
use Rattle.aml_meaning.specs.FieldCalls.{field_written}
use Rattle.aml_meaning.specs.OperatorTerms.{count_rule, dereference_rule}
use Rattle.aml_meaning.specs.Evaluation.{rule}
use Rattle.aml_meaning.specs.Meaning.{meaning}
use Rattle.aml_laws.specs.MatchedValues.{Exceeds}
use Rattle.aml_laws.specs.OperatorTerms.{of_one, counting, named, GivesValue, Gives, IsRefused}
use Rattle.aml_laws.specs.JoinedTerms.{with_object, Fits}
use Rattle.aml_laws.specs.ObjectTerms.{on_target}
use Rattle.aml_laws.specs.IntegersOfValues.{lowest_first}
use Rattle.aml_laws.specs.FieldNames.{IsField, of_unit, of_buffer, NamesField, bits_read_at, bits_written_at}
use Rattle.aml_laws.specs.FieldsReached.{CountsField}
use Rattle.aml_laws.proofs.FieldNamesUsed.{bits_are, holding_is, number_of_bits, buffer_of_bits, no_room_for_bits, there, written_so}
use Rattle.aml_laws.proofs.IntegersOfValues.{little_is}
use Rattle.aml_laws.proofs.ObjectTermsDone.{refers}
use Rattle.aml_laws.proofs.OperatorsComputed.{target_is}
use Rattle.aml_laws.proofs.Counting.{next_is, less, before_is, one_less}
use Rattle.aml_laws.proofs.ReferencesToNames.{declaration_then}
use Rattle.aml_laws.proofs.TreesCost.{term_begins}

once_field : (n : ℕ) (o : NamedObject) (f : Field) (bits : ℕ) → IsField o f bits → once n o ≡ held.Field f
once_field n _ _ _ (of_unit u) = refl
once_field n _ _ _ (of_buffer b) = refl

-- ---- DerefOf of a reference to a name of a field

module _ {S : Type 0} (w : State S) (scope : List Seg) (n : Name) (f : Field) (bits : ℕ) (h : NamesField w scope n f bits) where
  reference_is : reference_of (targets.Name h.path) w ≡ (Ok (reference.Name h.number), w)
  unfolding name_reference declared_number give go_on ◌>>=◌
  reference_is = rw (there w scope n f bits h value.Uninitialized) refl

  field_once : Numbered w.names → dereferenced (reference.Name h.number) w ≡ (Ok (held.Field f), w)
  unfolding declared_once give
  field_once apart =
      declaration_then w h.path (record { number = h.number; object = h.object }) (there w scope n f bits h value.Uninitialized) apart (λ e. give (once h.number e.1.object))
      ∙ ap (λ x. (Ok x, w)) (once_field h.number h.object f bits h.is)

module _ {S : Type 0} (accesses : Accesses S) (scope : List Seg) (depth : ℕ) (w : State S) (steps : ℕ) (n : Name) (f : Field) (bits : ℕ) (h : NamesField w scope n f bits) (apart : Numbered w.names) where
  reads_so : (bytes : List ℕ) (v : Value) (after : State S × ℕ) (end : State S) → bits_read_at accesses depth f (w, steps) ≡ (Ok bytes, after) → value_of_bits (bits_of_field f) bytes after.0 ≡ (Ok v, end)
      → rule accesses (meaning accesses) (task scope depth (of_one opcodes.DerefOf (on_target opcodes.RefOf (name n)))) (w, suc steps) ≡ (Ok (flow.Value v), (end, after.1))
  unfolding rule dereference_rule value_at operand_value field_value settle lift give go_on ◌>>=◌
  reads_so bytes v after end is makes =
      rw (
        refers accesses scope depth (name n) (targets.Name h.path) w steps (named n h.path (record { number = h.number; object = h.object }) h.finds) w (reference.Name h.number) (reference_is w scope n f bits h),
        field_once w scope n f bits h apart,
        is,
        makes,
      ) refl

  pub referred_field : (b : ℕ) (bytes : List ℕ) (after : State S × ℕ) → bits_read_at accesses depth f (w, steps) ≡ (Ok (b ∷ bytes), after) → bits ≤ bits_of after.0.width
      → Gives accesses scope depth (of_one opcodes.DerefOf (on_target opcodes.RefOf (name n))) (w, suc (suc steps)) (lowest_first (take (bytes_of after.0.width) (b ∷ bytes))) after
  referred_field b bytes after is few =
      (term_begins accesses (task scope depth (of_one opcodes.DerefOf (on_target opcodes.RefOf (name n))))).paid w (suc steps)
      ∙ reads_so (b ∷ bytes) (value.Integer (lowest_first (take (bytes_of after.0.width) (b ∷ bytes)))) after after.0 is (rw (bits_are h.object f bits h.is) (number_of_bits after.0 bits b bytes few))

  pub referred_long_field : (bytes : List ℕ) (after : State S × ℕ) → bits_read_at accesses depth f (w, steps) ≡ (Ok bytes, after) → bits_of after.0.width < bits → Fits after.0 bytes
      → GivesValue accesses scope depth (of_one opcodes.DerefOf (on_target opcodes.RefOf (name n))) (w, suc (suc steps)) (value.Buffer (length after.0.objects)) (with_object after.0 (object.Buffer bytes), after.1)
  referred_long_field bytes after is many fits =
      (term_begins accesses (task scope depth (of_one opcodes.DerefOf (on_target opcodes.RefOf (name n))))).paid w (suc steps)
      ∙ reads_so bytes (value.Buffer (length after.0.objects)) after (with_object after.0 (object.Buffer bytes)) is (rw (bits_are h.object f bits h.is) (buffer_of_bits after.0 bits bytes many fits))

  no_room_so : (bytes : List ℕ) (e : Refusal) (after : State S × ℕ) → bits_read_at accesses depth f (w, steps) ≡ (Ok bytes, after) → value_of_bits (bits_of_field f) bytes after.0 ≡ (Err e, after.0)
      → rule accesses (meaning accesses) (task scope depth (of_one opcodes.DerefOf (on_target opcodes.RefOf (name n)))) (w, suc steps) ≡ (Err e, after)
  unfolding rule dereference_rule value_at operand_value field_value settle lift give go_on ◌>>=◌
  no_room_so bytes e after is makes =
      rw (
        refers accesses scope depth (name n) (targets.Name h.path) w steps (named n h.path (record { number = h.number; object = h.object }) h.finds) w (reference.Name h.number) (reference_is w scope n f bits h),
        field_once w scope n f bits h apart,
        is,
        makes,
      ) refl

  pub referred_no_room : (bytes : List ℕ) (after : State S × ℕ) → bits_read_at accesses depth f (w, steps) ≡ (Ok bytes, after) → bits_of after.0.width < bits → Exceeds after.0 bytes
      → IsRefused accesses scope depth (of_one opcodes.DerefOf (on_target opcodes.RefOf (name n))) (w, suc (suc steps)) (refusal.Evaluation ObjectLimit) after
  referred_no_room bytes after is many exceeds =
      (term_begins accesses (task scope depth (of_one opcodes.DerefOf (on_target opcodes.RefOf (name n))))).paid w (suc steps)
      ∙ no_room_so bytes (refusal.Evaluation ObjectLimit) after is (rw (bits_are h.object f bits h.is) (no_room_for_bits after.0 bits bytes many exceeds))

  stops_so : (e : Refusal) (after : State S × ℕ) → bits_read_at accesses depth f (w, steps) ≡ (Err e, after) → rule accesses (meaning accesses) (task scope depth (of_one opcodes.DerefOf (on_target opcodes.RefOf (name n)))) (w, suc steps) ≡ (Err e, after)
  unfolding rule dereference_rule value_at operand_value field_value settle lift give go_on ◌>>=◌
  stops_so e after is =
      rw (
        refers accesses scope depth (name n) (targets.Name h.path) w steps (named n h.path (record { number = h.number; object = h.object }) h.finds) w (reference.Name h.number) (reference_is w scope n f bits h),
        field_once w scope n f bits h apart,
        is,
      ) refl

  pub referred_unread : (e : Refusal) (after : State S × ℕ) → bits_read_at accesses depth f (w, steps) ≡ (Err e, after) → IsRefused accesses scope depth (of_one opcodes.DerefOf (on_target opcodes.RefOf (name n))) (w, suc (suc steps)) e after
  referred_unread e after is = (term_begins accesses (task scope depth (of_one opcodes.DerefOf (on_target opcodes.RefOf (name n))))).paid w (suc steps) ∙ stops_so e after is

-- ---- Increment and Decrement

module _ {S : Type 0} (w : State S) (scope : List Seg) (n : Name) (f : Field) (bits : ℕ) (h : NamesField w scope n f bits) where
  field_is_held : target_read (targets.Name h.path) w ≡ (Ok (held.Field f), w)
  unfolding name_read held_at settle go_on ◌>>=◌
  field_is_held = rw (there w scope n f bits h value.Uninitialized, holding_is h.object f bits h.is) refl

pub integer_is : {S : Type 0} (w : State S) (b : ℕ) (bytes : List ℕ) → integer_of_bits (b ∷ bytes) w ≡ (Ok (lowest_first (take (bytes_of w.width) (b ∷ bytes))), w)
unfolding integer_of_bits
integer_is w b bytes = ap (λ (n : ℕ). (Ok n, w)) (little_is (bytes_of w.width) (b ∷ bytes))

module _ {S : Type 0} (accesses : Accesses S) (scope : List Seg) (depth : ℕ) (n : Name) (w : State S) (steps : ℕ) (f : Field) (bits b : ℕ) (bytes : List ℕ) (between : State S × ℕ) (h : NamesField w scope n f bits) (read : bits_read_at accesses depth f (w, steps) ≡ (Ok (b ∷ bytes), between))
    (k : Count) (op : Opcode) (is : kind_of op ≡ kinds.Operator (operators.Count k)) (m : ℕ) (counted : counted_by k (lowest_first (take (bytes_of between.0.width) (b ∷ bytes))) between.0 ≡ (Ok (value.Integer m), between.0)) where
  ruled : rule accesses (meaning accesses) (task scope depth (counting op (name n))) (w, steps) ≡ count_rule accesses (meaning accesses) k scope depth (counting op (name n)) (w, steps)
  unfolding rule
  ruled = rw is refl

  counts_so : (after : State S × ℕ) → field_written accesses (meaning accesses) depth f (value.Integer m) (between.0, between.1) ≡ (Ok tt, after) → count_rule accesses (meaning accesses) k scope depth (counting op (name n)) (w, steps) ≡ (Ok (flow.Value (value.Integer m)), after)
  unfolding count_rule field_integer settle lift give go_on ◌>>=◌
  counts_so after writes =
      rw (
        target_is accesses scope depth (counting op (name n)) 0 w steps (name n) (targets.Name h.path) (named n h.path (record { number = h.number; object = h.object }) h.finds) refl,
        field_is_held w scope n f bits h,
        read,
        integer_is between.0 b bytes,
        counted,
        writes,
      ) refl

  field_is_counted : (out : List ℕ) (after : State S × ℕ) → to_buffer_of between.0.width (content_in between.0.objects (value.Integer m)) ≡ Ok out → bits_written_at accesses depth f out between ≡ (Ok tt, after) → Gives accesses scope depth (counting op (name n)) (w, suc steps) m after
  field_is_counted out after converts writes =
      (term_begins accesses (task scope depth (counting op (name n)))).paid w steps
      ∙ (ruled ∙ counts_so after (written_so accesses depth f (value.Integer m) (between.0, between.1) out (Ok tt) after converts writes))

pub field_increments : {S : Type 0} → CountsField S opcodes.Increment (λ width a m. m ≡ (a + 1) % 2 ^ bits_of width)
field_increments accesses scope depth n w steps f bits b bytes between h read =
    let a : ℕ = lowest_first (take (bytes_of between.0.width) (b ∷ bytes)) in
    (truncated between.0.width (a + 1), refl, λ out after converts writes. field_is_counted accesses scope depth n w steps f bits b bytes between h read count.Increment opcodes.Increment refl (truncated between.0.width (a + 1)) (next_is between.0 a) out after converts writes)

pub field_decrements : {S : Type 0} → CountsField S opcodes.Decrement (λ width a m. (m < 2 ^ bits_of width) × ((m + 1) % 2 ^ bits_of width ≡ a % 2 ^ bits_of width))
field_decrements accesses scope depth n w steps f bits b bytes between h read =
    let a : ℕ = lowest_first (take (bytes_of between.0.width) (b ∷ bytes)) in
    (less between.0 a, one_less between.0.width a, λ out after converts writes. field_is_counted accesses scope depth n w steps f bits b bytes between h read count.Decrement opcodes.Decrement refl (less between.0 a) (before_is between.0 a) out after converts writes)
