-- Increment and Decrement of an Index read the part that it refers to, and store to it.
use Rattle.std.specs.Prelude.{◌≡◌, ◌≢◌, ◌+◌, ◌%◌, ◌^◌, ◌<◌, ℕ, suc, List, Ok, refl}
use Rattle.std.proofs.Common.{◌∙◌}
use Rattle.ar_space.specs.Accesses.{Accesses}
use Rattle.ar_space.specs.Change.{give, settle, go_on, ◌>>=◌}
use Rattle.aml_path.specs.declared.segment.Seg.{Seg}
use Rattle.aml_grammar.specs.declared.opcode.Opcode.{Opcode}
use Rattle.aml_grammar.specs.declared.opcode.Opcode.TheVariants as opcodes
use Rattle.aml_grammar.specs.Tree.{Tree, null, inner}
use Rattle.aml_objects.specs.declared.value.Reference.{Reference}
use Rattle.aml_objects.specs.declared.value.Reference.TheVariants as reference
use Rattle.aml_objects.specs.declared.value.Value.{Value}
use Rattle.aml_objects.specs.declared.value.Value.TheVariants as value
use Rattle.aml_convert.specs.Integers.{bits_of, truncated}
use Rattle.aml_world.specs.declared.values.store_target.Held.TheVariants as held
use Rattle.aml_world.specs.declared.values.store_target.StoreTarget.TheVariants as targets
use Rattle.aml_world.specs.declared.values.store_target.Stored.TheVariants as store
use Rattle.aml_world.specs.declared.values.operation_kind.Count.{Count}
use Rattle.aml_world.specs.declared.values.operation_kind.Count.TheVariants as count
use Rattle.aml_world.specs.values.StoreTargets.{is_element, dereferenced}
use Rattle.aml_world.specs.state.State.{State}
use Rattle.aml_world.specs.state.Run.{lift}
use Rattle.aml_world.specs.state.Readings.{integer_in}
use Rattle.aml_world.specs.values.Stores.{stored}
use Rattle.aml_world.specs.values.Operations.{counted_by}
use Rattle.aml_meaning.specs.declared.flow.Flow.TheVariants as flow
use Rattle.aml_meaning.specs.declared.term_kind.TermKind.TheVariants as kinds
use Rattle.aml_meaning.specs.declared.term_kind.OperatorKind.TheVariants as operators
use Rattle.aml_meaning.specs.FieldCalls.{back_to, stored_to}
use Rattle.aml_meaning.specs.Terms.{kind_of}
use Rattle.aml_meaning.specs.Tasks.{task}
use Rattle.aml_meaning.specs.OperatorTerms.{count_rule}
use Rattle.aml_meaning.specs.Evaluation.{rule}
use Rattle.aml_meaning.specs.Meaning.{meaning}
use Rattle.aml_laws.specs.OperatorTerms.{two_to, counting, nothing, Gives}
use Rattle.aml_laws.specs.IndexTargets.{CountsPart}
use Rattle.aml_laws.specs.ReferringTerms.{HasParts, elements, bytes_of_string, bytes_of_buffer, HasPart, element_there, byte_of_string, byte_of_buffer, Indexes}
use Rattle.aml_laws.proofs.Counting.{next_is, less, before_is, one_less}
use Rattle.aml_laws.proofs.IndexTargets.{index_is_target}
use Rattle.aml_laws.proofs.PartsIndexed.{element_read, string_byte_read, buffer_byte_read}
use Rattle.aml_laws.proofs.TreesCost.{term_begins}

module _ {S : Type 0} (w : State S) where
  part_held : (v : Value) (i n : ℕ) (f : ℕ → Reference) (r : Value) → HasParts w v n f → HasPart w v i r → r ≢ value.Uninitialized → dereferenced (f i) w ≡ (Ok (held.Value r), w)
  part_held _ _ _ _ _ (elements o es at) (element_there p i fs r stands is) some = element_read w p i fs r stands is some
  part_held _ _ _ _ _ (bytes_of_string o bytes at) (byte_of_string p i b text stands is) some = string_byte_read w p i b text stands is
  part_held _ _ _ _ _ (bytes_of_buffer o bytes at) (byte_of_buffer p i b text stands is) some = buffer_byte_read w p i b text stands is

-- what was read as a value is stored back as any other
back_is : {S : Type 0} (accesses : Accesses S) (depth : ℕ) (r v : Value) (x : Reference) → back_to accesses (meaning accesses) (is_element (targets.Refers x)) depth (held.Value r) (targets.Refers x) v ≡ stored_to accesses (meaning accesses) depth (targets.Refers x) v
back_is accesses depth r v (reference.Name n) = refl
back_is accesses depth r v (reference.Slot s n) = refl
back_is accesses depth r v (reference.Element o i) = refl
back_is accesses depth r v (reference.Byte o i) = refl

module _ {S : Type 0} (accesses : Accesses S) (scope : List Seg) (depth : ℕ) (x y : Tree) (w : State S) (steps : ℕ) (v r : Value) (i a : ℕ) (after : State S × ℕ) (h : Indexes accesses scope depth x y (w, steps) v i after) (some : r ≢ value.Uninitialized) (converts : integer_in r after.0 ≡ (Ok a, after.0))
    (k : Count) (op : Opcode) (is : kind_of op ≡ kinds.Operator (operators.Count k)) (m : ℕ) (counted : counted_by k a after.0 ≡ (Ok (value.Integer m), after.0)) where
  ruled : rule accesses (meaning accesses) (task scope depth (counting op (inner (two_to opcodes.Index x y null)))) (w, suc steps) ≡ count_rule accesses (meaning accesses) k scope depth (counting op (inner (two_to opcodes.Index x y null))) (w, suc steps)
  unfolding rule
  ruled = rw is refl

  counts_so : (n : ℕ) (f : ℕ → Reference) (parts : HasParts after.0 v n f) → i < n → HasPart after.0 v i r → (end : State S) → stored (targets.Refers (f i)) (value.Integer m) after.0 ≡ (Ok store.Done, end)
      → count_rule accesses (meaning accesses) k scope depth (counting op (inner (two_to opcodes.Index x y null))) (w, suc steps) ≡ (Ok (flow.Value (value.Integer m)), (end, after.1))
  unfolding count_rule stored_to settle lift give go_on ◌>>=◌
  counts_so n f parts l part end e =
      rw (
        index_is_target accesses scope depth x y w steps v i after h n f parts l null after.0 (record { target = targets.Nowhere; names = nothing; is = refl }),
        part_held after.0 v i n f r parts part some,
        converts,
        counted,
        back_is accesses depth r (value.Integer m) (f i),
        e,
      ) refl

  part_is_counted : (n : ℕ) (f : ℕ → Reference) → HasParts after.0 v n f → i < n → HasPart after.0 v i r → (end : State S) → stored (targets.Refers (f i)) (value.Integer m) after.0 ≡ (Ok store.Done, end)
      → Gives accesses scope depth (counting op (inner (two_to opcodes.Index x y null))) (w, suc (suc steps)) m (end, after.1)
  part_is_counted n f parts l part end e = (term_begins accesses (task scope depth (counting op (inner (two_to opcodes.Index x y null))))).paid w (suc steps) ∙ (ruled ∙ counts_so n f parts l part end e)

pub part_increments : {S : Type 0} → CountsPart S opcodes.Increment (λ width a m. m ≡ (a + 1) % 2 ^ bits_of width)
part_increments accesses scope depth x y w steps v i after h n f parts l r a part some converts =
    (truncated after.0.width (a + 1), refl, λ end e. part_is_counted accesses scope depth x y w steps v r i a after h some converts count.Increment opcodes.Increment refl (truncated after.0.width (a + 1)) (next_is after.0 a) n f parts l part end e)

pub part_decrements : {S : Type 0} → CountsPart S opcodes.Decrement (λ width a m. (m < 2 ^ bits_of width) × ((m + 1) % 2 ^ bits_of width ≡ a % 2 ^ bits_of width))
part_decrements accesses scope depth x y w steps v i after h n f parts l r a part some converts =
    (less after.0 a, one_less after.0.width a, λ end e. part_is_counted accesses scope depth x y w steps v r i a after h some converts count.Decrement opcodes.Decrement refl (less after.0 a) (before_is after.0 a) n f parts l part end e)
