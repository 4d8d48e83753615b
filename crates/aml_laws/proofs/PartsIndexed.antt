-- Index refers to the part of an object at an index, and DerefOf reads it.
use Rattle.std.specs.Prelude.{◌≡◌, ◌≢◌, ◌<◌, ◌≤◌, ℕ, suc, nat_lt, true, false, List, length, slice_get, Some, Ok, Err, refl}
use Rattle.std.proofs.Common.{arith, ap, ◌∙◌}
use Rattle.std.proofs.lemmas.Bool.Decides.{nat_tests}
use Rattle.std.proofs.lemmas.Option.{slice_get_within}
use Rattle.ar_space.specs.declared.refusal.Refusal.TheVariants as refusal
use Rattle.ar_space.specs.declared.refusal.EvaluationFault.TheVariants.{IndexLimit}
use Rattle.ar_space.specs.Accesses.{Accesses}
use Rattle.ar_space.specs.Change.{give, settle, go_on, ◌>>=◌}
use Rattle.aml_path.specs.declared.segment.Seg.{Seg}
use Rattle.aml_grammar.specs.declared.opcode.Opcode.TheVariants as opcodes
use Rattle.aml_grammar.specs.Tree.{Tree, Part, null}
use Rattle.aml_objects.specs.Objects.{element_at, byte_at}
use Rattle.aml_objects.specs.declared.object.Element.{Element}
use Rattle.aml_objects.specs.declared.object.Element.TheVariants as element
use Rattle.aml_objects.specs.declared.object.Object.TheVariants as object
use Rattle.aml_objects.specs.declared.value.Reference.{Reference}
use Rattle.aml_objects.specs.declared.value.Reference.TheVariants as reference
use Rattle.aml_objects.specs.declared.value.Value.{Value}
use Rattle.aml_objects.specs.declared.value.Value.TheVariants as value
use Rattle.aml_world.specs.declared.values.store_target.StoreTarget.TheVariants as targets
use Rattle.aml_world.specs.declared.values.store_target.Held.TheVariants as held
use Rattle.aml_world.specs.declared.values.operation_kind.TwoOperands.TheVariants as two
use Rattle.aml_world.specs.state.State.{State, on_objects}
use Rattle.aml_world.specs.state.Run.{lift}
use Rattle.aml_world.specs.state.Readings.{integer_in}
use Rattle.aml_world.specs.values.Operations.{size_held, element_indexed, byte_indexed, indexed}
use Rattle.aml_world.specs.values.StoreTargets.{value_once, held_once, byte_once, dereferenced}
use Rattle.aml_meaning.specs.declared.flow.Flow.TheVariants as flow
use Rattle.aml_meaning.specs.Tasks.{task, operand_value, value_at}
use Rattle.aml_meaning.specs.OperatorTerms.{dereference_rule}
use Rattle.aml_meaning.specs.Evaluation.{rule}
use Rattle.aml_meaning.specs.Meaning.{meaning}
use Rattle.aml_laws.specs.OperatorTerms.{two_to, nothing, StoresTo, GivesValue, IsRefused}
use Rattle.aml_laws.specs.ReferringTerms.{HasParts, elements, bytes_of_string, bytes_of_buffer, HasPart, element_there, byte_of_string, byte_of_buffer, Indexes, part_read}
use Rattle.aml_laws.proofs.TreesCost.{term_begins}
use Rattle.aml_laws.proofs.OperatorsComputed.{two_gives, two_refused}
use Rattle.aml_laws.proofs.Counting.{initialized_is}

is_below : (i n : ℕ) → i < n → nat_lt i n ≡ true
is_below i n l = grind (arith, nat_tests)

is_past : (i n : ℕ) → n ≤ i → nat_lt i n ≡ false
is_past i n l = grind (arith, nat_tests)

-- ---- Index

module _ {S : Type 0} (w : State S) (u : Value) (i : ℕ) (converts : integer_in u w ≡ (Ok i, w)) where
  part_indexed : (v : Value) (n : ℕ) (f : ℕ → Reference) → HasParts w v n f → i < n → indexed v u w ≡ (Ok (value.Reference (f i)), w)
  unfolding element_indexed byte_indexed size_held settle go_on ◌>>=◌
  part_indexed _ _ _ (elements o es at) l = rw (converts, at, is_below i (length es) l) refl
  part_indexed _ _ _ (bytes_of_string o bytes at) l = rw (converts, at, is_below i (length bytes) l) refl
  part_indexed _ _ _ (bytes_of_buffer o bytes at) l = rw (converts, at, is_below i (length bytes) l) refl

  past_indexed : (v : Value) (n : ℕ) (f : ℕ → Reference) → HasParts w v n f → n ≤ i → indexed v u w ≡ (Err (refusal.Evaluation IndexLimit), w)
  unfolding element_indexed byte_indexed size_held settle go_on ◌>>=◌
  past_indexed _ _ _ (elements o es at) l = rw (converts, at, is_past i (length es) l) refl
  past_indexed _ _ _ (bytes_of_string o bytes at) l = rw (converts, at, is_past i (length bytes) l) refl
  past_indexed _ _ _ (bytes_of_buffer o bytes at) l = rw (converts, at, is_past i (length bytes) l) refl

module _ {S : Type 0} (accesses : Accesses S) (scope : List Seg) (depth : ℕ) (x y : Tree) (w : State S) (steps : ℕ) (v : Value) (i : ℕ) (after : State S × ℕ) (h : Indexes accesses scope depth x y (w, steps) v i after) where
  module _ (n : ℕ) (f : ℕ → Reference) (parts : HasParts after.0 v n f) where
    pub index_refers : i < n → (p : Part) (end : State S) → StoresTo scope p (value.Reference (f i)) after.0 end → GivesValue accesses scope depth (two_to opcodes.Index x y p) (w, suc steps) (value.Reference (f i)) (end, after.1)
    index_refers l p end s = two_gives accesses scope depth x y p two.Index opcodes.Index refl w steps h.operands.between after v h.u h.operands.first h.operands.second (value.Reference (f i)) after.0 end (part_indexed after.0 h.u i h.converts v n f parts l) s

    pub index_past : n ≤ i → (p : Part) → IsRefused accesses scope depth (two_to opcodes.Index x y p) (w, suc steps) (refusal.Evaluation IndexLimit) after
    index_past l p = two_refused accesses scope depth x y p two.Index opcodes.Index refl w steps h.operands.between after v h.u h.operands.first h.operands.second (refusal.Evaluation IndexLimit) after.0 (past_indexed after.0 h.u i h.converts v n f parts l)

-- ---- DerefOf of an Index

-- a part, and a reference to it, which is read as it
pub data IsPartAt {S : Type 0} (w : State S) (v : Value) (i : ℕ) (r : Value) : Type 0 where
  at : (n : ℕ) (f : ℕ → Reference) → HasParts w v n f → i < n → dereferenced (f i) w ≡ (Ok (held.Value r), w) → IsPartAt w v i r

module _ {S : Type 0} (w : State S) where
  pub element_read : (o i : ℕ) (es : List Element) (v : Value) → slice_get w.objects o ≡ Some (object.Package es) → slice_get es i ≡ Some (element.Value v) → v ≢ value.Uninitialized → dereferenced (reference.Element o i) w ≡ (Ok (held.Value v), w)
  unfolding held_once value_once on_objects element_at settle give go_on ◌>>=◌
  element_read o i es v stands is some = rw (stands, is, initialized_is v some) refl

  pub string_byte_read : (o i b : ℕ) (bytes : List ℕ) → slice_get w.objects o ≡ Some (object.String bytes) → slice_get bytes i ≡ Some b → dereferenced (reference.Byte o i) w ≡ (Ok (held.Value (value.Integer b)), w)
  unfolding byte_once on_objects byte_at give go_on ◌>>=◌
  string_byte_read o i b bytes stands is = rw (stands, is) refl

  pub buffer_byte_read : (o i b : ℕ) (bytes : List ℕ) → slice_get w.objects o ≡ Some (object.Buffer bytes) → slice_get bytes i ≡ Some b → dereferenced (reference.Byte o i) w ≡ (Ok (held.Value (value.Integer b)), w)
  unfolding byte_once on_objects byte_at give go_on ◌>>=◌
  buffer_byte_read o i b bytes stands is = rw (stands, is) refl

  part_at : (v : Value) (i : ℕ) (r : Value) → HasPart w v i r → r ≢ value.Uninitialized → IsPartAt w v i r
  part_at _ _ _ (element_there o i es v stands is) some = at (length es) (λ i. reference.Element o i) (elements o es stands) (slice_get_within es i (element.Value v) is) (element_read o i es v stands is some)
  part_at _ _ _ (byte_of_string o i b bytes stands is) some = at (length bytes) (λ i. reference.Byte o i) (bytes_of_string o bytes stands) (slice_get_within bytes i b is) (string_byte_read o i b bytes stands is)
  part_at _ _ _ (byte_of_buffer o i b bytes stands is) some = at (length bytes) (λ i. reference.Byte o i) (bytes_of_buffer o bytes stands) (slice_get_within bytes i b is) (buffer_byte_read o i b bytes stands is)

module _ {S : Type 0} (accesses : Accesses S) (scope : List Seg) (depth : ℕ) (x y : Tree) (w : State S) (steps : ℕ) (v r : Value) (i : ℕ) (after : State S × ℕ) (h : Indexes accesses scope depth x y (w, steps) v i after) where
  read_by : IsPartAt after.0 v i r → rule accesses (meaning accesses) (task scope depth (part_read x y)) (w, suc steps) ≡ (Ok (flow.Value r), after)
  unfolding rule dereference_rule value_at operand_value settle lift give go_on ◌>>=◌
  read_by (at n f parts l is) = rw (index_refers accesses scope depth x y w steps v i after h n f parts l null after.0 (record { target = targets.Nowhere; names = nothing; is = refl }), is) refl

  pub part_is_read : HasPart after.0 v i r → r ≢ value.Uninitialized → GivesValue accesses scope depth (part_read x y) (w, suc (suc steps)) r after
  part_is_read part some = (term_begins accesses (task scope depth (part_read x y))).paid w (suc steps) ∙ read_by (part_at after.0 v i r part some)
