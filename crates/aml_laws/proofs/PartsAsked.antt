-- What SizeOf and ObjectType tell of a part of an object, which DerefOf reads.
use Rattle.std.specs.Prelude.{◌≡◌, ◌≢◌, ℕ, suc, List, Ok, Err, refl}
use Rattle.std.proofs.Common.{◌∙◌}
use Rattle.ar_space.specs.declared.refusal.Refusal.TheVariants as refusal
use Rattle.ar_space.specs.declared.refusal.ValueFault.TheVariants.{WrongType}
use Rattle.ar_space.specs.Accesses.{Accesses}
use Rattle.ar_space.specs.Change.{give, settle, go_on, ◌>>=◌}
use Rattle.aml_path.specs.declared.segment.Seg.{Seg}
use Rattle.aml_grammar.specs.Tree.{Tree, inner}
use Rattle.aml_objects.specs.declared.value.Reference.{Reference}
use Rattle.aml_objects.specs.declared.value.Value.{Value}
use Rattle.aml_objects.specs.declared.value.Value.TheVariants as value
use Rattle.aml_world.specs.state.State.{State}
use Rattle.aml_world.specs.state.Run.{lift}
use Rattle.aml_world.specs.values.Operations.{size_in}
use Rattle.aml_meaning.specs.declared.flow.Flow.TheVariants as flow
use Rattle.aml_meaning.specs.Tasks.{task, operand_value}
use Rattle.aml_meaning.specs.OperatorTerms.{referent_of_value, size_rule, type_rule}
use Rattle.aml_meaning.specs.Evaluation.{rule}
use Rattle.aml_meaning.specs.Meaning.{meaning}
use Rattle.aml_laws.specs.OperatorTerms.{GivesValue, Gives, IsRefused}
use Rattle.aml_laws.specs.ReferringTerms.{HasParts, elements, bytes_of_string, bytes_of_buffer, HasPart, Indexes, part_read, size_of, object_type, IsNumbered, an_integer, a_string, a_buffer, a_package}
use Rattle.aml_laws.proofs.PartsIndexed.{part_is_read}
use Rattle.aml_laws.proofs.TreesCost.{term_begins}

initialized_so : (r : Value) (k : ℕ) → IsNumbered r k → r ≢ value.Uninitialized
initialized_so _ _ (an_integer n) e = absurd (cc e)
initialized_so _ _ (a_string o) e = absurd (cc e)
initialized_so _ _ (a_buffer o) e = absurd (cc e)
initialized_so _ _ (a_package o) e = absurd (cc e)

module _ {S : Type 0} (w : State S) where
  some_parts : (r : Value) (n : ℕ) (f : ℕ → Reference) → HasParts w r n f → r ≢ value.Uninitialized
  some_parts _ _ _ (elements o es is) e = absurd (cc e)
  some_parts _ _ _ (bytes_of_string o bytes is) e = absurd (cc e)
  some_parts _ _ _ (bytes_of_buffer o bytes is) e = absurd (cc e)

module _ {S : Type 0} (accesses : Accesses S) (scope : List Seg) (depth : ℕ) (x y : Tree) (w : State S) (steps : ℕ) where
  typed_so : (r : Value) (k : ℕ) (after : State S × ℕ) → IsNumbered r k → GivesValue accesses scope depth (part_read x y) (w, steps) r after → rule accesses (meaning accesses) (task scope depth (object_type (inner (part_read x y)))) (w, steps) ≡ (Ok (flow.Value (value.Integer k)), after)
  unfolding rule type_rule referent_of_value operand_value settle lift give go_on ◌>>=◌
  typed_so _ _ after (an_integer n) gives = rw gives refl
  typed_so _ _ after (a_string o) gives = rw gives refl
  typed_so _ _ after (a_buffer o) gives = rw gives refl
  typed_so _ _ after (a_package o) gives = rw gives refl

  sized_so : (r : Value) (n : ℕ) (f : ℕ → Reference) (after : State S × ℕ) → HasParts after.0 r n f → GivesValue accesses scope depth (part_read x y) (w, steps) r after → rule accesses (meaning accesses) (task scope depth (size_of (inner (part_read x y)))) (w, steps) ≡ (Ok (flow.Value (value.Integer n)), after)
  unfolding rule size_rule referent_of_value operand_value size_in settle lift give go_on ◌>>=◌
  sized_so _ _ _ after (elements o es is) gives = rw (gives, is) refl
  sized_so _ _ _ after (bytes_of_string o bytes is) gives = rw (gives, is) refl
  sized_so _ _ _ after (bytes_of_buffer o bytes is) gives = rw (gives, is) refl

module _ {S : Type 0} (accesses : Accesses S) (scope : List Seg) (depth : ℕ) (x y : Tree) (w : State S) (steps : ℕ) where
  pub part_typed : (v r : Value) (i k : ℕ) (after : State S × ℕ) → Indexes accesses scope depth x y (w, steps) v i after → HasPart after.0 v i r → IsNumbered r k → Gives accesses scope depth (object_type (inner (part_read x y))) (w, suc (suc (suc steps))) k after
  part_typed v r i k after h part is =
      (term_begins accesses (task scope depth (object_type (inner (part_read x y))))).paid w (suc (suc steps))
      ∙ typed_so accesses scope depth x y w (suc (suc steps)) r k after is (part_is_read accesses scope depth x y w steps v r i after h part (initialized_so r k is))

  pub part_sized : (v r : Value) (i n : ℕ) (f : ℕ → Reference) (after : State S × ℕ) → Indexes accesses scope depth x y (w, steps) v i after → HasPart after.0 v i r → HasParts after.0 r n f → Gives accesses scope depth (size_of (inner (part_read x y))) (w, suc (suc (suc steps))) n after
  part_sized v r i n f after h part parts =
      (term_begins accesses (task scope depth (size_of (inner (part_read x y))))).paid w (suc (suc steps))
      ∙ sized_so accesses scope depth x y w (suc (suc steps)) r n f after parts (part_is_read accesses scope depth x y w steps v r i after h part (some_parts after.0 r n f parts))

-- ---- an integer has no size

module _ {S : Type 0} (accesses : Accesses S) (scope : List Seg) (depth : ℕ) (x y : Tree) (w : State S) (steps : ℕ) where
  unsized_so : (n : ℕ) (after : State S × ℕ) → GivesValue accesses scope depth (part_read x y) (w, steps) (value.Integer n) after → rule accesses (meaning accesses) (task scope depth (size_of (inner (part_read x y)))) (w, steps) ≡ (Err (refusal.Value WrongType), after)
  unfolding rule size_rule referent_of_value operand_value size_in settle lift give go_on ◌>>=◌
  unsized_so n after gives = rw gives refl

module _ {S : Type 0} (accesses : Accesses S) (scope : List Seg) (depth : ℕ) (x y : Tree) (w : State S) (steps : ℕ) where
  pub part_unsized : (v : Value) (i n : ℕ) (after : State S × ℕ) → Indexes accesses scope depth x y (w, steps) v i after → HasPart after.0 v i (value.Integer n) → IsRefused accesses scope depth (size_of (inner (part_read x y))) (w, suc (suc (suc steps))) (refusal.Value WrongType) after
  part_unsized v i n after h part =
      (term_begins accesses (task scope depth (size_of (inner (part_read x y))))).paid w (suc (suc steps))
      ∙ unsized_so accesses scope depth x y w (suc (suc steps)) n after (part_is_read accesses scope depth x y w steps v (value.Integer n) i after h part (initialized_so (value.Integer n) 1 (an_integer n)))
