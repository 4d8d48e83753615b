-- The targets that RefOf, DerefOf and Index name, and that they name none.
use Rattle.std.specs.Prelude.{◌≡◌, ◌≢◌, ◌<◌, ◌≤◌, ℕ, suc, nat_lt, true, false, List, length, Ok, Err, refl}
use Rattle.std.proofs.Common.{arith}
use Rattle.std.proofs.lemmas.Bool.Decides.{nat_tests}
use Rattle.std.proofs.lemmas.Option.{slice_get-get_or}
use Rattle.ar_space.specs.Accesses.{Accesses}
use Rattle.ar_space.specs.Outcome.{Outcome}
use Rattle.ar_space.specs.Change.{give, settle, go_on, ◌>>=◌}
use Rattle.ar_space.specs.declared.refusal.Refusal.{Refusal}
use Rattle.ar_space.specs.declared.refusal.Refusal.TheVariants as refusal
use Rattle.ar_space.specs.declared.refusal.EvaluationFault.TheVariants.{DeadReference, NoValue}
use Rattle.ar_space.specs.declared.refusal.ValueFault.TheVariants.{WrongType}
use Rattle.aml_path.specs.declared.segment.Seg.{Seg}
use Rattle.aml_path.specs.Paths.{Name}
use Rattle.aml_grammar.specs.declared.opcode.Opcode.TheVariants as opcodes
use Rattle.aml_grammar.specs.Tree.{Tree, Part, name, inner}
use Rattle.aml_objects.specs.Objects.{element_there, byte_at}
use Rattle.aml_objects.specs.declared.value.Reference.{Reference}
use Rattle.aml_objects.specs.declared.value.Value.{Value}
use Rattle.aml_objects.specs.declared.value.Value.TheVariants as value
use Rattle.aml_namespace.specs.Search.{found}
use Rattle.aml_namespace.proofs.Finding.{numbered_found}
use Rattle.aml_world.specs.declared.values.store_target.StoreTarget.{StoreTarget}
use Rattle.aml_world.specs.declared.values.store_target.StoreTarget.TheVariants as targets
use Rattle.aml_world.specs.state.State.{State, on_objects}
use Rattle.aml_world.specs.state.Run.{Run, lift}
use Rattle.aml_world.specs.state.Readings.{path_found}
use Rattle.aml_world.specs.values.StoreTargets.{target_named, reference_in, declaration, frame_found, name_tested, frame_tested, byte_tested, tested}
use Rattle.aml_meaning.specs.declared.flow.Flow.{Flow}
use Rattle.aml_meaning.specs.Tasks.{Task, operand_value, value_at}
use Rattle.aml_meaning.specs.TargetTerms.{indexed_target, dereferenced_target, target_of, part_target}
use Rattle.aml_meaning.specs.Meaning.{meaning}
use Rattle.aml_laws.specs.ObjectTerms.{on_target}
use Rattle.aml_laws.specs.OperatorTerms.{of_one, two_to, NamesTarget, nothing, debug, slot, named, GivesValue, GivesNothing, IsRefused}
use Rattle.aml_laws.specs.ReferringTerms.{HasParts, elements, bytes_of_string, bytes_of_buffer}
use Rattle.aml_laws.specs.ReferringTargets.{Stands, a_name, a_slot, a_part, IsGone, no_name, no_frame, no_package, no_element, no_bytes, no_byte_of_string, no_byte_of_buffer, NamesBehind, by_refof, by_refof_again, by_derefof, by_index, NamesNothingBehind, unfound_name, unfound_again, refused_operand, no_value, no_reference, dead_reference, refused_index}
use Rattle.aml_laws.proofs.Charges.{charge_one}
use Rattle.aml_laws.proofs.OperatorsComputed.{slot_is_target}

-- ---- what a reference refers to stands

is_past : (i n : ℕ) → n ≤ i → nat_lt i n ≡ false
is_past i n l = grind (arith, nat_tests)

module _ {S : Type 0} (w : State S) where
  part_tested : (v : Value) (i n : ℕ) (f : ℕ → Reference) → HasParts w v n f → i < n → tested (f i) w ≡ (Ok tt, w)
  unfolding byte_tested on_objects element_there byte_at give go_on ◌>>=◌
  part_tested _ i _ _ (elements o es at) less = let few : nat_lt i (length es) ≡ true = grind (arith, nat_tests) in rw (at, few) refl
  part_tested _ i _ _ (bytes_of_string o bytes at) less = rw (at, slice_get-get_or bytes i 0 less) refl
  part_tested _ i _ _ (bytes_of_buffer o bytes at) less = rw (at, slice_get-get_or bytes i 0 less) refl

  pub stands_tested : (r : Reference) → Stands w r → tested r w ≡ (Ok tt, w)
  unfolding name_tested declaration frame_tested frame_found give go_on ◌>>=◌
  stands_tested _ (a_name path e apart at) = rw (numbered_found w.names apart path e at) refl
  stands_tested _ (a_slot s n k at) = rw at refl
  stands_tested _ (a_part v i n f parts less) = part_tested v i n f parts less

  gone_tested : (r : Reference) → IsGone w r → tested r w ≡ (Err (refusal.Evaluation DeadReference), w)
  unfolding name_tested declaration frame_tested frame_found byte_tested on_objects element_there byte_at go_on ◌>>=◌
  gone_tested _ (no_name n none) = rw none refl
  gone_tested _ (no_frame s n none) = rw none refl
  gone_tested _ (no_package o i none) = rw none refl
  gone_tested _ (no_element o i es at past) = rw (at, is_past i (length es) past) refl
  gone_tested _ (no_bytes o i none) = rw none refl
  gone_tested _ (no_byte_of_string o i bytes at none) = rw (at, none) refl
  gone_tested _ (no_byte_of_buffer o i bytes at none) = rw (at, none) refl

-- ---- RefOf and DerefOf

module _ {S : Type 0} (ev : Task → Run S Flow) (scope : List Seg) (depth : ℕ) where
  operand_is : (p : Part) (t : StoreTarget) (w : State S) (steps : ℕ) → NamesTarget scope w p t → part_target ev scope depth p (w, steps) ≡ (Ok t, (w, steps))
  unfolding target_of target_named path_found lift give go_on ◌>>=◌
  operand_is _ _ w steps nothing = refl
  operand_is _ _ w steps debug = refl
  operand_is _ _ w steps (slot op s names) = rw (slot_is_target op s names) refl
  operand_is _ _ w steps (named n path e finds) = rw finds refl

  name_is_lost : (n : Name) (w : State S) (steps : ℕ) (e : Refusal) → found w.names.map scope n ≡ Err e → part_target ev scope depth (name n) (w, steps) ≡ (Err e, (w, steps))
  unfolding target_of target_named path_found lift go_on ◌>>=◌
  name_is_lost n w steps e lost = rw lost refl

  refof_is : (p : Part) (w : State S) (steps : ℕ) (t : Outcome StoreTarget) (after : State S × ℕ) → part_target ev scope depth p (w, steps) ≡ (t, after) → target_of ev scope depth (on_target opcodes.RefOf p) (w, suc steps) ≡ (t, after)
  unfolding target_of go_on ◌>>=◌
  refof_is p w steps t after is = rw (charge_one w steps, is) refl

  inner_is : (u : Tree) (s : State S × ℕ) → part_target ev scope depth (inner u) s ≡ target_of ev scope depth u s
  unfolding target_of
  inner_is u s = refl

module _ {S : Type 0} (accesses : Accesses S) (scope : List Seg) (depth : ℕ) where
  module _ (x : Tree) (w : State S) (steps : ℕ) where
    module _ (v : Value) (after : State S × ℕ) (gives : GivesValue accesses scope depth x (w, steps) v after) where
      derefof_is : (r : Reference) → v ≡ value.Reference r → tested r after.0 ≡ (Ok tt, after.0) → target_of (meaning accesses) scope depth (of_one opcodes.DerefOf x) (w, suc steps) ≡ (Ok (targets.Refers r), after)
      unfolding target_of dereferenced_target value_at operand_value settle lift give go_on ◌>>=◌
      derefof_is r is there = rw (charge_one w steps, gives, is, there) refl

      no_reference_in : (v : Value) → ((r : Reference) → v ≢ value.Reference r) → reference_in v ≡ Err (refusal.Value WrongType)
      no_reference_in value.Uninitialized not = refl
      no_reference_in (value.Integer n) not = refl
      no_reference_in (value.String o) not = refl
      no_reference_in (value.Buffer o) not = refl
      no_reference_in (value.Package o) not = refl
      no_reference_in (value.Reference r) not = absurd (not r refl)

      derefof_refers_to_nothing : ((r : Reference) → v ≢ value.Reference r) → target_of (meaning accesses) scope depth (of_one opcodes.DerefOf x) (w, suc steps) ≡ (Err (refusal.Value WrongType), after)
      unfolding target_of dereferenced_target value_at operand_value settle go_on ◌>>=◌
      derefof_refers_to_nothing not = rw (charge_one w steps, gives, no_reference_in v not) refl

      derefof_is_dead : (r : Reference) → v ≡ value.Reference r → IsGone after.0 r → target_of (meaning accesses) scope depth (of_one opcodes.DerefOf x) (w, suc steps) ≡ (Err (refusal.Evaluation DeadReference), after)
      unfolding target_of dereferenced_target value_at operand_value settle lift go_on ◌>>=◌
      derefof_is_dead r is gone = rw (charge_one w steps, gives, is, gone_tested after.0 r gone) refl

    derefof_has_no_operand : (after : State S × ℕ) → GivesNothing accesses scope depth x (w, steps) after → target_of (meaning accesses) scope depth (of_one opcodes.DerefOf x) (w, suc steps) ≡ (Err (refusal.Evaluation NoValue), after)
    unfolding target_of dereferenced_target value_at operand_value settle go_on ◌>>=◌
    derefof_has_no_operand after gives = rw (charge_one w steps, gives) refl

    derefof_is_refused : (e : Refusal) (after : State S × ℕ) → IsRefused accesses scope depth x (w, steps) e after → target_of (meaning accesses) scope depth (of_one opcodes.DerefOf x) (w, suc steps) ≡ (Err e, after)
    unfolding target_of dereferenced_target value_at operand_value settle go_on ◌>>=◌
    derefof_is_refused e after stops = rw (charge_one w steps, stops) refl

  -- ---- Index

  module _ (x y : Tree) (p : Part) (s : State S × ℕ) where
    index_is : (r : Reference) (after : State S × ℕ) → GivesValue accesses scope depth (two_to opcodes.Index x y p) s (value.Reference r) after → target_of (meaning accesses) scope depth (two_to opcodes.Index x y p) s ≡ (Ok (targets.Refers r), after)
    unfolding target_of indexed_target operand_value settle give go_on ◌>>=◌
    index_is r after gives = rw gives refl

    index_is_refused : (e : Refusal) (after : State S × ℕ) → IsRefused accesses scope depth (two_to opcodes.Index x y p) s e after → target_of (meaning accesses) scope depth (two_to opcodes.Index x y p) s ≡ (Err e, after)
    unfolding target_of indexed_target operand_value settle go_on ◌>>=◌
    index_is_refused e after stops = rw stops refl

  -- ---- what they name, and that they name nothing

  pub behind_is : (u : Tree) (s : State S × ℕ) (t : StoreTarget) (after : State S × ℕ) → NamesBehind accesses scope depth u s t after → target_of (meaning accesses) scope depth u s ≡ (Ok t, after)
  behind_is _ _ _ _ (by_refof p w steps t names) = refof_is (meaning accesses) scope depth p w steps (Ok t) (w, steps) (operand_is (meaning accesses) scope depth p t w steps names)
  behind_is _ _ _ _ (by_refof_again u w steps t after names) = refof_is (meaning accesses) scope depth (inner u) w steps (Ok t) after (rw (inner_is (meaning accesses) scope depth u (w, steps)) (behind_is u (w, steps) t after names))
  behind_is _ _ _ _ (by_derefof x w steps r after gives stands) = derefof_is x w steps (value.Reference r) after gives r refl (stands_tested after.0 r stands)
  behind_is _ _ _ _ (by_index x y p s r after gives) = index_is x y p s r after gives

  pub nothing_is_behind : (u : Tree) (s : State S × ℕ) (e : Refusal) (after : State S × ℕ) → NamesNothingBehind accesses scope depth u s e after → target_of (meaning accesses) scope depth u s ≡ (Err e, after)
  nothing_is_behind _ _ _ _ (unfound_name n w steps e lost) = refof_is (meaning accesses) scope depth (name n) w steps (Err e) (w, steps) (name_is_lost (meaning accesses) scope depth n w steps e lost)
  nothing_is_behind _ _ _ _ (unfound_again u w steps e after none) = refof_is (meaning accesses) scope depth (inner u) w steps (Err e) after (rw (inner_is (meaning accesses) scope depth u (w, steps)) (nothing_is_behind u (w, steps) e after none))
  nothing_is_behind _ _ _ _ (refused_operand x w steps e after stops) = derefof_is_refused x w steps e after stops
  nothing_is_behind _ _ _ _ (no_value x w steps after gives) = derefof_has_no_operand x w steps after gives
  nothing_is_behind _ _ _ _ (no_reference x w steps v after gives not) = derefof_refers_to_nothing x w steps v after gives not
  nothing_is_behind _ _ _ _ (dead_reference x w steps r after gives gone) = derefof_is_dead x w steps (value.Reference r) after gives r refl gone
  nothing_is_behind _ _ _ _ (refused_index x y p s e after stops) = index_is_refused x y p s e after stops
