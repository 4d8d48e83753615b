-- Terms that act on the target that an operand names, by itself or behind RefOf, DerefOf and Index.
use Rattle.std.specs.Prelude.{◌≡◌, ◌⊎◌, ℕ, suc, List, Option, Some, None, Ok, Err, refl}
use Rattle.std.proofs.Common.{inl, inr, ◌∙◌}
use Rattle.ar_space.specs.Accesses.{Accesses}
use Rattle.ar_space.specs.Change.{give, settle, go_on, ◌>>=◌}
use Rattle.ar_space.specs.Outcome.{Outcome}
use Rattle.ar_space.specs.declared.refusal.Refusal.{Refusal}
use Rattle.ar_space.specs.declared.refusal.Refusal.TheVariants as refusal
use Rattle.ar_space.specs.declared.refusal.EvaluationFault.TheVariants.{DeadReference, NoValue}
use Rattle.aml_path.specs.declared.segment.Seg.{Seg}
use Rattle.aml_grammar.specs.Apart.{operand_of}
use Rattle.aml_grammar.specs.declared.opcode.Opcode.{Opcode}
use Rattle.aml_grammar.specs.declared.opcode.Opcode.TheVariants as opcodes
use Rattle.aml_grammar.specs.Tree.{Tree, Part, inner}
use Rattle.aml_objects.specs.Contents.{content_in}
use Rattle.aml_objects.specs.declared.entry.Field.{Field}
use Rattle.aml_objects.specs.declared.value.Reference.{Reference}
use Rattle.aml_objects.specs.declared.value.Reference.TheVariants as reference
use Rattle.aml_objects.specs.declared.value.Value.{Value}
use Rattle.aml_objects.specs.declared.value.Value.TheVariants as value
use Rattle.aml_convert.specs.Conversions.{to_buffer_of}
use Rattle.aml_world.specs.declared.state.profile.Profile.TheVariants as profiles
use Rattle.aml_world.specs.declared.values.store_target.StoreTarget.{StoreTarget}
use Rattle.aml_world.specs.declared.values.store_target.Stored.TheVariants as store
use Rattle.aml_world.specs.declared.values.operation_kind.EventChange.{EventChange}
use Rattle.aml_world.specs.declared.values.operation_kind.EventChange.TheVariants as changes
use Rattle.aml_world.specs.state.Events.{name_referred, event_named}
use Rattle.aml_world.specs.state.Mutexes.{acquired_at, given_back_at}
use Rattle.aml_world.specs.state.Readings.{path_found}
use Rattle.aml_world.specs.state.Run.{lift}
use Rattle.aml_world.specs.state.State.{State}
use Rattle.aml_world.specs.values.StoreTargets.{declaration, name_tested, reference_of, target_named}
use Rattle.aml_world.specs.values.Stores.{copied_to}
use Rattle.aml_meaning.specs.declared.flow.Flow.TheVariants as flow
use Rattle.aml_meaning.specs.Evaluation.{rule}
use Rattle.aml_meaning.specs.FieldCalls.{field_written}
use Rattle.aml_meaning.specs.Meaning.{meaning}
use Rattle.aml_meaning.specs.OperatorTerms.{acquire_rule, reference_rule, copy_rule}
use Rattle.aml_meaning.specs.StatementTerms.{release_rule, notify_rule}
use Rattle.aml_meaning.specs.TargetTerms.{name_target, target_of, target_at}
use Rattle.aml_meaning.specs.Tasks.{task, operand_value, value_at}
use Rattle.aml_meaning.specs.WideTerms.{event_rule, wait_rule}
use Rattle.aml_laws.specs.FieldNames.{bits_written_at}
use Rattle.aml_laws.specs.ObjectTerms.{acquire, on_target, on_target_with, Passes, Declared, Undeclared}
use Rattle.aml_laws.specs.OperatorTerms.{one_to, GivesValue, GivesNothing, Gives, IsRefused}
use Rattle.aml_laws.specs.TargetsNamed.{NamesAt, by_itself, behind, NamesNone, unfound, refused_behind, NamesGone, an_argument}
use Rattle.aml_laws.proofs.EventsNamed.{argument_is, declared_is, undeclared_is}
use Rattle.aml_laws.proofs.FieldNamesUsed.{written_so, not_converted}
use Rattle.aml_laws.proofs.ObjectTermsDone.{event_begins, wait_begins}
use Rattle.aml_laws.proofs.OperandsStop.{refused_stops, nothing_stops}
use Rattle.aml_laws.proofs.OperatorsComputed.{target_is}
use Rattle.aml_laws.proofs.ReferringTargets.{behind_is}
use Rattle.aml_laws.proofs.TreesCost.{term_begins}

module _ {S : Type 0} (accesses : Accesses S) (scope : List Seg) (depth : ℕ) where
  module _ (t : Tree) (i : ℕ) (w : State S) (steps : ℕ) where
    behind_at : (u : Tree) (r : Outcome StoreTarget) (after : State S × ℕ) → operand_of t i ≡ Some (inner u) → target_of (meaning accesses) scope depth u (w, steps) ≡ (r, after) → target_at (meaning accesses) scope depth t i (w, steps) ≡ (r, after)
    behind_at u r after is names = rw is names

    pub named_at : (p : Part) (target : StoreTarget) (after : State S × ℕ) → operand_of t i ≡ Some p → NamesAt accesses scope depth (w, steps) p target after → target_at (meaning accesses) scope depth t i (w, steps) ≡ (Ok target, after)
    named_at _ _ _ is (by_itself p target names) = target_is accesses scope depth t i w steps p target names is
    named_at _ _ _ is (behind u target after names) = behind_at u (Ok target) after is (behind_is accesses scope depth u (w, steps) target after names)

    pub none_at : (p : Part) (e : Refusal) (after : State S × ℕ) → operand_of t i ≡ Some p → NamesNone accesses scope depth (w, steps) p e after → target_at (meaning accesses) scope depth t i (w, steps) ≡ (Err e, after)
    unfolding name_target target_named path_found settle lift go_on ◌>>=◌
    none_at _ _ _ is (unfound n e lost) = rw (is, is, lost) refl
    none_at _ _ _ is (refused_behind u e after stops) = behind_at u (Err e) after is stops

  module _ (p : Part) (w : State S) (steps : ℕ) where
    -- ---- mutexes

    module _ (t : StoreTarget) (between : State S × ℕ) (names : NamesAt accesses scope depth (w, steps) p t between) (end : State S) where
      acquire_so : (time : ℕ) → acquired_at t between.0 ≡ (Ok tt, end) → rule accesses (meaning accesses) (task scope depth (acquire p time)) (w, steps) ≡ (Ok (flow.Value (value.Integer 0)), (end, between.1))
      unfolding rule acquire_rule lift give go_on ◌>>=◌
      acquire_so time is = rw (named_at (acquire p time) 0 w steps p t between refl names, is) refl

      acquire_stops : (time : ℕ) (e : Refusal) → acquired_at t between.0 ≡ (Err e, end) → rule accesses (meaning accesses) (task scope depth (acquire p time)) (w, steps) ≡ (Err e, (end, between.1))
      unfolding rule acquire_rule lift go_on ◌>>=◌
      acquire_stops time e is = rw (named_at (acquire p time) 0 w steps p t between refl names, is) refl

      release_so : given_back_at t between.0 ≡ (Ok tt, end) → rule accesses (meaning accesses) (task scope depth (on_target opcodes.Release p)) (w, steps) ≡ (Ok flow.Next, (end, between.1))
      unfolding rule release_rule lift give go_on ◌>>=◌
      release_so is = rw (named_at (on_target opcodes.Release p) 0 w steps p t between refl names, is) refl

      release_stops : (e : Refusal) → given_back_at t between.0 ≡ (Err e, end) → rule accesses (meaning accesses) (task scope depth (on_target opcodes.Release p)) (w, steps) ≡ (Err e, (end, between.1))
      unfolding rule release_rule lift go_on ◌>>=◌
      release_stops e is = rw (named_at (on_target opcodes.Release p) 0 w steps p t between refl names, is) refl

      refof_so : (r : Reference) → reference_of t between.0 ≡ (Ok r, end) → rule accesses (meaning accesses) (task scope depth (on_target opcodes.RefOf p)) (w, steps) ≡ (Ok (flow.Value (value.Reference r)), (end, between.1))
      unfolding rule reference_rule lift give go_on ◌>>=◌
      refof_so r is = rw (named_at (on_target opcodes.RefOf p) 0 w steps p t between refl names, is) refl

      refof_stops : (e : Refusal) → reference_of t between.0 ≡ (Err e, end) → rule accesses (meaning accesses) (task scope depth (on_target opcodes.RefOf p)) (w, steps) ≡ (Err e, (end, between.1))
      unfolding rule reference_rule lift go_on ◌>>=◌
      refof_stops e is = rw (named_at (on_target opcodes.RefOf p) 0 w steps p t between refl names, is) refl

      pub refers_at : ((r : Reference) → reference_of t between.0 ≡ (Ok r, end) → GivesValue accesses scope depth (on_target opcodes.RefOf p) (w, suc steps) (value.Reference r) (end, between.1))
          × ((e : Refusal) → reference_of t between.0 ≡ (Err e, end) → IsRefused accesses scope depth (on_target opcodes.RefOf p) (w, suc steps) e (end, between.1))
      refers_at = (
        λ r is. (term_begins accesses (task scope depth (on_target opcodes.RefOf p))).paid w steps ∙ refof_so r is,
        λ e is. (term_begins accesses (task scope depth (on_target opcodes.RefOf p))).paid w steps ∙ refof_stops e is,
      )

      pub acquires_at : (time : ℕ) → (acquired_at t between.0 ≡ (Ok tt, end) → Gives accesses scope depth (acquire p time) (w, suc steps) 0 (end, between.1))
          × ((e : Refusal) → acquired_at t between.0 ≡ (Err e, end) → IsRefused accesses scope depth (acquire p time) (w, suc steps) e (end, between.1))
      acquires_at time = (
        λ is. (term_begins accesses (task scope depth (acquire p time))).paid w steps ∙ acquire_so time is,
        λ e is. (term_begins accesses (task scope depth (acquire p time))).paid w steps ∙ acquire_stops time e is,
      )

      pub releases_at : (given_back_at t between.0 ≡ (Ok tt, end) → Passes accesses scope depth (on_target opcodes.Release p) (w, suc steps) (end, between.1))
          × ((e : Refusal) → given_back_at t between.0 ≡ (Err e, end) → IsRefused accesses scope depth (on_target opcodes.Release p) (w, suc steps) e (end, between.1))
      releases_at = (
        λ is. (term_begins accesses (task scope depth (on_target opcodes.Release p))).paid w steps ∙ release_so is,
        λ e is. (term_begins accesses (task scope depth (on_target opcodes.Release p))).paid w steps ∙ release_stops e is,
      )

    -- ---- no target

    module _ (e : Refusal) (after : State S × ℕ) (none : NamesNone accesses scope depth (w, steps) p e after) where
      no_acquire : (time : ℕ) → rule accesses (meaning accesses) (task scope depth (acquire p time)) (w, steps) ≡ (Err e, after)
      unfolding rule acquire_rule go_on ◌>>=◌
      no_acquire time = rw (none_at (acquire p time) 0 w steps p e after refl none) refl

      no_release : rule accesses (meaning accesses) (task scope depth (on_target opcodes.Release p)) (w, steps) ≡ (Err e, after)
      unfolding rule release_rule go_on ◌>>=◌
      no_release = rw (none_at (on_target opcodes.Release p) 0 w steps p e after refl none) refl

      pub no_mutex_at : ((time : ℕ) → IsRefused accesses scope depth (acquire p time) (w, suc steps) e after) × IsRefused accesses scope depth (on_target opcodes.Release p) (w, suc steps) e after
      no_mutex_at = (
        λ time. (term_begins accesses (task scope depth (acquire p time))).paid w steps ∙ no_acquire time,
        (term_begins accesses (task scope depth (on_target opcodes.Release p))).paid w steps ∙ no_release,
      )

      no_refof : rule accesses (meaning accesses) (task scope depth (on_target opcodes.RefOf p)) (w, steps) ≡ (Err e, after)
      unfolding rule reference_rule go_on ◌>>=◌
      no_refof = rw (none_at (on_target opcodes.RefOf p) 0 w steps p e after refl none) refl

      pub no_reference_at : IsRefused accesses scope depth (on_target opcodes.RefOf p) (w, suc steps) e after
      no_reference_at = (term_begins accesses (task scope depth (on_target opcodes.RefOf p))).paid w steps ∙ no_refof

      no_notify : (x : Tree) → rule accesses (meaning accesses) (task scope depth (on_target_with opcodes.Notify p x)) (w, steps) ≡ (Err e, after)
      unfolding rule notify_rule go_on ◌>>=◌
      no_notify x = rw (none_at (on_target_with opcodes.Notify p x) 0 w steps p e after refl none) refl

      pub no_object_at : (x : Tree) → IsRefused accesses scope depth (on_target_with opcodes.Notify p x) (w, suc steps) e after
      no_object_at x = (term_begins accesses (task scope depth (on_target_with opcodes.Notify p x))).paid w steps ∙ no_notify x

    -- ---- Notify

    module _ (t : StoreTarget) (between : State S × ℕ) (names : NamesAt accesses scope depth (w, steps) p t between) (x : Tree) (after : State S × ℕ) where
      notify_so : (v : Value) → GivesValue accesses scope depth x between v after → rule accesses (meaning accesses) (task scope depth (on_target_with opcodes.Notify p x)) (w, steps) ≡ (Ok flow.Next, after)
      unfolding rule notify_rule value_at operand_value settle give go_on ◌>>=◌
      notify_so v gives = rw (named_at (on_target_with opcodes.Notify p x) 0 w steps p t between refl names, gives) refl

      notify_stops : (e : Refusal) → operand_value (meaning accesses) scope depth x between ≡ (Err e, after) → rule accesses (meaning accesses) (task scope depth (on_target_with opcodes.Notify p x)) (w, steps) ≡ (Err e, after)
      unfolding rule notify_rule value_at settle give go_on ◌>>=◌
      notify_stops e is = rw (named_at (on_target_with opcodes.Notify p x) 0 w steps p t between refl names, is) refl

      pub notifies_at : (v : Value) → GivesValue accesses scope depth x between v after → Passes accesses scope depth (on_target_with opcodes.Notify p x) (w, suc steps) after
      notifies_at v gives = (term_begins accesses (task scope depth (on_target_with opcodes.Notify p x))).paid w steps ∙ notify_so v gives

      pub notifies_nothing : ((e : Refusal) → IsRefused accesses scope depth x between e after → IsRefused accesses scope depth (on_target_with opcodes.Notify p x) (w, suc steps) e after)
          × (GivesNothing accesses scope depth x between after → IsRefused accesses scope depth (on_target_with opcodes.Notify p x) (w, suc steps) (refusal.Evaluation NoValue) after)
      notifies_nothing = (
        λ e is. (term_begins accesses (task scope depth (on_target_with opcodes.Notify p x))).paid w steps ∙ notify_stops e (refused_stops accesses scope depth x between e after is),
        λ is. (term_begins accesses (task scope depth (on_target_with opcodes.Notify p x))).paid w steps ∙ notify_stops (refusal.Evaluation NoValue) (nothing_stops accesses scope depth x between after is),
      )

  -- ---- CopyObject

  module _ (x : Tree) (p : Part) (w : State S) (steps : ℕ) (v : Value) (between : State S × ℕ) (gives : GivesValue accesses scope depth x (w, steps) v between) where
    abbrev copy : Tree
    copy = one_to opcodes.CopyObject x p

    begins : meaning accesses (task scope depth copy) (w, suc steps) ≡ rule accesses (meaning accesses) (task scope depth copy) (w, steps)
    begins = (term_begins accesses (task scope depth copy)).paid w steps

    module _ (t : StoreTarget) (after : State S × ℕ) (names : NamesAt accesses scope depth between p t after) where
      named_so : target_at (meaning accesses) scope depth copy 1 between ≡ (Ok t, after)
      named_so = named_at copy 1 between.0 between.1 p t after refl names

      copy_so : (end : State S) → copied_to t v after.0 ≡ (Ok store.Done, end) → rule accesses (meaning accesses) (task scope depth copy) (w, steps) ≡ (Ok (flow.Value v), (end, after.1))
      unfolding rule copy_rule value_at operand_value settle lift give go_on ◌>>=◌
      copy_so end is = rw (gives, named_so, is) refl

      copy_stops : (e : Refusal) (end : State S) → copied_to t v after.0 ≡ (Err e, end) → rule accesses (meaning accesses) (task scope depth copy) (w, steps) ≡ (Err e, (end, after.1))
      unfolding rule copy_rule value_at operand_value settle lift go_on ◌>>=◌
      copy_stops e end is = rw (gives, named_so, is) refl

      pub copies_at : (end : State S) → (copied_to t v after.0 ≡ (Ok store.Done, end) → GivesValue accesses scope depth copy (w, suc steps) v (end, after.1)) × ((e : Refusal) → copied_to t v after.0 ≡ (Err e, end) → IsRefused accesses scope depth copy (w, suc steps) e (end, after.1))
      copies_at end = (λ is. begins ∙ copy_so end is, λ e is. begins ∙ copy_stops e end is)

      module _ (f : Field) (there : State S) (finds : copied_to t v after.0 ≡ (Ok (store.Field f), there)) where
        write_so : (end : State S × ℕ) → field_written accesses (meaning accesses) depth f v (there, after.1) ≡ (Ok tt, end) → rule accesses (meaning accesses) (task scope depth copy) (w, steps) ≡ (Ok (flow.Value v), end)
        unfolding rule copy_rule value_at operand_value settle lift give go_on ◌>>=◌
        write_so end is = rw (gives, named_so, finds, is) refl

        write_stops : (e : Refusal) (end : State S × ℕ) → field_written accesses (meaning accesses) depth f v (there, after.1) ≡ (Err e, end) → rule accesses (meaning accesses) (task scope depth copy) (w, steps) ≡ (Err e, end)
        unfolding rule copy_rule value_at operand_value settle lift go_on ◌>>=◌
        write_stops e end is = rw (gives, named_so, finds, is) refl

        pub writes_at : (bytes : List ℕ) (end : State S × ℕ) → to_buffer_of there.width (content_in there.objects v) ≡ Ok bytes
            → (bits_written_at accesses depth f bytes (there, after.1) ≡ (Ok tt, end) → GivesValue accesses scope depth copy (w, suc steps) v end)
            × ((e : Refusal) → bits_written_at accesses depth f bytes (there, after.1) ≡ (Err e, end) → IsRefused accesses scope depth copy (w, suc steps) e end)
        writes_at bytes end converts = (
          λ is. begins ∙ write_so end (written_so accesses depth f v (there, after.1) bytes (Ok tt) end converts is),
          λ e is. begins ∙ write_stops e end (written_so accesses depth f v (there, after.1) bytes (Err e) end converts is),
        )

        pub converts_not : (e : Refusal) → to_buffer_of there.width (content_in there.objects v) ≡ Err e → IsRefused accesses scope depth copy (w, suc steps) e (there, after.1)
        converts_not e is = begins ∙ write_stops e (there, after.1) (not_converted accesses depth f v (there, after.1) e is)

    no_copy : (e : Refusal) (after : State S × ℕ) → target_at (meaning accesses) scope depth copy 1 between ≡ (Err e, after) → rule accesses (meaning accesses) (task scope depth copy) (w, steps) ≡ (Err e, after)
    unfolding rule copy_rule value_at operand_value settle go_on ◌>>=◌
    no_copy e after is = rw (gives, is) refl

    pub copies_to_nothing : (e : Refusal) (after : State S × ℕ) → NamesNone accesses scope depth between p e after → IsRefused accesses scope depth copy (w, suc steps) e after
    copies_to_nothing e after none = begins ∙ no_copy e after (none_at copy 1 between.0 between.1 p e after refl none)

  -- ---- events

  module _ (p : Part) (t : StoreTarget) (w : State S) (steps : ℕ) (between : State S × ℕ) (is_wide : w.profile ≡ profiles.Wide) (names : NamesAt accesses scope depth (w, steps) p t between) where
    module _ (e : Refusal) (stops : event_named t between.0 ≡ (Err e, between.0)) where
      event_gone : (k : EventChange) (op : Opcode) → event_rule accesses (meaning accesses) k scope depth (on_target op p) (w, steps) ≡ (Err e, between)
      unfolding event_rule lift go_on ◌>>=◌
      event_gone k op = rw (named_at (on_target op p) 0 w steps p t between refl names, stops) refl

      wait_gone : (x : Tree) → wait_rule accesses (meaning accesses) scope depth (on_target_with opcodes.Wait p x) (w, steps) ≡ (Err e, between)
      unfolding wait_rule lift go_on ◌>>=◌
      wait_gone x = rw (named_at (on_target_with opcodes.Wait p x) 0 w steps p t between refl names, stops) refl

      all_gone : (IsRefused accesses scope depth (on_target opcodes.Signal p) (w, suc steps) e between) × (IsRefused accesses scope depth (on_target opcodes.Reset p) (w, suc steps) e between) × ((x : Tree) → IsRefused accesses scope depth (on_target_with opcodes.Wait p x) (w, suc steps) e between)
      all_gone = (
        event_begins accesses scope depth p w steps is_wide changes.Signal opcodes.Signal refl ∙ event_gone changes.Signal opcodes.Signal,
        event_begins accesses scope depth p w steps is_wide changes.Reset opcodes.Reset refl ∙ event_gone changes.Reset opcodes.Reset,
        λ x. wait_begins accesses scope depth p w steps is_wide x ∙ wait_gone x,
      )

    dead : (v : State S) (u : StoreTarget) → NamesGone v u → event_named u v ≡ (Err (refusal.Evaluation DeadReference), v)
    unfolding name_referred name_tested declaration go_on ◌>>=◌
    dead v _ (an_argument i last n holds gone) = argument_is v i last (value.Reference (reference.Name n)) holds ∙ rw gone refl

    pub gone_at : NamesGone between.0 t → (IsRefused accesses scope depth (on_target opcodes.Signal p) (w, suc steps) (refusal.Evaluation DeadReference) between) × (IsRefused accesses scope depth (on_target opcodes.Reset p) (w, suc steps) (refusal.Evaluation DeadReference) between)
        × ((x : Tree) → IsRefused accesses scope depth (on_target_with opcodes.Wait p x) (w, suc steps) (refusal.Evaluation DeadReference) between)
    gone_at gone = all_gone (refusal.Evaluation DeadReference) (dead between.0 t gone)

    -- a timeout without a value
    wait_stops : (event : Option ℕ) → event_named t between.0 ≡ (Ok event, between.0) → (x : Tree) (e : Refusal) (after : State S × ℕ) → operand_value (meaning accesses) scope depth x between ≡ (Err e, after)
        → wait_rule accesses (meaning accesses) scope depth (on_target_with opcodes.Wait p x) (w, steps) ≡ (Err e, after)
    unfolding wait_rule value_at settle lift give go_on ◌>>=◌
    wait_stops event is_named x e after is = rw (named_at (on_target_with opcodes.Wait p x) 0 w steps p t between refl names, is_named, is) refl

    event_told : (at : ℕ) → Declared between.0 t at ⊎ Undeclared between.0 t → (event : Option ℕ) × (event_named t between.0 ≡ (Ok event, between.0))
    event_told at (inl declared) = (Some at, declared_is between.0 t at declared)
    event_told at (inr undeclared) = (None, undeclared_is between.0 t undeclared)

    pub waits_for_no_time : (at : ℕ) → Declared between.0 t at ⊎ Undeclared between.0 t → (x : Tree) (after : State S × ℕ)
        → ((e : Refusal) → IsRefused accesses scope depth x between e after → IsRefused accesses scope depth (on_target_with opcodes.Wait p x) (w, suc steps) e after)
        × (GivesNothing accesses scope depth x between after → IsRefused accesses scope depth (on_target_with opcodes.Wait p x) (w, suc steps) (refusal.Evaluation NoValue) after)
    waits_for_no_time at either x after =
        let told = event_told at either in (
          λ e is. wait_begins accesses scope depth p w steps is_wide x ∙ wait_stops told.0 told.1 x e after (refused_stops accesses scope depth x between e after is),
          λ is. wait_begins accesses scope depth p w steps is_wide x ∙ wait_stops told.0 told.1 x (refusal.Evaluation NoValue) after (nothing_stops accesses scope depth x between after is),
        )

  -- an event that isn't found
  module _ (p : Part) (w : State S) (steps : ℕ) (e : Refusal) (after : State S × ℕ) (is_wide : w.profile ≡ profiles.Wide) (none : NamesNone accesses scope depth (w, steps) p e after) where
    no_event : (k : EventChange) (op : Opcode) → event_rule accesses (meaning accesses) k scope depth (on_target op p) (w, steps) ≡ (Err e, after)
    unfolding event_rule go_on ◌>>=◌
    no_event k op = rw (none_at (on_target op p) 0 w steps p e after refl none) refl

    no_wait : (x : Tree) → wait_rule accesses (meaning accesses) scope depth (on_target_with opcodes.Wait p x) (w, steps) ≡ (Err e, after)
    unfolding wait_rule go_on ◌>>=◌
    no_wait x = rw (none_at (on_target_with opcodes.Wait p x) 0 w steps p e after refl none) refl

    pub no_event_at : (IsRefused accesses scope depth (on_target opcodes.Signal p) (w, suc steps) e after) × (IsRefused accesses scope depth (on_target opcodes.Reset p) (w, suc steps) e after)
        × ((x : Tree) → IsRefused accesses scope depth (on_target_with opcodes.Wait p x) (w, suc steps) e after)
    no_event_at = (
      event_begins accesses scope depth p w steps is_wide changes.Signal opcodes.Signal refl ∙ no_event changes.Signal opcodes.Signal,
      event_begins accesses scope depth p w steps is_wide changes.Reset opcodes.Reset refl ∙ no_event changes.Reset opcodes.Reset,
      λ x. wait_begins accesses scope depth p w steps is_wide x ∙ no_wait x,
    )
