-- A table leaves the world that its terms left, without their frame.
use Rattle.std.specs.Prelude.{◌≡◌, ◌<◌, ◌==◌, ◌-◌, ◌^◌, ℕ, List, [], true, false, replicate, Ok, Err, refl}
use Rattle.std.proofs.Common.{arith, ap, sym, subst, ◌∙◌}
use Rattle.std.proofs.lemmas.Bool.Decides.{nat_tests}
use Rattle.std.proofs.lemmas.Option.{get_or_from_slice_get}
use Rattle.ar_space.specs.declared.refusal.Refusal.TheVariants as refusal
use Rattle.ar_space.specs.declared.refusal.EvaluationFault.TheVariants.{ObjectLimit}
use Rattle.ar_space.specs.Accesses.{Accesses}
use Rattle.ar_space.specs.Outcome.{Outcome, seen}
use Rattle.ar_space.specs.Change.{give, go_on, ◌>>=◌}
use Rattle.aml_grammar.specs.Tree.{Trees}
use Rattle.aml_objects.specs.declared.value.Value.{Value}
use Rattle.aml_objects.specs.declared.value.Value.TheVariants as value
use Rattle.aml_world.specs.state.Mutexes.{released}
use Rattle.aml_world.specs.state.Slots.{opened, closed}
use Rattle.aml_world.specs.state.State.{State}
use Rattle.aml_meaning.specs.declared.flow.Flow.{Flow}
use Rattle.aml_meaning.specs.Calling.{ending, with_steps, framed, in_frame, table_terms, table_run, at_root, loaded}
use Rattle.aml_laws.specs.Ends.{EndsAs, at_the_root, TableEnds}
use Rattle.aml_laws.specs.FramesOpened.{IsFrameOpened}
use Rattle.aml_laws.specs.Numbers.{numbers_of}
use Rattle.aml_laws.proofs.FrameNumbers.{numbers_pushed, list_is_balanced}
use Rattle.aml_laws.proofs.FramesOpened.{empty_local, none_there}
use Rattle.aml_laws.proofs.FramesTaken.{latest_is_taken}
use Rattle.aml_laws.proofs.WorldRelations.{in_new_frame}
use Rattle.aml_laws.proofs.WorldsReleased.{world_released}

-- seven arguments without a value
abbrev pub table_slots : List Value
table_slots = replicate 7 value.Uninitialized

module _ {S : Type 0} where
  done : (r : Outcome Flow) (s : State S × ℕ) → ◌≡◌ {A = Outcome (Unit {0}) × (State S × ℕ)} (go_on r s (λ last. give tt)) (seen (λ last. tt) r, s)
  unfolding go_on give
  done (Ok f) s = refl
  done (Err e) s = refl

  pub root_is : (accesses : Accesses S) (ts : Trees) (w : State S) (steps : ℕ) → at_root accesses ts (w, steps) ≡ (seen (λ last. tt) (at_the_root accesses ts w steps).0, (at_the_root accesses ts w steps).1)
  unfolding at_root ◌>>=◌
  root_is accesses ts w steps = done (at_the_root accesses ts w steps).0 (at_the_root accesses ts w steps).1

  pub frame_of_table : (w : State S) → IsFrameOpened w table_slots w.started (in_new_frame table_slots w)
  frame_of_table w = record {
    frame = record { number = w.started; locals = replicate 8 value.Uninitialized; arguments = table_slots };
    is = refl;
    next = refl;
    numbered = refl;
    argument = λ i v less at. get_or_from_slice_get table_slots i v value.Uninitialized at;
    none = λ i less past. none_there table_slots i past;
    local = empty_local;
  }

  pub opens_so : (w : State S) → (w.started == 2 ^ 64 - 1) ≡ false → opened table_slots w ≡ (Ok w.started, in_new_frame table_slots w)
  unfolding opened
  opens_so w other = rw other refl

  pub stops_so : (w : State S) → (w.started == 2 ^ 64 - 1) ≡ true → opened table_slots w ≡ (Err (refusal.Evaluation ObjectLimit), w)
  unfolding opened
  stops_so w same = rw same refl

  room_is : (w : State S) → w.started < 2 ^ 64 - 1 → opened table_slots w ≡ (Ok w.started, in_new_frame table_slots w)
  room_is w room = opens_so w (grind (arith, nat_tests))

  no_room : (w : State S) → w.started ≡ 2 ^ 64 - 1 → opened table_slots w ≡ (Err (refusal.Evaluation ObjectLimit), w)
  no_room w last = stops_so w (grind (arith, nat_tests))

  module _ (accesses : Accesses S) (bytes : List ℕ) (steps : ℕ) (w told : State S) (ts : Trees) (read : table_terms bytes w ≡ (Ok ts, told)) where
    ran_so : opened table_slots told ≡ (Ok told.started, in_new_frame table_slots told)
        → loaded accesses bytes steps w ≡ ((at_root accesses ts (in_new_frame table_slots told, steps)).0, released (closed (at_root accesses ts (in_new_frame table_slots told, steps)).1.0))
    unfolding loaded ending table_run in_frame framed with_steps go_on ◌>>=◌
    ran_so opens = rw (read, opens) refl

    pub loaded_is : opened table_slots told ≡ (Ok told.started, in_new_frame table_slots told)
        → loaded accesses bytes steps w ≡ (seen (λ last. tt) (at_the_root accesses ts (in_new_frame table_slots told) steps).0, released (closed (at_the_root accesses ts (in_new_frame table_slots told) steps).1.0))
    loaded_is opens = ran_so opens ∙ ap (λ (r : Outcome (Unit {0}) × (State S × ℕ)). (r.0, released (closed r.1.0))) (root_is accesses ts (in_new_frame table_slots told) steps)

    pub table_ends : told.started < 2 ^ 64 - 1 → TableEnds accesses steps ts told (loaded accesses bytes steps w)
    table_ends room =
        let left = (at_the_root accesses ts (in_new_frame table_slots told) steps).1.0 in
        subst (λ (e : Outcome (Unit {0}) × State S). TableEnds accesses steps ts told e) (sym (loaded_is (room_is told room))) (record {
          number = told.started;
          inside = in_new_frame table_slots told;
          begins = frame_of_table told;
          outcome = refl;
          frame = latest_is_taken left.frames (numbers_of told.frames) told.started (list_is_balanced accesses [] 0 ts (in_new_frame table_slots told, steps) ∙ numbers_pushed told.frames _);
          world = world_released (closed left);
        })

    pub not_begun : opened table_slots told ≡ (Err (refusal.Evaluation ObjectLimit), told) → loaded accesses bytes steps w ≡ (Err (refusal.Evaluation ObjectLimit), released told)
    unfolding loaded ending table_run in_frame go_on ◌>>=◌
    not_begun stops = rw (read, stops) refl

    pub table_without_frame : told.started ≡ 2 ^ 64 - 1 → EndsAs (Err (refusal.Evaluation ObjectLimit), (told, steps)) (loaded accesses bytes steps w)
    table_without_frame last =
        subst (λ (e : Outcome (Unit {0}) × State S). EndsAs (Err (refusal.Evaluation ObjectLimit), (told, steps)) e) (sym (not_begun (no_room told last))) (record { outcome = refl; world = world_released told })
