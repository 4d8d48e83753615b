-- A table, an object or an answer that is refused for want of steps has an evaluation that is refused so, with none left.
use Rattle.std.specs.Prelude.{◌≡◌, ◌==◌, ◌-◌, ◌^◌, ℕ, List, [], length, Bool, true, false, Ok, Err, refl}
use Rattle.std.proofs.Common.{arith, ap, sym, subst, ◌∙◌}
use Rattle.ar_space.specs.declared.refusal.Refusal.{Refusal}
use Rattle.ar_space.specs.declared.refusal.Refusal.TheVariants as refusal
use Rattle.ar_space.specs.declared.refusal.EvaluationFault.TheVariants.{OutOfSteps}
use Rattle.ar_space.specs.Accesses.{Accesses}
use Rattle.ar_space.specs.Outcome.{Outcome, seen}
use Rattle.aml_path.specs.declared.segment.Seg.{Seg}
use Rattle.aml_arities.specs.declared.arities.Arity.{Arity}
use Rattle.aml_grammar.specs.Grammar.{table_reading_within}
use Rattle.aml_grammar.specs.Shape.{trees_of}
use Rattle.aml_grammar.specs.Tree.{Tree, Trees}
use Rattle.aml_objects.specs.declared.value.Value.{Value}
use Rattle.aml_world.specs.state.Given.{Given}
use Rattle.aml_world.specs.state.State.{State}
use Rattle.aml_meaning.specs.declared.flow.Flow.{Flow}
use Rattle.aml_meaning.specs.Calling.{table_terms, loaded, called, with_rest, counted, evaluated, answer_exported, answered, ending, with_steps}
use Rattle.aml_laws.specs.Ends.{at_the_root, TableRunsOut}
use Rattle.aml_laws.proofs.CleanReading.{table_reading_within_clean}
use Rattle.aml_laws.proofs.FaultsOfChanges.{Spent, clean_spent}
use Rattle.aml_laws.proofs.OutOfSteps.{list_spent, value_spent, answer_spent}
use Rattle.aml_laws.proofs.TablesEnded.{table_slots, frame_of_table, opens_so, stops_so, loaded_is, not_begun}
use Rattle.aml_laws.proofs.TablesRead.{table_read, table_not_loaded}
use Rattle.aml_laws.proofs.WorldRelations.{in_new_frame}

never_spent : (x : Refusal) → Spent {A = Unit {0}} (Err x) 1 → x ≡ refusal.Evaluation OutOfSteps → ⊥
never_spent x spent is = let none : 1 ≡ 0 = subst (λ y. Spent {A = Unit {0}} (Err y) 1) is spent in omega (arith, none)

out_of : (r : Outcome Flow) → ◌≡◌ {A = Outcome (Unit {0})} (seen (λ last. tt) r) (Err (refusal.Evaluation OutOfSteps)) → r ≡ Err (refusal.Evaluation OutOfSteps)
out_of (Ok f) e = absurd (cc e)
out_of (Err x) e = cc e

value_out_of : (r : Outcome Value) (rest : ℕ) → with_rest r rest ≡ Err (refusal.Evaluation OutOfSteps) → r ≡ Err (refusal.Evaluation OutOfSteps)
value_out_of (Ok v) rest e = absurd (cc e)
value_out_of (Err x) rest e = cc e

module _ {S : Type 0} where
  module _ (accesses : Accesses S) (bytes : List ℕ) (steps : ℕ) (w told : State S) (ts : Trees) (read : table_terms bytes w ≡ (Ok ts, told)) where
    by_room : (b : Bool) → (told.started == 2 ^ 64 - 1) ≡ b → (loaded accesses bytes steps w).0 ≡ Err (refusal.Evaluation OutOfSteps) → TableRunsOut accesses bytes steps w
    by_room true is e = absurd (cc (sym (ap (λ (r : Outcome (Unit {0}) × State S). r.0) (not_begun accesses bytes steps w told ts read (stops_so told is))) ∙ e))
    by_room false is e =
        let refused = out_of (at_the_root accesses ts (in_new_frame table_slots told) steps).0 (sym (ap (λ (r : Outcome (Unit {0}) × State S). r.0) (loaded_is accesses bytes steps w told ts read (opens_so told is))) ∙ e) in
        record {
          terms = ts;
          told = told;
          read = read;
          number = told.started;
          inside = in_new_frame table_slots told;
          begins = frame_of_table told;
          refused = refused;
          none_left = list_spent accesses [] 0 ts (in_new_frame table_slots told, steps) refused;
        }

  module _ (accesses : Accesses S) (bytes : List ℕ) (steps : ℕ) (w : State S) where
    by_reading : (x : Outcome (List Tree × List Arity)) → table_reading_within w.nesting.levels bytes w.arities ≡ x → Spent x 1 → (loaded accesses bytes steps w).0 ≡ Err (refusal.Evaluation OutOfSteps) → TableRunsOut accesses bytes steps w
    by_reading (Ok (ts, told)) is spent e = by_room accesses bytes steps w (record w { arities = told }) (trees_of ts) (table_read w bytes ts told is) (w.started == 2 ^ 64 - 1) refl e
    by_reading (Err x) is spent e =
        let same = sym (ap (λ (r : Outcome (Unit {0}) × State S). r.0) (table_not_loaded accesses w bytes steps x is)) ∙ e in
        absurd (never_spent x spent (cc same))

    pub table_runs_out : (loaded accesses bytes steps w).0 ≡ Err (refusal.Evaluation OutOfSteps) → TableRunsOut accesses bytes steps w
    table_runs_out e =
        let reading = table_reading_within w.nesting.levels bytes w.arities in
        by_reading reading refl (clean_spent _ reading 1 (table_reading_within_clean w.nesting.levels bytes w.arities)) e

  -- ---- the value of an object, and an answer

  pub value_runs_out : (accesses : Accesses S) (p : List Seg) (vs : List Value) (steps : ℕ) (w : State S) → (evaluated accesses p vs steps w).0 ≡ Err (refusal.Evaluation OutOfSteps)
      → ((called accesses p vs (w, steps)).0 ≡ Err (refusal.Evaluation OutOfSteps)) × ((called accesses p vs (w, steps)).1.1 ≡ 0)
  unfolding evaluated counted
  value_runs_out accesses p vs steps w e =
      let refused = value_out_of (called accesses p vs (w, steps)).0 (called accesses p vs (w, steps)).1.1 e in
      (refused, value_spent accesses p vs (w, steps) refused)

  pub answer_runs_out : (accesses : Accesses S) (p : List Seg) (gs : List Given) (steps : ℕ) (w : State S) → (answered accesses p gs steps w).0 ≡ Err (refusal.Evaluation OutOfSteps)
      → ((answer_exported accesses p (length gs) gs (w, steps)).0 ≡ Err (refusal.Evaluation OutOfSteps)) × ((answer_exported accesses p (length gs) gs (w, steps)).1.1 ≡ 0)
  unfolding answered ending with_steps
  answer_runs_out accesses p gs steps w e = (e, answer_spent accesses p (length gs) gs (w, steps) e)
