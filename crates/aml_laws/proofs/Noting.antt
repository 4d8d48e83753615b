-- Noting accesses changes nothing: a register space with notes is in step with the one below it. A lemma `x_unnoted` says so of x.
use Rattle.std.specs.Prelude.{◌≡◌, ℕ, List, refl}
use Rattle.std.proofs.Common.{inl, inr, sym, ap, ◌∙◌}
use Rattle.ar_space.specs.Accesses.{Accesses}
use Rattle.ar_space.specs.Outcome.{Outcome}
use Rattle.aml_path.specs.declared.segment.Seg.{Seg}
use Rattle.aml_grammar.specs.Tree.{Trees}
use Rattle.aml_objects.specs.declared.value.Value.{Value}
use Rattle.aml_objects.specs.declared.entry.FieldUnit.{FieldUnit}
use Rattle.aml_fields.specs.declared.region.Region.{Region}
use Rattle.aml_fields.specs.Regions.{read_field, write_field}
use Rattle.aml_world.specs.state.Given.{Given}
use Rattle.aml_world.specs.state.State.{State}
use Rattle.aml_meaning.specs.Tasks.{Task, in_turn}
use Rattle.aml_meaning.specs.Calls.{invoked}
use Rattle.aml_meaning.specs.Meaning.{meaning}
use Rattle.aml_meaning.specs.Calling.{loaded, evaluated, answered}
use Rattle.aml_laws.specs.Noted.{WithNotes, noted, without_notes, outcome_without_notes}
use Rattle.aml_laws.proofs.Together.{SideBySide, Shape, Goes, alike, goes_from, spaces}
use Rattle.aml_laws.proofs.WorldsTogether.{worlds, runs, world_over}
use Rattle.aml_laws.proofs.UnitsTogether.{read_field_together, write_field_together}
use Rattle.aml_laws.proofs.OperandsTogether.{invoked_together}
use Rattle.aml_laws.proofs.Levels.{one_profile}
use Rattle.aml_laws.proofs.MeaningTogether.{meaning_together, meaning_parts, list_together}
use Rattle.aml_laws.proofs.EvaluationsTogether.{loaded_together, evaluated_together, answered_together}

module _ {S : Type 0} (accesses : Accesses S) where
  -- they never part
  unfoldable pub noting : SideBySide accesses (noted accesses)
  noting = record {
    InStep = λ s t. t.0 ≡ s;
    Parted = λ s t. ⊥;
    reads = λ s t place width i. inr (ap (λ u. (accesses.reads u place width).0) i, ap (λ u. (accesses.reads u place width).1) i);
    writes = λ s t place width value i. inr (ap (λ u. (accesses.writes u place width value).0) i, ap (λ u. (accesses.writes u place width value).1) i);
    left_reads = λ s t place width p. p;
    left_writes = λ s t place width value p. p;
    right_reads = λ s t place width p. p;
    right_writes = λ s t place width value p. p;
  }

  -- what goes the same way is the same but for the notes
  pub goes_unnoted : {X Y A : Type 0} (shape : Shape S (WithNotes S) X Y) (without : Y → X) → ((x : X) (t : WithNotes S) → t.0 ≡ shape.left x → without (shape.over (λ r. r, λ d. d) (λ n. n) x t) ≡ x) → (p : Outcome A × X) (q : Outcome A × Y) → Goes noting shape p q → p ≡ (q.0, without q.1)
  unfolding noting
  goes_unnoted shape without back p q (inl parted) = absurd parted
  goes_unnoted shape without back p q (inr (t, same, i)) = ap (λ x. (p.0, x)) (sym (back p.1 t i)) ∙ sym (ap (λ (y : Outcome _ × _). (y.0, without y.1)) same)

  world_back : (w : State S) (t : WithNotes S) → t.0 ≡ w.space → without_notes (world_over (λ r. r, λ d. d) w t) ≡ w
  world_back w t i = ap (λ s. world_over (λ r. r, λ d. d) w s) i

  pub world_unnoted : {A : Type 0} (p : Outcome A × State S) (q : Outcome A × State (WithNotes S)) → Goes noting worlds p q → p ≡ (q.0, without_notes q.1)
  world_unnoted p q g = goes_unnoted worlds without_notes world_back p q g

  pub run_unnoted : {A : Type 0} (p : Outcome A × (State S × ℕ)) (q : Outcome A × (State (WithNotes S) × ℕ)) → Goes noting runs p q → p ≡ outcome_without_notes q
  run_unnoted p q g = goes_unnoted runs (λ s. (without_notes s.0, s.1)) (λ s t i. ap (λ w. (w, s.1)) (world_back s.0 t i)) p q g

  pub space_unnoted : {A : Type 0} (p : Outcome A × S) (q : Outcome A × WithNotes S) → Goes noting spaces p q → p ≡ (q.0, q.1.0)
  space_unnoted p q g = goes_unnoted spaces (λ t. t.0) (λ s t i. i) p q g

  -- ---- evaluations

  pub term_unnoted : (t : Task) (s : State (WithNotes S) × ℕ) → meaning accesses t (without_notes s.0, s.1) ≡ outcome_without_notes (meaning (noted accesses) t s)
  unfolding noting
  term_unnoted t s = run_unnoted _ _ (goes_from noting runs _ _ ((one_profile noting t.depth (meaning_together (alike noting) t)).goes (without_notes s.0, s.1) s.0.space refl))

  pub list_unnoted : (scope : List Seg) (depth : ℕ) (ts : Trees) (s : State (WithNotes S) × ℕ) → in_turn (meaning accesses) scope depth ts (without_notes s.0, s.1) ≡ outcome_without_notes (in_turn (meaning (noted accesses)) scope depth ts s)
  unfolding noting
  list_unnoted scope depth ts s = run_unnoted _ _ (goes_from noting runs _ _ ((one_profile noting depth (list_together (alike noting) scope depth ts)).goes (without_notes s.0, s.1) s.0.space refl))

  pub call_unnoted : (depth : ℕ) (p : List Seg) (body : List ℕ) (arguments : List Value) (s : State (WithNotes S) × ℕ) → invoked (meaning accesses) depth p body arguments (without_notes s.0, s.1) ≡ outcome_without_notes (invoked (meaning (noted accesses)) depth p body arguments s)
  unfolding noting
  call_unnoted depth p body arguments s = run_unnoted _ _ (goes_from noting runs _ _ ((one_profile noting 1 (invoked_together {side = alike noting} meaning_parts 1 depth p body arguments)).goes (without_notes s.0, s.1) s.0.space refl))

  pub table_unnoted : (bytes : List ℕ) (steps : ℕ) (w : State (WithNotes S)) → loaded accesses bytes steps (without_notes w) ≡ ((loaded (noted accesses) bytes steps w).0, without_notes (loaded (noted accesses) bytes steps w).1)
  unfolding noting
  table_unnoted bytes steps w = world_unnoted _ _ (goes_from noting worlds _ _ ((one_profile noting 0 (loaded_together (alike noting) bytes steps)).goes (without_notes w) w.space refl))

  pub value_unnoted : (p : List Seg) (arguments : List Value) (steps : ℕ) (w : State (WithNotes S)) → evaluated accesses p arguments steps (without_notes w) ≡ ((evaluated (noted accesses) p arguments steps w).0, without_notes (evaluated (noted accesses) p arguments steps w).1)
  unfolding noting
  value_unnoted p arguments steps w = world_unnoted _ _ (goes_from noting worlds _ _ ((evaluated_together {side = alike noting} (λ n. refl) p arguments steps).goes (without_notes w) w.space refl))

  pub answer_unnoted : (p : List Seg) (arguments : List Given) (steps : ℕ) (w : State (WithNotes S)) → answered accesses p arguments steps (without_notes w) ≡ ((answered (noted accesses) p arguments steps w).0, without_notes (answered (noted accesses) p arguments steps w).1)
  unfolding noting
  answer_unnoted p arguments steps w = world_unnoted _ _ (goes_from noting worlds _ _ ((answered_together {side = alike noting} p arguments steps).goes (without_notes w) w.space refl))

  -- ---- fields of regions

  pub field_read_unnoted : (r : Region) (f : FieldUnit) (s : WithNotes S) → read_field accesses r f s.0 ≡ ((read_field (noted accesses) r f s).0, (read_field (noted accesses) r f s).1.0)
  unfolding noting
  field_read_unnoted r f s = space_unnoted _ _ (goes_from noting spaces _ _ ((read_field_together {side = alike noting} r f).goes s.0 s refl))

  pub field_written_unnoted : (r : Region) (f : FieldUnit) (source : List ℕ) (s : WithNotes S) → write_field accesses r f source s.0 ≡ ((write_field (noted accesses) r f source s).0, (write_field (noted accesses) r f source s).1.0)
  unfolding noting
  field_written_unnoted r f source s = space_unnoted _ _ (goes_from noting spaces _ _ ((write_field_together {side = alike noting} r f source).goes s.0 s refl))

pub ruleset noting_changes_nothing = (term_unnoted, list_unnoted, call_unnoted, table_unnoted, value_unnoted, answer_unnoted, field_read_unnoted, field_written_unnoted)
