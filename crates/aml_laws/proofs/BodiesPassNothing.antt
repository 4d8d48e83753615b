-- In the bodies of control methods nothing is passed over, in either profile.
use Rattle.std.specs.Prelude.{◌≡◌, ℕ, List, true, false, refl, Err}
use Rattle.std.proofs.Common.{ap, sym, ◌∙◌}
use Rattle.ar_space.specs.declared.integer_width.IntegerWidth.{IntegerWidth}
use Rattle.ar_space.specs.declared.refusal.SpaceFault.TheVariants.{NoRegister}
use Rattle.ar_space.specs.Accesses.{Accesses}
use Rattle.aml_path.specs.declared.segment.Seg.{Seg}
use Rattle.aml_grammar.specs.Tree.{Trees}
use Rattle.aml_objects.specs.declared.value.Value.{Value}
use Rattle.aml_world.specs.declared.state.settings.EvaluationSettings.{EvaluationSettings}
use Rattle.aml_world.specs.state.Given.{Given}
use Rattle.aml_world.specs.state.Noting.{with_passed}
use Rattle.aml_world.specs.state.Predefined.{fresh_as, predefined}
use Rattle.aml_world.specs.state.State.{State}
use Rattle.aml_meaning.specs.Calling.{evaluated, answered}
use Rattle.aml_meaning.specs.Calls.{invoked}
use Rattle.aml_meaning.specs.Meaning.{meaning}
use Rattle.aml_meaning.specs.Tasks.{Task, module_level, in_turn}
use Rattle.aml_laws.proofs.EvaluationsPreserve.{evaluated_preserves, answered_preserves, predefined_preserves}
use Rattle.aml_laws.proofs.Levels.{no_module}
use Rattle.aml_laws.proofs.OperandsAndCallsPreserve.{invoked_leads_from}
use Rattle.aml_laws.proofs.RulesPreserve.{meaning_parts_lead, list_leads}
use Rattle.aml_laws.proofs.WorldRelations.{WorldRelationOf, Levels, plain}

-- nothing more is noted, but at module level
abbrev NotedNowhere : {S : Type 0} → ℕ → State S → State S → Type 0
NotedNowhere depth w v = module_level depth ≡ false → v.passed ≡ w.passed

never_listed : {S : Type 0} (depth : ℕ) (u w : State S) → module_level depth ≡ true → NotedNowhere depth u w
never_listed depth u w listed fails = absurd (cc (sym listed ∙ fails))

abbrev body_relation : {S : Type 0} (accesses : Accesses S) (depth : ℕ) → WorldRelationOf (module_level depth) accesses
body_relation accesses depth = plain (record {
  Leads = NotedNowhere depth;
  reflexive = λ w body. refl;
  transitive = λ u v w h i body. i body ∙ h body;
  objects_change = λ w h k body. refl;
  name_declared = λ w q o free body. refl;
  object_replaced = λ w q o e at is body. refl;
  slots_written = λ w frames is body. refl;
  frame_closed = λ w v vs h. h;
  names_removed = λ u w q at h. h;
  told = false;
  region_accessed = λ u w field region space s stands at r h. h;
  bridge_asked = λ u w at width wide asks h. h;
  loads = true;
  arities_set = λ loads w list body. refl;
  mutexes_released = λ w body. refl;
  passed_noted = λ listed u w scope e wide is h. never_listed depth u (with_passed scope e w) listed;
})

abbrev bodies : {S : Type 0} (accesses : Accesses S) → Levels accesses
bodies accesses = record { at = body_relation accesses; deeper = λ depth d w v h body. h (no_module depth) }

module _ {S : Type 0} (accesses : Accesses S) where
  pub body_notes_nothing : (t : Task) (s : State S × ℕ) → module_level t.depth ≡ false → (meaning accesses t s).1.0.passed ≡ s.0.passed
  body_notes_nothing t s body = ((meaning_parts_lead (bodies accesses)).part t).preserves s body

  pub list_notes_nothing : (scope : List Seg) (depth : ℕ) (ts : Trees) (s : State S × ℕ) → module_level depth ≡ false → (in_turn (meaning accesses) scope depth ts s).1.0.passed ≡ s.0.passed
  list_notes_nothing scope depth ts s body = (list_leads (bodies accesses) scope depth ts).preserves s body

  pub call_notes_nothing : (depth : ℕ) (p : List Seg) (body : List ℕ) (arguments : List Value) (s : State S × ℕ) → (invoked (meaning accesses) depth p body arguments s).1.0.passed ≡ s.0.passed
  call_notes_nothing depth p body arguments s = (invoked_leads_from {levels = bodies accesses} (meaning accesses) (meaning_parts_lead (bodies accesses)) {level = 1} s.0 depth p body arguments (λ v l. l)).preserves_from s (λ called. refl) refl

  pub value_notes_nothing : (p : List Seg) (arguments : List Value) (steps : ℕ) (w : State S) → (evaluated accesses p arguments steps w).1.passed ≡ w.passed
  value_notes_nothing p arguments steps w = (evaluated_preserves (bodies accesses) p arguments steps).preserves w refl

  pub answer_notes_nothing : (p : List Seg) (arguments : List Given) (steps : ℕ) (w : State S) → (answered accesses p arguments steps w).1.passed ≡ w.passed
  answer_notes_nothing p arguments steps w = (answered_preserves (bodies accesses) p arguments steps).preserves w refl

-- nor by the predefined names
no_access : {S : Type 0} → Accesses S
no_access = record { reads = λ s place width. (Err NoRegister, s); writes = λ s place width value. (Err NoRegister, s) }

pub none_at_first : {S : Type 0} (settings : EvaluationSettings) (width : IntegerWidth) (osi : List (List ℕ)) (space : S) → (predefined (fresh_as settings width osi space)).1.passed.count ≡ 0
none_at_first settings width osi space = ap (λ p. p.count) ((predefined_preserves {relation = body_relation no_access 1} refl).preserves (fresh_as settings width osi space) refl)
