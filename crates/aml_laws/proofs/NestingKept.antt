-- No change that a term makes of a world touches how deep calls and terms may be.
use Rattle.std.specs.Prelude.{◌≡◌, ℕ, List, true, false, refl}
use Rattle.std.proofs.Common.{◌∙◌}
use Rattle.ar_space.specs.Accesses.{Accesses}
use Rattle.ar_space.specs.declared.integer_width.IntegerWidth.{IntegerWidth}
use Rattle.aml_world.specs.declared.state.settings.EvaluationSettings.{EvaluationSettings}
use Rattle.aml_world.specs.state.State.{State}
use Rattle.aml_world.specs.state.Predefined.{fresh_as, predefined}
use Rattle.aml_laws.specs.Becomes.{Becomes}
use Rattle.aml_laws.proofs.WorldRelations.{WorldRelation, plain}
use Rattle.aml_laws.proofs.EvaluationsPreserve.{becomes_preserves, predefined_preserves}

abbrev pub nesting_relation : {S : Type 0} (accesses : Accesses S) → WorldRelation accesses
nesting_relation accesses = plain (record {
  Leads = λ w v. v.nesting ≡ w.nesting;
  reflexive = λ w. refl;
  transitive = λ u v w h i. i ∙ h;
  objects_change = λ w h k. refl;
  name_declared = λ w q o free. refl;
  object_replaced = λ w q o e at is. refl;
  slots_written = λ w frames is. refl;
  frame_closed = λ w v vs h. h;
  names_removed = λ u w q at h. h;
  told = false;
  region_accessed = λ u w field region space s stands at r h. h;
  bridge_asked = λ u w at width wide asks h. h;
  loads = true;
  arities_set = λ loads w list. refl;
  mutexes_released = λ w. refl;
  passed_noted = λ listed u w scope e wide is h. h;
})

pub nesting_is_kept : {S : Type 0} (accesses : Accesses S) (w v : State S) → Becomes accesses w v → v.nesting ≡ w.nesting
nesting_is_kept accesses w v h = becomes_preserves (nesting_relation accesses) refl w v h

pub nesting_is_given : {S : Type 0} (accesses : Accesses S) (settings : EvaluationSettings) (width : IntegerWidth) (osi : List (List ℕ)) (space : S) (v : State S) → Becomes accesses (predefined (fresh_as settings width osi space)).1 v → v.nesting ≡ settings.nesting
nesting_is_given accesses settings width osi space v h =
    nesting_is_kept accesses _ v h ∙ (predefined_preserves {relation = nesting_relation accesses} refl).preserves (fresh_as settings width osi space)
