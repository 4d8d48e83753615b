-- Evaluations reach the register space by accesses alone.
use Rattle.ar_space.specs.Accesses.{Accesses}
use Rattle.aml_world.specs.state.State.{State}
use Rattle.aml_laws.specs.Becomes.{Becomes}
use Rattle.std.specs.Prelude.{◌≡◌, Bool, true, false, refl}
use Rattle.aml_laws.specs.Reached.{Reached, none, read, written, KeptByAccesses}
use Rattle.aml_laws.proofs.RegisterAccesses.{reached_transitive, reached_anyhow}
use Rattle.aml_laws.proofs.WorldRelations.{WorldRelation, plain}
use Rattle.aml_laws.proofs.EvaluationsPreserve.{becomes_preserves}

abbrev reached_relation : {S : Type 0} (accesses : Accesses S) → WorldRelation accesses
reached_relation accesses = plain (record {
  Leads = λ w v. Reached accesses w.space v.space;
  reflexive = λ w. none;
  transitive = λ u v w. reached_transitive u.space v.space w.space;
  objects_change = λ w h k. none;
  name_declared = λ w q o free. none;
  object_replaced = λ w q o e at is. none;
  slots_written = λ w frames is. none;
  frame_closed = λ w v vs h. h;
  names_removed = λ u w q at h. h;
  told = false;
  region_accessed = λ u w field region space s stands at r h. reached_transitive u.space w.space s h (reached_anyhow field region space w.space s r);
  bridge_asked = λ u w at width wide asks h. read w.space at width h;
  loads = true;
  arities_set = λ loads w list. none;
  mutexes_released = λ w. none;
  passed_noted = λ listed u w scope e wide is h. h;
})

pub space_reached : {S : Type 0} (accesses : Accesses S) (w v : State S) → Becomes accesses w v → Reached accesses w.space v.space
space_reached accesses w v h = becomes_preserves (reached_relation accesses) refl w v h

reached_keeps_test : {S : Type 0} (accesses : Accesses S) (test : S → Bool) (s t : S) → KeptByAccesses accesses test → Reached accesses s t → test s ≡ true → test t ≡ true
reached_keeps_test accesses test s t k none h = h
reached_keeps_test accesses test s t k (read u place width r) h = k.reads u place width (reached_keeps_test accesses test s u k r h)
reached_keeps_test accesses test s t k (written u place width value r) h = k.writes u place width value (reached_keeps_test accesses test s u k r h)

pub space_keeps_test : {S : Type 0} (accesses : Accesses S) (test : S → Bool) (w v : State S) → KeptByAccesses accesses test → Becomes accesses w v → test w.space ≡ true → test v.space ≡ true
space_keeps_test accesses test w v k h is = reached_keeps_test accesses test w.space v.space k (space_reached accesses w v h) is
