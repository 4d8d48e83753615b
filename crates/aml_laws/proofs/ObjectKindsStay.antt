-- After every evaluation objects have their numbers and their kinds.
use Rattle.std.specs.Prelude.{true, false, refl}
use Rattle.ar_space.specs.Accesses.{Accesses}
use Rattle.aml_world.specs.state.State.{State}
use Rattle.aml_laws.specs.Becomes.{Becomes}
use Rattle.aml_laws.specs.Kinds.{KeepsKinds}
use Rattle.aml_laws.proofs.ObjectKinds.{kinds_reflexive, kinds_transitive}
use Rattle.aml_laws.proofs.WorldRelations.{WorldRelation, plain}
use Rattle.aml_laws.proofs.EvaluationsPreserve.{becomes_preserves}

abbrev object_kinds_relation : {S : Type 0} (accesses : Accesses S) → WorldRelation accesses
object_kinds_relation accesses = plain (record {
  Leads = λ w v. KeepsKinds w.objects v.objects;
  reflexive = λ w. kinds_reflexive w.objects;
  transitive = λ u v w. kinds_transitive u.objects v.objects w.objects;
  objects_change = λ w h k. k;
  name_declared = λ w q o free. kinds_reflexive w.objects;
  object_replaced = λ w q o e at is. kinds_reflexive w.objects;
  slots_written = λ w frames is. kinds_reflexive w.objects;
  frame_closed = λ w v vs h. h;
  names_removed = λ u w q at h. h;
  told = false;
  region_accessed = λ u w field region space s stands at r h. h;
  bridge_asked = λ u w at width wide asks h. h;
  loads = true;
  arities_set = λ loads w list. kinds_reflexive w.objects;
  mutexes_released = λ w. kinds_reflexive w.objects;
  passed_noted = λ listed u w scope e wide is h. h;
})

pub object_kinds_stay : {S : Type 0} (accesses : Accesses S) (w v : State S) → Becomes accesses w v → KeepsKinds w.objects v.objects
object_kinds_stay accesses w v h = becomes_preserves (object_kinds_relation accesses) refl w v h
