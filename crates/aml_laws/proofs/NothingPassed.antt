-- The core profile passes nothing over.
use Rattle.std.specs.Prelude.{◌≡◌, true, false, refl}
use Rattle.std.proofs.Common.{sym, ◌∙◌}
use Rattle.ar_space.specs.Accesses.{Accesses}
use Rattle.aml_world.specs.declared.state.profile.Profile.TheVariants as profiles
use Rattle.aml_world.specs.state.State.{State}
use Rattle.aml_laws.specs.Becomes.{Becomes}
use Rattle.aml_laws.proofs.WorldRelations.{WorldRelation, plain}
use Rattle.aml_laws.proofs.EvaluationsPreserve.{becomes_preserves}

-- a world of the core profile stays one, and nothing more is noted in it
record CoreNotes {S : Type 0} (w v : State S) : Type 0 where
  core : v.profile ≡ profiles.Core
  same : v.passed ≡ w.passed

abbrev StaysCore : {S : Type 0} → State S → State S → Type 0
StaysCore w v = w.profile ≡ profiles.Core → CoreNotes w v

stays_core : {S : Type 0} (w v : State S) → v.profile ≡ w.profile → v.passed ≡ w.passed → StaysCore w v
stays_core w v p q core = record { core = p ∙ core; same = q }

then_core : {S : Type 0} (u v w : State S) → w.profile ≡ v.profile → w.passed ≡ v.passed → StaysCore u v → StaysCore u w
then_core u v w p q h core = record { core = p ∙ (h core).core; same = q ∙ (h core).same }

never_noted : {S : Type 0} (u w : State S) → u.profile ≡ profiles.Wide → StaysCore u w
never_noted u w wide core = absurd (cc (sym core ∙ wide))

abbrev core_relation : {S : Type 0} (accesses : Accesses S) → WorldRelation accesses
core_relation accesses = plain (record {
  Leads = StaysCore;
  reflexive = λ w. stays_core w w refl refl;
  transitive = λ u v w h i core. record { core = (i (h core).core).core; same = (i (h core).core).same ∙ (h core).same };
  objects_change = λ w h k. stays_core w _ refl refl;
  name_declared = λ w q o free. stays_core w _ refl refl;
  object_replaced = λ w q o e at is. stays_core w _ refl refl;
  slots_written = λ w frames is. stays_core w _ refl refl;
  frame_closed = λ w v vs h core. record { core = (h core).core; same = (h core).same };
  names_removed = λ u w q at h. then_core u w _ refl refl h;
  told = false;
  region_accessed = λ u w field region space s stands at r h. then_core u w _ refl refl h;
  bridge_asked = λ u w at width wide asks h. then_core u w _ refl refl h;
  loads = true;
  arities_set = λ loads w list. stays_core w _ refl refl;
  mutexes_released = λ w. stays_core w _ refl refl;
  passed_noted = λ listed u w scope e wide is h. never_noted u _ wide;
})

pub core_notes_nothing : {S : Type 0} (accesses : Accesses S) (w v : State S) → Becomes accesses w v → w.profile ≡ profiles.Core → v.passed ≡ w.passed
core_notes_nothing accesses w v h core = (becomes_preserves (core_relation accesses) refl w v h core).same
