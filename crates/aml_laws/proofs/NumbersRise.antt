-- Numbers of declarations and of frames never fall.
use Rattle.std.specs.Prelude.{◌≤◌, true, false, refl}
use Rattle.std.proofs.Common.{arith}
use Rattle.ar_space.specs.Accesses.{Accesses}
use Rattle.aml_namespace.specs.Namespace.{without_below, mutexes_released}
use Rattle.aml_world.specs.state.State.{State}
use Rattle.aml_laws.specs.Becomes.{Becomes}
use Rattle.aml_laws.proofs.WorldRelations.{WorldRelation, plain}
use Rattle.aml_laws.proofs.EvaluationsPreserve.{becomes_preserves}

pub record Rises {S : Type 0} (w v : State S) : Type 0 where
  pub next : w.names.next ≤ v.names.next
  pub started : w.started ≤ v.started

rises_reflexive : {S : Type 0} (w : State S) → Rises w w
rises_reflexive w = record { next = omega arith; started = omega arith }

rises_transitive : {S : Type 0} (u v w : State S) → Rises u v → Rises v w → Rises u w
rises_transitive u v w h i = record { next = let a = h.next in let b = i.next in omega arith; started = let a = h.started in let b = i.started in omega arith }

numbers_rise_relation : {S : Type 0} (accesses : Accesses S) → WorldRelation accesses
unfolding without_below mutexes_released
numbers_rise_relation accesses = plain (record {
  Leads = Rises;
  reflexive = rises_reflexive;
  transitive = rises_transitive;
  objects_change = λ w h k. record { next = omega arith; started = omega arith };
  name_declared = λ w q o free. record { next = omega arith; started = omega arith };
  object_replaced = λ w q o e at is. record { next = omega arith; started = omega arith };
  slots_written = λ w frames is. record { next = omega arith; started = omega arith };
  frame_closed = λ w v vs h. let a = h.next in let b = h.started in record { next = a; started = omega arith };
  names_removed = λ u w q at h. record { next = h.next; started = h.started };
  told = false;
  region_accessed = λ u w field region space s stands at r h. record { next = h.next; started = h.started };
  bridge_asked = λ u w at width wide asks h. record { next = h.next; started = h.started };
  loads = true;
  arities_set = λ loads w list. record { next = omega arith; started = omega arith };
  mutexes_released = λ w. record { next = omega arith; started = omega arith };
  passed_noted = λ listed u w scope e wide is h. record { next = h.next; started = h.started };
})

pub next_declaration_rises : {S : Type 0} (accesses : Accesses S) (w v : State S) → Becomes accesses w v → w.names.next ≤ v.names.next
unfolding numbers_rise_relation
next_declaration_rises accesses w v h = (becomes_preserves (numbers_rise_relation accesses) refl w v h).next

pub next_frame_rises : {S : Type 0} (accesses : Accesses S) (w v : State S) → Becomes accesses w v → w.started ≤ v.started
unfolding numbers_rise_relation
next_frame_rises accesses w v h = (becomes_preserves (numbers_rise_relation accesses) refl w v h).started
