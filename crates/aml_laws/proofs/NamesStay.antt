-- Names that stand outside of control methods stay.
use Rattle.std.specs.Prelude.{◌≡◌, ℕ, List, Some, true, false, refl}
use Rattle.ar_space.specs.Accesses.{Accesses}
use Rattle.aml_path.specs.declared.segment.Seg.{Seg}
use Rattle.aml_objects.specs.declared.entry.NamedObject.{NamedObject}
use Rattle.aml_namespace.specs.Namespace.{Namespace, with_object, without_below}
use Rattle.aml_world.specs.state.State.{State}
use Rattle.aml_laws.specs.Becomes.{Becomes}
use Rattle.aml_laws.specs.Histories.{TakesPlaceOf}
use Rattle.aml_laws.specs.Histories as puts
use Rattle.aml_laws.specs.Outside.{is_method, OutsideIn, Outside, Stands, number_at}
use Rattle.aml_laws.proofs.OutsideOfMethods.{Kept, kept_reflexive, kept_transitive, kept_new, kept_replaced, kept_removed, kept_released, method_apart}
use Rattle.aml_laws.proofs.FoundNamesStand.{MethodStandsAt}
use Rattle.aml_laws.proofs.WorldRelations.{WorldRelation, plain}
use Rattle.aml_laws.proofs.EvaluationsPreserve.{becomes_preserves}

pub no_method : (o old : NamedObject) → TakesPlaceOf o old → is_method o ≡ false
no_method _ _ (puts.of_value v u) = refl
no_method _ _ (puts.of_mutex n m) = refl
no_method _ _ (puts.of_event n m) = refl

-- at the end of a call: its control method is above no path that is outside of control methods
pub kept_after_call : (u w : Namespace) (q p : List Seg) → MethodStandsAt u.map q → (OutsideIn u.map p → Kept u.map w.map p) → OutsideIn u.map p → Kept u.map (without_below q w).map p
unfolding without_below
kept_after_call u w q p at h o = kept_transitive u.map w.map _ p (h o) (kept_removed w.map q p (method_apart u.map q p at.entry o at.there at.method) (h o).outside)

abbrev pub names_relation : {S : Type 0} (accesses : Accesses S) → List Seg → WorldRelation accesses
names_relation accesses p = plain (record {
  Leads = λ w v. OutsideIn w.names.map p → Kept w.names.map v.names.map p;
  reflexive = λ w o. kept_reflexive w.names.map p o;
  transitive = λ u v w h i o. kept_transitive u.names.map v.names.map w.names.map p (h o) (i (h o).outside);
  objects_change = λ w h k o. kept_reflexive w.names.map p o;
  name_declared = λ w q n free o. kept_new w.names.map q _ p free o;
  object_replaced = λ w q n e at is o. kept_replaced w.names.map q e (with_object n e) p at refl (no_method n e.object is) o;
  slots_written = λ w frames is o. kept_reflexive w.names.map p o;
  frame_closed = λ w v vs h o. h o;
  names_removed = λ u w q at h o. kept_after_call u.names w.names q p at h o;
  told = false;
  region_accessed = λ u w field region space s stands at r h o. h o;
  bridge_asked = λ u w at width wide asks h o. h o;
  loads = true;
  arities_set = λ loads w list o. kept_reflexive w.names.map p o;
  mutexes_released = λ w o. kept_released w.names p o;
  passed_noted = λ listed u w scope e wide is h o. h o;
})

-- a path that is outside of control methods stays so
pub outside_stays : {S : Type 0} (accesses : Accesses S) (w v : State S) (p : List Seg) → Becomes accesses w v → Outside w p → Outside v p
outside_stays accesses w v p h o = (becomes_preserves (names_relation accesses p) refl w v h o).outside

-- and a name that stands there stands there still
pub names_stay : {S : Type 0} (accesses : Accesses S) (w v : State S) (p : List Seg) → Becomes accesses w v → Outside w p → Stands w p → Stands v p
names_stay accesses w v p h o st = (becomes_preserves (names_relation accesses p) refl w v h o).stands st

-- under the number of its declaration
pub numbers_stay : {S : Type 0} (accesses : Accesses S) (w v : State S) (p : List Seg) (n : ℕ) → Becomes accesses w v → Outside w p → number_at w p ≡ Some n → number_at v p ≡ Some n
numbers_stay accesses w v p n h o e = (becomes_preserves (names_relation accesses p) refl w v h o).number n e
