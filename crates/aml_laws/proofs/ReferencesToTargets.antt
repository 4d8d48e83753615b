-- A reference to a target is read, stored to and acquired as the target is.
use Rattle.std.specs.Prelude.{◌≡◌, Ok}
use Rattle.std.proofs.Common.{ap, sym, ◌∙◌, subst}
use Rattle.ar_space.specs.Outcome.{Outcome}
use Rattle.ar_space.specs.Change.{give, stop}
use Rattle.aml_objects.specs.declared.value.Value.{Value}
use Rattle.aml_objects.specs.declared.value.Reference.{Reference}
use Rattle.aml_namespace.specs.Numbering.{Numbered}
use Rattle.aml_world.specs.declared.values.store_target.Held.{Held}
use Rattle.aml_world.specs.declared.values.store_target.StoreTarget.{StoreTarget}
use Rattle.aml_world.specs.declared.values.store_target.StoreTarget.TheVariants as targets
use Rattle.aml_world.specs.state.State.{State}
use Rattle.aml_world.specs.values.StoreTargets.{reference_of, dereferenced, target_read}
use Rattle.aml_world.specs.values.Stores.{stored}
use Rattle.aml_world.specs.state.Mutexes.{acquired_at, given_back_at}
use Rattle.aml_laws.specs.Numbers.{numbers_of, RiseTo}
use Rattle.aml_laws.proofs.ReferencesToNames.{name_reads, name_stores, name_acquires, name_gives_back}
use Rattle.aml_laws.proofs.ReferencesToSlots.{slot_found, slot_reads, slot_stores}

module _ {S : Type 0} (w : State S) (r : Reference) (h : Numbered w.names) (rise : RiseTo w.started (numbers_of w.frames)) where
  same_reference : (x : Reference) → (give x w).0 ≡ Ok r → x ≡ r
  unfolding give
  same_reference x e = cc e

  pub reads_as_target : (at : StoreTarget) (x : Held) → (reference_of at w).0 ≡ Ok r → (target_read at w).0 ≡ Ok x → (dereferenced r w).0 ≡ Ok x
  unfolding stop
  reads_as_target targets.Nowhere x e read = absurd (cc e)
  reads_as_target (targets.Slot slot) x e read = ap (λ (a : Outcome Held × State S). a.0) (slot_reads w slot r rise e) ∙ read
  reads_as_target (targets.Name p) x e read = name_reads w p r h e x read
  reads_as_target (targets.Refers y) x e read = subst (λ (z : Reference). (dereferenced z w).0 ≡ Ok x) (same_reference y e) read

  pub stores_as_target : (at : StoreTarget) (v : Value) → (reference_of at w).0 ≡ Ok r → stored (targets.Refers r) v w ≡ stored at v w
  unfolding stop
  stores_as_target targets.Nowhere v e = absurd (cc e)
  stores_as_target (targets.Slot slot) v e = slot_stores w slot r rise e v
  stores_as_target (targets.Name p) v e = name_stores w p r h e v
  stores_as_target (targets.Refers y) v e = ap (λ (z : Reference). stored (targets.Refers z) v w) (sym (same_reference y e))

  pub acquires_as_target : (at : StoreTarget) → (reference_of at w).0 ≡ Ok r → acquired_at (targets.Refers r) w ≡ acquired_at at w
  unfolding stop
  acquires_as_target targets.Nowhere e = absurd (cc e)
  acquires_as_target (targets.Slot slot) e = ap (λ (z : Reference). acquired_at (targets.Refers z) w) (slot_found w slot r e).is
  acquires_as_target (targets.Name p) e = name_acquires w p r h e
  acquires_as_target (targets.Refers y) e = ap (λ (z : Reference). acquired_at (targets.Refers z) w) (sym (same_reference y e))

  pub gives_back_as_target : (at : StoreTarget) → (reference_of at w).0 ≡ Ok r → given_back_at (targets.Refers r) w ≡ given_back_at at w
  unfolding stop
  gives_back_as_target targets.Nowhere e = absurd (cc e)
  gives_back_as_target (targets.Slot slot) e = ap (λ (z : Reference). given_back_at (targets.Refers z) w) (slot_found w slot r e).is
  gives_back_as_target (targets.Name p) e = name_gives_back w p r h e
  gives_back_as_target (targets.Refers y) e = ap (λ (z : Reference). given_back_at (targets.Refers z) w) (sym (same_reference y e))
