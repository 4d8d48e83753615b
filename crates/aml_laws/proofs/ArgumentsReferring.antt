-- Stores to arguments that hold references.
use Rattle.std.specs.Prelude.{◌≡◌, ℕ, refl}
use Rattle.ar_space.specs.Change.{go_on, ◌>>=◌}
use Rattle.aml_objects.specs.declared.value.Reference.{Reference}
use Rattle.aml_objects.specs.declared.value.Slot.TheVariants.{Argument}
use Rattle.aml_objects.specs.declared.value.Value.{Value}
use Rattle.aml_objects.specs.declared.value.Value.TheVariants as value
use Rattle.aml_world.specs.declared.values.store_target.StoreTarget.TheVariants as targets
use Rattle.aml_world.specs.state.State.{State}
use Rattle.aml_world.specs.values.StoreTargets.{latest_frame, frame_found, slot_held}
use Rattle.aml_world.specs.values.Stores.{store_in_frame, store_in_frame_numbered, store_in_slot, stored, copied_to}
use Rattle.aml_laws.specs.Limits.{IsLink}
use Rattle.aml_laws.specs.StoredParts.{ArgumentHolds}

module _ {S : Type 0} (w : State S) where
  pub argument_stores_through : (i last : ℕ) (r : Reference) (v : Value) → ArgumentHolds w i last (value.Reference r) → stored (targets.Slot (Argument i)) v w ≡ copied_to (targets.Refers r) v w
  unfolding store_in_slot store_in_frame latest_frame slot_held go_on ◌>>=◌
  argument_stores_through i last r v h = rw (h.latest, h.stands, h.holds) refl

  pub argument_copies_through : (i last : ℕ) (r : Reference) (v : Value) → ArgumentHolds w i last (value.Reference r) → copied_to (targets.Slot (Argument i)) v w ≡ copied_to (targets.Refers r) v w
  argument_copies_through i last r v h = argument_stores_through i last r v h

  pub link_stores_through : (q r : Reference) (v : Value) → IsLink w q r → stored (targets.Refers q) v w ≡ copied_to (targets.Refers r) v w
  unfolding store_in_frame_numbered store_in_frame frame_found slot_held go_on ◌>>=◌
  link_stores_through q r v l = rw (l.is, l.stands, l.holds) refl
