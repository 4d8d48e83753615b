-- Making a reference, reading through one and finding a PCI function change nothing.
use Rattle.std.specs.Prelude.{◌≡◌, ℕ, List, Ok, Err, refl}
use Rattle.std.proofs.Common.{◌∙◌}
use Rattle.ar_space.specs.Outcome.{Outcome}
use Rattle.ar_space.specs.Change.{Change, give, stop, settle, go_on, ◌>>=◌}
use Rattle.aml_path.specs.declared.segment.Seg.{Seg}
use Rattle.aml_objects.specs.declared.value.Value.{Value}
use Rattle.aml_objects.specs.declared.value.Reference.{Reference}
use Rattle.aml_objects.specs.declared.value.Reference.TheVariants as reference
use Rattle.aml_objects.specs.declared.object.Element.{Element}
use Rattle.aml_objects.specs.declared.object.Element.TheVariants as element
use Rattle.aml_objects.specs.Objects.{element_at, byte_at}
use Rattle.aml_world.specs.declared.values.store_target.StoreTarget.{StoreTarget}
use Rattle.aml_world.specs.declared.values.store_target.StoreTarget.TheVariants as targets
use Rattle.aml_world.specs.state.State.{State, on_objects}
use Rattle.aml_world.specs.fields.PciFunctions.{nearest, behind_asked, pci_function}
use Rattle.aml_world.specs.state.Readings.{entry_found}
use Rattle.aml_world.specs.fields.Regions.{region_declared}
use Rattle.aml_world.specs.values.StoreTargets.{latest_frame, frame_found, slot_held, declaration, declared_once, value_once, slot_once, name_once, element_once, held_once, byte_once, dereferenced, frame_number, slot_reference, declared_number, name_reference, reference_of}

module _ {S : Type 0} where
  go_on_changes_nothing : {A B : Type 0} (r : Outcome A) (w v : State S) (k : A → Change (State S) B) → ((a : A) (u : State S) → (k a u).1 ≡ u) → v ≡ w → (go_on r v k).1 ≡ w
  unfolding go_on
  go_on_changes_nothing (Ok a) w v k h e = h a v ∙ e
  go_on_changes_nothing (Err x) w v k h e = e

  then_changes_nothing : {A B : Type 0} (m : Change (State S) A) (k : A → Change (State S) B) → ((w : State S) → (m w).1 ≡ w) → ((a : A) (w : State S) → (k a w).1 ≡ w) → (w : State S) → ((m >>= k) w).1 ≡ w
  unfolding ◌>>=◌
  then_changes_nothing m k h i w = go_on_changes_nothing (m w).0 w (m w).1 k i (h w)

  pub pci_function_changes_nothing : (scope : List Seg) (w : State S) → (pci_function scope w).1 ≡ w
  unfolding pci_function nearest behind_asked settle give
  pci_function_changes_nothing scope = then_changes_nothing _ _ (λ w. refl) (λ near. then_changes_nothing _ _ (λ w. refl) (λ q. then_changes_nothing _ _ (λ w. refl) (λ bridge. then_changes_nothing _ _ (λ w. refl) (λ reached w. refl))))

  pub region_declared_changes_nothing : (n : ℕ) (w : State S) → (region_declared n w).1 ≡ w
  unfolding region_declared declaration settle give
  region_declared_changes_nothing n = then_changes_nothing _ _ (λ w. refl) (λ e. then_changes_nothing _ _ (λ w. refl) (λ r w. refl))

  value_once_changes_nothing : (v : Value) (w : State S) → (value_once v w).1 ≡ w
  unfolding value_once settle give
  value_once_changes_nothing v = then_changes_nothing _ _ (λ w. refl) (λ x w. refl)

  element_once_changes_nothing : (e : Element) (w : State S) → (element_once e w).1 ≡ w
  unfolding name_once entry_found give
  element_once_changes_nothing (element.Value v) = value_once_changes_nothing v
  element_once_changes_nothing (element.Name n scope) = then_changes_nothing _ _ (λ w. refl) (λ e w. refl)

  pub dereferenced_changes_nothing : (w : State S) (r : Reference) → (dereferenced r w).1 ≡ w
  unfolding declared_once declaration slot_once frame_found slot_held held_once byte_once element_at byte_at on_objects give
  dereferenced_changes_nothing w (reference.Name n) = then_changes_nothing _ _ (λ w. refl) (λ e w. refl) w
  dereferenced_changes_nothing w (reference.Slot slot n) = then_changes_nothing _ _ (λ w. refl) (λ k. then_changes_nothing _ _ (λ w. refl) value_once_changes_nothing) w
  dereferenced_changes_nothing w (reference.Element o i) = then_changes_nothing _ _ (λ w. refl) element_once_changes_nothing w
  dereferenced_changes_nothing w (reference.Byte o i) = then_changes_nothing _ _ (λ w. refl) (λ b w. refl) w

  pub reference_of_changes_nothing : (w : State S) (at : StoreTarget) → (reference_of at w).1 ≡ w
  unfolding slot_reference latest_frame frame_number name_reference declared_number stop give
  reference_of_changes_nothing w targets.Nowhere = refl
  reference_of_changes_nothing w (targets.Slot slot) = then_changes_nothing _ _ (λ w. refl) (λ k. then_changes_nothing _ _ (λ w. refl) (λ n w. refl)) w
  reference_of_changes_nothing w (targets.Name p) = then_changes_nothing _ _ (λ w. refl) (λ n w. refl) w
  reference_of_changes_nothing w (targets.Refers r) = refl
