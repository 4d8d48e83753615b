-- A value that a slot takes changes that slot alone.
use Rattle.std.specs.Prelude.{◌≡◌, ◌<◌, ◌==◌, ℕ, zero, suc, List, [], ◌∷◌, length, Bool, true, false, Option, Some, None, Ok, refl, slice_get, slice_set, slice_index_or}
use Rattle.std.proofs.Common.{arith, ap, sym, subst, ◌∙◌}
use Rattle.std.proofs.lemmas.Bool.{eqb-true, eqb-false}
use Rattle.std.proofs.lemmas.Option.{get_or_from_slice_get}
use Rattle.std.proofs.lemmas.List.Quantifiers.{position-Some}
use Rattle.aml_objects.specs.declared.value.Slot.{Slot}
use Rattle.aml_objects.specs.declared.value.Slot.TheVariants.{Local, Argument}
use Rattle.aml_objects.specs.declared.value.Value.{Value}
use Rattle.aml_world.specs.declared.state.frame.Frame.{Frame}
use Rattle.aml_world.specs.state.State.{State}
use Rattle.aml_world.specs.state.Slots.{slot_in, with_slot, frame_index, slot_found, slot_at, slot_of}
use Rattle.aml_world.specs.values.Stores.{with_frame, slot_put}
use Rattle.aml_laws.specs.Numbers.{numbers_of}
use Rattle.aml_laws.specs.Unreferenced.{HasSlot}
use Rattle.aml_laws.proofs.Claims.{other_slot}
use Rattle.aml_laws.proofs.StoreTargetsPreserve.{with_frame_numbers}
use Rattle.aml_laws.proofs.UnreferencedSlots.{index_alike}

-- ---- an item of a list is set

set_there : {A : Type 0} (xs : List A) (k : ℕ) (x y : A) → slice_get xs k ≡ Some x → slice_get (slice_set xs k y) k ≡ Some y
set_there [] k x y at = absurd (cc at)
set_there (z ∷ zs) zero x y at = refl
set_there (z ∷ zs) (suc k) x y at = set_there zs k x y at

set_elsewhere : {A : Type 0} (xs : List A) (k j : ℕ) (y : A) → (j ≡ k → ⊥) → slice_get (slice_set xs k y) j ≡ slice_get xs j
set_elsewhere [] k j y apart = refl
set_elsewhere (z ∷ zs) zero zero y apart = absurd (apart refl)
set_elsewhere (z ∷ zs) zero (suc j) y apart = refl
set_elsewhere (z ∷ zs) (suc k) zero y apart = refl
set_elsewhere (z ∷ zs) (suc k) (suc j) y apart = set_elsewhere zs k j y (λ same. apart (ap suc same))

index_set : {A : Type 0} (xs : List A) (i : ℕ) (y u : A) → i < length xs → slice_index_or (slice_set xs i y) i u ≡ y
index_set [] i y u less = absurd (omega (arith, less))
index_set (z ∷ zs) zero y u less = refl
index_set (z ∷ zs) (suc i) y u less = index_set zs i y u (omega (arith, less))

slot_set : (f : Frame) (slot : Slot) (v : Value) → HasSlot f slot → slot_in (with_slot f slot v) slot ≡ v
slot_set f (Local i) v has = index_set f.locals i v _ has
slot_set f (Argument i) v has = index_set f.arguments i v _ has

-- ---- the frame at an index

put_at : (frames : List Frame) (k : ℕ) (f : Frame) (slot : Slot) (v : Value) → slice_get frames k ≡ Some f → with_frame (slice_get frames k) k slot v frames ≡ slice_set frames k (with_slot f slot v)
put_at frames k f slot v at = ap (λ o. with_frame o k slot v frames) at

put_there : (frames : List Frame) (k : ℕ) (f : Frame) (slot : Slot) (v : Value) → slice_get frames k ≡ Some f → slice_get (with_frame (slice_get frames k) k slot v frames) k ≡ Some (with_slot f slot v)
put_there frames k f slot v at = ap (λ fs. slice_get fs k) (put_at frames k f slot v at) ∙ set_there frames k f _ at

put_elsewhere : (o : Option Frame) (frames : List Frame) (k j : ℕ) (slot : Slot) (v : Value) → (j ≡ k → ⊥) → slice_get (with_frame o k slot v frames) j ≡ slice_get frames j
put_elsewhere None frames k j slot v apart = refl
put_elsewhere (Some f) frames k j slot v apart = set_elsewhere frames k j _ apart

number_at : (n : ℕ) (frames : List Frame) (k : ℕ) (f : Frame) → frame_index n frames ≡ Some k → slice_get frames k ≡ Some f → f.number ≡ n
number_at n frames k f is at = eqb-true f.number n (subst (λ (g : Frame). (g.number == n) ≡ true) (get_or_from_slice_get frames k f f at) (position-Some (λ (g : Frame). g.number == n) frames k f is).1)

module _ (frames : List Frame) (k : ℕ) (f : Frame) (slot : Slot) (v : Value) (at : slice_get frames k ≡ Some f) where
  abbrev after : List Frame
  after = with_frame (slice_get frames k) k slot v frames

  found_alike : (n : ℕ) → frame_index n after ≡ frame_index n frames
  found_alike n = index_alike n after frames (with_frame_numbers (slice_get frames k) k slot v frames refl)

  module _ (n : ℕ) (other : Slot) (apart : n ≡ f.number → other ≡ slot → ⊥) where
    same_in_frame : (b : Bool) (j : ℕ) → (j == k) ≡ b → frame_index n frames ≡ Some j → slot_found other (slice_get after j) ≡ slot_found other (slice_get frames j)
    same_in_frame false j fails is = ap (slot_found other) (put_elsewhere (slice_get frames k) frames k j slot v (eqb-false j k fails))
    same_in_frame true j holds is =
        let same = eqb-true j k holds in
        let number = number_at n frames k f (is ∙ ap Some same) at in
        ap (λ i. slot_found other (slice_get after i)) same ∙ ap (slot_found other) (put_there frames k f slot v at) ∙ ap Ok (other_slot f slot other v (λ is_same. apart (sym number) (sym is_same)))
        ∙ sym (ap (slot_found other) at) ∙ sym (ap (λ i. slot_found other (slice_get frames i)) same)

    same_by_index : (o : Option ℕ) → frame_index n frames ≡ o → slot_at other after o ≡ slot_at other frames o
    same_by_index None is = refl
    same_by_index (Some j) is = same_in_frame (j == k) j refl is

    same_elsewhere : slot_at other after (frame_index n after) ≡ slot_at other frames (frame_index n frames)
    same_elsewhere = ap (slot_at other after) (found_alike n) ∙ same_by_index (frame_index n frames) refl

module _ {S : Type 0} (w : State S) (k : ℕ) (f : Frame) (slot : Slot) (v : Value) where
  pub slot_takes : (n : ℕ) → frame_index n w.frames ≡ Some k → slice_get w.frames k ≡ Some f → HasSlot f slot → (slot_of n slot (slot_put k slot v w).1).0 ≡ Ok v
  unfolding slot_of slot_put
  slot_takes n is at has =
      ap (slot_at slot (after w.frames k f slot v at)) (found_alike w.frames k f slot v at n ∙ is) ∙ ap (slot_found slot) (put_there w.frames k f slot v at) ∙ ap Ok (slot_set f slot v has)

  pub others_stay : (n : ℕ) (other : Slot) → slice_get w.frames k ≡ Some f → (n ≡ f.number → other ≡ slot → ⊥) → (slot_of n other (slot_put k slot v w).1).0 ≡ (slot_of n other w).0
  unfolding slot_of slot_put
  others_stay n other at apart = same_elsewhere w.frames k f slot v at n other apart

pub rest_stays : {S : Type 0} (w : State S) (k : ℕ) (slot : Slot) (v : Value) → (slot_put k slot v w).1 ≡ record w { frames = (slot_put k slot v w).1.frames }
unfolding slot_put
rest_stays w k slot v = refl

pub numbers_stay : {S : Type 0} (w : State S) (k : ℕ) (slot : Slot) (v : Value) → numbers_of (slot_put k slot v w).1.frames ≡ numbers_of w.frames
unfolding slot_put
numbers_stay w k slot v = with_frame_numbers (slice_get w.frames k) k slot v w.frames refl
