-- The number of a frame that stands finds it, where the numbers of frames rise; so a reference to a slot of the control method that
-- runs refers to that slot.
use Rattle.std.specs.Prelude.{◌≡◌, ◌≢◌, ◌<◌, ◌==◌, ◌+◌, nat_lt, ℕ, zero, suc, List, [], ◌∷◌, length, cond, not, Option, Some, None, Ok, Err, slice_get, refl}
use Rattle.std.specs.List.{position_or_len}
use Rattle.std.proofs.Common.{arith, ap, sym, ◌∙◌, subst}
use Rattle.std.proofs.lemmas.Bool.{eq-eqb, ne_eqb, le-ltb, lt-ltb}
use Rattle.std.proofs.lemmas.Option.{slice_get_within}
use Rattle.ar_space.specs.Outcome.{Outcome}
use Rattle.ar_space.specs.Change.{Change, give, settle, go_on, ◌>>=◌}
use Rattle.aml_objects.specs.declared.value.Value.{Value}
use Rattle.aml_objects.specs.declared.value.Slot.{Slot}
use Rattle.aml_objects.specs.declared.value.Slot.TheVariants.{Local}
use Rattle.aml_objects.specs.declared.value.Reference.{Reference}
use Rattle.aml_objects.specs.declared.value.Reference.TheVariants as reference
use Rattle.aml_world.specs.declared.state.frame.Frame.{Frame}
use Rattle.aml_world.specs.declared.values.store_target.Held.TheVariants as held
use Rattle.aml_world.specs.declared.values.store_target.StoreTarget.TheVariants as targets
use Rattle.aml_world.specs.state.State.{State}
use Rattle.aml_world.specs.state.Slots.{frame_index, slot_at}
use Rattle.aml_world.specs.values.StoreTargets.{last_index, or_ended, latest_frame, frame_found, slot_held, own_slot, initialized, slot_read, value_once, slot_once, dereferenced, held_in_slot, number_in_frame, frame_number, slot_reference, most_references}
use Rattle.aml_world.specs.values.Stores.{store_in_frame, store_in_frame_numbered, stored_through, store_in_slot, stored, copied_to}
use Rattle.aml_laws.specs.Numbers.{numbers_of, RiseTo}

number_is_above : (next : ℕ) (x : Frame) (xs : List Frame) (k : ℕ) (f : Frame) → RiseTo next (numbers_of (x ∷ xs)) → slice_get xs k ≡ Some f → x.number < f.number
number_is_above next x [] k f rise at = absurd (cc at)
number_is_above next x (y ∷ ys) zero f rise at = let same : y ≡ f = cc at in subst (λ (g : Frame). x.number < g.number) same rise.0
number_is_above next x (y ∷ ys) (suc k) f rise at = let l = number_is_above next y ys k f rise.1 at in let h = rise.0 in omega arith

first_with_number : (next : ℕ) (frames : List Frame) (k : ℕ) (f : Frame) → RiseTo next (numbers_of frames) → slice_get frames k ≡ Some f → position_or_len (λ g. g.number == f.number) frames ≡ k
first_with_number next [] k f rise at = absurd (cc at)
first_with_number next (x ∷ xs) zero f rise at =
    let same : x ≡ f = cc at in
    ap (λ b. cond (not b) (1 + position_or_len (λ (g : Frame). g.number == f.number) xs) 0) (eq-eqb x.number f.number (ap (λ (g : Frame). g.number) same))
first_with_number next (x ∷ xs) (suc k) f rise at =
    let i = first_with_number next xs k f rise.1 at in
    ap (λ b. cond (not b) (1 + position_or_len (λ (g : Frame). g.number == f.number) xs) 0) (ne_eqb x.number f.number (λ e. let l = number_is_above next x xs k f rise at in omega arith)) ∙ omega arith

pub frame_index_finds : (next : ℕ) (frames : List Frame) (k : ℕ) (f : Frame) → RiseTo next (numbers_of frames) → slice_get frames k ≡ Some f → frame_index f.number frames ≡ Some k
frame_index_finds next frames k f rise at =
    ap (λ n. cond (nat_lt n (length frames)) (Some n) None) (first_with_number next frames k f rise at) ∙ ap (λ b. cond b (Some k) None) (lt-ltb k (length frames) (slice_get_within frames k f at))

none_with_number : (n : ℕ) (frames : List Frame) → ((k : ℕ) (f : Frame) → slice_get frames k ≡ Some f → f.number ≢ n) → position_or_len (λ g. g.number == n) frames ≡ length frames
none_with_number n [] other = refl
none_with_number n (x ∷ xs) other =
    ap (λ b. cond (not b) (1 + position_or_len (λ (g : Frame). g.number == n) xs) 0) (ne_eqb x.number n (other 0 x refl))
    ∙ ap (λ k. 1 + k) (none_with_number n xs (λ k f at. other (suc k) f at)) ∙ omega arith

-- and a number that none has finds none
pub no_frame_index : (n : ℕ) (frames : List Frame) → ((k : ℕ) (f : Frame) → slice_get frames k ≡ Some f → f.number ≢ n) → frame_index n frames ≡ None
no_frame_index n frames other =
    ap (λ k. cond (nat_lt k (length frames)) (Some k) None) (none_with_number n frames other) ∙ ap (λ b. cond b (Some (length frames)) None) (le-ltb (length frames) (length frames) (omega arith))

-- ---- a reference to a slot of the control method that runs

pub record SlotFound {S : Type 0} (w : State S) (slot : Slot) (r : Reference) : Type 0 where
  pub index : ℕ
  pub frame : Frame
  pub latest : last_index (length w.frames) ≡ Some index
  pub there : slice_get w.frames index ≡ Some frame
  pub is : r ≡ reference.Slot slot frame.number

slot_found_by_frame : {S : Type 0} (w : State S) (slot : Slot) (r : Reference) (k : ℕ) (o : Option Frame) → last_index (length w.frames) ≡ Some k → slice_get w.frames k ≡ o
    → (go_on {S = State S} (number_in_frame o) w (λ n. give (reference.Slot slot n))).0 ≡ Ok r → SlotFound w slot r
unfolding go_on give
slot_found_by_frame w slot r k None latest at e = absurd (cc e)
slot_found_by_frame w slot r k (Some f) latest at e = record { index = k; frame = f; latest = latest; there = at; is = sym (cc e) }

slot_found_by_index : {S : Type 0} (w : State S) (slot : Slot) (r : Reference) (o : Option ℕ) → last_index (length w.frames) ≡ o
    → (go_on {S = State S} (or_ended o) w (λ k. frame_number k >>= (λ n. give (reference.Slot slot n)))).0 ≡ Ok r → SlotFound w slot r
unfolding go_on frame_number ◌>>=◌
slot_found_by_index w slot r None latest e = absurd (cc e)
slot_found_by_index w slot r (Some k) latest e = slot_found_by_frame w slot r k (slice_get w.frames k) latest refl e

pub slot_found : {S : Type 0} (w : State S) (slot : Slot) (r : Reference) → (slot_reference slot w).0 ≡ Ok r → SlotFound w slot r
unfolding slot_reference latest_frame ◌>>=◌
slot_found w slot r e = slot_found_by_index w slot r (last_index (length w.frames)) refl e

-- ---- what is read and stored through it

read_by_value : {S : Type 0} (r : Outcome Value) (w : State S) → go_on r w value_once ≡ (let a = go_on r w (λ v. settle (initialized v)) in go_on a.0 a.1 (λ v. give (held.Value v)))
unfolding go_on value_once settle ◌>>=◌
read_by_value (Ok v) w = refl
read_by_value (Err e) w = refl

read_by_index : {S : Type 0} (o : Option ℕ) (slot : Slot) (w : State S) → go_on (or_ended o) w (λ k. slot_held k slot >>= value_once)
    ≡ (let b = go_on (or_ended o) w (λ k. slot_held k slot) in let a = go_on b.0 b.1 (λ v. settle (initialized v)) in go_on a.0 a.1 (λ v. give (held.Value v)))
unfolding go_on slot_held ◌>>=◌
read_by_index None slot w = refl
read_by_index (Some k) slot w = read_by_value (slot_at slot w.frames (Some k)) w

module _ {S : Type 0} (w : State S) (slot : Slot) (r : Reference) (rise : RiseTo w.started (numbers_of w.frames)) (e : (slot_reference slot w).0 ≡ Ok r) where
  -- the frame with the number is the latest
  frame_is_latest : (f : SlotFound w slot r) → frame_index f.frame.number w.frames ≡ last_index (length w.frames)
  frame_is_latest f = frame_index_finds w.started w.frames f.index f.frame rise f.there ∙ sym f.latest

  frame_found_then : {A : Type 0} (f : SlotFound w slot r) (k : ℕ → Change (State S) A) → (frame_found f.frame.number >>= k) w ≡ (latest_frame >>= k) w
  unfolding frame_found latest_frame ◌>>=◌
  frame_found_then f k = ap (λ (o : Option ℕ). go_on (or_ended o) w k) (frame_is_latest f)

  slot_once_is : (f : SlotFound w slot r) → slot_once f.frame.number slot w ≡ held_in_slot slot w
  unfolding slot_once held_in_slot slot_read own_slot latest_frame ◌>>=◌
  slot_once_is f = frame_found_then f (λ k. slot_held k slot >>= value_once) ∙ read_by_index (last_index (length w.frames)) slot w

  pub slot_reads : dereferenced r w ≡ held_in_slot slot w
  slot_reads = let f = slot_found w slot r e in subst (λ (y : Reference). dereferenced y w ≡ held_in_slot slot w) (sym f.is) (slot_once_is f)

  store_in_frame_numbered_is : (f : SlotFound w slot r) (v : Value) → store_in_frame_numbered (stored_through most_references) f.frame.number slot v w ≡ store_in_slot slot v w
  unfolding store_in_frame_numbered store_in_slot
  store_in_frame_numbered_is f v = frame_found_then f (λ k. store_in_frame (stored_through most_references) k slot v)

  pub slot_stores : (v : Value) → stored (targets.Refers r) v w ≡ store_in_slot slot v w
  slot_stores v = let f = slot_found w slot r e in subst (λ (y : Reference). stored (targets.Refers y) v w ≡ store_in_slot slot v w) (sym f.is) (store_in_frame_numbered_is f v)

-- CopyObject through it, to a local
module _ {S : Type 0} (w : State S) (i : ℕ) (r : Reference) (rise : RiseTo w.started (numbers_of w.frames)) (e : (slot_reference (Local i) w).0 ≡ Ok r) where
  stored_through_is : (f : SlotFound w (Local i) r) (v : Value) → stored_through most_references (reference.Slot (Local i) f.frame.number) v w ≡ store_in_slot (Local i) v w
  unfolding stored_through store_in_frame_numbered store_in_slot store_in_frame
  stored_through_is f v = frame_found_then w (Local i) r rise e f (λ k. store_in_frame (stored_through 63) k (Local i) v)

  pub local_copies : (v : Value) → copied_to (targets.Refers r) v w ≡ store_in_slot (Local i) v w
  local_copies v = let f = slot_found w (Local i) r e in subst (λ (y : Reference). copied_to (targets.Refers y) v w ≡ store_in_slot (Local i) v w) (sym f.is) (stored_through_is f v)
