-- Integers in slots: what they are read as, and what a store of one leaves.
use Rattle.std.proofs.Common.{◌≡◌, ◌∙◌, ◌-◌, ◌<◌, ap, sym, refl, ℕ, zero, suc, List, Option, Some, None, Ok, ◌≢◌, true, false, length, arith, sub-one}
use Rattle.std.specs.Prelude.{slice_get, slice_set, IfSome, IfNone}
use Rattle.std.proofs.lemmas.List.{set-get_or}
use Rattle.std.proofs.lemmas.Option.{get_or_from_slice_get}
use Rattle.ar_space.specs.Change.{Change, Does, give, settle, go_on, ◌>>=◌}
use Rattle.aml_objects.specs.Copies.{copied, whole, value_copy}
use Rattle.aml_objects.specs.declared.value.Value.{Value}
use Rattle.aml_objects.specs.declared.value.Value.TheVariants as value
use Rattle.aml_objects.specs.declared.value.Slot.{Slot}
use Rattle.aml_objects.specs.declared.value.Slot.TheVariants.{Local, Argument}
use Rattle.aml_objects.specs.declared.value.Reference.{Reference}
use Rattle.aml_world.specs.declared.state.frame.Frame.{Frame}
use Rattle.aml_world.specs.declared.values.store_target.StoreTarget.TheVariants as targets
use Rattle.aml_world.specs.declared.values.store_target.Stored.{Stored}
use Rattle.aml_world.specs.declared.values.store_target.Stored.TheVariants as store
use Rattle.aml_world.specs.state.State.{State, on_objects}
use Rattle.aml_world.specs.state.Slots.{slot_in, with_slot}
use Rattle.aml_world.specs.state.SlotIntegers.{integer_held, takes_copy}
use Rattle.aml_world.specs.values.StoreTargets.{last_index, initialized, latest_frame, slot_held, own_slot, slot_read, most_references}
use Rattle.aml_world.specs.values.Stores.{slot_put, copy_into_slot, store_over_slot, store_in_frame, store_in_slot, stored_through, stored}

pub last_is : (n : ℕ) → 0 < n → last_index n ≡ Some (n - 1)
last_is zero some = absurd (omega arith)
last_is (suc n) some = ap Some (sym (sub-one (suc n)))

-- what follows of a value, where there is one
pub if_some : {A : Type 0} (o : Option A) (P Q : A → Type 0) → ((a : A) → P a → Q a) → IfSome o P → IfSome o Q
if_some None P Q h p = tt
if_some (Some a) P Q h p = h a p

-- a value written over itself
pub same_set : {A : Type 0} (xs : List A) (k : ℕ) (x : A) → slice_get xs k ≡ Some x → slice_set xs k x ≡ xs
same_set xs k x is = ap (slice_set xs k) (sym (get_or_from_slice_get xs k x x is)) ∙ set-get_or xs k x

module _ {S : Type 0} (w : State S) (slot : Slot) (k : ℕ) (f : Frame) (last : last_index (length w.frames) ≡ Some k) (at : slice_get w.frames k ≡ Some f) (n : ℕ) where
  pub integer_read : slot_in f slot ≡ value.Integer n → Does (Ok (value.Integer n)) w (slot_read slot) w
  unfolding slot_read own_slot latest_frame slot_held ◌>>=◌ go_on settle
  integer_read is = record { is = λ _. rw (last, at, is) refl }

  copy_is : copy_into_slot k slot (value.Integer n) w ≡ (Ok store.Done, record w { frames = slice_set w.frames k (with_slot f slot (value.Integer n)) })
  unfolding copy_into_slot slot_put on_objects copied whole value_copy give ◌>>=◌ go_on
  copy_is = rw at refl

over_is : {S : Type 0} (through : Reference → Value → Change (State S) Stored) (k : ℕ) (slot : Slot) (held v : Value) → takes_copy slot held ≡ true → store_over_slot through k slot held v ≡ copy_into_slot k slot v
over_is through k (Local i) held v is = refl
over_is through k (Argument i) value.Uninitialized v is = refl
over_is through k (Argument i) (value.Integer n) v is = refl
over_is through k (Argument i) (value.String o) v is = refl
over_is through k (Argument i) (value.Buffer o) v is = refl
over_is through k (Argument i) (value.Package o) v is = refl
over_is through k (Argument i) (value.Reference r) v is = absurd (cc is)

module _ {S : Type 0} (w : State S) (slot : Slot) (k : ℕ) (f : Frame) (last : last_index (length w.frames) ≡ Some k) (at : slice_get w.frames k ≡ Some f) (n : ℕ) where
  over_here : store_in_slot slot (value.Integer n) w ≡ store_over_slot (stored_through most_references) k slot (slot_in f slot) (value.Integer n) w
  unfolding store_in_slot store_in_frame latest_frame slot_held ◌>>=◌ go_on
  over_here = rw (last, at) refl

  pub integer_stored : takes_copy slot (slot_in f slot) ≡ true → Does (Ok store.Done) (record w { frames = slice_set w.frames k (with_slot f slot (value.Integer n)) }) (stored (targets.Slot slot) (value.Integer n)) w
  integer_stored taken = record {
    is = λ _.
        over_here
        ∙ ap (λ (m : Change (State S) Stored). m w) (over_is (stored_through most_references) k slot (slot_in f slot) (value.Integer n) taken)
        ∙ copy_is w slot k f last at n;
  }

-- ---- what is read where there is no integer

held_is : (v : Value) (n : ℕ) → integer_held v ≡ Some n → v ≡ value.Integer n
held_is (value.Integer m) n is = let same : m ≡ n = cc is in ap value.Integer same
held_is value.Uninitialized n is = absurd (cc is)
held_is (value.String o) n is = absurd (cc is)
held_is (value.Buffer o) n is = absurd (cc is)
held_is (value.Package o) n is = absurd (cc is)
held_is (value.Reference r) n is = absurd (cc is)

not_held : (v : Value) (n : ℕ) → None ≡ integer_held v → initialized v ≡ Ok (value.Integer n) → ⊥
not_held (value.Integer m) n none is = cc none
not_held value.Uninitialized n none is = cc is
not_held (value.String o) n none is = cc is
not_held (value.Buffer o) n none is = cc is
not_held (value.Package o) n none is = cc is
not_held (value.Reference r) n none is = cc is

module _ {S : Type 0} (w : State S) (slot : Slot) (k : ℕ) (f : Frame) (last : last_index (length w.frames) ≡ Some k) (at : slice_get w.frames k ≡ Some f) where
  value_read : (slot_read slot w).0 ≡ initialized (slot_in f slot)
  unfolding slot_read own_slot latest_frame slot_held ◌>>=◌ go_on settle
  value_read = rw (last, at) refl

  value_owned : (own_slot slot w).0 ≡ Ok (slot_in f slot)
  unfolding own_slot latest_frame slot_held ◌>>=◌ go_on
  value_owned = rw (last, at) refl

  pub integer_given : (o : Option ℕ) → o ≡ integer_held (slot_in f slot) → IfSome o (λ number. Does (Ok (value.Integer number)) w (slot_read slot) w)
  integer_given None is = tt
  integer_given (Some n) is = integer_read w slot k f last at n (held_is (slot_in f slot) n (sym is))

  pub integer_missed : (o : Option ℕ) → o ≡ integer_held (slot_in f slot) → IfNone o ((number : ℕ) → (slot_read slot w).0 ≢ Ok (value.Integer number))
  integer_missed (Some n) is = tt
  integer_missed None is = λ number e. not_held (slot_in f slot) number is (sym value_read ∙ e)

  pub reference_owned : takes_copy slot (slot_in f slot) ≡ false → (v : Value) → (own_slot slot w).0 ≡ Ok v → takes_copy slot v ≡ false
  reference_owned is v e = let same : slot_in f slot ≡ v = cc (value_owned, e) in ap (takes_copy slot) (sym same) ∙ is

module _ {S : Type 0} (w : State S) (slot : Slot) (none : length w.frames ≡ 0) where
  no_frame : last_index (length w.frames) ≡ None
  no_frame = ap last_index none

  pub nothing_read : (number : ℕ) → (slot_read slot w).0 ≢ Ok (value.Integer number)
  unfolding slot_read own_slot latest_frame ◌>>=◌ go_on
  nothing_read number = rw no_frame (λ is. cc is)

  pub nothing_owned : (v : Value) → (own_slot slot w).0 ≡ Ok v → takes_copy slot v ≡ false
  unfolding own_slot latest_frame ◌>>=◌ go_on
  nothing_owned v = rw no_frame (λ is. absurd (cc is))
