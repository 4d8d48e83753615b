-- What the write of one unit does to the bits of an address space.
use Rattle.std.proofs.Common.{◌≡◌, ◌<◌, ◌≤◌, ℕ, zero, suc, ◌+◌, ◌-◌, ◌*◌, ◌/◌, ◌%◌, ◌==◌, nat_lt, Bool, true, false, if◌then◌else◌, List, [], ◌∷◌, ◌++◌, length, get_or, slice_index, Option, Some, None, Result, Ok, Err, ◌⊎◌, inl, inr, refl, ap, sym, ◌∙◌, subst, arith, rules}
use Rattle.std.proofs.Math.Nat.{mod-lt}
use Rattle.std.proofs.lemmas.Bool.{cases_lt}
use Rattle.std.proofs.lemmas.List.{get_or_append_left, get_or-append_right, get_or_past}
use Rattle.std.specs.Option.{option_map, is_some}
use Rattle.ar_space.specs.declared.refusal.Refusal.TheVariants as refusal
use Rattle.ar_space.specs.declared.refusal.FieldFault.TheVariants.{RegionLimit}
use Rattle.ar_space.specs.declared.space.Width.{Width}
use Rattle.ar_space.specs.declared.space.Width.TheVariants.{W8, W16, W32, W64}
use Rattle.ar_space.specs.declared.space.Place.{Place}
use Rattle.ar_space.specs.Accesses.{byte_count as bytes_wide, bit_count}
use Rattle.ar_space.specs.Outcome.{Outcome}
use Rattle.ar_space.specs.Change.{Change, go_on, ◌>>=◌}
use Rattle.ar_space.specs.Bytes.{Bytes, number_on, written_on, read_answer, byte_accesses, read_step, write_step}
use Rattle.ar_space.specs.declared.refusal.SpaceFault.{SpaceFault}
use Rattle.ar_space.specs.declared.refusal.SpaceFault.TheVariants.{NoRegister}
use Rattle.aml_objects.specs.declared.entry.FieldUnit.{FieldUnit}
use Rattle.aml_objects.specs.declared.entry.UpdateRule.TheVariants.{Preserve}
use Rattle.aml_fields.specs.declared.region.Region.{Region}
use Rattle.aml_fields.specs.declared.field_units.Unit.{Unit as Access}
use Rattle.aml_fields.specs.Bits.{bit, bits_from, bits_of, extended}
use Rattle.aml_fields.specs.Regions.{faulted, place_in, or_limit, unit_place, read_access, write_access}
use Rattle.aml_fields.specs.UnitByUnit.{kept, kept_by}
use Rattle.aml_fields.proofs.BitLists.{from_at}
use Rattle.aml_fields.proofs.Putting.{extended_more, length_extended}
use Rattle.aml_fields.proofs.Cells.{Cells, Stand, Written, digits, read_stand, written}
use Rattle.aml_fields.proofs.SpaceBits.{space_bit, stand_at, stand_bit, bits_of_digits, bits_of_little}

-- a change that goes through two steps
pub record Steps {S A B : Type 0} (m : Change S A) (k : A → Change S B) (s : S) (b : B) (end : S) : Type 0 where
  pub value : A
  pub middle : S
  pub first : m s ≡ (Ok value, middle)
  pub second : k value middle ≡ (Ok b, end)

pub steps : {S A B : Type 0} (m : Change S A) (k : A → Change S B) (s : S) (b : B) (end : S) → (m >>= k) s ≡ (Ok b, end) → Steps m k s b end
unfolding ◌>>=◌ go_on
steps {S = S} {A = A} {B = B} m k s b end e = by_outcome (m s).0 refl e where
  by_outcome : (o : Outcome A) → (m s).0 ≡ o → go_on o (m s).1 k ≡ (Ok b, end) → Steps m k s b end
  by_outcome (Ok a) is f = record { value = a; middle = (m s).1; first = ap (λ o. (o, (m s).1)) is; second = f }
  by_outcome (Err r) is f = absurd (let g : ◌≡◌ {A = Outcome B} (Err r) (Ok b) = ap (λ x. x.0) f in cc g)

-- an address space whose places are those of a region
abbrev pub IsOf : Cells → Region → Type 0
IsOf c r = (n : ℕ) → place_in r.space n ≡ (if nat_lt n c.limit then Some (c.place n) else None)

module _ (c : Cells) (r : Region) (of : IsOf c r) where
  by_limit : (n : ℕ) (t : Bool) (p : Place) → or_limit (if t then Some (c.place n) else None) ≡ Ok p → p ≡ c.place n
  by_limit n true p e = cc e
  by_limit n false p e = absurd (cc e)

  by_length : (n : ℕ) (t : Bool) (p : Place) → (if t then Err (refusal.Field RegionLimit) else or_limit (place_in r.space n)) ≡ Ok p → p ≡ c.place n
  by_length n true p e = absurd (cc e)
  by_length n false p e = by_limit n (nat_lt n c.limit) p (ap or_limit (sym (of n)) ∙ e)

  pub place_is : (w : Width) (o : ℕ) (p : Place) → unit_place r w o ≡ Ok p → p ≡ c.place (r.offset + o)
  unfolding unit_place
  place_is w o p e = by_length (r.offset + o) (nat_lt r.length (o + bytes_wide w)) p e

  -- what a unit holds where a write keeps some of it
  kept_read : (p : Place) (w : Width) (old : ℕ) (b b1 : Bytes) → read_access byte_accesses p w b ≡ (Ok old, b1) → (number_on b p 0 (bytes_wide w) ≡ Some old) × (b1 ≡ b)
  unfolding read_access read_step
  kept_read p w old b b1 e = by_number (number_on b p 0 (bytes_wide w)) refl (ap (λ x. x.0) e) (ap (λ x. x.1) e) where
    by_number : (o : Option ℕ) → number_on b p 0 (bytes_wide w) ≡ o → faulted (read_answer o) ≡ Ok old → b ≡ b1 → (number_on b p 0 (bytes_wide w) ≡ Some old) × (b1 ≡ b)
    by_number None is f g = absurd (cc f)
    by_number (Some v) is f g = (is ∙ (let h : v ≡ old = cc f in ap Some h), sym g)

  -- a unit is the field's as a whole, or what it holds is read
  pub kept_is : (f : FieldUnit) (u : Access) (p : Place) (old : ℕ) (b b1 : Bytes) → f.update ≡ Preserve → kept f u (read_access byte_accesses p f.access) b ≡ (Ok old, b1)
      → (b1 ≡ b) × ((u.count ≡ bit_count f.access) ⊎ (number_on b p 0 (bytes_wide f.access) ≡ Some old))
  unfolding kept
  kept_is f u p old b b1 rule e = by_whole (u.count == bit_count f.access) refl e where
    by_whole : (t : Bool) → (u.count == bit_count f.access) ≡ t → (if t then (Ok 0, b) else kept_by f.update (read_access byte_accesses p f.access) b) ≡ (Ok old, b1) → (b1 ≡ b) × ((u.count ≡ bit_count f.access) ⊎ (number_on b p 0 (bytes_wide f.access) ≡ Some old))
    by_whole true is g = (sym (ap (λ x. x.1) g), inl (search rules))
    by_whole false is g =
        let k = kept_read p f.access old b b1 (sym (ap (λ rule. kept_by rule (read_access byte_accesses p f.access) b) rule) ∙ g) in
        (k.1, inr k.0)

  -- where a write succeeds, the bytes stand that it replaces
  pub record Replaced (p : Place) (w : Width) (value : ℕ) (b b' : Bytes) : Type 0 where
    pub before : ℕ
    pub read : number_on b p 0 (bytes_wide w) ≡ Some before
    pub after : b' ≡ written_on b p 0 (bytes_wide w) value

  pub replaced_by : (p : Place) (w : Width) (value : ℕ) (b b' : Bytes) → write_access byte_accesses p w value b ≡ (Ok tt, b') → Replaced p w value b b'
  unfolding write_access write_step
  replaced_by p w value b b' e = by_number (number_on b p 0 (bytes_wide w)) refl e where
    wrote : Option ℕ → Result (Unit {0}) SpaceFault × Bytes
    wrote o = if is_some o then (Ok tt, written_on b p 0 (bytes_wide w) value) else (Err NoRegister, b)

    by_number : (o : Option ℕ) → number_on b p 0 (bytes_wide w) ≡ o → ◌≡◌ {A = Outcome (Unit {0}) × Bytes} (faulted (wrote o).0, (wrote o).1) (Ok tt, b') → Replaced p w value b b'
    by_number None is f = absurd (let g : ◌≡◌ {A = Outcome (Unit {0})} (Err (refusal.Space NoRegister)) (Ok tt) = ap (λ x. x.0) f in cc g)
    by_number (Some v) is f = record { before = v; read = is; after = sym (ap (λ x. x.1) f) }

-- no byte is larger than a byte
abbrev pub Small : Cells → Bytes → Type 0
Small c b = (k x : ℕ) → c.get b k ≡ Some x → x < 256

digits_small : (count v q : ℕ) → get_or (digits count v) q 0 < 256
digits_small zero v q = omega arith
digits_small (suc count) v zero = mod-lt v (omega arith)
digits_small (suc count) v (suc q) = digits_small count (v / 256) q

digits_many : (count v : ℕ) → length (digits count v) ≡ count
digits_many zero v = refl
digits_many (suc count) v = ap suc (digits_many count (v / 256))

pub extended_at : (n : ℕ) (xs : List Bool) (i : ℕ) → i < n → get_or (extended n xs) i false ≡ get_or xs i false
extended_at zero xs i l = absurd (omega (arith, l))
extended_at (suc n) xs i l = ap (λ y. get_or y i false) (extended_more n xs) ∙ by_place (cases_lt i n) (λ m. extended_at n xs i m) where
  by_place : (i < n) ⊎ (n ≤ i) → (i < n → get_or (extended n xs) i false ≡ get_or xs i false) → get_or (extended n xs ++ get_or xs n false ∷ []) i false ≡ get_or xs i false
  by_place (inl m) h = get_or_append_left (extended n xs) (get_or xs n false ∷ []) false i (subst (λ k. i < k) (sym (length_extended n xs)) m) ∙ h m
  by_place (inr m) h =
      let same : i ≡ n = omega (arith, l, m) in
      let none : i - n ≡ 0 = omega (arith, l, m) in
      get_or-append_right (extended n xs) (get_or xs n false ∷ []) n i false (length_extended n xs) m ∙ ap (λ k. get_or (get_or xs n false ∷ []) k false) none ∙ ap (λ k. get_or xs k false) (sym same)

pub narrow : (w : Width) → bit_count w ≤ 64
narrow W8 = omega arith
narrow W16 = omega arith
narrow W32 = omega arith
narrow W64 = omega arith

pub eight : (w : Width) → bit_count w ≡ 8 * bytes_wide w
eight W8 = refl
eight W16 = refl
eight W32 = refl
eight W64 = refl

module _ (c : Cells) where
  pub stand_small : (b : Bytes) (m : ℕ) (xs : List ℕ) → Small c b → Stand c b m xs → (i : ℕ) → slice_index xs i < 256
  stand_small b m xs small h i = by_place (cases_lt i (length xs)) where
    by_place : (i < length xs) ⊎ (length xs ≤ i) → slice_index xs i < 256
    by_place (inl l) = small (m + i) (get_or xs i 0) (stand_at c b m xs i h l)
    by_place (inr l) = subst (λ x. x < 256) (sym (get_or_past xs i 0 l)) (omega arith)

  kept_present : (b b' : Bytes) (a n : ℕ) (xs ys : List ℕ) → Stand c b a xs → Stand c b' a ys → length xs ≡ n → length ys ≡ n
      → ((k : ℕ) → k < a → c.get b' k ≡ c.get b k) → ((k : ℕ) → a + n ≤ k → c.get b' k ≡ c.get b k) → (m : ℕ) → is_some (c.get b' m) ≡ is_some (c.get b m)
  kept_present b b' a n xs ys s t many long below above m = by_place (cases_lt m a) (cases_lt m (a + n)) where
    by_place : (m < a) ⊎ (a ≤ m) → (m < a + n) ⊎ (a + n ≤ m) → is_some (c.get b' m) ≡ is_some (c.get b m)
    by_place (inl l) q = ap is_some (below m l)
    by_place (inr l) (inr g) = ap is_some (above m g)
    by_place (inr l) (inl g) =
        let at : a + (m - a) ≡ m = omega (arith, l) in
        let old = stand_at c b a xs (m - a) s (omega (arith, l, g, many)) in
        let new = stand_at c b' a ys (m - a) t (omega (arith, l, g, long)) in
        ap is_some (ap (c.get b') (sym at) ∙ new) ∙ sym (ap is_some (ap (c.get b) (sym at) ∙ old))

  kept_small : (b b' : Bytes) (a n : ℕ) (ys : List ℕ) → Stand c b' a ys → length ys ≡ n
      → ((k : ℕ) → k < a → c.get b' k ≡ c.get b k) → ((k : ℕ) → a + n ≤ k → c.get b' k ≡ c.get b k) → Small c b → ((q : ℕ) → get_or ys q 0 < 256) → Small c b'
  kept_small b b' a n ys t long below above small digit m x e = by_place (cases_lt m a) (cases_lt m (a + n)) where
    by_place : (m < a) ⊎ (a ≤ m) → (m < a + n) ⊎ (a + n ≤ m) → x < 256
    by_place (inl l) q = small m x (sym (below m l) ∙ e)
    by_place (inr l) (inr g) = small m x (sym (above m g) ∙ e)
    by_place (inr l) (inl g) =
        let at : a + (m - a) ≡ m = omega (arith, l) in
        let new = stand_at c b' a ys (m - a) t (omega (arith, l, g, long)) in
        let same : get_or ys (m - a) 0 ≡ x = let h = sym (ap (c.get b') (sym at) ∙ new) ∙ e in cc h in
        subst (λ y. y < 256) same (digit (m - a))

  -- one unit before and after it is written at an address
  pub record Swapped (a : ℕ) (w : Width) (value before : ℕ) (b b' : Bytes) : Type 0 where
    pub held : (m : ℕ) → m < bit_count w → space_bit c b (8 * a + m) ≡ Some (bit before m)
    pub holds : (m : ℕ) → m < bit_count w → space_bit c b' (8 * a + m) ≡ Some (bit value m)
    pub under : (k : ℕ) → k < 8 * a → space_bit c b' k ≡ space_bit c b k
    pub over : (k : ℕ) → 8 * a + bit_count w ≤ k → space_bit c b' k ≡ space_bit c b k
    pub present : (m : ℕ) → is_some (c.get b' m) ≡ is_some (c.get b m)
    pub others : c.others b' ≡ c.others b
    pub small : Small c b'

  pub swapped : (a : ℕ) (w : Width) (value before : ℕ) (b : Bytes) → Small c b → number_on b (c.place a) 0 (bytes_wide w) ≡ Some before → Swapped a w value before b (written_on b (c.place a) 0 (bytes_wide w) value)
  swapped a w value before b small e =
      let found = read_stand c b a 0 (bytes_wide w) before e in
      let xs = found.bytes in
      let many = found.many in
      let wide = eight w in
      let start : a + 0 ≡ a = omega arith in
      let stands : Stand c b a xs = subst (λ m. Stand c b m xs) start found.stand in
      let bits : bits_from before 0 (8 * length xs) ≡ bits_of xs = bits_of_little xs before (stand_small b a xs small stands) found.value in
      let b' = written_on b (c.place a) 0 (bytes_wide w) value in
      let now : Written c b a 0 xs value b' = subst (λ n. Written c b a 0 xs value (written_on b (c.place a) 0 n value)) many (written c b a 0 xs value found.stand) in
      let ys = digits (length xs) value in
      let stands' : Stand c b' a ys = subst (λ m. Stand c b' m ys) start now.stand in
      let long : length ys ≡ bytes_wide w = digits_many (length xs) value ∙ many in
      record {
        held = λ m l. stand_bit c b a xs m stands (omega (arith, l, many, wide)) ∙ ap Some (ap (λ z. get_or z m false) (sym bits) ∙ from_at before 0 (8 * length xs) m (omega (arith, l, many, wide)) ∙ ap (bit before) (omega arith));
        holds = λ m l. stand_bit c b' a ys m stands' (omega (arith, l, long, wide)) ∙ ap Some (ap (λ z. get_or z m false) (bits_of_digits (length xs) value) ∙ from_at value 0 (8 * length xs) m (omega (arith, l, many, wide)) ∙ ap (bit value) (omega arith));
        under = λ k l. ap (option_map (λ x. bit x (k % 8))) (now.below (k / 8) (omega (arith, l)));
        over = λ k l. ap (option_map (λ x. bit x (k % 8))) (now.above (k / 8) (omega (arith, l, many, wide)));
        present = kept_present b b' a (bytes_wide w) xs ys stands stands' many long (λ k l. now.below k (omega (arith, l))) (λ k l. now.above k (omega (arith, l, many)));
        others = now.others;
        small = kept_small b b' a (bytes_wide w) ys stands' long (λ k l. now.below k (omega (arith, l))) (λ k l. now.above k (omega (arith, l, many))) small (digits_small (length xs) value);
      }
