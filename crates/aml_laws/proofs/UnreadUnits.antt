-- Under the update rules of ones and zeros no unit is read, and each other bit is a one or a zero.
use Rattle.std.specs.Prelude.{◌≡◌, ◌≢◌, ◌⊎◌, ◌<◌, ◌≤◌, ◌+◌, ◌-◌, ◌^◌, ◌==◌, ℕ, Bool, true, false, List, [], ◌∷◌, length, drop, get_or, Ok, Err, refl, if◌then◌else◌}
use Rattle.std.proofs.Common.{arith, inl, inr, ap, sym, subst, ◌∙◌}
use Rattle.std.proofs.lemmas.Nat.{pow_pos}
use Rattle.std.proofs.lemmas.Nat.Bits.{bit_at_ones, bit_at-zero}
use Rattle.ar_space.specs.declared.space.Place.{Place}
use Rattle.ar_space.specs.declared.space.Width.{Width}
use Rattle.ar_space.specs.Accesses.{Accesses, bit_count}
use Rattle.ar_space.specs.Outcome.{Outcome}
use Rattle.ar_space.specs.Change.{Change, settle, go_on, ◌>>=◌}
use Rattle.aml_objects.specs.declared.entry.FieldUnit.{FieldUnit}
use Rattle.aml_objects.specs.declared.entry.UpdateRule.{UpdateRule}
use Rattle.aml_objects.specs.declared.entry.UpdateRule.TheVariants.{Preserve, WriteAsOnes, WriteAsZeros}
use Rattle.aml_fields.specs.declared.region.Region.{Region}
use Rattle.aml_fields.specs.declared.field_units.Unit.{Unit as Access}
use Rattle.aml_fields.specs.Bits.{bit, bits_from, bits_of, field_bits, merged, put, rest_of_unit}
use Rattle.aml_fields.specs.Units.{units_of}
use Rattle.aml_fields.specs.UnitByUnit.{kept_by, kept, write_units}
use Rattle.aml_fields.specs.Regions.{unit_place, read_access, write_access, write_unit, write_field}
use Rattle.aml_fields.proofs.BitLists.{from_at, length_from}
use Rattle.aml_fields.proofs.FieldWrites.{merged_bits}
use Rattle.aml_fields.proofs.Putting.{length_extended}
use Rattle.aml_fields.proofs.SpaceBits.{put_before, put_behind, put_inside}
use Rattle.aml_fields.proofs.UnitWrites.{narrow}
use Rattle.aml_laws.specs.UnitPlaces.{WritesOnce}
use Rattle.aml_laws.specs.UnitValues.{Reads, with_reads, IsFilledWith}
use Rattle.aml_laws.proofs.BitsOfSources.{merged_fits}
use Rattle.aml_laws.proofs.UnitsPlaced.{written_once}

-- ---- no unit is read

kept_by_unread : {H : Type 0} (rule : UpdateRule) (read read2 : Change H ℕ) (h : H) → rule ≢ Preserve → kept_by rule read h ≡ kept_by rule read2 h
kept_by_unread Preserve read read2 h other = absurd (other refl)
kept_by_unread WriteAsOnes read read2 h other = refl
kept_by_unread WriteAsZeros read read2 h other = refl

kept_unread : {H : Type 0} (f : FieldUnit) (u : Access) (read read2 : Change H ℕ) (h : H) → f.update ≢ Preserve → kept f u read h ≡ kept f u read2 h
unfolding kept
kept_unread f u read read2 h other = ap (λ x. if u.count == bit_count f.access then (Ok 0, h) else x) (kept_by_unread f.update read read2 h other)

then_same : {S A B : Type 0} (r : Outcome A) (s : S) (k l : A → Change S B) → ((a : A) (t : S) → k a t ≡ l a t) → go_on r s k ≡ go_on r s l
unfolding go_on
then_same (Ok a) s k l same = same a s
then_same (Err e) s k l same = refl

module _ {S : Type 0} (accesses : Accesses S) (reads : Reads S) (r : Region) (f : FieldUnit) (source : List ℕ) (other : f.update ≢ Preserve) where
  abbrev put_unit : Access → Place → ℕ → Change S (Unit {0})
  put_unit u p old = write_access accesses p f.access (merged (rest_of_unit f.update f.access old) u.first (field_bits source u.position u.count))

  unit_unread : (u : Access) (s : S) → write_unit (with_reads accesses reads) r f source u s ≡ write_unit accesses r f source u s
  unfolding write_unit write_access settle ◌>>=◌
  unit_unread u s =
      then_same (unit_place r f.access u.offset) s _ _
      (λ p t. ap (λ (x : Outcome ℕ × S). go_on x.0 x.1 (put_unit u p)) (kept_unread f u (read_access (with_reads accesses reads) p f.access) (read_access accesses p f.access) t other))

  units_unread : (us : List Access) (s : S) → write_units (write_unit (with_reads accesses reads) r f source) us s ≡ write_units (write_unit accesses r f source) us s
  unfolding write_units ◌>>=◌
  units_unread [] s = refl
  units_unread (u ∷ us) s =
      ap (λ (x : Outcome (Unit {0}) × S). go_on x.0 x.1 (λ done. write_units (write_unit (with_reads accesses reads) r f source) us)) (unit_unread u s)
      ∙ then_same (write_unit accesses r f source u s).0 (write_unit accesses r f source u s).1 _ _ (λ done t. units_unread us t)

  pub field_unread : (s : S) → write_field (with_reads accesses reads) r f source s ≡ write_field accesses r f source s
  field_unread s = units_unread (units_of f.bit_offset f.bits f.access) s

-- ---- what a unit is written with

one_of : (k m : ℕ) → m < k → bit (2 ^ k - 1) m ≡ true
one_of k m less = ap (λ b. b == 1) (bit_at_ones k m less)

zero_of : (m : ℕ) → bit 0 m ≡ false
zero_of m = ap (λ b. b == 1) (bit_at-zero m)

rest_bits : (rule : UpdateRule) (w : Width) (old m : ℕ) (b : Bool) → ((rule ≡ WriteAsOnes) × (b ≡ true)) ⊎ ((rule ≡ WriteAsZeros) × (b ≡ false)) → m < bit_count w → bit (rest_of_unit rule w old) m ≡ b
rest_bits rule w old m b (inl (is, one)) less = ap (λ x. bit (rest_of_unit x w old) m) is ∙ one_of (bit_count w) m less ∙ sym one
rest_bits rule w old m b (inr (is, none)) less = ap (λ x. bit (rest_of_unit x w old) m) is ∙ zero_of m ∙ sym none

below_power : (k : ℕ) → 2 ^ k - 1 < 2 ^ k
below_power k = let p = pow_pos k in omega (arith, p)

rest_fits : (rule : UpdateRule) (w : Width) (old : ℕ) (b : Bool) → ((rule ≡ WriteAsOnes) × (b ≡ true)) ⊎ ((rule ≡ WriteAsZeros) × (b ≡ false)) → rest_of_unit rule w old < 2 ^ bit_count w
rest_fits rule w old b (inl (is, one)) = subst (λ x. rest_of_unit x w old < 2 ^ bit_count w) (sym is) (below_power (bit_count w))
rest_fits rule w old b (inr (is, none)) = subst (λ x. rest_of_unit x w old < 2 ^ bit_count w) (sym is) (pow_pos (bit_count w))

module _ (b : Bool) (f : FieldUnit) (rule : ((f.update ≡ WriteAsOnes) × (b ≡ true)) ⊎ ((f.update ≡ WriteAsZeros) × (b ≡ false))) (source : List ℕ) (u : Access) (within : u.first + u.count ≤ bit_count f.access) where
  many : length (field_bits source u.position u.count) ≡ u.count
  many = length_extended u.count (drop u.position (bits_of source))

  small : u.first + length (field_bits source u.position u.count) ≤ 64
  small = let m = many in let n = narrow f.access in omega (arith, m, n, within)

  value_bits : (old m : ℕ) → m < bit_count f.access → bit (merged (rest_of_unit f.update f.access old) u.first (field_bits source u.position u.count)) m ≡ get_or (put u.first (field_bits source u.position u.count) (bits_from (rest_of_unit f.update f.access old) 0 64)) m false
  value_bits old m less = merged_bits (rest_of_unit f.update f.access old) u.first m (field_bits source u.position u.count) small (let n = narrow f.access in omega (arith, n, less))

  rest_bit : (old m : ℕ) → m < bit_count f.access → get_or (bits_from (rest_of_unit f.update f.access old) 0 64) m false ≡ b
  rest_bit old m less =
      let n = narrow f.access in
      from_at (rest_of_unit f.update f.access old) 0 64 m (omega (arith, n, less)) ∙ ap (bit (rest_of_unit f.update f.access old)) (omega arith) ∙ rest_bits f.update f.access old m b rule less

  outside : (old m : ℕ) → m < bit_count f.access → (m < u.first) ⊎ (u.first + u.count ≤ m) → bit (merged (rest_of_unit f.update f.access old) u.first (field_bits source u.position u.count)) m ≡ b
  outside old m less (inl before) =
      let rest = rest_of_unit f.update f.access old in let long = length_from rest 0 64 in let s = small in
      value_bits old m less ∙ put_before u.first m (field_bits source u.position u.count) (bits_from rest 0 64) before (omega (arith, long, s)) ∙ rest_bit old m less
  outside old m less (inr behind) =
      let rest = rest_of_unit f.update f.access old in let long = length_from rest 0 64 in let s = small in let k = many in
      value_bits old m less ∙ put_behind u.first m (field_bits source u.position u.count) (bits_from rest 0 64) (omega (arith, k, behind)) (omega (arith, long, s)) ∙ rest_bit old m less

  inside : (old m : ℕ) → m < u.count → bit (merged (rest_of_unit f.update f.access old) u.first (field_bits source u.position u.count)) (u.first + m) ≡ get_or (field_bits source u.position u.count) m false
  inside old m less =
      let rest = rest_of_unit f.update f.access old in let long = length_from rest 0 64 in let s = small in let k = many in
      value_bits old (u.first + m) (omega (arith, less, within)) ∙ put_inside u.first m (field_bits source u.position u.count) (bits_from rest 0 64) (omega (arith, k, less)) (omega (arith, long, s))

  fits : (old : ℕ) → merged (rest_of_unit f.update f.access old) u.first (field_bits source u.position u.count) < 2 ^ bit_count f.access
  fits old =
      merged_fits (rest_of_unit f.update f.access old) u.first (bit_count f.access) (field_bits source u.position u.count)
      (let m = many in omega (arith, m, within)) (narrow f.access) (rest_fits f.update f.access old b rule)

  filled : (old : ℕ) → IsFilledWith b f source u (merged (rest_of_unit f.update f.access old) u.first (field_bits source u.position u.count))
  filled old = record { inside = λ m less. inside old m less; outside = λ m less apart. outside old m less apart; fits = fits old }

-- ---- so is each unit

not_preserve_by : (rule : UpdateRule) (b : Bool) → ((rule ≡ WriteAsOnes) × (b ≡ true)) ⊎ ((rule ≡ WriteAsZeros) × (b ≡ false)) → rule ≢ Preserve
not_preserve_by rule b (inl (is, one)) e = absurd (cc (sym is ∙ e))
not_preserve_by rule b (inr (is, none)) e = absurd (cc (sym is ∙ e))

kept_zero_by : {H : Type 0} (rule : UpdateRule) (read : Change H ℕ) (h : H) → rule ≢ Preserve → kept_by rule read h ≡ (Ok 0, h)
kept_zero_by Preserve read h other = absurd (other refl)
kept_zero_by WriteAsOnes read h other = refl
kept_zero_by WriteAsZeros read h other = refl

either_zero : {H : Type 0} (b : Bool) (h : H) (x : Outcome ℕ × H) → x ≡ (Ok 0, h) → (if b then (Ok 0, h) else x) ≡ (Ok 0, h)
either_zero true h x e = refl
either_zero false h x e = e

kept_zero : {H : Type 0} (f : FieldUnit) (u : Access) (read : Change H ℕ) (h : H) → f.update ≢ Preserve → kept f u read h ≡ (Ok 0, h)
unfolding kept
kept_zero f u read h other = either_zero (u.count == bit_count f.access) h (kept_by f.update read h) (kept_zero_by f.update read h other)

unit_written : {S : Type 0} (accesses : Accesses S) (b : Bool) (r : Region) (f : FieldUnit) (source : List ℕ) (u : Access) (p : Place) (s : S) → ((f.update ≡ WriteAsOnes) × (b ≡ true)) ⊎ ((f.update ≡ WriteAsZeros) × (b ≡ false))
    → unit_place r f.access u.offset ≡ Ok p → write_unit accesses r f source u s ≡ write_access accesses p f.access (merged (rest_of_unit f.update f.access 0) u.first (field_bits source u.position u.count)) s
unfolding write_unit settle go_on ◌>>=◌
unit_written accesses b r f source u p s rule at =
    ap (λ x. go_on x s (λ q. kept f u (read_access accesses q f.access) >>= (λ old. write_access accesses q f.access (merged (rest_of_unit f.update f.access old) u.first (field_bits source u.position u.count))))) at
    ∙ ap (λ (x : Outcome ℕ × _). go_on x.0 x.1 (λ old. write_access accesses p f.access (merged (rest_of_unit f.update f.access old) u.first (field_bits source u.position u.count)))) (kept_zero f u (read_access accesses p f.access) s (not_preserve_by f.update b rule))

pub unit_of_ones : {S : Type 0} (accesses : Accesses S) (r : Region) (f : FieldUnit) (source : List ℕ) (u : Access) (p : Place) (s : S) → f.update ≡ WriteAsOnes → u.first + u.count ≤ bit_count f.access → unit_place r f.access u.offset ≡ Ok p
    → (value : ℕ) × IsFilledWith true f source u value × ((end : Outcome (Unit {0}) × S) → WritesOnce accesses p f.access value s end → write_unit accesses r f source u s ≡ end)
unit_of_ones accesses r f source u p s is within at =
    (merged (rest_of_unit f.update f.access 0) u.first (field_bits source u.position u.count), filled true f (inl (is, refl)) source u within 0, λ end once. unit_written accesses true r f source u p s (inl (is, refl)) at ∙ written_once accesses p f.access (merged (rest_of_unit f.update f.access 0) u.first (field_bits source u.position u.count)) s end once)

pub unit_of_zeros : {S : Type 0} (accesses : Accesses S) (r : Region) (f : FieldUnit) (source : List ℕ) (u : Access) (p : Place) (s : S) → f.update ≡ WriteAsZeros → u.first + u.count ≤ bit_count f.access → unit_place r f.access u.offset ≡ Ok p
    → (value : ℕ) × IsFilledWith false f source u value × ((end : Outcome (Unit {0}) × S) → WritesOnce accesses p f.access value s end → write_unit accesses r f source u s ≡ end)
unit_of_zeros accesses r f source u p s is within at =
    (merged (rest_of_unit f.update f.access 0) u.first (field_bits source u.position u.count), filled false f (inr (is, refl)) source u within 0, λ end once. unit_written accesses false r f source u p s (inr (is, refl)) at ∙ written_once accesses p f.access (merged (rest_of_unit f.update f.access 0) u.first (field_bits source u.position u.count)) s end once)

pub ruleset ones_and_zeros_read_nothing = (field_unread, unit_of_ones, unit_of_zeros)
