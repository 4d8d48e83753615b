-- A field behind an index register and a data register is read and written unit by unit.
use Rattle.std.specs.Prelude.{◌≡◌, ◌<◌, ◌≤◌, ℕ, zero, suc, ◌+◌, ◌-◌, ◌*◌, ◌/◌, ◌%◌, ◌^◌, ◌==◌, Bool, true, false, List, [], ◌∷◌, ◌++◌, length, take, drop, replicate, Ok, Err, refl}
use Rattle.std.proofs.Common.{arith, ap, sym, ◌∙◌}
use Rattle.std.proofs.lemmas.Bool.Decides.{nat_tests}
use Rattle.std.proofs.lemmas.List.{append-nil, take_all, take-append-drop, length-take, length-drop}
use Rattle.std.proofs.Math.Nat.{div-one, mod-mod}
use Rattle.ar_space.specs.declared.space.Width.{Width}
use Rattle.ar_space.specs.declared.space.Width.TheVariants.{W8, W16, W32, W64}
use Rattle.ar_space.specs.Accesses.{Accesses, bit_count}
use Rattle.ar_space.specs.Outcome.{Outcome}
use Rattle.ar_space.specs.Change.{give, settle, go_on, ◌>>=◌}
use Rattle.aml_objects.specs.declared.entry.FieldUnit.{FieldUnit}
use Rattle.aml_objects.specs.declared.entry.UpdateRule.{UpdateRule}
use Rattle.aml_objects.specs.declared.entry.UpdateRule.TheVariants.{Preserve, WriteAsOnes, WriteAsZeros}
use Rattle.aml_fields.specs.declared.region.Region.{Region}
use Rattle.aml_fields.specs.declared.field_units.Unit.{Unit as Access}
use Rattle.aml_fields.specs.Bits.{bits_from, bits_of, bytes_within, byte_count, extended, field_bits, merged, number_of, packed, rest_of_unit}
use Rattle.aml_fields.specs.Units.{units_of}
use Rattle.aml_fields.specs.UnitByUnit.{kept, read_units, bits_read, write_units}
use Rattle.aml_fields.specs.Regions.{unit_place, read_access, read_unit, read_field, write_access, write_unit, write_field}
use Rattle.aml_fields.proofs.BitLists.{length_from}
use Rattle.aml_fields.proofs.OneUnit.{single, bits_of_unit, low_bits, merged_is}
use Rattle.aml_fields.proofs.SpaceBits.{bits_again}
use Rattle.aml_fields.proofs.UnitWrites.{narrow}
use Rattle.aml_world.specs.fields.Fields.{unit_bytes, unit_of}
use Rattle.aml_laws.specs.IndexRegisters.{Register}

-- ---- bits and numbers

-- bits that fill whole bytes are what these bytes hold
bits_unpacked : (m : ℕ) (bits : List Bool) → length bits ≡ 8 * m → bits_of (bytes_within m bits) ≡ bits
unfolding bits_of bytes_within
bits_unpacked zero [] long = refl
bits_unpacked zero (b ∷ bs) long = absurd (omega (arith, long))
bits_unpacked (suc m) bits long =
    let front : length (take 8 bits) ≡ 8 = let l = length-take 8 bits in omega (arith, l, long) in
    let first : bits_from (number_of (take 8 bits)) 0 8 ≡ take 8 bits = ap (bits_from (number_of (take 8 bits)) 0) (sym front) ∙ bits_again (take 8 bits) in
    let rest = bits_unpacked m (drop 8 bits) (let l = length-drop 8 bits in omega (arith, l, long)) in
    ap (λ (x : List Bool). x ++ bits_of (bytes_within m (drop 8 bits))) first ∙ ap (λ (x : List Bool). take 8 bits ++ x) rest ∙ take-append-drop 8 bits

-- the lowest bits of the bytes of a unit are those of its number
low_of_unit : (n c : ℕ) → c ≤ 64 → field_bits (unit_bytes n) 0 c ≡ bits_from n 0 c
low_of_unit n c few =
    let all : bits_of (unit_bytes n) ≡ bits_from n 0 64 = bits_unpacked 8 (bits_from n 0 64) (length_from n 0 64) in
    ap (λ (x : List Bool). extended c (drop 0 x)) all ∙ bits_of_unit n 0 c (omega (arith, few)) ∙ low_bits (n / 2 ^ 0) c c (omega arith) ∙ ap (λ k. bits_from k 0 c) (div-one n)

rest_fits : (rule : UpdateRule) (w : Width) → rest_of_unit rule w 0 < 2 ^ 64
rest_fits Preserve w = omega arith
rest_fits WriteAsZeros w = omega arith
rest_fits WriteAsOnes W8 = omega arith
rest_fits WriteAsOnes W16 = omega arith
rest_fits WriteAsOnes W32 = omega arith
rest_fits WriteAsOnes W64 = omega arith

-- nothing stands above the unit
nothing_above : (rule : UpdateRule) (w : Width) (x : ℕ) → rest_of_unit rule w 0 % 2 ^ 0 + x * 2 ^ 0 + (rest_of_unit rule w 0 - rest_of_unit rule w 0 % 2 ^ (0 + bit_count w)) ≡ x
nothing_above Preserve W8 x = omega arith
nothing_above Preserve W16 x = omega arith
nothing_above Preserve W32 x = omega arith
nothing_above Preserve W64 x = omega arith
nothing_above WriteAsZeros W8 x = omega arith
nothing_above WriteAsZeros W16 x = omega arith
nothing_above WriteAsZeros W32 x = omega arith
nothing_above WriteAsZeros W64 x = omega arith
nothing_above WriteAsOnes W8 x = omega arith
nothing_above WriteAsOnes W16 x = omega arith
nothing_above WriteAsOnes W32 x = omega arith
nothing_above WriteAsOnes W64 x = omega arith

pub whole_merged : (rule : UpdateRule) (w : Width) (n : ℕ) → merged (rest_of_unit rule w 0) 0 (bits_from n 0 (bit_count w)) ≡ n % 2 ^ bit_count w
whole_merged rule w n = merged_is (rest_of_unit rule w 0) 0 (bit_count w) n (let l = narrow w in omega (arith, l)) (rest_fits rule w) ∙ nothing_above rule w (n % 2 ^ bit_count w)

written_number : (rule : UpdateRule) (w : Width) (n : ℕ) → merged (rest_of_unit rule w 0) 0 (field_bits (unit_bytes n) 0 (bit_count w)) ≡ n % 2 ^ bit_count w
written_number rule w n = ap (merged (rest_of_unit rule w 0) 0) (low_of_unit n (bit_count w) (narrow w)) ∙ whole_merged rule w n

whole_bytes : (w : Width) → bit_count w ≡ 8 * byte_count (bit_count w)
whole_bytes W8 = refl
whole_bytes W16 = refl
whole_bytes W32 = refl
whole_bytes W64 = refl

extended_itself : (c : ℕ) (bits : List Bool) → length bits ≡ c → extended c bits ≡ bits
extended_itself c bits long =
    let none : c - length bits ≡ 0 = omega (arith, long) in
    ap (λ (x : List Bool). x ++ replicate (c - length bits) false) (take_all c bits (omega (arith, long))) ∙ ap (λ k. bits ++ replicate k false) none ∙ append-nil bits

pub read_number : (w : Width) (v : ℕ) → unit_of w (packed (bits_from (v / 2 ^ 0 % 2 ^ bit_count w) 0 (bit_count w))) ≡ v % 2 ^ bit_count w
read_number w v =
    let c = bit_count w in
    let n = v / 2 ^ 0 % 2 ^ c in
    let bits = bits_from n 0 c in
    let long : length bits ≡ c = length_from n 0 c in
    let unpacked : bits_of (packed bits) ≡ bits = bits_unpacked (byte_count (length bits)) bits (long ∙ whole_bytes w ∙ ap (λ k. 8 * byte_count k) (sym long)) in
    ap (λ (x : List Bool). merged 0 0 (extended c (drop 0 x))) unpacked
    ∙ ap (merged 0 0) (extended_itself c bits long)
    ∙ whole_merged WriteAsZeros w n
    ∙ mod-mod (v / 2 ^ 0) (2 ^ c)
    ∙ ap (λ k. k % 2 ^ c) (div-one v)

-- ---- one register

-- a unit, of which there is one
ends_there : {S : Type 0} (r : Outcome (Unit {0})) (s : S) → go_on r s (λ done. give tt) ≡ (r, s)
unfolding go_on give
ends_there (Ok tt) s = refl
ends_there (Err e) s = refl

pub some_bits : (w : Width) → 0 < bit_count w
some_bits W8 = omega arith
some_bits W16 = omega arith
some_bits W32 = omega arith
some_bits W64 = omega arith

pub record IsWhole (region : Region) (u : FieldUnit) (register : Register) : Type 0 where
  pub width : u.access ≡ register.width
  pub units : units_of u.bit_offset u.bits u.access ≡ single u.bit_offset (bit_count register.width) 0 ∷ []
  pub placed : unit_place region register.width ((u.bit_offset - 0) / 8) ≡ Ok register.at

module _ {S : Type 0} (accesses : Accesses S) (region : Region) (u : FieldUnit) (register : Register) (is : IsWhole region u register) where
  abbrev whole_unit : Access
  whole_unit = single u.bit_offset (bit_count register.width) 0

  unit_is_written : (n : ℕ) (s : S) → write_unit accesses region u (unit_bytes n) whole_unit s ≡ write_access accesses register.at register.width (n % 2 ^ bit_count register.width) s
  unfolding write_unit kept settle ◌>>=◌ go_on
  unit_is_written n s =
      let test : (bit_count register.width == bit_count register.width) ≡ true = grind (arith, nat_tests) in
      rw (is.width, is.placed, test) (ap (λ k. write_access accesses register.at register.width k s) (written_number u.update register.width n))

  pub register_written : (n : ℕ) (s : S) → write_field accesses region u (unit_bytes n) s ≡ write_access accesses register.at register.width (n % 2 ^ bit_count register.width) s
  unfolding write_units ◌>>=◌
  register_written n s =
      ap (λ us. write_units (write_unit accesses region u (unit_bytes n)) us s) is.units
      ∙ ap (λ (x : Outcome (Unit {0}) × S). go_on x.0 x.1 (λ done. give tt)) (unit_is_written n s)
      ∙ ends_there _ _

  -- what a read of the register gives, as the bits of the field
  unit_is_read : (s : S) → read_unit accesses region u.access whole_unit s ≡ read_access accesses register.at register.width s
  unfolding read_unit settle ◌>>=◌ go_on
  unit_is_read s = rw (is.width, is.placed) refl

  abbrev pub bits_of_register : ℕ → List ℕ
  bits_of_register v = packed (bits_from (v / 2 ^ 0 % 2 ^ bit_count register.width) 0 (bit_count register.width))

  read_by_cases : (r : Outcome ℕ) (s : S)
      → go_on (go_on r s (λ unit. give [] >>= (λ bits. give (extended (bit_count register.width) (drop 0 (bits_from unit 0 64)) ++ bits)))).0 (go_on r s (λ unit. give [] >>= (λ bits. give (extended (bit_count register.width) (drop 0 (bits_from unit 0 64)) ++ bits)))).1 (λ bits. give (packed bits))
      ≡ go_on r s (λ v. give (bits_of_register v))
  unfolding go_on give ◌>>=◌
  read_by_cases (Ok v) s = ap (λ (x : List Bool). (Ok (packed x), s)) (append-nil _ ∙ bits_of_unit v 0 (bit_count register.width) (let l = narrow register.width in omega (arith, l)))
  read_by_cases (Err e) s = refl

  pub register_read : (s : S) → read_field accesses region u s ≡ (read_access accesses register.at register.width >>= (λ v. give (bits_of_register v))) s
  unfolding bits_read read_units ◌>>=◌
  register_read s = rw (is.units, unit_is_read s) (read_by_cases (read_access accesses register.at register.width s).0 (read_access accesses register.at register.width s).1)
