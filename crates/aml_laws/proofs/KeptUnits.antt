-- Under Preserve a unit is read once where bits of it are kept, and written once.
use Rattle.std.specs.Prelude.{◌≡◌, ◌⊎◌, ◌<◌, ◌≤◌, ◌+◌, ◌^◌, ◌==◌, ℕ, Bool, true, false, List, length, drop, get_or, Ok, Err, refl}
use Rattle.std.proofs.Common.{arith, inl, inr, ap, ◌∙◌}
use Rattle.std.proofs.lemmas.Bool.Decides.{nat_tests}
use Rattle.ar_space.specs.declared.refusal.Refusal.TheVariants as refusal
use Rattle.ar_space.specs.declared.refusal.SpaceFault.{SpaceFault}
use Rattle.ar_space.specs.declared.space.Place.{Place}
use Rattle.ar_space.specs.Accesses.{Accesses, bit_count}
use Rattle.ar_space.specs.Outcome.{Outcome}
use Rattle.ar_space.specs.Change.{Change, settle, go_on, ◌>>=◌}
use Rattle.aml_objects.specs.declared.entry.FieldUnit.{FieldUnit}
use Rattle.aml_objects.specs.declared.entry.UpdateRule.TheVariants.{Preserve}
use Rattle.aml_fields.specs.declared.region.Region.{Region}
use Rattle.aml_fields.specs.declared.field_units.Unit.{Unit as Access}
use Rattle.aml_fields.specs.Bits.{bit, bits_from, bits_of, field_bits, merged, put, rest_of_unit}
use Rattle.aml_fields.specs.UnitByUnit.{kept}
use Rattle.aml_fields.specs.Regions.{read_access, write_access, write_unit}
use Rattle.aml_fields.proofs.BitLists.{from_at, length_from}
use Rattle.aml_fields.proofs.FieldWrites.{merged_bits}
use Rattle.aml_fields.proofs.Putting.{length_extended}
use Rattle.aml_fields.proofs.SpaceBits.{put_before, put_behind, put_inside}
use Rattle.aml_fields.proofs.UnitWrites.{narrow}
use Rattle.aml_laws.specs.UnitPlaces.{IsUnitAt, reads_number, reads_fault, WritesOnce}
use Rattle.aml_laws.specs.UnitValues.{IsMergedInto}
use Rattle.aml_laws.proofs.BitsOfSources.{merged_fits}
use Rattle.aml_laws.proofs.UnitsPlaced.{unit_placed, read_once, written_once}

-- ---- what a unit is written with

module _ (f : FieldUnit) (source : List ℕ) (u : Access) (within : u.first + u.count ≤ bit_count f.access) (old : ℕ) where
  abbrev new : List Bool
  new = field_bits source u.position u.count

  abbrev pub value : ℕ
  value = merged old u.first new

  many : length new ≡ u.count
  many = length_extended u.count (drop u.position (bits_of source))

  small : u.first + length new ≤ 64
  small = let m = many in let n = narrow f.access in omega (arith, m, n, within)

  value_bits : (m : ℕ) → m < bit_count f.access → bit value m ≡ get_or (put u.first new (bits_from old 0 64)) m false
  value_bits m less = merged_bits old u.first m new small (let n = narrow f.access in omega (arith, n, less))

  old_bit : (m : ℕ) → m < bit_count f.access → get_or (bits_from old 0 64) m false ≡ bit old m
  old_bit m less = let n = narrow f.access in from_at old 0 64 m (omega (arith, n, less)) ∙ ap (bit old) (omega arith)

  outside : (m : ℕ) → m < bit_count f.access → (m < u.first) ⊎ (u.first + u.count ≤ m) → bit value m ≡ bit old m
  outside m less (inl before) =
      let long = length_from old 0 64 in let s = small in
      value_bits m less ∙ put_before u.first m new (bits_from old 0 64) before (omega (arith, long, s)) ∙ old_bit m less
  outside m less (inr behind) =
      let long = length_from old 0 64 in let s = small in let k = many in
      value_bits m less ∙ put_behind u.first m new (bits_from old 0 64) (omega (arith, k, behind)) (omega (arith, long, s)) ∙ old_bit m less

  inside : (m : ℕ) → m < u.count → bit value (u.first + m) ≡ get_or new m false
  inside m less =
      let long = length_from old 0 64 in let s = small in let k = many in
      value_bits (u.first + m) (omega (arith, less, within)) ∙ put_inside u.first m new (bits_from old 0 64) (omega (arith, k, less)) (omega (arith, long, s))

  fits : old < 2 ^ bit_count f.access → value < 2 ^ bit_count f.access
  fits = merged_fits old u.first (bit_count f.access) new (let m = many in omega (arith, m, within)) (narrow f.access)

  merged_so : IsMergedInto old f source u value
  merged_so = record { inside = λ m less. inside m less; outside = λ m less apart. outside m less apart; fits = fits }

-- ---- what is kept

module _ {H : Type 0} (f : FieldUnit) (u : Access) (read : Change H ℕ) (h : H) where
  kept_of_whole : u.count ≡ bit_count f.access → kept f u read h ≡ (Ok 0, h)
  unfolding kept
  kept_of_whole whole = let test : (u.count == bit_count f.access) ≡ true = grind (arith, nat_tests) in rw test refl

  kept_of_part : f.update ≡ Preserve → (u.count ≡ bit_count f.access → ⊥) → kept f u read h ≡ read h
  unfolding kept
  kept_of_part is part = let test : (u.count == bit_count f.access) ≡ false = grind (arith, nat_tests) in rw (test, is) refl

-- ---- accesses

module _ {S : Type 0} (accesses : Accesses S) (r : Region) (f : FieldUnit) (source : List ℕ) (u : Access) (p : Place) (s : S) (is : f.update ≡ Preserve) (within : u.first + u.count ≤ bit_count f.access) (at : IsUnitAt r f.access u.offset p) where
  abbrev merge : ℕ → Change S (Unit {0})
  merge old = write_access accesses p f.access (merged (rest_of_unit f.update f.access old) u.first (field_bits source u.position u.count))

  begins : (x : Outcome ℕ × S) → kept f u (read_access accesses p f.access) s ≡ x → write_unit accesses r f source u s ≡ go_on x.0 x.1 merge
  unfolding write_unit settle go_on ◌>>=◌
  begins x e = rw (unit_placed r f.access u.offset p at, e) refl

  merge_so : (old : ℕ) (t : S) (end : Outcome (Unit {0}) × S) → WritesOnce accesses p f.access (value f source u within old) t end → merge old t ≡ end
  merge_so old t end once = ap (λ rule. write_access accesses p f.access (merged (rest_of_unit rule f.access old) u.first (field_bits source u.position u.count)) t) is ∙ written_once accesses p f.access (value f source u within old) t end once

  pub whole_written : u.count ≡ bit_count f.access → (v : ℕ) × IsMergedInto 0 f source u v × ((end : Outcome (Unit {0}) × S) → WritesOnce accesses p f.access v s end → write_unit accesses r f source u s ≡ end)
  unfolding go_on
  whole_written whole = (value f source u within 0, merged_so f source u within 0, λ end once. begins (Ok 0, s) (kept_of_whole f u (read_access accesses p f.access) s whole) ∙ merge_so 0 s end once)

  module _ (part : u.count ≡ bit_count f.access → ⊥) where
    pub part_written : (old : ℕ) (t : S) → accesses.reads s p f.access ≡ (Ok old, t) → (v : ℕ) × IsMergedInto old f source u v × ((end : Outcome (Unit {0}) × S) → WritesOnce accesses p f.access v t end → write_unit accesses r f source u s ≡ end)
    unfolding go_on
    part_written old t reads = (
      value f source u within old,
      merged_so f source u within old,
      λ end once. begins (Ok old, t) (kept_of_part f u (read_access accesses p f.access) s is part ∙ read_once accesses p f.access s (Ok old, t) (reads_number old t reads)) ∙ merge_so old t end once,
    )

    pub part_refused : (fault : SpaceFault) (t : S) → accesses.reads s p f.access ≡ (Err fault, t) → write_unit accesses r f source u s ≡ (Err (refusal.Space fault), t)
    unfolding go_on
    part_refused fault t reads = begins (Err (refusal.Space fault), t) (kept_of_part f u (read_access accesses p f.access) s is part ∙ read_once accesses p f.access s (Err (refusal.Space fault), t) (reads_fault fault t reads))
