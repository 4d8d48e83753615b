-- Units are accessed once, where their regions have them.
use Rattle.std.specs.Prelude.{◌≡◌, ◌<◌, ◌≤◌, ◌+◌, ◌^◌, ℕ, nat_lt, List, Bool, true, false, Ok, Err, refl}
use Rattle.std.proofs.Common.{arith}
use Rattle.std.proofs.lemmas.Bool.Decides.{nat_tests}
use Rattle.ar_space.specs.declared.refusal.FieldFault.TheVariants.{RegionLimit}
use Rattle.ar_space.specs.declared.refusal.Refusal.TheVariants as refusal
use Rattle.ar_space.specs.declared.space.Place.{Place}
use Rattle.ar_space.specs.declared.space.Width.{Width}
use Rattle.ar_space.specs.Accesses.{Accesses, byte_count}
use Rattle.ar_space.specs.Change.{settle, go_on, ◌>>=◌}
use Rattle.ar_space.specs.Outcome.{Outcome}
use Rattle.aml_objects.specs.declared.entry.FieldUnit.{FieldUnit}
use Rattle.aml_fields.specs.declared.region.AddressSpace.{AddressSpace}
use Rattle.aml_fields.specs.declared.region.Region.{Region}
use Rattle.aml_fields.specs.declared.field_units.Unit.{Unit as Access}
use Rattle.aml_fields.specs.Regions.{place_in, or_limit, unit_place, read_access, read_unit, write_access, write_whole, write_unit}
use Rattle.aml_laws.specs.UnitPlaces.{HasPlace, in_memory, among_ports, of_a_function, HasNoPlace, behind_memory, behind_ports, behind_a_function, IsUnitAt, IsNoUnit, behind_region, behind_space, ReadsOnce, reads_number, reads_fault, WritesOnce, writes_number, writes_fault}

is_less : (n k : ℕ) → n < k → nat_lt n k ≡ true
is_less n k l = grind (arith, nat_tests)

is_not_less : (n k : ℕ) → k ≤ n → nat_lt n k ≡ false
is_not_less n k l = grind (arith, nat_tests)

-- ---- places

there : (space : AddressSpace) (n : ℕ) (at : Place) → HasPlace space n at → or_limit (place_in space n) ≡ Ok at
there _ _ _ (in_memory n l) = rw (is_less n (2 ^ 64) l) refl
there _ _ _ (among_ports n l) = rw (is_less n (2 ^ 16) l) refl
there _ _ _ (of_a_function seg bus dev func n l) = rw (is_less n 4096 l) refl

nowhere : (space : AddressSpace) (n : ℕ) → HasNoPlace space n → or_limit (place_in space n) ≡ Err (refusal.Field RegionLimit)
nowhere _ _ (behind_memory n l) = rw (is_not_less n (2 ^ 64) l) refl
nowhere _ _ (behind_ports n l) = rw (is_not_less n (2 ^ 16) l) refl
nowhere _ _ (behind_a_function seg bus dev func n l) = rw (is_not_less n 4096 l) refl

module _ (region : Region) (width : Width) (offset : ℕ) where
  pub unit_placed : (at : Place) → IsUnitAt region width offset at → unit_place region width offset ≡ Ok at
  unfolding unit_place
  unit_placed at h = rw (is_not_less region.length (offset + byte_count width) h.ends) (there region.space (region.offset + offset) at h.begins)

  by_order : (b : Bool) → nat_lt region.length (offset + byte_count width) ≡ b → HasNoPlace region.space (region.offset + offset) → unit_place region width offset ≡ Err (refusal.Field RegionLimit)
  unfolding unit_place
  by_order true is none = rw is refl
  by_order false is none = rw is (nowhere region.space (region.offset + offset) none)

  pub unit_beyond : IsNoUnit region width offset → unit_place region width offset ≡ Err (refusal.Field RegionLimit)
  unfolding unit_place
  unit_beyond (behind_region l) = rw (is_less region.length (offset + byte_count width) l) refl
  unit_beyond (behind_space none) = by_order (nat_lt region.length (offset + byte_count width)) refl none

-- ---- accesses

module _ {S : Type 0} (accesses : Accesses S) where
  pub read_once : (at : Place) (width : Width) (s : S) (end : Outcome ℕ × S) → ReadsOnce accesses at width s end → read_access accesses at width s ≡ end
  unfolding read_access
  read_once at width s _ (reads_number n after is) = rw is refl
  read_once at width s _ (reads_fault fault after is) = rw is refl

  pub written_once : (at : Place) (width : Width) (value : ℕ) (s : S) (end : Outcome (Unit {0}) × S) → WritesOnce accesses at width value s end → write_access accesses at width value s ≡ end
  unfolding write_access
  written_once at width value s _ (writes_number after is) = rw is refl
  written_once at width value s _ (writes_fault fault after is) = rw is refl

  pub unit_read : (region : Region) (width : Width) (u : Access) (at : Place) (s : S) (end : Outcome ℕ × S) → IsUnitAt region width u.offset at → ReadsOnce accesses at width s end → read_unit accesses region width u s ≡ end
  unfolding read_unit settle go_on ◌>>=◌
  unit_read region width u at s end there once = rw (unit_placed region width u.offset at there) (read_once at width s end once)

  pub unit_written : (region : Region) (width : Width) (offset value : ℕ) (at : Place) (s : S) (end : Outcome (Unit {0}) × S) → IsUnitAt region width offset at → WritesOnce accesses at width value s end → write_whole accesses region width offset value s ≡ end
  unfolding write_whole settle go_on ◌>>=◌
  unit_written region width offset value at s end there once = rw (unit_placed region width offset at there) (written_once at width value s end once)

  pub unit_unread : (region : Region) (width : Width) (u : Access) (s : S) → IsNoUnit region width u.offset → read_unit accesses region width u s ≡ (Err (refusal.Field RegionLimit), s)
  unfolding read_unit settle go_on ◌>>=◌
  unit_unread region width u s none = rw (unit_beyond region width u.offset none) refl

  pub unit_unwritten : (region : Region) (width : Width) (offset value : ℕ) (s : S) → IsNoUnit region width offset → write_whole accesses region width offset value s ≡ (Err (refusal.Field RegionLimit), s)
  unfolding write_whole settle go_on ◌>>=◌
  unit_unwritten region width offset value s none = rw (unit_beyond region width offset none) refl

  pub unit_unmerged : (region : Region) (field : FieldUnit) (source : List ℕ) (u : Access) (s : S) → IsNoUnit region field.access u.offset → write_unit accesses region field source u s ≡ (Err (refusal.Field RegionLimit), s)
  unfolding write_unit settle go_on ◌>>=◌
  unit_unmerged region field source u s none = rw (unit_beyond region field.access u.offset none) refl
