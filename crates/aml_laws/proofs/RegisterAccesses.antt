-- Fields of an operation region are read and written by accesses that lie within it.
use Rattle.std.specs.Prelude.{◌≡◌, ℕ, ◌+◌, ◌^◌, nat_lt, List, Bool, true, false, Ok, Err, Some, None, Contains, refl, if◌then◌else◌}
use Rattle.std.proofs.Common.{arith, subst, ◌∙◌}
use Rattle.std.proofs.lemmas.Bool.{ltb-false}
use Rattle.ar_space.specs.declared.space.Width.{Width}
use Rattle.ar_space.specs.declared.space.Place.{Place}
use Rattle.ar_space.specs.declared.space.Place.TheVariants as place
use Rattle.ar_space.specs.declared.refusal.Refusal.{Refusal}
use Rattle.ar_space.specs.Accesses.{Accesses, byte_count}
use Rattle.ar_space.specs.Change.{Change}
use Rattle.aml_objects.specs.declared.entry.FieldUnit.{FieldUnit}
use Rattle.aml_objects.specs.declared.entry.OperationRegion.{OperationRegion}
use Rattle.aml_fields.specs.declared.region.AddressSpace.{AddressSpace}
use Rattle.aml_fields.specs.declared.region.AddressSpace.TheVariants as spaces
use Rattle.aml_fields.specs.declared.region.Region.{Region}
use Rattle.aml_fields.specs.declared.field_units.Unit.{Unit as Access}
use Rattle.aml_fields.specs.Units.{units_of}
use Rattle.aml_fields.specs.Regions.{place_in, or_limit, unit_place, read_access, read_unit, read_field, write_access, write_unit, write_field, write_whole}
use Rattle.aml_world.specs.fields.Regions.{pci_space}
use Rattle.aml_laws.specs.Reached.{Reached}
use Rattle.aml_laws.specs.Reached as by
use Rattle.aml_laws.specs.RegionAccesses.{space_of, address_of, LiesWithin, ReachesUnit, IsPlaceOf, is_address, is_port, is_register, ReachedWithin}
use Rattle.aml_laws.specs.RegionAccesses as within
use Rattle.aml_laws.proofs.Preorders.{Preorder, Respects, settle_then_respects, then_respects, units_read_respects, each_written_respects, kept_respects}

module _ {S : Type 0} {accesses : Accesses S} where
  pub reached_transitive : (s t u : S) → Reached accesses s t → Reached accesses t u → Reached accesses s u
  reached_transitive s t u h by.none = h
  reached_transitive s t u h (by.read v place width i) = by.read v place width (reached_transitive s t v h i)
  reached_transitive s t u h (by.written v place width value i) = by.written v place width value (reached_transitive s t v h i)

  -- accesses of a region are accesses
  pub reached_anyhow : (field : FieldUnit) (region : OperationRegion) (space : AddressSpace) (s t : S) → ReachedWithin accesses field region space s t → Reached accesses s t
  reached_anyhow field region space s t within.none = by.none
  reached_anyhow field region space s t (within.read u at width lies unit is h) = by.read u at width (reached_anyhow field region space s u h)
  reached_anyhow field region space s t (within.written u at width value lies unit is h) = by.written u at width value (reached_anyhow field region space s u h)

  pub within_transitive : (field : FieldUnit) (region : OperationRegion) (space : AddressSpace) (s t u : S) → ReachedWithin accesses field region space s t → ReachedWithin accesses field region space t u → ReachedWithin accesses field region space s u
  within_transitive field region space s t u h within.none = h
  within_transitive field region space s t u h (within.read v at width lies unit is i) = within.read v at width lies unit is (within_transitive field region space s t v h i)
  within_transitive field region space s t u h (within.written v at width value lies unit is i) = within.written v at width value lies unit is (within_transitive field region space s t v h i)

-- ---- where a unit lies

-- an address space, as AML numbers it
abbrev pub number_of_space : AddressSpace → ℕ
number_of_space spaces.Memory = 0
number_of_space spaces.Io = 1
number_of_space (spaces.Pci seg bus dev func) = 2

pci_by_cases : (b : Bool) (seg bus dev func : ℕ) (x : Refusal) (space : AddressSpace) → (if b then Ok (spaces.Pci seg bus dev func) else Err x) ≡ Ok space → number_of_space space ≡ 2
pci_by_cases true seg bus dev func x space e = let same : spaces.Pci seg bus dev func ≡ space = cc e in subst (λ (y : AddressSpace). number_of_space y ≡ 2) same refl
pci_by_cases false seg bus dev func x space e = absurd (cc e)

pub pci_space_numbered : (seg bus address : ℕ) (space : AddressSpace) → pci_space seg bus address ≡ Ok space → number_of_space space ≡ 2
pci_space_numbered seg bus address space e = pci_by_cases _ seg bus _ _ _ space e

-- a declared region, located in its address space
pub record IsRegion (declared : OperationRegion) (region : Region) : Type 0 where
  pub space : number_of_space region.space ≡ declared.space
  pub offset : region.offset ≡ declared.offset
  pub length : region.length ≡ declared.length

record IsPlaced (space : AddressSpace) (n : ℕ) (at : Place) : Type 0 where
  in_space : space_of at ≡ number_of_space space
  number : address_of at ≡ n
  is_of : IsPlaceOf space at

placed_by_cases : (space : AddressSpace) (n : ℕ) (b : Bool) (x at : Place) → IsPlaced space n x → or_limit (if b then Some x else None) ≡ Ok at → IsPlaced space n at
placed_by_cases space n true x at h e = let same : x ≡ at = cc e in subst (IsPlaced space n) same h
placed_by_cases space n false x at h e = absurd (cc e)

placed : (space : AddressSpace) (n : ℕ) (at : Place) → or_limit (place_in space n) ≡ Ok at → IsPlaced space n at
placed spaces.Memory n at e = placed_by_cases spaces.Memory n (nat_lt n (2 ^ 64)) (place.Memory n) at (record { in_space = refl; number = refl; is_of = is_address n }) e
placed spaces.Io n at e = placed_by_cases spaces.Io n (nat_lt n (2 ^ 16)) (place.Io n) at (record { in_space = refl; number = refl; is_of = is_port n }) e
placed (spaces.Pci seg bus dev func) n at e = placed_by_cases (spaces.Pci seg bus dev func) n (nat_lt n 4096) (place.Pci seg bus dev func n) at (record { in_space = refl; number = refl; is_of = is_register seg bus dev func n }) e

-- an access is one of a unit of a field, within a declared region that is located in an address space
record LiesThere (field : FieldUnit) (declared : OperationRegion) (space : AddressSpace) (at : Place) (width : Width) : Type 0 where
  within_it : LiesWithin declared at width
  unit : ReachesUnit field declared at width
  is_of : IsPlaceOf space at

module _ (f : FieldUnit) (declared : OperationRegion) (region : Region) (is : IsRegion declared region) (u : Access) (one : Contains (units_of f.bit_offset f.bits f.access) u) where
  unit_by_cases : (at : Place) (b : Bool) (x : Refusal) → nat_lt region.length (u.offset + byte_count f.access) ≡ b → (if b then Err x else or_limit (place_in region.space (region.offset + u.offset))) ≡ Ok at → LiesThere f declared region.space at f.access
  unit_by_cases at true x test e = absurd (cc e)
  unit_by_cases at false x test e =
      let p = placed region.space (region.offset + u.offset) at e in
      let room = ltb-false region.length (u.offset + byte_count f.access) test in
      let number = p.number in
      let same_offset = is.offset in
      let same_length = is.length in
      record {
        within_it = record { space = p.in_space ∙ is.space; begins = omega (arith, number, same_offset); ends = omega (arith, number, room, same_offset, same_length) };
        unit = record { unit = u; is_one = one; begins = omega (arith, number, same_offset); wide = refl };
        is_of = p.is_of;
      }

  unit_lies_there : (at : Place) → unit_place region f.access u.offset ≡ Ok at → LiesThere f declared region.space at f.access
  unfolding unit_place
  unit_lies_there at e = unit_by_cases at (nat_lt region.length (u.offset + byte_count f.access)) _ refl e

-- ---- fields of a region

module _ {S : Type 0} (accesses : Accesses S) (field : FieldUnit) (declared : OperationRegion) (space : AddressSpace) where
  abbrev pub accesses_preorder : Preorder S
  accesses_preorder = record { Leads = ReachedWithin accesses field declared space; reflexive = λ s. within.none; transitive = within_transitive field declared space }

  abbrev pub OnlyWithin : {A : Type 0} → Change S A → Type 0
  OnlyWithin m = Respects accesses_preorder m

  read_access_only_within : (at : Place) (width : Width) → LiesThere field declared space at width → OnlyWithin (read_access accesses at width)
  unfolding read_access
  read_access_only_within at width lies = record { respects = λ s. within.read s at width lies.within_it lies.unit lies.is_of within.none }

  write_access_only_within : (at : Place) (width : Width) (value : ℕ) → LiesThere field declared space at width → OnlyWithin (write_access accesses at width value)
  unfolding write_access
  write_access_only_within at width value lies = record { respects = λ s. within.written s at width value lies.within_it lies.unit lies.is_of within.none }

module _ {S : Type 0} (accesses : Accesses S) (f : FieldUnit) (declared : OperationRegion) (region : Region) (is : IsRegion declared region) where
  abbrev IsUnit : Access → Type 0
  IsUnit u = Contains (units_of f.bit_offset f.bits f.access) u

  pub read_unit_only_within : (u : Access) → IsUnit u → OnlyWithin accesses f declared region.space (read_unit accesses region f.access u)
  unfolding read_unit
  read_unit_only_within u one = settle_then_respects _ _ (λ at e. read_access_only_within accesses f declared region.space at f.access (unit_lies_there f declared region is u one at e))

  pub write_whole_only_within : (u : Access) (value : ℕ) → IsUnit u → OnlyWithin accesses f declared region.space (write_whole accesses region f.access u.offset value)
  unfolding write_whole
  write_whole_only_within u value one = settle_then_respects _ _ (λ at e. write_access_only_within accesses f declared region.space at f.access value (unit_lies_there f declared region is u one at e))

  write_unit_only_within : (source : List ℕ) (u : Access) → IsUnit u → OnlyWithin accesses f declared region.space (write_unit accesses region f source u)
  unfolding write_unit
  write_unit_only_within source u one = settle_then_respects _ _ (λ at e.
      let lies = unit_lies_there f declared region is u one at e in
      then_respects _ _ (kept_respects f u _ (read_access_only_within accesses f declared region.space at f.access lies)) (λ old. write_access_only_within accesses f declared region.space at f.access _ lies))

  pub read_field_only_within : OnlyWithin accesses f declared region.space (read_field accesses region f)
  read_field_only_within = units_read_respects _ f read_unit_only_within

  pub write_field_only_within : (source : List ℕ) → OnlyWithin accesses f declared region.space (write_field accesses region f source)
  write_field_only_within source = each_written_respects _ (units_of f.bit_offset f.bits f.access) (write_unit_only_within source)
