-- Where the units of fields of operation regions are accessed, and by what (ACPI 6.5, 5.5.2.4 and 19.6.46).
use Rattle.std.specs.Prelude.{◌≡◌, ◌<◌, ◌≤◌, ◌+◌, ◌^◌, ℕ, Ok, Err}
use Rattle.ar_space.specs.declared.refusal.Refusal.TheVariants as refusal
use Rattle.ar_space.specs.declared.refusal.SpaceFault.{SpaceFault}
use Rattle.ar_space.specs.declared.space.Width.{Width}
use Rattle.ar_space.specs.declared.space.Place.{Place}
use Rattle.ar_space.specs.declared.space.Place.TheVariants as place
use Rattle.ar_space.specs.Accesses.{Accesses, byte_count}
use Rattle.ar_space.specs.Outcome.{Outcome}
use Rattle.aml_fields.specs.declared.region.AddressSpace.{AddressSpace}
use Rattle.aml_fields.specs.declared.region.AddressSpace.TheVariants as spaces
use Rattle.aml_fields.specs.declared.region.Region.{Region}

-- ---- places

-- an address space has a place with a number: memory has 2^64 bytes, there are 2^16 ports, and a PCI function has 4,096 bytes of registers
pub data HasPlace : AddressSpace → ℕ → Place → Type 0 where
  in_memory : (n : ℕ) → n < 2 ^ 64 → HasPlace spaces.Memory n (place.Memory n)
  among_ports : (n : ℕ) → n < 2 ^ 16 → HasPlace spaces.Io n (place.Io n)
  of_a_function : (seg bus dev func n : ℕ) → n < 4096 → HasPlace (spaces.Pci seg bus dev func) n (place.Pci seg bus dev func n)

-- and it has none with such a number
pub data HasNoPlace : AddressSpace → ℕ → Type 0 where
  behind_memory : (n : ℕ) → 2 ^ 64 ≤ n → HasNoPlace spaces.Memory n
  behind_ports : (n : ℕ) → 2 ^ 16 ≤ n → HasNoPlace spaces.Io n
  behind_a_function : (seg bus dev func n : ℕ) → 4096 ≤ n → HasNoPlace (spaces.Pci seg bus dev func) n

-- the unit at an offset in bytes lies wholly within its region, and begins at this place of the region's address space
pub record IsUnitAt (region : Region) (width : Width) (offset : ℕ) (at : Place) : Type 0 where
  pub ends : offset + byte_count width ≤ region.length
  pub begins : HasPlace region.space (region.offset + offset) at

-- a byte of it lies behind the region, or it begins behind the address space
pub data IsNoUnit (region : Region) (width : Width) (offset : ℕ) : Type 0 where
  behind_region : region.length < offset + byte_count width → IsNoUnit region width offset
  behind_space : HasNoPlace region.space (region.offset + offset) → IsNoUnit region width offset

-- ---- accesses

module _ {S : Type 0} (accesses : Accesses S) (at : Place) (width : Width) where
  -- one read, and what comes of it: the number that it is answered with, or its fault as a refusal, and the space behind it
  pub data ReadsOnce (s : S) : Outcome ℕ × S → Type 0 where
    reads_number : (n : ℕ) (after : S) → accesses.reads s at width ≡ (Ok n, after) → ReadsOnce s (Ok n, after)
    reads_fault : (fault : SpaceFault) (after : S) → accesses.reads s at width ≡ (Err fault, after) → ReadsOnce s (Err (refusal.Space fault), after)

  -- and one write
  pub data WritesOnce (value : ℕ) (s : S) : Outcome (Unit {0}) × S → Type 0 where
    writes_number : (after : S) → accesses.writes s at width value ≡ (Ok tt, after) → WritesOnce value s (Ok tt, after)
    writes_fault : (fault : SpaceFault) (after : S) → accesses.writes s at width value ≡ (Err fault, after) → WritesOnce value s (Err (refusal.Space fault), after)
