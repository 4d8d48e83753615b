-- What the standard asks of the tables of a machine (ACPI 6.5, 5.2.5 to 5.2.9), said of its memory and of the bytes of each
-- table. The standard also has the root pointer stand at a multiple of 16 where it is searched for (5.2.5.1): here its address
-- is given, and no condition is put on it.
use Rattle.std.specs.Prelude.{◌≡◌, ◌≢◌, ◌≤◌, ◌<◌, ◌⊎◌, ℕ, ◌+◌, ◌-◌, ◌*◌, ◌%◌, ◌^◌, List, length, take, drop, sum, slice_index, codes, All, Contains, Some, None}
use Rattle.std.specs.FinMap as map
use Rattle.std.specs.Ordering.{nat_cmp}
use Rattle.byteorder.specs.Endian.{little_number}
use Rattle.ar_tables.specs.declared.root_pointer.RootKind.{RootKind}
use Rattle.ar_tables.specs.declared.root_pointer.RootPointer.{RootPointer}
use Rattle.ar_tables.specs.declared.tables.Tables.{Tables}
use Rattle.ar_tables.specs.Headers.{signature_of}
use Rattle.ar_tables.specs.RootPointers.{to_rsdt, to_xsdt}
use Rattle.ar_tables.specs.Lists.{table_kind, address_size}
use Rattle.ar_tables.specs.Fadts.{dsdt_address}

-- memory has these bytes from an address on, and no address is past the last of 64 bits
abbrev pub StandsAt : map.FinMap nat_cmp ℕ → ℕ → List ℕ → Type 0
StandsAt image address bytes = (i : ℕ) → i < length bytes → (address + i < 2 ^ 64) × (map.get image (address + i) ≡ Some (slice_index bytes i))

-- bytes add up to zero, modulo 256
abbrev pub SumsToZero : List ℕ → Type 0
SumsToZero bytes = sum bytes % 256 ≡ 0

-- a root pointer of revision 0 or 1 (5.2.5.3) has 20 bytes, its signature and its checksum, and leads to the RSDT
pub record IsFirstPointer (image : map.FinMap nat_cmp ℕ) (address : ℕ) (root : RootPointer) : Type 0 where
  pub bytes : List ℕ
  pub stands : StandsAt image address bytes
  pub length_is : length bytes ≡ 20
  pub signature_is : take 8 bytes ≡ codes "RSD PTR "
  pub revision_is : slice_index bytes 15 < 2
  pub checksum : SumsToZero bytes
  pub leads : root ≡ to_rsdt bytes

-- one of revision 2 or later has as many bytes as its length says, 36 at least, its signature, the checksum of its first 20
-- bytes and that of all, and leads to the XSDT where it has an address of that, else to the RSDT
pub record IsExtendedPointer (image : map.FinMap nat_cmp ℕ) (address : ℕ) (root : RootPointer) : Type 0 where
  pub bytes : List ℕ
  pub stands : StandsAt image address bytes
  pub least : 36 ≤ length bytes
  pub length_is : length bytes ≡ little_number 4 (drop 20 bytes)
  pub signature_is : take 8 bytes ≡ codes "RSD PTR "
  pub revision_is : 2 ≤ slice_index bytes 15
  pub checksum : SumsToZero (take 20 bytes)
  pub extended_checksum : SumsToZero bytes
  pub leads : root ≡ to_xsdt bytes

-- a table with this signature (5.2.6) stands at an address: all its bytes are in memory, it has its header of 36 bytes, as
-- many bytes as the header says, the signature, and bytes that add up to zero
pub record IsTable (image : map.FinMap nat_cmp ℕ) (signature : List ℕ) (address : ℕ) (table : List ℕ) : Type 0 where
  pub stands : StandsAt image address table
  pub least : 36 ≤ length table
  pub length_is : length table ≡ little_number 4 (drop 4 table)
  pub signature_is : take 4 table ≡ signature
  pub checksum : SumsToZero table

-- an address that isn't zero is one of those that follow the header of the RSDT, each of four bytes (5.2.7), or of the XSDT,
-- each of eight (5.2.8)
pub record HasAddress (kind : RootKind) (list : List ℕ) (address : ℕ) : Type 0 where
  pub n : ℕ
  pub within : 36 + address_size kind * (n + 1) ≤ length list
  pub is : address ≡ little_number (address_size kind) (drop (36 + address_size kind * n) list)
  pub some : address ≢ 0

-- a table with this signature stands at an address of the list
pub record IsListed (image : map.FinMap nat_cmp ℕ) (kind : RootKind) (list signature table : List ℕ) : Type 0 where
  pub address : ℕ
  pub listed : HasAddress kind list address
  pub is_table : IsTable image signature address table

-- the tables of a machine, by the address of its root pointer: that leads to the RSDT or XSDT, a whole number of addresses
-- behind its header; a table of the list is the FADT, and goes on to its address of the DSDT (5.2.9); that table is the DSDT.
-- The SSDTs are tables of the list, and every SSDT of the list is among them; the MADT, where there is one, is a table of the
-- list, and where there is none the list has none
pub record MeetTheStandard (image : map.FinMap nat_cmp ℕ) (rsdp : ℕ) (tables : Tables) : Type 0 where
  pub root : RootPointer
  pub pointer : IsFirstPointer image rsdp root ⊎ IsExtendedPointer image rsdp root
  pub list : List ℕ
  pub list_is : IsTable image (signature_of (table_kind root.kind)) root.address list
  pub list_is_whole : (length list - 36) % address_size root.kind ≡ 0
  pub fadt : IsListed image root.kind list (codes "FACP") tables.fadt
  pub fadt_least : 44 ≤ length tables.fadt
  pub dsdt_named : dsdt_address tables.fadt ≢ 0
  pub dsdt : IsTable image (codes "DSDT") (dsdt_address tables.fadt) tables.dsdt
  pub ssdts : All (λ ssdt. IsListed image root.kind list (codes "SSDT") ssdt) tables.ssdts
  pub every_ssdt : (address : ℕ) → HasAddress root.kind list address → StandsAt image address (codes "SSDT") → (ssdt : List ℕ) × (Contains tables.ssdts ssdt × IsTable image (codes "SSDT") address ssdt)
  pub madt : (madt : List ℕ) → tables.madt ≡ Some madt → IsListed image root.kind list (codes "APIC") madt × (44 ≤ length madt)
  pub no_madt : tables.madt ≡ None → (address : ℕ) → HasAddress root.kind list address → StandsAt image address (codes "APIC") → ⊥
