-- The tables of a machine (ACPI 6.5, 5.2), or why they aren't taken: the tests of each structure come in the order of
-- these lines.
use Rattle.std.specs.Prelude.{ℕ, ◌==◌, nat_lt, List, [], ◌∷◌, slice_index, Option, Some, None, Ok, Err, if◌then◌else◌}
use Rattle.std.specs.FinMap as map
use Rattle.std.specs.Ordering.{nat_cmp}
use Rattle.ar_space.specs.Outcome.{Outcome, ◌>>=◌}
use Rattle.ar_space.specs.Each.{each}
use Rattle.ar_space.specs.declared.refusal.Refusal.TheVariants.{Table}
use Rattle.ar_space.specs.declared.refusal.TableFault.TheVariants.{NoFadt, NoDsdt}
use Rattle.ar_tables.specs.declared.table.TableKind.TheVariants as kind
use Rattle.ar_tables.specs.declared.root_pointer.RootPointer.{RootPointer}
use Rattle.ar_tables.specs.declared.root_table.Entry.{Entry}
use Rattle.ar_tables.specs.declared.root_table.EntryKind.TheVariants as entry
use Rattle.ar_space.specs.declared.integer_width.IntegerWidth.{IntegerWidth}
use Rattle.ar_space.specs.declared.integer_width.IntegerWidth.TheVariants.{Bits32, Bits64}
use Rattle.ar_tables.specs.declared.tables.Tables.{Tables}
use Rattle.ar_tables.specs.Headers.{table_at}
use Rattle.ar_tables.specs.RootPointers.{root_pointer}
use Rattle.ar_tables.specs.Lists.{table_kind, listed, addresses_of, few}
use Rattle.ar_tables.specs.Fadts.{dsdt_address}
use Rattle.ar_tables.specs.Structures.{well_structured}

-- the RSDT or XSDT
unfoldable pub root_table : map.FinMap nat_cmp ℕ → RootPointer → Outcome (List ℕ)
root_table image root = table_at image (table_kind root.kind) root.address

-- the first FADT of the list
unfoldable pub fadt_at : map.FinMap nat_cmp ℕ → List ℕ → Outcome (List ℕ)
fadt_at image [] = Err (Table NoFadt)
fadt_at image (address ∷ others) = table_at image kind.Fadt address

-- the DSDT that the FADT names
unfoldable pub dsdt_at : map.FinMap nat_cmp ℕ → List ℕ → Outcome (List ℕ)
dsdt_at image fadt = if dsdt_address fadt == 0 then Err (Table NoDsdt) else table_at image kind.Dsdt (dsdt_address fadt)

-- every SSDT of the list, in its order
unfoldable pub ssdts_at : map.FinMap nat_cmp ℕ → List ℕ → Outcome (List (List ℕ))
ssdts_at image addresses = each (table_at image kind.Ssdt) addresses

-- a MADT, whose structures are tested after the table
unfoldable pub structured_madt : map.FinMap nat_cmp ℕ → ℕ → Outcome (Option (List ℕ))
structured_madt image address = do
  madt ← table_at image kind.Madt address
  _ ← well_structured madt
  Ok (Some madt)

-- the first MADT of the list, if there is one
unfoldable pub madt_at : map.FinMap nat_cmp ℕ → List ℕ → Outcome (Option (List ℕ))
madt_at image [] = Ok None
madt_at image (address ∷ others) = structured_madt image address

-- a DSDT of revision 0 or 1 makes integers 32 bits wide (5.2.11.1)
abbrev pub width_of : List ℕ → IntegerWidth
width_of dsdt = if nat_lt (slice_index dsdt 8) 2 then Bits32 else Bits64

-- the tables by the list of them
unfoldable pub tables_in : map.FinMap nat_cmp ℕ → List Entry → Outcome Tables
tables_in image entries = do
  ssdt_addresses ← Ok (addresses_of entry.Ssdt entries)
  _ ← few ssdt_addresses
  fadt_addresses ← Ok (addresses_of entry.Fadt entries)
  fadt ← fadt_at image fadt_addresses
  dsdt ← dsdt_at image fadt
  ssdts ← ssdts_at image ssdt_addresses
  madt_addresses ← Ok (addresses_of entry.Madt entries)
  madt ← madt_at image madt_addresses
  Ok (record { dsdt = dsdt; ssdts = ssdts; fadt = fadt; madt = madt; width = width_of dsdt })

-- the tables by the address of the RSDP
unfoldable pub tables_of : map.FinMap nat_cmp ℕ → ℕ → Outcome Tables
tables_of image rsdp = do
  root ← root_pointer image rsdp
  list ← root_table image root
  entries ← listed image root.kind list
  tables_in image entries
