-- The tables that the RSDT (ACPI 6.5, 5.2.7) or the XSDT (5.2.8) lists.
use Rattle.std.specs.Prelude.{ℕ, ◌*◌, ◌/◌, ◌==◌, not, Bool, true, false, nat_le, List, length, map, filter, drop, codes, Ok, Err, if◌then◌else◌}
use Rattle.std.specs.List.{range_with_len}
use Rattle.std.specs.Str.{bytes_eq}
use Rattle.std.specs.FinMap as maps
use Rattle.std.specs.Ordering.{nat_cmp}
use Rattle.byteorder.specs.Endian.{little_number}
use Rattle.ar_space.specs.Outcome.{Outcome, ◌>>=◌}
use Rattle.ar_space.specs.Each.{each}
use Rattle.ar_space.specs.declared.refusal.Refusal.TheVariants.{Table}
use Rattle.ar_space.specs.declared.refusal.TableFault.TheVariants.{BadLength}
use Rattle.ar_tables.specs.declared.table.TableKind.{TableKind}
use Rattle.ar_tables.specs.declared.table.TableKind.TheVariants as kind
use Rattle.ar_tables.specs.declared.root_pointer.RootKind.{RootKind}
use Rattle.ar_tables.specs.declared.root_pointer.RootKind.TheVariants.{Rsdt, Xsdt}
use Rattle.ar_tables.specs.declared.root_table.EntryKind.{EntryKind}
use Rattle.ar_tables.specs.declared.root_table.EntryKind.TheVariants.{Fadt, Madt, Ssdt, Other}
use Rattle.ar_tables.specs.declared.root_table.Entry.{Entry}
use Rattle.ar_tables.specs.ImageBytes.{bytes_at}

abbrev pub table_kind : RootKind → TableKind
table_kind Rsdt = kind.Rsdt
table_kind Xsdt = kind.Xsdt

-- how many bytes each address has
abbrev pub address_size : RootKind → ℕ
address_size Rsdt = 4
address_size Xsdt = 8

-- the addresses of a list: those that are zero are passed over
unfoldable pub addresses_in : RootKind → List ℕ → List ℕ
addresses_in root list =
    filter (λ address. not (address == 0))
    (map (λ n. little_number (address_size root) (drop (address_size root * n) list)) (range_with_len 0 (length list / address_size root)))

abbrev pub entry_kind : List ℕ → EntryKind
entry_kind signature =
    if bytes_eq signature (codes "FACP") then Fadt
    else (if bytes_eq signature (codes "APIC") then Madt
    else (if bytes_eq signature (codes "SSDT") then Ssdt
    else Other))

-- the table at an address by its signature, the first four bytes of its header
unfoldable pub entry_at : maps.FinMap nat_cmp ℕ → ℕ → Outcome Entry
entry_at image address = do
  signature ← bytes_at image address 4
  Ok (record { kind = entry_kind signature; address = address })

-- the tables of a list: the signature of each is in the image
unfoldable pub entries_at : maps.FinMap nat_cmp ℕ → List ℕ → Outcome (List Entry)
entries_at image addresses = each (entry_at image) addresses

-- the tables that a root table lists
unfoldable pub listed : maps.FinMap nat_cmp ℕ → RootKind → List ℕ → Outcome (List Entry)
listed image root table = do
  addresses ← Ok (addresses_in root (drop 36 table))
  entries_at image addresses

abbrev pub is_kind : EntryKind → EntryKind → Bool
is_kind Fadt Fadt = true
is_kind Madt Madt = true
is_kind Ssdt Ssdt = true
is_kind Other Other = true
is_kind a b = false

-- the addresses of the tables of one kind, in the order of the list
abbrev pub addresses_of : EntryKind → List Entry → List ℕ
addresses_of wanted entries = map (λ entry. entry.address) (filter (λ entry. is_kind entry.kind wanted) entries)

-- there are at most 256 SSDTs
unfoldable pub few : List ℕ → Outcome (Unit {0})
few addresses = if nat_le (length addresses) 256 then Ok tt else Err (Table BadLength)
