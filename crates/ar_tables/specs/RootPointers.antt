-- The Root System Description Pointer (ACPI 6.5, 5.2.5.3).
use Rattle.std.specs.Prelude.{ℕ, ◌==◌, nat_le, Bool, List, take, drop, slice_index, codes, Ok, Err, if◌then◌else◌}
use Rattle.std.specs.Str.{bytes_eq}
use Rattle.std.specs.FinMap as map
use Rattle.std.specs.Ordering.{nat_cmp}
use Rattle.byteorder.specs.Endian.{little_number}
use Rattle.ar_space.specs.Outcome.{Outcome, ◌>>=◌}
use Rattle.ar_space.specs.declared.refusal.Refusal.TheVariants.{Table}
use Rattle.ar_space.specs.declared.refusal.TableFault.TheVariants.{BadSignature, BadLength}
use Rattle.ar_tables.specs.declared.root_pointer.RootKind.TheVariants.{Rsdt, Xsdt}
use Rattle.ar_tables.specs.declared.root_pointer.RootPointer.{RootPointer}
use Rattle.ar_tables.specs.ImageBytes.{bytes_at}
use Rattle.ar_tables.specs.Headers.{summed}

-- from revision 2 on there is more than the first 20 bytes
abbrev pub is_extended : List ℕ → Bool
is_extended rsdp = nat_le 2 (slice_index rsdp 15)

-- the first eight bytes are the signature, with a blank at its end
unfoldable pub rsdp_signed : List ℕ → Outcome (Unit {0})
rsdp_signed rsdp = if bytes_eq (take 8 rsdp) (codes "RSD PTR ") then Ok tt else Err (Table BadSignature)

-- the length of the whole structure, which has no upper limit
unfoldable pub rsdp_length : List ℕ → Outcome ℕ
rsdp_length rsdp = if nat_le 36 (little_number 4 (drop 20 rsdp)) then Ok (little_number 4 (drop 20 rsdp)) else Err (Table BadLength)

-- the checksum covers the first 20 bytes
unfoldable pub first_summed : List ℕ → Outcome (Unit {0})
first_summed rsdp = summed (take 20 rsdp)

abbrev pub to_rsdt : List ℕ → RootPointer
to_rsdt rsdp = record { kind = Rsdt; address = little_number 4 (drop 16 rsdp) }

-- the XSDT is used where its address isn't zero
abbrev pub to_xsdt : List ℕ → RootPointer
to_xsdt rsdp =
    if little_number 8 (drop 24 rsdp) == 0 then to_rsdt rsdp else record { kind = Xsdt; address = little_number 8 (drop 24 rsdp) }

-- revisions 0 and 1: 20 bytes
unfoldable pub first_root : List ℕ → Outcome RootPointer
first_root rsdp = do
  _ ← rsdp_signed rsdp
  _ ← summed rsdp
  Ok (to_rsdt rsdp)

-- revision 2 and later: 36 bytes at least, and the extended checksum covers the whole structure
unfoldable pub extended_root : map.FinMap nat_cmp ℕ → ℕ → Outcome RootPointer
extended_root image address = do
  header ← bytes_at image address 36
  _ ← rsdp_signed header
  count ← rsdp_length header
  rsdp ← bytes_at image address count
  _ ← first_summed rsdp
  _ ← summed rsdp
  Ok (to_xsdt rsdp)

abbrev pub root_by : map.FinMap nat_cmp ℕ → ℕ → List ℕ → Outcome RootPointer
root_by image address first = if is_extended first then extended_root image address else first_root first

-- where the list of the tables stands, by the RSDP at an address
unfoldable pub root_pointer : map.FinMap nat_cmp ℕ → ℕ → Outcome RootPointer
root_pointer image address = do
  first ← bytes_at image address 20
  root_by image address first
