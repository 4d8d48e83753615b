-- Tables by their description header (ACPI 6.5, 5.2.6).
use Rattle.std.specs.Prelude.{ℕ, ◌-◌, ◌%◌, ◌==◌, ◌&&◌, nat_le, Bool, List, take, drop, sum, codes, Ok, Err, if◌then◌else◌}
use Rattle.std.specs.Str.{bytes_eq}
use Rattle.std.specs.FinMap as map
use Rattle.std.specs.Ordering.{nat_cmp}
use Rattle.byteorder.specs.Endian.{little_number}
use Rattle.ar_space.specs.Outcome.{Outcome, ◌>>=◌}
use Rattle.ar_space.specs.declared.refusal.Refusal.TheVariants.{Table}
use Rattle.ar_space.specs.declared.refusal.TableFault.TheVariants.{BadSignature, BadLength, BadChecksum}
use Rattle.ar_tables.specs.declared.table.TableKind.{TableKind}
use Rattle.ar_tables.specs.declared.table.TableKind.TheVariants as kind
use Rattle.ar_tables.specs.ImageBytes.{bytes_at}

-- the signatures (ACPI 6.5, table 5.5)
abbrev pub signature_of : TableKind → List ℕ
signature_of kind.Rsdt = codes "RSDT"
signature_of kind.Xsdt = codes "XSDT"
signature_of kind.Fadt = codes "FACP"
signature_of kind.Madt = codes "APIC"
signature_of kind.Dsdt = codes "DSDT"
signature_of kind.Ssdt = codes "SSDT"

-- a table has its header of 36 bytes and at most 1,048,576 bytes. The RSDT is a list of addresses of four bytes (5.2.7),
-- the XSDT one of addresses of eight (5.2.8); the FADT goes on to its address of the DSDT (5.2.9), and the MADT to its
-- flags (5.2.12).
abbrev pub is_length : TableKind → ℕ → Bool
is_length kind.Rsdt n = nat_le 36 n && (nat_le n 1048576 && ((n - 36) % 4 == 0))
is_length kind.Xsdt n = nat_le 36 n && (nat_le n 1048576 && ((n - 36) % 8 == 0))
is_length kind.Fadt n = nat_le 44 n && nat_le n 1048576
is_length kind.Madt n = nat_le 44 n && nat_le n 1048576
is_length kind.Dsdt n = nat_le 36 n && nat_le n 1048576
is_length kind.Ssdt n = nat_le 36 n && nat_le n 1048576

-- the first four bytes of a header are the signature
unfoldable pub signed : TableKind → List ℕ → Outcome (Unit {0})
signed of header = if bytes_eq (take 4 header) (signature_of of) then Ok tt else Err (Table BadSignature)

-- the next four are the length of the whole table
unfoldable pub length_in : TableKind → List ℕ → Outcome ℕ
length_in of header =
    if is_length of (little_number 4 (drop 4 header)) then Ok (little_number 4 (drop 4 header)) else Err (Table BadLength)

-- the bytes of a structure add up to zero, modulo 256
unfoldable pub summed : List ℕ → Outcome (Unit {0})
summed bytes = if sum bytes % 256 == 0 then Ok tt else Err (Table BadChecksum)

-- the table at an address: its header is in the image, it has its signature, its length is one that it may have, all
-- its bytes are in the image, and they add up to zero
unfoldable pub table_at : map.FinMap nat_cmp ℕ → TableKind → ℕ → Outcome (List ℕ)
table_at image of address = do
  header ← bytes_at image address 36
  _ ← signed of header
  count ← length_in of header
  table ← bytes_at image address count
  _ ← summed table
  Ok table
