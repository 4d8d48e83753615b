-- The Multiple APIC Description Table (ACPI 6.5, 5.2.12): its interrupt controller structures.
use Rattle.std.specs.Prelude.{ℕ, zero, suc, ◌==◌, ◌&&◌, nat_le, Bool, true, false, List, [], ◌∷◌, ◌++◌, length, drop, slice_index, option_to_list, Option, Some, None, Ok, Err, if◌then◌else◌}
use Rattle.byteorder.specs.Endian.{little_number}
use Rattle.ar_space.specs.Outcome.{Outcome}
use Rattle.ar_space.specs.declared.refusal.Refusal.TheVariants.{Table}
use Rattle.ar_space.specs.declared.refusal.TableFault.TheVariants.{BadLength}
use Rattle.ar_tables.specs.declared.madt.MadtEntry.{MadtEntry}
use Rattle.ar_tables.specs.declared.madt.MadtEntry.TheVariants.{IoApic, SourceOverride}

-- the first byte of a structure is its type and the second its length. An I/O APIC structure, of type 1, has 12 bytes
-- (5.2.12.3), an interrupt source override structure, of type 2, has 10 (5.2.12.5), and every structure has two.
abbrev pub least_length : ℕ → ℕ
least_length type = if type == 1 then 12 else (if type == 2 then 10 else 2)

-- a structure is as long as its type needs, and doesn't end past the bytes
unfoldable pub begins_well : List ℕ → Bool
begins_well bytes =
    nat_le 2 (length bytes) && (nat_le (least_length (slice_index bytes 0)) (slice_index bytes 1) && nat_le (slice_index bytes 1) (length bytes))

-- what the structure says that the bytes begin with, where its type is known
unfoldable pub entry_in : List ℕ → Option MadtEntry
entry_in bytes =
    if slice_index bytes 0 == 1 then Some (IoApic (slice_index bytes 2) (little_number 4 (drop 4 bytes)) (little_number 4 (drop 8 bytes)))
    else (if slice_index bytes 0 == 2 then Some (SourceOverride (slice_index bytes 2) (slice_index bytes 3) (little_number 4 (drop 4 bytes)) (little_number 2 (drop 8 bytes)))
    else None)

-- the structure that the bytes begin with, and the bytes behind it
unfoldable pub first_structure : List ℕ → Option (Option MadtEntry × List ℕ)
first_structure bytes = if begins_well bytes then Some (entry_in bytes, drop (slice_index bytes 1) bytes) else None

-- whether the bytes are structures, one behind another; each has a byte at least
abbrev pub are_behind : (List ℕ → Bool) → Option (Option MadtEntry × List ℕ) → Bool
are_behind behind None = false
are_behind behind (Some found) = behind found.1

unfoldable pub are_within : ℕ → List ℕ → Bool
are_within n [] = true
are_within zero (b ∷ bytes) = false
are_within (suc n) (b ∷ bytes) = are_behind (λ rest. are_within n rest) (first_structure (b ∷ bytes))

unfoldable pub are_structures : List ℕ → Bool
are_structures bytes = are_within (length bytes) bytes

-- the entries of the structures, one behind another; those of other types are passed over
abbrev pub entries_behind : (List ℕ → List MadtEntry) → Option (Option MadtEntry × List ℕ) → List MadtEntry
entries_behind behind None = []
entries_behind behind (Some found) = option_to_list found.0 ++ behind found.1

unfoldable pub entries_within : ℕ → List ℕ → List MadtEntry
entries_within zero bytes = []
entries_within (suc n) bytes = entries_behind (λ rest. entries_within n rest) (first_structure bytes)

unfoldable pub entries_in : List ℕ → List MadtEntry
entries_in bytes = entries_within (length bytes) bytes

-- behind the header stand the local interrupt controller's address and the flags, and behind those the structures
abbrev pub structures_of : List ℕ → List ℕ
structures_of madt = drop 44 madt

-- each structure is as long as its type needs, and the last ends with the table
unfoldable pub well_structured : List ℕ → Outcome (Unit {0})
well_structured madt = if are_structures (structures_of madt) then Ok tt else Err (Table BadLength)
