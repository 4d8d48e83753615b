-- The Fixed ACPI Description Table (ACPI 6.5, 5.2.9).
use Rattle.std.specs.Prelude.{ℕ, ◌==◌, nat_le, List, length, drop, if◌then◌else◌}
use Rattle.byteorder.specs.Endian.{little_number}

-- X_DSDT, where the table has it
abbrev pub x_dsdt : List ℕ → ℕ
x_dsdt fadt = if nat_le 148 (length fadt) then little_number 8 (drop 140 fadt) else 0

-- X_DSDT where it isn't zero, else DSDT
abbrev pub dsdt_address : List ℕ → ℕ
dsdt_address fadt = if x_dsdt fadt == 0 then little_number 4 (drop 40 fadt) else x_dsdt fadt

-- SCI_INT, where the table has it
abbrev pub sci_interrupt : List ℕ → ℕ
sci_interrupt fadt = if nat_le 48 (length fadt) then little_number 2 (drop 46 fadt) else 0
