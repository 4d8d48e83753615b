-- The tables of a machine, by signature and number (ACPI 6.5, table 5.5).
use Rattle.std.specs.Prelude.{ℕ, ◌-◌, ◌==◌, List, codes, Option, Some, None, slice_get, if◌then◌else◌}
use Rattle.std.specs.Str.{bytes_eq}
use Rattle.ar_tables.specs.declared.tables.Tables.{Tables}

-- of a single table, that at place 0
abbrev pub single : List ℕ → ℕ → Option (List ℕ)
single table i = if i == 0 then Some table else None

abbrev pub single_if : Option (List ℕ) → ℕ → Option (List ℕ)
single_if None i = None
single_if (Some table) i = single table i

-- the tables of a signature, counted from 0
abbrev pub table_at : Tables → List ℕ → ℕ → Option (List ℕ)
table_at t signature i =
    if bytes_eq signature (codes "DSDT") then single t.dsdt i
    else (if bytes_eq signature (codes "SSDT") then slice_get t.ssdts i
    else (if bytes_eq signature (codes "FACP") then single t.fadt i
    else (if bytes_eq signature (codes "APIC") then single_if t.madt i
    else None)))

-- counted from 1
abbrev pub table_numbered : Tables → List ℕ → ℕ → Option (List ℕ)
table_numbered t signature n = if n == 0 then None else table_at t signature (n - 1)
