-- The interrupt source of the System Control Interrupt: SCI_INT of the FADT (ACPI 6.5, 5.2.9), which an interrupt source override
-- of the MADT can make another global system interrupt (5.2.12.5).
use Rattle.std.specs.Prelude.{ℕ, ◌==◌, Bool, true, false, List, [], ◌∷◌, unwrap_or, Option, Some, None, if◌then◌else◌}
use Rattle.ar_tables.specs.declared.madt.MadtEntry.{MadtEntry}
use Rattle.ar_tables.specs.declared.madt.MadtEntry.TheVariants.{IoApic, SourceOverride}
use Rattle.ar_tables.specs.declared.tables.Tables.{Tables}
use Rattle.ar_tables.specs.Fadts.{sci_interrupt}
use Rattle.ar_tables.specs.Structures.{entries_in, structures_of}

-- the global system interrupt that an entry gives a source, if it is an override of it
abbrev pub gsi_in : MadtEntry → ℕ → Option ℕ
gsi_in (IoApic id address gsi_base) source = None
gsi_in (SourceOverride bus of gsi flags) source = if of == source then Some gsi else None

-- that of the first override of a source; a source without one is its own
unfoldable pub gsi_among : List MadtEntry → ℕ → ℕ
gsi_among [] source = source
gsi_among (entry ∷ entries) source = unwrap_or (gsi_in entry source) (gsi_among entries source)

abbrev pub gsi_by : Option (List ℕ) → ℕ → ℕ
gsi_by None source = source
gsi_by (Some madt) source = gsi_among (entries_in (structures_of madt)) source

-- where I/O APICs are used
abbrev pub sci_gsi : Tables → Bool → ℕ
sci_gsi t true = gsi_by t.madt (sci_interrupt t.fadt)
sci_gsi t false = sci_interrupt t.fadt

-- there is none where SCI_INT is zero
unfoldable pub sci_source : Tables → Bool → Option ℕ
sci_source t apic = if sci_interrupt t.fadt == 0 then None else Some (sci_gsi t apic)
