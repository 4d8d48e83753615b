-- Control methods (ACPI 6.5, 20.2.5.2).
use Rattle.std.specs.Prelude.{ℕ, ◌%◌}
use Rattle.aml_objects.specs.declared.entry.MethodFlags.{MethodFlags}

-- how many arguments a control method takes: bits 0 to 2 of its flags
abbrev pub arguments_taken : MethodFlags → ℕ
arguments_taken f = f.byte % 8
