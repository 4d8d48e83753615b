-- Fields (ACPI 6.5, 19.6: Field, CreateField).
use Rattle.std.specs.Prelude.{ℕ}
use Rattle.aml_objects.specs.declared.entry.Field.{Field}
use Rattle.aml_objects.specs.declared.entry.Field.TheVariants.{Unit, Buffer}

-- how many bits a field has
abbrev pub bits_of_field : Field → ℕ
bits_of_field (Unit u) = u.bits
bits_of_field (Buffer b) = b.bits
