-- Names of one segment (ACPI 6.5, 5.3).
use Rattle.std.specs.Prelude.{[], ◌∷◌}
use Rattle.aml_path.specs.declared.segment.Seg.{Seg}
use Rattle.aml_path.specs.declared.name.Prefix.TheVariants.{Parents}
use Rattle.aml_path.specs.Paths.{Name}

-- the name of a segment alone, without a prefix: it is searched for in the scope and above it
abbrev pub segment_name : Seg → Name
segment_name s = record { prefix = Parents 0; segments = s ∷ [] }
