-- The names of the objects of a device that is asked (ACPI 6.5, 6.2 and 6.3).
use Rattle.std.specs.Prelude.{codes, refl}
use Rattle.aml_path.specs.declared.segment.Seg.{Seg}

-- its status (6.3.7)
abbrev pub sta : Seg
sta = record { bytes = codes "_STA"; valid = refl }

-- its possible resource settings (6.2.12)
abbrev pub prs : Seg
prs = record { bytes = codes "_PRS"; valid = refl }

-- its current resource settings (6.2.2)
abbrev pub crs : Seg
crs = record { bytes = codes "_CRS"; valid = refl }

-- setting its resources (6.2.16)
abbrev pub srs : Seg
srs = record { bytes = codes "_SRS"; valid = refl }
