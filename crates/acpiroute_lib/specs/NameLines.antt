-- The names of a namespace, line by line.
use Rattle.std.specs.Prelude.{ℕ, List, [], ◌∷◌, ◌++◌, codes, decimal}
use Rattle.aml_path.specs.declared.segment.Seg.{Seg}
use Rattle.aml_path.specs.Text.{text_of}
use Rattle.acpi_machine.specs.Kinds as kinds

-- the word of a kind; with a method goes how many arguments it takes, and with an alias the path that it stands for
abbrev pub kind_text : kinds.Kind → List ℕ
kind_text kinds.Scope = codes "Scope"
kind_text kinds.Device = codes "Device"
kind_text kinds.Processor = codes "Processor"
kind_text kinds.PowerResource = codes "PowerRes"
kind_text kinds.ThermalZone = codes "ThermalZone"
kind_text (kinds.Method n) = codes "Method " ++ decimal n
kind_text kinds.Uninitialized = codes "Uninitialized"
kind_text kinds.Integer = codes "Integer"
kind_text kinds.String = codes "String"
kind_text kinds.Buffer = codes "Buffer"
kind_text kinds.Package = codes "Package"
kind_text kinds.Reference = codes "Reference"
kind_text kinds.FieldUnit = codes "FieldUnit"
kind_text kinds.BufferField = codes "BufferField"
kind_text kinds.Region = codes "Region"
kind_text kinds.Mutex = codes "Mutex"
kind_text kinds.Event = codes "Event"
kind_text (kinds.Alias p) = codes "Alias " ++ text_of p

-- a path, a blank, and the kind of what stands there
abbrev pub name_line : List Seg × kinds.Kind → List ℕ
name_line node = text_of node.0 ++ (codes " " ++ (kind_text node.1 ++ codes "\n"))

abbrev pub name_lines : List (List Seg × kinds.Kind) → List ℕ
name_lines [] = []
name_lines (node ∷ nodes) = name_line node ++ name_lines nodes
