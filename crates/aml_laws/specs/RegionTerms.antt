-- OperationRegion, Field and IndexField terms, and what they declare (ACPI 6.5, 19.6 and 20.2.5.2).
use Rattle.std.specs.Prelude.{◌≡◌, ◌<◌, ◌+◌, ◌*◌, ℕ, List, Some}
use Rattle.std.specs.FinMap.{get}
use Rattle.aml_path.specs.declared.segment.Seg.{Seg}
use Rattle.aml_path.specs.Paths.{Name}
use Rattle.aml_grammar.specs.declared.opcode.TermCode.TheVariants as codes
use Rattle.aml_grammar.specs.declared.opcode.Opcode.TheVariants as opcodes
use Rattle.aml_grammar.specs.Tree.{Tree, Trees, term, part, no_parts, name, number, inner, list}
use Rattle.aml_objects.specs.declared.entry.Entry.{Entry}
use Rattle.aml_objects.specs.declared.entry.NamedObject.TheVariants as object
use Rattle.aml_objects.specs.declared.entry.OperationRegion.{OperationRegion}
use Rattle.aml_namespace.specs.Namespace.{Map}

-- the term with the name of the region, the number of its address space, and the terms of its offset and of its length
abbrev pub operation_region : Name → ℕ → Tree → Tree → Tree
operation_region n space offset size = term (codes.Opcode opcodes.OpRegion) (part (name n) (part (number space) (part (inner offset) (part (inner size) no_parts))))

-- the term with the name of a region, the flags, and the list of fields; and that with the names of an index field and a data field
abbrev pub field : Name → ℕ → Trees → Tree
field region flags fields = term (codes.Opcode opcodes.Field) (part (name region) (part (number flags) (part (list fields) no_parts)))

abbrev pub index_field : Name → Name → ℕ → Trees → Tree
index_field index behind flags fields = term (codes.Opcode opcodes.IndexField) (part (name index) (part (name behind) (part (number flags) (part (list fields) no_parts))))

-- at a path stands this operation region
pub record IsRegionAt (names : Map) (path : List Seg) (region : OperationRegion) : Type 0 where
  pub entry : Entry
  pub stands : get names path ≡ Some entry
  pub is : entry.object ≡ object.OperationRegion region

-- field flags: the access type in the low four bits, a lock bit that says nothing here, and the update rule in the next two
pub record HasFlags (flags access update : ℕ) : Type 0 where
  pub small : access < 16
  pub lock : ℕ
  pub a_bit : lock < 2
  pub few : update < 4
  pub further : ℕ
  pub is : flags ≡ access + 16 * lock + 32 * update + 128 * further
