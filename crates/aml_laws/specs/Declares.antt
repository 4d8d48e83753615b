-- Which path a term declares by one of its operands (ACPI 6.5, 19.6 and 20.2.5).
use Rattle.std.specs.Prelude.{◌≡◌, ℕ, List, Option, Some, None, Ok}
use Rattle.aml_path.specs.declared.segment.Seg.{Seg}
use Rattle.aml_path.specs.Paths.{Name, resolved}
use Rattle.aml_grammar.specs.declared.opcode.TermCode.{TermCode}
use Rattle.aml_grammar.specs.declared.opcode.TermCode.TheVariants as codes
use Rattle.aml_grammar.specs.Tree.{Tree, Trees, tree}
use Rattle.aml_grammar.specs.Apart.{code_of, operand_of, name_of}
use Rattle.aml_meaning.specs.declared.term_kind.TermKind.{TermKind}
use Rattle.aml_meaning.specs.declared.term_kind.TermKind.TheVariants as kinds
use Rattle.aml_meaning.specs.declared.term_kind.DeclarationKind.{DeclarationKind}
use Rattle.aml_meaning.specs.declared.term_kind.DeclarationKind.TheVariants as declarations
use Rattle.aml_meaning.specs.declared.term_kind.RegionKind.{RegionKind}
use Rattle.aml_meaning.specs.declared.term_kind.RegionKind.TheVariants as regions
use Rattle.aml_meaning.specs.Terms.{kind_of}

-- which operand names what a term declares
abbrev pub declared_place : DeclarationKind → Option ℕ
declared_place declarations.Name = Some 0
declared_place declarations.Device = Some 0
declared_place declarations.Processor = Some 0
declared_place declarations.PowerResource = Some 0
declared_place declarations.ThermalZone = Some 0
declared_place declarations.Method = Some 0
declared_place declarations.Mutex = Some 0
declared_place declarations.Event = Some 0
declared_place declarations.Alias = Some 1
declared_place declarations.Scope = None
declared_place declarations.External = None

-- a list of fields declares the names of its elements, of which this doesn't speak
abbrev pub region_place : RegionKind → Option ℕ
region_place regions.OperationRegion = Some 0
region_place regions.Field = None
region_place regions.IndexField = None
region_place (regions.SizedBufferField size) = Some 2
region_place regions.BufferField = Some 3

abbrev pub place_of_kind : TermKind → Option ℕ
place_of_kind (kinds.Declaration k) = declared_place k
place_of_kind (kinds.Region k) = region_place k
place_of_kind _ = None

abbrev pub place_in : TermCode → Option ℕ
place_in (codes.Opcode op) = place_of_kind (kind_of op)
place_in _ = None

-- a term declares a path in a scope
pub record Declares (scope : List Seg) (t : Tree) (p : List Seg) : Type 0 where
  pub place : ℕ
  pub name : Name
  pub declares : place_in (code_of t) ≡ Some place
  pub named : name_of (operand_of t place) ≡ Ok name
  pub stands_for : resolved name scope ≡ Ok p

-- a term of a list
pub data IsItem (t : Tree) : Trees → Type 0 where
  first : (ts : Trees) → IsItem t (tree t ts)
  later : (u : Tree) (ts : Trees) → IsItem t ts → IsItem t (tree u ts)
