-- The fields that a list declares, one behind another (ACPI 6.5, 19.6: Field; 20.2.5.2: FieldList).
use Rattle.std.specs.Prelude.{◌≡◌, ◌≢◌, ◌⊎◌, ◌≤◌, ◌<◌, ◌+◌, ℕ, List, [], ◌∷◌, Some, Ok}
use Rattle.std.specs.FinMap.{get}
use Rattle.ar_space.specs.Outcome.{Outcome, ◌>>=◌}
use Rattle.aml_path.specs.declared.segment.Seg.{Seg}
use Rattle.aml_path.specs.Paths.{resolved}
use Rattle.aml_grammar.specs.declared.opcode.TermCode.TheVariants as codes
use Rattle.aml_grammar.specs.Tree.{Tree, Trees, no_trees, tree}
use Rattle.aml_grammar.specs.Apart.{code_of, operand_of, name_of}
use Rattle.aml_objects.specs.declared.entry.Entry.{Entry}
use Rattle.aml_objects.specs.declared.entry.FieldUnit.{FieldUnit}
use Rattle.aml_objects.specs.declared.entry.NamedObject.TheVariants as object
use Rattle.aml_namespace.specs.Namespace.{Map}
use Rattle.aml_world.specs.declared.fields.field_layout.FieldLayout.{FieldLayout}
use Rattle.aml_world.specs.declared.fields.field_layout.FieldGroup.{FieldGroup}
use Rattle.aml_world.specs.fields.FieldLayouts.{access_width}
use Rattle.aml_meaning.specs.Terms.{number_of}

-- each field begins where the one before it ends or behind that, and has a bit at least: so no two share one
abbrev pub InOrder : ℕ → List (List Seg × FieldUnit) → Type 0
InOrder from [] = Unit {0}
InOrder from (d ∷ ds) = (from ≤ d.1.bit_offset) × (0 < d.1.bits) × InOrder (d.1.bit_offset + d.1.bits) ds

-- at a path stands this field
pub record IsFieldAt (names : Map) (path : List Seg) (field : FieldUnit) : Type 0 where
  pub entry : Entry
  pub stands : get names path ≡ Some entry
  pub is : entry.object ≡ object.FieldUnit field

abbrev pub AllStand : Map → List (List Seg × FieldUnit) → Type 0
AllStand names [] = Unit {0}
AllStand names (d ∷ ds) = IsFieldAt names d.0 d.1 × AllStand names ds

-- the path that the name of an element stands for
abbrev pub path_in : List Seg → Tree → Outcome (List Seg)
path_in scope t = name_of (operand_of t 0) >>= (λ n. resolved n scope)

-- the fields are those of the list's elements that have a name, in their order, with their names and their numbers of bits
pub data AreNamed (scope : List Seg) : Trees → List (List Seg × FieldUnit) → Type 0 where
  none : AreNamed scope no_trees []
  named : (t : Tree) (ts : Trees) (path : List Seg) (field : FieldUnit) (ds : List (List Seg × FieldUnit)) → path_in scope t ≡ Ok path → number_of (operand_of t 1) ≡ Ok field.bits → AreNamed scope ts ds
      → AreNamed scope (tree t ts) ((path, field) ∷ ds)
  other : (t : Tree) (ts : Trees) (ds : List (List Seg × FieldUnit)) → code_of t ≢ codes.NamedField → AreNamed scope ts ds → AreNamed scope (tree t ts) ds

-- a field unit of a list, where its elements have come to a bit and an access width
abbrev pub unit_at : FieldGroup → FieldLayout → ℕ → FieldUnit
unit_at group at bits = record { source = group.source; bit_offset = at.bit_offset; bits = bits; access = at.access; update = group.update }

-- so many bits further on
abbrev pub moved_on : FieldLayout → ℕ → FieldLayout
moved_on at bits = record at { bit_offset = at.bit_offset + bits }

-- The fields as the elements of a list lay them out, bit by bit: a named one begins where the element before it ends, a reserved one
-- passes over its bits, an AccessField says the width of those behind it, and a Connection changes nothing.
pub data AreLaidOut (group : FieldGroup) (scope : List Seg) : FieldLayout → Trees → List (List Seg × FieldUnit) → Type 0 where
  no_fields : (at : FieldLayout) → AreLaidOut group scope at no_trees []
  next_named : (at : FieldLayout) (t : Tree) (ts : Trees) (path : List Seg) (bits : ℕ) (ds : List (List Seg × FieldUnit)) → code_of t ≡ codes.NamedField → path_in scope t ≡ Ok path → number_of (operand_of t 1) ≡ Ok bits
      → AreLaidOut group scope (moved_on at bits) ts ds → AreLaidOut group scope at (tree t ts) ((path, unit_at group at bits) ∷ ds)
  next_reserved : (at : FieldLayout) (t : Tree) (ts : Trees) (bits : ℕ) (ds : List (List Seg × FieldUnit)) → code_of t ≡ codes.ReservedField → number_of (operand_of t 0) ≡ Ok bits
      → AreLaidOut group scope (moved_on at bits) ts ds → AreLaidOut group scope at (tree t ts) ds
  next_access : (at : FieldLayout) (t : Tree) (ts : Trees) (flags : ℕ) (ds : List (List Seg × FieldUnit)) → (code_of t ≡ codes.AccessField) ⊎ (code_of t ≡ codes.ExtendedAccessField) → number_of (operand_of t 0) ≡ Ok flags
      → AreLaidOut group scope (record at { access = access_width flags }) ts ds → AreLaidOut group scope at (tree t ts) ds
  next_connection : (at : FieldLayout) (t : Tree) (ts : Trees) (ds : List (List Seg × FieldUnit)) → code_of t ≡ codes.ConnectField
      → AreLaidOut group scope at ts ds → AreLaidOut group scope at (tree t ts) ds
