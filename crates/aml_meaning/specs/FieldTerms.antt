-- Declarations of operation regions and of fields (ACPI 6.5, 19.6: OperationRegion, Field, IndexField, CreateField and its like; 20.2.5.2:
-- FieldList).
use Rattle.std.specs.Prelude.{ℕ, ◌*◌, ◌%◌, ◌||◌, List, Bool, true, false}
use Rattle.ar_space.specs.declared.refusal.Refusal.TheVariants as refusal
use Rattle.ar_space.specs.declared.refusal.NameFault.TheVariants.{BadName}
use Rattle.ar_space.specs.Change.{Change, give, stop, settle, ◌>>=◌}
use Rattle.aml_path.specs.declared.segment.Seg.{Seg}
use Rattle.aml_path.specs.Paths.{Name, resolved}
use Rattle.aml_grammar.specs.declared.opcode.Opcode.{Opcode}
use Rattle.aml_grammar.specs.declared.opcode.Opcode.TheVariants as opcodes
use Rattle.aml_grammar.specs.declared.opcode.TermCode.{TermCode}
use Rattle.aml_grammar.specs.declared.opcode.TermCode.TheVariants as codes
use Rattle.aml_grammar.specs.Tree.{Tree, Trees, no_trees, tree}
use Rattle.aml_grammar.specs.Apart.{code_of, operand_of, name_of}
use Rattle.aml_objects.specs.declared.entry.NamedObject.TheVariants as object
use Rattle.aml_objects.specs.declared.entry.FieldSource.{FieldSource}
use Rattle.aml_objects.specs.declared.entry.FieldSource.TheVariants as sources
use Rattle.aml_fields.specs.BufferFields.{new_buffer_field}
use Rattle.aml_world.specs.declared.fields.field_layout.FieldLayout.{FieldLayout}
use Rattle.aml_world.specs.declared.fields.field_layout.FieldGroup.{FieldGroup}
use Rattle.aml_world.specs.declared.values.operation_kind.BufferFieldSize.{BufferFieldSize}
use Rattle.aml_world.specs.state.State.{State, on_objects}
use Rattle.aml_world.specs.state.Run.{Run, lift}
use Rattle.aml_world.specs.state.Profiles.{asked_for}
use Rattle.aml_world.specs.state.Readings.{integer_in}
use Rattle.aml_world.specs.fields.BufferFields.{buffer_of, bits_of_step, bits_of_size}
use Rattle.aml_world.specs.fields.FieldLayouts.{access_width, update_rule, sized, further, new_field, connection_found, region_found, field_found}
use Rattle.aml_meaning.specs.declared.flow.Flow.{Flow}
use Rattle.aml_meaning.specs.declared.flow.Flow.TheVariants as flow
use Rattle.aml_meaning.specs.declared.term_kind.RegionKind.{RegionKind}
use Rattle.aml_meaning.specs.declared.term_kind.RegionKind.TheVariants as kinds
use Rattle.aml_meaning.specs.Terms.{number_of, list_of, is_named}
use Rattle.aml_meaning.specs.Tasks.{Task, module_level, value_at, two_values}
use Rattle.aml_meaning.specs.DeclarationTerms.{declaring}

-- ---- elements of a list of fields

module _ {S : Type 0} (group : FieldGroup) (scope : List Seg) (depth : ℕ) where
  unfoldable pub named_field : FieldLayout → Tree → Change (State S) FieldLayout
  named_field at t = do
    n ← settle (name_of (operand_of t 0))
    p ← settle (resolved n scope)
    count ← settle (number_of (operand_of t 1))
    new_field group (module_level depth) p at count

  unfoldable pub reserved_field : FieldLayout → Tree → Change (State S) FieldLayout
  reserved_field at t = do
    count ← settle (number_of (operand_of t 0))
    settle (further at count)

  unfoldable pub access_field : FieldLayout → Tree → Change (State S) FieldLayout
  access_field at t = do
    flags ← settle (number_of (operand_of t 0))
    give (record at { access = access_width flags })

  -- a Connection that is a name has to be that of a buffer; nothing of it is read
  unfoldable pub named_connection : FieldLayout → Tree → Change (State S) FieldLayout
  named_connection at t = do
    n ← settle (name_of (operand_of t 0))
    buffer ← connection_found scope n
    give at

  -- one that is a term isn't evaluated; the fields behind it go on where they would without it
  abbrev pub connection_if : Bool → FieldLayout → Tree → Change (State S) FieldLayout
  connection_if true at t = named_connection at t
  connection_if false at t = give at

  abbrev pub connected_field : FieldLayout → Tree → Change (State S) FieldLayout
  connected_field at t = connection_if (is_named (operand_of t 0)) at t

  abbrev pub element_laid : TermCode → FieldLayout → Tree → Change (State S) FieldLayout
  element_laid codes.NamedField at t = named_field at t
  element_laid codes.ReservedField at t = reserved_field at t
  element_laid codes.AccessField at t = access_field at t
  element_laid codes.ExtendedAccessField at t = access_field at t
  element_laid codes.ConnectField at t = connected_field at t
  element_laid codes.Name at t = stop (refusal.Name BadName)
  element_laid codes.MethodInvocation at t = stop (refusal.Name BadName)
  element_laid (codes.Opcode op) at t = stop (refusal.Name BadName)

  unfoldable pub elements_laid : FieldLayout → Trees → Change (State S) (Unit {0})
  elements_laid at no_trees = give tt
  elements_laid at (tree t ts) = do
    next ← element_laid (code_of t) at t
    elements_laid next ts

-- a list in which a Connection stands is one of the wide profile
abbrev pub is_connection : TermCode → Bool
is_connection codes.ConnectField = true
is_connection _ = false

unfoldable pub has_connection : Trees → Bool
has_connection no_trees = false
has_connection (tree t ts) = is_connection (code_of t) || has_connection ts

abbrev pub asked_if : {S : Type 0} → Bool → Opcode → Change (State S) (Unit {0})
asked_if true op = asked_for op
asked_if false op = give tt

abbrev pub connections_asked : {S : Type 0} → Opcode → Trees → Change (State S) (Unit {0})
connections_asked op ts = asked_if (has_connection ts) op

-- the fields of a list, with these flags
unfoldable pub fields_laid : {S : Type 0} → List Seg → ℕ → FieldSource → ℕ → Trees → Run S Flow
fields_laid scope depth source flags ts = do
  laid ← lift (elements_laid (record { source = source; update = update_rule flags }) scope depth (record { bit_offset = 0; access = access_width flags }) ts)
  give flow.Next

-- ---- buffer fields

module _ {S : Type 0} (ev : Task → Run S Flow) where
  -- the offset and the length are evaluated here
  unfoldable pub region_rule : List Seg → ℕ → Tree → Run S Flow
  region_rule scope depth t = do
    space ← settle (number_of (operand_of t 1))
    offset ← value_at ev scope depth t 2
    size ← value_at ev scope depth t 3
    x ← lift (integer_in offset)
    y ← lift (integer_in size)
    declaring ev scope depth t 0 (object.OperationRegion (record { space = space % 256; offset = x; length = y }))

  unfoldable pub field_list_rule : List Seg → ℕ → Tree → Run S Flow
  field_list_rule scope depth t = do
    ts ← settle (list_of (operand_of t 2))
    asked ← lift (connections_asked opcodes.Field ts)
    n ← settle (name_of (operand_of t 0))
    region ← lift (region_found scope n)
    flags ← settle (number_of (operand_of t 1))
    fields_laid scope depth (sources.Region region) flags ts

  unfoldable pub index_list_rule : List Seg → ℕ → Tree → Run S Flow
  index_list_rule scope depth t = do
    ts ← settle (list_of (operand_of t 3))
    asked ← lift (connections_asked opcodes.IndexField ts)
    m ← settle (name_of (operand_of t 0))
    index ← lift (field_found scope m)
    n ← settle (name_of (operand_of t 1))
    behind ← lift (field_found scope n)
    flags ← settle (number_of (operand_of t 2))
    fields_laid scope depth (sources.Index index behind) flags ts

  -- CreateBitField, CreateByteField, CreateWordField, CreateDWordField and CreateQWordField: a buffer and an index
  unfoldable pub sized_field_rule : BufferFieldSize → List Seg → ℕ → Tree → Run S Flow
  sized_field_rule size scope depth t = do
    x ← two_values ev scope depth t
    o ← settle (buffer_of x.0)
    i ← lift (integer_in x.1)
    b ← lift (on_objects (new_buffer_field o (bits_of_step size * i) (bits_of_size size)))
    declaring ev scope depth t 2 (object.BufferField b)

  -- CreateField: a buffer, the index of the first bit, and how many bits
  unfoldable pub bits_field_rule : List Seg → ℕ → Tree → Run S Flow
  bits_field_rule scope depth t = do
    source ← value_at ev scope depth t 0
    index ← value_at ev scope depth t 1
    count ← value_at ev scope depth t 2
    o ← settle (buffer_of source)
    i ← lift (integer_in index)
    n ← lift (integer_in count)
    bits ← settle (sized n)
    b ← lift (on_objects (new_buffer_field o i bits))
    declaring ev scope depth t 3 (object.BufferField b)

  abbrev pub region_term_rule : RegionKind → List Seg → ℕ → Tree → Run S Flow
  region_term_rule kinds.OperationRegion scope depth t = region_rule scope depth t
  region_term_rule kinds.Field scope depth t = field_list_rule scope depth t
  region_term_rule kinds.IndexField scope depth t = index_list_rule scope depth t
  region_term_rule (kinds.SizedBufferField size) scope depth t = sized_field_rule size scope depth t
  region_term_rule kinds.BufferField scope depth t = bits_field_rule scope depth t
