-- Declarations of operation regions and of fields: their operands, where they stand one behind another, and what rules come to behind a
-- part that is evaluated (ACPI 6.5, 19.6: OperationRegion, BankField, CreateField and its like).
use Rattle.std.specs.Prelude.{ℕ, ◌*◌, ◌%◌, false}
use Rattle.ar_space.specs.Change.{settle, ◌>>=◌}
use Rattle.aml_grammar.specs.declared.opcode.TermCode.TheVariants as codes
use Rattle.aml_grammar.specs.Tree.{Tree, term, name, number, inner, Parts, no_parts, part}
use Rattle.aml_marks.specs.Marked.{Place, Below, over, an_integer, a_name, with_row}
use Rattle.aml_scan.specs.RowsAt.{row_at}
use Rattle.aml_scan.specs.declared.row_places.RowPlace.{RowPlace}
use Rattle.aml_objects.specs.declared.entry.NamedObject.TheVariants as object
use Rattle.aml_objects.specs.declared.value.Value.{Value}
use Rattle.aml_fields.specs.BufferFields.{new_buffer_field}
use Rattle.aml_world.specs.declared.values.operation_kind.BufferFieldSize.{BufferFieldSize}
use Rattle.aml_world.specs.state.State.{on_objects}
use Rattle.aml_world.specs.state.Run.{Run, lift}
use Rattle.aml_world.specs.state.Readings.{integer_in}
use Rattle.aml_world.specs.fields.FieldLayouts.{region_found, field_found, sized}
use Rattle.aml_world.specs.fields.BufferFields.{buffer_of, bits_of_step, bits_of_size}
use Rattle.aml_meaning.specs.declared.flow.Flow.{Flow}
use Rattle.aml_meaning.specs.declared.term_kind.RegionKind.{RegionKind}
use Rattle.aml_meaning.specs.declared.term_kind.RegionKind.TheVariants as regions
use Rattle.aml_meaning.specs.Tasks.{Task, operand_value}
use Rattle.aml_meaning.specs.BankTerms.{banked_laid}
use Rattle.aml_meaning.specs.FieldTerms.{region_rule, region_term_rule}
use Rattle.aml_frames.specs.declared.frames.DeclarationPart.{DeclarationPart}
use Rattle.aml_frames.specs.declared.frames.DeclarationPart.TheVariants as parts
use Rattle.aml_frames.specs.Places.{Site, place_between, at_place, terms, next_term, behind_term}
use Rattle.aml_frames.specs.Operands.{behind_one, behind_two, fields_at}
use Rattle.aml_frames.specs.Declarations.{declared_at}

-- behind the name and the address space of an operation region
abbrev pub behind_space : Place → Place
behind_space p = over 1 (a_name p).1

module _ (b : Below) where
  -- ---- operands that terms have

  abbrev pub region_at : Place → Parts
  region_at p = part (name (a_name p).0) (part (number (an_integer 1 (a_name p).1).0) (part (inner (b false (behind_space p)).0) (part (inner (b false (behind_one b (behind_space p))).0) no_parts)))

  abbrev pub sized_field_at : Place → Parts
  sized_field_at p = part (inner (b false p).0) (part (inner (b false (behind_one b p)).0) (part (name (a_name (behind_two b p)).0) no_parts))

  abbrev pub bits_field_at : Place → Parts
  bits_field_at p = part (inner (b false p).0) (part (inner (b false (behind_one b p)).0) (part (inner (b false (behind_two b p)).0) (part (name (a_name (behind_one b (behind_two b p))).0) no_parts)))

  -- ---- by the kind of the term, and the place behind them; where no part is evaluated, the operands are those of the term itself

  abbrev pub region_tree : RegionKind → RowPlace → Place → Tree
  region_tree regions.OperationRegion o p = term codes.Name (region_at p)
  region_tree regions.Field o p = (with_row b (row_at o) p).0
  region_tree regions.IndexField o p = (with_row b (row_at o) p).0
  region_tree (regions.SizedBufferField size) o p = term codes.Name (sized_field_at p)
  region_tree regions.BufferField o p = term codes.Name (bits_field_at p)

  abbrev pub behind_region : RegionKind → RowPlace → Place → Place
  behind_region regions.OperationRegion o p = behind_two b (behind_space p)
  behind_region regions.Field o p = (with_row b (row_at o) p).1
  behind_region regions.IndexField o p = (with_row b (row_at o) p).1
  behind_region (regions.SizedBufferField size) o p = (a_name (behind_two b p)).1
  behind_region regions.BufferField o p = (a_name (behind_one b (behind_two b p))).1

abbrev pub behind_region_at : RegionKind → RowPlace → Site → ℕ → Site
behind_region_at k o c levels = at_place c (behind_region (terms c levels) k o c.place)

-- behind the name that stands next
abbrev pub behind_name : Site → Site
behind_name c = at_place c (a_name c.place).1

-- where a declaration ends, one part of which was evaluated
abbrev pub part_ends : DeclarationPart → Site → Site
part_ends (parts.RegionOffset space o levels) c = behind_term c levels
part_ends (parts.RegionLength space o offset) c = c
part_ends (parts.SizedSource size levels) c = behind_name (behind_term c levels)
part_ends (parts.SizedIndex size source) c = behind_name c
part_ends (parts.BitsSource levels) c = behind_name (behind_term (behind_term c levels) levels)
part_ends (parts.BitsIndex levels source) c = behind_name (behind_term c levels)
part_ends (parts.BitsCount source index) c = behind_name c
part_ends (parts.BankValue levels o region bank) c = at_place c (place_between c.bytes o.at o.end)

-- ---- what is declared with the values of its parts

module _ {S : Type 0} where
  -- an operation region whose name stands at a place: its address space, and its offset and its length
  unfoldable pub region_declared : ℕ → Place → Value → Value → Site → Run S Flow
  region_declared space p offset length c = do
    x ← lift (integer_in offset)
    y ← lift (integer_in length)
    declared_at (object.OperationRegion (record { space = space; offset = x; length = y })) p c

  -- a buffer field whose term says how many bits it has, and whose name stands next
  unfoldable pub sized_field_declared : BufferFieldSize → Value → Value → Site → Run S Flow
  sized_field_declared size source index c = do
    o ← settle (buffer_of source)
    i ← lift (integer_in index)
    b ← lift (on_objects (new_buffer_field o (bits_of_step size * i) (bits_of_size size)))
    declared_at (object.BufferField b) c.place c

  -- a buffer field of so many bits, whose name stands next
  unfoldable pub bits_field_declared : Value → Value → Value → Site → Run S Flow
  bits_field_declared source index count c = do
    o ← settle (buffer_of source)
    i ← lift (integer_in index)
    n ← lift (integer_in count)
    bits ← settle (sized n)
    b ← lift (on_objects (new_buffer_field o i bits))
    declared_at (object.BufferField b) c.place c

  -- the fields of a BankField whose flags stand next
  abbrev pub bank_declared : ℕ → ℕ → ℕ → Value → Site → Run S Flow
  bank_declared levels region bank v c = banked_laid c.scope c.depth region bank v (an_integer 1 c.place).0 (fields_at (terms c levels) (over 1 c.place))

module _ {S : Type 0} (ev : Task → Run S Flow) where
  -- a BankField whose region and bank field were found, and one whose names stand next
  abbrev pub bank_value_run : ℕ → ℕ → ℕ → Site → Run S Flow
  bank_value_run levels region bank c = do
    v ← operand_value ev c.scope c.depth (next_term c levels)
    bank_declared levels region bank v (behind_term c levels)

  unfoldable pub bank_names_run : ℕ → Site → Run S Flow
  bank_names_run levels c = do
    region ← lift (region_found c.scope (a_name c.place).0)
    bank ← lift (field_found c.scope (a_name (a_name c.place).1).0)
    bank_value_run levels region bank (behind_name (behind_name c))

  abbrev pub region_term_run : RegionKind → RowPlace → Site → ℕ → Run S Flow
  region_term_run k o c levels = region_term_rule ev k c.scope c.depth (region_tree (terms c levels) k o c.place)

  abbrev pub operation_region_run : Site → ℕ → Run S Flow
  operation_region_run c levels = region_rule ev c.scope c.depth (term codes.Name (region_at (terms c levels) c.place))

  -- what is left of a declaration, a part of which has this value
  abbrev pub part_declared : DeclarationPart → Value → Site → Run S Flow
  part_declared (parts.RegionOffset space o levels) v c = do
    u ← operand_value ev c.scope c.depth (next_term c levels)
    region_declared space (place_between c.bytes o.at o.end) v u (behind_term c levels)
  part_declared (parts.RegionLength space o offset) v c = region_declared space (place_between c.bytes o.at o.end) offset v c
  part_declared (parts.SizedSource size levels) v c = do
    u ← operand_value ev c.scope c.depth (next_term c levels)
    sized_field_declared size v u (behind_term c levels)
  part_declared (parts.SizedIndex size source) v c = sized_field_declared size source v c
  part_declared (parts.BitsSource levels) v c = do
    u ← operand_value ev c.scope c.depth (next_term c levels)
    w ← operand_value ev c.scope c.depth (next_term (behind_term c levels) levels)
    bits_field_declared v u w (behind_term (behind_term c levels) levels)
  part_declared (parts.BitsIndex levels source) v c = do
    u ← operand_value ev c.scope c.depth (next_term c levels)
    bits_field_declared source v u (behind_term c levels)
  part_declared (parts.BitsCount source index) v c = bits_field_declared source index v c
  part_declared (parts.BankValue levels o region bank) v c = bank_declared levels region bank v c
