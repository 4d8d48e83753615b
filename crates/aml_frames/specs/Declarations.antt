-- Terms that declare something: their operands, where they stand one behind another, and what rules come to behind a part that is
-- evaluated (ACPI 6.5, 19.6 and 20.2.5).
use Rattle.std.specs.Prelude.{ℕ, List, false}
use Rattle.ar_space.specs.Change.{give, settle, ◌>>=◌}
use Rattle.aml_path.specs.declared.segment.Seg.{Seg}
use Rattle.aml_path.specs.Paths.{resolved}
use Rattle.aml_grammar.specs.declared.opcode.TermCode.TheVariants as codes
use Rattle.aml_grammar.specs.Tree.{Tree, term, name, number, inner, list, Parts, no_parts, part}
use Rattle.aml_marks.specs.Marked.{Place, Below, over, an_integer, a_name, with_row}
use Rattle.aml_scan.specs.RowsAt.{row_at}
use Rattle.aml_scan.specs.declared.row_places.RowPlace.{RowPlace}
use Rattle.aml_objects.specs.declared.entry.NamedObject.{NamedObject}
use Rattle.aml_objects.specs.declared.entry.NamedObject.TheVariants as object
use Rattle.aml_world.specs.state.Run.{Run, lift}
use Rattle.aml_world.specs.state.Readings.{scope_found}
use Rattle.aml_world.specs.state.Declaring.{new_name}
use Rattle.aml_meaning.specs.declared.flow.Flow.{Flow}
use Rattle.aml_meaning.specs.declared.flow.Flow.TheVariants as flow
use Rattle.aml_meaning.specs.declared.term_kind.DeclarationKind.{DeclarationKind}
use Rattle.aml_meaning.specs.declared.term_kind.DeclarationKind.TheVariants as declarations
use Rattle.aml_meaning.specs.Tasks.{Task, module_level, operand_value, in_turn}
use Rattle.aml_meaning.specs.DeclarationTerms.{declaration_rule}
use Rattle.aml_frames.specs.Places.{Site, at_place, terms}
use Rattle.aml_frames.specs.Operands.{behind_one, inside_at, outside_at, items_at}

-- the term whose operands stand next, by the place of its row
abbrev pub coded_tree : RowPlace → Site → ℕ → Tree
coded_tree o c levels = (with_row (terms c levels) (row_at o) c.place).0

-- behind the numbers that a Processor and a PowerResource have behind their name
abbrev pub behind_numbers : DeclarationKind → Place → Place
behind_numbers declarations.Processor p = over 1 (over 4 (over 1 p))
behind_numbers declarations.PowerResource p = over 2 (over 1 p)
behind_numbers _ p = p

-- behind the name that stands first in a package
abbrev pub behind_scope_name : Place → Place
behind_scope_name p = (a_name (inside_at p)).1

module _ (b : Below) where
  -- ---- operands that terms have

  abbrev pub datum_at : Place → Parts
  datum_at p = part (name (a_name p).0) (part (inner (b false (a_name p).1).0) no_parts)

  abbrev pub scope_at : Place → Parts
  scope_at p = part (name (a_name (inside_at p)).0) (part (list (items_at b (behind_scope_name p))) no_parts)

  abbrev pub power_resource_at : Place → Parts
  power_resource_at p =
      let q = behind_scope_name p in
      part (name (a_name (inside_at p)).0) (part (number (an_integer 1 q).0) (part (number (an_integer 2 (over 1 q)).0) (part (list (items_at b (over 2 (over 1 q)))) no_parts)))

  abbrev pub processor_at : Place → Parts
  processor_at p =
      let q = behind_scope_name p in
      part (name (a_name (inside_at p)).0) (part (number (an_integer 1 q).0) (part (number (an_integer 4 (over 1 q)).0) (part (number (an_integer 1 (over 4 (over 1 q))).0) (part (list (items_at b (over 1 (over 4 (over 1 q))))) no_parts))))

  -- ---- by the kind of the term, and the place behind them; where no part is evaluated, the operands are those of the term itself

  abbrev pub declaration_tree : DeclarationKind → RowPlace → Place → Tree
  declaration_tree declarations.Scope o p = term codes.Name (scope_at p)
  declaration_tree declarations.Device o p = term codes.Name (scope_at p)
  declaration_tree declarations.Processor o p = term codes.Name (processor_at p)
  declaration_tree declarations.PowerResource o p = term codes.Name (power_resource_at p)
  declaration_tree declarations.ThermalZone o p = term codes.Name (scope_at p)
  declaration_tree declarations.Name o p = term codes.Name (datum_at p)
  declaration_tree declarations.Alias o p = (with_row b (row_at o) p).0
  declaration_tree declarations.External o p = (with_row b (row_at o) p).0
  declaration_tree declarations.Method o p = (with_row b (row_at o) p).0
  declaration_tree declarations.Mutex o p = (with_row b (row_at o) p).0
  declaration_tree declarations.Event o p = (with_row b (row_at o) p).0

  abbrev pub behind_declaration : DeclarationKind → RowPlace → Place → Place
  behind_declaration declarations.Scope o p = outside_at p
  behind_declaration declarations.Device o p = outside_at p
  behind_declaration declarations.Processor o p = outside_at p
  behind_declaration declarations.PowerResource o p = outside_at p
  behind_declaration declarations.ThermalZone o p = outside_at p
  behind_declaration declarations.Name o p = behind_one b (a_name p).1
  behind_declaration declarations.Alias o p = (with_row b (row_at o) p).1
  behind_declaration declarations.External o p = (with_row b (row_at o) p).1
  behind_declaration declarations.Method o p = (with_row b (row_at o) p).1
  behind_declaration declarations.Mutex o p = (with_row b (row_at o) p).1
  behind_declaration declarations.Event o p = (with_row b (row_at o) p).1

abbrev pub behind_declaration_at : DeclarationKind → RowPlace → Site → ℕ → Site
behind_declaration_at k o c levels = at_place c (behind_declaration (terms c levels) k o c.place)

-- the name that stands at a place is declared
unfoldable pub declared_at : {S : Type 0} → NamedObject → Place → Site → Run S Flow
declared_at o p c = do
  q ← settle (resolved (a_name p).0 c.scope)
  declared ← lift (new_name (module_level c.depth) q o)
  give flow.Next

-- what a term that opens a new scope declares; of other terms a plain scope
abbrev pub scope_object : DeclarationKind → NamedObject
scope_object declarations.Device = object.Device
scope_object declarations.Processor = object.Processor
scope_object declarations.PowerResource = object.PowerResource
scope_object declarations.ThermalZone = object.ThermalZone
scope_object _ = object.Scope

module _ {S : Type 0} (ev : Task → Run S Flow) where
  abbrev pub declaration_run : DeclarationKind → RowPlace → Site → ℕ → Run S Flow
  declaration_run k o c levels = declaration_rule ev k c.scope c.depth (declaration_tree (terms c levels) k o c.place)

  -- Name: its datum is evaluated, and then its name is declared
  unfoldable pub named_run : Site → ℕ → Run S Flow
  named_run c levels = do
    v ← operand_value ev c.scope c.depth (terms c levels false (a_name c.place).1).0
    declared_at (object.Data v) c.place c

  -- all that is left of a list, in a scope
  abbrev pub list_in : List Seg → Site → ℕ → Run S Flow
  list_in p c levels = in_turn ev p c.depth (items_at (terms c levels) c.place)

  -- Scope: the list stands in the scope that the name finds
  unfoldable pub scope_run : Site → ℕ → Run S Flow
  scope_run c levels = do
    p ← lift (scope_found c.scope (a_name (inside_at c.place)).0)
    list_in p (at_place c (behind_scope_name c.place)) levels

  -- Device and its like: a new name, and then the list in it
  unfoldable pub new_scope_run : DeclarationKind → NamedObject → Site → ℕ → Run S Flow
  new_scope_run k o c levels = do
    p ← settle (resolved (a_name (inside_at c.place)).0 c.scope)
    declared ← lift (new_name (module_level c.depth) p o)
    list_in p (at_place c (behind_numbers k (behind_scope_name c.place))) levels
