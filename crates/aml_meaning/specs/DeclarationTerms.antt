-- Declarations, and the scopes that they stand in (ACPI 6.5, 19.6).
use Rattle.std.specs.Prelude.{ℕ, ◌%◌, List}
use Rattle.ar_space.specs.Change.{give, settle, ◌>>=◌}
use Rattle.aml_path.specs.declared.segment.Seg.{Seg}
use Rattle.aml_path.specs.Paths.{resolved}
use Rattle.aml_grammar.specs.Tree.{Tree}
use Rattle.aml_grammar.specs.Apart.{operand_of, name_of, bytes_of}
use Rattle.aml_objects.specs.declared.entry.NamedObject.{NamedObject}
use Rattle.aml_objects.specs.declared.entry.NamedObject.TheVariants as object
use Rattle.aml_world.specs.state.Run.{Run, lift}
use Rattle.aml_world.specs.state.Readings.{path_found, scope_found}
use Rattle.aml_world.specs.state.Declaring.{new_name, new_method}
use Rattle.aml_meaning.specs.declared.flow.Flow.{Flow}
use Rattle.aml_meaning.specs.declared.flow.Flow.TheVariants as flow
use Rattle.aml_meaning.specs.declared.term_kind.DeclarationKind.{DeclarationKind}
use Rattle.aml_meaning.specs.declared.term_kind.DeclarationKind.TheVariants as kinds
use Rattle.aml_meaning.specs.Terms.{number_of, inner_of, list_of}
use Rattle.aml_meaning.specs.Tasks.{Task, module_level, operand_value, in_turn}

module _ {S : Type 0} (ev : Task → Run S Flow) where
  -- a name that the term's operand at a position declares
  unfoldable pub declaring : List Seg → ℕ → Tree → ℕ → NamedObject → Run S Flow
  declaring scope depth t position o = do
    n ← settle (name_of (operand_of t position))
    p ← settle (resolved n scope)
    number ← lift (new_name (module_level depth) p o)
    give flow.Next

  unfoldable pub name_rule : List Seg → ℕ → Tree → Run S Flow
  name_rule scope depth t = do
    datum ← settle (inner_of (operand_of t 1))
    v ← operand_value ev scope depth datum
    declaring scope depth t 0 (object.Data v)

  unfoldable pub alias_rule : List Seg → ℕ → Tree → Run S Flow
  alias_rule scope depth t = do
    source ← settle (name_of (operand_of t 0))
    target ← lift (path_found scope source)
    n ← settle (name_of (operand_of t 1))
    p ← settle (resolved n scope)
    number ← lift (new_name (module_level depth) p (object.Alias target))
    give flow.Next

  unfoldable pub method_rule : List Seg → ℕ → Tree → Run S Flow
  method_rule scope depth t = do
    n ← settle (name_of (operand_of t 0))
    p ← settle (resolved n scope)
    flags ← settle (number_of (operand_of t 1))
    body ← settle (bytes_of (operand_of t 2))
    number ← lift (new_method (module_level depth) p (record { byte = flags % 256 }) body)
    give flow.Next

  -- ---- scopes: the list stands in the scope

  unfoldable pub scope_rule : List Seg → ℕ → Tree → Run S Flow
  scope_rule scope depth t = do
    n ← settle (name_of (operand_of t 0))
    p ← lift (scope_found scope n)
    ts ← settle (list_of (operand_of t 1))
    in_turn ev p depth ts

  -- a new name, and then the list, the operand at a position
  unfoldable pub new_scope : NamedObject → ℕ → List Seg → ℕ → Tree → Run S Flow
  new_scope o position scope depth t = do
    n ← settle (name_of (operand_of t 0))
    p ← settle (resolved n scope)
    number ← lift (new_name (module_level depth) p o)
    ts ← settle (list_of (operand_of t position))
    in_turn ev p depth ts

  abbrev pub declaration_rule : DeclarationKind → List Seg → ℕ → Tree → Run S Flow
  declaration_rule kinds.Scope scope depth t = scope_rule scope depth t
  declaration_rule kinds.Device scope depth t = new_scope object.Device 1 scope depth t
  declaration_rule kinds.Processor scope depth t = new_scope object.Processor 4 scope depth t
  declaration_rule kinds.PowerResource scope depth t = new_scope object.PowerResource 3 scope depth t
  declaration_rule kinds.ThermalZone scope depth t = new_scope object.ThermalZone 1 scope depth t
  declaration_rule kinds.Name scope depth t = name_rule scope depth t
  declaration_rule kinds.Alias scope depth t = alias_rule scope depth t
  declaration_rule kinds.External scope depth t = give flow.Next
  declaration_rule kinds.Method scope depth t = method_rule scope depth t
  declaration_rule kinds.Mutex scope depth t = declaring scope depth t 0 (object.Mutex 0)
  declaration_rule kinds.Event scope depth t = declaring scope depth t 0 (object.Event 0)
