-- What names are where an answer is handed out: those that references lead to, and elements of packages.
use Rattle.std.specs.Prelude.{ℕ, List, Option, Some, None, Ok, Err}
use Rattle.ar_space.specs.Outcome.{Outcome, seen}
use Rattle.ar_space.specs.Change.{Change}
use Rattle.aml_path.specs.declared.segment.Seg.{Seg}
use Rattle.aml_path.specs.Paths.{Name, resolved}
use Rattle.aml_objects.specs.declared.value.Value.{Value}
use Rattle.aml_objects.specs.declared.value.Value.TheVariants as value
use Rattle.aml_objects.specs.declared.value.Reference.{Reference}
use Rattle.aml_objects.specs.declared.entry.Entry.{Entry}
use Rattle.aml_objects.specs.declared.entry.Field.{Field}
use Rattle.aml_objects.specs.declared.entry.Field.TheVariants as field
use Rattle.aml_objects.specs.declared.entry.NamedObject.{NamedObject}
use Rattle.aml_objects.specs.declared.entry.NamedObject.TheVariants as object
use Rattle.aml_namespace.specs.Namespace.{numbered}
use Rattle.aml_namespace.specs.Search.{found}
use Rattle.aml_world.specs.declared.state.name_use.NameUse.{NameUse}
use Rattle.aml_world.specs.declared.state.name_use.NameUse.TheVariants as uses
use Rattle.aml_world.specs.state.State.{State}
use Rattle.aml_world.specs.state.Given as given

-- a reference to a name that stands is given as its path
abbrev pub standing : Option (List Seg × Entry) → given.Given
standing None = given.Reference
standing (Some e) = given.Named e.0

unfoldable pub path_of : {S : Type 0} → ℕ → Change (State S) given.Given
path_of n w = (Ok (standing (numbered n w.names.map)), w)

-- what an element stands for that is a name: the value that it holds, or else its path; where nothing is found, the path that it would
-- have
abbrev pub value_or_path : Value → Outcome (List Seg) → Outcome NameUse
value_or_path value.Uninitialized p = Ok (uses.Value value.Uninitialized)
value_or_path (value.Integer n) p = Ok (uses.Value (value.Integer n))
value_or_path (value.String o) p = Ok (uses.Value (value.String o))
value_or_path (value.Buffer o) p = Ok (uses.Value (value.Buffer o))
value_or_path (value.Package o) p = Ok (uses.Value (value.Package o))
value_or_path (value.Reference r) p = seen uses.Path p

abbrev pub held_or_path : NamedObject → Outcome (List Seg) → Outcome NameUse
held_or_path (object.Data v) p = value_or_path v p
held_or_path (object.FieldUnit u) p = Ok (uses.Field (field.Unit u))
held_or_path (object.BufferField b) p = Ok (uses.Field (field.Buffer b))
held_or_path _ p = seen uses.Path p

abbrev pub use_of : Outcome Entry → Outcome (List Seg) → Outcome (List Seg) → Outcome NameUse
use_of (Ok e) found_at would_be = held_or_path e.object found_at
use_of (Err x) found_at would_be = seen uses.Path would_be

unfoldable pub name_use : {S : Type 0} → Name → List Seg → Change (State S) NameUse
name_use n scope w = (use_of (seen (λ f. f.1) (found w.names.map scope n)) (seen (λ f. f.0) (found w.names.map scope n)) (resolved n scope), w)
