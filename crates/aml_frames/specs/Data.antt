-- Data that terms form, where their parts stand one behind another: what a rule comes to behind a part that is evaluated (ACPI 6.5,
-- 19.6: Buffer, Package and VarPackage, and 20.2.3).
use Rattle.std.specs.Prelude.{ℕ, ◌-◌, List, [], ◌∷◌, ◌++◌, length, true}
use Rattle.ar_space.specs.Change.{give, ◌>>=◌}
use Rattle.aml_grammar.specs.declared.opcode.TermCode.TheVariants as codes
use Rattle.aml_grammar.specs.Shape.{trees_of}
use Rattle.aml_grammar.specs.Tree.{term, Trees}
use Rattle.aml_marks.specs.Marked.{a_name, a_text, to_end}
use Rattle.aml_scan.specs.declared.row_places.RowPlace.{RowPlace}
use Rattle.aml_objects.specs.declared.object.Element.{Element}
use Rattle.aml_objects.specs.declared.object.Element.TheVariants as element
use Rattle.aml_objects.specs.declared.value.Value.{Value}
use Rattle.aml_objects.specs.Objects.{make_string}
use Rattle.aml_world.specs.state.State.{on_objects}
use Rattle.aml_world.specs.state.Run.{Run, lift, charge}
use Rattle.aml_world.specs.state.NewObjects.{new_buffer, new_package}
use Rattle.aml_meaning.specs.declared.flow.Flow.{Flow}
use Rattle.aml_meaning.specs.declared.flow.Flow.TheVariants as flow
use Rattle.aml_meaning.specs.declared.term_kind.DataKind.{DataKind}
use Rattle.aml_meaning.specs.Tasks.{Task}
use Rattle.aml_meaning.specs.DataTerms.{data_rule, string_rule, buffer_rule, package_rule, var_package_rule, elements_in_turn, package_of}
use Rattle.aml_frames.specs.declared.position.Position.{Position}
use Rattle.aml_frames.specs.declared.frames.Package.{Package}
use Rattle.aml_frames.specs.Places.{Site, at_place, terms}
use Rattle.aml_frames.specs.Operands.{elements_at, text_at, buffer_at, package_at, var_package_at, data_tree, behind_data}

-- behind data whose parts stand next, by its kind and the place of its row
abbrev pub behind_data_at : DataKind → RowPlace → Site → ℕ → Site
behind_data_at k o c levels = at_place c (behind_data (terms c levels) k o c.place)

-- the elements of a package that are left
abbrev pub elements_left : Package → Site → Trees
elements_left k c = trees_of (to_end (terms c k.levels true) k.turns c.place).0

-- a package of so many elements, of which none is evaluated
abbrev pub unfilled : ℕ → ℕ → Position → Site → Package
unfilled n levels o c = record { count = n; left = n; turns = length c.place.rest; levels = levels; outer = o; done = [] }

-- the same package behind one element more
abbrev pub one_fewer : Package → Package
one_fewer k = record k { left = k.left - 1; turns = k.turns - 1 }

-- a string of the characters that stand before the next zero
abbrev pub text_made : {S : Type 0} → Site → Run S Value
text_made c = lift (on_objects (make_string (a_text c.place).0))

-- a buffer of so many bytes, the first of which stand next; of as many as stand there, where these are more
abbrev pub buffer_filled : {S : Type 0} → ℕ → Site → Run S Value
buffer_filled n c = lift (new_buffer n c.place.rest)

-- the value of a Buffer term is this buffer
abbrev pub buffer_made : {S : Type 0} → ℕ → Site → Run S Flow
buffer_made n c = do
  b ← buffer_filled n c
  give (flow.Value b)

-- a package of so many elements, the first of which are these
unfoldable pub package_made : {S : Type 0} → ℕ → List Element → Run S Flow
package_made n es = do
  v ← lift (new_package n es)
  give (flow.Value v)

module _ {S : Type 0} (ev : Task → Run S Flow) where
  -- data whose parts stand next
  abbrev pub data_run : DataKind → RowPlace → Site → ℕ → Run S Flow
  data_run k o c levels = data_rule ev k c.scope c.depth (data_tree (terms c levels) k o c.place)

  abbrev pub string_run : Site → Run S Flow
  string_run c = string_rule ev (term codes.Name (text_at c.place))

  abbrev pub buffer_run : Site → ℕ → Run S Flow
  buffer_run c levels = buffer_rule ev c.scope c.depth (term codes.Name (buffer_at (terms c levels) c.place))

  abbrev pub package_term_run : Site → ℕ → Run S Flow
  package_term_run c levels = package_rule ev c.scope c.depth (term codes.Name (package_at (terms c levels) c.place))

  abbrev pub var_package_run : Site → ℕ → Run S Flow
  var_package_run c levels = var_package_rule ev c.scope c.depth (term codes.Name (var_package_at (terms c levels) c.place))

  -- a package of so many elements: those that stand next
  abbrev pub package_of_all : ℕ → ℕ → Site → Run S Flow
  package_of_all n levels c = package_of ev c.scope c.depth n (elements_at (terms c levels) c.place)

  -- the elements that are left of a package, behind those that are done, and then the package
  abbrev pub package_left : Package → List Element → Site → Run S Flow
  package_left k done c = elements_in_turn ev c.scope c.depth k.left (elements_left k c) done >>= package_made k.count

  abbrev pub package_run : Package → Site → Run S Flow
  package_run k c = package_left k k.done c

  -- a name is the next element, which costs a step
  unfoldable pub named_left : Package → Site → Run S Flow
  named_left k c = do
    step ← charge
    package_left (one_fewer k) (k.done ++ element.Name (a_name c.place).0 c.scope ∷ []) (at_place c (a_name c.place).1)
