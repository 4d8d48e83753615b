-- Terms that form strings, buffers and packages (ACPI 6.5, 19.6: Buffer, Package; 20.2.3: DefString).
use Rattle.std.specs.Prelude.{◌-◌, ℕ, suc, List, [], ◌∷◌, ◌++◌, length, replicate}
use Rattle.ar_space.specs.Accesses.{Accesses}
use Rattle.ar_space.specs.declared.refusal.Refusal.{Refusal}
use Rattle.ar_space.specs.declared.refusal.Refusal.TheVariants as refusal
use Rattle.ar_space.specs.declared.refusal.EvaluationFault.TheVariants.{NoValue, OutOfSteps}
use Rattle.aml_path.specs.declared.segment.Seg.{Seg}
use Rattle.aml_path.specs.Paths.{Name}
use Rattle.aml_grammar.specs.declared.opcode.Opcode.{Opcode}
use Rattle.aml_grammar.specs.declared.opcode.Opcode.TheVariants as opcodes
use Rattle.aml_grammar.specs.declared.opcode.TermCode.TheVariants as codes
use Rattle.aml_grammar.specs.Tree.{Tree, term, name, number, bytes, inner, list, Parts, no_parts, part, Trees, no_trees, tree}
use Rattle.aml_objects.specs.declared.object.Element.{Element}
use Rattle.aml_objects.specs.declared.object.Element.TheVariants as element
use Rattle.aml_objects.specs.declared.value.Value.{Value}
use Rattle.aml_objects.specs.declared.value.Value.TheVariants as value
use Rattle.aml_world.specs.state.State.{State}
use Rattle.aml_laws.specs.OperatorTerms.{of_opcode, GivesValue, GivesNothing, IsRefused}

-- ---- terms

-- the bytes of a string
abbrev pub string_term : List ℕ → Tree
string_term text = of_opcode opcodes.StringPrefix (part (bytes text) no_parts)

-- the term of the size, and the bytes that are written out
abbrev pub buffer_term : Tree → List ℕ → Tree
buffer_term x written = of_opcode opcodes.Buffer (part (inner x) (part (bytes written) no_parts))

-- how many elements, as a number or by a term, and the list of those that are written out
abbrev pub package_term : ℕ → Trees → Tree
package_term count ts = of_opcode opcodes.Package (part (number count) (part (list ts) no_parts))

abbrev pub var_package_term : Tree → Trees → Tree
var_package_term x ts = of_opcode opcodes.VarPackage (part (inner x) (part (list ts) no_parts))

-- a name that stands in a package, which isn't evaluated
abbrev pub name_in_package : Name → Tree
name_in_package n = term codes.Name (part (name n) no_parts)

-- ---- what they form

-- bytes with zeros behind them up to a length, and elements with uninitialized ones
abbrev pub filled_with_zeros : ℕ → List ℕ → List ℕ
filled_with_zeros count written = written ++ replicate (count - length written) 0

abbrev pub filled_with_none : ℕ → List Element → List Element
filled_with_none count es = es ++ replicate (count - length es) (element.Value value.Uninitialized)

-- a term that gives a value as an element
pub data IsValued : Tree → Type 0 where
  of_term : (op : Opcode) (ps : Parts) → IsValued (term (codes.Opcode op) ps)
  of_use : (ps : Parts) → IsValued (term codes.MethodInvocation ps)

-- the first terms of a list, at most so many, give these elements, one behind another in their order. A name takes a step, and stays a name
-- with its scope
pub data GivesElements {S : Type 0} (accesses : Accesses S) (scope : List Seg) (depth : ℕ) : ℕ → Trees → State S × ℕ → List Element → State S × ℕ → Type 0 where
  enough : (ts : Trees) (s : State S × ℕ) → GivesElements accesses scope depth 0 ts s [] s
  no_more : (n : ℕ) (s : State S × ℕ) → GivesElements accesses scope depth (suc n) no_trees s [] s
  of_value : (n : ℕ) (t : Tree) (ts : Trees) (s between after : State S × ℕ) (v : Value) (es : List Element) → IsValued t → GivesValue accesses scope depth t s v between → GivesElements accesses scope depth n ts between es after
      → GivesElements accesses scope depth (suc n) (tree t ts) s (element.Value v ∷ es) after
  of_name : (n : ℕ) (m : Name) (ts : Trees) (w : State S) (steps : ℕ) (after : State S × ℕ) (es : List Element) → GivesElements accesses scope depth n ts (w, steps) es after
      → GivesElements accesses scope depth (suc n) (tree (name_in_package m) ts) (w, suc steps) (element.Name m scope ∷ es) after

-- or one of them, behind such that give elements, is refused, or gives nothing; so is a name for which no step is left
pub data GivesNoElements {S : Type 0} (accesses : Accesses S) (scope : List Seg) (depth : ℕ) : ℕ → Trees → State S × ℕ → Refusal → State S × ℕ → Type 0 where
  refused_there : (n : ℕ) (t : Tree) (ts : Trees) (s after : State S × ℕ) (e : Refusal) → IsValued t → IsRefused accesses scope depth t s e after → GivesNoElements accesses scope depth (suc n) (tree t ts) s e after
  nothing_there : (n : ℕ) (t : Tree) (ts : Trees) (s after : State S × ℕ) → IsValued t → GivesNothing accesses scope depth t s after → GivesNoElements accesses scope depth (suc n) (tree t ts) s (refusal.Evaluation NoValue) after
  no_step_there : (n : ℕ) (m : Name) (ts : Trees) (w : State S) → GivesNoElements accesses scope depth (suc n) (tree (name_in_package m) ts) (w, 0) (refusal.Evaluation OutOfSteps) (w, 0)
  behind_value : (n : ℕ) (t : Tree) (ts : Trees) (s between after : State S × ℕ) (v : Value) (e : Refusal) → IsValued t → GivesValue accesses scope depth t s v between → GivesNoElements accesses scope depth n ts between e after
      → GivesNoElements accesses scope depth (suc n) (tree t ts) s e after
  behind_name : (n : ℕ) (m : Name) (ts : Trees) (w : State S) (steps : ℕ) (after : State S × ℕ) (e : Refusal) → GivesNoElements accesses scope depth n ts (w, steps) e after
      → GivesNoElements accesses scope depth (suc n) (tree (name_in_package m) ts) (w, suc steps) e after
