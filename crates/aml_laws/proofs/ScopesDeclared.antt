-- A Device, a Processor, a PowerResource and a ThermalZone stand at their path before their list is evaluated.
use Rattle.std.specs.Prelude.{◌≡◌, ℕ, suc, List, Some, Ok}
use Rattle.ar_space.specs.Accesses.{Accesses}
use Rattle.aml_path.specs.declared.segment.Seg.{Seg}
use Rattle.aml_path.specs.Paths.{Name, resolved}
use Rattle.aml_grammar.specs.Apart.{code_of, name_of, operand_of}
use Rattle.aml_grammar.specs.declared.opcode.Opcode.{Opcode}
use Rattle.aml_grammar.specs.declared.opcode.TermCode.TheVariants as codes
use Rattle.aml_grammar.specs.Tree.{Tree, Trees, list}
use Rattle.aml_objects.specs.declared.entry.NamedObject.{NamedObject}
use Rattle.aml_world.specs.state.State.{State}
use Rattle.aml_meaning.specs.Tasks.{task, in_turn}
use Rattle.aml_meaning.specs.Meaning.{meaning}
use Rattle.aml_laws.specs.InnerLists.{DeclaresScope}
use Rattle.aml_laws.specs.DeclaredObjects.{IsFree, with_name}
use Rattle.aml_laws.proofs.ListsWithinTerms.{declared_scope_list}
use Rattle.aml_laws.proofs.NamesDeclared.{new_name_so}

pub scope_declares : {S : Type 0} (accesses : Accesses S) (scope : List Seg) (depth : ℕ) (n : Name) (path : List Seg) → resolved n scope ≡ Ok path → (w : State S) (steps : ℕ) (code : Opcode) (o : NamedObject) (i : ℕ) (t : Tree) (ts : Trees) → DeclaresScope code o i
    → code_of t ≡ codes.Opcode code → name_of (operand_of t 0) ≡ Ok n → operand_of t i ≡ Some (list ts) → IsFree depth w path → meaning accesses (task scope depth t) (w, suc steps) ≡ in_turn (meaning accesses) path depth ts (with_name w path o, steps)
scope_declares accesses scope depth n path is w steps code o i t ts declares coded at items free =
    declared_scope_list accesses code o i scope path depth t n ts w (with_name w path o) steps w.names.next declares coded at is (new_name_so w path o depth free) items
