-- Terms with lists of terms: those that declare an object in whose scope the list is, and those with a condition (ACPI 6.5, 20.2.5.2 and
-- 20.2.5.3).
use Rattle.std.specs.Prelude.{◌≡◌, ◌<◌, ℕ, List, Some}
use Rattle.ar_space.specs.Accesses.{Accesses}
use Rattle.ar_space.specs.Outcome.{Outcome}
use Rattle.aml_path.specs.declared.segment.Seg.{Seg}
use Rattle.aml_grammar.specs.declared.opcode.Opcode.{Opcode}
use Rattle.aml_grammar.specs.declared.opcode.Opcode.TheVariants as opcodes
use Rattle.aml_grammar.specs.declared.opcode.TermCode.TheVariants as codes
use Rattle.aml_grammar.specs.Tree.{Tree, Trees, inner, list}
use Rattle.aml_grammar.specs.Apart.{code_of, operand_of}
use Rattle.aml_objects.specs.declared.entry.NamedObject.{NamedObject}
use Rattle.aml_objects.specs.declared.entry.NamedObject.TheVariants as named
use Rattle.aml_world.specs.state.State.{State}
use Rattle.aml_meaning.specs.declared.flow.Flow.{Flow}
use Rattle.aml_meaning.specs.Meaning.{meaning}
use Rattle.aml_meaning.specs.Tasks.{in_turn}
use Rattle.aml_laws.specs.OperatorTerms.{OneInteger}

-- the objects in whose scope a Scope term declares names
pub data OpensScope : NamedObject → Type 0 where
  a_scope : OpensScope named.Scope
  a_device : OpensScope named.Device
  a_processor : OpensScope named.Processor
  a_power_resource : OpensScope named.PowerResource
  a_thermal_zone : OpensScope named.ThermalZone

-- a term, the object that it declares, and which operand from 0 its list is
pub data DeclaresScope : Opcode → NamedObject → ℕ → Type 0 where
  of_device : DeclaresScope opcodes.Device named.Device 1
  of_processor : DeclaresScope opcodes.Processor named.Processor 4
  of_power_resource : DeclaresScope opcodes.PowerRes named.PowerResource 3
  of_thermal_zone : DeclaresScope opcodes.ThermalZone named.ThermalZone 1

-- a term with a condition and a list, and the integer to which its condition, evaluated there, converts
pub record Tests {S : Type 0} (accesses : Accesses S) (scope : List Seg) (depth : ℕ) (op : Opcode) (t : Tree) (ts : Trees) (s : State S × ℕ) (x : ℕ) (after : State S × ℕ) : Type 0 where
  pub code : code_of t ≡ codes.Opcode op
  pub condition : Tree
  pub first : operand_of t 0 ≡ Some (inner condition)
  pub second : operand_of t 1 ≡ Some (list ts)
  pub gives : OneInteger accesses scope depth condition s x after

-- the condition of a While holds, and what its list, evaluated in turn then, comes to
pub record Turns {S : Type 0} (accesses : Accesses S) (scope : List Seg) (depth : ℕ) (t : Tree) (s : State S × ℕ) (r : Outcome Flow) (end : State S × ℕ) : Type 0 where
  pub items : Trees
  pub x : ℕ
  pub after : State S × ℕ
  pub tests : Tests accesses scope depth opcodes.While t items s x after
  pub holds : 0 < x
  pub comes_to : in_turn (meaning accesses) scope depth items after ≡ (r, end)
