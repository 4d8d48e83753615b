-- BankField terms (ACPI 6.5, 19.6 and 20.2.5.2: DefBankField).
use Rattle.std.specs.Prelude.{◌≡◌, ℕ, List, Ok}
use Rattle.aml_path.specs.declared.segment.Seg.{Seg}
use Rattle.aml_path.specs.Paths.{Name}
use Rattle.aml_grammar.specs.declared.opcode.Opcode.TheVariants as opcodes
use Rattle.aml_grammar.specs.declared.opcode.TermCode.TheVariants as codes
use Rattle.aml_grammar.specs.Tree.{Tree, term, name, number, inner, list, no_parts, part, Trees}
use Rattle.aml_objects.specs.declared.entry.Entry.{Entry}
use Rattle.aml_objects.specs.declared.entry.FieldSource.{FieldSource}
use Rattle.aml_objects.specs.declared.entry.FieldUnit.{FieldUnit}
use Rattle.aml_objects.specs.declared.entry.NamedObject.{NamedObject}
use Rattle.aml_objects.specs.declared.entry.NamedObject.TheVariants as object
use Rattle.aml_namespace.specs.Search.{found}
use Rattle.aml_world.specs.state.State.{State}

-- the term with the names of a region and of a bank field, the term of the bank's value, the flags, and the list of fields
abbrev pub bank_field : Name → Name → Tree → ℕ → Trees → Tree
bank_field region bank value flags fields = term (codes.Opcode opcodes.BankField) (part (name region) (part (name bank) (part (inner value) (part (number flags) (part (list fields) no_parts)))))

-- a name finds this object, under this number
pub record Finds {S : Type 0} (w : State S) (scope : List Seg) (n : Name) (at : ℕ) (o : NamedObject) : Type 0 where
  pub path : List Seg
  pub entry : Entry
  pub finds : found w.names.map scope n ≡ Ok (path, entry)
  pub numbered : entry.number ≡ at
  pub is : entry.object ≡ o

-- a name finds a field unit of this source
abbrev pub FindsField : {S : Type 0} → State S → List Seg → Name → ℕ → FieldSource → Type 0
FindsField w scope n at source = (unit : FieldUnit) × Finds w scope n at (object.FieldUnit unit) × (unit.source ≡ source)
