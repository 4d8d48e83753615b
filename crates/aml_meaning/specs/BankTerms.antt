-- Declarations of fields of a bank (ACPI 6.5, 19.6: BankField).
use Rattle.std.specs.Prelude.{ℕ, List}
use Rattle.ar_space.specs.Change.{settle, ◌>>=◌}
use Rattle.aml_path.specs.declared.segment.Seg.{Seg}
use Rattle.aml_grammar.specs.Tree.{Tree, Trees}
use Rattle.aml_grammar.specs.Apart.{operand_of, name_of}
use Rattle.aml_objects.specs.declared.entry.FieldSource.TheVariants as sources
use Rattle.aml_objects.specs.declared.value.Value.{Value}
use Rattle.aml_world.specs.state.Run.{Run, lift}
use Rattle.aml_world.specs.state.Readings.{integer_in}
use Rattle.aml_world.specs.fields.FieldLayouts.{region_found, field_found}
use Rattle.aml_meaning.specs.declared.flow.Flow.{Flow}
use Rattle.aml_meaning.specs.Terms.{number_of, list_of}
use Rattle.aml_meaning.specs.Tasks.{Task, value_at}
use Rattle.aml_meaning.specs.FieldTerms.{fields_laid}

-- the fields of a list, in the bank of a region that this value of a bank field selects
unfoldable pub banked_laid : {S : Type 0} → List Seg → ℕ → ℕ → ℕ → Value → ℕ → Trees → Run S Flow
banked_laid scope depth region bank v flags ts = do
  n ← lift (integer_in v)
  fields_laid scope depth (sources.Bank region (record { field = bank; value = n })) flags ts

module _ {S : Type 0} (ev : Task → Run S Flow) where
  -- the bank is a field of a region; its value is evaluated here
  unfoldable pub bank_list_rule : List Seg → ℕ → Tree → Run S Flow
  bank_list_rule scope depth t = do
    n ← settle (name_of (operand_of t 0))
    region ← lift (region_found scope n)
    m ← settle (name_of (operand_of t 1))
    bank ← lift (field_found scope m)
    v ← value_at ev scope depth t 2
    flags ← settle (number_of (operand_of t 3))
    ts ← settle (list_of (operand_of t 4))
    banked_laid scope depth region bank v flags ts
