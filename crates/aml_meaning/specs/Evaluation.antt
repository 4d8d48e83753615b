-- What it means to evaluate a term (ACPI 6.5, 5.5 and 19.6): which rule it has. Each term costs a step when it begins; where none is
-- left the evaluation ends as `OutOfSteps`.
use Rattle.std.specs.Prelude.{ℕ, List}
use Rattle.ar_space.specs.declared.refusal.Refusal.TheVariants as refusal
use Rattle.ar_space.specs.declared.refusal.EvaluationFault.TheVariants.{Unsupported}
use Rattle.ar_space.specs.declared.refusal.NameFault.TheVariants.{BadName}
use Rattle.ar_space.specs.Accesses.{Accesses}
use Rattle.ar_space.specs.Change.{stop}
use Rattle.aml_path.specs.declared.segment.Seg.{Seg}
use Rattle.aml_grammar.specs.declared.opcode.Opcode.{Opcode}
use Rattle.aml_grammar.specs.declared.opcode.TermCode.{TermCode}
use Rattle.aml_grammar.specs.declared.opcode.TermCode.TheVariants as codes
use Rattle.aml_grammar.specs.Opcodes as opcodes
use Rattle.aml_grammar.specs.Tree.{Tree}
use Rattle.aml_grammar.specs.Apart.{code_of}
use Rattle.aml_world.specs.state.Run.{Run}
use Rattle.aml_meaning.specs.declared.flow.Flow.{Flow}
use Rattle.aml_meaning.specs.declared.term_kind.TermKind.{TermKind}
use Rattle.aml_meaning.specs.declared.term_kind.TermKind.TheVariants as kinds
use Rattle.aml_meaning.specs.Terms.{kind_of}
use Rattle.aml_meaning.specs.Tasks.{Task}
use Rattle.aml_meaning.specs.DataTerms.{data_rule}
use Rattle.aml_meaning.specs.DeclarationTerms.{declaration_rule}
use Rattle.aml_meaning.specs.OperatorTerms.{operator_rule}
use Rattle.aml_meaning.specs.StatementTerms.{statement_rule}
use Rattle.aml_meaning.specs.FieldTerms.{region_term_rule}
use Rattle.aml_meaning.specs.InvocationTerms.{name_value}
use Rattle.aml_meaning.specs.WideTerms.{in_wide, wide_rule}

-- accesses: what the register space makes of them; ev: what a part evaluates to
module _ {S : Type 0} (accesses : Accesses S) (ev : Task → Run S Flow) where
  abbrev pub kind_rule : TermKind → Opcode → List Seg → ℕ → Tree → Run S Flow
  kind_rule (kinds.Data k) op scope depth t = data_rule ev k scope depth t
  kind_rule (kinds.Declaration k) op scope depth t = declaration_rule ev k scope depth t
  kind_rule (kinds.Region k) op scope depth t = region_term_rule ev k scope depth t
  kind_rule (kinds.Operator k) op scope depth t = operator_rule accesses ev k scope depth t
  kind_rule (kinds.Statement k) op scope depth t = statement_rule ev k scope depth t
  kind_rule (kinds.Wide k) op scope depth t = in_wide op (wide_rule accesses ev k scope depth t)
  kind_rule kinds.Unsupported op scope depth t = stop (refusal.Evaluation (Unsupported (opcodes.number_of op)))

  abbrev pub code_rule : TermCode → List Seg → ℕ → Tree → Run S Flow
  code_rule (codes.Opcode op) scope depth t = kind_rule (kind_of op) op scope depth t
  code_rule codes.MethodInvocation scope depth t = name_value accesses ev scope depth t
  code_rule codes.Name scope depth t = stop (refusal.Name BadName)
  code_rule codes.NamedField scope depth t = stop (refusal.Name BadName)
  code_rule codes.ReservedField scope depth t = stop (refusal.Name BadName)
  code_rule codes.AccessField scope depth t = stop (refusal.Name BadName)
  code_rule codes.ExtendedAccessField scope depth t = stop (refusal.Name BadName)
  code_rule codes.ConnectField scope depth t = stop (refusal.Name BadName)

  unfoldable pub rule : Task → Run S Flow
  rule t = code_rule (code_of t.term) t.scope t.depth t.term
