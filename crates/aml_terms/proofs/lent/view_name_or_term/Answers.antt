use Rattle.std.proofs.Common.{rules}
use Rattle.aml_marks.specs.Marked.{a_name}
use Rattle.aml_terms.proofs.lent.view_name_or_term.Goals as goal

pub returns-then-starts_name : goal.returns-then-starts_name
returns-then-starts_name c = ((a_name c.args.cursor.now).0, search rules)
