use Rattle.std.proofs.Common.{rules}
use Rattle.aml_terms.specs.AtTree.{at_list}
use Rattle.aml_declarations.proofs.BankTerms.{laid_behind}
use Rattle.aml_declarations.proofs.bank_fields.lay_behind_flags.Goals as goal

pub returns-clause-means : goal.returns-clause-means
returns-clause-means g c =
    laid_behind c.args.act.now c.advance.new.self c.args.list.0 c.from-flags.result c.args.source (at_list c.field_list-elements.result) c.advance.ensures (search rules) c.field_list-elements.ensures c.lay_fields-flow.ensures.means
