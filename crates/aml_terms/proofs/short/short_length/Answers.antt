use Rattle.std.proofs.Common.{◌<◌, ◌+◌, ◌≡◌, rules, arith}
use Rattle.aml_grammar.specs.Names.{starts_name}
use Rattle.aml_grammar.specs.Table.{row_of}
use Rattle.aml_scan.proofs.RowPlaces.{held_at}
use Rattle.aml_terms.specs.ShortTerms.{short_length}
use Rattle.aml_terms.proofs.short.short_length.Goals as goal

pub returns : goal.returns
unfolding short_length starts_name row_of
returns c =
    let lt : c.from.result < 256 = omega arith in
    let e : 0 + c.from.result ≡ c.args.first = omega arith in
    search (rules, held_at short_length 0)
