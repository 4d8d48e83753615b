use Rattle.std.proofs.Common.{◌∙◌}
use Rattle.text_words.proofs.Firsts.{first_place, place_within}
use Rattle.text_words.proofs.cuts.place_in_long.Goals as goal

pub returns-clause-value : goal.returns-clause-value
returns-clause-value c = c.unwrap_or.ensures ∙ first_place c.args.byte c.args.text.now c.memchr.result c.memchr.ensures

pub returns-clause-within : goal.returns-clause-within
returns-clause-within c = place_within c.args.byte c.args.text.now c.memchr.result c.unwrap_or.result c.unwrap_or.ensures c.memchr.ensures
