use Rattle.std.proofs.Common.{None, sym, ◌∙◌, ap}
use Rattle.std.specs.Prelude.{is_some}
use Rattle.std.proofs.lemmas.Bool.{true≢false}
use Rattle.std.proofs.lemmas.List.{get_or_default}
use Rattle.route_solve.proofs.matching.Matching.held.Goals as goal

pub returns-in-None : goal.returns-in-None
returns-in-None c = absurd (true≢false (sym c.requires.placed ∙ ap is_some (get_or_default c.args.self.now.choice.items c.args.link None c.index.result.now c.requires.link ∙ (sym c.index.ensures ∙ c.in-None.is))))
