use Rattle.ar_space.proofs.Outcomes.{seen_err}
use Rattle.route_report.specs.Reading.{give, with_give, give_line}
use Rattle.route_report.proofs.line.give_line.Goals as goal

pub returns-in_err-give : goal.returns-in_err-give
unfolding give_line
returns-in_err-give c = seen_err c.from_residual.result _ (give c.args.n c.args.words.now) (λ g. with_give c.args.n g c.args.draft.now) c.in_err-give.ensures c.from_residual.ensures
