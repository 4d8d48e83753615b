use Rattle.ar_space.proofs.Outcomes.{answers_ok, seen_err}
use Rattle.route_report.specs.Reading.{wired, with_wired, wired_line}
use Rattle.route_report.proofs.line.wired_line.Goals as goal

pub returns-in_err-wired : goal.returns-in_err-wired
unfolding wired_line
returns-in_err-wired c = seen_err c.from_residual.result _ (wired c.args.n c.args.words.now) (λ w. with_wired c.args.n w c.args.draft.now) c.in_err-wired.ensures.answer c.from_residual.ensures

pub returns : goal.returns
unfolding wired_line
returns c = answers_ok (wired c.args.n c.args.words.now) (λ w. with_wired c.args.n w c.args.draft.now) c.in_ok-wired.ensures.answer c.add_wired.ensures
