use Rattle.route_try.proofs.trial.choose.Given as goal

abbrev pub decreases-loop-limit : goal.decreases-loop-limit
decreases-loop-limit l = l.limit
