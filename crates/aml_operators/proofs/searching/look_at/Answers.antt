use Rattle.std.proofs.Common.{rules}
use Rattle.aml_operators.proofs.Matching.{refused_unheld, refused_value, passed_unheld, passed_value, leads_found, leads_element}
use Rattle.aml_operators.proofs.searching.look_at.Goals as goal

pub returns-in_err-held-clause-refused : goal.returns-in_err-held-clause-refused
returns-in_err-held-clause-refused g c =
    let e = c.run.view_is in
    rw (← e) (refused_unheld g.S.Space.accesses c.args.act.now.depth c.args.search c.args.act.now c.from_residual.result c.run.inside.world c.run.inside.steps c.args.left c.saturating_sub-index.result _ c.requires c.saturating_sub-index.ensures c.in_err-held.ensures.change c.from_residual.ensures)

pub returns-in_err-meets-in-Some-Value-clause-refused : goal.returns-in_err-meets-in-Some-Value-clause-refused
returns-in_err-meets-in-Some-Value-clause-refused g c =
    let e = c.run.view_is in
    rw (← e) (refused_value g.S.Space.accesses c.args.act.now.depth c.args.search c.args.act.now c.from_residual-in_err-meets-in-Some-Value.result c.run.inside.world c.run.inside.steps c.args.left c.saturating_sub-index.result c.in_ok-held.held c.in-Some-Value.value _ c.requires c.saturating_sub-index.ensures c.in_ok-held.ensures.change (search rules) c.in_err-meets-in-Some-Value.ensures c.from_residual-in_err-meets-in-Some-Value.ensures)

pub returns-then-meets-clause-means : goal.returns-then-meets-clause-means
returns-then-meets-clause-means g c =
    let e = c.run.view_is in
    rw (← e) (leads_found g.S.Space.accesses c.args.act.now.depth c.args.search c.run.inside.world c.run.inside.steps c.args.left c.saturating_sub-index.result c.in_ok-held.held c.in-Some-Value.value c.in_ok-meets-in-Some-Value.meets c.requires c.saturating_sub-index.ensures c.in_ok-held.ensures.change (search rules) c.in_ok-meets-in-Some-Value.ensures c.if-meets.true)

pub returns-in-None-clause-passed : goal.returns-in-None-clause-passed
returns-in-None-clause-passed g c =
    let e = c.run.view_is in
    λ _. rw (← e) (passed_unheld g.S.Space.accesses c.args.act.now.depth c.args.search c.run.inside.world c.run.inside.steps c.args.left c.saturating_sub-index.result c.in_ok-held.held c.requires c.saturating_sub-index.ensures c.in_ok-held.ensures.change c.in-None.is)

pub returns-else-meets-clause-passed : goal.returns-else-meets-clause-passed
returns-else-meets-clause-passed g c =
    let e = c.run.view_is in
    λ _. rw (← e) (passed_value g.S.Space.accesses c.args.act.now.depth c.args.search c.run.inside.world c.run.inside.steps c.args.left c.saturating_sub-index.result c.in_ok-held.held c.in-Some-Value.value c.in_ok-meets-in-Some-Value.meets c.requires c.saturating_sub-index.ensures c.in_ok-held.ensures.change (search rules) c.in_ok-meets-in-Some-Value.ensures c.if-meets.false)

pub returns-in_ok-next-in-Some-Field-clause-means : goal.returns-in_ok-next-in-Some-Field-clause-means
returns-in_ok-next-in-Some-Field-clause-means g c =
    let e = c.run.view_is in
    rw (← e) (leads_element g.S.Space.accesses c.args.search c.args.act.now c.run.inside.world c.run.inside.steps c.args.left c.saturating_sub-index.result c.in_ok-held.held c.in-Some-Field.field c.in_ok-next-in-Some-Field.next c.requires c.saturating_sub-index.ensures c.in_ok-held.ensures.change (search rules) c.in_ok-next-in-Some-Field.ensures.next)
