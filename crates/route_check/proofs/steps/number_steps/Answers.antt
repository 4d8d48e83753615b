use Rattle.std.proofs.Common.{◌≡◌, ◌+◌, ◌-◌, ℕ, get_or, sym, subst, ap, ◌∙◌, arith}
use Rattle.std.specs.Ordering.{nat_cmp}
use Rattle.route_check.proofs.Ascending.{nat_exact, stopped}
use Rattle.route_check.proofs.steps.number_steps.Goals as goal

pub returns-then-is_ge : goal.returns-then-is_ge
returns-then-is_ge g c =
    let i = c.loop-i.i in
    let y = c.index-xs-i-in-loop-i.result in
    let same : i ≡ i - 1 + 1 = omega arith in
    let at : y ≡ get_or c.args.xs.now (i - 1 + 1) y = subst (λ (k : ℕ). y ≡ get_or c.args.xs.now k y) same c.index-xs-i-in-loop-i.is in
    let step = c.cmp-step.ensures ∙ (ap (λ n. nat_cmp n c.number-in-loop-i.result) c.number.ensures ∙ ap (nat_cmp (g.T.Numbered.number c.index-xs-i.result)) c.number-in-loop-i.ensures) in
    stopped nat_cmp nat_exact g.T.Numbered.number c.args.xs.now c.cmp-step.result (i - 1) c.index-xs-i.result y step (sym c.is_ge.ensures ∙ c.if-is_ge.true) (omega arith) c.index-xs-i.is at
