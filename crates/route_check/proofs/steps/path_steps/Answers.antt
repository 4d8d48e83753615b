use Rattle.std.proofs.Common.{◌≡◌, ◌+◌, ◌-◌, ℕ, get_or, sym, subst, ap, ◌∙◌, arith}
use Rattle.aml_path.specs.Paths.{path_cmp}
use Rattle.route_check.proofs.Ascending.{path_exact, stopped}
use Rattle.route_check.proofs.steps.path_steps.Goals as goal

pub returns-then-is_ge : goal.returns-then-is_ge
returns-then-is_ge g c =
    let i = c.loop-i.i in
    let y = c.index-xs-i-in-loop-i.result in
    let same : i ≡ i - 1 + 1 = omega arith in
    let at : y ≡ get_or c.args.xs.now (i - 1 + 1) y = subst (λ (k : ℕ). y ≡ get_or c.args.xs.now k y) same c.index-xs-i-in-loop-i.is in
    let step = c.cmp-step.ensures ∙ (ap (λ p. path_cmp p c.name-in-loop-i.result.now) c.name.ensures ∙ ap (path_cmp (g.T.Named.path c.index-xs-i.result)) c.name-in-loop-i.ensures) in
    stopped path_cmp path_exact g.T.Named.path c.args.xs.now c.cmp-step.result (i - 1) c.index-xs-i.result y step (sym c.is_ge.ensures ∙ c.if-is_ge.true) (omega arith) c.index-xs-i.is at
