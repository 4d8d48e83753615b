use Rattle.std.proofs.Common.{◌∙◌, ◌+◌, ◌-◌, ◌++◌, ap, sym, arith, append-nil}
use Rattle.ar_space.specs.Pages.{cell}
use Rattle.ar_space.proofs.RunBytes.{no_run, run_next}
use Rattle.ar_space.proofs.page.Page.append_to.Goals as goal

pub returns-in-None : goal.returns-in-None
returns-in-None c =
    let none = no_run (cell c.args.self.now) (c.args.at + c.loop-n.n) (c.args.count - c.loop-n.n) (sym c.byte.ensures ∙ c.in-None.is) in
    sym (append-nil c.loop-n.bytes.items) ∙ ap (λ xs. c.loop-n.bytes.items ++ xs) (sym none) ∙ c.loop-n.invariant

pub loop-n-preserved : goal.loop-n-preserved
loop-n-preserved c =
    rw c.in_ok-push-in-Some.ensures.items (run_next (cell c.args.self.now) (c.args.at + c.loop-n.n) (c.args.at + (c.loop-n.n + 1)) (c.args.count - c.loop-n.n) (c.args.count - (c.loop-n.n + 1)) c.in-Some.byte c.loop-n.bytes.items
    (omega arith) (omega (arith, c.loop-n-test.true)) (sym c.byte.ensures ∙ c.in-Some.is) ∙ c.loop-n.invariant)
