use Rattle.std.proofs.Common.{◌≡◌, ◌∙◌, ◌≤◌, ap, length, List, refl, arith}
use Rattle.aml_arities.specs.declared.counts.Counts.{Counts}
use Rattle.aml_arities.specs.Counts.{Counted, counts_at, shown}
use Rattle.aml_arities.proofs.PathTrees.{kept_length, number_is}
use Rattle.aml_arities.proofs.Counted.{room_same, filled_same}
use Rattle.aml_arities.proofs.counts.CountTree.make.Goals as goal

pub returns-in_err-node-clause-same : goal.returns-in_err-node-clause-same
returns-in_err-node-clause-same c = λ q e.
    room_same c.self.inside.tree c.make.new.self c.make.ensures.kept c.self.inside.counts.items c.self.inside.counts.items c.self.invariant (λ n. refl) q e
    ∙ ap (λ (t : Counted). shown t q e) c.self.view_is

pub returns-in_err-resize-clause-same : goal.returns-in_err-resize-clause-same
returns-in_err-resize-clause-same c = λ q e.
    room_same c.self.inside.tree c.make.new.self c.make.ensures.kept c.self.inside.counts.items c.resize.new.self.items c.self.invariant (λ n. ap (λ (l : List Counts). counts_at l n) c.in_err-resize.ensures.items) q e
    ∙ ap (λ (t : Counted). shown t q e) c.self.view_is

pub returns-clause-same : goal.returns-clause-same
returns-clause-same c = λ q e.
    let cs = c.self.inside.counts.items in
    let enough : length cs ≤ c.len.result = omega (arith, kept_length c.self.inside.tree c.make.new.self c.make.ensures.kept, c.self.invariant, c.len.ensures) in
    room_same c.self.inside.tree c.make.new.self c.make.ensures.kept cs c.resize.new.self.items c.self.invariant (filled_same cs c.resize.new.self.items c.len.result _ enough c.in_ok-resize.ensures.items) q e
    ∙ ap (λ (t : Counted). shown t q e) c.self.view_is

pub returns-clause-room : goal.returns-clause-room
returns-clause-room c =
    let within = (number_is c.args.path.now c.make.new.self c.in_ok-node.node c.in_ok-node.ensures.node).0 in
    omega (arith, within, c.len.ensures, c.in_ok-resize.ensures.len)
