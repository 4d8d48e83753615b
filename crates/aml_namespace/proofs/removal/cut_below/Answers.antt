use Rattle.std.specs.FinMap.{len}
use Rattle.aml_namespace.specs.Tree.{child_in}
use Rattle.aml_namespace.proofs.Cutting.{underway_child, child_later, underway_cut, some_below, fewer, all_gone, measure_cut, measure_child}
use Rattle.aml_namespace.proofs.removal.cut_below.Goals as goal

pub nodes-smaller-in-Some : goal.nodes-smaller-in-Some
nodes-smaller-in-Some c =
    let later = child_later c.args.nodes.now c.nodes.nodes (child_in c.nodes.index) c.args.next c.args.start.number c.nodes.current.number c.nodes.invariant.underway c.in-Some.field-0-0 c.in-Some.child.number c.in-Some.ensures in
    measure_child (len c.nodes.nodes) c.args.next c.nodes.current.number c.in-Some.child.number later.0 later.1

pub nodes-preserved-in-Some : goal.nodes-preserved-in-Some
nodes-preserved-in-Some c = record { kept = c.nodes.invariant.kept; removed = c.nodes.invariant.removed; underway = underway_child c.args.nodes.now c.nodes.nodes (child_in c.nodes.index) c.args.next c.args.start.number c.nodes.current.number c.nodes.invariant.underway c.in-Some.field-0-0 c.in-Some.child.number c.in-Some.ensures }

pub returns-then-current-start-clause-left : goal.returns-then-current-start-clause-left
returns-then-current-start-clause-left c = all_gone c.args.nodes.now c.nodes.nodes (child_in c.nodes.index) c.args.next c.args.start.number c.nodes.current.number c.nodes.invariant.underway c.if-current-start.true c.in-None.ensures

pub nodes-smaller : goal.nodes-smaller
nodes-smaller c =
    let less = fewer c.args.nodes.now c.nodes.nodes (child_in c.nodes.index) c.args.next c.args.start.number c.nodes.current.number c.nodes.invariant.underway c.cut_leaf-current.new.nodes (child_in c.cut_leaf-current.new.index) c.cut_leaf-current.result.number c.in-None.ensures c.if-current-start.false c.cut_leaf-current.ensures in
    measure_cut (len c.nodes.nodes) (len c.cut_leaf-current.new.nodes) c.args.next c.cut_leaf-current.result.number c.nodes.current.number less.0 less.1 less.2

pub nodes-preserved : goal.nodes-preserved
nodes-preserved c = record {
  underway = underway_cut c.args.nodes.now c.nodes.nodes (child_in c.nodes.index) c.args.next c.args.start.number c.nodes.current.number c.nodes.invariant.underway c.cut_leaf-current.new.nodes (child_in c.cut_leaf-current.new.index) c.cut_leaf-current.result.number c.in-None.ensures c.if-current-start.false c.cut_leaf-current.ensures;
  kept = λ no. absurd (cc no);
  removed = λ _. some_below c.args.nodes.now c.nodes.nodes (child_in c.nodes.index) c.args.next c.args.start.number c.nodes.current.number c.nodes.invariant.underway c.cut_leaf-current.new.nodes (child_in c.cut_leaf-current.new.index) c.cut_leaf-current.result.number c.in-None.ensures c.if-current-start.false c.cut_leaf-current.ensures c.nodes.removed c.nodes.invariant.kept c.nodes.invariant.removed;
}
