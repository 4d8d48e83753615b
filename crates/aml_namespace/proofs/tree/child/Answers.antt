use Rattle.std.proofs.Common.{◌∙◌, ap, sym}
use Rattle.aml_path.specs.declared.segment.Seg.{Seg}
use Rattle.aml_namespace.specs.Tree.{child_in}
use Rattle.aml_namespace.proofs.tree.child.Goals as goal

pub returns-in-Some : goal.returns-in-Some
returns-in-Some c =
    let x = c.in-Some.ensures in
    let child = child_in c.args.index.now in
    sym (ap (λ p. child p c.args.segment) (sym x.2) ∙ ap (λ (s : Seg). child x.0.parent.number s) (sym x.3) ∙ c.requires.listed c.in-Some.id.number x.0 x.1 c.if-id-gt0.true)
