use Rattle.std.proofs.Common.{subst, ℕ, arith}
use Rattle.aml_namespace.specs.Search.{IsAncestor}
use Rattle.aml_namespace.proofs.Climbing.{ancestor_self, ancestor_more, ancestor_root}
use Rattle.aml_namespace.proofs.names.Names.ancestor.Goals as goal

pub loop-level-init : goal.loop-level-init
loop-level-init c = λ f is. ancestor_self c.args.self.now.map c.args.id.number f is

pub returns-in-None : goal.returns-in-None
returns-in-None c = λ f is.
    let a = c.loop-level.invariant f is in
    let length_is = ancestor_root c.args.self.now.map f.0 c.loop-level.current.number c.loop-level.level a (c.in-None.ensures.parent a.above a.stands) in
    omega (arith, length_is, c.loop-level-test.true)

pub loop-level-preserved : goal.loop-level-preserved
loop-level-preserved c = λ f is.
    let a = c.loop-level.invariant f is in
    ancestor_more c.args.self.now.map f.0 c.loop-level.current.number c.loop-level.level c.in-Some.parent.number c.in-Some.field-0-1 a (c.in-Some.ensures.parent a.above a.stands)

pub returns : goal.returns
returns c = λ f is. subst (λ (n : ℕ). IsAncestor c.args.self.now.map f.0 c.loop-level.current.number n) (omega (arith, c.loop-level-test.false, c.loop-level.auto.level-end)) (c.loop-level.invariant f is)
