use Rattle.std.proofs.Common.{◌<◌, arith}
use Rattle.aml_namespace.proofs.Scopes.{passed}
use Rattle.aml_namespace.proofs.names.Names.is_at.Goals as goal

pub levels-preserved : goal.levels-preserved
levels-preserved c =
    let within = c.levels.invariant.0 in
    let some : 0 < c.levels.depth = omega (arith, c.if-depth-eq0.false) in (
      omega (arith, within),
      λ f is.
          let a = c.levels.invariant.1 f is in
          passed c.args.self.now.map f.0 a.0 c.in-Some.parent.number c.in-Some.segment c.index-segments-depth.result c.args.segments.now c.levels.depth some within c.index-segments-depth.is c.if-ne.ensures a.2 (c.in-Some.ensures.parent a.0 a.1),
    )
