use Rattle.aml_world.proofs.BodyMarks.{newly_kept}
use Rattle.aml_world.proofs.state.known_names.Declarations.keep.Goals as goal

pub invariant_of-self-2 : goal.invariant_of-self-2
invariant_of-self-2 c =
    let i = c.self.inside in
    newly_kept c.insert.result c.in_ok-scanned.scanned i.kept.entries c.insert.new.self.entries c.args.levels c.in_ok-path.path c.args.path.now c.args.body.now c.args.marks.now (record { names = i.names; arities = i.arities }) c.args.self.now c.self.view_is
    c.in_ok-path.ensures c.in_ok-scanned.ensures c.insert.ensures.entries c.insert.ensures.err c.requires c.self.invariant
