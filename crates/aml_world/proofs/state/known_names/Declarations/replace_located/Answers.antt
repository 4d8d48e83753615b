use Rattle.std.proofs.Common.{◌∙◌}
use Rattle.aml_world.proofs.KnownNames.{path_kept}
use Rattle.aml_world.proofs.state.known_names.Declarations.replace_located.Goals as goal

pub invariant_of-self : goal.invariant_of-self
invariant_of-self c =
    let i = c.self.inside in
    let plain = c.both_plain-plain in
    path_kept plain.result c.args.located.now c.args.object i.names c.replace_located.new.self i.arities i.kept.entries c.keep_where.new.kept.entries c.keep_where.ensures.stays c.keep_where.ensures.goes
    plain.ensures.new (λ yes e at. plain.ensures.old yes e (c.get_located.ensures ∙ at))
    c.replace_located.ensures.change c.replace_located.ensures.memory c.self.invariant
