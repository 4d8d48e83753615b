use Rattle.aml_world.proofs.KnownNames.{removed_kept}
use Rattle.aml_world.proofs.state.known_names.Declarations.remove_below.Goals as goal

pub invariant_of-self : goal.invariant_of-self
invariant_of-self c =
    let i = c.self.inside in
    let removed = c.remove_below-removed in
    removed_kept removed.result i.names removed.new.self i.arities i.kept.entries c.keep_where.new.kept.entries c.keep_where.ensures.stays c.keep_where.ensures.goes removed.ensures.kept c.self.invariant
