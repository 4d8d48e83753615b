use Rattle.aml_world.proofs.KnownNames.{integer_kept}
use Rattle.aml_world.proofs.state.known_names.Declarations.put_integer.Goals as goal

pub invariant_of-self : goal.invariant_of-self
invariant_of-self c =
    let i = c.self.inside in
    let put = c.put_integer in
    integer_kept put.result c.args.id.number c.args.number i.names put.new.self i.arities i.kept.entries put.ensures.change put.ensures.held put.ensures.gone put.ensures.unchanged c.self.invariant
