use Rattle.std.proofs.Common.{◌∙◌, ap}
use Rattle.ar_space.specs.Outcome.{seen}
use Rattle.aml_objects.specs.declared.node.NodeId.{NodeId}
use Rattle.aml_namespace.specs.Namespace.{numbered}
use Rattle.aml_namespace.proofs.names.Names.through.Goals as goal

pub returns-clause-answer : goal.returns-clause-answer
returns-clause-answer c = λ f is. ap (seen (λ (id : NodeId). numbered id.number c.args.self.now.map)) c.found_or_not.ensures.answer ∙ c.end_of.ensures f is
