use Rattle.std.proofs.Common.{◌∙◌, ap, sym, Some, Ok}
use Rattle.ar_space.specs.Outcome.{seen}
use Rattle.aml_namespace.proofs.Searching.{through_itself, through_alias}
use Rattle.aml_namespace.proofs.names.Names.end_of.Goals as goal

pub returns-in-None : goal.returns-in-None
returns-in-None c = λ f is. ap Ok is ∙ sym (ap (seen Some) (through_itself c.args.self.now.map f (c.in-None.ensures f is)))

pub returns-in-Some : goal.returns-in-Some
returns-in-Some c = λ f is. c.target.ensures ∙ sym (ap (seen Some) (through_alias c.args.self.now.map f c.in-Some.path.now (c.in-Some.ensures f is)))
