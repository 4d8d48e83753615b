use Rattle.std.proofs.Common.{◌∙◌, ap, sym, Some}
use Rattle.ar_space.specs.Outcome.{seen}
use Rattle.aml_namespace.proofs.Searching.{ok_is, err_is, found_through, found_refused}
use Rattle.aml_namespace.proofs.names.Names.search_at.Goals as goal

pub returns-in-Ok-clause-answer : goal.returns-in-Ok-clause-answer
returns-in-Ok-clause-answer c =
    let a = ok_is _ _ c.in-Ok.ensures.answer in
    c.through.ensures.answer a.0 a.2 ∙ sym (ap (seen Some) (found_through c.args.self.now.map c.args.scope.now c.args.name.now a.0 a.1))

pub returns-in-Err-clause-answer : goal.returns-in-Err-clause-answer
returns-in-Err-clause-answer c = sym (ap (seen Some) (found_refused c.args.self.now.map c.args.scope.now c.args.name.now c.in-Err.refusal (err_is _ _ c.in-Err.ensures.answer)))
