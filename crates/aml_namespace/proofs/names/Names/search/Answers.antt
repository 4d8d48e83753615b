use Rattle.std.proofs.Common.{◌∙◌, ap, sym, Some}
use Rattle.ar_space.specs.Outcome.{seen}
use Rattle.aml_namespace.proofs.Searching.{stands_by, ok_is, err_is, found_through, found_refused, from_is}
use Rattle.aml_namespace.proofs.names.Names.search.Goals as goal

pub returns-in-Ok-clause-answer : goal.returns-in-Ok-clause-answer
returns-in-Ok-clause-answer c =
    let f = stands_by _ _ c.in-Some.ensures in
    let a = ok_is _ _ (c.in-Ok.ensures.answer f.0 f.1) in
    c.through.ensures.answer a.0 a.2 ∙ sym (ap (seen Some) (from_is c.args.self.now.map c.args.scope.number c.args.name.now f.0 f.1 ∙ found_through c.args.self.now.map f.0.0 c.args.name.now a.0 a.1))

pub returns-in-Err-clause-answer : goal.returns-in-Err-clause-answer
returns-in-Err-clause-answer c =
    let f = stands_by _ _ c.in-Some.ensures in
    sym (ap (seen Some) (from_is c.args.self.now.map c.args.scope.number c.args.name.now f.0 f.1 ∙ found_refused c.args.self.now.map f.0.0 c.args.name.now c.in-Err.refusal (err_is _ _ (c.in-Err.ensures.answer f.0 f.1))))
