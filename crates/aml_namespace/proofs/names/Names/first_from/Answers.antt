use Rattle.std.proofs.Common.{◌∙◌, ◌++◌, ap, sym, Some, length}
use Rattle.std.specs.Option.{option_map}
use Rattle.ar_space.specs.Outcome.{seen}
use Rattle.aml_objects.specs.declared.node.NodeId.{NodeId}
use Rattle.aml_namespace.specs.Namespace.{numbered}
use Rattle.aml_namespace.specs.Search.{at_path, search_up}
use Rattle.aml_namespace.proofs.Searching.{found_same, first_searched, first_resolved, first_refused}
use Rattle.aml_namespace.proofs.names.Names.first_from.Goals as goal

pub returns-then-is_searched-clause-answer : goal.returns-then-is_searched-clause-answer
returns-then-is_searched-clause-answer c = λ f is.
    ap (seen (λ (id : NodeId). numbered id.number c.args.self.now.map)) c.found_or_not.ensures.answer
    ∙ found_same (λ (id : NodeId). numbered id.number c.args.self.now.map) c.search_above.result (search_up c.args.self.now.map f.0 c.args.name.now.segments (length f.0)) (c.search_above.ensures f is ∙ ap (λ s. option_map Some (search_up c.args.self.now.map f.0 s (length f.0))) c.segments.ensures)
    ∙ sym (ap (seen Some) (first_searched c.args.self.now.map f.0 c.args.name.now (sym c.is_searched.ensures ∙ c.if-is_searched.true)))

pub returns-in-Ok-clause-answer : goal.returns-in-Ok-clause-answer
returns-in-Ok-clause-answer c = λ f is.
    let a = c.in-Ok.ensures.front f is in
    ap (seen (λ (id : NodeId). numbered id.number c.args.self.now.map)) c.found_or_not-in-Ok.ensures.answer
    ∙ found_same (λ (id : NodeId). numbered id.number c.args.self.now.map) c.below.result (at_path c.args.self.now.map (a.front.0 ++ c.args.name.now.segments)) (c.below.ensures a.front a.stands ∙ ap (λ s. option_map Some (at_path c.args.self.now.map (a.front.0 ++ s))) c.segments-in-Ok.ensures)
    ∙ sym (ap (seen Some) (first_resolved c.args.self.now.map f.0 c.args.name.now a.front.0 (sym c.is_searched.ensures ∙ c.if-is_searched.false) a.makes))

pub returns-in-Err-clause-answer : goal.returns-in-Err-clause-answer
returns-in-Err-clause-answer c = λ f is. sym (ap (seen Some) (first_refused c.args.self.now.map f.0 c.args.name.now c.in-Err.refusal (sym c.is_searched.ensures ∙ c.if-is_searched.false) (c.in-Err.ensures.front f is)))
