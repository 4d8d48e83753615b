use Rattle.std.proofs.Common.{◌∙◌, ap, sym, refl, Some, Option}
use Rattle.ar_space.specs.declared.refusal.Refusal.TheVariants as refusal
use Rattle.ar_space.specs.declared.refusal.NamespaceFault.TheVariants.{NotFound}
use Rattle.ar_space.specs.Outcome.{seen}
use Rattle.aml_namespace.specs.OneSegment.{segment_name}
use Rattle.aml_namespace.specs.Search.{Found, found_or_not}
use Rattle.aml_namespace.proofs.Searching.{some_is, none_is, first_searched, found_through, found_refused}
use Rattle.aml_namespace.proofs.names.Names.search_segment.Goals as goal

pub returns-in-None : goal.returns-in-None
returns-in-None c =
    sym (ap (seen Some) (found_refused c.args.self.now.map c.args.scope.path.now (segment_name c.args.segment) (refusal.Namespace NotFound)
    (first_searched c.args.self.now.map c.args.scope.path.now (segment_name c.args.segment) refl ∙ ap (λ (o : Option Found). found_or_not o) (none_is _ c.in-None.ensures))))

pub returns-in-Some : goal.returns-in-Some
returns-in-Some c =
    let f = some_is _ _ c.in-Some.ensures in
    c.end_of.ensures f.0 f.2
    ∙ sym (ap (seen Some) (found_through c.args.self.now.map c.args.scope.path.now (segment_name c.args.segment) f.0
    (first_searched c.args.self.now.map c.args.scope.path.now (segment_name c.args.segment) refl ∙ ap (λ (o : Option Found). found_or_not o) f.1)))
