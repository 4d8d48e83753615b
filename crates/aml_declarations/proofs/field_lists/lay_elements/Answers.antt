use Rattle.std.proofs.Common.{refl, ap, ◌∙◌}
use Rattle.ar_space.proofs.Changes.{does_same, does_err, same_ok}
use Rattle.aml_grammar.specs.Apart.{first_of}
use Rattle.aml_terms.specs.AtTree.{at_tree, at_list}
use Rattle.aml_declarations.proofs.DeclaringFields.{same_laid, laid_end}
use Rattle.aml_declarations.proofs.field_lists.lay_elements.Goals as goal

pub elements-init : goal.elements-init
elements-init g c = record { is = refl }

pub returns-in-None : goal.returns-in-None
returns-in-None g c = laid_end c.args.group c.args.act.now.scope c.args.act.now.depth c.elements.at _ c.elements.invariant (c.next.ensures ∙ ap (first_of at_tree at_list) c.in-None.is)

pub returns-in_err-at-in-Some : goal.returns-in_err-at-in-Some
returns-in_err-at-in-Some g c =
    does_same (same_laid c.args.group c.args.act.now.scope c.args.act.now.depth c.elements.at _ c.elements.invariant (c.next.ensures ∙ ap (first_of at_tree at_list) c.in-Some.is))
    (does_err _ _ c.in_err-at-in-Some.ensures c.from_residual.ensures)

pub elements-preserved : goal.elements-preserved
elements-preserved g c =
    same_ok _ _ (same_laid c.args.group c.args.act.now.scope c.args.act.now.depth c.elements.at _ c.elements.invariant (c.next.ensures ∙ ap (first_of at_tree at_list) c.in-Some.is))
    c.in_ok-at-in-Some.ensures
