use Rattle.std.proofs.Common.{ap, sym, ◌∙◌}
use Rattle.aml_grammar.specs.Apart.{first_of}
use Rattle.aml_terms.specs.AtTree.{at_tree, at_list}
use Rattle.aml_declarations.proofs.DeclaringFields.{connected, unconnected_end, or_true, or_false}
use Rattle.aml_declarations.proofs.field_lists.has_connection.Goals as goal

pub returns-in-None : goal.returns-in-None
returns-in-None c = sym (c.elements.invariant ∙ unconnected_end _ (c.next.ensures ∙ ap (first_of at_tree at_list) c.in-None.is))

pub returns-then-is_connection : goal.returns-then-is_connection
returns-then-is_connection c = sym (c.elements.invariant ∙ connected _ (c.next.ensures ∙ ap (first_of at_tree at_list) c.in-Some.is) ∙ or_true _ _ _ (sym c.is_connection.ensures ∙ c.if-is_connection.true) c.code.ensures)

pub elements-preserved : goal.elements-preserved
elements-preserved c = c.elements.invariant ∙ connected _ (c.next.ensures ∙ ap (first_of at_tree at_list) c.in-Some.is) ∙ or_false _ _ _ (sym c.is_connection.ensures ∙ c.if-is_connection.false) c.code.ensures
