use Rattle.std.proofs.Common.{◌∙◌, sym, ap}
use Rattle.aml_grammar.specs.Tree.{Tree}
use Rattle.aml_grammar.specs.Apart.{operand_of}
use Rattle.aml_marks.specs.Marked.{Place, a_term, after, gives, a_reserved_field}
use Rattle.aml_terms.proofs.FieldElements.{reserved, access, extended_access, named}
use Rattle.aml_terms.proofs.operands.to_field_operand.Goals as goal

pub returns-then-next-eq0 : goal.returns-then-next-eq0
unfolding a_reserved_field after gives
returns-then-next-eq0 c count = c.to_only.ensures count ∙ ap (λ (r : Tree × Place). operand_of r.0 c.args.index) (sym (reserved (a_term count c.args.levels) _ _ c.first-next.ensures c.if-next-eq0.true))

pub returns-then-next-eq1 : goal.returns-then-next-eq1
returns-then-next-eq1 c count = c.to_access.ensures count ∙ ap (λ (r : Tree × Place). operand_of r.0 c.args.index) (sym (access (a_term count c.args.levels) _ _ c.first-next.ensures c.if-next-eq0.false c.if-next-eq1.true))

pub returns-then-next-eq3 : goal.returns-then-next-eq3
returns-then-next-eq3 c count = c.to_extended_access.ensures count ∙ ap (λ (r : Tree × Place). operand_of r.0 c.args.index) (sym (extended_access (a_term count c.args.levels) _ _ c.first-next.ensures c.if-next-eq0.false c.if-next-eq1.false c.if-next-eq2.false c.if-next-eq3.true))

pub returns-else-next-eq3 : goal.returns-else-next-eq3
returns-else-next-eq3 c count = c.to_named.ensures count ∙ ap (λ (r : Tree × Place). operand_of r.0 c.args.index) (sym (named (a_term count c.args.levels) _ _ c.first-next.ensures c.if-next-eq0.false c.if-next-eq1.false c.if-next-eq2.false c.if-next-eq3.false))
