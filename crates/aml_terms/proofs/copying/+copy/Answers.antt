use Rattle.std.specs.Prelude.{None}
use Rattle.std.proofs.Common.{◌≡◌, ◌<◌, ◌≤◌, ◌+◌, ◌*◌, ◌∷◌, ◌++◌, [], Some, Ok, length, map, rules, arith, ◌∙◌, ap, sym}
use Rattle.std.proofs.lemmas.List.{map_push}
use Rattle.aml_grammar.specs.Tree.{list}
use Rattle.aml_grammar.specs.Shape.{trees_of}
use Rattle.aml_grammar.specs.Apart.{operand_of}
use Rattle.aml_grammar.specs.View.{part_view, tree_view}
use Rattle.aml_grammar.specs.declared.term.Operand.{the_lemmas}
use Rattle.aml_grammar.specs.declared.term.Operand.TheVariants as operands
use Rattle.aml_terms.specs.Copying.{tree_size, trees_size, size_from, operands_from, operands_of, trees_list}
use Rattle.aml_terms.proofs.CopiedParts.{from_tree, size_there}
use Rattle.aml_terms.proofs.Copied.{operands_end, operands_more, list_copied}
use Rattle.aml_terms.proofs.copying.+copy.Goals as goal

pub copied_term-copied_operands-requires : goal.copied_term-copied_operands-requires
copied_term-copied_operands-requires g t c =
    let less : 2 * size_from (g.R.TermReader.tree c.args.part) 0 + 1 < 2 * tree_size (g.R.TermReader.tree c.args.part) = omega (arith, from_tree (g.R.TermReader.tree c.args.part)) in
    search rules

pub copied_operand-copied_term-requires : goal.copied_operand-copied_term-requires
copied_operand-copied_term-requires g t c =
    let less : 2 * tree_size (g.R.TermReader.tree c.in-Term.inner) < 2 * size_from (g.R.TermReader.tree c.args.part) c.args.index = omega (arith, size_there (g.R.TermReader.tree c.args.part) c.args.index _ c.in-Term.ensures) in
    search rules

pub copied_operand-copied_list-requires : goal.copied_operand-copied_list-requires
copied_operand-copied_list-requires g t c =
    let less : 2 * trees_size (g.R.TermReader.list c.in-List.list) + 1 < 2 * size_from (g.R.TermReader.tree c.args.part) c.args.index = omega (arith, size_there (g.R.TermReader.tree c.args.part) c.args.index _ c.in-List.ensures) in
    search rules

pub copied_operand-returns-in_ok-terms-in-List : goal.copied_operand-returns-in_ok-terms-in-List
copied_operand-returns-in_ok-terms-in-List g t c =
    let view : part_view (operands.List c.in_ok-terms-in-List.terms) ≡ list (trees_of (map tree_view c.in_ok-terms-in-List.terms.items)) = search the_lemmas in
    let same : trees_list (g.R.TermReader.list c.in-List.list) ≡ map tree_view c.in_ok-terms-in-List.terms.items = cc (c.in_ok-terms-in-List.ensures.is tt) in
    let got : trees_of (map tree_view c.in_ok-terms-in-List.terms.items) ≡ g.R.TermReader.list c.in-List.list = list_copied _ _ (sym same) in
    record { is = λ _. ap (λ x. Ok x) (c.in-List.ensures ∙ ap (λ ts. Some (list ts)) (sym got) ∙ ap (λ p. Some p) (sym view)) }

pub copied_operands-returns-in-None : goal.copied_operands-returns-in-None
copied_operands-returns-in-None g t c =
    let gone : operand_of (g.R.TermReader.tree c.args.part) c.len.result ≡ None = cc (rw c.in-None.is at (c.in_ok-copied_operand.ensures.is tt)) in
    let is : c.len.result ≡ length c.operands.operands.items = search rules in
    let so : map part_view c.operands.operands.items ++ operands_from (g.R.TermReader.tree c.args.part) c.len.result ≡ operands_of (g.R.TermReader.tree c.args.part) = rw is c.operands.invariant.so_far in
    record { is = λ _. ap (λ x. Ok x) (sym (operands_end _ c.len.result _ _ gone so)) }

pub copied_operands-operands-smaller : goal.copied_operands-operands-smaller
copied_operands-operands-smaller g t c =
    let there : operand_of (g.R.TermReader.tree c.args.part) c.len.result ≡ Some (part_view c.in-Some.operand) = cc (rw c.in-Some.is at (c.in_ok-copied_operand.ensures.is tt)) in
    let is : c.len.result ≡ length c.operands.operands.items = search rules in
    let more : length c.push.new.self.items ≡ c.len.result + 1 = search rules in
    let less : size_from (g.R.TermReader.tree c.args.part) (c.len.result + 1) < size_from (g.R.TermReader.tree c.args.part) c.len.result = omega (arith, size_there (g.R.TermReader.tree c.args.part) c.len.result _ there) in
    let so : size_from (g.R.TermReader.tree c.args.part) (length c.push.new.self.items) < size_from (g.R.TermReader.tree c.args.part) (length c.operands.operands.items) = rw (more, ← is) less in
    so

pub copied_operands-operands-preserved : goal.copied_operands-operands-preserved
copied_operands-operands-preserved g t c =
    let there : operand_of (g.R.TermReader.tree c.args.part) c.len.result ≡ Some (part_view c.in-Some.operand) = cc (rw c.in-Some.is at (c.in_ok-copied_operand.ensures.is tt)) in
    let is : c.len.result ≡ length c.operands.operands.items = search rules in
    let more : length c.push.new.self.items ≡ c.len.result + 1 = search rules in
    let pushed : map part_view c.push.new.self.items ≡ map part_view c.operands.operands.items ++ part_view c.in-Some.operand ∷ [] = search (rules, map_push) in
    let so : map part_view c.operands.operands.items ++ operands_from (g.R.TermReader.tree c.args.part) c.len.result ≡ operands_of (g.R.TermReader.tree c.args.part) = rw is c.operands.invariant.so_far in
    let kept : size_from (g.R.TermReader.tree c.args.part) c.len.result ≤ size_from (g.R.TermReader.tree c.args.part) 0 = rw is c.operands.invariant.left in
    record {
      so_far = rw more (operands_more _ c.len.result _ _ _ _ there pushed so);
      left = rw more (omega (arith, kept, size_there (g.R.TermReader.tree c.args.part) c.len.result _ there));
    }
