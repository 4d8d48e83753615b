use Rattle.std.proofs.Common.{map, ◌++◌, ◌∷◌, [], Some, subst, ◌≡◌}
use Rattle.route_report.specs.Lines.{line_text, text_of_lines}
use Rattle.route_report.specs.Printing.{spared_words, unread_words, rule_words, option_lines}
use Rattle.route_report.proofs.Putting.{onward, onward_lines, only_line}
use Rattle.route_report.proofs.lines.put_each_option.Goals as goal

pub returns-clause-text : goal.returns-clause-text
returns-clause-text c =
    let o = c.options.inside in
    let rules = rule_words o.rule ∷ [] in
    let unreads = map unread_words o.unread.items ++ rules in
    let last = c.put_rule.new.text.items in
    subst (λ o. last ≡ c.args.text.now.items ++ text_of_lines (option_lines (Some o))) c.options.view_is (
    onward_lines spared_words c.deref.result.now o.spared.items unreads c.args.text.now.items c.put_all.new.text.items last c.deref.ensures.value c.in_ok-put_all.ensures.text
    (onward_lines unread_words c.deref-2.result.now o.unread.items rules c.put_all.new.text.items c.put_all-2.new.text.items last c.deref-2.ensures.value c.in_ok-put_all-2.ensures.text
    (only_line (rule_words o.rule) c.put_all-2.new.text.items last c.in_ok-put_rule.ensures)))
