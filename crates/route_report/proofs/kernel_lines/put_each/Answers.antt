use Rattle.std.proofs.Common.{map, ◌++◌, Some, subst, ◌≡◌}
use Rattle.route_report.specs.Lines.{text_of_lines}
use Rattle.route_report.specs.Printing.{trigger_words, bus_words, kernel_lines}
use Rattle.route_report.proofs.Putting.{onward_lines, last_lines}
use Rattle.route_report.proofs.kernel_lines.put_each.Goals as goal

pub returns-clause-text : goal.returns-clause-text
returns-clause-text c =
    let o = c.options.inside in
    let buses = map bus_words o.buses.items in
    let last = c.put_all-2.new.text.items in
    subst (λ o. last ≡ c.args.text.now.items ++ text_of_lines (kernel_lines (Some o))) c.options.view_is (
    onward_lines trigger_words c.deref.result.now o.triggers.items buses c.args.text.now.items c.put_all.new.text.items last c.deref.ensures.value c.in_ok-put_all.ensures.text
    (last_lines bus_words c.deref-2.result.now o.buses.items c.put_all.new.text.items last c.deref-2.ensures.value c.in_ok-put_all-2.ensures.text))
