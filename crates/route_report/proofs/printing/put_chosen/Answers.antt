use Rattle.std.proofs.Common.{map, ◌++◌, ◌∷◌, subst, ◌≡◌}
use Rattle.route_report.specs.Lines.{line_text, text_of_lines}
use Rattle.route_report.specs.Printing.{chosen_lines, give_words, busiest_words, bound_words, set_words, after_words, kernel_lines}
use Rattle.route_report.proofs.Putting.{onward, onward_lines}
use Rattle.route_report.proofs.printing.put_chosen.Goals as goal

pub returns-clause-text : goal.returns-clause-text
returns-clause-text c =
    let r = c.report.inside in
    let kernel = kernel_lines r.options in
    let afters = map after_words r.afters.items ++ kernel in
    let sets = map set_words r.sets.items ++ afters in
    let last = c.put_kernel.new.text.items in
    subst (λ r. last ≡ c.args.text.now.items ++ text_of_lines (chosen_lines r)) c.report.view_is (
    onward_lines give_words c.deref.result.now r.gives.items (busiest_words r.busiest ∷ bound_words r.bound ∷ sets) c.args.text.now.items c.put_all.new.text.items last c.deref.ensures.value c.in_ok-put_all.ensures.text
    (onward c.put_all.new.text.items c.put_busiest.new.text.items last (line_text (busiest_words r.busiest)) (line_text (bound_words r.bound) ++ text_of_lines sets) c.in_ok-put_busiest.ensures.text
    (onward c.put_busiest.new.text.items c.put_bound.new.text.items last (line_text (bound_words r.bound)) (text_of_lines sets) c.in_ok-put_bound.ensures.text
    (onward_lines set_words c.deref-2.result.now r.sets.items afters c.put_bound.new.text.items c.put_all-2.new.text.items last c.deref-2.ensures.value c.in_ok-put_all-2.ensures.text
    (onward_lines after_words c.deref-3.result.now r.afters.items kernel c.put_all-2.new.text.items c.put_all-3.new.text.items last c.deref-3.ensures.value c.in_ok-put_all-3.ensures.text
    c.in_ok-put_kernel.ensures.text)))))
