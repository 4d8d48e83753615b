use Rattle.std.proofs.Common.{map, ◌++◌, ◌∷◌, ap, ◌∙◌, subst, ◌≡◌}
use Rattle.route_report.specs.Lines.{line_text, text_of_lines}
use Rattle.route_report.specs.Printing.{found_lines, heading_words, mode_words, io_apic_words, override_words, sci_words, avoid_words, option_lines, link_words, wired_words, pin_words}
use Rattle.route_report.proofs.Putting.{onward, onward_some, onward_lines, last_lines}
use Rattle.route_report.proofs.printing.put_found.Goals as goal

pub returns-clause-text : goal.returns-clause-text
returns-clause-text c =
    let r = c.report.inside in
    let pins = map pin_words r.pins.items in
    let wired = map wired_words r.wired.items ++ pins in
    let links = map link_words r.links.items ++ wired in
    let options = option_lines r.options ++ links in
    let others = sci_words r.sci ∷ avoid_words r.avoid.items ∷ options in
    let overrides = map override_words r.overrides.items ++ others in
    let io_apics = map io_apic_words r.io_apics.items ++ overrides in
    let last = c.put_all-5.new.text.items in
    subst (λ r. last ≡ c.args.text.now.items ++ text_of_lines (found_lines r)) c.report.view_is (
    onward c.args.text.now.items c.put_heading.new.text.items last (line_text (heading_words r.options)) (line_text (mode_words r.mode) ++ text_of_lines io_apics) c.in_ok-put_heading.ensures
    (onward c.put_heading.new.text.items c.put_mode.new.text.items last (line_text (mode_words r.mode)) (text_of_lines io_apics) c.in_ok-put_mode.ensures
    (onward_lines io_apic_words c.deref.result.now r.io_apics.items overrides c.put_mode.new.text.items c.put_all.new.text.items last c.deref.ensures.value c.in_ok-put_all.ensures.text
    (onward_lines override_words c.deref-2.result.now r.overrides.items others c.put_all.new.text.items c.put_all-2.new.text.items last c.deref-2.ensures.value c.in_ok-put_all-2.ensures.text
    (onward c.put_all-2.new.text.items c.put_sci.new.text.items last (line_text (sci_words r.sci)) (line_text (avoid_words r.avoid.items) ++ text_of_lines options) c.in_ok-put_sci.ensures.text
    (onward c.put_sci.new.text.items c.put_avoid.new.text.items last (line_text (avoid_words r.avoid.items)) (text_of_lines options)
    (c.in_ok-put_avoid.ensures.text ∙ ap (λ ns. c.put_sci.new.text.items ++ line_text (avoid_words ns)) c.deref-3.ensures.value)
    (onward_some (option_lines r.options) links c.put_avoid.new.text.items c.put_options.new.text.items last c.in_ok-put_options.ensures.text
    (onward_lines link_words c.deref-4.result.now r.links.items wired c.put_options.new.text.items c.put_all-3.new.text.items last c.deref-4.ensures.value c.in_ok-put_all-3.ensures.text
    (onward_lines wired_words c.deref-5.result.now r.wired.items pins c.put_all-3.new.text.items c.put_all-4.new.text.items last c.deref-5.ensures.value c.in_ok-put_all-4.ensures.text
    (last_lines pin_words c.deref-6.result.now r.pins.items c.put_all-4.new.text.items last c.deref-6.ensures.value c.in_ok-put_all-5.ensures.text))))))))))
