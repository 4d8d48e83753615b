use Rattle.std.proofs.Common.{◌≡◌, ◌∙◌, ◌++◌, ℕ, List, [], ap, sym, Ok}
use Rattle.ar_space.proofs.Outcomes.{answers_is}
use Rattle.route_report.specs.Lines.{text_of_lines}
use Rattle.route_report.specs.Printing.{found_lines, chosen_lines, text_of_report}
use Rattle.route_report.specs.Reading.{claim_of_text}
use Rattle.route_report.specs.Reports.{RoutingReport}
use Rattle.route_report.proofs.Putting.{lines_append}
use Rattle.route_report.proofs.Sections.{read_back}
use Rattle.route_report.proofs.printing.print.Goals as goal

whole : (r : RoutingReport) (start first last : List ℕ) → start ≡ [] → first ≡ start ++ text_of_lines (found_lines r) → last ≡ first ++ text_of_lines (chosen_lines r) → last ≡ text_of_report r
unfolding text_of_report
whole r start first last none found chosen =
    chosen ∙ (ap (λ t. t ++ text_of_lines (chosen_lines r)) (found ∙ ap (λ t. t ++ text_of_lines (found_lines r)) none) ∙ sym (lines_append (found_lines r) (chosen_lines r)))

pub returns-clause-text : goal.returns-clause-text
returns-clause-text c =
    answers_is (ap Ok (whole c.args.report.now c.new-text.result.items c.put_found.new.text.items c.put_chosen.new.text.items c.new-text.ensures.items c.in_ok-put_found.ensures.text c.in_ok-put_chosen.ensures.text))

pub returns-clause-read_back : goal.returns-clause-read_back
returns-clause-read_back c readable =
    ap claim_of_text (whole c.args.report.now c.new-text.result.items c.put_found.new.text.items c.put_chosen.new.text.items c.new-text.ensures.items c.in_ok-put_found.ensures.text c.in_ok-put_chosen.ensures.text)
    ∙ read_back c.text_is_read_back.ensures c.args.report.now readable (record {
      sci = c.in_ok-put_found.ensures.sci;
      avoid = c.in_ok-put_found.ensures.avoid;
      spared = c.in_ok-put_found.ensures.spared;
      unread = c.in_ok-put_found.ensures.unread;
      offers = c.in_ok-put_found.ensures.offers;
      wired = c.in_ok-put_found.ensures.wired;
      gives = c.in_ok-put_chosen.ensures.gives;
      busiest = c.in_ok-put_chosen.ensures.busiest;
      interrupts = c.in_ok-put_chosen.ensures.interrupts;
      triggers = c.in_ok-put_chosen.ensures.triggers;
      buses = c.in_ok-put_chosen.ensures.buses;
    })
