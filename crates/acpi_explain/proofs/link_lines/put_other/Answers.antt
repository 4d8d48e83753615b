use Rattle.std.proofs.Common.{◌∙◌, ap, ◌++◌}
use Rattle.std.specs.Prelude.{codes}
use Rattle.route_report.specs.Lines.{spaced}
use Rattle.route_report.specs.Printing.{now_words}
use Rattle.acpi_explain.specs.Explaining.{help_line}
use Rattle.acpi_explain.specs.LinkLines.{link_words, other_help}
use Rattle.acpi_explain.proofs.Putting.{five_put}
use Rattle.acpi_explain.proofs.link_lines.put_other.Goals as goal

pub returns : goal.returns
returns c =
    five_put c.args.text.now.items c.put_link.new.text.items c.extend_from_slice.new.self.items c.put_now.new.text.items c.extend_from_slice-2.new.self.items c.put_help.new.text.items (link_words c.args.path.now (codes " was given ") c.args.given)
    (codes " and reads back") (spaced (now_words c.args.now.now)) (codes "\n") (help_line (other_help c.args.now.now)) c.in_ok-put_link.ensures c.in_ok-extend_from_slice.ensures.items c.in_ok-put_now.ensures c.in_ok-extend_from_slice-2.ensures.items
    (c.in_ok-put_help.ensures ∙ ap (λ h. c.extend_from_slice-2.new.self.items ++ help_line h) (c.as_bytes.ensures.value ∙ c.other_help.ensures))
