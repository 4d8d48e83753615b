use Rattle.std.specs.Prelude.{codes, decimal}
use Rattle.std.proofs.Common.{◌∙◌, ap, ◌++◌}
use Rattle.acpi_explain.specs.LinkLines.{link_words}
use Rattle.acpi_explain.proofs.Putting.{four_put}
use Rattle.acpi_explain.proofs.link_lines.put_unread.Goals as goal

pub returns : goal.returns
returns c =
    four_put c.args.text.now.items c.put_link.new.text.items c.extend_from_slice.new.self.items c.put_number.new.text.items c.extend_from_slice-2.new.self.items (link_words c.args.path.now (codes " was given ") c.args.given)
    (codes " and refused to be read ") (decimal c.args.number) (codes "\n") c.in_ok-put_link.ensures c.in_ok-extend_from_slice.ensures.items
    (c.in_ok-put_number.ensures ∙ ap (λ n. c.extend_from_slice.new.self.items ++ decimal n) c.from.ensures) c.in_ok-extend_from_slice-2.ensures.items
