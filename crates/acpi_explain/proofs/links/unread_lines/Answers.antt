use Rattle.std.proofs.Common.{◌∙◌, ap, ◌++◌}
use Rattle.acpi_explain.specs.LinkLines.{unread_line}
use Rattle.acpi_explain.specs.declared.stage.Stage.TheVariants.{ReadingAgain}
use Rattle.acpi_explain.proofs.LinksTold.{told_below}
use Rattle.acpi_explain.proofs.links.unread_lines.Goals as goal

pub returns-clause-told : goal.returns-clause-told
returns-clause-told g c =
    told_below g.S.Space.accesses c.args.evaluation.steps (unread_line c.args.given c.args.path.now) ReadingAgain c.args.path.now c.in_ok-copy_path.field-0 c.args.refusal c.in_ok-refusal.refusal c.number.result c.args.machine.now c.new-text.result.items c.put_unread.new.text.items
    c.extend_from_slice.new.self.items c.in_ok-below.below.items c.in_ok-copy_path.ensures c.in_ok-refusal.ensures.same c.number.ensures c.in_ok-below.ensures c.new-text.ensures.items c.in_ok-put_unread.ensures
    (c.in_ok-extend_from_slice.ensures.items ∙ ap (λ t. c.put_unread.new.text.items ++ t) c.deref.ensures.value)
