use Rattle.std.proofs.Common.{◌∙◌, ap, ◌++◌}
use Rattle.acpi_explain.specs.LinkLines.{refused_setting}
use Rattle.acpi_explain.specs.declared.stage.Stage.TheVariants.{Setting}
use Rattle.acpi_explain.proofs.LinksTold.{told_below}
use Rattle.acpi_explain.proofs.links.refused_setting_lines.Goals as goal

pub returns-clause-told : goal.returns-clause-told
returns-clause-told g c =
    told_below g.S.Space.accesses c.args.evaluation.steps (refused_setting c.args.path.now) Setting c.args.path.now c.in_ok-copy_path.field-0 c.args.refusal c.in_ok-refusal.refusal c.number.result c.args.machine.now c.new-text.result.items c.put_refused_setting.new.text.items
    c.extend_from_slice.new.self.items c.in_ok-below.below.items c.in_ok-copy_path.ensures c.in_ok-refusal.ensures.same c.number.ensures c.in_ok-below.ensures c.new-text.ensures.items c.in_ok-put_refused_setting.ensures
    (c.in_ok-extend_from_slice.ensures.items ∙ ap (λ t. c.put_refused_setting.new.text.items ++ t) c.deref.ensures.value)
