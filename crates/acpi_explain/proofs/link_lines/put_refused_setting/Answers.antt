use Rattle.std.proofs.Common.{◌∙◌, ap, ◌++◌}
use Rattle.std.specs.Prelude.{codes}
use Rattle.acpi_explain.specs.LinkLines.{link_words}
use Rattle.acpi_explain.proofs.Putting.{two_put}
use Rattle.acpi_explain.proofs.link_lines.put_refused_setting.Goals as goal

pub returns : goal.returns
returns c = two_put c.args.text.now.items c.put_link.new.text.items c.extend_from_slice.new.self.items (link_words c.args.path.now (codes " refused its setting ") c.args.number) (codes "\n") (c.in_ok-put_link.ensures ∙ ap (λ n. c.args.text.now.items ++ link_words c.args.path.now (codes " refused its setting ") n) c.from.ensures) c.in_ok-extend_from_slice.ensures.items
