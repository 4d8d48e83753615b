use Rattle.std.proofs.Common.{rules, ap, ◌∙◌}
use Rattle.std.specs.Fmt.{digits_output, radix_prefix, styled_digits_output}
use Rattle.acpiroute_shell.proofs.ErrorLines.{four_digits, opcode_line}
use Rattle.acpiroute_shell.proofs.error_line.evaluation_line.Goals as goal

pub returns-in-Unsupported : goal.returns-in-Unsupported
returns-in-Unsupported g c = opcode_line c.writeln.result (g.E.Write.contents c.args.errors.now) (g.E.Write.contents c.writeln.new.self) c.args.number c.in-Unsupported.opcode c.args.fault.now
    (styled_digits_output c.in_radix.result c.laid_out.result) (search rules)
    (ap (λ s. styled_digits_output c.in_radix.result s) c.laid_out.ensures ∙ four_digits (radix_prefix c.in_radix.result.base) (digits_output c.in_radix.result) c.in-Unsupported.opcode c.in_radix.ensures)
    c.writeln.ensures.bytes
