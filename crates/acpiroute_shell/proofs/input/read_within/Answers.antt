use Rattle.std.proofs.Common.{rules}
use Rattle.acpiroute_shell.proofs.Inputs.{consumes_on, reader_failed, too_long, memory_out}
use Rattle.acpiroute_shell.proofs.input.read_within.Goals as goal

pub returns-in-Err-clause-input : goal.returns-in-Err-clause-input
returns-in-Err-clause-input g c = reader_failed _ c.args.limit _ (search rules)

pub returns-in_err-extend_from_slice-clause-input : goal.returns-in_err-extend_from_slice-clause-input
returns-in_err-extend_from_slice-clause-input g c = memory_out _ _ c.args.limit _ (search rules) (search rules)

pub returns-then-len-limit-clause-input : goal.returns-then-len-limit-clause-input
returns-then-len-limit-clause-input g c = too_long _ (g.R.Source.left c.fill.new.self) c.extend_from_slice.new.self.items c.args.limit _
    (consumes_on _ (g.R.Source.left c.loop.reader) _ c.loop.input.items _ _ c.loop.invariant.0 c.in-Ok.ensures.bytes.0 c.in_ok-extend_from_slice.ensures.items)
    (search rules) (search rules)
