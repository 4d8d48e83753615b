use Rattle.std.proofs.Common.{map, sym, ◌∙◌}
use Rattle.acpiroute_shell.specs.Values.{interrupts}
use Rattle.acpiroute_shell.proofs.Numbers.{interrupts_read, one_read, one_refused, all_read}
use Rattle.acpiroute_shell.proofs.values.interrupts.Goals as goal

pub returns-in-None : goal.returns-in-None
returns-in-None c = one_refused interrupts_read (λ s. s.now) (interrupts (map (λ s. s.now) c.args.texts.now)) c.args.texts.now c.loop-digits.digits-index _ c.loop-digits.list.items c.loop-digits-test.true (sym c.interrupt.ensures ∙ c.in-None.is) c.loop-digits.invariant

pub loop-digits-preserved : goal.loop-digits-preserved
loop-digits-preserved c = one_read interrupts_read (λ s. s.now) (interrupts (map (λ s. s.now) c.args.texts.now)) c.args.texts.now c.loop-digits.digits-index _ c.in-Some.n c.loop-digits.list.items c.push.new.self.items c.loop-digits-test.true
    (sym c.interrupt.ensures ∙ c.in-Some.is) c.in_ok-push-in-Some.ensures.items c.loop-digits.invariant

pub returns : goal.returns
returns c = all_read interrupts_read (λ s. s.now) (interrupts (map (λ s. s.now) c.args.texts.now)) c.args.texts.now c.loop-digits.digits-index c.loop-digits.list.items c.loop-digits-test.false c.loop-digits.invariant
