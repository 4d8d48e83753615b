use Rattle.std.proofs.Common.{map, sym, ◌∙◌, ap, Some}
use Rattle.acpiroute_shell.specs.Values.{arguments}
use Rattle.acpiroute_shell.proofs.Numbers.{arguments_read, one_read, one_refused, all_read}
use Rattle.acpiroute_shell.proofs.values.arguments.Goals as goal

pub returns-in-None : goal.returns-in-None
returns-in-None c = one_refused arguments_read (λ s. s.now) (arguments (map (λ s. s.now) c.args.texts.now)) c.args.texts.now c.loop-text.text-index _ c.loop-text.list.items c.loop-text-test.true (sym c.in_ok-argument.ensures ∙ c.in-None.is) c.loop-text.invariant

pub loop-text-preserved : goal.loop-text-preserved
loop-text-preserved c = one_read arguments_read (λ s. s.now) (arguments (map (λ s. s.now) c.args.texts.now)) c.args.texts.now c.loop-text.text-index _ c.in-Some.argument c.loop-text.list.items c.push.new.self.items c.loop-text-test.true
    (sym c.in_ok-argument.ensures ∙ c.in-Some.is) c.in_ok-push-in-Some.ensures.items c.loop-text.invariant

pub returns : goal.returns
returns c = ap Some c.from_vec.ensures ∙ all_read arguments_read (λ s. s.now) (arguments (map (λ s. s.now) c.args.texts.now)) c.args.texts.now c.loop-text.text-index c.loop-text.list.items c.loop-text-test.false c.loop-text.invariant
