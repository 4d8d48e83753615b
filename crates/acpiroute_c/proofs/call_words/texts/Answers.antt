use Rattle.std.specs.Prelude.{ℕ, List}
use Rattle.std.specs.Borrow.{Bor}
use Rattle.std.specs.Str.{IsUtf8}
use Rattle.std.proofs.Common.{arith}
use Rattle.std.proofs.lemmas.Grind.{common_steps}
use Rattle.std.proofs.lemmas.List.{take_all}
use Rattle.std.proofs.lemmas.List.Elements.{All-more}
use Rattle.acpiroute_c.proofs.call_words.texts.Goals as goal

pub loop-option-preserved : goal.loop-option-preserved
loop-option-preserved c = (grind (arith, common_steps), All-more (λ (s : Bor (List ℕ)). IsUtf8 s.now) c.args.options.now c.loop-option.option-index _ (omega arith) c.loop-option.invariant.1 c.in-Ok.ensures.cases.1)

pub returns-clause-utf8 : goal.returns-clause-utf8
returns-clause-utf8 c = rw (take_all c.loop-option.option-index c.args.options.now (omega arith)) at c.loop-option.invariant.1
