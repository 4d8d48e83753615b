use Rattle.std.proofs.Common.{sym}
use Rattle.machine_text.proofs.Bytes.{only_word, only_fails}
use Rattle.machine_text.proofs.words.bytes.Goals as goal

pub returns-in_err-only : goal.returns-in_err-only
returns-in_err-only c =
    only_fails c.args.n c.args.words.now c.in_ok-first.first.now c.word.new.words c.in_ok-first.ensures (sym c.if-is_ended.ensures)
    c.in_err-only.field-0.0 c.from_residual-in_err-only.result _ c.in_err-only.ensures c.from_residual-in_err-only.ensures

pub returns-then-is_ended : goal.returns-then-is_ended
returns-then-is_ended c = only_word c.args.n c.args.words.now c.in_ok-first.first.now c.word.new.words c.in_ok-first.ensures (sym c.if-is_ended.ensures) _ c.in_ok-only.ensures
