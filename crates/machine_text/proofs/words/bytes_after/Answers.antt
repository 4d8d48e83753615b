use Rattle.std.proofs.Common.{◌∷◌, refl}
use Rattle.machine_text.proofs.Bytes.{bytes_on, bytes_fail, bytes_done}
use Rattle.machine_text.proofs.words.bytes_after.Goals as goal

pub returns-in_err-add_word : goal.returns-in_err-add_word
returns-in_err-add_word c =
    bytes_fail c.args.n c.args.all.now.items c.args.first.now (c.args.first.now ∷ c.args.words.now) c.args.words.now _ refl refl c.in_err-add_word.field-0.0 c.from_residual.result _
    c.in_err-add_word.ensures c.from_residual.ensures

pub loop-word-init : goal.loop-word-init
loop-word-init c =
    bytes_on c.args.n c.args.all.now.items c.args.first.now (c.args.first.now ∷ c.args.words.now) c.args.words.now _ refl refl c.add_word.new.all.items c.in_ok-add_word.ensures

pub loop-word-preserved : goal.loop-word-preserved
loop-word-preserved c = bytes_on c.args.n c.loop-word.all.items _ c.loop-word.words _ _ c.in-Some.ensures.some c.loop-word.invariant _ c.in_ok-add_word-2.ensures

pub returns-in_err-add_word-2 : goal.returns-in_err-add_word-2
returns-in_err-add_word-2 c =
    bytes_fail c.args.n c.loop-word.all.items _ c.loop-word.words _ _ c.in-Some.ensures.some c.loop-word.invariant c.in_err-add_word-2.field-0.0 c.from_residual-in_err-add_word-2.result _
    c.in_err-add_word-2.ensures c.from_residual-in_err-add_word-2.ensures

pub returns : goal.returns
returns c = bytes_done c.args.n c.loop-word.all.items c.loop-word.words _ c.in_default.ensures.none c.loop-word.invariant
