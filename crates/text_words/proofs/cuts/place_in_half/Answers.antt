use Rattle.std.proofs.Common.{◌≡◌, length, take, arith, ◌==◌, w8}
use Rattle.std.proofs.lemmas.List.{length-take-le}
use Rattle.std.proofs.lemmas.Simd.{bitmask_splat}
use Rattle.text_words.proofs.Blocks.{first_marked}
use Rattle.text_words.proofs.cuts.place_in_half.Goals as goal

pub returns-else-found-eq0 : goal.returns-else-found-eq0
returns-else-found-eq0 c =
    let near = take 8 c.args.text.now in
    let long : length near ≡ 8 = length-take-le 8 c.args.text.now c.requires in
    first_marked _ c.args.byte 8 near long (omega arith) (bitmask_splat w8 (λ a b. a == b) near 8 c.args.byte long (omega arith)) c.if-found-eq0.false
