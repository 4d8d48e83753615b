use Rattle.std.proofs.Common.{◌≡◌, length, take, arith, ◌==◌, w8}
use Rattle.std.proofs.lemmas.List.{length-take-le}
use Rattle.std.proofs.lemmas.Simd.{bitmask_splat}
use Rattle.text_words.proofs.Blocks.{first_marked}
use Rattle.text_words.proofs.cuts.place_near.Goals as goal

pub returns-else-found-eq0 : goal.returns-else-found-eq0
returns-else-found-eq0 c =
    let near = take 16 c.args.text.now in
    let long : length near ≡ 16 = length-take-le 16 c.args.text.now c.requires in
    first_marked _ c.args.byte 16 near long (omega arith) (bitmask_splat w8 (λ a b. a == b) near 16 c.args.byte long (omega arith)) c.if-found-eq0.false
