use Rattle.std.proofs.Common.{◌≤◌, ◌<◌, ◌/◌, ◌%◌, ap, arith, length, inl, inr}
use Rattle.std.specs.Prelude.{◌⊎◌}
use Rattle.std.specs.Int.{bit_at}
use Rattle.std.proofs.lemmas.Bool.{cases_lt}
use Rattle.std.proofs.lemmas.Nat.Bits.{bit_at-zero}
use Rattle.route_solve.proofs.LeftBits.{no_bit_past}
use Rattle.route_solve.proofs.left.has_left.Goals as goal

pub returns : goal.returns
returns c j h = go (cases_lt (j / 64) (length c.args.left.now))
  where
    go : (j / 64 < length c.args.left.now) ⊎ (length c.args.left.now ≤ j / 64) → ⊥
    go (inl b) =
        let zero = c.loop-word.invariant (j / 64) (let t = c.loop-word-test.false in omega arith) in
        let e = ap (λ w. bit_at w (j % 64)) zero in
        let z = bit_at-zero (j % 64) in
        omega arith
    go (inr past) = no_bit_past c.args.left.now j past h
