use Rattle.std.proofs.Common.{rules, arith, ℕ, ◌+◌, ◌*◌, ◌%◌, sym, ◌∙◌, ap, get_or, w64}
use Rattle.std.specs.Prelude.{bit_and}
use Rattle.std.specs.Int.{bit_at, trailing_zeros}
use Rattle.std.proofs.lemmas.Nat.Bits.{bit_at-trailing_zeros}
use Rattle.route_solve.proofs.LeftBits.{no_hit, hit_is}
use Rattle.route_solve.proofs.left.next_left.Goals as goal

pub returns-then-hits-eq0 : goal.returns-then-hits-eq0
returns-then-hits-eq0 c j here left hit =
    no_hit (get_or c.args.rows.now (4 * c.args.i + c.args.w) 0) (get_or c.args.left.now c.args.w 0) (j % 64) c.if-hits-eq0.true
    (ap (λ m. bit_at (get_or c.args.rows.now (4 * c.args.i + m) 0) (j % 64)) (sym here) ∙ hit)
    (ap (λ m. bit_at (get_or c.args.left.now m 0) (j % 64)) (sym here) ∙ left)

pub returns : goal.returns
returns c =
    let hits : ℕ = bit_and (get_or c.args.rows.now (4 * c.args.i + c.args.w) 0) (get_or c.args.left.now c.args.w 0) in
    let some = c.if-hits-eq0.false in
    let lowest = bit_at-trailing_zeros w64 hits (omega arith) (search rules) in
    hit_is c.args.rows.now c.args.left.now c.args.i c.args.w (trailing_zeros w64 hits) lowest.0 lowest.1
