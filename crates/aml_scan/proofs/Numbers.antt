-- Bounds of numbers by their count of bytes.
use Rattle.std.proofs.Common.{ℕ, zero, suc, ◌^◌, ◌<◌, ◌≤◌, arith}

-- three bytes
pub below_three : (n r : ℕ) → n ≤ 3 → r < 256 ^ n → r < 2 ^ 24
below_three zero r small lt = omega arith
below_three (suc zero) r small lt = omega arith
below_three (suc (suc zero)) r small lt = omega arith
below_three (suc (suc (suc zero))) r small lt = omega arith
below_three (suc (suc (suc (suc n)))) r small lt = absurd (omega arith)

-- seven bytes leave room for an eighth
pub below_seven : (n r : ℕ) → n ≤ 7 → r < 256 ^ n → r < 2 ^ 56
below_seven zero r small lt = omega arith
below_seven (suc zero) r small lt = omega arith
below_seven (suc (suc zero)) r small lt = omega arith
below_seven (suc (suc (suc zero))) r small lt = omega arith
below_seven (suc (suc (suc (suc zero)))) r small lt = omega arith
below_seven (suc (suc (suc (suc (suc zero))))) r small lt = omega arith
below_seven (suc (suc (suc (suc (suc (suc zero)))))) r small lt = omega arith
below_seven (suc (suc (suc (suc (suc (suc (suc zero))))))) r small lt = omega arith
below_seven (suc (suc (suc (suc (suc (suc (suc (suc n)))))))) r small lt = absurd (omega arith)
