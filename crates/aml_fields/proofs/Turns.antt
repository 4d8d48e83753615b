-- Units one by one.
use Rattle.std.proofs.Common.{◌≡◌, ◌<◌, ℕ, zero, suc, ◌+◌, ◌-◌, [], ◌∷◌, refl, ap, arith}
use Rattle.ar_space.specs.declared.space.Width.{Width}
use Rattle.aml_fields.specs.Units.{unit_at, units_from}

pub none_left : (o n : ℕ) (w : Width) (k left : ℕ) → left ≡ 0 → units_from o n w k left ≡ []
unfolding units_from
none_left o n w k zero e = refl
none_left o n w k (suc left) e = absurd (omega (arith, e))

pub one_left : (o n : ℕ) (w : Width) (k left : ℕ) → 0 < left → units_from o n w k left ≡ unit_at o n w k ∷ units_from o n w (k + 1) (left - 1)
unfolding units_from
one_left o n w k zero l = absurd (omega arith)
one_left o n w k (suc left) l = ap (λ m. unit_at o n w k ∷ units_from o n w (k + 1) m) (omega arith)
