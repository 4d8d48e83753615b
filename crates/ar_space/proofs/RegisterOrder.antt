-- The order of PCI configuration registers is a total one, in which equal ones alone compare alike.
use Rattle.std.specs.Prelude.{ℕ}
use Rattle.std.specs.Ordering.{nat_cmp}
use Rattle.std.specs.Cmp.{IsTotalOrder, nat_cmp_total, on_total}
use Rattle.std.specs.FinMap.{IsAntisymmetric}
use Rattle.std.proofs.Common.{ap}
use Rattle.std.proofs.lemmas.Cmp.{then_total}
use Rattle.std.proofs.lemmas.Map.Lookups.{exact_pairs, exact_unsigned}
use Rattle.ar_space.specs.Registers.{register_cmp}

pub register_cmp_total : IsTotalOrder register_cmp
register_cmp_total = then_total (on_total (λ r. r.seg) nat_cmp_total) (then_total (on_total (λ r. r.bus) nat_cmp_total) (then_total (on_total (λ r. r.dev) nat_cmp_total)
    (then_total (on_total (λ r. r.func) nat_cmp_total) (on_total (λ r. r.reg) nat_cmp_total))))

-- registers that compare alike are one
pub register_cmp_exact : IsAntisymmetric register_cmp
register_cmp_exact a b h = ap (λ (p : ℕ × (ℕ × (ℕ × (ℕ × ℕ)))). record { seg = p.0; bus = p.1.0; dev = p.1.1.0; func = p.1.1.1.0; reg = p.1.1.1.1 })
    (exact_pairs nat_cmp _ exact_unsigned (exact_pairs nat_cmp _ exact_unsigned (exact_pairs nat_cmp _ exact_unsigned (exact_pairs nat_cmp nat_cmp exact_unsigned exact_unsigned)))
    (a.seg, (a.bus, (a.dev, (a.func, a.reg)))) (b.seg, (b.bus, (b.dev, (b.func, b.reg)))) h)
