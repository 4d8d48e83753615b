-- The orders of a claim's lists tell their elements apart.
use Rattle.std.proofs.Common.{◌≡◌, ℕ, List, ap₂}
use Rattle.std.specs.declared.cmp.Ordering.{Ordering}
use Rattle.std.specs.declared.cmp.Ordering.TheVariants.{Less, Equal, Greater}
use Rattle.std.specs.Ordering.{nat_cmp, ordering_then}
use Rattle.std.specs.Cmp.{IsTotalOrder}
use Rattle.std.specs.FinMap.{IsAntisymmetric, nat_cmp-IsAntisymmetric, slice_cmp-IsAntisymmetric}
use Rattle.std.proofs.lemmas.Cmp.{on_total, then_total, nat_cmp_total, nat_list_cmp_total}
use Rattle.aml_path.specs.declared.segment.Seg.{Seg}
use Rattle.aml_path.proofs.Segments.{seg_cmp_exact}
use Rattle.aml_path.specs.Paths.{path_cmp}
use Rattle.route_model.specs.Links.{OfferingLink}
use Rattle.route_model.proofs.Paths.{path_total}
use Rattle.route_report.specs.Ordered.{link_order, wired_order, give_order}
use Rattle.ar_space.proofs.Outcomes.{answering}

both_equal : (o p : Ordering) → ordering_then o p ≡ Equal → (o ≡ Equal) × (p ≡ Equal)
both_equal Less p e = absurd (cc e)
both_equal Equal p e = (cc, e)
both_equal Greater p e = absurd (cc e)

pub path_exact : IsAntisymmetric path_cmp
path_exact = slice_cmp-IsAntisymmetric seg_cmp_exact

pub wired_exact : IsAntisymmetric wired_order
wired_exact v w e = let b = both_equal (nat_cmp v.0 w.0) (nat_cmp v.1 w.1) e in ap₂ (λ (m n : ℕ). (m, n)) (nat_cmp-IsAntisymmetric v.0 w.0 b.0) (nat_cmp-IsAntisymmetric v.1 w.1 b.1)

pub ruleset claiming = (answering, wired_exact)

pub give_exact : IsAntisymmetric give_order
give_exact g h e = let b = both_equal (path_cmp g.0 h.0) (nat_cmp g.1 h.1) e in ap₂ (λ (p : List Seg) (n : ℕ). (p, n)) (path_exact g.0 h.0 b.0) (nat_cmp-IsAntisymmetric g.1 h.1 b.1)

pub link_exact : IsAntisymmetric link_order
link_exact k l e =
    let b = both_equal (path_cmp k.path l.path) _ e in
    ap₂ (λ (p : List Seg) (os : List ℕ). let x : OfferingLink = record { path = p; offers = os } in x) (path_exact k.path l.path b.0) (slice_cmp-IsAntisymmetric nat_cmp-IsAntisymmetric k.offers l.offers b.1)

pub wired_total : IsTotalOrder wired_order
wired_total = then_total (on_total (λ (w : ℕ × ℕ). w.0) nat_cmp_total) (on_total (λ (w : ℕ × ℕ). w.1) nat_cmp_total)

pub give_total : IsTotalOrder give_order
give_total = then_total (on_total (λ (g : List Seg × ℕ). g.0) path_total) (on_total (λ (g : List Seg × ℕ). g.1) nat_cmp_total)

pub link_total : IsTotalOrder link_order
link_total = then_total (on_total (λ (l : OfferingLink). l.path) path_total) (on_total (λ (l : OfferingLink). l.offers) nat_list_cmp_total)
