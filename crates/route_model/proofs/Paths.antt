-- Paths are told apart by their order.
use Rattle.std.proofs.Common.{◌≡◌, true, refl, ap, rules}
use Rattle.std.specs.declared.cmp.Ordering.{Ordering}
use Rattle.std.specs.declared.cmp.Ordering.TheVariants.{Less, Equal, Greater}
use Rattle.std.specs.Ordering.{is_eq}
use Rattle.std.specs.Cmp.{IsTotalOrder, tied_itself}
use Rattle.std.specs.Cmp.Rules.{comparing}
use Rattle.std.specs.FinMap.{slice_cmp-IsAntisymmetric}
use Rattle.std.proofs.lemmas.Bool.{false≢true}
use Rattle.aml_path.proofs.Segments.{seg_cmp_exact}
use Rattle.aml_path.specs.Paths.{path_cmp, path_eq}
use Rattle.route_model.proofs.Counting.{Tells}

pub path_total : IsTotalOrder path_cmp
path_total = search (comparing, rules) depth 9

is_equal : (o : Ordering) → is_eq o ≡ true → o ≡ Equal
is_equal Less e = absurd (false≢true e)
is_equal Equal e = refl
is_equal Greater e = absurd (false≢true e)

pub path_tells : Tells path_eq
path_tells = record {
  sound = λ p q e. slice_cmp-IsAntisymmetric seg_cmp_exact p q (is_equal (path_cmp p q) e);
  itself = λ p. ap is_eq (tied_itself path_total p);
}
