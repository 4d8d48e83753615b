-- The test of paths tells them apart.
use Rattle.std.proofs.Common.{◌≡◌, List, ◌∙◌, ap}
use Rattle.std.specs.Prelude.{◌↔◌, IsTrue}
use Rattle.aml_path.specs.declared.segment.Seg.{Seg}
use Rattle.aml_path.specs.Paths.{path_eq}
use Rattle.route_model.proofs.Paths.{path_tells}

pub same : (p q : List Seg) → IsTrue (path_eq p q) ↔ (p ≡ q)
same p q = (path_tells.sound p q, λ e. ap (λ r. path_eq r q) e ∙ path_tells.itself q)
