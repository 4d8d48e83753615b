-- A link device, as contracts see it.
use Rattle.std.specs.Prelude.{ℕ, List, map}
use Rattle.aml_path.specs.declared.segment.Seg.{Seg}

-- its path, and the interrupts that it offers
pub record OfferingLink : Type 0 where
  pub path : List Seg
  pub offers : List ℕ

-- what each link offers
abbrev pub offers_of : List OfferingLink → List (List ℕ)
offers_of links = map (λ l. l.offers) links

abbrev pub paths_of : List OfferingLink → List (List Seg)
paths_of links = map (λ l. l.path) links
