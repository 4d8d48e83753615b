-- A path is below those with which it begins and that have fewer segments, and below no others.
use Rattle.std.specs.Prelude.{◌≡◌, ◌<◌, List, [], ◌∷◌, ◌++◌, length, take, drop, Bool, true, false, ◌&&◌, refl}
use Rattle.std.proofs.Common.{arith, ap, sym, ◌∙◌}
use Rattle.std.proofs.lemmas.Bool.{ltb-true, lt-ltb}
use Rattle.std.proofs.lemmas.List.{length-append, length-drop, take-append-drop, take-append-le, take_all}
use Rattle.std.specs.declared.cmp.Ordering.{Ordering}
use Rattle.std.specs.declared.cmp.Ordering.TheVariants.{Less, Equal, Greater}
use Rattle.std.specs.Ordering.{is_eq}
use Rattle.std.proofs.lemmas.Cmp.{eq_by_cmp_equiv}
use Rattle.aml_path.specs.declared.segment.Seg.{Seg}
use Rattle.aml_path.specs.Paths.{path_cmp, is_below}
use Rattle.aml_namespace.proofs.Paths.{path_total, only_equal}

-- a path with segments behind it

front_is : (p rest : List Seg) → take (length p) (p ++ rest) ≡ p
front_is p rest = take-append-le (length p) p rest (omega arith) ∙ take_all (length p) p (omega arith)

pub longer_is_below : (path : List Seg) (segment : Seg) (rest : List Seg) → is_below path (path ++ segment ∷ rest) ≡ true
longer_is_below path segment rest =
    let long = length-append path (segment ∷ rest) in
    let longer : length path < length (path ++ segment ∷ rest) = omega arith in
    rw (lt-ltb (length path) (length (path ++ segment ∷ rest)) longer, front_is path (segment ∷ rest)) ((eq_by_cmp_equiv path_total).refl path)

-- what a path has behind one that it is below

and_both : (b c : Bool) → b && c ≡ true → (b ≡ true) × (c ≡ true)
and_both true c h = (refl, h)
and_both false c h = absurd (cc h)

equal_by_test : (r : Ordering) → is_eq r ≡ true → r ≡ Equal
equal_by_test Less h = absurd (cc h)
equal_by_test Equal h = refl
equal_by_test Greater h = absurd (cc h)

begins_with_some : (path q behind : List Seg) → q ≡ path ++ behind → 0 < length behind → (segment : Seg) × (rest : List Seg) × (q ≡ path ++ segment ∷ rest)
begins_with_some path q [] is some = absurd (omega arith)
begins_with_some path q (segment ∷ rest) is some = (segment, rest, is)

pub below_is_longer : (path q : List Seg) → is_below path q ≡ true → (segment : Seg) × (rest : List Seg) × (q ≡ path ++ segment ∷ rest)
below_is_longer path q h =
    let both = and_both _ _ h in
    let longer = ltb-true (length path) (length q) both.0 in
    let front : take (length path) q ≡ path = only_equal _ _ (equal_by_test (path_cmp (take (length path) q) path) both.1) in
    let behind = length-drop (length path) q in
    begins_with_some path q (drop (length path) q) (sym (take-append-drop (length path) q) ∙ ap (λ p. p ++ drop (length path) q) front) (omega arith)
