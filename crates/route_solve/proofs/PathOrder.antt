-- Links in path order, tested one after the other.
use Rattle.std.proofs.Common.{◌≡◌, ◌<◌, ◌≤◌, ◌+◌, ◌-◌, ℕ, true, false, List, [], length, sym, ◌∙◌, ap, refl, get_or, arith, inl, inr}
use Rattle.std.specs.Prelude.{◌⊎◌}
use Rattle.std.specs.declared.cmp.Ordering.{Ordering}
use Rattle.std.specs.declared.cmp.Ordering.TheVariants.{Less, Equal, Greater}
use Rattle.std.specs.Ordering.{is_lt}
use Rattle.std.specs.List.Sorted.{IsStrictlySortedBy}
use Rattle.std.proofs.lemmas.Bool.{false≢true, true≢false, cases_lt}
use Rattle.std.proofs.lemmas.List.{get_or-map}
use Rattle.std.proofs.lemmas.Map.Keys.{Less-from_sorted}
use Rattle.aml_path.specs.declared.segment.Seg.{Seg}
use Rattle.aml_path.specs.Paths.{path_cmp}
use Rattle.route_model.specs.Links.{OfferingLink, paths_of}

pub path_at : (links : List OfferingLink) (k : ℕ) (x : OfferingLink) → k < length links → x ≡ get_or links k x → get_or (paths_of links) k [] ≡ x.path
path_at links k x b is = get_or-map (λ (l : OfferingLink). l.path) links k x [] b ∙ ap (λ (l : OfferingLink). l.path) (sym is)

pub less : (o : Ordering) → is_lt o ≡ true → o ≡ Less
less Less e = refl
less Equal e = absurd (false≢true e)
less Greater e = absurd (false≢true e)

pub paths_more : (ps : List (List Seg)) (i : ℕ) → 1 ≤ i → path_cmp (get_or ps (i - 1) []) (get_or ps i []) ≡ Less → ((k : ℕ) → k + 1 < i → path_cmp (get_or ps k []) (get_or ps (k + 1) []) ≡ Less) → (k : ℕ) → k + 1 < i + 1 → path_cmp (get_or ps k []) (get_or ps (k + 1) []) ≡ Less
paths_more ps i one h inv k b = go (cases_lt (k + 1) i)
  where
    go : (k + 1 < i) ⊎ (i ≤ k + 1) → path_cmp (get_or ps k []) (get_or ps (k + 1) []) ≡ Less
    go (inl below) = inv k below
    go (inr at) = let e : k ≡ i - 1 = omega arith in let f : k + 1 ≡ i = omega arith in rw (f, e) h

pub paths_not : (ps : List (List Seg)) (i : ℕ) → 1 ≤ i → i < length ps → is_lt (path_cmp (get_or ps (i - 1) []) (get_or ps i [])) ≡ false → IsStrictlySortedBy path_cmp ps → ⊥
paths_not ps i one within h up = true≢false (sym (ap is_lt (Less-from_sorted path_cmp ps (i - 1) i [] up (omega arith) within)) ∙ h)
