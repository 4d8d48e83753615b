-- Each node with a child stays marked as a parent.
use Rattle.std.proofs.Common.{◌≡◌, ℕ, Bool, true, false, cond, List, ◌∷◌, ◌||◌, Option, Some, None, is_some, refl, ap, sym, ◌∙◌}
use Rattle.std.specs.Ordering.{eq_by_cmp}
use Rattle.std.specs.Option.{option_map}
use Rattle.std.specs.BTreeMap.{is_at}
use Rattle.std.specs.Map.{lookup}
use Rattle.aml_path.specs.declared.segment.Seg.{Seg}
use Rattle.aml_objects.specs.declared.node.NodeId.{NodeId}
use Rattle.aml_namespace.specs.Parents.{is_marked}
use Rattle.aml_namespace.specs.Places.{place_of, may_be}
use Rattle.aml_namespace.specs.Tree.{Index, index_cmp, child_in, ParentsMarked, PlacesMarked}
use Rattle.aml_namespace.proofs.Indexes.{same_key}
use Rattle.aml_namespace.proofs.Declaring.{number_updated, number_removed}

unmarked_by : (o : Option ℕ) (b : Bool) → b ≡ false → (is_some o ≡ true → b ≡ true) → o ≡ None
unmarked_by None b none marked = refl
unmarked_by (Some n) b none marked = absurd (cc (none, marked refl))

-- a node without a mark has no child
pub unmarked : (marks : List Bool) (es : Index) → ParentsMarked marks es → (p : ℕ) → is_marked marks p ≡ false → (s : Seg) → child_in es p s ≡ None
unmarked marks es marked p none s = unmarked_by (child_in es p s) (is_marked marks p) none (marked p s)

module _ (old new : Index) (parent : ℕ) (segment : Seg) where
  -- an entry put, and one taken out
  pub put_in : (id : NodeId) → ((k : ℕ × Seg) → lookup (is_at (index_cmp k)) new ≡ cond (eq_by_cmp index_cmp (parent, segment) k) (Some id) (lookup (is_at (index_cmp k)) old))
      → (p : ℕ) (s : Seg) → child_in new p s ≡ cond (eq_by_cmp index_cmp (parent, segment) (p, s)) (Some id.number) (child_in old p s)
  put_in id updated p s = ap (option_map (λ (i : NodeId). i.number)) (updated (p, s)) ∙ number_updated (eq_by_cmp index_cmp (parent, segment) (p, s)) id id.number (lookup (is_at (index_cmp (p, s))) old) refl

  pub taken_out : ((k : ℕ × Seg) → lookup (is_at (index_cmp k)) new ≡ cond (eq_by_cmp index_cmp (parent, segment) k) None (lookup (is_at (index_cmp k)) old))
      → (p : ℕ) (s : Seg) → child_in new p s ≡ cond (eq_by_cmp index_cmp (parent, segment) (p, s)) None (child_in old p s)
  taken_out updated p s = ap (option_map (λ (i : NodeId). i.number)) (updated (p, s)) ∙ number_removed (eq_by_cmp index_cmp (parent, segment) (p, s)) (lookup (is_at (index_cmp (p, s))) old)

  module _ (marks : List Bool) (marked : ParentsMarked marks old) where
    pub put_marked : (after : List Bool) (n : ℕ) → is_marked after parent ≡ true → ((k : ℕ) → is_marked marks k ≡ true → is_marked after k ≡ true)
        → ((p : ℕ) (s : Seg) → child_in new p s ≡ cond (eq_by_cmp index_cmp (parent, segment) (p, s)) (Some n) (child_in old p s)) → ParentsMarked after new
    put_marked after n here others updated = λ p s stands. by p s (eq_by_cmp index_cmp (parent, segment) (p, s)) refl (sym (ap is_some (updated p s)) ∙ stands)
      where
        by : (p : ℕ) (s : Seg) (b : Bool) → eq_by_cmp index_cmp (parent, segment) (p, s) ≡ b → is_some (cond b (Some n) (child_in old p s)) ≡ true → is_marked after p ≡ true
        by p s true is stands = ap (is_marked after) (sym (same_key parent p segment s is).0) ∙ here
        by p s false is stands = others p (marked p s stands)

  -- what is left after one was taken out was there before
  pub still_there : ((p : ℕ) (s : Seg) → child_in new p s ≡ cond (eq_by_cmp index_cmp (parent, segment) (p, s)) None (child_in old p s))
      → (p : ℕ) (s : Seg) → is_some (child_in new p s) ≡ true → is_some (child_in old p s) ≡ true
  still_there updated p s stands = by (eq_by_cmp index_cmp (parent, segment) (p, s)) (child_in old p s) (sym (ap is_some (updated p s)) ∙ stands)
    where
      by : (b : Bool) (o : Option ℕ) → is_some (cond b None o) ≡ true → is_some o ≡ true
      by true o stands = absurd (cc stands)
      by false o stands = stands

  -- whatever else is there than what was put was marked before
  pub put_apart : (marks : List Bool) → PlacesMarked marks old → (n : ℕ) → ((p : ℕ) (s : Seg) → child_in new p s ≡ cond (eq_by_cmp index_cmp (parent, segment) (p, s)) (Some n) (child_in old p s))
      → (p : ℕ) (s : Seg) → is_some (child_in new p s) ≡ true → eq_by_cmp index_cmp (parent, segment) (p, s) ≡ false → may_be marks (place_of p s) ≡ true
  put_apart marks marked n updated p s stands apart = marked p s (sym (ap is_some (updated p s ∙ ap (λ b. cond b (Some n) (child_in old p s)) apart)) ∙ stands)

-- a place without a mark has no node
pub empty_place : (marks : List Bool) (es : Index) → PlacesMarked marks es → (p : ℕ) (s : Seg) → may_be marks (place_of p s) ≡ false → child_in es p s ≡ None
empty_place marks es marked p s none = unmarked_by (child_in es p s) (may_be marks (place_of p s)) none (marked p s)

-- the last place to be marked, besides all others
pub all_marked : (taken after : List Bool) (es : Index) (parent : ℕ) (segment : Seg)
    → ((p : ℕ) (s : Seg) → is_some (child_in es p s) ≡ true → eq_by_cmp index_cmp (parent, segment) (p, s) ≡ false → may_be taken (place_of p s) ≡ true)
    → may_be after (place_of parent segment) ≡ true → ((k : ℕ) → may_be taken k ≡ true → may_be after k ≡ true) → PlacesMarked after es
all_marked taken after es parent segment marked here others = λ p s stands. by p s stands (eq_by_cmp index_cmp (parent, segment) (p, s)) refl
  where
    by : (p : ℕ) (s : Seg) → is_some (child_in es p s) ≡ true → (b : Bool) → eq_by_cmp index_cmp (parent, segment) (p, s) ≡ b → may_be after (place_of p s) ≡ true
    by p s stands true is = let same = same_key parent p segment s is in ap (λ k. may_be after (place_of k s)) (sym same.0) ∙ ap (λ (t : Seg). may_be after (place_of parent t)) (sym same.1) ∙ here
    by p s stands false is = others (place_of p s) (marked p s stands is)

-- one more of the places where nodes are is marked
pub marked_more : (taken after : List Bool) (e : (ℕ × Seg) × NodeId) (rest : Index) (p : ℕ) (s : Seg) → may_be after (place_of e.0.0 e.0.1) ≡ true → ((k : ℕ) → may_be taken k ≡ true → may_be after k ≡ true)
    → (is_some (child_in (e ∷ rest) p s) || may_be taken (place_of p s)) ≡ true → (is_some (child_in rest p s) || may_be after (place_of p s)) ≡ true
marked_more taken after e rest p s here others is = by (is_at (index_cmp (p, s)) e.0) refl is
  where
    either : (a b c : Bool) → (b ≡ true → c ≡ true) → (a || b) ≡ true → (a || c) ≡ true
    either true b c more is = refl
    either false b c more is = more is

    last : (a b : Bool) → b ≡ true → (a || b) ≡ true
    last true b is = refl
    last false b is = is

    by : (b : Bool) → is_at (index_cmp (p, s)) e.0 ≡ b → (is_some (option_map (λ (i : NodeId). i.number) (cond b (Some e.1) (lookup (is_at (index_cmp (p, s))) rest))) || may_be taken (place_of p s)) ≡ true
        → (is_some (child_in rest p s) || may_be after (place_of p s)) ≡ true
    by true at is = let same = same_key p e.0.0 s e.0.1 at in
        last (is_some (child_in rest p s)) (may_be after (place_of p s)) (ap (λ k. may_be after (place_of k s)) same.0 ∙ ap (λ (t : Seg). may_be after (place_of e.0.0 t)) same.1 ∙ here)
    by false at is = either (is_some (child_in rest p s)) (may_be taken (place_of p s)) (may_be after (place_of p s)) (others (place_of p s)) is
