-- One more interrupt that is ready.
use Rattle.std.proofs.Common.{◌≡◌, ◌≢◌, ℕ, ◌+◌, ◌<◌, ◌≤◌, Bool, true, false, List, length, refl, sym, ◌∙◌, ap, subst, arith, Option, Some, set, inl, inr, length-set, take, get_or-set_same, get_or-set_other}
use Rattle.std.specs.Prelude.{◌⊎◌}
use Rattle.std.proofs.lemmas.Bool.{cases_eq, cases_lt, true≢false, false≢true}
use Rattle.std.proofs.lemmas.List.{get_or_past, get_or-take, length-take}
use Rattle.route_model.specs.Placement.{place_of, is_reached, Offers}
use Rattle.route_solve.specs.declared.ways.Way.{Way}
use Rattle.route_solve.specs.Ready.{no_way, way_at, ready_at, AreWays, IsWay, IsSearch, IsFurther, IsCleared}
use Rattle.route_solve.specs.Rows.{HasBit}
use Rattle.route_solve.proofs.Reaching.{kept_set, marked_now, one_more, all_left}
use Rattle.route_solve.proofs.Parts.{placed_within}

-- what is marked stands in the list
pub marked_within : (ready : List Bool) (i : ℕ) → is_reached ready i ≡ true → i < length ready
marked_within ready i h = go (cases_lt i (length ready))
  where
    go : (i < length ready) ⊎ (length ready ≤ i) → i < length ready
    go (inl b) = b
    go (inr past) = absurd (true≢false (sym h ∙ get_or_past ready i false past))

pub further_itself : (ready : List Bool) (ways : List Way) (tail : ℕ) → IsFurther ready ways tail ready ways tail
further_itself ready ways tail = record { longer = omega arith; kept = λ k h. h; same = λ k b. refl }

pub further_still : (r : List Bool) (ws : List Way) (t : ℕ) (r1 : List Bool) (ws1 : List Way) (t1 : ℕ) (r2 : List Bool) (ws2 : List Way) (t2 : ℕ) → IsFurther r ws t r1 ws1 t1 → IsFurther r1 ws1 t1 r2 ws2 t2 → IsFurther r ws t r2 ws2 t2
further_still r ws t r1 ws1 t1 r2 ws2 t2 a b =
    let la = a.longer in
    let lb = b.longer in
    record {
      longer = omega arith;
      kept = λ k h. b.kept k (a.kept k h);
      same = λ k bk. b.same k (omega arith) ∙ a.same k bk;
    }

-- what stands among the ways stands among the first that were found
pub listed_first : (ways : List Way) (tail i : ℕ) → tail ≤ length ways → (k : ℕ) × (k < tail) × (ready_at ways k ≡ i) → (k : ℕ) × (k < length (take tail ways)) × (ready_at (take tail ways) k ≡ i)
listed_first ways tail i fits w = (w.0, let e = length-take tail ways in let b = w.1 in omega arith, ap (λ (v : Way). v.interrupt) (get_or-take tail ways w.0 no_way w.1) ∙ w.2)

module _ (offers : List (List ℕ)) (room : ℕ → ℕ) (p : List (Option ℕ)) (low : ℕ) where
  way_kept : (ways ways' : List Way) (tail k : ℕ) (w : Way) → ((m : ℕ) → m < tail → way_at ways' m ≡ way_at ways m) → k ≤ tail → IsWay offers room p low ways k w → IsWay offers room p low ways' k w
  way_kept ways ways' tail k w same b (inl free) = inl free
  way_kept ways ways' tail k w same b (inr h) =
      let less = h.before in
      inr (record {
        before = h.before;
        movable = h.movable;
        held = h.held;
        offered = subst (Offers offers w.link) (sym (ap (λ (v : Way). v.interrupt) (same w.next (omega arith)))) h.offered;
      })

  -- the first ways, as many as were found, are ways
  pub ways_first : (ways : List Way) (tail : ℕ) → tail ≤ length ways → AreWays offers room p low ways tail → AreWays offers room p low (take tail ways) (length (take tail ways))
  ways_first ways tail fits all =
      record {
        once = λ j k lt b e. let l = long in all.once j k lt (omega arith) (sym (same_ready j (omega arith)) ∙ (e ∙ same_ready k (omega arith)));
        each = λ k b. let l = long in subst (IsWay offers room p low (take tail ways) k) (sym (same k (omega arith))) (way_kept ways (take tail ways) k k (way_at ways k) (λ m bm. same m (omega arith)) (omega arith) (all.each k (omega arith)));
      }
    where
      long : length (take tail ways) ≡ tail
      long = let e = length-take tail ways in omega arith

      same : (k : ℕ) → k < tail → way_at (take tail ways) k ≡ way_at ways k
      same k b = get_or-take tail ways k no_way b

      same_ready : (k : ℕ) → k < tail → ready_at (take tail ways) k ≡ ready_at ways k
      same_ready k b = ap (λ (v : Way). v.interrupt) (same k b)

  -- there is room for the ways that were found
  pub ways_within : (left : List ℕ) (ready : List Bool) (ways : List Way) (tail : ℕ) → IsSearch offers room p low left ready ways tail → (k : ℕ) → k < tail → k < length ways
  ways_within left ready ways tail s k b = let c = s.counted in let f = s.fits in omega arith

  module _ (left : List ℕ) (ready : List Bool) (ways : List Way) (tail : ℕ) (w : Way) (s : IsSearch offers room p low left ready ways tail) (known : w.interrupt < length ready) (is : IsWay offers room p low ways tail w) (fresh : is_reached ready w.interrupt ≡ false) where
    pub way_fits : tail < length ways
    way_fits = let e = one_more ready w.interrupt known fresh in let c = s.counted in let f = s.fits in omega arith

    at_new : way_at (set ways tail w) tail ≡ w
    at_new = get_or-set_same ways tail w no_way way_fits

    at_old : (k : ℕ) → k < tail → way_at (set ways tail w) k ≡ way_at ways k
    at_old k b = get_or-set_other ways tail k w no_way (λ e. absurd (omega arith))

    int_new : ready_at (set ways tail w) tail ≡ w.interrupt
    int_new = ap (λ (v : Way). v.interrupt) at_new

    int_old : (k : ℕ) → k < tail → ready_at (set ways tail w) k ≡ ready_at ways k
    int_old k b = ap (λ (v : Way). v.interrupt) (at_old k b)

    pub further_more : IsFurther ready ways tail (set ready w.interrupt true) (set ways tail w) (tail + 1)
    further_more = record { longer = omega arith; kept = kept_set ready w.interrupt known; same = at_old }

    pub search_more : IsSearch offers room p low left (set ready w.interrupt true) (set ways tail w) (tail + 1)
    search_more =
        record {
          fits = length-set ways tail w ∙ (s.fits ∙ sym (length-set ready w.interrupt true));
          all = record { once = λ j k lt b. once j k lt b (cases_lt k tail); each = λ k b. each k b (cases_lt k tail) };
          marked = λ k b. marked k b (cases_lt k tail);
          listed = λ i h. listed i h (cases_eq i w.interrupt);
          counted = let e = one_more ready w.interrupt known fresh in let c = s.counted in let f = length-set ready w.interrupt true in omega arith;
          movable = s.movable;
          gone = λ j x le out h. kept_set ready w.interrupt known x (s.gone j x le out h);
        }
      where
        once : (j k : ℕ) → j < k → k < tail + 1 → (k < tail) ⊎ (tail ≤ k) → ready_at (set ways tail w) j ≢ ready_at (set ways tail w) k
        once j k lt b (inl before) e = s.all.once j k lt before (sym (int_old j (omega arith)) ∙ (e ∙ int_old k before))
        once j k lt b (inr past) e =
            let here : k ≡ tail = omega arith in
            let f : ready_at ways j ≡ w.interrupt = sym (int_old j (omega arith)) ∙ (e ∙ (ap (ready_at (set ways tail w)) here ∙ int_new)) in
            true≢false (sym (s.marked j (omega arith)) ∙ (ap (is_reached ready) f ∙ fresh))

        each : (k : ℕ) → k < tail + 1 → (k < tail) ⊎ (tail ≤ k) → IsWay offers room p low (set ways tail w) k (way_at (set ways tail w) k)
        each k b (inl before) = subst (IsWay offers room p low (set ways tail w) k) (sym (at_old k before)) (way_kept ways (set ways tail w) tail k (way_at ways k) at_old (omega arith) (s.all.each k before))
        each k b (inr past) =
            let here : tail ≡ k = omega arith in
            subst (λ m. IsWay offers room p low (set ways tail w) m (way_at (set ways tail w) m)) here (subst (IsWay offers room p low (set ways tail w) tail) (sym at_new) (way_kept ways (set ways tail w) tail tail w at_old (omega arith) is))

        marked : (k : ℕ) → k < tail + 1 → (k < tail) ⊎ (tail ≤ k) → is_reached (set ready w.interrupt true) (ready_at (set ways tail w) k) ≡ true
        marked k b (inl before) = ap (is_reached (set ready w.interrupt true)) (int_old k before) ∙ kept_set ready w.interrupt known (ready_at ways k) (s.marked k before)
        marked k b (inr past) = let here : k ≡ tail = omega arith in ap (is_reached (set ready w.interrupt true)) (ap (ready_at (set ways tail w)) here ∙ int_new) ∙ marked_now ready w.interrupt known

        listed : (i : ℕ) → is_reached (set ready w.interrupt true) i ≡ true → (i ≡ w.interrupt) ⊎ (i ≡ w.interrupt → ⊥) → (k : ℕ) × (k < tail + 1) × (ready_at (set ways tail w) k ≡ i)
        listed i h (inl e) = (tail, omega arith, int_new ∙ sym e)
        listed i h (inr ne) = let v = s.listed i (sym (get_or-set_other ready w.interrupt i true false ne) ∙ h) in (v.0, omega (arith, v.1), int_old v.0 v.1 ∙ v.2)

  -- a link is taken out of those that are left, once its interrupt is ready
  pub search_less : (left left' : List ℕ) (ready : List Bool) (ways : List Way) (tail link : ℕ) → IsSearch offers room p low left ready ways tail → IsCleared left left' link → ((x : ℕ) → place_of p link ≡ Some x → is_reached ready x ≡ true) → IsSearch offers room p low left' ready ways tail
  search_less left left' ready ways tail link s cleared here =
      record {
        fits = s.fits;
        all = s.all;
        marked = s.marked;
        listed = s.listed;
        counted = s.counted;
        movable = λ j h. s.movable j (cleared.kept j h);
        gone = λ j x le out h. go j x le out h (cases_eq j link);
      }
    where
      go : (j x : ℕ) → low ≤ j → (HasBit left' j → ⊥) → place_of p j ≡ Some x → (j ≡ link) ⊎ (j ≡ link → ⊥) → is_reached ready x ≡ true
      go j x le out h (inl e) = here x (ap (place_of p) (sym e) ∙ h)
      go j x le out h (inr ne) = s.gone j x le (λ b. out (cleared.others j ne b)) h

  -- nothing is ready at the start
  pub search_none : (left : List ℕ) (ready : List Bool) (ways : List Way) → length ways ≡ length ready → ((k : ℕ) → is_reached ready k ≡ false) → ((j : ℕ) → j < length p → low ≤ j → HasBit left j) → ((j : ℕ) → HasBit left j → low ≤ j) → IsSearch offers room p low left ready ways 0
  search_none left ready ways fits none all only = record {
    fits = fits;
    all = record { once = λ j k lt b. absurd (omega arith); each = λ k b. absurd (omega arith) };
    marked = λ k b. absurd (omega arith);
    listed = λ i h. absurd (false≢true (sym (none i) ∙ h));
    counted = let e = all_left ready none in omega arith;
    movable = only;
    gone = λ j x le out h. absurd (out (all j (placed_within p j x h) le));
  }
