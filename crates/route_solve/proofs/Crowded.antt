-- A link that can't be placed beside those before it, and what its search reached.
use Rattle.std.proofs.Common.{◌≡◌, ℕ, zero, suc, ◌+◌, ◌<◌, ◌≤◌, Bool, true, false, List, length, refl, sym, ◌∙◌, ap, subst, arith, Option, Some, None, take, inl, inr}
use Rattle.std.specs.Prelude.{◌⊎◌, is_some, IsSome, MatchOption}
use Rattle.std.proofs.lemmas.Bool.{cases_lt, true≢false}
use Rattle.std.proofs.lemmas.List.{length-take, get_or-take}
use Rattle.route_model.specs.Placement.{place_of, is_reached, Offers, IsPlacement, IsWholeBut, IsStuck}
use Rattle.route_solve.specs.Certificate.{IsCertificate}
use Rattle.route_solve.specs.Capacities.{at}
use Rattle.route_solve.specs.Levels.{IsTrail, IsQueue, IsFound, AreClosed, AreDone}
use Rattle.route_solve.specs.Ready.{AreReady}
use Rattle.route_solve.proofs.Parts.{placement_take}
use Rattle.route_solve.proofs.Stuck.{stuck_at_root, spared_all}
use Rattle.route_solve.proofs.Truncated.{trail_take, closed_take, done_take}

no_some : {A : Type 0} (o : Option ℕ) → o ≡ None → IsSome o → A
no_some None e s = absurd (true≢false (sym s))
no_some (Some n) e s = none e
  where
    none : {A : Type 0} → Some n ≡ None → A
    none e = cc

module _ (offers : List (List ℕ)) (room : ℕ → ℕ) (p : List (Option ℕ)) (link : ℕ) (within : link < length p) (placed : IsPlacement offers room p) (whole : (k : ℕ) → k < link → IsSome (place_of p k)) (unplaced : (k : ℕ) → link ≤ k → place_of p k ≡ None) (queue : List ℕ) (tail : ℕ) (root : at queue 0 ≡ link) (held : (k : ℕ) → 1 ≤ k → k < tail → IsSome (place_of p (at queue k))) where
  -- all that it reached stand among the links up to it
  front : (k : ℕ) → k < tail → at queue k < link + 1
  front zero b = let r = root in omega arith
  front (suc k) b = go (cases_lt (at queue (suc k)) link)
    where
      go : (at queue (suc k) < link) ⊎ (link ≤ at queue (suc k)) → at queue (suc k) < link + 1
      go (inl less) = omega arith
      go (inr past) = no_some (place_of p (at queue (suc k))) (unplaced (at queue (suc k)) past) (held (suc k) (omega arith) b)

  pub last_is : (k : ℕ) → k < tail → place_of p (at queue k) ≡ None → at queue k ≡ link
  last_is zero b e = root
  last_is (suc k) b e = no_some (place_of p (at queue (suc k))) e (held (suc k) (omega arith) b)

  module _ (reached seen : List Bool) (some : 0 < tail) (trail : IsTrail offers p 0 queue tail) (listed : IsQueue reached queue tail) (closed : AreClosed room p 0 reached seen) (done : AreDone offers seen queue 0 tail) where
    long : link + 1 ≤ length offers
    long = let e = placed.same_length in omega arith

    rest : (k : ℕ) → link + 1 ≤ k → place_of p k ≡ None
    rest k le = unplaced k (omega arith)

    root_none : place_of (take (link + 1) p) (at queue 0) ≡ None
    root_none = get_or-take (link + 1) p (at queue 0) None (let r = root in omega arith) ∙ unplaced (at queue 0) (let r = root in omega arith)

    but : IsWholeBut (at queue 0) (take (link + 1) p)
    but k b ne =
        let l = length-take (link + 1) p in
        let r = root in
        let less : k < link = apart k (omega arith) (λ e. ne (e ∙ sym root)) in
        ap is_some (get_or-take (link + 1) p k None (omega arith)) ∙ whole k less
      where
        apart : (k : ℕ) → k < link + 1 → (k ≡ link → ⊥) → k < link
        apart k b ne = go (cases_lt k link)
          where
            go : (k < link) ⊎ (link ≤ k) → k < link
            go (inl less) = less
            go (inr past) = absurd (ne (omega arith))

    trail' : IsTrail (take (link + 1) offers) (take (link + 1) p) 0 queue tail
    trail' = trail_take offers room p (link + 1) placed.same_length long rest queue tail reached seen front trail closed done

    closed' : AreClosed room (take (link + 1) p) 0 reached seen
    closed' = closed_take offers room p (link + 1) placed.same_length long rest queue tail reached seen front trail closed done

    done' : AreDone (take (link + 1) offers) seen queue 0 tail
    done' = done_take offers room p (link + 1) placed.same_length long rest queue tail reached seen front trail closed done

    placed' : IsPlacement (take (link + 1) offers) room (take (link + 1) p)
    placed' = placement_take (link + 1) offers room p placed

    pub certificate : IsCertificate offers room reached
    certificate = record {
      last = link;
      within = let e = placed.same_length in omega arith;
      before = (take link p, placement_take link offers room p placed, λ k b. let l = length-take link p in ap is_some (get_or-take link p k None (omega arith)) ∙ whole k (omega arith));
      placed = take (link + 1) p;
      is_placed = placed';
      stuck = subst (λ l. IsStuck (take (link + 1) offers) room (take (link + 1) p) reached l) root (stuck_at_root (take (link + 1) offers) room (take (link + 1) p) queue tail reached seen trail' listed closed' done' some root_none);
      spared = spared_all (take (link + 1) offers) room (take (link + 1) p) queue tail reached seen trail' listed closed' done' some root_none placed' but;
      beyond = λ k lt. beyond k lt (is_reached reached k) refl;
    }
      where
        beyond : (k : ℕ) → link < k → (b : Bool) → is_reached reached k ≡ b → is_reached reached k ≡ false
        beyond k lt true e = let w = listed.listed k e in let f = front w.0 w.1 in let g = w.2 in absurd (omega arith)
        beyond k lt false e = e

-- What is reached from a link by levels offers nothing that is ready, where the link doesn't.
module _ (offers : List (List ℕ)) (room : ℕ → ℕ) (p : List (Option ℕ)) (low : ℕ) (ready : List Bool) (all : AreReady offers room p low ready) (link : ℕ) (none : (i : ℕ) → Offers offers link i → is_reached ready i ≡ false) (queue : List ℕ) (tail : ℕ) (trail : IsTrail offers p low queue tail) (rooted : (k : ℕ) → k < tail → place_of p (at queue k) ≡ None → at queue k ≡ link) where
  unready : (n k i : ℕ) → k < n → k < tail → Offers offers (at queue k) i → is_reached ready i ≡ true → ⊥
  unready zero k i b within o r = omega arith
  unready (suc n) k i b within o r = go (unready n) (place_of p (at queue k)) refl
    where
      go : ((k i : ℕ) → k < n → k < tail → Offers offers (at queue k) i → is_reached ready i ≡ true → ⊥) → (x : Option ℕ) → place_of p (at queue k) ≡ x → ⊥
      go before None e = true≢false (sym r ∙ none i (subst (λ l. Offers offers l i) (rooted k within e) o))
      go before (Some x) e =
          let w = trail.linked k x within e in
          let less = w.1 in
          before w.0 x (omega arith) (omega arith) w.2 (all.held (at queue k) i x (trail.movable k within) o r e)

  pub unfound : (pos i : ℕ) → IsFound offers room p queue tail pos i → i < length ready → ⊥
  unfound pos i f b = unready (pos + 1) pos i (omega arith) f.within f.offered (all.rooms i b f.free)

-- what stands where nothing is found
pub nothing : {A : Type 0} {D : Type 0} (F : A → Type 0) (r : Option A) → MatchOption r D F → ((a : A) → F a → ⊥) → D
nothing F None d none = d
nothing F (Some a) f none = absurd (none a f)
