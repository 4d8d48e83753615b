-- A search whose links are all among the first ones is one among the first links alone.
use Rattle.std.proofs.Common.{◌≡◌, ℕ, ◌+◌, ◌<◌, ◌≤◌, Bool, List, [], length, sym, ◌∙◌, subst, arith, Option, None, take, drop}
use Rattle.std.specs.Prelude.{Contains}
use Rattle.std.proofs.lemmas.List.{length-take, get_or-take, get_or-drop}
use Rattle.std.proofs.lemmas.List.Sums.{sum_by-take-drop}
use Rattle.std.proofs.Common.{cond}
use Rattle.route_model.specs.Placement.{is_at, place_of, Offers, taken}
use Rattle.route_solve.specs.Capacities.{at}
use Rattle.route_solve.specs.Levels.{IsTrail, AreClosed, AreDone}
use Rattle.route_solve.proofs.Parts.{none_taken, place-take}
use Rattle.route_numbers.proofs.Numbered.{offers_within}

module _ (offers : List (List ℕ)) (room : ℕ → ℕ) (p : List (Option ℕ)) (m : ℕ) (long : length p ≡ length offers) (within : m ≤ length offers) (rest : (k : ℕ) → m ≤ k → place_of p k ≡ None) where
  pub offers_to : (l n : ℕ) → l < m → Offers offers l n → Offers (take m offers) l n
  offers_to l n b o = subst (λ (xs : List ℕ). Contains xs n) (sym (get_or-take m offers l [] b)) o

  pub offers_back : (l n : ℕ) → Offers (take m offers) l n → Offers offers l n
  offers_back l n o =
      let b = offers_within (take m offers) l n o in
      let e = length-take m offers in
      subst (λ (xs : List ℕ). Contains xs n) (get_or-take m offers l [] (omega arith)) o

  taken_to : (n : ℕ) → taken (take m p) n ≡ taken p n
  taken_to n =
      let parts = sum_by-take-drop (λ o. cond (is_at n o) 1 0) p m in
      let none = none_taken (drop m p) n (λ k. get_or-drop m p k None ∙ rest (m + k) (omega arith)) in
      omega arith

  module _ (queue : List ℕ) (tail : ℕ) (reached seen : List Bool) (front : (k : ℕ) → k < tail → at queue k < m) (trail : IsTrail offers p 0 queue tail) (closed : AreClosed room p 0 reached seen) (done : AreDone offers seen queue 0 tail) where
    pub trail_take : IsTrail (take m offers) (take m p) 0 queue tail
    trail_take = record {
      known = λ k b. let e = length-take m p in let f = front k b in omega arith;
      movable = λ k b. omega arith;
      once = trail.once;
      linked = λ k i b h.
          let w = trail.linked k i b (place-take m p (at queue k) i h).1 in
          let less = w.1 in
          (w.0, less, offers_to (at queue w.0) i (front w.0 (omega arith)) w.2);
    }

    pub closed_take : AreClosed room (take m p) 0 reached seen
    closed_take i s = let c = closed i s in record { full = let f = c.full in let t = taken_to i in omega arith; holders = λ j le h. c.holders j le (place-take m p j i h).1 }

    pub done_take : AreDone (take m offers) seen queue 0 tail
    done_take k i le b o = done k i le b (offers_back (at queue k) i o)
