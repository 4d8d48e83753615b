use Rattle.std.proofs.Common.{◌≡◌, ℕ, zero, suc, ◌+◌, ◌<◌, ◌≤◌, Bool, List, [], ◌∷◌, ◌++◌, length, refl, sym, ◌∙◌, ap, subst, arith, Option, Some, None, get_or, take, drop, inl, inr}
use Rattle.std.specs.Prelude.{◌⊎◌, is_some}
use Rattle.std.proofs.lemmas.List.{get_or-take, get_or-drop, length-take, length-take-le, length-drop, length-map, take-map, take_more, drop_more, drop_all}
use Rattle.std.proofs.lemmas.Bool.{cases_lt, cases_order, eq-eqb}
use Rattle.route_model.specs.Routing.{wired_to, busiest, IsAssignment, NotAfter, IsFirstLeast}
use Rattle.route_model.specs.Placement.{taken, IsPlacement, IsWhole, placement_of}
use Rattle.route_model.proofs.Counting.{one_if}
use Rattle.route_model.proofs.Hall.{no_place}
use Rattle.route_model.proofs.Loads.{load-le, busiest-le}
use Rattle.route_model.proofs.Assignments.{given_taken, placement_at, placement_whole, placement_from, assignment_from, length_assignment, assignment_at}
use Rattle.route_solve.specs.Room.{room_of}
use Rattle.route_solve.specs.Certificate.{IsCertificate, IsWithinLeast}
use Rattle.route_solve.specs.First.{Completes, IsLeastAt}
use Rattle.route_solve.specs.Floor.{IsFloor}
use Rattle.route_solve.proofs.Parts.{placement_take, taken-append}
use Rattle.route_solve.proofs.Shifts.{placement_drop}

module _ (offers : List (List ℕ)) (wired : List (ℕ × ℕ)) where
  -- an assignment whose busiest is within a limit is a placement in its rooms
  within_rooms : (limit : ℕ) (b : List ℕ) → IsAssignment offers b → busiest wired b ≤ limit → IsPlacement offers (room_of limit wired []) (placement_of b)
  within_rooms limit b assigned below = placement_from offers (room_of limit wired []) b assigned (λ n. let e = load-le wired b n in omega arith)

  -- with such a certificate each assignment is busier
  above_level : (level : ℕ) (reached : List Bool) → IsCertificate offers (room_of level wired []) reached → (b : List ℕ) → IsAssignment offers b → level < busiest wired b
  above_level level reached cert b assigned = go (cases_lt level (busiest wired b))
    where
      go : (level < busiest wired b) ⊎ (busiest wired b ≤ level) → level < busiest wired b
      go (inl above) = above
      go (inr below) =
          let p = within_rooms level b assigned below in
          let m = cert.last + 1 in
          let front = placement_take m offers (room_of level wired []) (placement_of b) p in
          let whole : IsWhole (take m (placement_of b)) = λ k l.
          let cut = length-take m (placement_of b) in
          ap is_some (get_or-take m (placement_of b) k None (omega arith)) ∙ placement_whole b k (omega arith) in
          absurd (no_place (take m offers) (room_of level wired []) cert.placed reached cert.last cert.stuck (take m (placement_of b), front, whole) cert.is_placed.same_length)

  pub limit-le : (floor limit : ℕ) (p : List (Option ℕ)) (reached : List Bool) → IsFloor wired floor → IsWithinLeast offers wired floor limit p reached → (b : List ℕ) → IsAssignment offers b → limit ≤ busiest wired b
  limit-le floor limit p reached is_floor within_least b assigned = go within_least.shown is_floor
    where
      go : (limit ≡ floor) ⊎ ((level : ℕ) × (limit ≡ level + 1) × (floor ≤ level) × IsCertificate offers (room_of level wired []) reached) → IsFloor wired floor → limit ≤ busiest wired b
      go (inl e) (inl none) = omega arith
      go (inl e) (inr at) = let l = load-le wired b at.0 in let w = at.1 in omega arith
      go (inr c) f = let l = above_level c.0 reached c.3 b assigned in let e = c.1 in omega arith

  module _ (limit : ℕ) (a : List ℕ) (placed : IsPlacement offers (room_of limit wired []) (placement_of a)) where
    pub busiest-le-limit : ((i : ℕ) → wired_to wired i ≤ limit) → busiest wired a ≤ limit
    busiest-le-limit below = busiest-le wired a limit (λ i. let e = given_taken a i in let f = placed.within i in let g = below i in omega arith)

    module _ (least : (l : ℕ) → l < length a → IsLeastAt offers (room_of limit wired []) (placement_of a) l) (b : List ℕ) (assigned : IsAssignment offers b) (below : busiest wired b ≤ limit) where
      same_long : length a ≡ length b
      same_long = let e = placed.same_length in let f = length-map a (λ (n : ℕ). Some n) in let g = length_assignment offers b assigned in omega arith

      -- the number that b has at m would do after the first m of a
      completes : (m : ℕ) → m < length b → take m a ≡ take m b → Completes offers (room_of limit wired []) (take m (placement_of a)) (get_or b m 0)
      completes m bound same =
          let n = get_or b m 0 in
          let q = placement_of b in
          let p = within_rooms limit b assigned below in
          let long = length-map b (λ (k : ℕ). Some k) in
          let more = take_more q m None (omega arith) ∙ ap (λ o. take m q ++ o ∷ []) (placement_at b m bound) in
          let front : take m (placement_of a) ≡ take m q = take-map (λ (k : ℕ). Some k) m a ∙ (ap placement_of same ∙ sym (take-map (λ (k : ℕ). Some k) m b)) in
          let fits = (placement_take (m + 1) offers (room_of limit wired []) q p).within n in
          let count = ap (λ r. taken r n) more ∙ taken-append (take m q) (Some n ∷ []) n in
          let last : taken (Some n ∷ []) n ≡ 1 = ap (λ t. 0 + one_if t) (eq-eqb n n refl) in
          let rest = placement_drop (m + 1) offers (room_of limit wired []) q p in
          let cut = length-take-le m q (omega arith) in
          rw front (record {
            free = omega arith;
            others = rw (cut, ← more) (drop (m + 1) q, rest, λ k l. let d = length-drop (m + 1) q in ap is_some (get_or-drop (m + 1) q k None) ∙ placement_whole b ((m + 1) + k) (omega arith));
          })

      not_after_from : (d m : ℕ) → m + d ≡ length a → take m a ≡ take m b → NotAfter (drop m a) (drop m b)
      not_after_from zero m e same = rw (drop_all m a (omega arith)) tt
      not_after_from (suc d) m e same = rw (drop_more a m 0 (omega arith), drop_more b m 0 (let l = same_long in omega arith)) (go (cases_order (get_or a m 0) (get_or b m 0)) (not_after_from d (m + 1) (omega arith)))
        where
          bb : m < length b
          bb = let l = same_long in omega arith

          go : (get_or a m 0 ≡ get_or b m 0) ⊎ ((get_or a m 0 < get_or b m 0) ⊎ (get_or b m 0 < get_or a m 0)) → (take (m + 1) a ≡ take (m + 1) b → NotAfter (drop (m + 1) a) (drop (m + 1) b)) → (get_or a m 0 < get_or b m 0) ⊎ ((get_or a m 0 ≡ get_or b m 0) × NotAfter (drop (m + 1) a) (drop (m + 1) b))
          go (inl x) rest = inr (x, rest (take_more a m 0 (omega arith) ∙ (ap (λ (xs : List ℕ). xs ++ get_or a m 0 ∷ []) same ∙ (ap (λ k. take m b ++ k ∷ []) x ∙ sym (take_more b m 0 bb)))))
          go (inr (inl l)) rest = inl l
          go (inr (inr g)) rest = absurd (least m (omega arith) (get_or a m 0) (get_or b m 0) (placement_at a m (omega arith)) (assignment_at offers b m assigned bb) g (completes m bb same))

      pub not_after : NotAfter a b
      not_after = not_after_from (length a) 0 (omega arith) refl

  -- the theorem, over lists
  pub first_least : (floor limit : ℕ) (p : List (Option ℕ)) (a : List ℕ) (old : List (Option ℕ)) (reached : List Bool) → IsFloor wired floor → ((i : ℕ) → wired_to wired i ≤ floor) → IsWithinLeast offers wired floor limit old reached → placement_of a ≡ p → IsPlacement offers (room_of limit wired []) p → ((l : ℕ) → l < length offers → IsLeastAt offers (room_of limit wired []) p l) → IsFirstLeast offers wired a × (busiest wired a ≡ limit)
  first_least floor limit p a old reached is_floor above within_least same placed' least' =
      let placed = subst (IsPlacement offers (room_of limit wired [])) (sym same) placed' in
      let assigned = assignment_from offers (room_of limit wired []) a placed in
      let upper = busiest-le-limit limit a placed (λ i. let f = above i in let g = within_least.above in omega arith) in
      let lower = limit-le floor limit old reached is_floor within_least in
      let at_a = lower a assigned in
      let long = length_assignment offers a assigned in
      let least : (l : ℕ) → l < length a → IsLeastAt offers (room_of limit wired []) (placement_of a) l = λ l b. rw same (least' l (omega arith)) in (
        record {
          is_least = record { offered = assigned; least = λ b h. let f = lower b h in omega arith };
          first = λ b h. not_after limit a placed least b h.offered (let f = h.least a assigned in omega arith);
        },
        omega arith,
      )
