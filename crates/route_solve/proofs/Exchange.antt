use Rattle.std.proofs.Common.{◌≡◌, ◌≢◌, ℕ, ◌+◌, ◌<◌, ◌≤◌, Bool, true, false, cond, List, length, refl, sym, ◌∙◌, ap, subst, arith, eqb, Option, Some, None, set, inl, inr, length-set, get_or-set_same, get_or-set_other, replicate}
use Rattle.std.proofs.lemmas.List.{get_or-replicate, length-replicate, get_or_past}
use Rattle.std.specs.Prelude.{◌⊎◌, is_some, IsSome}
use Rattle.std.proofs.lemmas.Bool.{eqb-true, eq-eqb, ne_eqb, cases_eq, cases_lt, false≢true, true≢false}
use Rattle.std.proofs.lemmas.List.Sums.{sum_by-set}
use Rattle.std.specs.Option.{option_eq}
use Rattle.route_model.specs.Placement.{is_at, place_of, is_reached, Offers, taken, IsPlacement}
use Rattle.route_model.proofs.Counting.{one_if}
use Rattle.route_solve.specs.Search.{Spares, Moved}

-- a write changes the count at the number that goes and at the one that comes
pub taken-set : (p : List (Option ℕ)) (l : ℕ) (x : Option ℕ) (n : ℕ) → l < length p → taken (set p l x) n + cond (is_at n (place_of p l)) 1 0 ≡ taken p n + cond (is_at n x) 1 0
taken-set p l x n b = sum_by-set (λ o. cond (is_at n o) 1 0) p l x None b

module _ (offers : List (List ℕ)) (room : ℕ → ℕ) (p : List (Option ℕ)) where
  -- what a write leaves, place by place
  pub place_same : (q : List (Option ℕ)) (l : ℕ) (x : Option ℕ) → l < length q → place_of (set q l x) l ≡ x
  place_same q l x b = get_or-set_same q l x None b

  pub place_other : (q : List (Option ℕ)) (l k : ℕ) (x : Option ℕ) → k ≢ l → place_of (set q l x) k ≡ place_of q k
  place_other q l k x ne = get_or-set_other q l k x None ne

  -- after a write, at any place
  pub place_cases : (P : Option ℕ → Type 0) (q : List (Option ℕ)) (l : ℕ) (x : Option ℕ) (k : ℕ) → l < length q → (k ≡ l → P x) → (k ≢ l → P (place_of q k)) → P (place_of (set q l x) k)
  place_cases P q l x k b f g = go (cases_eq k l)
    where
      go : (k ≡ l) ⊎ (k ≡ l → ⊥) → P (place_of (set q l x) k)
      go (inl e) = subst P (sym (ap (place_of (set q l x)) e ∙ place_same q l x b)) (f e)
      go (inr ne) = subst P (sym (place_other q l k x ne)) (g ne)

  some_is : {m n : ℕ} → Some m ≡ Some n → m ≡ n
  some_is e = cc

  -- A link takes a number that has room.
  pub offered-set : (q : List (Option ℕ)) (l : ℕ) (n : ℕ) → l < length q → Offers offers l n → ((k m : ℕ) → place_of q k ≡ Some m → Offers offers k m) → (k m : ℕ) → place_of (set q l (Some n)) k ≡ Some m → Offers offers k m
  offered-set q l n b here there k m =
      place_cases (λ o. o ≡ Some m → Offers offers k m) q l (Some n) k b
      (λ e s. subst (λ j. Offers offers j m) (sym e) (subst (Offers offers l) (some_is s) here))
      (λ ne s. there k m s)

  pub moved_directly : (reached : List Bool) (l n : ℕ) → l < length p → IsPlacement offers room p → Offers offers l n → taken p n < room n → Moved offers room p (set p l (Some n)) reached l
  moved_directly reached l n b placed offered free =
      record {
        placed = record { same_length = length-set p l (Some n) ∙ placed.same_length; offered = offered-set p l n b offered placed.offered; within = λ m. omega (arith, room_for m) };
        free = room_for;
        has = ap is_some (place_same p l (Some n) b);
        whole = λ k s. place_cases (λ o. IsSome o) p l (Some n) k b (λ e. refl) (λ ne. s);
        kept = λ k r ne. place_other p l k (Some n) ne;
      }
    where
      go : (m : ℕ) → (m ≡ n) ⊎ (m ≡ n → ⊥) → taken p m + cond (is_at m (Some n)) 1 0 ≤ room m
      go m (inl e) = rw e (let one = ap one_if (eq-eqb n n refl) in omega (arith, one))
      go m (inr ne) = let none = ap one_if (ne_eqb n m (λ e. ne (sym e))) in omega (arith, none, placed.within m)

      room_for : (m : ℕ) → taken (set p l (Some n)) m + cond (is_at m (place_of p l)) 1 0 ≤ room m
      room_for m = omega (arith, taken-set p l (Some n) m b, go m (cases_eq m n))

  pub none_is_some : {A : Type 0} → {n : ℕ} → None ≡ Some n → A
  none_is_some e = cc

  -- Link j hands its number to link l, which was left out, and is left out in its place.
  pub spares_step : (reached : List Bool) (l j n : ℕ) → l < length offers → j < length offers → Spares offers room p reached l → is_reached reached l ≡ true → is_reached reached j ≡ false → Offers offers l n → place_of p j ≡ Some n → Spares offers room p reached j
  spares_step reached l j n bl bj s rl rj offered held =
      record {
        others = q;
        placed = record {
          same_length = length-set q1 j None ∙ (length-set s.others l (Some n) ∙ s.placed.same_length);
          offered = λ k m. place_cases (λ o. o ≡ Some m → Offers offers k m) q1 j None k b1 (λ e is. none_is_some is) (λ ne is. offered-set s.others l n b offered s.placed.offered k m is);
          within = λ m. let fits = s.placed.within m in omega (arith, first m, second m);
        };
        left_out = place_same q1 j None b1;
        whole = λ k bk ne. place_cases (λ o. IsSome o) q1 j None k b1 (λ e. absurd (ne e)) (λ _. place_cases (λ o. IsSome o) s.others l (Some n) k b (λ _. refl) (λ nl. s.whole k bk nl));
        kept = λ k f ne. place_other q1 j k None ne ∙ (place_other s.others l k (Some n) (λ e. absurd (true≢false (sym rl ∙ (sym (ap (is_reached reached) e) ∙ f)))) ∙ s.kept k f (λ e. absurd (true≢false (sym rl ∙ (sym (ap (is_reached reached) e) ∙ f)))));
      }
    where
      b : l < length s.others
      b = let e = s.placed.same_length in omega arith

      q1 : List (Option ℕ)
      q1 = set s.others l (Some n)

      b1 : j < length (set s.others l (Some n))
      b1 = let e = length-set s.others l (Some n) in let f = s.placed.same_length in omega arith

      q : List (Option ℕ)
      q = set (set s.others l (Some n)) j None

      apart : j ≢ l
      apart e = true≢false (sym rl ∙ (sym (ap (is_reached reached) e) ∙ rj))

      there : place_of (set s.others l (Some n)) j ≡ Some n
      there = place_other s.others l j (Some n) apart ∙ (s.kept j rj apart ∙ held)

      first : (m : ℕ) → taken (set s.others l (Some n)) m ≡ taken s.others m + one_if (is_at m (Some n))
      first m = let e = taken-set s.others l (Some n) m b in let f = ap (λ o. one_if (is_at m o)) s.left_out in omega arith

      second : (m : ℕ) → taken (set (set s.others l (Some n)) j None) m + one_if (is_at m (Some n)) ≡ taken (set s.others l (Some n)) m
      second m = let e = taken-set (set s.others l (Some n)) j None m b1 in let f = ap (λ o. one_if (is_at m o)) there in omega arith

pub none_reached : (n k : ℕ) → is_reached (replicate n false) k ≡ false
none_reached n k = go (cases_lt k n)
  where
    go : (k < n) ⊎ (n ≤ k) → is_reached (replicate n false) k ≡ false
    go (inl b) = get_or-replicate n k false false b
    go (inr past) = let e = length-replicate n false in get_or_past (replicate n false) k false (omega arith)

-- the program's test of two options
pub same_option : (o : Option ℕ) (n : ℕ) → option_eq eqb o (Some n) ≡ true → o ≡ Some n
same_option None n h = absurd (false≢true h)
same_option (Some m) n h = ap Some (eqb-true m n h)

pub other_option : (o : Option ℕ) (n : ℕ) → option_eq eqb o (Some n) ≡ false → o ≡ Some n → ⊥
other_option o n h e = true≢false (sym (ap (λ x. option_eq eqb x (Some n)) e ∙ eq-eqb n n refl) ∙ h)
