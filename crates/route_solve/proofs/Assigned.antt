-- What searches by places say of the interrupts' numbers.
use Rattle.std.proofs.Common.{◌≡◌, ℕ, ◌+◌, ◌-◌, ◌<◌, ◌≤◌, Bool, true, false, cond, List, [], length, refl, sym, ◌∙◌, ap, subst, arith, Option, None, get_or, map, inl, inr}
use Rattle.std.specs.Prelude.{◌⊎◌, AllPairs}
use Rattle.std.specs.List.Sorted.{IsStrictlyIncreasing}
use Rattle.std.proofs.lemmas.List.{get_or_past, length-map}
use Rattle.std.proofs.lemmas.Bool.{cases_lt}
use Rattle.std.proofs.Math.ListN as list_n
use Rattle.route_model.specs.Routing.{wired_to}
use Rattle.route_model.specs.Placement.{Offers, IsPlacement}
use Rattle.route_solve.specs.Room.{room_of}
use Rattle.route_solve.specs.Certificate.{IsCertificate, IsWithinLeast}
use Rattle.route_solve.specs.Capacities.{at, capacity_at}
use Rattle.route_solve.specs.Named.{named}
use Rattle.route_numbers.specs.Numbers.{has, number_at, AreSources, IsNumbered}
use Rattle.route_solve.proofs.Parts.{none_taken}
use Rattle.route_solve.specs.First.{IsLeastAt}
use Rattle.route_solve.proofs.Names.{placement_named, cert_named}
use Rattle.route_model.proofs.Filtered.{any_contains, contains_any}
use Rattle.route_solve.specs.Rows.{AreRows, HasRows}
use Rattle.route_numbers.proofs.Numbered.{offers_named, offers_unnamed, one_place}
use Rattle.route_solve.proofs.Unnamed.{least_named, places_ascend}

module _ (offers : List (List ℕ)) (wired : List (ℕ × ℕ)) (numbers : List ℕ) (places : List (List ℕ)) (sources : List ℕ) (up : IsStrictlyIncreasing numbers) (num : IsNumbered offers numbers places) (src : AreSources numbers wired sources) where
  same_room : (limit i : ℕ) → i < length numbers → capacity_at limit sources i ≡ room_of limit wired [] (number_at numbers i)
  same_room limit i b = let e = src.each i b in let z = none_taken [] (number_at numbers i) (λ k. get_or_past [] k None (omega arith)) in omega arith

  pub placed_by_number : (limit : ℕ) (p : List (Option ℕ)) → IsPlacement places (capacity_at limit sources) p → IsPlacement offers (room_of limit wired []) (named numbers p)
  placed_by_number limit p placed = subst (λ (os : List (List ℕ)). IsPlacement os (room_of limit wired []) (named numbers p)) num.named (placement_named numbers up places num.below (capacity_at limit sources) (room_of limit wired []) (same_room limit) p placed)

  pub within_least_by_number : (floor limit : ℕ) (p : List (Option ℕ)) (reached : List Bool) → IsPlacement places (capacity_at limit sources) p → floor ≤ limit → (limit ≡ floor) ⊎ ((floor < limit) × IsCertificate places (capacity_at (limit - 1) sources) reached) → IsWithinLeast offers wired floor limit (named numbers p) reached
  within_least_by_number floor limit p reached placed above shown = record { placed = placed_by_number limit p placed; above = above; shown = go shown }
    where
      go : (limit ≡ floor) ⊎ ((floor < limit) × IsCertificate places (capacity_at (limit - 1) sources) reached) → (limit ≡ floor) ⊎ ((level : ℕ) × (limit ≡ level + 1) × (floor ≤ level) × IsCertificate offers (room_of level wired []) reached)
      go (inl e) = inl e
      go (inr c) =
          let less = c.0 in
          inr (limit - 1, omega arith, omega arith, subst (λ (os : List (List ℕ)). IsCertificate os (room_of (limit - 1) wired []) reached) num.named (cert_named numbers up places num.below (capacity_at (limit - 1) sources) (room_of (limit - 1) wired []) (same_room (limit - 1)) reached c.1))

  pub sources_below : (floor : ℕ) → ((i : ℕ) → wired_to wired i ≤ floor) → (i : ℕ) → at sources i ≤ floor
  sources_below floor below i = go (cases_lt i (length numbers))
    where
      go : (i < length numbers) ⊎ (length numbers ≤ i) → at sources i ≤ floor
      go (inl b) = let e = src.each i b in let w = below (number_at numbers i) in omega arith
      go (inr past) = let l = src.long in let e = get_or_past sources i 0 (omega arith) in omega arith

  pub places_long : length places ≡ length offers
  places_long = sym (length-map places (map (number_at numbers))) ∙ ap length num.named

  pub places_some : ((l : ℕ) → l < length offers → 0 < length (get_or offers l [])) → (l : ℕ) → l < length places → 0 < length (get_or places l [])
  places_some some l b =
      let s = some l (let e = places_long in omega arith) in
      let at : get_or offers l [] ≡ map (number_at numbers) (get_or places l []) = ap (λ (os : List (List ℕ)). get_or os l []) (sym num.named) ∙ list_n.get_or-map (map (number_at numbers)) places l [] in
      let long = length-map (get_or places l []) (number_at numbers) in
      let e = ap length at in
      omega arith

  pub places_below : (l i : ℕ) → Offers places l i → i < length sources
  places_below l i o = let b = num.below l i o in let e = src.long in omega arith

  pub least_by_number : (limit : ℕ) (p : List (Option ℕ)) → IsPlacement places (capacity_at limit sources) p → (l : ℕ) → IsLeastAt places (capacity_at limit sources) p l → IsLeastAt offers (room_of limit wired []) (named numbers p) l
  least_by_number limit p placed l least = subst (λ (os : List (List ℕ)). IsLeastAt os (room_of limit wired []) (named numbers p) l) num.named (least_named numbers up places num.below (capacity_at limit sources) (room_of limit wired []) (same_room limit) p placed l least)

  pub places_up : (l : ℕ) → IsStrictlyIncreasing (get_or offers l []) → AllPairs (λ m n. m < n) (get_or places l [])
  places_up l ascending = places_ascend numbers up (get_or places l []) (λ i c. num.below l i c) (subst IsStrictlyIncreasing (ap (λ (os : List (List ℕ)). get_or os l []) (sym num.named) ∙ list_n.get_or-map (map (number_at numbers)) places l []) ascending)

  -- the rows by numbers are those by places
  pub rows_by_place : (words : List ℕ) → HasRows offers numbers words → AreRows places (length numbers) words
  rows_by_place words h =
      record {
        long = h.long;
        has = λ l i bl bi o. h.bits l i bl bi ∙ ap (λ b. cond b 1 0) (contains_any (number_at numbers i) (get_or offers l []) (subst (λ (os : List (List ℕ)). Offers os l (number_at numbers i)) num.named (offers_named (number_at numbers) places l i o)));
        only = λ l i bl bi e. go l i bl bi (has (get_or offers l []) (number_at numbers i)) refl (sym (h.bits l i bl bi) ∙ e);
      }
    where
      go : (l i : ℕ) → l < 256 → i < length numbers → (b : Bool) → has (get_or offers l []) (number_at numbers i) ≡ b → ◌≡◌ {A = ℕ} (cond b 1 0) 1 → Offers places l i
      go l i bl bi true e f =
          let o : Offers offers l (number_at numbers i) = any_contains (number_at numbers i) (get_or offers l []) e in
          let w = offers_unnamed (number_at numbers) places l (number_at numbers i) (subst (λ (os : List (List ℕ)). Offers os l (number_at numbers i)) (sym num.named) o) in
          subst (Offers places l) (one_place numbers up w.0 i (num.below l w.0 w.1) bi w.2) w.1
      go l i bl bi false e f = absurd (omega arith)
