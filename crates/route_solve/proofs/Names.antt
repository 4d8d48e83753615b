-- What holds of places holds of the numbers there.
use Rattle.std.proofs.Common.{◌≡◌, ℕ, ◌+◌, ◌<◌, ◌≤◌, Bool, true, List, [], length, refl, sym, ◌∙◌, ap, subst, arith, Option, Some, None, map, take, inl, inr}
use Rattle.std.specs.Prelude.{◌⊎◌, is_some, IsSome, Contains}
use Rattle.std.specs.List.Sorted.{IsStrictlyIncreasing}
use Rattle.std.proofs.lemmas.Bool.{eq-eqb}
use Rattle.std.proofs.lemmas.List.{length-map, take-map, length-take, get_or-take}
use Rattle.std.proofs.Math.ListN as list_n
use Rattle.route_model.specs.Placement.{is_at, place_of, Offers, taken, IsPlacement, IsWhole, CanPlace, CanPlaceBut, IsStuck}
use Rattle.route_model.proofs.Hall.{counted_somewhere, zero_or_more, is_at_true, count_pointwise}
use Rattle.route_solve.specs.Certificate.{IsCertificate}
use Rattle.route_numbers.specs.Numbers.{number_at}
use Rattle.route_solve.specs.Named.{name_of, named}
use Rattle.route_numbers.proofs.Numbered.{offers_named, offers_unnamed, offers_within, one_place}

pub length-named : (numbers : List ℕ) (p : List (Option ℕ)) → length (named numbers p) ≡ length p
length-named numbers p = length-map p (name_of numbers)

pub place_named : (numbers : List ℕ) (p : List (Option ℕ)) (k : ℕ) → place_of (named numbers p) k ≡ name_of numbers (place_of p k)
place_named numbers p k = list_n.get_or-map (name_of numbers) p k None

name_from : (numbers : List ℕ) (o : Option ℕ) (n : ℕ) → name_of numbers o ≡ Some n → (i : ℕ) × (o ≡ Some i) × (number_at numbers i ≡ n)
name_from numbers None n h = none h
  where
    none : {A : Type 0} → None ≡ Some n → A
    none e = cc
name_from numbers (Some i) n h = (i, refl, some h)
  where
    some : Some (number_at numbers i) ≡ Some n → number_at numbers i ≡ n
    some e = cc

pub some_named : (numbers : List ℕ) (o : Option ℕ) → IsSome o → IsSome (name_of numbers o)
some_named numbers None s = s
some_named numbers (Some i) s = refl

pub unnamed : (numbers : List ℕ) (p : List (Option ℕ)) (k n : ℕ) → place_of (named numbers p) k ≡ Some n → (i : ℕ) × (place_of p k ≡ Some i) × (number_at numbers i ≡ n)
unnamed numbers p k n h = name_from numbers (place_of p k) n (sym (place_named numbers p k) ∙ h)

pub at_is : (n : ℕ) (o : Option ℕ) → o ≡ Some n → is_at n o ≡ true
at_is n o h = ap (is_at n) h ∙ eq-eqb n n refl

pub whole_named : (numbers : List ℕ) (p : List (Option ℕ)) → IsWhole p → IsWhole (named numbers p)
whole_named numbers p whole k b = ap is_some (place_named numbers p k) ∙ some_named numbers (place_of p k) (whole k (let e = length-named numbers p in omega arith))

module _ (numbers : List ℕ) (up : IsStrictlyIncreasing numbers) (offers : List (List ℕ)) (below : (l i : ℕ) → Offers offers l i → i < length numbers) (room room' : ℕ → ℕ) (same : (i : ℕ) → i < length numbers → room i ≡ room' (number_at numbers i)) where
  taken_at : (p : List (Option ℕ)) → IsPlacement offers room p → (i : ℕ) → i < length numbers → taken (named numbers p) (number_at numbers i) ≤ taken p i
  taken_at p placed i b =
      count_pointwise (is_at (number_at numbers i)) (is_at i) None None (named numbers p) p (length-named numbers p)
      (λ k bk h.
      let w = unnamed numbers p k (number_at numbers i) (is_at_true (number_at numbers i) (place_of (named numbers p) k) h) in
      let e = one_place numbers up w.0 i (below k w.0 (placed.offered k w.0 w.1)) b w.2 in
      at_is i (place_of p k) (w.1 ∙ ap (λ j. Some j) e))

  taken_from : (p : List (Option ℕ)) (i : ℕ) → taken p i ≤ taken (named numbers p) (number_at numbers i)
  taken_from p i =
      count_pointwise (is_at i) (is_at (number_at numbers i)) None None p (named numbers p) (sym (length-named numbers p))
      (λ k bk h. at_is (number_at numbers i) (place_of (named numbers p) k) (place_named numbers p k ∙ ap (name_of numbers) (is_at_true i (place_of p k) h)))

  pub placement_named : (p : List (Option ℕ)) → IsPlacement offers room p → IsPlacement (map (map (number_at numbers)) offers) room' (named numbers p)
  placement_named p placed =
      record {
        same_length = length-named numbers p ∙ (placed.same_length ∙ sym (length-map offers (map (number_at numbers))));
        offered = λ k n h. let w = unnamed numbers p k n h in subst (Offers (map (map (number_at numbers)) offers) k) w.2 (offers_named (number_at numbers) offers k w.0 (placed.offered k w.0 w.1));
        within = λ n. go n (zero_or_more (taken (named numbers p) n));
      }
    where
      go : (n : ℕ) → (taken (named numbers p) n ≡ 0) ⊎ (0 < taken (named numbers p) n) → taken (named numbers p) n ≤ room' n
      go n (inl none) = omega arith
      go n (inr more) =
          let c = counted_somewhere (is_at n) None (named numbers p) more in
          let w = unnamed numbers p c.0 n (is_at_true n (place_of (named numbers p) c.0) c.2) in
          let b = below c.0 w.0 (placed.offered c.0 w.0 w.1) in
          let t = taken_at p placed w.0 b in
          let r = placed.within w.0 in
          let s = same w.0 b in
          subst (λ m. taken (named numbers p) m ≤ room' m) w.2 (omega arith)

  pub stuck_named : (p : List (Option ℕ)) (reached : List Bool) (l : ℕ) → IsPlacement offers room p → IsStuck offers room p reached l → IsStuck (map (map (number_at numbers)) offers) room' (named numbers p) reached l
  stuck_named p reached l placed stuck =
      record {
        within_links = let e = length-named numbers p in let f = stuck.within_links in omega arith;
        begins = stuck.begins;
        unplaced = place_named numbers p l ∙ ap (name_of numbers) stuck.unplaced;
        full = λ k n r o.
            let w = offers_unnamed (number_at numbers) offers k n o in
            let b = below k w.0 w.1 in
            let f = stuck.full k w.0 r w.1 in
            let t = taken_from p w.0 in
            let s = same w.0 b in
            subst (λ m. room' m ≤ taken (named numbers p) m) w.2 (omega arith);
        holders = λ k j n r o h.
            let w = offers_unnamed (number_at numbers) offers k n o in
            let v = unnamed numbers p j n h in
            let e = one_place numbers up v.0 w.0 (below j v.0 (placed.offered j v.0 v.1)) (below k w.0 w.1) (v.2 ∙ sym w.2) in
            stuck.holders k j w.0 r w.1 (v.1 ∙ ap (λ i. Some i) e);
      }

  pub but_named : (l : ℕ) → CanPlaceBut offers room l → CanPlaceBut (map (map (number_at numbers)) offers) room' l
  but_named l c = (named numbers c.0, placement_named c.0 c.1, place_named numbers c.0 l ∙ ap (name_of numbers) c.2, λ k b ne. ap is_some (place_named numbers c.0 k) ∙ some_named numbers (place_of c.0 k) (c.3 k (let e = length-named numbers c.0 in omega arith) ne))

  pub can_named : CanPlace offers room → CanPlace (map (map (number_at numbers)) offers) room'
  can_named c = (named numbers c.0, placement_named c.0 c.1, whole_named numbers c.0 c.2)

-- among the first links alone
pub offers_from_take : (m : ℕ) (offers : List (List ℕ)) (l i : ℕ) → Offers (take m offers) l i → Offers offers l i
offers_from_take m offers l i o =
    let b = offers_within (take m offers) l i o in
    let e = length-take m offers in
    subst (λ (xs : List ℕ). Contains xs i) (get_or-take m offers l [] (omega arith)) o

pub cert_named : (numbers : List ℕ) → IsStrictlyIncreasing numbers → (offers : List (List ℕ)) → ((l i : ℕ) → Offers offers l i → i < length numbers) → (room room' : ℕ → ℕ) → ((i : ℕ) → i < length numbers → room i ≡ room' (number_at numbers i)) → (reached : List Bool) → IsCertificate offers room reached → IsCertificate (map (map (number_at numbers)) offers) room' reached
cert_named numbers up offers below room room' same reached cert =
    let f = map (number_at numbers) in
    let m = cert.last + 1 in
    let cut : (k : ℕ) → map f (take k offers) ≡ take k (map f offers) = λ k. sym (take-map f k offers) in
    let below' : (k l i : ℕ) → Offers (take k offers) l i → i < length numbers = λ k l i o. below l i (offers_from_take k offers l i o) in
    record {
      last = cert.last;
      within = let e = length-map offers f in let w = cert.within in omega arith;
      before = subst (λ (os : List (List ℕ)). CanPlace os room') (cut cert.last) (can_named numbers up (take cert.last offers) (below' cert.last) room room' same cert.before);
      placed = named numbers cert.placed;
      is_placed = subst (λ (os : List (List ℕ)). IsPlacement os room' (named numbers cert.placed)) (cut m) (placement_named numbers up (take m offers) (below' m) room room' same cert.placed cert.is_placed);
      stuck = subst (λ (os : List (List ℕ)). IsStuck os room' (named numbers cert.placed) reached cert.last) (cut m) (stuck_named numbers up (take m offers) (below' m) room room' same cert.placed reached cert.last cert.is_placed cert.stuck);
      spared = λ k r. subst (λ (os : List (List ℕ)). CanPlaceBut os room' k) (cut m) (but_named numbers up (take m offers) (below' m) room room' same k (cert.spared k r));
      beyond = cert.beyond;
    }
