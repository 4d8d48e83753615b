use Rattle.std.proofs.Common.{◌≡◌, ℕ, zero, suc, ◌+◌, ◌<◌, ◌≤◌, List, [], ◌∷◌, length, refl, sym, ◌∙◌, ap, subst, arith, get_or, inl, inr, Option, Some, None}
use Rattle.std.specs.Prelude.{◌⊎◌, ◌==◌, Contains, is_some}
use Rattle.std.specs.List.{AllZip}
use Rattle.std.proofs.lemmas.Bool.{cases_lt}
use Rattle.std.proofs.lemmas.List.{get_or-map, length-map, get_or_past}
use Rattle.route_model.specs.Routing.{given, IsAssignment}
use Rattle.route_model.specs.Placement.{is_at, place_of, Offers, taken, IsPlacement, IsWhole, placement_of}
use Rattle.route_model.proofs.Counting.{one_if, count_cons}

pub length_assignment : (offers : List (List ℕ)) (a : List ℕ) → IsAssignment offers a → length offers ≡ length a
length_assignment [] [] h = refl
length_assignment [] (x ∷ xs) h = absurd h
length_assignment (o ∷ os) [] h = absurd h
length_assignment (o ∷ os) (x ∷ xs) h = ap suc (length_assignment os xs h.1)

pub assignment_at : (offers : List (List ℕ)) (a : List ℕ) (k : ℕ) → IsAssignment offers a → k < length a → Offers offers k (get_or a k 0)
assignment_at [] [] k h b = absurd (omega arith)
assignment_at [] (x ∷ xs) k h b = absurd h
assignment_at (o ∷ os) [] k h b = absurd h
assignment_at (o ∷ os) (x ∷ xs) zero h b = h.0
assignment_at (o ∷ os) (x ∷ xs) (suc k) h b = assignment_at os xs k h.1 (omega arith)

pub given_taken : (a : List ℕ) (n : ℕ) → taken (placement_of a) n ≡ given a n
given_taken [] n = refl
given_taken (x ∷ xs) n =
    count_cons (is_at n) (Some x) (placement_of xs) ∙ (ap (λ k. one_if (x == n) + k) (given_taken xs n) ∙ sym (count_cons (λ m. m == n) x xs))

pub placement_at : (a : List ℕ) (k : ℕ) → k < length a → place_of (placement_of a) k ≡ Some (get_or a k 0)
placement_at a k b = get_or-map (λ n. Some n) a k 0 None b

pub placement_whole : (a : List ℕ) → IsWhole (placement_of a)
placement_whole a k b = let l = length-map a (λ (n : ℕ). Some n) in ap is_some (placement_at a k (omega arith))

some_is : {m n : ℕ} → Some m ≡ Some n → m ≡ n
some_is e = cc

no_some : {A : Type 0} → {n : ℕ} (o : Option ℕ) → o ≡ None → o ≡ Some n → A
no_some o e f = cc

pub placement_from : (offers : List (List ℕ)) (room : ℕ → ℕ) (a : List ℕ) → IsAssignment offers a → ((n : ℕ) → given a n ≤ room n) → IsPlacement offers room (placement_of a)
placement_from offers room a h within =
    record {
      same_length = length-map a (λ (n : ℕ). Some n) ∙ sym (length_assignment offers a h);
      offered = λ k n e. go k n e (cases_lt k (length a));
      within = λ n. let e = given_taken a n in let f = within n in omega arith;
    }
  where
    long : length offers ≡ length a
    long = length_assignment offers a h

    go : (k n : ℕ) → place_of (placement_of a) k ≡ Some n → (k < length a) ⊎ (length a ≤ k) → Offers offers k n
    go k n e (inl b) =
        let is : get_or a k 0 ≡ n = some_is (sym (placement_at a k b) ∙ e) in
        subst (Contains (get_or offers k [])) is (assignment_at offers a k h b)
    go k n e (inr past) = let l = length-map a (λ (n : ℕ). Some n) in no_some (place_of (placement_of a) k) (get_or_past (placement_of a) k None (omega arith)) e

pub all_zip_from : (offers : List (List ℕ)) (a : List ℕ) → length a ≡ length offers → ((k : ℕ) → k < length a → Contains (get_or offers k []) (get_or a k 0)) → AllZip Contains offers a
all_zip_from [] [] l h = tt
all_zip_from [] (x ∷ xs) l h = absurd (omega arith)
all_zip_from (o ∷ os) [] l h = absurd (omega arith)
all_zip_from (o ∷ os) (x ∷ xs) l h = (h 0 (omega arith), all_zip_from os xs (omega arith) (λ k b. h (suc k) (omega arith)))

pub assignment_from : (offers : List (List ℕ)) (room : ℕ → ℕ) (a : List ℕ) → IsPlacement offers room (placement_of a) → IsAssignment offers a
assignment_from offers room a h =
    let l = length-map a (λ (n : ℕ). Some n) in
    let m = h.same_length in
    all_zip_from offers a (omega arith) (λ k b. h.offered k (get_or a k 0) (placement_at a k b))
