-- What holds of places holds of the interrupts there.
use Rattle.std.proofs.Common.{◌≡◌, ◌≢◌, ℕ, zero, suc, ◌-◌, ◌<◌, ◌≤◌, Bool, true, false, cond, List, [], ◌∷◌, length, map, refl, sym, ◌∙◌, ap, subst, arith, get_or, inl, inr}
use Rattle.std.specs.Prelude.{◌⊎◌, ◌==◌, ◌↔◌, IsTrue, not, sum_by}
use Rattle.std.specs.List.Sorted.{IsStrictlyIncreasing}
use Rattle.std.proofs.lemmas.Bool.{false≢true, cases_eq, eqb-true, eq-eqb, ne_eqb}
use Rattle.std.proofs.lemmas.List.{length-map, get_or-map}
use Rattle.std.proofs.lemmas.List.Sums.{sum_by-cons}
use Rattle.route_model.specs.Routing.{given, load, IsAssignment}
use Rattle.route_model.specs.Placement.{Offers}
use Rattle.route_model.proofs.Counting.{one_if, count_cons}
use Rattle.route_model.proofs.Hall.{counted_somewhere, zero_or_more}
use Rattle.route_model.proofs.Assignments.{assignment_at, all_zip_from}
use Rattle.route_numbers.specs.Numbers.{number_at, IsNumbered}
use Rattle.route_spread.specs.Marks.{at, is_raised, height_at, ArePlaced, AreKept, AreLevelled, HasLess, IsSameOrLess, IsShifted}
use Rattle.route_spread.specs.Sharing.{excess, height, HasOffered, IsLeastShared}
use Rattle.route_spread.specs.Assignments.{IsSharing}
use Rattle.route_numbers.proofs.Numbered.{offers_named, offers_unnamed, one_place}
use Rattle.route_spread.proofs.Levels.{levelled_least}

-- no number stands at two places
abbrev Apart : List ℕ → Type 0
Apart numbers = (i j : ℕ) → i < length numbers → j < length numbers → at numbers i ≡ at numbers j → i ≡ j

apart_rest : (n : ℕ) (ns : List ℕ) → Apart (n ∷ ns) → Apart ns
apart_rest n ns apart i j bi bj e = let h = apart (suc i) (suc j) (omega arith) (omega arith) e in omega arith

-- each number of a list stands there once
stands_once : (numbers : List ℕ) → Apart numbers → (i : ℕ) → i < length numbers → given numbers (at numbers i) ≡ 1
stands_once [] apart i b = absurd (omega arith)
stands_once (n ∷ ns) apart zero b =
    let c = count_cons (λ m. m == n) n ns in
    let yes = ap one_if (eq-eqb n n refl) in
    let rest = none (zero_or_more (given ns n)) in
    omega arith
  where
    none : (given ns n ≡ 0) ⊎ (0 < given ns n) → given ns n ≡ 0
    none (inl e) = e
    none (inr more) =
        let w = counted_somewhere (λ m. m == n) 0 ns more in
        let is = apart 0 (suc w.0) (omega arith) (let b = w.1 in omega arith) (sym (eqb-true (get_or ns w.0 0) n w.2)) in
        absurd (omega arith)
stands_once (n ∷ ns) apart (suc i) b =
    let c = count_cons (λ m. m == at ns i) n ns in
    let no = ap one_if (ne_eqb n (at ns i) (λ e. let h = apart 0 (suc i) (omega arith) b e in absurd (omega arith))) in
    let ih = stands_once ns (apart_rest n ns apart) i (omega arith) in
    omega arith

-- the mark of an interrupt
abbrev raised_in : List ℕ → List Bool → ℕ → Bool
raised_in [] rs n = false
raised_in (m ∷ ms) [] n = false
raised_in (m ∷ ms) (r ∷ rs) n = cond (m == n) r (raised_in ms rs n)

raised_at : (numbers : List ℕ) (raised : List Bool) → Apart numbers → (i : ℕ) → i < length numbers → raised_in numbers raised (at numbers i) ≡ is_raised raised i
raised_at [] rs apart i b = absurd (omega arith)
raised_at (m ∷ ms) [] apart zero b = refl
raised_at (m ∷ ms) [] apart (suc i) b = refl
raised_at (m ∷ ms) (r ∷ rs) apart zero b = ap (λ c. cond c r (raised_in ms rs m)) (eq-eqb m m refl)
raised_at (m ∷ ms) (r ∷ rs) apart (suc i) b =
    let no = ne_eqb m (at ms i) (λ e. let h = apart 0 (suc i) (omega arith) b e in absurd (omega arith)) in
    ap (λ c. cond c r (raised_in ms rs (at ms i))) no ∙ raised_at ms rs (apart_rest m ms apart) i (omega arith)

-- as many links have an interrupt by its number as by its place
given_named : (numbers : List ℕ) → Apart numbers → (choice : List ℕ) → ((k : ℕ) → k < length choice → at choice k < length numbers) → (i : ℕ) → i < length numbers → given (map (number_at numbers) choice) (number_at numbers i) ≡ given choice i
given_named numbers apart [] known i b = refl
given_named numbers apart (x ∷ xs) known i b =
    let c = count_cons (λ m. m == number_at numbers i) (number_at numbers x) (map (number_at numbers) xs) in
    let d = count_cons (λ m. m == i) x xs in
    let s = same (cases_eq x i) in
    let ih = given_named numbers apart xs (λ k bk. known (suc k) (omega arith)) i b in
    omega arith
  where
    same : (x ≡ i) ⊎ (x ≢ i) → one_if (number_at numbers x == number_at numbers i) ≡ one_if (x == i)
    same (inl e) = ap one_if (eq-eqb (number_at numbers x) (number_at numbers i) (ap (number_at numbers) e) ∙ sym (eq-eqb x i e))
    same (inr ne) = ap one_if (ne_eqb (number_at numbers x) (number_at numbers i) (λ e. ne (apart x i (known 0 (omega arith)) b e)) ∙ sym (ne_eqb x i ne))

sum_same : (f g : ℕ → ℕ) (xs ys : List ℕ) → length xs ≡ length ys → ((i : ℕ) → i < length xs → f (at xs i) ≡ g (at ys i)) → sum_by f xs ≡ sum_by g ys
sum_same f g [] [] l h = refl
sum_same f g [] (y ∷ ys) l h = absurd (omega arith)
sum_same f g (x ∷ xs) [] l h = absurd (omega arith)
sum_same f g (x ∷ xs) (y ∷ ys) l h =
    let a = sum_by-cons f x xs in
    let b = sum_by-cons g y ys in
    let e = h 0 (omega arith) in
    let ih = sum_same f g xs ys (omega arith) (λ i bi. h (suc i) (omega arith)) in
    omega arith

module _ (offers : List (List ℕ)) (wired : List (ℕ × ℕ)) (a numbers : List ℕ) (places : List (List ℕ)) (choice loads : List ℕ) (sharing : IsSharing offers wired a numbers places choice loads) where
  apart : Apart numbers
  apart = one_place numbers sharing.up

  known : (k : ℕ) → k < length choice → at choice k < length numbers
  known k b = sharing.numbered.below k (at choice k) (sharing.placed k b)

  long : length a ≡ length choice
  long = let m = length-map choice (number_at numbers) in let e = ap length sharing.named in omega arith

  has : (k : ℕ) → k < length choice → at a k ≡ number_at numbers (at choice k)
  has k b = ap (λ (xs : List ℕ). at xs k) (sym sharing.named) ∙ get_or-map (number_at numbers) choice k 0 0 b

  is_assigned : IsAssignment offers a
  is_assigned =
      all_zip_from offers a (let m = length-map places (map (number_at numbers)) in let e = ap length sharing.numbered.named in let f = sharing.many in let g = long in omega arith)
      (λ k b.
      let bk : k < length choice = let g = long in omega arith in
      let o = offers_named (number_at numbers) places k (at choice k) (sharing.placed k bk) in
      subst (λ (os : List (List ℕ)). Offers os k (at a k)) sharing.numbered.named (subst (λ (n : ℕ). Offers (map (map (number_at numbers)) places) k n) (sym (has k bk)) o))

  load_at : (i : ℕ) → i < length numbers → load wired a (number_at numbers i) ≡ at loads i
  load_at i b =
      let g = given_named numbers apart choice known i b in
      let e = ap (λ (xs : List ℕ). given xs (number_at numbers i)) sharing.named in
      let l = sharing.loaded i b in
      omega arith

  has_offered : HasOffered offers numbers
  has_offered l n o =
      let w = offers_unnamed (number_at numbers) places l n (subst (λ (os : List (List ℕ)). Offers os l n) (sym sharing.numbered.named) o) in
      subst (λ (m : ℕ). given numbers m ≡ 1) w.2 (stands_once numbers apart w.0 (sharing.numbered.below l w.0 w.1))

  excess_at : (k : ℕ) → excess wired numbers a k ≡ sum_by (λ x. x - k) loads
  excess_at k = sum_same (λ n. load wired a n - k) (λ x. x - k) numbers loads (sym sharing.long) (λ i b. ap (λ x. x - k) (load_at i b))

  -- no link offers an interrupt that is lower
  pub levelled_shared : (raised : List Bool) → AreLevelled places choice loads raised → IsLeastShared offers wired a
  levelled_shared raised levelled = levelled_least offers wired (raised_in numbers raised) a (record { offered = is_assigned; not_lower = not_lower })
    where
      height_is : (i : ℕ) → i < length numbers → height wired (raised_in numbers raised) a (number_at numbers i) ≡ height_at loads raised i
      height_is i b =
          let l = load_at i b in
          let r = ap one_if (raised_at numbers raised apart i b) in
          omega arith

      not_lower : (l n : ℕ) → l < length a → Offers offers l n → height wired (raised_in numbers raised) a (get_or a l 0) ≤ height wired (raised_in numbers raised) a n
      not_lower l n b o =
          let w = offers_unnamed (number_at numbers) places l n (subst (λ (os : List (List ℕ)). Offers os l n) (sym sharing.numbered.named) o) in
          let bl : l < length choice = let g = long in omega arith in
          let low = levelled l w.0 bl w.1 in
          let e = height_is (at choice l) (known l bl) in
          let f = height_is w.0 (sharing.numbered.below l w.0 w.1) in
          let g = ap (height wired (raised_in numbers raised) a) (has l bl) in
          let h = ap (height wired (raised_in numbers raised) a) w.2 in
          omega arith

  -- links were moved
  pub moved_sharing : (choice' loads' : List ℕ) → length choice' ≡ length choice → length loads' ≡ length loads → ArePlaced places choice' → AreKept choice choice' loads loads' → IsSharing offers wired (map (number_at numbers) choice') numbers places choice' loads'
  moved_sharing choice' loads' lc ll placed kept = record {
    up = sharing.up;
    numbered = sharing.numbered;
    named = refl;
    many = lc ∙ sharing.many;
    placed = placed;
    long = ll ∙ sharing.long;
    loaded = λ x b. let l = sharing.loaded x b in let k = kept x (let e = sharing.long in omega arith) in omega arith;
  }

-- links were moved until no link offers an interrupt that is lower
pub levelled_named : (offers : List (List ℕ)) (wired : List (ℕ × ℕ)) (a numbers : List ℕ) (places : List (List ℕ)) (choice loads choice' loads' : List ℕ) (raised : List Bool) → IsSharing offers wired a numbers places choice loads → length choice' ≡ length choice → length loads' ≡ length loads → ArePlaced places choice' → AreKept choice choice' loads loads' → AreLevelled places choice' loads' raised → IsLeastShared offers wired (map (number_at numbers) choice')
levelled_named offers wired a numbers places choice loads choice' loads' raised sharing lc ll placed kept levelled = levelled_shared offers wired (map (number_at numbers) choice') numbers places choice' loads' (moved_sharing offers wired a numbers places choice loads sharing choice' loads' lc ll placed kept) raised levelled

-- an assignment with less uneven loads shows that links don't share as little as they can
pub less_not_least : (offers : List (List ℕ)) (wired : List (ℕ × ℕ)) (a numbers : List ℕ) (places : List (List ℕ)) (choice loads choice' loads' : List ℕ) → IsSharing offers wired a numbers places choice loads → length choice' ≡ length choice → length loads' ≡ length loads → ArePlaced places choice' → AreKept choice choice' loads loads' → HasLess loads loads' → IsLeastShared offers wired a → ⊥
less_not_least offers wired a numbers places choice loads choice' loads' sharing lc ll placed kept has_less least =
    let moved = moved_sharing offers wired a numbers places choice loads sharing choice' loads' lc ll placed kept in
    let less = has_less.less in
    let ea = excess_at offers wired a numbers places choice loads sharing has_less.above in
    let eb = excess_at offers wired (map (number_at numbers) choice') numbers places choice' loads' moved has_less.above in
    let le = least.least numbers (map (number_at numbers) choice') has_less.above (has_offered offers wired a numbers places choice loads sharing) (is_assigned offers wired (map (number_at numbers) choice') numbers places choice' loads' moved) in
    absurd (omega arith)

-- so what is shared as little as it can be stays as it is
pub least_stays : (offers : List (List ℕ)) (wired : List (ℕ × ℕ)) (a numbers : List ℕ) (places : List (List ℕ)) (choice loads choice' loads' : List ℕ) → IsSharing offers wired a numbers places choice loads → length choice' ≡ length choice → length loads' ≡ length loads → ArePlaced places choice' → AreKept choice choice' loads loads' → IsSameOrLess choice choice' loads loads' → IsLeastShared offers wired a → map (number_at numbers) choice' ≡ a
least_stays offers wired a numbers places choice loads choice' loads' sharing lc ll placed kept (inl same) least = ap (map (number_at numbers)) same.0 ∙ sharing.named
least_stays offers wired a numbers places choice loads choice' loads' sharing lc ll placed kept (inr more) least = absurd (less_not_least offers wired a numbers places choice loads choice' loads' sharing lc ll placed kept more least)

-- the places of an assignment's interrupts are those that links offer
pub placed_all : (offers : List (List ℕ)) (numbers : List ℕ) (places : List (List ℕ)) (a choice : List ℕ) → IsStrictlyIncreasing numbers → IsNumbered offers numbers places → map (number_at numbers) choice ≡ a → ((k : ℕ) → k < length choice → at choice k < length numbers) → IsAssignment offers a → ArePlaced places choice
placed_all offers numbers places a choice up numbered named below assigned k b =
    let m = length-map choice (number_at numbers) in
    let e = ap length named in
    let o = assignment_at offers a k assigned (omega arith) in
    let w = offers_unnamed (number_at numbers) places k (at a k) (subst (λ (os : List (List ℕ)). Offers os k (at a k)) (sym numbered.named) o) in
    let is : at a k ≡ number_at numbers (at choice k) = ap (λ (xs : List ℕ). at xs k) (sym named) ∙ get_or-map (number_at numbers) choice k 0 0 b in
    let same = one_place numbers up w.0 (at choice k) (numbered.below k w.0 w.1) (below k b) (w.2 ∙ is) in
    subst (λ (i : ℕ). Offers places k i) same w.1

-- what links offer is known by its place
pub offered_known : (offers : List (List ℕ)) (wired : List (ℕ × ℕ)) (a numbers : List ℕ) (places : List (List ℕ)) (choice loads : List ℕ) → IsSharing offers wired a numbers places choice loads → (l i : ℕ) → Offers places l i → i < length loads
offered_known offers wired a numbers places choice loads sharing l i o = let b = sharing.numbered.below l i o in let e = sharing.long in omega arith

-- links share as little as they can exactly where none was moved
pub none_moved : (offers : List (List ℕ)) (wired : List (ℕ × ℕ)) (a numbers : List ℕ) (places : List (List ℕ)) (choice loads choice' loads' : List ℕ) (raised : List Bool) → IsSharing offers wired a numbers places choice loads → length choice' ≡ length choice → length loads' ≡ length loads → (moved : Bool) → (moved ≡ true → IsShifted places choice choice' loads loads') → (moved ≡ false → (choice' ≡ choice) × (loads' ≡ loads) × AreLevelled places choice loads raised) → IsTrue (not moved) ↔ IsLeastShared offers wired a
none_moved offers wired a numbers places choice loads choice' loads' raised sharing lc ll true went stayed = (λ e. absurd (false≢true e), λ l. absurd (let s = went refl in less_not_least offers wired a numbers places choice loads choice' loads' sharing lc ll s.placed s.kept s.some_less l))
none_moved offers wired a numbers places choice loads choice' loads' raised sharing lc ll false went stayed = (λ e. levelled_shared offers wired a numbers places choice loads sharing raised (stayed refl).2, λ l. refl)
