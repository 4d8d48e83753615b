-- What a change of one page does to the map that pages are.
use Rattle.std.proofs.Common.{◌≡◌, ℕ, zero, suc, ◌+◌, ◌*◌, ◌/◌, ◌%◌, ◌-◌, ◌<◌, ◌≤◌, Bool, true, false, cond, List, [], ◌∷◌, length, ◌⊎◌, inl, inr, Option, Some, None, refl, ap, sym, ◌∙◌, subst, arith, length-append}
use Rattle.std.specs.Prelude.{slice_index, option_and_then, is_some, ◌++◌, ◌^◌}
use Rattle.std.specs.Option.{option_map}
use Rattle.std.proofs.lemmas.Bool.{cases_eq, cases_lt}
use Rattle.std.proofs.Math.Nat.{pow-succ', mul_assoc}
use Rattle.std.specs.FinMap.{FinMap, get, insert, same_map, nat_cmp-IsAntisymmetric}
use Rattle.std.specs.Ordering.{nat_cmp}
use Rattle.std.specs.Cmp.{nat_cmp_total}
use Rattle.std.specs.BTreeMap.{is_at}
use Rattle.std.specs.Map.{lookup}
use Rattle.ar_space.specs.declared.page.Page.{Page}
use Rattle.ar_space.specs.Pages.{cell, map_of_pages}
use Rattle.ar_space.specs.Runs.{with_bytes, number_from}
use Rattle.ar_space.proofs.Cells.{here, apart, get_page, bytes_at, bytes_beside}

-- what the page of an address has, or a page that isn't there
abbrev pub old_cell : List (ℕ × Page) → ℕ → ℕ → Option ℕ
old_cell entries k i = option_and_then (λ page. cell page i) (lookup (is_at (nat_cmp k)) entries)

-- the page has the bytes, and otherwise what it had
pub record PutInPage (old : ℕ → Option ℕ) (page : Page) (at : ℕ) (bytes : List ℕ) : Type 0 where
  pub put : (n : ℕ) → n < length bytes → cell page (at + n) ≡ Some (slice_index bytes n)
  pub below : (i : ℕ) → i < at → cell page i ≡ old i
  pub above : (i : ℕ) → at + length bytes ≤ i → cell page i ≡ old i

-- the place of an address, from that of another one of the page
same_page : (q address : ℕ) → q / 64 ≡ address / 64 → q + address % 64 ≡ address + q % 64
same_page q address e = omega (arith, e)

module _ (entries after : List (ℕ × Page)) (address : ℕ) (bytes : List ℕ) (page : Page) (room : address % 64 + length bytes ≤ 64)
    (updated : (k : ℕ) → lookup (is_at (nat_cmp k)) after ≡ cond (is_at (nat_cmp (address / 64)) k) (Some page) (lookup (is_at (nat_cmp k)) entries))
    (put : PutInPage (old_cell entries (address / 64)) page (address % 64) bytes) where
  abbrev target : FinMap nat_cmp ℕ
  target = with_bytes (map_of_pages entries) address bytes

  in_page : (q : ℕ) → q / 64 ≡ address / 64 → cell page (q % 64) ≡ get target q
  in_page q e = elim (cases_lt q address) [
    | inl low ↦ put.below (q % 64) (omega (arith, low, same_page q address e)) ∙ ap (λ k. old_cell entries k (q % 64)) (sym e) ∙ sym (get_page entries q) ∙ sym (bytes_beside (map_of_pages entries) address bytes q (inl low))
    | inr from ↦ elim (cases_lt q (address + length bytes)) [
      | inl within ↦
          ap (cell page) (omega (arith, from, same_page q address e)) ∙ put.put (q - address) (omega (arith, from, within))
          ∙ sym (bytes_at (map_of_pages entries) address bytes (q - address) (omega (arith, from, within))) ∙ ap (get target) (omega (arith, from))
      | inr high ↦ put.above (q % 64) (omega (arith, high, same_page q address e)) ∙ ap (λ k. old_cell entries k (q % 64)) (sym e) ∙ sym (get_page entries q) ∙ sym (bytes_beside (map_of_pages entries) address bytes q (inr high))
    ]
  ]

  beside : (q : ℕ) → (q / 64 ≡ address / 64 → ⊥) → (q < address) ⊎ (address + length bytes ≤ q)
  beside q ne = elim (cases_lt q address) [
    | inl low ↦ inl low
    | inr from ↦ elim (cases_lt q (address + length bytes)) [
      | inl within ↦ absurd (ne (omega (arith, from, within, room)))
      | inr high ↦ inr high
    ]
  ]

  each_address : (q : ℕ) → get (map_of_pages after) q ≡ get target q
  each_address q = get_page after q ∙ ap (option_and_then (λ page. cell page (q % 64))) (updated (q / 64)) ∙ elim (cases_eq (address / 64) (q / 64)) [
    | inl e ↦ ap (λ b. option_and_then (λ page. cell page (q % 64)) (cond b (Some page) (lookup (is_at (nat_cmp (q / 64))) entries))) (ap (is_at (nat_cmp (address / 64))) (sym e) ∙ here (address / 64)) ∙ in_page q (sym e)
    | inr ne ↦ ap (λ b. option_and_then (λ page. cell page (q % 64)) (cond b (Some page) (lookup (is_at (nat_cmp (q / 64))) entries))) (apart (address / 64) (q / 64) ne)
        ∙ sym (get_page entries q) ∙ sym (bytes_beside (map_of_pages entries) address bytes q (beside q (λ e. ne (sym e))))
  ]

  pub page_put : map_of_pages after ≡ target
  page_put = same_map nat_cmp_total nat_cmp-IsAntisymmetric (map_of_pages after) target each_address

-- a page that is there
pub put_in_old : (entries : List (ℕ × Page)) (k at : ℕ) (bytes : List ℕ) (old page : Page) → lookup (is_at (nat_cmp k)) entries ≡ Some old
    → ((n : ℕ) → n < length bytes → cell page (at + n) ≡ Some (slice_index bytes n))
    → ((i : ℕ) → i < at → cell page i ≡ cell old i) → ((i : ℕ) → at + length bytes ≤ i → cell page i ≡ cell old i)
    → PutInPage (old_cell entries k) page at bytes
put_in_old entries k at bytes old page is put below above =
    let was : (i : ℕ) → cell old i ≡ old_cell entries k i = λ i. sym (ap (option_and_then (λ page. cell page i)) is) in
    record { put = put; below = λ i lt. below i lt ∙ was i; above = λ i le. above i le ∙ was i }

-- a number is made of its bytes alone
pub same_number : (f g : ℕ → Option ℕ) (a b count : ℕ) → ((i : ℕ) → i < count → f (a + i) ≡ g (b + i)) → number_from f a count ≡ number_from g b count
same_number f g a b zero same = refl
same_number f g a b (suc count) same =
    let first : f a ≡ g b = ap f (omega arith) ∙ same 0 (omega arith) ∙ ap g (omega arith) in
    let others : number_from f (a + 1) count ≡ number_from g (b + 1) count =
    same_number f g (a + 1) (b + 1) count (λ i lt. ap f (omega arith) ∙ same (suc i) (omega (arith, lt)) ∙ ap g (omega arith)) in
    rw (first, others) refl

-- without one of its bytes there is no number
pub no_number : (f : ℕ → Option ℕ) (a count i : ℕ) → i < count → f (a + i) ≡ None → number_from f a count ≡ None
no_number f a zero i lt none = absurd (omega (arith, lt))
no_number f a (suc count) zero lt none =
    let first : f a ≡ None = ap f (omega arith) ∙ none in
    rw first refl
no_number f a (suc count) (suc i) lt none =
    let others : number_from f (a + 1) count ≡ None = no_number f (a + 1) count i (omega (arith, lt)) (ap f (omega arith) ∙ none) in
    ap (λ x. option_and_then (λ low. option_map (λ high. low + 256 * high) x) (f a)) others ∙ nothing (f a)
  where
    nothing : (low : Option ℕ) → option_and_then (λ low. option_map (λ high. low + 256 * high) None) low ≡ None
    nothing (Some low) = refl
    nothing None = refl

-- the number of one page
pub number_there : (entries : List (ℕ × Page)) (address count : ℕ) (page : Page) → address % 64 + count ≤ 64 → lookup (is_at (nat_cmp (address / 64))) entries ≡ Some page
    → number_from (cell page) (address % 64) count ≡ number_from (get (map_of_pages entries)) address count
number_there entries address count page room is = same_number (cell page) (get (map_of_pages entries)) (address % 64) address count (λ i lt.
    ap (cell page) (omega (arith, room, lt))
    ∙ sym (ap (option_and_then (λ page. cell page ((address + i) % 64))) (ap (λ k. lookup (is_at (nat_cmp k)) entries) (omega (arith, room, lt)) ∙ is))
    ∙ sym (get_page entries (address + i)))

pub number_nowhere : (entries : List (ℕ × Page)) (address count : ℕ) → 0 < count → lookup (is_at (nat_cmp (address / 64))) entries ≡ None
    → number_from (get (map_of_pages entries)) address count ≡ None
number_nowhere entries address count some is = no_number (get (map_of_pages entries)) address count 0 some
    (ap (get (map_of_pages entries)) (omega arith) ∙ get_page entries address ∙ ap (option_and_then (λ page. cell page (address % 64))) is)

-- the byte of one page
pub cell_there : (entries : List (ℕ × Page)) (address : ℕ) (page : Page) → lookup (is_at (nat_cmp (address / 64))) entries ≡ Some page → cell page (address % 64) ≡ get (map_of_pages entries) address
cell_there entries address page is = sym (get_page entries address ∙ ap (option_and_then (λ page. cell page (address % 64))) is)

pub cell_nowhere : (entries : List (ℕ × Page)) (address : ℕ) → lookup (is_at (nat_cmp (address / 64))) entries ≡ None → get (map_of_pages entries) address ≡ None
cell_nowhere entries address is = get_page entries address ∙ ap (option_and_then (λ page. cell page (address % 64))) is

-- no bytes
pub with_none : (m : FinMap nat_cmp ℕ) (a : ℕ) (bytes : List ℕ) → length bytes ≡ 0 → m ≡ with_bytes m a bytes
unfolding with_bytes
with_none m a [] e = refl
with_none m a (b ∷ bs) e = absurd (cc e)

-- bytes in two runs
pub with_both : (m : FinMap nat_cmp ℕ) (a : ℕ) (xs ys : List ℕ) → with_bytes (with_bytes m a xs) (a + length xs) ys ≡ with_bytes m a (xs ++ ys)
unfolding with_bytes
with_both m a [] ys = ap (λ n. with_bytes m n ys) (omega arith)
with_both m a (x ∷ xs) ys = ap (λ n. with_bytes (with_bytes (insert m a x) (a + 1) xs) n ys) (omega arith) ∙ with_both (insert m a x) (a + 1) xs ys

-- where there is no number, one of its bytes doesn't stand
pub record Missing (f : ℕ → Option ℕ) (a count : ℕ) : Type 0 where
  pub i : ℕ
  pub within : i < count
  pub none : f (a + i) ≡ None

by_first : (f : ℕ → Option ℕ) (a count : ℕ) (low high : Option ℕ) → f a ≡ low → number_from f (a + 1) count ≡ high → (number_from f (a + 1) count ≡ None → Missing f (a + 1) count)
    → option_and_then (λ low. option_map (λ high. low + 256 * high) high) low ≡ None → Missing f a (suc count)
by_first f a count None high is_low is_high later none = record { i = 0; within = omega arith; none = ap f (omega arith) ∙ is_low }
by_first f a count (Some low) None is_low is_high later none =
    let m = later is_high in
    let lt = m.within in
    record { i = m.i + 1; within = omega (arith, lt); none = ap f (omega arith) ∙ m.none }
by_first f a count (Some low) (Some high) is_low is_high later none = absurd (cc none)

pub missing : (f : ℕ → Option ℕ) (a count : ℕ) → number_from f a count ≡ None → Missing f a count
missing f a zero none = absurd (cc none)
missing f a (suc count) none = by_first f a count (f a) (number_from f (a + 1) count) refl refl (missing f (a + 1) count) none

-- a number in two parts
pub no_low : (f : ℕ → Option ℕ) (a c d n : ℕ) → n ≡ c + d → number_from f a c ≡ None → number_from f a n ≡ None
no_low f a c d n is none =
    let m = missing f a c none in
    let lt = m.within in
    no_number f a n m.i (omega (arith, lt, is)) m.none

pub no_high : (f : ℕ → Option ℕ) (a c d n : ℕ) → n ≡ c + d → number_from f (a + c) d ≡ None → number_from f a n ≡ None
no_high f a c d n is none =
    let m = missing f (a + c) d none in
    let lt = m.within in
    no_number f a n (c + m.i) (omega (arith, lt, is)) (ap f (omega arith) ∙ m.none)

record Parts (x y : Option ℕ) (low : ℕ) : Type 0 where
  first : ℕ
  others : ℕ
  first_is : x ≡ Some first
  others_are : y ≡ Some others
  sum : low ≡ first + 256 * others

parts : (x y : Option ℕ) (low : ℕ) → option_and_then (λ low. option_map (λ high. low + 256 * high) y) x ≡ Some low → Parts x y low
parts None y low e = absurd (cc e)
parts (Some l) None low e = absurd (cc e)
parts (Some l) (Some h) low e = record { first = l; others = h; first_is = refl; others_are = refl; sum = sym (cc e) }

regrouped : (l h p high : ℕ) → l + 256 * (h + p * high) ≡ l + 256 * h + 256 * p * high
regrouped l h p high =
    let product : 256 * (p * high) ≡ 256 * p * high = sym (mul_assoc 256 p high) in
    omega (arith, product)

with_first : (x total : Option ℕ) (l h p q low high : ℕ) → x ≡ Some l → low ≡ l + 256 * h → total ≡ Some (h + p * high) → q ≡ 256 * p
    → option_and_then (λ low. option_map (λ high. low + 256 * high) total) x ≡ Some (low + q * high)
with_first x total l h p q low high is_x sum is_total product =
    ap (option_and_then (λ low. option_map (λ high. low + 256 * high) total)) is_x ∙ ap (option_map (λ high. l + 256 * high)) is_total
    ∙ ap Some (regrouped l h p high ∙ sym (ap (λ s. s + q * high) sum ∙ ap (λ q. l + 256 * h + q * high) product))

pub both_parts : (f : ℕ → Option ℕ) (a c d n low high : ℕ) → n ≡ c + d → number_from f a c ≡ Some low → number_from f (a + c) d ≡ Some high → number_from f a n ≡ Some (low + 256 ^ c * high)
both_parts f a zero d n low high is is_low is_high =
    let none : 0 ≡ low = cc is_low in
    ap (λ x. number_from f a x) (omega (arith, is)) ∙ ap (λ x. number_from f x d) (omega arith) ∙ is_high ∙ ap Some (omega (arith, none))
both_parts f a (suc c) d n low high is is_low is_high =
    let p = parts (f a) (number_from f (a + 1) c) low is_low in
    let count : n ≡ suc (c + d) = omega (arith, is) in
    ap (number_from f a) count ∙ with_first (f a) (number_from f (a + 1) (c + d)) p.first p.others (256 ^ c) (256 ^ suc c) low high p.first_is p.sum
    (both_parts f (a + 1) c d (c + d) p.others high refl p.others_are (ap (λ x. number_from f x d) (omega arith) ∙ is_high)) (pow-succ' 256 c)

pub is_low_there : (f : ℕ → Option ℕ) (a c d n : ℕ) → n ≡ c + d → is_some (number_from f a n) ≡ true → is_some (number_from f a c) ≡ true
is_low_there f a c d n is there = by_low (number_from f a c) refl
  where
    by_low : (x : Option ℕ) → number_from f a c ≡ x → is_some x ≡ true
    by_low (Some x) e = refl
    by_low None e = sym (ap is_some (no_low f a c d n is e)) ∙ there

pub is_high_there : (f : ℕ → Option ℕ) (a c d n : ℕ) → n ≡ c + d → is_some (number_from f a n) ≡ true → is_some (number_from f (a + c) d) ≡ true
is_high_there f a c d n is there = by_high (number_from f (a + c) d) refl
  where
    by_high : (x : Option ℕ) → number_from f (a + c) d ≡ x → is_some x ≡ true
    by_high (Some x) e = refl
    by_high None e = sym (ap is_some (no_high f a c d n is e)) ∙ there

-- bytes over those that stand in a page, where all of them do
pub replaced_there : (entries after : List (ℕ × Page)) (address at : ℕ) (bytes : List ℕ) (old page : Page) (stood : Bool) → at ≡ address % 64 → address % 64 + length bytes ≤ 64
    → ((k : ℕ) → lookup (is_at (nat_cmp k)) after ≡ cond (is_at (nat_cmp (address / 64)) k) (Some page) (lookup (is_at (nat_cmp k)) entries))
    → lookup (is_at (nat_cmp (address / 64))) entries ≡ Some old
    → (stood ≡ false → page ≡ old)
    → (stood ≡ true → (n : ℕ) → n < length bytes → cell page (at + n) ≡ Some (slice_index bytes n))
    → (stood ≡ true → (i : ℕ) → i < at → cell page i ≡ cell old i) → (stood ≡ true → (i : ℕ) → at + length bytes ≤ i → cell page i ≡ cell old i)
    → map_of_pages after ≡ cond stood (with_bytes (map_of_pages entries) address bytes) (map_of_pages entries)
unfolding with_bytes
replaced_there entries after address at bytes old page true place room updated is kept put below above =
    page_put entries after address bytes page room updated
    (subst (λ at. PutInPage (old_cell entries (address / 64)) page at bytes) place (put_in_old entries (address / 64) at bytes old page is (put refl) (below refl) (above refl)))
replaced_there entries after address at bytes old page false place room updated is kept put below above =
    page_put entries after address [] page (omega (arith, room)) updated
    (put_in_old entries (address / 64) (address % 64) [] old page is (λ n lt. absurd (omega (arith, lt))) (λ i lt. ap (λ p. cell p i) (kept refl)) (λ i le. ap (λ p. cell p i) (kept refl)))

-- bytes over those that stand in two pages
pub replaced_both : (m first_map last_map : FinMap nat_cmp ℕ) (a c : ℕ) (bytes xs ys : List ℕ) (first_stood last_stood : Bool) → bytes ≡ xs ++ ys → length xs ≡ c → is_some (number_from (get m) a (length bytes)) ≡ true
    → first_stood ≡ is_some (number_from (get m) a (length xs)) → first_map ≡ cond first_stood (with_bytes m a xs) m
    → last_stood ≡ is_some (number_from (get first_map) (a + c) (length ys)) → last_map ≡ cond last_stood (with_bytes first_map (a + c) ys) first_map
    → last_map ≡ with_bytes m a bytes
replaced_both m first_map last_map a c bytes xs ys first_stood last_stood are count there first_is first_new last_is last_new =
    let all : length bytes ≡ length xs + length ys = ap length are ∙ length-append xs ys in
    let low : first_stood ≡ true = first_is ∙ is_low_there (get m) a (length xs) (length ys) (length bytes) all there in
    let put : first_map ≡ with_bytes m a xs = first_new ∙ ap (λ b. cond b (with_bytes m a xs) m) low in
    let same : number_from (get first_map) (a + c) (length ys) ≡ number_from (get m) (a + c) (length ys) =
    same_number (get first_map) (get m) (a + c) (a + c) (length ys) (λ i lt. ap (λ x. get x (a + c + i)) put ∙ bytes_beside m a xs (a + c + i) (inr (omega (arith, count)))) in
    let high : last_stood ≡ true = last_is ∙ ap is_some same ∙ ap (λ x. is_some (number_from (get m) (a + x) (length ys))) (sym count) ∙ is_high_there (get m) a (length xs) (length ys) (length bytes) all there in
    last_new ∙ ap (λ b. cond b (with_bytes first_map (a + c) ys) first_map) high ∙ ap (λ x. with_bytes x (a + c) ys) put ∙ ap (λ x. with_bytes (with_bytes m a xs) (a + x) ys) (sym count) ∙ with_both m a xs ys
    ∙ ap (with_bytes m a) (sym are)
