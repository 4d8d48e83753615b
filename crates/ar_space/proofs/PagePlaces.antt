-- Where pages stand among all of them, and what a change of one of them does.
use Rattle.std.proofs.Common.{◌≡◌, ℕ, zero, suc, ◌+◌, ◌*◌, ◌/◌, ◌%◌, ◌<◌, ◌≤◌, Bool, true, false, cond, List, [], ◌∷◌, length, inl, inr, Option, Some, None, refl, ap, sym, ◌∙◌, subst, arith, length-append}
use Rattle.std.specs.Prelude.{slice_index, slice_index_or, slice_set, option_and_then, is_some, ◌++◌, ◌⊎◌}
use Rattle.std.specs.Option.{option_map}
use Rattle.std.proofs.lemmas.Bool.{cases_eq}
use Rattle.std.specs.FinMap.{get, same_map, nat_cmp-IsAntisymmetric}
use Rattle.std.specs.Ordering.{nat_cmp}
use Rattle.std.specs.Cmp.{nat_cmp_total}
use Rattle.std.specs.BTreeMap.{is_at}
use Rattle.std.specs.Map.{lookup}
use Rattle.ar_space.specs.declared.page.Page.{Page}
use Rattle.ar_space.specs.Pages.{cell, map_of_pages, StoodOrNew}
use Rattle.ar_space.specs.PagePlaces.{place_of}
use Rattle.ar_space.specs.Runs.{with_bytes, number_from}
use Rattle.ar_space.proofs.Cells.{here, apart, get_page}
use Rattle.ar_space.proofs.PageMaps.{PutInPage, old_cell, page_put, number_there, number_nowhere, replaced_there}

same_key : (a b : ℕ) → is_at (nat_cmp a) b ≡ is_at (nat_cmp b) a
same_key a b = elim (cases_eq a b) [
  | inl e ↦ subst (λ x. is_at (nat_cmp a) x ≡ is_at (nat_cmp x) a) e refl
  | inr ne ↦ apart a b ne ∙ sym (apart b a (λ e. ne (sym e)))
]

-- one page changed, and the others as they were
abbrev pub Updated : List (ℕ × Page) → List (ℕ × Page) → ℕ → Page → Type 0
Updated entries after number page = (k : ℕ) → lookup (is_at (nat_cmp k)) after ≡ cond (is_at (nat_cmp number) k) (Some page) (lookup (is_at (nat_cmp k)) entries)

pub first_updated : (number first : ℕ) (old page : Page) (entries : List (ℕ × Page)) → number ≡ first → Updated ((first, old) ∷ entries) ((first, page) ∷ entries) number page
first_updated number first old page entries e k =
    over (is_at (nat_cmp k) first) (lookup (is_at (nat_cmp k)) entries)
    ∙ ap (λ b. cond b (Some page) (lookup (is_at (nat_cmp k)) ((first, old) ∷ entries))) (same_key k first ∙ ap (λ n. is_at (nat_cmp n) k) (sym e))
  where
    over : (b : Bool) (rest : Option Page) → cond b (Some page) rest ≡ cond b (Some page) (cond b (Some old) rest)
    over true rest = refl
    over false rest = refl

pub behind_updated : (number first : ℕ) (front page : Page) (entries after : List (ℕ × Page)) → (number ≡ first → ⊥) → Updated entries after number page
    → Updated ((first, front) ∷ entries) ((first, front) ∷ after) number page
behind_updated number first front page entries after ne updated k =
    ap (cond (is_at (nat_cmp k) first) (Some front)) (updated k) ∙ elim (cases_eq number k) [
      | inl e ↦
          ap (λ b. cond b (Some front) (cond (is_at (nat_cmp number) k) (Some page) (lookup (is_at (nat_cmp k)) entries))) (apart k first (λ f. ne (e ∙ f)))
          ∙ ap (λ b. cond b (Some page) (lookup (is_at (nat_cmp k)) entries)) (at_number e)
          ∙ sym (ap (λ b. cond b (Some page) (lookup (is_at (nat_cmp k)) ((first, front) ∷ entries))) (at_number e))
      | inr other ↦
          ap (λ b. cond (is_at (nat_cmp k) first) (Some front) (cond b (Some page) (lookup (is_at (nat_cmp k)) entries))) (apart number k other)
          ∙ sym (ap (λ b. cond b (Some page) (lookup (is_at (nat_cmp k)) ((first, front) ∷ entries))) (apart number k other))
    ]
  where
    at_number : number ≡ k → is_at (nat_cmp number) k ≡ true
    at_number e = ap (is_at (nat_cmp number)) (sym e) ∙ here number

-- keys that are equal, and keys that are not
same_by : (a b : ℕ) → is_at (nat_cmp a) b ≡ true → a ≡ b
same_by a b is = elim (cases_eq a b) [
  | inl e ↦ e
  | inr ne ↦ absurd (cc (sym (apart a b ne) ∙ is))
]

apart_by : (a b : ℕ) → is_at (nat_cmp a) b ≡ false → a ≡ b → ⊥
apart_by a b is e = absurd (cc (sym is ∙ ap (is_at (nat_cmp a)) (sym e) ∙ here a))

-- the page at a place
pub page_at : (entries : List (ℕ × Page)) (number place : ℕ) (entry : ℕ × Page) → place_of entries number ≡ Some place → entry ≡ slice_index_or entries place entry
    → lookup (is_at (nat_cmp number)) entries ≡ Some entry.1
page_at [] number place entry is at = absurd (cc is)
page_at (e ∷ es) number place entry is at = by (is_at (nat_cmp number) e.0) (place_of es number) refl (page_at es number) is
  where
    by : (b : Bool) (o : Option ℕ) → place_of es number ≡ o
        → ((p : ℕ) (entry : ℕ × Page) → place_of es number ≡ Some p → entry ≡ slice_index_or es p entry → lookup (is_at (nat_cmp number)) es ≡ Some entry.1)
        → cond b (Some 0) (option_map suc o) ≡ Some place → cond b (Some e.1) (lookup (is_at (nat_cmp number)) es) ≡ Some entry.1
    by true o rest later is =
        let first : place ≡ 0 = cc is in
        ap (λ x. Some x.1) (sym (at ∙ ap (λ p. slice_index_or (e ∷ es) p entry) first))
    by false None rest later is = absurd (cc is)
    by false (Some p) rest later is =
        let behind : place ≡ suc p = cc is in
        later p entry rest (at ∙ ap (λ p. slice_index_or (e ∷ es) p entry) behind)

pub number_at : (entries : List (ℕ × Page)) (number place : ℕ) (entry : ℕ × Page) → place_of entries number ≡ Some place → entry ≡ slice_index_or entries place entry → number ≡ entry.0
number_at [] number place entry is at = absurd (cc is)
number_at (e ∷ es) number place entry is at = by (is_at (nat_cmp number) e.0) (place_of es number) refl refl (number_at es number) is
  where
    by : (b : Bool) (o : Option ℕ) → is_at (nat_cmp number) e.0 ≡ b → place_of es number ≡ o
        → ((p : ℕ) (entry : ℕ × Page) → place_of es number ≡ Some p → entry ≡ slice_index_or es p entry → number ≡ entry.0)
        → cond b (Some 0) (option_map suc o) ≡ Some place → number ≡ entry.0
    by true o same rest later is =
        let first : place ≡ 0 = cc is in
        same_by number e.0 same ∙ ap (λ x. x.0) (sym (at ∙ ap (λ p. slice_index_or (e ∷ es) p entry) first))
    by false None same rest later is = absurd (cc is)
    by false (Some p) same rest later is =
        let behind : place ≡ suc p = cc is in
        later p entry rest (at ∙ ap (λ p. slice_index_or (e ∷ es) p entry) behind)

pub within : (entries : List (ℕ × Page)) (number place : ℕ) → place_of entries number ≡ Some place → place < length entries
within [] number place is = absurd (cc is)
within (e ∷ es) number place is = by (is_at (nat_cmp number) e.0) (place_of es number) refl (within es number) is
  where
    by : (b : Bool) (o : Option ℕ) → place_of es number ≡ o → ((p : ℕ) → place_of es number ≡ Some p → p < length es)
        → cond b (Some 0) (option_map suc o) ≡ Some place → place < suc (length es)
    by true o rest later is =
        let first : 0 ≡ place = cc is in
        omega (arith, first)
    by false None rest later is = absurd (cc is)
    by false (Some p) rest later is =
        let behind : suc p ≡ place = cc is in
        let lt = later p rest in
        omega (arith, behind, lt)

pub page_nowhere : (entries : List (ℕ × Page)) (number : ℕ) → place_of entries number ≡ None → lookup (is_at (nat_cmp number)) entries ≡ None
page_nowhere [] number is = refl
page_nowhere (e ∷ es) number is = by (is_at (nat_cmp number) e.0) (place_of es number) refl (page_nowhere es number) is
  where
    by : (b : Bool) (o : Option ℕ) → place_of es number ≡ o → (place_of es number ≡ None → lookup (is_at (nat_cmp number)) es ≡ None)
        → cond b (Some 0) (option_map suc o) ≡ None → cond b (Some e.1) (lookup (is_at (nat_cmp number)) es) ≡ None
    by true o rest later is = absurd (cc is)
    by false None rest later is = later rest
    by false (Some p) rest later is = absurd (cc is)

-- another page at a place
pub set_updated : (entries : List (ℕ × Page)) (number place : ℕ) (page : Page) → place_of entries number ≡ Some place → Updated entries (slice_set entries place (number, page)) number page
set_updated [] number place page is = absurd (cc is)
set_updated (e ∷ es) number place page is = by (is_at (nat_cmp number) e.0) (place_of es number) refl refl (λ p. set_updated es number p page) is
  where
    by : (b : Bool) (o : Option ℕ) → is_at (nat_cmp number) e.0 ≡ b → place_of es number ≡ o
        → ((p : ℕ) → place_of es number ≡ Some p → Updated es (slice_set es p (number, page)) number page)
        → cond b (Some 0) (option_map suc o) ≡ Some place → Updated (e ∷ es) (slice_set (e ∷ es) place (number, page)) number page
    by true o same rest later is =
        let first : 0 ≡ place = cc is in
        subst (λ p. Updated (e ∷ es) (slice_set (e ∷ es) p (number, page)) number page) first
        (subst (λ n. Updated (e ∷ es) ((n, page) ∷ es) number page) (sym (same_by number e.0 same)) (first_updated number e.0 e.1 page es (same_by number e.0 same)))
    by false None same rest later is = absurd (cc is)
    by false (Some p) same rest later is =
        let behind : suc p ≡ place = cc is in
        subst (λ p. Updated (e ∷ es) (slice_set (e ∷ es) p (number, page)) number page) behind
        (behind_updated number e.0 e.1 page es (slice_set es p (number, page)) (apart_by number e.0 same) (later p rest))

pub set_places : (entries : List (ℕ × Page)) (place : ℕ) (entry other : ℕ × Page) (k : ℕ) → entry ≡ slice_index_or entries place entry → other.0 ≡ entry.0
    → place_of (slice_set entries place other) k ≡ place_of entries k
set_places [] place entry other k at same = refl
set_places (e ∷ es) zero entry other k at same = ap (λ n. cond (is_at (nat_cmp k) n) (Some 0) (option_map suc (place_of es k))) (same ∙ ap (λ x. x.0) at)
set_places (e ∷ es) (suc place) entry other k at same = ap (λ o. cond (is_at (nat_cmp k) e.0) (Some 0) (option_map suc o)) (set_places es place entry other k at same)

-- as `set_updated`, where the number is written as that of the entry
pub written_updated : (entries : List (ℕ × Page)) (number place : ℕ) (entry : ℕ × Page) (page : Page) → place_of entries number ≡ Some place → entry ≡ slice_index_or entries place entry
    → Updated entries (slice_set entries place (entry.0, page)) number page
written_updated entries number place entry page is at = subst (λ n. Updated entries (slice_set entries place (n, page)) number page) (number_at entries number place entry is at)
    (set_updated entries number place page is)

-- one page more
pub pushed_places : (entries : List (ℕ × Page)) (number : ℕ) (page : Page) → place_of entries number ≡ None
    → (k : ℕ) → place_of (entries ++ (number, page) ∷ []) k ≡ cond (is_at (nat_cmp number) k) (Some (length entries)) (place_of entries k)
pushed_places [] number page is k = ap (λ b. cond b (Some 0) None) (same_key k number)
pushed_places (e ∷ es) number page is k = by (is_at (nat_cmp number) e.0) (place_of es number) refl refl (λ rest. pushed_places es number page rest k) is
  where
    either : (b : Bool) → is_at (nat_cmp number) k ≡ b → is_at (nat_cmp number) e.0 ≡ false
        → cond (is_at (nat_cmp k) e.0) (Some 0) (option_map suc (cond b (Some (length es)) (place_of es k))) ≡ cond b (Some (suc (length es))) (cond (is_at (nat_cmp k) e.0) (Some 0) (option_map suc (place_of es k)))
    either true same ne = ap (λ b. cond b (Some 0) (Some (suc (length es)))) (ap (λ n. is_at (nat_cmp n) e.0) (sym (same_by number k same)) ∙ ne)
    either false same ne = refl

    by : (b : Bool) (o : Option ℕ) → is_at (nat_cmp number) e.0 ≡ b → place_of es number ≡ o
        → (place_of es number ≡ None → place_of (es ++ (number, page) ∷ []) k ≡ cond (is_at (nat_cmp number) k) (Some (length es)) (place_of es k))
        → cond b (Some 0) (option_map suc o) ≡ None
        → place_of ((e ∷ es) ++ (number, page) ∷ []) k ≡ cond (is_at (nat_cmp number) k) (Some (suc (length es))) (place_of (e ∷ es) k)
    by true o ne rest later is = absurd (cc is)
    by false (Some p) ne rest later is = absurd (cc is)
    by false None ne rest later is =
        ap (λ o. cond (is_at (nat_cmp k) e.0) (Some 0) (option_map suc o)) (later rest)
        ∙ either (is_at (nat_cmp number) k) refl ne

pub pushed_here : (entries : List (ℕ × Page)) (number : ℕ) (page : Page) → place_of entries number ≡ None → place_of (entries ++ (number, page) ∷ []) number ≡ Some (length entries)
pushed_here entries number page is = pushed_places entries number page is number ∙ ap (λ b. cond b (Some (length entries)) (place_of entries number)) (here number)

-- a page without bytes is in the map as none
module _ (number : ℕ) (page : Page) (none : (i : ℕ) → cell page i ≡ None) where
  either : (b : Bool) (at : ℕ) → option_and_then (λ page. cell page at) (cond b (Some page) None) ≡ None
  either true at = none at
  either false at = refl

  behind : (b : Bool) (first : Page) (at : ℕ) (x y : Option Page) → option_and_then (λ page. cell page at) x ≡ option_and_then (λ page. cell page at) y
      → option_and_then (λ page. cell page at) (cond b (Some first) x) ≡ option_and_then (λ page. cell page at) (cond b (Some first) y)
  behind true first at x y same = refl
  behind false first at x y same = same

  same_cell : (entries : List (ℕ × Page)) (k at : ℕ) → option_and_then (λ page. cell page at) (lookup (is_at (nat_cmp k)) (entries ++ (number, page) ∷ []))
      ≡ option_and_then (λ page. cell page at) (lookup (is_at (nat_cmp k)) entries)
  same_cell [] k at = either (is_at (nat_cmp k) number) at
  same_cell (e ∷ es) k at = behind (is_at (nat_cmp k) e.0) e.1 at (lookup (is_at (nat_cmp k)) (es ++ (number, page) ∷ [])) (lookup (is_at (nat_cmp k)) es) (same_cell es k at)

  pub no_bytes_there : (entries : List (ℕ × Page)) → map_of_pages (entries ++ (number, page) ∷ []) ≡ map_of_pages entries
  no_bytes_there entries = same_map nat_cmp_total nat_cmp-IsAntisymmetric (map_of_pages (entries ++ (number, page) ∷ [])) (map_of_pages entries) (λ q.
      get_page (entries ++ (number, page) ∷ []) q ∙ same_cell entries (q / 64) (q % 64) ∙ sym (get_page entries q))

pub same_map_made : (number : ℕ) (before after : List (ℕ × Page)) → StoodOrNew number before after → map_of_pages after ≡ map_of_pages before
same_map_made number before after h = by h.is
  where
    by : (after ≡ before) ⊎ ((place_of before number ≡ None) × ((page : Page) × (((at : ℕ) → cell page at ≡ None) × (after ≡ before ++ (number, page) ∷ [])))) → map_of_pages after ≡ map_of_pages before
    by (inl same) = ap map_of_pages same
    by (inr (absent, (page, (none, is)))) = ap map_of_pages is ∙ no_bytes_there number page none before

pub one_more : (number place : ℕ) (before after : List (ℕ × Page)) → StoodOrNew number before after → place_of after number ≡ Some place
    → length after ≡ length before + (cond (is_some (place_of before number)) 0 1)
one_more number place before after h stands = by h.is
  where
    by : (after ≡ before) ⊎ ((place_of before number ≡ None) × ((page : Page) × (((at : ℕ) → cell page at ≡ None) × (after ≡ before ++ (number, page) ∷ [])))) → length after ≡ length before + (cond (is_some (place_of before number)) 0 1)
    by (inl same) =
        let stood : place_of before number ≡ Some place = ap (λ l. place_of l number) (sym same) ∙ stands in
        let long : length after ≡ length before = ap length same in
        rw stood (omega (arith, long))
    by (inr (absent, (page, (none, is)))) = rw absent (ap length is ∙ length-append before ((number, page) ∷ []))

-- the same as for the page of an address
module _ (entries after : List (ℕ × Page)) (number at : ℕ) (bytes : List ℕ) (page : Page) (small : at < 64) (room : at + length bytes ≤ 64) (updated : Updated entries after number page) where
  number_is : number ≡ (64 * number + at) / 64
  number_is = omega (arith, small)

  place_is : at ≡ (64 * number + at) % 64
  place_is = omega (arith, small)

  fits : (64 * number + at) % 64 + length bytes ≤ 64
  fits = omega (arith, small, room)

  pub put_page : PutInPage (old_cell entries number) page at bytes → map_of_pages after ≡ with_bytes (map_of_pages entries) (64 * number + at) bytes
  put_page put = page_put entries after (64 * number + at) bytes page fits (subst (λ n. Updated entries after n page) number_is updated)
      (subst (λ n. PutInPage (old_cell entries n) page ((64 * number + at) % 64) bytes) number_is (subst (λ a. PutInPage (old_cell entries number) page a bytes) place_is put))

  pub replaced_page : (old : Page) (stood : Bool) → lookup (is_at (nat_cmp number)) entries ≡ Some old
      → (stood ≡ false → page ≡ old)
      → (stood ≡ true → (n : ℕ) → n < length bytes → cell page (at + n) ≡ Some (slice_index bytes n))
      → (stood ≡ true → (i : ℕ) → i < at → cell page i ≡ cell old i) → (stood ≡ true → (i : ℕ) → at + length bytes ≤ i → cell page i ≡ cell old i)
      → map_of_pages after ≡ cond stood (with_bytes (map_of_pages entries) (64 * number + at) bytes) (map_of_pages entries)
  replaced_page old stood is kept put below above = replaced_there entries after (64 * number + at) at bytes old page stood place_is fits
      (subst (λ n. Updated entries after n page) number_is updated)
      (subst (λ n. lookup (is_at (nat_cmp n)) entries ≡ Some old) number_is is) kept put below above

module _ (entries : List (ℕ × Page)) (number at count : ℕ) (small : at < 64) where
  pub number_of_page : (page : Page) → at + count ≤ 64 → lookup (is_at (nat_cmp number)) entries ≡ Some page
      → number_from (cell page) at count ≡ number_from (get (map_of_pages entries)) (64 * number + at) count
  number_of_page page room is = ap (λ a. number_from (cell page) a count) (omega (arith, small))
      ∙ number_there entries (64 * number + at) count page (omega (arith, small, room)) (ap (λ n. lookup (is_at (nat_cmp n)) entries) (omega (arith, small)) ∙ is)

  pub number_of_none : 0 < count → lookup (is_at (nat_cmp number)) entries ≡ None → number_from (get (map_of_pages entries)) (64 * number + at) count ≡ None
  number_of_none some is = number_nowhere entries (64 * number + at) count some (ap (λ n. lookup (is_at (nat_cmp n)) entries) (omega (arith, small)) ∙ is)
