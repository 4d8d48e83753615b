-- The map that pages are, address by address.
use Rattle.std.proofs.Common.{◌≡◌, ℕ, zero, suc, ◌+◌, ◌*◌, ◌/◌, ◌%◌, ◌<◌, ◌≤◌, Bool, true, false, cond, List, [], ◌∷◌, length, ◌⊎◌, inl, inr, Option, Some, None, refl, ap, sym, ◌∙◌, arith}
use Rattle.std.specs.Prelude.{slice_index, option_and_then}
use Rattle.std.proofs.lemmas.Bool.{cases_eq, cases_lt, eq-eqb, ne_eqb}
use Rattle.std.specs.FinMap.{FinMap, get, insert, get-insert, get-remove, get-empty}
use Rattle.std.specs.Ordering.{nat_cmp, eq_by_cmp}
use Rattle.std.specs.Cmp.{nat_cmp_total, unsigned_tied}
use Rattle.std.specs.BTreeMap.{is_at}
use Rattle.std.specs.Map.{lookup}
use Rattle.ar_space.specs.declared.page.Page.{Page}
use Rattle.ar_space.specs.Pages.{cell, with_cell, with_cells, map_of_pages}
use Rattle.ar_space.specs.Runs.{with_bytes}

abbrev pub Map : Type 0
Map = FinMap nat_cmp ℕ

pub here : (q : ℕ) → eq_by_cmp nat_cmp q q ≡ true
here q = unsigned_tied q q ∙ eq-eqb q q refl

pub apart : (q k : ℕ) → (q ≡ k → ⊥) → eq_by_cmp nat_cmp q k ≡ false
apart q k ne = unsigned_tied q k ∙ ne_eqb q k ne

pub insert_here : (m : Map) (k x : ℕ) → get (insert m k x) k ≡ Some x
insert_here m k x = get-insert nat_cmp_total m k x k ∙ ap (λ b. cond b (Some x) (get m k)) (here k)

pub insert_beside : (m : Map) (k x q : ℕ) → (q ≡ k → ⊥) → get (insert m k x) q ≡ get m q
insert_beside m k x q ne = get-insert nat_cmp_total m k x q ∙ ap (λ b. cond b (Some x) (get m q)) (apart q k ne)

-- one cell
cell_here : (m : Map) (k : ℕ) (c : Option ℕ) → get (with_cell m k c) k ≡ c
cell_here m k (Some x) = insert_here m k x
cell_here m k None = get-remove nat_cmp_total m k k ∙ ap (λ b. cond b None (get m k)) (here k)

cell_beside : (m : Map) (k : ℕ) (c : Option ℕ) (q : ℕ) → (q ≡ k → ⊥) → get (with_cell m k c) q ≡ get m q
cell_beside m k (Some x) q ne = insert_beside m k x q ne
cell_beside m k None q ne = get-remove nat_cmp_total m k q ∙ ap (λ b. cond b None (get m q)) (apart q k ne)

-- the cells of a page
module _ (m : Map) (first : ℕ) (page : Page) where
  cells_at : (n i : ℕ) → i < n → get (with_cells m first page n) (first + i) ≡ cell page i
  unfolding with_cells
  cells_at zero i lt = absurd (omega (arith, lt))
  cells_at (suc n) i lt = elim (cases_eq i n) [
    | inl e ↦ ap (λ x. get (with_cell (with_cells m first page n) (first + n) (cell page n)) (first + x)) e ∙ cell_here (with_cells m first page n) (first + n) (cell page n) ∙ ap (cell page) (sym e)
    | inr ne ↦ cell_beside (with_cells m first page n) (first + n) (cell page n) (first + i) (λ e. ne (omega (arith, e))) ∙ cells_at n i (by_order i n lt ne)
  ]
    where
      by_order : (i n : ℕ) → i < suc n → (i ≡ n → ⊥) → i < n
      by_order i n lt ne = elim (cases_lt i n) [
        | inl h ↦ h
        | inr h ↦ absurd (ne (omega (arith, lt, h)))
      ]

  cells_beside : (n q : ℕ) → (q < first) ⊎ (first + n ≤ q) → get (with_cells m first page n) q ≡ get m q
  unfolding with_cells
  cells_beside zero q out = refl
  cells_beside (suc n) q (inl below) = cell_beside (with_cells m first page n) (first + n) (cell page n) q (λ e. absurd (omega (arith, e, below))) ∙ cells_beside n q (inl below)
  cells_beside (suc n) q (inr above) = cell_beside (with_cells m first page n) (first + n) (cell page n) q (λ e. absurd (omega (arith, e, above))) ∙ cells_beside n q (inr (omega (arith, above)))

-- the page of an address, and its place there
of_page : (q : ℕ) → q ≡ 64 * (q / 64) + q % 64
of_page q = omega arith

within_page : (q : ℕ) → q % 64 < 64
within_page q = omega arith

beside_page : (q k : ℕ) → (q / 64 ≡ k → ⊥) → (q < 64 * k) ⊎ (64 * k + 64 ≤ q)
beside_page q k ne = elim (cases_lt q (64 * k)) [
  | inl h ↦ inl h
  | inr h ↦ elim (cases_lt q (64 * k + 64)) [
    | inl g ↦ absurd (ne (omega (arith, h, g)))
    | inr g ↦ inr g
  ]
]

-- what a list of pages has at an address
abbrev pub byte_in : List (ℕ × Page) → ℕ → Option ℕ
byte_in entries q = option_and_then (λ page. cell page (q % 64)) (lookup (is_at (nat_cmp (q / 64))) entries)

one_page : (m : Map) (k : ℕ) (page : Page) (q : ℕ) → get (with_cells m (64 * k) page 64) q ≡ cond (is_at (nat_cmp (q / 64)) k) (cell page (q % 64)) (get m q)
one_page m k page q = elim (cases_eq (q / 64) k) [
  | inl e ↦
      ap (get (with_cells m (64 * k) page 64)) (of_page q ∙ ap (λ x. 64 * x + q % 64) e) ∙ cells_at m (64 * k) page 64 (q % 64) (within_page q)
      ∙ sym (ap (λ b. cond b (cell page (q % 64)) (get m q)) (ap (is_at (nat_cmp (q / 64))) (sym e) ∙ here (q / 64)))
  | inr ne ↦ cells_beside m (64 * k) page 64 q (beside_page q k ne) ∙ sym (ap (λ b. cond b (cell page (q % 64)) (get m q)) (apart (q / 64) k ne))
]

first_page : (b : Bool) (page : Page) (at : ℕ) (found : Option Page) → cond b (cell page at) (option_and_then (λ page. cell page at) found) ≡ option_and_then (λ page. cell page at) (cond b (Some page) found)
first_page true page at found = refl
first_page false page at found = refl

pub get_page : (entries : List (ℕ × Page)) (q : ℕ) → get (map_of_pages entries) q ≡ byte_in entries q
unfolding map_of_pages
get_page [] q = get-empty nat_cmp q
get_page (e ∷ es) q = one_page (map_of_pages es) e.0 e.1 q ∙ ap (cond (is_at (nat_cmp (q / 64)) e.0) (cell e.1 (q % 64))) (get_page es q)
    ∙ first_page (is_at (nat_cmp (q / 64)) e.0) e.1 (q % 64) (lookup (is_at (nat_cmp (q / 64))) es)

-- a run of bytes that was put
pub bytes_beside : (m : Map) (first : ℕ) (bytes : List ℕ) (q : ℕ) → (q < first) ⊎ (first + length bytes ≤ q) → get (with_bytes m first bytes) q ≡ get m q
unfolding with_bytes
bytes_beside m first [] q out = refl
bytes_beside m first (b ∷ bs) q (inl below) = bytes_beside (insert m first b) (first + 1) bs q (inl (omega (arith, below))) ∙ insert_beside m first b q (λ e. absurd (omega (arith, e, below)))
bytes_beside m first (b ∷ bs) q (inr above) = bytes_beside (insert m first b) (first + 1) bs q (inr (omega (arith, above))) ∙ insert_beside m first b q (λ e. absurd (omega (arith, e, above)))

pub bytes_at : (m : Map) (first : ℕ) (bytes : List ℕ) (n : ℕ) → n < length bytes → get (with_bytes m first bytes) (first + n) ≡ Some (slice_index bytes n)
unfolding with_bytes
bytes_at m first [] n lt = absurd (omega (arith, lt))
bytes_at m first (b ∷ bs) zero lt = ap (get (with_bytes (insert m first b) (first + 1) bs)) (omega arith) ∙ bytes_beside (insert m first b) (first + 1) bs first (inl (omega arith)) ∙ insert_here m first b
bytes_at m first (b ∷ bs) (suc n) lt = ap (get (with_bytes (insert m first b) (first + 1) bs)) (omega arith) ∙ bytes_at (insert m first b) (first + 1) bs n (omega (arith, lt))
