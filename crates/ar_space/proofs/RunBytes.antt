-- The bytes from an address on: in a page, and in two parts.
use Rattle.std.proofs.Common.{◌≡◌, ℕ, zero, suc, ◌+◌, ◌%◌, ◌/◌, ◌<◌, ◌≤◌, List, [], ◌∷◌, ◌++◌, length, Option, Some, None, refl, ap, sym, ◌∙◌, arith, append_assoc}
use Rattle.std.specs.Prelude.{option_and_then}
use Rattle.std.specs.FinMap.{get}
use Rattle.std.specs.Ordering.{nat_cmp}
use Rattle.std.specs.BTreeMap.{is_at}
use Rattle.std.specs.Map.{lookup}
use Rattle.ar_space.specs.declared.page.Page.{Page}
use Rattle.ar_space.specs.Pages.{cell, map_of_pages}
use Rattle.ar_space.specs.Runs.{run_from}
use Rattle.ar_space.proofs.Cells.{get_page}

-- a run is made of its bytes alone
pub same_run : (f g : ℕ → Option ℕ) (a b count : ℕ) → ((i : ℕ) → i < count → f (a + i) ≡ g (b + i)) → run_from f a count ≡ run_from g b count
same_run f g a b zero same = refl
same_run f g a b (suc count) same =
    let first : f a ≡ g b = ap f (omega arith) ∙ same 0 (omega arith) ∙ ap g (omega arith) in
    let others : run_from f (a + 1) count ≡ run_from g (b + 1) count =
    same_run f g (a + 1) (b + 1) count (λ i lt. ap f (omega arith) ∙ same (suc i) (omega (arith, lt)) ∙ ap g (omega arith)) in
    rw (first, others) refl

-- where no byte stands a run has none
pub no_run : (f : ℕ → Option ℕ) (a count : ℕ) → f a ≡ None → run_from f a count ≡ []
no_run f a zero none = refl
no_run f a (suc count) none = rw none refl

-- one byte and then the others
pub run_more : (f : ℕ → Option ℕ) (a count byte : ℕ) → f a ≡ Some byte → run_from f a (suc count) ≡ byte ∷ run_from f (a + 1) count
run_more f a count byte is = rw is refl

-- a byte that is appended, and then the run that is left
pub run_next : (f : ℕ → Option ℕ) (a next count left byte : ℕ) (before : List ℕ) → a + 1 ≡ next → count ≡ suc left → f a ≡ Some byte
    → (before ++ byte ∷ []) ++ run_from f next left ≡ before ++ run_from f a count
run_next f a next count left byte before at is there =
    append_assoc before (byte ∷ []) (run_from f next left) ∙ ap (λ place. before ++ byte ∷ run_from f place left) (sym at)
    ∙ ap (λ xs. before ++ xs) (sym (run_more f a left byte there)) ∙ ap (λ n. before ++ run_from f a n) (sym is)

-- a run in two parts: the first is whole, or it is all
both_by : (f : ℕ → Option ℕ) (a n m : ℕ) (first : Option ℕ) → f a ≡ first → suc n ≤ length (run_from f a (suc n))
    → (n ≤ length (run_from f (a + 1) n) → run_from f (a + 1) (n + m) ≡ run_from f (a + 1) n ++ run_from f (a + 1 + n) m)
    → run_from f a (suc n + m) ≡ run_from f a (suc n) ++ run_from f (a + suc n) m
both_by f a n m None is whole others =
    let none = no_run f a (suc n) is in
    absurd (omega (arith, whole, ap length none))
both_by f a n m (Some byte) is whole others =
    let more = run_more f a n byte is in
    let all : suc n + m ≡ suc (n + m) = omega arith in
    let rest = others (omega (arith, whole, ap length more)) in
    ap (run_from f a) all ∙ run_more f a (n + m) byte is ∙ ap (λ xs. byte ∷ xs) rest
    ∙ ap (λ place. byte ∷ (run_from f (a + 1) n ++ run_from f place m)) (omega arith)
    ∙ ap (λ xs. xs ++ run_from f (a + suc n) m) (sym more)

pub run_both : (f : ℕ → Option ℕ) (a n m : ℕ) → n ≤ length (run_from f a n) → run_from f a (n + m) ≡ run_from f a n ++ run_from f (a + n) m
run_both f a zero m whole = ap (run_from f a) (omega arith) ∙ ap (λ place. run_from f place m) (omega arith)
run_both f a (suc n) m whole = both_by f a n m (f a) refl whole (run_both f (a + 1) n m)

ends_by : (f : ℕ → Option ℕ) (a n m : ℕ) (first : Option ℕ) → f a ≡ first → length (run_from f a (suc n)) < suc n
    → (length (run_from f (a + 1) n) < n → run_from f (a + 1) (n + m) ≡ run_from f (a + 1) n) → run_from f a (suc n + m) ≡ run_from f a (suc n)
ends_by f a n m None is short others = no_run f a (suc n + m) is ∙ sym (no_run f a (suc n) is)
ends_by f a n m (Some byte) is short others =
    let more = run_more f a n byte is in
    let all : suc n + m ≡ suc (n + m) = omega arith in
    ap (run_from f a) all ∙ run_more f a (n + m) byte is ∙ ap (λ xs. byte ∷ xs) (others (omega (arith, short, ap length more))) ∙ sym more

pub run_ends : (f : ℕ → Option ℕ) (a n m : ℕ) → length (run_from f a n) < n → run_from f a (n + m) ≡ run_from f a n
run_ends f a zero m short = absurd (omega (arith, short))
run_ends f a (suc n) m short = ends_by f a n m (f a) refl short (run_ends f (a + 1) n m)

-- the run of one page
pub run_there : (entries : List (ℕ × Page)) (address count : ℕ) (page : Page) → address % 64 + count ≤ 64 → lookup (is_at (nat_cmp (address / 64))) entries ≡ Some page
    → run_from (cell page) (address % 64) count ≡ run_from (get (map_of_pages entries)) address count
run_there entries address count page room is = same_run (cell page) (get (map_of_pages entries)) (address % 64) address count (λ i lt.
    ap (cell page) (omega (arith, room, lt))
    ∙ sym (ap (option_and_then (λ page. cell page ((address + i) % 64))) (ap (λ k. lookup (is_at (nat_cmp k)) entries) (omega (arith, room, lt)) ∙ is))
    ∙ sym (get_page entries (address + i)))

pub run_nowhere : (entries : List (ℕ × Page)) (address count : ℕ) → lookup (is_at (nat_cmp (address / 64))) entries ≡ None
    → run_from (get (map_of_pages entries)) address count ≡ []
run_nowhere entries address count is = no_run (get (map_of_pages entries)) address count (get_page entries address ∙ ap (option_and_then (λ page. cell page (address % 64))) is)
