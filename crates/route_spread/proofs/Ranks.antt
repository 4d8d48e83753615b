-- Interrupts in another order, and their ranks anew.
use Rattle.std.proofs.Common.{◌≡◌, ◌≢◌, ℕ, ◌+◌, ◌<◌, List, length, set, sym, ◌∙◌, ap, arith, refl, get_or-set_same, get_or-set_other, inl, inr}
use Rattle.std.specs.Prelude.{◌⊎◌}
use Rattle.std.specs.List.{swap}
use Rattle.std.specs.List.Sorted.{IsPermutation}
use Rattle.std.proofs.lemmas.Bool.{cases_eq}
use Rattle.std.proofs.lemmas.List.Sorted.{IsPermutation-keeps}
use Rattle.std.proofs.lemmas.List.Edits.{swap_is}
use Rattle.route_spread.specs.Marks.{at, IsListed}
use Rattle.route_spread.proofs.Arranged.{promoted_listed}

-- any numbers that say of each place of a list where it stands are its ranks
pub listed_anew : (interrupts ranks ranks' : List ℕ) → IsListed interrupts ranks → length ranks' ≡ length interrupts → ((j : ℕ) → j < length interrupts → at ranks' (at interrupts j) ≡ j) → IsListed interrupts ranks'
listed_anew interrupts ranks ranks' listed long ranked = record {
  long = long;
  known = listed.known;
  ranked = ranked;
  rank = λ x b. let r = listed.rank x b in let e = ranked (at ranks x) r in let f : at ranks' (at interrupts (at ranks x)) ≡ at ranks' x = ap (at ranks') (listed.there x b) in omega arith;
  there = λ x b.
      let r = listed.rank x b in
      let e : at ranks' x ≡ at ranks x = sym (ap (at ranks') (listed.there x b)) ∙ ranked (at ranks x) r in
      ap (at interrupts) e ∙ listed.there x b;
}

-- a place's number is noted where none before has it
pub ranked_more : (interrupts ranks ranks' : List ℕ) (j : ℕ) → IsListed interrupts ranks → j < length interrupts → length ranks' ≡ length interrupts → ((k : ℕ) → k < j → at ranks' (at interrupts k) ≡ k) → (k : ℕ) → k < j + 1 → at (set ranks' (at interrupts j) j) (at interrupts k) ≡ k
ranked_more interrupts ranks ranks' j listed b long ranked k less = go (cases_eq k j)
  where
    go : (k ≡ j) ⊎ (k ≢ j) → at (set ranks' (at interrupts j) j) (at interrupts k) ≡ k
    go (inl e) = ap (λ (i : ℕ). at (set ranks' (at interrupts j) j) (at interrupts i)) e ∙ (get_or-set_same ranks' (at interrupts j) j 0 (let n = listed.known j b in omega arith) ∙ sym e)
    go (inr ne) = get_or-set_other ranks' (at interrupts j) (at interrupts k) j 0 (λ e. ne (sym (listed.ranked k (omega arith)) ∙ (ap (at ranks) e ∙ listed.ranked j b))) ∙ ranked k (omega arith)

-- interrupts that are put in another order have ranks again
abbrev pub HasRanks : List ℕ → Type 0
HasRanks interrupts = (ranks : List ℕ) × IsListed interrupts ranks

pub permuted_listed : (interrupts interrupts' : List ℕ) → HasRanks interrupts → IsPermutation interrupts interrupts' → HasRanks interrupts'
permuted_listed interrupts interrupts' has moved = IsPermutation-keeps interrupts HasRanks has swapped interrupts' moved
  where
    swapped : (xs : List ℕ) (i j : ℕ) → i < length xs → j < length xs → HasRanks xs → HasRanks (swap xs i j)
    swapped xs i j bi bj h =
        let ranks = h.0 in
        let listed = h.1 in
        let long = listed.long in
        let known = listed.known i bi in
        let put : swap xs i j ≡ set (set xs (at ranks (at xs i)) (at xs j)) j (at xs i) = rw (listed.ranked i bi) (sym (swap_is xs i j 0 bi bj)) in
        (set (set ranks (at xs j) (at ranks (at xs i))) (at xs i) j, promoted_listed xs (swap xs i j) ranks (set (set ranks (at xs j) (at ranks (at xs i))) (at xs i) j) (at xs i) j listed (omega arith) bj (record { put = put; ranked = refl }))
