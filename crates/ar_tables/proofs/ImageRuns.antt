-- The bytes of an image at a range of addresses are a run of it, where that has so many.
use Rattle.std.proofs.Common.{◌≡◌, ℕ, zero, suc, ◌+◌, ◌-◌, ◌^◌, ◌<◌, ◌≤◌, min, List, [], ◌∷◌, length, Option, Some, None, Ok, Err, ◌⊎◌, inl, inr, refl, arith, true, false}
use Rattle.std.specs.Prelude.{nat_lt, ok_or, if◌then◌else◌}
use Rattle.std.proofs.Math.Nat.{min-eq_left, min-eq_right}
use Rattle.std.specs.List.{range_with_len}
use Rattle.std.specs.FinMap as map
use Rattle.std.specs.Ordering.{nat_cmp}
use Rattle.std.proofs.lemmas.Bool.{cases_lt, lt-ltb}
use Rattle.std.proofs.lemmas.Bool.Decides.{nat_tests}
use Rattle.ar_space.specs.Outcome.{◌>>=◌}
use Rattle.ar_space.specs.Each.{each}
use Rattle.ar_space.specs.Runs.{run_from}
use Rattle.ar_space.specs.declared.refusal.Refusal.TheVariants.{Table}
use Rattle.ar_space.specs.declared.refusal.TableFault.TheVariants.{NotInImage}
use Rattle.ar_tables.specs.ImageBytes.{byte_at}

module _ (image : map.FinMap nat_cmp ℕ) where
  byte_there : (a byte : ℕ) → a < 2 ^ 64 → map.get image a ≡ Some byte → byte_at image a ≡ Ok byte
  unfolding byte_at
  byte_there a byte lt is =
      let low : nat_lt a (2 ^ 64) ≡ true = lt-ltb a (2 ^ 64) lt in
      rw (low, is) refl

  byte_nowhere : (a : ℕ) → map.get image a ≡ None → byte_at image a ≡ Err (Table NotInImage)
  unfolding byte_at
  byte_nowhere a is = elim (nat_lt a (2 ^ 64)) as (λ low. (if low then ok_or (map.get image a) (Table NotInImage) else Err (Table NotInImage)) ≡ Err (Table NotInImage)) [
    | true ↦ rw is refl
    | false ↦ refl
  ]

  byte_past : (a : ℕ) → 2 ^ 64 ≤ a → byte_at image a ≡ Err (Table NotInImage)
  unfolding byte_at
  byte_past a le =
      let past : nat_lt a (2 ^ 64) ≡ false = grind (arith, nat_tests) in
      rw past refl

  -- a run has the bytes, or one of them is not in the image
  abbrev Read : ℕ → ℕ → List ℕ → Type 0
  Read a n run = ((length run ≡ n) × (each (byte_at image) (range_with_len a n) ≡ Ok run)) ⊎ ((length run < n) × (each (byte_at image) (range_with_len a n) ≡ Err (Table NotInImage)))

  none_read : (a n : ℕ) → byte_at image a ≡ Err (Table NotInImage) → Read a (suc n) []
  unfolding each ◌>>=◌
  none_read a n is = inr (omega arith, rw is refl)

  one_more : (a n byte : ℕ) (run : List ℕ) → byte_at image a ≡ Ok byte → Read (a + 1) n run → Read a (suc n) (byte ∷ run)
  unfolding each ◌>>=◌
  one_more a n byte run is (inl (whole, rest)) = inl (omega (arith, whole), rw (is, rest) refl)
  one_more a n byte run is (inr (short, rest)) = inr (omega (arith, short), rw (is, rest) refl)

  read_by : (a n m : ℕ) (first : Option ℕ) → map.get image a ≡ first → a < 2 ^ 64 → Read (a + 1) n (run_from (map.get image) (a + 1) m) → Read a (suc n) (run_from (map.get image) a (suc m))
  read_by a n m None is lt rest = rw is (none_read a n (byte_nowhere a is))
  read_by a n m (Some byte) is lt rest = rw is (one_more a n byte (run_from (map.get image) (a + 1) m) (byte_there a byte lt is) rest)

  read_run : (a n m : ℕ) → m ≤ n → (m < n → 2 ^ 64 ≤ a + m) → (0 < m → a + m ≤ 2 ^ 64) → Read a n (run_from (map.get image) a m)
  unfolding each
  read_run a zero zero few past room = inl (omega arith, refl)
  read_run a zero (suc m) few past room = absurd (omega (arith, few))
  read_run a (suc n) zero few past room = none_read a n (byte_past a (omega (arith, past (omega arith))))
  read_run a (suc n) (suc m) few past room =
      read_by a n m (map.get image a) refl (omega (arith, room (omega arith)))
      (read_run (a + 1) n m (omega (arith, few)) (λ lt. omega (arith, past (omega (arith, lt)))) (λ some. omega (arith, room (omega arith))))

  pub read_image : (a n : ℕ) → a < 2 ^ 64 → Read a n (run_from (map.get image) a (min n (2 ^ 64 - a)))
  read_image a n lt = elim (cases_lt n (2 ^ 64 - a)) [
    | inl low ↦
        let less : n ≤ 2 ^ 64 - a = omega (arith, low) in
        rw (min-eq_left less) (read_run a n n (omega arith) (λ no. absurd (omega (arith, no))) (λ some. omega (arith, low)))
    | inr past ↦ rw (min-eq_right past) (read_run a n (2 ^ 64 - a) past (λ no. omega (arith, lt)) (λ some. omega (arith, lt)))
  ]
