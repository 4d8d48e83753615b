-- One number more of a mask or a table.
use Rattle.std.proofs.Common.{◌≡◌, ℕ, suc, ◌+◌, ◌-◌, ◌*◌, ◌<◌, ◌≤◌, Bool, true, false, if◌then◌else◌, List, [], ◌∷◌, filter, length, drop, refl, sym, ap, ◌∙◌, arith, length-drop}
use Rattle.std.proofs.Math.Seq.{drop-drop}
use Rattle.std.specs.Ordering.{nat_cmp}
use Rattle.std.specs.List.{range_with_len}
use Rattle.std.specs.BTreeSet.{insert_key}
use Rattle.byteorder.specs.Endian.{little_number}
use Rattle.acpi_resources.specs.FlagByte.{has_bit}
use Rattle.acpi_resources.specs.Numbers.{numbers_of_mask, numbers_of_table, with_numbers}

-- the numbers of a mask from n on
unfoldable pub mask_from : ℕ → ℕ → List ℕ
mask_from mask n = filter (λ k. has_bit mask k) (range_with_len n (16 - n))

pub mask_none : (mask : ℕ) → mask_from mask 0 ≡ numbers_of_mask mask
unfolding mask_from numbers_of_mask
mask_none mask = refl

-- a number that a test leaves out isn't added
with_tested : (set : List ℕ) (n : ℕ) (numbers : List ℕ) (b : Bool) → with_numbers set (if b then n ∷ numbers else numbers) ≡ with_numbers (if b then insert_key nat_cmp set n else set) numbers
unfolding with_numbers
with_tested set n numbers true = refl
with_tested set n numbers false = refl

mask_from-first : (mask n : ℕ) → n < 16 → mask_from mask n ≡ (if has_bit mask n then n ∷ mask_from mask (n + 1) else mask_from mask (n + 1))
unfolding mask_from
mask_from-first mask n h =
    let e : 16 - n ≡ suc (16 - (n + 1)) = omega arith in
    ap (λ m. filter (λ k. has_bit mask k) (range_with_len n m)) e

pub mask_more : (set : List ℕ) (mask n : ℕ) → n < 16 → with_numbers set (mask_from mask n) ≡ with_numbers (if has_bit mask n then insert_key nat_cmp set n else set) (mask_from mask (n + 1))
mask_more set mask n h =
    ap (λ ks. with_numbers set ks) (mask_from-first mask n h) ∙ with_tested set n (mask_from mask (n + 1)) (has_bit mask n)

pub mask_taken : (set : List ℕ) (mask n : ℕ) → n < 16 → has_bit mask n ≡ true → with_numbers set (mask_from mask n) ≡ with_numbers (insert_key nat_cmp set n) (mask_from mask (n + 1))
mask_taken set mask n h e =
    mask_more set mask n h ∙ ap (λ b. with_numbers (if b then insert_key nat_cmp set n else set) (mask_from mask (n + 1))) e

pub mask_passed : (set : List ℕ) (mask n : ℕ) → n < 16 → has_bit mask n ≡ false → with_numbers set (mask_from mask n) ≡ with_numbers set (mask_from mask (n + 1))
mask_passed set mask n h e =
    mask_more set mask n h ∙ ap (λ b. with_numbers (if b then insert_key nat_cmp set n else set) (mask_from mask (n + 1))) e

pub mask_all : (set : List ℕ) (mask n : ℕ) → 16 ≤ n → with_numbers set (mask_from mask n) ≡ set
unfolding with_numbers mask_from
mask_all set mask n h =
    let e : 16 - n ≡ 0 = omega arith in
    ap (λ m. with_numbers set (filter (λ k. has_bit mask k) (range_with_len n m))) e

table_first : (set bytes : List ℕ) → 4 ≤ length bytes → with_numbers set (numbers_of_table bytes) ≡ with_numbers (insert_key nat_cmp set (little_number 4 bytes)) (numbers_of_table (drop 4 bytes))
unfolding with_numbers numbers_of_table
table_first set (a ∷ b ∷ c ∷ d ∷ bytes) h = refl
table_first set (a ∷ b ∷ c ∷ []) h = absurd (omega arith)
table_first set (a ∷ b ∷ []) h = absurd (omega arith)
table_first set (a ∷ []) h = absurd (omega arith)
table_first set [] h = absurd (omega arith)

pub table_more : (set bytes : List ℕ) (i n : ℕ) → 4 * i + 4 ≤ length bytes → n ≡ little_number 4 (drop (4 * i) bytes) → with_numbers set (numbers_of_table (drop (4 * i) bytes)) ≡ with_numbers (insert_key nat_cmp set n) (numbers_of_table (drop (4 * (i + 1)) bytes))
table_more set bytes i n h e =
    let next : 4 * i + 4 ≡ 4 * (i + 1) = omega arith in
    let moved : drop 4 (drop (4 * i) bytes) ≡ drop (4 * (i + 1)) bytes = drop-drop 4 (4 * i) bytes ∙ ap (λ k. drop k bytes) next in
    table_first set (drop (4 * i) bytes) (omega (arith, length-drop (4 * i) bytes))
    ∙ ap (λ rest. with_numbers (insert_key nat_cmp set (little_number 4 (drop (4 * i) bytes))) (numbers_of_table rest)) moved
    ∙ ap (λ k. with_numbers (insert_key nat_cmp set k) (numbers_of_table (drop (4 * (i + 1)) bytes))) (sym e)

table_last : (set bytes : List ℕ) → length bytes < 4 → with_numbers set (numbers_of_table bytes) ≡ set
unfolding with_numbers numbers_of_table
table_last set (a ∷ b ∷ c ∷ d ∷ bytes) h = absurd (omega arith)
table_last set (a ∷ b ∷ c ∷ []) h = refl
table_last set (a ∷ b ∷ []) h = refl
table_last set (a ∷ []) h = refl
table_last set [] h = refl

pub table_all : (set bytes : List ℕ) (i : ℕ) → length bytes < 4 * i + 4 → with_numbers set (numbers_of_table (drop (4 * i) bytes)) ≡ set
table_all set bytes i h = table_last set (drop (4 * i) bytes) (omega (arith, length-drop (4 * i) bytes))
