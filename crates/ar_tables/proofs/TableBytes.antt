-- The bytes of structures that stand in memory, and what was tested of them.
use Rattle.std.proofs.Common.{◌≡◌, ◌≤◌, ◌<◌, ℕ, zero, suc, ◌+◌, ◌*◌, length-drop, ◌%◌, ◌^◌, ◌==◌, nat_lt, Bool, true, false, List, [], ◌∷◌, ◌++◌, length, take, drop, ◌⊎◌, inl, inr, Option, Some, None, Ok, Err, if◌then◌else◌, refl, ap, ap₂, sym, ◌∙◌, subst, arith}
use Rattle.std.specs.Prelude.{sum, slice_index, ok_or}
use Rattle.std.specs.Str.{bytes_eq}
use Rattle.std.specs.FinMap as map
use Rattle.std.specs.Ordering.{nat_cmp}
use Rattle.std.specs.Cmp.Lexicographic.{same_text}
use Rattle.std.proofs.lemmas.Bool.{ltb-true, eqb-true}
use Rattle.std.proofs.lemmas.Bool.Decides.{nat_tests}
use Rattle.std.proofs.lemmas.List.{take-append-le, drop-append-le}
use Rattle.std.proofs.Math.ListN.{get_or-append}
use Rattle.byteorder.specs.Endian.{little_number, little_from}
use Rattle.ar_space.specs.declared.refusal.Refusal.{Refusal}
use Rattle.ar_space.specs.Outcome.{Outcome, ◌>>=◌}
use Rattle.ar_space.specs.Each.{each}
use Rattle.ar_tables.specs.ImageBytes.{byte_at, bytes_at}
use Rattle.ar_tables.specs.Headers.{signature_of, is_length, signed, length_in, summed, table_at}
use Rattle.ar_tables.specs.Conditions.{StandsAt, SumsToZero, IsTable}
use Rattle.ar_tables.specs.declared.table.TableKind.{TableKind}
use Rattle.ar_tables.specs.declared.table.TableKind.TheVariants as kind

-- a value that came of a value before it
pub record Came {A B : Type 0} (m : Outcome A) (k : A → Outcome B) (b : B) : Type 0 where
  pub before : A
  pub is : m ≡ Ok before
  pub rest : k before ≡ Ok b

pub came : {A B : Type 0} (m : Outcome A) (k : A → Outcome B) (b : B) → (m >>= k) ≡ Ok b → Came m k b
unfolding ◌>>=◌
came (Ok a) k b e = record { before = a; is = refl; rest = e }
came (Err x) k b e = absurd (cc e)

pub came_ok : {A B : Type 0} (a : A) (k : A → Outcome B) (b : B) → (Ok a >>= k) ≡ Ok b → k a ≡ Ok b
unfolding ◌>>=◌
came_ok a k b e = e

pub if_cases : {A : Type 0} (b : Bool) (x y z : A) → (if b then x else y) ≡ z → ((b ≡ true) × (x ≡ z)) ⊎ ((b ≡ false) × (y ≡ z))
if_cases true x y z e = inl (refl, e)
if_cases false x y z e = inr (refl, e)

-- a test that was met
pub tested : {A : Type 0} (b : Bool) (x : A) (e : Refusal) (y : A) → (if b then Ok x else Err e) ≡ Ok y → (b ≡ true) × (x ≡ y)
tested true x e y is = (refl, cc is)
tested false x e y is = absurd (cc is)

found : {A : Type 0} (o : Option A) (e : Refusal) (a : A) → ok_or o e ≡ Ok a → o ≡ Some a
found (Some b) e a is = cc is
found None e a is = absurd (cc is)

module _ (image : map.FinMap nat_cmp ℕ) where
  -- bytes one by one
  abbrev pub AreAt : ℕ → List ℕ → Type 0
  AreAt a [] = Unit {0}
  AreAt a (x ∷ xs) = ((a < 2 ^ 64) × (map.get image a ≡ Some x)) × AreAt (a + 1) xs

  byte_read : (a x : ℕ) → byte_at image a ≡ Ok x → (a < 2 ^ 64) × (map.get image a ≡ Some x)
  unfolding byte_at
  byte_read a x e = elim (if_cases (nat_lt a (2 ^ 64)) _ _ _ e) [
    | inl t ↦ (ltb-true a (2 ^ 64) t.0, found (map.get image a) _ x t.1)
    | inr f ↦ absurd (cc f.1)
  ]

  pub bytes_read : (a n : ℕ) (bs : List ℕ) → bytes_at image a n ≡ Ok bs → AreAt a bs × (length bs ≡ n)
  unfolding bytes_at each
  bytes_read a zero bs e =
      let none : [] ≡ bs = cc e in
      (subst (AreAt a) none tt, sym (ap length none))
  bytes_read a (suc n) bs e =
      let x = came (byte_at image a) _ bs e in
      let xs = came (bytes_at image (a + 1) n) (λ ys. Ok (x.before ∷ ys)) bs x.rest in
      let r = bytes_read (a + 1) n xs.before xs.is in
      let is : x.before ∷ xs.before ≡ bs = cc xs.rest in
      (subst (AreAt a) is (byte_read a x.before x.is, r.0), sym (ap length is) ∙ ap suc r.1)

  pub stands : (a : ℕ) (bs : List ℕ) → AreAt a bs → StandsAt image a bs
  stands a [] h i lt = absurd (omega arith)
  stands a (x ∷ xs) h zero lt = subst (λ b. (b < 2 ^ 64) × (map.get image b ≡ Some x)) (omega arith) h.0
  stands a (x ∷ xs) h (suc i) lt = subst (λ b. (b < 2 ^ 64) × (map.get image b ≡ Some (slice_index xs i))) (omega arith) (stands (a + 1) xs h.1 i (omega arith))

  pub are_at : (a : ℕ) (bs : List ℕ) → StandsAt image a bs → AreAt a bs
  are_at a [] h = tt
  are_at a (x ∷ xs) h = (
    subst (λ b. (b < 2 ^ 64) × (map.get image b ≡ Some x)) (omega arith) (h 0 (omega arith)),
    are_at (a + 1) xs (λ i lt. subst (λ b. (b < 2 ^ 64) × (map.get image b ≡ Some (slice_index xs i))) (omega arith) (h (suc i) (omega arith))),
  )

  -- of two structures at one address the shorter one begins the longer one
  pub begins : (a : ℕ) (xs ys : List ℕ) → AreAt a xs → AreAt a ys → length xs ≤ length ys → (zs : List ℕ) × (ys ≡ xs ++ zs)
  begins a [] ys h i le = (ys, refl)
  begins a (x ∷ xs) [] h i le = absurd (omega arith)
  begins a (x ∷ xs) (y ∷ ys) h i le =
      let same : Some x ≡ Some y = sym h.0.1 ∙ i.0.1 in
      let first : y ≡ x = cc same in
      let rest = begins (a + 1) xs ys h.1 i.1 (omega arith) in
      (rest.0, ap₂ ◌∷◌ first rest.1)

  pub same_bytes : (a : ℕ) (xs ys : List ℕ) → AreAt a xs → AreAt a ys → length xs ≡ length ys → xs ≡ ys
  same_bytes a [] [] h i e = refl
  same_bytes a [] (y ∷ ys) h i e = absurd (omega arith)
  same_bytes a (x ∷ xs) [] h i e = absurd (omega arith)
  same_bytes a (x ∷ xs) (y ∷ ys) h i e =
      let same : Some x ≡ Some y = sym h.0.1 ∙ i.0.1 in
      let first : x ≡ y = cc same in
      ap₂ ◌∷◌ first (same_bytes (a + 1) xs ys h.1 i.1 (omega arith))

-- what is read near the head of a structure is read of its first bytes
little_early : (n i : ℕ) (xs ys : List ℕ) → i + n ≤ length xs → little_from i n (xs ++ ys) ≡ little_from i n xs
little_early zero i xs ys le = refl
little_early (suc n) i xs ys le = ap₂ (λ a b. a + 256 * b) (get_or-append xs ys 0 i (omega arith)) (little_early n (suc i) xs ys (omega arith))

pub number_early : (n at : ℕ) (xs ys : List ℕ) → at + n ≤ length xs → little_number n (drop at (xs ++ ys)) ≡ little_number n (drop at xs)
number_early n at xs ys le = ap (little_number n) (drop-append-le at xs ys (omega arith)) ∙ little_early n 0 (drop at xs) ys (omega (arith, length-drop at xs))

-- what the tests of a table say
signature_read : (of : TableKind) (header : List ℕ) → signed of header ≡ Ok tt → take 4 header ≡ signature_of of
unfolding signed
signature_read of header e = same_text (take 4 header) (signature_of of) (sym (tested (bytes_eq (take 4 header) (signature_of of)) tt _ tt e).0)

pub sum_read : (bytes : List ℕ) (u : Unit {0}) → summed bytes ≡ Ok u → SumsToZero bytes
unfolding summed
sum_read bytes u e = eqb-true (sum bytes % 256) 0 (tested (sum bytes % 256 == 0) tt _ u e).0

least_read : (of : TableKind) (n : ℕ) → is_length of n ≡ true → 36 ≤ n
least_read kind.Rsdt n e = grind (arith, nat_tests)
least_read kind.Xsdt n e = grind (arith, nat_tests)
least_read kind.Fadt n e = grind (arith, nat_tests)
least_read kind.Madt n e = grind (arith, nat_tests)
least_read kind.Dsdt n e = grind (arith, nat_tests)
least_read kind.Ssdt n e = grind (arith, nat_tests)

pub record TableRead (image : map.FinMap nat_cmp ℕ) (of : TableKind) (address : ℕ) (table : List ℕ) : Type 0 where
  pub is : IsTable image (signature_of of) address table
  pub length_is : is_length of (length table) ≡ true

table_by : (image : map.FinMap nat_cmp ℕ) (of : TableKind) (a count : ℕ) (header table rest : List ℕ) → length header ≡ 36 → take 4 header ≡ signature_of of
    → is_length of (little_number 4 (drop 4 header)) ≡ true → length table ≡ little_number 4 (drop 4 header) → StandsAt image a table → table ≡ header ++ rest → SumsToZero table
    → TableRead image of a table
table_by image of a count header table rest long signature fits count_is at is zero_sum =
    let number : little_number 4 (drop 4 table) ≡ little_number 4 (drop 4 header) = ap (λ x. little_number 4 (drop 4 x)) is ∙ number_early 4 4 header rest (omega arith) in
    let fits_too : is_length of (length table) ≡ true = ap (is_length of) count_is ∙ fits in
    record {
      is = record {
        stands = at;
        least = least_read of (length table) fits_too;
        length_is = count_is ∙ sym number;
        signature_is = ap (take 4) is ∙ (take-append-le 4 header rest (omega arith) ∙ signature);
        checksum = zero_sum;
      };
      length_is = fits_too;
    }

pub table_read : (image : map.FinMap nat_cmp ℕ) (of : TableKind) (a : ℕ) (table : List ℕ) → table_at image of a ≡ Ok table → TableRead image of a table
unfolding table_at length_in
table_read image of a table e =
    let h = came (bytes_at image a 36) _ table e in
    let s = came (signed of h.before) _ table h.rest in
    let c = came (length_in of h.before) _ table s.rest in
    let t = came (bytes_at image a c.before) _ table c.rest in
    let z = came (summed t.before) _ table t.rest in
    let is : t.before ≡ table = cc z.rest in
    let header = bytes_read image a 36 h.before h.is in
    let all = bytes_read image a c.before t.before t.is in
    let fits = tested (is_length of (little_number 4 (drop 4 h.before))) (little_number 4 (drop 4 h.before)) _ c.before c.is in
    let least = least_read of _ fits.0 in
    let long : length h.before ≤ length t.before = let count = fits.1 in let l = all.1 in let m = header.1 in omega arith in
    let b = begins image a h.before t.before header.0 all.0 long in
    subst (TableRead image of a) is (table_by image of a c.before h.before t.before b.0 header.1 (signature_read of h.before s.is) fits.0 (all.1 ∙ sym fits.1) (stands image a t.before all.0) b.1 (sum_read t.before z.before z.is))
