-- An address space of bytes, as accesses see it.
use Rattle.std.proofs.Common.{◌≡◌, ◌≢◌, ◌<◌, ◌≤◌, ℕ, zero, suc, ◌+◌, ◌*◌, ◌/◌, ◌%◌, ◌^◌, nat_lt, Bool, true, false, if◌then◌else◌, cond, List, [], ◌∷◌, length, ◌⊎◌, inl, inr, Option, Some, None, refl, ap, sym, ◌∙◌, subst, arith, rules}
use Rattle.std.proofs.lemmas.Bool.{lt-ltb, cases_lt}
use Rattle.std.specs.Option.{option_and_then, option_map}
use Rattle.std.specs.FinMap.{FinMap, get, insert, contains_key, get-insert}
use Rattle.std.specs.declared.cmp.Ordering.{Ordering}
use Rattle.std.specs.declared.cmp.Ordering.TheVariants.{Less, Equal, Greater}
use Rattle.std.specs.Ordering.{nat_cmp, eq_by_cmp, is_eq}
use Rattle.std.specs.Cmp.{nat_cmp_total, eq_by_cmp_equiv}
use Rattle.std.proofs.lemmas.Map.Lookups.{exact_unsigned}
use Rattle.ar_space.specs.declared.space.Place.{Place}
use Rattle.ar_space.specs.declared.space.Place.TheVariants.{Memory, Io}
use Rattle.ar_space.specs.Accesses.{place_on}
use Rattle.ar_space.specs.Maps.{replaced}
use Rattle.ar_space.specs.Registers.{register_cmp}
use Rattle.ar_space.specs.Bytes.{Bytes, byte_at, with_replaced, number_on, replaced_on, written_on}

-- how the bytes of one address space are read and replaced
pub record Cells : Type 1 where
  pub limit : ℕ
  pub place : ℕ → Place
  pub get : Bytes → ℕ → Option ℕ
  pub on : (a n : ℕ) → place_on (place a) n ≡ (if nat_lt (a + n) limit then Some (place (a + n)) else None)
  pub gets : (b : Bytes) (a : ℕ) → byte_at b (place a) ≡ get b a
  pub same : (b : Bytes) (a x y : ℕ) → get b a ≡ Some y → get (with_replaced b (place a) x) a ≡ Some x
  -- what else there is, which no access changes
  pub Others : Type 0
  pub others : Bytes → Others
  pub keeps : (b : Bytes) (a x : ℕ) → others (with_replaced b (place a) x) ≡ others b
  pub other : (b : Bytes) (a x m : ℕ) → m ≢ a → get (with_replaced b (place a) x) m ≡ get b m

at_itself : (k : ℕ) → eq_by_cmp nat_cmp k k ≡ true
at_itself k = (eq_by_cmp_equiv nat_cmp_total).refl k

elsewhere : (q k : ℕ) → q ≢ k → eq_by_cmp nat_cmp q k ≡ false
elsewhere q k h = by_order (nat_cmp q k) refl where
  by_order : (r : Ordering) → nat_cmp q k ≡ r → is_eq r ≡ false
  by_order Less e = refl
  by_order Equal e = absurd (h (exact_unsigned q k e))
  by_order Greater e = refl

pub replaced_same : (m : FinMap nat_cmp ℕ) (k x y : ℕ) → get m k ≡ Some y → get (replaced m k x) k ≡ Some x
replaced_same m k x y h = rw h (get-insert nat_cmp_total m k x k ∙ ap (λ b. cond b (Some x) (get m k)) (at_itself k))

pub replaced_other : (m : FinMap nat_cmp ℕ) (k x q : ℕ) → q ≢ k → get (replaced m k x) q ≡ get m q
replaced_other m k x q h = by_presence (contains_key m k) where
  by_presence : (b : Bool) → get (if b then insert m k x else m) q ≡ get m q
  by_presence true = get-insert nat_cmp_total m k x q ∙ ap (λ b. cond b (Some x) (get m q)) (elsewhere q k h)
  by_presence false = refl

abbrev pub memory_cells : Cells
memory_cells = record {
  limit = 2 ^ 64;
  place = Memory;
  get = λ b n. get b.memory n;
  on = λ a n. refl;
  gets = λ b a. refl;
  same = λ b a x y h. replaced_same b.memory a x y h;
  Others = FinMap nat_cmp ℕ × FinMap register_cmp ℕ;
  others = λ b. (b.ports, b.registers);
  keeps = λ b a x. refl;
  other = λ b a x m h. replaced_other b.memory a x m h;
}

abbrev pub port_cells : Cells
port_cells = record {
  limit = 2 ^ 16;
  place = Io;
  get = λ b n. get b.ports n;
  on = λ a n. refl;
  gets = λ b a. refl;
  same = λ b a x y h. replaced_same b.ports a x y h;
  Others = FinMap nat_cmp ℕ × FinMap register_cmp ℕ;
  others = λ b. (b.memory, b.registers);
  keeps = λ b a x. refl;
  other = λ b a x m h. replaced_other b.ports a x m h;
}

-- the number of bytes, the lowest first
abbrev pub little : List ℕ → ℕ
little [] = 0
little (x ∷ xs) = x + 256 * little xs

-- the bytes of a number, the lowest first
abbrev pub digits : ℕ → ℕ → List ℕ
digits zero v = []
digits (suc n) v = v % 256 ∷ digits n (v / 256)

-- bytes that stand one behind another
module _ (c : Cells) where
  abbrev pub Stand : Bytes → ℕ → List ℕ → Type 0
  Stand b m [] = Unit {0}
  Stand b m (x ∷ xs) = (c.get b m ≡ Some x) × (m < c.limit) × Stand b (m + 1) xs

  -- a byte n places on
  cell : (b : Bytes) (a n : ℕ) → a + n < c.limit → option_and_then (byte_at b) (place_on (c.place a) n) ≡ c.get b (a + n)
  cell b a n l = ap (option_and_then (byte_at b)) (c.on a n ∙ ap (λ t. if t then Some (c.place (a + n)) else None) (lt-ltb (a + n) c.limit l)) ∙ c.gets b (a + n)

  le-ltb : (a k : ℕ) → k ≤ a → nat_lt a k ≡ false
  le-ltb a k l = search rules

  no_cell : (b : Bytes) (a n : ℕ) → c.limit ≤ a + n → option_and_then (byte_at b) (place_on (c.place a) n) ≡ None
  no_cell b a n l = ap (option_and_then (byte_at b)) (c.on a n ∙ ap (λ t. if t then Some (c.place (a + n)) else None) (le-ltb (a + n) c.limit l))

  -- a number is read where its bytes stand
  pub stand_read : (b : Bytes) (a n : ℕ) (xs : List ℕ) → Stand b (a + n) xs → number_on b (c.place a) n (length xs) ≡ Some (little xs)
  stand_read b a n [] h = refl
  stand_read b a n (x ∷ xs) h =
      let next : a + n + 1 ≡ a + (n + 1) = omega arith in
      let rest = stand_read b a (n + 1) xs (subst (λ m. Stand b m xs) next h.2) in
      rw (cell b a n h.1 ∙ h.0, rest) refl

  pub record Found (b : Bytes) (a n count v : ℕ) : Type 0 where
    pub bytes : List ℕ
    pub many : length bytes ≡ count
    pub stand : Stand b (a + n) bytes
    pub value : v ≡ little bytes

  first_by : (b : Bytes) (a n count v : ℕ) (o : Option ℕ) → a + n < c.limit → c.get b (a + n) ≡ o → ((w : ℕ) → number_on b (c.place a) (n + 1) count ≡ Some w → Found b a (n + 1) count w)
      → option_and_then (λ low. option_map (λ high. low + 256 * high) (number_on b (c.place a) (n + 1) count)) o ≡ Some v → Found b a n (suc count) v
  first_by b a n count v None l at others e = absurd (cc e)
  first_by b a n count v (Some x) l at others e = second_by (number_on b (c.place a) (n + 1) count) refl e where
    second_by : (p : Option ℕ) → number_on b (c.place a) (n + 1) count ≡ p → option_map (λ high. x + 256 * high) p ≡ Some v → Found b a n (suc count) v
    second_by None is f = absurd (cc f)
    second_by (Some w) is f =
        let found = others w is in
        let next : a + (n + 1) ≡ a + n + 1 = omega arith in
        record { bytes = x ∷ found.bytes; many = ap suc found.many; stand = (at, l, subst (λ m. Stand b m found.bytes) next found.stand); value = (let g : v ≡ x + 256 * w = cc f in g ∙ ap (λ y. x + 256 * y) found.value) }

  -- where a number is read its bytes stand
  pub read_stand : (b : Bytes) (a n count v : ℕ) → number_on b (c.place a) n count ≡ Some v → Found b a n count v
  read_stand b a n zero v e = record { bytes = []; many = refl; stand = tt; value = cc e }
  read_stand b a n (suc count) v e = by_limit (cases_lt (a + n) c.limit) (λ w h. read_stand b a (n + 1) count w h) where
    by_limit : (a + n < c.limit) ⊎ (c.limit ≤ a + n) → ((w : ℕ) → number_on b (c.place a) (n + 1) count ≡ Some w → Found b a (n + 1) count w) → Found b a n (suc count) v
    by_limit (inl l) others = first_by b a n count v (c.get b (a + n)) l refl others (ap (option_and_then (λ low. option_map (λ high. low + 256 * high) (number_on b (c.place a) (n + 1) count))) (sym (cell b a n l)) ∙ e)
    by_limit (inr l) others = absurd (let g = ap (option_and_then (λ low. option_map (λ high. low + 256 * high) (number_on b (c.place a) (n + 1) count))) (sym (no_cell b a n l)) ∙ e in cc g)

  -- bytes that stand before a change of others stand after it
  pub stand_kept : (b b' : Bytes) (m : ℕ) (xs : List ℕ) → ((k : ℕ) → m ≤ k → c.get b' k ≡ c.get b k) → Stand b m xs → Stand b' m xs
  stand_kept b b' m [] same h = tt
  stand_kept b b' m (x ∷ xs) same h = (same m (omega arith) ∙ h.0, h.1, stand_kept b b' (m + 1) xs (λ k l. same k (omega (arith, l))) h.2)

  pub record Written (b : Bytes) (a n : ℕ) (xs : List ℕ) (v : ℕ) (b' : Bytes) : Type 0 where
    pub stand : Stand b' (a + n) (digits (length xs) v)
    pub below : (k : ℕ) → k < a + n → c.get b' k ≡ c.get b k
    pub above : (k : ℕ) → a + n + length xs ≤ k → c.get b' k ≡ c.get b k
    pub others : c.others b' ≡ c.others b

  -- a write replaces the bytes that stand, and no others
  pub written : (b : Bytes) (a n : ℕ) (xs : List ℕ) (v : ℕ) → Stand b (a + n) xs → Written b a n xs v (written_on b (c.place a) n (length xs) v)
  written b a n [] v h = record { stand = tt; below = λ k l. refl; above = λ k l. refl; others = refl }
  written b a n (x ∷ xs) v h =
      let on : place_on (c.place a) n ≡ Some (c.place (a + n)) = c.on a n ∙ ap (λ t. if t then Some (c.place (a + n)) else None) (lt-ltb (a + n) c.limit h.1) in
      let next : a + n + 1 ≡ a + (n + 1) = omega arith in
      let b1 = with_replaced b (c.place (a + n)) (v % 256) in
      let others : (k : ℕ) → k ≢ a + n → c.get b1 k ≡ c.get b k = λ k ne. c.other b (a + n) (v % 256) k ne in
      let rest = written b1 a (n + 1) xs (v / 256) (subst (λ m. Stand b1 m xs) next (stand_kept b b1 (a + n + 1) xs (λ k l. others k (λ e. omega (arith, e, l))) h.2)) in
      subst (λ p. Written b a n (x ∷ xs) v (written_on (replaced_on b p (v % 256)) (c.place a) (n + 1) (length xs) (v / 256))) (sym on) (record {
        stand = (rest.below (a + n) (omega arith) ∙ c.same b (a + n) (v % 256) x h.0, h.1, subst (λ m. Stand (written_on b1 (c.place a) (n + 1) (length xs) (v / 256)) m (digits (length xs) (v / 256))) (sym next) rest.stand);
        below = λ k l. rest.below k (omega (arith, l)) ∙ others k (λ e. omega (arith, e, l));
        above = λ k l. rest.above k (omega (arith, l)) ∙ others k (λ e. omega (arith, e, l));
        others = rest.others ∙ c.keeps b (a + n) (v % 256);
      })
