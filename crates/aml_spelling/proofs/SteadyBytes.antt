-- Bytes and numbers are steady.
use Rattle.std.proofs.Common.{◌≡◌, ℕ, suc, ◌+◌, ◌-◌, ◌/◌, ◌<◌, ◌≤◌, List, [], ◌∷◌, ◌++◌, length, take, drop, Bool, true, false, Ok, Err, refl, subst, ◌∙◌, sym, ap, length-append, length-drop, arith, ◌⊎◌, inl, inr}
use Rattle.std.specs.Prelude.{nat_lt, ◌==◌, ◌||◌, if◌then◌else◌}
use Rattle.std.specs.List.{prefix_len}
use Rattle.std.proofs.lemmas.List.{take-append-le, drop-append-le}
use Rattle.std.proofs.lemmas.List.Folds.{length-prefix_len}
use Rattle.ar_space.specs.declared.refusal.Refusal.{Refusal}
use Rattle.ar_space.specs.declared.refusal.Refusal.TheVariants as refusals
use Rattle.ar_space.specs.declared.refusal.TermFault.TheVariants.{BadPkgLength, Truncated}
use Rattle.ar_space.specs.Outcome.{Outcome}
use Rattle.ar_space.specs.Change.{give, stop, go_on, ◌>>=◌}
use Rattle.aml_grammar.specs.State.{State, Step, look, byte, byte_of, peek, peek_of, next_bytes, all_bytes, past, text_length, text, little_endian, integer, length_of, bit_count, size_after, package_size, is_next}
use Rattle.aml_spelling.specs.Reach.{ahead, Placed}
use Rattle.aml_spelling.proofs.Steady.{seen, reached, Apart, Alike, Steady, apart_at, apart_rest, apart_length, steady_on, steady_bind, steady_then, steady_as, steady_give, steady_map, steady_stop, steady_if, steady_look}

-- ---- one byte

byte_onward : (bs : List ℕ) (s : State) → s.at + ahead bs ≤ reached false (byte_of bs s).0 (byte_of bs s).1
byte_onward [] s = omega arith
byte_onward (b ∷ bs) s = omega arith

byte_placed : (bs : List ℕ) (s : State) → s.rest ≡ bs → (r : Refusal) → (byte_of bs s).0 ≡ Err r → Placed r (byte_of bs s).1
byte_placed [] s is r e =
    let f : refusals.Term Truncated s.at ≡ r = cc e in
    let none : length s.rest ≡ 0 = rw is refl in
    subst (λ (x : Refusal). Placed x s) f (omega (arith, none))
byte_placed (b ∷ bs) s is r e = absurd (cc e)

byte_same : (p : ℕ) (s t : State) (apart : Apart p s t) (front rs rt : List ℕ) → apart.front ≡ front → s.rest ≡ rs → t.rest ≡ rt → reached false (byte_of rs s).0 (byte_of rs s).1 ≤ p
    → Alike p (byte_of rs s).0 (byte_of rs s).1 (byte_of rt t).0 (byte_of rt t).1
byte_same p s t apart front [] [] f is js le = (ap (λ n. Err (refusals.Term Truncated n)) (apart_at apart), apart_at apart)
byte_same p s t apart front [] (c ∷ rt) f is js le = let k : length (c ∷ rt) ≡ length {A = ℕ} [] = sym (ap (λ (l : List ℕ). length l) js) ∙ apart_length apart ∙ ap (λ (l : List ℕ). length l) is in absurd (omega (arith, k))
byte_same p s t apart front (b ∷ rs) [] f is js le = let k : length {A = ℕ} [] ≡ length (b ∷ rs) = sym (ap (λ (l : List ℕ). length l) js) ∙ apart_length apart ∙ ap (λ (l : List ℕ). length l) is in absurd (omega (arith, k))
byte_same p s t apart [] (b ∷ rs) (c ∷ rt) f is js le = let k : s.at + length {A = ℕ} [] ≡ p = subst (λ (l : List ℕ). s.at + length l ≡ p) f apart.here in absurd (omega (arith, k, le))
byte_same p s t apart (d ∷ front) (b ∷ rs) (c ∷ rt) f is js le =
    let here : s.at + length (d ∷ front) ≡ p = subst (λ (l : List ℕ). s.at + length l ≡ p) f apart.here in
    let one : b ∷ rs ≡ (d ∷ front) ++ apart.back = sym is ∙ apart.one ∙ ap (λ l. l ++ apart.back) f in
    let two : c ∷ rt ≡ (d ∷ front) ++ apart.other = sym js ∙ apart_rest apart ∙ ap (λ l. l ++ apart.other) f in
    let first : c ≡ b = cc (one, two) in
    let left : rs ≡ front ++ apart.back = cc one in
    let right : rt ≡ front ++ apart.other = cc two in (
      ap (λ n. Ok n) first,
      record {
        front = front;
        back = apart.back;
        other = apart.other;
        one = left;
        size = apart.size;
        two = rw right (ap (λ (u : State). record u { at = u.at + 1; rest = front ++ apart.other }) apart.two);
        here = omega (arith, here);
      },
    )

pub steady_byte : (s : State) → Steady true false byte s
unfolding byte
steady_byte s = record {
  onward = byte_onward s.rest s;
  placed = byte_placed s.rest s refl;
  same = λ p t apart le. byte_same p s t apart apart.front s.rest t.rest refl refl refl le;
}

byte_on : (bs : List ℕ) (s s1 : State) (b : ℕ) → byte_of bs s ≡ (Ok b, s1) → s1.at ≡ s.at + 1
byte_on [] s s1 b e = absurd (cc (ap (λ (q : Outcome ℕ × State). q.0) e))
byte_on (c ∷ bs) s s1 b e = sym (ap (λ (q : Outcome ℕ × State). q.1.at) e)

pub one_on : (s s1 : State) (b : ℕ) → byte s ≡ (Ok b, s1) → s1.at ≡ s.at + 1
unfolding byte
one_on s s1 b e = byte_on s.rest s s1 b e

-- the next byte, which stays
peek_onward : {B : Type 0} {w : Bool} (k : ℕ → Step B) (s : State) (rs : List ℕ) → s.rest ≡ rs → ((b : ℕ) (bs : List ℕ) → s.rest ≡ b ∷ bs → Steady true w (k b) s) → s.at + ahead rs ≤ reached w (go_on (peek_of rs s).0 (peek_of rs s).1 k).0 (go_on (peek_of rs s).0 (peek_of rs s).1 k).1
unfolding go_on
peek_onward k s [] is h = omega arith
peek_onward {w = w} k s (b ∷ bs) is h = subst (λ (l : List ℕ). s.at + ahead l ≤ reached w (k b s).0 (k b s).1) is (h b bs is).onward

peek_placed : {B : Type 0} {w : Bool} (k : ℕ → Step B) (s : State) (rs : List ℕ) → s.rest ≡ rs → ((b : ℕ) (bs : List ℕ) → s.rest ≡ b ∷ bs → Steady true w (k b) s) → (r : Refusal)
    → (go_on (peek_of rs s).0 (peek_of rs s).1 k).0 ≡ Err r → Placed r (go_on (peek_of rs s).0 (peek_of rs s).1 k).1
unfolding go_on
peek_placed k s [] is h r e =
    let f : refusals.Term Truncated s.at ≡ r = cc e in
    let none : length s.rest ≡ 0 = rw is refl in
    subst (λ (x : Refusal). Placed x s) f (omega (arith, none))
peek_placed k s (b ∷ bs) is h r e = (h b bs is).placed r e

peek_same : {B : Type 0} {w : Bool} (k : ℕ → Step B) (p : ℕ) (s t : State) (apart : Apart p s t) (front rs rt : List ℕ) → apart.front ≡ front → s.rest ≡ rs → t.rest ≡ rt → ((b : ℕ) (bs : List ℕ) → s.rest ≡ b ∷ bs → Steady true w (k b) s)
    → reached w (go_on (peek_of rs s).0 (peek_of rs s).1 k).0 (go_on (peek_of rs s).0 (peek_of rs s).1 k).1 ≤ p
    → Alike p (go_on (peek_of rs s).0 (peek_of rs s).1 k).0 (go_on (peek_of rs s).0 (peek_of rs s).1 k).1 (go_on (peek_of rt t).0 (peek_of rt t).1 k).0 (go_on (peek_of rt t).0 (peek_of rt t).1 k).1
unfolding go_on
peek_same k p s t apart front [] [] f is js h le = (ap (λ n. Err (refusals.Term Truncated n)) (apart_at apart), apart_at apart)
peek_same k p s t apart front [] (c ∷ rt) f is js h le = let n : length (c ∷ rt) ≡ length {A = ℕ} [] = sym (ap (λ (l : List ℕ). length l) js) ∙ apart_length apart ∙ ap (λ (l : List ℕ). length l) is in absurd (omega (arith, n))
peek_same k p s t apart front (b ∷ rs) [] f is js h le = let n : length {A = ℕ} [] ≡ length (b ∷ rs) = sym (ap (λ (l : List ℕ). length l) js) ∙ apart_length apart ∙ ap (λ (l : List ℕ). length l) is in absurd (omega (arith, n))
peek_same {w = w} k p s t apart [] (b ∷ rs) (c ∷ rt) f is js h le =
    let n : s.at + length {A = ℕ} [] ≡ p = subst (λ (l : List ℕ). s.at + length l ≡ p) f apart.here in
    let on : s.at + ahead (b ∷ rs) ≤ reached w (k b s).0 (k b s).1 = subst (λ (l : List ℕ). s.at + ahead l ≤ reached w (k b s).0 (k b s).1) is (h b rs is).onward in
    absurd (omega (arith, n, on, le))
peek_same k p s t apart (d ∷ front) (b ∷ rs) (c ∷ rt) f is js h le =
    let one : b ∷ rs ≡ (d ∷ front) ++ apart.back = sym is ∙ apart.one ∙ ap (λ l. l ++ apart.back) f in
    let two : c ∷ rt ≡ (d ∷ front) ++ apart.other = sym js ∙ apart_rest apart ∙ ap (λ l. l ++ apart.other) f in
    let first : c ≡ b = cc (one, two) in
    subst (λ x. Alike p (k b s).0 (k b s).1 (k x t).0 (k x t).1) (sym first) ((h b rs is).same p t apart le)

pub steady_peek : {B : Type 0} {w : Bool} {k : ℕ → Step B} {s : State} → ((b : ℕ) (bs : List ℕ) → s.rest ≡ b ∷ bs → Steady true w (k b) s) → Steady true w (peek >>= k) s
unfolding ◌>>=◌ peek
steady_peek {k = k} {s = s} h = record {
  onward = peek_onward k s s.rest refl h;
  placed = peek_placed k s s.rest refl h;
  same = λ p t apart le. peek_same k p s t apart apart.front s.rest t.rest refl refl refl h le;
}

-- ---- several bytes

ahead_length : (l : List ℕ) → ahead l ≤ length l
ahead_length [] = omega arith
ahead_length (c ∷ l) = omega arith

pub ahead_one : (l : List ℕ) → ahead l ≤ 1
ahead_one [] = omega arith
ahead_one (c ∷ l) = omega arith

seen_length : (b : Bool) (s : State) → seen b s ≤ s.at + length s.rest
seen_length false s = omega arith
seen_length true s = omega (arith, ahead_length s.rest)

seen_past : (b : Bool) (n : ℕ) (s : State) → (b ≡ true → 0 < n) → seen b s ≤ s.at + n
seen_past false n s some = omega arith
seen_past true n s some = let k : 0 < n = some refl in omega (arith, k, ahead_one s.rest)

-- the bytes that two states have in common
common : {p : ℕ} {s t : State} (apart : Apart p s t) (n : ℕ) → s.at + n ≤ p → n ≤ length apart.front
common apart n le = omega (arith, apart.here, le)

taken_same : {p : ℕ} {s t : State} (apart : Apart p s t) (n : ℕ) → s.at + n ≤ p → take n t.rest ≡ take n s.rest
taken_same apart n le =
    let k = common apart n le in
    ap (λ (l : List ℕ). take n l) (apart_rest apart) ∙ take-append-le n apart.front apart.other k ∙ sym (take-append-le n apart.front apart.back k) ∙ ap (λ (l : List ℕ). take n l) (sym apart.one)

pub apart_past : {p : ℕ} {s t : State} (apart : Apart p s t) (n : ℕ) → s.at + n ≤ p → Apart p (past n s) (past n t)
apart_past {s = s} apart n le =
    let k = common apart n le in
    record {
      front = drop n apart.front;
      back = apart.back;
      other = apart.other;
      size = apart.size;
      one = ap (λ (l : List ℕ). drop n l) apart.one ∙ drop-append-le n apart.front apart.back k;
      two = ap (λ (u : State). past n u) apart.two ∙ ap (λ (l : List ℕ). record (past n s) { rest = l }) (drop-append-le n apart.front apart.other k);
      here = omega (arith, apart.here, k, length-drop n apart.front);
    }

-- the next n bytes, where so many are left
took : ℕ → Step (List ℕ)
took n s = (Ok (take n s.rest), past n s)

steady_took : {b : Bool} (n : ℕ) (s : State) → (b ≡ true → 0 < n) → Steady b false (took n) s
unfolding took
steady_took {b = b} n s some = record {
  onward = seen_past b n s some;
  placed = λ r e. absurd (cc e);
  same = λ p t apart le. (ap (λ l. Ok l) (taken_same apart n le), apart_past apart n le);
}

bytes_or_fault : ℕ → ℕ → Bool → Step (List ℕ)
bytes_or_fault n far short = if short then stop (refusals.Term Truncated far) else took n

bytes_is : (n : ℕ) (s : State) (short : Bool) → nat_lt (length s.rest) n ≡ short → next_bytes n s ≡ bytes_or_fault n (s.at + length s.rest) short s
unfolding next_bytes took stop bytes_or_fault
bytes_is n s true is = rw is refl
bytes_is n s false is = rw is refl

steady_bytes_if : {b : Bool} (n : ℕ) (s : State) (short : Bool) → (b ≡ true → 0 < n) → Steady b false (bytes_or_fault n (s.at + length s.rest) short) s
unfolding bytes_or_fault
steady_bytes_if {b = b} n s short some = steady_if short (λ _. steady_stop (refusals.Term Truncated (s.at + length s.rest)) (seen_length b s) refl) (λ _. steady_took n s some)

pub steady_bytes : {b : Bool} (n : ℕ) (s : State) → (b ≡ true → 0 < n) → Steady b false (next_bytes n) s
steady_bytes n s some = steady_as {n = bytes_or_fault n (s.at + length s.rest) (nat_lt (length s.rest) n)} (bytes_is n s (nat_lt (length s.rest) n) refl)
    (λ p t apart far on.
    let len = apart_length apart in
    let end_at : t.at + length t.rest ≡ s.at + length s.rest = omega (arith, apart_at apart, len) in
    bytes_is n t (nat_lt (length s.rest) n) (ap (λ k. nat_lt k n) len) ∙ ap (λ k. bytes_or_fault n k (nat_lt (length s.rest) n) t) end_at)
    (steady_bytes_if n s (nat_lt (length s.rest) n) some)

pub steady_integer : {b : Bool} (n : ℕ) (s : State) → (b ≡ true → 0 < n) → Steady b false (integer n) s
unfolding integer
steady_integer n s some = steady_map little_endian (steady_bytes n s some)

never : {n : ℕ} → false ≡ true → 0 < n
never e = absurd (cc e)

pub steady_bit_count : (s : State) → Steady true false bit_count s
unfolding bit_count
steady_bit_count s = steady_then (steady_byte s) (λ lead s1. steady_map (length_of lead) (steady_integer (lead / 64) s1 never))

none_of : (l : List ℕ) → length l ≡ 0 → l ≡ []
none_of [] e = refl
none_of (b ∷ l) e = absurd (omega (arith, e))

pub steady_all : (s : State) → Steady true false all_bytes s
unfolding all_bytes
steady_all s = record {
  onward = seen_length true s;
  placed = λ r e. absurd (cc e);
  same = λ p t apart le.
      let whole : length s.rest ≡ length apart.front + length apart.back = ap (λ (l : List ℕ). length l) apart.one ∙ length-append apart.front apart.back in
      let back : apart.back ≡ [] = none_of apart.back (omega (arith, apart.here, le, whole)) in
      let other : apart.other ≡ [] = none_of apart.other (apart.size ∙ ap (λ (l : List ℕ). length l) back) in
      let rests : t.rest ≡ s.rest = apart_rest apart ∙ rw (other, ← back) (sym apart.one) in
      let none : length apart.back ≡ 0 = ap (λ (l : List ℕ). length l) back in (
        ap (λ l. Ok l) rests,
        record {
          front = [];
          back = [];
          other = [];
          one = refl;
          size = refl;
          two = rw (rests, apart_at apart) (ap (λ (u : State). record u { at = s.at + length s.rest; rest = [] }) apart.two);
          here = omega (arith, apart.here, whole, none);
        },
      );
}

-- ---- texts

prefix_step : (c : Bool) (m n k : ℕ) → (suc m ≤ k → n ≡ m) → suc (if c then 1 + m else 0) ≤ suc k → (if c then 1 + n else 0) ≡ (if c then 1 + m else 0)
prefix_step true m n k ih le = let e : n ≡ m = ih (omega (arith, le)) in rw e refl
prefix_step false m n k ih le = refl

pub prefix_same : (q : ℕ → Bool) (front back other : List ℕ) → suc (prefix_len q (front ++ back)) ≤ length front → prefix_len q (front ++ other) ≡ prefix_len q (front ++ back)
prefix_same q [] back other le = absurd (omega (arith, le))
prefix_same q (b ∷ front) back other le = prefix_step (q b) (prefix_len q (front ++ back)) (prefix_len q (front ++ other)) (length front) (prefix_same q front back other) le

-- how far a test holds is the same, where it ends before the bytes that differ or no byte differs
pub counted_same : {p : ℕ} {s t : State} (q : ℕ → Bool) (apart : Apart p s t) → (s.at + suc (prefix_len q s.rest) ≤ p) ⊎ (s.at + length s.rest ≤ p) → prefix_len q t.rest ≡ prefix_len q s.rest
counted_same {s = s} q apart (inl le) =
    let same : prefix_len q s.rest ≡ prefix_len q (apart.front ++ apart.back) = ap (λ (l : List ℕ). prefix_len q l) apart.one in
    ap (λ (l : List ℕ). prefix_len q l) (apart_rest apart) ∙ prefix_same q apart.front apart.back apart.other (omega (arith, apart.here, le, same)) ∙ sym same
counted_same {s = s} q apart (inr le) =
    let whole : length s.rest ≡ length apart.front + length apart.back = ap (λ (l : List ℕ). length l) apart.one ∙ length-append apart.front apart.back in
    let back : apart.back ≡ [] = none_of apart.back (omega (arith, apart.here, le, whole)) in
    let other : apart.other ≡ [] = none_of apart.other (apart.size ∙ ap (λ (l : List ℕ). length l) back) in
    ap (λ (l : List ℕ). prefix_len q l) (apart_rest apart ∙ rw (other, ← back) (sym apart.one))

text_of : ℕ → Step (List ℕ)
text_of n = next_bytes (n + 1) >>= (λ bs. give (take n bs))

text_far : (n p : ℕ) (s : State) (short : Bool) → nat_lt (length s.rest) (n + 1) ≡ short → reached false (text_of n s).0 (text_of n s).1 ≤ p → (s.at + suc n ≤ p) ⊎ (s.at + length s.rest ≤ p)
unfolding text_of next_bytes ◌>>=◌ go_on give
text_far n p s true is le = inr (rw is at le)
text_far n p s false is le = let far : s.at + (n + 1) ≤ p = rw is at le in inl (omega (arith, far))

steady_text_of : (n : ℕ) (s : State) → Steady true false (text_of n) s
unfolding text_of
steady_text_of n s = steady_map (take n) (steady_bytes (n + 1) s (λ _. omega arith))

pub steady_text : (s : State) → Steady true false text s
unfolding text text_of ◌>>=◌ go_on look
steady_text s = steady_as {m = text} {n = text_of (text_length s.rest)} refl
    (λ p t apart far on.
    let count = λ (l : List ℕ). length-prefix_len (λ b. nat_lt 0 b) l in
    let ends : (s.at + suc (text_length s.rest) ≤ p) ⊎ (s.at + length s.rest ≤ p) = text_far (text_length s.rest) p s (nat_lt (length s.rest) (text_length s.rest + 1)) refl far in
    let same : prefix_len (λ b. nat_lt 0 b) t.rest ≡ prefix_len (λ b. nat_lt 0 b) s.rest = counted_same (λ b. nat_lt 0 b) apart (rw (count s.rest) at ends) in
    ap (λ n. text_of n t) (count t.rest ∙ same ∙ sym (count s.rest)))
    (steady_text_of (text_length s.rest) s)

-- ---- lengths of packages

size_or_fault : ℕ → ℕ → Bool → Step ℕ
size_or_fault start n past = if past then stop (refusals.Term BadPkgLength start) else give n

size_is : (start spent total : ℕ) (s : State) (c : Bool) → (nat_lt total spent || nat_lt (length s.rest) (total - spent)) ≡ c → size_after start spent total s ≡ size_or_fault start (total - spent) c s
unfolding size_after size_or_fault stop give
size_is start spent total s true is = rw is refl
size_is start spent total s false is = rw is refl

steady_size_if : (start n : ℕ) (s : State) (c : Bool) → start < s.at → Steady false false (size_or_fault start n c) s
unfolding size_or_fault
steady_size_if start n s c lt = steady_if c (λ _. steady_stop (refusals.Term BadPkgLength start) (omega arith) lt) (λ _. steady_give n s)

steady_size_after : (start spent total : ℕ) (s : State) → start < s.at → Steady false false (size_after start spent total) s
steady_size_after start spent total s lt =
    let past : Bool = nat_lt total spent || nat_lt (length s.rest) (total - spent) in
    steady_as {n = size_or_fault start (total - spent) (nat_lt total spent || nat_lt (length s.rest) (total - spent))} (size_is start spent total s (nat_lt total spent || nat_lt (length s.rest) (total - spent)) refl)
    (λ p t apart far on. size_is start spent total t (nat_lt total spent || nat_lt (length s.rest) (total - spent)) (ap (λ k. nat_lt total spent || nat_lt k (total - spent)) (apart_length apart)))
    (steady_size_if start (total - spent) s (nat_lt total spent || nat_lt (length s.rest) (total - spent)) lt)

pub steady_package_size : (s : State) → Steady true false package_size s
unfolding package_size
steady_package_size s = steady_look (λ s. s.at) _ (λ ys. refl) (steady_bind (steady_byte s) (λ lead s1 e. steady_bind (steady_integer (lead / 64) s1 never) (λ more s2 f.
    let one : s1.at ≡ s.at + 1 = one_on s s1 lead e in
    let on : s1.at ≤ s2.at = steady_on (steady_integer {b = false} (lead / 64) s1 never) f in
    steady_size_after s.at (lead / 64 + 1) (length_of lead more) s2 (omega (arith, one, on)))))

-- ---- whether a byte stands next

next_cases : (p : ℕ) (s t : State) (apart : Apart p s t) (front rs rt : List ℕ) (b : ℕ) → apart.front ≡ front → s.rest ≡ rs → t.rest ≡ rt → s.at + ahead rs ≤ p → is_next b rt ≡ is_next b rs
next_cases p s t apart front [] [] b f is js le = refl
next_cases p s t apart front [] (c ∷ rt) b f is js le = let n : length (c ∷ rt) ≡ length {A = ℕ} [] = sym (ap (λ (l : List ℕ). length l) js) ∙ apart_length apart ∙ ap (λ (l : List ℕ). length l) is in absurd (omega (arith, n))
next_cases p s t apart front (d ∷ rs) [] b f is js le = let n : length {A = ℕ} [] ≡ length (d ∷ rs) = sym (ap (λ (l : List ℕ). length l) js) ∙ apart_length apart ∙ ap (λ (l : List ℕ). length l) is in absurd (omega (arith, n))
next_cases p s t apart [] (d ∷ rs) (c ∷ rt) b f is js le = let n : s.at + length {A = ℕ} [] ≡ p = subst (λ (l : List ℕ). s.at + length l ≡ p) f apart.here in absurd (omega (arith, n, le))
next_cases p s t apart (g ∷ front) (d ∷ rs) (c ∷ rt) b f is js le =
    let one : d ∷ rs ≡ (g ∷ front) ++ apart.back = sym is ∙ apart.one ∙ ap (λ l. l ++ apart.back) f in
    let two : c ∷ rt ≡ (g ∷ front) ++ apart.other = sym js ∙ apart_rest apart ∙ ap (λ l. l ++ apart.other) f in
    let first : c ≡ d = cc (one, two) in
    ap (λ e. e == b) first

pub next_same : {p : ℕ} {s t : State} (apart : Apart p s t) (b : ℕ) → s.at + ahead s.rest ≤ p → is_next b t.rest ≡ is_next b s.rest
next_same {p = p} {s = s} {t = t} apart b le = next_cases p s t apart apart.front s.rest t.rest b refl refl refl le
