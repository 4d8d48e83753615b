-- What is spelled as a name is read as that name.
use Rattle.std.proofs.Common.{◌≡◌, ℕ, zero, suc, ◌<◌, ◌≤◌, List, [], ◌∷◌, ◌++◌, length, drop, Bool, true, false, Ok, refl, subst, ◌∙◌, sym, ap, append_assoc, arith, ◌⊎◌, inl, inr}
use Rattle.std.specs.Prelude.{◌==◌, ◌&&◌, ◌||◌, nat_le}
use Rattle.std.specs.List.{prefix_len}
use Rattle.std.proofs.lemmas.List.{drop_at}
use Rattle.std.proofs.lemmas.List.Folds.{length-prefix_len}
use Rattle.std.proofs.lemmas.Bool.{eqb-true, ne_eqb, leb-true}
use Rattle.ar_space.specs.Change.{◌>>=◌}
use Rattle.aml_path.specs.declared.segment.Seg.{Seg}
use Rattle.aml_path.specs.declared.name.Prefix.{Prefix}
use Rattle.aml_path.specs.declared.name.Prefix.TheVariants.{Root, Parents}
use Rattle.aml_path.specs.Characters.{is_lead_name_char, is_name_char, is_segment}
use Rattle.aml_path.specs.Paths.{Name, is_null}
use Rattle.aml_path.specs.Segments.{seg_of}
use Rattle.aml_path.proofs.Segments.{seg_of_bytes}
use Rattle.aml_arities.specs.declared.arities.Arity.{Arity}
use Rattle.aml_grammar.specs.State.{State, Step, byte, times, past}
use Rattle.aml_grammar.specs.Names.{only, starts_name, lead_name_char, name_char, segment, segments, multiple_segments, skipping, parents, carets, rooted_name, relative_name, name_string}
use Rattle.aml_scan.specs.Spelling.{parent_prefixes, prefix_bytes, Leads, characters, IsNamePath, IsNameString}
use Rattle.aml_spelling.proofs.Gets.{Gets, gets_then, gets_give, gets_map, gets_value, gets_yes, gets_no, gets_settled, gets_byte, gets_peek}

-- ---- segments

pub and_both : (x y : Bool) → (x && y) ≡ true → (x ≡ true) × (y ≡ true)
and_both true true e = (refl, refl)
and_both true false e = absurd (cc e)
and_both false y e = absurd (cc e)

gets_only : {s : State} {rest : List ℕ} {known : List Arity} (test : ℕ → Bool) (b : ℕ) → test b ≡ true → s.rest ≡ b ∷ rest → s.arities ≡ known → Gets (byte >>= only test) s b rest known
gets_only test b may is ar = gets_then _ (gets_byte is ar) (λ s1 is1 ar1. gets_yes _ may (gets_give b is1 ar1))

gets_characters : {s : State} {rest : List ℕ} {known : List Arity} (seg : Seg) (bs : List ℕ) → is_segment bs ≡ true → seg_of bs ≡ Ok seg → s.rest ≡ bs ++ rest → s.arities ≡ known → Gets segment s seg rest known
unfolding segment lead_name_char name_char
gets_characters seg (a ∷ b ∷ c ∷ d ∷ []) valid one is ar =
    let last = and_both (is_lead_name_char a && is_name_char b && is_name_char c) (is_name_char d) valid in
    let third = and_both (is_lead_name_char a && is_name_char b) (is_name_char c) last.0 in
    let second = and_both (is_lead_name_char a) (is_name_char b) third.0 in
    gets_then _ (gets_only is_lead_name_char a second.0 is ar) (λ s1 is1 ar1. gets_then _ (gets_only is_name_char b second.1 is1 ar1) (λ s2 is2 ar2. gets_then _ (gets_only is_name_char c third.1 is2 ar2) (λ s3 is3 ar3.
    gets_then _ (gets_only is_name_char d last.1 is3 ar3) (λ s4 is4 ar4. gets_settled one is4 ar4))))
gets_characters seg [] valid one is ar = absurd (cc valid)
gets_characters seg (a ∷ []) valid one is ar = absurd (cc valid)
gets_characters seg (a ∷ b ∷ []) valid one is ar = absurd (cc valid)
gets_characters seg (a ∷ b ∷ c ∷ []) valid one is ar = absurd (cc valid)
gets_characters seg (a ∷ b ∷ c ∷ d ∷ e ∷ bs) valid one is ar = absurd (cc valid)

pub gets_segment : {s : State} {rest : List ℕ} {known : List Arity} (seg : Seg) → s.rest ≡ seg.bytes ++ rest → s.arities ≡ known → Gets segment s seg rest known
gets_segment seg is ar = gets_characters seg seg.bytes seg.valid (seg_of_bytes seg) is ar

gets_segments_of : {s : State} {rest : List ℕ} {known : List Arity} (ss : List Seg) → s.rest ≡ characters ss ++ rest → s.arities ≡ known → Gets (times segment (length ss)) s ss rest known
unfolding times
gets_segments_of [] is ar = gets_give [] is ar
gets_segments_of {rest = rest} (seg ∷ ss) is ar = gets_then _ (gets_segment seg (is ∙ append_assoc seg.bytes (characters ss) rest) ar) (λ s1 is1 ar1. gets_map (λ xs. seg ∷ xs) (gets_segments_of ss is1 ar1))

-- ---- first bytes

pub or_either : (x y : Bool) → (x || y) ≡ true → (x ≡ true) ⊎ (y ≡ true)
or_either true y e = inl refl
or_either false y e = inr e

abbrev pub InRange : ℕ → Type 0
InRange b = ((65 ≤ b) × (b ≤ 90)) ⊎ (b ≡ 95)

pub lead_range : (b : ℕ) → is_lead_name_char b ≡ true → InRange b
lead_range b is = elim (or_either (nat_le 65 b && nat_le b 90) (b == 95) is) [
  | inl t ↦ (let k = and_both (nat_le 65 b) (nat_le b 90) t in inl (leb-true 65 b k.0, leb-true b 90 k.1))
  | inr t ↦ inr (eqb-true b 95 t)
]

pub outside_range : (b n : ℕ) → InRange b → (n < 65) ⊎ ((90 < n) × (n < 95)) → (b == n) ≡ false
outside_range b n (inl h) (inl k) = ne_eqb b n (λ e. omega (arith, e, h.0, k))
outside_range b n (inl h) (inr k) = ne_eqb b n (λ e. omega (arith, e, h.1, k.0))
outside_range b n (inr h) (inl k) = ne_eqb b n (λ e. omega (arith, e, h, k))
outside_range b n (inr h) (inr k) = ne_eqb b n (λ e. omega (arith, e, h, k.1))

-- a byte that begins a path of this many segments
pub record First (count b : ℕ) : Type 0 where
  pub caret : (b == 94) ≡ false
  pub root : (b == 92) ≡ false
  pub some : (count ≡ 0) ⊎ (((b == 0) ≡ false) × (starts_name b ≡ true))

first_letter : (count b : ℕ) → is_lead_name_char b ≡ true → First count b
unfolding starts_name
first_letter count b is =
    let range = lead_range b is in
    let not_root : (b == 92) ≡ false = outside_range b 92 range (inr (omega arith, omega arith)) in
    let not_caret : (b == 94) ≡ false = outside_range b 94 range (inr (omega arith, omega arith)) in
    let not_dual : (b == 46) ≡ false = outside_range b 46 range (inl (omega arith)) in
    let not_multi : (b == 47) ≡ false = outside_range b 47 range (inl (omega arith)) in
    record { caret = not_caret; root = not_root; some = inr (outside_range b 0 range (inl (omega arith)), rw (not_root, not_caret, not_dual, not_multi, is) refl) }

first_dual : (count : ℕ) → First count 46
unfolding starts_name
first_dual count = record { caret = refl; root = refl; some = inr (refl, refl) }

first_multi : (count : ℕ) → First count 47
unfolding starts_name
first_multi count = record { caret = refl; root = refl; some = inr (refl, refl) }

first_null : (count : ℕ) → count ≡ 0 → First count 0
first_null count none = record { caret = refl; root = refl; some = inl none }

pub letter_of : (bs : List ℕ) → is_segment bs ≡ true → (b : ℕ) × (left : List ℕ) × (bs ≡ b ∷ left) × (is_lead_name_char b ≡ true)
letter_of (a ∷ b ∷ c ∷ d ∷ []) valid =
    let last = and_both (is_lead_name_char a && is_name_char b && is_name_char c) (is_name_char d) valid in
    let third = and_both (is_lead_name_char a && is_name_char b) (is_name_char c) last.0 in
    let second = and_both (is_lead_name_char a) (is_name_char b) third.0 in
    (a, b ∷ c ∷ d ∷ [], refl, second.0)
letter_of [] valid = absurd (cc valid)
letter_of (a ∷ []) valid = absurd (cc valid)
letter_of (a ∷ b ∷ []) valid = absurd (cc valid)
letter_of (a ∷ b ∷ c ∷ []) valid = absurd (cc valid)
letter_of (a ∷ b ∷ c ∷ d ∷ e ∷ bs) valid = absurd (cc valid)

-- a segment begins with none of the bytes that a field element of another kind begins with
pub seg_begins : (seg : Seg) → (b : ℕ) × (left : List ℕ) × (seg.bytes ≡ b ∷ left) × ((b == 0) ≡ false) × ((b == 1) ≡ false) × ((b == 2) ≡ false) × ((b == 3) ≡ false)
seg_begins seg =
    let k = letter_of seg.bytes seg.valid in
    let range = lead_range k.0 k.3 in
    (k.0, k.1, k.2, outside_range k.0 0 range (inl (omega arith)), outside_range k.0 1 range (inl (omega arith)), outside_range k.0 2 range (inl (omega arith)), outside_range k.0 3 range (inl (omega arith)))

-- the bytes of a path begin so
pub path_first : (ss : List Seg) (lead : List ℕ) → Leads (length ss) lead → (b : ℕ) × (left : List ℕ) × (lead ++ characters ss ≡ b ∷ left) × First (length ss) b
path_first [] [] h = absurd (omega (arith, h))
path_first (seg ∷ ss) [] h = let k = letter_of seg.bytes seg.valid in (k.0, k.1 ++ characters ss, ap (λ l. l ++ characters ss) k.2, first_letter (length (seg ∷ ss)) k.0 k.3)
path_first ss (b ∷ []) (inl h) = (b, characters ss, refl, rw h.1 (first_null (length ss) h.0))
path_first ss (b ∷ []) (inr h) = (b, characters ss, refl, rw h.1 (first_dual (length ss)))
path_first ss (b ∷ c ∷ []) h = (b, c ∷ characters ss, refl, rw h.1 (first_multi (length ss)))
path_first ss (b ∷ c ∷ d ∷ lead) h = absurd h

-- ---- paths

gets_skipping : {A : Type 0} {m : Step A} {s : State} {a : A} {b : ℕ} {left rest : List ℕ} {known : List Arity} → s.rest ≡ b ∷ left → s.arities ≡ known → ((s1 : State) → s1.rest ≡ left → s1.arities ≡ known → Gets m s1 a rest known) → Gets (skipping m) s a rest known
gets_skipping is ar h = gets_then _ (gets_byte is ar) h

gets_so_many : {s : State} {rest : List ℕ} {known : List Arity} (n : ℕ) (ss : List Seg) → length ss ≡ n → s.rest ≡ characters ss ++ rest → s.arities ≡ known → Gets (times segment n) s ss rest known
gets_so_many {s = s} {rest = rest} {known = known} n ss counts is ar = subst (λ (k : ℕ). Gets (times segment k) s ss rest known) counts (gets_segments_of ss is ar)

none_of : (ss : List Seg) → length ss ≡ 0 → ss ≡ []
none_of [] e = refl
none_of (s ∷ ss) e = absurd (omega (arith, e))

one_letter : (ss : List Seg) (rest : List ℕ) → length ss ≡ 1 → (b : ℕ) × (left : List ℕ) × (characters ss ++ rest ≡ b ∷ left) × (is_lead_name_char b ≡ true)
one_letter [] rest e = absurd (omega (arith, e))
one_letter (seg ∷ ss) rest e = let k = letter_of seg.bytes seg.valid in (k.0, (k.1 ++ characters ss) ++ rest, ap (λ l. (l ++ characters ss) ++ rest) k.2, k.3)

gets_path_led : {s : State} {rest : List ℕ} {known : List Arity} (ss : List Seg) (lead : List ℕ) → Leads (length ss) lead → s.rest ≡ lead ++ (characters ss ++ rest) → s.arities ≡ known → Gets segments s ss rest known
unfolding segments multiple_segments
gets_path_led {rest = rest} ss [] h is ar =
    let k = one_letter ss rest h in
    let range = lead_range k.0 k.3 in
    gets_peek _ (is ∙ k.2) (gets_no _ (outside_range k.0 0 range (inl (omega arith))) (gets_no _ (outside_range k.0 46 range (inl (omega arith))) (gets_no _ (outside_range k.0 47 range (inl (omega arith))) (gets_so_many 1 ss h is ar))))
gets_path_led {s = s} {rest = rest} ss (b ∷ []) (inl h) is ar =
    let none : ss ≡ [] = none_of ss h.0 in
    let first : s.rest ≡ 0 ∷ rest = is ∙ rw (h.1, none) refl in
    gets_value (sym none) (gets_peek _ first (gets_skipping first ar (λ s1 is1 ar1. gets_give [] is1 ar1)))
gets_path_led {s = s} {rest = rest} ss (b ∷ []) (inr h) is ar =
    let first : s.rest ≡ 46 ∷ (characters ss ++ rest) = is ∙ ap (λ x. x ∷ (characters ss ++ rest)) h.1 in
    gets_peek _ first (gets_skipping first ar (λ s1 is1 ar1. gets_so_many 2 ss h.0 is1 ar1))
gets_path_led {s = s} {rest = rest} ss (b ∷ c ∷ []) h is ar =
    let first : s.rest ≡ 47 ∷ (c ∷ (characters ss ++ rest)) = is ∙ ap (λ x. x ∷ (c ∷ (characters ss ++ rest))) h.1 in
    gets_peek _ first (gets_skipping first ar (λ s1 is1 ar1. gets_then _ (gets_byte is1 ar1) (λ s2 is2 ar2.
    gets_no _ (ne_eqb c 0 (λ e. omega (arith, e, h.2, h.0))) (gets_so_many c ss (sym h.2) is2 ar2))))
gets_path_led ss (b ∷ c ∷ d ∷ lead) h is ar = absurd h

gets_path : {s : State} {rest : List ℕ} {known : List Arity} (ss : List Seg) (path : List ℕ) → IsNamePath ss path → s.rest ≡ path ++ rest → s.arities ≡ known → Gets segments s ss rest known
gets_path {rest = rest} ss path h is ar = gets_path_led ss h.0 h.2 (is ∙ ap (λ l. l ++ rest) h.1 ∙ append_assoc h.0 (characters ss) rest) ar

-- ---- prefixes

prefixes_length : (n : ℕ) → length (parent_prefixes n) ≡ n
prefixes_length zero = refl
prefixes_length (suc n) = ap suc (prefixes_length n)

prefixes_count : (n b : ℕ) (left : List ℕ) → (b == 94) ≡ false → prefix_len (λ c. c == 94) (parent_prefixes n ++ b ∷ left) ≡ n
prefixes_count zero b left other = rw other refl
prefixes_count (suc n) b left other = rw (prefixes_count n b left other) (omega arith)

gets_parents : {s : State} {known : List Arity} (n b : ℕ) (left : List ℕ) → (b == 94) ≡ false → s.rest ≡ parent_prefixes n ++ b ∷ left → s.arities ≡ known → Gets parents s n (b ∷ left) known
unfolding parents
gets_parents {s = s} n b left other is ar =
    let count : carets s.rest ≡ n = length-prefix_len (λ c. c == 94) s.rest ∙ ap (λ (l : List ℕ). prefix_len (λ c. c == 94) l) is ∙ prefixes_count n b left other in
    record {
      after = past (carets s.rest) s;
      is = ap (λ k. (Ok k, past (carets s.rest) s)) count;
      left = rw count (ap (λ (l : List ℕ). drop n l) is ∙ drop_at (parent_prefixes n) (b ∷ left) n (prefixes_length n));
      knows = ar;
    }

-- ---- whole names

gets_relative : {s : State} {rest : List ℕ} {known : List Arity} (n : ℕ) (ss : List Seg) (path : List ℕ) → IsNamePath ss path → s.rest ≡ parent_prefixes n ++ (path ++ rest) → s.arities ≡ known
    → Gets relative_name s (record { prefix = Parents n; segments = ss }) rest known
unfolding relative_name
gets_relative {s = s} {rest = rest} n ss path h is ar =
    let k = path_first ss h.0 h.2 in
    let begins : path ++ rest ≡ k.0 ∷ (k.1 ++ rest) = ap (λ l. l ++ rest) (h.1 ∙ k.2) in
    gets_then _ (gets_parents n k.0 (k.1 ++ rest) k.3.caret (is ∙ ap (λ l. parent_prefixes n ++ l) begins) ar) (λ s1 is1 ar1.
    gets_map (λ xs. record { prefix = Parents n; segments = xs }) (gets_path ss path h (is1 ∙ sym begins) ar1))

some_segments : (ss : List Seg) (b : ℕ) → (length ss == 0) ≡ false → First (length ss) b → ((b == 0) ≡ false) × (starts_name b ≡ true)
some_segments ss b some first = elim first.some [ inl none ↦ absurd (cc (rw none at some)) | inr h ↦ h ]

gets_named : {s : State} {rest : List ℕ} {known : List Arity} (prefix : Prefix) (ss : List Seg) (path : List ℕ) → IsNamePath ss path → is_null (record { prefix = prefix; segments = ss }) ≡ false → s.rest ≡ prefix_bytes prefix ++ (path ++ rest) → s.arities ≡ known
    → Gets name_string s (record { prefix = prefix; segments = ss }) rest known
unfolding name_string rooted_name
gets_named Root ss path h some is ar = gets_peek _ is (gets_then _ (gets_byte is ar) (λ s1 is1 ar1. gets_map (λ xs. record { prefix = Root; segments = xs }) (gets_path ss path h is1 ar1)))
gets_named {rest = rest} (Parents zero) ss path h some is ar =
    let k = path_first ss h.0 h.2 in
    let begins : path ++ rest ≡ k.0 ∷ (k.1 ++ rest) = ap (λ l. l ++ rest) (h.1 ∙ k.2) in
    gets_peek _ (is ∙ begins) (gets_no _ (some_segments ss k.0 some k.3).0 (gets_no _ k.3.root (gets_relative zero ss path h is ar)))
gets_named (Parents (suc n)) ss path h some is ar = gets_peek _ is (gets_relative (suc n) ss path h is ar)

pub gets_name : {s : State} {rest : List ℕ} {known : List Arity} (n : Name) (spelling : List ℕ) → IsNameString n spelling → s.rest ≡ spelling ++ rest → s.arities ≡ known → Gets name_string s n rest known
gets_name {rest = rest} n spelling h is ar = gets_named n.prefix n.segments h.0 h.2 h.3 (is ∙ ap (λ l. l ++ rest) h.1 ∙ append_assoc (prefix_bytes n.prefix) h.0 rest) ar

-- a name begins with another byte than an opcode or a zero
name_begins : (prefix : Prefix) (ss : List Seg) (path : List ℕ) → IsNamePath ss path → is_null (record { prefix = prefix; segments = ss }) ≡ false
    → (b : ℕ) × (left : List ℕ) × (prefix_bytes prefix ++ path ≡ b ∷ left) × ((b == 0) ≡ false) × (starts_name b ≡ true)
unfolding starts_name
name_begins Root ss path h some = (92, path, refl, refl, refl)
name_begins (Parents zero) ss path h some = let k = path_first ss h.0 h.2 in let c = some_segments ss k.0 some k.3 in (k.0, k.1, h.1 ∙ k.2, c.0, c.1)
name_begins (Parents (suc n)) ss path h some = (94, parent_prefixes n ++ path, refl, refl, refl)

pub name_first : (n : Name) (spelling : List ℕ) → IsNameString n spelling → (b : ℕ) × (left : List ℕ) × (spelling ≡ b ∷ left) × ((b == 0) ≡ false) × (starts_name b ≡ true)
name_first n spelling h = let k = name_begins n.prefix n.segments h.0 h.2 h.3 in (k.0, k.1, h.1 ∙ k.2, k.3, k.4)
