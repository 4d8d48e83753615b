-- Where a name is refused in reading, its fault stands there; and what begins a name is its first byte.
use Rattle.std.proofs.Common.{◌≡◌, ℕ, zero, suc, ◌+◌, ◌<◌, List, [], ◌∷◌, ◌++◌, length, drop, Bool, true, false, Ok, refl, subst, ◌∙◌, sym, ap, arith, ◌⊎◌, inl, inr}
use Rattle.std.specs.Prelude.{◌==◌, ◌&&◌, ◌||◌, if◌then◌else◌}
use Rattle.std.specs.List.{prefix_len}
use Rattle.std.proofs.lemmas.List.Folds.{length-prefix_len}
use Rattle.std.proofs.lemmas.Bool.{eqb-true, eqb-false, ne_eqb}
use Rattle.ar_space.specs.declared.refusal.Refusal.{Refusal}
use Rattle.ar_space.specs.declared.refusal.Refusal.TheVariants as refusals
use Rattle.ar_space.specs.declared.refusal.NameFault.TheVariants.{BadName}
use Rattle.ar_space.specs.declared.refusal.TermFault.TheVariants.{Truncated}
use Rattle.aml_path.specs.declared.segment.Seg.{Seg}
use Rattle.aml_path.specs.declared.name.Prefix.{Prefix}
use Rattle.aml_path.specs.declared.name.Prefix.TheVariants.{Root, Parents}
use Rattle.aml_path.specs.Paths.{begins_here}
use Rattle.aml_path.specs.Characters.{is_lead_name_char, is_name_char}
use Rattle.aml_grammar.specs.State.{State}
use Rattle.aml_grammar.specs.Names.{starts_name, segments, segments_at, multiple_segments, parents, carets, rooted_name, relative_name, name_string}
use Rattle.aml_scan.specs.Spelling.{parent_prefixes, prefix_bytes, Leads, characters, IsNamePath}
use Rattle.aml_scan.proofs.Takes.{same_state, same_value}
use Rattle.aml_spelling.specs.Faults.{Sort, Spot, Short, Starts, IsName, AtPart}
use Rattle.aml_spelling.proofs.Ends.{ends_parents}
use Rattle.aml_spelling.proofs.FaultApart.{got_apart}
use Rattle.aml_spelling.proofs.FaultParts.{StandsAt, at_short, at_end, one_past}
use Rattle.aml_spelling.proofs.FaultSegments.{Refuses, moved, moved_end, same_sorts, Segments, sample, refuses_segments}
use Rattle.aml_spelling.proofs.FaultShapes.{end_of, lifted, at_behind, at_like}
use Rattle.aml_spelling.proofs.FaultSorts.{Apart}
use Rattle.aml_spelling.proofs.GetsNames.{path_first, letter_of, lead_range, outside_range, name_first, gets_name}
use Rattle.aml_spelling.proofs.Halts.{Halts, halts_byte, halts_then, halts_give, halts_stop, halts_map, halts_more, halts_if, halts_peek, halts_seen, went_on}

abbrev IsPath : Sort
IsPath spelling = (ss : List Seg) × IsNamePath ss spelling

-- ---- how paths begin

none_of : (ss : List Seg) → length ss ≡ 0 → ss ≡ []
none_of [] e = refl
none_of (s ∷ ss) e = absurd (omega (arith, e))

pub first_is : (b c : ℕ) (k l : List ℕ) → b ∷ k ≡ c ∷ l → (b ≡ c) × (k ≡ l)
first_is b c k l e = (cc e, cc e)

one_letter : (ss : List Seg) (b : ℕ) (l : List ℕ) → length ss ≡ 1 → b ∷ l ≡ characters ss → is_lead_name_char b ≡ true
one_letter [] b l e is = absurd (omega (arith, e))
one_letter (seg ∷ ss) b l e is =
    let k = letter_of seg.bytes seg.valid in
    let f = first_is b k.0 l (k.1 ++ characters ss) (is ∙ ap (λ (m : List ℕ). m ++ characters ss) k.2) in
    subst (λ (c : ℕ). is_lead_name_char c ≡ true) (sym f.0) k.3

-- null, two segments, so many as a count says, or one
abbrev Led : ℕ → List ℕ → Type 0
Led b l =
    ((b ≡ 0) × (l ≡ [])) ⊎ (((b ≡ 46) × Segments 2 l) ⊎ (((b ≡ 47) × (n : ℕ) × (k : List ℕ) × (l ≡ n ∷ k) × (0 < n) × Segments n k) ⊎ (Segments 1 (b ∷ l) × (is_lead_name_char b ≡ true))))

led : (ss : List Seg) (lead : List ℕ) (b : ℕ) (l : List ℕ) → b ∷ l ≡ lead ++ characters ss → Leads (length ss) lead → Led b l
led ss [] b l e h = inr (inr (inr ((ss, h, e), one_letter ss b l h e)))
led ss (x ∷ []) b l e (inl h) = let f = first_is b x l (characters ss) e in inl (f.0 ∙ h.1, f.1 ∙ ap characters (none_of ss h.0))
led ss (x ∷ []) b l e (inr h) = let f = first_is b x l (characters ss) e in inr (inl (f.0 ∙ h.1, (ss, h.0, f.1)))
led ss (x ∷ y ∷ []) b l e h = let f = first_is b x l (y ∷ characters ss) e in inr (inr (inl (f.0 ∙ h.1, y, characters ss, f.1, subst (λ (n : ℕ). 0 < n) (sym h.2) h.0, (ss, sym h.2, refl))))
led ss (x ∷ y ∷ z ∷ zs) b l e h = absurd h

path_led : (b : ℕ) (l : List ℕ) → IsPath (b ∷ l) → Led b l
path_led b l h = led h.0 h.1.0 b l h.1.1 h.1.2

letter_not : (b n : ℕ) → is_lead_name_char b ≡ true → b ≡ n → (n < 65) → ⊥
letter_not b n may e less = eqb-false b n (outside_range b n (lead_range b may) (inl less)) e

two_of : (b : ℕ) (l : List ℕ) → b ≡ 46 → Led b l → Segments 2 l
two_of b l e (inl h) = absurd (omega (arith, e, h.0))
two_of b l e (inr (inl h)) = h.1
two_of b l e (inr (inr (inl h))) = absurd (omega (arith, e, h.0))
two_of b l e (inr (inr (inr h))) = absurd (letter_not b 46 h.1 e (omega arith))

many_of : (b : ℕ) (l : List ℕ) → b ≡ 47 → Led b l → (n : ℕ) × (k : List ℕ) × (l ≡ n ∷ k) × (0 < n) × Segments n k
many_of b l e (inl h) = absurd (omega (arith, e, h.0))
many_of b l e (inr (inl h)) = absurd (omega (arith, e, h.0))
many_of b l e (inr (inr (inl h))) = (h.1, h.2, h.3, h.4, h.5)
many_of b l e (inr (inr (inr h))) = absurd (letter_not b 47 h.1 e (omega arith))

one_of : (b : ℕ) (l : List ℕ) → (b == 0) ≡ false → (b == 46) ≡ false → (b == 47) ≡ false → Led b l → Segments 1 (b ∷ l)
one_of b l e f g (inl h) = absurd (eqb-false b 0 e h.0)
one_of b l e f g (inr (inl h)) = absurd (eqb-false b 46 f h.0)
one_of b l e f g (inr (inr (inl h))) = absurd (eqb-false b 47 g h.0)
one_of b l e f g (inr (inr (inr h))) = h.0

-- ---- paths

path_none : Short IsPath []
path_none = (0, [], ([], (0 ∷ [], refl, inl (refl, refl))))

path_two : (l : List ℕ) → Segments 2 l → IsPath (46 ∷ l)
path_two l h = (h.0, (46 ∷ [], ap (λ (k : List ℕ). 46 ∷ k) h.2, inr (h.1, refl)))

path_many : (n : ℕ) (l : List ℕ) → 0 < n → Segments n l → IsPath (47 ∷ n ∷ l)
path_many n l some h = (h.0, (47 ∷ n ∷ [], ap (λ (k : List ℕ). 47 ∷ n ∷ k) h.2, (subst (λ (m : ℕ). 0 < m) (sym h.1) some, refl, sym h.1)))

path_one : (l : List ℕ) → Segments 1 l → IsPath l
path_one l h = (h.0, ([], h.2, h.1))

pub next_end : (spot : Spot) (s s1 : State) (b : ℕ) (bs : List ℕ) → StandsAt s spot → s.rest ≡ b ∷ bs → s1.at ≡ s.at + 1 → s1.rest ≡ bs → end_of (moved spot s1) ≡ end_of spot
next_end spot s s1 b bs here is at1 is1 =
    let n : length spot.rest ≡ suc (length bs) = ap (λ (l : List ℕ). length l) (sym here.1 ∙ is) in
    let m : length s1.rest ≡ length bs = ap (λ (l : List ℕ). length l) is1 in
    omega (arith, n, m, at1, here.0)

-- a fault behind a byte that was seen
pub behind_byte : (P Q : Sort) (b : ℕ) → ((l : List ℕ) → P l → Q (b ∷ l)) → ((l : List ℕ) → Q (b ∷ l) → P l) → (spot : Spot) (s s1 : State) (bs : List ℕ) → StandsAt s spot → s.rest ≡ b ∷ bs → s1.at ≡ s.at + 1 → s1.rest ≡ bs
    → (r : Refusal) → AtPart P (moved spot s1) r → AtPart Q spot r
behind_byte P Q b to back spot s s1 bs here is at1 is1 r h =
    at_behind Q (b ∷ []) spot (moved spot s1) (sym here.1 ∙ is ∙ ap (λ (l : List ℕ). b ∷ l) (sym is1)) (next_end spot s s1 b bs here is at1 is1) r (same_sorts P (λ (l : List ℕ). Q (b ∷ l)) to back (moved spot s1) r h)

counted_none : Short (λ (l : List ℕ). IsPath (47 ∷ l)) []
counted_none = (1, 65 ∷ 65 ∷ 65 ∷ 65 ∷ [], (sample ∷ [], (47 ∷ 1 ∷ [], refl, (omega arith, refl, refl))))

not_counted : (n : ℕ) (more : List ℕ) → (n == 0) ≡ true → IsPath (47 ∷ n ∷ more) → ⊥
not_counted n more none h =
    let k = many_of 47 (n ∷ more) refl (path_led 47 (n ∷ more) h) in
    let same : n ≡ k.0 = (first_is n k.0 more k.1 k.2).0 in
    omega (arith, same, eqb-true n 0 none, k.3)

many_same : (n : ℕ) (l : List ℕ) → IsPath (47 ∷ n ∷ l) → Segments n l
many_same n l h =
    let k = many_of 47 (n ∷ l) refl (path_led 47 (n ∷ l) h) in
    let f = first_is n k.0 l k.1 k.2 in
    subst (λ (m : ℕ). Segments m l) (sym f.0) (subst (λ (j : List ℕ). Segments k.0 j) (sym f.1) k.4)

some_count : (n : ℕ) → (n == 0) ≡ false → 0 < n
some_count zero e = absurd (cc e)
some_count (suc n) e = omega arith

-- SegCount and that many segments
refuses_counted : Refuses multiple_segments (λ (l : List ℕ). IsPath (47 ∷ l))
unfolding multiple_segments
refuses_counted s spot here =
    halts_then (halts_more (halts_byte s) (λ r m. at_short (λ (l : List ℕ). IsPath (47 ∷ l)) spot r s.at m.0 (at_end s spot here m.1) (rw (← here.1, m.1) counted_none))) (λ n s1 e.
    let p = one_past s n s1 e in
    halts_if (n == 0) (λ none. halts_stop (refusals.Name BadName) ([], n, s1.rest, sym here.1 ∙ p.0, counted_none, λ starts. not_counted n starts.0 none starts.1))
    (λ some. halts_more (refuses_segments n s1 (moved spot s1) (refl, refl)) (behind_byte (Segments n) (λ (l : List ℕ). IsPath (47 ∷ l)) n (λ l. path_many n l (some_count n some)) (many_same n) spot s s1 s1.rest here p.0 p.1 refl)))

refuses_path_at : (b : ℕ) (bs : List ℕ) (s : State) (spot : Spot) → StandsAt s spot → s.rest ≡ b ∷ bs → Halts (segments_at b) s (λ r. AtPart IsPath spot r)
refuses_path_at b bs s spot here is =
    halts_if (b == 0) (λ _. halts_seen _ is (λ s1 at1 is1 ar1. halts_give []))
    (λ some. halts_if (b == 46) (λ dual. halts_seen _ is (λ s1 at1 is1 ar1. halts_more (refuses_segments 2 s1 (moved spot s1) (refl, refl))
    (behind_byte (Segments 2) IsPath b (λ l h. rw (eqb-true b 46 dual) (path_two l h)) (λ l h. two_of b l (eqb-true b 46 dual) (path_led b l h)) spot s s1 bs here is at1 is1)))
    (λ no_dual. halts_if (b == 47) (λ multi. halts_seen _ is (λ s1 at1 is1 ar1. halts_more (refuses_counted s1 (moved spot s1) (refl, refl))
    (behind_byte (λ (l : List ℕ). IsPath (47 ∷ l)) IsPath b (λ l h. rw (eqb-true b 47 multi) h) (λ l h. subst (λ (c : ℕ). IsPath (c ∷ l)) (eqb-true b 47 multi) h) spot s s1 bs here is at1 is1)))
    (λ no_multi. halts_more (refuses_segments 1 s spot here) (at_like (Segments 1) IsPath b (λ l h. path_one (b ∷ l) h) (λ l h. one_of b l some no_dual no_multi (path_led b l h)) path_none spot bs (sym here.1 ∙ is)))))

refuses_path : Refuses segments IsPath
unfolding segments
refuses_path s spot here = halts_peek (λ none. at_short IsPath spot (refusals.Term Truncated s.at) s.at refl (at_end s spot here none) (rw (← here.1, none) path_none)) (λ b bs is. refuses_path_at b bs s spot here is)

-- ---- prefixes

abbrev NoCaret : List ℕ → Type 0
NoCaret [] = Unit {0}
NoCaret (b ∷ bs) = (b == 94) ≡ false

caret_one : (n x : ℕ) (xs : List ℕ) → ((m : ℕ) → m ≡ prefix_len (λ b. b == 94) xs → (xs ≡ parent_prefixes m ++ drop m xs) × NoCaret (drop m xs)) → (t : Bool) → (x == 94) ≡ t → n ≡ (if t then 1 + prefix_len (λ b. b == 94) xs else 0) → (x ∷ xs ≡ parent_prefixes n ++ drop n (x ∷ xs)) × NoCaret (drop n (x ∷ xs))
caret_one zero x xs ih true is e = absurd (omega (arith, e))
caret_one (suc n) x xs ih true is e = let k = ih n (omega (arith, e)) in (rw (eqb-true x 94 is) (ap (λ (l : List ℕ). 94 ∷ l) k.0), k.1)
caret_one zero x xs ih false is e = (refl, is)
caret_one (suc n) x xs ih false is e = absurd (omega (arith, e))

caret_split : (xs : List ℕ) (n : ℕ) → n ≡ prefix_len (λ b. b == 94) xs → (xs ≡ parent_prefixes n ++ drop n xs) × NoCaret (drop n xs)
caret_split [] zero e = (refl, tt)
caret_split [] (suc n) e = absurd (omega (arith, e))
caret_split (x ∷ xs) n e = caret_one n x xs (caret_split xs) (x == 94) refl e

-- the parents that are read, and what stands behind them
parents_read : (s : State) (n : ℕ) (s1 : State) → parents s ≡ (Ok n, s1) → (s.rest ≡ parent_prefixes n ++ s1.rest) × NoCaret s1.rest
unfolding parents
parents_read s n s1 e =
    let count : carets s.rest ≡ n = same_value e in
    let left : drop (carets s.rest) s.rest ≡ s1.rest = ap (λ (t : State). t.rest) (same_state e) in
    let k = caret_split s.rest n (sym count ∙ length-prefix_len (λ b. b == 94) s.rest) in
    let same : drop n s.rest ≡ s1.rest = ap (λ (m : ℕ). drop m s.rest) (sym count) ∙ left in
    (k.0 ∙ ap (λ (l : List ℕ). parent_prefixes n ++ l) same, subst (λ (l : List ℕ). NoCaret l) same k.1)

halts_parents : (s : State) (F : Refusal → Type 0) → Halts parents s F
unfolding parents
halts_parents s F = record { is = λ r s2 e. absurd (went_on e) }

same_parents : (n m x y : ℕ) (xs ys : List ℕ) → (x == 94) ≡ false → (y == 94) ≡ false → parent_prefixes n ++ x ∷ xs ≡ parent_prefixes m ++ y ∷ ys → (n ≡ m) × (x ∷ xs ≡ y ∷ ys)
same_parents zero zero x y xs ys f g e = (refl, e)
same_parents zero (suc m) x y xs ys f g e = absurd (eqb-false x 94 f (first_is x 94 xs (parent_prefixes m ++ y ∷ ys) e).0)
same_parents (suc n) zero x y xs ys f g e = absurd (eqb-false y 94 g (first_is y 94 ys (parent_prefixes n ++ x ∷ xs) (sym e)).0)
same_parents (suc n) (suc m) x y xs ys f g e = let k = same_parents n m x y xs ys f g (first_is 94 94 (parent_prefixes n ++ x ∷ xs) (parent_prefixes m ++ y ∷ ys) e).1 in (ap suc k.0, k.1)

-- ---- whole names

pub name_none : Short IsName []
name_none = (92, 0 ∷ [], (record { prefix = Root; segments = [] }, (0 ∷ [], refl, (0 ∷ [], refl, inl (refl, refl)), refl)))

and_false : (x : Bool) → (x && false) ≡ false
and_false true = refl
and_false false = refl

zero_first : (ss : List Seg) (lead : List ℕ) (b : ℕ) (l : List ℕ) → length ss ≡ 0 → b ∷ l ≡ lead ++ characters ss → Leads (length ss) lead → b ≡ 0
zero_first ss [] b l none e h = absurd (omega (arith, none, h))
zero_first ss (x ∷ []) b l none e (inl h) = (first_is b x l (characters ss) e).0 ∙ h.1
zero_first ss (x ∷ []) b l none e (inr h) = absurd (omega (arith, none, h.0))
zero_first ss (x ∷ y ∷ []) b l none e h = absurd (omega (arith, none, h.0))
zero_first ss (x ∷ y ∷ z ∷ zs) b l none e h = absurd h

-- a path behind so many parents, but not the null name alone
name_behind : (n b : ℕ) (l : List ℕ) → (n ≡ 0 → (b == 0) ≡ false) → IsPath (b ∷ l) → IsName (parent_prefixes n ++ b ∷ l)
name_behind zero b l some h = (record { prefix = Parents 0; segments = h.0 }, (b ∷ l, refl, h.1, ap (λ (c : Bool). begins_here (Parents 0) && c) (ne_eqb (length h.0) 0 (λ none. eqb-false b 0 (some refl) (zero_first h.0 h.1.0 b l none h.1.1 h.1.2))) ∙ and_false (begins_here (Parents 0))))
name_behind (suc n) b l some h = (record { prefix = Parents (suc n); segments = h.0 }, (b ∷ l, refl, h.1, rw (ne_eqb (suc n) 0 (λ e. absurd (omega (arith, e)))) refl))

behind_name : (n b : ℕ) (l : List ℕ) → (b == 94) ≡ false → (n ≡ 0 → (b == 92) ≡ false) → (prefix : Prefix) (ss : List Seg) (path : List ℕ) → parent_prefixes n ++ b ∷ l ≡ prefix_bytes prefix ++ path → IsNamePath ss path → IsPath (b ∷ l)
behind_name zero b l caret root Root ss path e h = absurd (eqb-false b 92 (root refl) (first_is b 92 l path e).0)
behind_name (suc n) b l caret root Root ss path e h = let f = (first_is 94 92 (parent_prefixes n ++ b ∷ l) path e).0 in absurd (omega (arith, f))
behind_name n b l caret root (Parents m) ss path e h =
    let k = path_first ss h.0 h.2 in
    let begins : path ≡ k.0 ∷ k.1 = h.1 ∙ k.2 in
    let j = same_parents n m b k.0 l k.1 caret k.3.caret (e ∙ ap (λ (x : List ℕ). parent_prefixes m ++ x) begins) in
    (ss, subst (λ (x : List ℕ). IsNamePath ss x) (begins ∙ sym j.1) h)

name_root : (l : List ℕ) (prefix : Prefix) (ss : List Seg) (path : List ℕ) → 92 ∷ l ≡ prefix_bytes prefix ++ path → IsNamePath ss path → IsPath l
name_root l Root ss path e h = (ss, subst (λ (x : List ℕ). IsNamePath ss x) (sym (first_is 92 92 l path e).1) h)
name_root l (Parents zero) ss path e h =
    let k = path_first ss h.0 h.2 in
    absurd (eqb-false k.0 92 k.3.root (sym (first_is 92 k.0 l k.1 (e ∙ h.1 ∙ k.2)).0))
name_root l (Parents (suc m)) ss path e h = let f = (first_is 92 94 l (parent_prefixes m ++ path) e).0 in absurd (omega (arith, f))

root_name : (l : List ℕ) → IsPath l → IsName (92 ∷ l)
root_name l h = (record { prefix = Root; segments = h.0 }, (l, refl, h.1, refl))

refuses_rooted : (bs : List ℕ) (s : State) (spot : Spot) → StandsAt s spot → s.rest ≡ 92 ∷ bs → Halts rooted_name s (λ r. AtPart IsName spot r)
unfolding rooted_name
refuses_rooted bs s spot here is = halts_seen _ is (λ s1 at1 is1 ar1. halts_map _ (halts_more (refuses_path s1 (moved spot s1) (refl, refl))
    (behind_byte IsPath IsName 92 root_name (λ l h. name_root l h.0.prefix h.0.segments h.1.0 h.1.1 h.1.2) spot s s1 bs here is at1 is1)))

abbrev Behind : ℕ → Sort
Behind n l = IsName (parent_prefixes n ++ l)

behind_none : (n : ℕ) → Short (Behind n) []
behind_none n = (65, 65 ∷ 65 ∷ 65 ∷ [], name_behind n 65 (65 ∷ 65 ∷ 65 ∷ []) (λ _. refl) (path_one (65 ∷ 65 ∷ 65 ∷ 65 ∷ []) (sample ∷ [], refl, refl)))

no_middle : (front : List ℕ) (b : ℕ) (back : List ℕ) → [] ≡ front ++ b ∷ back → ⊥
no_middle [] b back e = cc e
no_middle (c ∷ front) b back e = cc e

behind_parents : (n : ℕ) (rest : List ℕ) (next : Spot) → next.rest ≡ rest → NoCaret rest → ((b : ℕ) (bs : List ℕ) → n ≡ 0 → rest ≡ b ∷ bs → ((b == 0) ≡ false) × ((b == 92) ≡ false)) → (r : Refusal) → AtPart IsPath next r → AtPart (Behind n) next r
behind_parents n [] next is caret first r h = lifted IsPath (Behind n) next next (λ s. subst (λ (l : List ℕ). Short (Behind n) l) (sym is) (behind_none n)) (λ w. absurd (no_middle w.0 w.1 w.2 (sym is ∙ w.3))) refl r h
behind_parents n (b ∷ bs) next is caret first r h =
    at_like IsPath (Behind n) b (λ l k. name_behind n b l (λ e. (first b bs e refl).0) k) (λ l k. behind_name n b l caret (λ e. (first b bs e refl).1) k.0.prefix k.0.segments k.1.0 k.1.1 k.1.2) (behind_none n) next bs is r h

refuses_relative : (b : ℕ) (bs : List ℕ) (s : State) (spot : Spot) → StandsAt s spot → s.rest ≡ b ∷ bs → (b == 0) ≡ false → (b == 92) ≡ false → Halts relative_name s (λ r. AtPart IsName spot r)
unfolding relative_name
refuses_relative b bs s spot here is some no_root =
    halts_then (halts_parents s (λ r. AtPart IsName spot r)) (λ n s1 e.
    let p = parents_read s n s1 e in
    let first : (c : ℕ) (cs : List ℕ) → n ≡ 0 → s1.rest ≡ c ∷ cs → ((c == 0) ≡ false) × ((c == 92) ≡ false) = λ c cs none there. (
    let same : b ≡ c = (first_is b c bs cs (sym is ∙ p.0 ∙ ap (λ (m : ℕ). parent_prefixes m ++ s1.rest) none ∙ there)).0 in
    (subst (λ (d : ℕ). (d == 0) ≡ false) same some, subst (λ (d : ℕ). (d == 92) ≡ false) same no_root)) in
    halts_map _ (halts_more (refuses_path s1 (moved spot s1) (refl, refl)) (λ r h.
    at_behind IsName (parent_prefixes n) spot (moved spot s1) (sym here.1 ∙ p.0) (moved_end s s1 spot here ((ends_parents s).is n s1 e)) r
    (behind_parents n s1.rest (moved spot s1) refl p.1 first r h))))

not_zero_first : (bs : List ℕ) → IsName (0 ∷ bs) → ⊥
not_zero_first bs h = let k = name_first h.0 (0 ∷ bs) h.1 in eqb-false k.0 0 k.3 (sym (first_is 0 k.0 bs k.1 k.2).0)

pub refuses_name : Refuses name_string IsName
unfolding name_string
refuses_name s spot here = halts_peek (λ none. at_short IsName spot (refusals.Term Truncated s.at) s.at refl (at_end s spot here none) (rw (← here.1, none) name_none)) (λ b bs is.
    halts_if (b == 0) (λ zero_first. halts_stop (refusals.Name BadName) ([], b, bs, sym here.1 ∙ is, name_none, λ starts. not_zero_first starts.0 (subst (λ (c : ℕ). IsName (c ∷ starts.0)) (eqb-true b 0 zero_first) starts.1)))
    (λ some. halts_if (b == 92) (λ root. refuses_rooted bs s spot here (is ∙ ap (λ (c : ℕ). c ∷ bs) (eqb-true b 92 root))) (λ no_root. refuses_relative b bs s spot here is some no_root)))

pub names_apart : Apart IsName
names_apart = got_apart IsName name_string (λ front rest s h is. (h.0, gets_name h.0 front h.1 is refl))

-- ---- the first byte

letter_name : (b : ℕ) → is_lead_name_char b ≡ true → Starts IsName (b ∷ [])
letter_name b may =
    let seg : Seg = record { bytes = b ∷ 65 ∷ 65 ∷ 65 ∷ []; valid = ap (λ (c : Bool). c && is_name_char 65 && is_name_char 65 && is_name_char 65) may } in
    (65 ∷ 65 ∷ 65 ∷ [], name_behind 0 b (65 ∷ 65 ∷ 65 ∷ []) (λ _. outside_range b 0 (lead_range b may) (inl (omega arith))) (path_one (b ∷ 65 ∷ 65 ∷ 65 ∷ []) (seg ∷ [], refl, refl)))

as_first : (b c : ℕ) → (b == c) ≡ true → Starts IsName (c ∷ []) → Starts IsName (b ∷ [])
as_first b c e h = subst (λ (d : ℕ). Starts IsName (d ∷ [])) (sym (eqb-true b c e)) h

root_first : Starts IsName (92 ∷ [])
root_first = (0 ∷ [], root_name (0 ∷ []) ([], (0 ∷ [], refl, inl (refl, refl))))

caret_first : Starts IsName (94 ∷ [])
caret_first = (0 ∷ [], name_behind 1 0 [] (λ e. absurd (omega (arith, e))) ([], (0 ∷ [], refl, inl (refl, refl))))

dual_first : Starts IsName (46 ∷ [])
dual_first = (sample.bytes ++ sample.bytes, name_behind 0 46 (sample.bytes ++ sample.bytes) (λ _. refl) (path_two (sample.bytes ++ sample.bytes) (sample ∷ sample ∷ [], refl, refl)))

multi_first : Starts IsName (47 ∷ [])
multi_first = (1 ∷ sample.bytes, name_behind 0 47 (1 ∷ sample.bytes) (λ _. refl) (path_many 1 sample.bytes (omega arith) (sample ∷ [], refl, refl)))

which : (x y z w v : Bool) → (x || y || z || w || v) ≡ true → (x ≡ true) ⊎ ((y ≡ true) ⊎ ((z ≡ true) ⊎ ((w ≡ true) ⊎ (v ≡ true))))
which true y z w v e = inl refl
which false true z w v e = inr (inl refl)
which false false true w v e = inr (inr (inl refl))
which false false false true v e = inr (inr (inr (inl refl)))
which false false false false v e = inr (inr (inr (inr e)))

first_of : (b : ℕ) → (((b == 92) ≡ true) ⊎ (((b == 94) ≡ true) ⊎ (((b == 46) ≡ true) ⊎ (((b == 47) ≡ true) ⊎ (is_lead_name_char b ≡ true))))) → Starts IsName (b ∷ [])
first_of b (inl t) = as_first b 92 t root_first
first_of b (inr (inl t)) = as_first b 94 t caret_first
first_of b (inr (inr (inl t))) = as_first b 46 t dual_first
first_of b (inr (inr (inr (inl t)))) = as_first b 47 t multi_first
first_of b (inr (inr (inr (inr t)))) = letter_name b t

pub begins_name : (b : ℕ) → starts_name b ≡ true → Starts IsName (b ∷ [])
unfolding starts_name
begins_name b is = first_of b (which (b == 92) (b == 94) (b == 46) (b == 47) (is_lead_name_char b) is)

pub name_begun : (b : ℕ) (bs : List ℕ) → IsName (b ∷ bs) → starts_name b ≡ true
name_begun b bs h = let k = name_first h.0 (b ∷ bs) h.1 in subst (λ (c : ℕ). starts_name c ≡ true) (sym (first_is b k.0 bs k.1 k.2).0) k.4

pub begins_not : (b : ℕ) → starts_name b ≡ false → Starts IsName (b ∷ []) → ⊥
begins_not b is h = cc (is, name_begun b h.0 h.1)
