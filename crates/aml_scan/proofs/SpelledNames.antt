-- Names are read as they are spelled.
use Rattle.std.proofs.Common.{◌≡◌, ℕ, zero, suc, ◌+◌, ◌<◌, List, [], ◌∷◌, ◌++◌, length, take, drop, Bool, true, false, Ok, refl, ◌∙◌, sym, ap, length-append, arith, inl, inr}
use Rattle.std.specs.Prelude.{◌==◌, if◌then◌else◌, IsTrue}
use Rattle.std.specs.List.{prefix_len}
use Rattle.std.proofs.lemmas.List.{append-nil, take-append-drop}
use Rattle.std.proofs.lemmas.List.Folds.{length-prefix_len}
use Rattle.std.proofs.lemmas.Bool.{eqb-true, eqb-false, ne_eqb}
use Rattle.ar_space.specs.Change.{◌>>=◌}
use Rattle.ar_space.specs.declared.refusal.Refusal.TheVariants as refusals
use Rattle.ar_space.specs.declared.refusal.NameFault.TheVariants.{BadName}
use Rattle.aml_path.specs.declared.segment.Seg.{Seg}
use Rattle.aml_path.specs.declared.name.Prefix.TheVariants.{Root, Parents}
use Rattle.aml_path.specs.Paths.{Name, is_null}
use Rattle.aml_path.specs.Segments.{seg_of, tested}
use Rattle.aml_path.specs.Characters.{is_segment}
use Rattle.aml_grammar.specs.State.{State, Step, byte, times}
use Rattle.aml_grammar.specs.Names.{only, lead_name_char, name_char, segment, segments, segments_at, counted_segments, multiple_segments, skipping, parents, carets as caret_count, rooted_name, relative_name, name_at, name_string}
use Rattle.aml_scan.specs.Spelling.{parent_prefixes, Leads, characters, IsNamePath, IsNameString}
use Rattle.aml_scan.proofs.Takes.{Takes, Relation, same_value, same_state, takes_then, takes_more, takes_known, takes_map, takes_give, takes_stop, takes_settled, takes_if, takes_byte, takes_peek, takes_seen, Each, takes_times, IsByte}

not_zero : (n : ℕ) → (n == 0) ≡ false → 0 < n
not_zero n some = grind (arith, eqb-false n 0 some)

-- ---- segments

takes_only : (test : ℕ → Bool) (s : State) → Takes (byte >>= only test) s IsByte
takes_only test s = takes_then (takes_byte s) (λ b f s1 h. takes_if (test b) (λ _. takes_give b (rw append-nil h)) (λ _. takes_stop (refusals.Name BadName)))

tested_bytes : (bs : List ℕ) (b : Bool) (is : is_segment bs ≡ b) (s : Seg) → tested bs b is ≡ Ok s → s.bytes ≡ bs
tested_bytes bs true is s e = let t : Seg = record { bytes = bs; valid = is } in let v : t ≡ s = cc e in ap (λ (q : Seg). q.bytes) (sym v)
tested_bytes bs false is s e = absurd (cc e)

seg_bytes : (bs : List ℕ) (s : Seg) → seg_of bs ≡ Ok s → bs ≡ s.bytes
unfolding seg_of
seg_bytes bs s e = sym (tested_bytes bs (is_segment bs) refl s e)

pub takes_segment : (s : State) → Takes segment s (λ seg front rest. front ≡ seg.bytes)
unfolding segment lead_name_char name_char
takes_segment s =
    takes_then (takes_only _ s) (λ a f s1 h. takes_then (takes_only _ s1) (λ b g s2 i. takes_then (takes_only _ s2) (λ c k s3 j. takes_then (takes_only _ s3) (λ d l s4 m.
    takes_more (takes_settled (seg_of (a ∷ b ∷ c ∷ d ∷ [])) s4) (λ seg n rest o. rw (h, i, j, m, o.0) (seg_bytes (a ∷ b ∷ c ∷ d ∷ []) seg o.1))))))

all_characters : (ss : List Seg) (spelling : List ℕ) → Each (λ (seg : Seg) front. front ≡ seg.bytes) ss spelling → spelling ≡ characters ss
all_characters [] spelling h = h
all_characters (s ∷ ss) spelling h = rw (h.2, h.3, all_characters ss h.1 h.4) refl

takes_characters : (n : ℕ) (s : State) → Takes (times segment n) s (λ ss front rest. (length ss ≡ n) × (front ≡ characters ss))
takes_characters n s = takes_more (takes_times segment takes_segment n s) (λ ss front rest h. (h.0, all_characters ss front h.1))

-- ---- what stands before them

takes_counted : (n : ℕ) (s : State) → Takes (counted_segments n) s (λ ss front rest. (length ss ≡ n) × (0 < n) × (front ≡ characters ss))
takes_counted n s = takes_if (n == 0) (λ _. takes_stop (refusals.Name BadName)) (λ some. takes_more (takes_characters n s) (λ ss front rest h. (h.0, not_zero n some, h.1)))

takes_multiple : (s : State) → Takes multiple_segments s (λ ss front rest. (n : ℕ) × (length ss ≡ n) × (0 < n) × (front ≡ n ∷ characters ss))
unfolding multiple_segments
takes_multiple s = takes_then (takes_byte s) (λ n f s1 h. takes_more (takes_counted n s1) (λ ss g rest i. (n, i.0, i.1, rw (h, i.2) refl)))

-- a byte that was seen before, and then the rest
pub takes_skipping : {A : Type 0} {P : Relation A} {b : ℕ} {bs : List ℕ} {m : Step A} {s : State} → s.rest ≡ b ∷ bs → ((s1 : State) → Takes m s1 P) → Takes (skipping m) s (λ a front rest. (back : List ℕ) × (front ≡ b ∷ back) × P a back rest)
takes_skipping is h = takes_then (takes_seen is) (λ c f s1 i. takes_more (h s1) (λ a g rest p. (g, rw i.0 refl, p)))

takes_path_at : (b : ℕ) (bs : List ℕ) (s : State) → s.rest ≡ b ∷ bs → Takes (segments_at b) s (λ ss front rest. IsNamePath ss front)
takes_path_at b bs s is =
    takes_if (b == 0) (λ t. takes_more (takes_skipping {P = λ (ss : List Seg) (front rest : List ℕ). (front ≡ []) × (ss ≡ [])} is (λ s1. takes_give [] (refl, refl))) (λ ss front rest h. rw (h.1, eqb-true b 0 t, h.2.0, h.2.1) (0 ∷ [], refl, inl (refl, refl))))
    (λ _. takes_if (b == 46) (λ t. takes_more (takes_skipping is (takes_characters 2)) (λ ss front rest h. (46 ∷ [], rw (h.1, eqb-true b 46 t, h.2.1) refl, inr (h.2.0, refl))))
    (λ _. takes_if (b == 47) (λ t. takes_more (takes_skipping is takes_multiple) (λ ss front rest h. (47 ∷ h.2.0 ∷ [], rw (h.1, eqb-true b 47 t, h.2.3) refl, (rw h.2.1 h.2.2, refl, sym h.2.1))))
    (λ _. takes_more (takes_characters 1 s) (λ ss front rest h. ([], h.1, h.0)))))

takes_path : (s : State) → Takes segments s (λ ss front rest. IsNamePath ss front)
unfolding segments
takes_path s = takes_peek (λ b bs is. takes_path_at b bs s is)

-- ---- prefixes

prefixes_one : (n x : ℕ) (xs : List ℕ) → ((m : ℕ) → m ≡ prefix_len (λ b. b == 94) xs → take m xs ≡ parent_prefixes m) → (t : Bool) → (x == 94) ≡ t → n ≡ (if t then 1 + prefix_len (λ b. b == 94) xs else 0) → take n (x ∷ xs) ≡ parent_prefixes n
prefixes_one zero x xs ih true is e = absurd (omega (arith, e))
prefixes_one (suc n) x xs ih true is e = rw (eqb-true x 94 is, ih n (omega arith)) refl
prefixes_one zero x xs ih false is e = refl
prefixes_one (suc n) x xs ih false is e = absurd (omega (arith, e))

prefixes_are : (xs : List ℕ) (n : ℕ) → n ≡ prefix_len (λ b. b == 94) xs → take n xs ≡ parent_prefixes n
prefixes_are [] zero e = refl
prefixes_are [] (suc n) e = absurd (omega (arith, e))
prefixes_are (x ∷ xs) n e = prefixes_one n x xs (prefixes_are xs) (x == 94) refl e

takes_parents : (s : State) → Takes parents s (λ n front rest. front ≡ parent_prefixes n)
unfolding parents
takes_parents s = record {
  is = λ n s2 e.
      let count : caret_count s.rest ≡ n = same_value e in
      let left : drop (caret_count s.rest) s.rest ≡ s2.rest = ap (λ (t : State). t.rest) (same_state e) in
      let found : take n s.rest ≡ parent_prefixes n = prefixes_are s.rest n (sym count ∙ length-prefix_len (λ b. b == 94) s.rest) in
      (parent_prefixes n, sym (take-append-drop n s.rest) ∙ rw (found, ← left, count) refl, refl);
}

-- ---- whole names

null_lead : (n : ℕ) (lead : List ℕ) → n ≡ 0 → Leads n lead → lead ≡ 0 ∷ []
null_lead n [] none h = absurd (omega (arith, none, h))
null_lead n (b ∷ []) none (inl h) = rw h.1 refl
null_lead n (b ∷ []) none (inr h) = absurd (omega (arith, none, h.0))
null_lead n (b ∷ c ∷ []) none h = absurd (omega (arith, none, h.0))
null_lead n (b ∷ c ∷ d ∷ bs) none h = absurd h

-- a path that begins with another byte has a segment
path_not_null : (ss : List Seg) (b : ℕ) (bs path rest : List ℕ) → (b == 0) ≡ false → path ++ rest ≡ b ∷ bs → IsNamePath ss path → (length ss == 0) ≡ false
path_not_null ss b bs path rest some is h = ne_eqb (length ss) 0 (λ none.
    let zero_first : path ++ rest ≡ 0 ∷ (characters ss ++ rest) = rw (h.1, null_lead (length ss) h.0 none h.2) refl in
    let same : b ∷ bs ≡ 0 ∷ (characters ss ++ rest) = sym is ∙ zero_first in
    eqb-false b 0 some (cc same))

not_null : (n : ℕ) (ss : List Seg) (b : ℕ) (bs all path rest : List ℕ) → (b == 0) ≡ false → all ≡ b ∷ bs → all ≡ parent_prefixes n ++ (path ++ rest) → IsNamePath ss path → is_null (record { prefix = Parents n; segments = ss }) ≡ false
not_null zero ss b bs all path rest some first whole h = path_not_null ss b bs path rest some (sym whole ∙ first) h
not_null (suc n) ss b bs all path rest some first whole h = rw (ne_eqb (suc n) 0 (λ e. absurd (omega (arith, e)))) refl

takes_relative : (b : ℕ) (bs : List ℕ) (s : State) → (b == 0) ≡ false → s.rest ≡ b ∷ bs → Takes relative_name s (λ n front rest. IsNameString n front)
unfolding relative_name
takes_relative b bs s some is = takes_then (takes_known (takes_parents s)) (λ n f s1 h. takes_map (λ ss. record { prefix = Parents n; segments = ss }) (takes_known (takes_path s1)) (λ ss g rest i.
    (g, rw h.1 refl, i.1, not_null n ss b bs s.rest g rest some is (rw (h.0, h.1, i.0) refl) i.1)))

takes_rooted : (bs : List ℕ) (s : State) → s.rest ≡ 92 ∷ bs → Takes rooted_name s (λ n front rest. IsNameString n front)
unfolding rooted_name
takes_rooted bs s is = takes_then (takes_seen is) (λ c f s1 h. takes_map (λ ss. record { prefix = Root; segments = ss }) (takes_path s1) (λ ss g rest i. (g, rw h.0 refl, i, refl)))

takes_name_at : (b : ℕ) (bs : List ℕ) (s : State) → s.rest ≡ b ∷ bs → Takes (name_at b) s (λ n front rest. IsNameString n front)
takes_name_at b bs s is = takes_if (b == 0) (λ _. takes_stop (refusals.Name BadName)) (λ some. takes_if (b == 92) (λ t. takes_rooted bs s (is ∙ ap (λ c. c ∷ bs) (eqb-true b 92 t))) (λ _. takes_relative b bs s some is))

pub takes_name : (s : State) → Takes name_string s (λ n front rest. IsNameString n front)
unfolding name_string
takes_name s = takes_peek (λ b bs is. takes_name_at b bs s is)

-- ---- no name is spelled by nothing

pub segment_some : (s : Seg) → 0 < length s.bytes
segment_some s = some s.bytes s.valid
  where
    some : (bs : List ℕ) → IsTrue (is_segment bs) → 0 < length bs
    some [] is = absurd (cc is)
    some (b ∷ bs) is = omega arith

appended_some : (a b : List ℕ) → 0 < length a → 0 < length (a ++ b)
appended_some a b some = rw length-append (omega (arith, some))

path_some : (ss : List Seg) (lead : List ℕ) → Leads (length ss) lead → 0 < length (lead ++ characters ss)
path_some [] [] h = absurd (omega (arith, h))
path_some (s ∷ ss) [] h = appended_some s.bytes (characters ss) (segment_some s)
path_some ss (b ∷ lead) h = omega arith

pub name_some : (n : Name) (spelling : List ℕ) → IsNameString n spelling → 0 < length spelling
name_some n spelling h = rw (h.1, h.2.1, length-append) (omega (arith, path_some n.segments h.2.0 h.2.2))
