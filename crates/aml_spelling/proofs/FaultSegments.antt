-- Where segments are refused in reading, their fault stands there.
use Rattle.std.proofs.Common.{◌≡◌, ℕ, zero, suc, ◌+◌, List, [], ◌∷◌, ◌++◌, length, Bool, true, false, refl, subst, ◌∙◌, sym, ap, append-nil, arith}
use Rattle.std.specs.Prelude.{◌&&◌}
use Rattle.ar_space.specs.Change.{settle, ◌>>=◌}
use Rattle.ar_space.specs.Outcome.{Outcome}
use Rattle.ar_space.specs.declared.refusal.Refusal.{Refusal}
use Rattle.ar_space.specs.declared.refusal.Refusal.TheVariants as refusals
use Rattle.ar_space.specs.declared.refusal.NameFault.TheVariants.{BadName}
use Rattle.aml_path.specs.declared.segment.Seg.{Seg}
use Rattle.aml_path.specs.Segments.{seg_of}
use Rattle.aml_path.proofs.Segments.{seg_is}
use Rattle.aml_path.specs.Characters.{is_lead_name_char, is_name_char, is_segment}
use Rattle.aml_grammar.specs.State.{State, Step, byte, times}
use Rattle.aml_grammar.specs.Names.{only, lead_name_char, name_char, segment}
use Rattle.aml_scan.specs.Spelling.{characters}
use Rattle.aml_scan.proofs.Takes.{Takes, takes_then, takes_give, takes_stop, takes_if, takes_byte}
use Rattle.aml_scan.proofs.SpelledNames.{takes_segment}
use Rattle.aml_spelling.specs.Faults.{Sort, Spot, AtPart}
use Rattle.aml_spelling.proofs.Ends.{Ends, ends_only, ends_segment}
use Rattle.aml_spelling.proofs.FaultApart.{got_apart}
use Rattle.aml_spelling.proofs.FaultParts.{StandsAt, at_short, at_end, one_past}
use Rattle.aml_spelling.proofs.FaultShapes.{Then, Byte, byte_apart, end_of, lifted, at_first, at_next}
use Rattle.aml_spelling.proofs.FaultSorts.{Apart}
use Rattle.aml_spelling.proofs.GetsNames.{and_both, gets_segment}
use Rattle.aml_spelling.proofs.Halts.{Halts, went_on, halts_then, halts_give, halts_stop, halts_map, halts_more, halts_byte, halts_if}

-- ---- one part after another

-- reading refuses so, wherever it stands
abbrev pub Refuses : {A : Type 0} → Step A → Sort → Type 0
Refuses m Is = (s : State) (spot : Spot) → StandsAt s spot → Halts m s (λ r. AtPart Is spot r)

-- where reading stands now
abbrev pub moved : Spot → State → Spot
moved spot s = record spot { at = s.at; rest = s.rest }

pub moved_end : (s s1 : State) (spot : Spot) → StandsAt s spot → s1.at + length s1.rest ≡ s.at + length s.rest → end_of (moved spot s1) ≡ end_of spot
moved_end s s1 spot h e = e ∙ ap (λ (k : ℕ). k + length s.rest) h.0 ∙ ap (λ (l : List ℕ). spot.at + length l) h.1

pub same_sorts : (P Q : Sort) → ((l : List ℕ) → P l → Q l) → ((l : List ℕ) → Q l → P l) → (spot : Spot) (r : Refusal) → AtPart P spot r → AtPart Q spot r
same_sorts P Q to back spot r = lifted P Q spot spot (λ s. (s.0, s.1, to (spot.rest ++ s.0 ∷ s.1) s.2))
    (λ w. (w.0, w.1, w.2, w.3, (w.4.0, w.4.1, to (w.0 ++ w.4.0 ∷ w.4.1) w.4.2), λ starts. w.5 (starts.0, back ((w.0 ++ w.1 ∷ []) ++ starts.0) starts.1))) refl r

pub part_then : {A B : Type 0} (P Q : Sort) (R : A → List ℕ → Type 0) (m : Step A) (k : A → Step B) → Apart P → (q : List ℕ) → Q q → ((s : State) → Takes m s (λ a front rest. R a front)) → ((a : A) (front : List ℕ) → R a front → P front) → ((s : State) → Ends m s)
    → Refuses m P → ((a : A) (front : List ℕ) → R a front → Refuses (k a) Q) → Refuses (m >>= k) (Then P Q)
part_then P Q R m k apart q h takes is ends one two s spot here =
    halts_then (halts_more (one s spot here) (at_first P Q apart q h spot)) (λ a s1 e.
    let t = (takes s).is a s1 e in
    halts_more (two a t.0 t.2 s1 (moved spot s1) (refl, refl)) (at_next P Q apart t.0 (is a t.0 t.2) spot (moved spot s1) (sym here.1 ∙ t.1) (moved_end s s1 spot here ((ends s).is a s1 e))))

-- ---- characters

-- a byte that passed a test
abbrev Tested : (ℕ → Bool) → ℕ → List ℕ → Type 0
Tested test b front = (front ≡ b ∷ []) × (test b ≡ true)

takes_tested : (test : ℕ → Bool) (s : State) → Takes (byte >>= only test) s (λ b front rest. Tested test b front)
takes_tested test s = takes_then (takes_byte s) (λ b f s1 h. takes_if (test b) (λ may. takes_give b (rw append-nil (h, may))) (λ _. takes_stop (refusals.Name BadName)))

tested_is : (test : ℕ → Bool) (b : ℕ) (front : List ℕ) → Tested test b front → Byte test front
tested_is test b front h = (b, h.0, h.1)

not_tested : (test : ℕ → Bool) (b c : ℕ) (more : List ℕ) → test b ≡ false → b ∷ more ≡ c ∷ [] → test c ≡ true → ⊥
not_tested test b c more wrong e may = let same : b ≡ c = cc e in cc (wrong, may, ap test same)

refuses_tested : (test : ℕ → Bool) (good : ℕ) → test good ≡ true → Refuses (byte >>= only test) (Byte test)
refuses_tested test good may s spot here =
    halts_then (halts_more (halts_byte s) (λ r m. at_short (Byte test) spot r s.at m.0 (at_end s spot here m.1) (rw (← here.1, m.1) (good, [], (good, refl, may))))) (λ b s1 e.
    let p = one_past s b s1 e in
    halts_if (test b) (λ _. halts_give b) (λ wrong. halts_stop (refusals.Name BadName) ([], b, s1.rest, sym here.1 ∙ p.0, (good, [], (good, refl, may)), λ starts. not_tested test b starts.1.0 starts.0 wrong starts.1.1 starts.1.2)))

-- ---- segments

abbrev pub Segment : Sort
Segment spelling = (seg : Seg) × (spelling ≡ seg.bytes)

abbrev pub Segments : ℕ → Sort
Segments n spelling = (ss : List Seg) × (length ss ≡ n) × (spelling ≡ characters ss)

abbrev pub sample : Seg
sample = record { bytes = 65 ∷ 65 ∷ 65 ∷ 65 ∷ []; valid = refl }

abbrev Three : Sort
Three = Then (Byte is_name_char) (Then (Byte is_name_char) (Byte is_name_char))

abbrev Four : Sort
Four = Then (Byte is_lead_name_char) Three

all_true : (x y z w : Bool) → x ≡ true → y ≡ true → z ≡ true → w ≡ true → (x && y && z && w) ≡ true
all_true true true true true e f g h = refl
all_true false y z w e f g h = absurd (cc e)
all_true true false z w e f g h = absurd (cc f)
all_true true true false w e f g h = absurd (cc g)
all_true true true true false e f g h = absurd (cc h)

four_valid : (a b c d : ℕ) → is_lead_name_char a ≡ true → is_name_char b ≡ true → is_name_char c ≡ true → is_name_char d ≡ true → is_segment (a ∷ b ∷ c ∷ d ∷ []) ≡ true
four_valid a b c d e f g h = all_true (is_lead_name_char a) (is_name_char b) (is_name_char c) (is_name_char d) e f g h

four_segment : (l : List ℕ) → Four l → Segment l
four_segment l h =
    let t = h.4 in
    let u = t.4 in
    let valid = four_valid h.3.0 t.3.0 u.3.0 u.4.0 h.3.2 t.3.2 u.3.2 u.4.2 in
    (record { bytes = h.3.0 ∷ t.3.0 ∷ u.3.0 ∷ u.4.0 ∷ []; valid = valid }, rw (h.2, h.3.1, t.2, t.3.1, u.2, u.3.1, u.4.1) refl)

four_of : (bs : List ℕ) → is_segment bs ≡ true → Four bs
four_of (a ∷ b ∷ c ∷ d ∷ []) valid =
    let last = and_both (is_lead_name_char a && is_name_char b && is_name_char c) (is_name_char d) valid in
    let third = and_both (is_lead_name_char a && is_name_char b) (is_name_char c) last.0 in
    let second = and_both (is_lead_name_char a) (is_name_char b) third.0 in
    (a ∷ [], b ∷ c ∷ d ∷ [], refl, (a, refl, second.0), (b ∷ [], c ∷ d ∷ [], refl, (b, refl, second.1), (c ∷ [], d ∷ [], refl, (c, refl, third.1), (d, refl, last.1))))
four_of [] valid = absurd (cc valid)
four_of (a ∷ []) valid = absurd (cc valid)
four_of (a ∷ b ∷ []) valid = absurd (cc valid)
four_of (a ∷ b ∷ c ∷ []) valid = absurd (cc valid)
four_of (a ∷ b ∷ c ∷ d ∷ e ∷ bs) valid = absurd (cc valid)

segment_four : (l : List ℕ) → Segment l → Four l
segment_four l h = subst (λ (k : List ℕ). Four k) (sym h.1) (four_of h.0.bytes h.0.valid)

settles : (bs : List ℕ) (F : Refusal → Type 0) (s : State) → is_segment bs ≡ true → Halts (settle (seg_of bs)) s F
unfolding settle
settles bs F s valid = record { is = λ r s2 e. absurd (went_on (ap (λ (o : Outcome Seg). (o, s)) (sym (seg_is bs valid)) ∙ e)) }

some_byte : Byte is_name_char (65 ∷ [])
some_byte = (65, refl, refl)

refuses_four : Refuses segment Four
unfolding segment lead_name_char name_char
refuses_four =
    part_then (Byte is_lead_name_char) Three (Tested is_lead_name_char) _ _ (byte_apart is_lead_name_char) (65 ∷ 65 ∷ 65 ∷ []) (65 ∷ [], 65 ∷ 65 ∷ [], refl, some_byte, (65 ∷ [], 65 ∷ [], refl, some_byte, some_byte)) (takes_tested is_lead_name_char) (tested_is is_lead_name_char) (ends_only _) (refuses_tested is_lead_name_char 65 refl) (λ a f h.
    part_then (Byte is_name_char) (Then (Byte is_name_char) (Byte is_name_char)) (Tested is_name_char) _ _ (byte_apart is_name_char) (65 ∷ 65 ∷ []) (65 ∷ [], 65 ∷ [], refl, some_byte, some_byte) (takes_tested is_name_char) (tested_is is_name_char) (ends_only _) (refuses_tested is_name_char 65 refl) (λ b g i.
    part_then (Byte is_name_char) (Byte is_name_char) (Tested is_name_char) _ _ (byte_apart is_name_char) (65 ∷ []) some_byte (takes_tested is_name_char) (tested_is is_name_char) (ends_only _) (refuses_tested is_name_char 65 refl) (λ c k j s spot here.
    halts_then (refuses_tested is_name_char 65 refl s spot here) (λ d s1 e.
    let t = (takes_tested is_name_char s).is d s1 e in
    settles (a ∷ b ∷ c ∷ d ∷ []) (λ r. AtPart (Byte is_name_char) spot r) s1 (four_valid a b c d h.1 i.1 j.1 t.2.1)))))

pub refuses_segment : Refuses segment Segment
refuses_segment s spot here = halts_more (refuses_four s spot here) (same_sorts Four Segment four_segment segment_four spot)

pub segments_apart : Apart Segment
segments_apart = got_apart Segment segment (λ front rest s h is. (h.0, gets_segment h.0 (is ∙ ap (λ (l : List ℕ). l ++ rest) h.1) refl))

pub some_segments : (n : ℕ) → (q : List ℕ) × Segments n q
some_segments zero = ([], ([], refl, refl))
some_segments (suc n) = let k = some_segments n in (sample.bytes ++ k.0, (sample ∷ k.1.0, ap suc k.1.1, ap (λ (l : List ℕ). sample.bytes ++ l) k.1.2))

more_segments : (n : ℕ) (l : List ℕ) → Then Segment (Segments n) l → Segments (suc n) l
more_segments n l h = (h.3.0 ∷ h.4.0, ap suc h.4.1, rw (h.2, h.3.1, h.4.2) refl)

fewer : (n : ℕ) (ss : List Seg) (l : List ℕ) → length ss ≡ suc n → l ≡ characters ss → Then Segment (Segments n) l
fewer n [] l e is = absurd (omega (arith, e))
fewer n (seg ∷ ss) l e is = (seg.bytes, characters ss, is, (seg, refl), (ss, omega (arith, e), refl))

pub refuses_segments : (n : ℕ) → Refuses (times segment n) (Segments n)
unfolding times
refuses_segments zero s spot here = halts_give []
refuses_segments (suc n) s spot here =
    let k = some_segments n in
    halts_more (part_then Segment (Segments n) (λ (seg : Seg) (front : List ℕ). front ≡ seg.bytes) segment _ segments_apart k.0 k.1 takes_segment (λ seg front e. (seg, e)) ends_segment refuses_segment
    (λ x front e s1 next there. halts_map (λ xs. x ∷ xs) (refuses_segments n s1 next there)) s spot here)
    (same_sorts (Then Segment (Segments n)) (Segments (suc n)) (more_segments n) (λ l h. fewer n h.0 l h.1 h.2) spot)
