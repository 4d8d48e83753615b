-- Names are steady.
use Rattle.std.proofs.Common.{◌≡◌, ℕ, zero, suc, ◌+◌, ◌≤◌, List, [], ◌∷◌, length, drop, Bool, true, false, Err, refl, ◌∙◌, sym, length-drop, arith, ◌⊎◌, inl, inr}
use Rattle.std.specs.Prelude.{◌==◌}
use Rattle.std.specs.List.{prefix_len}
use Rattle.std.proofs.lemmas.List.Folds.{length-prefix_len}
use Rattle.ar_space.specs.declared.refusal.Refusal.{Refusal}
use Rattle.ar_space.specs.declared.refusal.Refusal.TheVariants as refusals
use Rattle.ar_space.specs.declared.refusal.NameFault.TheVariants.{BadName}
use Rattle.ar_space.specs.Change.{settle}
use Rattle.aml_path.specs.declared.name.Prefix.TheVariants.{Root, Parents}
use Rattle.aml_path.specs.Segments.{seg_of, tested}
use Rattle.aml_path.specs.Characters.{is_segment, is_lead_name_char, is_name_char}
use Rattle.aml_grammar.specs.State.{State, Step}
use Rattle.aml_grammar.specs.Names.{only, lead_name_char, name_char, segment, segments, segments_at, counted_segments, multiple_segments, skipping, parents, carets, rooted_name, relative_name, name_string}
use Rattle.aml_spelling.specs.Reach.{ahead}
use Rattle.aml_spelling.proofs.Steady.{Apart, Steady, steady_then, steady_give, steady_map, steady_bad, steady_settled, steady_if, steady_from, steady_times, steady_some}
use Rattle.aml_spelling.proofs.SteadyBytes.{steady_byte, steady_peek, apart_past, counted_same}

-- ---- segments

steady_only : (test : ℕ → Bool) (b : ℕ) (s : State) → Steady false false (only test b) s
steady_only test b s = steady_if (test b) (λ _. steady_give b s) (λ _. steady_bad s)

not_tested : (bs : List ℕ) (b : Bool) (is : is_segment bs ≡ b) (r : Refusal) → tested bs b is ≡ Err r → r ≡ refusals.Name BadName
not_tested bs true is r e = absurd (cc e)
not_tested bs false is r e = cc e

not_segment : (bs : List ℕ) (r : Refusal) → seg_of bs ≡ Err r → r ≡ refusals.Name BadName
unfolding seg_of
not_segment bs r e = not_tested bs (is_segment bs) refl r e

steady_seg : (bs : List ℕ) (s : State) → Steady false false (settle (seg_of bs)) s
steady_seg bs s = steady_settled (seg_of bs) s (λ r e. rw (not_segment bs r e) (omega arith, tt))

pub steady_segment : (s : State) → Steady true false segment s
unfolding segment lead_name_char name_char
steady_segment s =
    steady_then (steady_then (steady_byte s) (λ b s1. steady_only is_lead_name_char b s1)) (λ a s1.
    steady_then (steady_from false (steady_then (steady_byte s1) (λ b s2. steady_only is_name_char b s2))) (λ b s2.
    steady_then (steady_from false (steady_then (steady_byte s2) (λ c s3. steady_only is_name_char c s3))) (λ c s3.
    steady_then (steady_from false (steady_then (steady_byte s3) (λ d s4. steady_only is_name_char d s4))) (λ d s4.
    steady_seg (a ∷ b ∷ c ∷ d ∷ []) s4))))

steady_counted : (n : ℕ) (s : State) → Steady false false (counted_segments n) s
steady_counted n s = steady_if (n == 0) (λ _. steady_bad s) (λ _. steady_times segment steady_segment n s)

pub steady_skipping : {A : Type 0} {m : Step A} {w : Bool} (s : State) → ((s1 : State) → Steady false w m s1) → Steady true w (skipping m) s
steady_skipping s h = steady_then (steady_byte s) (λ b s1. h s1)

steady_segments_at : (b : ℕ) (s : State) → Steady true false (segments_at b) s
unfolding multiple_segments
steady_segments_at b s =
    steady_if (b == 0) (λ _. steady_skipping s (λ s1. steady_give [] s1))
    (λ _. steady_if (b == 46) (λ _. steady_skipping s (steady_times segment steady_segment 2))
    (λ _. steady_if (b == 47) (λ _. steady_skipping s (λ s1. steady_from false (steady_then (steady_byte s1) (λ n s2. steady_counted n s2))))
    (λ _. steady_some segment steady_segment 0 s)))

steady_segments : (s : State) → Steady true false segments s
unfolding segments
steady_segments s = steady_peek (λ b bs is. steady_segments_at b s)

-- ---- prefixes

ahead_drop : (n : ℕ) (l : List ℕ) → ahead l ≤ n + ahead (drop n l)
ahead_drop zero l = omega arith
ahead_drop (suc n) [] = omega arith
ahead_drop (suc n) (b ∷ l) = omega arith

-- the bytes end there, or one more was looked at
ends : (n i p : ℕ) (l left : List ℕ) → drop n l ≡ left → i + n + ahead left ≤ p → (i + suc n ≤ p) ⊎ (i + length l ≤ p)
ends n i p l [] is le = let short : length (drop n l) ≡ 0 = rw is refl in inr (omega (arith, le, short, length-drop n l))
ends n i p l (b ∷ left) is le = inl (omega (arith, le))

carets_same : {p : ℕ} {s t : State} (apart : Apart p s t) → s.at + carets s.rest + ahead (drop (carets s.rest) s.rest) ≤ p → carets t.rest ≡ carets s.rest
carets_same {p = p} {s = s} {t = t} apart le =
    let count = λ (l : List ℕ). length-prefix_len (λ b. b == 94) l in
    let at_end = ends (carets s.rest) s.at p s.rest (drop (carets s.rest) s.rest) refl le in
    let same : prefix_len (λ b. b == 94) t.rest ≡ prefix_len (λ b. b == 94) s.rest = counted_same (λ b. b == 94) apart (rw (count s.rest) at at_end) in
    count t.rest ∙ same ∙ sym (count s.rest)

steady_parents : (s : State) → Steady true true parents s
unfolding parents
steady_parents s = record {
  onward = omega (arith, ahead_drop (carets s.rest) s.rest);
  placed = λ r e. absurd (cc e);
  same = λ p t apart le.
      let e : carets t.rest ≡ carets s.rest = carets_same apart le in
      rw e (refl, apart_past apart (carets s.rest) (omega (arith, le)));
}

-- ---- whole names

steady_rooted : (s : State) → Steady true false rooted_name s
unfolding rooted_name
steady_rooted s = steady_then (steady_byte s) (λ c s1. steady_map (λ ss. record { prefix = Root; segments = ss }) (steady_from false (steady_segments s1)))

steady_relative : (s : State) → Steady true false relative_name s
unfolding relative_name
steady_relative s = steady_then (steady_parents s) (λ n s1. steady_map (λ ss. record { prefix = Parents n; segments = ss }) (steady_segments s1))

pub steady_name : (s : State) → Steady true false name_string s
unfolding name_string
steady_name s = steady_peek (λ b bs is. steady_if (b == 0) (λ _. steady_bad s) (λ _. steady_if (b == 92) (λ _. steady_rooted s) (λ _. steady_relative s)))
