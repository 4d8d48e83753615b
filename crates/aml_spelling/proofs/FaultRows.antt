-- Where the operands of a row are refused, the first ones are spelled and may stand, and the fault is in the next one.
use Rattle.std.proofs.Common.{◌≡◌, ℕ, ◌+◌, List, [], ◌∷◌, ◌++◌, length, take, drop, Bool, true, false, Some, Ok, refl, subst, ◌∙◌, sym, ap, append_assoc, length-append, length-take, arith, ◌⊎◌, inl, inr}
use Rattle.std.proofs.lemmas.List.{take-append-drop}
use Rattle.ar_space.specs.declared.refusal.Refusal.{Refusal}
use Rattle.aml_path.specs.declared.segment.Seg.{Seg}
use Rattle.aml_grammar.specs.declared.kinds.OperandKind.{OperandKind}
use Rattle.aml_grammar.specs.declared.kinds.Row.{Row}
use Rattle.aml_arities.specs.declared.arities.Arity.{Arity}
use Rattle.aml_grammar.specs.declared.context.Context.{Context}
use Rattle.aml_grammar.specs.declared.context.Earlier.{Earlier}
use Rattle.aml_grammar.specs.State.{State, Step, package_size, enter, narrow, leave}
use Rattle.aml_grammar.specs.Tree.{Part, Parts, no_parts, part}
use Rattle.aml_grammar.specs.Grammar.{Inner, is_nothing, kinds_of, nothing_earlier, packed, operands, row_operands}
use Rattle.aml_scan.specs.Spelling.{IsLength, up_to_nothing, operand_kinds, Spells, SpellsOperand, SpellsOperands}
use Rattle.aml_scan.proofs.Takes.{same_state, both}
use Rattle.aml_scan.proofs.SpelledRows.{around_of, kinds_go_on}
use Rattle.aml_spelling.specs.Stands.{StandsOperand}
use Rattle.aml_spelling.specs.Faults.{Spot, Way, an_operand, behind, AtLength, AreFirst, StandFirst, Encloses, FaultyAt}
use Rattle.aml_spelling.proofs.Ends.{ends_size}
use Rattle.aml_spelling.proofs.EndsTerms.{ends_operand}
use Rattle.aml_spelling.proofs.FaultKinds.{Below, OperandFault, halts_operand}
use Rattle.aml_spelling.proofs.FaultLengths.{takes_size}
use Rattle.aml_spelling.proofs.FaultLists.{spot_of}
use Rattle.aml_spelling.proofs.FaultParts.{StandsAt, part_length}
use Rattle.aml_spelling.proofs.FaultTakes.{takes_operand}
use Rattle.aml_spelling.proofs.Halts.{Halts, went_on, halts_then, halts_give, halts_map, halts_more, halts_if}
use Rattle.aml_spelling.proofs.Leaves.{leaves_enter}
use Rattle.aml_spelling.proofs.LeavesParts.{leaves_operand}

at_here : (n : ℕ) → n + 0 ≡ n
at_here n = omega arith

-- ---- packages

halts_narrow : (n : ℕ) (s : State) (F : Refusal → Type 0) → Halts (narrow n) s F
halts_narrow n s F = record { is = λ r s2 e. absurd (went_on e) }

halts_leave : {A : Type 0} (outer : ℕ × List ℕ) (x : A) (s : State) (F : Refusal → Type 0) → Halts (leave outer x) s F
halts_leave outer x s F = record { is = λ r s2 e. absurd (went_on e) }

-- what is read in a package: where it begins, its bytes, and what is left behind it
pub record Entered (s s1 : State) : Type 0 where
  pub lead : List ℕ
  pub content : List ℕ
  pub back : List ℕ
  pub taken : s.rest ≡ lead ++ (content ++ back)
  pub size : IsLength (length (lead ++ content)) lead
  pub moved : s1.at ≡ s.at + length lead
  pub inside : s1.rest ≡ content
  pub knows : s1.arities ≡ s.arities

moved_by : (a b c d e : ℕ) → b ≡ c + d → e + d ≡ a + b → e ≡ a + c
moved_by a b c d e f g = omega (arith, f, g)

entered : (s s1 : State) (outer : ℕ × List ℕ) → enter s ≡ (Ok outer, s1) → Entered s s1
unfolding enter
entered s s1 outer e =
    let q = both package_size (λ n. narrow n) s outer s1 e in
    let t = (takes_size s).is q.0 q.1 q.2 in
    let n : length s.rest ≡ length t.0 + length q.1.rest = ap (λ (l : List ℕ). length l) t.1 ∙ length-append t.0 q.1.rest in
    let m : q.1.at ≡ s.at + length t.0 = moved_by s.at (length s.rest) (length t.0) (length q.1.rest) q.1.at n ((ends_size s).is q.0 q.1 q.2) in
    let k : length (take q.0 q.1.rest) ≡ q.0 = omega (arith, length-take q.0 q.1.rest, t.2.1) in
    let w : length (t.0 ++ take q.0 q.1.rest) ≡ length t.0 + q.0 = length-append t.0 (take q.0 q.1.rest) ∙ ap (λ (i : ℕ). length t.0 + i) k in
    record {
      lead = t.0;
      content = take q.0 q.1.rest;
      back = drop q.0 q.1.rest;
      taken = t.1 ∙ ap (λ (l : List ℕ). t.0 ++ l) (sym (take-append-drop q.0 q.1.rest));
      size = subst (λ (i : ℕ). IsLength i t.0) (sym w) t.2.0;
      moved = ap (λ (u : State). u.at) (sym (same_state q.3)) ∙ m;
      inside = ap (λ (u : State). u.rest) (sym (same_state q.3));
      knows = (leaves_enter s).is outer s1 e;
    }

pub halts_packed : {A : Type 0} (m : Step A) (s : State) (spot : Spot) (F : Refusal → Type 0) → StandsAt s spot → ((r : Refusal) → AtLength spot r → F r) → ((s1 : State) → Entered s s1 → Halts m s1 F) → Halts (packed true m) s F
unfolding enter
halts_packed m s spot F here short i = halts_then (halts_then (halts_more (part_length s spot here) short) (λ n s0 e. halts_narrow n s0 F)) (λ outer s1 e.
    halts_then (i s1 (entered s s1 outer e)) (λ x s2 f. halts_leave outer x s2 F))

-- ---- operands

module _ (levels : ℕ) (inner_term : Inner) (below : Below levels inner_term) (scope : List Seg) (context : Context) (item : ℕ) (in_item_at : context.item ≡ Some item) (start : ℕ) where
  abbrev pub here_at : State → Spot
  here_at s = spot_of levels scope (around_of context) item s

  -- the fault is in an operand behind some that pass
  abbrev pub InOperand : List OperandKind → Earlier → State → Refusal → Type 0
  InOperand ks earlier s r =
      (first : List OperandKind) × (k : OperandKind) × AreFirst first ks k × (ps : Parts) × (front : List ℕ) × (left : List ℕ) × (s.rest ≡ front ++ left) × SpellsOperands (around_of context) false first ps front []
      × (later : Earlier) × (after : List Arity) × StandFirst levels scope (around_of context) first ps earlier s.arities later after
      × (way : Way) × FaultyAt way (an_operand start k later) (behind front left after (here_at s)) r

  operand_first : (k : OperandKind) (ks : List OperandKind) (earlier : Earlier) (s : State) (r : Refusal) → OperandFault levels inner_term below scope context item in_item_at start k earlier s r → InOperand (k ∷ ks) earlier s r
  unfolding Spells
  operand_first k ks earlier s r h =
      let same : here_at s ≡ behind [] s.rest s.arities (here_at s) = rw (at_here s.at) refl in
      ([], k, (ks, refl), no_parts, [], s.rest, refl, (refl, refl), earlier, s.arities, (refl, refl), h.0, subst (λ (next : Spot). FaultyAt h.0 (an_operand start k earlier) next r) same h.1)

  operand_later : (k : OperandKind) (ks : List OperandKind) (earlier next : Earlier) (s s1 : State) (r : Refusal) (p : Part) (front : List ℕ) → s.rest ≡ front ++ s1.rest → s1.at ≡ s.at + length front
      → SpellsOperand (around_of context) k p front → StandsOperand levels scope (around_of context) k p earlier s.arities next s1.arities → InOperand ks next s1 r → InOperand (k ∷ ks) earlier s r
  unfolding Spells
  operand_later k ks earlier next s s1 r p front is moved spelled stands h =
      let whole : s.rest ≡ (front ++ h.4) ++ h.5 = is ∙ ap (λ (l : List ℕ). front ++ l) h.6 ∙ sym (append_assoc front h.4 h.5) in
      let n : length (front ++ h.4) ≡ length front + length h.4 = length-append front h.4 in
      let there : s1.at + length h.4 ≡ s.at + length (front ++ h.4) = omega (arith, n, moved) in
      let same : behind h.4 h.5 h.9 (here_at s1) ≡ behind (front ++ h.4) h.5 h.9 (here_at s) = ap (λ (i : ℕ). record (here_at s) { at = i; rest = h.5; known = h.9 }) there in (
        k ∷ h.0,
        h.1,
        (h.2.0, ap (λ (l : List OperandKind). k ∷ l) h.2.1),
        part p h.3,
        front ++ h.4,
        h.5,
        whole,
        (front, h.4, refl, spelled, h.7),
        h.8,
        h.9,
        (next, s1.arities, stands, h.10),
        h.11,
        subst (λ (spot : Spot). FaultyAt h.11 (an_operand start h.1 h.8) spot r) same h.12,
      )

  halts_operands : (ks : List OperandKind) (earlier : Earlier) (s : State) → Halts (operands inner_term scope context start ks earlier) s (InOperand (up_to_nothing ks) earlier s)
  unfolding operands
  halts_operands [] earlier s = halts_give []
  halts_operands (k ∷ ks) earlier s = halts_if (is_nothing k) (λ none. halts_give []) (λ some.
      halts_then (halts_more (halts_operand levels inner_term below scope context item in_item_at start k earlier s) (λ r h.
      subst (λ (l : List OperandKind). InOperand l earlier s r) (sym (kinds_go_on k ks some)) (operand_first k (up_to_nothing ks) earlier s r h))) (λ x s1 e.
      let t = (takes_operand inner_term below.takes scope context start k earlier s some).is x s1 e in
      let l = (leaves_operand levels inner_term below.leaves scope context start k earlier s).is x s1 e in
      let n : length s.rest ≡ length t.0 + length s1.rest = ap (λ (l : List ℕ). length l) t.1 ∙ length-append t.0 s1.rest in
      let m : s1.at ≡ s.at + length t.0 = moved_by s.at (length s.rest) (length t.0) (length s1.rest) s1.at n ((ends_operand inner_term below.ends scope context start k earlier s).is x s1 e) in
      halts_map (λ ps. x.0 ∷ ps) (halts_more (halts_operands ks x.1 s1) (λ r h.
      subst (λ (l : List OperandKind). InOperand l earlier s r) (sym (kinds_go_on k ks some)) (operand_later k (up_to_nothing ks) earlier x.1 s s1 r x.0 t.0 t.1 m t.2.0 l h)))))

  -- ---- rows

  -- the same in a package that fits, or in what stands there
  abbrev pub InRow : Row → State → Refusal → Type 0
  InRow row s r =
      (lead : List ℕ) × (content : List ℕ) × Encloses row.2 s.rest lead content × (first : List OperandKind) × (k : OperandKind) × AreFirst first (operand_kinds row.3) k × (ps : Parts)
      × (front : List ℕ) × (left : List ℕ) × (content ≡ front ++ left) × SpellsOperands (around_of context) false first ps front []
      × (later : Earlier) × (after : List Arity) × StandFirst levels scope (around_of context) first ps nothing_earlier s.arities later after
      × (way : Way) × FaultyAt way (an_operand start k later) (behind (lead ++ front) left after (here_at s)) r

  in_package : (row : Row) (s s1 : State) (r : Refusal) → row.2 ≡ true → Entered s s1 → InOperand (operand_kinds row.3) nothing_earlier s1 r → InRow row s r
  in_package row s s1 r packs p h =
      let n : length (p.lead ++ h.4) ≡ length p.lead + length h.4 = length-append p.lead h.4 in
      let there : s1.at + length h.4 ≡ s.at + length (p.lead ++ h.4) = omega (arith, n, p.moved) in
      let same : behind h.4 h.5 h.9 (here_at s1) ≡ behind (p.lead ++ h.4) h.5 h.9 (here_at s) = ap (λ (i : ℕ). record (here_at s) { at = i; rest = h.5; known = h.9 }) there in
      let stands = subst (λ (known : List Arity). StandFirst levels scope (around_of context) h.0 h.3 nothing_earlier known h.8 h.9) p.knows h.10 in (
        p.lead,
        p.content,
        subst (λ (b : Bool). Encloses b s.rest p.lead p.content) (sym packs) (p.back, p.taken, p.size),
        h.0,
        h.1,
        h.2,
        h.3,
        h.4,
        h.5,
        sym p.inside ∙ h.6,
        h.7,
        h.8,
        h.9,
        stands,
        h.11,
        subst (λ (spot : Spot). FaultyAt h.11 (an_operand start h.1 h.8) spot r) same h.12,
      )

  in_none : (row : Row) (s : State) (r : Refusal) → row.2 ≡ false → InOperand (operand_kinds row.3) nothing_earlier s r → InRow row s r
  in_none row s r bare h = ([], s.rest, subst (λ (b : Bool). Encloses b s.rest [] s.rest) (sym bare) (refl, refl), h.0, h.1, h.2, h.3, h.4, h.5, h.6, h.7, h.8, h.9, h.10, h.11, h.12)

  packed_halts : (row : Row) (s : State) (b : Bool) → row.2 ≡ b → Halts (packed b (operands inner_term scope context start (kinds_of row.3) nothing_earlier)) s (λ r. ((row.2 ≡ true) × AtLength (here_at s) r) ⊎ InRow row s r)
  packed_halts row s true is = halts_packed _ s (here_at s) _ (refl, refl) (λ r h. inl (is, h)) (λ s1 p. halts_more (halts_operands (kinds_of row.3) nothing_earlier s1) (λ r h. inr (in_package row s s1 r is p h)))
  packed_halts row s false is = halts_more (halts_operands (kinds_of row.3) nothing_earlier s) (λ r h. inr (in_none row s r is h))

  -- the package's length has a fault, or an operand
  pub halts_row_operands : (row : Row) (s : State) → Halts (row_operands inner_term scope context start row) s (λ r. ((row.2 ≡ true) × AtLength (here_at s) r) ⊎ InRow row s r)
  halts_row_operands row s = packed_halts row s row.2 refl
