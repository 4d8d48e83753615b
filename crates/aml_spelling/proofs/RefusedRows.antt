-- A fault on a way through an operand of a row is what reading the row's operands refuses.
use Rattle.std.proofs.Common.{◌≡◌, ℕ, ◌+◌, List, [], ◌∷◌, ◌++◌, length, take, Bool, true, false, Some, Ok, Err, refl, subst, ◌∙◌, sym, ap, append_assoc, length-append, arith}
use Rattle.std.specs.Prelude.{if◌then◌else◌}
use Rattle.std.proofs.lemmas.List.{take_at}
use Rattle.ar_space.specs.Outcome.{Outcome}
use Rattle.ar_space.specs.Change.{◌>>=◌, go_on}
use Rattle.ar_space.specs.declared.refusal.Refusal.{Refusal}
use Rattle.aml_path.specs.declared.segment.Seg.{Seg}
use Rattle.aml_grammar.specs.declared.kinds.OperandKind.{OperandKind}
use Rattle.aml_grammar.specs.declared.kinds.Row.{Row}
use Rattle.aml_arities.specs.declared.arities.Arity.{Arity}
use Rattle.aml_grammar.specs.declared.context.Context.{Context}
use Rattle.aml_grammar.specs.declared.context.Earlier.{Earlier}
use Rattle.aml_grammar.specs.Table.{row_of}
use Rattle.aml_grammar.specs.State.{State, Step, enter}
use Rattle.aml_grammar.specs.Tree.{Parts, no_parts, part}
use Rattle.aml_grammar.specs.Grammar.{Inner, is_nothing, kinds_of, nothing_earlier, packed, operands, row_operands}
use Rattle.aml_scan.specs.Spelling.{IsLength, up_to_nothing, Spells, SpellsOperands}
use Rattle.aml_scan.proofs.SpelledRows.{around_of, kinds_end, kinds_go_on, takes_rest}
use Rattle.aml_spelling.specs.Faults.{Spot, Way, an_operand, behind, AtLength, AreFirst, StandFirst, Encloses, FaultyAt}
use Rattle.aml_spelling.proofs.Ends.{ends_size}
use Rattle.aml_spelling.proofs.EndsTerms.{ends_operand}
use Rattle.aml_spelling.proofs.FaultLengths.{length_refuses}
use Rattle.aml_spelling.proofs.FaultLists.{spot_of}
use Rattle.aml_spelling.proofs.FaultParts.{StandsAt}
use Rattle.aml_spelling.proofs.FaultRows.{InRow}
use Rattle.aml_spelling.proofs.FaultTerms.{same_spot}
use Rattle.aml_spelling.proofs.Gets.{gets_package_size}
use Rattle.aml_spelling.proofs.GetsRows.{gets_operand}
use Rattle.aml_spelling.proofs.RefusedKinds.{Full, operand_refused}
use Rattle.aml_spelling.proofs.RefusedLists.{moved_at}
use Rattle.aml_spelling.proofs.Refused.{Refused, refused_first, refused_next, refused_no}
use Rattle.aml_spelling.proofs.RowFacts.{ends, ends_last, rest_is_last, row_ordered}

at_here : (n : ℕ) → n + 0 ≡ n
at_here n = omega arith

-- ---- packages

stays_refused : {A B : Type 0} (p : Outcome A × State) (k : A → Step B) (r : Refusal) → p.0 ≡ Err r → (go_on p.0 p.1 k).0 ≡ Err r
unfolding go_on
stays_refused (Ok a, s) k r e = absurd (cc e)
stays_refused (Err q, s) k r e = let same : q ≡ r = cc e in ap (λ (x : Refusal). Err x) same

pub size_refused : {A : Type 0} (m : Step A) (s : State) (spot : Spot) → StandsAt s spot → (r : Refusal) → AtLength spot r → Refused (packed true m) s r
unfolding enter
size_refused m s spot here r h = let k = length_refuses s spot here r h in refused_first _ (refused_first _ (record { is = ap (λ (p : Outcome _ × State). p.0) k.1 }))

-- what refuses in a package that fits
pub inside_refused : {A : Type 0} (m : Step A) (s : State) (lead content back : List ℕ) (r : Refusal) → s.rest ≡ lead ++ (content ++ back) → IsLength (length (lead ++ content)) lead
    → ((s1 : State) → s1.at ≡ s.at + length lead → s1.rest ≡ content → s1.arities ≡ s.arities → Refused m s1 r) → Refused (packed true m) s r
unfolding enter ◌>>=◌ go_on
inside_refused m s lead content back r is size i =
    let p = gets_package_size {s = s} {known = s.arities} content lead back size is refl in
    let h : Refused m (record p.after { rest = take (length content) p.after.rest }) r =
    i (record p.after { rest = take (length content) p.after.rest }) (moved_at lead ends_size is p) (ap (λ (l : List ℕ). take (length content) l) p.left ∙ take_at content back (length content) refl) p.knows in
    record { is = rw p.is (stays_refused (m (record p.after { rest = take (length content) p.after.rest })) _ r h.is) }

-- ---- operands

last_here : (n t : Bool) (ks : List OperandKind) → n ≡ false → t ≡ true → (if n then true else (if t then ends ks else rest_is_last ks)) ≡ true → ends ks ≡ true
last_here true t ks some takes e = absurd (cc some)
last_here false true ks some takes e = e
last_here false false ks some takes e = absurd (cc takes)

last_later : (n t : Bool) (ks : List OperandKind) → n ≡ false → (if n then true else (if t then ends ks else rest_is_last ks)) ≡ true → rest_is_last ks ≡ true
last_later true t ks some e = absurd (cc some)
last_later false true ks some e = ends_last ks e
last_later false false ks some e = e

not_empty : (k : OperandKind) (first others : List OperandKind) → [] ≡ first ++ k ∷ others → ⊥
not_empty k [] others e = cc e
not_empty k (f ∷ first) others e = cc e

heads : (j k : OperandKind) (x y : List OperandKind) → j ∷ x ≡ k ∷ y → (j ≡ k) × (x ≡ y)
heads j k x y e = (cc e, cc e)

no_more : (ks : List OperandKind) (k : OperandKind) (first : List OperandKind) → ends ks ≡ true → AreFirst first (up_to_nothing ks) k → ⊥
no_more [] k first e h = not_empty k first h.0 h.1
no_more (j ∷ ks) k first e h = not_empty k first h.0 (sym (kinds_end j ks e) ∙ h.1)

module _ (levels : ℕ) (inner_term : Inner) (full : Full levels inner_term) (scope : List Seg) (context : Context) (item : ℕ) (in_item_at : context.item ≡ Some item) (start : ℕ) where
  abbrev spot_here : State → Spot
  spot_here s = spot_of levels scope (around_of context) item s

  Reaches : List OperandKind → Type 0
  Reaches ks = (first : List OperandKind) (kind : OperandKind) (ps : Parts) (earlier later : Earlier) (front left : List ℕ) (after : List Arity) (s : State) (r : Refusal) (way : Way) → rest_is_last ks ≡ true → AreFirst first (up_to_nothing ks) kind
      → s.rest ≡ front ++ left → SpellsOperands (around_of context) false first ps front [] → StandFirst levels scope (around_of context) first ps earlier s.arities later after
      → FaultyAt way (an_operand start kind later) (behind front left after (spot_of levels scope (around_of context) item s)) r → Refused (operands inner_term scope context start ks earlier) s r

  reached_none : (j : OperandKind) (ks : List OperandKind) (kind : OperandKind) (ps : Parts) (earlier later : Earlier) (front left : List ℕ) (after : List Arity) (s : State) (r : Refusal) (way : Way) → is_nothing j ≡ false → j ≡ kind
      → s.rest ≡ front ++ left → SpellsOperands (around_of context) false [] ps front [] → StandFirst levels scope (around_of context) [] ps earlier s.arities later after
      → FaultyAt way (an_operand start kind later) (behind front left after (spot_of levels scope (around_of context) item s)) r → Refused (operands inner_term scope context start (j ∷ ks) earlier) s r
  unfolding operands Spells
  reached_none j ks kind no_parts earlier later front left after s r way some same is spelled stand f =
      let empty : length front ≡ 0 = ap (λ (l : List ℕ). length l) spelled.0 in
      let rest : left ≡ s.rest = ap (λ (l : List ℕ). l ++ left) (sym spelled.0) ∙ sym is in
      let at_same : behind front left after (spot_of levels scope (around_of context) item s) ≡ spot_of levels scope (around_of context) item s =
      same_spot levels scope (around_of context) (s.at + length front) s.at left s.rest after s.arities item item (omega (arith, empty)) rest stand.1 refl in
      let g : FaultyAt way (an_operand start j earlier) (spot_of levels scope (around_of context) item s) r =
      subst (λ (spot : Spot). FaultyAt way (an_operand start j earlier) spot r) at_same (subst (λ (e : Earlier). FaultyAt way (an_operand start j e) (behind front left after (spot_of levels scope (around_of context) item s)) r) stand.0
      (subst (λ (k : OperandKind). FaultyAt way (an_operand start k later) (behind front left after (spot_of levels scope (around_of context) item s)) r) (sym same) f)) in
      refused_no _ some (refused_first _ (operand_refused levels inner_term full scope context item in_item_at start way j earlier s r g))
  reached_none j ks kind (part p ps) earlier later front left after s r way some same is spelled stand f = absurd spelled

  reached_one : (j : OperandKind) (ks : List OperandKind) → is_nothing j ≡ false → Reaches ks → (fs : List OperandKind) (kind : OperandKind) (ps : Parts) (earlier later : Earlier) (front left : List ℕ) (after : List Arity) (s : State) (r : Refusal) (way : Way)
      → rest_is_last (j ∷ ks) ≡ true → AreFirst fs (up_to_nothing ks) kind → s.rest ≡ front ++ left → SpellsOperands (around_of context) false (j ∷ fs) ps front [] → StandFirst levels scope (around_of context) (j ∷ fs) ps earlier s.arities later after
      → FaultyAt way (an_operand start kind later) (behind front left after (spot_of levels scope (around_of context) item s)) r → Refused (operands inner_term scope context start (j ∷ ks) earlier) s r
  unfolding operands Spells Reaches
  reached_one j ks some more fs kind no_parts earlier later front left after s r way last are is spelled stand f = absurd spelled
  reached_one j ks some more fs kind (part p ps) earlier later front left after s r way last are is spelled stand f =
      let whole : s.rest ≡ spelled.0 ++ (spelled.1 ++ left) = is ∙ ap (λ (l : List ℕ). l ++ left) spelled.2 ∙ append_assoc spelled.0 spelled.1 left in
      let g = gets_operand levels inner_term full.gets scope context start j p earlier stand.0 spelled.0 (spelled.1 ++ left) s.arities stand.1 s spelled.3 stand.2
      (λ takes. absurd (no_more ks kind fs (last_here (is_nothing j) (takes_rest j) ks some takes last) are)) whole refl in
      let there : g.after.at ≡ s.at + length spelled.0 = moved_at spelled.0 (ends_operand inner_term full.below.ends scope context start j earlier) whole g in
      let size : length front ≡ length spelled.0 + length spelled.1 = ap (λ (l : List ℕ). length l) spelled.2 ∙ length-append spelled.0 spelled.1 in
      let at_same : behind front left after (spot_of levels scope (around_of context) item s) ≡ behind spelled.1 left after (spot_of levels scope (around_of context) item g.after) =
      same_spot levels scope (around_of context) (s.at + length front) (g.after.at + length spelled.1) left left after after item item (omega (arith, there, size)) refl refl refl in
      refused_no _ some (refused_next _ _ g.is (refused_first _ (more fs kind ps stand.0 later spelled.1 left after g.after r way (last_later (is_nothing j) (takes_rest j) ks some last) are g.left spelled.4
      (subst (λ (known : List Arity). StandFirst levels scope (around_of context) fs ps stand.0 known later after) (sym g.knows) stand.3) (subst (λ (spot : Spot). FaultyAt way (an_operand start kind later) spot r) at_same f))))

  reached_by : (j : OperandKind) (ks : List OperandKind) → Reaches ks → (c : Bool) → is_nothing j ≡ c → Reaches (j ∷ ks)
  unfolding Reaches
  reached_by j ks more true none first kind ps earlier later front left after s r way last are is spelled stand f = absurd (not_empty kind first are.0 (sym (kinds_end j ks none) ∙ are.1))
  reached_by j ks more false some [] kind ps earlier later front left after s r way last are is spelled stand f =
      reached_none j ks kind ps earlier later front left after s r way some (heads j kind (up_to_nothing ks) are.0 (sym (kinds_go_on j ks some) ∙ are.1)).0 is spelled stand f
  reached_by j ks more false some (g ∷ fs) kind ps earlier later front left after s r way last are is spelled stand f =
      let h = heads j g (up_to_nothing ks) (fs ++ kind ∷ are.0) (sym (kinds_go_on j ks some) ∙ are.1) in
      reached_one j ks some more fs kind ps earlier later front left after s r way last (are.0, h.1) is
      (subst (λ (k : OperandKind). SpellsOperands (around_of context) false (k ∷ fs) ps front []) (sym h.0) spelled)
      (subst (λ (k : OperandKind). StandFirst levels scope (around_of context) (k ∷ fs) ps earlier s.arities later after) (sym h.0) stand) f

  reaches : (ks : List OperandKind) → Reaches ks
  unfolding Reaches
  reaches [] first kind ps earlier later front left after s r way last are is spelled stand f = absurd (not_empty kind first are.0 are.1)
  reaches (j ∷ ks) first kind ps earlier later front left after s r way last are is spelled stand f = reached_by j ks (reaches ks) (is_nothing j) refl first kind ps earlier later front left after s r way last are is spelled stand f

  -- ---- rows

  row_by : (row : Row) → rest_is_last (kinds_of row.3) ≡ true → (s : State) (r : Refusal) → InRow levels inner_term full.below scope context item in_item_at start row s r → (b : Bool) → row.2 ≡ b → Refused (packed b (operands inner_term scope context start (kinds_of row.3) nothing_earlier)) s r
  unfolding Reaches
  row_by row last s r h true packs =
      let e = subst (λ (b : Bool). Encloses b s.rest h.0 h.1) packs h.2 in
      inside_refused _ s h.0 h.1 e.0 r e.1 e.2 (λ s1 at1 is1 ar1.
      let size : length (h.0 ++ h.7) ≡ length h.0 + length h.7 = length-append h.0 h.7 in
      let at_same : behind (h.0 ++ h.7) h.8 h.12 (spot_of levels scope (around_of context) item s) ≡ behind h.7 h.8 h.12 (spot_of levels scope (around_of context) item s1) =
      same_spot levels scope (around_of context) (s.at + length (h.0 ++ h.7)) (s1.at + length h.7) h.8 h.8 h.12 h.12 item item (omega (arith, size, at1)) refl refl refl in
      reaches (kinds_of row.3) h.3 h.4 h.6 nothing_earlier h.11 h.7 h.8 h.12 s1 r h.14 last h.5 (is1 ∙ h.9) h.10
      (subst (λ (known : List Arity). StandFirst levels scope (around_of context) h.3 h.6 nothing_earlier known h.11 h.12) (sym ar1) h.13) (subst (λ (spot : Spot). FaultyAt h.14 (an_operand start h.4 h.11) spot r) at_same h.15))
  row_by row last s r h false packs =
      let e = subst (λ (b : Bool). Encloses b s.rest h.0 h.1) packs h.2 in
      let at_same : behind (h.0 ++ h.7) h.8 h.12 (spot_of levels scope (around_of context) item s) ≡ behind h.7 h.8 h.12 (spot_of levels scope (around_of context) item s) =
      ap (λ (l : List ℕ). behind (l ++ h.7) h.8 h.12 (spot_of levels scope (around_of context) item s)) e.0 in
      reaches (kinds_of row.3) h.3 h.4 h.6 nothing_earlier h.11 h.7 h.8 h.12 s r h.14 last h.5 (sym e.1 ∙ h.9) h.10 h.13 (subst (λ (spot : Spot). FaultyAt h.14 (an_operand start h.4 h.11) spot r) at_same h.15)

  pub row_operands_refused : (row : Row) (n : ℕ) → row_of n ≡ Some row → (s : State) (r : Refusal) → InRow levels inner_term full.below scope context item in_item_at start row s r → Refused (row_operands inner_term scope context start row) s r
  row_operands_refused row n found s r h = row_by row (row_ordered n row found).0 s r h row.2 refl

  pub row_length_refused : (row : Row) → row.2 ≡ true → (s : State) (r : Refusal) → AtLength (spot_of levels scope (around_of context) item s) r → Refused (row_operands inner_term scope context start row) s r
  row_length_refused row packs s r h = subst (λ (b : Bool). Refused (packed b (operands inner_term scope context start (kinds_of row.3) nothing_earlier)) s r) (sym packs) (size_refused _ s (spot_of levels scope (around_of context) item s) (refl, refl) r h)
