-- Where the term of a row is refused, it has a fault, where the terms below it have one; and an If with its Else.
use Rattle.std.proofs.Common.{◌≡◌, ℕ, ◌+◌, List, [], ◌∷◌, ◌++◌, length, Bool, true, false, Option, Some, None, Ok, refl, subst, ◌∙◌, sym, ap, length-append, arith, ◌⊎◌, inl, inr}
use Rattle.std.specs.Prelude.{if◌then◌else◌}
use Rattle.std.proofs.lemmas.Bool.{eqb-true}
use Rattle.ar_space.specs.Change.{give}
use Rattle.ar_space.specs.declared.refusal.Refusal.{Refusal}
use Rattle.ar_space.specs.declared.refusal.Refusal.TheVariants as refusals
use Rattle.ar_space.specs.declared.refusal.NameFault.TheVariants.{BadName, AboveRoot}
use Rattle.ar_space.specs.declared.refusal.TermFault.TheVariants.{BadOpcode, BadPkgLength, Truncated, TooDeep, NotInBody}
use Rattle.aml_path.specs.declared.segment.Seg.{Seg}
use Rattle.aml_grammar.specs.declared.opcode.Opcode.{Opcode}
use Rattle.aml_grammar.specs.declared.opcode.Opcode.TheVariants as opcodes
use Rattle.aml_grammar.specs.declared.kinds.Row.{Row}
use Rattle.aml_arities.specs.declared.arities.Arity.{Arity}
use Rattle.aml_grammar.specs.declared.context.Position.{Position}
use Rattle.aml_grammar.specs.declared.context.Position.TheVariants as positions
use Rattle.aml_grammar.specs.declared.context.Context.{Context}
use Rattle.aml_grammar.specs.Opcodes.{number_of}
use Rattle.aml_grammar.specs.Table.{row_of}
use Rattle.aml_grammar.specs.State.{State, is_next}
use Rattle.aml_grammar.specs.Tree.{Part, null, inner}
use Rattle.aml_grammar.specs.Shape.{parts_of}
use Rattle.aml_grammar.specs.Grammar.{Inner, is_if, item_of, item_of_else, at_else, packed, list_operand, row_operands, nothing_earlier, plain_term, else_term, else_operand, else_part, if_term, row_term}
use Rattle.aml_scan.specs.Spelling.{Around, Place, list_item, may_stand, operand_kinds, IsContent, IsPackage, SpellsOperands}
use Rattle.aml_scan.proofs.SpelledRows.{around_of, place_of}
use Rattle.aml_spelling.specs.Stands.{cost, StandOperands}
use Rattle.aml_spelling.specs.Faults.{Spot, Way, here, an_operand, StandFirst, in_operand, at_else as else_length, in_else, a_term, behind, IsName, IsSomeCode, IsCode, AtPart, AtLength, RowAt, Admitted, NameAdmitted, AtTerm, else_item, IfBefore, Passes, FaultyAt}
use Rattle.aml_spelling.proofs.FaultKinds.{Below, InItem, halts_list}
use Rattle.aml_spelling.proofs.FaultLists.{spot_of}
use Rattle.aml_spelling.proofs.FaultRows.{Entered, InRow, halts_packed, halts_row_operands}
use Rattle.aml_spelling.proofs.FaultTakes.{takes_row_operands}
use Rattle.aml_spelling.proofs.EndsTerms.{ends_row_operands}
use Rattle.aml_spelling.proofs.Halts.{Halts, halts_then, halts_give, halts_map, halts_more, halts_if, halts_seen}
use Rattle.aml_spelling.proofs.LeavesRows.{leaves_row_operands}

-- ---- what is at a term's first bytes

-- a part of them: a name, a code, or the length of a package
abbrev pub TermPart : Spot → Place → Refusal → Type 0
TermPart spot place r =
    (NameAdmitted spot place × AtPart IsName spot r)
    ⊎ (AtPart IsSomeCode spot r
    ⊎ ((row : Row) × (below : ℕ) × (code : List ℕ) × (back : List ℕ) × RowAt spot row code back × Admitted spot place row below × (row.2 ≡ true) × AtLength (behind code back spot.known spot) r))

no_part : (spot : Spot) (place : Place) (r : Refusal) → (AtPart IsName spot r → ⊥) → (AtPart IsSomeCode spot r → ⊥) → ((next : Spot) → AtLength next r → ⊥) → TermPart spot place r → ⊥
no_part spot place r one two three (inl h) = one h.1
no_part spot place r one two three (inr (inl h)) = two h
no_part spot place r one two three (inr (inr h)) = three (behind h.2 h.3 spot.known spot) h.7

pub at_part : (spot : Spot) (position : Position) (r : Refusal) → TermPart spot (place_of position) r → AtTerm spot (place_of position) r
at_part spot position (refusals.Term BadOpcode o) h = absurd (no_part spot (place_of position) (refusals.Term BadOpcode o) (λ k. k) (λ k. k) (λ next k. k) h)
at_part spot position (refusals.Term NotInBody o) h = absurd (no_part spot (place_of position) (refusals.Term NotInBody o) (λ k. k) (λ k. k) (λ next k. k) h)
at_part spot position (refusals.Term TooDeep o) h = absurd (no_part spot (place_of position) (refusals.Term TooDeep o) (λ k. k) (λ k. k) (λ next k. k) h)
at_part spot position (refusals.Name AboveRoot) h = absurd (no_part spot (place_of position) (refusals.Name AboveRoot) (λ k. k) (λ k. k) (λ next k. k) h)
at_part spot positions.ListItem r h = h
at_part spot positions.TermArg r h = h
at_part spot positions.DataObject r h = h
at_part spot positions.PackageElement r h = h
at_part spot positions.SuperName r h = h

-- ---- a row that stands at a place

pub record RowHere (levels l : ℕ) (around : Around) (place : Place) (row : Row) (code : List ℕ) (s s1 : State) : Type 0 where
  pub found : row_of (number_of row.0) ≡ Some row
  pub spelled : IsCode (number_of row.0) code
  pub taken : s.rest ≡ code ++ s1.rest
  pub moved : s1.at ≡ s.at + length code
  pub knows : s1.arities ≡ s.arities
  pub may : may_stand around row.1 place ≡ true
  pub costs : levels ≡ cost row.1 place + l

-- an If stands in a package
packs : Option Row → Bool
packs None = true
packs (Some row) = row.2

if_packs : packs (row_of (number_of opcodes.If)) ≡ true
unfolding row_of packs
if_packs = refl

pub if_packed : (row : Row) → row_of (number_of row.0) ≡ Some row → row.0 ≡ opcodes.If → row.2 ≡ true
unfolding packs
if_packed row found is = sym (ap packs found) ∙ ap (λ (o : Opcode). packs (row_of (number_of o))) is ∙ if_packs

is_the_if : (o : Opcode) → is_if o ≡ true → o ≡ opcodes.If
is_the_if opcodes.If e = refl
is_the_if _ e = absurd (cc e)

next_byte : (bs : List ℕ) → is_next 0xA1 bs ≡ true → (cs : List ℕ) × (bs ≡ 0xA1 ∷ cs)
next_byte [] e = absurd (cc e)
next_byte (c ∷ bs) e = (bs, ap (λ (d : ℕ). d ∷ bs) (eqb-true c 0xA1 e))

packed_content : (b : Bool) (content spelling : List ℕ) → b ≡ true → IsContent b content spelling → IsPackage content spelling
packed_content true content spelling e h = h
packed_content false content spelling e h = absurd (cc e)

pub same_spot : (levels : ℕ) (scope : List Seg) (around : Around) (a b : ℕ) (k m : List ℕ) (x y : List Arity) (i j : ℕ) → a ≡ b → k ≡ m → x ≡ y → i ≡ j → ◌≡◌ {A = Spot} (record { at = a; rest = k; known = x; levels = levels; scope = scope; around = around; item = i }) (record { at = b; rest = m; known = y; levels = levels; scope = scope; around = around; item = j })
same_spot levels scope around a b k m x y i j e f g h = rw (e, f, g, h) refl

module _ (levels l : ℕ) (inner_term : Inner) (below : Below l inner_term) (scope : List Seg) (context : Context) (item : ℕ) (in_item_at : context.item ≡ Some item) (position : Position)
    (row : Row) (code : List ℕ) (s s1 : State) (at_row : RowHere levels l (around_of context) (place_of position) row code s s1) where
  abbrev spot_here : Spot
  spot_here = spot_of levels scope (around_of context) item s

  abbrev TermFault : Refusal → Type 0
  TermFault r = (way : Way) × FaultyAt way (a_term (place_of position)) spot_here r

  length_fault : (r : Refusal) → row.2 ≡ true → AtLength (spot_of l scope (around_of context) item s1) r → TermFault r
  unfolding FaultyAt
  length_fault r is h =
      (here, at_part spot_here position r (inr (inr (row, l, code, s1.rest, (at_row.taken, at_row.spelled, at_row.found), (at_row.may, at_row.costs), is, length_there r h))))
    where
      -- a length's fault asks for the place and the bytes alone
      length_there : (r : Refusal) → AtLength (spot_of l scope (around_of context) item s1) r → AtLength (behind code s1.rest s.arities spot_here) r
      length_there (refusals.Term BadPkgLength o) h = (h.0, h.1, h.2, h.3, h.4, h.5, h.6 ∙ at_row.moved)
      length_there (refusals.Term Truncated o) h = (h.0, h.1 ∙ ap (λ (i : ℕ). i + length s1.rest) at_row.moved)
      length_there (refusals.Name BadName) h = h
      length_there r h = absurd h

  operand_fault : (r : Refusal) → InRow l inner_term below scope context item in_item_at s.at row s1 r → TermFault r
  unfolding FaultyAt
  operand_fault r h =
      let n : length (code ++ (h.0 ++ h.7)) ≡ length code + length (h.0 ++ h.7) = length-append code (h.0 ++ h.7) in
      let there : s1.at + length (h.0 ++ h.7) ≡ s.at + length (code ++ (h.0 ++ h.7)) = omega (arith, n, at_row.moved) in
      let stands = subst (λ (known : List Arity). StandFirst l scope (around_of context) h.3 h.6 nothing_earlier known h.11 h.12) at_row.knows h.13 in (
        in_operand row.0 h.6 h.14,
        (
          row,
          l,
          code,
          s1.rest,
          (at_row.taken, at_row.spelled, at_row.found),
          refl,
          (at_row.may, at_row.costs),
          h.0,
          h.1,
          h.2,
          h.3,
          h.4,
          h.5,
          h.7,
          h.8,
          h.9,
          h.10,
          h.11,
          h.12,
          stands,
          subst (λ (i : ℕ). FaultyAt h.14 (an_operand s.at h.4 h.11) (record spot_here { at = i; rest = h.8; known = h.12; levels = l }) r) there h.15,
        ),
      )

  row_fault : (r : Refusal) → ((row.2 ≡ true) × AtLength (spot_of l scope (around_of context) item s1) r) ⊎ InRow l inner_term below scope context item in_item_at s.at row s1 r → TermFault r
  row_fault r (inl h) = length_fault r h.0 h.1
  row_fault r (inr h) = operand_fault r h

  pub halts_plain : Halts (plain_term inner_term scope context s.at row) s1 TermFault
  unfolding plain_term
  halts_plain = halts_map _ (halts_more (halts_row_operands l inner_term below scope context item in_item_at s.at row s1) row_fault)

  -- ---- an If, and what follows its package

  module _ (the_if : row.0 ≡ opcodes.If) (ps : List Part) (s2 : State) (read : row_operands inner_term scope context s.at row s1 ≡ (Ok ps, s2)) (bs : List ℕ) (next_is : s2.rest ≡ 0xA1 ∷ bs) (s3 : State) (at3 : s3.at ≡ s2.at + 1) (is3 : s3.rest ≡ bs) (ar3 : s3.arities ≡ s2.arities) where
    abbrev item_there : ℕ
    item_there = item_of_else (item_of context.item s.at) s.at s2.at

    abbrev spot_there : Spot
    spot_there = spot_of l scope (around_of context) item_there s3

    taken_if : (front : List ℕ) × (s1.rest ≡ front ++ s2.rest) × ((content : List ℕ) × IsContent row.2 content front × SpellsOperands (around_of context) false (operand_kinds row.3) (parts_of ps) content [])
    taken_if = (takes_row_operands inner_term below.takes scope context s.at (number_of row.0) row s1 at_row.found).is ps s2 read

    place_there : s2.at ≡ s.at + length (code ++ taken_if.0)
    place_there =
        let n : length s1.rest ≡ length taken_if.0 + length s2.rest = ap (λ (l : List ℕ). length l) taken_if.1 ∙ length-append taken_if.0 s2.rest in
        let k : length (code ++ taken_if.0) ≡ length code + length taken_if.0 = length-append code taken_if.0 in
        let e : s2.at + length s2.rest ≡ s1.at + length s1.rest = (ends_row_operands inner_term below.ends scope context s.at row s1).is ps s2 read in
        omega (arith, n, k, e, at_row.moved)

    one_behind : s3.at ≡ s.at + length (code ++ (taken_if.0 ++ 0xA1 ∷ []))
    one_behind =
        let k : length (code ++ taken_if.0) ≡ length code + length taken_if.0 = length-append code taken_if.0 in
        let m : length (code ++ (taken_if.0 ++ 0xA1 ∷ [])) ≡ length code + length (taken_if.0 ++ 0xA1 ∷ []) = length-append code (taken_if.0 ++ 0xA1 ∷ []) in
        let j : length (taken_if.0 ++ 0xA1 ∷ []) ≡ length taken_if.0 + 1 = length-append taken_if.0 (0xA1 ∷ []) in
        omega (arith, k, m, j, place_there, at3)

    item_is : item_there ≡ else_item item s.at (s.at + length (code ++ taken_if.0))
    item_is = ap (λ (i : ℕ). item_of_else i s.at s2.at) (ap (λ (o : Option ℕ). item_of o s.at) in_item_at) ∙ ap (λ (i : ℕ). item_of_else item s.at i) place_there

    there_is : spot_there ≡ record (behind (code ++ (taken_if.0 ++ 0xA1 ∷ [])) bs s2.arities spot_here) { levels = l; item = else_item item s.at (s.at + length (code ++ taken_if.0)) }
    there_is = same_spot l scope (around_of context) s3.at (s.at + length (code ++ (taken_if.0 ++ 0xA1 ∷ []))) s3.rest bs s3.arities s2.arities item_there (else_item item s.at (s.at + length (code ++ taken_if.0))) one_behind is3 ar3 item_is

    if_before : IfBefore spot_here (place_of position) (parts_of ps) spot_there
    if_before =
        let whole : s.rest ≡ code ++ (taken_if.0 ++ 0xA1 ∷ bs) = at_row.taken ∙ ap (λ (l : List ℕ). code ++ l) (taken_if.1 ∙ ap (λ (l : List ℕ). taken_if.0 ++ l) next_is) in
        let stands = (leaves_row_operands l inner_term below.leaves scope context s.at row s1).is ps s2 read in (
          row,
          l,
          code,
          taken_if.0,
          taken_if.2.0,
          bs,
          s2.arities,
          (whole, at_row.spelled, at_row.found),
          the_if,
          (at_row.may, at_row.costs),
          packed_content row.2 taken_if.2.0 taken_if.0 (if_packed row at_row.found the_if) taken_if.2.1,
          taken_if.2.2,
          subst (λ (known : List Arity). StandOperands l scope (around_of context) false (operand_kinds row.3) (parts_of ps) nothing_earlier known s2.arities) at_row.knows stands.1,
          there_is,
        )

    else_short : (r : Refusal) → AtLength spot_there r → TermFault r
    unfolding FaultyAt
    else_short r h = (else_length (parts_of ps), (spot_there, if_before, h))

    else_inside : (s4 : State) → Entered s3 s4 → (r : Refusal) → InItem l inner_term below scope (at_else context s.at s2.at) item_there refl positions.ListItem s4 r → TermFault r
    unfolding FaultyAt
    else_inside s4 p r h =
        let same : spot_of l scope (around_of context) item_there s4 ≡ behind p.lead p.content s3.arities spot_there = same_spot l scope (around_of context) s4.at (s3.at + length p.lead) s4.rest p.content s4.arities s3.arities item_there item_there p.moved p.inside p.knows refl in
        (in_else (parts_of ps) h.0 h.3.0, (spot_there, if_before, p.lead, p.content, (p.back, p.taken, p.size), h.1, subst (λ (from : Spot). Passes from list_item h.0 h.1) same h.2, h.3.1))

    pub halts_else_list : Halts (packed true (list_operand inner_term positions.ListItem scope (at_else context s.at s2.at))) s3 TermFault
    halts_else_list = halts_packed _ s3 spot_there TermFault (refl, refl) else_short (λ s4 p. halts_more (halts_list l inner_term below scope (at_else context s.at s2.at) item_there refl positions.ListItem s4) (else_inside s4 p))

  halts_else : row.0 ≡ opcodes.If → (ps : List Part) (s2 : State) → row_operands inner_term scope context s.at row s1 ≡ (Ok ps, s2) → (bs : List ℕ) → s2.rest ≡ 0xA1 ∷ bs → Halts (else_operand inner_term scope (at_else context s.at s2.at)) s2 TermFault
  unfolding else_operand else_term
  halts_else the_if ps s2 read bs next_is = halts_map inner (halts_seen _ next_is (λ s3 at3 is3 ar3. halts_map _ (halts_else_list the_if ps s2 read bs next_is s3 at3 is3 ar3)))

  halts_else_if : row.0 ≡ opcodes.If → (ps : List Part) (s2 : State) → row_operands inner_term scope context s.at row s1 ≡ (Ok ps, s2) → (b : Bool) → is_next 0xA1 s2.rest ≡ b
      → Halts (λ t. if b then else_operand inner_term scope (at_else context s.at s2.at) t else (Ok null, t)) s2 TermFault
  unfolding give
  halts_else_if the_if ps s2 read true is = let k = next_byte s2.rest is in halts_else the_if ps s2 read k.0 k.1
  halts_else_if the_if ps s2 read false is = halts_give null

  halts_else_part : row.0 ≡ opcodes.If → (ps : List Part) (s2 : State) → row_operands inner_term scope context s.at row s1 ≡ (Ok ps, s2) → Halts (else_part inner_term scope context s.at) s2 TermFault
  unfolding else_part
  halts_else_part the_if ps s2 read = record { is = λ r s3 e. (halts_else_if the_if ps s2 read (is_next 0xA1 s2.rest) refl).is r s3 e }

  halts_if_term : row.0 ≡ opcodes.If → Halts (if_term inner_term scope context s.at row) s1 TermFault
  unfolding if_term
  halts_if_term the_if = halts_then (halts_more (halts_row_operands l inner_term below scope context item in_item_at s.at row s1) row_fault) (λ ps s2 read. halts_map _ (halts_else_part the_if ps s2 read))

  pub halts_row_term : Halts (row_term inner_term scope context s.at row) s1 TermFault
  unfolding row_term
  halts_row_term = record { is = λ r s2 e. (halts_if (is_if row.0) (λ t. halts_if_term (is_the_if row.0 t)) (λ _. halts_plain)).is r s2 e }
