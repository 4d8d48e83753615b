-- A fault on a way through the term of a row, an Else or a call is what reading it refuses.
use Rattle.std.proofs.Common.{◌≡◌, ℕ, zero, suc, ◌+◌, ◌<◌, List, [], ◌∷◌, ◌++◌, length, Bool, true, false, Some, refl, subst, ◌∙◌, sym, ap, append_assoc, length-append, arith}
use Rattle.std.specs.Prelude.{if◌then◌else◌}
use Rattle.ar_space.specs.declared.refusal.Refusal.{Refusal}
use Rattle.aml_path.specs.declared.segment.Seg.{Seg}
use Rattle.aml_grammar.specs.declared.opcode.Opcode.{Opcode}
use Rattle.aml_grammar.specs.declared.opcode.Opcode.TheVariants as opcodes
use Rattle.aml_grammar.specs.declared.kinds.Row.{Row}
use Rattle.aml_arities.specs.declared.arities.Arity.{Arity}
use Rattle.aml_grammar.specs.declared.context.Position.TheVariants as positions
use Rattle.aml_grammar.specs.declared.context.Context.{Context}
use Rattle.aml_grammar.specs.Table.{row_of}
use Rattle.aml_grammar.specs.State.{State, times, is_next}
use Rattle.aml_grammar.specs.Tree.{Parts, Trees, no_trees, tree}
use Rattle.aml_grammar.specs.Grammar.{Inner, is_if, at_else, nothing_earlier, packed, list_operand, row_operands, plain_term, else_term, else_operand, else_part, if_term, row_term}
use Rattle.aml_scan.specs.Spelling.{term_arg, IsContent, IsPackage, Spells, SpellsAll, SpellsOperands, operand_kinds}
use Rattle.aml_scan.proofs.SpelledRows.{around_of}
use Rattle.aml_spelling.specs.Stands.{count_of, Stands, StandAll, StandOperands}
use Rattle.aml_spelling.specs.Faults.{Spot, Way, a_term, behind, AtLength, FaultyAt}
use Rattle.aml_spelling.proofs.EndsTerms.{ends_row_operands}
use Rattle.aml_spelling.proofs.FaultLists.{spot_of}
use Rattle.aml_spelling.proofs.FaultRows.{InRow}
use Rattle.aml_spelling.proofs.FaultTerms.{same_spot}
use Rattle.aml_spelling.proofs.GetsRowTerms.{gets_row_operands}
use Rattle.aml_spelling.proofs.RefusedKinds.{Full, term_refused}
use Rattle.aml_spelling.proofs.RefusedLists.{moved_at}
use Rattle.aml_spelling.proofs.RefusedRows.{row_operands_refused, row_length_refused}
use Rattle.aml_spelling.proofs.Refused.{Refused, refused_first, refused_next, refused_as, refused_seen}

content_is : (b : Bool) (content spelling : List ℕ) → b ≡ true → IsPackage content spelling → IsContent b content spelling
content_is true content spelling e h = h
content_is false content spelling e h = absurd (cc e)

if_is : (o : Opcode) → o ≡ opcodes.If → is_if o ≡ true
if_is o e = ap is_if e

module _ (l : ℕ) (inner_term : Inner) (full : Full l inner_term) (scope : List Seg) (context : Context) (item : ℕ) (in_item_at : context.item ≡ Some item) (start : ℕ) (row : Row) where
  -- a fault of the operands is one of the row's term, with an Else or without one
  operands_first : (s : State) (r : Refusal) → Refused (row_operands inner_term scope context start row) s r → (c : Bool) → is_if row.0 ≡ c → Refused (row_term inner_term scope context start row) s r
  unfolding row_term if_term plain_term
  operands_first s r h true e = refused_as {n = if_term inner_term scope context start row} (ap (λ (b : Bool). (if b then if_term inner_term scope context start row else plain_term inner_term scope context start row) s) e) (refused_first _ h)
  operands_first s r h false e = refused_as {n = plain_term inner_term scope context start row} (ap (λ (b : Bool). (if b then if_term inner_term scope context start row else plain_term inner_term scope context start row) s) e) (refused_first _ h)

  pub row_term_operand : (n : ℕ) → row_of n ≡ Some row → (s : State) (r : Refusal) → InRow l inner_term full.below scope context item in_item_at start row s r → Refused (row_term inner_term scope context start row) s r
  row_term_operand n found s r h = operands_first s r (row_operands_refused l inner_term full scope context item in_item_at start row n found s r h) (is_if row.0) refl

  pub row_term_length : row.2 ≡ true → (s : State) (r : Refusal) → AtLength (spot_of l scope (around_of context) item s) r → Refused (row_term inner_term scope context start row) s r
  row_term_length packs s r h = operands_first s r (row_length_refused l inner_term full scope context item in_item_at start row packs s r h) (is_if row.0) refl

  -- ---- an Else

  else_there : (s : State) → is_next 0xA1 s.rest ≡ true → else_part inner_term scope context start s ≡ else_operand inner_term scope (at_else context start s.at) s
  unfolding else_part
  else_there s is = rw is refl

  -- the list of an Else is refused, behind the package of an If
  pub else_refused : (n : ℕ) → row_of n ≡ Some row → row.0 ≡ opcodes.If → row.2 ≡ true → (ps : Parts) (content operands back : List ℕ) (after : List Arity) (s : State) (r : Refusal) → IsPackage content operands
      → SpellsOperands (around_of context) false (operand_kinds row.3) ps content [] → StandOperands l scope (around_of context) false (operand_kinds row.3) ps nothing_earlier s.arities after → s.rest ≡ operands ++ 0xA1 ∷ back
      → ((s3 : State) → s3.at ≡ s.at + length (operands ++ 0xA1 ∷ []) → s3.rest ≡ back → s3.arities ≡ after → (place : ℕ) → place ≡ s.at + length operands → Refused (packed true (list_operand inner_term positions.ListItem scope (at_else context start place))) s3 r)
      → Refused (row_term inner_term scope context start row) s r
  unfolding row_term if_term else_operand else_term
  else_refused n found the_if packs ps content operands back after s r within spelled stand is i =
      let g = gets_row_operands l inner_term full.gets scope context start n row found ps content operands (0xA1 ∷ back) s.arities after s (content_is row.2 content operands packs within) spelled stand is refl in
      let there : g.after.at ≡ s.at + length operands = moved_at operands (ends_row_operands inner_term full.below.ends scope context start row) is g in
      let size : length (operands ++ 0xA1 ∷ []) ≡ length operands + 1 = length-append operands (0xA1 ∷ []) in
      refused_as {n = if_term inner_term scope context start row} (ap (λ (b : Bool). (if b then if_term inner_term scope context start row else plain_term inner_term scope context start row) s) (if_is row.0 the_if))
      (refused_next _ _ g.is (refused_first _ (refused_as (else_there g.after (ap (λ (k : List ℕ). is_next 0xA1 k) g.left))
      (refused_first _ (refused_seen _ g.left (refused_first _ (i (record g.after { at = g.after.at + 1; rest = back }) (omega (arith, there, size)) refl g.knows g.after.at there)))))))

-- ---- calls

at_here : (n : ℕ) → n + 0 ≡ n
at_here n = omega arith

module _ (l : ℕ) (inner_term : Inner) (full : Full l inner_term) (scope : List Seg) (context : Context) (item : ℕ) (in_item_at : context.item ≡ Some item) where
  -- a fault in an argument behind some that pass
  pub times_refused : (n : ℕ) (ts : Trees) (mid back : List ℕ) (after : List Arity) (s : State) (r : Refusal) (way : Way) → count_of ts < n → s.rest ≡ mid ++ back → SpellsAll (around_of context) term_arg ts mid
      → StandAll l scope (around_of context) term_arg ts s.arities after → FaultyAt way (a_term term_arg) (behind mid back after (spot_of l scope (around_of context) item s)) r → Refused (times (inner_term positions.TermArg scope context) n) s r
  unfolding times Spells Stands
  times_refused zero ts mid back after s r way less is spelled stand f = absurd (omega (arith, less))
  times_refused (suc n) no_trees mid back after s r way less is spelled stand f =
      let empty : length mid ≡ 0 = ap (λ (k : List ℕ). length k) spelled in
      let rest : back ≡ s.rest = ap (λ (k : List ℕ). k ++ back) (sym spelled) ∙ sym is in
      let same : behind mid back after (spot_of l scope (around_of context) item s) ≡ spot_of l scope (around_of context) item s =
      same_spot l scope (around_of context) (s.at + length mid) s.at back s.rest after s.arities item item (omega (arith, empty)) rest stand refl in
      refused_first _ (term_refused l inner_term full scope context item in_item_at way positions.TermArg s r (subst (λ (spot : Spot). FaultyAt way (a_term term_arg) spot r) same f))
  times_refused (suc n) (tree t ts) mid back after s r way less is spelled stand f =
      let whole : s.rest ≡ spelled.0 ++ (spelled.1 ++ back) = is ∙ ap (λ (k : List ℕ). k ++ back) spelled.2 ∙ append_assoc spelled.0 spelled.1 back in
      let g = full.gets positions.TermArg scope context t spelled.0 (spelled.1 ++ back) s.arities stand.0 s spelled.3 stand.1 tt whole refl in
      let there : g.after.at ≡ s.at + length spelled.0 = moved_at spelled.0 (full.below.ends positions.TermArg scope context) whole g in
      let size : length mid ≡ length spelled.0 + length spelled.1 = ap (λ (k : List ℕ). length k) spelled.2 ∙ length-append spelled.0 spelled.1 in
      let same : behind mid back after (spot_of l scope (around_of context) item s) ≡ behind spelled.1 back after (spot_of l scope (around_of context) item g.after) =
      same_spot l scope (around_of context) (s.at + length mid) (g.after.at + length spelled.1) back back after after item item (omega (arith, there, size)) refl refl refl in
      refused_next _ _ g.is (refused_first _ (times_refused n ts spelled.1 back after g.after r way (omega (arith, less)) g.left spelled.4
      (subst (λ (known : List Arity). StandAll l scope (around_of context) term_arg ts known after) (sym g.knows) stand.2) (subst (λ (spot : Spot). FaultyAt way (a_term term_arg) spot r) same f)))
