-- The terms of rows are read from their spelling, and an If with its Else.
use Rattle.std.proofs.Common.{◌≡◌, ℕ, List, [], ◌∷◌, ◌++◌, Bool, true, false, Some, refl, ◌∙◌, ap, append_assoc}
use Rattle.std.specs.Prelude.{◌||◌, if◌then◌else◌}
use Rattle.ar_space.specs.Change.{give}
use Rattle.aml_path.specs.declared.segment.Seg.{Seg}
use Rattle.aml_grammar.specs.declared.kinds.OperandKind.{OperandKind}
use Rattle.aml_grammar.specs.declared.kinds.Row.{Row}
use Rattle.aml_arities.specs.declared.arities.Arity.{Arity}
use Rattle.aml_grammar.specs.declared.context.Context.{Context}
use Rattle.aml_grammar.specs.declared.context.Earlier.{Earlier}
use Rattle.aml_grammar.specs.Table.{row_of}
use Rattle.aml_grammar.specs.State.{State}
use Rattle.aml_grammar.specs.Tree.{Parts, no_parts, part}
use Rattle.aml_grammar.specs.Grammar.{Inner, is_nothing, kinds_of, nothing_earlier, operands, row_operands}
use Rattle.aml_scan.specs.Spelling.{Around, up_to_nothing, operand_kinds, IsContent, Spells, SpellsOperands}
use Rattle.aml_scan.proofs.SpelledRows.{around_of, kinds_end, kinds_go_on, takes_rest, some_takes_rest}
use Rattle.aml_spelling.specs.Stands.{Stands, StandOperands}
use Rattle.aml_spelling.proofs.Gets.{Gets, gets_then, gets_give, gets_map, gets_known, gets_yes, gets_no, gets_content}
use Rattle.aml_spelling.proofs.GetsParts.{TermGets}
use Rattle.aml_spelling.proofs.GetsRows.{part_list, gets_operand}
use Rattle.aml_spelling.proofs.RowFacts.{ends, rest_is_last, ends_last, row_ordered}

-- ---- operands, one after another

none_spelled : (around : Around) (ps : Parts) (content later : List ℕ) → SpellsOperands around false [] ps content later → (ps ≡ no_parts) × (content ≡ []) × (later ≡ [])
unfolding Spells
none_spelled around no_parts content later h = (refl, h.0, h.1)
none_spelled around (part p ps) content later h = absurd h

none_after : (around : Around) (ks : List OperandKind) (ps : Parts) (content later : List ℕ) → ends ks ≡ true → SpellsOperands around false (up_to_nothing ks) ps content later → content ≡ []
none_after around [] ps content later e h = (none_spelled around ps content later h).1
none_after around (k ∷ ks) ps content later e h = let g = rw (kinds_end k ks e) at h in (none_spelled around ps content later g).1

last_here : (n t : Bool) (ks : List OperandKind) → n ≡ false → t ≡ true → (if n then true else (if t then ends ks else rest_is_last ks)) ≡ true → ends ks ≡ true
last_here true t ks some takes e = absurd (cc some)
last_here false true ks some takes e = e
last_here false false ks some takes e = absurd (cc takes)

last_later : (n t : Bool) (ks : List OperandKind) → n ≡ false → (if n then true else (if t then ends ks else rest_is_last ks)) ≡ true → rest_is_last ks ≡ true
last_later true t ks some e = absurd (cc some)
last_later false true ks some e = ends_last ks e
last_later false false ks some e = e

rest_here : (n a b : Bool) → n ≡ false → a ≡ true → (if n then false else a || b) ≡ true
rest_here true a b some e = absurd (cc some)
rest_here false true b some e = refl
rest_here false false b some e = absurd (cc e)

rest_later : (n a b : Bool) → n ≡ false → b ≡ true → (if n then false else a || b) ≡ true
rest_later true a b some e = absurd (cc some)
rest_later false true b some e = refl
rest_later false false b some e = e

module _ (levels : ℕ) (inner_term : Inner) (h : TermGets levels inner_term) (scope : List Seg) (context : Context) (start : ℕ) where
  -- what the operands of some kinds are read as
  OperandsGet : List OperandKind → Type 0
  OperandsGet ks = (ps : Parts) (earlier : Earlier) (content rest : List ℕ) (known after : List Arity) (s : State) → SpellsOperands (around_of context) false (up_to_nothing ks) ps content [] → StandOperands levels scope (around_of context) false (up_to_nothing ks) ps earlier known after
      → rest_is_last ks ≡ true → (some_takes_rest ks ≡ true → rest ≡ []) → s.rest ≡ content ++ rest → s.arities ≡ known → Gets (operands inner_term scope context start ks earlier) s (part_list ps) rest after

  gets_none : {s : State} {rest : List ℕ} {known after : List Arity} (ps : Parts) (earlier : Earlier) (content : List ℕ) → SpellsOperands (around_of context) false [] ps content [] → StandOperands levels scope (around_of context) false [] ps earlier known after
      → s.rest ≡ content ++ rest → s.arities ≡ known → Gets (give []) s (part_list ps) rest after
  unfolding Spells Stands
  gets_none {rest = rest} no_parts earlier content spelled stands is ar = gets_known stands (gets_give [] (is ∙ ap (λ l. l ++ rest) spelled.0) ar)
  gets_none (part p ps) earlier content spelled stands is ar = absurd spelled

  gets_one : (k : OperandKind) (ks : List OperandKind) → is_nothing k ≡ false → OperandsGet ks → {s : State} {rest : List ℕ} {known after : List Arity} (ps : Parts) (earlier : Earlier) (content : List ℕ) → SpellsOperands (around_of context) false (k ∷ up_to_nothing ks) ps content []
      → StandOperands levels scope (around_of context) false (k ∷ up_to_nothing ks) ps earlier known after → rest_is_last (k ∷ ks) ≡ true → (some_takes_rest (k ∷ ks) ≡ true → rest ≡ []) → s.rest ≡ content ++ rest → s.arities ≡ known
      → Gets (operands inner_term scope context start (k ∷ ks) earlier) s (part_list ps) rest after
  unfolding operands Spells Stands OperandsGet
  gets_one k ks some more no_parts earlier content spelled stands last closed is ar = absurd spelled
  gets_one k ks some more {s = s} {rest = rest} {known = known} {after = after} (part p ps) earlier content spelled stands last closed is ar =
      let front : List ℕ = spelled.0 in
      let back : List ℕ = spelled.1 in
      let whole : s.rest ≡ spelled.0 ++ (spelled.1 ++ rest) = is ∙ ap (λ l. l ++ rest) spelled.2 ∙ append_assoc spelled.0 spelled.1 rest in
      gets_no _ some (gets_then _ (gets_operand levels inner_term h scope context start k p earlier stands.0 spelled.0 (spelled.1 ++ rest) known stands.1 s spelled.3 stands.2
      (λ takes. ap (λ l. l ++ rest) (none_after (around_of context) ks ps spelled.1 [] (last_here (is_nothing k) (takes_rest k) ks some takes last) spelled.4) ∙ closed (rest_here (is_nothing k) (takes_rest k) (some_takes_rest ks) some takes)) whole ar)
      (λ s1 is1 ar1. gets_map (λ qs. p ∷ qs) (more ps stands.0 spelled.1 rest stands.1 after s1 spelled.4 stands.3 (last_later (is_nothing k) (takes_rest k) ks some last) (λ e. closed (rest_later (is_nothing k) (takes_rest k) (some_takes_rest ks) some e)) is1 ar1)))

  gets_either : (k : OperandKind) (ks : List OperandKind) (c : Bool) → is_nothing k ≡ c → OperandsGet ks → OperandsGet (k ∷ ks)
  unfolding operands OperandsGet
  gets_either k ks true none more ps earlier content rest known after s spelled stands last closed is ar =
      gets_yes _ none (gets_none ps earlier content (rw (kinds_end k ks none) at spelled) (rw (kinds_end k ks none) at stands) is ar)
  gets_either k ks false some more ps earlier content rest known after s spelled stands last closed is ar =
      gets_one k ks some more ps earlier content (rw (kinds_go_on k ks some) at spelled) (rw (kinds_go_on k ks some) at stands) last closed is ar

  gets_operands : (ks : List OperandKind) → OperandsGet ks
  unfolding operands OperandsGet
  gets_operands [] ps earlier content rest known after s spelled stands last closed is ar = gets_none ps earlier content spelled stands is ar
  gets_operands (k ∷ ks) ps earlier content rest known after s spelled stands last closed is ar = gets_either k ks (is_nothing k) refl (gets_operands ks) ps earlier content rest known after s spelled stands last closed is ar

  -- the operands of a row
  pub gets_row_operands : (n : ℕ) (row : Row) → row_of n ≡ Some row → (ps : Parts) (content spelling rest : List ℕ) (known after : List Arity) (s : State) → IsContent row.2 content spelling → SpellsOperands (around_of context) false (operand_kinds row.3) ps content []
      → StandOperands levels scope (around_of context) false (operand_kinds row.3) ps nothing_earlier known after → s.rest ≡ spelling ++ rest → s.arities ≡ known → Gets (row_operands inner_term scope context start row) s (part_list ps) rest after
  unfolding OperandsGet
  gets_row_operands n row found ps content spelling rest known after s within spelled stands is ar =
      let order = row_ordered n row found in
      gets_content row.2 content spelling within is ar (λ s1 left closed is1 ar1. gets_operands (kinds_of row.3) ps nothing_earlier content left known after s1 spelled stands order.0 (λ e. closed (order.1 e)) is1 ar1)
