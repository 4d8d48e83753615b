-- A term with an opcode is read from its spelling after its opcode, and an If with its Else.
use Rattle.std.proofs.Common.{◌≡◌, ℕ, ◌+◌, List, [], ◌∷◌, ◌++◌, true, Some, subst₂, ◌∙◌, sym, ap, append-nil, arith}
use Rattle.aml_path.specs.declared.segment.Seg.{Seg}
use Rattle.aml_grammar.specs.declared.opcode.Opcode.{Opcode}
use Rattle.aml_grammar.specs.declared.opcode.Opcode.TheVariants as opcodes
use Rattle.aml_grammar.specs.declared.opcode.TermCode.TheVariants as codes
use Rattle.aml_grammar.specs.declared.kinds.Class.TheVariants as classes
use Rattle.aml_grammar.specs.declared.kinds.OperandKind.TheVariants as kinds
use Rattle.aml_grammar.specs.declared.kinds.Row.{Row}
use Rattle.aml_arities.specs.declared.arities.Arity.{Arity}
use Rattle.aml_grammar.specs.declared.context.Position.TheVariants as positions
use Rattle.aml_grammar.specs.declared.context.Context.{Context}
use Rattle.aml_grammar.specs.declared.context.Earlier.{Earlier}
use Rattle.aml_grammar.specs.Opcodes.{number_of}
use Rattle.aml_grammar.specs.Table.{row_of, packaged}
use Rattle.aml_grammar.specs.State.{State}
use Rattle.aml_grammar.specs.Tree.{Tree, term, name, inner, list, Parts, no_parts, part}
use Rattle.aml_grammar.specs.Grammar.{Inner, else_term}
use Rattle.aml_scan.specs.Spelling.{Around, after_if, operand_kinds, may_have_else, IsOpcode, IsContent, Spells, SpellsOperands}
use Rattle.aml_scan.proofs.SpelledRows.{around_of, else_row}
use Rattle.aml_spelling.specs.Stands.{Stands, StandOperands}
use Rattle.aml_spelling.proofs.Gets.{Gets, gets_then, gets_map, gets_byte, gets_packed}
use Rattle.aml_spelling.proofs.GetsParts.{TermGets, gets_list}
use Rattle.aml_spelling.proofs.RowFacts.{own_row, row_after_if}

-- the opcode of an Else is one byte
else_code : (code : List ℕ) → IsOpcode 0xA1 code → code ≡ 0xA1 ∷ []
else_code [] h = absurd h
else_code (b ∷ []) h = ap (λ c. c ∷ []) (sym h)
else_code (b ∷ e ∷ []) h = let k : 0xA1 ≡ 0x5B00 + e = h.1 in absurd (omega (arith, k))
else_code (b ∷ e ∷ f ∷ bs) h = absurd h

the_else : Row
the_else = packaged opcodes.Else classes.AfterIf (kinds.TermList ∷ [])

-- an Else alone stands after an If
else_row_is : (around : Around) (o : Opcode) (row : Row) → row_of (number_of o) ≡ Some row → (number_of o ≡ 0xA1) → (o ≡ opcodes.Else) × (row ≡ the_else)
unfolding the_else
else_row_is around o row found is =
    let number : row_of 0xA1 ≡ Some row = ap row_of (sym is) ∙ found in
    let same : row ≡ packaged opcodes.Else classes.AfterIf (kinds.TermList ∷ []) = cc (number, else_row) in
    (sym (own_row o row found) ∙ ap (λ (r : Row). r.0) same, same)

module _ (levels : ℕ) (inner_term : Inner) (h : TermGets levels inner_term) (scope : List Seg) (context : Context) where
  -- an Else of a row is read, where it has so many bytes
  ElseGets : (ps : Parts) (code operands content later rest : List ℕ) (earlier : Earlier) (known after : List Arity) (s : State) → Opcode → Row → Type 0
  ElseGets ps code operands content later rest earlier known after s o row = IsOpcode (number_of o) code → IsContent row.2 content operands → SpellsOperands (around_of context) (may_have_else o) (operand_kinds row.3) ps content later
      → StandOperands levels scope (around_of context) true [] (part (inner (term (codes.Opcode o) ps)) no_parts) earlier known after → s.rest ≡ (code ++ (operands ++ later)) ++ rest → s.arities ≡ known → Gets (else_term inner_term scope context) s (term (codes.Opcode o) ps) rest after

  gets_the_else : (ps : Parts) (code operands content later rest : List ℕ) (earlier : Earlier) (known after : List Arity) (s : State) → ElseGets ps code operands content later rest earlier known after s opcodes.Else the_else
  unfolding ElseGets else_term Spells Stands the_else
  gets_the_else (part (list ts) no_parts) code operands content later rest earlier known after s coded within spelled stands is ar =
      let last : spelled.1 ≡ [] = spelled.4.0 in
      let inside : content ≡ spelled.0 = spelled.2 ∙ ap (λ l. spelled.0 ++ l) last ∙ append-nil spelled.0 in
      let first : s.rest ≡ 0xA1 ∷ (operands ++ rest) = is ∙ ap (λ l. (l ++ (operands ++ later)) ++ rest) (else_code code coded) ∙ ap (λ l. 0xA1 ∷ ((operands ++ l) ++ rest)) spelled.4.1 ∙ ap (λ l. 0xA1 ∷ (l ++ rest)) (append-nil operands) in
      gets_then _ (gets_byte first ar) (λ s1 is1 ar1. gets_map _ (gets_packed content operands within is1 ar1 (λ s2 is2 ar2.
      gets_list levels inner_term h positions.ListItem scope context ts spelled.0 known after s2 spelled.3 stands (is2 ∙ inside) ar2)))
  gets_the_else no_parts code operands content later rest earlier known after s coded within spelled stands is ar = absurd spelled
  gets_the_else (part (list ts) (part p ps)) code operands content later rest earlier known after s coded within spelled stands is ar = absurd spelled.4
  gets_the_else (part p ps) code operands content later rest earlier known after s coded within spelled stands is ar = absurd spelled.3

  pub gets_else : (t : Tree) (spelling rest : List ℕ) (earlier : Earlier) (known after : List Arity) (s : State) → Spells (around_of context) after_if t spelling → StandOperands levels scope (around_of context) true [] (part (inner t) no_parts) earlier known after
      → s.rest ≡ spelling ++ rest → s.arities ≡ known → Gets (else_term inner_term scope context) s t rest after
  unfolding Spells ElseGets
  gets_else (term (codes.Opcode o) ps) spelling rest earlier known after s spelled stands is ar =
      let number : number_of o ≡ 0xA1 = row_after_if (around_of context) (number_of o) spelled.0 spelled.1 spelled.2 in
      let same = else_row_is (around_of context) o spelled.0 spelled.1 number in
      subst₂ (ElseGets ps spelled.3 spelled.4 spelled.8 spelled.5 rest earlier known after s) (sym same.0) (sym same.1) (gets_the_else ps spelled.3 spelled.4 spelled.8 spelled.5 rest earlier known after s)
      spelled.7 spelled.9 spelled.10 stands (is ∙ ap (λ l. l ++ rest) spelled.6) ar
  gets_else (term codes.MethodInvocation (part (name n) (part (list ts) no_parts))) spelling rest earlier known after s spelled stands is ar = absurd (cc spelled.0)
  gets_else t spelling rest earlier known after s spelled stands is ar = absurd spelled

  pub else_first : (t : Tree) (spelling : List ℕ) → Spells (around_of context) after_if t spelling → (left : List ℕ) × (spelling ≡ 0xA1 ∷ left)
  unfolding Spells
  else_first (term (codes.Opcode o) ps) spelling spelled =
      let number : number_of o ≡ 0xA1 = row_after_if (around_of context) (number_of o) spelled.0 spelled.1 spelled.2 in
      let code : spelled.3 ≡ 0xA1 ∷ [] = else_code spelled.3 (rw number at spelled.7) in
      (spelled.4 ++ spelled.5, spelled.6 ∙ ap (λ l. l ++ (spelled.4 ++ spelled.5)) code)
  else_first (term codes.MethodInvocation (part (name n) (part (list ts) no_parts))) spelling spelled = absurd (cc spelled.0)
  else_first t spelling spelled = absurd spelled
