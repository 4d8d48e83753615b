-- The terms of rows may stand where they are read, and an If with its Else.
use Rattle.std.proofs.Common.{◌≡◌, ℕ, suc, List, [], ◌∷◌, ◌++◌, length, Bool, true, false, Ok, refl, ap, arith}
use Rattle.std.specs.Prelude.{if◌then◌else◌}
use Rattle.ar_space.specs.Change.{give}
use Rattle.aml_path.specs.declared.segment.Seg.{Seg}
use Rattle.aml_grammar.specs.declared.opcode.TermCode.TheVariants as codes
use Rattle.aml_grammar.specs.declared.kinds.OperandKind.{OperandKind}
use Rattle.aml_grammar.specs.declared.kinds.Row.{Row}
use Rattle.aml_arities.specs.declared.arities.Arity.{Arity}
use Rattle.aml_grammar.specs.declared.context.Position.TheVariants as positions
use Rattle.aml_grammar.specs.declared.context.Context.{Context}
use Rattle.aml_grammar.specs.declared.context.Earlier.{Earlier}
use Rattle.aml_grammar.specs.State.{State, is_next}
use Rattle.aml_grammar.specs.Tree.{Tree, term, Part, null, inner, Parts, no_parts, part}
use Rattle.aml_grammar.specs.Shape.{parts_of}
use Rattle.aml_grammar.specs.Grammar.{Inner, is_nothing, is_if, kinds_of, at_else, nothing_earlier, operands, row_operands, plain_term, else_term, else_operand, else_part, if_term, row_term}
use Rattle.aml_scan.specs.Spelling.{Around, up_to_nothing, operand_kinds, may_have_else}
use Rattle.aml_scan.proofs.SpelledRows.{around_of, same_else, kinds_end, kinds_go_on}
use Rattle.aml_spelling.specs.Stands.{Stands, StandOperands}
use Rattle.aml_spelling.proofs.Leaves.{Effect, Leaves, leaves_then, leaves_after, leaves_as, leaves_give, leaves_map, leaves_if, leaves_byte, leaves_packed}
use Rattle.aml_spelling.proofs.LeavesParts.{TermLeaves, leaves_list, leaves_operand}

-- as many operands as kinds, and they may stand
abbrev pub OperandsStand : ℕ → List Seg → Around → List OperandKind → Earlier → Effect (List Part)
OperandsStand levels scope around ks earlier ps known after = (length ps ≡ length ks) × StandOperands levels scope around false ks (parts_of ps) earlier known after

-- an Else may stand, or there is none
abbrev ElseStands : ℕ → List Seg → Around → Effect Part
ElseStands levels scope around p known after = (earlier : Earlier) → StandOperands levels scope around true [] (part p no_parts) earlier known after

with_else : (levels : ℕ) (scope : List Seg) (around : Around) (ks : List OperandKind) (ps : List Part) (e : Part) (earlier : Earlier) (known mid after : List Arity) → OperandsStand levels scope around ks earlier ps known mid → ElseStands levels scope around e mid after
    → StandOperands levels scope around true ks (parts_of (ps ++ e ∷ [])) earlier known after
unfolding Stands
with_else levels scope around [] [] e earlier known mid after h i = rw h.1 at (i earlier)
with_else levels scope around [] (p ∷ ps) e earlier known mid after h i = absurd (omega (arith, h.0))
with_else levels scope around (k ∷ ks) [] e earlier known mid after h i = absurd (omega (arith, h.0))
with_else levels scope around (k ∷ ks) (p ∷ ps) e earlier known mid after h i = (h.1.0, h.1.1, h.1.2, with_else levels scope around ks ps e h.1.0 h.1.1 mid after (omega (arith, h.0), h.1.3) i)

-- the term of a row may stand, with what is below it
abbrev pub RowStands : ℕ → List Seg → Around → Row → Effect Tree
RowStands levels scope around row t known after = (ps : Parts) × (t ≡ term (codes.Opcode row.0) ps) × StandOperands levels scope around (may_have_else row.0) (operand_kinds row.3) ps nothing_earlier known after

module _ (levels : ℕ) (inner_term : Inner) (h : TermLeaves levels inner_term) (scope : List Seg) where
  leaves_operands : (context : Context) (start : ℕ) (ks : List OperandKind) (earlier : Earlier) (s : State) → Leaves (operands inner_term scope context start ks earlier) s (OperandsStand levels scope (around_of context) (up_to_nothing ks) earlier)
  unfolding operands Stands
  leaves_operands context start [] earlier s = leaves_give [] (refl, refl)
  leaves_operands context start (k ∷ ks) earlier s = leaves_if (is_nothing k) (λ none. leaves_give [] (rw (kinds_end k ks none) (refl, refl)))
      (λ some. leaves_then (leaves_operand levels inner_term h scope context start k earlier s) (λ x s1 p. leaves_then (leaves_operands context start ks x.1 s1) (λ ps s2 q.
      leaves_give (x.0 ∷ ps) (rw (kinds_go_on k ks some) (ap suc q.0, (x.1, s1.arities, p, q.1))))))

  pub leaves_row_operands : (context : Context) (start : ℕ) (row : Row) (s : State) → Leaves (row_operands inner_term scope context start row) s (OperandsStand levels scope (around_of context) (operand_kinds row.3) nothing_earlier)
  leaves_row_operands context start row s = leaves_packed row.2 _ (leaves_operands context start (kinds_of row.3) nothing_earlier) s

  leaves_else_operand : (context : Context) (s : State) → Leaves (else_operand inner_term scope context) s (ElseStands levels scope (around_of context))
  unfolding else_operand else_term Stands
  leaves_else_operand context s = leaves_map inner (leaves_after (leaves_byte s) (λ code s1. leaves_map {R = λ (t : Tree) (known after : List Arity). ElseStands levels scope (around_of context) (inner t) known after} _ (leaves_packed true _ (leaves_list levels inner_term h positions.ListItem scope context) s1) (λ p known after i earlier. rw i.1 i.2))) (λ t known after i. i)

  leaves_else_if : (context : Context) (s : State) (b : Bool) → is_next 0xA1 s.rest ≡ b → Leaves (λ t. if b then else_operand inner_term scope context t else (Ok null, t)) s (ElseStands levels scope (around_of context))
  unfolding give Stands
  leaves_else_if context s true is = leaves_else_operand context s
  leaves_else_if context s false is = leaves_give null (λ earlier. refl)

  leaves_else_part : (context : Context) (start : ℕ) (s : State) → Leaves (else_part inner_term scope context start) s (ElseStands levels scope (around_of context))
  unfolding else_part
  leaves_else_part context start s = record { is = λ p s2 e. (leaves_else_if (at_else context start s.at) s (is_next 0xA1 s.rest) refl).is p s2 e }

  leaves_plain : (context : Context) (start : ℕ) (row : Row) (s : State) → is_if row.0 ≡ false → Leaves (plain_term inner_term scope context start row) s (RowStands levels scope (around_of context) row)
  unfolding plain_term
  leaves_plain context start row s no_if = leaves_map _ (leaves_row_operands context start row s) (λ ps known after i. (parts_of ps, refl, rw (same_else row.0, no_if) i.1))

  leaves_if_term : (context : Context) (start : ℕ) (row : Row) (s : State) → is_if row.0 ≡ true → Leaves (if_term inner_term scope context start row) s (RowStands levels scope (around_of context) row)
  unfolding if_term
  leaves_if_term context start row s an_if = leaves_then (leaves_row_operands context start row s) (λ ps s1 i. leaves_then (leaves_else_part context start s1) (λ e s2 j.
      leaves_give _ (parts_of (ps ++ e ∷ []), refl, rw (same_else row.0, an_if) (with_else levels scope (around_of context) (operand_kinds row.3) ps e nothing_earlier s.arities s1.arities s2.arities i j))))

  pub leaves_row_term : (context : Context) (start : ℕ) (row : Row) (s : State) → Leaves (row_term inner_term scope context start row) s (RowStands levels scope (around_of context) row)
  unfolding row_term
  leaves_row_term context start row s = leaves_as refl (leaves_if (is_if row.0) (leaves_if_term context start row s) (leaves_plain context start row s))
