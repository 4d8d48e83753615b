-- Which operands Match has: all six that a row may have.
use Rattle.std.specs.Prelude.{◌≡◌, List, [], ◌∷◌, true, Some, refl}
use Rattle.std.proofs.Common.{◌∙◌}
use Rattle.aml_grammar.specs.declared.opcode.TermCode.TheVariants as codes
use Rattle.aml_grammar.specs.declared.kinds.OperandKind.{OperandKind}
use Rattle.aml_grammar.specs.declared.kinds.Row.{Row}
use Rattle.aml_grammar.specs.Tree.{term, Part}
use Rattle.aml_marks.specs.Marked.{Place, Below, Walk, gives, all_operands, with_row}
use Rattle.aml_frames.specs.Operands.{match_at, behind_match}
use Rattle.aml_frames.proofs.OperandShapes.{◌and◌, is_argument, is_byte, is_plain, both, Reads, argument_reads, byte_reads, one_more, plain_row}

module _ (b : Below) where
  -- the last operands of a row
  last_one : {k : OperandKind} {w : Walk Part} (p : Place) → Reads b k w → all_operands b (k ∷ []) p ≡ ((w p).0 ∷ [], (w p).1)
  unfolding all_operands gives
  last_one p r = one_more b [] p r

  last_two : {k l : OperandKind} {w x : Walk Part} (p : Place) → Reads b k w → Reads b l x → all_operands b (k ∷ l ∷ []) p ≡ ((w p).0 ∷ (x (w p).1).0 ∷ [], (x (w p).1).1)
  last_two {l = l} p r s = one_more b (l ∷ []) p r ∙ rw (last_one _ s) refl

  last_three : {k l m : OperandKind} {w x y : Walk Part} (p : Place) → Reads b k w → Reads b l x → Reads b m y → all_operands b (k ∷ l ∷ m ∷ []) p ≡ ((w p).0 ∷ (x (w p).1).0 ∷ (y (x (w p).1).1).0 ∷ [], (y (x (w p).1).1).1)
  last_three {l = l} {m = m} p r s t = one_more b (l ∷ m ∷ []) p r ∙ rw (last_two _ s t) refl

  last_four : {k l m o : OperandKind} {w x y z : Walk Part} (p : Place) → Reads b k w → Reads b l x → Reads b m y → Reads b o z → all_operands b (k ∷ l ∷ m ∷ o ∷ []) p ≡ ((w p).0 ∷ (x (w p).1).0 ∷ (y (x (w p).1).1).0 ∷ (z (y (x (w p).1).1).1).0 ∷ [], (z (y (x (w p).1).1).1).1)
  last_four {l = l} {m = m} {o = o} p r s t u = one_more b (l ∷ m ∷ o ∷ []) p r ∙ rw (last_three _ s t u) refl

  last_five : {k l m o h : OperandKind} {w x y z v : Walk Part} (p : Place) → Reads b k w → Reads b l x → Reads b m y → Reads b o z → Reads b h v → all_operands b (k ∷ l ∷ m ∷ o ∷ h ∷ []) p ≡ ((w p).0 ∷ (x (w p).1).0 ∷ (y (x (w p).1).1).0 ∷ (z (y (x (w p).1).1).1).0 ∷ (v (z (y (x (w p).1).1).1).1).0 ∷ [], (v (z (y (x (w p).1).1).1).1).1)
  last_five {l = l} {m = m} {o = o} {h = h} p r s t u i = one_more b (l ∷ m ∷ o ∷ h ∷ []) p r ∙ rw (last_four _ s t u i) refl

  all_six : {k l m o h g : OperandKind} {w x y z v n : Walk Part} (p : Place) → Reads b k w → Reads b l x → Reads b m y → Reads b o z → Reads b h v → Reads b g n
      → all_operands b (k ∷ l ∷ m ∷ o ∷ h ∷ g ∷ []) p ≡ ((w p).0 ∷ (x (w p).1).0 ∷ (y (x (w p).1).1).0 ∷ (z (y (x (w p).1).1).1).0 ∷ (v (z (y (x (w p).1).1).1).1).0 ∷ (n (v (z (y (x (w p).1).1).1).1).1).0 ∷ [], (n (v (z (y (x (w p).1).1).1).1).1).1)
  all_six {l = l} {m = m} {o = o} {h = h} {g = g} p r s t u i j = one_more b (l ∷ m ∷ o ∷ h ∷ g ∷ []) p r ∙ rw (last_five _ s t u i j) refl

  pub a_match : (row : Row) (p : Place) → (is_plain row and is_argument row.3.0 and is_byte row.3.1 and is_argument row.3.2 and is_byte row.3.3 and is_argument row.3.4 and is_argument row.3.5) ≡ true
      → with_row b (Some row) p ≡ (term (codes.Opcode row.0) (match_at b p), behind_match b p)
  a_match row p f = let e = both _ _ f in let k = both _ _ e.1 in let l = both _ _ k.1 in let m = both _ _ l.1 in let o = both _ _ m.1 in let h = both _ _ o.1 in
      plain_row b row p e.0 ∙ rw (all_six p (argument_reads b row.3.0 k.0) (byte_reads b row.3.1 l.0) (argument_reads b row.3.2 m.0) (byte_reads b row.3.3 o.0) (argument_reads b row.3.4 h.0) (argument_reads b row.3.5 h.1)) refl
