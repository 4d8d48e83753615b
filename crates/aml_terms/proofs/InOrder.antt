-- Operands that stand one after another: the first one, and those behind it.
use Rattle.std.specs.Prelude.{◌≡◌, ◌<◌, ◌-◌, ℕ, List, ◌∷◌, true, false, Some, None, refl}
use Rattle.aml_grammar.specs.declared.kinds.OperandKind.{OperandKind}
use Rattle.aml_grammar.specs.Shape.{parts_of}
use Rattle.aml_grammar.specs.Apart.{part_at}
use Rattle.aml_grammar.specs.Grammar.{is_nothing}
use Rattle.aml_marks.specs.Marked.{Place, Below, after, gives, an_operand, all_operands}
use Rattle.aml_marks.proofs.Parting.{part_later}

module _ (b : Below) (k : OperandKind) (ks : List OperandKind) (p : Place) (i : ℕ) where
  pub none_there : is_nothing k ≡ true → part_at (parts_of (all_operands b (k ∷ ks) p).0) i ≡ None
  unfolding all_operands gives
  none_there is = rw is refl

  pub first_there : is_nothing k ≡ false → i ≡ 0 → part_at (parts_of (all_operands b (k ∷ ks) p).0) i ≡ Some (an_operand b k p).0
  unfolding all_operands after gives
  first_there is at = rw (is, at) refl

  pub later_there : is_nothing k ≡ false → 0 < i → part_at (parts_of (all_operands b (k ∷ ks) p).0) i ≡ part_at (parts_of (all_operands b ks (an_operand b k p).1).0) (i - 1)
  unfolding all_operands after gives
  later_there is lt = rw is (part_later _ _ i lt)

pub ruleset in_order = (none_there, first_there, later_there)
