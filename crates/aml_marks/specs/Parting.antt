-- The operands of an If, and those before its Else.
use Rattle.std.specs.Prelude.{◌≡◌, ℕ, zero, suc, ◌+◌, ◌-◌, ◌<◌, List, [], ◌∷◌, ◌++◌, length, Bool, true, false, Some, None, if◌then◌else◌, refl}
use Rattle.aml_grammar.specs.declared.kinds.OperandKind.{OperandKind}
use Rattle.aml_grammar.specs.Grammar.{is_nothing, kinds_of}

abbrev pub kind_count : List OperandKind → ℕ
kind_count [] = 0
kind_count (k ∷ ks) = if is_nothing k then 0 else 1 + kind_count ks
