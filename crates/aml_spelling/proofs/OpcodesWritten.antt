-- Each opcode has the bytes, the class and the operands that are written out for it.
use Rattle.std.proofs.Common.{◌≡◌, ◌≢◌, ℕ, ◌+◌, List, [], ◌∷◌, Bool, true, false, Option, Some, None, refl, ◌∙◌, sym, ap}
use Rattle.std.specs.Prelude.{◌==◌, ◌&&◌, not}
use Rattle.std.proofs.lemmas.Bool.{eqb-true}
use Rattle.aml_grammar.specs.declared.opcode.Opcode.{Opcode}
use Rattle.aml_grammar.specs.declared.opcode.Opcode.TheVariants as opcodes
use Rattle.aml_grammar.specs.declared.kinds.Class.TheVariants as classes
use Rattle.aml_grammar.specs.declared.kinds.Row.{Row}
use Rattle.aml_grammar.specs.Opcodes.{number_of}
use Rattle.aml_grammar.specs.Table.{row_of, plain}
use Rattle.aml_scan.specs.Spelling.{operand_kinds}
use Rattle.aml_scan.proofs.SpelledRows.{row_number}
use Rattle.aml_spelling.specs.Faults.{IsCode}
use Rattle.aml_spelling.specs.Encoding.{encoding}

-- ---- bytes

abbrev is_code : ℕ → List ℕ → Bool
is_code n [] = false
is_code n (b ∷ []) = (n == b) && not (b == 0x5B)
is_code n (b ∷ e ∷ []) = (b == 0x5B) && (n == 0x5B00 + e)
is_code n (b ∷ e ∷ c ∷ more) = false

both_true : (x y : Bool) → (x && y) ≡ true → (x ≡ true) × (y ≡ true)
both_true true true e = (refl, refl)
both_true true false e = absurd (cc e)
both_true false y e = absurd (cc e)

not_prefix : (b : ℕ) → not (b == 0x5B) ≡ true → b ≢ 0x5B
not_prefix b e same = absurd (let g : false ≡ true = sym (ap (λ x. not (x == 0x5B)) same) ∙ e in cc g)

code_is : (n : ℕ) (code : List ℕ) → is_code n code ≡ true → IsCode n code
code_is n [] e = absurd (cc e)
code_is n (b ∷ []) e = let h = both_true (n == b) (not (b == 0x5B)) e in (eqb-true n b h.0, not_prefix b h.1)
code_is n (b ∷ x ∷ []) e = let h = both_true (b == 0x5B) (n == 0x5B00 + x) e in (eqb-true b 0x5B h.0, eqb-true n (0x5B00 + x) h.1)
code_is n (b ∷ x ∷ c ∷ more) e = absurd (cc e)

coded : (op : Opcode) → is_code (number_of op) (encoding op).code ≡ true
coded opcodes.Zero = refl
coded _ = refl

pub has_its_bytes : (op : Opcode) → IsCode (number_of op) (encoding op).code
has_its_bytes op = code_is (number_of op) (encoding op).code (coded op)

-- ---- rows

abbrev row_or_zero : Option Row → Row
row_or_zero None = plain opcodes.Zero classes.Data []
row_or_zero (Some row) = row

pub has_its_operands : (op : Opcode) → (row : Row) × (row_of (number_of op) ≡ Some row) × (row.0 ≡ op) × (row.1 ≡ (encoding op).class) × (row.2 ≡ (encoding op).packaged) × (operand_kinds row.3 ≡ (encoding op).operands)
unfolding row_of
has_its_operands opcodes.Zero = (row_or_zero (row_of (number_of opcodes.Zero)), refl, refl, refl, refl, refl)
has_its_operands op = (row_or_zero (row_of (number_of op)), refl, refl, refl, refl, refl)

pub no_other_code : (n : ℕ) (row : Row) → row_of n ≡ Some row → n ≡ number_of row.0
no_other_code n row is = sym (row_number n row is)
