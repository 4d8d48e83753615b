-- A term whose first byte says how long it is ends so many bytes on.
use Rattle.std.specs.Prelude.{◌≡◌, ◌<◌, ◌+◌, ◌-◌, ◌==◌, ℕ, List, [], ◌∷◌, length, drop, min, Bool, true, false, Option, Some, None, if◌then◌else◌, refl}
use Rattle.std.proofs.Common.{◌∙◌, ap, add_assoc, length-drop, arith}
use Rattle.std.proofs.lemmas.List.{drop-drop}
use Rattle.aml_grammar.specs.declared.kinds.OperandKind.{OperandKind}
use Rattle.aml_grammar.specs.declared.kinds.OperandKind.TheVariants as kinds
use Rattle.aml_grammar.specs.declared.kinds.Row.{Row}
use Rattle.aml_grammar.specs.Names.{starts_name}
use Rattle.aml_grammar.specs.Tree.{Tree}
use Rattle.aml_grammar.specs.Table.{row_of}
use Rattle.aml_grammar.specs.Grammar.{is_if, is_nothing}
use Rattle.aml_marks.specs.Marked.{Place, Below, over, first, after, gives, inside, an_operand, all_operands, of_row, with_row, an_opcode, a_coded, a_term_in, a_term}
use Rattle.aml_marks.proofs.Walking.{some_levels}
use Rattle.aml_terms.specs.ShortTerms.{with_only, maybe_length, short_length}

over_over : (m n : ℕ) (p : Place) → over m (over n p) ≡ over (n + m) p
over_over m n p =
    let left : length (drop (min n (length p.rest)) p.rest) ≡ length p.rest - min n (length p.rest) = length-drop (min n (length p.rest)) p.rest in
    let sum : min n (length p.rest) + min m (length p.rest - min n (length p.rest)) ≡ min (n + m) (length p.rest) = omega arith in
    rw (left, add_assoc, drop-drop (min m (length p.rest - min n (length p.rest))) (min n (length p.rest)) p.rest, sum) refl

module _ (b : Below) where
  -- the only operand of a term, behind the first byte
  one_operand : (k : OperandKind) (ks : List OperandKind) (p : Place) → 0 < with_only k → ((q : Place) → (all_operands b ks q).1 ≡ q) → (all_operands b (k ∷ ks) (over 1 p)).1 ≡ over (with_only k) p
  unfolding all_operands an_operand after gives
  one_operand kinds.Nothing ks p some none = refl
  one_operand kinds.ByteData ks p some none = none _ ∙ over_over 1 1 p
  one_operand kinds.WordData ks p some none = none _ ∙ over_over 2 1 p
  one_operand kinds.DWordData ks p some none = none _ ∙ over_over 4 1 p
  one_operand kinds.QWordData ks p some none = none _ ∙ over_over 8 1 p
  one_operand _ ks p some none = absurd (omega (arith, some))

  no_operand : (k : OperandKind) (ks : List OperandKind) (q : Place) → is_nothing k ≡ true → (all_operands b (k ∷ ks) q).1 ≡ q
  unfolding all_operands gives
  no_operand k ks q is = rw is refl

  row_over : (packed other nothing : Bool) (row : Row) (p : Place) → row.2 ≡ packed → is_if row.0 ≡ other → is_nothing row.3.1 ≡ nothing
      → 0 < (if packed then 0 else (if other then 0 else (if nothing then with_only row.3.0 else 0)))
      → (with_row b (Some row) (over 1 p)).1 ≡ over (if packed then 0 else (if other then 0 else (if nothing then with_only row.3.0 else 0))) p
  unfolding with_row of_row inside after gives
  row_over true other nothing row p e f g some = absurd (omega (arith, some))
  row_over false true nothing row p e f g some = absurd (omega (arith, some))
  row_over false false false row p e f g some = absurd (omega (arith, some))
  row_over false false true row p e f g some = rw (e, f) (one_operand row.3.0 (row.3.1 ∷ row.3.2 ∷ row.3.3 ∷ row.3.4 ∷ row.3.5 ∷ []) p some (λ q. no_operand row.3.1 (row.3.2 ∷ row.3.3 ∷ row.3.4 ∷ row.3.5 ∷ []) q g))

  maybe_row_over : (r : Option Row) (p : Place) → 0 < maybe_length r → (with_row b r (over 1 p)).1 ≡ over (maybe_length r) p
  maybe_row_over None p some = absurd (omega (arith, some))
  maybe_row_over (Some row) p some = row_over row.2 (is_if row.0) (is_nothing row.3.1) row p refl refl refl some

  term_over : (count : ℕ → ℕ) (element prefix named : Bool) (p : Place) → (first p.rest == 0x5B) ≡ prefix → starts_name (first p.rest) ≡ named
      → 0 < (if prefix then 0 else (if named then 0 else maybe_length (row_of (first p.rest))))
      → (a_term_in b count element p).1 ≡ over (if prefix then 0 else (if named then 0 else maybe_length (row_of (first p.rest)))) p
  unfolding a_term_in a_coded an_opcode after gives
  term_over count element true named p e f some = absurd (omega (arith, some))
  term_over count element false true p e f some = absurd (omega (arith, some))
  term_over count element false false p e f some = rw (f, e) (maybe_row_over (row_of (first p.rest)) p some)

pub short_term : (count : ℕ → ℕ) (levels : ℕ) (element : Bool) (p : Place) → 0 < levels → 0 < short_length (first p.rest) → (a_term count levels element p).1 ≡ over (short_length (first p.rest)) p
unfolding short_length
short_term count levels element p lt some =
    ap (λ (r : Tree × Place). r.1) (some_levels count levels element p lt)
    ∙ term_over (a_term count (levels - 1)) count element (first p.rest == 0x5B) (starts_name (first p.rest)) p refl refl some
