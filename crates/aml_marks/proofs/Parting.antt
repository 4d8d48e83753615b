-- The operands of an If, and those before its Else.
use Rattle.std.specs.Prelude.{◌≡◌, ℕ, zero, suc, ◌+◌, ◌-◌, ◌<◌, List, [], ◌∷◌, ◌++◌, length, Bool, true, false, Some, None, if◌then◌else◌, refl}
use Rattle.std.proofs.Common.{arith}
use Rattle.aml_grammar.specs.declared.kinds.OperandKind.{OperandKind}
use Rattle.aml_grammar.specs.declared.kinds.Row.{Row}
use Rattle.aml_grammar.specs.Tree.{Part}
use Rattle.aml_grammar.specs.Shape.{parts_of}
use Rattle.aml_grammar.specs.Apart.{part_at}
use Rattle.aml_grammar.specs.Grammar.{is_nothing, kinds_of}
use Rattle.aml_marks.specs.Marked.{Place, Walk, Below, after, gives, inside, an_operand, all_operands, of_row}
use Rattle.aml_marks.proofs.Walking.{walking}
use Rattle.aml_marks.specs.Parting.{kind_count}

count_if : (b : Below) (k : OperandKind) (ks : List OperandKind) (test : Bool) (p : Place) → ((p : Place) → length (all_operands b ks p).0 ≡ kind_count ks)
    → length ((if test then gives [] else after (an_operand b k) (λ x. after (all_operands b ks) (λ xs. gives (x ∷ xs)))) p).0 ≡ (if test then 0 else 1 + kind_count ks)
unfolding after gives
count_if b k ks true p h = refl
count_if b k ks false p h = omega (arith, h (an_operand b k p).1)

counted : (b : Below) (ks : List OperandKind) (p : Place) → length (all_operands b ks p).0 ≡ kind_count ks
unfolding all_operands gives
counted b [] p = refl
counted b (k ∷ ks) p = count_if b k ks (is_nothing k) p (counted b ks)

inside_count : {A : Type 0} (packed : Bool) (w : Walk (List A)) (n : ℕ) (p : Place) → ((p : Place) → length (w p).0 ≡ n) → length (inside packed w p).0 ≡ n
unfolding inside
inside_count true w n p h = h _
inside_count false w n p h = h p

row_count : (b : Below) (row : Row) (p : Place) → length (of_row b row p).0 ≡ kind_count (kinds_of row.3)
unfolding of_row
row_count b row p = inside_count row.2 (all_operands b (kinds_of row.3)) (kind_count (kinds_of row.3)) p (counted b (kinds_of row.3))

before_last : (ps : List Part) (e : Part) (i : ℕ) → i < length ps → part_at (parts_of (ps ++ e ∷ [])) i ≡ part_at (parts_of ps) i
before_last [] e i lt = absurd (omega arith)
before_last (p ∷ ps) e zero lt = refl
before_last (p ∷ ps) e (suc i) lt = before_last ps e i (omega arith)

last : (ps : List Part) (e : Part) (i : ℕ) → i ≡ length ps → part_at (parts_of (ps ++ e ∷ [])) i ≡ Some e
last [] e zero is = refl
last [] e (suc i) is = absurd (omega arith)
last (p ∷ ps) e zero is = absurd (omega arith)
last (p ∷ ps) e (suc i) is = last ps e i (omega arith)

behind : (ps : List Part) (e : Part) (i : ℕ) → length ps < i → part_at (parts_of (ps ++ e ∷ [])) i ≡ None
behind [] e zero lt = absurd (omega arith)
behind [] e (suc i) lt = refl
behind (p ∷ ps) e zero lt = absurd (omega arith)
behind (p ∷ ps) e (suc i) lt = behind ps e i (omega arith)

pub row_before : (b : Below) (row : Row) (p : Place) (e : Part) (i : ℕ) → i < kind_count (kinds_of row.3) → part_at (parts_of ((of_row b row p).0 ++ e ∷ [])) i ≡ part_at (parts_of (of_row b row p).0) i
row_before b row p e i lt = before_last (of_row b row p).0 e i (omega (arith, row_count b row p))

pub row_last : (b : Below) (row : Row) (p : Place) (e : Part) (i : ℕ) → i ≡ kind_count (kinds_of row.3) → part_at (parts_of ((of_row b row p).0 ++ e ∷ [])) i ≡ Some e
row_last b row p e i is = last (of_row b row p).0 e i (omega (arith, row_count b row p))

pub row_behind : (b : Below) (row : Row) (p : Place) (e : Part) (i : ℕ) → kind_count (kinds_of row.3) < i → part_at (parts_of ((of_row b row p).0 ++ e ∷ [])) i ≡ None
row_behind b row p e i lt = behind (of_row b row p).0 e i (omega (arith, row_count b row p))

pub part_later : (p : Part) (ps : List Part) (i : ℕ) → 0 < i → part_at (parts_of (p ∷ ps)) i ≡ part_at (parts_of ps) (i - 1)
part_later p ps zero lt = absurd (omega arith)
part_later p ps (suc i) lt = let e : suc i - 1 ≡ i = omega arith in rw e refl

pub ruleset parting = (walking, row_before, row_last, row_behind, part_later)
