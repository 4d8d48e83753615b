-- What is spelled as a term and may stand where it stands is read as that term; and so is a whole list.
use Rattle.std.proofs.Common.{◌≡◌, ℕ, suc, ◌+◌, List, [], ◌∷◌, ◌++◌, Bool, true, false, Option, Some, None, refl, subst, ◌∙◌, sym, ap, append_assoc, eq-eqb, arith}
use Rattle.std.specs.Prelude.{◌==◌, ◌&&◌, not, if◌then◌else◌}
use Rattle.aml_path.specs.declared.segment.Seg.{Seg}
use Rattle.aml_grammar.specs.declared.opcode.Opcode.{Opcode}
use Rattle.aml_grammar.specs.declared.opcode.Opcode.TheVariants as opcodes
use Rattle.aml_grammar.specs.declared.opcode.TermCode.TheVariants as codes
use Rattle.aml_grammar.specs.declared.kinds.Class.{Class}
use Rattle.aml_grammar.specs.declared.kinds.Class.TheVariants as classes
use Rattle.aml_grammar.specs.declared.kinds.Row.{Row}
use Rattle.aml_arities.specs.declared.arities.Arity.{Arity}
use Rattle.aml_grammar.specs.declared.context.Position.{Position}
use Rattle.aml_grammar.specs.declared.context.Position.TheVariants as positions
use Rattle.aml_grammar.specs.declared.context.Context.{Context}
use Rattle.aml_grammar.specs.Opcodes.{number_of}
use Rattle.aml_grammar.specs.Table.{row_of}
use Rattle.aml_grammar.specs.State.{State, Step, is_next}
use Rattle.aml_grammar.specs.Tree.{Tree, term, Parts, no_parts, part}
use Rattle.aml_grammar.specs.Grammar.{Inner, is_nothing, is_if, nothing_earlier, item_of, stands, costs_no_level, opcode, admitted_row, row_at, deeper, leveled, coded_term, term_in, below, by_arities}
use Rattle.aml_scan.specs.Spelling.{Around, may_stand, may_have_else, operand_kinds, IsOpcode, IsContent, Spells, SpellsOperands}
use Rattle.aml_scan.proofs.SpelledRows.{around_of, place_of, same_else, kinds_end, costs_none, costs_nothing, row_is_bare}
use Rattle.aml_spelling.specs.Faults.{lacks_else}
use Rattle.aml_spelling.specs.Stands.{cost, Stands, StandOperands}
use Rattle.aml_spelling.proofs.Gets.{Gets, gets_then, gets_give, gets_map, gets_value, gets_known, gets_as, gets_yes, gets_no, gets_byte}
use Rattle.aml_spelling.proofs.GetsParts.{NoElse, TermGets}
use Rattle.aml_spelling.proofs.GetsIf.{gets_row_term}
use Rattle.aml_spelling.proofs.RowFacts.{own_row, row_begun, may_stands, cost_is}

-- ---- opcodes

gets_opcode : {s : State} {rest : List ℕ} {known : List Arity} (n : ℕ) (code : List ℕ) → IsOpcode n code → (n == 0x5B) ≡ false → s.rest ≡ code ++ rest → s.arities ≡ known → Gets opcode s n rest known
unfolding opcode
gets_opcode n [] h plain is ar = absurd h
gets_opcode n (b ∷ []) h plain is ar = gets_value (sym h) (gets_then _ (gets_byte is ar) (λ s1 is1 ar1. gets_no _ (ap (λ c. c == 0x5B) (sym h) ∙ plain) (gets_give b is1 ar1)))
gets_opcode n (b ∷ e ∷ []) h plain is ar = gets_value (sym h.1) (gets_then _ (gets_byte is ar) (λ s1 is1 ar1. gets_yes _ (eq-eqb b 0x5B h.0) (gets_map (λ x. 0x5B00 + x) (gets_byte is1 ar1))))
gets_opcode n (b ∷ e ∷ f ∷ bs) h plain is ar = absurd h

pub gets_row_at : {s : State} {rest : List ℕ} {known : List Arity} (position : Position) (context : Context) (start n : ℕ) (row : Row) (code : List ℕ) → IsOpcode n code → row_of n ≡ Some row → may_stand (around_of context) row.1 (place_of position) ≡ true
    → s.rest ≡ code ++ rest → s.arities ≡ known → Gets (row_at position context start) s row rest known
unfolding row_at
gets_row_at position context start n row code h found may is ar =
    let k = may_stands row.1 position context may in
    gets_then _ (gets_opcode n code h (row_begun n row found).no_prefix is ar) (λ s1 is1 ar1. gets_as (ap (λ (o : Option Row). admitted_row position context start o s1) found) (gets_yes _ k.0 (gets_no _ k.1 (gets_give row is1 ar1))))

-- ---- an If is an item of a list

class_of : Option Row → Class
class_of None = classes.Statement
class_of (Some row) = row.1

pub if_class : (row : Row) → row_of 0xA0 ≡ Some row → row.1 ≡ classes.Statement
unfolding row_of class_of
if_class row found = sym (ap class_of found)

statement_is_item : (around : Around) (position : Position) (t : Tree) (rest : List ℕ) → may_stand around classes.Statement (place_of position) ≡ true → NoElse position t rest → lacks_else t ≡ true → is_next 0xA1 rest ≡ false
statement_is_item around positions.ListItem t rest may alone = alone
statement_is_item around positions.TermArg t rest may alone = absurd (cc may)
statement_is_item around positions.DataObject t rest may alone = absurd (cc may)
statement_is_item around positions.PackageElement t rest may alone = absurd (cc may)
statement_is_item around positions.SuperName t rest may alone = absurd (cc may)

no_else_after_if : (around : Around) (o : Opcode) (row : Row) (position : Position) (t : Tree) (rest : List ℕ) → row_of (number_of o) ≡ Some row → may_stand around row.1 (place_of position) ≡ true → NoElse position t rest → may_have_else o ≡ true → lacks_else t ≡ true → is_next 0xA1 rest ≡ false
no_else_after_if around opcodes.If row position t rest found may alone e = statement_is_item around position t rest (rw (if_class row found) at may) alone
no_else_after_if around _ row position t rest found may alone e = absurd (cc e)

-- ---- levels

-- terms with one level less are read from their spelling
abbrev pub Lower : ℕ → Type 0
Lower levels = (l : ℕ) → levels ≡ suc l → TermGets l (term_in by_arities (below by_arities l))

pub gets_deeper : {A : Type 0} {s : State} {a : A} {rest : List ℕ} {known : List Arity} (levels l item : ℕ) (go : Inner → Step A) → levels ≡ suc l → Gets (go (term_in by_arities (below by_arities l))) s a rest known → Gets (deeper (below by_arities levels) item go) s a rest known
unfolding deeper below
gets_deeper {s = s} levels l item go is h = gets_as (ap (λ (n : ℕ). deeper (below by_arities n) item go s) is) h

pub bare_parts : (c p n i : Bool) → (if c then not p && (n && not i) else true) ≡ true → c ≡ true → (p ≡ false) × (n ≡ true) × (i ≡ false)
bare_parts false p n i e is = absurd (cc is)
bare_parts true true n i e is = absurd (cc e)
bare_parts true false false i e is = absurd (cc e)
bare_parts true false true true e is = absurd (cc e)
bare_parts true false true false e is = (refl, refl, refl)

-- a term that costs no level has no operands
bare : (around : Around) (ps : Parts) (content operands later : List ℕ) → IsContent false content operands → SpellsOperands around false [] ps content later → (ps ≡ no_parts) × (operands ++ later ≡ [])
unfolding Spells
bare around no_parts content operands later within h = (refl, ap (λ l. l ++ later) (within ∙ h.0) ∙ h.1)
bare around (part p ps) content operands later within h = absurd h

bare_stands : (levels : ℕ) (scope : List Seg) (around : Around) (ps : Parts) (known after : List Arity) → ps ≡ no_parts → StandOperands levels scope around false [] ps nothing_earlier known after → after ≡ known
unfolding Stands
bare_stands levels scope around no_parts known after e h = h
bare_stands levels scope around (part p ps) known after e h = h

-- ---- terms with an opcode

module _ (levels : ℕ) (lower : Lower levels) (position : Position) (scope : List Seg) (context : Context) (start : ℕ) where
  gets_leveled : (o : Opcode) (row : Row) → row_of (number_of o) ≡ Some row → (ps : Parts) (content operands later rest : List ℕ) (known after : List Arity) (s : State) → (c : Bool) → costs_no_level row.1 position ≡ c → IsContent row.2 content operands
      → SpellsOperands (around_of context) (may_have_else o) (operand_kinds row.3) ps content later → (l : ℕ) → levels ≡ cost row.1 (place_of position) + l → StandOperands l scope (around_of context) (may_have_else o) (operand_kinds row.3) ps nothing_earlier known after
      → (may_have_else o ≡ true → lacks_else (term (codes.Opcode o) ps) ≡ true → is_next 0xA1 rest ≡ false) → s.rest ≡ (operands ++ later) ++ rest → s.arities ≡ known → Gets (leveled (below by_arities levels) position scope context start row) s (term (codes.Opcode o) ps) rest after
  gets_leveled o row found ps content operands later rest known after s true free within spelled l left stands alone is ar =
      let none = bare_parts (costs_none row.1) row.2 (is_nothing row.3.0) (is_if row.0) (row_is_bare (number_of o) row found) (costs_nothing row.1 position free) in
      let no_else : may_have_else o ≡ false = same_else o ∙ ap is_if (sym (own_row o row found)) ∙ none.2 in
      let no_kinds : operand_kinds row.3 ≡ [] = kinds_end row.3.0 _ none.1 in
      let h = bare (around_of context) ps content operands later (rw none.0 at within) (rw (no_else, no_kinds) at spelled) in
      let same : after ≡ known = bare_stands l scope (around_of context) ps known after h.0 (rw (no_else, no_kinds) at stands) in
      gets_yes _ free (gets_known same (gets_value (ap (λ (p : Opcode). term (codes.Opcode p) no_parts) (own_row o row found) ∙ ap (λ qs. term (codes.Opcode o) qs) (sym h.0)) (gets_give _ (is ∙ ap (λ b. b ++ rest) h.1) ar)))
  gets_leveled o row found ps content operands later rest known after s false costs within spelled l left stands alone is ar =
      let one : cost row.1 (place_of position) ≡ 1 = cost_is row.1 position false costs in
      let less : levels ≡ suc l = omega (arith, one, left) in
      gets_no _ costs (gets_deeper levels l (item_of context.item start) _ less
      (gets_row_term l (term_in by_arities (below by_arities l)) (lower l less) scope context o row found ps content operands later rest known after s within spelled stands alone is ar start))

  pub gets_coded : (o : Opcode) (ps : Parts) (spelling rest : List ℕ) (known after : List Arity) (s : State) → Spells (around_of context) (place_of position) (term (codes.Opcode o) ps) spelling → Stands levels scope (around_of context) (place_of position) (term (codes.Opcode o) ps) known after
      → NoElse position (term (codes.Opcode o) ps) rest → s.rest ≡ spelling ++ rest → s.arities ≡ known → Gets (coded_term (below by_arities levels) position scope context start) s (term (codes.Opcode o) ps) rest after
  unfolding coded_term Spells Stands
  gets_coded o ps spelling rest known after s spelled stands alone is ar =
      let row = spelled.0 in
      let same : stands.0 ≡ spelled.0 = cc (stands.1, spelled.1) in
      let left : levels ≡ cost spelled.0.1 (place_of position) + stands.2 = subst (λ (r : Row). levels ≡ cost r.1 (place_of position) + stands.2) same stands.3 in
      let within : StandOperands stands.2 scope (around_of context) (may_have_else o) (operand_kinds spelled.0.3) ps nothing_earlier known after =
      subst (λ (r : Row). StandOperands stands.2 scope (around_of context) (may_have_else o) (operand_kinds r.3) ps nothing_earlier known after) same stands.4 in
      let whole : s.rest ≡ spelled.3 ++ ((spelled.4 ++ spelled.5) ++ rest) = is ∙ ap (λ l. l ++ rest) spelled.6 ∙ append_assoc spelled.3 (spelled.4 ++ spelled.5) rest in
      gets_then _ (gets_row_at position context start (number_of o) spelled.0 spelled.3 spelled.7 spelled.1 spelled.2 whole ar) (λ s1 is1 ar1.
      gets_leveled o spelled.0 spelled.1 ps spelled.8 spelled.4 spelled.5 rest known after s1 (costs_no_level spelled.0.1 position) refl spelled.9 spelled.10 stands.2 left within
      (no_else_after_if (around_of context) o spelled.0 position (term (codes.Opcode o) ps) rest spelled.1 spelled.2 alone) is1 ar1)
