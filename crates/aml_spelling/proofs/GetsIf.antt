-- A term with an opcode is read from its spelling after its opcode, an If with its Else.
use Rattle.std.proofs.Common.{◌≡◌, ℕ, List, [], ◌∷◌, ◌++◌, Bool, true, false, Option, Some, None, refl, subst, ◌∙◌, sym, ap, append_assoc, append-nil}
use Rattle.std.specs.Prelude.{if◌then◌else◌}
use Rattle.ar_space.specs.Change.{give}
use Rattle.aml_path.specs.declared.segment.Seg.{Seg}
use Rattle.aml_grammar.specs.declared.opcode.Opcode.{Opcode}
use Rattle.aml_grammar.specs.declared.opcode.Opcode.TheVariants as opcodes
use Rattle.aml_grammar.specs.declared.opcode.TermCode.TheVariants as codes
use Rattle.aml_grammar.specs.declared.kinds.OperandKind.{OperandKind}
use Rattle.aml_grammar.specs.declared.kinds.OperandKind.TheVariants as kinds
use Rattle.aml_grammar.specs.declared.kinds.Row.{Row}
use Rattle.aml_arities.specs.declared.arities.Arity.{Arity}
use Rattle.aml_grammar.specs.declared.context.Context.{Context}
use Rattle.aml_grammar.specs.declared.context.Earlier.{Earlier}
use Rattle.aml_grammar.specs.Opcodes.{number_of}
use Rattle.aml_grammar.specs.Table.{row_of}
use Rattle.aml_grammar.specs.State.{State, is_next}
use Rattle.aml_grammar.specs.Tree.{term, Part, null, inner, Parts, no_parts, part}
use Rattle.aml_grammar.specs.Shape.{parts_of}
use Rattle.aml_grammar.specs.Grammar.{Inner, is_if, at_else, nothing_earlier, plain_term, else_operand, else_part, if_term, row_term}
use Rattle.aml_scan.specs.Spelling.{operand_kinds, may_have_else, IsContent, Spells, SpellsOperands, SpellsElse}
use Rattle.aml_scan.proofs.SpelledRows.{around_of, same_else}
use Rattle.aml_spelling.specs.Faults.{lacks_else}
use Rattle.aml_spelling.specs.Stands.{Stands, StandOperands}
use Rattle.aml_spelling.proofs.Gets.{Gets, gets_then, gets_give, gets_map, gets_value, gets_known, gets_as}
use Rattle.aml_spelling.proofs.GetsParts.{TermGets}
use Rattle.aml_spelling.proofs.GetsRows.{part_list, parts_again}
use Rattle.aml_spelling.proofs.GetsRowTerms.{gets_row_operands}
use Rattle.aml_spelling.proofs.GetsElse.{gets_else, else_first}
use Rattle.aml_spelling.proofs.RowFacts.{own_row}

kinds_in : Option Row → List OperandKind
kinds_in None = []
kinds_in (Some row) = operand_kinds row.3

if_kinds : (row : Row) → row_of (number_of opcodes.If) ≡ Some row → operand_kinds row.3 ≡ kinds.TermArg ∷ kinds.TermList ∷ []
unfolding row_of kinds_in
if_kinds row found = sym (ap kinds_in found)

module _ (levels : ℕ) (inner_term : Inner) (h : TermGets levels inner_term) (scope : List Seg) (context : Context) where
  -- ---- an Else, or none

  else_there : (start : ℕ) (s : State) → is_next 0xA1 s.rest ≡ true → else_part inner_term scope context start s ≡ else_operand inner_term scope (at_else context start s.at) s
  unfolding else_part
  else_there start s is = rw is refl

  else_none : (start : ℕ) (s : State) → is_next 0xA1 s.rest ≡ false → else_part inner_term scope context start s ≡ give null s
  unfolding else_part give
  else_none start s is = rw is refl

  gets_else_part : (start : ℕ) (e : Part) (later rest : List ℕ) (earlier : Earlier) (known after : List Arity) (s : State) → SpellsElse (around_of context) e later → StandOperands levels scope (around_of context) true [] (part e no_parts) earlier known after
      → (e ≡ null → is_next 0xA1 rest ≡ false) → s.rest ≡ later ++ rest → s.arities ≡ known → Gets (else_part inner_term scope context start) s e rest after
  unfolding Spells Stands else_operand
  gets_else_part start null later rest earlier known after s spelled stands alone is ar =
      let left : s.rest ≡ rest = is ∙ ap (λ l. l ++ rest) spelled in
      gets_known stands (gets_as (else_none start s (ap (λ l. is_next 0xA1 l) left ∙ alone refl)) (gets_give null left ar))
  gets_else_part start (inner t) later rest earlier known after s spelled stands alone is ar =
      let k = else_first levels inner_term h scope context t later spelled in
      let first : s.rest ≡ 0xA1 ∷ (k.0 ++ rest) = is ∙ ap (λ l. l ++ rest) k.1 in
      gets_as (else_there start s (ap (λ l. is_next 0xA1 l) first)) (gets_map inner (gets_else levels inner_term h scope (at_else context start s.at) t later rest earlier known after s spelled stands is ar))
  gets_else_part start e later rest earlier known after s spelled stands alone is ar = absurd spelled

  -- ---- the operands of an If, and its Else

  -- operands and a last one
  record Split (ks : List OperandKind) (ps : Parts) (content later : List ℕ) (earlier : Earlier) (known after : List Arity) : Type 0 where
    others : Parts
    last : Part
    at_last : Earlier
    mid : List Arity
    whole : ps ≡ parts_of (part_list others ++ last ∷ [])
    spelled : SpellsOperands (around_of context) false ks others content []
    spelled_last : SpellsElse (around_of context) last later
    stands : StandOperands levels scope (around_of context) false ks others earlier known mid
    stands_last : StandOperands levels scope (around_of context) true [] (part last no_parts) at_last mid after

  split : (ks : List OperandKind) (ps : Parts) (content later : List ℕ) (earlier : Earlier) (known after : List Arity) → SpellsOperands (around_of context) true ks ps content later → StandOperands levels scope (around_of context) true ks ps earlier known after
      → Split ks ps content later earlier known after
  unfolding Spells Stands
  split [] (part p no_parts) content later earlier known after g i = record { others = no_parts; last = p; at_last = earlier; mid = known; whole = refl; spelled = (g.0, refl); spelled_last = g.1; stands = refl; stands_last = i }
  split [] no_parts content later earlier known after g i = absurd g
  split [] (part p (part q ps)) content later earlier known after g i = absurd g
  split (k ∷ ks) no_parts content later earlier known after g i = absurd g
  split (k ∷ ks) (part p ps) content later earlier known after g i =
      let r = split ks ps g.1 later i.0 i.1 after g.4 i.3 in
      record {
        others = part p r.others;
        last = r.last;
        at_last = r.at_last;
        mid = r.mid;
        whole = ap (λ qs. part p qs) r.whole;
        spelled = (g.0, g.1, g.2, g.3, r.spelled);
        spelled_last = r.spelled_last;
        stands = (i.0, i.1, i.2, r.stands);
        stands_last = r.stands_last;
      }

  no_later : (ks : List OperandKind) (ps : Parts) (content later : List ℕ) → SpellsOperands (around_of context) false ks ps content later → later ≡ []
  unfolding Spells
  no_later [] no_parts content later g = g.1
  no_later [] (part p ps) content later g = absurd g
  no_later (k ∷ ks) no_parts content later g = absurd g
  no_later (k ∷ ks) (part p ps) content later g = no_later ks ps g.1 later g.4

  -- ---- rows

  -- the last one of some operands is none
  abbrev LastNull : Row → Parts → List ℕ → Type 0
  LastNull row ps content = (others : Parts) × (ps ≡ parts_of (part_list others ++ null ∷ [])) × SpellsOperands (around_of context) false (operand_kinds row.3) others content []

  two_others : (ks : List OperandKind) (o : Opcode) (ps others : Parts) (content : List ℕ) → ks ≡ kinds.TermArg ∷ kinds.TermList ∷ [] → o ≡ opcodes.If → ps ≡ parts_of (part_list others ++ null ∷ []) → SpellsOperands (around_of context) false ks others content [] → lacks_else (term (codes.Opcode o) ps) ≡ true
  unfolding Spells
  two_others ks o ps (part a (part b no_parts)) content e f g h = rw (f, g) refl
  two_others ks o ps no_parts content e f g h = let k = rw e at h in absurd k
  two_others ks o ps (part a no_parts) content e f g h = let k = rw e at h in absurd k.4
  two_others ks o ps (part a (part b (part c others))) content e f g h = let k = rw e at h in absurd k.4.4

  lacks_it : (o : Opcode) (row : Row) → row_of (number_of o) ≡ Some row → may_have_else o ≡ true → (ps : Parts) (content : List ℕ) → LastNull row ps content → lacks_else (term (codes.Opcode o) ps) ≡ true
  lacks_it opcodes.If row found e ps content h = two_others (operand_kinds row.3) opcodes.If ps h.0 content (if_kinds row found) refl h.1 h.2
  lacks_it _ row found e ps content h = absurd (cc e)

  RowGets : (o : Opcode) (row : Row) (ps : Parts) (content operands later rest : List ℕ) (known after : List Arity) (s : State) → Bool → Type 0
  RowGets o row ps content operands later rest known after s has_else = IsContent row.2 content operands → SpellsOperands (around_of context) has_else (operand_kinds row.3) ps content later
      → StandOperands levels scope (around_of context) has_else (operand_kinds row.3) ps nothing_earlier known after → (has_else ≡ true → LastNull row ps content → is_next 0xA1 rest ≡ false) → s.rest ≡ (operands ++ later) ++ rest → s.arities ≡ known
      → (start : ℕ) → Gets (if has_else then if_term inner_term scope context start row else plain_term inner_term scope context start row) s (term (codes.Opcode o) ps) rest after

  gets_if : (o : Opcode) (row : Row) → row_of (number_of o) ≡ Some row → (ps : Parts) (content operands later rest : List ℕ) (known after : List Arity) (s : State) (c : Bool) → RowGets o row ps content operands later rest known after s c
  unfolding RowGets if_term plain_term
  gets_if o row found ps content operands later rest known after s true within spelled stands alone is ar start =
      let r = split (operand_kinds row.3) ps content later nothing_earlier known after spelled stands in
      gets_value (ap (λ (p : Opcode). term (codes.Opcode p) (parts_of (part_list r.others ++ r.last ∷ []))) (own_row o row found) ∙ ap (λ qs. term (codes.Opcode o) qs) (sym r.whole))
      (gets_then _ (gets_row_operands levels inner_term h scope context start (number_of o) row found r.others content operands (later ++ rest) known r.mid s within r.spelled r.stands (is ∙ append_assoc operands later rest) ar) (λ s1 is1 ar1.
      gets_map _ (gets_else_part start r.last later rest r.at_last r.mid after s1 r.spelled_last r.stands_last (λ none. alone refl (r.others, r.whole ∙ ap (λ (e : Part). parts_of (part_list r.others ++ e ∷ [])) none, r.spelled)) is1 ar1)))
  gets_if o row found ps content operands later rest known after s false within spelled stands alone is ar start =
      let none : later ≡ [] = no_later (operand_kinds row.3) ps content later spelled in
      let plain : SpellsOperands (around_of context) false (operand_kinds row.3) ps content [] = subst (λ (l : List ℕ). SpellsOperands (around_of context) false (operand_kinds row.3) ps content l) none spelled in
      let whole : s.rest ≡ operands ++ rest = is ∙ ap (λ l. (operands ++ l) ++ rest) none ∙ ap (λ l. l ++ rest) (append-nil operands) in
      gets_value (ap (λ (p : Opcode). term (codes.Opcode p) (parts_of (part_list ps))) (own_row o row found) ∙ ap (λ qs. term (codes.Opcode o) qs) (parts_again ps))
      (gets_map _ (gets_row_operands levels inner_term h scope context start (number_of o) row found ps content operands rest known after s within plain stands whole ar))

  pub gets_row_term : (o : Opcode) (row : Row) → row_of (number_of o) ≡ Some row → (ps : Parts) (content operands later rest : List ℕ) (known after : List Arity) (s : State) → IsContent row.2 content operands
      → SpellsOperands (around_of context) (may_have_else o) (operand_kinds row.3) ps content later → StandOperands levels scope (around_of context) (may_have_else o) (operand_kinds row.3) ps nothing_earlier known after
      → (may_have_else o ≡ true → lacks_else (term (codes.Opcode o) ps) ≡ true → is_next 0xA1 rest ≡ false) → s.rest ≡ (operands ++ later) ++ rest → s.arities ≡ known → (start : ℕ) → Gets (row_term inner_term scope context start row) s (term (codes.Opcode o) ps) rest after
  unfolding RowGets row_term
  gets_row_term o row found ps content operands later rest known after s within spelled stands alone is ar start =
      let same : may_have_else o ≡ is_if row.0 = same_else o ∙ ap is_if (sym (own_row o row found)) in
      gets_as (ap (λ (c : Bool). (if c then if_term inner_term scope context start row else plain_term inner_term scope context start row) s) (sym same))
      (gets_if o row found ps content operands later rest known after s (may_have_else o) within spelled stands (λ e null_last. alone e (lacks_it o row found e ps content null_last)) is ar start)
