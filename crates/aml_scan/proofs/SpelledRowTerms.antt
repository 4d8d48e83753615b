-- The operands of a row are read as they are spelled, and an If with its Else.
use Rattle.std.proofs.Common.{◌≡◌, ℕ, List, [], ◌∷◌, ◌++◌, Bool, true, false, Some, Ok, refl, ◌∙◌, sym, ap, ◌⊎◌, inl, inr}
use Rattle.std.specs.Prelude.{◌||◌, if◌then◌else◌}
use Rattle.std.proofs.lemmas.List.{append-nil}
use Rattle.std.proofs.lemmas.Bool.{eqb-true}
use Rattle.ar_space.specs.Change.{give}
use Rattle.aml_path.specs.declared.segment.Seg.{Seg}
use Rattle.aml_grammar.specs.declared.opcode.Opcode.TheVariants as opcodes
use Rattle.aml_grammar.specs.declared.opcode.TermCode.TheVariants as codes
use Rattle.aml_grammar.specs.declared.kinds.Class.TheVariants as classes
use Rattle.aml_grammar.specs.declared.kinds.OperandKind.{OperandKind}
use Rattle.aml_grammar.specs.declared.kinds.OperandKind.TheVariants as kinds
use Rattle.aml_grammar.specs.declared.kinds.Row.{Row}
use Rattle.aml_grammar.specs.declared.context.Position.TheVariants as positions
use Rattle.aml_grammar.specs.declared.context.Context.{Context}
use Rattle.aml_grammar.specs.declared.context.Earlier.{Earlier}
use Rattle.aml_grammar.specs.Table.{row_of, packaged}
use Rattle.aml_grammar.specs.Operands.{Read}
use Rattle.aml_grammar.specs.State.{State, Step, is_next}
use Rattle.aml_grammar.specs.Tree.{Tree, term, Part, null, inner, list, Parts, Trees}
use Rattle.aml_grammar.specs.Shape.{parts_of}
use Rattle.aml_grammar.specs.Grammar.{Inner, is_nothing, is_if, kinds_of, scope_of, in_loop, at_else, nothing_earlier, keeping, operand, operands, row_operands, plain_term, else_term, else_operand, else_part, if_term, row_term}
use Rattle.aml_scan.specs.Spelling.{Around, list_item, after_if, may_have_else, IsContent, up_to_nothing, operand_kinds, Spells, SpellsAll, SpellsOperands, SpellsElse, SpellsOperand}
use Rattle.aml_scan.proofs.Takes.{Takes, Relation, takes_as, takes_then, takes_more, takes_known, takes_map, takes_give, takes_if, takes_seen}
use Rattle.aml_scan.proofs.SpelledNumbers.{takes_content}
use Rattle.aml_scan.proofs.SpelledOperands.{takes_name_operand, takes_scope_name, takes_alias_source, takes_external_name, takes_declared_name, takes_integer_operand, takes_method_flags, takes_object_type, takes_argument_count, takes_text_operand, takes_bytes_operand}
use Rattle.aml_scan.proofs.SpelledParts.{TermTakes, takes_list, takes_term, takes_super_part, takes_target, takes_simple, takes_field_list}
use Rattle.aml_scan.proofs.SpelledRows.{around_of, same_else, kinds_end, kinds_go_on, takes_rest, some_takes_rest, row_is_closed, else_row}

-- ---- operands

-- an operand is spelled as its kind asks, and some take all that is left
abbrev IsOperand : Around → OperandKind → Relation Read
IsOperand around k x front rest = SpellsOperand around k x.0 front × (takes_rest k ≡ true → rest ≡ [])

-- one that leaves nothing for later ones
takes_keeping : {m : Step Part} {s : State} {P : Relation Part} (around : Around) (k : OperandKind) (earlier : Earlier) → Takes m s P → ((p : Part) (front rest : List ℕ) → P p front rest → SpellsOperand around k p front × (takes_rest k ≡ true → rest ≡ [])) → Takes (keeping earlier m) s (IsOperand around k)
takes_keeping around k earlier h i = takes_map (λ p. (p, earlier)) h i

module _ (inner_term : Inner) (inner_takes : TermTakes inner_term) (scope : List Seg) (context : Context) (start : ℕ) where
  takes_operand : (k : OperandKind) (earlier : Earlier) (s : State) → is_nothing k ≡ false → Takes (operand inner_term scope context start k earlier) s (IsOperand (around_of context) k)
  unfolding operand Spells
  takes_operand kinds.Nothing earlier s some = absurd (cc some)
  takes_operand kinds.NameString earlier s some = takes_keeping (around_of context) kinds.NameString earlier (takes_name_operand s) (λ p front rest h. (rw h.1 h.2, λ e. absurd (cc e)))
  takes_operand kinds.ScopeName earlier s some = takes_more (takes_scope_name (around_of context) scope earlier s) (λ x front rest h. (h, λ e. absurd (cc e)))
  takes_operand kinds.AliasSource earlier s some = takes_more (takes_alias_source (around_of context) scope earlier s) (λ x front rest h. (h, λ e. absurd (cc e)))
  takes_operand kinds.AliasName earlier s some = takes_more (takes_declared_name scope context start earlier.count earlier s) (λ x front rest h. (rw h.1 h.2, λ e. absurd (cc e)))
  takes_operand kinds.DeclaredName earlier s some = takes_more (takes_declared_name scope context start 0 earlier s) (λ x front rest h. (rw h.1 h.2, λ e. absurd (cc e)))
  takes_operand kinds.MethodFlags earlier s some = takes_more (takes_method_flags (around_of context) context earlier s) (λ x front rest h. (h, λ e. absurd (cc e)))
  takes_operand kinds.ExternalName earlier s some = takes_more (takes_external_name (around_of context) scope earlier s) (λ x front rest h. (h, λ e. absurd (cc e)))
  takes_operand kinds.ObjectType earlier s some = takes_more (takes_object_type (around_of context) earlier s) (λ x front rest h. (h, λ e. absurd (cc e)))
  takes_operand kinds.ArgumentCount earlier s some = takes_more (takes_argument_count (around_of context) context earlier s) (λ x front rest h. (h, λ e. absurd (cc e)))
  takes_operand kinds.ByteData earlier s some = takes_keeping (around_of context) kinds.ByteData earlier (takes_integer_operand 1 s) (λ p front rest h. (rw h.1 h.2, λ e. absurd (cc e)))
  takes_operand kinds.WordData earlier s some = takes_keeping (around_of context) kinds.WordData earlier (takes_integer_operand 2 s) (λ p front rest h. (rw h.1 h.2, λ e. absurd (cc e)))
  takes_operand kinds.DWordData earlier s some = takes_keeping (around_of context) kinds.DWordData earlier (takes_integer_operand 4 s) (λ p front rest h. (rw h.1 h.2, λ e. absurd (cc e)))
  takes_operand kinds.QWordData earlier s some = takes_keeping (around_of context) kinds.QWordData earlier (takes_integer_operand 8 s) (λ p front rest h. (rw h.1 h.2, λ e. absurd (cc e)))
  takes_operand kinds.AsciiCharList earlier s some = takes_keeping (around_of context) kinds.AsciiCharList earlier (takes_text_operand (around_of context) s) (λ p front rest h. (h, λ e. absurd (cc e)))
  takes_operand kinds.TermArg earlier s some = takes_keeping (around_of context) kinds.TermArg earlier (takes_term inner_term inner_takes positions.TermArg scope context s) (λ p front rest h. (rw h.1 h.2, λ e. absurd (cc e)))
  takes_operand kinds.DataObject earlier s some = takes_keeping (around_of context) kinds.DataObject earlier (takes_term inner_term inner_takes positions.DataObject scope context s) (λ p front rest h. (rw h.1 h.2, λ e. absurd (cc e)))
  takes_operand kinds.SuperName earlier s some = takes_keeping (around_of context) kinds.SuperName earlier (takes_super_part inner_term inner_takes scope context s) (λ p front rest h. (h, λ e. absurd (cc e)))
  takes_operand kinds.Target earlier s some = takes_keeping (around_of context) kinds.Target earlier (takes_target inner_term inner_takes scope context s) (λ p front rest h. (h, λ e. absurd (cc e)))
  takes_operand kinds.SimpleName earlier s some = takes_keeping (around_of context) kinds.SimpleName earlier (takes_simple inner_term inner_takes scope context s) (λ p front rest h. (h, λ e. absurd (cc e)))
  takes_operand kinds.TermList earlier s some = takes_keeping (around_of context) kinds.TermList earlier (takes_list inner_term inner_takes positions.ListItem (scope_of scope earlier.path) context s) (λ p front rest h. (rw h.1 h.2, λ _. h.3))
  takes_operand kinds.LoopTermList earlier s some = takes_keeping (around_of context) kinds.LoopTermList earlier (takes_list inner_term inner_takes positions.ListItem (scope_of scope earlier.path) (in_loop context) s) (λ p front rest h. (rw h.1 h.2, λ _. h.3))
  takes_operand kinds.ByteList earlier s some = takes_keeping (around_of context) kinds.ByteList earlier (takes_bytes_operand (around_of context) s) (λ p front rest h. (h.0, λ _. h.1))
  takes_operand kinds.PackageElementList earlier s some =
      takes_keeping (around_of context) kinds.PackageElementList earlier (takes_list inner_term inner_takes positions.PackageElement (scope_of scope earlier.path) context s) (λ p front rest h. (rw h.1 h.2, λ _. h.3))
  takes_operand kinds.FieldList earlier s some = takes_keeping (around_of context) kinds.FieldList earlier (takes_field_list inner_term inner_takes scope context s) (λ p front rest h. (rw h.1 h.2, λ _. h.3))

  rest_taken : (n a b : Bool) → n ≡ false → (if n then false else a || b) ≡ true → (a ≡ true) ⊎ (b ≡ true)
  rest_taken true a b some e = absurd (cc some)
  rest_taken false true b some e = inl refl
  rest_taken false false b some e = inr e

  none_after : (here front rest : List ℕ) → here ≡ [] → here ≡ front ++ rest → rest ≡ []
  none_after here [] rest none is = sym is ∙ none
  none_after here (b ∷ front) rest none is = let both : [] ≡ b ∷ (front ++ rest) = sym none ∙ is in absurd (cc both)

  nothing_taken : (n b : Bool) → n ≡ true → (if n then false else b) ≡ true → ⊥
  nothing_taken true b none e = cc e
  nothing_taken false b none e = cc none

  takes_operands : (ks : List OperandKind) (earlier : Earlier) (s : State)
      → Takes (operands inner_term scope context start ks earlier) s (λ ps front rest. SpellsOperands (around_of context) false (up_to_nothing ks) (parts_of ps) front [] × (some_takes_rest ks ≡ true → rest ≡ []))
  unfolding operands Spells
  takes_operands [] earlier s = takes_give [] ((refl, refl), λ e. absurd (cc e))
  takes_operands (k ∷ ks) earlier s =
      takes_if (is_nothing k) (λ none. takes_give [] (rw (kinds_end k ks none) (refl, refl), λ e. absurd (nothing_taken (is_nothing k) (takes_rest k || some_takes_rest ks) none e)))
      (λ some. takes_then (takes_operand k earlier s some) (λ x f s1 h. takes_map (λ ps. x.0 ∷ ps) (takes_known (takes_operands ks x.1 s1)) (λ ps g rest i.
      (rw (kinds_go_on k ks some) (f, g, refl, h.0, i.1.0), λ e. elim (rest_taken (is_nothing k) (takes_rest k) (some_takes_rest ks) some e) [ inl t ↦ none_after s1.rest g rest (h.1 t) i.0 | inr t ↦ i.1.1 t ]))))

  -- ---- rows

  closed_kinds : (b c : Bool) → (if b then c else true) ≡ true → b ≡ true → c ≡ true
  closed_kinds true c e is = e
  closed_kinds false c e is = absurd (cc is)

  takes_row_operands : (n : ℕ) (row : Row) (s : State) → row_of n ≡ Some row
      → Takes (row_operands inner_term scope context start row) s (λ ps front rest. (content : List ℕ) × IsContent row.2 content front × SpellsOperands (around_of context) false (operand_kinds row.3) (parts_of ps) content [])
  takes_row_operands n row s is = takes_content row.2 _ s (λ s1. takes_more (takes_operands (kinds_of row.3) nothing_earlier s1) (λ ps front rest h. (h.0, λ inside. h.1 (closed_kinds row.2 (some_takes_rest (kinds_of row.3)) (row_is_closed n row is) inside))))

-- the term of a row is spelled so after its opcode
abbrev pub SpellsRow : Around → Row → Relation Tree
SpellsRow around row t front rest = (ps : Parts) × (t ≡ term (codes.Opcode row.0) ps) × (operands : List ℕ) × (later : List ℕ) × (front ≡ operands ++ later) × (content : List ℕ) × IsContent row.2 content operands
    × SpellsOperands around (may_have_else row.0) (operand_kinds row.3) ps content later

with_else : (around : Around) (ks : List OperandKind) (ps : List Part) (e : Part) (content later : List ℕ) → SpellsOperands around false ks (parts_of ps) content [] → SpellsElse around e later → SpellsOperands around true ks (parts_of (ps ++ e ∷ [])) content later
unfolding Spells
with_else around [] [] e content later h i = (h.0, i)
with_else around [] (p ∷ ps) e content later h i = absurd h
with_else around (k ∷ ks) [] e content later h i = absurd h
with_else around (k ∷ ks) (p ∷ ps) e content later h i = (h.0, h.1, h.2, h.3, with_else around ks ps e h.1 later h.4 i)

next_is : (b : ℕ) (bs : List ℕ) → is_next b bs ≡ true → (cs : List ℕ) × (bs ≡ b ∷ cs)
next_is b [] e = absurd (cc e)
next_is b (c ∷ bs) e = (bs, ap (λ d. d ∷ bs) (eqb-true c b e))

module _ (inner_term : Inner) (inner_takes : TermTakes inner_term) (scope : List Seg) where
  takes_else : (context : Context) (bs : List ℕ) (s : State) → s.rest ≡ 0xA1 ∷ bs → Takes (else_term inner_term scope context) s (λ t front rest. Spells (around_of context) after_if t front)
  unfolding else_term Spells
  takes_else context bs s is =
      takes_then (takes_seen is) (λ c f s1 h.
      takes_map _ (takes_content {R = λ (p : Part) (content : List ℕ). (ts : Trees) × (p ≡ list ts) × SpellsAll (around_of context) list_item ts content} true _ s1 (λ s2. takes_more (takes_list inner_term inner_takes positions.ListItem scope context s2) (λ p front rest i. ((i.0, i.1, i.2), λ _. i.3))))
      (λ p g rest i. (packaged opcodes.Else classes.AfterIf (kinds.TermList ∷ []), else_row, refl, 0xA1 ∷ [], g, [], rw (h.0, append-nil) refl, refl, i.0, i.1, (i.0, [], sym (append-nil i.0), rw i.2.1 i.2.2, (refl, refl)))))

  takes_else_operand : (context : Context) (bs : List ℕ) (s : State) → s.rest ≡ 0xA1 ∷ bs → Takes (else_operand inner_term scope context) s (λ p front rest. SpellsElse (around_of context) p front)
  unfolding else_operand Spells
  takes_else_operand context bs s is = takes_map inner (takes_else context bs s is) (λ t front rest h. h)

  takes_else_if : (context : Context) (s : State) (b : Bool) → is_next 0xA1 s.rest ≡ b → Takes (λ t. if b then else_operand inner_term scope context t else (Ok null, t)) s (λ p front rest. SpellsElse (around_of context) p front)
  unfolding give Spells
  takes_else_if context s true is = let next = next_is 0xA1 s.rest is in takes_else_operand context next.0 s next.1
  takes_else_if context s false is = takes_give null refl

  takes_else_part : (context : Context) (start : ℕ) (s : State) → Takes (else_part inner_term scope context start) s (λ p front rest. SpellsElse (around_of context) p front)
  unfolding else_part
  takes_else_part context start s = record { is = λ p s2 e. (takes_else_if (at_else context start s.at) s (is_next 0xA1 s.rest) refl).is p s2 e }

  takes_plain : (context : Context) (start n : ℕ) (row : Row) (s : State) → row_of n ≡ Some row → is_if row.0 ≡ false → Takes (plain_term inner_term scope context start row) s (SpellsRow (around_of context) row)
  unfolding plain_term
  takes_plain context start n row s is no_if = takes_map _ (takes_row_operands inner_term inner_takes scope context start n row s is) (λ ps front rest h.
      (parts_of ps, refl, front, [], sym (append-nil front), h.0, h.1, rw (same_else row.0, no_if) h.2))

  takes_if_term : (context : Context) (start n : ℕ) (row : Row) (s : State) → row_of n ≡ Some row → is_if row.0 ≡ true → Takes (if_term inner_term scope context start row) s (SpellsRow (around_of context) row)
  unfolding if_term
  takes_if_term context start n row s is an_if = takes_then (takes_row_operands inner_term inner_takes scope context start n row s is) (λ ps f s1 h. takes_map _ (takes_else_part context start s1) (λ e g rest i.
      (parts_of (ps ++ e ∷ []), refl, f, g, refl, h.0, h.1, rw (same_else row.0, an_if) (with_else (around_of context) (operand_kinds row.3) ps e h.0 g h.2 i))))

  pub takes_row_term : (context : Context) (start n : ℕ) (row : Row) (s : State) → row_of n ≡ Some row → Takes (row_term inner_term scope context start row) s (SpellsRow (around_of context) row)
  unfolding row_term
  takes_row_term context start n row s is = takes_as refl (takes_if (is_if row.0) (takes_if_term context start n row s is) (takes_plain context start n row s is))
