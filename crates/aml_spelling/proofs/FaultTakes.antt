-- What each operand is spelled by, and the operands of a row, as they are read.
use Rattle.std.proofs.Common.{◌≡◌, ℕ, ◌<◌, ◌≤◌, List, [], ◌∷◌, ◌++◌, length, Bool, true, false, Some, refl, ◌∙◌, sym, ap, arith, ◌⊎◌, inl, inr}
use Rattle.std.specs.Prelude.{◌==◌, ◌||◌, if◌then◌else◌}
use Rattle.std.proofs.lemmas.Bool.{eqb-true}
use Rattle.ar_space.specs.declared.refusal.Refusal.TheVariants as refusals
use Rattle.ar_space.specs.declared.refusal.NameFault.TheVariants.{BadName}
use Rattle.aml_grammar.specs.Names.{starts_name}
use Rattle.aml_path.specs.declared.segment.Seg.{Seg}
use Rattle.aml_grammar.specs.declared.kinds.OperandKind.{OperandKind}
use Rattle.aml_grammar.specs.declared.kinds.OperandKind.TheVariants as kinds
use Rattle.aml_grammar.specs.declared.kinds.Row.{Row}
use Rattle.aml_grammar.specs.declared.context.Position.TheVariants as positions
use Rattle.aml_grammar.specs.declared.context.Context.{Context}
use Rattle.aml_grammar.specs.declared.context.Earlier.{Earlier}
use Rattle.aml_grammar.specs.Table.{row_of}
use Rattle.aml_grammar.specs.Operands.{Read}
use Rattle.aml_grammar.specs.State.{State, Step}
use Rattle.aml_grammar.specs.Tree.{Tree, Part}
use Rattle.aml_grammar.specs.Shape.{parts_of}
use Rattle.aml_grammar.specs.Grammar.{Inner, is_nothing, kinds_of, scope_of, in_loop, nothing_earlier, keeping, connection_at, connection, connect_field, field_at, field, operand, operands, row_operands}
use Rattle.aml_scan.specs.Spelling.{Around, field_element, Begins, IsContent, up_to_nothing, operand_kinds, Spells, SpellsOperands, SpellsConnection, SpellsOperand}
use Rattle.aml_scan.proofs.Takes.{Takes, Relation, takes_stop, takes_peek, takes_seen, takes_then, takes_more, takes_known, takes_map, takes_give, takes_if}
use Rattle.aml_scan.proofs.SpelledNumbers.{takes_content}
use Rattle.aml_scan.proofs.SpelledOperands.{takes_name_operand, takes_scope_name, takes_alias_source, takes_external_name, takes_declared_name, takes_integer_operand, takes_method_flags, takes_object_type, takes_argument_count, takes_text_operand, takes_bytes_operand, takes_reserved_field, takes_access_field, takes_extended_access_field, takes_named_field}
use Rattle.aml_scan.proofs.SpelledParts.{TermTakes, takes_list, takes_term, takes_super_part, takes_target, takes_simple, takes_field_list}
use Rattle.aml_scan.proofs.SpelledRows.{around_of, kinds_end, kinds_go_on, takes_rest, some_takes_rest, row_is_closed}

-- ---- operands

-- an operand is spelled as its kind asks, and some take all that is left
abbrev pub IsOperand : Around → OperandKind → Relation Read
IsOperand around k x front rest = SpellsOperand around k x.0 front × (takes_rest k ≡ true → rest ≡ [])

-- one that leaves nothing for later ones
takes_keeping : {m : Step Part} {s : State} {P : Relation Part} (around : Around) (k : OperandKind) (earlier : Earlier) → Takes m s P → ((p : Part) (front rest : List ℕ) → P p front rest → SpellsOperand around k p front × (takes_rest k ≡ true → rest ≡ [])) → Takes (keeping earlier m) s (IsOperand around k)
takes_keeping around k earlier h i = takes_map (λ p. (p, earlier)) h i

module _ (inner_term : Inner) (inner_takes : TermTakes inner_term) (scope : List Seg) (context : Context) (start : ℕ) where
  pub takes_operand : (k : OperandKind) (earlier : Earlier) (s : State) → is_nothing k ≡ false → Takes (operand inner_term scope context start k earlier) s (IsOperand (around_of context) k)
  unfolding operand Spells
  takes_operand kinds.Nothing earlier s some = absurd (cc some)
  takes_operand kinds.NameString earlier s some = takes_keeping (around_of context) kinds.NameString earlier (takes_name_operand s) (λ p front rest h. (rw h.1 h.2, λ e. absurd (cc e)))
  takes_operand kinds.ScopeName earlier s some = takes_more (takes_scope_name (around_of context) scope earlier s) (λ x front rest h. (h, λ e. absurd (cc e)))
  takes_operand kinds.AliasSource earlier s some = takes_more (takes_alias_source (around_of context) scope earlier s) (λ x front rest h. (h, λ e. absurd (cc e)))
  takes_operand kinds.AliasName earlier s some = takes_more (takes_declared_name scope context start earlier.count earlier s) (λ x front rest h. (rw h.1 h.2, λ e. absurd (cc e)))
  takes_operand kinds.DeclaredName earlier s some = takes_more (takes_declared_name scope context start 0 earlier s) (λ x front rest h. (rw h.1 h.2, λ e. absurd (cc e)))
  takes_operand kinds.MethodFlags earlier s some = takes_more (takes_method_flags (around_of context) context earlier s) (λ x front rest h. (h, λ e. absurd (cc e)))
  takes_operand kinds.ExternalName earlier s some = takes_more (takes_external_name (around_of context) scope earlier s) (λ x front rest h. (h, λ e. absurd (cc e)))
  takes_operand kinds.ObjectType earlier s some = takes_more (takes_object_type (around_of context) earlier s) (λ x front rest h. (h, λ e. absurd (cc e)))
  takes_operand kinds.ArgumentCount earlier s some = takes_more (takes_argument_count (around_of context) context earlier s) (λ x front rest h. (h, λ e. absurd (cc e)))
  takes_operand kinds.ByteData earlier s some = takes_keeping (around_of context) kinds.ByteData earlier (takes_integer_operand 1 s) (λ p front rest h. (rw h.1 h.2, λ e. absurd (cc e)))
  takes_operand kinds.WordData earlier s some = takes_keeping (around_of context) kinds.WordData earlier (takes_integer_operand 2 s) (λ p front rest h. (rw h.1 h.2, λ e. absurd (cc e)))
  takes_operand kinds.DWordData earlier s some = takes_keeping (around_of context) kinds.DWordData earlier (takes_integer_operand 4 s) (λ p front rest h. (rw h.1 h.2, λ e. absurd (cc e)))
  takes_operand kinds.QWordData earlier s some = takes_keeping (around_of context) kinds.QWordData earlier (takes_integer_operand 8 s) (λ p front rest h. (rw h.1 h.2, λ e. absurd (cc e)))
  takes_operand kinds.AsciiCharList earlier s some = takes_keeping (around_of context) kinds.AsciiCharList earlier (takes_text_operand (around_of context) s) (λ p front rest h. (h, λ e. absurd (cc e)))
  takes_operand kinds.TermArg earlier s some = takes_keeping (around_of context) kinds.TermArg earlier (takes_term inner_term inner_takes positions.TermArg scope context s) (λ p front rest h. (rw h.1 h.2, λ e. absurd (cc e)))
  takes_operand kinds.DataObject earlier s some = takes_keeping (around_of context) kinds.DataObject earlier (takes_term inner_term inner_takes positions.DataObject scope context s) (λ p front rest h. (rw h.1 h.2, λ e. absurd (cc e)))
  takes_operand kinds.SuperName earlier s some = takes_keeping (around_of context) kinds.SuperName earlier (takes_super_part inner_term inner_takes scope context s) (λ p front rest h. (h, λ e. absurd (cc e)))
  takes_operand kinds.Target earlier s some = takes_keeping (around_of context) kinds.Target earlier (takes_target inner_term inner_takes scope context s) (λ p front rest h. (h, λ e. absurd (cc e)))
  takes_operand kinds.SimpleName earlier s some = takes_keeping (around_of context) kinds.SimpleName earlier (takes_simple inner_term inner_takes scope context s) (λ p front rest h. (h, λ e. absurd (cc e)))
  takes_operand kinds.TermList earlier s some = takes_keeping (around_of context) kinds.TermList earlier (takes_list inner_term inner_takes positions.ListItem (scope_of scope earlier.path) context s) (λ p front rest h. (rw h.1 h.2, λ _. h.3))
  takes_operand kinds.LoopTermList earlier s some = takes_keeping (around_of context) kinds.LoopTermList earlier (takes_list inner_term inner_takes positions.ListItem (scope_of scope earlier.path) (in_loop context) s) (λ p front rest h. (rw h.1 h.2, λ _. h.3))
  takes_operand kinds.ByteList earlier s some = takes_keeping (around_of context) kinds.ByteList earlier (takes_bytes_operand (around_of context) s) (λ p front rest h. (h.0, λ _. h.1))
  takes_operand kinds.PackageElementList earlier s some =
      takes_keeping (around_of context) kinds.PackageElementList earlier (takes_list inner_term inner_takes positions.PackageElement (scope_of scope earlier.path) context s) (λ p front rest h. (rw h.1 h.2, λ _. h.3))
  takes_operand kinds.FieldList earlier s some = takes_keeping (around_of context) kinds.FieldList earlier (takes_field_list inner_term inner_takes scope context s) (λ p front rest h. (rw h.1 h.2, λ _. h.3))

  rest_taken : (n a b : Bool) → n ≡ false → (if n then false else a || b) ≡ true → (a ≡ true) ⊎ (b ≡ true)
  rest_taken true a b some e = absurd (cc some)
  rest_taken false true b some e = inl refl
  rest_taken false false b some e = inr e

  none_after : (here front rest : List ℕ) → here ≡ [] → here ≡ front ++ rest → rest ≡ []
  none_after here [] rest none is = sym is ∙ none
  none_after here (b ∷ front) rest none is = let both : [] ≡ b ∷ (front ++ rest) = sym none ∙ is in absurd (cc both)

  nothing_taken : (n b : Bool) → n ≡ true → (if n then false else b) ≡ true → ⊥
  nothing_taken true b none e = cc e
  nothing_taken false b none e = cc none

  takes_operands : (ks : List OperandKind) (earlier : Earlier) (s : State)
      → Takes (operands inner_term scope context start ks earlier) s (λ ps front rest. SpellsOperands (around_of context) false (up_to_nothing ks) (parts_of ps) front [] × (some_takes_rest ks ≡ true → rest ≡ []))
  unfolding operands Spells
  takes_operands [] earlier s = takes_give [] ((refl, refl), λ e. absurd (cc e))
  takes_operands (k ∷ ks) earlier s =
      takes_if (is_nothing k) (λ none. takes_give [] (rw (kinds_end k ks none) (refl, refl), λ e. absurd (nothing_taken (is_nothing k) (takes_rest k || some_takes_rest ks) none e)))
      (λ some. takes_then (takes_operand k earlier s some) (λ x f s1 h. takes_map (λ ps. x.0 ∷ ps) (takes_known (takes_operands ks x.1 s1)) (λ ps g rest i.
      (rw (kinds_go_on k ks some) (f, g, refl, h.0, i.1.0), λ e. elim (rest_taken (is_nothing k) (takes_rest k) (some_takes_rest ks) some e) [ inl t ↦ none_after s1.rest g rest (h.1 t) i.0 | inr t ↦ i.1.1 t ]))))

  -- ---- rows

  closed_kinds : (b c : Bool) → (if b then c else true) ≡ true → b ≡ true → c ≡ true
  closed_kinds true c e is = e
  closed_kinds false c e is = absurd (cc is)

  pub takes_row_operands : (n : ℕ) (row : Row) (s : State) → row_of n ≡ Some row
      → Takes (row_operands inner_term scope context start row) s (λ ps front rest. (content : List ℕ) × IsContent row.2 content front × SpellsOperands (around_of context) false (operand_kinds row.3) (parts_of ps) content [])
  takes_row_operands n row s is = takes_content row.2 _ s (λ s1. takes_more (takes_operands (kinds_of row.3) nothing_earlier s1) (λ ps front rest h. (h.0, λ inside. h.1 (closed_kinds row.2 (some_takes_rest (kinds_of row.3)) (row_is_closed n row is) inside))))

-- ---- field elements

begins : {b : ℕ} {bs : List ℕ} (front rest : List ℕ) (low high : ℕ) → front ++ rest ≡ b ∷ bs → 0 < length front → low ≤ b → b ≤ high → Begins low high front
begins [] rest low high is some l h = absurd (omega (arith, some))
begins {b = b} (c ∷ front) rest low high is some l h = let same : c ≡ b = cc is in rw same (l, h)

-- a field element is spelled so, by a byte at least
abbrev OfElement : Around → Relation Tree
OfElement around t front rest = Spells around field_element t front × (0 < length front)

module _ (inner_term : Inner) (inner_takes : TermTakes inner_term) where
  takes_connection_at : (scope : List Seg) (context : Context) (b : ℕ) (bs : List ℕ) (s : State) → s.rest ≡ b ∷ bs → Takes (connection_at inner_term scope context b) s (λ p front rest. SpellsConnection (around_of context) p front)
  unfolding Spells
  takes_connection_at scope context b bs s is = takes_if (starts_name b) (λ _. takes_more (takes_name_operand s) (λ p front rest h. rw h.1 h.2))
      (λ _. takes_if (b == 0x11)
      (λ buffer. takes_more (takes_known (takes_term inner_term inner_takes positions.DataObject scope context s)) (λ p front rest h. rw h.1.1 (begins front rest 0x11 0x11 (sym h.0 ∙ is) h.1.3 (omega (arith, eqb-true b 0x11 buffer)) (omega (arith, eqb-true b 0x11 buffer)), h.1.2)))
      (λ _. takes_stop (refusals.Name BadName)))

  takes_connection : (scope : List Seg) (context : Context) (s : State) → Takes (connection inner_term scope context) s (λ p front rest. SpellsConnection (around_of context) p front)
  unfolding connection
  takes_connection scope context s = takes_peek (λ b bs is. takes_connection_at scope context b bs s is)

  takes_connect_field : (scope : List Seg) (context : Context) (bs : List ℕ) (s : State) → s.rest ≡ 2 ∷ bs → Takes (connect_field inner_term scope context) s (OfElement (around_of context))
  unfolding connect_field Spells
  takes_connect_field scope context bs s is = takes_then (takes_seen is) (λ c f s1 h. takes_map _ (takes_connection scope context s1) (λ p g rest i. rw h.0 ((g, refl, i), omega arith)))

  takes_field_at : (scope : List Seg) (context : Context) (b : ℕ) (bs : List ℕ) (s : State) → s.rest ≡ b ∷ bs → Takes (field_at inner_term scope context b) s (OfElement (around_of context))
  takes_field_at scope context b bs s is =
      let first = λ (c : ℕ) (t : (b == c) ≡ true). is ∙ ap (λ d. d ∷ bs) (eqb-true b c t) in
      takes_if (b == 0) (λ t. takes_reserved_field (around_of context) bs s (first 0 t)) (λ _. takes_if (b == 1) (λ t. takes_access_field (around_of context) bs s (first 1 t)) (λ _. takes_if (b == 2) (λ t. takes_connect_field scope context bs s (first 2 t))
      (λ _. takes_if (b == 3) (λ t. takes_extended_access_field (around_of context) bs s (first 3 t)) (λ _. takes_named_field (around_of context) scope context s))))

  pub takes_field : (scope : List Seg) (context : Context) (s : State) → Takes (field inner_term scope context) s (OfElement (around_of context))
  unfolding field
  takes_field scope context s = takes_peek (λ b bs is. takes_field_at scope context b bs s is)
