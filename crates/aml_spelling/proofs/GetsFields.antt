-- Field elements are read from their spelling.
use Rattle.std.proofs.Common.{◌≡◌, ℕ, List, [], ◌∷◌, ◌++◌, length, false, refl, ◌∙◌, sym, ap, append_assoc, arith}
use Rattle.aml_path.specs.declared.segment.Seg.{Seg}
use Rattle.aml_path.specs.Paths.{Name}
use Rattle.aml_grammar.specs.declared.opcode.TermCode.TheVariants as codes
use Rattle.aml_arities.specs.declared.arities.Arity.{Arity}
use Rattle.aml_grammar.specs.declared.context.Context.{Context}
use Rattle.aml_grammar.specs.State.{State, until_end}
use Rattle.aml_grammar.specs.Tree.{Tree, term, Part, name, number, inner, list, no_parts, part, Trees}
use Rattle.aml_grammar.specs.Shape.{trees_of}
use Rattle.aml_grammar.specs.Grammar.{Inner, connection, connect_field, field, fields, fields_operand}
use Rattle.aml_scan.specs.Spelling.{field_element, Spells, SpellsAll, SpellsConnection}
use Rattle.aml_scan.proofs.SpelledRows.{around_of}
use Rattle.aml_spelling.specs.Stands.{declaring, Stands, StandAll}
use Rattle.aml_spelling.proofs.Gets.{Gets, gets_then, gets_map, gets_value, gets_known, gets_as, gets_no, gets_byte, gets_peek}
use Rattle.aml_spelling.proofs.GetsNames.{seg_begins}
use Rattle.aml_spelling.proofs.GetsOperands.{gets_reserved_field, gets_access_field, gets_extended_access_field, gets_named_field}
use Rattle.aml_spelling.proofs.GetsParts.{TermGets, ItemGets, list_again, gets_until, gets_connection_name, gets_connection_term}
use Rattle.aml_spelling.proofs.RowFacts.{no_field}

module _ (levels : ℕ) (inner_term : Inner) (h : TermGets levels inner_term) (scope : List Seg) (context : Context) where
  gets_connection : (p : Part) (spelling rest : List ℕ) (known after : List Arity) (s : State) → SpellsConnection (around_of context) p spelling → Stands levels scope (around_of context) field_element (term codes.ConnectField (part p no_parts)) known after
      → s.rest ≡ spelling ++ rest → s.arities ≡ known → Gets (connection inner_term scope context) s p rest after
  unfolding Spells Stands
  gets_connection (name n) spelling rest known after s spelled stands is ar = gets_known stands (gets_connection_name levels inner_term h spelling is ar scope context n spelled)
  gets_connection (inner t) spelling rest known after s spelled stands is ar = gets_connection_term levels inner_term h spelling is ar scope context t after spelled.0 spelled.1 stands
  gets_connection p spelling rest known after s spelled stands is ar = absurd spelled

  -- an element is read from its spelling, whatever follows it
  pub gets_element : (t : Tree) (spelling rest : List ℕ) (known after : List Arity) (s : State) → Spells (around_of context) field_element t spelling → Stands levels scope (around_of context) field_element t known after → s.rest ≡ spelling ++ rest → s.arities ≡ known → Gets (field inner_term scope context) s t rest after
  unfolding field connect_field Spells Stands
  gets_element (term codes.NamedField (part (name n) (part (number count) no_parts))) spelling rest known after s spelled stands is ar =
      let k = seg_begins spelled.0 in
      let whole : s.rest ≡ spelled.0.bytes ++ (spelled.2 ++ rest) = is ∙ ap (λ l. l ++ rest) spelled.3 ∙ append_assoc spelled.0.bytes spelled.2 rest in
      gets_known (stands ∙ ap (λ (m : Name). declaring context.body (scope ++ m.segments) 0 false known) spelled.1) (gets_value (ap (λ (m : Name). term codes.NamedField (part (name m) (part (number count) no_parts))) (sym spelled.1))
      (gets_peek _ (whole ∙ ap (λ l. l ++ (spelled.2 ++ rest)) k.2) (gets_no _ k.3 (gets_no _ k.4 (gets_no _ k.5 (gets_no _ k.6 (gets_named_field ar scope context spelled.0 count spelled.2 spelled.4 whole)))))))
  gets_element (term codes.ReservedField (part (number count) no_parts)) spelling rest known after s spelled stands is ar =
      let whole : s.rest ≡ 0 ∷ (spelled.0 ++ rest) = is ∙ ap (λ l. l ++ rest) spelled.1 in
      gets_known stands (gets_peek _ whole (gets_reserved_field ar count spelled.0 spelled.2 whole))
  gets_element (term codes.AccessField (part (number access) (part (number attribute) no_parts))) spelling rest known after s spelled stands is ar =
      let whole : s.rest ≡ 1 ∷ access ∷ attribute ∷ rest = is ∙ ap (λ l. l ++ rest) spelled in
      gets_known stands (gets_peek _ whole (gets_access_field ar access attribute whole))
  gets_element (term codes.ExtendedAccessField (part (number access) (part (number attribute) (part (number count) no_parts)))) spelling rest known after s spelled stands is ar =
      let whole : s.rest ≡ 3 ∷ access ∷ attribute ∷ count ∷ rest = is ∙ ap (λ l. l ++ rest) spelled in
      gets_known stands (gets_peek _ whole (gets_extended_access_field ar access attribute count whole))
  gets_element (term codes.ConnectField (part p no_parts)) spelling rest known after s spelled stands is ar =
      let whole : s.rest ≡ 2 ∷ (spelled.0 ++ rest) = is ∙ ap (λ l. l ++ rest) spelled.1 in
      gets_peek _ whole (gets_then _ (gets_byte whole ar) (λ s1 is1 ar1. gets_map _ (gets_connection p spelled.0 rest known after s1 spelled.2 stands is1 ar1)))
  gets_element (term (codes.Opcode o) ps) spelling rest known after s spelled stands is ar = absurd (no_field (around_of context) spelled.0.1 spelled.2)
  gets_element (term codes.MethodInvocation (part (name n) (part (list ts) no_parts))) spelling rest known after s spelled stands is ar = absurd (cc spelled.0)
  gets_element t spelling rest known after s spelled stands is ar = absurd spelled

  gets_field : ItemGets levels scope (around_of context) field_element (field inner_term scope context)
  gets_field t spelling rest known after s spelled stands more is ar = gets_element t spelling rest known after s spelled stands is ar

  pub field_first : (t : Tree) (spelling : List ℕ) → Spells (around_of context) field_element t spelling → (b : ℕ) × (left : List ℕ) × (spelling ≡ b ∷ left)
  unfolding Spells
  field_first (term codes.NamedField (part (name n) (part (number count) no_parts))) spelling spelled = let k = seg_begins spelled.0 in (k.0, k.1 ++ spelled.2, spelled.3 ∙ ap (λ l. l ++ spelled.2) k.2)
  field_first (term codes.ReservedField (part (number count) no_parts)) spelling spelled = (0, spelled.0, spelled.1)
  field_first (term codes.AccessField (part (number access) (part (number attribute) no_parts))) spelling spelled = (1, access ∷ attribute ∷ [], spelled)
  field_first (term codes.ExtendedAccessField (part (number access) (part (number attribute) (part (number count) no_parts)))) spelling spelled = (3, access ∷ attribute ∷ count ∷ [], spelled)
  field_first (term codes.ConnectField (part p no_parts)) spelling spelled = (2, spelled.0, spelled.1)
  field_first (term (codes.Opcode o) ps) spelling spelled = absurd (no_field (around_of context) spelled.0.1 spelled.2)
  field_first (term codes.MethodInvocation (part (name n) (part (list ts) no_parts))) spelling spelled = absurd (cc spelled.0)
  field_first t spelling spelled = absurd spelled

  pub gets_field_list : (ts : Trees) (spelling : List ℕ) (known after : List Arity) (s : State) → SpellsAll (around_of context) field_element ts spelling → StandAll levels scope (around_of context) field_element ts known after → s.rest ≡ spelling → s.arities ≡ known
      → Gets (fields_operand inner_term scope context) s (list ts) [] after
  unfolding fields_operand fields
  gets_field_list ts spelling known after s spelled stands is ar = gets_value (ap list (list_again ts)) (gets_map (λ us. list (trees_of us))
      (gets_as {n = until_end (field inner_term scope context) (length s.rest)} refl (gets_until levels scope (around_of context) field_element (field inner_term scope context) gets_field field_first (length s.rest) ts spelling known after s (rw is (omega arith)) spelled stands is ar)))
