-- The operands of a row are read from their spelling, and an If with its Else.
use Rattle.std.proofs.Common.{◌≡◌, ℕ, List, [], ◌∷◌, ◌++◌, true, refl, ◌∙◌, sym, ap, append-nil}
use Rattle.aml_path.specs.declared.segment.Seg.{Seg}
use Rattle.aml_grammar.specs.declared.kinds.OperandKind.{OperandKind}
use Rattle.aml_grammar.specs.declared.kinds.OperandKind.TheVariants as kinds
use Rattle.aml_arities.specs.declared.arities.Arity.{Arity}
use Rattle.aml_grammar.specs.declared.context.Position.TheVariants as positions
use Rattle.aml_grammar.specs.declared.context.Context.{Context}
use Rattle.aml_grammar.specs.declared.context.Earlier.{Earlier}
use Rattle.aml_grammar.specs.State.{State, Step}
use Rattle.aml_grammar.specs.Tree.{Part, null, name, number, bytes, inner, list, Parts, no_parts, part}
use Rattle.aml_grammar.specs.Shape.{parts_of}
use Rattle.aml_grammar.specs.Grammar.{Inner, scope_of, in_loop, keeping, target, operand}
use Rattle.aml_scan.specs.Spelling.{Spells, SpellsOperand}
use Rattle.aml_scan.proofs.SpelledRows.{around_of, takes_rest}
use Rattle.aml_spelling.specs.Stands.{Stands, StandsOperand}
use Rattle.aml_spelling.proofs.Gets.{Gets, gets_then, gets_give, gets_map, gets_value, gets_known, gets_rest, gets_byte, gets_peek}
use Rattle.aml_spelling.proofs.GetsOperands.{gets_name_operand, gets_scope_name, gets_alias_source, gets_external_name, gets_declared_name, gets_integer_operand, gets_method_flags, gets_object_type, gets_argument_count, gets_text_operand, gets_bytes_operand}
use Rattle.aml_spelling.proofs.GetsParts.{TermGets, gets_list, gets_term, gets_super_name, gets_super_term, gets_target_name, gets_target_term, gets_simple_by_name, gets_simple_term}
use Rattle.aml_spelling.proofs.GetsFields.{gets_field_list}

-- ---- lists of operands

abbrev pub part_list : Parts → List Part
part_list no_parts = []
part_list (part p ps) = p ∷ part_list ps

pub parts_again : (ps : Parts) → parts_of (part_list ps) ≡ ps
parts_again no_parts = refl
parts_again (part p ps) = ap (λ qs. part p qs) (parts_again ps)

-- an operand that leaves nothing for later ones
gets_keeping : {m : Step Part} {s : State} {p : Part} {rest : List ℕ} {known : List Arity} (earlier later : Earlier) → later ≡ earlier → Gets m s p rest known → Gets (keeping earlier m) s (p, later) rest known
gets_keeping {p = p} earlier later same h = gets_value (ap (λ (e : Earlier). (p, e)) (sym same)) (gets_map (λ q. (q, earlier)) h)

module _ (levels : ℕ) (inner_term : Inner) (h : TermGets levels inner_term) (scope : List Seg) (context : Context) (start : ℕ) where
  gets_nowhere : {s : State} {spelling rest : List ℕ} {known : List Arity} → spelling ≡ 0 ∷ [] → s.rest ≡ spelling ++ rest → s.arities ≡ known → Gets (target inner_term scope context) s null rest known
  unfolding target
  gets_nowhere {s = s} {rest = rest} spelled is ar =
      let whole : s.rest ≡ 0 ∷ rest = is ∙ ap (λ l. l ++ rest) spelled in
      gets_peek _ whole (gets_then _ (gets_byte whole ar) (λ s1 is1 ar1. gets_give null is1 ar1))

  pub gets_operand : (k : OperandKind) (p : Part) (earlier later : Earlier) (spelling rest : List ℕ) (known after : List Arity) (s : State) → SpellsOperand (around_of context) k p spelling → StandsOperand levels scope (around_of context) k p earlier known later after
      → (takes_rest k ≡ true → rest ≡ []) → s.rest ≡ spelling ++ rest → s.arities ≡ known → Gets (operand inner_term scope context start k earlier) s (p, later) rest after
  unfolding operand Spells Stands
  gets_operand kinds.NameString (name n) earlier later spelling rest known after s spelled stands closed is ar = gets_keeping earlier later stands.0 (gets_known stands.1 (gets_name_operand n spelling spelled is ar))
  gets_operand kinds.ScopeName (name n) earlier later spelling rest known after s spelled stands closed is ar =
      gets_known stands.3 (gets_value (ap (λ (e : Earlier). (name n, e)) (sym stands.2)) (gets_scope_name n spelling spelled is ar scope earlier stands.0 stands.1))
  gets_operand kinds.AliasSource (name n) earlier later spelling rest known after s spelled stands closed is ar =
      gets_known stands.3 (gets_value (ap (λ (e : Earlier). (name n, e)) (sym stands.2)) (gets_alias_source n spelling spelled is ar scope earlier stands.0 stands.1))
  gets_operand kinds.ExternalName (name n) earlier later spelling rest known after s spelled stands closed is ar =
      gets_known stands.3 (gets_value (ap (λ (e : Earlier). (name n, e)) (sym stands.2)) (gets_external_name n spelling spelled is ar scope earlier stands.0 stands.1))
  gets_operand kinds.AliasName (name n) earlier later spelling rest known after s spelled stands closed is ar =
      gets_known stands.3 (gets_value (ap (λ (e : Earlier). (name n, e)) (sym stands.2)) (gets_declared_name n spelling spelled is ar scope context start earlier.count earlier stands.0 stands.1))
  gets_operand kinds.DeclaredName (name n) earlier later spelling rest known after s spelled stands closed is ar =
      gets_known stands.3 (gets_value (ap (λ (e : Earlier). (name n, e)) (sym stands.2)) (gets_declared_name n spelling spelled is ar scope context start 0 earlier stands.0 stands.1))
  gets_operand kinds.MethodFlags (number n) earlier later spelling rest known after s spelled stands closed is ar =
      gets_known stands.1 (gets_value (ap (λ (e : Earlier). (number n, e)) (sym stands.0)) (gets_method_flags ar context earlier n (is ∙ ap (λ l. l ++ rest) spelled)))
  gets_operand kinds.ObjectType (number n) earlier later spelling rest known after s spelled stands closed is ar =
      gets_known stands.1 (gets_value (ap (λ (e : Earlier). (number n, e)) (sym stands.0)) (gets_object_type ar earlier n (is ∙ ap (λ l. l ++ rest) spelled)))
  gets_operand kinds.ArgumentCount (number n) earlier later spelling rest known after s spelled stands closed is ar =
      gets_known stands.1 (gets_value (ap (λ (e : Earlier). (number n, e)) (sym stands.0)) (gets_argument_count ar context earlier n (is ∙ ap (λ l. l ++ rest) spelled)))
  gets_operand kinds.ByteData (number n) earlier later spelling rest known after s spelled stands closed is ar = gets_keeping earlier later stands.0 (gets_known stands.1 (gets_integer_operand ar 1 n spelling spelled is))
  gets_operand kinds.WordData (number n) earlier later spelling rest known after s spelled stands closed is ar = gets_keeping earlier later stands.0 (gets_known stands.1 (gets_integer_operand ar 2 n spelling spelled is))
  gets_operand kinds.DWordData (number n) earlier later spelling rest known after s spelled stands closed is ar = gets_keeping earlier later stands.0 (gets_known stands.1 (gets_integer_operand ar 4 n spelling spelled is))
  gets_operand kinds.QWordData (number n) earlier later spelling rest known after s spelled stands closed is ar = gets_keeping earlier later stands.0 (gets_known stands.1 (gets_integer_operand ar 8 n spelling spelled is))
  gets_operand kinds.AsciiCharList (bytes bs) earlier later spelling rest known after s spelled stands closed is ar = gets_keeping earlier later stands.0 (gets_known stands.1 (gets_text_operand ar bs spelled.1 (is ∙ ap (λ l. l ++ rest) spelled.0)))
  gets_operand kinds.ByteList (bytes bs) earlier later spelling rest known after s spelled stands closed is ar =
      gets_keeping earlier later stands.0 (gets_known stands.1 (gets_rest (sym (closed refl)) (gets_bytes_operand (is ∙ ap (λ r. spelling ++ r) (closed refl) ∙ append-nil spelling ∙ spelled) ar)))
  gets_operand kinds.TermArg (inner t) earlier later spelling rest known after s spelled stands closed is ar = gets_keeping earlier later stands.0 (gets_term levels inner_term h spelling is ar positions.TermArg scope context t after spelled stands.1 tt)
  gets_operand kinds.DataObject (inner t) earlier later spelling rest known after s spelled stands closed is ar = gets_keeping earlier later stands.0 (gets_term levels inner_term h spelling is ar positions.DataObject scope context t after spelled stands.1 tt)
  gets_operand kinds.SuperName (name n) earlier later spelling rest known after s spelled stands closed is ar = gets_keeping earlier later stands.0 (gets_known stands.1 (gets_super_name levels inner_term h spelling is ar scope context n spelled))
  gets_operand kinds.SuperName (inner t) earlier later spelling rest known after s spelled stands closed is ar = gets_keeping earlier later stands.0 (gets_super_term levels inner_term h spelling is ar scope context t after spelled stands.1)
  gets_operand kinds.SimpleName (name n) earlier later spelling rest known after s spelled stands closed is ar = gets_keeping earlier later stands.0 (gets_known stands.1 (gets_simple_by_name levels inner_term h spelling is ar scope context n spelled))
  gets_operand kinds.SimpleName (inner t) earlier later spelling rest known after s spelled stands closed is ar =
      gets_keeping earlier later stands.0 (gets_simple_term levels inner_term h spelling is ar scope context t after spelled.0 spelled.1 stands.1)
  gets_operand kinds.Target null earlier later spelling rest known after s spelled stands closed is ar = gets_keeping earlier later stands.0 (gets_known stands.1 (gets_nowhere spelled is ar))
  gets_operand kinds.Target (name n) earlier later spelling rest known after s spelled stands closed is ar = gets_keeping earlier later stands.0 (gets_known stands.1 (gets_target_name levels inner_term h spelling is ar scope context n spelled))
  gets_operand kinds.Target (inner t) earlier later spelling rest known after s spelled stands closed is ar = gets_keeping earlier later stands.0 (gets_target_term levels inner_term h spelling is ar scope context t after spelled stands.1)
  gets_operand kinds.TermList (list ts) earlier later spelling rest known after s spelled stands closed is ar =
      gets_keeping earlier later stands.0 (gets_rest (sym (closed refl)) (gets_list levels inner_term h positions.ListItem (scope_of scope earlier.path) context ts spelling known after s spelled stands.1 (is ∙ ap (λ r. spelling ++ r) (closed refl) ∙ append-nil spelling) ar))
  gets_operand kinds.LoopTermList (list ts) earlier later spelling rest known after s spelled stands closed is ar =
      gets_keeping earlier later stands.0 (gets_rest (sym (closed refl)) (gets_list levels inner_term h positions.ListItem (scope_of scope earlier.path) (in_loop context) ts spelling known after s spelled stands.1 (is ∙ ap (λ r. spelling ++ r) (closed refl) ∙ append-nil spelling) ar))
  gets_operand kinds.PackageElementList (list ts) earlier later spelling rest known after s spelled stands closed is ar =
      gets_keeping earlier later stands.0 (gets_rest (sym (closed refl)) (gets_list levels inner_term h positions.PackageElement (scope_of scope earlier.path) context ts spelling known after s spelled stands.1 (is ∙ ap (λ r. spelling ++ r) (closed refl) ∙ append-nil spelling) ar))
  gets_operand kinds.FieldList (list ts) earlier later spelling rest known after s spelled stands closed is ar =
      gets_keeping earlier later stands.0 (gets_rest (sym (closed refl)) (gets_field_list levels inner_term h scope context ts spelling known after s spelled stands.1 (is ∙ ap (λ r. spelling ++ r) (closed refl) ∙ append-nil spelling) ar))
  gets_operand k p earlier later spelling rest known after s spelled stands closed is ar = absurd spelled
