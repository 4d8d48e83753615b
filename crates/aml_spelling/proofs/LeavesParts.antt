-- Operands that hold terms may stand where they are read, where the terms may.
use Rattle.std.proofs.Common.{◌≡◌, ℕ, zero, suc, List, [], ◌∷◌, length, refl, ◌⊎◌, inl, inr}
use Rattle.std.specs.Prelude.{◌==◌, ◌||◌}
use Rattle.ar_space.specs.declared.refusal.Refusal.TheVariants as refusals
use Rattle.ar_space.specs.declared.refusal.NameFault.TheVariants.{BadName}
use Rattle.ar_space.specs.declared.refusal.TermFault.TheVariants.{BadOpcode}
use Rattle.ar_space.specs.Change.{give}
use Rattle.aml_path.specs.declared.segment.Seg.{Seg}
use Rattle.aml_path.specs.Paths.{Name}
use Rattle.aml_grammar.specs.declared.opcode.TermCode.TheVariants as codes
use Rattle.aml_grammar.specs.declared.kinds.OperandKind.{OperandKind}
use Rattle.aml_grammar.specs.declared.kinds.OperandKind.TheVariants as kinds
use Rattle.aml_arities.specs.declared.arities.Arity.{Arity}
use Rattle.aml_grammar.specs.declared.context.Position.{Position}
use Rattle.aml_grammar.specs.declared.context.Position.TheVariants as positions
use Rattle.aml_grammar.specs.declared.context.Context.{Context}
use Rattle.aml_grammar.specs.declared.context.Earlier.{Earlier}
use Rattle.aml_grammar.specs.Names.{starts_name}
use Rattle.aml_grammar.specs.State.{State, Step, until_of, until_end}
use Rattle.aml_grammar.specs.Tree.{Tree, term, Part, null, name, inner, list, no_parts, part, Trees}
use Rattle.aml_grammar.specs.Shape.{trees_of}
use Rattle.aml_grammar.specs.Grammar.{Inner, is_slot, scope_of, in_loop, keeping, items, term_operand, list_operand, super_name as super_name_step, target, simple_name, connection, connect_field, field, fields, fields_operand, operand}
use Rattle.aml_scan.specs.Spelling.{Around, Place, super_name, field_element}
use Rattle.aml_scan.proofs.SpelledRows.{around_of, place_of}
use Rattle.aml_spelling.specs.Stands.{Stands, StandAll, StandsOperand}
use Rattle.aml_spelling.proofs.Leaves.{Effect, Leaves, leaves_then, leaves_after, leaves_more, leaves_as, leaves_give, leaves_map, leaves_stop, leaves_look, leaves_if, leaves_byte, leaves_peek}
use Rattle.aml_spelling.proofs.LeavesOperands.{OperandStands, ElementStands, leaves_name_operand, leaves_scope_name, leaves_alias_source, leaves_external_name, leaves_object_type, leaves_declared_name, leaves_method_flags, leaves_argument_count, leaves_integer_operand, leaves_text_operand, leaves_bytes_operand, leaves_reserved_field, leaves_access_field, leaves_extended_access_field, leaves_named_field}

-- terms that are read may stand, with so many levels left
abbrev pub TermLeaves : ℕ → Inner → Type 0
TermLeaves levels inner_term = (position : Position) (scope : List Seg) (context : Context) (s : State) → Leaves (inner_term position scope context) s (λ t known after. Stands levels scope (around_of context) (place_of position) t known after)

-- ---- lists

module _ (levels : ℕ) (scope : List Seg) (around : Around) (place : Place) (m : Step Tree) (h : (s : State) → Leaves m s (λ t known after. Stands levels scope around place t known after)) where
  until_of_leaves : (more : Step (List Tree)) → ((s : State) → Leaves more s (λ ts known after. StandAll levels scope around place (trees_of ts) known after)) → (rs : List ℕ) (s : State) → Leaves (until_of m more rs) s (λ ts known after. StandAll levels scope around place (trees_of ts) known after)
  unfolding Stands
  until_of_leaves more i [] s = leaves_give [] refl
  until_of_leaves more i (b ∷ rs) s = leaves_then (h s) (λ t s1 p. leaves_then (i s1) (λ ts s2 q. leaves_give (t ∷ ts) (s1.arities, p, q)))

  pub leaves_until : (n : ℕ) (s : State) → Leaves (until_end m n) s (λ ts known after. StandAll levels scope around place (trees_of ts) known after)
  unfolding until_end give Stands
  leaves_until zero s = leaves_as {n = give []} refl (leaves_give [] refl)
  leaves_until (suc n) s = leaves_as {n = until_of m (until_end m n) s.rest} refl (until_of_leaves (until_end m n) (leaves_until n) s.rest s)

-- a name, or a term that may stand as a place
abbrev SuperStands : ℕ → List Seg → Around → Effect Part
SuperStands levels scope around p known after = ((n : Name) × (p ≡ name n) × (after ≡ known)) ⊎ ((t : Tree) × (p ≡ inner t) × Stands levels scope around super_name t known after)

module _ (levels : ℕ) (scope : List Seg) (around : Around) (earlier : Earlier) where
  super_stands : (p : Part) (known after : List Arity) → SuperStands levels scope around p known after → StandsOperand levels scope around kinds.SuperName p earlier known earlier after
  unfolding Stands
  super_stands p known after (inl h) = rw h.1 (refl, h.2)
  super_stands p known after (inr h) = rw h.1 (refl, h.2)

  target_stands : (p : Part) (known after : List Arity) → SuperStands levels scope around p known after → StandsOperand levels scope around kinds.Target p earlier known earlier after
  unfolding Stands
  target_stands p known after (inl h) = rw h.1 (refl, h.2)
  target_stands p known after (inr h) = rw h.1 (refl, h.2)

  simple_stands : (p : Part) (known after : List Arity) → SuperStands levels scope around p known after → StandsOperand levels scope around kinds.SimpleName p earlier known earlier after
  unfolding Stands
  simple_stands p known after (inl h) = rw h.1 (refl, h.2)
  simple_stands p known after (inr h) = rw h.1 (refl, h.2)

module _ (levels : ℕ) (inner_term : Inner) (h : TermLeaves levels inner_term) where
  pub leaves_items : (position : Position) (scope : List Seg) (context : Context) (s : State) → Leaves (items inner_term position scope context) s (λ ts known after. StandAll levels scope (around_of context) (place_of position) (trees_of ts) known after)
  unfolding items
  leaves_items position scope context s = leaves_as refl (leaves_until levels scope (around_of context) (place_of position) (inner_term position scope context) (h position scope context) (length s.rest) s)

  pub leaves_list : (position : Position) (scope : List Seg) (context : Context) (s : State) → Leaves (list_operand inner_term position scope context) s (λ p known after. (ts : Trees) × (p ≡ list ts) × StandAll levels scope (around_of context) (place_of position) ts known after)
  unfolding list_operand
  leaves_list position scope context s = leaves_map _ (leaves_items position scope context s) (λ ts known after p. (trees_of ts, refl, p))

  leaves_term : (position : Position) (scope : List Seg) (context : Context) (s : State) → Leaves (term_operand inner_term position scope context) s (λ p known after. (t : Tree) × (p ≡ inner t) × Stands levels scope (around_of context) (place_of position) t known after)
  unfolding term_operand
  leaves_term position scope context s = leaves_map inner (h position scope context s) (λ t known after p. (t, refl, p))

  -- ---- places

  leaves_super : (scope : List Seg) (context : Context) (s : State) → Leaves (super_name_step inner_term scope context) s (SuperStands levels scope (around_of context))
  unfolding super_name_step
  leaves_super scope context s = leaves_peek (λ b. leaves_if (b == 0) (λ _. leaves_stop (refusals.Name BadName)) (λ _. leaves_if (starts_name b) (λ _. leaves_more (leaves_name_operand s) (λ p known after i. inl i))
      (λ _. leaves_more (leaves_term positions.SuperName scope context s) (λ p known after i. inr i))))

  leaves_target : (scope : List Seg) (context : Context) (earlier : Earlier) (s : State) → Leaves (target inner_term scope context) s (λ p known after. StandsOperand levels scope (around_of context) kinds.Target p earlier known earlier after)
  unfolding target Stands
  leaves_target scope context earlier s = leaves_peek (λ b. leaves_if (b == 0) (λ _. leaves_after (leaves_byte s) (λ c s1. leaves_give null (refl, refl))) (λ _. leaves_more (leaves_super scope context s) (target_stands levels scope (around_of context) earlier)))

  leaves_simple : (scope : List Seg) (context : Context) (earlier : Earlier) (s : State) → Leaves (simple_name inner_term scope context) s (λ p known after. StandsOperand levels scope (around_of context) kinds.SimpleName p earlier known earlier after)
  unfolding simple_name
  leaves_simple scope context earlier s = leaves_look (λ s. s.at) _ (leaves_peek (λ b. leaves_if (b == 0 || starts_name b || is_slot b) (λ _. leaves_more (leaves_super scope context s) (simple_stands levels scope (around_of context) earlier)) (λ _. leaves_stop (refusals.Term BadOpcode s.at))))

  -- ---- field elements

  leaves_connection : (scope : List Seg) (context : Context) (s : State) → Leaves (connection inner_term scope context) s (λ p known after. ElementStands levels scope (around_of context) (term codes.ConnectField (part p no_parts)) known after)
  unfolding connection Stands
  leaves_connection scope context s = leaves_peek (λ b. leaves_if (starts_name b) (λ _. leaves_more (leaves_name_operand s) (λ p known after i. rw i.1 i.2))
      (λ _. leaves_if (b == 0x11) (λ _. leaves_more (leaves_term positions.DataObject scope context s) (λ p known after i. rw i.1 i.2)) (λ _. leaves_stop (refusals.Name BadName))))

  pub leaves_field : (scope : List Seg) (context : Context) (s : State) → Leaves (field inner_term scope context) s (ElementStands levels scope (around_of context))
  unfolding field connect_field
  leaves_field scope context s = leaves_peek (λ b. leaves_if (b == 0) (λ _. leaves_reserved_field levels scope (around_of context) s) (λ _. leaves_if (b == 1) (λ _. leaves_access_field levels scope (around_of context) s)
      (λ _. leaves_if (b == 2) (λ _. leaves_after (leaves_byte s) (λ code s1. leaves_map _ (leaves_connection scope context s1) (λ p known after i. i)))
      (λ _. leaves_if (b == 3) (λ _. leaves_extended_access_field levels scope (around_of context) s) (λ _. leaves_named_field levels scope context s)))))

  leaves_field_list : (scope : List Seg) (context : Context) (s : State) → Leaves (fields_operand inner_term scope context) s (λ p known after. (ts : Trees) × (p ≡ list ts) × StandAll levels scope (around_of context) field_element ts known after)
  unfolding fields_operand fields
  leaves_field_list scope context s = leaves_map _ (leaves_as {n = until_end (field inner_term scope context) (length s.rest)} refl (leaves_until levels scope (around_of context) field_element (field inner_term scope context) (leaves_field scope context) (length s.rest) s))
      (λ ts known after p. (trees_of ts, refl, p))

  -- ---- operands

  leaves_keeping : (scope : List Seg) (around : Around) (k : OperandKind) (earlier : Earlier) {m : Step Part} {s : State} {P : Effect Part} → Leaves m s P → ((p : Part) (known after : List Arity) → P p known after → StandsOperand levels scope around k p earlier known earlier after)
      → Leaves (keeping earlier m) s (OperandStands levels scope around k earlier)
  leaves_keeping scope around k earlier i j = leaves_map (λ p. (p, earlier)) i j

  pub leaves_operand : (scope : List Seg) (context : Context) (start : ℕ) (k : OperandKind) (earlier : Earlier) (s : State) → Leaves (operand inner_term scope context start k earlier) s (OperandStands levels scope (around_of context) k earlier)
  unfolding operand Stands
  leaves_operand scope context start kinds.Nothing earlier s = leaves_give _ (refl, refl)
  leaves_operand scope context start kinds.NameString earlier s = leaves_keeping scope (around_of context) kinds.NameString earlier (leaves_name_operand s) (λ p known after i. (refl, i.2))
  leaves_operand scope context start kinds.ScopeName earlier s = leaves_scope_name levels scope (around_of context) earlier s
  leaves_operand scope context start kinds.AliasSource earlier s = leaves_alias_source levels scope (around_of context) earlier s
  leaves_operand scope context start kinds.AliasName earlier s = leaves_more (leaves_declared_name levels scope context earlier s start earlier.count) (λ x known after i. rw i.1 (i.2, i.3, i.4, i.5))
  leaves_operand scope context start kinds.DeclaredName earlier s = leaves_more (leaves_declared_name levels scope context earlier s start 0) (λ x known after i. rw i.1 (i.2, i.3, i.4, i.5))
  leaves_operand scope context start kinds.MethodFlags earlier s = leaves_method_flags levels scope context earlier s
  leaves_operand scope context start kinds.ExternalName earlier s = leaves_external_name levels scope (around_of context) earlier s
  leaves_operand scope context start kinds.ObjectType earlier s = leaves_object_type levels scope (around_of context) earlier s
  leaves_operand scope context start kinds.ArgumentCount earlier s = leaves_argument_count levels scope context earlier s
  leaves_operand scope context start kinds.ByteData earlier s = leaves_keeping scope (around_of context) kinds.ByteData earlier (leaves_integer_operand 1 s) (λ p known after i. (refl, i.2))
  leaves_operand scope context start kinds.WordData earlier s = leaves_keeping scope (around_of context) kinds.WordData earlier (leaves_integer_operand 2 s) (λ p known after i. (refl, i.2))
  leaves_operand scope context start kinds.DWordData earlier s = leaves_keeping scope (around_of context) kinds.DWordData earlier (leaves_integer_operand 4 s) (λ p known after i. (refl, i.2))
  leaves_operand scope context start kinds.QWordData earlier s = leaves_keeping scope (around_of context) kinds.QWordData earlier (leaves_integer_operand 8 s) (λ p known after i. (refl, i.2))
  leaves_operand scope context start kinds.AsciiCharList earlier s = leaves_keeping scope (around_of context) kinds.AsciiCharList earlier (leaves_text_operand s) (λ p known after i. (refl, i.2))
  leaves_operand scope context start kinds.TermArg earlier s = leaves_keeping scope (around_of context) kinds.TermArg earlier (leaves_term positions.TermArg scope context s) (λ p known after i. rw i.1 (refl, i.2))
  leaves_operand scope context start kinds.DataObject earlier s = leaves_keeping scope (around_of context) kinds.DataObject earlier (leaves_term positions.DataObject scope context s) (λ p known after i. rw i.1 (refl, i.2))
  leaves_operand scope context start kinds.SuperName earlier s = leaves_keeping scope (around_of context) kinds.SuperName earlier (leaves_super scope context s) (super_stands levels scope (around_of context) earlier)
  leaves_operand scope context start kinds.Target earlier s = leaves_keeping scope (around_of context) kinds.Target earlier (leaves_target scope context earlier s) (λ p known after i. i)
  leaves_operand scope context start kinds.SimpleName earlier s = leaves_keeping scope (around_of context) kinds.SimpleName earlier (leaves_simple scope context earlier s) (λ p known after i. i)
  leaves_operand scope context start kinds.TermList earlier s = leaves_keeping scope (around_of context) kinds.TermList earlier (leaves_list positions.ListItem (scope_of scope earlier.path) context s) (λ p known after i. rw i.1 (refl, i.2))
  leaves_operand scope context start kinds.LoopTermList earlier s = leaves_keeping scope (around_of context) kinds.LoopTermList earlier (leaves_list positions.ListItem (scope_of scope earlier.path) (in_loop context) s) (λ p known after i. rw i.1 (refl, i.2))
  leaves_operand scope context start kinds.ByteList earlier s = leaves_keeping scope (around_of context) kinds.ByteList earlier (leaves_bytes_operand s) (λ p known after i. (refl, i.2))
  leaves_operand scope context start kinds.PackageElementList earlier s = leaves_keeping scope (around_of context) kinds.PackageElementList earlier (leaves_list positions.PackageElement (scope_of scope earlier.path) context s) (λ p known after i. rw i.1 (refl, i.2))
  leaves_operand scope context start kinds.FieldList earlier s = leaves_keeping scope (around_of context) kinds.FieldList earlier (leaves_field_list scope context s) (λ p known after i. rw i.1 (refl, i.2))
