-- Operands and field elements that hold terms are read as they are spelled, where the terms are.
use Rattle.std.proofs.Common.{◌≡◌, ℕ, ◌<◌, ◌≤◌, List, [], ◌∷◌, ◌++◌, length, Bool, true, false, refl, ◌∙◌, sym, ap, arith, ◌⊎◌, inl, inr}
use Rattle.std.specs.Prelude.{◌==◌, ◌||◌}
use Rattle.std.proofs.lemmas.Bool.{eqb-true}
use Rattle.ar_space.specs.declared.refusal.Refusal.TheVariants as refusals
use Rattle.ar_space.specs.declared.refusal.NameFault.TheVariants.{BadName}
use Rattle.ar_space.specs.declared.refusal.TermFault.TheVariants.{BadOpcode}
use Rattle.aml_path.specs.declared.segment.Seg.{Seg}
use Rattle.aml_path.specs.Paths.{Name}
use Rattle.aml_grammar.specs.declared.kinds.OperandKind.TheVariants as kinds
use Rattle.aml_grammar.specs.declared.context.Position.{Position}
use Rattle.aml_grammar.specs.declared.context.Position.TheVariants as positions
use Rattle.aml_grammar.specs.declared.context.Context.{Context}
use Rattle.aml_grammar.specs.Names.{starts_name}
use Rattle.aml_grammar.specs.State.{State}
use Rattle.aml_grammar.specs.Tree.{Tree, Part, null, name, inner, list, Trees}
use Rattle.aml_grammar.specs.Shape.{trees_of}
use Rattle.aml_grammar.specs.Grammar.{Inner, is_slot, items, term_operand, list_operand, super_name_at, super_name as super_name_step, target_at, target, simple_name_at, simple_name, connection_at, connection, connect_field, field_at, field, fields, fields_operand}
use Rattle.aml_scan.specs.Spelling.{Around, Place, super_name, field_element, Begins, IsNameString, Spells, SpellsAll, SpellsConnection, SpellsOperand}
use Rattle.aml_scan.proofs.Takes.{Takes, Relation, takes_as, takes_then, takes_more, takes_known, takes_map, takes_give, takes_stop, takes_look, takes_if, takes_peek, takes_peeked, takes_seen, Each, takes_until}
use Rattle.aml_scan.proofs.SpelledNames.{takes_skipping}
use Rattle.aml_scan.proofs.SpelledOperands.{takes_name_operand, IsElement, takes_reserved_field, takes_access_field, takes_extended_access_field, takes_named_field}
use Rattle.aml_scan.proofs.SpelledRows.{around_of, place_of}

-- a term one level below is spelled so, by a byte at least
abbrev pub TermTakes : Inner → Type 0
TermTakes inner_term = (position : Position) (scope : List Seg) (context : Context) (s : State) → Takes (inner_term position scope context) s (λ t front rest. Spells (around_of context) (place_of position) t front × (0 < length front))

pub each_all : (around : Around) (place : Place) (ts : List Tree) (spelling : List ℕ) → Each (λ t front. Spells around place t front) ts spelling → SpellsAll around place (trees_of ts) spelling
unfolding Spells
each_all around place [] spelling h = h
each_all around place (t ∷ ts) spelling h = (h.0, h.1, h.2, h.3, each_all around place ts h.1 h.4)

begins : {b : ℕ} {bs : List ℕ} (front rest : List ℕ) (low high : ℕ) → front ++ rest ≡ b ∷ bs → 0 < length front → low ≤ b → b ≤ high → Begins low high front
begins [] rest low high is some l h = absurd (omega (arith, some))
begins {b = b} (c ∷ front) rest low high is some l h = let same : c ≡ b = cc is in rw same (l, h)

slot_byte : (b : ℕ) → is_slot b ≡ true → (0x60 ≤ b) × (b ≤ 0x6E)
unfolding is_slot
slot_byte b is = grind arith

only_last : (x y z : Bool) → (x || y || z) ≡ true → x ≡ false → y ≡ false → z ≡ true
only_last true y z e f g = absurd (cc f)
only_last false true z e f g = absurd (cc g)
only_last false false z e f g = e

-- a name, or a term that begins with another byte than a name
abbrev IsSuper : Around → ℕ → Relation Part
IsSuper around b p front rest = ((n : Name) × (p ≡ name n) × IsNameString n front) ⊎ ((t : Tree) × (p ≡ inner t) × Spells around super_name t front × (0 < length front) × ((b == 0) ≡ false) × (starts_name b ≡ false))

super_part : (around : Around) (b : ℕ) (p : Part) (front rest : List ℕ) → IsSuper around b p front rest → SpellsOperand around kinds.SuperName p front
unfolding Spells
super_part around b p front rest (inl h) = rw h.1 h.2
super_part around b p front rest (inr h) = rw h.1 h.2

target_part : (around : Around) (b : ℕ) (p : Part) (front rest : List ℕ) → IsSuper around b p front rest → SpellsOperand around kinds.Target p front
unfolding Spells
target_part around b p front rest (inl h) = rw h.1 h.2
target_part around b p front rest (inr h) = rw h.1 h.2

simple_part : (around : Around) (b : ℕ) (p : Part) (front rest bs : List ℕ) → (b == 0 || starts_name b || is_slot b) ≡ true → front ++ rest ≡ b ∷ bs → IsSuper around b p front rest → SpellsOperand around kinds.SimpleName p front
unfolding Spells
simple_part around b p front rest bs one is (inl h) = rw h.1 h.2
simple_part around b p front rest bs one is (inr h) = let range = slot_byte b (only_last (b == 0) (starts_name b) (is_slot b) one h.4 h.5) in rw h.1 (begins front rest 0x60 0x6E is h.3 range.0 range.1, h.2)

module _ (inner_term : Inner) (inner_takes : TermTakes inner_term) where
  pub takes_items : (position : Position) (scope : List Seg) (context : Context) (s : State) → Takes (items inner_term position scope context) s (λ ts front rest. SpellsAll (around_of context) (place_of position) (trees_of ts) front × (rest ≡ []))
  unfolding items
  takes_items position scope context s = takes_as refl (takes_more (takes_until (inner_term position scope context) (inner_takes position scope context) (length s.rest) s (omega arith)) (λ ts front rest h. (each_all (around_of context) (place_of position) ts front h.0, h.1)))

  pub takes_list : (position : Position) (scope : List Seg) (context : Context) (s : State) → Takes (list_operand inner_term position scope context) s (λ p front rest. (ts : Trees) × (p ≡ list ts) × SpellsAll (around_of context) (place_of position) ts front × (rest ≡ []))
  unfolding list_operand
  takes_list position scope context s = takes_map _ (takes_items position scope context s) (λ ts front rest h. (trees_of ts, refl, h.0, h.1))

  pub takes_term : (position : Position) (scope : List Seg) (context : Context) (s : State) → Takes (term_operand inner_term position scope context) s (λ p front rest. (t : Tree) × (p ≡ inner t) × Spells (around_of context) (place_of position) t front × (0 < length front))
  unfolding term_operand
  takes_term position scope context s = takes_map inner (inner_takes position scope context s) (λ t front rest h. (t, refl, h.0, h.1))

  -- ---- places

  takes_super_at : (scope : List Seg) (context : Context) (b : ℕ) (s : State) → Takes (super_name_at inner_term scope context b) s (IsSuper (around_of context) b)
  takes_super_at scope context b s = takes_if (b == 0) (λ _. takes_stop (refusals.Name BadName)) (λ some. takes_if (starts_name b) (λ _. takes_more (takes_name_operand s) (λ p front rest h. inl h))
      (λ other. takes_more (takes_term positions.SuperName scope context s) (λ p front rest h. inr (h.0, h.1, h.2, h.3, some, other))))

  takes_super : (scope : List Seg) (context : Context) (b : ℕ) (bs : List ℕ) (s : State) → s.rest ≡ b ∷ bs → Takes (super_name_step inner_term scope context) s (IsSuper (around_of context) b)
  unfolding super_name_step
  takes_super scope context b bs s is = takes_peeked (super_name_at inner_term scope context) is (takes_super_at scope context b s)

  pub takes_super_part : (scope : List Seg) (context : Context) (s : State) → Takes (super_name_step inner_term scope context) s (λ p front rest. SpellsOperand (around_of context) kinds.SuperName p front)
  unfolding super_name_step
  takes_super_part scope context s = takes_peek (λ b bs is. takes_more (takes_super_at scope context b s) (super_part (around_of context) b))

  takes_target_at : (scope : List Seg) (context : Context) (b : ℕ) (bs : List ℕ) (s : State) → s.rest ≡ b ∷ bs → Takes (target_at inner_term scope context b) s (λ p front rest. SpellsOperand (around_of context) kinds.Target p front)
  unfolding Spells
  takes_target_at scope context b bs s is =
      takes_if (b == 0) (λ t. takes_more (takes_skipping {P = λ (p : Part) (front rest : List ℕ). (front ≡ []) × (p ≡ null)} is (λ s1. takes_give null (refl, refl))) (λ p front rest h. rw (h.1, eqb-true b 0 t, h.2.0, h.2.1) refl))
      (λ _. takes_more (takes_super scope context b bs s is) (target_part (around_of context) b))

  pub takes_target : (scope : List Seg) (context : Context) (s : State) → Takes (target inner_term scope context) s (λ p front rest. SpellsOperand (around_of context) kinds.Target p front)
  unfolding target
  takes_target scope context s = takes_peek (λ b bs is. takes_target_at scope context b bs s is)

  takes_simple_at : (scope : List Seg) (context : Context) (here b : ℕ) (bs : List ℕ) (s : State) → s.rest ≡ b ∷ bs → Takes (simple_name_at inner_term scope context here b) s (λ p front rest. SpellsOperand (around_of context) kinds.SimpleName p front)
  takes_simple_at scope context here b bs s is = takes_if (b == 0 || starts_name b || is_slot b) (λ one. takes_more (takes_known (takes_super scope context b bs s is)) (λ p front rest h. simple_part (around_of context) b p front rest bs one (sym h.0 ∙ is) h.1))
      (λ _. takes_stop (refusals.Term BadOpcode here))

  pub takes_simple : (scope : List Seg) (context : Context) (s : State) → Takes (simple_name inner_term scope context) s (λ p front rest. SpellsOperand (around_of context) kinds.SimpleName p front)
  unfolding simple_name
  takes_simple scope context s = takes_look (λ s. s.at) _ (takes_peek (λ b bs is. takes_simple_at scope context s.at b bs s is))

  -- ---- field elements

  takes_connection_at : (scope : List Seg) (context : Context) (b : ℕ) (bs : List ℕ) (s : State) → s.rest ≡ b ∷ bs → Takes (connection_at inner_term scope context b) s (λ p front rest. SpellsConnection (around_of context) p front)
  unfolding Spells
  takes_connection_at scope context b bs s is = takes_if (starts_name b) (λ _. takes_more (takes_name_operand s) (λ p front rest h. rw h.1 h.2))
      (λ _. takes_if (b == 0x11)
      (λ buffer. takes_more (takes_known (takes_term positions.DataObject scope context s)) (λ p front rest h. rw h.1.1 (begins front rest 0x11 0x11 (sym h.0 ∙ is) h.1.3 (omega (arith, eqb-true b 0x11 buffer)) (omega (arith, eqb-true b 0x11 buffer)), h.1.2)))
      (λ _. takes_stop (refusals.Name BadName)))

  takes_connection : (scope : List Seg) (context : Context) (s : State) → Takes (connection inner_term scope context) s (λ p front rest. SpellsConnection (around_of context) p front)
  unfolding connection
  takes_connection scope context s = takes_peek (λ b bs is. takes_connection_at scope context b bs s is)

  takes_connect_field : (scope : List Seg) (context : Context) (bs : List ℕ) (s : State) → s.rest ≡ 2 ∷ bs → Takes (connect_field inner_term scope context) s (IsElement (around_of context))
  unfolding connect_field Spells
  takes_connect_field scope context bs s is = takes_then (takes_seen is) (λ c f s1 h. takes_map _ (takes_connection scope context s1) (λ p g rest i. rw h.0 ((g, refl, i), omega arith)))

  takes_field_at : (scope : List Seg) (context : Context) (b : ℕ) (bs : List ℕ) (s : State) → s.rest ≡ b ∷ bs → Takes (field_at inner_term scope context b) s (IsElement (around_of context))
  takes_field_at scope context b bs s is =
      let first = λ (c : ℕ) (t : (b == c) ≡ true). is ∙ ap (λ d. d ∷ bs) (eqb-true b c t) in
      takes_if (b == 0) (λ t. takes_reserved_field (around_of context) bs s (first 0 t)) (λ _. takes_if (b == 1) (λ t. takes_access_field (around_of context) bs s (first 1 t)) (λ _. takes_if (b == 2) (λ t. takes_connect_field scope context bs s (first 2 t))
      (λ _. takes_if (b == 3) (λ t. takes_extended_access_field (around_of context) bs s (first 3 t)) (λ _. takes_named_field (around_of context) scope context s))))

  takes_field : (scope : List Seg) (context : Context) (s : State) → Takes (field inner_term scope context) s (IsElement (around_of context))
  unfolding field
  takes_field scope context s = takes_peek (λ b bs is. takes_field_at scope context b bs s is)

  takes_fields : (scope : List Seg) (context : Context) (s : State) → Takes (fields inner_term scope context) s (λ ts front rest. SpellsAll (around_of context) field_element (trees_of ts) front × (rest ≡ []))
  unfolding fields
  takes_fields scope context s = takes_as refl (takes_more (takes_until (field inner_term scope context) (takes_field scope context) (length s.rest) s (omega arith)) (λ ts front rest h. (each_all (around_of context) field_element ts front h.0, h.1)))

  pub takes_field_list : (scope : List Seg) (context : Context) (s : State) → Takes (fields_operand inner_term scope context) s (λ p front rest. (ts : Trees) × (p ≡ list ts) × SpellsAll (around_of context) field_element ts front × (rest ≡ []))
  unfolding fields_operand
  takes_field_list scope context s = takes_map _ (takes_fields scope context s) (λ ts front rest h. (trees_of ts, refl, h.0, h.1))
