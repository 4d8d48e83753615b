-- Where an operand or a field element is refused, it has a fault, where the terms in it have one.
use Rattle.std.proofs.Common.{◌≡◌, ℕ, ◌+◌, List, [], ◌∷◌, length, true, Some, Ok, refl, subst, ◌∙◌, sym, ap, arith}
use Rattle.std.specs.Prelude.{◌==◌}
use Rattle.std.proofs.lemmas.Bool.{eqb-true}
use Rattle.ar_space.specs.declared.refusal.Refusal.{Refusal}
use Rattle.ar_space.specs.declared.refusal.Refusal.TheVariants as refusals
use Rattle.ar_space.specs.declared.refusal.NameFault.TheVariants.{BadName}
use Rattle.ar_space.specs.declared.refusal.TermFault.TheVariants.{Truncated}
use Rattle.aml_path.specs.declared.segment.Seg.{Seg}
use Rattle.aml_grammar.specs.declared.opcode.TermCode.TheVariants as codes
use Rattle.aml_grammar.specs.declared.kinds.OperandKind.{OperandKind}
use Rattle.aml_grammar.specs.declared.kinds.OperandKind.TheVariants as kinds
use Rattle.aml_grammar.specs.declared.context.Position.{Position}
use Rattle.aml_grammar.specs.declared.context.Position.TheVariants as positions
use Rattle.aml_grammar.specs.declared.context.Context.{Context}
use Rattle.aml_grammar.specs.declared.context.Earlier.{Earlier}
use Rattle.aml_grammar.specs.Names.{starts_name}
use Rattle.aml_grammar.specs.State.{State, Step}
use Rattle.aml_grammar.specs.Tree.{Tree, term, Part}
use Rattle.aml_grammar.specs.Grammar.{Inner, scope_of, in_loop, keeping, items, list_operand, connection, connect_field, field, fields, fields_operand, operand}
use Rattle.aml_scan.specs.Spelling.{Around, data_object, field_element, Begins, Spells}
use Rattle.aml_scan.proofs.Takes.{takes_more}
use Rattle.aml_scan.proofs.SpelledParts.{TermTakes}
use Rattle.aml_scan.proofs.SpelledRows.{around_of, place_of}
use Rattle.aml_spelling.specs.Faults.{Spot, Way, here, in_term, in_item, in_connection, a_term, an_operand, behind, IsElement, AtPart, lacks_else, FaultyAt}
use Rattle.aml_spelling.proofs.EndsTerms.{TermEnds, ends_field}
use Rattle.aml_spelling.proofs.FaultElements.{element_none, halts_reserved, halts_access, halts_extended, halts_named, Connection, connection_none, connected_name, connected_wrong}
use Rattle.aml_spelling.proofs.FaultLists.{spot_of, InNext, halts_until}
use Rattle.aml_spelling.proofs.FaultNameStrings.{next_end}
use Rattle.aml_spelling.proofs.FaultOperands.{halts_name_operand, halts_scope_name, halts_alias_source, halts_external_name, halts_declared_name, halts_object_type, halts_method_flags, halts_argument_count, halts_integer_operand, halts_text_operand, halts_bytes_operand}
use Rattle.aml_spelling.proofs.FaultParts.{at_short, at_end}
use Rattle.aml_spelling.proofs.FaultSegments.{moved}
use Rattle.aml_spelling.proofs.FaultShapes.{at_behind}
use Rattle.aml_spelling.proofs.FaultSupers.{TermHalts, item_same, halts_term, halts_super_name, halts_target, halts_simple}
use Rattle.aml_spelling.proofs.FaultTakes.{takes_field}
use Rattle.aml_spelling.proofs.Halts.{Halts, halts_give, halts_stop, halts_map, halts_more, halts_if, halts_peek, halts_seen}
use Rattle.aml_spelling.proofs.LeavesParts.{TermLeaves, leaves_field}
use Rattle.aml_spelling.proofs.RowFacts.{no_field}

-- behind an If that is read without an Else there is none
abbrev pub TermAlone : Inner → Type 0
TermAlone inner_term = (position : Position) (scope : List Seg) (context : Context) (s s1 : State) (t : Tree) → inner_term position scope context s ≡ (Ok t, s1) → lacks_else t ≡ true → Begins 0xA1 0xA1 s1.rest → ⊥

-- a field element is no If
pub field_no_if : (around : Around) (t : Tree) (front : List ℕ) → Spells around field_element t front → lacks_else t ≡ true → ⊥
unfolding Spells
field_no_if around (term (codes.Opcode o) ps) front h e = no_field around h.0.1 h.2
field_no_if around _ front h e = cc e

-- what is known of the terms below
pub record Below (levels : ℕ) (inner_term : Inner) : Type 0 where
  pub takes : TermTakes inner_term
  pub leaves : TermLeaves levels inner_term
  pub ends : TermEnds inner_term
  pub alone : TermAlone inner_term
  pub halts : TermHalts levels inner_term

module _ (levels : ℕ) (inner_term : Inner) (below : Below levels inner_term) (scope : List Seg) (context : Context) (item : ℕ) (in_item_at : context.item ≡ Some item) where
  abbrev here_at : State → Spot
  here_at s = spot_of levels scope (around_of context) item s

  -- ---- lists

  -- the fault is in an item behind some that pass
  abbrev pub InItem : Position → State → Refusal → Type 0
  InItem position s r = InNext levels scope (around_of context) item (place_of position) (λ (next : Spot) (r : Refusal). (way : Way) × FaultyAt way (a_term (place_of position)) next r) s r

  pub halts_items : (position : Position) (s : State) → Halts (items inner_term position scope context) s (InItem position s)
  unfolding items
  halts_items position s = record {
    is = λ r s2 e. (halts_until levels scope (around_of context) item (place_of position) (λ (next : Spot) (r : Refusal). (way : Way) × FaultyAt way (a_term (place_of position)) next r) (inner_term position scope context)
        (λ s. takes_more (below.takes position scope context s) (λ t front rest h. h.0)) (below.leaves position scope context) (below.ends position scope context) (below.alone position scope context)
        (λ s some. record { is = λ r s2 e. let k = (below.halts position scope context s).is r s2 e in (k.0, subst (λ (i : ℕ). FaultyAt k.0 (a_term (place_of position)) (spot_of levels scope (around_of context) i s) r) (item_same context item in_item_at s.at) k.1) })
        (length s.rest) s).is r s2 e;
  }

  pub halts_list : (position : Position) (s : State) → Halts (list_operand inner_term position scope context) s (InItem position s)
  unfolding list_operand
  halts_list position s = halts_map _ (halts_items position s)

  -- ---- field elements

  -- an element's fault stands here
  element_here : (spot : Spot) (r : Refusal) → AtPart IsElement spot r → (way : Way) × FaultyAt way (a_term field_element) spot r
  unfolding FaultyAt
  element_here spot r h = (here, h)

  connected : (s s1 : State) (bs : List ℕ) → s.rest ≡ 2 ∷ bs → s1.at ≡ s.at + 1 → s1.rest ≡ bs → (r : Refusal) → AtPart Connection (moved (here_at s) s1) r → AtPart IsElement (here_at s) r
  connected s s1 bs is at1 is1 r h = at_behind IsElement (2 ∷ []) (here_at s) (moved (here_at s) s1) (is ∙ ap (λ (l : List ℕ). 2 ∷ l) (sym is1)) (next_end (here_at s) s s1 2 bs (refl, refl) is at1 is1) r h

  eleven : (b : ℕ) (bs rest : List ℕ) → rest ≡ b ∷ bs → (b == 0x11) ≡ true → Begins 0x11 0x11 rest
  eleven b bs rest is e = rw (is, eqb-true b 0x11 e) (omega arith, omega arith)

  buffer_there : (s s1 : State) (b : ℕ) (bs cs : List ℕ) → s.rest ≡ 2 ∷ bs → s1.at ≡ s.at + 1 → s1.rest ≡ bs → s1.arities ≡ s.arities → s1.rest ≡ b ∷ cs → (b == 0x11) ≡ true → (r : Refusal)
      → (way : Way) × FaultyAt way (a_term data_object) (here_at s1) r → (way : Way) × FaultyAt way (a_term field_element) (here_at s) r
  unfolding FaultyAt
  buffer_there s s1 b bs cs is at1 is1 ar1 first buffer r h =
      let same : here_at s1 ≡ behind (2 ∷ []) bs s.arities (here_at s) = rw (at1, is1, ar1) refl in
      (in_connection h.0, (bs, is, eleven b cs bs (sym is1 ∙ first) buffer, subst (λ (next : Spot). FaultyAt h.0 (a_term data_object) next r) same h.1))

  halts_connection : (s s1 : State) (bs : List ℕ) → s.rest ≡ 2 ∷ bs → s1.at ≡ s.at + 1 → s1.rest ≡ bs → s1.arities ≡ s.arities → Halts (connection inner_term scope context) s1 (λ r. (way : Way) × FaultyAt way (a_term field_element) (here_at s) r)
  unfolding connection
  halts_connection s s1 bs is at1 is1 ar1 =
      halts_peek (λ none. element_here (here_at s) (refusals.Term Truncated s1.at) (connected s s1 bs is at1 is1 (refusals.Term Truncated s1.at)
      (at_short Connection (moved (here_at s) s1) (refusals.Term Truncated s1.at) s1.at refl (at_end s1 (moved (here_at s) s1) (refl, refl) none) (rw none connection_none)))) (λ b cs first.
      halts_if (starts_name b) (λ names. halts_more (halts_name_operand s1 (moved (here_at s) s1) (refl, refl)) (λ r k. element_here (here_at s) r (connected s s1 bs is at1 is1 r (connected_name b cs (moved (here_at s) s1) first names r k))))
      (λ names. halts_if (b == 0x11) (λ buffer. halts_more (halts_term levels inner_term below.halts scope context item in_item_at positions.DataObject s1) (buffer_there s s1 b bs cs is at1 is1 ar1 first buffer))
      (λ other. halts_stop (refusals.Name BadName) (element_here (here_at s) (refusals.Name BadName) (connected s s1 bs is at1 is1 (refusals.Name BadName) (connected_wrong b cs (moved (here_at s) s1) first names other))))))

  pub halts_field : (s : State) → Halts (field inner_term scope context) s (λ r. (way : Way) × FaultyAt way (a_term field_element) (here_at s) r)
  unfolding field connect_field
  halts_field s = halts_peek (λ none. element_here (here_at s) (refusals.Term Truncated s.at) (at_short IsElement (here_at s) (refusals.Term Truncated s.at) s.at refl (at_end s (here_at s) (refl, refl) none) (rw none element_none))) (λ b bs is.
      halts_if (b == 0) (λ e. halts_more (halts_reserved b bs s (here_at s) (refl, refl) is e) (element_here (here_at s)))
      (λ e. halts_if (b == 1) (λ f. halts_more (halts_access b bs s (here_at s) (refl, refl) is f) (element_here (here_at s)))
      (λ f. halts_if (b == 2) (λ g. halts_seen _ is (λ s1 at1 is1 ar1. halts_map _ (halts_connection s s1 bs (is ∙ ap (λ (c : ℕ). c ∷ bs) (eqb-true b 2 g)) at1 is1 ar1)))
      (λ g. halts_if (b == 3) (λ k. halts_more (halts_extended b bs s (here_at s) (refl, refl) is k) (element_here (here_at s)))
      (λ k. halts_more (halts_named b bs s (here_at s) (refl, refl) is e f g k scope context) (element_here (here_at s)))))))

  abbrev pub InElement : State → Refusal → Type 0
  InElement s r = InNext levels scope (around_of context) item field_element (λ (next : Spot) (r : Refusal). (way : Way) × FaultyAt way (a_term field_element) next r) s r

  field_alone : (s s1 : State) (t : Tree) → field inner_term scope context s ≡ (Ok t, s1) → lacks_else t ≡ true → Begins 0xA1 0xA1 s1.rest → ⊥
  field_alone s s1 t e lacks begins = let k = (takes_field inner_term below.takes scope context s).is t s1 e in field_no_if (around_of context) t k.0 k.2.0 lacks

  pub halts_field_list : (s : State) → Halts (fields_operand inner_term scope context) s (InElement s)
  unfolding fields_operand fields
  halts_field_list s = halts_map _ (record {
    is = λ r s2 e. (halts_until levels scope (around_of context) item field_element (λ (next : Spot) (r : Refusal). (way : Way) × FaultyAt way (a_term field_element) next r) (field inner_term scope context)
        (λ s. takes_more (takes_field inner_term below.takes scope context s) (λ t front rest h. h.0)) (leaves_field levels inner_term below.leaves scope context) (ends_field inner_term below.ends scope context) field_alone
        (λ s some. halts_field s) (length s.rest) s).is r s2 e;
  })

-- ---- operands

keeping_halts : {F : Refusal → Type 0} {m : Step Part} {s : State} (earlier : Earlier) → Halts m s F → Halts (keeping earlier m) s F
keeping_halts earlier h = halts_map (λ p. (p, earlier)) h

module _ (levels : ℕ) (inner_term : Inner) (below : Below levels inner_term) (scope : List Seg) (context : Context) (item : ℕ) (in_item_at : context.item ≡ Some item) (start : ℕ) where
  -- the fault of an operand that is wanted here
  abbrev pub OperandFault : OperandKind → Earlier → State → Refusal → Type 0
  OperandFault k earlier s r = (way : Way) × FaultyAt way (an_operand start k earlier) (spot_of levels scope (around_of context) item s) r

  pub halts_operand : (k : OperandKind) (earlier : Earlier) (s : State) → Halts (operand inner_term scope context start k earlier) s (OperandFault k earlier s)
  unfolding operand FaultyAt
  halts_operand kinds.Nothing earlier s = halts_give _
  halts_operand kinds.NameString earlier s = keeping_halts earlier (halts_more (halts_name_operand s (spot_of levels scope (around_of context) item s) (refl, refl)) (λ r h. (here, h)))
  halts_operand kinds.ScopeName earlier s = halts_more (halts_scope_name s (spot_of levels scope (around_of context) item s) (refl, refl) earlier) (λ r h. (here, h))
  halts_operand kinds.AliasSource earlier s = halts_more (halts_alias_source s (spot_of levels scope (around_of context) item s) (refl, refl) earlier) (λ r h. (here, h))
  halts_operand kinds.ExternalName earlier s = halts_more (halts_external_name s (spot_of levels scope (around_of context) item s) (refl, refl) earlier) (λ r h. (here, h))
  halts_operand kinds.AliasName earlier s = halts_more (halts_declared_name s (spot_of levels scope (around_of context) item s) (refl, refl) earlier context start earlier.count refl) (λ r h. (here, h))
  halts_operand kinds.DeclaredName earlier s = halts_more (halts_declared_name s (spot_of levels scope (around_of context) item s) (refl, refl) earlier context start 0 refl) (λ r h. (here, h))
  halts_operand kinds.MethodFlags earlier s = halts_more (halts_method_flags s (spot_of levels scope (around_of context) item s) (refl, refl) earlier context) (λ r h. (here, h))
  halts_operand kinds.ObjectType earlier s = halts_more (halts_object_type s (spot_of levels scope (around_of context) item s) (refl, refl) earlier) (λ r h. (here, h))
  halts_operand kinds.ArgumentCount earlier s = halts_more (halts_argument_count s (spot_of levels scope (around_of context) item s) (refl, refl) earlier context) (λ r h. (here, h))
  halts_operand kinds.ByteData earlier s = keeping_halts earlier (halts_more (halts_integer_operand s (spot_of levels scope (around_of context) item s) (refl, refl) 1) (λ r h. (here, h)))
  halts_operand kinds.WordData earlier s = keeping_halts earlier (halts_more (halts_integer_operand s (spot_of levels scope (around_of context) item s) (refl, refl) 2) (λ r h. (here, h)))
  halts_operand kinds.DWordData earlier s = keeping_halts earlier (halts_more (halts_integer_operand s (spot_of levels scope (around_of context) item s) (refl, refl) 4) (λ r h. (here, h)))
  halts_operand kinds.QWordData earlier s = keeping_halts earlier (halts_more (halts_integer_operand s (spot_of levels scope (around_of context) item s) (refl, refl) 8) (λ r h. (here, h)))
  halts_operand kinds.AsciiCharList earlier s = keeping_halts earlier (halts_more (halts_text_operand s (spot_of levels scope (around_of context) item s) (refl, refl)) (λ r h. (here, h)))
  halts_operand kinds.ByteList earlier s = keeping_halts earlier (halts_bytes_operand s _)
  halts_operand kinds.TermArg earlier s = keeping_halts earlier (halts_more (halts_term levels inner_term below.halts scope context item in_item_at positions.TermArg s) (λ r h. (in_term h.0, (place_of positions.TermArg, refl, h.1))))
  halts_operand kinds.DataObject earlier s = keeping_halts earlier (halts_more (halts_term levels inner_term below.halts scope context item in_item_at positions.DataObject s) (λ r h. (in_term h.0, (place_of positions.DataObject, refl, h.1))))
  halts_operand kinds.SuperName earlier s = keeping_halts earlier (halts_super_name levels inner_term below.halts scope context item in_item_at start earlier s)
  halts_operand kinds.Target earlier s = keeping_halts earlier (halts_target levels inner_term below.halts scope context item in_item_at start earlier s)
  halts_operand kinds.SimpleName earlier s = keeping_halts earlier (halts_simple levels inner_term below.halts scope context item in_item_at start earlier s)
  halts_operand kinds.TermList earlier s = keeping_halts earlier (halts_more (halts_list levels inner_term below (scope_of scope earlier.path) context item in_item_at positions.ListItem s)
      (λ r h. (in_item h.0 h.3.0, (place_of positions.ListItem, spot_of levels (scope_of scope earlier.path) (around_of context) item s, (refl, refl), h.1, h.2, h.3.1))))
  halts_operand kinds.LoopTermList earlier s = keeping_halts earlier (halts_more (halts_list levels inner_term below (scope_of scope earlier.path) (in_loop context) item in_item_at positions.ListItem s)
      (λ r h. (in_item h.0 h.3.0, (place_of positions.ListItem, spot_of levels (scope_of scope earlier.path) (around_of (in_loop context)) item s, (refl, refl), h.1, h.2, h.3.1))))
  halts_operand kinds.PackageElementList earlier s = keeping_halts earlier (halts_more (halts_list levels inner_term below (scope_of scope earlier.path) context item in_item_at positions.PackageElement s)
      (λ r h. (in_item h.0 h.3.0, (place_of positions.PackageElement, spot_of levels (scope_of scope earlier.path) (around_of context) item s, (refl, refl), h.1, h.2, h.3.1))))
  halts_operand kinds.FieldList earlier s = keeping_halts earlier (halts_more (halts_field_list levels inner_term below scope context item in_item_at s)
      (λ r h. (in_item h.0 h.3.0, (field_element, spot_of levels scope (around_of context) item s, (refl, refl), h.1, h.2, h.3.1))))
