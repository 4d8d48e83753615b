-- A list that has a fault is refused so.
use Rattle.std.proofs.Common.{◌≡◌, ◌≢◌, ℕ, zero, suc, ◌+◌, ◌<◌, List, [], ◌∷◌, ◌++◌, length, Bool, true, false, Option, Some, None, Ok, Err, refl, subst, ◌∙◌, sym, ap, length-append, arith, inl, inr}
use Rattle.std.specs.Prelude.{◌==◌, ◌&&◌}
use Rattle.ar_space.specs.Change.{◌>>=◌}
use Rattle.ar_space.specs.Outcome.{Outcome}
use Rattle.ar_space.specs.declared.refusal.Refusal.{Refusal}
use Rattle.ar_space.specs.declared.refusal.Refusal.TheVariants as refusals
use Rattle.ar_space.specs.declared.refusal.NameFault.TheVariants.{AboveRoot}
use Rattle.ar_space.specs.declared.refusal.TermFault.TheVariants.{BadOpcode, Truncated, TooDeep, NotInBody}
use Rattle.aml_path.specs.declared.segment.Seg.{Seg}
use Rattle.aml_path.specs.Paths.{Name, resolved}
use Rattle.aml_grammar.specs.declared.opcode.Opcode.TheVariants as opcodes
use Rattle.aml_grammar.specs.declared.kinds.Class.{Class}
use Rattle.aml_grammar.specs.declared.kinds.OperandKind.{OperandKind}
use Rattle.aml_grammar.specs.declared.kinds.Row.{Row}
use Rattle.aml_arities.specs.declared.arities.Arity.{Arity}
use Rattle.aml_grammar.specs.declared.context.Position.{Position}
use Rattle.aml_grammar.specs.declared.context.Position.TheVariants as positions
use Rattle.aml_grammar.specs.declared.context.Context.{Context}
use Rattle.aml_grammar.specs.Opcodes.{number_of}
use Rattle.aml_grammar.specs.Table.{row_of}
use Rattle.aml_grammar.specs.Names.{starts_name, name_string}
use Rattle.aml_grammar.specs.State.{State, Step, peek, marking}
use Rattle.aml_grammar.specs.Tree.{Tree}
use Rattle.aml_grammar.specs.Grammar.{Inner, is_if, is_nothing, is_module_level, stands, takes_name, costs_no_level, item_of, at_item, admitted_row, row_at, row_term, deeper, leveled, coded_term, element_name, argument_number, invocation, named_term, named, begun, term_in, below, term_at, by_arities, max_depth, outermost, beginning, items, term_list, table_reading, with_arities, Fails}
use Rattle.aml_scan.specs.Spelling.{Around, list_item, may_stand, may_call, operand_kinds}
use Rattle.aml_scan.proofs.SpelledRows.{around_of, place_of, stands_may, costs_none, costs_nothing, row_is_bare, kinds_end}
use Rattle.aml_spelling.specs.Stands.{cost}
use Rattle.aml_spelling.specs.Faults.{Spot, Way, here, in_operand, in_argument, at_else, in_else, in_connection, a_term, behind, BeginsName, IsSomeCode, IsCode, AtPart, AtLength, may_be_name, only_outside, RowAt, Admitted, NoTerm, AtTerm, FaultyAt, Passes, FaultyWithin, Faulty}
use Rattle.aml_spelling.proofs.EndsWhole.{ends_row_at}
use Rattle.aml_spelling.proofs.FaultApart.{codes_apart, code_refuses}
use Rattle.aml_spelling.proofs.FaultLists.{spot_of}
use Rattle.aml_spelling.proofs.FaultNameStrings.{begins_name}
use Rattle.aml_spelling.proofs.FaultOnce.{part_once, whole_no_fault}
use Rattle.aml_spelling.proofs.FaultParts.{first_missing}
use Rattle.aml_spelling.proofs.FaultTerms.{TermPart, same_spot, if_packed}
use Rattle.aml_spelling.proofs.FaultWhole.{Outside, Deep, outside, below_at}
use Rattle.aml_spelling.proofs.GetsFirst.{coded_first, term_first, item_no_else}
use Rattle.aml_spelling.proofs.GetsNames.{gets_name}
use Rattle.aml_spelling.proofs.GetsTerms.{gets_row_at, bare_parts}
use Rattle.aml_spelling.proofs.GetsWhole.{gets_at_levels, list_read}
use Rattle.aml_spelling.proofs.RefusedKinds.{Full, TermRefuses}
use Rattle.aml_spelling.proofs.RefusedLists.{moved_at, until_refused}
use Rattle.aml_spelling.proofs.RefusedOperands.{name_refused}
use Rattle.aml_spelling.proofs.RefusedTerms.{row_term_operand, row_term_length, else_refused, times_refused}
use Rattle.aml_spelling.proofs.Refused.{Refused, refused_first, refused_next, refused_stop, refused_yes, refused_no, refused_as, refused_look, refused_peek, refused_none, refused_settled, refused_settle}
use Rattle.aml_spelling.proofs.RowFacts.{cost_is}
use Rattle.aml_spelling.proofs.RefusedFirst.{Above, at_cases, code_opcode, gets_code, code_first, outside_is, leads_refused, length_same, name_byte, not_begun, refused_deeper, refused_lowest, opcode_first}
use Rattle.aml_spelling.proofs.RefusedRows.{size_refused, inside_refused}
use Rattle.aml_spelling.proofs.RefusedKinds.{list_refused}
use Rattle.aml_spelling.specs.Faults.{in_term, in_item, an_operand, AreFirst, StandFirst, Encloses, IfBefore}
use Rattle.aml_spelling.specs.Stands.{StandOperands, StandAll}
use Rattle.aml_grammar.specs.Grammar.{at_else as else_context, item_of_else, nothing_earlier}
use Rattle.aml_spelling.proofs.GetsNames.{name_first}
use Rattle.aml_grammar.specs.declared.context.Earlier.{Earlier}
use Rattle.aml_arities.specs.Arities.{arity_of}
use Rattle.aml_grammar.specs.Tree.{Parts, Trees}
use Rattle.aml_grammar.specs.Grammar.{packed, list_operand}
use Rattle.aml_scan.specs.Spelling.{term_arg, IsNameString, SpellsAll, SpellsOperands}
use Rattle.aml_spelling.specs.Stands.{count_of, MayStand}
use Rattle.aml_scan.specs.Spelling.{IsSpelled}
use Rattle.aml_spelling.proofs.Ends.{ends_name}

-- the terms with one level less
abbrev Lower : ℕ → Type 0
Lower levels = (l : ℕ) → levels ≡ suc l → Full l (term_in by_arities (below by_arities l))

takes_name_is : (position : Position) (b : Bool) → may_be_name (place_of position) ≡ b → takes_name position ≡ b
takes_name_is positions.ListItem b e = e
takes_name_is positions.TermArg b e = e
takes_name_is positions.DataObject b e = e
takes_name_is positions.PackageElement b e = e
takes_name_is positions.SuperName b e = e

-- ---- rows that are not admitted

module _ (position : Position) (context : Context) (start : ℕ) where
  bad_place : (row : Row) → may_stand (around_of context) row.1 (place_of position) ≡ false → only_outside (around_of context) row.1 (place_of position) ≡ false → (s : State) → (c d : Bool) → stands row.1 position context ≡ c → (context.body && is_module_level row.1) ≡ d
      → Refused (admitted_row position context start (Some row)) s (refusals.Term BadOpcode start)
  bad_place row may out s true true e f = absurd (cc (out, outside row.1 position context e f))
  bad_place row may out s true false e f = absurd (cc (may, stands_may row.1 position context e f))
  bad_place row may out s false d e f = refused_no _ e (refused_stop (refusals.Term BadOpcode start) s)

  not_in_body : (row : Row) → only_outside (around_of context) row.1 (place_of position) ≡ true → (s : State) → Refused (admitted_row position context start (Some row)) s (refusals.Term NotInBody start)
  not_in_body row out s = let k = outside_is row.1 position context out in refused_yes _ k.0 (refused_yes _ k.1 (refused_stop (refusals.Term NotInBody start) s))

  not_admitted : (below : Option Inner) (scope : List Seg) (s : State) (n : ℕ) (code back : List ℕ) → s.rest ≡ code ++ back → IsCode n code → (o : Option Row) → row_of n ≡ o → (r : Refusal) → ((s1 : State) → Refused (admitted_row position context start o) s1 r)
      → Refused (coded_term below position scope context start) s r
  unfolding coded_term row_at
  not_admitted below scope s n code back is coded o found r h =
      let g = gets_code {s = s} n code coded is in
      refused_first _ (refused_next _ _ g.is (refused_as (ap (λ (p : Option Row). admitted_row position context start p g.after) found) (h g.after)))

fields_same : (a b : ℕ) (k m : List ℕ) (x y : List Arity) (l n : ℕ) (sc tc : List Seg) (ar br : Around) (i j : ℕ) → a ≡ b → k ≡ m → x ≡ y → l ≡ n → sc ≡ tc → ar ≡ br → i ≡ j
    → ◌≡◌ {A = Spot} (record { at = a; rest = k; known = x; levels = l; scope = sc; around = ar; item = i }) (record { at = b; rest = m; known = y; levels = n; scope = tc; around = br; item = j })
fields_same a b k m x y l n sc tc ar br i j e f g h o p q = rw (e, f, g, h, o, p, q) refl

spot_eta : (next : Spot) (lead content : List ℕ) (l : ℕ) (scope : List Seg) (around : Around) (i : ℕ) (t : State) → next.at + length lead ≡ t.at → t.rest ≡ content → t.arities ≡ next.known → next.levels ≡ l → next.scope ≡ scope → next.around ≡ around → next.item ≡ i
    → behind lead content next.known next ≡ spot_of l scope around i t
spot_eta next lead content l scope around i t e f g h o p q = fields_same (next.at + length lead) t.at content t.rest next.known t.arities next.levels l next.scope scope next.around around next.item i e (sym f) (sym g) h o p q

longer : (l : List ℕ) (b : ℕ) (bs : List ℕ) → l ≡ b ∷ bs → 0 < length l
longer l b bs is = rw is (omega arith)

module _ (levels : ℕ) (lower : Lower levels) (position : Position) (scope : List Seg) (outer : Context) (s : State) where
  abbrev item : ℕ
  item = item_of outer.item s.at

  abbrev spot : Spot
  spot = spot_of levels scope (around_of outer) item s

  abbrev Told : Refusal → Type 0
  Told r = Refused (term_in by_arities (below by_arities levels) position scope outer) s r

  to_named : (b : ℕ) (bs : List ℕ) → s.rest ≡ b ∷ bs → starts_name b ≡ true → (r : Refusal) → Refused (named by_arities (below by_arities levels) position scope (at_item outer s.at) s.at) s r → Told r
  unfolding term_in
  to_named b bs is names r h = refused_look (λ s. s.at) (λ start. peek >>= (λ c. begun by_arities (below by_arities levels) position scope (at_item outer start) start c)) (refused_peek (λ c. begun by_arities (below by_arities levels) position scope (at_item outer s.at) s.at c) is (refused_yes _ names h))

  to_coded : (b : ℕ) (bs : List ℕ) → s.rest ≡ b ∷ bs → starts_name b ≡ false → (r : Refusal) → Refused (coded_term (below by_arities levels) position scope (at_item outer s.at) s.at) s r → Told r
  unfolding term_in
  to_coded b bs is names r h = refused_look (λ s. s.at) (λ start. peek >>= (λ c. begun by_arities (below by_arities levels) position scope (at_item outer start) start c)) (refused_peek (λ c. begun by_arities (below by_arities levels) position scope (at_item outer s.at) s.at c) is (refused_no _ names h))

  to_none : s.rest ≡ [] → Told (refusals.Term Truncated s.at)
  unfolding term_in
  to_none is = refused_look (λ s. s.at) (λ start. peek >>= (λ c. begun by_arities (below by_arities levels) position scope (at_item outer start) start c)) (refused_none (λ c. begun by_arities (below by_arities levels) position scope (at_item outer s.at) s.at c) is)

  -- ---- names

  in_named : BeginsName s.rest → (r : Refusal) → Refused (named by_arities (below by_arities levels) position scope (at_item outer s.at) s.at) s r → Told r
  in_named names r h = let k = name_byte s.rest names in to_named k.0 k.1 k.2 k.3 r h

  named_deeper : BeginsName s.rest → may_be_name (place_of position) ≡ true → (r : Refusal) → Refused (deeper (below by_arities levels) item (λ inner_term. named_term by_arities inner_term position scope (at_item outer s.at) s.at)) s r → Told r
  unfolding named
  named_deeper names may r h = in_named names r (refused_yes _ (takes_name_is position true may) h)

  named_at : (l : ℕ) → levels ≡ suc l → BeginsName s.rest → may_be_name (place_of position) ≡ true → (r : Refusal) → Refused (named_term by_arities (term_in by_arities (below by_arities l)) position scope (at_item outer s.at) s.at) s r → Told r
  named_at l less names may r h = named_deeper names may r (refused_deeper levels l item _ less h)

  name_no_term : BeginsName s.rest → may_be_name (place_of position) ≡ false → Told (refusals.Term BadOpcode s.at)
  unfolding named
  name_no_term names may = in_named names (refusals.Term BadOpcode s.at) (refused_no _ (takes_name_is position false may) (refused_stop (refusals.Term BadOpcode s.at) s))

  -- ---- rows

  in_row : (row : Row) (code back : List ℕ) → RowAt spot row code back → (r : Refusal) → Refused (coded_term (below by_arities levels) position scope (at_item outer s.at) s.at) s r → Told r
  in_row row code back h r f =
      let k = coded_first (number_of row.0) code row (code_opcode (number_of row.0) code h.1) h.2 in
      to_coded k.0 (k.1 ++ back) (h.0 ∙ ap (λ (l : List ℕ). l ++ back) k.2) k.3.no_name r f

  leveled_at : (row : Row) (code back : List ℕ) → RowAt spot row code back → may_stand (around_of outer) row.1 (place_of position) ≡ true → (r : Refusal)
      → ((s1 : State) → s1.at ≡ s.at + length code → s1.rest ≡ back → s1.arities ≡ s.arities → Refused (leveled (below by_arities levels) position scope (at_item outer s.at) s.at row) s1 r) → Told r
  unfolding coded_term
  leveled_at row code back h may r i =
      let g = gets_row_at {s = s} {known = s.arities} position (at_item outer s.at) s.at (number_of row.0) row code (code_opcode (number_of row.0) code h.1) h.2 may h.0 refl in
      in_row row code back h r (refused_next _ _ g.is (i g.after (moved_at code (ends_row_at position (at_item outer s.at) s.at) h.0 g) g.left g.knows))

  -- a row that costs a level, and the terms below it
  below_row : (row : Row) (code back : List ℕ) (l : ℕ) → RowAt spot row code back → Admitted spot (place_of position) row l → (r : Refusal) → costs_no_level row.1 position ≡ false
      → ((s1 : State) → levels ≡ suc l → s1.at ≡ s.at + length code → s1.rest ≡ back → s1.arities ≡ s.arities → Refused (row_term (term_in by_arities (below by_arities l)) scope (at_item outer s.at) s.at row) s1 r) → Told r
  below_row row code back l h admitted r costs i =
      let one : cost row.1 (place_of position) ≡ 1 = cost_is row.1 position false costs in
      let less : levels ≡ suc l = omega (arith, one, admitted.1) in
      leveled_at row code back h admitted.0 r (λ s1 at1 is1 ar1. refused_no _ costs (refused_deeper levels l item _ less (i s1 less at1 is1 ar1)))

  bare_row : (row : Row) → row_of (number_of row.0) ≡ Some row → costs_no_level row.1 position ≡ true → (row.2 ≡ false) × (is_nothing row.3.0 ≡ true) × (is_if row.0 ≡ false)
  bare_row row found free = bare_parts (costs_none row.1) row.2 (is_nothing row.3.0) (is_if row.0) (row_is_bare (number_of row.0) row found) (costs_nothing row.1 position free)

  -- ---- faults at the first bytes

  told_none : (n : ℕ) (code back : List ℕ) → (BeginsName s.rest → ⊥) → s.rest ≡ code ++ back → IsCode n code → row_of n ≡ None → Told (refusals.Term BadOpcode s.at)
  told_none n code back other is coded none =
      let k = code_first n code coded in
      let whole : s.rest ≡ k.0 ∷ (k.1 ++ back) = is ∙ ap (λ (l : List ℕ). l ++ back) k.2 in
      let unnamed = not_begun k.0 (k.1 ++ back) (starts_name k.0) refl (λ b. other (subst (λ (l : List ℕ). BeginsName l) (sym whole) b)) in
      to_coded k.0 (k.1 ++ back) whole unnamed (refusals.Term BadOpcode s.at)
      (not_admitted position (at_item outer s.at) s.at (below by_arities levels) scope s n code back is coded None none (refusals.Term BadOpcode s.at) (λ s1. refused_stop (refusals.Term BadOpcode s.at) s1))

  told_bad : NoTerm spot (place_of position) → Told (refusals.Term BadOpcode s.at)
  told_bad (inl h) = name_no_term h.0 h.1
  told_bad (inr (inl h)) = told_none h.1 h.2 h.3 h.0 h.4 h.5 h.6
  told_bad (inr (inr h)) = in_row h.0 h.1 h.2 h.3 (refusals.Term BadOpcode s.at) (not_admitted position (at_item outer s.at) s.at (below by_arities levels) scope s (number_of h.0.0) h.1 h.2 h.3.0 h.3.1 (Some h.0) h.3.2 (refusals.Term BadOpcode s.at)
      (λ s1. bad_place position (at_item outer s.at) s.at h.0 h.4 h.5 s1 (stands h.0.1 position (at_item outer s.at)) ((at_item outer s.at).body && is_module_level h.0.1) refl refl))

  told_out : Outside spot position → Told (refusals.Term NotInBody s.at)
  told_out h = in_row h.0 h.1 h.2 h.3 (refusals.Term NotInBody s.at) (not_admitted position (at_item outer s.at) s.at (below by_arities levels) scope s (number_of h.0.0) h.1 h.2 h.3.0 h.3.1 (Some h.0) h.3.2 (refusals.Term NotInBody s.at)
      (λ s1. not_in_body position (at_item outer s.at) s.at h.0 h.4 s1))

  costs_some : (class : Class) (c : Bool) → costs_no_level class position ≡ c → levels < cost class (place_of position) → (levels ≡ 0) × (costs_no_level class position ≡ false)
  costs_some class true e less = let none : cost class (place_of position) ≡ 0 = cost_is class position true e in absurd (omega (arith, none, less))
  costs_some class false e less = let one : cost class (place_of position) ≡ 1 = cost_is class position false e in (omega (arith, one, less), e)

  told_deep : Deep spot position → Told (refusals.Term TooDeep item)
  told_deep (inl h) = named_deeper h.0 h.1 (refusals.Term TooDeep item) (refused_lowest levels item _ h.2)
  told_deep (inr h) =
      let k = costs_some h.0.1 (costs_no_level h.0.1 position) refl h.5 in
      leveled_at h.0 h.1 h.2 h.3 h.4 (refusals.Term TooDeep item) (λ s1 at1 is1 ar1. refused_no _ k.1 (refused_lowest levels item _ k.0))

  one_less : (n : ℕ) → 0 < n → (l : ℕ) × (n ≡ suc l)
  one_less zero less = absurd (omega (arith, less))
  one_less (suc n) less = (n, refl)

  call_refused : (l : ℕ) (r : Refusal) → Refused (invocation by_arities (term_in by_arities (below by_arities l)) scope (at_item outer s.at) s.at) s r → (p : Position) → place_of position ≡ place_of p → position ≡ p → may_call (place_of position) ≡ true
      → Refused (named_term by_arities (term_in by_arities (below by_arities l)) p scope (at_item outer s.at) s.at) s r
  call_refused l r h positions.ListItem e f may = h
  call_refused l r h positions.TermArg e f may = h
  call_refused l r h positions.DataObject e f may = h
  call_refused l r h positions.PackageElement e f may = absurd (cc (sym may ∙ ap may_call e))
  call_refused l r h positions.SuperName e f may = h

  told_above : Above spot position → Told (refusals.Name AboveRoot)
  unfolding invocation
  told_above h =
      let k = one_less levels h.0.2 in
      let n = h.2.0 in
      let there = h.2.1 in
      let g = gets_name {s = s} {known = s.arities} n there.0 there.3 there.2 refl in
      named_at k.0 k.1 h.0.0 h.0.1 (refusals.Name AboveRoot) (call_refused k.0 (refusals.Name AboveRoot) (refused_next _ _ g.is (refused_settled _ (leads_refused n scope there.3.3 h.2.2))) position refl refl h.1)

  element_refused : (r : Refusal) → Refused name_string s r → Refused element_name s r
  unfolding element_name
  element_refused r h = refused_first _ h

  invocation_refused : (inner_term : Inner) (r : Refusal) → Refused name_string s r → Refused (invocation by_arities inner_term scope (at_item outer s.at) s.at) s r
  unfolding invocation
  invocation_refused inner_term r h = refused_first _ h

  name_told : (inner_term : Inner) (r : Refusal) → Refused name_string s r → (p : Position) → Refused (named_term by_arities inner_term p scope (at_item outer s.at) s.at) s r
  name_told inner_term r h positions.ListItem = invocation_refused inner_term r h
  name_told inner_term r h positions.TermArg = invocation_refused inner_term r h
  name_told inner_term r h positions.DataObject = invocation_refused inner_term r h
  name_told inner_term r h positions.PackageElement = element_refused r h
  name_told inner_term r h positions.SuperName = invocation_refused inner_term r h

  prefix_no_name : (b : ℕ) → starts_name b ≡ true → b ≢ 0x5B
  unfolding starts_name
  prefix_no_name b names e = cc (subst (λ (c : ℕ). starts_name c ≡ true) e names)

  code_told : (r : Refusal) → AtPart IsSomeCode spot r → (l : List ℕ) → s.rest ≡ l → Told r
  code_told r h [] is = subst (λ (q : Refusal). Told q) (part_once IsSomeCode spot (refusals.Term Truncated s.at) r (first_missing s spot (refl, refl) (refusals.Term Truncated s.at) (refl, is)) h) (to_none is)
  code_told r h (b ∷ bs) is = by_name (starts_name b) refl
    where
      by_name : (c : Bool) → starts_name b ≡ c → Told r
      by_name true names = absurd (whole_no_fault IsSomeCode codes_apart spot r (b ∷ [], bs, is, (b, (refl, prefix_no_name b names))) h)
      by_name false names = to_coded b bs is names r (opcode_first (below by_arities levels) position scope (at_item outer s.at) s r (let k = code_refuses s spot (refl, refl) r h in record { is = ap (λ (p : Outcome _ × State). p.0) k.1 }))

  length_told : (row : Row) (l : ℕ) (code back : List ℕ) → RowAt spot row code back → Admitted spot (place_of position) row l → row.2 ≡ true → (r : Refusal) → AtLength (behind code back s.arities spot) r → (c : Bool) → costs_no_level row.1 position ≡ c → Told r
  length_told row l code back h admitted packs r f true free = let k = bare_row row h.2 free in absurd (cc (packs, k.0))
  length_told row l code back h admitted packs r f false costs = below_row row code back l h admitted r costs (λ s1 less at1 is1 ar1.
      row_term_length l (term_in by_arities (below by_arities l)) (lower l less) scope (at_item outer s.at) item refl s.at row packs s1 r
      (length_same (behind code back s.arities spot) (spot_of l scope (around_of outer) item s1) (sym at1) (sym is1) r f))

  told_part : (r : Refusal) → TermPart spot (place_of position) r → Told r
  told_part r (inl h) = let k = one_less levels h.0.2 in named_at k.0 k.1 h.0.0 h.0.1 r (name_told (term_in by_arities (below by_arities k.0)) r (name_refused s spot (refl, refl) r h.1) position)
  told_part r (inr (inl h)) = code_told r h s.rest refl
  told_part r (inr (inr h)) = length_told h.0 h.1 h.2 h.3 h.4 h.5 h.6 r h.7 (costs_no_level h.0.1 position) refl

  told_here : (r : Refusal) → AtTerm spot (place_of position) r → Told r
  told_here r h = at_cases spot Told position told_bad told_out told_deep told_above told_part r h

  -- ---- faults further on

  not_empty : (k : OperandKind) (first others : List OperandKind) → [] ≡ first ++ k ∷ others → ⊥
  not_empty k [] others e = cc e
  not_empty k (f ∷ first) others e = cc e

  operand_told : (row : Row) (l : ℕ) (code back : List ℕ) → RowAt spot row code back → Admitted spot (place_of position) row l → (r : Refusal) → (k : OperandKind) (first : List OperandKind) → AreFirst first (operand_kinds row.3) k
      → ((s1 : State) → levels ≡ suc l → s1.at ≡ s.at + length code → s1.rest ≡ back → s1.arities ≡ s.arities → Refused (row_term (term_in by_arities (below by_arities l)) scope (at_item outer s.at) s.at row) s1 r) → (c : Bool) → costs_no_level row.1 position ≡ c → Told r
  operand_told row l code back h admitted r k first are i true free = let b = bare_row row h.2 free in absurd (not_empty k first are.0 (sym (kinds_end row.3.0 _ b.1) ∙ are.1))
  operand_told row l code back h admitted r k first are i false costs = below_row row code back l h admitted r costs i

  if_told : (row : Row) (l : ℕ) (code back : List ℕ) → RowAt spot row code back → Admitted spot (place_of position) row l → (r : Refusal) → row.0 ≡ opcodes.If
      → ((s1 : State) → levels ≡ suc l → s1.at ≡ s.at + length code → s1.rest ≡ back → s1.arities ≡ s.arities → Refused (row_term (term_in by_arities (below by_arities l)) scope (at_item outer s.at) s.at row) s1 r) → (c : Bool) → costs_no_level row.1 position ≡ c → Told r
  if_told row l code back h admitted r the_if i true free = let b = bare_row row h.2 free in absurd (cc (b.2, ap is_if the_if))
  if_told row l code back h admitted r the_if i false costs = below_row row code back l h admitted r costs i

  told_operand : (way : Way) (r : Refusal) (row : Row) (l : ℕ) (code back lead content front left : List ℕ) (ps : Parts) (k : OperandKind) (first : List OperandKind) (later : Earlier) (after : List Arity) → RowAt spot row code back → Admitted spot (place_of position) row l
      → Encloses row.2 back lead content → AreFirst first (operand_kinds row.3) k → content ≡ front ++ left → SpellsOperands (around_of outer) false first ps front [] → StandFirst l scope (around_of outer) first ps nothing_earlier s.arities later after
      → FaultyAt way (an_operand s.at k later) (record (behind (code ++ (lead ++ front)) left after spot) { levels = l }) r → Told r
  told_operand way r row l code back lead content front left ps k first later after h admitted encloses are is spelled stand f =
      operand_told row l code back h admitted r k first are (λ s1 less at1 is1 ar1.
      let size : length (code ++ (lead ++ front)) ≡ length code + length (lead ++ front) = length-append code (lead ++ front) in
      let same : record (behind (code ++ (lead ++ front)) left after spot) { levels = l } ≡ behind (lead ++ front) left after (spot_of l scope (around_of outer) item s1) =
      same_spot l scope (around_of outer) (s.at + length (code ++ (lead ++ front))) (s1.at + length (lead ++ front)) left left after after item item (omega (arith, size, at1)) refl refl refl in
      row_term_operand l (term_in by_arities (below by_arities l)) (lower l less) scope (at_item outer s.at) item refl s.at row (number_of row.0) h.2 s1 r (
        lead,
        content,
        subst (λ (b : List ℕ). Encloses row.2 b lead content) (sym is1) encloses,
        first,
        k,
        are,
        ps,
        front,
        left,
        is,
        spelled,
        later,
        after,
        subst (λ (known : List Arity). StandFirst l scope (around_of outer) first ps nothing_earlier known later after) (sym ar1) stand,
        way,
        subst (λ (spot : Spot). FaultyAt way (an_operand s.at k later) spot r) same f,
      ))
      (costs_no_level row.1 position) refl

  call_name : (p : Position) → may_call (place_of p) ≡ true → may_be_name (place_of p) ≡ true
  call_name positions.ListItem e = refl
  call_name positions.TermArg e = refl
  call_name positions.DataObject e = absurd (cc e)
  call_name positions.PackageElement e = refl
  call_name positions.SuperName e = absurd (cc e)

  begins_spelled : (n : Name) (front back : List ℕ) → s.rest ≡ front ++ back → IsNameString n front → BeginsName s.rest
  begins_spelled n front back is h = let k = name_first n front h in subst (λ (l : List ℕ). BeginsName l) (sym (is ∙ ap (λ (l : List ℕ). l ++ back) k.2)) (begins_name k.0 k.4)

  marked : (c : Bool) (start n : ℕ) (t : State) → (n == 0) ≡ c → ((marking start n t).at ≡ t.at) × ((marking start n t).rest ≡ t.rest) × ((marking start n t).arities ≡ t.arities)
  marked true start n t is = (rw is refl, rw is refl, rw is refl)
  marked false start n t is = (rw is refl, rw is refl, rw is refl)

  told_argument : (way : Way) (r : Refusal) (n : Name) (ts : Trees) (path : List Seg) (l : ℕ) (front back mid : List ℕ) (after : List Arity) → may_call (place_of position) ≡ true → levels ≡ suc l → s.rest ≡ front ++ (mid ++ back) → IsNameString n front → resolved n scope ≡ Ok path
      → count_of ts < arity_of s.arities scope n path → SpellsAll (around_of outer) term_arg ts mid → StandAll l scope (around_of outer) term_arg ts s.arities after
      → FaultyAt way (a_term term_arg) (record (behind (front ++ mid) back after spot) { levels = l }) r → Told r
  unfolding invocation argument_number by_arities
  told_argument way r n ts path l front back mid after may less is named res counts spelled stand f =
      let g = gets_name {s = s} {known = s.arities} n front named is refl in
      let t : State = marking s.at (arity_of g.after.arities scope n path) g.after in
      let m = marked (arity_of g.after.arities scope n path == 0) s.at (arity_of g.after.arities scope n path) g.after refl in
      let there : g.after.at ≡ s.at + length front = moved_at front ends_name is g in
      let size : length (front ++ mid) ≡ length front + length mid = length-append front mid in
      let known : t.arities ≡ s.arities = m.2 ∙ g.knows in
      let same : record (behind (front ++ mid) back after spot) { levels = l } ≡ behind mid back after (spot_of l scope (around_of outer) item t) =
      same_spot l scope (around_of outer) (s.at + length (front ++ mid)) (t.at + length mid) back back after after item item (omega (arith, size, there, m.0)) refl refl refl in
      named_at l less (begins_spelled n front (mid ++ back) is named) (call_name position may) r (call_refused l r (refused_next _ _ g.is (refused_settle _ res (refused_next {s1 = t} (argument_number by_arities s.at scope n path) _ refl (refused_first _
      (times_refused l (term_in by_arities (below by_arities l)) (lower l less) scope (at_item outer s.at) item refl (arity_of g.after.arities scope n path) ts mid back after t r way
      (subst (λ (a : List Arity). count_of ts < arity_of a scope n path) (sym g.knows) counts) (m.1 ∙ g.left) spelled (subst (λ (a : List Arity). StandAll l scope (around_of outer) term_arg ts a after) (sym known) stand)
      (subst (λ (spot : Spot). FaultyAt way (a_term term_arg) spot r) same f)))))) position refl refl may)

  -- behind the package of an If: what refuses at the length of its Else, or in its list
  told_if : (r : Refusal) (ps : Parts) (next : Spot) → IfBefore spot (place_of position) ps next
      → ((l : ℕ) → levels ≡ suc l → (s3 : State) → s3.at ≡ next.at → s3.rest ≡ next.rest → s3.arities ≡ next.known → next.levels ≡ l → next.scope ≡ scope → next.around ≡ around_of outer → (place : ℕ) → next.item ≡ item_of_else item s.at place
      → Refused (packed true (list_operand (term_in by_arities (below by_arities l)) positions.ListItem scope (else_context (at_item outer s.at) s.at place))) s3 r) → Told r
  told_if r ps next b i =
      if_told b.0 b.1 b.2 (b.3 ++ 0xA1 ∷ b.5) b.7 b.9 r b.8 (λ s1 less at1 is1 ar1.
      else_refused b.1 (term_in by_arities (below by_arities b.1)) (lower b.1 less) scope (at_item outer s.at) item refl s.at b.0 (number_of b.0.0) b.7.2 b.8 (if_packed b.0 b.7.2 b.8) ps b.4 b.3 b.5 b.6 s1 r b.10 b.11
      (subst (λ (known : List Arity). StandOperands b.1 scope (around_of outer) false (operand_kinds b.0.3) ps nothing_earlier known b.6) (sym ar1) b.12) is1 (λ s3 at3 is3 ar3 place there.
      let one : next.at ≡ s.at + length (b.2 ++ (b.3 ++ 0xA1 ∷ [])) = ap (λ (n : Spot). n.at) b.13 in
      let size : length (b.2 ++ (b.3 ++ 0xA1 ∷ [])) ≡ length b.2 + length (b.3 ++ 0xA1 ∷ []) = length-append b.2 (b.3 ++ 0xA1 ∷ []) in
      let len : length (b.2 ++ b.3) ≡ length b.2 + length b.3 = length-append b.2 b.3 in
      let here_place : s.at + length (b.2 ++ b.3) ≡ place = omega (arith, len, at1, there) in
      i b.1 less s3 (omega (arith, one, size, at1, at3)) (is3 ∙ sym (ap (λ (n : Spot). n.rest) b.13)) (ar3 ∙ sym (ap (λ (n : Spot). n.known) b.13)) (ap (λ (n : Spot). n.levels) b.13) (ap (λ (n : Spot). n.scope) b.13) (ap (λ (n : Spot). n.around) b.13)
      place (ap (λ (n : Spot). n.item) b.13 ∙ ap (λ (p : ℕ). item_of_else item s.at p) here_place)))
      (costs_no_level b.0.1 position) refl

  told_else_length : (r : Refusal) (ps : Parts) (next : Spot) → IfBefore spot (place_of position) ps next → AtLength next r → Told r
  told_else_length r ps next b f = told_if r ps next b (λ l less s3 at3 is3 ar3 le sc ar place it. size_refused _ s3 next (at3, is3) r f)

  told_else : (way : Way) (r : Refusal) (ps : Parts) (ts : Trees) (next : Spot) (lead content : List ℕ) (last : Spot) → IfBefore spot (place_of position) ps next → Encloses true next.rest lead content → Passes (behind lead content next.known next) list_item ts last
      → FaultyAt way (a_term list_item) last r → Told r
  told_else way r ps ts next lead content last b encloses p f = told_if r ps next b (λ l less s3 at3 is3 ar3 le sc ar place it.
      inside_refused _ s3 lead content encloses.0 r (is3 ∙ encloses.1) encloses.2 (λ s4 at4 is4 ar4.
      let same : behind lead content next.known next ≡ spot_of l scope (around_of outer) (item_of_else item s.at place) s4 = spot_eta next lead content l scope (around_of outer) (item_of_else item s.at place) s4 (omega (arith, at3, at4)) is4 (ar4 ∙ ar3) le sc ar it in
      list_refused l (term_in by_arities (below by_arities l)) (lower l less) scope (else_context (at_item outer s.at) s.at place) (item_of_else item s.at place) refl positions.ListItem ts way s4 r last (subst (λ (from : Spot). Passes from list_item ts last) same p) f))

no_connection : (way : Way) (position : Position) (place : Spot) (r : Refusal) → FaultyAt (in_connection way) (a_term (place_of position)) place r → ⊥
unfolding FaultyAt
no_connection way positions.ListItem place r f = f
no_connection way positions.TermArg place r f = f
no_connection way positions.DataObject place r f = f
no_connection way positions.PackageElement place r f = f
no_connection way positions.SuperName place r f = f

term_refuses : (levels : ℕ) → Lower levels → TermRefuses levels (term_in by_arities (below by_arities levels))
unfolding FaultyAt
term_refuses levels lower here position scope outer s r f = told_here levels lower position scope outer s r f
term_refuses levels lower (in_operand o ps way) position scope outer s r f =
    told_operand levels lower position scope outer s way r f.0 f.1 f.2 f.3 f.7 f.8 f.13 f.14 ps f.11 f.10 f.17 f.18 f.4 f.6 f.9 f.12 f.15 f.16 f.19 f.20
term_refuses levels lower (in_argument n ts way) position scope outer s r f = told_argument levels lower position scope outer s way r n ts f.0 f.1 f.2 f.3 f.4 f.5 f.6 f.7 f.8 f.9 f.10 f.11 f.12 f.13 f.14
term_refuses levels lower (at_else ps) position scope outer s r f = told_else_length levels lower position scope outer s r ps f.0 f.1 f.2
term_refuses levels lower (in_else ps ts way) position scope outer s r f = told_else levels lower position scope outer s way r ps ts f.0 f.2 f.3 f.5 f.1 f.4 f.6 f.7
term_refuses levels lower (in_connection way) position scope outer s r f = absurd (no_connection way position (spot_of levels scope (around_of outer) (item_of outer.item s.at) s) r f)
term_refuses levels lower (in_term way) position scope outer s r f = absurd f
term_refuses levels lower (in_item ts way) position scope outer s r f = absurd f

full_at : (levels : ℕ) → Lower levels → Full levels (term_in by_arities (below by_arities levels))
full_at levels lower = record { below = below_at levels; gets = gets_at_levels levels; refuses = term_refuses levels lower }

lower_at : (levels : ℕ) → Lower levels
lower_at zero l e = absurd (omega (arith, e))
lower_at (suc levels) l e = let same : levels ≡ l = omega (arith, e) in subst (λ (m : ℕ). Full m (term_in by_arities (below by_arities m))) same (full_at levels (lower_at levels))

-- ---- whole lists

module _ (levels : ℕ) (scope : List Seg) (body : Bool) where
  abbrev an_item : Step Tree
  an_item = term_in by_arities (below by_arities levels) positions.ListItem scope (outermost body)

  full_whole : Full levels (term_in by_arities (below by_arities levels))
  full_whole = full_at levels (lower_at levels)

  pub items_refused : (bs : List ℕ) (known : List Arity) (r : Refusal) → FaultyWithin levels bs scope body known r → (items (term_at by_arities levels) positions.ListItem scope (outermost body) (beginning bs known)).0 ≡ Err r
  unfolding items term_at
  items_refused bs known r f = (until_refused levels scope (around_of (outermost body)) 0 list_item an_item (λ (next : Spot) (q : Refusal). FaultyAt f.1 (a_term list_item) (record next { item = next.at }) q)
      (λ t front rest before after s h i alone is ar. full_whole.gets positions.ListItem scope (outermost body) t front rest before after s h i alone is ar)
      (λ t front h. let k = term_first (around_of (outermost body)) positions.ListItem t front h in longer front k.0 k.1 k.2)
      (λ t u front next rest h e i. item_no_else (around_of (outermost body)) u next rest i) (full_whole.below.ends positions.ListItem scope (outermost body))
      (λ s q g. full_whole.refuses f.1 positions.ListItem scope (outermost body) s q g) (length bs) f.0 (beginning bs known) r f.2 (omega arith) f.3 f.4).is

pub faulty_refused : (bs : List ℕ) (scope : List Seg) (body : Bool) (known : List Arity) (r : Refusal) → Faulty bs scope body known r → Fails bs scope body known r
unfolding term_list
faulty_refused bs scope body known r f = items_refused max_depth scope body bs known r f

pub with_refusal : (p : Outcome (List Tree) × State) (r : Refusal) → p.0 ≡ Err r → with_arities p ≡ Err r
with_refusal (Ok ts, s) r e = absurd (cc e)
with_refusal (Err q, s) r e = let same : q ≡ r = cc e in ap (λ (x : Refusal). Err x) same

pub table_refused : (bs : List ℕ) (known : List Arity) (r : Refusal) → Faulty bs [] false known r → table_reading bs known ≡ Err r
table_refused bs known r f = with_refusal (term_list by_arities bs [] false known) r (faulty_refused bs [] false known r f)

one_refusal : (x : Outcome (List Tree)) (r q : Refusal) → x ≡ Err r → x ≡ Err q → r ≡ q
one_refusal x r q e f = cc (e, f)

value_or_refusal : (x : Outcome (List Tree)) (ts : List Tree) (r : Refusal) → x ≡ Ok ts → x ≡ Err r → ⊥
value_or_refusal x ts r e f = cc (e, f)

pub one_fault : (bs : List ℕ) (scope : List Seg) (body : Bool) (known : List Arity) (r q : Refusal) → Faulty bs scope body known r → Faulty bs scope body known q → r ≡ q
one_fault bs scope body known r q f g = one_refusal (term_list by_arities bs scope body known).0 r q (faulty_refused bs scope body known r f) (faulty_refused bs scope body known q g)

pub spelled_no_fault : (bs : List ℕ) (scope : List Seg) (body : Bool) (known after : List Arity) (ts : List Tree) (r : Refusal) → IsSpelled body ts bs → MayStand scope body ts known after → Faulty bs scope body known r → ⊥
spelled_no_fault bs scope body known after ts r spelled stands f = value_or_refusal (term_list by_arities bs scope body known).0 ts r (list_read bs scope body known ts after spelled stands) (faulty_refused bs scope body known r f)
