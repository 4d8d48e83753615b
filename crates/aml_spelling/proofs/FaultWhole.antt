-- A list that is refused is faulty: it has the fault that is told.
use Rattle.std.proofs.Common.{◌≡◌, ℕ, zero, suc, ◌+◌, ◌<◌, List, [], ◌∷◌, ◌++◌, length, Bool, true, false, Option, Some, None, Ok, Err, refl, subst, ◌∙◌, sym, ap, length-append, arith, ◌⊎◌, inl, inr}
use Rattle.std.specs.Prelude.{◌&&◌, if◌then◌else◌}
use Rattle.ar_space.specs.Change.{give, stop, ◌>>=◌}
use Rattle.ar_space.specs.Outcome.{Outcome}
use Rattle.ar_space.specs.declared.refusal.Refusal.{Refusal}
use Rattle.ar_space.specs.declared.refusal.Refusal.TheVariants as refusals
use Rattle.ar_space.specs.declared.refusal.TermFault.TheVariants.{BadOpcode, TooDeep, NotInBody, Truncated}
use Rattle.aml_path.specs.declared.segment.Seg.{Seg}
use Rattle.aml_grammar.specs.declared.kinds.Class.{Class}
use Rattle.aml_grammar.specs.declared.kinds.Class.TheVariants as classes
use Rattle.aml_grammar.specs.declared.kinds.Row.{Row}
use Rattle.aml_arities.specs.declared.arities.Arity.{Arity}
use Rattle.aml_grammar.specs.declared.context.Position.{Position}
use Rattle.aml_grammar.specs.declared.context.Position.TheVariants as positions
use Rattle.aml_grammar.specs.declared.context.Context.{Context}
use Rattle.aml_grammar.specs.Opcodes.{number_of}
use Rattle.aml_grammar.specs.Table.{row_of}
use Rattle.aml_grammar.specs.Names.{starts_name}
use Rattle.aml_grammar.specs.State.{State, Step, peek, until_end}
use Rattle.aml_grammar.specs.Tree.{Tree}
use Rattle.aml_grammar.specs.Grammar.{Inner, is_module_level, stands, takes_name, costs_no_level, item_of, at_item, opcode, admitted_row, row_at, deeper, leveled, coded_term, named_term, named, begun, term_in, below, term_at, by_arities, max_depth, outermost, beginning, items, term_list, table_reading, with_arities, Fails}
use Rattle.aml_scan.specs.Spelling.{Around, list_item, may_stand, may_call, IsSpelled}
use Rattle.aml_scan.proofs.Takes.{takes_more, same_state, same_value, refused, both}
use Rattle.aml_scan.proofs.SpelledRows.{around_of, place_of, row_number, stands_may}
use Rattle.aml_scan.proofs.SpelledTerms.{list_spelled}
use Rattle.aml_spelling.specs.Stands.{cost, MayStand}
use Rattle.aml_spelling.specs.Faults.{Spot, Way, here, a_term, BeginsName, IsCode, may_be_name, only_outside, RowAt, NameAdmitted, NoTerm, AtTerm, FaultyAt, FaultyWithin, Faulty}
use Rattle.aml_spelling.proofs.EndsWhole.{ends_opcode, ends_term_at}
use Rattle.aml_spelling.proofs.FaultAlone.{term_alone}
use Rattle.aml_spelling.proofs.FaultApart.{takes_code}
use Rattle.aml_spelling.proofs.FaultCalls.{halts_element, halts_call}
use Rattle.aml_spelling.proofs.FaultKinds.{Below}
use Rattle.aml_spelling.proofs.FaultLists.{spot_of, InNext, halts_until}
use Rattle.aml_spelling.proofs.FaultNameStrings.{begins_name, begins_not}
use Rattle.aml_spelling.proofs.FaultParts.{part_code, first_missing}
use Rattle.aml_spelling.proofs.FaultTakesTerms.{takes_term_below}
use Rattle.aml_spelling.proofs.FaultTerms.{at_part, halts_row_term}
use Rattle.aml_spelling.proofs.Halts.{Halts, halts_then, halts_give, halts_stop, halts_more, halts_look, halts_if, halts_peek}
use Rattle.aml_spelling.proofs.LeavesWhole.{leaves_opcode, leaves_term_in, leaves_below, list_stands}
use Rattle.aml_spelling.proofs.RowFacts.{may_stands, cost_is}

moved_by : (a b c d e : ℕ) → b ≡ c + d → e + d ≡ a + b → e ≡ a + c
moved_by a b c d e f g = omega (arith, f, g)

-- ---- what is at a term's first bytes

at_no_term : (spot : Spot) (position : Position) → NoTerm spot (place_of position) → AtTerm spot (place_of position) (refusals.Term BadOpcode spot.at)
at_no_term spot positions.ListItem h = (h, refl)
at_no_term spot positions.TermArg h = (h, refl)
at_no_term spot positions.DataObject h = (h, refl)
at_no_term spot positions.PackageElement h = (h, refl)
at_no_term spot positions.SuperName h = (h, refl)

abbrev pub Outside : Spot → Position → Type 0
Outside spot position = (row : Row) × (code : List ℕ) × (back : List ℕ) × RowAt spot row code back × (only_outside spot.around row.1 (place_of position) ≡ true)

at_outside : (spot : Spot) (position : Position) → Outside spot position → AtTerm spot (place_of position) (refusals.Term NotInBody spot.at)
at_outside spot positions.ListItem h = (h.0, h.1, h.2, h.3, h.4, refl)
at_outside spot positions.TermArg h = (h.0, h.1, h.2, h.3, h.4, refl)
at_outside spot positions.DataObject h = (h.0, h.1, h.2, h.3, h.4, refl)
at_outside spot positions.PackageElement h = (h.0, h.1, h.2, h.3, h.4, refl)
at_outside spot positions.SuperName h = (h.0, h.1, h.2, h.3, h.4, refl)

abbrev pub Deep : Spot → Position → Type 0
Deep spot position =
    (BeginsName spot.rest × (may_be_name (place_of position) ≡ true) × (spot.levels ≡ 0))
    ⊎ ((row : Row) × (code : List ℕ) × (back : List ℕ) × RowAt spot row code back × (may_stand spot.around row.1 (place_of position) ≡ true) × (spot.levels < cost row.1 (place_of position)))

at_deep : (spot : Spot) (position : Position) → Deep spot position → AtTerm spot (place_of position) (refusals.Term TooDeep spot.item)
at_deep spot positions.ListItem h = (h, refl)
at_deep spot positions.TermArg h = (h, refl)
at_deep spot positions.DataObject h = (h, refl)
at_deep spot positions.PackageElement h = (h, refl)
at_deep spot positions.SuperName h = (h, refl)

-- ---- where rows may stand

may_not : (class : Class) (position : Position) (context : Context) → stands class position context ≡ false → (b : Bool) → may_stand (around_of context) class (place_of position) ≡ b → may_stand (around_of context) class (place_of position) ≡ false
may_not class position context e true is = absurd (cc (e, (may_stands class position context is).0))
may_not class position context e false is = is

not_outside : (class : Class) (position : Position) (context : Context) → stands class position context ≡ false → only_outside (around_of context) class (place_of position) ≡ false
not_outside classes.ModuleLevel positions.ListItem context e = absurd (cc e)
not_outside classes.ModuleLevel positions.TermArg context e = refl
not_outside classes.ModuleLevel positions.DataObject context e = refl
not_outside classes.ModuleLevel positions.PackageElement context e = refl
not_outside classes.ModuleLevel positions.SuperName context e = refl
not_outside _ position context e = refl

and_first : (b : Bool) → (b && true) ≡ true → b ≡ true
and_first true e = refl
and_first false e = absurd (cc e)

and_none : (b : Bool) → (b && false) ≡ true → ⊥
and_none true e = cc e
and_none false e = cc e

pub outside : (class : Class) (position : Position) (context : Context) → stands class position context ≡ true → (context.body && is_module_level class) ≡ true → only_outside (around_of context) class (place_of position) ≡ true
outside classes.ModuleLevel positions.ListItem context e f = and_first context.body f
outside classes.ModuleLevel positions.TermArg context e f = absurd (cc e)
outside classes.ModuleLevel positions.DataObject context e f = absurd (cc e)
outside classes.ModuleLevel positions.PackageElement context e f = absurd (cc e)
outside classes.ModuleLevel positions.SuperName context e f = absurd (cc e)
outside _ position context e f = absurd (and_none context.body f)

-- a row that is read may stand there
record Admits (position : Position) (context : Context) (o : Option Row) (row : Row) (s0 s1 : State) : Type 0 where
  pub found : o ≡ Some row
  pub kept : s0 ≡ s1
  pub standing : stands row.1 position context ≡ true
  pub within : (context.body && is_module_level row.1) ≡ false

admits_if : (position : Position) (context : Context) (start : ℕ) (row got : Row) (c d : Bool) (s0 s1 : State) → stands row.1 position context ≡ c → (context.body && is_module_level row.1) ≡ d
    → (if c then (if d then stop (refusals.Term NotInBody start) else give row) else stop (refusals.Term BadOpcode start)) s0 ≡ (Ok got, s1) → Admits position context (Some row) got s0 s1
unfolding stop give
admits_if position context start row got true false s0 s1 e f g =
    let same : row ≡ got = same_value g in
    record { found = ap (λ (x : Row). Some x) same; kept = same_state g; standing = subst (λ (x : Row). stands x.1 position context ≡ true) same e; within = subst (λ (x : Row). (context.body && is_module_level x.1) ≡ false) same f }
admits_if position context start row got true true s0 s1 e f g = absurd (refused g)
admits_if position context start row got false d s0 s1 e f g = absurd (refused g)

admits : (position : Position) (context : Context) (start : ℕ) (o : Option Row) (got : Row) (s0 s1 : State) → admitted_row position context start o s0 ≡ (Ok got, s1) → Admits position context o got s0 s1
unfolding stop
admits position context start None got s0 s1 e = absurd (refused e)
admits position context start (Some row) got s0 s1 e = admits_if position context start row got (stands row.1 position context) (context.body && is_module_level row.1) s0 s1 refl refl e

-- ---- terms

-- what is below a term: nothing, at the last level, or terms that have one level less
abbrev BelowHalts : ℕ → Option Inner → Type 0
BelowHalts levels None = levels ≡ 0
BelowHalts levels (Some inner_term) = (l : ℕ) × (levels ≡ suc l) × Below l inner_term

halts_deeper : {A : Type 0} {F : Refusal → Type 0} (levels : ℕ) (o : Option Inner) → BelowHalts levels o → (item : ℕ) (go : Inner → Step A) (s : State) → (levels ≡ 0 → F (refusals.Term TooDeep item))
    → ((l : ℕ) (inner_term : Inner) → levels ≡ suc l → Below l inner_term → Halts (go inner_term) s F) → Halts (deeper o item go) s F
unfolding deeper
halts_deeper levels None h item go s none i = halts_stop (refusals.Term TooDeep item) (none h)
halts_deeper levels (Some inner_term) h item go s none i = i h.0 inner_term h.1 h.2

name_place : (position : Position) (b : Bool) → takes_name position ≡ b → may_be_name (place_of position) ≡ b
name_place positions.ListItem b e = e
name_place positions.TermArg b e = e
name_place positions.DataObject b e = e
name_place positions.PackageElement b e = e
name_place positions.SuperName b e = e

module _ (levels : ℕ) (o : Option Inner) (h : BelowHalts levels o) (position : Position) (scope : List Seg) (context : Context) (item : ℕ) (in_item_at : context.item ≡ Some item) (s : State) (b : ℕ) (bs : List ℕ) (is : s.rest ≡ b ∷ bs) where
  abbrev spot_here : Spot
  spot_here = spot_of levels scope (around_of context) item s

  abbrev TermFault : Refusal → Type 0
  TermFault r = (way : Way) × FaultyAt way (a_term (place_of position)) spot_here r

  term_here : (r : Refusal) → AtTerm spot_here (place_of position) r → TermFault r
  unfolding FaultyAt
  term_here r k = (here, k)

  item_is : item_of context.item s.at ≡ item
  item_is = ap (λ (i : Option ℕ). item_of i s.at) in_item_at

  deep_fault : Deep spot_here position → TermFault (refusals.Term TooDeep (item_of context.item s.at))
  deep_fault k = subst (λ (i : ℕ). TermFault (refusals.Term TooDeep i)) (sym item_is) (term_here (refusals.Term TooDeep item) (at_deep spot_here position k))

  -- ---- rows

  row_there : (n : ℕ) (row : Row) (s0 : State) → row_of n ≡ Some row → opcode s ≡ (Ok n, s0) → (code : List ℕ) × (s.rest ≡ code ++ s0.rest) × IsCode (number_of row.0) code × (row_of (number_of row.0) ≡ Some row)
  row_there n row s0 found e =
      let t = (takes_code s).is n s0 e in
      let same : number_of row.0 ≡ n = row_number n row found in
      (t.0, t.1, subst (λ (m : ℕ). IsCode m t.0) (sym same) t.2, ap row_of same ∙ found)

  halts_admitted : (n : ℕ) (s0 : State) → opcode s ≡ (Ok n, s0) → starts_name b ≡ false → (p : Option Row) → row_of n ≡ p → Halts (admitted_row position context s.at p) s0 TermFault
  halts_admitted n s0 e other None found =
      let t = (takes_code s).is n s0 e in
      let first : BeginsName s.rest → ⊥ = λ k. begins_not b other (subst (λ (l : List ℕ). BeginsName l) is k) in
      halts_stop (refusals.Term BadOpcode s.at) (term_here (refusals.Term BadOpcode s.at) (at_no_term spot_here position (inr (inl (first, n, t.0, s0.rest, t.1, t.2, found)))))
  halts_admitted n s0 e other (Some row) found =
      let t = row_there n row s0 found e in
      halts_if (stands row.1 position context) (λ may. halts_if (context.body && is_module_level row.1)
      (λ out. halts_stop (refusals.Term NotInBody s.at) (term_here (refusals.Term NotInBody s.at) (at_outside spot_here position (row, t.0, s0.rest, (t.1, t.2, t.3), outside row.1 position context may out)))) (λ _. halts_give row))
      (λ may. halts_stop (refusals.Term BadOpcode s.at) (term_here (refusals.Term BadOpcode s.at) (at_no_term spot_here position (inr (inr (
        row,
        t.0,
        s0.rest,
        (t.1, t.2, t.3),
        may_not row.1 position context may (may_stand (around_of context) row.1 (place_of position)) refl,
        not_outside row.1 position context may,
      ))))))

  halts_row_at : starts_name b ≡ false → Halts (row_at position context s.at) s TermFault
  unfolding row_at
  halts_row_at other = halts_then (halts_more (part_code s spot_here (refl, refl)) (λ r k. term_here r (at_part spot_here position r (inr (inl k))))) (λ n s0 e. halts_admitted n s0 e other (row_of n) refl)

  -- what is known of a row that was read
  abbrev RowRead : Row → State → Type 0
  RowRead row s1 = (code : List ℕ) × (s.rest ≡ code ++ s1.rest) × IsCode (number_of row.0) code × (row_of (number_of row.0) ≡ Some row) × (s1.at ≡ s.at + length code) × (s1.arities ≡ s.arities) × (may_stand (around_of context) row.1 (place_of position) ≡ true)

  row_read : (row : Row) (s1 : State) → row_at position context s.at s ≡ (Ok row, s1) → RowRead row s1
  unfolding row_at
  row_read row s1 e =
      let p = both opcode (λ n. admitted_row position context s.at (row_of n)) s row s1 e in
      let a = admits position context s.at (row_of p.0) row p.1 s1 p.3 in
      let t = row_there p.0 row p.1 a.found p.2 in
      let n : length s.rest ≡ length t.0 + length p.1.rest = ap (λ (l : List ℕ). length l) t.1 ∙ length-append t.0 p.1.rest in
      let m : p.1.at ≡ s.at + length t.0 = moved_by s.at (length s.rest) (length t.0) (length p.1.rest) p.1.at n ((ends_opcode s).is p.0 p.1 p.2) in (
        t.0,
        t.1 ∙ ap (λ (u : State). t.0 ++ u.rest) a.kept,
        t.2,
        t.3,
        ap (λ (u : State). u.at) (sym a.kept) ∙ m,
        ap (λ (u : State). u.arities) (sym a.kept) ∙ (leaves_opcode s).is p.0 p.1 p.2,
        stands_may row.1 position context a.standing a.within,
      )

  halts_leveled : (row : Row) (s1 : State) → RowRead row s1 → Halts (leveled o position scope context s.at row) s1 TermFault
  halts_leveled row s1 t = halts_if (costs_no_level row.1 position) (λ _. halts_give _) (λ costs.
      let one : cost row.1 (place_of position) ≡ 1 = cost_is row.1 position false costs in
      halts_deeper levels o h (item_of context.item s.at) _ s1 (λ none. deep_fault (inr (row, t.0, s1.rest, (t.1, t.2, t.3), t.6, omega (arith, none, one))))
      (λ l inner_term less below_halts. halts_row_term levels l inner_term below_halts scope context item in_item_at position row t.0 s s1
      (record { found = t.3; spelled = t.2; taken = t.1; moved = t.4; knows = t.5; may = t.6; costs = omega (arith, less, one) })))

  halts_coded : starts_name b ≡ false → Halts (coded_term o position scope context s.at) s TermFault
  unfolding coded_term
  halts_coded other = halts_then (halts_row_at other) (λ row s1 e. halts_leveled row s1 (row_read row s1 e))

  -- ---- names

  begins : starts_name b ≡ true → BeginsName s.rest
  begins names = subst (λ (l : List ℕ). BeginsName l) (sym is) (begins_name b names)

  halts_named_term : (l : ℕ) (inner_term : Inner) → levels ≡ suc l → Below l inner_term → NameAdmitted spot_here (place_of position) → (p : Position) → position ≡ p → takes_name p ≡ true → Halts (named_term by_arities inner_term p scope context s.at) s TermFault
  halts_named_term l inner_term less below_halts admitted_name positions.PackageElement e may = halts_element levels l less scope context item in_item_at position s admitted_name
  halts_named_term l inner_term less below_halts admitted_name positions.ListItem e may = halts_call levels l less scope context item in_item_at position s admitted_name inner_term below_halts (ap (λ (q : Position). may_call (place_of q)) e) s.at
  halts_named_term l inner_term less below_halts admitted_name positions.TermArg e may = halts_call levels l less scope context item in_item_at position s admitted_name inner_term below_halts (ap (λ (q : Position). may_call (place_of q)) e) s.at
  halts_named_term l inner_term less below_halts admitted_name positions.DataObject e may = absurd (cc may)
  halts_named_term l inner_term less below_halts admitted_name positions.SuperName e may = absurd (cc may)

  halts_named : starts_name b ≡ true → Halts (named by_arities o position scope context s.at) s TermFault
  unfolding named
  halts_named names = record {
    is = λ r s2 e. (halts_if (takes_name position)
        (λ may. halts_deeper levels o h (item_of context.item s.at) (λ inner_term. named_term by_arities inner_term position scope context s.at) s (λ none. deep_fault (inl (begins names, name_place position true may, none)))
        (λ l inner_term less below_halts. halts_named_term l inner_term less below_halts (begins names, name_place position true may, omega (arith, less)) position refl may))
        (λ may. halts_stop (refusals.Term BadOpcode s.at) (term_here (refusals.Term BadOpcode s.at) (at_no_term spot_here position (inl (begins names, name_place position false may)))))).is r s2 e;
  }

  pub halts_begun : Halts (begun by_arities o position scope context s.at b) s TermFault
  halts_begun = halts_if (starts_name b) halts_named halts_coded

abbrev TermHaltsIn : ℕ → Inner → Type 0
TermHaltsIn levels inner_term = (position : Position) (scope : List Seg) (context : Context) (s : State)
    → Halts (inner_term position scope context) s (λ r. (way : Way) × FaultyAt way (a_term (place_of position)) (spot_of levels scope (around_of context) (item_of context.item s.at) s) r)

missing_code : (spot : Spot) (position : Position) (s : State) → s.at ≡ spot.at → s.rest ≡ spot.rest → s.rest ≡ [] → (way : Way) × FaultyAt way (a_term (place_of position)) spot (refusals.Term Truncated s.at)
unfolding FaultyAt
missing_code spot position s at same none = (here, at_part spot position (refusals.Term Truncated s.at) (inr (inl (first_missing s spot (at, same) (refusals.Term Truncated s.at) (refl, none)))))

halts_term_in : (levels : ℕ) (o : Option Inner) → BelowHalts levels o → TermHaltsIn levels (term_in by_arities o)
unfolding term_in
halts_term_in levels o h position scope context s = record {
  is = λ r s2 e. (halts_look (λ s. s.at) (λ start. peek >>= (λ b. begun by_arities o position scope (at_item context start) start b))
      (halts_peek (λ none. missing_code (spot_of levels scope (around_of context) (item_of context.item s.at) s) position s refl refl none)
      (λ b bs is. halts_begun levels o h position scope (at_item context s.at) (item_of context.item s.at) refl s b bs is))).is r s2 e;
}

at_level : (levels : ℕ) → BelowHalts levels (below by_arities levels) → Below levels (term_in by_arities (below by_arities levels))
at_level levels h = record {
  takes = takes_term_below by_arities levels;
  leaves = leaves_term_in levels (below by_arities levels) (leaves_below levels);
  ends = ends_term_at levels;
  alone = term_alone (below by_arities levels);
  halts = halts_term_in levels (below by_arities levels) h;
}

below_halts : (levels : ℕ) → BelowHalts levels (below by_arities levels)
unfolding below
below_halts zero = refl
below_halts (suc levels) = (levels, refl, at_level levels (below_halts levels))

-- what is known of terms with so many levels below them
pub below_at : (levels : ℕ) → Below levels (term_in by_arities (below by_arities levels))
below_at levels = at_level levels (below_halts levels)

-- ---- whole lists

module _ (levels : ℕ) (scope : List Seg) (body : Bool) where
  abbrev around_all : Around
  around_all = record { body = body; in_loop = false }

  abbrev an_item : Step Tree
  an_item = term_in by_arities (below by_arities levels) positions.ListItem scope (outermost body)

  -- an item of the handed-in list, whose offset is its own
  abbrev FaultyItem : Spot → Refusal → Type 0
  FaultyItem next r = (way : Way) × FaultyAt way (a_term list_item) (record next { item = next.at }) r

  abbrev InWhole : State → Refusal → Type 0
  InWhole s r = InNext levels scope around_all 0 list_item FaultyItem s r

  whole_level : Below levels (term_in by_arities (below by_arities levels))
  whole_level = at_level levels (below_halts levels)

  -- the list is read within so many levels
  abbrev list_read_so : List ℕ → List Arity → Outcome (List Tree) × State
  list_read_so bs known = items (term_at by_arities levels) positions.ListItem scope (outermost body) (beginning bs known)

  items_halt : (n : ℕ) (s : State) → Halts (until_end an_item n) s (InWhole s)
  items_halt n s = halts_until levels scope around_all 0 list_item FaultyItem an_item
      (λ s. takes_more (whole_level.takes positions.ListItem scope (outermost body) s) (λ t front rest h. h.0)) (whole_level.leaves positions.ListItem scope (outermost body))
      (whole_level.ends positions.ListItem scope (outermost body)) (whole_level.alone positions.ListItem scope (outermost body)) (λ s some. whole_level.halts positions.ListItem scope (outermost body) s) n s

  whole_halts : (bs : List ℕ) (known : List Arity) (r : Refusal) (s2 : State) → list_read_so bs known ≡ (Err r, s2) → InWhole (beginning bs known) r
  unfolding items term_at
  whole_halts bs known r s2 e = (items_halt (length bs) (beginning bs known)).is r s2 e

  pub items_faulty : (bs : List ℕ) (known : List Arity) (r : Refusal) → (list_read_so bs known).0 ≡ Err r → FaultyWithin levels bs scope body known r
  items_faulty bs known r h =
      let x = whole_halts bs known r (list_read_so bs known).1 (ap (λ (o : Outcome (List Tree)). (o, (list_read_so bs known).1)) h) in
      (x.0, x.3.0, x.1, x.2, x.3.1)

pub list_faulty : (scope : List Seg) (body : Bool) (bs : List ℕ) (known : List Arity) (r : Refusal) → Fails bs scope body known r → Faulty bs scope body known r
unfolding term_list
list_faulty scope body bs known r h = items_faulty max_depth scope body bs known r h

pub table_fails : (p : Outcome (List Tree) × State) (r : Refusal) → with_arities p ≡ Err r → p.0 ≡ Err r
table_fails (Ok ts, s) r e = absurd (cc e)
table_fails (Err q, s) r e = let same : q ≡ r = cc e in ap (λ (x : Refusal). Err x) same

pub table_faulty : (bs : List ℕ) (known : List Arity) (r : Refusal) → table_reading bs known ≡ Err r → Faulty bs [] false known r
table_faulty bs known r e = list_faulty [] false bs known r (table_fails (term_list by_arities bs [] false known) r e)

either_is : (bs : List ℕ) (scope : List Seg) (body : Bool) (known : List Arity) (x : Outcome (List Tree)) → (term_list by_arities bs scope body known).0 ≡ x
    → ((ts : List Tree) × IsSpelled body ts bs × (after : List Arity) × MayStand scope body ts known after) ⊎ ((r : Refusal) × Faulty bs scope body known r)
either_is bs scope body known (Ok ts) e = let k = list_stands bs scope body known ts e in inl (ts, list_spelled bs scope body known ts e, k.0, k.1)
either_is bs scope body known (Err r) e = inr (r, list_faulty scope body bs known r e)

-- a list is spelled and may stand, or it is faulty
pub list_either : (bs : List ℕ) (scope : List Seg) (body : Bool) (known : List Arity)
    → ((ts : List Tree) × IsSpelled body ts bs × (after : List Arity) × MayStand scope body ts known after) ⊎ ((r : Refusal) × Faulty bs scope body known r)
list_either bs scope body known = either_is bs scope body known (term_list by_arities bs scope body known).0 refl
