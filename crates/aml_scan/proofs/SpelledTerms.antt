-- Terms are read as they are spelled, whatever may be below them.
use Rattle.std.proofs.Common.{◌≡◌, ℕ, zero, suc, ◌<◌, List, [], ◌∷◌, ◌++◌, length, Bool, true, false, Option, Some, None, Ok, Err, refl, ◌∙◌, sym, ap, length-append, arith}
use Rattle.std.specs.Prelude.{◌==◌, ◌&&◌, not, if◌then◌else◌}
use Rattle.std.proofs.lemmas.List.{append-nil}
use Rattle.std.proofs.lemmas.Bool.{eqb-true}
use Rattle.ar_space.specs.Outcome.{Outcome}
use Rattle.ar_space.specs.declared.refusal.Refusal.TheVariants as refusals
use Rattle.ar_space.specs.declared.refusal.TermFault.TheVariants.{BadOpcode, TooDeep, NotInBody}
use Rattle.aml_path.specs.declared.segment.Seg.{Seg}
use Rattle.aml_path.specs.Paths.{Name}
use Rattle.aml_grammar.specs.declared.opcode.TermCode.TheVariants as codes
use Rattle.aml_grammar.specs.declared.kinds.Row.{Row}
use Rattle.aml_arities.specs.declared.arities.Arity.{Arity}
use Rattle.aml_grammar.specs.declared.context.Position.{Position}
use Rattle.aml_grammar.specs.declared.context.Position.TheVariants as positions
use Rattle.aml_grammar.specs.declared.context.Context.{Context}
use Rattle.aml_grammar.specs.Opcodes.{number_of}
use Rattle.aml_grammar.specs.Table.{row_of}
use Rattle.aml_grammar.specs.Names.{starts_name}
use Rattle.aml_grammar.specs.State.{State, Step, marking}
use Rattle.aml_grammar.specs.Tree.{Tree, term, no_parts}
use Rattle.aml_grammar.specs.Grammar.{Inner, Counting, Reads, is_nothing, is_if, is_module_level, at_item, item_of, stands, costs_no_level, takes_name as may_be_name, opcode, admitted_row, row_at, deeper, leveled, coded_term, element_name, argument_number, invocation, named_term, named, begun, term_in, below, term_at, by_arities, max_depth, outermost, beginning, term_list, with_arities, table_reading}
use Rattle.aml_scan.specs.Spelling.{Around, Place, may_stand, may_call, IsOpcode, Spells, IsSpelled}
use Rattle.aml_scan.proofs.Takes.{Takes, Relation, takes_as, takes_then, takes_more, takes_map, takes_give, takes_stop, takes_look, takes_settle, takes_if, takes_byte, takes_peek, takes_times, same_state}
use Rattle.aml_scan.proofs.SpelledNames.{takes_name, name_some}
use Rattle.aml_scan.proofs.SpelledParts.{TermTakes, each_all, takes_items}
use Rattle.aml_scan.proofs.SpelledRowTerms.{SpellsRow, takes_row_term}
use Rattle.aml_scan.proofs.SpelledRows.{around_of, place_of, stands_may, same_else, kinds_end, costs_none, costs_nothing, row_number, row_is_bare}

-- ---- opcodes

takes_opcode : (s : State) → Takes opcode s (λ n front rest. IsOpcode n front)
unfolding opcode
takes_opcode s = takes_then (takes_byte s) (λ b f s1 h. takes_if (b == 0x5B) (λ extended. takes_map _ (takes_byte s1) (λ e g rest i. rw (h, i) (eqb-true b 0x5B extended, refl))) (λ _. takes_give b (rw h refl)))

opcode_some : (n : ℕ) (code : List ℕ) → IsOpcode n code → 0 < length code
opcode_some n [] h = absurd h
opcode_some n (b ∷ bs) h = omega arith

-- the row of a term's opcode, which may stand in this position
abbrev IsRow : Context → Position → ℕ → Relation Row
IsRow context position n row front rest = (front ≡ []) × (row_of n ≡ Some row) × (may_stand (around_of context) row.1 (place_of position) ≡ true)

takes_admitted : (position : Position) (context : Context) (start n : ℕ) (o : Option Row) (s : State) → row_of n ≡ o → Takes (admitted_row position context start o) s (IsRow context position n)
takes_admitted position context start n None s is = takes_stop (refusals.Term BadOpcode start)
takes_admitted position context start n (Some row) s is =
    takes_if (stands row.1 position context) (λ may. takes_if (context.body && is_module_level row.1) (λ _. takes_stop (refusals.Term NotInBody start)) (λ out. takes_give row (refl, is, stands_may row.1 position context may out)))
    (λ _. takes_stop (refusals.Term BadOpcode start))

takes_row : (position : Position) (context : Context) (start : ℕ) (s : State) → Takes (row_at position context start) s (λ row front rest. (row_of (number_of row.0) ≡ Some row) × (may_stand (around_of context) row.1 (place_of position) ≡ true) × IsOpcode (number_of row.0) front)
unfolding row_at
takes_row position context start s = takes_then (takes_opcode s) (λ n f s1 h. takes_more (takes_admitted position context start n (row_of n) s1 refl) (λ row g rest i.
    rw (i.0, append-nil, row_number n row i.1) (i.1, i.2, h)))

-- ---- levels

-- what is below a term is spelled so
abbrev BelowTakes : Option Inner → Type 0
BelowTakes None = Unit {0}
BelowTakes (Some inner_term) = TermTakes inner_term

takes_deeper : {A : Type 0} {R : Relation A} (below : Option Inner) → BelowTakes below → (item : ℕ) (go : Inner → Step A) (s : State) → ((inner_term : Inner) → TermTakes inner_term → Takes (go inner_term) s R) → Takes (deeper below item go) s R
unfolding deeper
takes_deeper None h item go s i = takes_stop (refusals.Term TooDeep item)
takes_deeper (Some inner_term) h item go s i = i inner_term h

bare_parts : (c p n i : Bool) → (if c then not p && (n && not i) else true) ≡ true → c ≡ true → (p ≡ false) × (n ≡ true) × (i ≡ false)
bare_parts false p n i e is = absurd (cc is)
bare_parts true true n i e is = absurd (cc e)
bare_parts true false false i e is = absurd (cc e)
bare_parts true false true true e is = absurd (cc e)
bare_parts true false true false e is = (refl, refl, refl)

bare_row : (around : Around) (n : ℕ) (row : Row) (rest : List ℕ) → row_of n ≡ Some row → costs_none row.1 ≡ true → SpellsRow around row (term (codes.Opcode row.0) no_parts) [] rest
unfolding Spells
bare_row around n row rest is none =
    let bare = bare_parts (costs_none row.1) row.2 (is_nothing row.3.0) (is_if row.0) (row_is_bare n row is) none in
    (no_parts, refl, [], [], refl, [], rw bare.0 refl, rw (same_else row.0, bare.2, kinds_end row.3.0 _ bare.1) (refl, refl))

takes_leveled : (below : Option Inner) → BelowTakes below → (position : Position) (scope : List Seg) (context : Context) (start : ℕ) (row : Row) (s : State) → row_of (number_of row.0) ≡ Some row
    → Takes (leveled below position scope context start row) s (SpellsRow (around_of context) row)
takes_leveled below h position scope context start row s is =
    takes_if (costs_no_level row.1 position) (λ none. takes_give _ (bare_row (around_of context) (number_of row.0) row s.rest is (costs_nothing row.1 position none)))
    (λ _. takes_deeper below h (item_of context.item start) _ s (λ inner_term inner_takes. takes_row_term inner_term inner_takes scope context start (number_of row.0) row s is))

-- a term is spelled so, by a byte at least
abbrev IsTerm : Around → Place → Relation Tree
IsTerm around place t front rest = Spells around place t front × (0 < length front)

takes_coded : (below : Option Inner) → BelowTakes below → (position : Position) (scope : List Seg) (context : Context) (start : ℕ) (s : State) → Takes (coded_term below position scope context start) s (IsTerm (around_of context) (place_of position))
unfolding coded_term Spells
takes_coded below h position scope context start s = takes_then (takes_row position context start s) (λ row code s1 i. takes_more (takes_leveled below h position scope context start row s1 i.0) (λ t g rest j.
    let some : 0 < length (code ++ g) = rw length-append (omega (arith, opcode_some (number_of row.0) code i.2)) in
    (rw j.1 (row, i.0, i.1, code, j.2, j.3, rw j.4 refl, i.2, j.5, j.6, j.7), some)))

-- ---- names

takes_element_name : (around : Around) (s : State) → Takes element_name s (IsTerm around (place_of positions.PackageElement))
unfolding element_name Spells
takes_element_name around s = takes_map _ (takes_name s) (λ n front rest h. (h, name_some n front h))

marked_state : (start n : ℕ) (s : State) (b : Bool) → (n == 0) ≡ b → (marking start n s).rest ≡ s.rest
marked_state start n s true is = rw is refl
marked_state start n s false is = rw is refl

module _ (counting : Counting) where
  takes_argument_number : (start : ℕ) (scope : List Seg) (n : Name) (path : List Seg) (s : State) → Takes (argument_number counting start scope n path) s (λ count front rest. front ≡ [])
  unfolding argument_number
  takes_argument_number start scope n path s = record { is = λ count s2 e. ([], sym (marked_state start (counting start scope n path s) s (counting start scope n path s == 0) refl) ∙ ap (λ (t : State). t.rest) (same_state e), refl) }

  takes_invocation : (inner_term : Inner) → TermTakes inner_term → (place : Place) → may_call place ≡ true → (scope : List Seg) (context : Context) (start : ℕ) (s : State) → Takes (invocation counting inner_term scope context start) s (IsTerm (around_of context) place)
  unfolding invocation Spells
  takes_invocation inner_term inner_takes place may scope context start s = takes_then (takes_name s) (λ n f s1 h. takes_settle (λ path _. takes_then (takes_argument_number start scope n path s1) (λ count g s2 i.
      takes_map _ (takes_times {P = λ (t : Tree) (front : List ℕ). Spells (around_of context) (place_of positions.TermArg) t front} (inner_term positions.TermArg scope context) (λ s. takes_more (inner_takes positions.TermArg scope context s) (λ t front rest j. j.0)) count s2) (λ ts k rest j.
      let some : 0 < length (f ++ k) = rw length-append (omega (arith, name_some n f h)) in
      rw i ((may, f, k, refl, h, each_all (around_of context) (place_of positions.TermArg) ts k j.1), some)))))

  takes_named_term : (inner_term : Inner) → TermTakes inner_term → (position : Position) (scope : List Seg) (context : Context) (start : ℕ) (s : State) → may_be_name position ≡ true → Takes (named_term counting inner_term position scope context start) s (IsTerm (around_of context) (place_of position))
  takes_named_term inner_term inner_takes positions.PackageElement scope context start s may = takes_element_name (around_of context) s
  takes_named_term inner_term inner_takes positions.ListItem scope context start s may = takes_invocation inner_term inner_takes (place_of positions.ListItem) refl scope context start s
  takes_named_term inner_term inner_takes positions.TermArg scope context start s may = takes_invocation inner_term inner_takes (place_of positions.TermArg) refl scope context start s
  takes_named_term inner_term inner_takes positions.DataObject scope context start s may = absurd (cc may)
  takes_named_term inner_term inner_takes positions.SuperName scope context start s may = absurd (cc may)

  takes_named : (below : Option Inner) → BelowTakes below → (position : Position) (scope : List Seg) (context : Context) (start : ℕ) (s : State) → Takes (named counting below position scope context start) s (IsTerm (around_of context) (place_of position))
  unfolding named
  takes_named below h position scope context start s = takes_as refl (takes_if (may_be_name position) (λ may. takes_deeper below h (item_of context.item start) _ s (λ inner_term inner_takes. takes_named_term inner_term inner_takes position scope context start s may))
      (λ _. takes_stop (refusals.Term BadOpcode start)))

  -- ---- terms

  takes_begun : (below : Option Inner) → BelowTakes below → (position : Position) (scope : List Seg) (context : Context) (start b : ℕ) (s : State) → Takes (begun counting below position scope context start b) s (IsTerm (around_of context) (place_of position))
  takes_begun below h position scope context start b s = takes_if (starts_name b) (λ _. takes_named below h position scope context start s) (λ _. takes_coded below h position scope context start s)

  takes_term_in : (below : Option Inner) → BelowTakes below → TermTakes (term_in counting below)
  unfolding term_in
  takes_term_in below h position scope context s = takes_as refl (takes_look (λ s. s.at) _ (takes_peek (λ b bs is. takes_begun below h position scope (at_item context s.at) s.at b s)))

  takes_below : (levels : ℕ) → BelowTakes (below counting levels)
  unfolding below
  takes_below zero = tt
  takes_below (suc levels) = takes_term_in (below counting levels) (takes_below levels)

  takes_term_at : (levels : ℕ) → TermTakes (term_at counting levels)
  unfolding term_at
  takes_term_at levels = takes_term_in (below counting levels) (takes_below levels)

-- ---- whole lists

whole : (bs front rest : List ℕ) → bs ≡ front ++ rest → rest ≡ [] → front ≡ bs
whole bs front rest is none = sym (is ∙ rw (none, append-nil) refl)

pub list_spelled : (bs : List ℕ) (scope : List Seg) (body : Bool) (known : List Arity) (ts : List Tree) → Reads bs scope body known ts → IsSpelled body ts bs
unfolding term_list
list_spelled bs scope body known ts h =
    let all = term_list by_arities bs scope body known in
    let x = (takes_items (term_at by_arities max_depth) (takes_term_at by_arities max_depth) positions.ListItem scope (outermost body) (beginning bs known)).is ts all.1 (ap (λ (o : Outcome (List Tree)). (o, all.1)) h) in
    rw (← whole bs x.0 all.1.rest x.1 x.2.1) x.2.0

table_read : (p : Outcome (List Tree) × State) (ts : List Tree) (after : List Arity) → with_arities p ≡ Ok (ts, after) → p.0 ≡ Ok ts
table_read (Ok us, s) ts after h =
    let x : List Tree × List Arity = (us, s.arities) in
    let y : List Tree × List Arity = (ts, after) in
    let same : x ≡ y = cc h in
    ap (λ (z : List Tree × List Arity). Ok z.0) same
table_read (Err r, s) ts after h = absurd (cc h)

pub table_spelled : (bs : List ℕ) (known : List Arity) (ts : List Tree) (after : List Arity) → table_reading bs known ≡ Ok (ts, after) → IsSpelled false ts bs
table_spelled bs known ts after h = list_spelled bs [] false known ts (table_read (term_list by_arities bs [] false known) ts after h)
