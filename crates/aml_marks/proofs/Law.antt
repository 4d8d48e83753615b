-- Where reading by arities gives trees, reading by the marks that it leaves gives the same trees, and the marks ascend.
use Rattle.std.proofs.Common.{◌≡◌, ℕ, zero, suc, ◌+◌, List, [], ◌∷◌, Bool, true, false, Option, Some, None, Ok, Err, refl, ◌∙◌, sym, ap, arith}
use Rattle.std.proofs.lemmas.Bool.Decides.{nat_tests}
use Rattle.std.specs.Prelude.{not, nat_lt, ◌≤◌, ◌==◌, ◌&&◌, if◌then◌else◌}
use Rattle.std.specs.List.{find, list_all}
use Rattle.ar_space.specs.Outcome.{Outcome}
use Rattle.ar_space.specs.declared.refusal.Refusal.{Refusal}
use Rattle.ar_space.specs.declared.refusal.Refusal.TheVariants as refusals
use Rattle.ar_space.specs.declared.refusal.TermFault.TheVariants.{BadOpcode, TooDeep, NotInBody}
use Rattle.ar_space.specs.Change.{give, stop, go_on, ◌>>=◌}
use Rattle.aml_path.specs.declared.segment.Seg.{Seg}
use Rattle.aml_grammar.specs.declared.opcode.TermCode.TheVariants as codes
use Rattle.aml_grammar.specs.declared.kinds.Class.{Class}
use Rattle.aml_grammar.specs.declared.kinds.Class.TheVariants as classes
use Rattle.aml_grammar.specs.declared.kinds.Row.{Row}
use Rattle.aml_grammar.specs.declared.context.Position.{Position}
use Rattle.aml_grammar.specs.declared.context.Position.TheVariants as positions
use Rattle.aml_grammar.specs.declared.context.Context.{Context}
use Rattle.aml_arities.specs.declared.arities.Arity.{Arity}
use Rattle.aml_grammar.specs.State.{State, Step, fault, byte}
use Rattle.aml_grammar.specs.Names.{starts_name}
use Rattle.aml_grammar.specs.Opcodes.{number_of}
use Rattle.aml_grammar.specs.Table.{table, row_of}
use Rattle.aml_grammar.specs.Tree.{Tree, term, name}
use Rattle.aml_grammar.specs.Shape.{parts_of}
use Rattle.aml_grammar.specs.Grammar.{Inner, Counting, stands, takes_name as may_be_name, costs_no_level, is_module_level, is_if, is_nothing, item_of, at_item, row_term, opcode, admitted_row, row_at, deeper, leveled, coded_term, element_name, named_term, named, term_in, below, term_at, by_arities, max_depth, levels_allowed, outermost, term_list, term_list_within, beginning}
use Rattle.aml_marks.specs.Marked.{Place, place_of, Walk, Below, after, gives, a_byte, inside, all_operands, of_row, with_row, an_opcode, a_coded, a_named, a_term_in, a_term, Ascending, count_at, walk_levels, trees_by}
use Rattle.aml_marks.proofs.Follows.{refused, Follows, follows_then, follows_give, follows_stop, follows_as, follows_only_if, follows_map, follows_look, follows_peek}
use Rattle.aml_marks.proofs.Moves.{follows_takes}
use Rattle.aml_marks.proofs.Leaves.{takes_byte}
use Rattle.aml_marks.proofs.LeafNames.{takes_name}
use Rattle.aml_marks.proofs.Inners.{is_element, Inners, follows_items, follows_row_term}
use Rattle.aml_marks.proofs.Calls.{follows_call}

-- ---- the rows that cost no level have no operands

abbrev is_bare : Row → Bool
is_bare row = if costs_no_level row.1 positions.SuperName then not row.2 && (is_nothing row.3.0 && not (is_if row.0)) else true

all_bare : list_all is_bare table ≡ true
all_bare = refl

found_step : {A : Type 0} (p q : A → Bool) (x y : A) (xs : List A) → (find p xs ≡ Some y → list_all q xs ≡ true → q y ≡ true) → (b c : Bool) → q x ≡ c → (if b then Some x else find p xs) ≡ Some y → (c && list_all q xs) ≡ true → q y ≡ true
found_step p q x y xs ih true true e is all = let same : x ≡ y = cc is in rw (← same) e
found_step p q x y xs ih false true e is all = ih is all
found_step p q x y xs ih b false e is all = absurd (cc all)

found_all : {A : Type 0} (p q : A → Bool) (xs : List A) (y : A) → find p xs ≡ Some y → list_all q xs ≡ true → q y ≡ true
found_all p q [] y is all = absurd (cc is)
found_all p q (x ∷ xs) y is all = found_step p q x y xs (found_all p q xs y) (p x) (q x) refl is all

row_bare : (n : ℕ) (row : Row) → row_of n ≡ Some row → is_bare row ≡ true
unfolding row_of
row_bare n row is = found_all (λ r. number_of r.0 == n) is_bare table row is all_bare

bare_parts : (c p n i : Bool) → (if c then not p && (n && not i) else true) ≡ true → c ≡ true → (p ≡ false) × (n ≡ true) × (i ≡ false)
bare_parts false p n i e is = absurd (cc is)
bare_parts true true n i e is = absurd (cc e)
bare_parts true false false i e is = absurd (cc e)
bare_parts true false true true e is = absurd (cc e)
bare_parts true false true false e is = (refl, refl, refl)

costs_none : (c : Class) (position : Position) → costs_no_level c position ≡ true → costs_no_level c positions.SuperName ≡ true
costs_none classes.DebugObject position e = refl
costs_none classes.Slot position e = refl
costs_none c position e = absurd (cc e)

-- ---- terms

module _ (counting : Counting) (count : ℕ → ℕ) where
  abbrev Belows : Option Inner → Below → Type 0
  Belows None b = Unit {0}
  Belows (Some i) b = Inners count i b

  stopped : {A B : Type 0} {w : Walk B} {s : State} (r : Refusal) (k : A → Step B) → Follows count (stop r >>= k) w s
  unfolding stop ◌>>=◌ go_on
  stopped r k = record { is = λ a s2 e. absurd (refused e) }

  gone_on : {A B : Type 0} {w : Walk B} {s : State} (a : A) (k : A → Step B) → Follows count (k a) w s → Follows count (give a >>= k) w s
  unfolding give ◌>>=◌ go_on
  gone_on a k h = record { is = λ b s2 e. h.is b s2 e }

  admitted_if : {w : Walk Tree} (start : ℕ) (row : Row) (s : State) (k : Row → Step Tree) (may out : Bool) → Follows count (k row) w s → Follows count ((if may then (if out then fault NotInBody start else give row) else fault BadOpcode start) >>= k) w s
  admitted_if start row s k true true h = stopped _ k
  admitted_if start row s k true false h = gone_on row k h
  admitted_if start row s k false out h = stopped _ k

  joined : {A B C : Type 0} (o : Outcome A) (t : State) (k : A → Step B) (l : B → Step C) → go_on (go_on o t k).0 (go_on o t k).1 l ≡ go_on o t (λ a. k a >>= l)
  unfolding ◌>>=◌ go_on
  joined (Ok a) t k l = refl
  joined (Err e) t k l = refl

  regrouped : {A B C : Type 0} {w : Walk C} {s : State} (m : Step A) (k : A → Step B) (l : B → Step C) → Follows count (m >>= (λ a. k a >>= l)) w s → Follows count ((m >>= k) >>= l) w s
  unfolding ◌>>=◌
  regrouped {s = s} m k l h = record { is = λ c s2 e. h.is c s2 (sym (joined (m s).0 (m s).1 k l) ∙ e) }

  code_if : (n : ℕ) (s : State) (two : Bool) → Follows count (if two then (byte >>= (λ e. give (0x5B00 + e))) else give n) (if two then after a_byte (λ e. gives (0x5B00 + e)) else gives n) s
  code_if n s true = follows_map (λ e. 0x5B00 + e) (follows_takes (takes_byte s))
  code_if n s false = follows_give n

  follows_opcode : (s : State) → Follows count opcode an_opcode s
  unfolding opcode an_opcode
  follows_opcode s = follows_then (follows_takes (takes_byte s)) (λ c s1 g. code_if c s1 (c == 0x5B))

  module _ (o : Option Inner) (b : Below) (h : Belows o b) where
    deep : {A : Type 0} {w : Walk A} (o : Option Inner) → Belows o b → (item : ℕ) (go : Inner → Step A) (s : State) → ((i : Inner) → Inners count i b → Follows count (go i) w s) → Follows count (deeper o item go) w s
    unfolding deeper
    deep None h item go s k = follows_stop (refusals.Term TooDeep item)
    deep (Some i) h item go s k = k i h

    bare_walk : (row : Row) (s : State) → row.2 ≡ false → is_nothing row.3.0 ≡ true → is_if row.0 ≡ false → with_row b (Some row) (place_of s) ≡ gives (term (codes.Opcode row.0) (parts_of [])) (place_of s)
    unfolding with_row of_row inside all_operands after gives
    bare_walk row s is1 is2 is3 = rw (is1, is2, is3) refl

    leveled_if : (position : Position) (scope : List Seg) (context : Context) (start n : ℕ) (row : Row) (s : State) (c : Bool) → row_of n ≡ Some row → costs_no_level row.1 position ≡ c → Follows count (if c then give (term (codes.Opcode row.0) (parts_of [])) else deeper o (item_of context.item start) (λ i. row_term i scope context start row)) (with_row b (Some row)) s
    leveled_if position scope context start n row s true is costs =
        let parts = bare_parts (costs_no_level row.1 positions.SuperName) row.2 (is_nothing row.3.0) (is_if row.0) (row_bare n row is) (costs_none row.1 position costs) in
        follows_as (bare_walk row s parts.0 parts.1 parts.2) (follows_give (term (codes.Opcode row.0) (parts_of [])))
    leveled_if position scope context start n row s false is costs = deep o h (item_of context.item start) (λ i. row_term i scope context start row) s (λ i hi. follows_row_term count i b hi scope context start row s)

    rowed : (position : Position) (scope : List Seg) (context : Context) (start n : ℕ) (r : Option Row) (s : State) → row_of n ≡ r → Follows count (admitted_row position context start r >>= (λ row. leveled o position scope context start row)) (with_row b r) s
    rowed position scope context start n None s is = stopped _ _
    rowed position scope context start n (Some row) s is = admitted_if start row s (λ row. leveled o position scope context start row) (stands row.1 position context) (context.body && is_module_level row.1) (leveled_if position scope context start n row s (costs_no_level row.1 position) is refl)

    follows_coded : (position : Position) (scope : List Seg) (context : Context) (start : ℕ) (s : State) → Follows count (coded_term o position scope context start) (a_coded b) s
    unfolding coded_term row_at a_coded
    follows_coded position scope context start s = regrouped _ _ _ (follows_then (follows_opcode s) (λ n s1 g. rowed position scope context start n (row_of n) s1 refl))

    follows_element : (s : State) → Follows count element_name (a_named b count true) s
    unfolding element_name
    follows_element s = follows_map (λ n. term codes.Name (parts_of (name n ∷ []))) (follows_takes (takes_name s))

    named_position : (i : Inner) → Inners count i b → (position : Position) (scope : List Seg) (context : Context) (s : State) → may_be_name position ≡ true → Follows count (named_term counting i position scope context s.at) (a_named b count (is_element position)) s
    named_position i hi positions.PackageElement scope context s may = follows_element s
    named_position i hi positions.ListItem scope context s may = follows_call counting count i b hi scope context s
    named_position i hi positions.TermArg scope context s may = follows_call counting count i b hi scope context s
    named_position i hi positions.DataObject scope context s may = absurd (cc may)
    named_position i hi positions.SuperName scope context s may = absurd (cc may)

    follows_named : (position : Position) (scope : List Seg) (context : Context) (s : State) → Follows count (named counting o position scope context s.at) (a_named b count (is_element position)) s
    unfolding named
    follows_named position scope context s = follows_only_if (may_be_name position) (λ may. deep o h (item_of context.item s.at) _ s (λ i hi. named_position i hi position scope context s may)) (λ other. follows_stop (refusals.Term BadOpcode s.at))

    begun_if : (position : Position) (scope : List Seg) (context : Context) (s : State) (test : Bool) → Follows count (if test then named counting o position scope context s.at else coded_term o position scope context s.at) (if test then a_named b count (is_element position) else a_coded b) s
    begun_if position scope context s true = follows_named position scope context s
    begun_if position scope context s false = follows_coded position scope context s.at s

    follows_term : (position : Position) (scope : List Seg) (context : Context) (s : State) → Follows count (term_in counting o position scope context) (a_term_in b count (is_element position)) s
    unfolding term_in a_term_in
    follows_term position scope context s = follows_look (λ (s : State). s.at) _ (follows_peek (λ c is. follows_as (rw is refl) (begun_if position scope (at_item context s.at) s (starts_name c))))

  follows_below : (levels : ℕ) → Belows (below counting levels) (a_term count levels)
  unfolding below a_term
  follows_below zero = tt
  follows_below (suc levels) = λ position scope context s. follows_term (below counting levels) (a_term count levels) (follows_below levels) position scope context s

  inners_at : Inners count (term_at counting max_depth) (a_term count walk_levels)
  unfolding term_at a_term
  inners_at position scope context s = follows_term (below counting max_depth) (a_term count max_depth) (follows_below max_depth) position scope context s

  -- the walk may have more levels than the grammar
  follows_above : (levels more : ℕ) → levels ≤ more → Belows (below counting levels) (a_term count more)
  unfolding below a_term
  follows_above zero more le = tt
  follows_above (suc levels) zero le = absurd (omega (arith, le))
  follows_above (suc levels) (suc more) le = λ position scope context s. follows_term (below counting levels) (a_term count more) (follows_above levels more (omega (arith, le))) position scope context s

  inners_within : (levels : ℕ) → levels ≤ max_depth → Inners count (term_at counting levels) (a_term count walk_levels)
  unfolding term_at a_term
  inners_within levels le position scope context s = follows_term (below counting levels) (a_term count max_depth) (follows_above levels max_depth le) position scope context s

-- ---- whole lists

list_gone : (counting : Counting) (bs : List ℕ) (scope : List Seg) (body : Bool) (known : List Arity) (ts : List Tree) (s : State) → term_list counting bs scope body known ≡ (Ok ts, s) → (trees_by s.marks bs ≡ ts) × Ascending s.marks
unfolding term_list
list_gone counting bs scope body known ts s e =
    let count = count_at s.marks in
    let x = (follows_items count (term_at counting max_depth) (a_term count walk_levels) (inners_at counting count) positions.ListItem scope (outermost body) (beginning bs known)).is ts s e in
    (ap (λ (r : List Tree × Place). r.0) (x.1 (λ o lt. refl) (tt, tt)), (x.0.kept (tt, tt)).0)

-- the trees of a list are those that its marks give
pub one_list : (bs : List ℕ) (scope : List Seg) (body : Bool) (known : List Arity) (ts : List Tree) (s : State) → term_list by_arities bs scope body known ≡ (Ok ts, s) → trees_by s.marks bs ≡ ts
one_list bs scope body known ts s e = (list_gone by_arities bs scope body known ts s e).0

-- and the marks ascend
pub marks_ascend : (bs : List ℕ) (scope : List Seg) (body : Bool) (known : List Arity) (ts : List Tree) (s : State) → term_list by_arities bs scope body known ≡ (Ok ts, s) → Ascending s.marks
marks_ascend bs scope body known ts s e = (list_gone by_arities bs scope body known ts s e).1

-- ---- lists within the levels that a setting allows

allowed_few : (levels : ℕ) (b : Bool) → nat_lt levels max_depth ≡ b → (if b then levels else max_depth) ≤ max_depth
allowed_few levels true e = grind (arith, nat_tests, e)
allowed_few levels false e = omega arith

list_gone_within : (levels : ℕ) (counting : Counting) (bs : List ℕ) (scope : List Seg) (body : Bool) (known : List Arity) (ts : List Tree) (s : State) → term_list_within levels counting bs scope body known ≡ (Ok ts, s) → (trees_by s.marks bs ≡ ts) × Ascending s.marks
unfolding term_list_within
list_gone_within levels counting bs scope body known ts s e =
    let count = count_at s.marks in
    let n = levels_allowed levels in
    let few : n ≤ max_depth = allowed_few levels (nat_lt levels max_depth) refl in
    let x = (follows_items count (term_at counting n) (a_term count walk_levels) (inners_within counting count n few) positions.ListItem scope (outermost body) (beginning bs known)).is ts s e in
    (ap (λ (r : List Tree × Place). r.0) (x.1 (λ o lt. refl) (tt, tt)), (x.0.kept (tt, tt)).0)

pub one_list_within : (levels : ℕ) (bs : List ℕ) (scope : List Seg) (body : Bool) (known : List Arity) (ts : List Tree) (s : State) → term_list_within levels by_arities bs scope body known ≡ (Ok ts, s) → trees_by s.marks bs ≡ ts
one_list_within levels bs scope body known ts s e = (list_gone_within levels by_arities bs scope body known ts s e).0

pub marks_ascend_within : (levels : ℕ) (bs : List ℕ) (scope : List Seg) (body : Bool) (known : List Arity) (ts : List Tree) (s : State) → term_list_within levels by_arities bs scope body known ≡ (Ok ts, s) → Ascending s.marks
marks_ascend_within levels bs scope body known ts s e = (list_gone_within levels by_arities bs scope body known ts s e).1
