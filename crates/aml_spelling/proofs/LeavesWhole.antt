-- Terms may stand where they are read, and so may a whole list.
use Rattle.std.proofs.Common.{◌≡◌, ℕ, zero, suc, List, [], ◌∷◌, ◌++◌, Bool, true, false, Option, Some, None, Ok, Err, refl, subst, ◌∙◌, sym, ap, arith}
use Rattle.std.specs.Prelude.{◌==◌, ◌&&◌, if◌then◌else◌}
use Rattle.ar_space.specs.Outcome.{Outcome}
use Rattle.ar_space.specs.declared.refusal.Refusal.TheVariants as refusals
use Rattle.ar_space.specs.declared.refusal.TermFault.TheVariants.{BadOpcode, TooDeep, NotInBody}
use Rattle.ar_space.specs.Change.{◌>>=◌}
use Rattle.aml_path.specs.declared.segment.Seg.{Seg}
use Rattle.aml_path.specs.Paths.{Name}
use Rattle.aml_grammar.specs.declared.kinds.OperandKind.{OperandKind}
use Rattle.aml_grammar.specs.declared.kinds.Row.{Row}
use Rattle.aml_arities.specs.declared.arities.Arity.{Arity}
use Rattle.aml_grammar.specs.declared.context.Position.{Position}
use Rattle.aml_grammar.specs.declared.context.Position.TheVariants as positions
use Rattle.aml_grammar.specs.declared.context.Context.{Context}
use Rattle.aml_arities.specs.Arities.{arity_of}
use Rattle.aml_grammar.specs.Opcodes.{number_of}
use Rattle.aml_grammar.specs.Table.{row_of}
use Rattle.aml_grammar.specs.Names.{starts_name}
use Rattle.aml_grammar.specs.State.{State, Step, times}
use Rattle.aml_grammar.specs.Tree.{Tree, no_parts}
use Rattle.aml_grammar.specs.Shape.{trees_of}
use Rattle.aml_grammar.specs.Grammar.{Inner, is_module_level, nothing_earlier, at_item, item_of, stands, costs_no_level, takes_name, opcode, admitted_row, row_at, deeper, leveled, coded_term, element_name, argument_number, invocation, named_term, named, term_in, below, term_at, by_arities, max_depth, outermost, beginning, items, term_list, with_arities, table_reading, Reads}
use Rattle.aml_scan.specs.Spelling.{Around, Place, term_arg, operand_kinds, may_have_else}
use Rattle.aml_scan.proofs.Takes.{same_value, same_state, both}
use Rattle.aml_scan.proofs.SpelledRows.{around_of, place_of, row_number}
use Rattle.aml_spelling.specs.Stands.{cost, count_of, Stands, StandAll, StandOperands, MayStand}
use Rattle.aml_spelling.proofs.Leaves.{Effect, Leaves, Same, leaves_then, leaves_after, leaves_more, leaves_as, leaves_give, leaves_map, leaves_stop, leaves_look, leaves_settle, leaves_if, leaves_byte, leaves_peek, leaves_name}
use Rattle.aml_spelling.proofs.LeavesParts.{TermLeaves, leaves_items}
use Rattle.aml_spelling.proofs.LeavesRows.{RowStands, leaves_row_term}
use Rattle.aml_spelling.proofs.RowFacts.{cost_is}

-- after a step that leaves the arities and tells of a row
leaves_with : {B : Type 0} {m : Step Row} {k : Row → Step B} {s : State} {R : Effect B} → Leaves m s (λ row known after. (after ≡ known) × (row_of (number_of row.0) ≡ Some row)) → ((row : Row) (s1 : State) → row_of (number_of row.0) ≡ Some row → Leaves (k row) s1 R) → Leaves (m >>= k) s R
leaves_with {m = m} {k = k} {s = s} {R = R} h i = record {
  is = λ b s2 e.
      let p = both m k s b s2 e in
      let q = h.is p.0 p.1 p.2 in
      subst (λ (known : List Arity). R b known s2.arities) q.0 ((i p.0 p.1 q.1).is b s2 p.3);
}

-- ---- opcodes

pub leaves_opcode : (s : State) → Leaves opcode s Same
unfolding opcode
leaves_opcode s = leaves_after (leaves_byte s) (λ b s1. leaves_if (b == 0x5B) (λ _. leaves_map _ (leaves_byte s1) (λ e known after i. i)) (λ _. leaves_give b refl))

abbrev IsRow : Effect Row
IsRow row known after = (after ≡ known) × (row_of (number_of row.0) ≡ Some row)

leaves_admitted : (position : Position) (context : Context) (start n : ℕ) (o : Option Row) (s : State) → row_of n ≡ o → Leaves (admitted_row position context start o) s IsRow
leaves_admitted position context start n None s is = leaves_stop (refusals.Term BadOpcode start)
leaves_admitted position context start n (Some row) s is =
    leaves_if (stands row.1 position context) (λ _. leaves_if (context.body && is_module_level row.1) (λ _. leaves_stop (refusals.Term NotInBody start)) (λ _. leaves_give row (refl, ap row_of (row_number n row is) ∙ is)))
    (λ _. leaves_stop (refusals.Term BadOpcode start))

leaves_row_at : (position : Position) (context : Context) (start : ℕ) (s : State) → Leaves (row_at position context start) s IsRow
unfolding row_at
leaves_row_at position context start s = leaves_after (leaves_opcode s) (λ n s1. leaves_admitted position context start n (row_of n) s1 refl)

-- ---- levels

-- so many levels are left, and what is below may stand
abbrev pub BelowLeaves : ℕ → Option Inner → Type 0
BelowLeaves levels None = Unit {0}
BelowLeaves levels (Some inner_term) = (l : ℕ) × (levels ≡ suc l) × TermLeaves l inner_term

leaves_deeper : {A : Type 0} {R : Effect A} (levels : ℕ) (below : Option Inner) → BelowLeaves levels below → (item : ℕ) (go : Inner → Step A) (s : State) → ((l : ℕ) (inner_term : Inner) → levels ≡ suc l → TermLeaves l inner_term → Leaves (go inner_term) s R) → Leaves (deeper below item go) s R
unfolding deeper
leaves_deeper levels None h item go s i = leaves_stop (refusals.Term TooDeep item)
leaves_deeper levels (Some inner_term) h item go s i = i h.0 inner_term h.1 h.2

-- a term may stand there
abbrev TermStands : ℕ → List Seg → Context → Position → Effect Tree
TermStands levels scope context position t known after = Stands levels scope (around_of context) (place_of position) t known after

no_operands : (levels : ℕ) (scope : List Seg) (around : Around) (b : Bool) (ks : List OperandKind) (known : List Arity) → StandOperands levels scope around b ks no_parts nothing_earlier known known
unfolding Stands
no_operands levels scope around true [] known = refl
no_operands levels scope around false [] known = refl
no_operands levels scope around true (k ∷ ks) known = refl
no_operands levels scope around false (k ∷ ks) known = refl

row_stands : (levels l : ℕ) (scope : List Seg) (context : Context) (position : Position) (row : Row) (t : Tree) (known after : List Arity) → row_of (number_of row.0) ≡ Some row → levels ≡ suc l → costs_no_level row.1 position ≡ false → RowStands l scope (around_of context) row t known after
    → TermStands levels scope context position t known after
unfolding Stands
row_stands levels l scope context position row t known after found less costs h =
    let one : cost row.1 (place_of position) ≡ 1 = cost_is row.1 position false costs in
    rw h.1 (row, found, l, omega (arith, less, one), h.2)

leaves_leveled : (levels : ℕ) (below : Option Inner) → BelowLeaves levels below → (position : Position) (scope : List Seg) (context : Context) (start : ℕ) (row : Row) (s : State) → row_of (number_of row.0) ≡ Some row → Leaves (leveled below position scope context start row) s (TermStands levels scope context position)
unfolding Stands
leaves_leveled levels below h position scope context start row s found =
    leaves_if (costs_no_level row.1 position)
    (λ free. let none : cost row.1 (place_of position) ≡ 0 = cost_is row.1 position true free in
    leaves_give _ (row, found, levels, omega (arith, none), no_operands levels scope (around_of context) (may_have_else row.0) (operand_kinds row.3) s.arities))
    (λ costs. leaves_deeper levels below h (item_of context.item start) _ s (λ l inner_term less i. leaves_more (leaves_row_term l inner_term i scope context start row s) (λ t known after j. row_stands levels l scope context position row t known after found less costs j)))

leaves_coded : (levels : ℕ) (below : Option Inner) → BelowLeaves levels below → (position : Position) (scope : List Seg) (context : Context) (start : ℕ) (s : State) → Leaves (coded_term below position scope context start) s (TermStands levels scope context position)
unfolding coded_term
leaves_coded levels below h position scope context start s = leaves_with (leaves_row_at position context start s) (λ row s1 found. leaves_leveled levels below h position scope context start row s1 found)

-- ---- names

leaves_element_name : (levels : ℕ) (scope : List Seg) (around : Around) (place : Place) (l : ℕ) → levels ≡ suc l → (s : State) → Leaves element_name s (λ t known after. Stands levels scope around place t known after)
unfolding element_name Stands
leaves_element_name levels scope around place l less s = leaves_map _ (leaves_name s) (λ n known after e. (l, less, e))

marked_known : (c : Bool) (start n : ℕ) (s : State) → (if c then s else record s { marks = s.marks ++ record { offset = start; count = n } ∷ [] }).arities ≡ s.arities
marked_known true start n s = refl
marked_known false start n s = refl

pub leaves_argument_number : (start : ℕ) (scope : List Seg) (n : Name) (path : List Seg) (s : State) → Leaves (argument_number by_arities start scope n path) s (λ count known after. (count ≡ arity_of known scope n path) × (after ≡ known))
unfolding argument_number by_arities
leaves_argument_number start scope n path s = record { is = λ count s2 e. (sym (same_value e), sym (ap (λ (t : State). t.arities) (same_state e)) ∙ marked_known (arity_of s.arities scope n path == 0) start (arity_of s.arities scope n path) s) }

-- arguments may stand, and there are so many
leaves_arguments : (levels : ℕ) (scope : List Seg) (around : Around) (m : Step Tree) (h : (s : State) → Leaves m s (λ t known after. Stands levels scope around term_arg t known after)) (n : ℕ) (s : State)
    → Leaves (times m n) s (λ ts known after. (count_of (trees_of ts) ≡ n) × StandAll levels scope around term_arg (trees_of ts) known after)
unfolding times Stands
leaves_arguments levels scope around m h zero s = leaves_give [] (refl, refl)
leaves_arguments levels scope around m h (suc n) s = leaves_then (h s) (λ t s1 p. leaves_then (leaves_arguments levels scope around m h n s1) (λ ts s2 q. leaves_give (t ∷ ts) (ap suc q.0, (s1.arities, p, q.1))))

leaves_invocation : (levels l : ℕ) (inner_term : Inner) → levels ≡ suc l → TermLeaves l inner_term → (place : Place) (scope : List Seg) (context : Context) (start : ℕ) (s : State) → Leaves (invocation by_arities inner_term scope context start) s (λ t known after. Stands levels scope (around_of context) place t known after)
unfolding invocation Stands
leaves_invocation levels l inner_term less h place scope context start s = leaves_after (leaves_name s) (λ n s1. leaves_settle (λ path e. leaves_then (leaves_argument_number start scope n path s1) (λ count s2 c.
    leaves_then (leaves_arguments l scope (around_of context) (inner_term positions.TermArg scope context) (h positions.TermArg scope context) count s2) (λ ts s3 p.
    leaves_give _ (path, e, p.0 ∙ c.0, l, less, subst (λ (a : List Arity). StandAll l scope (around_of context) term_arg (trees_of ts) a s3.arities) c.1 p.1)))))

leaves_named_term : (levels l : ℕ) (inner_term : Inner) → levels ≡ suc l → TermLeaves l inner_term → (position : Position) (scope : List Seg) (context : Context) (start : ℕ) (s : State) → Leaves (named_term by_arities inner_term position scope context start) s (TermStands levels scope context position)
leaves_named_term levels l inner_term less h positions.PackageElement scope context start s = leaves_element_name levels scope (around_of context) (place_of positions.PackageElement) l less s
leaves_named_term levels l inner_term less h positions.ListItem scope context start s = leaves_invocation levels l inner_term less h (place_of positions.ListItem) scope context start s
leaves_named_term levels l inner_term less h positions.TermArg scope context start s = leaves_invocation levels l inner_term less h (place_of positions.TermArg) scope context start s
leaves_named_term levels l inner_term less h positions.DataObject scope context start s = leaves_invocation levels l inner_term less h (place_of positions.DataObject) scope context start s
leaves_named_term levels l inner_term less h positions.SuperName scope context start s = leaves_invocation levels l inner_term less h (place_of positions.SuperName) scope context start s

leaves_named : (levels : ℕ) (below : Option Inner) → BelowLeaves levels below → (position : Position) (scope : List Seg) (context : Context) (start : ℕ) (s : State) → Leaves (named by_arities below position scope context start) s (TermStands levels scope context position)
unfolding named
leaves_named levels below h position scope context start s = leaves_as refl (leaves_if (takes_name position) (λ _. leaves_deeper levels below h (item_of context.item start) _ s (λ l inner_term less i. leaves_named_term levels l inner_term less i position scope context start s)) (λ _. leaves_stop (refusals.Term BadOpcode start)))

-- ---- terms

pub leaves_term_in : (levels : ℕ) (below : Option Inner) → BelowLeaves levels below → TermLeaves levels (term_in by_arities below)
unfolding term_in
leaves_term_in levels below h position scope context s = leaves_as refl (leaves_look (λ s. s.at) _ (leaves_peek (λ b. leaves_if (starts_name b) (λ _. leaves_named levels below h position scope (at_item context s.at) s.at s) (λ _. leaves_coded levels below h position scope (at_item context s.at) s.at s))))

pub leaves_below : (levels : ℕ) → BelowLeaves levels (below by_arities levels)
unfolding below
leaves_below zero = tt
leaves_below (suc levels) = (levels, refl, leaves_term_in levels (below by_arities levels) (leaves_below levels))

-- ---- whole lists

leaves_whole : (bs : List ℕ) (scope : List Seg) (body : Bool) (known : List Arity) → Leaves (items (term_at by_arities max_depth) positions.ListItem scope (outermost body)) (beginning bs known) (λ ts before after. MayStand scope body ts before after)
unfolding term_at
leaves_whole bs scope body known = leaves_items max_depth (term_in by_arities (below by_arities max_depth)) (leaves_term_in max_depth (below by_arities max_depth) (leaves_below max_depth)) positions.ListItem scope (outermost body) (beginning bs known)

list_after : (bs : List ℕ) (scope : List Seg) (body : Bool) (known : List Arity) (ts : List Tree) → Reads bs scope body known ts → MayStand scope body ts known (term_list by_arities bs scope body known).1.arities
unfolding term_list
list_after bs scope body known ts h = (leaves_whole bs scope body known).is ts (term_list by_arities bs scope body known).1 (ap (λ (o : Outcome (List Tree)). (o, (term_list by_arities bs scope body known).1)) h)

pub list_stands : (bs : List ℕ) (scope : List Seg) (body : Bool) (known : List Arity) (ts : List Tree) → Reads bs scope body known ts → (after : List Arity) × MayStand scope body ts known after
list_stands bs scope body known ts h = ((term_list by_arities bs scope body known).1.arities, list_after bs scope body known ts h)

table_values : (p : Outcome (List Tree) × State) (ts : List Tree) (after : List Arity) → with_arities p ≡ Ok (ts, after) → (p.0 ≡ Ok ts) × (p.1.arities ≡ after)
table_values (Ok us, s) ts after h =
    let x : List Tree × List Arity = (us, s.arities) in
    let y : List Tree × List Arity = (ts, after) in
    let same : x ≡ y = cc h in
    (ap (λ (z : List Tree × List Arity). Ok z.0) same, ap (λ (z : List Tree × List Arity). z.1) same)
table_values (Err r, s) ts after h = absurd (cc h)

pub table_stands : (bs : List ℕ) (known : List Arity) (ts : List Tree) (after : List Arity) → table_reading bs known ≡ Ok (ts, after) → MayStand [] false ts known after
table_stands bs known ts after h =
    let p = table_values (term_list by_arities bs [] false known) ts after h in
    subst (λ (a : List Arity). MayStand [] false ts known a) p.1 (list_after bs [] false known ts p.0)
