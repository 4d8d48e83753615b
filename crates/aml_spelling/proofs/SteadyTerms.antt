-- Terms are steady, and so is a whole list.
use Rattle.std.proofs.Common.{◌≡◌, ℕ, zero, suc, ◌+◌, ◌≤◌, List, [], ◌∷◌, ◌++◌, length, Bool, true, false, Option, Some, None, Ok, Err, refl, subst, sym, ap, arith}
use Rattle.std.specs.Prelude.{◌==◌, ◌&&◌, if◌then◌else◌}
use Rattle.ar_space.specs.declared.refusal.Refusal.{Refusal}
use Rattle.ar_space.specs.declared.refusal.Refusal.TheVariants as refusals
use Rattle.ar_space.specs.declared.refusal.TermFault.TheVariants.{BadOpcode, NotInBody, Truncated}
use Rattle.ar_space.specs.Outcome.{Outcome}
use Rattle.ar_space.specs.Change.{give, ◌>>=◌}
use Rattle.aml_path.specs.declared.segment.Seg.{Seg}
use Rattle.aml_path.specs.Paths.{Name}
use Rattle.aml_grammar.specs.declared.kinds.Row.{Row}
use Rattle.aml_arities.specs.declared.arities.Arity.{Arity}
use Rattle.aml_grammar.specs.declared.context.Position.{Position}
use Rattle.aml_grammar.specs.declared.context.Position.TheVariants as positions
use Rattle.aml_grammar.specs.declared.context.Context.{Context}
use Rattle.aml_grammar.specs.Table.{row_of}
use Rattle.aml_grammar.specs.Names.{starts_name}
use Rattle.aml_arities.specs.Arities.{arity_of}
use Rattle.aml_grammar.specs.State.{State, Step, byte, marking}
use Rattle.aml_grammar.specs.Tree.{Tree}
use Rattle.aml_grammar.specs.Grammar.{Inner, is_module_level, at_item, item_of, stands, costs_no_level, takes_name, opcode, opcode_from, admitted_row, row_at, deeper, leveled, coded_term, element_name, argument_number, invocation, named_term, named, term_in, below, term_at, by_arities, max_depth, outermost, beginning, items, term_list, Fails}
use Rattle.aml_scan.proofs.Takes.{both, same_state}
use Rattle.aml_spelling.specs.Reach.{ahead, reach, Placed, Stops}
use Rattle.aml_spelling.proofs.Steady.{Apart, Alike, Steady, reached, steady_on, steady_bind, steady_then, steady_give, steady_map, steady_stop, steady_too_deep, steady_if, steady_from, steady_more, steady_look, steady_times}
use Rattle.aml_spelling.proofs.SteadyBytes.{steady_byte, one_on, steady_peek}
use Rattle.aml_spelling.proofs.SteadyNames.{steady_name}
use Rattle.aml_spelling.proofs.SteadyOperands.{steady_resolved}
use Rattle.aml_spelling.proofs.SteadyParts.{TermSteady, steady_bad_opcode, steady_items, steady_row_term}

-- ---- opcodes

steady_opcode : (s : State) → Steady true false opcode s
unfolding opcode
steady_opcode s = steady_then (steady_byte s) (λ b s1. steady_if (b == 0x5B) (λ _. steady_map _ (steady_from false (steady_byte s1))) (λ _. steady_give b s1))

from_on : (c : Bool) (b n : ℕ) (s s1 : State) → (if c then (byte >>= (λ e. give (0x5B00 + e))) else give b) s ≡ (Ok n, s1) → s1.at ≤ s.at + 1
unfolding give
from_on true b n s s1 e =
    let q = both byte (λ e. give (0x5B00 + e)) s n s1 e in
    let one : q.1.at ≡ s.at + 1 = one_on s q.1 q.0 q.2 in
    let last : q.1.at ≡ s1.at = ap (λ (u : State). u.at) (same_state q.3) in
    omega (arith, one, last)
from_on false b n s s1 e = let last : s.at ≡ s1.at = ap (λ (u : State). u.at) (same_state e) in omega (arith, last)

-- an opcode has two bytes at most
opcode_on : (s s1 : State) (n : ℕ) → opcode s ≡ (Ok n, s1) → s1.at ≤ s.at + 2
unfolding opcode
opcode_on s s1 n e =
    let p = both byte opcode_from s n s1 e in
    let one : p.1.at ≡ s.at + 1 = one_on s p.1 p.0 p.2 in
    let last : s1.at ≤ p.1.at + 1 = from_on (p.0 == 0x5B) p.0 n p.1 s1 p.3 in
    omega (arith, one, last)

steady_admitted : (position : Position) (context : Context) (start : ℕ) (o : Option Row) (s : State) → start ≤ s.at → s.at ≤ start + 2 → Steady false false (admitted_row position context start o) s
steady_admitted position context start None s low high = steady_stop (refusals.Term BadOpcode start) (omega arith) (low, high)
steady_admitted position context start (Some row) s low high =
    steady_if (stands row.1 position context) (λ _. steady_if (context.body && is_module_level row.1) (λ _. steady_stop (refusals.Term NotInBody start) (omega arith) tt) (λ _. steady_give row s))
    (λ _. steady_stop (refusals.Term BadOpcode start) (omega arith) (low, high))

steady_row_at : (position : Position) (context : Context) (s : State) → Steady true false (row_at position context s.at) s
unfolding row_at
steady_row_at position context s = steady_bind (steady_opcode s) (λ n s1 e.
    let low : s.at + ahead s.rest ≤ s1.at = steady_on (steady_opcode s) e in
    steady_admitted position context s.at (row_of n) s1 (omega (arith, low)) (opcode_on s s1 n e))

-- ---- levels

-- what is below a term is steady
abbrev BelowSteady : Option Inner → Type 0
BelowSteady None = Unit {0}
BelowSteady (Some inner_term) = TermSteady inner_term

steady_deeper : {A : Type 0} {b w : Bool} (below : Option Inner) → BelowSteady below → (item : ℕ) (go : Inner → Step A) (s : State) → ((inner_term : Inner) → TermSteady inner_term → Steady b w (go inner_term) s) → Steady b w (deeper below item go) s
unfolding deeper
steady_deeper None h item go s i = steady_too_deep item s
steady_deeper (Some inner_term) h item go s i = i inner_term h

steady_leveled : (below : Option Inner) → BelowSteady below → (position : Position) (scope : List Seg) (context : Context) (start : ℕ) (row : Row) (s : State) → Steady false true (leveled below position scope context start row) s
steady_leveled below h position scope context start row s =
    steady_if (costs_no_level row.1 position) (λ _. steady_more (steady_give _ s)) (λ _. steady_deeper below h (item_of context.item start) _ s (λ inner_term i. steady_from false (steady_row_term inner_term i scope context start row s)))

steady_coded : (below : Option Inner) → BelowSteady below → (position : Position) (scope : List Seg) (context : Context) (s : State) → Steady true true (coded_term below position scope context s.at) s
unfolding coded_term
steady_coded below h position scope context s = steady_then (steady_row_at position context s) (λ row s1. steady_leveled below h position scope context s.at row s1)

-- ---- names

steady_element_name : (s : State) → Steady true true element_name s
unfolding element_name
steady_element_name s = steady_more (steady_map _ (steady_name s))

marked_at : (c : Bool) (start n : ℕ) (s : State) → (if c then s else record s { marks = s.marks ++ record { offset = start; count = n } ∷ [] }).at ≡ s.at
marked_at true start n s = refl
marked_at false start n s = refl

marked_apart : {p : ℕ} {s t : State} (c : Bool) (start n : ℕ) → Apart p s t → Apart p (if c then s else record s { marks = s.marks ++ record { offset = start; count = n } ∷ [] }) (if c then t else record t { marks = t.marks ++ record { offset = start; count = n } ∷ [] })
marked_apart true start n apart = apart
marked_apart false start n apart = record {
  front = apart.front;
  back = apart.back;
  other = apart.other;
  one = apart.one;
  size = apart.size;
  here = apart.here;
  two = ap (λ (u : State). record u { marks = u.marks ++ record { offset = start; count = n } ∷ [] }) apart.two;
}

abbrev ok_of : ℕ → Outcome ℕ
ok_of n = Ok n

steady_argument_number : (start : ℕ) (scope : List Seg) (n : Name) (path : List Seg) (s : State) → Steady false false (argument_number by_arities start scope n path) s
unfolding argument_number by_arities
steady_argument_number start scope n path s =
    let stays = marked_at (arity_of s.arities scope n path == 0) start (arity_of s.arities scope n path) s in
    record {
      onward = omega (arith, stays);
      placed = λ r e. absurd (cc e);
      same = λ p t apart le.
          let same : t.arities ≡ s.arities = ap (λ (u : State). u.arities) apart.two in
          subst (λ (a : List Arity). (ok_of (arity_of a scope n path) ≡ ok_of (arity_of s.arities scope n path)) × Apart p (marking start (arity_of s.arities scope n path) s) (marking start (arity_of a scope n path) t)) (sym same)
          (refl, marked_apart (arity_of s.arities scope n path == 0) start (arity_of s.arities scope n path) apart);
    }

steady_invocation : (inner_term : Inner) → TermSteady inner_term → (scope : List Seg) (context : Context) (start : ℕ) (s : State) → Steady true true (invocation by_arities inner_term scope context start) s
unfolding invocation
steady_invocation inner_term h scope context start s = steady_then (steady_name s) (λ n s1. steady_resolved n scope _ s1 (λ path s2. steady_then (steady_argument_number start scope n path s2) (λ count s3.
    steady_map _ (steady_from false (steady_times (inner_term positions.TermArg scope context) (h positions.TermArg scope context) count s3)))))

steady_named_term : (inner_term : Inner) → TermSteady inner_term → (position : Position) (scope : List Seg) (context : Context) (start : ℕ) (s : State) → Steady true true (named_term by_arities inner_term position scope context start) s
steady_named_term inner_term h positions.PackageElement scope context start s = steady_element_name s
steady_named_term inner_term h positions.ListItem scope context start s = steady_invocation inner_term h scope context start s
steady_named_term inner_term h positions.TermArg scope context start s = steady_invocation inner_term h scope context start s
steady_named_term inner_term h positions.DataObject scope context start s = steady_invocation inner_term h scope context start s
steady_named_term inner_term h positions.SuperName scope context start s = steady_invocation inner_term h scope context start s

steady_named : (below : Option Inner) → BelowSteady below → (position : Position) (scope : List Seg) (context : Context) (s : State) → Steady true true (named by_arities below position scope context s.at) s
unfolding named
steady_named below h position scope context s = steady_if (takes_name position) (λ _. steady_deeper below h (item_of context.item s.at) _ s (λ inner_term i. steady_named_term inner_term i position scope context s.at s)) (λ _. steady_bad_opcode s)

-- ---- terms

steady_term_in : (below : Option Inner) → BelowSteady below → TermSteady (term_in by_arities below)
unfolding term_in
steady_term_in below h position scope context s = steady_look (λ s. s.at) _ (λ ys. refl) (steady_peek (λ b bs is.
    steady_if (starts_name b) (λ _. steady_named below h position scope (at_item context s.at) s) (λ _. steady_coded below h position scope (at_item context s.at) s)))

steady_below : (levels : ℕ) → BelowSteady (below by_arities levels)
unfolding below
steady_below zero = tt
steady_below (suc levels) = steady_term_in (below by_arities levels) (steady_below levels)

steady_term_at : (levels : ℕ) → TermSteady (term_at by_arities levels)
unfolding term_at
steady_term_at levels = steady_term_in (below by_arities levels) (steady_below levels)

-- ---- whole lists

steady_list : (scope : List Seg) (body : Bool) (s : State) → Steady true true (items (term_at by_arities max_depth) positions.ListItem scope (outermost body)) s
steady_list scope body s = steady_items (term_at by_arities max_depth) (steady_term_at max_depth) positions.ListItem scope (outermost body) s

refused_too : (p : ℕ) (r : Refusal) (s t : State) (o q : Outcome (List Tree)) → o ≡ Err r → Alike p o s q t → q ≡ Err r
refused_too p r s t o q e h = (subst (λ (x : Outcome (List Tree)). Alike p x s q t) e h).0

pub fault_again : (front back other : List ℕ) (scope : List Seg) (body : Bool) (known : List Arity) (r : Refusal) (s : State) → Stops (front ++ back) scope body known r s → reach r s ≤ length front → length other ≡ length back
    → Fails (front ++ other) scope body known r
unfolding term_list
fault_again front back other scope body known r s is le size =
    let one = beginning (front ++ back) known in
    let two = beginning (front ++ other) known in
    let apart : Apart (length front) (beginning (front ++ back) known) (beginning (front ++ other) known) = record { front = front; back = back; other = other; one = refl; two = refl; size = size; here = omega arith } in
    let here : reached true (term_list by_arities (front ++ back) scope body known).0 (term_list by_arities (front ++ back) scope body known).1 ≤ length front = rw is le in
    refused_too (length front) r _ _ _ _ (ap (λ (q : Outcome (List Tree) × State). q.0) is) ((steady_list scope body (beginning (front ++ back) known)).same (length front) (beginning (front ++ other) known) apart here)

pub fault_placed : (bs : List ℕ) (scope : List Seg) (body : Bool) (known : List Arity) (r : Refusal) (s : State) → Stops bs scope body known r s → Placed r s
unfolding term_list
fault_placed bs scope body known r s is =
    let h : Placed r (term_list by_arities bs scope body known).1 = (steady_list scope body (beginning bs known)).placed r (ap (λ (q : Outcome (List Tree) × State). q.0) is) in
    subst (λ (q : Outcome (List Tree) × State). Placed r q.1) is h

-- a list that fails stops in a state
stopped : (p : Outcome (List Tree) × State) (r : Refusal) → p.0 ≡ Err r → p ≡ (Err r, p.1)
stopped p r e = ap (λ (o : Outcome (List Tree)). (o, p.1)) e

pub truncated_again : (front back other : List ℕ) (scope : List Seg) (body : Bool) (known : List Arity) (offset : ℕ) → Fails (front ++ back) scope body known (refusals.Term Truncated offset) → offset ≤ length front → length other ≡ length back
    → Fails (front ++ other) scope body known (refusals.Term Truncated offset)
truncated_again front back other scope body known offset fails le size =
    fault_again front back other scope body known (refusals.Term Truncated offset) (term_list by_arities (front ++ back) scope body known).1 (stopped (term_list by_arities (front ++ back) scope body known) (refusals.Term Truncated offset) fails) le size

pub opcode_again : (front back other : List ℕ) (scope : List Seg) (body : Bool) (known : List Arity) (offset : ℕ) → Fails (front ++ back) scope body known (refusals.Term BadOpcode offset) → offset + 2 ≤ length front → length other ≡ length back
    → Fails (front ++ other) scope body known (refusals.Term BadOpcode offset)
opcode_again front back other scope body known offset fails le size =
    let s = (term_list by_arities (front ++ back) scope body known).1 in
    let stops = stopped (term_list by_arities (front ++ back) scope body known) (refusals.Term BadOpcode offset) fails in
    let place : Placed (refusals.Term BadOpcode offset) (term_list by_arities (front ++ back) scope body known).1 = fault_placed (front ++ back) scope body known (refusals.Term BadOpcode offset) (term_list by_arities (front ++ back) scope body known).1 stops in
    fault_again front back other scope body known (refusals.Term BadOpcode offset) (term_list by_arities (front ++ back) scope body known).1 stops (omega (arith, le, place.1)) size
