-- What is left ends where it ended, whatever term is read.
use Rattle.std.proofs.Common.{◌≡◌, ℕ, zero, suc, ◌+◌, List, length, Bool, true, false, Option, Some, None, refl, ◌∙◌, sym, ap}
use Rattle.std.specs.Prelude.{◌==◌, ◌&&◌}
use Rattle.ar_space.specs.declared.refusal.Refusal.TheVariants as refusals
use Rattle.ar_space.specs.declared.refusal.TermFault.TheVariants.{BadOpcode, TooDeep, NotInBody}
use Rattle.aml_path.specs.declared.segment.Seg.{Seg}
use Rattle.aml_path.specs.Paths.{Name, resolved}
use Rattle.aml_grammar.specs.declared.kinds.Row.{Row}
use Rattle.aml_grammar.specs.declared.context.Position.{Position}
use Rattle.aml_grammar.specs.declared.context.Position.TheVariants as positions
use Rattle.aml_grammar.specs.declared.context.Context.{Context}
use Rattle.aml_grammar.specs.Table.{row_of}
use Rattle.aml_grammar.specs.Names.{starts_name}
use Rattle.aml_grammar.specs.State.{State, Step, marking}
use Rattle.aml_grammar.specs.Grammar.{Inner, is_module_level, at_item, item_of, stands, costs_no_level, takes_name, opcode, admitted_row, row_at, deeper, leveled, coded_term, element_name, argument_number, invocation, named_term, named, term_in, below, by_arities}
use Rattle.aml_scan.proofs.Takes.{same_state}
use Rattle.aml_spelling.proofs.Ends.{Ends, ends_then, ends_give, ends_map, ends_stop, ends_look, ends_settle, ends_if, ends_as, ends_byte, ends_peek, ends_times, ends_name}
use Rattle.aml_spelling.proofs.EndsTerms.{TermEnds, ends_row_term}

pub ends_opcode : (s : State) → Ends opcode s
unfolding opcode
ends_opcode s = ends_then (ends_byte s) (λ b s1. ends_if (b == 0x5B) (ends_map _ (ends_byte s1)) (ends_give b))

ends_admitted : (position : Position) (context : Context) (start : ℕ) (o : Option Row) (s : State) → Ends (admitted_row position context start o) s
ends_admitted position context start None s = ends_stop (refusals.Term BadOpcode start)
ends_admitted position context start (Some row) s = ends_if (stands row.1 position context) (ends_if (context.body && is_module_level row.1) (ends_stop (refusals.Term NotInBody start)) (ends_give row)) (ends_stop (refusals.Term BadOpcode start))

pub ends_row_at : (position : Position) (context : Context) (start : ℕ) (s : State) → Ends (row_at position context start) s
unfolding row_at
ends_row_at position context start s = ends_then (ends_opcode s) (λ n s1. ends_admitted position context start (row_of n) s1)

abbrev BelowEnds : Option Inner → Type 0
BelowEnds None = Unit {0}
BelowEnds (Some inner_term) = TermEnds inner_term

ends_deeper : {A : Type 0} (below : Option Inner) → BelowEnds below → (item : ℕ) (go : Inner → Step A) (s : State) → ((inner_term : Inner) → TermEnds inner_term → Ends (go inner_term) s) → Ends (deeper below item go) s
unfolding deeper
ends_deeper None h item go s i = ends_stop (refusals.Term TooDeep item)
ends_deeper (Some inner_term) h item go s i = i inner_term h

ends_leveled : (below : Option Inner) → BelowEnds below → (position : Position) (scope : List Seg) (context : Context) (start : ℕ) (row : Row) (s : State) → Ends (leveled below position scope context start row) s
ends_leveled below h position scope context start row s = ends_if (costs_no_level row.1 position) (ends_give _) (ends_deeper below h (item_of context.item start) _ s (λ inner_term i. ends_row_term inner_term i scope context start row s))

ends_coded : (below : Option Inner) → BelowEnds below → (position : Position) (scope : List Seg) (context : Context) (start : ℕ) (s : State) → Ends (coded_term below position scope context start) s
unfolding coded_term
ends_coded below h position scope context start s = ends_then (ends_row_at position context start s) (λ row s1. ends_leveled below h position scope context start row s1)

pub ends_element_name : (s : State) → Ends element_name s
unfolding element_name
ends_element_name s = ends_map _ (ends_name s)

marked_ends : (c : Bool) (start n : ℕ) (s s2 : State) → (n == 0) ≡ c → marking start n s ≡ s2 → s2.at + length s2.rest ≡ s.at + length s.rest
marked_ends true start n s s2 is e = ap (λ (t : State). t.at + length t.rest) (sym e) ∙ rw is refl
marked_ends false start n s s2 is e = ap (λ (t : State). t.at + length t.rest) (sym e) ∙ rw is refl

pub ends_argument_number : (start : ℕ) (scope : List Seg) (n : Name) (path : List Seg) (s : State) → Ends (argument_number by_arities start scope n path) s
unfolding argument_number
ends_argument_number start scope n path s = record { is = λ count s2 e. marked_ends (by_arities start scope n path s == 0) start (by_arities start scope n path s) s s2 refl (same_state e) }

ends_invocation : (inner_term : Inner) → TermEnds inner_term → (scope : List Seg) (context : Context) (start : ℕ) (s : State) → Ends (invocation by_arities inner_term scope context start) s
unfolding invocation
ends_invocation inner_term h scope context start s = ends_then (ends_name s) (λ n s1. ends_settle (resolved n scope) (λ path. ends_then (ends_argument_number start scope n path s1) (λ count s2.
    ends_map _ (ends_times (inner_term positions.TermArg scope context) (h positions.TermArg scope context) count s2))))

ends_named_term : (inner_term : Inner) → TermEnds inner_term → (position : Position) (scope : List Seg) (context : Context) (start : ℕ) (s : State) → Ends (named_term by_arities inner_term position scope context start) s
ends_named_term inner_term h positions.PackageElement scope context start s = ends_element_name s
ends_named_term inner_term h positions.ListItem scope context start s = ends_invocation inner_term h scope context start s
ends_named_term inner_term h positions.TermArg scope context start s = ends_invocation inner_term h scope context start s
ends_named_term inner_term h positions.DataObject scope context start s = ends_invocation inner_term h scope context start s
ends_named_term inner_term h positions.SuperName scope context start s = ends_invocation inner_term h scope context start s

ends_named : (below : Option Inner) → BelowEnds below → (position : Position) (scope : List Seg) (context : Context) (start : ℕ) (s : State) → Ends (named by_arities below position scope context start) s
unfolding named
ends_named below h position scope context start s = ends_as refl (ends_if (takes_name position) (ends_deeper below h (item_of context.item start) _ s (λ inner_term i. ends_named_term inner_term i position scope context start s)) (ends_stop (refusals.Term BadOpcode start)))

ends_term_in : (below : Option Inner) → BelowEnds below → TermEnds (term_in by_arities below)
unfolding term_in
ends_term_in below h position scope context s = ends_as refl (ends_look (λ s. s.at) _ (ends_peek (λ b. ends_if (starts_name b) (ends_named below h position scope (at_item context s.at) s.at s) (ends_coded below h position scope (at_item context s.at) s.at s))))

ends_below : (levels : ℕ) → BelowEnds (below by_arities levels)
unfolding below
ends_below zero = tt
ends_below (suc levels) = ends_term_in (below by_arities levels) (ends_below levels)

pub ends_term_at : (levels : ℕ) → TermEnds (term_in by_arities (below by_arities levels))
ends_term_at levels = ends_term_in (below by_arities levels) (ends_below levels)
