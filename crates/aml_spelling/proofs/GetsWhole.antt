-- What is spelled as a term and may stand where it stands is read as that term; and so is a whole list.
use Rattle.std.proofs.Common.{◌≡◌, ℕ, zero, suc, List, [], ◌∷◌, ◌++◌, Bool, true, false, Ok, refl, subst, ◌∙◌, ap, append_assoc, arith}
use Rattle.std.specs.Prelude.{◌==◌, if◌then◌else◌}
use Rattle.ar_space.specs.Outcome.{Outcome}
use Rattle.aml_path.specs.declared.segment.Seg.{Seg}
use Rattle.aml_path.specs.Paths.{Name, resolved}
use Rattle.aml_grammar.specs.declared.opcode.TermCode.TheVariants as codes
use Rattle.aml_arities.specs.declared.arities.Arity.{Arity}
use Rattle.aml_grammar.specs.declared.context.Position.{Position}
use Rattle.aml_grammar.specs.declared.context.Position.TheVariants as positions
use Rattle.aml_grammar.specs.declared.context.Context.{Context}
use Rattle.aml_arities.specs.Arities.{arity_of}
use Rattle.aml_grammar.specs.Opcodes.{number_of}
use Rattle.aml_grammar.specs.State.{State, marking, times}
use Rattle.aml_grammar.specs.Tree.{Tree, term, name, list, no_parts, part, Trees, no_trees, tree}
use Rattle.aml_grammar.specs.Shape.{parts_of, trees_of}
use Rattle.aml_grammar.specs.Grammar.{Inner, at_item, item_of, element_name, argument_number, invocation, named_term, named, begun, term_in, below, term_at, by_arities, max_depth, outermost, beginning, term_list, with_arities, table_reading, Reads}
use Rattle.aml_scan.specs.Spelling.{term_arg, IsNameString, Spells, SpellsAll, IsSpelled}
use Rattle.aml_scan.proofs.SpelledRows.{around_of, place_of}
use Rattle.aml_spelling.specs.Stands.{count_of, Stands, StandAll, MayStand}
use Rattle.aml_spelling.proofs.Gets.{Gets, gets_then, gets_give, gets_map, gets_value, gets_known, gets_yes, gets_no, gets_look, gets_settle, gets_peek}
use Rattle.aml_spelling.proofs.GetsNames.{gets_name, name_first}
use Rattle.aml_spelling.proofs.GetsFirst.{coded_first}
use Rattle.aml_spelling.proofs.GetsParts.{TermGets, list_of, list_again, gets_items}
use Rattle.aml_spelling.proofs.GetsTerms.{Lower, gets_deeper, gets_coded}

-- ---- calls

marked_rest : (c : Bool) (start n : ℕ) (s : State) → (if c then s else record s { marks = s.marks ++ record { offset = start; count = n } ∷ [] }).rest ≡ s.rest
marked_rest true start n s = refl
marked_rest false start n s = refl

marked_known : (c : Bool) (start n : ℕ) (s : State) → (if c then s else record s { marks = s.marks ++ record { offset = start; count = n } ∷ [] }).arities ≡ s.arities
marked_known true start n s = refl
marked_known false start n s = refl

gets_argument_number : {s : State} {rest : List ℕ} {known : List Arity} (start : ℕ) (scope : List Seg) (n : Name) (path : List Seg) → s.rest ≡ rest → s.arities ≡ known → Gets (argument_number by_arities start scope n path) s (arity_of known scope n path) rest known
unfolding argument_number by_arities
gets_argument_number {s = s} start scope n path is ar =
    let count = arity_of s.arities scope n path in
    record {
      after = marking start (arity_of s.arities scope n path) s;
      is = ap (λ (a : List Arity). (Ok (arity_of a scope n path), marking start (arity_of s.arities scope n path) s)) ar;
      left = marked_rest (arity_of s.arities scope n path == 0) start (arity_of s.arities scope n path) s ∙ is;
      knows = marked_known (arity_of s.arities scope n path == 0) start (arity_of s.arities scope n path) s ∙ ar;
    }

gets_arguments : (levels : ℕ) (inner_term : Inner) (h : TermGets levels inner_term) (scope : List Seg) (context : Context) (ts : Trees) (spelling rest : List ℕ) (known after : List Arity) (s : State) → SpellsAll (around_of context) term_arg ts spelling
    → StandAll levels scope (around_of context) term_arg ts known after → s.rest ≡ spelling ++ rest → s.arities ≡ known → Gets (times (inner_term positions.TermArg scope context) (count_of ts)) s (list_of ts) rest after
unfolding times Spells Stands
gets_arguments levels inner_term h scope context no_trees spelling rest known after s spelled stands is ar = gets_known stands (gets_give [] (is ∙ ap (λ l. l ++ rest) spelled) ar)
gets_arguments levels inner_term h scope context (tree t ts) spelling rest known after s spelled stands is ar =
    let whole : s.rest ≡ spelled.0 ++ (spelled.1 ++ rest) = is ∙ ap (λ l. l ++ rest) spelled.2 ∙ append_assoc spelled.0 spelled.1 rest in
    gets_then _ (h positions.TermArg scope context t spelled.0 (spelled.1 ++ rest) known stands.0 s spelled.3 stands.1 tt whole ar) (λ s1 is1 ar1.
    gets_map (λ us. t ∷ us) (gets_arguments levels inner_term h scope context ts spelled.1 rest stands.0 after s1 spelled.4 stands.2 is1 ar1))

gets_invocation : (levels : ℕ) (inner_term : Inner) (h : TermGets levels inner_term) (scope : List Seg) (context : Context) (start : ℕ) (n : Name) (path : List Seg) (ts : Trees) (front back rest : List ℕ) (known after : List Arity) (s : State) → IsNameString n front → resolved n scope ≡ Ok path
    → count_of ts ≡ arity_of known scope n path → SpellsAll (around_of context) term_arg ts back → StandAll levels scope (around_of context) term_arg ts known after → s.rest ≡ (front ++ back) ++ rest → s.arities ≡ known
    → Gets (invocation by_arities inner_term scope context start) s (term codes.MethodInvocation (part (name n) (part (list ts) no_parts))) rest after
unfolding invocation
gets_invocation levels inner_term h scope context start n path ts front back rest known after s named found counts spelled stands is ar =
    gets_value (ap (λ us. term codes.MethodInvocation (part (name n) (part (list us) no_parts))) (list_again ts))
    (gets_then _ (gets_name n front named (is ∙ append_assoc front back rest) ar) (λ s1 is1 ar1. gets_settle _ found (gets_then _ (gets_argument_number start scope n path is1 ar1) (λ s2 is2 ar2.
    gets_map (λ us. term codes.MethodInvocation (parts_of (name n ∷ list (trees_of us) ∷ [])))
    (subst (λ (k : ℕ). Gets (times (inner_term positions.TermArg scope context) k) s2 (list_of ts) rest after) counts (gets_arguments levels inner_term h scope context ts back rest known after s2 spelled stands is2 ar2))))))

gets_element_name : {s : State} {rest : List ℕ} {known : List Arity} (n : Name) (spelling : List ℕ) → IsNameString n spelling → s.rest ≡ spelling ++ rest → s.arities ≡ known → Gets element_name s (term codes.Name (part (name n) no_parts)) rest known
unfolding element_name
gets_element_name n spelling named is ar = gets_map (λ m. term codes.Name (parts_of (name m ∷ []))) (gets_name n spelling named is ar)

-- ---- terms

module _ (levels : ℕ) (lower : Lower levels) (scope : List Seg) (context : Context) where
  -- a call in a position where a name may be called
  CallGets : Position → Type 0
  CallGets position = (start : ℕ) (n : Name) (ts : Trees) (spelling rest : List ℕ) (known after : List Arity) (s : State) → Spells (around_of context) (place_of position) (term codes.MethodInvocation (part (name n) (part (list ts) no_parts))) spelling
      → Stands levels scope (around_of context) (place_of position) (term codes.MethodInvocation (part (name n) (part (list ts) no_parts))) known after → s.rest ≡ spelling ++ rest → s.arities ≡ known
      → Gets (named by_arities (below by_arities levels) position scope context start) s (term codes.MethodInvocation (part (name n) (part (list ts) no_parts))) rest after

  gets_item_call : CallGets positions.ListItem
  unfolding CallGets named Spells Stands
  gets_item_call start n ts spelling rest known after s spelled stands is ar =
      gets_deeper levels stands.3 (item_of context.item start) (λ inner_term. named_term by_arities inner_term positions.ListItem scope context start) stands.4
      (gets_invocation stands.3 (term_in by_arities (below by_arities stands.3)) (lower stands.3 stands.4) scope context start n stands.0 ts spelled.1 spelled.2 rest known after s spelled.4 stands.1 stands.2 spelled.5 stands.5 (is ∙ ap (λ l. l ++ rest) spelled.3) ar)

  gets_argument_call : CallGets positions.TermArg
  unfolding CallGets named Spells Stands
  gets_argument_call start n ts spelling rest known after s spelled stands is ar =
      gets_deeper levels stands.3 (item_of context.item start) (λ inner_term. named_term by_arities inner_term positions.TermArg scope context start) stands.4
      (gets_invocation stands.3 (term_in by_arities (below by_arities stands.3)) (lower stands.3 stands.4) scope context start n stands.0 ts spelled.1 spelled.2 rest known after s spelled.4 stands.1 stands.2 spelled.5 stands.5 (is ∙ ap (λ l. l ++ rest) spelled.3) ar)

  gets_named_element : (start : ℕ) (n : Name) (spelling rest : List ℕ) (known after : List Arity) (s : State) → IsNameString n spelling → Stands levels scope (around_of context) (place_of positions.PackageElement) (term codes.Name (part (name n) no_parts)) known after
      → s.rest ≡ spelling ++ rest → s.arities ≡ known → Gets (named by_arities (below by_arities levels) positions.PackageElement scope context start) s (term codes.Name (part (name n) no_parts)) rest after
  unfolding named Stands
  gets_named_element start n spelling rest known after s spelled stands is ar =
      gets_deeper levels stands.0 (item_of context.item start) (λ inner_term. named_term by_arities inner_term positions.PackageElement scope context start) stands.1 (gets_known stands.2 (gets_element_name n spelling spelled is ar))

-- a term whose first byte is known
gets_begun : {s : State} {t : Tree} {rest : List ℕ} {known : List Arity} (levels : ℕ) (position : Position) (scope : List Seg) (context : Context) (b : ℕ) (left : List ℕ) → s.rest ≡ b ∷ left → Gets (begun by_arities (below by_arities levels) position scope (at_item context s.at) s.at b) s t rest known
    → Gets (term_in by_arities (below by_arities levels) position scope context) s t rest known
unfolding term_in
gets_begun levels position scope context b left is h = gets_look (λ s. s.at) _ (gets_peek _ is h)

gets_term_in : (levels : ℕ) → Lower levels → TermGets levels (term_in by_arities (below by_arities levels))
unfolding Spells CallGets
gets_term_in levels lower position scope context (term (codes.Opcode o) ps) spelling rest known after s spelled stands alone is ar =
    let k = coded_first (number_of o) spelled.3 spelled.0 spelled.7 spelled.1 in
    let first : spelling ≡ k.0 ∷ (k.1 ++ (spelled.4 ++ spelled.5)) = spelled.6 ∙ ap (λ l. l ++ (spelled.4 ++ spelled.5)) k.2 in
    gets_begun levels position scope context k.0 ((k.1 ++ (spelled.4 ++ spelled.5)) ++ rest) (is ∙ ap (λ l. l ++ rest) first)
    (gets_no _ k.3.no_name (gets_coded levels lower position scope (at_item context s.at) s.at o ps spelling rest known after s spelled stands alone is ar))
gets_term_in levels lower positions.ListItem scope context (term codes.MethodInvocation (part (name n) (part (list ts) no_parts))) spelling rest known after s spelled stands alone is ar =
    let k = name_first n spelled.1 spelled.4 in
    gets_begun levels positions.ListItem scope context k.0 ((k.1 ++ spelled.2) ++ rest) (is ∙ ap (λ l. l ++ rest) (spelled.3 ∙ ap (λ l. l ++ spelled.2) k.2))
    (gets_yes _ k.4 (gets_item_call levels lower scope (at_item context s.at) s.at n ts spelling rest known after s spelled stands is ar))
gets_term_in levels lower positions.TermArg scope context (term codes.MethodInvocation (part (name n) (part (list ts) no_parts))) spelling rest known after s spelled stands alone is ar =
    let k = name_first n spelled.1 spelled.4 in
    gets_begun levels positions.TermArg scope context k.0 ((k.1 ++ spelled.2) ++ rest) (is ∙ ap (λ l. l ++ rest) (spelled.3 ∙ ap (λ l. l ++ spelled.2) k.2))
    (gets_yes _ k.4 (gets_argument_call levels lower scope (at_item context s.at) s.at n ts spelling rest known after s spelled stands is ar))
gets_term_in levels lower positions.DataObject scope context (term codes.MethodInvocation (part (name n) (part (list ts) no_parts))) spelling rest known after s spelled stands alone is ar = absurd (cc spelled.0)
gets_term_in levels lower positions.PackageElement scope context (term codes.MethodInvocation (part (name n) (part (list ts) no_parts))) spelling rest known after s spelled stands alone is ar = absurd (cc spelled.0)
gets_term_in levels lower positions.SuperName scope context (term codes.MethodInvocation (part (name n) (part (list ts) no_parts))) spelling rest known after s spelled stands alone is ar = absurd (cc spelled.0)
gets_term_in levels lower positions.PackageElement scope context (term codes.Name (part (name n) no_parts)) spelling rest known after s spelled stands alone is ar =
    let k = name_first n spelling spelled in
    gets_begun levels positions.PackageElement scope context k.0 (k.1 ++ rest) (is ∙ ap (λ l. l ++ rest) k.2)
    (gets_yes _ k.4 (gets_named_element levels lower scope (at_item context s.at) s.at n spelling rest known after s spelled stands is ar))
gets_term_in levels lower positions.ListItem scope context t spelling rest known after s spelled stands alone is ar = absurd spelled
gets_term_in levels lower positions.TermArg scope context t spelling rest known after s spelled stands alone is ar = absurd spelled
gets_term_in levels lower positions.DataObject scope context t spelling rest known after s spelled stands alone is ar = absurd spelled
gets_term_in levels lower positions.PackageElement scope context t spelling rest known after s spelled stands alone is ar = absurd spelled
gets_term_in levels lower positions.SuperName scope context t spelling rest known after s spelled stands alone is ar = absurd spelled

no_lower : Lower zero
no_lower l e = absurd (omega (arith, e))

one_lower : (levels : ℕ) → TermGets levels (term_in by_arities (below by_arities levels)) → Lower (suc levels)
one_lower levels h l e = let same : levels ≡ l = omega (arith, e) in subst (λ (m : ℕ). TermGets m (term_in by_arities (below by_arities m))) same h

pub gets_at_levels : (levels : ℕ) → TermGets levels (term_in by_arities (below by_arities levels))
gets_at_levels zero position scope context t spelling rest known after s spelled stands alone is ar = gets_term_in zero no_lower position scope context t spelling rest known after s spelled stands alone is ar
gets_at_levels (suc levels) position scope context t spelling rest known after s spelled stands alone is ar = gets_term_in (suc levels) (one_lower levels (gets_at_levels levels)) position scope context t spelling rest known after s spelled stands alone is ar

-- ---- whole lists

pub of_list : (ts : List Tree) → list_of (trees_of ts) ≡ ts
of_list [] = refl
of_list (t ∷ ts) = ap (λ us. t ∷ us) (of_list ts)

gets_whole : (bs : List ℕ) (scope : List Seg) (body : Bool) (known after : List Arity) (ts : List Tree) → IsSpelled body ts bs → MayStand scope body ts known after → Gets (λ s. term_list by_arities bs scope body known) (beginning bs known) ts [] after
unfolding term_list term_at
gets_whole bs scope body known after ts spelled stands =
    let g = gets_items max_depth (term_in by_arities (below by_arities max_depth)) (gets_at_levels max_depth) positions.ListItem scope (outermost body) (trees_of ts) bs known after (beginning bs known) spelled stands refl refl in
    record { after = g.after; is = g.is ∙ ap (λ us. (Ok us, g.after)) (of_list ts); left = g.left; knows = g.knows }

pub list_read : (bs : List ℕ) (scope : List Seg) (body : Bool) (known : List Arity) (ts : List Tree) (after : List Arity) → IsSpelled body ts bs → MayStand scope body ts known after → Reads bs scope body known ts
list_read bs scope body known ts after spelled stands = ap (λ (q : Outcome (List Tree) × State). q.0) (gets_whole bs scope body known after ts spelled stands).is

pub table_read : (bs : List ℕ) (known : List Arity) (ts : List Tree) (after : List Arity) → IsSpelled false ts bs → MayStand [] false ts known after → table_reading bs known ≡ Ok (ts, after)
table_read bs known ts after spelled stands =
    let g = gets_whole bs [] false known after ts spelled stands in
    ap with_arities g.is ∙ ap (λ a. Ok (ts, a)) g.knows
