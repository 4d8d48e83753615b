-- Where a call is refused, its name has a fault, or one of its arguments behind some that pass.
use Rattle.std.proofs.Common.{◌≡◌, ℕ, zero, suc, ◌+◌, ◌<◌, List, [], ◌∷◌, ◌++◌, length, Bool, true, false, Some, Ok, refl, subst, ◌∙◌, sym, ap, append_assoc, length-append, arith, inl}
use Rattle.std.specs.Prelude.{◌==◌}
use Rattle.ar_space.specs.declared.refusal.Refusal.{Refusal}
use Rattle.ar_space.specs.declared.refusal.Refusal.TheVariants as refusals
use Rattle.ar_space.specs.declared.refusal.NameFault.TheVariants.{AboveRoot}
use Rattle.aml_path.specs.declared.segment.Seg.{Seg}
use Rattle.aml_path.specs.Paths.{Name, resolved}
use Rattle.aml_arities.specs.declared.arities.Arity.{Arity}
use Rattle.aml_grammar.specs.declared.context.Position.{Position}
use Rattle.aml_grammar.specs.declared.context.Position.TheVariants as positions
use Rattle.aml_grammar.specs.declared.context.Context.{Context}
use Rattle.aml_arities.specs.Arities.{arity_of}
use Rattle.aml_grammar.specs.State.{State, times, marking}
use Rattle.aml_grammar.specs.Tree.{Tree, Trees, no_trees, tree}
use Rattle.aml_grammar.specs.Names.{name_string}
use Rattle.aml_grammar.specs.Grammar.{Inner, element_name, argument_number, invocation, by_arities}
use Rattle.aml_scan.specs.Spelling.{term_arg, may_call, IsNameString, Spells, SpellsAll}
use Rattle.aml_scan.proofs.Takes.{same_state}
use Rattle.aml_scan.proofs.SpelledNames.{takes_name}
use Rattle.aml_scan.proofs.SpelledRows.{around_of, place_of}
use Rattle.aml_spelling.specs.Stands.{count_of, Stands, StandAll}
use Rattle.aml_spelling.specs.Faults.{Spot, Way, here, in_argument, a_term, behind, LeadsOut, NameAt, NameAdmitted, AtResolved, AtTerm, FaultyAt}
use Rattle.aml_spelling.proofs.Ends.{ends_name}
use Rattle.aml_spelling.proofs.EndsWhole.{ends_argument_number}
use Rattle.aml_spelling.proofs.FaultKinds.{Below}
use Rattle.aml_spelling.proofs.FaultLists.{spot_of}
use Rattle.aml_spelling.proofs.FaultNames.{why_resolved}
use Rattle.aml_spelling.proofs.FaultNameStrings.{refuses_name}
use Rattle.aml_spelling.proofs.FaultOperands.{halts_settle, name_at}
use Rattle.aml_spelling.proofs.FaultSupers.{item_same}
use Rattle.aml_spelling.proofs.FaultTerms.{at_part}
use Rattle.aml_spelling.proofs.Halts.{Halts, went_on, halts_then, halts_give, halts_map, halts_more}
use Rattle.aml_spelling.proofs.Leaves.{leaves_name}
use Rattle.aml_spelling.proofs.LeavesWhole.{leaves_argument_number}

at_here : (n : ℕ) → n + 0 ≡ n
at_here n = omega arith

moved_by : (a b c d e : ℕ) → b ≡ c + d → e + d ≡ a + b → e ≡ a + c
moved_by a b c d e f g = omega (arith, f, g)

-- ---- arguments, one after another

module _ (l : ℕ) (inner_term : Inner) (below : Below l inner_term) (scope : List Seg) (context : Context) (item : ℕ) (in_item_at : context.item ≡ Some item) where
  abbrev here_at : State → Spot
  here_at s = spot_of l scope (around_of context) item s

  -- the fault is in an argument behind some that pass
  abbrev pub InArgument : ℕ → State → Refusal → Type 0
  InArgument count s r =
      (ts : Trees) × (mid : List ℕ) × (back : List ℕ) × (after : List Arity) × (count_of ts < count) × (s.rest ≡ mid ++ back) × SpellsAll (around_of context) term_arg ts mid
      × StandAll l scope (around_of context) term_arg ts s.arities after × (way : Way) × FaultyAt way (a_term term_arg) (behind mid back after (here_at s)) r

  argument_first : (n : ℕ) (s : State) (r : Refusal) (way : Way) → FaultyAt way (a_term term_arg) (here_at s) r → InArgument (suc n) s r
  unfolding Spells Stands
  argument_first n s r way h =
      let same : here_at s ≡ behind [] s.rest s.arities (here_at s) = rw (at_here s.at) refl in
      (no_trees, [], s.rest, s.arities, omega arith, refl, refl, refl, way, subst (λ (next : Spot). FaultyAt way (a_term term_arg) next r) same h)

  argument_later : (n : ℕ) (s s1 : State) (r : Refusal) (t : Tree) (front : List ℕ) → s.rest ≡ front ++ s1.rest → s1.at ≡ s.at + length front → Spells (around_of context) term_arg t front
      → Stands l scope (around_of context) term_arg t s.arities s1.arities → InArgument n s1 r → InArgument (suc n) s r
  unfolding Spells Stands
  argument_later n s s1 r t front is moved spelled stands h =
      let whole : s.rest ≡ (front ++ h.1) ++ h.2 = is ∙ ap (λ (l : List ℕ). front ++ l) h.5 ∙ sym (append_assoc front h.1 h.2) in
      let k : length (front ++ h.1) ≡ length front + length h.1 = length-append front h.1 in
      let there : s1.at + length h.1 ≡ s.at + length (front ++ h.1) = omega (arith, k, moved) in
      let same : behind h.1 h.2 h.3 (here_at s1) ≡ behind (front ++ h.1) h.2 h.3 (here_at s) = ap (λ (i : ℕ). record (here_at s) { at = i; rest = h.2; known = h.3 }) there in (
        tree t h.0,
        front ++ h.1,
        h.2,
        h.3,
        omega (arith, h.4),
        whole,
        (front, h.1, refl, spelled, h.6),
        (s1.arities, stands, h.7),
        h.8,
        subst (λ (next : Spot). FaultyAt h.8 (a_term term_arg) next r) same h.9,
      )

  halts_times : (n : ℕ) (s : State) → Halts (times (inner_term positions.TermArg scope context) n) s (InArgument n s)
  unfolding times
  halts_times zero s = halts_give []
  halts_times (suc n) s = halts_then (record {
    is = λ r s2 e.
        let k = (below.halts positions.TermArg scope context s).is r s2 e in
        argument_first n s r k.0 (subst (λ (i : ℕ). FaultyAt k.0 (a_term term_arg) (spot_of l scope (around_of context) i s) r) (item_same context item in_item_at s.at) k.1);
  }) (λ t s1 e.
      let x = (below.takes positions.TermArg scope context s).is t s1 e in
      let v = (below.leaves positions.TermArg scope context s).is t s1 e in
      let k : length s.rest ≡ length x.0 + length s1.rest = ap (λ (l : List ℕ). length l) x.1 ∙ length-append x.0 s1.rest in
      let m : s1.at ≡ s.at + length x.0 = moved_by s.at (length s.rest) (length x.0) (length s1.rest) s1.at k ((below.ends positions.TermArg scope context s).is t s1 e) in
      halts_map (λ ts. t ∷ ts) (halts_more (halts_times n s1) (λ r h. argument_later n s s1 r t x.0 x.1 m x.2.0 v h)))

-- ---- calls

at_above : (spot : Spot) (position : Position) → NameAdmitted spot (place_of position) → may_call (place_of position) ≡ true → AtResolved spot (refusals.Name AboveRoot) → AtTerm spot (place_of position) (refusals.Name AboveRoot)
at_above spot positions.ListItem n m h = (n, m, h)
at_above spot positions.TermArg n m h = (n, m, h)
at_above spot positions.DataObject n m h = (n, m, h)
at_above spot positions.PackageElement n m h = (n, m, h)
at_above spot positions.SuperName n m h = (n, m, h)

marked_rest : (c : Bool) (start n : ℕ) (s : State) → (n == 0) ≡ c → (marking start n s).rest ≡ s.rest
marked_rest true start n s is = rw is refl
marked_rest false start n s is = rw is refl

module _ (levels l : ℕ) (less : levels ≡ suc l) (scope : List Seg) (context : Context) (item : ℕ) (in_item_at : context.item ≡ Some item) (position : Position) (s : State)
    (admitted : NameAdmitted (spot_of levels scope (around_of context) item s) (place_of position)) where
  abbrev spot_here : Spot
  spot_here = spot_of levels scope (around_of context) item s

  abbrev pub CallFault : Refusal → Type 0
  CallFault r = (way : Way) × FaultyAt way (a_term (place_of position)) spot_here r

  pub halts_name : Halts name_string s CallFault
  unfolding FaultyAt
  halts_name = halts_more (refuses_name s spot_here (refl, refl)) (λ r h. (here, at_part spot_here position r (inl (admitted, h))))

  pub halts_element : Halts element_name s CallFault
  unfolding element_name
  halts_element = halts_map _ halts_name

  above_fault : may_call (place_of position) ≡ true → (n : Name) (r : Refusal) → NameAt spot_here n → LeadsOut n scope × (r ≡ refusals.Name AboveRoot) → CallFault r
  unfolding FaultyAt
  above_fault may n r there h = rw h.1 (here, at_above spot_here position admitted may (n, there, h.0))

  argument_fault : (inner_term : Inner) (below : Below l inner_term) → may_call (place_of position) ≡ true → (n : Name) (path : List Seg) (front : List ℕ) (s2 : State) (count : ℕ) → IsNameString n front → resolved n scope ≡ Ok path
      → s.rest ≡ front ++ s2.rest → s2.at ≡ s.at + length front → s2.arities ≡ s.arities → count ≡ arity_of s.arities scope n path → (r : Refusal) → InArgument l inner_term below scope context item in_item_at count s2 r → CallFault r
  unfolding FaultyAt
  argument_fault inner_term below may n path front s2 count spelled res is moved knows counts r h =
      let whole : s.rest ≡ front ++ (h.1 ++ h.2) = is ∙ ap (λ (k : List ℕ). front ++ k) h.5 in
      let k : length (front ++ h.1) ≡ length front + length h.1 = length-append front h.1 in
      let there : s2.at + length h.1 ≡ s.at + length (front ++ h.1) = omega (arith, k, moved) in
      let stands = subst (λ (known : List Arity). StandAll l scope (around_of context) term_arg h.0 known h.3) knows h.7 in (
        in_argument n h.0 h.8,
        (
          path,
          l,
          front,
          h.2,
          h.1,
          h.3,
          may,
          less,
          whole,
          spelled,
          res,
          subst (λ (m : ℕ). count_of h.0 < m) counts h.4,
          h.6,
          stands,
          subst (λ (i : ℕ). FaultyAt h.8 (a_term term_arg) (record spot_here { at = i; rest = h.2; known = h.3; levels = l }) r) there h.9,
        ),
      )

  never_counts : (start : ℕ) (n : Name) (path : List Seg) (s1 : State) → Halts (argument_number by_arities start scope n path) s1 CallFault
  unfolding argument_number
  never_counts start n path s1 = record { is = λ r s2 e. absurd (went_on e) }

  rest_kept : (start : ℕ) (n : Name) (path : List Seg) (s1 : State) (count : ℕ) (s2 : State) → argument_number by_arities start scope n path s1 ≡ (Ok count, s2) → s2.rest ≡ s1.rest
  unfolding argument_number
  rest_kept start n path s1 count s2 e = ap (λ (t : State). t.rest) (sym (same_state e)) ∙ marked_rest (by_arities start scope n path s1 == 0) start (by_arities start scope n path s1) s1 refl

  pub halts_call : (inner_term : Inner) → Below l inner_term → may_call (place_of position) ≡ true → (start : ℕ) → Halts (invocation by_arities inner_term scope context start) s CallFault
  unfolding invocation
  halts_call inner_term below may start = halts_then halts_name (λ n s1 e.
      let t = (takes_name s).is n s1 e in
      let there = name_at s s1 spot_here n (refl, refl) e in
      halts_settle (resolved n scope) _ (λ r is. above_fault may n r there.0 (why_resolved n scope r there.1 is)) (λ path res.
      halts_then (never_counts start n path s1) (λ count s2 f.
      let kept = rest_kept start n path s1 count s2 f in
      let v = (leaves_argument_number start scope n path s1).is count s2 f in
      let known1 : s1.arities ≡ s.arities = (leaves_name s).is n s1 e in
      let k : length s.rest ≡ length t.0 + length s1.rest = ap (λ (l : List ℕ). length l) t.1 ∙ length-append t.0 s1.rest in
      let m : s1.at ≡ s.at + length t.0 = moved_by s.at (length s.rest) (length t.0) (length s1.rest) s1.at k ((ends_name s).is n s1 e) in
      let same : s2.at + length s2.rest ≡ s1.at + length s1.rest = (ends_argument_number start scope n path s1).is count s2 f in
      let size : length s2.rest ≡ length s1.rest = ap (λ (l : List ℕ). length l) kept in
      halts_map _ (halts_more (halts_times l inner_term below scope context item in_item_at count s2)
      (argument_fault inner_term below may n path t.0 s2 count t.2 res (t.1 ∙ ap (λ (l : List ℕ). t.0 ++ l) (sym kept)) (omega (arith, m, same, size)) (v.1 ∙ known1) (v.0 ∙ ap (λ (known : List Arity). arity_of known scope n path) known1))))))
