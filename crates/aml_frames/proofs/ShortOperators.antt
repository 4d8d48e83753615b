-- An operator that is found by the byte that is its opcode is the term that begins there.
use Rattle.std.specs.Prelude.{◌≡◌, ◌≢◌, ◌<◌, ◌-◌, ◌==◌, ℕ, zero, suc, List, [], ◌∷◌, length, Bool, false, Option, Some, None, Ok, slice_get, refl}
use Rattle.std.proofs.Common.{◌∙◌, sym, ap, arith}
use Rattle.ar_space.specs.Accesses.{Accesses}
use Rattle.ar_space.specs.Outcome.{Outcome}
use Rattle.ar_space.specs.Change.{Does}
use Rattle.aml_grammar.specs.declared.kinds.Row.{Row}
use Rattle.aml_grammar.specs.Names.{starts_name}
use Rattle.aml_grammar.specs.Table.{table, row_of}
use Rattle.aml_grammar.specs.Tree.{Tree}
use Rattle.aml_marks.specs.Marked.{Place, count_at, first, over, with_row, a_term}
use Rattle.aml_scan.specs.RowPlaces.{place_of}
use Rattle.aml_scan.specs.RowsAt.{row_at}
use Rattle.aml_scan.specs.declared.row_places.RowPlace.{RowPlace}
use Rattle.aml_scan.proofs.RowPlaces.{row_there}
use Rattle.aml_world.specs.state.State.{State}
use Rattle.aml_world.specs.state.Run.{Run, charge}
use Rattle.aml_meaning.specs.declared.term_kind.OperatorKind.{OperatorKind}
use Rattle.aml_meaning.specs.declared.term_kind.TermKind.TheVariants as kinds
use Rattle.aml_meaning.specs.Evaluation.{rule}
use Rattle.aml_meaning.specs.Meaning.{meaning}
use Rattle.aml_frames.specs.declared.frames.Next.{Next}
use Rattle.aml_frames.specs.Operands.{row_kind}
use Rattle.aml_frames.specs.Places.{Site, at_place, behind_term}
use Rattle.aml_frames.specs.at_once.ShortTerms.{row_alone}
use Rattle.aml_frames.specs.Follow.{term_run, operator_run, behind_operator_at, Leads}
use Rattle.aml_frames.proofs.RuleShapes.{behind_operator_is}
use Rattle.aml_frames.proofs.ShortTerms.{alone, alone_term}
use Rattle.aml_frames.proofs.Stepping.{leads_ok, leads_meaning, leads_begun, leads_operator}

-- ---- the place of its row

got_some : (rows : List Row) (i : ℕ) (row : Row) → slice_get rows i ≡ Some row → i < length rows
got_some [] i row e = absurd (cc e)
got_some (r ∷ rows) zero row e = omega arith
got_some (r ∷ rows) (suc i) row e = let h = got_some rows i row e in omega (arith, h)

row_placed : (b : ℕ) (r : Option Row) → row_of b ≡ r → r ≢ None → (o : RowPlace) × (row_at o ≡ r)
row_placed b None e some = absurd (some refl)
row_placed b (Some row) e some =
    let h : slice_get table (place_of b) ≡ Some row = sym (row_there b) ∙ e in
    (record { place = place_of b; within = got_some table (place_of b) row h }, h)

some_kind : (r : Option Row) (k : OperatorKind) → row_kind r ≡ kinds.Operator k → r ≢ None
some_kind None k e h = absurd (cc e)
some_kind (Some row) k e h = absurd (cc h)

operator_placed : (b : ℕ) (k : OperatorKind) → row_kind (row_alone b) ≡ kinds.Operator k → (o : RowPlace) × (row_at o ≡ row_alone b)
operator_placed b k e =
    let some = some_kind (row_alone b) k e in
    let x = alone (b == 0x5B) (starts_name b) (row_of b) some in
    let y = row_placed b (row_of b) refl (λ n. some (x.1.1 ∙ n)) in
    (y.0, y.1 ∙ sym x.1.1)

operator_term : (count : ℕ → ℕ) (levels : ℕ) (p : Place) (k : OperatorKind) (o : RowPlace) → 0 < levels → row_kind (row_alone (first p.rest)) ≡ kinds.Operator k → row_at o ≡ row_alone (first p.rest) → a_term count levels false p ≡ with_row (a_term count (levels - 1)) (row_at o) (over 1 p)
operator_term count levels p k o lt e h = alone_term count levels p lt (some_kind _ k e) ∙ ap (λ r. with_row (a_term count (levels - 1)) r (over 1 p)) (sym h)

-- ---- its rule, and where it ends

pub begun_by_operator : {S : Type 0} {ac : Accesses S} {r : Outcome Next} {e : Site} {s s1 s2 : State S × ℕ} (c d : Site) (levels : ℕ) (k : OperatorKind) → row_kind (row_alone (first c.place.rest)) ≡ kinds.Operator k → 0 < levels → Does (Ok tt) s1 charge s → d ≡ at_place c (over 1 c.place)
    → Leads ac (meaning ac) r e s2 (operator_run ac (meaning ac) k d (levels - 1)) s1 → Leads ac (meaning ac) r e s2 (term_run ac (meaning ac) c levels) s
unfolding rule
begun_by_operator c d levels k h lt paid at l =
    let o = operator_placed (first c.place.rest) k h in
    let kind : row_kind (row_at o.0) ≡ kinds.Operator k = ap row_kind o.1 ∙ h in
    let here : over 1 c.place ≡ d.place = sym (ap (λ (x : Site). x.place) at) in
    let there : a_term (count_at c.marks) levels false c.place ≡ with_row (a_term (count_at c.marks) (levels - 1)) (row_at o.0) d.place = operator_term (count_at c.marks) levels c.place k o.0 lt h o.1 ∙ ap (with_row (a_term (count_at c.marks) (levels - 1)) (row_at o.0)) here in
    leads_meaning _ (leads_ok charge _ paid (leads_begun c d levels o.0 there (at ∙ ap (at_place c) here) (leads_operator d (levels - 1) k o.0 kind l)))

pub behind_by_operator : (x c d : Site) (levels : ℕ) (k : OperatorKind) → row_kind (row_alone (first c.place.rest)) ≡ kinds.Operator k → 0 < levels → d ≡ at_place c (over 1 c.place) → x ≡ behind_operator_at k d (levels - 1) → x ≡ behind_term c levels
behind_by_operator x c d levels k h lt at l =
    let o = operator_placed (first c.place.rest) k h in
    let kind : row_kind (row_at o.0) ≡ kinds.Operator k = ap row_kind o.1 ∙ h in
    let b = a_term (count_at c.marks) (levels - 1) in
    l ∙ ap (λ (y : Site). behind_operator_at k y (levels - 1)) at ∙ ap (at_place c) (sym (behind_operator_is b k o.0 (over 1 c.place) kind) ∙ sym (ap (λ (y : Tree × Place). y.1) (operator_term (count_at c.marks) levels c.place k o.0 lt h o.1)))

pub ruleset begun = (begun_by_operator, behind_by_operator)
