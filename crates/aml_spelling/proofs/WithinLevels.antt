-- A list is read within fewer levels exactly if it is spelled and may stand within them.
use Rattle.std.proofs.Common.{◌≡◌, ℕ, List, [], Bool, true, false, Ok, Err, refl, subst, sym, ◌∙◌, ap, inl, inr, arith}
use Rattle.std.proofs.lemmas.Bool.Decides.{nat_tests}
use Rattle.std.specs.Prelude.{◌≤◌, ◌⊎◌, nat_lt, if◌then◌else◌}
use Rattle.ar_space.specs.Outcome.{Outcome}
use Rattle.ar_space.specs.declared.refusal.Refusal.TheVariants as refusals
use Rattle.ar_space.specs.declared.refusal.EvaluationFault.TheVariants.{DepthSetting}
use Rattle.aml_path.specs.declared.segment.Seg.{Seg}
use Rattle.aml_arities.specs.declared.arities.Arity.{Arity}
use Rattle.aml_grammar.specs.declared.context.Position.TheVariants as positions
use Rattle.aml_grammar.specs.State.{State}
use Rattle.aml_grammar.specs.Tree.{Tree}
use Rattle.aml_grammar.specs.Shape.{trees_of}
use Rattle.aml_grammar.specs.Grammar.{items, term_in, below, term_at, by_arities, max_depth, levels_allowed, outermost, beginning, term_list_within, within, reading, reading_within, Reads}
use Rattle.aml_marks.proofs.FewerLevels.{reading_less, reading_all}
use Rattle.aml_scan.specs.Spelling.{IsSpelled}
use Rattle.aml_scan.proofs.SpelledTerms.{list_spelled}
use Rattle.aml_spelling.specs.Stands.{StandWithin, MayStand}
use Rattle.aml_spelling.proofs.Gets.{Gets}
use Rattle.aml_spelling.proofs.GetsParts.{gets_items}
use Rattle.aml_spelling.proofs.GetsWhole.{gets_at_levels, of_list, list_read}
use Rattle.aml_spelling.proofs.Leaves.{Leaves}
use Rattle.aml_spelling.proofs.LeavesParts.{leaves_items}
use Rattle.aml_spelling.proofs.LeavesWhole.{leaves_term_in, leaves_below, list_stands}

-- as many levels as the setting says
allowed_by : (b : Bool) (levels : ℕ) → nat_lt levels max_depth ≡ b → levels ≤ 64 → (if b then levels else max_depth) ≡ levels
allowed_by true levels is le = refl
allowed_by false levels is le = grind (arith, nat_tests, is, le)

pub levels_are_allowed : (levels : ℕ) → levels ≤ 64 → levels_allowed levels ≡ levels
levels_are_allowed levels le = allowed_by (nat_lt levels max_depth) levels refl le

-- ---- what is read is spelled, and may stand

read_within : (levels : ℕ) (x : Outcome (List Tree)) (ts : List Tree) → within levels x ≡ Ok ts → x ≡ Ok ts
read_within levels (Ok us) ts h = h
read_within levels (Err e) ts h = absurd (cc h)

leaves_within : (levels : ℕ) (bs : List ℕ) (scope : List Seg) (body : Bool) (known : List Arity) → Leaves (items (term_at by_arities levels) positions.ListItem scope (outermost body)) (beginning bs known) (λ ts before after. StandWithin levels scope body ts before after)
unfolding term_at
leaves_within levels bs scope body known = leaves_items levels (term_in by_arities (below by_arities levels)) (leaves_term_in levels (below by_arities levels) (leaves_below levels)) positions.ListItem scope (outermost body) (beginning bs known)

stands_within : (levels : ℕ) (bs : List ℕ) (scope : List Seg) (body : Bool) (known : List Arity) (ts : List Tree) → levels_allowed levels ≡ levels → reading_within levels bs scope body known ≡ Ok ts → (after : List Arity) × StandWithin levels scope body ts known after
unfolding term_list_within
stands_within levels bs scope body known ts allowed h =
    let run : Outcome (List Tree) × State = items (term_at by_arities levels) positions.ListItem scope (outermost body) (beginning bs known) in
    let same : term_list_within levels by_arities bs scope body known ≡ run = ap (λ l. items (term_at by_arities l) positions.ListItem scope (outermost body) (beginning bs known)) allowed in
    let read : run.0 ≡ Ok ts = ap (λ (p : Outcome (List Tree) × State). p.0) (sym same) ∙ read_within levels _ ts h in
    (run.1.arities, (leaves_within levels bs scope body known).is ts run.1 (ap (λ (o : Outcome (List Tree)). (o, run.1)) read))

spelled_by : (levels : ℕ) (bs : List ℕ) (scope : List Seg) (body : Bool) (known : List Arity) (ts : List Tree)
    → (reading_within levels bs scope body known ≡ reading_within 64 bs scope body known) ⊎ (reading_within levels bs scope body known ≡ Err (refusals.Evaluation DepthSetting)) → reading_within levels bs scope body known ≡ Ok ts → IsSpelled body ts bs
spelled_by levels bs scope body known ts (inl same) h = list_spelled bs scope body known ts (sym (reading_all 64 bs scope body known refl) ∙ sym same ∙ h)
spelled_by levels bs scope body known ts (inr deep) h = absurd (cc (sym deep ∙ h))

pub within_stands : (levels : ℕ) (bs : List ℕ) (scope : List Seg) (body : Bool) (known : List Arity) (ts : List Tree) → levels ≤ 64 → reading_within levels bs scope body known ≡ Ok ts → IsSpelled body ts bs × ((after : List Arity) × StandWithin levels scope body ts known after)
within_stands levels bs scope body known ts le h =
    (spelled_by levels bs scope body known ts (reading_less levels 64 le bs scope body known) h, stands_within levels bs scope body known ts (levels_are_allowed levels le) h)

-- ---- what is spelled and may stand is read

gets_within : (levels : ℕ) (bs : List ℕ) (scope : List Seg) (body : Bool) (known after : List Arity) (ts : List Tree) → IsSpelled body ts bs → StandWithin levels scope body ts known after → Gets (items (term_at by_arities levels) positions.ListItem scope (outermost body)) (beginning bs known) ts [] after
unfolding term_at
gets_within levels bs scope body known after ts spelled stands =
    let g = gets_items levels (term_in by_arities (below by_arities levels)) (gets_at_levels levels) positions.ListItem scope (outermost body) (trees_of ts) bs known after (beginning bs known) spelled stands refl refl in
    record { after = g.after; is = g.is ∙ ap (λ us. (Ok us, g.after)) (of_list ts); left = g.left; knows = g.knows }

pub within_read : (levels : ℕ) (bs : List ℕ) (scope : List Seg) (body : Bool) (known : List Arity) (ts : List Tree) (after : List Arity) → levels ≤ 64 → IsSpelled body ts bs → StandWithin levels scope body ts known after → reading_within levels bs scope body known ≡ Ok ts
unfolding term_list_within
within_read levels bs scope body known ts after le spelled stands =
    let read = ap (λ (p : Outcome (List Tree) × State). p.0) (gets_within levels bs scope body known after ts spelled stands).is in
    ap (λ l. within levels (items (term_at by_arities l) positions.ListItem scope (outermost body) (beginning bs known)).0) (levels_are_allowed levels le) ∙ ap (within levels) read

-- ---- 64 levels or more are no setting

pub no_fewer : (levels : ℕ) → 64 ≤ levels → nat_lt levels max_depth ≡ false
no_fewer levels le = grind (arith, nat_tests, le)

pub whole_stands : (levels : ℕ) (bs : List ℕ) (scope : List Seg) (body : Bool) (known : List Arity) (ts : List Tree) → 64 ≤ levels → reading_within levels bs scope body known ≡ Ok ts → IsSpelled body ts bs × ((after : List Arity) × MayStand scope body ts known after)
whole_stands levels bs scope body known ts le h =
    let read : Reads bs scope body known ts = sym (reading_all levels bs scope body known (no_fewer levels le)) ∙ h in
    (list_spelled bs scope body known ts read, list_stands bs scope body known ts read)

pub whole_read : (levels : ℕ) (bs : List ℕ) (scope : List Seg) (body : Bool) (known : List Arity) (ts : List Tree) (after : List Arity) → 64 ≤ levels → IsSpelled body ts bs → MayStand scope body ts known after → reading_within levels bs scope body known ≡ Ok ts
whole_read levels bs scope body known ts after le spelled stands = reading_all levels bs scope body known (no_fewer levels le) ∙ list_read bs scope body known ts after spelled stands
