-- What the marks of a scan within fewer levels are good for: the same, as far as the scan goes.
use Rattle.std.specs.Prelude.{◌≡◌, List, [], Bool, false, ℕ, Ok, Err, IsErr, IsErrAnd, refl}
use Rattle.std.proofs.Common.{◌∙◌, sym, ap, subst}
use Rattle.ar_space.specs.declared.refusal.Refusal.{Refusal}
use Rattle.ar_space.specs.Outcome.{Outcome, Answers, seen}
use Rattle.aml_path.specs.declared.segment.Seg.{Seg}
use Rattle.aml_arities.specs.declared.arities.Arity.{Arity}
use Rattle.aml_grammar.specs.declared.marks.Mark.{Mark}
use Rattle.aml_grammar.specs.State.{State}
use Rattle.aml_grammar.specs.Tree.{Tree}
use Rattle.aml_grammar.specs.Grammar.{term_list_within, by_arities, with_arities, within, refusal_within, reading_within, table_reading_within}
use Rattle.aml_marks.specs.Marked.{Ascending, trees_by}
use Rattle.aml_marks.proofs.Law.{one_list_within, marks_ascend_within}
use Rattle.aml_scan.specs.Scanned.{noted, marked}
use Rattle.aml_marks.proofs.Scans.{noted_is, marked_ok}

-- what isn't refused within so many levels is what it would be
not_refused : {A : Type 0} (levels : ℕ) (o : Outcome A) (a : A) → within levels o ≡ Ok a → o ≡ Ok a
not_refused levels (Ok b) a e = e
not_refused levels (Err x) a e = absurd (cc e)

refused_so : (levels : ℕ) (p : Outcome (List Tree) × State) (x : Refusal) → within levels (noted p) ≡ Err x → (within levels p.0 ≡ Err x) × (within levels (marked p) ≡ Err x) × (within levels (with_arities p) ≡ Err x)
refused_so levels (Ok ts, s) x e = absurd (cc e)
refused_so levels (Err y, s) x e = let same : refusal_within levels y ≡ x = cc e in (ap (λ z. Err z) same, ap (λ z. Err z) same, ap (λ z. Err z) same)

module _ (levels : ℕ) (bs : List ℕ) (scope : List Seg) (body : Bool) (known : List Arity) where
  abbrev said : Outcome (List Mark × List Arity)
  said = within levels (noted (term_list_within levels by_arities bs scope body known))

  list_is : (ms : List Mark) (after : List Arity) → Answers (Ok (ms, after)) said → (ts : List Tree) × (s : State) × (term_list_within levels by_arities bs scope body known ≡ (Ok ts, s)) × (s.marks ≡ ms) × (s.arities ≡ after)
  list_is ms after h = noted_is (term_list_within levels by_arities bs scope body known) ms after (not_refused levels (noted (term_list_within levels by_arities bs scope body known)) (ms, after) (h.is tt))

  pub list_ascends_within : (ms : List Mark) (after : List Arity) → Answers (Ok (ms, after)) (within levels (noted (term_list_within levels by_arities bs scope body known))) → Ascending ms
  list_ascends_within ms after h =
      let x = list_is ms after h in
      subst Ascending x.3 (marks_ascend_within levels bs scope body known x.0 x.1 x.2)

  pub marks_ok_within : (ms : List Mark) (after : List Arity) → Answers (Ok (ms, after)) (within levels (noted (term_list_within levels by_arities bs scope body known))) → Answers (Ok ms) (within levels (marked (term_list_within levels by_arities bs scope body known)))
  marks_ok_within ms after h =
      let p : Outcome (List Tree) × State = term_list_within levels by_arities bs scope body known in
      record { is = λ ne. ap (within levels) (marked_ok p ms after (not_refused levels (noted p) (ms, after) (h.is tt))) }

  pub marks_err_within : {e : Refusal} (r : Outcome (List Mark)) → Answers {A = List Mark × List Arity} (Err e) (within levels (noted (term_list_within levels by_arities bs scope body known))) → IsErr r × IsErrAnd r (λ y. y ≡ e)
      → Answers r (within levels (marked (term_list_within levels by_arities bs scope body known)))
  marks_err_within (Ok b) h i = absurd (cc i.0)
  marks_err_within {e = e} (Err y) h i = record { is = λ ne. (refused_so levels (term_list_within levels by_arities bs scope body known) e (h.is (λ q. ne (i.1 ∙ q)))).1 ∙ ap (λ x. Err x) (sym i.1) }

  pub list_ok_within : (ms : List Mark) (after : List Arity) → Answers (Ok (ms, after)) (within levels (noted (term_list_within levels by_arities bs scope body known))) → Answers (Ok (trees_by ms bs)) (reading_within levels bs scope body known)
  list_ok_within ms after h =
      let x = list_is ms after h in
      let same : trees_by ms bs ≡ x.0 = ap (λ m. trees_by m bs) (sym x.3) ∙ one_list_within levels bs scope body known x.0 x.1 x.2 in
      record { is = λ ne. ap (λ (p : Outcome (List Tree) × State). within levels p.0) x.2 ∙ ap (λ ts. Ok ts) (sym same) }

  pub list_err_within : {B : Type 0} {e : Refusal} (r : Outcome B) (view : B → List Tree) → Answers {A = List Mark × List Arity} (Err e) (within levels (noted (term_list_within levels by_arities bs scope body known))) → IsErr r × IsErrAnd r (λ y. y ≡ e)
      → Answers (seen view r) (reading_within levels bs scope body known)
  list_err_within (Ok b) view h i = absurd (cc i.0)
  list_err_within {e = e} (Err y) view h i = record { is = λ ne. (refused_so levels (term_list_within levels by_arities bs scope body known) e (h.is (λ q. ne (i.1 ∙ q)))).0 ∙ ap (λ x. Err x) (sym i.1) }

module _ (levels : ℕ) (bs : List ℕ) (known : List Arity) where
  pub table_ok_within : (ms : List Mark) (after : List Arity) → Answers (Ok (ms, after)) (within levels (noted (term_list_within levels by_arities bs [] false known))) → Answers (Ok (trees_by ms bs, after)) (table_reading_within levels bs known)
  table_ok_within ms after h =
      let x = list_is levels bs [] false known ms after h in
      let same : trees_by ms bs ≡ x.0 = ap (λ m. trees_by m bs) (sym x.3) ∙ one_list_within levels bs [] false known x.0 x.1 x.2 in
      record { is = λ ne. ap (λ (p : Outcome (List Tree) × State). within levels (with_arities p)) x.2 ∙ ap (λ ts. Ok (ts, x.1.arities)) (sym same) ∙ ap (λ a. Ok (trees_by ms bs, a)) x.4 }

  pub table_err_within : {B : Type 0} {e : Refusal} (r : Outcome B) (view : B → List Tree × List Arity) → Answers {A = List Mark × List Arity} (Err e) (within levels (noted (term_list_within levels by_arities bs [] false known))) → IsErr r × IsErrAnd r (λ y. y ≡ e)
      → Answers (seen view r) (table_reading_within levels bs known)
  table_err_within (Ok b) view h i = absurd (cc i.0)
  table_err_within {e = e} (Err y) view h i = record { is = λ ne. (refused_so levels (term_list_within levels by_arities bs [] false known) e (h.is (λ q. ne (i.1 ∙ q)))).2 ∙ ap (λ x. Err x) (sym i.1) }

pub ruleset scanning = (list_ascends_within, marks_ok_within, marks_err_within, list_ok_within, list_err_within, table_ok_within, table_err_within)
