-- What the marks of a scan are good for: by them the bytes read as the trees that the grammar gives.
use Rattle.std.specs.Prelude.{◌≡◌, List, [], Bool, false, ℕ, Ok, Err, IsErr, IsErrAnd, refl}
use Rattle.std.proofs.Common.{◌∙◌, sym, ap, subst}
use Rattle.ar_space.specs.declared.refusal.Refusal.{Refusal}
use Rattle.ar_space.specs.Outcome.{Outcome, Answers, seen}
use Rattle.aml_path.specs.declared.segment.Seg.{Seg}
use Rattle.aml_arities.specs.declared.arities.Arity.{Arity}
use Rattle.aml_grammar.specs.declared.marks.Mark.{Mark}
use Rattle.aml_grammar.specs.State.{State}
use Rattle.aml_grammar.specs.Tree.{Tree}
use Rattle.aml_grammar.specs.Grammar.{term_list, by_arities, reading, with_arities, table_reading}
use Rattle.aml_marks.specs.Marked.{Ascending, trees_by}
use Rattle.aml_marks.proofs.Law.{one_list, marks_ascend}
use Rattle.aml_scan.specs.Scanned.{noted, marked}

-- the value of an outcome, or another where there is none
abbrev value_or : {A : Type 0} → A → Outcome A → A
value_or d (Ok a) = a
value_or d (Err e) = d

pub noted_is : (p : Outcome (List Tree) × State) (ms : List Mark) (after : List Arity) → noted p ≡ Ok (ms, after) → (ts : List Tree) × (s : State) × (p ≡ (Ok ts, s)) × (s.marks ≡ ms) × (s.arities ≡ after)
noted_is (Ok ts, s) ms after e = (ts, s, refl, ap (λ (q : Outcome (List Mark × List Arity)). (value_or (s.marks, s.arities) q).0) e, ap (λ (q : Outcome (List Mark × List Arity)). (value_or (s.marks, s.arities) q).1) e)
noted_is (Err x, s) ms after e = absurd (cc e)

noted_err : (p : Outcome (List Tree) × State) (x : Refusal) → noted p ≡ Err x → (p.0 ≡ Err x) × (marked p ≡ Err x) × (with_arities p ≡ Err x)
noted_err (Ok ts, s) x e = absurd (cc e)
noted_err (Err y, s) x e = let same : y ≡ x = cc e in (ap (λ z. Err z) same, ap (λ z. Err z) same, ap (λ z. Err z) same)

pub marked_ok : (p : Outcome (List Tree) × State) (ms : List Mark) (after : List Arity) → noted p ≡ Ok (ms, after) → marked p ≡ Ok ms
marked_ok p ms after e = let x = noted_is p ms after e in ap marked x.2 ∙ ap (λ m. Ok m) x.3

module _ (bs : List ℕ) (scope : List Seg) (body : Bool) (known : List Arity) where
  pub list_ascends : (ms : List Mark) (after : List Arity) → Answers (Ok (ms, after)) (noted (term_list by_arities bs scope body known)) → Ascending ms
  list_ascends ms after h =
      let x = noted_is (term_list by_arities bs scope body known) ms after (h.is tt) in
      subst Ascending x.3 (marks_ascend bs scope body known x.0 x.1 x.2)

  pub marks_ok : (ms : List Mark) (after : List Arity) → Answers (Ok (ms, after)) (noted (term_list by_arities bs scope body known)) → Answers (Ok ms) (marked (term_list by_arities bs scope body known))
  marks_ok ms after h = record { is = λ ne. marked_ok (term_list by_arities bs scope body known) ms after (h.is tt) }

  pub list_ok : (ms : List Mark) (after : List Arity) → Answers (Ok (ms, after)) (noted (term_list by_arities bs scope body known)) → Answers (Ok (trees_by ms bs)) (reading bs scope body known)
  list_ok ms after h =
      let x = noted_is (term_list by_arities bs scope body known) ms after (h.is tt) in
      let same : trees_by ms bs ≡ x.0 = ap (λ m. trees_by m bs) (sym x.3) ∙ one_list bs scope body known x.0 x.1 x.2 in
      record { is = λ ne. ap (λ (p : Outcome (List Tree) × State). p.0) x.2 ∙ ap (λ ts. Ok ts) (sym same) }

  pub marks_err : {B : Type 0} {e : Refusal} (r : Outcome B) (view : B → List Mark) → Answers {A = List Mark × List Arity} (Err e) (noted (term_list by_arities bs scope body known)) → IsErr r × IsErrAnd r (λ y. y ≡ e) → Answers (seen view r) (marked (term_list by_arities bs scope body known))
  marks_err (Ok b) view h i = absurd (cc i.0)
  marks_err {e = e} (Err y) view h i = record { is = λ ne. (noted_err (term_list by_arities bs scope body known) e (h.is (λ q. ne (i.1 ∙ q)))).1 ∙ ap (λ x. Err x) (sym i.1) }

  pub marks_no : {e : Refusal} (r : Outcome (List Mark)) → Answers {A = List Mark × List Arity} (Err e) (noted (term_list by_arities bs scope body known)) → IsErr r × IsErrAnd r (λ y. y ≡ e) → Answers r (marked (term_list by_arities bs scope body known))
  marks_no (Ok b) h i = absurd (cc i.0)
  marks_no {e = e} (Err y) h i = record { is = λ ne. (noted_err (term_list by_arities bs scope body known) e (h.is (λ q. ne (i.1 ∙ q)))).1 ∙ ap (λ x. Err x) (sym i.1) }

  pub list_err : {B : Type 0} {e : Refusal} (r : Outcome B) (view : B → List Tree) → Answers {A = List Mark × List Arity} (Err e) (noted (term_list by_arities bs scope body known)) → IsErr r × IsErrAnd r (λ y. y ≡ e) → Answers (seen view r) (reading bs scope body known)
  list_err (Ok b) view h i = absurd (cc i.0)
  list_err {e = e} (Err y) view h i = record { is = λ ne. (noted_err (term_list by_arities bs scope body known) e (h.is (λ q. ne (i.1 ∙ q)))).0 ∙ ap (λ x. Err x) (sym i.1) }

module _ (bs : List ℕ) (known : List Arity) where
  pub table_ok : (ms : List Mark) (after : List Arity) → Answers (Ok (ms, after)) (noted (term_list by_arities bs [] false known)) → Answers (Ok (trees_by ms bs, after)) (table_reading bs known)
  table_ok ms after h =
      let x = noted_is (term_list by_arities bs [] false known) ms after (h.is tt) in
      let same : trees_by ms bs ≡ x.0 = ap (λ m. trees_by m bs) (sym x.3) ∙ one_list bs [] false known x.0 x.1 x.2 in
      record { is = λ ne. ap with_arities x.2 ∙ ap (λ ts. Ok (ts, x.1.arities)) (sym same) ∙ ap (λ a. Ok (trees_by ms bs, a)) x.4 }

  pub table_err : {B : Type 0} {e : Refusal} (r : Outcome B) (view : B → List Tree × List Arity) → Answers {A = List Mark × List Arity} (Err e) (noted (term_list by_arities bs [] false known)) → IsErr r × IsErrAnd r (λ y. y ≡ e) → Answers (seen view r) (table_reading bs known)
  table_err (Ok b) view h i = absurd (cc i.0)
  table_err {e = e} (Err y) view h i = record { is = λ ne. (noted_err (term_list by_arities bs [] false known) e (h.is (λ q. ne (i.1 ∙ q)))).2 ∙ ap (λ x. Err x) (sym i.1) }

pub ruleset scanning = (list_ascends, marks_ok, marks_err, marks_no, list_ok, list_err, table_ok, table_err)
