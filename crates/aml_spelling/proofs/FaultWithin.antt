-- A list is refused within the levels of a setting exactly if it has a fault within them.
use Rattle.std.proofs.Common.{◌≡◌, ℕ, ◌<◌, ◌≤◌, List, [], Bool, true, false, Ok, Err, refl, sym, ap, ◌∙◌, inl, inr, arith}
use Rattle.std.proofs.lemmas.Bool.Decides.{nat_tests}
use Rattle.std.specs.Prelude.{◌⊎◌, ◌↔◌, nat_lt}
use Rattle.ar_space.specs.Outcome.{Outcome}
use Rattle.ar_space.specs.declared.refusal.Refusal.{Refusal}
use Rattle.ar_space.specs.declared.refusal.Refusal.TheVariants as refusals
use Rattle.ar_space.specs.declared.refusal.TermFault.TheVariants as faults
use Rattle.aml_path.specs.declared.segment.Seg.{Seg}
use Rattle.aml_arities.specs.declared.arities.Arity.{Arity}
use Rattle.aml_grammar.specs.declared.context.Position.TheVariants as positions
use Rattle.aml_grammar.specs.State.{State}
use Rattle.aml_grammar.specs.Tree.{Tree}
use Rattle.aml_grammar.specs.Grammar.{items, term_at, by_arities, max_depth, outermost, beginning, term_list_within, fault_within, refusal_within, within, with_arities, reading_within, table_reading_within}
use Rattle.aml_marks.proofs.FewerLevels.{reading_all, table_all}
use Rattle.aml_scan.specs.Spelling.{IsSpelled}
use Rattle.aml_spelling.specs.Faults.{FaultyWithin, Faulty, IsToldAs}
use Rattle.aml_spelling.specs.Stands.{StandWithin}
use Rattle.aml_spelling.proofs.FaultWhole.{items_faulty, list_faulty, table_fails, table_faulty}
use Rattle.aml_spelling.proofs.RefusedWhole.{items_refused, with_refusal, faulty_refused, table_refused}
use Rattle.aml_spelling.proofs.WithinLevels.{levels_are_allowed, no_fewer, within_stands, within_read}

-- ---- as what a fault is told

is_fewer : (levels : ℕ) → levels < 64 → nat_lt levels max_depth ≡ true
is_fewer levels h = grind (arith, nat_tests, h)

module _ (levels : ℕ) (fewer : nat_lt levels max_depth ≡ true) where
  is_told : (fault r : Refusal) → refusal_within levels fault ≡ r → IsToldAs fault r
  is_told (refusals.Term faults.TooDeep offset) r h = sym h ∙ ap (λ b. fault_within b faults.TooDeep offset) fewer
  is_told (refusals.Term faults.BadOpcode offset) r h = sym h ∙ ap (λ b. fault_within b faults.BadOpcode offset) fewer
  is_told (refusals.Term faults.BadPkgLength offset) r h = sym h ∙ ap (λ b. fault_within b faults.BadPkgLength offset) fewer
  is_told (refusals.Term faults.Truncated offset) r h = sym h ∙ ap (λ b. fault_within b faults.Truncated offset) fewer
  is_told (refusals.Term faults.NotInBody offset) r h = sym h ∙ ap (λ b. fault_within b faults.NotInBody offset) fewer
  is_told _ r h = sym h

  told_is : (fault r : Refusal) → IsToldAs fault r → refusal_within levels fault ≡ r
  told_is (refusals.Term faults.TooDeep offset) r h = ap (λ b. fault_within b faults.TooDeep offset) fewer ∙ sym h
  told_is (refusals.Term faults.BadOpcode offset) r h = ap (λ b. fault_within b faults.BadOpcode offset) fewer ∙ sym h
  told_is (refusals.Term faults.BadPkgLength offset) r h = ap (λ b. fault_within b faults.BadPkgLength offset) fewer ∙ sym h
  told_is (refusals.Term faults.Truncated offset) r h = ap (λ b. fault_within b faults.Truncated offset) fewer ∙ sym h
  told_is (refusals.Term faults.NotInBody offset) r h = ap (λ b. fault_within b faults.NotInBody offset) fewer ∙ sym h
  told_is _ r h = sym h

  fault_told : {A : Type 0} (x : Outcome A) (r : Refusal) → within levels x ≡ Err r → (fault : Refusal) × (x ≡ Err fault) × IsToldAs fault r
  fault_told (Ok a) r h = absurd (cc h)
  fault_told (Err fault) r h = let same : refusal_within levels fault ≡ r = cc h in (fault, refl, is_told fault r same)

  told_fault : {A : Type 0} (x : Outcome A) (fault r : Refusal) → x ≡ Err fault → IsToldAs fault r → within levels x ≡ Err r
  told_fault x fault r is told = ap (within levels) is ∙ ap (λ e. Err e) (told_is fault r told)

-- ---- lists and tables

module _ (levels : ℕ) (bs : List ℕ) (scope : List Seg) (body : Bool) (known : List Arity) where
  abbrev run : Outcome (List Tree) × State
  run = items (term_at by_arities levels) positions.ListItem scope (outermost body) (beginning bs known)

  pub same_run : levels ≤ 64 → term_list_within levels by_arities bs scope body known ≡ run
  unfolding term_list_within
  same_run le = ap (λ l. items (term_at by_arities l) positions.ListItem scope (outermost body) (beginning bs known)) (levels_are_allowed levels le)

  same_outcome : levels ≤ 64 → (term_list_within levels by_arities bs scope body known).0 ≡ run.0
  same_outcome le = ap (λ (p : Outcome (List Tree) × State). p.0) (same_run le)

  pub fewer_list : (r : Refusal) → levels < 64 → (reading_within levels bs scope body known ≡ Err r) ↔ ((fault : Refusal) × FaultyWithin levels bs scope body known fault × IsToldAs fault r)
  fewer_list r few =
      let le : levels ≤ 64 = omega (arith, few) in
      let so = is_fewer levels few in (
        λ h. let k = fault_told levels so (term_list_within levels by_arities bs scope body known).0 r h in (k.0, items_faulty levels scope body bs known k.0 (sym (same_outcome le) ∙ k.1), k.2),
        λ h. told_fault levels so (term_list_within levels by_arities bs scope body known).0 h.0 r (same_outcome le ∙ items_refused levels scope body bs known h.0 h.1) h.2,
      )

  pub full_list : (r : Refusal) → 64 ≤ levels → (reading_within levels bs scope body known ≡ Err r) ↔ Faulty bs scope body known r
  full_list r le =
      let same = reading_all levels bs scope body known (no_fewer levels le) in
      (λ h. list_faulty scope body bs known r (sym same ∙ h), λ f. same ∙ faulty_refused bs scope body known r f)

  pub one_within : (r q : Refusal) → FaultyWithin levels bs scope body known r → FaultyWithin levels bs scope body known q → r ≡ q
  one_within r q f g = cc (sym (items_refused levels scope body bs known r f) ∙ items_refused levels scope body bs known q g)

  pub none_within : (after : List Arity) (ts : List Tree) (r : Refusal) → levels ≤ 64 → IsSpelled body ts bs → StandWithin levels scope body ts known after → FaultyWithin levels bs scope body known r → ⊥
  none_within after ts r le spelled stands f =
      let refused : reading_within levels bs scope body known ≡ Err (refusal_within levels r) = ap (within levels) (same_outcome le ∙ items_refused levels scope body bs known r f) in
      cc (sym refused ∙ within_read levels bs scope body known ts after le spelled stands)

  abbrev Either : Type 0
  Either = ((ts : List Tree) × IsSpelled body ts bs × (after : List Arity) × StandWithin levels scope body ts known after) ⊎ ((r : Refusal) × FaultyWithin levels bs scope body known r)

  either_by : levels ≤ 64 → (x : Outcome (List Tree)) → run.0 ≡ x → Either
  either_by le (Ok ts) is =
      let read : reading_within levels bs scope body known ≡ Ok ts = ap (within levels) (same_outcome le ∙ is) in
      let k = within_stands levels bs scope body known ts le read in
      inl (ts, k.0, k.1.0, k.1.1)
  either_by le (Err r) is = inr (r, items_faulty levels scope body bs known r is)

  pub either_within : levels ≤ 64 → Either
  either_within le = either_by le run.0 refl

pub fewer_table : (levels : ℕ) (bs : List ℕ) (known : List Arity) (r : Refusal) → levels < 64 → (table_reading_within levels bs known ≡ Err r) ↔ ((fault : Refusal) × FaultyWithin levels bs [] false known fault × IsToldAs fault r)
fewer_table levels bs known r few =
    let le : levels ≤ 64 = omega (arith, few) in
    let so = is_fewer levels few in
    let list = term_list_within levels by_arities bs [] false known in
    let same : list ≡ run levels bs [] false known = same_run levels bs [] false known le in (
      λ h. let k = fault_told levels so (with_arities list) r h in (k.0, items_faulty levels [] false bs known k.0 (ap (λ (p : Outcome (List Tree) × State). p.0) (sym same) ∙ table_fails list k.0 k.1), k.2),
      λ h. told_fault levels so (with_arities list) h.0 r (with_refusal list h.0 (ap (λ (p : Outcome (List Tree) × State). p.0) same ∙ items_refused levels [] false bs known h.0 h.1)) h.2,
    )

pub full_table : (levels : ℕ) (bs : List ℕ) (known : List Arity) (r : Refusal) → 64 ≤ levels → (table_reading_within levels bs known ≡ Err r) ↔ Faulty bs [] false known r
full_table levels bs known r le =
    let same = table_all levels bs known (no_fewer levels le) in
    (λ h. table_faulty bs known r (sym same ∙ h), λ f. same ∙ table_refused bs known r f)
