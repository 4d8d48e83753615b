-- A setting of fewer levels refuses a list or a table exactly where a term is deeper than it allows.
use Rattle.std.specs.Prelude.{◌≡◌, ◌<◌, ◌↔◌, ℕ, List, [], Bool, true, false, nat_lt, Ok, Err, refl}
use Rattle.std.proofs.Common.{arith, ap, ◌∙◌}
use Rattle.std.proofs.lemmas.Bool.Decides.{nat_tests}
use Rattle.ar_space.specs.declared.refusal.Refusal.{Refusal}
use Rattle.ar_space.specs.declared.refusal.Refusal.TheVariants as refusals
use Rattle.ar_space.specs.declared.refusal.EvaluationFault.TheVariants.{DepthSetting}
use Rattle.ar_space.specs.declared.refusal.TermFault.{TermFault}
use Rattle.ar_space.specs.declared.refusal.TermFault.TheVariants as faults
use Rattle.ar_space.specs.Outcome.{Outcome}
use Rattle.aml_path.specs.declared.segment.Seg.{Seg}
use Rattle.aml_arities.specs.declared.arities.Arity.{Arity}
use Rattle.aml_grammar.specs.State.{State}
use Rattle.aml_grammar.specs.Tree.{Tree}
use Rattle.aml_grammar.specs.Grammar.{by_arities, fault_within, max_depth, reading_within, table_reading_within, term_list_within, with_arities, within}
use Rattle.aml_laws.specs.Deepened.{IsDepthSetting}
use Rattle.aml_laws.proofs.ReadingRefusals.{list_within_reads}
use Rattle.aml_laws.proofs.TermRefusals.{Reads}

abbrev TooDeepAt : {A : Type 0} → ℕ → Outcome A → Type 0
TooDeepAt offset x = x ≡ Err (refusals.Term faults.TooDeep offset)

is_fewer : (levels : ℕ) → nat_lt levels max_depth ≡ true → levels < 64
is_fewer levels h = grind (arith, nat_tests, h)

fewer_is : (levels : ℕ) → levels < 64 → nat_lt levels max_depth ≡ true
fewer_is levels h = grind (arith, nat_tests, h)

by_fault : (low : Bool) (fault : TermFault) (offset : ℕ) → fault_within low fault offset ≡ refusals.Evaluation DepthSetting → (low ≡ true) × (fault ≡ faults.TooDeep)
by_fault true faults.TooDeep offset h = (refl, refl)
by_fault true faults.BadOpcode offset h = absurd (cc h)
by_fault true faults.BadPkgLength offset h = absurd (cc h)
by_fault true faults.Truncated offset h = absurd (cc h)
by_fault true faults.NotInBody offset h = absurd (cc h)
by_fault false fault offset h = absurd (cc h)

module _ {A : Type 0} (levels : ℕ) where
  set_is_deep : (x : Outcome A) → Reads x → IsDepthSetting (within levels x) → (levels < 64) × ((offset : ℕ) × TooDeepAt offset x)
  set_is_deep (Ok a) reads h = absurd (cc h)
  set_is_deep (Err (refusals.Term fault offset)) reads h =
      let same : fault_within (nat_lt levels max_depth) fault offset ≡ refusals.Evaluation DepthSetting = cc h in
      let k = by_fault (nat_lt levels max_depth) fault offset same in
      (is_fewer levels k.0, (offset, ap (λ f. Err (refusals.Term f offset)) k.1))
  set_is_deep (Err (refusals.Name fault)) reads h = absurd (cc h)
  set_is_deep (Err _) reads h = absurd reads

  deep_is_set : (x : Outcome A) → levels < 64 → (offset : ℕ) → TooDeepAt offset x → IsDepthSetting (within levels x)
  deep_is_set x few offset h = ap (within levels) h ∙ ap (λ b. Err (fault_within b faults.TooDeep offset)) (fewer_is levels few)

with_arities_reads : (p : Outcome (List Tree) × State) → Reads p.0 → Reads (with_arities p)
with_arities_reads (Ok ts, s) c = tt
with_arities_reads (Err e, s) c = c

with_arities_deep : (p : Outcome (List Tree) × State) (offset : ℕ) → TooDeepAt offset (with_arities p) → TooDeepAt offset p.0
with_arities_deep (Ok ts, s) offset h = absurd (cc h)
with_arities_deep (Err e, s) offset h = ap (λ x. Err x) (cc h)

deep_with_arities : (p : Outcome (List Tree) × State) (offset : ℕ) → TooDeepAt offset p.0 → TooDeepAt offset (with_arities p)
deep_with_arities (Ok ts, s) offset h = absurd (cc h)
deep_with_arities (Err e, s) offset h = ap (λ x. Err x) (cc h)

pub list_set_exactly_if_deep : (levels : ℕ) (bs : List ℕ) (scope : List Seg) (body : Bool) (known : List Arity)
    → IsDepthSetting (reading_within levels bs scope body known) ↔ ((levels < 64) × (offset : ℕ) × ((term_list_within levels by_arities bs scope body known).0 ≡ Err (refusals.Term faults.TooDeep offset)))
list_set_exactly_if_deep levels bs scope body known =
    let list = (term_list_within levels by_arities bs scope body known).0 in
    (λ h. let k = set_is_deep levels list (list_within_reads levels bs scope body known) h in (k.0, k.1.0, k.1.1), λ h. deep_is_set levels list h.0 h.1 h.2)

pub table_set_exactly_if_deep : (levels : ℕ) (bs : List ℕ) (known : List Arity)
    → IsDepthSetting (table_reading_within levels bs known) ↔ ((levels < 64) × (offset : ℕ) × ((term_list_within levels by_arities bs [] false known).0 ≡ Err (refusals.Term faults.TooDeep offset)))
table_set_exactly_if_deep levels bs known =
    let run = term_list_within levels by_arities bs [] false known in (
      λ h. let k = set_is_deep levels (with_arities run) (with_arities_reads run (list_within_reads levels bs [] false known)) h in (k.0, k.1.0, with_arities_deep run k.1.0 k.1.1),
      λ h. deep_is_set levels (with_arities run) h.0 h.1 (deep_with_arities run h.1 h.2),
    )

pub ruleset levels_are_refused_exactly_if_a_term_is_deeper = (list_set_exactly_if_deep, table_set_exactly_if_deep)
