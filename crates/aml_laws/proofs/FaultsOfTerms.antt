-- Where a term refuses by a fault of the register space, its last access answered with it; where it refuses for want of steps, none is
-- left; and where it refuses for a depth that the setting doesn't allow, it allows less than the default.
use Rattle.std.specs.Prelude.{◌≡◌, ◌<◌, ◌≤◌, ℕ, zero, suc, nat_le, Bool, true, false, Ok, Err, refl}
use Rattle.std.proofs.Common.{arith, ap, sym, subst, ◌∙◌}
use Rattle.std.proofs.lemmas.Bool.Decides.{nat_tests}
use Rattle.ar_space.specs.declared.refusal.Refusal.TheVariants as refusal
use Rattle.ar_space.specs.declared.refusal.EvaluationFault.TheVariants.{OutOfSteps}
use Rattle.ar_space.specs.declared.refusal.NameFault.TheVariants.{BadName}
use Rattle.ar_space.specs.Accesses.{Accesses}
use Rattle.ar_space.specs.Outcome.{Outcome}
use Rattle.ar_space.specs.Change.{go_on, ◌>>=◌}
use Rattle.aml_world.specs.state.State.{State}
use Rattle.aml_world.specs.state.Run.{Run}
use Rattle.aml_meaning.specs.declared.flow.Flow.{Flow}
use Rattle.aml_meaning.specs.Tasks.{Task}
use Rattle.aml_meaning.specs.Evaluation.{rule}
use Rattle.aml_meaning.specs.Meaning.{evaluated_within, meaning}
use Rattle.aml_meaning.proofs.Meanings.{meaning_is, meaning_less, meaning_paid}
use Rattle.aml_laws.specs.Answered.{none}
use Rattle.aml_laws.proofs.Charges.{charge_one}
use Rattle.aml_laws.proofs.Costs.{Costs}
use Rattle.aml_laws.proofs.FaultsOfChanges.{Explained, RunExplains, Spent}
use Rattle.aml_laws.proofs.FaultsOfRules.{rule_explains}
use Rattle.aml_laws.proofs.RuleByParts.{rule_by_parts}
use Rattle.aml_laws.proofs.SetDepths.{OfSetting, is_low}

is_within : (k n : ℕ) → nat_le k n ≡ true → k ≤ n
is_within k n h = grind (arith, nat_tests)

within_is : (k n : ℕ) → k ≤ n → nat_le k n ≡ true
within_is k n h = grind (arith, nat_tests)

module _ {S : Type 0} (accesses : Accesses S) where
  -- ---- the meanings of parts, as far as so many steps are left

  abbrev held_if : Bool → Task → Run S Flow
  held_if true t s = meaning accesses t s
  held_if false t s = (Err (refusal.Name BadName), s)

  abbrev held : ℕ → Task → Run S Flow
  held n t s = held_if (nat_le s.1 n) t s

  abbrev Tells : Outcome Flow × (State S × ℕ) → S → Type 0
  Tells p s = Explained accesses p.0 s p.1.0.space × (Spent p.0 p.1.1 × OfSetting p.0 (is_low p.1.0.nesting))

  held_tells_by : (b : Bool) (t : Task) (s : State S × ℕ) → (b ≡ true → Tells (meaning accesses t s) s.0.space) → Tells (held_if b t s) s.0.space
  held_tells_by true t s h = h refl
  held_tells_by false t s h = (none, (tt, tt))

  held_explains : (n : ℕ) → ((t : Task) (s : State S × ℕ) → s.1 ≤ n → Tells (meaning accesses t s) s.0.space) → (t : Task) → RunExplains accesses (held n t)
  held_explains n tells t = record {
    explained = λ s. (held_tells_by (nat_le s.1 n) t s (λ h. tells t s (is_within s.1 n h))).0;
    spent = λ s. (held_tells_by (nat_le s.1 n) t s (λ h. tells t s (is_within s.1 n h))).1.0;
    set = λ s. (held_tells_by (nat_le s.1 n) t s (λ h. tells t s (is_within s.1 n h))).1.1;
  }

  less_by : (b : Bool) (t : Task) (s : State S × ℕ) → (held_if b t s).1.1 ≤ s.1
  less_by true t s = meaning_less accesses t s
  less_by false t s = omega arith

  paid_by : (b : Bool) (t : Task) (s : State S × ℕ) (f : Flow) → (held_if b t s).0 ≡ Ok f → (held_if b t s).1.1 < s.1
  paid_by true t s f e = meaning_paid accesses t s f e
  paid_by false t s f e = absurd (cc e)

  held_costs : (n : ℕ) → Costs {S = S} (held n)
  held_costs n = record { less = λ t s. less_by (nat_le s.1 n) t s; paid = λ t s f e. paid_by (nat_le s.1 n) t s f e }

  -- ---- a step, and the rule over them

  meaning_none : (t : Task) (w : State S) → meaning accesses t (w, zero) ≡ (Err (refusal.Evaluation OutOfSteps), (w, zero))
  unfolding meaning evaluated_within
  meaning_none t w = refl

  held_same : (n : ℕ) (t : Task) (s : State S × ℕ) → s.1 ≤ n → meaning accesses t s ≡ held n t s
  held_same n t s le = ap (λ b. held_if b t s) (sym (within_is s.1 n le))

  meaning_one : (t : Task) (w : State S) (b : ℕ) → meaning accesses t (w, suc b) ≡ rule accesses (held b) t (w, b)
  unfolding ◌>>=◌ go_on
  meaning_one t w b =
      meaning_is accesses t (w, suc b) ∙ ap (λ (p : Outcome (Unit {0}) × (State S × ℕ)). go_on p.0 p.1 (λ u. rule accesses (meaning accesses) t)) (charge_one w b)
      ∙ rule_by_parts accesses (meaning accesses) (held b) t w b (record { same = λ u s le. held_same b u s le; less = λ u s le. meaning_less accesses u s })

  told : (n : ℕ) (t : Task) (w : State S) (b : ℕ) → b ≤ n → Tells (meaning accesses t (w, b)) w.space
  told zero t w zero le = subst (λ p. Tells p w.space) (sym (meaning_none t w)) (none, (refl, tt))
  told (suc n) t w zero le = subst (λ p. Tells p w.space) (sym (meaning_none t w)) (none, (refl, tt))
  told zero t w (suc b) le = absurd (omega arith)
  told (suc n) t w (suc b) le =
      let h = rule_explains accesses (held b) (held_explains b (λ u s less. told n u s.0 s.1 (omega arith))) (held_costs b) t in
      subst (λ p. Tells p w.space) (sym (meaning_one t w b)) (h.explained (w, b), (h.spent (w, b), h.set (w, b)))

  pub meaning_explains : (t : Task) → RunExplains accesses (meaning accesses t)
  meaning_explains t = record {
    explained = λ s. (told s.1 t s.0 s.1 (omega arith)).0;
    spent = λ s. (told s.1 t s.0 s.1 (omega arith)).1.0;
    set = λ s. (told s.1 t s.0 s.1 (omega arith)).1.1;
  }
