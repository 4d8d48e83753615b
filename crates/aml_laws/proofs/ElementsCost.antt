-- What it costs to hand out an element of a package: one step, and then what it holds.
use Rattle.std.specs.Prelude.{◌≤◌, ◌-◌, ◌==◌, ℕ, zero, suc, List, [], ◌∷◌, Ok, Err, refl}
use Rattle.std.proofs.Common.{arith}
use Rattle.ar_space.specs.declared.refusal.Refusal.TheVariants as refusal
use Rattle.ar_space.specs.declared.refusal.EvaluationFault.TheVariants.{OutOfSteps}
use Rattle.ar_space.specs.Accesses.{Accesses}
use Rattle.ar_space.specs.Outcome.{Outcome}
use Rattle.ar_space.specs.Change.{go_on, ◌>>=◌}
use Rattle.aml_objects.specs.declared.object.Element.{Element}
use Rattle.aml_objects.specs.declared.object.Element.TheVariants as element
use Rattle.aml_objects.specs.declared.value.Reference.{Reference}
use Rattle.aml_objects.specs.declared.value.Reference.TheVariants as reference
use Rattle.aml_objects.specs.declared.value.Value.{Value}
use Rattle.aml_objects.specs.declared.value.Value.TheVariants as value
use Rattle.aml_world.specs.declared.state.name_use.NameUse.{NameUse}
use Rattle.aml_world.specs.declared.state.name_use.NameUse.TheVariants as uses
use Rattle.aml_world.specs.state.Given as given
use Rattle.aml_world.specs.state.State.{State}
use Rattle.aml_world.specs.state.Run.{Run, charge}
use Rattle.aml_meaning.specs.Tasks.{Task}
use Rattle.aml_meaning.specs.Exporting.{text_exported, bytes_exported, reference_exported, value_exported, use_exported, name_exported, held_exported, element_exported, each_exported, elements_exported, package_exported}
use Rattle.aml_meaning.specs.Meaning.{meaning}
use Rattle.aml_meaning.proofs.Meanings.{meaning_less}
use Rattle.aml_laws.specs.CostsOfTrees.{CostsOneStep}
use Rattle.aml_laws.proofs.Charges.{charge_none, charge_one}
use Rattle.aml_laws.proofs.Preorders.{Preorder, either_branch, give_respects, stop_respects, then_respects}
use Rattle.aml_laws.proofs.StepsOfParts.{Keeps, lift_keeps, field_given_keeps, called_at_keeps}

abbrev fewer : Preorder ℕ
fewer = record { Leads = λ n m. m ≤ n; reflexive = λ n. omega arith; transitive = λ n m k h i. omega (arith, h, i) }

module _ {S : Type 0} where
  charge_keeps : Keeps {S = S} fewer charge
  unfolding charge
  charge_keeps = record { respects = λ s. either_branch (λ (x : Outcome (Unit {0}) × (State S × ℕ)). x.1.1 ≤ s.1) (s.1 == 0) (Err (refusal.Evaluation OutOfSteps), s) (Ok tt, (s.0, s.1 - 1)) (omega arith) (omega arith) }

  text_keeps : (o : ℕ) → Keeps {S = S} fewer (text_exported o)
  unfolding text_exported
  text_keeps o = then_respects _ _ (lift_keeps fewer _) (λ bytes. give_respects _)

  bytes_keep : (o : ℕ) → Keeps {S = S} fewer (bytes_exported o)
  unfolding bytes_exported
  bytes_keep o = then_respects _ _ (lift_keeps fewer _) (λ bytes. give_respects _)

  reference_keeps : (r : Reference) → Keeps {S = S} fewer (reference_exported r)
  unfolding reference_exported
  reference_keeps (reference.Name n) = lift_keeps fewer _
  reference_keeps (reference.Slot slot n) = give_respects _
  reference_keeps (reference.Element o i) = give_respects _
  reference_keeps (reference.Byte o i) = give_respects _

module _ {S : Type 0} (accesses : Accesses S) where
  term_less : (t : Task) → Keeps fewer (meaning accesses t)
  term_less t = record { respects = meaning_less accesses t }

  module _ (pack : ℕ → Run S given.Given) (packs : (o : ℕ) → Keeps fewer (pack o)) where
    value_keeps : (v : Value) → Keeps fewer (value_exported accesses pack v)
    unfolding value_exported
    value_keeps value.Uninitialized = give_respects _
    value_keeps (value.Integer n) = give_respects _
    value_keeps (value.String o) = text_keeps o
    value_keeps (value.Buffer o) = bytes_keep o
    value_keeps (value.Package o) = packs o
    value_keeps (value.Reference r) = reference_keeps r

    use_keeps : (u : NameUse) → Keeps fewer (use_exported accesses pack u)
    unfolding use_exported
    use_keeps (uses.Value v) = value_keeps v
    use_keeps (uses.Field f) = field_given_keeps fewer accesses _ (called_at_keeps fewer accesses (meaning accesses) term_less 1) f
    use_keeps (uses.Path p) = give_respects _

    held_keeps : (e : Element) → Keeps fewer (held_exported accesses pack e)
    unfolding held_exported name_exported
    held_keeps (element.Value v) = value_keeps v
    held_keeps (element.Name n scope) = then_respects _ _ (lift_keeps fewer _) use_keeps

    each_keep : (es : List Element) (done : List given.Given) → Keeps fewer (each_exported accesses pack es done)
    unfolding each_exported element_exported
    each_keep [] done = give_respects _
    each_keep (e ∷ es) done = then_respects _ _ (then_respects _ _ charge_keeps (λ step. held_keeps e)) (λ g. each_keep es _)

    elements_keep : (o : ℕ) → Keeps fewer (elements_exported accesses pack o)
    unfolding elements_exported
    elements_keep o = then_respects _ _ (lift_keeps fewer _) (λ es. then_respects _ _ (each_keep es []) (λ gs. give_respects _))

    element_costs : (e : Element) → CostsOneStep (element_exported accesses pack e) (held_exported accesses pack e)
    unfolding element_exported ◌>>=◌ go_on
    element_costs e = record {
      refused = λ w. rw (charge_none w) refl;
      paid = λ w steps. rw (charge_one w steps) refl;
      less = λ w steps. rw (charge_one w steps) ((held_keeps e).respects (w, steps));
    }

  packages_keep : (n o : ℕ) → Keeps fewer (package_exported accesses n o)
  unfolding package_exported
  packages_keep zero o = stop_respects _
  packages_keep (suc n) o = elements_keep (package_exported accesses n) (packages_keep n) o

  pub element_handed_out : (n : ℕ) (e : Element) → CostsOneStep (element_exported accesses (package_exported accesses n) e) (held_exported accesses (package_exported accesses n) e)
  element_handed_out n e = element_costs (package_exported accesses n) (packages_keep n) e
