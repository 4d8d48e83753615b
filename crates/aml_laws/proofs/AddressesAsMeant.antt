-- An address that is answered within some number of steps is answered so by what the terms mean, where as many steps more are left.
use Rattle.std.specs.Prelude.{◌≡◌, ◌⊎◌, ◌+◌, ℕ, List, Ok, refl}
use Rattle.std.proofs.Common.{arith, inl, inr, ap, sym, ◌∙◌}
use Rattle.ar_space.specs.declared.space.Place.{Place}
use Rattle.ar_space.specs.Accesses.{Accesses}
use Rattle.ar_space.specs.Outcome.{Outcome}
use Rattle.aml_path.specs.declared.segment.Seg.{Seg}
use Rattle.aml_fields.specs.declared.region.AddressSpace.{AddressSpace}
use Rattle.aml_fields.specs.declared.region.AddressSpace.TheVariants as spaces
use Rattle.aml_world.specs.state.State.{State}
use Rattle.aml_world.specs.state.Run.{Run}
use Rattle.aml_world.specs.fields.Fields.{pci_address}
use Rattle.aml_meaning.specs.declared.flow.Flow.{Flow}
use Rattle.aml_meaning.specs.Tasks.{Task}
use Rattle.aml_meaning.specs.Meaning.{evaluated_within, meaning}
use Rattle.aml_meaning.specs.FieldCalls.{called_at}
use Rattle.aml_laws.specs.Histories.{scope_of}
use Rattle.aml_laws.specs.RegionAccesses.{IsPlaceOf, is_address, is_port, is_register}
use Rattle.aml_laws.specs.RegionFunctions.{HasAddress, IsAtFunction, in_memory, at_port, of_function}
use Rattle.aml_laws.specs.Steps.{IsOutOfSteps, with_more_left}
use Rattle.aml_laws.proofs.AddressesAnswered.{address_answered}
use Rattle.aml_laws.proofs.FieldsTogether.{pci_address_together}
use Rattle.aml_laws.proofs.Levels.{level}
use Rattle.aml_laws.proofs.LocatedRegions.{SpaceAnswers, memory, io, asked, IsAsMeant, meant, bounded, AsksObjects, IsLocated}
use Rattle.aml_laws.proofs.MeaningTogether.{alike_parts, bounded_together}
use Rattle.aml_laws.proofs.MoreSteps.{never_passed, lengthening, one, run_comes}
use Rattle.aml_laws.proofs.OperandsTogether.{PartsTogether, called_at_together}
use Rattle.aml_laws.proofs.Together.{Together, Fits}
use Rattle.aml_laws.proofs.Widening.{same_space}
use Rattle.aml_laws.proofs.WorldsTogether.{runs}

module _ {S : Type 0} (accesses : Accesses S) (n : ℕ) where
  bounds_together : (m : ℕ) → Fits (lengthening accesses n) n m → (task : Task) → Together (level (lengthening accesses n) task.depth) runs (evaluated_within accesses n task) (evaluated_within accesses m task)
  unfolding lengthening
  bounds_together m fits task = bounded_together (lengthening accesses n) (λ p. refl) never_passed refl n m fits task

  within_meant : (task : Task) → Together (level (lengthening accesses n) task.depth) runs (evaluated_within accesses n task) (meaning accesses task)
  unfolding meaning lengthening same_space
  within_meant task = record {
    left_parted = λ s t h. absurd h;
    right_parted = λ s u h. absurd h;
    goes = λ s t i. (bounds_together (s.1 + n) (inr (refl, omega arith)) task).goes s t i;
  }

  parts_meant : PartsTogether (lengthening accesses n) (evaluated_within accesses n) (meaning accesses)
  unfolding lengthening
  parts_meant = alike_parts (lengthening accesses n) (λ p. refl) never_passed refl (evaluated_within accesses n) (meaning accesses) within_meant

  module _ (depth : ℕ) (scope : List Seg) (w : State S) (steps : ℕ) where
    address_meant : IsOutOfSteps (pci_address accesses (called_at accesses (evaluated_within accesses n) depth) scope (w, steps)).0
        ⊎ (pci_address accesses (called_at accesses (meaning accesses) depth) scope (w, steps + n) ≡ with_more_left n (pci_address accesses (called_at accesses (evaluated_within accesses n) depth) scope (w, steps)))
    unfolding lengthening same_space
    address_meant =
        run_comes accesses n (pci_address accesses (called_at accesses (evaluated_within accesses n) depth) scope (w, steps)) (pci_address accesses (called_at accesses (meaning accesses) depth) scope (w, steps + n))
        ((one accesses n depth (pci_address_together (called_at_together parts_meant depth) scope)).goes (w, steps) w.space refl)

module _ {S : Type 0} (accesses : Accesses S) (scope : List Seg) (w : State S) (space : AddressSpace) where
  found_address : (depth steps : ℕ) → (pci_address accesses (called_at accesses (meaning accesses) depth) scope (w, steps)).0 ≡ Ok space → HasAddress accesses w scope space
  found_address depth steps e =
      let p = pci_address accesses (called_at accesses (meaning accesses) depth) scope (w, steps) in
      record { depth = depth; steps = steps; after = p.1; found = address_answered accesses (called_at accesses (meaning accesses) depth) scope (w, steps) space p.1 (ap (λ r. (r, p.1)) e) }

  unless_out_of_steps : (depth steps n : ℕ) (p : Outcome AddressSpace × (State S × ℕ)) → p.0 ≡ Ok space → IsOutOfSteps p.0 ⊎ (pci_address accesses (called_at accesses (meaning accesses) depth) scope (w, steps + n) ≡ with_more_left n p) → HasAddress accesses w scope space
  unless_out_of_steps depth steps n p e (inl out) = absurd (cc (sym e ∙ out))
  unless_out_of_steps depth steps n p e (inr same) = found_address depth (steps + n) (ap (λ (q : Outcome AddressSpace × (State S × ℕ)). q.0) same ∙ e)

  asked_as_meant : (ev : Task → Run S Flow) → IsAsMeant accesses ev → (depth steps : ℕ) → (pci_address accesses (called_at accesses ev depth) scope (w, steps)).0 ≡ Ok space → HasAddress accesses w scope space
  asked_as_meant _ meant depth steps e = found_address depth steps e
  asked_as_meant _ (bounded n) depth steps e = unless_out_of_steps depth steps n (pci_address accesses (called_at accesses (evaluated_within accesses n) depth) scope (w, steps)) e (address_meant accesses n depth scope w steps)

module _ {S : Type 0} (accesses : Accesses S) (w : State S) (path : List Seg) where
  answered_by_cases : (call : List Seg → Run S ℕ) → AsksObjects accesses call → (space : AddressSpace) (seg bus dev func : ℕ) → SpaceAnswers accesses call w path space → space ≡ spaces.Pci seg bus dev func → HasAddress accesses w (scope_of path) (spaces.Pci seg bus dev func)
  answered_by_cases call asks space seg bus dev func memory is = absurd (cc is)
  answered_by_cases call asks space seg bus dev func io is = absurd (cc is)
  answered_by_cases call asks space seg bus dev func (asked _ steps e) is =
      asked_as_meant accesses (scope_of path) w (spaces.Pci seg bus dev func) asks.ev asks.as_meant asks.depth steps
      (ap (λ (c : List Seg → Run S ℕ). (pci_address accesses c (scope_of path) (w, steps)).0) (sym asks.is) ∙ e ∙ ap (λ s. Ok s) is)

  -- an access in the address space of a region that was located
  pub at_function : (space : AddressSpace) (at : Place) → IsLocated accesses w path space → IsPlaceOf space at → IsAtFunction accesses w (scope_of path) at
  at_function _ _ located (is_address n) = in_memory n
  at_function _ _ located (is_port n) = at_port n
  at_function _ _ located (is_register seg bus dev func n) = of_function seg bus dev func n (answered_by_cases located.call located.asks (spaces.Pci seg bus dev func) seg bus dev func located.answers refl)
