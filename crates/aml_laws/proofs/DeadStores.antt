-- What is stored through a dead reference is refused.
use Rattle.std.specs.Prelude.{◌≡◌, ◌⊎◌, ◌≤◌, ◌<◌, ◌+◌, ◌-◌, ℕ, zero, suc, nat_lt, false, List, length, slice_get, Option, Some, None, Ok, Err, refl, if◌then◌else◌}
use Rattle.std.proofs.Common.{arith, inl, inr, ap, ◌∙◌}
use Rattle.std.proofs.lemmas.Bool.{cases_lt}
use Rattle.std.proofs.lemmas.Bool.Decides.{nat_tests}
use Rattle.ar_space.specs.declared.refusal.Refusal.TheVariants as refusal
use Rattle.ar_space.specs.declared.refusal.EvaluationFault.TheVariants.{DeadReference}
use Rattle.ar_space.specs.Outcome.{Outcome}
use Rattle.ar_space.specs.Change.{stop, go_on, ◌>>=◌}
use Rattle.aml_objects.specs.Objects.{byte_at, element_there, element_stands}
use Rattle.aml_objects.specs.declared.object.Element.{Element}
use Rattle.aml_objects.specs.declared.object.Object.{Object}
use Rattle.aml_objects.specs.declared.object.Object.TheVariants as object
use Rattle.aml_objects.specs.declared.value.Reference.{Reference}
use Rattle.aml_objects.specs.declared.value.Value.{Value}
use Rattle.aml_world.specs.declared.values.store_target.StoreTarget.TheVariants as targets
use Rattle.aml_world.specs.state.State.{State, on_objects}
use Rattle.aml_world.specs.values.StoreTargets.{declaration, frame_found}
use Rattle.aml_world.specs.values.Stores.{copy_into_element, store_byte, copy_into_declared, store_in_declared, store_in_frame_numbered, stored_through, stored, copied_to}
use Rattle.aml_laws.specs.Dereferenced.{IsDead, name_gone, call_ended, no_element, no_byte}
use Rattle.aml_laws.specs.Limits.{ArgumentChain}
use Rattle.aml_laws.proofs.ReferenceChains.{arguments_followed, arguments_refused}
use Rattle.aml_laws.proofs.ReferencesRead.{no_byte_in}

not_below : (i n : ℕ) → n ≤ i → nat_lt i n ≡ false
not_below i n l = grind (arith, nat_tests)

no_element_there : (i : ℕ) (x : Option Object) → ((es : List Element) → x ≡ Some (object.Package es) → length es ≤ i) → element_stands i x ≡ Err (refusal.Evaluation DeadReference)
no_element_there i None past = refl
no_element_there i (Some (object.String bytes)) past = refl
no_element_there i (Some (object.Buffer bytes)) past = refl
no_element_there i (Some (object.Package es)) past = ap (λ b. if◌then◌else◌ {A = Outcome (Unit {0})} b (Ok tt) (Err (refusal.Evaluation DeadReference))) (not_below i (length es) (past es refl))

module _ {S : Type 0} (w : State S) (v : Value) where
  pub dead_is_not_stored_to : (r : Reference) → IsDead w r → stored (targets.Refers r) v w ≡ (Err (refusal.Evaluation DeadReference), w)
  unfolding store_in_declared declaration store_in_frame_numbered frame_found copy_into_element store_byte on_objects element_there byte_at go_on ◌>>=◌
  dead_is_not_stored_to r (name_gone n none) = rw none refl
  dead_is_not_stored_to r (call_ended slot n none) = rw none refl
  dead_is_not_stored_to r (no_element o i past) = rw (no_element_there i (slice_get w.objects o) past) refl
  dead_is_not_stored_to r (no_byte o i past) = rw (no_byte_in i (slice_get w.objects o) past) refl

  at_dead : (m : ℕ) (r : Reference) → IsDead w r → stored_through m r v w ≡ (Err (refusal.Evaluation DeadReference), w)
  unfolding stored_through stop copy_into_declared declaration store_in_frame_numbered frame_found copy_into_element store_byte on_objects element_there byte_at go_on ◌>>=◌
  at_dead zero r dead = refl
  at_dead (suc m) r (name_gone n none) = rw none refl
  at_dead (suc m) r (call_ended slot n none) = rw none refl
  at_dead (suc m) r (no_element o i past) = rw (no_element_there i (slice_get w.objects o) past) refl
  at_dead (suc m) r (no_byte o i past) = rw (no_byte_in i (slice_get w.objects o) past) refl

  by_length : (n : ℕ) (r end : Reference) → ArgumentChain w n r end → IsDead w end → (64 < n) ⊎ (n ≤ 64) → stored_through 64 r v w ≡ (Err (refusal.Evaluation DeadReference), w)
  by_length n r end chain dead (inl less) = arguments_refused w v n 64 r end chain less
  by_length n r end chain dead (inr le) = arguments_followed w v n 64 r end chain le ∙ at_dead (64 + 1 - n) end dead

  pub dead_is_not_copied_to : (n : ℕ) (r end : Reference) → ArgumentChain w n r end → IsDead w end → copied_to (targets.Refers r) v w ≡ (Err (refusal.Evaluation DeadReference), w)
  dead_is_not_copied_to n r end chain dead = by_length n r end chain dead (cases_lt 64 n)
