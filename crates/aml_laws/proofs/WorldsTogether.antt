-- Changes of worlds, of worlds with the steps that are left, and of register spaces themselves.
use Rattle.std.specs.Prelude.{◌≡◌, ◌⊎◌, ℕ, zero, suc, ◌-◌, ◌==◌, ◌^◌, List, Ok, Err, refl}
use Rattle.ar_space.specs.declared.refusal.Refusal.{Refusal}
use Rattle.ar_space.specs.declared.refusal.Refusal.TheVariants as refusal
use Rattle.ar_space.specs.declared.refusal.EvaluationFault.TheVariants.{OutOfSteps}
use Rattle.ar_space.specs.Accesses.{Accesses}
use Rattle.ar_space.specs.Outcome.{Outcome}
use Rattle.ar_space.specs.Change.{Change}
use Rattle.aml_path.specs.declared.segment.Seg.{Seg}
use Rattle.aml_objects.specs.declared.value.Value.{Value}
use Rattle.aml_objects.specs.Objects.{Objects}
use Rattle.aml_namespace.specs.Namespace.{Namespace}
use Rattle.aml_world.specs.state.State.{State, on_objects, on_names, on_space}
use Rattle.aml_world.specs.state.Run.{Run, lift, charge}
use Rattle.aml_world.specs.state.Slots.{opened, closed}
use Rattle.aml_world.specs.state.Invocations.{left}
use Rattle.aml_world.specs.state.Mutexes.{released}
use Rattle.aml_meaning.specs.declared.flow.Flow.{Flow}
use Rattle.aml_meaning.specs.Calls.{leaving, returned_by}
use Rattle.aml_meaning.specs.Calling.{ending, with_steps, framed, in_frame, with_rest, counted}
use Rattle.ar_space.specs.Outcome.{seen}
use Rattle.std.proofs.Common.{inl, inr, sym, subst, ap, ◌∙◌}
use Rattle.aml_laws.proofs.Charges.{charge_none, charge_one, charge_space}
use Rattle.aml_laws.proofs.Together.{Raise, Sides, Shape, Together, Comes, IsEnded, spaces, plain, then_together, choice_together, wrapped_together}

-- a world over another space, in another profile and of another depth
abbrev pub world_over : {S T : Type 0} → Raise → State S → T → State T
world_over raise w t = record { names = w.names; arities = w.arities; objects = w.objects; frames = w.frames; started = w.started; space = t; osi = w.osi; width = w.width; profile = raise.0 w.profile; nesting = raise.1 w.nesting; passed = w.passed }

abbrev pub worlds : {S T : Type 0} → Shape S T (State S) (State T)
worlds = record { left = λ w. w.space; right = λ w. w.space; over = λ raise more w t. world_over raise w t }

abbrev pub runs : {S T : Type 0} → Shape S T (State S × ℕ) (State T × ℕ)
runs = record { left = λ s. s.0.space; right = λ s. s.0.space; over = λ raise more s t. (world_over raise s.0 t, more s.1) }

-- what two changes of the spaces came to, in worlds that are the same else
space_goes : {S T A : Type 0} {accesses : Accesses S} {accesses2 : Accesses T} (side : Sides accesses accesses2) (w : State S) (p : Outcome A × S) (q : Outcome A × T) → Comes side spaces p q
    → Comes side worlds (p.0, record w { space = p.1 }) (q.0, world_over side.raise w q.1)
space_goes side w p q (inl parted) = inl parted
space_goes side w p q (inr (inl ended)) = inr (inl ended)
space_goes {T = T} side w p q (inr (inr (t, same, i))) = inr (inr (t, ap (λ (x : Outcome _ × T). (x.0, world_over side.raise w x.1)) same, i))

-- a step, which the right one has where the left one has it
module _ {S T : Type 0} {accesses : Accesses S} {accesses2 : Accesses T} (side : Sides accesses accesses2) where
  none_goes : (w : State S) (t : T) → ((n : ℕ) → side.more n ≡ n) ⊎ side.Ends (refusal.Evaluation OutOfSteps) → side.beside.InStep w.space t → Comes side runs (Err (refusal.Evaluation OutOfSteps), (w, zero)) (charge (world_over side.raise w t, side.more zero))
  none_goes w t (inl same) i =
      let none = ap (λ n. charge (world_over side.raise w t, n)) (same zero) ∙ charge_none (world_over side.raise w t) in
      inr (inr (t, none ∙ ap (λ n. (Err (refusal.Evaluation OutOfSteps), (world_over side.raise w t, n))) (sym (same zero)), i))
  none_goes w t (inr ends) i = inr (inl ends)

  charge_goes : (w : State S) (b : ℕ) (t : T) → side.beside.InStep w.space t → Comes side runs (charge (w, b)) (charge (world_over side.raise w t, side.more b))
  charge_goes w zero t i = subst (λ (p : Outcome (Unit {0}) × (State S × ℕ)). Comes side runs p (charge (world_over side.raise w t, side.more zero))) (sym (charge_none w)) (none_goes w t side.none_left i)
  charge_goes w (suc b) t i =
      subst (λ (p : Outcome (Unit {0}) × (State S × ℕ)). Comes side runs p (charge (world_over side.raise w t, side.more (suc b)))) (sym (charge_one w b))
      (inr (inr (t, ap (λ n. charge (world_over side.raise w t, n)) (side.more_next b) ∙ charge_one (world_over side.raise w t) (side.more b), i)))

-- what is made of a value ends no likeness
seen_ended : {A B : Type 0} (Ends : Refusal → Type 0) (view : A → B) (r : Outcome A) → IsEnded Ends r → IsEnded Ends (seen view r)
seen_ended Ends view (Ok a) h = absurd h
seen_ended Ends view (Err e) h = h

module _ {S T A : Type 0} {accesses : Accesses S} {accesses2 : Accesses T} {side : Sides accesses accesses2} where
  pub objects_together : (m : Change Objects A) → Together side worlds (on_objects m) (on_objects m)
  unfolding on_objects
  objects_together m = plain (λ w. refl) (λ w. refl) (λ w t. refl)

  pub names_together : (m : Change Namespace A) → Together side worlds (on_names m) (on_names m)
  unfolding on_names
  names_together m = plain (λ w. refl) (λ w. refl) (λ w t. refl)

  pub space_together : {m : Change S A} {n : Change T A} → Together side spaces m n → Together side worlds (on_space m) (on_space n)
  unfolding on_space
  space_together {m = m} {n = n} h = record {
    left_parted = λ w t p. h.left_parted w.space t p;
    right_parted = λ s w p. h.right_parted s w.space p;
    goes = λ w t i. space_goes side w (m w.space) (n t) (h.goes w.space t i);
  }

  pub lift_together : {m : Change (State S) A} {n : Change (State T) A} → Together side worlds m n → Together side runs (lift m) (lift n)
  unfolding lift
  lift_together h = wrapped_together (λ s. s.0) (λ s. s.0) (λ s p. (p.0, (p.1, s.1))) (λ s p. (p.0, (p.1, s.1)))
      (λ s. refl) (λ s. refl) (λ s t. refl) (λ s p. refl) (λ s q. refl) (λ s u r w t. refl) (λ s p e. e) h

  pub with_steps_together : (steps : ℕ) {m : Run S A} {n : Run T A} → Together side runs m n → Together side worlds (with_steps steps m) (with_steps (side.more steps) n)
  unfolding with_steps
  with_steps_together steps h = wrapped_together (λ w. (w, steps)) (λ w. (w, side.more steps)) (λ w p. (p.0, p.1.0)) (λ w p. (p.0, p.1.0))
      (λ w. refl) (λ w. refl) (λ w t. refl) (λ w p. refl) (λ w q. refl) (λ w u r s t. refl) (λ s p e. e) h

  pub ending_together : {m : Change (State S) A} {n : Change (State T) A} → Together side worlds m n → Together side worlds (ending m) (ending n)
  unfolding ending
  ending_together h = wrapped_together (λ w. w) (λ w. w) (λ w p. (p.0, released p.1)) (λ w p. (p.0, released p.1))
      (λ w. refl) (λ w. refl) (λ w t. refl) (λ w p. refl) (λ w q. refl) (λ w u r s t. refl) (λ s p e. e) h

  framed_together : {m : Change (State S) A} {n : Change (State T) A} → Together side worlds m n → Together side worlds (framed m) (framed n)
  unfolding framed
  framed_together h = wrapped_together (λ w. w) (λ w. w) (λ w p. (p.0, closed p.1)) (λ w p. (p.0, closed p.1))
      (λ w. refl) (λ w. refl) (λ w t. refl) (λ w p. refl) (λ w q. refl) (λ w u r s t. refl) (λ s p e. e) h

module _ {S T : Type 0} {accesses : Accesses S} {accesses2 : Accesses T} {side : Sides accesses accesses2} where
  pub counted_together : ((n : ℕ) → side.more n ≡ n) → (steps : ℕ) {m : Run S Value} {n : Run T Value} → Together side runs m n → Together side worlds (counted steps m) (counted (side.more steps) n)
  unfolding counted
  counted_together same steps h = wrapped_together (λ w. (w, steps)) (λ w. (w, side.more steps)) (λ w p. (with_rest p.0 p.1.1, p.1.0)) (λ w p. (with_rest p.0 p.1.1, p.1.0))
      (λ w. refl) (λ w. refl) (λ w t. refl) (λ w p. refl) (λ w q. refl) (λ w u r s t. ap (λ n. (with_rest r n, world_over side.raise s.0 t)) (same s.1)) (λ s p e. seen_ended _ _ p.0 e) h

  pub leaving_together : (q : List Seg) {m : Run S Flow} {n : Run T Flow} → Together side runs m n → Together side runs (leaving q m) (leaving q n)
  unfolding leaving
  leaving_together q h = wrapped_together (λ s. s) (λ s. s) (λ s p. (seen returned_by p.0, (left q p.1.0, p.1.1))) (λ s p. (seen returned_by p.0, (left q p.1.0, p.1.1)))
      (λ s. refl) (λ s. refl) (λ s t. refl) (λ s p. refl) (λ s q. refl) (λ s u r w t. refl) (λ s p e. seen_ended _ _ p.0 e) h

  pub charge_together : Together side runs charge charge
  charge_together = record {
    left_parted = λ s t p. subst (λ u. side.beside.Parted u t) (sym (charge_space s.0 s.1)) p;
    right_parted = λ s u p. subst (λ t. side.beside.Parted s t) (sym (charge_space u.0 u.1)) p;
    goes = λ s t i. charge_goes side s.0 s.1 t i;
  }

  pub opened_together : (vs : List Value) → Together side worlds (opened vs) (opened vs)
  unfolding opened
  opened_together vs = choice_together (λ w. w.started == 2 ^ 64 - 1) (λ w. w.started == 2 ^ 64 - 1) (λ w t. refl) (plain (λ w. refl) (λ w. refl) (λ w t. refl)) (plain (λ w. refl) (λ w. refl) (λ w t. refl))

  pub in_frame_together : {A : Type 0} (vs : List Value) {m : Change (State S) A} {n : Change (State T) A} → Together side worlds m n → Together side worlds (in_frame vs m) (in_frame vs n)
  unfolding in_frame
  in_frame_together vs h = then_together (opened_together vs) (λ number. framed_together h)
