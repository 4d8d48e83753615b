-- The lines of links that a second run tells.
use Rattle.std.proofs.Common.{◌≡◌, ◌≢◌, ◌∙◌, ap, subst, sym}
use Rattle.std.specs.Prelude.{ℕ, List, Ok, Err, Result, IfOk}
use Rattle.ar_space.specs.Accesses.{Accesses}
use Rattle.ar_space.specs.Outcome.{Outcome}
use Rattle.ar_space.specs.declared.refusal.Refusal.{Refusal}
use Rattle.ar_space.specs.declared.refusal.Refusal.TheVariants.{OutOfMemory}
use Rattle.ar_tables.specs.declared.tables.Tables.{Tables}
use Rattle.aml_world.specs.state.State.{State}
use Rattle.acpi_machine.specs.Calls.{initialized}
use Rattle.acpi_machine.specs.MachineStates.{MachineState, machine_of}
use Rattle.watched_space.specs.Watching.{Watch, watched}
use Rattle.acpiroute_shell.specs.declared.request.Asking.{Asking}
use Rattle.acpiroute_shell.specs.declared.request.Flags.{Flags}
use Rattle.acpiroute_shell.specs.declared.request.Question.{Question}
use Rattle.acpiroute_shell.specs.declared.request.Question.TheVariants.{Route}
use Rattle.acpi_configure.specs.Options.{RunOptions}
use Rattle.acpiroute_lib.specs.RunEnds.{loaded_over, options_of}
use Rattle.acpiroute_lib.specs.LinksAsked.{AreLinksOf, AreLinksAsked, AreLinksStarted, AreLinksIn}

-- a change that is refused
pub never_found : {S A B E : Type 0} (x : Refusal) (m : Outcome A × S) (after : S) (r : Result B E) (P : A → S → B → Type 0) → (x ≢ OutOfMemory → m ≡ (Err x, after)) → IfOk r (λ _. x ≢ OutOfMemory)
    → IfOk r (λ lines. (a : A) (t : S) → m ≡ (Ok a, t) → P a t lines)
never_found {S = S} {A = A} x m after (Ok lines) P is ne = λ a t i. let never : ◌≡◌ {A = Outcome A} (Err x) (Ok a) = ap (λ (p : Outcome A × S). p.0) (sym (is ne) ∙ i) in absurd (cc never)
never_found x m after (Err e) P is ne = tt

-- a machine that is initialized
pub lines_initialized : {S B E : Type 0} (m : Outcome (Unit {0}) × S) (after : S) (r : Result B E) (P : S → B → Type 0) → m ≡ (Ok tt, after) → IfOk r (P after) → IfOk r (λ lines. (ready : S) → m ≡ (Ok tt, ready) → P ready lines)
lines_initialized {S = S} m after (Ok lines) P is h = λ ready i. subst (λ x. P x lines) (ap (λ (p : Outcome (Unit {0}) × S). p.1) (sym is ∙ i)) h
lines_initialized m after (Err e) P is h = tt

module _ {S E : Type 0} (accesses : Accesses S) (q : Asking) (t : Tables) (osi : List (List ℕ)) (before : Watch S) where
  -- a machine whose tables are loaded is that of the run
  pub lines_loaded : {B : Type 0} (view : B → List ℕ) (m : MachineState (Watch S)) (r : Result B E) → loaded_over (watched accesses) q t osi before ≡ (Ok tt, m.world) → m ≡ machine_of t q.evaluation.steps m.world
      → IfOk r (λ lines. AreLinksStarted accesses q m (view lines)) → IfOk r (λ lines. AreLinksIn accesses q (Ok t) osi before (view lines))
  lines_loaded view m (Ok lines) is same h = λ loaded i.
      let world : m.world ≡ loaded = ap (λ (p : Outcome (Unit {0}) × State (Watch S)). p.1) (sym is ∙ i) in
      subst (λ y. AreLinksStarted accesses q y (view lines)) (same ∙ ap (λ w. machine_of t q.evaluation.steps w) world) h
  lines_loaded view m (Err e) is same h = tt

  pub lines_not_loaded : {B : Type 0} (view : B → List ℕ) (x : Refusal) (r : Result B E) → (x ≢ OutOfMemory → (loaded_over (watched accesses) q t osi before).0 ≡ Err x) → IfOk r (λ _. x ≢ OutOfMemory)
      → IfOk r (λ lines. AreLinksIn accesses q (Ok t) osi before (view lines))
  lines_not_loaded view x (Ok lines) is ne = λ loaded i.
      let never : ◌≡◌ {A = Outcome (Unit {0})} (Err x) (Ok tt) = sym (is ne) ∙ ap (λ (p : Outcome (Unit {0}) × State (Watch S)). p.0) i in absurd (cc never)
  lines_not_loaded view x (Err e) is ne = tt

-- what `route` is asked for, by its words
pub lines_routed : {S B E : Type 0} (accesses : Accesses S) (steps : ℕ) (question : Question) (ready : MachineState (Watch S)) (view : B → List ℕ) (r : Result B E) (avoid given : List ℕ) (flags : Flags) (o : RunOptions) → question ≡ Route avoid flags → given ≡ avoid
    → o ≡ options_of given flags → IfOk r (λ lines. AreLinksOf accesses o steps ready (view lines)) → IfOk r (λ lines. AreLinksAsked accesses question steps ready (view lines))
lines_routed accesses steps question ready view (Ok lines) avoid given flags o asked same is h =
    subst (λ x. AreLinksAsked accesses x steps ready (view lines)) (sym asked) (subst (λ x. AreLinksOf accesses x steps ready (view lines)) (is ∙ ap (λ a. options_of a flags) same) h)
lines_routed accesses steps question ready view (Err e) avoid given flags o asked same is h = tt

-- no tables are found
pub no_tables_told : {S B E : Type 0} (accesses : Accesses S) (q : Asking) (tables : Outcome Tables) (osi : List (List ℕ)) (before : Watch S) (view : B → List ℕ) (x : Refusal) (r : Result B E) → (x ≢ OutOfMemory → tables ≡ Err x) → IfOk r (λ _. x ≢ OutOfMemory)
    → IfOk r (λ lines. AreLinksIn accesses q tables osi before (view lines))
no_tables_told accesses q tables osi before view x (Ok lines) is ne = subst (λ ts. AreLinksIn accesses q ts osi before (view lines)) (sym (is ne)) tt
no_tables_told accesses q tables osi before view x (Err e) is ne = tt
