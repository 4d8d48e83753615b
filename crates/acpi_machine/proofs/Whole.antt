-- All tables, loaded one after another.
use Rattle.std.proofs.Common.{◌≡◌, ◌≢◌, ℕ, List, Ok, Err, refl}
use Rattle.ar_space.specs.declared.refusal.Refusal.{Refusal}
use Rattle.ar_space.specs.declared.refusal.Refusal.TheVariants.{OutOfMemory}
use Rattle.ar_space.specs.Accesses.{Accesses}
use Rattle.ar_space.specs.Outcome.{Outcome, Answers}
use Rattle.ar_space.specs.Change.{Does, settle, go_on, ◌>>=◌}
use Rattle.ar_space.proofs.Changes.{settle_ok, does_ok}
use Rattle.ar_tables.specs.declared.tables.Tables.{Tables}
use Rattle.aml_world.specs.state.State.{State}
use Rattle.aml_world.specs.state.Predefined.{predefined}
use Rattle.acpi_machine.specs.Loading.{few_texts, all_loaded, loaded_tables}
use Rattle.acpi_machine.proofs.Spaces.{predefined_keeps, predefined_passes}

module _ {S : Type 0} (accesses : Accesses S) (t : Tables) (n : ℕ) (osi : List (List ℕ)) (w : State S) where
  texts_refused : (e : Refusal) → Answers (Err e) (few_texts osi) → e ≢ OutOfMemory → loaded_tables accesses t n osi w ≡ (Err e, w)
  unfolding loaded_tables ◌>>=◌ go_on settle
  texts_refused e a ne = rw (a.is ne) refl

  pub texts_refused_by : (e : Refusal) → Answers (Err e) (few_texts osi) → e ≢ OutOfMemory → (loaded_tables accesses t n osi w).0 ≡ Err e
  texts_refused_by e a ne = rw (texts_refused e a ne) refl

  pub texts_refused_space : (e : Refusal) → Answers (Err e) (few_texts osi) → e ≢ OutOfMemory → (loaded_tables accesses t n osi w).1.space ≡ w.space
  texts_refused_space e a ne = rw (texts_refused e a ne) refl

  pub texts_refused_passed : (e : Refusal) → Answers (Err e) (few_texts osi) → e ≢ OutOfMemory → (loaded_tables accesses t n osi w).1.passed ≡ w.passed
  texts_refused_passed e a ne = rw (texts_refused e a ne) refl

  names_refused : (e : Refusal) → few_texts osi ≡ Ok tt → (predefined w).0 ≡ Err e → loaded_tables accesses t n osi w ≡ (Err e, (predefined w).1)
  unfolding loaded_tables ◌>>=◌ go_on settle
  names_refused e a is = rw (a, is) refl

  pub names_refused_by : (e : Refusal) → Answers (Ok tt) (few_texts osi) → (predefined w).0 ≡ Err e → (loaded_tables accesses t n osi w).0 ≡ Err e
  names_refused_by e a is = rw (names_refused e (a.is tt) is) refl

  pub names_refused_space : (e : Refusal) → Answers (Ok tt) (few_texts osi) → (predefined w).0 ≡ Err e → (loaded_tables accesses t n osi w).1.space ≡ w.space
  names_refused_space e a is = rw (names_refused e (a.is tt) is) (predefined_keeps w)

  pub names_refused_passed : (e : Refusal) → Answers (Ok tt) (few_texts osi) → (predefined w).0 ≡ Err e → (loaded_tables accesses t n osi w).1.passed ≡ w.passed
  names_refused_passed e a is = rw (names_refused e (a.is tt) is) (predefined_passes w)

  pub all_done : {r : Outcome (Unit {0})} (w1 w2 : State S) → Answers (Ok tt) (few_texts osi) → predefined w ≡ (Ok tt, w1) → Does r w2 (all_loaded accesses t n) w1 → Does r w2 (loaded_tables accesses t n osi) w
  unfolding loaded_tables
  all_done w1 w2 a is d = settle_ok (few_texts osi) _ a (does_ok predefined _ (record { is = λ _. is }) d)
