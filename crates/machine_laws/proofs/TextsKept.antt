-- `_OSI` knows the texts that a machine is given.
use Rattle.std.specs.Prelude.{◌≡◌, ◌≤◌, ◌<◌, ℕ, List, length, true, false, Ok, Err, nat_lt, refl}
use Rattle.std.proofs.Common.{arith}
use Rattle.std.proofs.lemmas.Bool.Decides.{nat_tests}
use Rattle.ar_space.specs.declared.integer_width.IntegerWidth.{IntegerWidth}
use Rattle.ar_space.specs.declared.refusal.Refusal.TheVariants as refusal
use Rattle.ar_space.specs.declared.refusal.EvaluationFault.TheVariants.{ObjectLimit}
use Rattle.ar_space.specs.declared.refusal.MachineFault.TheVariants.{Spent}
use Rattle.ar_space.specs.Accesses.{Accesses}
use Rattle.ar_space.specs.Outcome.{Outcome}
use Rattle.ar_space.specs.Change.{stop, settle, go_on, ◌>>=◌, ◌>>◌}
use Rattle.ar_tables.specs.declared.tables.Tables.{Tables}
use Rattle.aml_world.specs.declared.state.settings.EvaluationSettings.{EvaluationSettings}
use Rattle.aml_world.specs.state.Predefined.{fresh_as, predefined}
use Rattle.aml_world.specs.state.State.{State}
use Rattle.aml_laws.specs.Becomes.{Becomes, same}
use Rattle.aml_laws.proofs.OsiKept.{osi_is_given}
use Rattle.acpi_machine.specs.Calls.{unless_spent, texts_kept, few_texts_kept, osi_set}
use Rattle.acpi_machine.specs.Loading.{few_texts, all_loaded, loaded_tables}
use Rattle.acpi_machine.specs.MachineStates.{MachineState}
use Rattle.machine_laws.specs.TextsKnown.{with_texts}
use Rattle.machine_laws.proofs.MachineWorlds.{loading_evaluates}

module _ {S : Type 0} where
  module _ (accesses : Accesses S) (settings : EvaluationSettings) (width : IntegerWidth) (osi : List (List ℕ)) (space : S) where
    abbrev fresh : State S
    fresh = fresh_as settings width osi space

    behind_predefined : (r : Outcome (Unit {0})) (t : Tables) (steps : ℕ) → Becomes accesses (predefined fresh).1 (go_on r (predefined fresh).1 (λ u. all_loaded accesses t steps)).1
    unfolding go_on
    behind_predefined (Ok u) t steps = loading_evaluates accesses t steps (predefined fresh).1
    behind_predefined (Err e) t steps = same

    behind_texts : (r : Outcome (Unit {0})) (t : Tables) (steps : ℕ) → (go_on r fresh (λ u. predefined >> all_loaded accesses t steps)).1.osi ≡ osi
    unfolding go_on ◌>>=◌
    behind_texts (Ok u) t steps = osi_is_given accesses settings width osi space _ (behind_predefined (predefined fresh).0 t steps)
    behind_texts (Err e) t steps = refl

    pub loaded_with_texts : (t : Tables) (steps : ℕ) → (loaded_tables accesses t steps osi fresh).1.osi ≡ osi
    unfolding loaded_tables settle ◌>>=◌
    loaded_with_texts t steps = behind_texts (few_texts osi) t steps

  module _ (texts : List (List ℕ)) (m : MachineState S) where
    pub texts_set : m.spent ≡ false → length texts ≤ 64 → osi_set texts m ≡ (Ok tt, with_texts texts m)
    unfolding osi_set unless_spent few_texts_kept texts_kept settle go_on ◌>>=◌
    texts_set works few = let test : nat_lt 64 (length texts) ≡ false = grind (arith, nat_tests) in rw (works, test) refl

    pub texts_refused : m.spent ≡ false → 64 < length texts → osi_set texts m ≡ (Err (refusal.Evaluation ObjectLimit), m)
    unfolding osi_set unless_spent few_texts_kept settle go_on ◌>>=◌
    texts_refused works more = let test : nat_lt 64 (length texts) ≡ true = grind (arith, nat_tests) in rw (works, test) refl

    pub none_taken : m.spent ≡ true → osi_set texts m ≡ (Err (refusal.Machine Spent), m)
    unfolding osi_set unless_spent stop
    none_taken spent = rw spent refl
