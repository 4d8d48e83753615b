-- How far a run came that was refused.
use Rattle.std.proofs.Common.{◌≡◌, ◌≢◌, ◌∙◌, ap, refl, subst, sym}
use Rattle.std.specs.Prelude.{ℕ, List, Option, Some, None, Ok, Err}
use Rattle.ar_space.specs.Accesses.{Accesses}
use Rattle.ar_space.specs.Change.{Change, Does, go_on, ◌>>=◌}
use Rattle.ar_space.specs.Outcome.{Outcome}
use Rattle.ar_space.specs.declared.refusal.Refusal.{Refusal}
use Rattle.ar_space.specs.declared.refusal.Refusal.TheVariants.{OutOfMemory}
use Rattle.ar_tables.specs.declared.mode.Mode.{Mode}
use Rattle.ar_tables.specs.declared.tables.Tables.{Tables}
use Rattle.aml_path.specs.declared.segment.Seg.{Seg}
use Rattle.aml_path.specs.Text.{path_of_text}
use Rattle.acpi_machine.specs.Calls.{initialized}
use Rattle.acpi_machine.specs.MachineStates.{MachineState, machine_of}
use Rattle.acpi_explain.specs.declared.told.Phase.{Phase}
use Rattle.acpi_explain.specs.declared.told.Phase.TheVariants.{Loading, Initializing}
use Rattle.acpiroute_shell.specs.declared.request.Asking.{Asking}
use Rattle.acpiroute_lib.specs.RunEnds.{loaded_over, IsAskedBy}
use Rattle.acpiroute_lib.specs.WhyStages.{IsPhase, named_phase, started_phase, machine_phase, loaded_phase, run_phase}
use Rattle.acpiroute_lib.specs.declared.run_end.RunEnd.{RunEnd}
use Rattle.acpiroute_lib.specs.declared.run_end.RunEnd.TheVariants.{Refused, Done}

module _ {S : Type 0} (accesses : Accesses S) (mode : Mode) where
  pub phase_stopped : {e : Refusal} (m after : MachineState S) (asked : Option Phase) → (e ≢ OutOfMemory → initialized accesses mode m ≡ (Err e, after)) → e ≢ OutOfMemory
      → Some Initializing ≡ started_phase asked (initialized accesses mode m).0
  phase_stopped m after asked h ne = rw (h ne) refl

  pub phase_running : {A : Type 0} {e : Refusal} (m after : MachineState S) (asked : Option Phase) (f : Change (MachineState S) A)
      → (e ≢ OutOfMemory → (ready : MachineState S) × ((initialized accesses mode m ≡ (Ok tt, ready)) × (f ready ≡ (Err e, after)))) → e ≢ OutOfMemory → asked ≡ started_phase asked (initialized accesses mode m).0
  phase_running m after asked f h ne = rw (h ne).1.0 refl

  pub phase_ready : (m after : MachineState S) (asked : Option Phase) → Does (Ok tt) after (initialized accesses mode) m → asked ≡ started_phase asked (initialized accesses mode m).0
  phase_ready m after asked h = rw (h.is tt) refl

  pub phase_named : (m : MachineState S) (path : List ℕ) (p : List Seg) (asked : Option Phase) (end : RunEnd) → path_of_text path ≡ Ok p → asked ≡ named_phase (Ok p) → IsPhase (started_phase asked (initialized accesses mode m).0) end
      → IsPhase (started_phase (named_phase (path_of_text path)) (initialized accesses mode m).0) end
  phase_named m path p asked end is same h = subst (λ x. IsPhase (started_phase x (initialized accesses mode m).0) end) (same ∙ ap named_phase (sym is)) h

  -- the text of a path is refused
  pub phase_unnamed : (m after : MachineState S) (path : List ℕ) (x : Refusal) (end : RunEnd) → (x ≢ OutOfMemory → path_of_text path ≡ Err x) → IsAskedBy accesses mode (λ s. (Err x, s)) end m after
      → IsPhase (started_phase None (initialized accesses mode m).0) end → IsPhase (started_phase (named_phase (path_of_text path)) (initialized accesses mode m).0) end
  unfolding ◌>>=◌ go_on
  phase_unnamed m after path x (Refused phase e) is h p = λ ne. p ne ∙ by (initialized accesses mode m).0 (h ne) ne
    where
      by : (r : Outcome (Unit {0})) → go_on {B = Unit {0}} r (initialized accesses mode m).1 (λ _ s. (Err x, s)) ≡ (Err e, after) → e ≢ OutOfMemory → started_phase None r ≡ started_phase (named_phase (path_of_text path)) r
      by (Ok u) i ne = let v : Err x ≡ Err e = ap (λ q. q.0) i in let w : x ≡ e = cc v in ap named_phase (sym (is (λ q. ne (sym w ∙ q))))
      by (Err y) i ne = refl
  phase_unnamed m after path x (Done report) is h p = tt

module _ {S : Type 0} (accesses : Accesses S) (q : Asking) (t : Tables) (osi : List (List ℕ)) (before : S) where
  pub phase_loaded : (end : RunEnd) (m : MachineState S) → loaded_over accesses q t osi before ≡ (Ok tt, m.world) → m ≡ machine_of t q.evaluation.steps m.world → IsPhase (machine_phase accesses q m) end
      → IsPhase (run_phase accesses q (Ok t) osi before) end
  phase_loaded end m is same h =
      subst (λ p. IsPhase p end) (ap (machine_phase accesses q) same ∙ sym (ap (λ l. loaded_phase accesses q t l.0 l.1) is)) h

  pub phase_not_loaded : (e : Refusal) → (e ≢ OutOfMemory → (loaded_over accesses q t osi before).0 ≡ Err e) → IsPhase (run_phase accesses q (Ok t) osi before) (Refused (Some Loading) e)
  phase_not_loaded e is = λ ne. sym (ap (λ o. loaded_phase accesses q t o (loaded_over accesses q t osi before).1) (is ne))

pub phase_not_found : {S : Type 0} (accesses : Accesses S) (q : Asking) (tables : Outcome Tables) (osi : List (List ℕ)) (before : S) (e : Refusal) → (e ≢ OutOfMemory → tables ≡ Err e) → IsPhase (run_phase accesses q tables osi before) (Refused None e)
phase_not_found accesses q tables osi before e is = λ ne. sym (ap (λ t. run_phase accesses q t osi before) (is ne))
