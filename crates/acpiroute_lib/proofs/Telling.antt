-- The answers of `why`, from the run and its lines.
use Rattle.std.proofs.Common.{◌≡◌, ◌≢◌, ◌∙◌, ap, sym}
use Rattle.std.specs.Prelude.{ℕ, List, Option, Ok, Err, IfOk, IfErr, IsErr, IsErrAnd, ◌++◌, codes}
use Rattle.ar_space.specs.Outcome.{Outcome, Answers, NotMemory}
use Rattle.ar_space.specs.declared.refusal.Refusal.{Refusal}
use Rattle.ar_space.specs.declared.refusal.Refusal.TheVariants.{OutOfMemory}
use Rattle.ar_space.specs.declared.space.Place.{Place}
use Rattle.ar_tables.specs.FindTables.{tables_of}
use Rattle.machine_text.specs.MachineText.{machine_text}
use Rattle.machine_text.specs.declared.machine_lines.MachineText.{MachineText}
use Rattle.watched_space.specs.declared.last_access.Accessed.{Accessed}
use Rattle.acpiroute_shell.specs.Written.{Written}
use Rattle.acpiroute_shell.specs.declared.request.Asking.{Asking}
use Rattle.acpiroute_lib.specs.Machines.{register_accesses}
use Rattle.acpi_explain.specs.Explaining.{IsExplanation}
use Rattle.acpi_explain.specs.declared.explanation.Explanation.{Explanation}
use Rattle.acpi_explain.specs.declared.stage.Stage.{Stage}
use Rattle.watched_space.specs.Watching.{watched}
use Rattle.acpiroute_lib.specs.LinksAsked.{AreLinksIn}
use Rattle.acpiroute_lib.specs.WhyStages.{IsStageOf}
use Rattle.acpiroute_lib.specs.declared.run_end.RunEnd.TheVariants as end
use Rattle.acpiroute_lib.specs.WhyCommand.{told, first_watch, IsStageFound, IsRefusalTold, AreLinksFound, IsDoneTold, IsWatched, IsExplained, IsWhy, IsFilled, IsListed, IsRegisters, IsWhyAnswer, IsRegistersAnswer}
use Rattle.acpiroute_lib.specs.declared.run_end.RunEnd.{RunEnd}

-- what holds where something is answered
pub where_ok : {A : Type 0} (r : Outcome A) (P Q : A → Type 0) → ((x : A) → P x → Q x) → IfOk r P → IfOk r Q
where_ok (Ok x) P Q f h = f x h
where_ok (Err e) P Q f h = tt

-- the text of an explanation, with a stage of which that holds
pub explanation_told : (steps : ℕ) (IsIt : Option Stage → Type 0) (e : Refusal) (stage : Option Stage) (access : Option Accessed) (x : Explanation) (w : Written) → IsIt stage → IsExplanation e stage access steps x → w ≡ told x.text.items
    → IsRefusalTold steps IsIt e access w
explanation_told steps IsIt e stage access x w it h is = record { stage = stage; is_stage = it; explanation = x; is_explanation = h; is = is }

-- that a run isn't refused, with lines of which that holds
pub done_told : (AreIt : List ℕ → Type 0) (lines : List ℕ) (w : Written) → AreIt lines → w ≡ told (codes "not refused\n" ++ lines) → IsDoneTold AreIt w
done_told AreIt lines w it is = record { lines = lines; are_lines = it; is = is }

module _ (q : Asking) (said : MachineText) where
  -- the stage that a second run found is that of the run
  staged : (text : List ℕ) → machine_text text ≡ Ok said → (ended : RunEnd) (last : Option Accessed) (w : Written) → IsWatched q (tables_of said.space.memory said.rsdp) said.osi said.space ended last
      → IsExplained q.evaluation.steps (λ phase e. IsStageFound q phase text) (AreLinksFound q text) ended last w
      → IsExplained q.evaluation.steps (λ phase e. IsStageOf (watched register_accesses) q (tables_of said.space.memory said.rsdp) said.osi (first_watch q.evaluation said.space) e)
      (AreLinksIn register_accesses q (tables_of said.space.memory said.rsdp) said.osi (first_watch q.evaluation said.space)) ended last w
  staged text is (end.Refused phase e) last w run (ne, lines) = (
    ne,
    record {
      stage = lines.stage;
      is_stage = lines.is_stage said is e run.left (run.is_phase ne) (run.is_end ne);
      explanation = lines.explanation;
      is_explanation = lines.is_explanation;
      is = lines.is;
    },
  )
  staged text is (end.Done report) last w run lines = done_told _ lines.lines w (lines.are_lines said is) lines.is

  pub why_told : (text : List ℕ) (ended : RunEnd) (last : Option Accessed) (r : Outcome Written) → IsWatched q (tables_of said.space.memory said.rsdp) said.osi said.space ended last
      → IfOk r (IsExplained q.evaluation.steps (λ phase e. IsStageFound q phase text) (AreLinksFound q text) ended last) → IfOk r (λ w. machine_text text ≡ Ok said → IsWhy q said w)
  why_told text ended last (Ok w) run lines = λ is. record { ended = ended; last = last; is_run = run; is_explained = staged text is ended last w run lines }
  why_told text ended last (Err e) run lines = tt

  pub registers_told : (ended : RunEnd) (places : List Place) (r : Outcome Written) → IsFilled q (tables_of said.space.memory said.rsdp) said.osi said.space ended places → IfOk r (IsListed ended places) → IfOk r (IsRegisters q said)
  registers_told ended places (Ok w) run lines = record { ended = ended; places = places; is_run = run; is_listed = lines }
  registers_told ended places (Err e) run lines = tt

module _ (q : Asking) (text : List ℕ) where
  pub why_answered : {said : MachineText} (r : Outcome Written) → Answers (Ok said) (machine_text text) → IfErr r (λ e. e ≡ OutOfMemory) → IfOk r (λ w. machine_text text ≡ Ok said → IsWhy q said w) → NotMemory r → IsWhyAnswer q text r
  why_answered {said = said} (Ok w) is memory lines ne = record { said = said; is_said = is.is tt; is = lines (is.is tt) }
  why_answered (Err e) is memory lines ne = absurd (ne memory)

  pub registers_answered : {said : MachineText} (r : Outcome Written) → Answers (Ok said) (machine_text text) → IfErr r (λ e. e ≡ OutOfMemory) → IfOk r (IsRegisters q said) → NotMemory r → IsRegistersAnswer q text r
  registers_answered {said = said} (Ok w) is memory lines ne = record { said = said; is_said = is.is tt; is = lines }
  registers_answered (Err e) is memory lines ne = absurd (ne memory)

  text_refused : (e x : Refusal) → Answers {A = MachineText} (Err e) (machine_text text) → x ≡ e → x ≢ OutOfMemory → machine_text text ≡ Err x
  text_refused e x h same ne = h.is (λ p. ne (same ∙ p)) ∙ ap Err (sym same)

  pub why_refused : {e : Refusal} (r : Outcome Written) → Answers {A = MachineText} (Err e) (machine_text text) → IsErr r × IsErrAnd r (λ x. x ≡ e) → NotMemory r → IsWhyAnswer q text r
  why_refused (Ok w) h i ne = absurd (cc i.0)
  why_refused {e = e} (Err x) h i ne = text_refused e x h i.1 ne

  pub registers_refused : {e : Refusal} (r : Outcome Written) → Answers {A = MachineText} (Err e) (machine_text text) → IsErr r × IsErrAnd r (λ x. x ≡ e) → NotMemory r → IsRegistersAnswer q text r
  registers_refused (Ok w) h i ne = absurd (cc i.0)
  registers_refused {e = e} (Err x) h i ne = text_refused e x h i.1 ne

pub ruleset telling = (explanation_told, done_told, why_told, registers_told, why_answered, registers_answered, why_refused, registers_refused)
