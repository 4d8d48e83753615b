-- What is evaluated one level below a path.
use Rattle.std.specs.Prelude.{◌≡◌, ◌++◌, ◌∷◌, List, [], Option, Ok, Err, IsErr, IsErrAnd}
use Rattle.std.proofs.Common.{◌∙◌, subst}
use Rattle.ar_space.specs.declared.refusal.Refusal.{Refusal}
use Rattle.ar_space.specs.Accesses.{Accesses}
use Rattle.ar_space.specs.Outcome.{Outcome, Answers, seen}
use Rattle.ar_space.specs.Change.{Change, Does}
use Rattle.aml_path.specs.declared.segment.Seg.{Seg}
use Rattle.aml_world.specs.state.Given.{Given}
use Rattle.acpi_machine.specs.Children.{answer_if_any, child_evaluated}
use Rattle.acpi_machine.specs.MachineStates.{MachineState}
use Rattle.acpi_machine.specs.Stops.{AllOrNone}

same_path : (path parent : List Seg) (name : Seg) → Answers (Ok path) (Ok (parent ++ name ∷ [])) → path ≡ parent ++ name ∷ []
same_path path parent name is = cc (is.is tt)

-- path: that of the name below a path, as it was made
module _ {S : Type 0} (accesses : Accesses S) {s t : MachineState S} (path parent : List Seg) (name : Seg) (arguments : List Given) (is : Answers (Ok path) (Ok (parent ++ name ∷ []))) where
  pub does_below : (r : Outcome (Option Given)) → Does r t (answer_if_any accesses path arguments) s → Does r t (child_evaluated accesses parent name arguments) s
  does_below r d = subst (λ p. Does r t (answer_if_any accesses p arguments) s) (same_path path parent name is) d

  pub made_below : AllOrNone (answer_if_any accesses path arguments) s t → AllOrNone (child_evaluated accesses parent name arguments) s t
  made_below h = subst (λ p. AllOrNone (answer_if_any accesses p arguments) s t) (same_path path parent name is) h

-- none was made
pub no_path : {S A B C : Type 0} {e : Refusal} {s : S} (r : Outcome A) (view : A → B) (after : S) (m : Change S B) (p : C) → Answers {A = C} (Err e) (Ok p) → IsErr r × IsErrAnd r (λ x. x ≡ e) → Does (seen view r) after m s
no_path (Ok x) view after m p a i = absurd (cc i.0)
no_path (Err x) view after m p a i = record { is = λ ne. absurd (cc (a.is (λ same. ne (i.1 ∙ same)))) }

pub ruleset below = (does_below, made_below, no_path)

-- a child that is asked without arguments
pub child_asked : {S : Type 0} {s t : MachineState S} (accesses : Accesses S) (parent : List Seg) (n name : Seg) (arguments : List Given)
    → AllOrNone (child_evaluated accesses parent n arguments) s t → n ≡ name → arguments ≡ [] → AllOrNone (child_evaluated accesses parent name []) s t
child_asked {s = s} {t = t} accesses parent n name arguments h e none =
    subst (λ x. AllOrNone (child_evaluated accesses parent x []) s t) e (subst (λ gs. AllOrNone (child_evaluated accesses parent n gs) s t) none h)
