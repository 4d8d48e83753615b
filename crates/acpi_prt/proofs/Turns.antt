-- The entries of a routing table go on one by one.
use Rattle.std.proofs.Common.{◌≡◌, ℕ, ◌+◌, ◌<◌, ◌≤◌, List, length, drop, get_or, map, Ok, Err, refl, ◌∙◌, drop-cons, add-one}
use Rattle.std.specs.Prelude.{IsErr, IsErrAnd}
use Rattle.std.proofs.lemmas.List.{drop_all}
use Rattle.ar_space.specs.declared.refusal.Refusal.{Refusal}
use Rattle.ar_space.specs.Accesses.{Accesses}
use Rattle.ar_space.specs.Outcome.{Outcome, Answers, seen}
use Rattle.ar_space.specs.Change.{Change, Does, Same, give, ◌>>=◌}
use Rattle.aml_world.specs.declared.state.datum.Datum.{Datum}
use Rattle.aml_world.specs.state.Given.{given_of}
use Rattle.acpi_machine.specs.MachineStates.{MachineState}
use Rattle.acpi_prt.specs.declared.pin.Pin.{Pin}
use Rattle.acpi_prt.specs.Pins.{taken}
use Rattle.acpi_prt.specs.RoutingTables.{pin_of, pins_from}

same_list : (pins after : List Pin) → Answers (Ok after) (Ok pins) → pins ≡ after
same_list pins after a = cc (a.is tt)

module _ {S : Type 0} (accesses : Accesses S) {s0 s : MachineState S} {m : Change (MachineState S) (List Pin)} where
  pub same_each : (es : List Datum) (pins : List Pin) (i : ℕ) (e : Datum) → Same m s0 (pins_from accesses (map given_of (drop i es)) pins) s → i < length es → e ≡ get_or es i e
      → Same m s0 (pin_of accesses (given_of e) >>= (λ pin. pins_from accesses (map given_of (drop (i + 1) es)) (taken pins pin))) s
  unfolding pins_from
  same_each es pins i e h l at = record { is = h.is ∙ rw (drop-cons es i e l, ← at, add-one) refl }

  pub same_taken : (es : List Datum) (pins after : List Pin) → Answers (Ok after) (Ok pins) → Same m s0 (pins_from accesses (map given_of es) pins) s → Same m s0 (pins_from accesses (map given_of es) after) s
  same_taken es pins after a h = rw (← same_list pins after a) h

  pub each_end : (es : List Datum) (pins : List Pin) (i : ℕ) → Same m s0 (pins_from accesses (map given_of (drop i es)) pins) s → length es ≤ i → Does (Ok pins) s m s0
  unfolding pins_from give
  each_end es pins i h l = record { is = λ _. h.is ∙ rw (drop_all i es l) refl }

-- nothing but want of memory refuses a value that is known
pub only_memory : {T A B C : Type 0} {e : Refusal} {s s1 : T} {a : A} {m : Change T C} (r : Outcome B) (view : B → C) → Answers (Err e) (Ok a) → IsErr r × IsErrAnd r (λ x. x ≡ e) → Does (seen view r) s1 m s
only_memory (Ok b) view a i = absurd (cc i.0)
only_memory (Err x) view a i = record { is = λ ne. absurd (cc (a.is (λ q. ne (i.1 ∙ q)))) }
