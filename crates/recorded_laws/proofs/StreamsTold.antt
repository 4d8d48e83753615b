-- What a run tells of its streams is so.
use Rattle.std.specs.Prelude.{◌≡◌, ◌⊎◌, ℕ, nat_le, Bool, true, false, List, length, Option, Ok, Err, refl, if◌then◌else◌}
use Rattle.std.proofs.Common.{inl, inr, sym, subst, ◌∙◌}
use Rattle.ar_space.specs.declared.refusal.InputFault.{InputFault}
use Rattle.ar_space.specs.declared.refusal.InputFault.TheVariants.{MachineLine, ReadFault, WriteFault, TextTooLong}
use Rattle.ar_space.specs.declared.refusal.Refusal.{Refusal}
use Rattle.ar_space.specs.declared.refusal.Refusal.TheVariants.{Input}
use Rattle.ar_space.specs.Outcome.{Outcome}
use Rattle.acpiroute_shell.specs.declared.request.Request.{Request}
use Rattle.acpiroute_shell.specs.Held.{Held}
use Rattle.acpiroute_shell.specs.Input.{input_of}
use Rattle.acpiroute_lib.specs.Causes.{IsOwnRefusal, IsCause, TellsCause}
use Rattle.acpiroute_lib.specs.Commands.{IsAnswer}
use Rattle.acpiroute_lib.specs.Runs.{IsAnswerOver, Ran}
use Rattle.acpiroute_lib.proofs.Caused.{cause_told}
use Rattle.aml_laws.proofs.CleanOutcomes.{IsOfLine}
use Rattle.recorded_laws.specs.StreamsTold.{TellsTruly}
use Rattle.recorded_laws.proofs.StreamlessAnswers.{answer_streamless}

-- ---- the answer of a command

line_of : (fault : InputFault) → IsOfLine fault → (n : ℕ) × (fault ≡ MachineLine n)
line_of (MachineLine n) h = (n, refl)
line_of ReadFault h = absurd h
line_of WriteFault h = absurd h
line_of TextTooLong h = absurd h

module _ (request : Request) (input : List ℕ) (fault : InputFault) where
  pub answer_of_a_line : IsAnswer request input (Err (Input fault)) → (n : ℕ) × (fault ≡ MachineLine n)
  answer_of_a_line is = line_of fault (answer_streamless request input (Err (Input fault)) is)

  over_limited : (is_short : Bool) (x : Outcome (List ℕ)) → x ≡ (if is_short then Ok input else Err (Input TextTooLong)) → IsAnswerOver request x (Err (Input fault))
      → ((n : ℕ) × (fault ≡ MachineLine n)) ⊎ ((fault ≡ TextTooLong) × (x ≡ Err (Input TextTooLong)))
  over_limited true x is answered = inl (answer_of_a_line (subst (λ (y : Outcome (List ℕ)). IsAnswerOver request y (Err (Input fault))) is answered))
  over_limited false x is answered = inr (cc (subst (λ (y : Outcome (List ℕ)). IsAnswerOver request y (Err (Input fault))) is answered), is)

  pub answer_over_an_input : IsAnswerOver request (input_of input) (Err (Input fault)) → ((n : ℕ) × (fault ≡ MachineLine n)) ⊎ ((fault ≡ TextTooLong) × (input_of input ≡ Err (Input TextTooLong)))
  unfolding input_of
  answer_over_an_input = over_limited (nat_le (length input) 16777216) _ refl

-- ---- the cause of a refusal

module _ (P : Type 0) where
  no_write : ((n : ℕ) × (WriteFault ≡ MachineLine n)) ⊎ ((WriteFault ≡ TextTooLong) × P) → ⊥
  no_write (inl (n, is)) = cc is
  no_write (inr (is, p)) = cc is

  no_read : ((n : ℕ) × (ReadFault ≡ MachineLine n)) ⊎ ((ReadFault ≡ TextTooLong) × P) → ⊥
  no_read (inl (n, is)) = cc is
  no_read (inr (is, p)) = cc is

  no_line : ((n : ℕ) × (TextTooLong ≡ MachineLine n)) ⊎ ((TextTooLong ≡ TextTooLong) × P) → P
  no_line (inl (n, is)) = absurd (cc is)
  no_line (inr (is, p)) = p

module _ (words : List (List ℕ)) (input : List ℕ) (r : Refusal) where
  own_as : (own : IsOwnRefusal words input r) (fault : InputFault) → r ≡ Input fault → ((n : ℕ) × (fault ≡ MachineLine n)) ⊎ ((fault ≡ TextTooLong) × (input_of input ≡ Err (Input TextTooLong)))
  own_as own fault is = answer_over_an_input own.request input fault (subst (λ (e : Refusal). IsAnswerOver own.request (input_of input) (Err e)) is own.answers)

  own_tells_truly : IsOwnRefusal words input r → TellsTruly false false input r
  own_tells_truly own = record {
    write = λ is. absurd (no_write _ (own_as own WriteFault is));
    read = λ is. absurd (no_read _ (own_as own ReadFault is));
    too_long = λ is. no_line _ (own_as own TextTooLong is);
  }

  pub cause_tells_truly : (read_failed write_failed : Bool) → IsCause words read_failed write_failed input r → TellsTruly read_failed write_failed input r
  cause_tells_truly read_failed true cause = record { write = λ is. refl; read = λ is. absurd (cc (sym cause ∙ is)); too_long = λ is. absurd (cc (sym cause ∙ is)) }
  cause_tells_truly true false cause = record { write = λ is. absurd (cc (sym cause ∙ is)); read = λ is. (refl, refl); too_long = λ is. absurd (cc (sym cause ∙ is)) }
  cause_tells_truly false false (inl memory) = record { write = λ is. absurd (cc (sym memory ∙ is)); read = λ is. absurd (cc (sym memory ∙ is)); too_long = λ is. absurd (cc (sym memory ∙ is)) }
  cause_tells_truly false false (inr own) = own_tells_truly own

-- ---- a run

pub run_tells_truly : (words : List (List ℕ)) (left : Option (List ℕ)) (read_failed : Bool) (status : ℕ) (output output2 errors errors2 : Held) → Ran words left read_failed status output output2 errors errors2 → status ≡ 1
    → (told : TellsCause words left read_failed output2.has_failed errors errors2) × TellsTruly read_failed output2.has_failed told.input told.refusal
run_tells_truly words left read_failed status output output2 errors errors2 ran is =
    let told = cause_told words left read_failed status output output2 errors errors2 ran is in (told, cause_tells_truly words told.input told.refusal read_failed output2.has_failed told.is_cause)
