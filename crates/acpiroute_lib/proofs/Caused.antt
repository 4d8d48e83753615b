-- Why a run ends with status 1.
use Rattle.std.proofs.Common.{◌≡◌, ◌≢◌, ◌∙◌, ℕ, Bool, true, false, List, [], ◌∷◌, ◌++◌, length, Option, Some, inl, inr, refl, sym, ap, subst, arith}
use Rattle.std.specs.Prelude.{◌⊎◌, Ok, Err, if◌then◌else◌}
use Rattle.clap.specs.Kinds.{IsAmong}
use Rattle.clap.specs.declared.error.kind.ErrorKind.{ErrorKind}
use Rattle.clap.specs.declared.error.kind.ErrorKind.TheVariants as kind
use Rattle.ar_space.specs.Outcome.{Outcome}
use Rattle.ar_space.specs.declared.refusal.Refusal.{Refusal}
use Rattle.ar_space.specs.declared.refusal.Refusal.TheVariants as refusal
use Rattle.ar_space.specs.declared.refusal.InputFault.TheVariants as fault
use Rattle.acpiroute_shell.specs.declared.request.Request.{Request}
use Rattle.acpiroute_shell.specs.declared.request.Asked.TheVariants.{For}
use Rattle.acpiroute_shell.specs.declared.completion.Completion.{Completion}
use Rattle.acpiroute_shell.specs.declared.completion.Completion.TheVariants.{Done, SettingRefused, ClaimInvalid}
use Rattle.acpiroute_shell.specs.CommandLine.{asked_of, faults_of}
use Rattle.acpiroute_shell.specs.Deliveries.{Reply, reply_of}
use Rattle.acpiroute_shell.specs.ErrorLines.{error_line}
use Rattle.acpiroute_shell.specs.Held.{Held, Takes, TakesUnless}
use Rattle.acpiroute_shell.specs.Input.{IsInput}
use Rattle.acpiroute_shell.specs.Written.{Written, status_of}
use Rattle.acpiroute_lib.specs.Passed.{told_passed}
use Rattle.acpiroute_lib.specs.Runs.{ComesTo, Complained, IsReply, Ran, IsHelp, Shows}
use Rattle.acpiroute_lib.specs.Causes.{IsCause, IsPassed, TellsCause}

-- ---- what is told of the words has another status

ordinary : (k : ErrorKind) → (IsHelp k) ⊎ ((k ≡ kind.OutOfMemory) ⊎ ((k ≢ kind.OutOfMemory) × (IsHelp k → ⊥)))
ordinary kind.DisplayHelp = inl (inl refl)
ordinary kind.DisplayVersion = inl (inr refl)
ordinary kind.OutOfMemory = inr (inl refl)
ordinary _ = inr (inr ((λ q. cc q), elim [ inl q ↦ cc q | inr q ↦ cc q ]))

help_is_other : (k : ErrorKind) → IsHelp k → k ≢ kind.OutOfMemory
help_is_other k (inl help) is = absurd (cc (sym help ∙ is))
help_is_other k (inr version) is = absurd (cc (sym version ∙ is))

shown_otherwise : (k : ErrorKind) (r : Reply) → Shows k r → r.status ≢ 1
shown_otherwise k r s is = by (ordinary k)
  where
    by : (IsHelp k) ⊎ ((k ≡ kind.OutOfMemory) ⊎ ((k ≢ kind.OutOfMemory) × (IsHelp k → ⊥))) → ⊥
    by (inl help) = absurd (cc (sym (s.help help).0 ∙ is))
    by (inr (inl memory)) = absurd (cc (sym is ∙ subst (λ x. x.status ≡ 2) (sym (s.memory memory)) refl))
    by (inr (inr other)) = absurd (cc (sym (s.other other.0 other.1).0 ∙ is))

not_one : (c : Completion) → status_of c ≢ 1
not_one Done is = absurd (cc is)
not_one SettingRefused is = absurd (cc is)
not_one ClaimInvalid is = absurd (cc is)

-- ---- the refusal of a request

memory_or_not : (e : Refusal) → (e ≡ refusal.OutOfMemory) ⊎ (e ≢ refusal.OutOfMemory)
memory_or_not refusal.OutOfMemory = inl refl
memory_or_not _ = inr (λ q. cc q)

module _ (words : List (List ℕ)) (input : List ℕ) where
  own : (q : Request) (e : Refusal) → faults_of words ≡ [] → asked_of words ≡ Some (For q) → (e ≡ refusal.OutOfMemory) ⊎ (e ≢ refusal.OutOfMemory) → ComesTo q false input (Err e) → IsCause words false false input e
  own q e clean asked (inl memory) comes = inl memory
  own q e clean asked (inr other) comes = inr (record { request = q; no_fault = clean; asked = asked; answers = comes other })

  refused : (q : Request) (read_failed : Bool) (e : Refusal) → faults_of words ≡ [] → asked_of words ≡ Some (For q) → ComesTo q read_failed input (Err e) → IsCause words read_failed false input e
  refused q true e clean asked comes = cc comes
  refused q false e clean asked comes = own q e clean asked (memory_or_not e) comes

-- ---- a run

module _ (words : List (List ℕ)) (left : Option (List ℕ)) (read_failed : Bool) (status : ℕ) (output output2 errors errors2 : Held) where
  of_request : (input : List ℕ) → IsInput left input → (q : Request) → faults_of words ≡ [] → asked_of words ≡ Some (For q) → (outcome : Outcome Written) → ComesTo q read_failed input outcome → (r : Reply) → r ≡ reply_of (told_passed q read_failed input) outcome
      → Takes errors errors2 r.line → r.status ≡ 1 → TellsCause words left read_failed false errors errors2
  of_request input is_input q clean asked (Ok w) comes r same line is = absurd (not_one w.completion (subst (λ x. x.status ≡ 1) same is))
  of_request input is_input q clean asked (Err e) comes r same line is =
      record { input = input; is_input = is_input; refusal = e; is_cause = refused words input q read_failed e clean asked comes; passed = told_passed q read_failed input; is_passed = inl (q, clean, asked, refl); line = subst (λ x. Takes errors errors2 x.line) same line }

  of_reply : (input : List ℕ) → IsInput left input → (r : Reply) → IsReply words read_failed input r → Takes errors errors2 r.line → r.status ≡ 1 → TellsCause words left read_failed false errors errors2
  of_reply input is_input r (inl c) line is = absurd (shown_otherwise c.fault r c.shown is)
  of_reply input is_input r (inr (inl d)) line is = absurd (cc (sym (ap (λ x. x.status) d.is) ∙ is))
  of_reply input is_input r (inr (inr w)) line is = of_request input is_input w.request w.no_fault w.asked w.outcome w.comes r w.is line is

  -- where a write to the output failed, there was a text
  no_text : (text : List ℕ) → output2.has_failed ≡ true → Takes output output2 text → text ≡ [] → ⊥
  no_text text failed takes none = let cut = subst (λ b. TakesUnless b output.bytes output2.bytes text) failed takes in omega (arith, cut.1, ap length none)

  failed_told : (r : Ran words left read_failed status output output2 errors errors2) → output2.has_failed ≡ true → (passed : List ℕ) → r.reply.line ≡ passed → IsPassed words read_failed true r.input passed
      → TellsCause words left read_failed true errors errors2
  failed_told r same passed is is_passed = record {
    input = r.input;
    is_input = r.is_input;
    refusal = refusal.Input fault.WriteFault;
    is_cause = refl;
    passed = passed;
    is_passed = is_passed;
    line = subst (λ line. Takes errors errors2 (line ++ error_line (refusal.Input fault.WriteFault))) is
        (subst (λ b. Takes errors errors2 (if b then r.reply.line ++ error_line (refusal.Input fault.WriteFault) else r.reply.line)) same r.delivered.line);
  }

  help_asked : (k : ErrorKind) → IsHelp k → IsAmong k (kind.OutOfMemory ∷ faults_of words) → IsAmong k (faults_of words)
  help_asked k help (inl is) = absurd (help_is_other k help is)
  help_asked k help (inr among) = among

  not_written : (r : Ran words left read_failed status output output2 errors errors2) → output2.has_failed ≡ true → IsReply words read_failed r.input r.reply → TellsCause words left read_failed true errors errors2
  not_written r same (inl c) = by (ordinary c.fault)
    where
      by : (IsHelp c.fault) ⊎ ((c.fault ≡ kind.OutOfMemory) ⊎ ((c.fault ≢ kind.OutOfMemory) × (IsHelp c.fault → ⊥))) → TellsCause words left read_failed true errors errors2
      by (inl help) = failed_told r same [] (c.shown.help help).1 (inr (refl, (c.fault, help, help_asked c.fault help c.found), refl))
      by (inr (inl memory)) = absurd (no_text r.reply.text same r.delivered.text (ap (λ x. x.text) (c.shown.memory memory)))
      by (inr (inr other)) = absurd (no_text r.reply.text same r.delivered.text (c.shown.other other.0 other.1).1)
  not_written r same (inr (inl d)) = absurd (no_text r.reply.text same r.delivered.text (ap (λ x. x.text) d.is))
  not_written r same (inr (inr w)) = by w.outcome w.is
    where
      by : (outcome : Outcome Written) → r.reply ≡ reply_of (told_passed w.request read_failed r.input) outcome → TellsCause words left read_failed true errors errors2
      by (Ok answer) is = failed_told r same (told_passed w.request read_failed r.input) (ap (λ x. x.line) is) (inl (w.request, w.no_fault, w.asked, refl))
      by (Err e) is = absurd (no_text r.reply.text same r.delivered.text (ap (λ x. x.text) is))

  told : Ran words left read_failed status output output2 errors errors2 → status ≡ 1 → (failed : Bool) → output2.has_failed ≡ failed → TellsCause words left read_failed failed errors errors2
  told r is true same = not_written r same r.is_reply
  told r is false same =
      of_reply r.input r.is_input r.reply r.is_reply (subst (λ b. Takes errors errors2 (if b then r.reply.line ++ error_line (refusal.Input fault.WriteFault) else r.reply.line)) same r.delivered.line)
      (sym (subst (λ b. status ≡ (if b then 1 else r.reply.status)) same r.delivered.status_is) ∙ is)

  pub cause_told : Ran words left read_failed status output output2 errors errors2 → status ≡ 1 → TellsCause words left read_failed output2.has_failed errors errors2
  cause_told r is = told r is output2.has_failed refl
