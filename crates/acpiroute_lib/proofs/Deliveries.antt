-- What stands in the output and the errors after a run.
use Rattle.std.proofs.Common.{◌≡◌, ◌≢◌, ◌∙◌, ◌<◌, ◌≤◌, ℕ, Bool, true, false, List, [], ◌∷◌, Option, Some, None, length, inl, inr, refl, sym, ap, subst}
use Rattle.std.specs.Prelude.{◌⊎◌, Ok, Err, if◌then◌else◌}
use Rattle.std.proofs.lemmas.Bool.{le-leb, lt-leb}
use Rattle.clap.specs.Kinds.{IsAmong}
use Rattle.clap.specs.declared.error.kind.ErrorKind.{ErrorKind}
use Rattle.clap.specs.declared.error.kind.ErrorKind.TheVariants as kind
use Rattle.ar_space.specs.Outcome.{Outcome, NotMemory}
use Rattle.ar_space.specs.declared.refusal.Refusal.{Refusal}
use Rattle.ar_space.specs.declared.refusal.Refusal.TheVariants as refusal
use Rattle.acpiroute_shell.specs.CommandLine.{faults_of, asked_of}
use Rattle.acpiroute_shell.specs.declared.request.Asked.TheVariants.{For, BadAvoid}
use Rattle.acpiroute_shell.specs.Deliveries.{Reply, refusal_told, reply_of, Delivered, IsToldAs, Told}
use Rattle.acpiroute_shell.specs.ErrorLines.{error_line}
use Rattle.acpiroute_shell.specs.Held.{Held}
use Rattle.acpiroute_shell.specs.Input.{input_of, IsRead}
use Rattle.acpiroute_shell.specs.Stops.{refusal_of}
use Rattle.acpiroute_shell.specs.Written.{Written, status_of}
use Rattle.acpiroute_shell.specs.declared.completion.Completion.{Completion}
use Rattle.acpiroute_shell.specs.declared.completion.Completion.TheVariants.{Done, SettingRefused, ClaimInvalid}
use Rattle.acpiroute_shell.specs.declared.input.Stop.{Stop}
use Rattle.acpiroute_shell.specs.declared.input.Stop.TheVariants as stop
use Rattle.acpiroute_shell.specs.declared.request.Request.{Request}
use Rattle.acpiroute_lib.specs.Commands.{IsAnswer}
use Rattle.acpiroute_lib.specs.Passed.{request_passed, told_passed}
use Rattle.acpiroute_lib.specs.Runs.{IsAnswerOver, ComesTo, IsReply, Ran, Served, IsHelp, Shows, Shown, bad_avoid, no_memory}

-- ---- a request

-- an input that is short enough, and one that is too long
short : (q : Request) (input : List ℕ) (r : Outcome Written) → length input ≤ 16777216 → IsAnswer q input r → IsAnswerOver q (input_of input) r
unfolding input_of
short q input r le h = rw (le-leb _ _ le) h

long : (q : Request) (input : List ℕ) → 16777216 < length input → IsAnswerOver q (input_of input) (Err (refusal_of stop.TooLong))
unfolding input_of
long q input lt = rw (lt-leb _ _ lt) refl

comes : (q : Request) (failed : Bool) (input bytes : List ℕ) (outcome told : Outcome Written) → failed ≡ false → bytes ≡ input → length input ≤ 16777216 → (NotMemory outcome → IsAnswer q bytes outcome)
    → IsToldAs outcome told → ComesTo q failed input told
comes q true input bytes outcome told fine is le h same = absurd (cc fine)
comes q false input bytes (Ok w) told fine is le h same = rw same (λ ne. short q input (Ok w) le (subst (λ xs. IsAnswer q xs (Ok w)) is (h ne)))
comes q false input bytes (Err e) told fine is le h (inl same) = rw same (λ ne. short q input (Err e) le (subst (λ xs. IsAnswer q xs (Err e)) is (h ne)))
comes q false input bytes (Err e) told fine is le h (inr same) = rw same (λ ne. absurd (ne refl))

-- what was passed over is told with it

memory_or_not : (e : Refusal) → (e ≡ refusal.OutOfMemory) ⊎ (e ≢ refusal.OutOfMemory)
memory_or_not refusal.OutOfMemory = inl refl
memory_or_not _ = inr (λ q. cc q)

passed_short : (q : Request) (input : List ℕ) → length input ≤ 16777216 → told_passed q false input ≡ request_passed q input
unfolding input_of
passed_short q input le = rw (le-leb _ _ le) refl

passed_long : (q : Request) (failed : Bool) (input : List ℕ) → failed ≡ false → 16777216 < length input → told_passed q failed input ≡ []
unfolding input_of
passed_long q failed input fine lt = rw (fine, lt-leb _ _ lt) refl

passed_unread : (q : Request) (failed : Bool) (input : List ℕ) → failed ≡ true → told_passed q failed input ≡ []
passed_unread q failed input is = rw is refl

module _ (q : Request) (failed : Bool) (input bytes passed : List ℕ) (fine : failed ≡ false) (is : bytes ≡ input) (le : length input ≤ 16777216) where
  same_passed : passed ≡ request_passed q bytes → passed ≡ told_passed q failed input
  same_passed h = h ∙ (ap (request_passed q) is ∙ (sym (passed_short q input le) ∙ ap (λ b. told_passed q b input) (sym fine)))

  by_memory_told : (e : Refusal) → (e ≡ refusal.OutOfMemory) ⊎ (e ≢ refusal.OutOfMemory) → (e ≢ refusal.OutOfMemory → passed ≡ request_passed q bytes) → reply_of passed (Err e) ≡ reply_of (told_passed q failed input) (Err e)
  by_memory_told e (inl memory) h = rw memory refl
  by_memory_told e (inr other) h = ap (λ p. reply_of p (Err e)) (same_passed (h other))

  same_reply : (outcome told : Outcome Written) → IsToldAs outcome told → (NotMemory outcome → passed ≡ request_passed q bytes) → reply_of passed told ≡ reply_of (told_passed q failed input) told
  same_reply (Ok w) told same h = rw same (ap (λ p. reply_of p (Ok w)) (same_passed (h tt)))
  same_reply (Err e) told (inl same) h = rw same (by_memory_told e (memory_or_not e) h)
  same_reply (Err e) told (inr same) h = rw same refl

module _ (q : Request) (left : Option (List ℕ)) (failed : Bool) (status : ℕ) (output output2 errors errors2 : Held) where
  pub answered : (bytes passed : List ℕ) (outcome : Outcome Written) → IsRead 16777216 left failed (Ok bytes) → (NotMemory outcome → IsAnswer q bytes outcome) → (NotMemory outcome → passed ≡ request_passed q bytes)
      → Told passed outcome status output output2 errors errors2 → Served q left failed status output output2 errors errors2
  answered bytes passed outcome h is lines t =
      record {
        input = h.input;
        is_input = h.is_input;
        outcome = t.told;
        comes = comes q failed h.input bytes outcome t.told h.ends.0 h.ends.1 h.ends.2 is t.is_told;
        delivered = subst (λ r. Delivered r status output output2 errors errors2) (same_reply q failed h.input bytes passed h.ends.0 h.ends.1 h.ends.2 outcome t.told t.is_told lines) t.delivered;
      }

  by_line : (line : List ℕ) (r : Refusal) (passed : List ℕ) → line ≡ refusal_told passed r → Delivered (record { text = []; line = line; status = 1 }) status output output2 errors errors2 → Delivered (reply_of passed (Err r)) status output output2 errors errors2
  by_line line r passed is d = subst (λ l. Delivered (record { text = []; line = l; status = 1 }) status output output2 errors errors2) is d

  pub stopped : (s : Stop) (line : List ℕ) → IsRead 16777216 left failed (Err s) → line ≡ error_line (refusal_of s)
      → Delivered (record { text = []; line = line; status = 1 }) status output output2 errors errors2 → Served q left failed status output output2 errors errors2
  stopped stop.OutOfMemory line h is d =
      record { input = h.input; is_input = h.is_input; outcome = Err refusal.OutOfMemory; comes = rw h.ends (λ ne. absurd (ne refl)); delivered = by_line line refusal.OutOfMemory (told_passed q failed h.input) is d }
  stopped stop.ReadFault line h is d =
      record {
        input = h.input;
        is_input = h.is_input;
        outcome = Err (refusal_of stop.ReadFault);
        comes = rw h.ends refl;
        delivered = by_line line (refusal_of stop.ReadFault) _ (is ∙ ap (λ p. refusal_told p (refusal_of stop.ReadFault)) (sym (passed_unread q failed h.input h.ends))) d;
      }
  stopped stop.TooLong line h is d =
      record {
        input = h.input;
        is_input = h.is_input;
        outcome = Err (refusal_of stop.TooLong);
        comes = rw h.ends.0 (λ ne. long q h.input h.ends.1);
        delivered = by_line line (refusal_of stop.TooLong) _ (is ∙ ap (λ p. refusal_told p (refusal_of stop.TooLong)) (sym (passed_long q failed h.input h.ends.0 h.ends.1))) d;
      }

-- ---- a run

module _ (words : List (List ℕ)) (left : Option (List ℕ)) (failed : Bool) (status : ℕ) (output output2 errors errors2 : Held) where
  -- without the input: there is one, and any will do
  any_input : (known : Option (List ℕ)) → known ≡ left → (r : Reply) → ((input : List ℕ) → IsReply words failed input r) → Delivered r status output output2 errors errors2
      → Ran words left failed status output output2 errors errors2
  any_input None is r h d = record { input = []; is_input = rw (sym is) tt; reply = r; is_reply = h []; delivered = d }
  any_input (Some xs) is r h d = record { input = xs; is_input = rw (sym is) refl; reply = r; is_reply = h xs; delivered = d }

  told_of : (told fault : ErrorKind) → IsAmong told (kind.OutOfMemory ∷ fault ∷ []) → (fault ≡ kind.OutOfMemory) ⊎ IsAmong fault (faults_of words) → IsAmong told (kind.OutOfMemory ∷ faults_of words)
  told_of told fault (inl is) h = inl is
  told_of told fault (inr (inl is)) h = subst (λ k. IsAmong k (kind.OutOfMemory ∷ faults_of words)) (sym is) h
  told_of told fault (inr (inr none)) h = absurd none

  pub complained : (fault : ErrorKind) → (fault ≡ kind.OutOfMemory) ⊎ IsAmong fault (faults_of words) → Shown fault status output output2 errors errors2 → Ran words left failed status output output2 errors errors2
  complained fault h s = any_input left refl s.reply (λ input. inl (record { fault = s.told; found = told_of s.told fault s.is_told h; shown = s.shown })) s.delivered

  pub declined : faults_of words ≡ [] → asked_of words ≡ Some BadAvoid → Delivered bad_avoid status output output2 errors errors2 → Ran words left failed status output output2 errors errors2
  declined none is d = any_input left refl bad_avoid (λ input. inr (inl (record { no_fault = none; asked = is; is = refl }))) d

  pub worked : (request : Request) → faults_of words ≡ [] → asked_of words ≡ Some (For request) → Served request left failed status output output2 errors errors2
      → Ran words left failed status output output2 errors errors2
  worked request none is s =
      record {
        input = s.input;
        is_input = s.is_input;
        reply = reply_of (told_passed request failed s.input) s.outcome;
        is_reply = inr (inr (record { request = request; no_fault = none; asked = is; outcome = s.outcome; comes = s.comes; is = refl }));
        delivered = s.delivered;
      }

-- ---- the status

not_two : (c : Completion) → status_of c ≡ 2 → ⊥
not_two Done is = absurd (cc is)
not_two SettingRefused is = absurd (cc is)
not_two ClaimInvalid is = absurd (cc is)

own_status : (passed : List ℕ) (outcome : Outcome Written) → (reply_of passed outcome).status ≡ 2 → ⊥
own_status passed (Ok w) is = not_two w.completion is
own_status passed (Err e) is = absurd (cc is)

by_output : (failed : Bool) (passed : List ℕ) (outcome : Outcome Written) → (if failed then 1 else (reply_of passed outcome).status) ≡ 2 → ⊥
by_output true passed outcome is = absurd (cc is)
by_output false passed outcome is = own_status passed outcome is

pub served_otherwise : (request : Request) (left : Option (List ℕ)) (failed : Bool) (status : ℕ) (output output2 errors errors2 : Held) → Served request left failed status output output2 errors errors2 → status ≡ 2 → ⊥
served_otherwise request left failed status output output2 errors errors2 s is = by_output output2.has_failed (told_passed request failed s.input) s.outcome (sym s.delivered.status_is ∙ is)

-- ---- a fault of the words

neither : (fault : ErrorKind) → (fault ≢ kind.DisplayHelp) × (fault ≢ kind.DisplayVersion) → IsHelp fault → ⊥
neither fault h (inl is) = h.0 is
neither fault h (inr is) = h.1 is

not_help : IsHelp kind.OutOfMemory → ⊥
not_help (inl is) = absurd (cc is)
not_help (inr is) = absurd (cc is)

by_memory : Shows kind.OutOfMemory no_memory
by_memory = record { memory = λ is. refl; help = λ is. absurd (not_help is); other = λ ne help. absurd (ne refl) }

module _ (fault : ErrorKind) (status : ℕ) (output output2 errors errors2 : Held) where
  pub shown_memory : Delivered no_memory status output output2 errors errors2 → Shown fault status output output2 errors errors2
  shown_memory d = record { told = kind.OutOfMemory; is_told = inl refl; reply = no_memory; shown = by_memory; delivered = d }

  -- a text on the errors
  pub shown_fault : (line : List ℕ) → fault ≢ kind.OutOfMemory → (fault ≢ kind.DisplayHelp) × (fault ≢ kind.DisplayVersion) → 0 < length line
      → Delivered (record { text = []; line = line; status = 2 }) status output output2 errors errors2 → Shown fault status output output2 errors errors2
  shown_fault line not_memory not_help some d =
      record {
        told = fault;
        is_told = inr (inl refl);
        reply = record { text = []; line = line; status = 2 };
        shown = record { memory = λ is. absurd (not_memory is); help = λ is. absurd (neither fault not_help is); other = λ a b. (refl, refl, some) };
        delivered = d;
      }

  -- a text on the output
  pub shown_help : (text : List ℕ) → fault ≢ kind.OutOfMemory → ((fault ≢ kind.DisplayHelp) × (fault ≢ kind.DisplayVersion) → ⊥) → 0 < length text
      → Delivered (record { text = text; line = []; status = 0 }) status output output2 errors errors2 → Shown fault status output output2 errors errors2
  shown_help text not_memory help some d =
      record {
        told = fault;
        is_told = inr (inl refl);
        reply = record { text = text; line = []; status = 0 };
        shown = record { memory = λ is. absurd (not_memory is); help = λ is. (refl, refl, some); other = λ a b. absurd (help ((λ is. b (inl is)), (λ is. b (inr is)))) };
        delivered = d;
      }

pub ruleset showing = (shown_memory, shown_fault, shown_help)

pub ruleset running = (complained, declined, worked)
