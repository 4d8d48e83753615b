-- Control methods that are entered, and evaluations from outside.
use Rattle.std.specs.Prelude.{◌≡◌, ℕ, List, [], true, Ok, Err, IsErr, IsErrAnd, refl}
use Rattle.std.proofs.Common.{◌∙◌, sym}
use Rattle.ar_space.specs.Accesses.{Accesses}
use Rattle.ar_space.specs.Outcome.{Outcome, Answers, seen}
use Rattle.ar_space.specs.Change.{Change, Does, give, stop, settle, go_on, ◌>>=◌}
use Rattle.ar_space.specs.declared.refusal.Refusal.{Refusal}
use Rattle.ar_space.specs.declared.refusal.Refusal.TheVariants.{OutOfMemory}
use Rattle.aml_path.specs.declared.segment.Seg.{Seg}
use Rattle.aml_grammar.specs.State.{until_end}
use Rattle.aml_grammar.specs.Grammar.{items, term_list, by_arities}
use Rattle.aml_arities.specs.declared.arities.Arity.{Arity}
use Rattle.aml_grammar.specs.Shape.{trees_of}
use Rattle.aml_grammar.specs.declared.marks.Mark.{Mark}
use Rattle.aml_marks.specs.Marked.{trees_by}
use Rattle.aml_objects.specs.declared.entry.Field.{Field}
use Rattle.aml_objects.specs.declared.value.Value.TheVariants as value
use Rattle.aml_scan.specs.Scanned.{marked}
use Rattle.aml_world.specs.state.State.{State}
use Rattle.aml_world.specs.state.Run.{Run, lift}
use Rattle.aml_world.specs.fields.Fields.{field_part, bits_in}
use Rattle.aml_world.specs.fields.Regions.{integer_only, integer_alone}
use Rattle.aml_meaning.specs.declared.flow.Flow.{Flow}
use Rattle.aml_meaning.specs.declared.flow.Flow.TheVariants as flow
use Rattle.aml_meaning.specs.Tasks.{in_turn}
use Rattle.aml_meaning.specs.Calls.{leaving, value_of_call}
use Rattle.aml_meaning.specs.Meaning.{meaning}
use Rattle.aml_meaning.proofs.Runs.{running, does_lift}
use Rattle.aml_frames.specs.declared.addresses.Asked.TheVariants as answers
use Rattle.aml_frames.specs.declared.addresses.Waited.{Waited}
use Rattle.aml_frames.specs.declared.addresses.PciAccess.{PciAccess}
use Rattle.aml_frames.specs.declared.frames.Frame.TheVariants as frames
use Rattle.aml_frames.specs.declared.frames.Next.TheVariants as next
use Rattle.aml_frames.specs.declared.uses.Accessed.TheVariants as object
use Rattle.aml_frames.specs.declared.uses.Doing.TheVariants as doing
use Rattle.aml_frames.specs.declared.uses.Reading.TheVariants as reading
use Rattle.aml_frames.specs.Addresses.{waited_run, Asks}
use Rattle.aml_frames.specs.Uses.{access_done, asking, read_as}
use Rattle.aml_frames.specs.Places.{Site}
use Rattle.aml_frames.specs.Follow.{body_run, resumed, Leads}
use Rattle.aml_frames.specs.Entering.{Enters}
use Rattle.aml_frames.proofs.Stepping.{bind_bind}
use Rattle.aml_frames.proofs.Targeting.{bind_same}

module _ {S : Type 0} {ac : Accesses S} where
  -- ---- how a control method is entered: a chain of `?`

  pub enters_ok : {A : Type 0} {x : A} {r : Outcome Site} {w w1 : State S} {s2 : State S × ℕ} (b : ℕ) (m : Change (State S) A) (k : A → Run S Flow) → Does (Ok x) w1 m w → Enters ac (meaning ac) r s2 (k x) (w1, b) → Enters ac (meaning ac) r s2 (lift m >>= k) (w, b)
  unfolding ◌>>=◌ go_on lift
  enters_ok b m k h i = record { is = λ ne. rw (h.is tt) (i.is ne) }

  pub enters_err : {A : Type 0} {e : Refusal} {r : Outcome Site} {w w1 : State S} (b : ℕ) (m : Change (State S) A) (k : A → Run S Flow) → Does {A = A} (Err e) w1 m w → IsErr r × IsErrAnd r (λ x. x ≡ e) → Enters ac (meaning ac) r (w1, b) (lift m >>= k) (w, b)
  unfolding ◌>>=◌ go_on lift stop
  enters_err {r = Ok x} b m k h i = absurd (cc i.0)
  enters_err {r = Err x} b m k h i = record { is = λ ne. rw (h.is (λ q. ne (i.1 ∙ q)), i.1) refl }

  pub enters_settle_ok : {A : Type 0} {x : A} {r : Outcome Site} {s s1 : State S × ℕ} (m : Outcome A) (k : A → Run S Flow) → Answers (Ok x) m → Enters ac (meaning ac) r s1 (k x) s → Enters ac (meaning ac) r s1 (settle m >>= k) s
  unfolding ◌>>=◌ go_on settle
  enters_settle_ok m k h i = record { is = λ ne. rw (h.is tt) (i.is ne) }

  pub enters_settle_err : {A : Type 0} {e : Refusal} {r : Outcome Site} {s : State S × ℕ} (m : Outcome A) (k : A → Run S Flow) → Answers {A = A} (Err e) m → IsErr r × IsErrAnd r (λ x. x ≡ e) → Enters ac (meaning ac) r s (settle m >>= k) s
  unfolding ◌>>=◌ go_on settle stop
  enters_settle_err {r = Ok x} m k h i = absurd (cc i.0)
  enters_settle_err {r = Err x} m k h i = record { is = λ ne. rw (h.is (λ q. ne (i.1 ∙ q)), i.1) refl }

  pub enters_memory : {s : State S × ℕ} (r : Outcome Site) (after : State S × ℕ) (m : Run S Flow) → IsErr r × IsErrAnd r (λ e. e ≡ OutOfMemory) → Enters ac (meaning ac) r after m s
  enters_memory (Ok n) after m i = absurd (cc i.0)
  enters_memory (Err e) after m i = record { is = λ ne. absurd (ne i.1) }

  pub enters_body : {s : State S × ℕ} (b : Site) (p : List Seg) (depth : ℕ) (bs : List ℕ) (marks : List Mark) → b ≡ record { bytes = bs; marks = marks; scope = p; depth = depth; place = record { at = 0; rest = bs } } → Enters ac (meaning ac) (Ok b) s (leaving p (in_turn (meaning ac) p depth (trees_of (trees_by marks bs)))) s
  enters_body b p depth bs marks e = rw e (record { is = λ _. refl })

  -- ---- what a control method is entered for

  pub leads_entered : {c : Site} {s s1 : State S × ℕ} (b : Site) (m : Run S Flow) → Enters ac (meaning ac) (Ok b) s1 m s → Leads ac (meaning ac) (Ok (next.Body b)) c s1 m s
  leads_entered b m h = record { is = λ _. h.is tt }

  pub leads_unentered : {c : Site} {s s1 : State S × ℕ} (e : Refusal) (m : Run S Flow) → Enters ac (meaning ac) (Err e) s1 m s → Leads ac (meaning ac) (Err e) c s1 m s
  leads_unentered e m h = record { is = λ ne. h.is ne }

  pub leads_entered_then : {c : Site} {s s1 : State S × ℕ} (b : Site) (x : PciAccess) (m : Run S Flow) → Enters ac (meaning ac) (Ok b) s1 m s → Leads ac (meaning ac) (Ok (next.BodyThen b x)) c s1 (m >>= resumed ac (meaning ac) (frames.Address x) c) s
  unfolding ◌>>=◌
  leads_entered_then b x m h = record { is = λ _. rw (h.is tt) refl }

  pub leads_unentered_then : {c : Site} {s s1 : State S × ℕ} (e : Refusal) (m : Run S Flow) (k : Flow → Run S Flow) → Enters ac (meaning ac) (Err e) s1 m s → Leads ac (meaning ac) (Err e) c s1 (m >>= k) s
  unfolding ◌>>=◌ go_on stop
  leads_unentered_then e m k h = record { is = λ ne. rw (h.is ne) refl }

  pub does_entered : {r : Outcome Flow} {s s1 s2 : State S × ℕ} (b : Site) (m : Run S Flow) → Enters ac (meaning ac) (Ok b) s1 m s → Does r s2 (body_run ac (meaning ac) b) s1 → Does r s2 m s
  does_entered b m h i = record { is = λ ne. rw (h.is tt) (i.is ne) }

  pub does_unentered : {s s1 : State S × ℕ} (e : Refusal) (m : Run S Flow) → Enters ac (meaning ac) (Err e) s1 m s → Does (Err e) s1 m s
  unfolding stop
  does_unentered e m h = record { is = λ ne. h.is ne }

pub ruleset entering = (running, enters_ok, enters_err, enters_settle_ok, enters_settle_err, enters_memory, enters_body)

pub ruleset entered = (running, leads_entered, leads_unentered, leads_entered_then, leads_unentered_then, does_entered, does_unentered)

-- ---- the integer that an object answers

module _ {S : Type 0} (ac : Accesses S) where
  part_told : (o : Outcome ℕ) (s : State S × ℕ) → (o, s) ≡ go_on (go_on o s (λ x. give (flow.Value (value.Integer x)))).0 (go_on o s (λ x. give (flow.Value (value.Integer x)))).1 (λ f. settle (integer_only (value_of_call f)))
  unfolding go_on give settle stop ◌>>=◌
  part_told (Ok x) s = refl
  part_told (Err e) s = refl

  part_one : (count : ℕ) (bytes : List ℕ) (s : State S × ℕ) → lift (integer_alone count bytes) s ≡ (lift (integer_alone count bytes) >>= (λ n. give (flow.Value (value.Integer n))) >>= (λ f. settle (integer_only (value_of_call f)))) s
  unfolding lift ◌>>=◌
  part_one count bytes s = part_told (integer_alone count bytes s.0).0 ((integer_alone count bytes s.0).1, s.1)

  part_is : (calls : ℕ) (f : Field) (s : State S × ℕ) → field_part ac (asking ac (meaning ac) calls) f s ≡ (access_done ac (meaning ac) calls (object.Field f) (doing.Read reading.Part) >>= (λ x. settle (integer_only (value_of_call x)))) s
  unfolding field_part read_as
  part_is calls f s =
      let m = bits_in ac (asking ac (meaning ac) calls) f in
      bind_same m _ (λ bytes. lift (integer_alone _ bytes) >>= (λ n. give (flow.Value (value.Integer n))) >>= (λ x. settle (integer_only (value_of_call x)))) s (λ bytes i. part_one _ bytes i)
      ∙ sym (bind_bind m (λ bytes. lift (integer_alone _ bytes) >>= (λ n. give (flow.Value (value.Integer n)))) (λ x. settle (integer_only (value_of_call x))) s)

pub does_part : {S : Type 0} {r : Outcome ℕ} {s s1 : State S × ℕ} (ac : Accesses S) (calls : ℕ) (f : Field) → Does r s1 (access_done ac (meaning ac) calls (object.Field f) (doing.Read reading.Part) >>= (λ x. settle (integer_only (value_of_call x)))) s → Does r s1 (field_part ac (asking ac (meaning ac) calls) f) s
does_part {s = s} ac calls f h = record { is = λ ne. part_is ac calls f s ∙ h.is ne }

module _ {S : Type 0} {ac : Accesses S} where
  pub does_known : {s s1 : State S × ℕ} (n : ℕ) (m : Run S ℕ) → Asks ac (meaning ac) (Ok (answers.Known n)) s1 m s → Does (Ok n) s1 m s
  unfolding give
  does_known n m h = record { is = λ _. h.is tt }

  pub does_waited : {r : Outcome ℕ} {s s1 s2 : State S × ℕ} (w : Waited) (m : Run S ℕ) → Asks ac (meaning ac) (Ok (answers.Waits w)) s1 m s → Does r s2 (waited_run ac (meaning ac) w) s1 → Does r s2 m s
  does_waited w m h i = record { is = λ ne. h.is tt ∙ i.is ne }

  pub does_unasked : {s s1 : State S × ℕ} (e : Refusal) (m : Run S ℕ) → Asks ac (meaning ac) (Err e) s1 m s → Does (Err e) s1 m s
  unfolding stop
  does_unasked e m h = record { is = λ ne. h.is ne }

-- what only memory can refuse
pub does_short : {S A : Type 0} {r : Outcome A} {e : Refusal} {s s1 : S} (m : Change S A) → Answers {A = ℕ} (Err e) (Ok 0) → IsErr r × IsErrAnd r (λ x. x ≡ e) → Does r s1 m s
does_short {r = Ok x} m h i = absurd (cc i.0)
does_short {r = Err x} m h i = record { is = λ ne. absurd (cc (h.is (λ q. ne (i.1 ∙ q)))) }

pub ruleset asked_whole = (does_known, does_waited, does_unasked)

pub ruleset parted = (running, does_part, does_short)

-- ---- a list without terms

nothing_read : (scope : List Seg) (counts : List Arity) → marked (term_list by_arities [] scope true counts) ≡ Ok []
unfolding term_list items until_end
nothing_read scope counts = refl

pub nothing_refused : {A : Type 0} (r : Outcome A) (e : Refusal) (scope : List Seg) (counts : List Arity) → Answers {A = List Mark} (Err e) (marked (term_list by_arities [] scope true counts)) → IsErr r × IsErrAnd r (λ x. x ≡ e) → Answers {A = ℕ} (seen (λ a. 0) r) (Ok 0)
nothing_refused (Ok x) e scope counts h i = absurd (cc i.0)
nothing_refused (Err x) e scope counts h i = record { is = λ ne. absurd (cc (sym (nothing_read scope counts) ∙ h.is (λ q. ne (i.1 ∙ q)))) }

pub short_refused : {A B : Type 0} (r : Outcome A) (e : Refusal) (b : B) → Answers {A = B} (Err e) (Ok b) → IsErr r × IsErrAnd r (λ x. x ≡ e) → Answers {A = ℕ} (seen (λ a. 0) r) (Ok 0)
short_refused (Ok x) e b h i = absurd (cc i.0)
short_refused (Err x) e b h i = record { is = λ ne. absurd (cc (h.is (λ q. ne (i.1 ∙ q)))) }

pub ruleset standing = (nothing_refused, short_refused)
