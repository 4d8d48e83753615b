-- Each frame that is opened is closed, and the numbers of frames rise.
use Rattle.std.specs.Prelude.{◌≡◌, ℕ, zero, suc, ◌+◌, ◌-◌, ◌^◌, ◌==◌, ◌≤◌, List, [], ◌∷◌, ◌++◌, length, take, Bool, true, false, Ok, Err, refl, if◌then◌else◌}
use Rattle.std.proofs.Common.{arith, ap, sym, ◌∙◌, subst}
use Rattle.std.proofs.Math.Seq.{take-append_seam}
use Rattle.std.proofs.lemmas.List.{length_push}
use Rattle.ar_space.specs.Accesses.{Accesses}
use Rattle.ar_space.specs.Outcome.{Outcome}
use Rattle.ar_space.specs.declared.integer_width.IntegerWidth.{IntegerWidth}
use Rattle.ar_space.specs.declared.refusal.Refusal.{Refusal}
use Rattle.ar_space.specs.declared.refusal.Refusal.TheVariants as refusal
use Rattle.ar_space.specs.declared.refusal.EvaluationFault.TheVariants.{ObjectLimit}
use Rattle.aml_path.specs.declared.segment.Seg.{Seg}
use Rattle.aml_objects.specs.declared.value.Value.{Value}
use Rattle.aml_world.specs.declared.state.frame.Frame.{Frame}
use Rattle.aml_world.specs.state.State.{State}
use Rattle.aml_world.specs.state.Slots.{opened}
use Rattle.aml_world.specs.declared.state.settings.EvaluationSettings.{EvaluationSettings}
use Rattle.aml_world.specs.state.Predefined.{fresh_as, predefined}
use Rattle.aml_grammar.specs.Tree.{Trees}
use Rattle.aml_laws.specs.Becomes.{Becomes}
use Rattle.aml_meaning.specs.Calls.{invoked}
use Rattle.aml_meaning.specs.Meaning.{meaning}
use Rattle.aml_meaning.specs.Tasks.{Task, in_turn}
use Rattle.aml_laws.specs.Numbers.{numbers_of, RiseTo}
use Rattle.aml_laws.proofs.WorldRelations.{WorldRelation, in_new_frame, plain}
use Rattle.aml_laws.proofs.NumbersRise.{next_frame_rises}
use Rattle.aml_laws.proofs.LocatedRegions.{meant}
use Rattle.aml_laws.proofs.OperandsAndCallsPreserve.{invoked_preserves_from}
use Rattle.aml_laws.proofs.RulesPreserve.{meaning_preserves, list_preserves}
use Rattle.aml_laws.proofs.EvaluationsPreserve.{becomes_preserves, predefined_preserves}

numbers_taken : (k : ℕ) (frames : List Frame) → numbers_of (take k frames) ≡ take k (numbers_of frames)
numbers_taken zero frames = refl
numbers_taken (suc k) [] = refl
numbers_taken (suc k) (f ∷ fs) = ap (λ ns. f.number ∷ ns) (numbers_taken k fs)

pub numbers_length : (frames : List Frame) → length (numbers_of frames) ≡ length frames
numbers_length [] = refl
numbers_length (f ∷ fs) = ap suc (numbers_length fs)

pub numbers_pushed : (frames : List Frame) (f : Frame) → numbers_of (frames ++ f ∷ []) ≡ numbers_of frames ++ f.number ∷ []
numbers_pushed [] f = refl
numbers_pushed (x ∷ xs) f = ap (λ ns. x.number ∷ ns) (numbers_pushed xs f)

front_of_pushed : (ns : List ℕ) (n k : ℕ) → k ≡ length (ns ++ n ∷ []) → take (k - 1) (ns ++ n ∷ []) ≡ ns
front_of_pushed ns n k is =
    let longer = length_push ns n in
    let last : k - 1 ≡ length ns = omega (arith, is, longer) in
    ap (λ j. take j (ns ++ n ∷ [])) last ∙ take-append_seam ns (n ∷ [])

-- the latest frame is closed
pub numbers_of_closed : (frames : List Frame) (ns : List ℕ) (n : ℕ) → numbers_of frames ≡ ns ++ n ∷ [] → numbers_of (take (length frames - 1) frames) ≡ ns
numbers_of_closed frames ns n is =
    numbers_taken (length frames - 1) frames ∙ ap (take (length frames - 1)) is ∙ front_of_pushed ns n (length frames) (sym (numbers_length frames) ∙ ap length is)

abbrev pub frame_numbers_relation : {S : Type 0} (accesses : Accesses S) → WorldRelation accesses
frame_numbers_relation accesses = plain (record {
  Leads = λ w v. numbers_of v.frames ≡ numbers_of w.frames;
  reflexive = λ w. refl;
  transitive = λ u v w h i. i ∙ h;
  objects_change = λ w h k. refl;
  name_declared = λ w q o free. refl;
  object_replaced = λ w q o e at is. refl;
  slots_written = λ w frames is. is;
  frame_closed = λ w v vs h. numbers_of_closed v.frames (numbers_of w.frames) w.started (h ∙ numbers_pushed w.frames _);
  names_removed = λ u w q at h. h;
  told = false;
  region_accessed = λ u w field region space s stands at r h. h;
  bridge_asked = λ u w at width wide asks h. h;
  loads = true;
  arities_set = λ loads w list. refl;
  mutexes_released = λ w. refl;
  passed_noted = λ listed u w scope e wide is h. h;
})

pub frames_are_balanced : {S : Type 0} (accesses : Accesses S) (w v : State S) → Becomes accesses w v → numbers_of v.frames ≡ numbers_of w.frames
frames_are_balanced accesses w v h = becomes_preserves (frame_numbers_relation accesses) refl w v h

-- after a call too
pub call_is_balanced : {S : Type 0} (accesses : Accesses S) (depth : ℕ) (p : List Seg) (body : List ℕ) (arguments : List Value) (s : State S × ℕ) → numbers_of (invoked (meaning accesses) depth p body arguments s).1.0.frames ≡ numbers_of s.0.frames
call_is_balanced accesses depth p body arguments s = (invoked_preserves_from {relation = frame_numbers_relation accesses} (meaning accesses) meaning_preserves (λ told. meant) s.0 depth p body arguments (λ v h. h)).preserves_from s refl

pub term_is_balanced : {S : Type 0} (accesses : Accesses S) (t : Task) (s : State S × ℕ) → numbers_of (meaning accesses t s).1.0.frames ≡ numbers_of s.0.frames
term_is_balanced accesses t s = (meaning_preserves {relation = frame_numbers_relation accesses} t).preserves s

pub list_is_balanced : {S : Type 0} (accesses : Accesses S) (scope : List Seg) (depth : ℕ) (ts : Trees) (s : State S × ℕ) → numbers_of (in_turn (meaning accesses) scope depth ts s).1.0.frames ≡ numbers_of s.0.frames
list_is_balanced accesses scope depth ts s = (list_preserves {relation = frame_numbers_relation accesses} scope depth ts).preserves s

-- ---- the numbers of frames rise

rise_to_higher : (ns : List ℕ) (a b : ℕ) → a ≤ b → RiseTo a ns → RiseTo b ns
rise_to_higher [] a b le h = tt
rise_to_higher (n ∷ []) a b le h = (let l = h.0 in omega arith, tt)
rise_to_higher (n ∷ m ∷ ms) a b le h = (h.0, rise_to_higher (m ∷ ms) a b le h.1)

rise_with_next : (ns : List ℕ) (a : ℕ) → RiseTo a ns → RiseTo (a + 1) (ns ++ a ∷ [])
rise_with_next [] a h = (omega arith, tt)
rise_with_next (n ∷ []) a h = (h.0, (omega arith, tt))
rise_with_next (n ∷ m ∷ ms) a h = (h.0, rise_with_next (m ∷ ms) a h.1)

pub frames_rise : {S : Type 0} (accesses : Accesses S) (w v : State S) → Becomes accesses w v → RiseTo w.started (numbers_of w.frames) → RiseTo v.started (numbers_of v.frames)
frames_rise accesses w v h rise = subst (RiseTo v.started) (sym (frames_are_balanced accesses w v h)) (rise_to_higher (numbers_of w.frames) w.started v.started (next_frame_rises accesses w v h) rise)

pub frames_rise_always : {S : Type 0} (accesses : Accesses S) (settings : EvaluationSettings) (width : IntegerWidth) (osi : List (List ℕ)) (space : S) (v : State S) → Becomes accesses (predefined (fresh_as settings width osi space)).1 v → RiseTo v.started (numbers_of v.frames)
frames_rise_always accesses settings width osi space v h = frames_rise accesses _ v h (subst (RiseTo _) (sym ((predefined_preserves {relation = frame_numbers_relation accesses} refl).preserves (fresh_as settings width osi space))) tt)

opened_rises_by_cases : {S : Type 0} (b : Bool) (x : Refusal) (arguments : List Value) (w : State S) (n : ℕ) → RiseTo w.started (numbers_of w.frames) → (if◌then◌else◌ {A = Outcome ℕ × State S} b (Err x, w) (Ok w.started, in_new_frame arguments w)).0 ≡ Ok n
    → RiseTo (if◌then◌else◌ {A = Outcome ℕ × State S} b (Err x, w) (Ok w.started, in_new_frame arguments w)).1.started (numbers_of (if◌then◌else◌ {A = Outcome ℕ × State S} b (Err x, w) (Ok w.started, in_new_frame arguments w)).1.frames)
opened_rises_by_cases true x arguments w n rise is = absurd (cc is)
opened_rises_by_cases false x arguments w n rise is = subst (RiseTo (w.started + 1)) (sym (numbers_pushed w.frames _)) (rise_with_next (numbers_of w.frames) w.started rise)

pub frames_rise_opened : {S : Type 0} (arguments : List Value) (w : State S) (n : ℕ) → RiseTo w.started (numbers_of w.frames) → (opened arguments w).0 ≡ Ok n → RiseTo (opened arguments w).1.started (numbers_of (opened arguments w).1.frames)
unfolding opened
frames_rise_opened arguments w n rise is = opened_rises_by_cases (w.started == 2 ^ 64 - 1) (refusal.Evaluation ObjectLimit) arguments w n rise is

opened_behind_by_cases : {S : Type 0} (b : Bool) (x : Refusal) (arguments : List Value) (w : State S) (n : ℕ) → (if◌then◌else◌ {A = Outcome ℕ × State S} b (Err x, w) (Ok w.started, in_new_frame arguments w)).0 ≡ Ok n
    → numbers_of (if◌then◌else◌ {A = Outcome ℕ × State S} b (Err x, w) (Ok w.started, in_new_frame arguments w)).1.frames ≡ numbers_of w.frames ++ n ∷ []
opened_behind_by_cases true x arguments w n is = absurd (cc is)
opened_behind_by_cases false x arguments w n is =
    let same : w.started ≡ n = cc is in
    numbers_pushed w.frames _ ∙ ap (λ k. numbers_of w.frames ++ k ∷ []) same

-- a frame that is opened takes the next number
pub frame_is_new : {S : Type 0} (arguments : List Value) (w : State S) (n : ℕ) → (opened arguments w).0 ≡ Ok n → numbers_of (opened arguments w).1.frames ≡ numbers_of w.frames ++ n ∷ []
unfolding opened
frame_is_new arguments w n is = opened_behind_by_cases (w.started == 2 ^ 64 - 1) (refusal.Evaluation ObjectLimit) arguments w n is

pub ruleset frame_numbers_are_given_once = (frames_rise, frames_rise_always, frames_rise_opened, frame_is_new)
