-- Operands whose values are there at once: what they give is what their terms give.
use Rattle.std.specs.Prelude.{◌≡◌, ◌-◌, ℕ, Option, Some, None, false, Ok, Err, IsErr, IsErrAnd, IfOk, IfErr, IfSome, refl}
use Rattle.std.proofs.Common.{◌∙◌, ap, subst, sym}
use Rattle.ar_space.specs.Accesses.{Accesses}
use Rattle.ar_space.specs.Outcome.{Outcome}
use Rattle.ar_space.specs.Change.{Does, give, settle, stop, go_on, ◌>>=◌}
use Rattle.ar_space.specs.declared.refusal.Refusal.{Refusal}
use Rattle.aml_marks.specs.Marked.{count_at, a_term, a_text, with_row}
use Rattle.aml_scan.specs.RowsAt.{row_at}
use Rattle.aml_scan.specs.declared.row_places.RowPlace.{RowPlace}
use Rattle.aml_objects.specs.declared.value.Value.{Value}
use Rattle.aml_objects.specs.declared.value.Value.TheVariants as value
use Rattle.aml_world.specs.state.State.{State}
use Rattle.aml_world.specs.state.Run.{Run, charge}
use Rattle.aml_meaning.specs.declared.flow.Flow.{Flow}
use Rattle.aml_meaning.specs.declared.flow.Flow.TheVariants as flow
use Rattle.aml_meaning.specs.declared.term_kind.DataKind.TheVariants as datas
use Rattle.aml_meaning.specs.declared.term_kind.TermKind.TheVariants as kinds
use Rattle.aml_meaning.specs.DataTerms.{string_rule}
use Rattle.aml_meaning.specs.Evaluation.{rule}
use Rattle.aml_meaning.specs.Meaning.{meaning}
use Rattle.aml_frames.specs.declared.position.Position.{Position}
use Rattle.aml_frames.specs.declared.frames.Frame.TheVariants as frames
use Rattle.aml_frames.specs.declared.frames.Next.{Next}
use Rattle.aml_frames.specs.declared.frames.Next.TheVariants as next
use Rattle.aml_frames.specs.Data.{string_run, text_made, buffer_run, buffer_filled, buffer_made}
use Rattle.aml_frames.specs.Operands.{inside_at, outside_at, row_kind}
use Rattle.aml_frames.specs.Places.{Site, at_place, terms, behind_term}
use Rattle.aml_frames.specs.Follow.{term_run, begun_run, behind_coded, Leads}
use Rattle.aml_frames.proofs.Forming.{leads_buffer, buffer_known}
use Rattle.aml_frames.proofs.Knowing.{leads_on, taken_known}
use Rattle.aml_frames.proofs.RuleShapes.{behind_data_is}
use Rattle.aml_frames.proofs.ShortOperations.{done_leads}
use Rattle.aml_frames.proofs.Stepping.{leads_give, leads_meaning, leads_ok}

-- ---- what is said of an answer

-- of each value that there may be
pub each_value : {A : Type 0} (P Q : A → Type 0) (r : Outcome (Option A)) → ((a : A) → P a → Q a) → IfOk r (λ k. IfSome k P) → IfOk r (λ k. IfSome k Q)
each_value P Q (Ok None) f h = tt
each_value P Q (Ok (Some a)) f h = f a h
each_value P Q (Err e) f h = tt

-- of its refusal
pub each_refusal : {A : Type 0} (P Q : Refusal → Type 0) (r : Outcome A) → ((e : Refusal) → P e → Q e) → IfErr r P → IfErr r Q
each_refusal P Q (Ok a) f h = tt
each_refusal P Q (Err e) f h = f e h

-- and of one that is handed on
pub handed_on : {A : Type 0} (P : Refusal → Type 0) (r : Outcome A) (e : Refusal) → P e → IsErr r × IsErrAnd r (λ y. y ≡ e) → IfErr r P
handed_on P (Ok a) e h i = tt
handed_on P (Err y) e h i = subst P (sym i.1) h

-- ---- strings and buffers

module _ {S : Type 0} {ac : Accesses S} where
  pub text_leads : {d : Site} {s s1 : State S × ℕ} (c : Site) (v : Value) → Does (Ok v) s1 (text_made c) s → Leads ac (meaning ac) (Ok (next.Flow (flow.Value v))) d s1 (string_run (meaning ac) c) s
  unfolding string_rule settle give ◌>>=◌ go_on
  text_leads c v h = record { is = λ _. rw (h.is tt) refl }

  pub text_refused : {d : Site} {s s1 : State S × ℕ} (c : Site) (e : Refusal) → Does {A = Value} (Err e) s1 (text_made c) s → Leads ac (meaning ac) (Err e) d s1 (string_run (meaning ac) c) s
  unfolding string_rule settle stop ◌>>=◌ go_on
  text_refused c e h = record { is = λ ne. rw (h.is ne) refl }

  pub filled_leads : {d : Site} {s s1 : State S × ℕ} (c : Site) (n : ℕ) (v : Value) → Does (Ok v) s1 (buffer_filled n c) s → Leads ac (meaning ac) (Ok (next.Flow (flow.Value v))) d s1 (buffer_made n c) s
  filled_leads c n v h = leads_ok (buffer_filled n c) _ h (leads_give (flow.Value v))

  pub filled_refused : {d : Site} {s s1 : State S × ℕ} (c : Site) (n : ℕ) (e : Refusal) → Does {A = Value} (Err e) s1 (buffer_filled n c) s → Leads ac (meaning ac) (Err e) d s1 (buffer_made n c) s
  unfolding stop ◌>>=◌ go_on
  filled_refused c n e h = record { is = λ ne. rw (h.is ne) refl }

  -- a buffer whose size is there already
  pub sized_leads : {r : Outcome Next} {e : Site} {s s1 s2 : State S × ℕ} (c d f : Site) (levels n : ℕ) (o : Position) → d ≡ at_place c (inside_at c.place)
      → Does (Ok (flow.Value (value.Integer n))) s1 (term_run ac (meaning ac) d levels) s → f ≡ behind_term d levels → Leads ac (meaning ac) r e s2 (buffer_made n f) s1 → Leads ac (meaning ac) r e s2 (buffer_run (meaning ac) c levels) s
  sized_leads c d f levels n o inside h at l = leads_on (next.Term levels (frames.Buffer o)) d _ (taken_known d levels n (frames.Buffer o) h at (buffer_known f n o l)) (leads_buffer c d levels o inside)

  -- ---- terms whose step is taken

  pub stopped_leads : {d : Site} {s s1 : State S × ℕ} (e : Refusal) (m : Run S Flow) → Leads ac (meaning ac) (Err e) d s1 m s → Does {A = Flow} (Err e) s1 m s
  unfolding stop
  stopped_leads e m h = record { is = λ ne. h.is ne }

  pub done_begun : {d : Site} {s s1 s2 : State S × ℕ} (c : Site) (levels : ℕ) (v : Value) → Does (Ok tt) s1 charge s → Leads ac (meaning ac) (Ok (next.Flow (flow.Value v))) d s2 (begun_run ac (meaning ac) c levels) s1 → Does (Ok (flow.Value v)) s2 (term_run ac (meaning ac) c levels) s
  unfolding rule
  done_begun c levels v paid l = done_leads (flow.Value v) _ (leads_meaning _ (leads_ok charge _ paid l))

  pub refused_begun : {d : Site} {s s1 s2 : State S × ℕ} (c : Site) (levels : ℕ) (e : Refusal) → Does (Ok tt) s1 charge s → Leads ac (meaning ac) (Err e) d s2 (begun_run ac (meaning ac) c levels) s1 → Does {A = Flow} (Err e) s2 (term_run ac (meaning ac) c levels) s
  unfolding rule
  refused_begun c levels e paid l = stopped_leads e _ (leads_meaning _ (leads_ok charge _ paid l))

-- ---- where terms end

pub text_ends : (x c : Site) (levels : ℕ) (o : RowPlace) → row_kind (row_at o) ≡ kinds.Data datas.String → x ≡ at_place c (a_text c.place).1 → x ≡ behind_coded o c levels
text_ends x c levels o e h = h ∙ ap (at_place c) (sym (behind_data_is (terms c levels) datas.String o c.place e))

pub buffer_ends : (x c : Site) (levels : ℕ) (o : RowPlace) → row_kind (row_at o) ≡ kinds.Data datas.Buffer → x ≡ at_place c (outside_at c.place) → x ≡ behind_coded o c levels
buffer_ends x c levels o e h = h ∙ ap (at_place c) (sym (behind_data_is (terms c levels) datas.Buffer o c.place e))

-- where a term ends whose opcode was taken
pub behind_begun : (x c d : Site) (levels : ℕ) (o : RowPlace) → a_term (count_at c.marks) levels false c.place ≡ with_row (a_term (count_at c.marks) (levels - 1)) (row_at o) d.place → d ≡ at_place c d.place → x ≡ behind_coded o d (levels - 1) → x ≡ behind_term c levels
behind_begun x c d levels o h i l = l ∙ (ap (λ (y : Site). behind_coded o (at_place y d.place) (levels - 1)) i ∙ ap (at_place c) (sym (ap (λ x. x.1) h)))
