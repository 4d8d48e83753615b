-- What is there already: what closes the steps that take it.
use Rattle.std.specs.Prelude.{◌≡◌, ℕ, Ok, Err, IsErr, IsErrAnd, refl}
use Rattle.std.proofs.Common.{◌∙◌}
use Rattle.ar_space.specs.Accesses.{Accesses}
use Rattle.ar_space.specs.Outcome.{Outcome}
use Rattle.ar_space.specs.Change.{Does, give, settle, stop, go_on, ◌>>=◌}
use Rattle.ar_space.specs.declared.refusal.Refusal.{Refusal}
use Rattle.aml_convert.specs.Operators.{is_true}
use Rattle.aml_objects.specs.declared.value.Value.{Value}
use Rattle.aml_objects.specs.declared.value.Value.TheVariants as value
use Rattle.aml_world.specs.state.State.{State}
use Rattle.aml_world.specs.state.Run.{Run, lift}
use Rattle.aml_world.specs.state.Readings.{integer_in}
use Rattle.aml_meaning.specs.declared.flow.Flow.{Flow}
use Rattle.aml_meaning.specs.declared.flow.Flow.TheVariants as flow
use Rattle.aml_meaning.specs.declared.term_kind.StatementKind.TheVariants as statements
use Rattle.aml_meaning.specs.StatementTerms.{return_rule}
use Rattle.aml_meaning.specs.Meaning.{meaning}
use Rattle.aml_frames.specs.declared.position.Position.{Position}
use Rattle.aml_frames.specs.declared.frames.Frame.{Frame}
use Rattle.aml_frames.specs.declared.frames.Frame.TheVariants as frames
use Rattle.aml_frames.specs.declared.frames.Loop.{Loop}
use Rattle.aml_frames.specs.declared.frames.Next.{Next}
use Rattle.aml_frames.specs.declared.frames.Next.TheVariants as next
use Rattle.aml_frames.specs.Operands.{statement_tree}
use Rattle.aml_frames.specs.Places.{Site, terms, behind_term}
use Rattle.aml_frames.specs.Follow.{term_run, branch_at, turn_left, resumed, next_run, statement_run, Leads}
use Rattle.aml_frames.proofs.Stepping.{leads_value_at, stepping}
use Rattle.aml_frames.proofs.Weighing.{charged_less, charged_paid}

module _ {S : Type 0} {ac : Accesses S} where
  pub leads_done : {c : Site} {s s1 : State S × ℕ} (f : Flow) (m : Run S Flow) → Does (Ok f) s1 m s → Leads ac (meaning ac) (Ok (next.Flow f)) c s1 m s
  unfolding give
  leads_done f m h = record { is = λ _. h.is tt }

  pub leads_undone : {c : Site} {s s1 : State S × ℕ} (e : Refusal) (m : Run S Flow) → Does {A = Flow} (Err e) s1 m s → Leads ac (meaning ac) (Err e) c s1 m s
  unfolding stop
  leads_undone e m h = record { is = λ ne. h.is ne }

  -- ---- a part of a term whose value is there already: the frame that would have waited for it goes on at once

  pub taken_value : {r : Outcome Next} {d e : Site} {s s1 s2 : State S × ℕ} (c : Site) (levels : ℕ) (v : Value) (x : Frame) → Does (Ok (flow.Value v)) s1 (term_run ac (meaning ac) c levels) s → d ≡ behind_term c levels → Leads ac (meaning ac) r e s2 (resumed ac (meaning ac) x d (flow.Value v)) s1 → Leads ac (meaning ac) r e s2 (next_run ac (meaning ac) (next.Term levels x) c) s
  unfolding ◌>>=◌ go_on
  taken_value c levels v x h e k = record { is = λ ne. rw (h.is tt, ← e) (k.is ne) }

  pub taken_known : {r : Outcome Next} {d e : Site} {s s1 s2 : State S × ℕ} (c : Site) (levels n : ℕ) (x : Frame) → Does (Ok (flow.Value (value.Integer n))) s1 (term_run ac (meaning ac) c levels) s → d ≡ behind_term c levels → Leads ac (meaning ac) r e s2 (resumed ac (meaning ac) x d (flow.Value (value.Integer n))) s1 → Leads ac (meaning ac) r e s2 (next_run ac (meaning ac) (next.Term levels x) c) s
  taken_known c levels n x h e k = taken_value c levels (value.Integer n) x h e k

  leads_same : {c : Site} {s : State S × ℕ} (n : Next) → Leads ac (meaning ac) (Ok n) c s (next_run ac (meaning ac) n c) s
  leads_same n = record { is = λ _. refl }

  pub left_unknown : {d : Site} {s s1 : State S × ℕ} (c : Site) (levels : ℕ) (x : Frame) → d ≡ c → s1 ≡ s → Leads ac (meaning ac) (Ok (next.Term levels x)) d s1 (next_run ac (meaning ac) (next.Term levels x) c) s
  left_unknown c levels x e h = rw (e, h) (leads_same (next.Term levels x))

  -- and where nothing was taken yet
  pub leads_same_start : {r : Outcome Next} {d e : Site} {s s1 s2 : State S × ℕ} (c : Site) (n : Next) → d ≡ c → s1 ≡ s → Leads ac (meaning ac) r e s2 (next_run ac (meaning ac) n d) s1 → Leads ac (meaning ac) r e s2 (next_run ac (meaning ac) n c) s
  leads_same_start c n e h l = rw (← e, ← h) l

  pub refused_known : {r : Outcome Next} {d : Site} {s s1 : State S × ℕ} (c : Site) (e : Refusal) (levels : ℕ) (x : Frame) → Does {A = Flow} (Err e) s1 (term_run ac (meaning ac) c levels) s → IsErr r × IsErrAnd r (λ y. y ≡ e) → Leads ac (meaning ac) r d s1 (next_run ac (meaning ac) (next.Term levels x) c) s
  unfolding ◌>>=◌ go_on stop
  refused_known {r = Ok n} c e levels x h i = absurd (cc i.0)
  refused_known {r = Err y} c e levels x h i = record { is = λ ne. rw (h.is (λ q. ne (i.1 ∙ q)), i.1) refl }

  -- what these frames do with an integer
  pub if_known : {r : Outcome Next} {e : Site} {s s1 : State S × ℕ} (c : Site) (levels n : ℕ) (o : Position) → Leads ac (meaning ac) r e s1 (branch_at ac (meaning ac) c levels o (is_true n)) s → Leads ac (meaning ac) r e s1 (resumed ac (meaning ac) (frames.If levels o) c (flow.Value (value.Integer n))) s
  unfolding settle lift integer_in give ◌>>=◌ go_on
  if_known c levels n o h = h

  pub predicate_known : {r : Outcome Next} {e : Site} {s s1 : State S × ℕ} (c : Site) (n : ℕ) (l : Loop) → Leads ac (meaning ac) r e s1 (turn_left ac (meaning ac) l c (is_true n)) s → Leads ac (meaning ac) r e s1 (resumed ac (meaning ac) (frames.Predicate l) c (flow.Value (value.Integer n))) s
  unfolding settle lift integer_in give ◌>>=◌ go_on
  predicate_known c n l h = h

  -- a step that does what another one leaves to do
  pub leads_on : {r : Outcome Next} {d : Site} {s s1 : State S × ℕ} (n : Next) (c : Site) (m : Run S Flow) → Leads ac (meaning ac) r d s1 (next_run ac (meaning ac) n c) s → Leads ac (meaning ac) (Ok n) c s m s → Leads ac (meaning ac) r d s1 m s
  leads_on n c m h k = record { is = λ ne. k.is tt ∙ h.is ne }

  -- a Return is done as its argument is, which is returned
  pub leads_return : {r : Outcome Next} {d : Site} {s s1 : State S × ℕ} (c : Site) (levels : ℕ) → Leads ac (meaning ac) r d s1 (next_run ac (meaning ac) (next.Term levels frames.Return) c) s → Leads ac (meaning ac) r d s1 (statement_run ac (meaning ac) statements.Return c levels) s
  unfolding return_rule
  leads_return c levels h = leads_on (next.Term levels frames.Return) c _ h (leads_value_at levels frames.Return (statement_tree (terms c levels) statements.Return c.place) 0 _ refl refl)

pub ruleset knowing = (leads_done, leads_undone, charged_less)

pub ruleset taking_known = (stepping, taken_value, left_unknown, leads_same_start, refused_known, if_known, predicate_known, charged_less, charged_paid)

pub ruleset returning = (taking_known, leads_return)

pub ruleset going_on = (leads_on, charged_less)

pub ruleset resuming = (stepping, charged_less)
