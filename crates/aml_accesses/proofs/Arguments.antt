-- Arguments of a call that are integers which are there already: the call goes on behind them.
use Rattle.std.specs.Prelude.{◌≡◌, ◌<◌, ◌-◌, ℕ, [], ◌∷◌, ◌++◌, Ok, Err, IsErr, IsErrAnd, refl}
use Rattle.std.proofs.Common.{◌∙◌, subst}
use Rattle.ar_space.specs.Accesses.{Accesses}
use Rattle.ar_space.specs.Outcome.{Outcome}
use Rattle.ar_space.specs.Change.{Does, Same, settle, go_on, ◌>>=◌}
use Rattle.ar_space.specs.declared.refusal.Refusal.{Refusal}
use Rattle.aml_objects.specs.declared.value.Value.TheVariants as value
use Rattle.aml_world.specs.state.State.{State}
use Rattle.aml_world.specs.state.Run.{Run}
use Rattle.aml_meaning.specs.declared.flow.Flow.{Flow}
use Rattle.aml_meaning.specs.declared.flow.Flow.TheVariants as flow
use Rattle.aml_meaning.specs.Meaning.{meaning}
use Rattle.aml_frames.specs.declared.frames.Call.{Call}
use Rattle.aml_frames.specs.declared.frames.Frame.TheVariants as frames
use Rattle.aml_frames.specs.declared.frames.Next.{Next}
use Rattle.aml_frames.specs.declared.frames.Next.TheVariants as next
use Rattle.aml_frames.specs.Places.{Site, behind_term}
use Rattle.aml_frames.specs.Follow.{called, arguments_left, behind_arguments, term_run, next_run, next_ends, Leads, EndsAt}
use Rattle.aml_frames.proofs.Knowing.{leads_on, refused_known}
use Rattle.aml_frames.proofs.Stepping.{leads_argument, leads_no_argument, ends_argument, ends_no_argument}

-- the same call, of which one argument fewer is left
abbrev pub fewer : Call → Call
fewer k = record k { left = k.left - 1 }

module _ {S : Type 0} (ac : Accesses S) where
  -- an argument is there, and the call goes on behind it
  argument_taken : (c d : Site) (k j : Call) (n : ℕ) (s s1 : State S × ℕ) → 0 < k.left → Does (Ok (flow.Value (value.Integer n))) s1 (term_run ac (meaning ac) c k.levels) s → d ≡ behind_term c k.levels
      → j.callee ≡ k.callee → j.left ≡ k.left - 1 → j.levels ≡ k.levels → j.done.items ≡ k.done.items ++ value.Integer n ∷ []
      → arguments_left ac (meaning ac) k k.done.items c s ≡ arguments_left ac (meaning ac) j j.done.items d s1
  unfolding ◌>>=◌ go_on settle
  argument_taken c d k j n s s1 some h at callee left levels done =
      let over : next_run ac (meaning ac) (next.Term k.levels (frames.Argument (fewer k))) c s ≡ arguments_left ac (meaning ac) (fewer k) (k.done.items ++ value.Integer n ∷ []) (behind_term c k.levels) s1 = rw (h.is tt) refl in
      let same : arguments_left ac (meaning ac) (fewer k) (k.done.items ++ value.Integer n ∷ []) (behind_term c k.levels) s1 ≡ arguments_left ac (meaning ac) j j.done.items d s1 = rw (at, callee, left, levels, done) refl in
      (leads_argument {s = s} c k (fewer k) some refl).is tt ∙ (over ∙ same)

  pub same_argument : {m : Run S Flow} {s0 s s1 : State S × ℕ} (c d : Site) (k j : Call) (n : ℕ) → Same m s0 (arguments_left ac (meaning ac) k k.done.items c) s → 0 < k.left → Does (Ok (flow.Value (value.Integer n))) s1 (term_run ac (meaning ac) c k.levels) s → d ≡ behind_term c k.levels
      → j.callee ≡ k.callee → j.left ≡ k.left - 1 → j.levels ≡ k.levels → j.done.items ≡ k.done.items ++ value.Integer n ∷ []
      → Same m s0 (arguments_left ac (meaning ac) j j.done.items d) s1
  same_argument {s = s} {s1 = s1} c d k j n h some g at callee left levels done = record { is = h.is ∙ argument_taken c d k j n s s1 some g at callee left levels done }

module _ {S : Type 0} {ac : Accesses S} where
  -- an argument is refused
  pub argument_refused : {m : Run S Flow} {r : Outcome Next} {d : Site} {s0 s s1 : State S × ℕ} (c : Site) (k : Call) (e : Refusal) → Same m s0 (arguments_left ac (meaning ac) k k.done.items c) s → 0 < k.left → Does {A = Flow} (Err e) s1 (term_run ac (meaning ac) c k.levels) s → IsErr r × IsErrAnd r (λ y. y ≡ e)
      → Leads ac (meaning ac) r d s1 m s0
  argument_refused {r = r} {d = d} {s = s} {s1 = s1} c k e h some g i =
      let l : Leads ac (meaning ac) r d s1 (arguments_left ac (meaning ac) k k.done.items c) s = leads_on (next.Term k.levels (frames.Argument (fewer k))) c _ (refused_known c e k.levels (frames.Argument (fewer k)) g i) (leads_argument c k (fewer k) some refl) in
      record { is = λ ne. h.is ∙ l.is ne }

  -- an argument has to be waited for
  pub argument_waits : {m : Run S Flow} {d : Site} {s0 s s1 : State S × ℕ} (c : Site) (k j : Call) → Same m s0 (arguments_left ac (meaning ac) k k.done.items c) s → 0 < k.left → j ≡ fewer k → d ≡ c → s1 ≡ s
      → Leads ac (meaning ac) (Ok (next.Term k.levels (frames.Argument j))) d s1 m s0
  argument_waits {s = s} c k j h some one at same = rw (at, same) (record { is = λ _. h.is ∙ (leads_argument {s = s} c k j some one).is tt })

  -- all arguments are evaluated
  pub arguments_done : {m : Run S Flow} {r : Outcome Next} {e : Site} {s0 s s1 : State S × ℕ} (c : Site) (k : Call) → Same m s0 (arguments_left ac (meaning ac) k k.done.items c) s → k.left ≡ 0 → Leads ac (meaning ac) r e s1 (called ac (meaning ac) k.callee c.depth k.done.items) s
      → Leads ac (meaning ac) r e s1 m s0
  arguments_done c k h none l =
      let i = leads_no_argument c k none l in
      record { is = λ ne. h.is ∙ i.is ne }

-- ---- where the call ends

pub ends_taken : (b c d : Site) (k j : Call) → behind_arguments k c ≡ b → 0 < k.left → d ≡ behind_term c k.levels → j.left ≡ k.left - 1 → j.levels ≡ k.levels → behind_arguments j d ≡ b
ends_taken b c d k j h some at left levels =
    let over : behind_arguments j d ≡ behind_arguments k c = rw (at, left, levels) (ends_argument c k (fewer k) some refl) in
    over ∙ h

pub ends_waiting : (b c d : Site) (k j : Call) → behind_arguments k c ≡ b → 0 < k.left → j ≡ fewer k → d ≡ c → next_ends (next.Term k.levels (frames.Argument j)) d ≡ b
ends_waiting b c d k j h some one at =
    let over : next_ends (next.Term k.levels (frames.Argument j)) d ≡ behind_arguments k c = rw at (ends_argument c k j some one) in
    over ∙ h

pub ends_called : (r : Outcome Next) (b c d : Site) (k : Call) → behind_arguments k c ≡ b → k.left ≡ 0 → EndsAt r d c → EndsAt r d b
ends_called r b c d k h none l = subst (EndsAt r d) (ends_no_argument c k none ∙ h) l

pub ruleset arguing = (same_argument, argument_refused, argument_waits, arguments_done, ends_taken, ends_waiting, ends_called)
