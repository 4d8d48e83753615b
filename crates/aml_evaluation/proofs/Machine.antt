-- Steps of the machine: each keeps what the machine means.
use Rattle.std.specs.Prelude.{◌≡◌, ℕ, ◌+◌, ◌-◌, ◌<◌, ◌≤◌, Bool, true, false, List, [], ◌∷◌, ◌++◌, length, Ok, Err, OnOk, IfOk, IfErr, IsErr, IsErrAnd, refl}
use Rattle.std.proofs.Common.{◌∙◌, ap, sym, arith}
use Rattle.ar_space.specs.Accesses.{Accesses}
use Rattle.ar_space.specs.declared.refusal.Refusal.{Refusal}
use Rattle.ar_space.specs.declared.refusal.Refusal.TheVariants.{OutOfMemory}
use Rattle.ar_space.specs.Outcome.{Outcome, NotMemory, seen}
use Rattle.ar_space.specs.Change.{Does, Same, give, stop, settle, go_on, ◌>>=◌}
use Rattle.aml_path.specs.declared.segment.Seg.{Seg}
use Rattle.aml_marks.specs.Marked.{first, over, all_items, walk_levels}
use Rattle.aml_objects.specs.declared.node.NodeId.{NodeId}
use Rattle.aml_objects.specs.declared.value.Reference.{Reference}
use Rattle.aml_objects.specs.declared.value.Value.{Value}
use Rattle.aml_objects.specs.declared.value.Value.TheVariants as value
use Rattle.aml_world.specs.state.State.{State}
use Rattle.aml_world.specs.state.Run.{Run, charge}
use Rattle.aml_world.specs.state.PassedOver.{is_passable}
use Rattle.aml_world.specs.state.Noting.{with_passed}
use Rattle.aml_world.specs.state.Invocations.{left}
use Rattle.aml_meaning.specs.declared.flow.Flow.{Flow}
use Rattle.aml_meaning.specs.declared.flow.Flow.TheVariants as flow
use Rattle.aml_meaning.specs.declared.term_kind.OperatorKind.{OperatorKind}
use Rattle.aml_meaning.specs.declared.term_kind.TermKind.TheVariants as kinds
use Rattle.aml_meaning.specs.Passing.{item_done, passing}
use Rattle.aml_meaning.specs.Tasks.{Task, passes_over, goes_on}
use Rattle.aml_meaning.specs.Calls.{returned_by, leaving}
use Rattle.aml_frames.specs.declared.frames.Control.{Control}
use Rattle.aml_frames.specs.declared.frames.Control.TheVariants as control
use Rattle.aml_frames.specs.declared.frames.Entry.{Entry}
use Rattle.aml_frames.specs.declared.frames.Entry.TheVariants as entry
use Rattle.aml_frames.specs.declared.addresses.PciAccess.{PciAccess}
use Rattle.aml_frames.specs.declared.frames.Frame.{Frame}
use Rattle.aml_frames.specs.declared.frames.Frame.TheVariants as frames
use Rattle.aml_frames.specs.declared.frames.Loop.{Loop}
use Rattle.aml_frames.specs.declared.frames.Items.{Items}
use Rattle.aml_frames.specs.declared.frames.ListItem.{ListItem}
use Rattle.aml_frames.specs.declared.frames.Next.{Next}
use Rattle.aml_frames.specs.declared.frames.Package.{Package}
use Rattle.aml_frames.specs.declared.frames.Next.TheVariants as next
use Rattle.aml_frames.specs.declared.uses.Access.{Access}
use Rattle.aml_frames.specs.declared.uses.Target.{Target}
use Rattle.aml_frames.specs.declared.uses.TargetUse.{TargetUse}
use Rattle.aml_frames.specs.declared.uses.TargetUse.TheVariants as uses
use Rattle.aml_frames.specs.Uses.{optional, target_ends, target_run, access_run}
use Rattle.aml_meaning.specs.Meaning.{meaning}
use Rattle.aml_frames.proofs.PassedItems.{given_ok, never_refused, never_err, never_memory, refused_begun, refused_paid, refused_free, refused_met, access_enough, target_enough, four_enough, most_enough}
use Rattle.aml_frames.proofs.Stepping.{leads_goes_on, leads_goes_off, leads_item, list_passing, leads_no_item, leads_end}
use Rattle.aml_frames.proofs.Weighing.{charged_step, step_enough, falling}
use Rattle.aml_frames.proofs.ShortOperators.{begun_by_operator, behind_by_operator}
use Rattle.aml_frames.specs.Operands.{row_kind}
use Rattle.aml_frames.specs.at_once.ShortTerms.{row_alone}
use Rattle.aml_frames.specs.Places.{Site, at_place, behind_term}
use Rattle.aml_frames.specs.Data.{package_run}
use Rattle.aml_frames.specs.Follow.{at_position, ends, turn_items, term_run, items_run, list_run, all_left, operator_run, behind_operator_at, body_run, resumed, next_run, next_ends, Leads}
use Rattle.aml_frames.specs.Weights.{step_weight, charged}
use Rattle.aml_frames.specs.Stack.{Rest, whole, frame_met, met, unwinding, at_bottom, then_all, machine, Goes, entry_weight, stack_weight, control_weight}

-- ---- the newest entry meets the outcome first

unwinding_on : {S : Type 0} (ac : Accesses S) (ev : Task → Run S Flow) (xs : List Entry) (x : Entry) (k : Rest S) → unwinding ac ev (xs ++ x ∷ []) k ≡ met ac ev x (unwinding ac ev xs k)
unfolding unwinding
unwinding_on ac ev [] x k = refl
unwinding_on ac ev (y ∷ xs) x k = unwinding_on ac ev xs x (met ac ev y k)

pub weight_on : (xs : List Entry) (x : Entry) → stack_weight (xs ++ x ∷ []) ≡ stack_weight xs + entry_weight x
unfolding stack_weight
weight_on [] x = omega arith
weight_on (y ∷ xs) x = let e = weight_on xs x in omega arith

-- ---- a refusal passes all sites alike

any_site : {S : Type 0} (ac : Accesses S) (ev : Task → Run S Flow) (e : Refusal) (xs : List Entry) (k : Rest S) → ((c d : Site) (s : State S × ℕ) → k c (Err e) s ≡ k d (Err e) s) → (c d : Site) (s : State S × ℕ) → unwinding ac ev xs k c (Err e) s ≡ unwinding ac ev xs k d (Err e) s
unfolding unwinding go_on
any_site ac ev e [] k h c d s = h c d s
any_site ac ev e (entry.Frame x ∷ xs) k h c d s = any_site ac ev e xs (met ac ev (entry.Frame x) k) (λ c d s. h (ends x c) (ends x d) s) c d s
any_site ac ev e (entry.Item x ∷ xs) k h c d s = any_site ac ev e xs (met ac ev (entry.Item x) k) (λ c d s. refl) c d s
any_site ac ev e (entry.Leave caller p ∷ xs) k h c d s = any_site ac ev e xs (met ac ev (entry.Leave caller p) k) (λ c d s. refl) c d s

module _ {S : Type 0} (ac : Accesses S) (ev : Task → Run S Flow) where
  pub stopped_anywhere : (e : Refusal) (xs : List Entry) (c d : Site) (s : State S × ℕ) → then_all ac ev (stop e) c xs s ≡ then_all ac ev (stop e) d xs s
  unfolding then_all stop
  stopped_anywhere e xs c d s = any_site ac ev e xs (at_bottom ac ev) (λ c d s. refl) c d s

  at_frame : (m : Run S Flow) (c : Site) (xs : List Entry) (x : Frame) (s : State S × ℕ) → then_all ac ev m c (xs ++ entry.Frame x ∷ []) s ≡ then_all ac ev (m >>= resumed ac ev x c) (ends x c) xs s
  unfolding then_all ◌>>=◌
  at_frame m c xs x s = rw (unwinding_on ac ev xs (entry.Frame x) (at_bottom ac ev)) refl

  at_leave : (m : Run S Flow) (a b : Site) (p : List Seg) (xs : List Entry) (s : State S × ℕ) → then_all ac ev m b (xs ++ entry.Leave a p ∷ []) s ≡ then_all ac ev (leaving p m) a xs s
  unfolding then_all leaving
  at_leave m a b p xs s = rw (unwinding_on ac ev xs (entry.Leave a p) (at_bottom ac ev)) refl

  -- an item that may be passed over: a flow meets it as the list
  at_item : (f : Flow) (c : Site) (xs : List Entry) (x : ListItem) (s : State S × ℕ) → machine ac ev (control.Flow f) c (xs ++ entry.Item x ∷ []) s ≡ machine ac ev (control.Flow f) c (xs ++ entry.Frame (frames.Items x.behind) ∷ []) s
  unfolding then_all give
  at_item f c xs x s = rw (unwinding_on ac ev xs (entry.Item x) (at_bottom ac ev), unwinding_on ac ev xs (entry.Frame (frames.Items x.behind)) (at_bottom ac ev)) refl

  -- what is done first, and then the list behind the item, whose refusal may be passed over
  item_given : (r : Outcome Flow) (t : State S × ℕ) (xs : List Entry) (x : ListItem) → met ac ev (entry.Item x) (unwinding ac ev xs (at_bottom ac ev)) (behind_term x.list x.behind.levels) r t
      ≡ frame_met ac ev (frames.Items x.behind) (unwinding ac ev xs (at_bottom ac ev)) (behind_term x.list x.behind.levels) (item_done x.list.scope r t).0 (item_done x.list.scope r t).1
  unfolding item_done
  item_given (Ok f) t xs x = refl
  item_given (Err e) t xs x = refl

  at_item_passing : (m : Run S Flow) (xs : List Entry) (x : ListItem) (s : State S × ℕ) → then_all ac ev m (behind_term x.list x.behind.levels) (xs ++ entry.Item x ∷ []) s
      ≡ then_all ac ev (passing x.list.scope m >>= resumed ac ev (frames.Items x.behind) (behind_term x.list x.behind.levels)) (at_position (behind_term x.list x.behind.levels) x.behind.outer) xs s
  unfolding then_all ◌>>=◌ passing
  at_item_passing m xs x s = rw (unwinding_on ac ev xs (entry.Item x) (at_bottom ac ev)) (item_given (m s).0 (m s).1 xs x)

refused_first : {S : Type 0} (ac : Accesses S) (ev : Task → Run S Flow) (m : Run S Flow) (s s1 : State S × ℕ) (x : Refusal) (c : Site) (xs : List Entry) → m s ≡ stop x s1 → then_all ac ev m c xs s ≡ then_all ac ev (stop x) c xs s1
unfolding then_all
refused_first ac ev m s s1 x c xs h = rw h refl

passed : {S : Type 0} (ac : Accesses S) (ev : Task → Run S Flow) (e : Refusal) (c : Site) (xs : List Entry) (x : Frame) (s : State S × ℕ) {t : Outcome Flow × (State S × ℕ)} → t ≡ then_all ac ev (stop e >>= resumed ac ev x c) (ends x c) xs s → t ≡ then_all ac ev (stop e) (ends x c) xs s
unfolding then_all stop ◌>>=◌ go_on
passed ac ev e c xs x s h = h

module _ {S : Type 0} {ac : Accesses S} {ev : Task → Run S Flow} where
  -- ---- what a step leaves to do is put on the stack

  pub goes_flow : {c : Site} {xs : List Entry} {s : State S × ℕ} (f : Flow) → Goes ac ev (Ok (control.Flow f)) c xs s (then_all ac ev (give f) c xs) s
  goes_flow f = record { is = λ _. refl }

  pub goes_items : {c : Site} {xs : List Entry} {s : State S × ℕ} (i : Items) → Goes ac ev (Ok (control.Items i)) c xs s (then_all ac ev (items_run ac ev i c) (at_position c i.outer) xs) s
  goes_items i = record { is = λ _. refl }

  pub goes_package : {c : Site} {xs : List Entry} {s : State S × ℕ} (k : Package) → Goes ac ev (Ok (control.Package k)) c xs s (then_all ac ev (package_run ev k c) (at_position c k.outer) xs) s
  goes_package k = record { is = λ _. refl }

  pub goes_term : {c : Site} {s : State S × ℕ} (xs ys : List Entry) (levels : ℕ) (x : Frame) → ys ≡ xs ++ entry.Frame x ∷ [] → Goes ac ev (Ok (control.Term levels)) c ys s (then_all ac ev (next_run ac ev (next.Term levels x) c) (next_ends (next.Term levels x) c) xs) s
  goes_term {c = c} {s = s} xs ys levels x e = record { is = λ _. sym (ap (λ zs. then_all ac ev (term_run ac ev c levels) (behind_term c levels) zs s) e ∙ at_frame ac ev (term_run ac ev c levels) (behind_term c levels) xs x s) }

  pub goes_turn : {c : Site} {s : State S × ℕ} (xs ys : List Entry) (i : Items) (l : Loop) → i ≡ turn_items l c → ys ≡ xs ++ entry.Frame (frames.Turn l) ∷ [] → Goes ac ev (Ok (control.Items i)) c ys s (then_all ac ev (next_run ac ev (next.Turn l) c) (next_ends (next.Turn l) c) xs) s
  goes_turn {c = c} {s = s} xs ys i l h e = rw h (record { is = λ _. sym (ap (λ zs. then_all ac ev (items_run ac ev (turn_items l c) c) (at_position c l.outer) zs s) e ∙ at_frame ac ev (items_run ac ev (turn_items l c) c) (at_position c l.outer) xs (frames.Turn l) s) })

  pub goes_scope : {c : Site} {s : State S × ℕ} (xs ys : List Entry) (i : Items) (p : List Seg) (node : NodeId) → ys ≡ xs ++ entry.Frame (frames.Scope p node) ∷ [] → Goes ac ev (Ok (control.Items i)) c ys s (then_all ac ev (next_run ac ev (next.Scope i p node) c) (next_ends (next.Scope i p node) c) xs) s
  goes_scope {c = c} {s = s} xs ys i p node e = record { is = λ _. sym (ap (λ zs. then_all ac ev (items_run ac ev i c) (at_position c i.outer) zs s) e ∙ at_frame ac ev (items_run ac ev i c) (at_position c i.outer) xs (frames.Scope p node) s) }

  pub goes_body : {s : State S × ℕ} (a b : Site) (xs ys : List Entry) → ys ≡ xs ++ entry.Leave a b.scope ∷ [] → Goes ac ev (Ok (control.Items (whole b))) b ys s (then_all ac ev (body_run ac ev b) a xs) s
  unfolding all_items
  goes_body {s = s} a b xs ys e = record { is = λ _. sym (ap (λ zs. then_all ac ev (items_run ac ev (whole b) b) (at_position b (whole b).outer) zs s) e ∙ at_leave ac ev (items_run ac ev (whole b) b) a (at_position b (whole b).outer) b.scope xs s) }

  pub goes_body_then : {s : State S × ℕ} (a b : Site) (xs ys zs : List Entry) (x : PciAccess) → ys ≡ xs ++ entry.Frame (frames.Address x) ∷ [] → zs ≡ ys ++ entry.Leave a b.scope ∷ [] → Goes ac ev (Ok (control.Items (whole b))) b zs s (then_all ac ev (next_run ac ev (next.BodyThen b x) a) (next_ends (next.BodyThen b x) a) xs) s
  goes_body_then {s = s} a b xs ys zs x e h = record { is = λ _. sym (at_frame ac ev (body_run ac ev b) a xs (frames.Address x) s) ∙ ap (λ us. then_all ac ev (body_run ac ev b) a us s) (sym e) ∙ (goes_body {s = s} a b ys zs h).is tt }

  pub goes_target : {c : Site} {xs : List Entry} {s : State S × ℕ} (t : Target) (u : TargetUse) → Goes ac ev (Ok (control.Target t u)) c xs s (then_all ac ev (target_run ac ev t u c) (target_ends t u c) xs) s
  goes_target t u = record { is = λ _. refl }

  target_then : {c : Site} {s : State S × ℕ} (xs ys : List Entry) (t : Target) (u : TargetUse) (x : Frame) → ys ≡ xs ++ entry.Frame x ∷ [] → Goes ac ev (Ok (control.Target t u)) c ys s (then_all ac ev (target_run ac ev t u c >>= resumed ac ev x (target_ends t u c)) (ends x (target_ends t u c)) xs) s
  target_then {c = c} {s = s} xs ys t u x e = record { is = λ _. sym (ap (λ zs. then_all ac ev (target_run ac ev t u c) (target_ends t u c) zs s) e ∙ at_frame ac ev (target_run ac ev t u c) (target_ends t u c) xs x s) }

  pub goes_division : {c : Site} {s : State S × ℕ} (xs ys : List Entry) (levels : ℕ) (v q : Value) → ys ≡ xs ++ entry.Frame (frames.Quotient levels q) ∷ [] → Goes ac ev (Ok (control.Target (optional levels) (uses.Store v))) c ys s (then_all ac ev (next_run ac ev (next.Division levels v q) c) (next_ends (next.Division levels v q) c) xs) s
  goes_division xs ys levels v q e = target_then xs ys (optional levels) (uses.Store v) (frames.Quotient levels q) e

  pub goes_found : {c : Site} {s : State S × ℕ} (xs ys : List Entry) (levels : ℕ) (r : Reference) → ys ≡ xs ++ entry.Frame frames.Found ∷ [] → Goes ac ev (Ok (control.Target (optional levels) (uses.Store (value.Reference r)))) c ys s (then_all ac ev (next_run ac ev (next.Found levels r) c) (next_ends (next.Found levels r) c) xs) s
  goes_found xs ys levels r e = target_then xs ys (optional levels) (uses.Store (value.Reference r)) frames.Found e

  pub goes_access_then : {c : Site} {s : State S × ℕ} (xs ys : List Entry) (a : Access) (x : Frame) → ys ≡ xs ++ entry.Frame x ∷ [] → Goes ac ev (Ok (control.Access a)) c ys s (then_all ac ev (next_run ac ev (next.AccessThen a x) c) (next_ends (next.AccessThen a x) c) xs) s
  goes_access_then {c = c} {s = s} xs ys a x e = record { is = λ _. sym (ap (λ zs. then_all ac ev (access_run ac ev a) c zs s) e ∙ at_frame ac ev (access_run ac ev a) c xs x s) }

  pub goes_integer_then : {c : Site} {s : State S × ℕ} (xs ys : List Entry) (n : ℕ) (x : Frame) → ys ≡ xs ++ entry.Frame x ∷ [] → Goes ac ev (Ok (control.Flow (flow.Value (value.Integer n)))) c ys s (then_all ac ev (next_run ac ev (next.IntegerThen n x) c) (next_ends (next.IntegerThen n x) c) xs) s
  goes_integer_then {c = c} {s = s} xs ys n x e =
      let m = give (flow.Value (value.Integer n)) in
      record { is = λ _. sym (ap (λ zs. then_all ac ev m c zs s) e ∙ at_frame ac ev m c xs x s) }

  pub goes_memory : {s : State S × ℕ} (r : Outcome Control) (c : Site) (xs : List Entry) (after : State S × ℕ) (m : Run S Flow) → IsErr r × IsErrAnd r (λ e. e ≡ OutOfMemory) → Goes ac ev r c xs after m s
  goes_memory (Ok x) c xs after m i = absurd (cc i.0)
  goes_memory (Err e) c xs after m i = record { is = λ ne. absurd (ne i.1) }

  -- ---- a step

  pub goes_leads : {r : Outcome Control} {d : Site} {ys : List Entry} {s s1 s2 : State S × ℕ} (n : Next) (c behind : Site) (xs : List Entry) (m : Run S Flow) → Leads ac ev (Ok n) c s1 m s → next_ends n c ≡ behind → Goes ac ev r d ys s2 (then_all ac ev (next_run ac ev n c) (next_ends n c) xs) s1 → Goes ac ev r d ys s2 (then_all ac ev m behind xs) s
  unfolding then_all
  goes_leads n c behind xs m h e i = record { is = λ ne. rw (h.is tt, ← e) (i.is ne) }

  pub goes_leads_err : {e : Refusal} {r : Outcome Control} {s s1 : State S × ℕ} (c behind : Site) (xs : List Entry) (m : Run S Flow) → Leads ac ev (Err e) c s1 m s → IsErr r × IsErrAnd r (λ x. x ≡ e) → Goes ac ev r c xs s1 (then_all ac ev m behind xs) s
  goes_leads_err {r = Ok x} c behind xs m h i = absurd (cc i.0)
  goes_leads_err {e = e} {r = Err x} {s = s} {s1 = s1} c behind xs m h i = record { is = λ ne. refused_first ac ev m s s1 x behind xs (rw i.1 (h.is (λ q. ne (i.1 ∙ q)))) ∙ stopped_anywhere ac ev x xs behind c s1 }

  pub goes_frame : {r : Outcome Control} {d : Site} {ys : List Entry} {s s1 : State S × ℕ} (c : Site) (xs : List Entry) (x : Frame) (f : Flow) → Goes ac ev r d ys s1 (then_all ac ev (resumed ac ev x c f) (ends x c) xs) s → Goes ac ev r d ys s1 (machine ac ev (control.Flow f) c (xs ++ entry.Frame x ∷ [])) s
  unfolding then_all give ◌>>=◌ go_on
  goes_frame {s = s} c xs x f h = record { is = λ ne. at_frame ac ev (give f) c xs x s ∙ h.is ne }

  pub goes_leave : {s s1 : State S × ℕ} (a b : Site) (p : List Seg) (xs : List Entry) (f g : Flow) → s1 ≡ (left p s.0, s.1) → g ≡ returned_by f → Goes ac ev (Ok (control.Flow g)) b xs s1 (machine ac ev (control.Flow f) a (xs ++ entry.Leave b p ∷ [])) s
  unfolding then_all give leaving
  goes_leave {s = s} a b p xs f g h i = rw (h, i) (record { is = λ _. at_leave ac ev (give f) b a p xs s })

  pub goes_item : {r : Outcome Control} {d : Site} {ys : List Entry} {s s1 : State S × ℕ} (c : Site) (xs : List Entry) (x : ListItem) (f : Flow) → Goes ac ev r d ys s1 (machine ac ev (control.Flow f) c (xs ++ entry.Frame (frames.Items x.behind) ∷ [])) s
      → Goes ac ev r d ys s1 (machine ac ev (control.Flow f) c (xs ++ entry.Item x ∷ [])) s
  goes_item {s = s} c xs x f h = record { is = λ ne. at_item ac ev f c xs x s ∙ h.is ne }

module _ {S : Type 0} {ac : Accesses S} where
  -- ---- an item of a list is done

  -- the list ends with this flow
  pub item_last : {s : State S × ℕ} (c d : Site) (xs : List Entry) (i : Items) (f : Flow) (on : Bool) → on ≡ goes_on f → on ≡ false → d ≡ at_position c i.outer → Goes ac (meaning ac) (Ok (control.Flow f)) d xs s (machine ac (meaning ac) (control.Flow f) c (xs ++ entry.Frame (frames.Items i) ∷ [])) s
  item_last c d xs i f on e h j = goes_frame c xs (frames.Items i) f (goes_leads (next.Flow f) d (at_position c i.outer) xs _ (leads_goes_off c d i f on e h) j (goes_flow f))

-- ---- the loop

pub empty_list : (xs : List Entry) → length xs ≡ 0 → xs ≡ []
empty_list [] h = refl
empty_list (x ∷ xs) h = absurd (cc h)

module _ {S : Type 0} (ac : Accesses S) (ev : Task → Run S Flow) where
  pub does_ended : {m : Run S Flow} {s0 s : State S × ℕ} (c : Site) (xs : List Entry) (f : Flow) (x : Control) → Same m s0 (machine ac ev x c xs) s → x ≡ control.Flow f → xs ≡ [] → Does (Ok f) s m s0
  unfolding then_all unwinding give settle
  does_ended {s = s} c xs f x h i e = record { is = λ _. h.is ∙ ap (λ y. machine ac ev y c xs s) i ∙ ap (λ ys. then_all ac ev (give f) c ys s) e }

  pub unwound_frame : (e : Refusal) (c : Site) (xs : List Entry) (x : Frame) (s : State S × ℕ) → then_all ac ev (stop e) c (xs ++ entry.Frame x ∷ []) s ≡ then_all ac ev (stop e) c xs s
  unwound_frame e c xs x s = passed ac ev e c xs x s (at_frame ac ev (stop e) c xs x s) ∙ stopped_anywhere ac ev e xs (ends x c) c s

  pub unwound_leave : (e : Refusal) (a b : Site) (p : List Seg) (xs : List Entry) (s : State S × ℕ) → then_all ac ev (stop e) a (xs ++ entry.Leave b p ∷ []) s ≡ then_all ac ev (stop e) b xs (left p s.0, s.1)
  unfolding then_all stop leaving
  unwound_leave e a b p xs s = at_leave ac ev (stop e) b a p xs s

  -- an item that isn't passed over
  refused_by : (e : Refusal) (c : Site) (xs : List Entry) (x : ListItem) (s : State S × ℕ) → is_passable e ≡ false → then_all ac ev (stop e) c (xs ++ entry.Item x ∷ []) s ≡ then_all ac ev (stop e) (at_position (behind_term x.list x.behind.levels) x.behind.outer) xs s
  unfolding then_all stop item_done go_on
  refused_by e c xs x s fails = rw (unwinding_on ac ev xs (entry.Item x) (at_bottom ac ev)) (rw fails refl)

  pub unwound_item : (e : Refusal) (c : Site) (xs : List Entry) (x : ListItem) (s : State S × ℕ) → is_passable e ≡ false → then_all ac ev (stop e) c (xs ++ entry.Item x ∷ []) s ≡ then_all ac ev (stop e) c xs s
  unwound_item e c xs x s fails = refused_by e c xs x s fails ∙ stopped_anywhere ac ev e xs (at_position (behind_term x.list x.behind.levels) x.behind.outer) c s

  -- and one that is
  pub passed_on : (e : Refusal) (c : Site) (xs : List Entry) (x : ListItem) (s : State S × ℕ) → is_passable e ≡ true
      → then_all ac ev (stop e) c (xs ++ entry.Item x ∷ []) s ≡ machine ac ev (control.Items x.behind) (behind_term x.list x.behind.levels) xs (with_passed x.list.scope e s.0, s.1)
  unfolding then_all stop item_done go_on
  passed_on e c xs x s holds = rw (unwinding_on ac ev xs (entry.Item x) (at_bottom ac ev)) (rw holds refl)

  pub popped_item : (e : Refusal) (c : Site) (xs ys : List Entry) (x : ListItem) (y : Entry) (s : State S × ℕ) → xs ≡ ys ++ y ∷ [] → y ≡ entry.Item x → is_passable e ≡ false → then_all ac ev (stop e) c xs s ≡ then_all ac ev (stop e) c ys s
  popped_item e c xs ys x y s h i fails = ap (λ zs. then_all ac ev (stop e) c zs s) (h ∙ ap (λ z. ys ++ z ∷ []) i) ∙ unwound_item e c ys x s fails

  pub popped_frame : (e : Refusal) (c : Site) (xs ys : List Entry) (x : Frame) (y : Entry) (s : State S × ℕ) → xs ≡ ys ++ y ∷ [] → y ≡ entry.Frame x → then_all ac ev (stop e) c xs s ≡ then_all ac ev (stop e) c ys s
  popped_frame e c xs ys x y s h i = ap (λ zs. then_all ac ev (stop e) c zs s) (h ∙ ap (λ z. ys ++ z ∷ []) i) ∙ unwound_frame e c ys x s

  pub popped_leave : (e : Refusal) (a b : Site) (p : List Seg) (xs ys : List Entry) (y : Entry) (s : State S × ℕ) → xs ≡ ys ++ y ∷ [] → y ≡ entry.Leave b p → then_all ac ev (stop e) a xs s ≡ then_all ac ev (stop e) b ys (left p s.0, s.1)
  popped_leave e a b p xs ys y s h i = ap (λ zs. then_all ac ev (stop e) a zs s) (h ∙ ap (λ z. ys ++ z ∷ []) i) ∙ unwound_leave e a b p ys s

  pub unwound_end : (e : Refusal) (c : Site) (xs : List Entry) (s : State S × ℕ) → xs ≡ [] → then_all ac ev (stop e) c xs s ≡ (Err e, s)
  unfolding then_all unwinding stop settle
  unwound_end e c xs s i = rw i refl

never_passed : {S : Type 0} (c b : Site) (flag : Bool) (s : State S × ℕ) → b ≡ c → flag ≡ passes_over b.depth s.0.profile → flag ≡ false → passes_over c.depth s.0.profile ≡ false
never_passed c b flag s same told fails = ap (λ a. passes_over a.depth s.0.profile) (sym same) ∙ (sym told ∙ fails)

-- an item begins that may be passed over
item_kept_is : {S : Type 0} (ac : Accesses S) (s : State S × ℕ) (c : Site) (xs : List Entry) (i : Items) (n : ℕ) → passes_over c.depth s.0.profile ≡ true → 0 < i.left → 0 < length c.place.rest → n ≡ i.left - 1
    → machine ac (meaning ac) (control.Items i) c xs s ≡ machine ac (meaning ac) (control.Term i.levels) c (xs ++ entry.Item (record { list = c; behind = record { left = n; levels = i.levels; outer = i.outer } }) ∷ []) s
unfolding then_all
item_kept_is ac s c xs i n holds some more one =
    let x : ListItem = record { list = c; behind = record { left = n; levels = i.levels; outer = i.outer } } in
    sym (at_item_passing ac (meaning ac) (term_run ac (meaning ac) c i.levels) xs x s ∙ ap (λ r. unwinding ac (meaning ac) xs (at_bottom ac (meaning ac)) (at_position c i.outer) r.0 r.1) (sym (list_passing ac c i n s holds some more one)))

module _ {S : Type 0} {ac : Accesses S} where
  -- the list goes on
  pub item_on : {s : State S × ℕ} (c : Site) (xs : List Entry) (i : Items) (f : Flow) (on : Bool) → on ≡ goes_on f → on ≡ true → Goes ac (meaning ac) (Ok (control.Items i)) c xs s (machine ac (meaning ac) (control.Flow f) c (xs ++ entry.Frame (frames.Items i) ∷ [])) s
  item_on c xs i f on e h = goes_frame c xs (frames.Items i) f (goes_leads (next.Items i) c (at_position c i.outer) xs _ (leads_goes_on c c i f on e h refl) refl (goes_items i))

  -- ---- a list begins

  -- no item is left
  pub item_none : {s : State S × ℕ} (c d : Site) (xs : List Entry) (i : Items) → i.left ≡ 0 → d ≡ at_position c i.outer → Goes ac (meaning ac) (Ok (control.Flow flow.Next)) d xs s (machine ac (meaning ac) (control.Items i) c xs) s
  item_none c d xs i none j = goes_leads (next.Flow flow.Next) d (at_position c i.outer) xs _ (leads_no_item c d i none) j (goes_flow flow.Next)

  pub item_over : {s : State S × ℕ} (c d : Site) (xs : List Entry) (i : Items) → length c.place.rest ≡ 0 → d ≡ at_position c i.outer → Goes ac (meaning ac) (Ok (control.Flow flow.Next)) d xs s (machine ac (meaning ac) (control.Items i) c xs) s
  item_over c d xs i over j = goes_leads (next.Flow flow.Next) d (at_position c i.outer) xs _ (leads_end c d i over) j (goes_flow flow.Next)

  -- what waits for a list goes on where it ends
  pub list_over : {r : Outcome Control} {e : Site} {ys : List Entry} {s s1 : State S × ℕ} (c d : Site) (xs : List Entry) (i : Items) → i.left ≡ 0 → d ≡ at_position c i.outer → Goes ac (meaning ac) r e ys s1 (machine ac (meaning ac) (control.Flow flow.Next) d xs) s → Goes ac (meaning ac) r e ys s1 (machine ac (meaning ac) (control.Items i) c xs) s
  list_over {s = s} c d xs i none at g = record { is = λ ne. (item_none {s = s} c d xs i none at).is tt ∙ g.is ne }

  pub list_passed : {r : Outcome Control} {e : Site} {ys : List Entry} {s s1 : State S × ℕ} (c d : Site) (xs : List Entry) (i : Items) → length c.place.rest ≡ 0 → d ≡ at_position c i.outer → Goes ac (meaning ac) r e ys s1 (machine ac (meaning ac) (control.Flow flow.Next) d xs) s → Goes ac (meaning ac) r e ys s1 (machine ac (meaning ac) (control.Items i) c xs) s
  list_passed {s = s} c d xs i none at g = record { is = λ ne. (item_over {s = s} c d xs i none at).is tt ∙ g.is ne }

  -- an item begins, and the items behind it wait
  item_waits : {s : State S × ℕ} (c : Site) (xs : List Entry) (i : Items) (n : ℕ) → passes_over c.depth s.0.profile ≡ false → 0 < i.left → 0 < length c.place.rest → n ≡ i.left - 1 → Goes ac (meaning ac) (Ok (control.Term i.levels)) c (xs ++ entry.Frame (frames.Items (record { left = n; levels = i.levels; outer = i.outer })) ∷ []) s (machine ac (meaning ac) (control.Items i) c xs) s
  item_waits c xs i n fails some left one =
      let x = frames.Items (record { left = n; levels = i.levels; outer = i.outer }) in
      goes_leads (next.Term i.levels x) c (at_position c i.outer) xs _ (leads_item c i n fails some left one) refl (goes_term xs _ i.levels x refl)

  pub item_kept : {s : State S × ℕ} (r : Outcome Control) (c b d : Site) (xs ys : List Entry) (i : Items) (n : ℕ) (flag : Bool) → flag ≡ passes_over b.depth s.0.profile → flag ≡ true → 0 < i.left → 0 < length c.place.rest → n ≡ i.left - 1 → b ≡ c
      → OnOk r (d ≡ b) → OnOk r (ys ≡ xs ++ entry.Item (record { list = b; behind = record { left = n; levels = i.levels; outer = i.outer } }) ∷ []) → IfOk r (λ x. x ≡ control.Term i.levels) → IfErr r (λ e. e ≡ OutOfMemory)
      → Goes ac (meaning ac) r d ys s (machine ac (meaning ac) (control.Items i) c xs) s
  item_kept {s = s} (Ok x) c b d xs ys i n flag told holds some left one same at pushed next memory =
      rw (next, pushed, at, same) (record { is = λ _. item_kept_is ac s c xs i n (ap (λ a. passes_over a.depth s.0.profile) (sym same) ∙ (sym told ∙ holds)) some left one })
  item_kept (Err e) c b d xs ys i n flag told holds some left one same at pushed next memory = record { is = λ ne. absurd (ne memory) }

  goes_then : {m : Run S Flow} {r : Outcome Control} {d e : Site} {ys zs : List Entry} {s s1 s2 : State S × ℕ} (x : Control) → Goes ac (meaning ac) (Ok x) d ys s1 m s → Goes ac (meaning ac) r e zs s2 (machine ac (meaning ac) x d ys) s1 → Goes ac (meaning ac) r e zs s2 m s
  goes_then x h i = record { is = λ ne. h.is tt ∙ i.is ne }

  pub item_next : {r : Outcome Control} {e : Site} {ys : List Entry} {s s1 s2 : State S × ℕ} (x : Next) (c b d : Site) (xs : List Entry) (i : Items) (n : ℕ) (flag : Bool) → flag ≡ passes_over b.depth s.0.profile → flag ≡ false → 0 < i.left → 0 < length c.place.rest → n ≡ i.left - 1 → Leads ac (meaning ac) (Ok x) d s1 (term_run ac (meaning ac) b i.levels) s → b ≡ c → next_ends x d ≡ behind_term b i.levels
      → Goes ac (meaning ac) r e ys s2 (then_all ac (meaning ac) (next_run ac (meaning ac) x d) (next_ends x d) (xs ++ entry.Frame (frames.Items (record { left = n; levels = i.levels; outer = i.outer })) ∷ [])) s1
      → Goes ac (meaning ac) r e ys s2 (machine ac (meaning ac) (control.Items i) c xs) s
  item_next {s = s} x c b d xs i n flag told fails some left one l same ends g =
      let ys = xs ++ entry.Frame (frames.Items (record { left = n; levels = i.levels; outer = i.outer })) ∷ [] in
      goes_then (control.Term i.levels) (item_waits c xs i n (never_passed c b flag s same told fails) some left one) (goes_leads x d (behind_term c i.levels) ys _ (rw same at l) (rw same at ends) g)

  -- an item that is refused passes the items behind it
  pub item_refused : {e : Refusal} {r : Outcome Control} {s s1 : State S × ℕ} (c b d : Site) (xs : List Entry) (i : Items) (flag : Bool) → flag ≡ passes_over b.depth s.0.profile → flag ≡ false → 0 < i.left → 0 < length c.place.rest → Leads ac (meaning ac) (Err e) d s1 (term_run ac (meaning ac) b i.levels) s → b ≡ c → IsErr r × IsErrAnd r (λ x. x ≡ e) → Goes ac (meaning ac) r d xs s1 (machine ac (meaning ac) (control.Items i) c xs) s
  item_refused {r = Ok y} c b d xs i flag told fails some left l same h = absurd (cc h.0)
  item_refused {r = Err y} {s = s} {s1 = s1} c b d xs i flag told fails some left l same h =
      let x = frames.Items (record { left = i.left - 1; levels = i.levels; outer = i.outer }) in
      let g = goes_then {r = Err y} (control.Term i.levels) (item_waits c xs i (i.left - 1) (never_passed c b flag s same told fails) some left refl) (goes_leads_err d (behind_term c i.levels) (xs ++ entry.Frame x ∷ []) _ (rw same at l) h) in
      record { is = λ ne. g.is ne ∙ unwound_frame ac (meaning ac) y d xs x s1 }

  -- an operator is done whole, and the list goes on
  pub item_operated : {s s1 s2 : State S × ℕ} (v : Value) (c b a d : Site) (xs : List Entry) (i : Items) (n : ℕ) (k : OperatorKind) (flag : Bool) → flag ≡ passes_over b.depth s.0.profile → flag ≡ false → 0 < i.left → 0 < length c.place.rest → n ≡ i.left - 1 → b ≡ c
      → row_kind (row_alone (first b.place.rest)) ≡ kinds.Operator k → 0 < i.levels → Does (Ok tt) s1 charge s → a ≡ at_place b (over 1 b.place)
      → Leads ac (meaning ac) (Ok (next.Flow (flow.Value v))) d s2 (operator_run ac (meaning ac) k a (i.levels - 1)) s1 → d ≡ behind_operator_at k a (i.levels - 1)
      → Goes ac (meaning ac) (Ok (control.Items (record { left = n; levels = i.levels; outer = i.outer }))) d xs s2 (machine ac (meaning ac) (control.Items i) c xs) s
  item_operated v c b a d xs i n k flag told fails some left one same kind deep taken at l ends =
      item_next (next.Flow (flow.Value v)) c b d xs i n flag told fails some left one (begun_by_operator b a i.levels k kind deep taken at l) same (behind_by_operator d b a i.levels k kind deep at ends) (item_on d xs (record { left = n; levels = i.levels; outer = i.outer }) (flow.Value v) true refl refl)

  -- an operator begins behind its opcode
  pub item_operator : {r : Outcome Control} {e : Site} {ys : List Entry} {s s1 t s2 s3 : State S × ℕ} (x : Next) (c b a o d : Site) (xs : List Entry) (i : Items) (n : ℕ) (k : OperatorKind) (flag : Bool) → flag ≡ passes_over b.depth s.0.profile → flag ≡ false → 0 < i.left → 0 < length c.place.rest → n ≡ i.left - 1 → b ≡ c
      → row_kind (row_alone (first b.place.rest)) ≡ kinds.Operator k → 0 < i.levels → Does (Ok tt) s1 charge s → a ≡ at_place b (over 1 b.place) → t ≡ s1 → o ≡ a
      → Leads ac (meaning ac) (Ok x) d s2 (operator_run ac (meaning ac) k o (i.levels - 1)) t → next_ends x d ≡ behind_operator_at k o (i.levels - 1)
      → Goes ac (meaning ac) r e ys s3 (then_all ac (meaning ac) (next_run ac (meaning ac) x d) (next_ends x d) (xs ++ entry.Frame (frames.Items (record { left = n; levels = i.levels; outer = i.outer })) ∷ [])) s2
      → Goes ac (meaning ac) r e ys s3 (machine ac (meaning ac) (control.Items i) c xs) s
  item_operator x c b a o d xs i n k flag told fails some left one same kind deep taken at steps stays l ends g =
      let begun = rw (steps, stays) at l in
      let there = rw stays at ends in
      item_next x c b d xs i n flag told fails some left one (begun_by_operator b a i.levels k kind deep taken at begun) same (behind_by_operator (next_ends x d) b a i.levels k kind deep at there) g

  pub item_operator_refused : {e : Refusal} {r : Outcome Control} {s s1 t s2 : State S × ℕ} (c b a o d : Site) (xs : List Entry) (i : Items) (k : OperatorKind) (flag : Bool) → flag ≡ passes_over b.depth s.0.profile → flag ≡ false → 0 < i.left → 0 < length c.place.rest → b ≡ c
      → row_kind (row_alone (first b.place.rest)) ≡ kinds.Operator k → 0 < i.levels → Does (Ok tt) s1 charge s → a ≡ at_place b (over 1 b.place) → t ≡ s1 → o ≡ a
      → Leads ac (meaning ac) (Err e) d s2 (operator_run ac (meaning ac) k o (i.levels - 1)) t → IsErr r × IsErrAnd r (λ x. x ≡ e) → Goes ac (meaning ac) r d xs s2 (machine ac (meaning ac) (control.Items i) c xs) s
  item_operator_refused c b a o d xs i k flag told fails some left same kind deep taken at steps stays l h =
      let begun = rw (steps, stays) at l in
      item_refused c b d xs i flag told fails some left (begun_by_operator b a i.levels k kind deep taken at begun) same h

-- an item pays a step, and the items behind it may wait
pub falls_item : (r : Outcome Control) (a b w n x y : ℕ) → a < b → w < step_weight → IfOk r (λ c. n + (x + control_weight c) ≤ charged a + (y + 3 + w)) → IfOk r (λ c. n + (x + control_weight c) < charged b + (y + 4))
falls_item (Ok c) a b w n x y h i j = let p = charged_step a b h in omega (arith, p, i, j)
falls_item (Err z) a b w n x y h i j = tt

-- an item that its first step finishes
pub falls_done : (r : Outcome Control) (a x y : ℕ) → IfOk r (λ c. x + control_weight c < y + 6) → IfOk r (λ c. charged a + (x + control_weight c) ≤ charged a + (y + 3 + 3))
falls_done (Ok c) a x y h = omega (arith, h)
falls_done (Err z) a x y h = tt

-- an operator that is done whole pays a step, and its list goes on
pub falls_operated : (a b d x : ℕ) → a ≤ b → b < d → charged a + (x + 4) < charged d + (x + 4)
falls_operated a b d x h paid =
    let p = charged_step a d (omega (arith, h, paid)) in
    let enough = step_enough in
    omega (arith, p, enough)

-- an item that may be passed over begins
pub falls_kept : (r : Outcome Control) (a levels : ℕ) (xs ys : List Entry) (x : ListItem) → OnOk r (ys ≡ xs ++ entry.Item x ∷ []) → IfOk r (λ c. c ≡ control.Term levels) → IfOk r (λ c. charged a + (stack_weight ys + control_weight c) < charged a + (stack_weight xs + 4))
falls_kept (Ok c) a levels xs ys x pushed next =
    let k = ap stack_weight pushed ∙ weight_on xs (entry.Item x) in
    let none : control_weight c ≡ 0 = ap control_weight next in
    omega (arith, k, none)
falls_kept (Err e) a levels xs ys x pushed next = tt

pub ruleset listing_on = (list_over, list_passed, falls_kept, falls_operated, weight_on, falls_item, falls_done, item_last, item_on, item_none, item_over, item_operated, item_operator, item_operator_refused, item_next, item_refused, item_kept, given_ok, never_refused, never_err, never_memory, refused_begun, goes_memory)

pub ruleset going = (never_refused, weight_on, goes_flow, goes_items, goes_package, goes_term, goes_turn, goes_scope, goes_body, goes_body_then, goes_target, goes_division, goes_found, goes_access_then, goes_integer_then, goes_memory)

pub ruleset taking = (falling, goes_leads, goes_leads_err, goes_frame, goes_item, goes_leave, goes_memory, never_err, never_memory, refused_paid, refused_free, refused_met, access_enough, target_enough, four_enough, most_enough)

-- ---- a call

returned : (r : Outcome Flow) → NotMemory (seen returned_by r) → NotMemory r
returned (Ok f) ne = tt
returned (Err e) ne = ne

does_whole : {S : Type 0} (ac : Accesses S) (ev : Task → Run S Flow) {r : Outcome Flow} {s s1 : State S × ℕ} (b : Site) (xs : List Entry) → xs ≡ [] → Does r s1 (machine ac ev (control.Items (whole b)) b xs) s → Does r s1 (items_run ac ev (whole b) b) s
unfolding then_all unwinding settle
does_whole ac ev b xs e h = rw e at h

pub does_body : {S : Type 0} (ac : Accesses S) (ev : Task → Run S Flow) {r q : Outcome Flow} {s s1 s2 : State S × ℕ} (b c : Site) (i : Items) (xs : List Entry) → c ≡ b → i ≡ whole b → xs ≡ [] → Does r s1 (machine ac ev (control.Items i) c xs) s → s2 ≡ (left b.scope s1.0, s1.1) → q ≡ seen returned_by r → Does q s2 (body_run ac ev b) s
unfolding leaving all_items
does_body ac ev {r = r} {s = s} {s1 = s1} b c i xs f g e h j k =
    let h1 = rw (f, g) at h in
    rw (j, k) (record { is = λ ne. rw ((does_whole ac ev b xs e h1).is (returned r ne)) refl })

-- the items that are left of a list, in the slots that stand
pub does_list : {S : Type 0} (ac : Accesses S) (ev : Task → Run S Flow) {r : Outcome Flow} {s s1 : State S × ℕ} (b c : Site) (i : Items) (xs : List Entry) → c ≡ b → i ≡ whole b → xs ≡ [] → Does r s1 (machine ac ev (control.Items i) c xs) s → Does r s1 (list_run ac ev b (all_left b walk_levels)) s
unfolding all_items
does_list ac ev b c i xs f g e h =
    let h1 = rw (f, g) at h in
    does_whole ac ev b xs e h1

-- an access of a field
pub does_access : {S : Type 0} (ac : Accesses S) (ev : Task → Run S Flow) {r : Outcome Flow} {s s1 : State S × ℕ} (a : Access) (c : Site) (xs : List Entry) → xs ≡ [] → Does r s1 (machine ac ev (control.Access a) c xs) s → Does r s1 (access_run ac ev a) s
unfolding then_all unwinding settle
does_access ac ev a c xs e h = rw e at h

pub ruleset beginning = (does_body)

pub ruleset listing = (does_list, does_access)
