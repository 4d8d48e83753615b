-- A refusal unwinds the stack, up to an item that is passed over.
use Rattle.std.specs.Prelude.{◌≡◌, ◌≢◌, ℕ, ◌+◌, ◌≤◌, true, List, [], ◌∷◌, ◌++◌, Ok, Err, OnOk, OnErr, IfOk, IfErr, IsErr, IsErrAnd, refl}
use Rattle.std.proofs.Common.{◌∙◌, ap, sym, arith}
use Rattle.ar_space.specs.Accesses.{Accesses}
use Rattle.ar_space.specs.Change.{Does, stop}
use Rattle.ar_space.specs.Outcome.{Outcome, NotMemory}
use Rattle.ar_space.specs.declared.refusal.Refusal.{Refusal}
use Rattle.ar_space.specs.declared.refusal.Refusal.TheVariants.{OutOfMemory}
use Rattle.aml_path.specs.declared.segment.Seg.{Seg}
use Rattle.aml_world.specs.state.State.{State}
use Rattle.aml_world.specs.state.Run.{Run}
use Rattle.aml_world.specs.state.PassedOver.{is_passable}
use Rattle.aml_world.specs.state.Noting.{with_passed, passed_over}
use Rattle.aml_meaning.specs.declared.flow.Flow.{Flow}
use Rattle.aml_meaning.specs.Tasks.{Task}
use Rattle.aml_frames.specs.declared.frames.Control.{Control}
use Rattle.aml_frames.specs.declared.frames.Control.TheVariants as control
use Rattle.aml_frames.specs.declared.frames.Entry.{Entry}
use Rattle.aml_frames.specs.declared.frames.Entry.TheVariants as entry
use Rattle.aml_frames.specs.declared.frames.Items.{Items}
use Rattle.aml_frames.specs.declared.frames.ListItem.{ListItem}
use Rattle.aml_frames.specs.Places.{Site, behind_term}
use Rattle.aml_frames.specs.Stack.{then_all, machine, Goes, stack_weight, entry_weight, control_weight}
use Rattle.aml_evaluation.proofs.Machine.{weight_on, passed_on}

never_passed : (e : Refusal) → e ≡ OutOfMemory → is_passable e ≡ true → ⊥
never_passed e is holds = absurd (cc (sym holds ∙ ap is_passable is))

-- what is passed over is no want of memory
pub passable_known : (e : Refusal) → is_passable e ≡ true → e ≢ OutOfMemory
passable_known e holds is = never_passed e is holds

-- ---- weights

pub popped_lighter : (xs ys : List Entry) (y : Entry) (w : ℕ) → xs ≡ ys ++ y ∷ [] → stack_weight xs ≤ w → stack_weight ys ≤ w
popped_lighter xs ys y w e h = let k = ap stack_weight e ∙ weight_on ys y in omega (arith, k, h)

pub falls_passed : (r : Outcome Control) (zs ys xs : List Entry) (y : Entry) (x : ListItem) (i : Items) (w : ℕ) → zs ≡ ys → xs ≡ ys ++ y ∷ [] → y ≡ entry.Item x → stack_weight xs ≤ w → IfOk r (λ c. c ≡ control.Items i)
    → IfOk r (λ c. stack_weight zs + control_weight c ≤ w + 1)
falls_passed (Ok c) zs ys xs y x i w same e is h next =
    let k = ap stack_weight e ∙ weight_on ys y in
    let one : entry_weight y ≡ 3 = ap entry_weight is in
    let all : stack_weight zs ≡ stack_weight ys = ap stack_weight same in
    let four : control_weight c ≡ 4 = ap control_weight next in
    omega (arith, k, one, all, four, h)
falls_passed (Err e) zs ys xs y x i w same k is h next = tt

-- ---- what is passed over is noted

noted_as : {S : Type 0} {u : Unit {0}} (e : Refusal) (w : State S) (scope : List Seg) (before : State S) → is_passable e ≡ true → passed_over scope e before ≡ (Ok u, w) → w ≡ with_passed scope e before
unfolding passed_over
noted_as e w scope before holds h = sym (ap (λ (a : Outcome (Unit {0}) × State _). a.1) (rw holds at h))

-- ---- what it means

module _ {S : Type 0} (ac : Accesses S) (ev : Task → Run S Flow) where
  -- an item that is passed over
  pub goes_passed : {w : State S} {u : Unit {0}} (e : Refusal) (c d : Site) (xs : List Entry) (x : ListItem) (scope : List Seg) (w0 : State S) (n : ℕ) → Does (Ok u) w (passed_over scope e) w0 → is_passable e ≡ true → scope ≡ x.list.scope → d ≡ behind_term x.list x.behind.levels
      → Goes ac ev (Ok (control.Items x.behind)) d xs (w, n) (then_all ac ev (stop e) c (xs ++ entry.Item x ∷ [])) (w0, n)
  goes_passed {w = w} e c d xs x scope w0 n h holds at stands =
      let noted : w ≡ with_passed x.list.scope e w0 = noted_as e w scope w0 holds (h.is tt) ∙ ap (λ p. with_passed p e w0) at in
      rw stands (record { is = λ _. passed_on ac ev e c xs x (w0, n) holds ∙ ap (λ v. machine ac ev (control.Items x.behind) (behind_term x.list x.behind.levels) xs (v, n)) (sym noted) })

-- only want of memory refuses to note what may be passed over
noted_always : {S : Type 0} (e z : Refusal) (w w1 : State S) (scope : List Seg) → is_passable e ≡ true → Does {A = Unit {0}} (Err z) w1 (passed_over scope e) w → z ≢ OutOfMemory → ⊥
unfolding passed_over
noted_always e z w w1 scope holds h ne = absurd (cc (ap (λ (a : Outcome (Unit {0}) × State _). a.0) (rw holds at h.is ne)))

pub pass_memory : {S : Type 0} (e z : Refusal) (w w1 : State S) (scope : List Seg) (r : Outcome Control) → is_passable e ≡ true → Does {A = Unit {0}} (Err z) w1 (passed_over scope e) w → IsErr r × IsErrAnd r (λ y. y ≡ z) → OnErr r (NotMemory r → ⊥)
pass_memory e z w w1 scope (Ok c) holds h i = tt
pass_memory e z w w1 scope (Err y) holds h i = λ ne. noted_always e z w w1 scope holds h (λ q. ne (i.1 ∙ q))

pub pass_goes : {S : Type 0} (ac : Accesses S) (ev : Task → Run S Flow) {s s1 : State S × ℕ} (e z : Refusal) (w w1 : State S) (scope : List Seg) (r : Outcome Control) (d : Site) (ys : List Entry) (m : Run S Flow) → is_passable e ≡ true → Does {A = Unit {0}} (Err z) w1 (passed_over scope e) w
    → IsErr r × IsErrAnd r (λ y. y ≡ z) → Goes ac ev r d ys s1 m s
pass_goes ac ev e z w w1 scope (Ok c) d ys m holds h i = absurd (cc i.0)
pass_goes ac ev e z w w1 scope (Err y) d ys m holds h i = record { is = λ ne. absurd (noted_always e z w w1 scope holds h (λ q. ne (i.1 ∙ q))) }

pub ruleset passing = (goes_passed, pass_memory, pass_goes)
