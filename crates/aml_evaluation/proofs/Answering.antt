-- Steps are taken until one is refused: then the loop goes on behind an item that is passed over, or it ends.
use Rattle.std.specs.Prelude.{◌≡◌, ◌≢◌, ℕ, ◌+◌, ◌<◌, ◌≤◌, true, List, [], ◌∷◌, ◌++◌, Ok, Err, IfErr, IsErr, IsErrAnd}
use Rattle.std.proofs.Common.{◌∙◌, ap, sym, arith}
use Rattle.ar_space.specs.Accesses.{Accesses}
use Rattle.ar_space.specs.Change.{Does, Same, give, stop}
use Rattle.ar_space.specs.Outcome.{Outcome}
use Rattle.ar_space.specs.declared.refusal.Refusal.{Refusal}
use Rattle.ar_space.specs.declared.refusal.Refusal.TheVariants.{OutOfMemory}
use Rattle.aml_world.specs.state.State.{State}
use Rattle.aml_world.specs.state.Run.{Run}
use Rattle.aml_world.specs.state.PassedOver.{is_passable}
use Rattle.aml_meaning.specs.declared.flow.Flow.{Flow}
use Rattle.aml_meaning.specs.Tasks.{Task}
use Rattle.aml_frames.specs.declared.frames.Control.{Control}
use Rattle.aml_frames.specs.declared.frames.Control.TheVariants as control
use Rattle.aml_frames.specs.declared.frames.Entry.{Entry}
use Rattle.aml_frames.specs.Places.{Site}
use Rattle.aml_frames.specs.Weights.{charged}
use Rattle.aml_frames.specs.Stack.{then_all, machine, Goes, Stepped, stack_weight, entry_weight, control_weight}
use Rattle.aml_evaluation.proofs.Machine.{weight_on, unwound_end, does_ended}
use Rattle.aml_evaluation.proofs.Unwinding.{passable_known}

-- ---- weights

-- a term begins
pub falls_begun : (n m u v : ℕ) (x : Control) (levels : ℕ) → n < m + u → x ≡ control.Term levels → m + (u + control_weight x) ≤ v → n < v
falls_begun n m u v x levels h is le = let none : control_weight x ≡ 0 = ap control_weight is in omega (arith, h, none, le)

-- an entry meets a flow
pub falls_popped : (n m : ℕ) (xs ys : List Entry) (y : Entry) (x : Control) (f : Flow) → n < m + (stack_weight ys + entry_weight y + 3) → xs ≡ ys ++ y ∷ [] → x ≡ control.Flow f → n < m + (stack_weight xs + control_weight x)
falls_popped n m xs ys y x f h e i = rw (e, i, weight_on ys y) h

pub popped_within : (m v : ℕ) (xs ys : List Entry) (y : Entry) (x : Control) (f : Flow) → m + (stack_weight xs + control_weight x) ≤ v → xs ≡ ys ++ y ∷ [] → x ≡ control.Flow f → m + (stack_weight ys + entry_weight y + 3) ≤ v
popped_within m v xs ys y x f h e i =
    let k = ap stack_weight e ∙ weight_on ys y in
    let three : control_weight x ≡ 3 = ap control_weight i in
    omega (arith, h, k, three)

pub less_within : (n k v : ℕ) → n < k → k ≤ v → n ≤ v
less_within n k v h le = omega (arith, h, le)

-- a step that is refused, behind others
pub refused_within : (r : Outcome Flow) (e : Refusal) (n k v : ℕ) → (is_passable e ≡ true → n < k) → k ≤ v → IsErr r × IsErrAnd r (λ y. y ≡ e) → IfErr r (λ y. is_passable y ≡ true → n < v)
refused_within (Ok f) e n k v h le b = absurd (cc b.0)
refused_within (Err y) e n k v h le b = λ holds. let p = h (ap is_passable (sym b.1) ∙ holds) in omega (arith, p, le)

-- what is left behind an item that is passed over
pub falls_unwound : (e : Refusal) (a b v w k n : ℕ) → (is_passable e ≡ true → charged a + (v + 1) < n) → b ≡ a → is_passable e ≡ true → w + k ≤ v + 1 → charged b + (w + k) < n
falls_unwound e a b v w k n h same holds le = let p = h holds in let q = ap charged same in omega (arith, p, q, le)

-- ---- what it means

module _ {S : Type 0} (ac : Accesses S) (ev : Task → Run S Flow) where
  pub same_goes : {m : Run S Flow} {s0 s s1 : State S × ℕ} {d : Site} {ys : List Entry} (c : Site) (xs : List Entry) (x y : Control) → Same m s0 (machine ac ev x c xs) s → Goes ac ev (Ok y) d ys s1 (machine ac ev x c xs) s → Same m s0 (machine ac ev y d ys) s1
  same_goes c xs x y h i = record { is = h.is ∙ i.is tt }

  pub same_popped : {m : Run S Flow} {s0 s s1 : State S × ℕ} {d : Site} {zs : List Entry} (c : Site) (xs ys : List Entry) (z : Entry) (x y : Control) (f : Flow) → Same m s0 (machine ac ev x c xs) s → x ≡ control.Flow f → xs ≡ ys ++ z ∷ []
      → Goes ac ev (Ok y) d zs s1 (machine ac ev (control.Flow f) c (ys ++ z ∷ [])) s → Same m s0 (machine ac ev y d zs) s1
  same_popped c xs ys z x y f h i e g = same_goes c xs x y h (rw (i, e) g)

  pub stepped_ended : {m : Run S Flow} {s0 s : State S × ℕ} {d : Site} {ys : List Entry} (c : Site) (xs : List Entry) (f : Flow) (x : Control) → Same m s0 (machine ac ev x c xs) s → x ≡ control.Flow f → xs ≡ [] → Stepped ac ev (Ok f) d ys s m s0
  unfolding give
  stepped_ended c xs f x h i e = record { is = λ ne. (does_ended ac ev c xs f x h i e).is ne }

  pub stepped_refused : {m : Run S Flow} {q : Outcome Flow} {e : Refusal} {s0 s s1 : State S × ℕ} {d : Site} {ys : List Entry} (c : Site) (xs : List Entry) (x : Control) → Same m s0 (machine ac ev x c xs) s → Goes ac ev (Err e) d ys s1 (machine ac ev x c xs) s → IsErr q × IsErrAnd q (λ y. y ≡ e)
      → Stepped ac ev q d ys s1 m s0
  stepped_refused {q = Ok f} c xs x h i b = absurd (cc b.0)
  stepped_refused {q = Err y} {s1 = s1} {d = d} {ys = ys} c xs x h i b = record { is = λ ny. h.is ∙ (i.is (λ k. ny (b.1 ∙ k)) ∙ ap (λ (z : Refusal). then_all ac ev (stop z) d ys s1) (sym b.1)) }

  -- the loop ends with a flow
  pub stepped_done : {m : Run S Flow} {f : Flow} {s0 s s1 : State S × ℕ} {d : Site} {ys : List Entry} (c : Site) (xs : List Entry) (x : Control) → Same m s0 (machine ac ev x c xs) s → Stepped ac ev (Ok f) d ys s1 (machine ac ev x c xs) s → Does (Ok f) s1 m s0
  unfolding give
  stepped_done c xs x h i = record { is = λ _. h.is ∙ i.is tt }

  -- it goes on behind an item that is passed over
  pub same_unwound : {m : Run S Flow} {e : Refusal} {s0 s s1 s2 : State S × ℕ} {d d2 : Site} {ys zs : List Entry} (c : Site) (xs : List Entry) (x y : Control) → Same m s0 (machine ac ev x c xs) s → Stepped ac ev (Err e) d ys s1 (machine ac ev x c xs) s → is_passable e ≡ true
      → Goes ac ev (Ok y) d2 zs s2 (then_all ac ev (stop e) d ys) s1 → Same m s0 (machine ac ev y d2 zs) s2
  same_unwound {e = e} c xs x y h i holds g = record { is = h.is ∙ (i.is (passable_known e holds) ∙ g.is tt) }

  -- or it ends with a refusal
  pub refused_unwound : {m : Run S Flow} {q : Outcome Flow} {e f : Refusal} {s0 s s1 s2 : State S × ℕ} {d d2 : Site} {ys zs : List Entry} (c : Site) (xs : List Entry) (x : Control) → Same m s0 (machine ac ev x c xs) s → Stepped ac ev (Err e) d ys s1 (machine ac ev x c xs) s
      → (f ≢ OutOfMemory → e ≢ OutOfMemory) → (f ≢ OutOfMemory → zs ≡ []) → Goes ac ev (Err f) d2 zs s2 (then_all ac ev (stop e) d ys) s1 → IsErr q × IsErrAnd q (λ y. y ≡ f) → Does q s2 m s0
  refused_unwound {q = Ok v} c xs x h i known ended g b = absurd (cc b.0)
  refused_unwound {q = Err y} {f = f} {s2 = s2} {d2 = d2} {zs = zs} c xs x h i known ended g b =
      let over = λ (ne : f ≢ OutOfMemory). h.is ∙ (i.is (known ne) ∙ (g.is ne ∙ unwound_end ac ev f d2 zs s2 (ended ne))) in
      record { is = λ ny. over (λ k. ny (b.1 ∙ k)) ∙ ap (λ (z : Refusal). (Err z, s2)) (sym b.1) }

pub ruleset stepped = (same_goes, stepped_ended, stepped_refused, refused_within)

pub ruleset unwound = (stepped_done, same_unwound, refused_unwound, falls_unwound)
