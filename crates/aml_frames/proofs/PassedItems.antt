-- Items of lists, where they may be passed over and where not.
use Rattle.std.specs.Prelude.{◌≡◌, ℕ, suc, ◌+◌, ◌<◌, ◌≤◌, List, Bool, true, false, Ok, Err, IfOk, IfErr, IsOk, IsErr, IsErrAnd, if◌then◌else◌, refl}
use Rattle.std.proofs.Common.{ap, sym, arith, ◌∙◌}
use Rattle.ar_space.specs.declared.refusal.Refusal.{Refusal}
use Rattle.ar_space.specs.declared.refusal.Refusal.TheVariants.{OutOfMemory}
use Rattle.ar_space.specs.Outcome.{Outcome}
use Rattle.ar_space.specs.Change.{go_on, ◌>>=◌}
use Rattle.aml_path.specs.declared.segment.Seg.{Seg}
use Rattle.aml_grammar.specs.Tree.{Tree}
use Rattle.aml_world.specs.state.State.{State}
use Rattle.aml_world.specs.state.Run.{Run}
use Rattle.aml_world.specs.state.PassedOver.{is_passable}
use Rattle.aml_meaning.specs.declared.flow.Flow.{Flow}
use Rattle.aml_meaning.specs.Passing.{passing}
use Rattle.aml_meaning.specs.Tasks.{Task, task, passes_over, item}
use Rattle.aml_frames.specs.declared.frames.Control.{Control}
use Rattle.aml_frames.specs.declared.uses.Access.{Access}
use Rattle.aml_frames.specs.declared.uses.Accessed.{Accessed}
use Rattle.aml_frames.specs.declared.uses.Accessed.TheVariants as object
use Rattle.aml_frames.specs.declared.uses.TargetUse.{TargetUse}
use Rattle.aml_frames.specs.Weights.{part_weight, field_weight, region_weight, accessed_weight, access_weight, target_weight, most, step_weight, charged}
use Rattle.aml_frames.proofs.Weighing.{charged_less, charged_step, step_enough}

module _ {S : Type 0} (ev : Task → Run S Flow) where
  pub refused_item : (scope : List Seg) (depth : ℕ) (t : Tree) (s : State S × ℕ) → passes_over depth s.0.profile ≡ false → item ev scope depth t s ≡ ev (task scope depth t) s
  unfolding item
  refused_item scope depth t s fails = ap (λ b. if b then passing scope (ev (task scope depth t)) s else ev (task scope depth t) s) fails

  pub passed_item : (scope : List Seg) (depth : ℕ) (t : Tree) (s : State S × ℕ) → passes_over depth s.0.profile ≡ true → item ev scope depth t s ≡ passing scope (ev (task scope depth t)) s
  unfolding item
  passed_item scope depth t s holds = ap (λ b. if b then passing scope (ev (task scope depth t)) s else ev (task scope depth t) s) holds

pub then_same : {S A B : Type 0} (m n : Run S A) (k : A → Run S B) (s : State S × ℕ) → m s ≡ n s → (m >>= k) s ≡ (n >>= k) s
unfolding ◌>>=◌
then_same m n k s h = ap (λ a. go_on a.0 a.1 k) h

-- ---- what a refused step leaves weighs less than what it took, by more than an item that is passed over needs

pub never_memory : {A : Type 0} (P : Type 0) (r : Outcome A) → IfErr r (λ e. e ≡ OutOfMemory) → IfErr r (λ e. is_passable e ≡ true → P)
never_memory P (Ok a) h = tt
never_memory P (Err e) h = λ holds. absurd (cc (sym holds ∙ ap is_passable h))

-- what is given isn't refused
pub given_ok : {A : Type 0} {a : A} (r : Outcome A) → r ≡ Ok a → IsOk r
given_ok r h = rw h refl

pub never_refused : {A : Type 0} {a : A} (P : Refusal → Type 0) (r : Outcome A) → r ≡ Ok a → IfErr r P
never_refused P r h = rw h tt

pub never_err : {A : Type 0} (P : Refusal → Type 0) (r : Outcome A) → IsOk r → IfErr r P
never_err P (Ok a) h = tt
never_err P (Err e) h = absurd (cc h)

pub refused_paid : (e : Refusal) (r : Outcome Control) (a b x y : ℕ) → (is_passable e ≡ true → a < b) → x ≡ y → IsErr r × IsErrAnd r (λ z. z ≡ e) → IfErr r (λ z. is_passable z ≡ true → charged a + (x + 1) < charged b + y)
refused_paid e (Ok c) a b x y h same i = absurd (cc i.0)
refused_paid e (Err z) a b x y h same i = λ holds. let p = charged_step a b (h (ap is_passable (sym i.1) ∙ holds)) in let q = step_enough in omega (arith, p, q, same)

pub refused_free : (e : Refusal) (r : Outcome Control) (a b x y v : ℕ) → a ≤ b → x ≡ y → 1 < v → IsErr r × IsErrAnd r (λ z. z ≡ e) → IfErr r (λ z. is_passable z ≡ true → charged a + (x + 1) < charged b + (y + v))
refused_free e (Ok c) a b x y v h same some i = absurd (cc i.0)
refused_free e (Err z) a b x y v h same some i = λ holds. let p = charged_less a b h in omega (arith, p, same, some)

-- an item of a list, which pays a step
pub refused_begun : (e : Refusal) (r : Outcome Control) (a b x : ℕ) → (is_passable e ≡ true → a < b) → IsErr r × IsErrAnd r (λ z. z ≡ e) → IfErr r (λ z. is_passable z ≡ true → charged a + (x + 1) < charged b + (x + 4))
refused_begun e (Ok c) a b x h i = absurd (cc i.0)
refused_begun e (Err z) a b x h i = λ holds. let p = charged_step a b (h (ap is_passable (sym i.1) ∙ holds)) in omega (arith, p)

pub refused_met : (e : Refusal) (r : Outcome Control) (a b x y u : ℕ) → a ≤ b → x ≡ y → IsErr r × IsErrAnd r (λ z. z ≡ e) → IfErr r (λ z. is_passable z ≡ true → charged a + (x + 1) < charged b + (y + u + 3))
refused_met e (Ok c) a b x y u h same i = absurd (cc i.0)
refused_met e (Err z) a b x y u h same i = λ holds. let p = charged_less a b h in omega (arith, p, same)

part_enough : (n : ℕ) → 40 ≤ part_weight (suc n)
unfolding part_weight
part_enough n = omega arith

accessed_enough : (calls : ℕ) (o : Accessed) → 1 < accessed_weight calls o
accessed_enough calls (object.Field f) = let p = part_enough calls in omega (arith, p)
accessed_enough calls (object.Unit f) = omega arith

pub access_enough : (a : Access) → 1 < access_weight a
access_enough a = accessed_enough a.calls a.object

pub target_enough : (u : TargetUse) → 1 < target_weight u
target_enough u = omega arith

pub four_enough : 1 < 4
four_enough = omega arith

pub most_enough : 1 < most
unfolding most
most_enough = let p = part_enough 32 in omega (arith, p)
