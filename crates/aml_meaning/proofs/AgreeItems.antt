-- Items of lists in two runs that agree.
use Rattle.std.specs.Prelude.{◌≡◌, ℕ, ◌≤◌, List, Bool, true, false, Ok, Err, if◌then◌else◌, refl}
use Rattle.std.proofs.Common.{arith, ap}
use Rattle.ar_space.specs.declared.refusal.Refusal.{Refusal}
use Rattle.ar_space.specs.Outcome.{Outcome}
use Rattle.aml_path.specs.declared.segment.Seg.{Seg}
use Rattle.aml_grammar.specs.Tree.{Tree}
use Rattle.aml_world.specs.state.State.{State}
use Rattle.aml_world.specs.state.Run.{Run}
use Rattle.aml_world.specs.state.PassedOver.{is_passable}
use Rattle.aml_world.specs.state.Noting.{with_passed}
use Rattle.aml_meaning.specs.declared.flow.Flow.{Flow}
use Rattle.aml_meaning.specs.declared.flow.Flow.TheVariants as flow
use Rattle.aml_meaning.specs.Passing.{item_done, passing}
use Rattle.aml_meaning.specs.Tasks.{Task, task, passes_over, item}
use Rattle.aml_meaning.proofs.Agree.{Agree}

module _ {S : Type 0} where
  refused_less : (b : Bool) (scope : List Seg) (e : Refusal) (s : State S × ℕ) → (if◌then◌else◌ {A = Outcome Flow × (State S × ℕ)} b (Ok flow.Next, (with_passed scope e s.0, s.1)) (Err e, s)).1.1 ≤ s.1
  refused_less true scope e s = omega arith
  refused_less false scope e s = omega arith

  done_less : (scope : List Seg) (r : Outcome Flow) (s : State S × ℕ) → (item_done scope r s).1.1 ≤ s.1
  unfolding item_done
  done_less scope (Ok f) s = omega arith
  done_less scope (Err e) s = refused_less (is_passable e) scope e s

  either_same : (b : Bool) (m n k l : Run S Flow) (s : State S × ℕ) → m s ≡ n s → k s ≡ l s → (if b then m s else k s) ≡ (if b then n s else l s)
  either_same true m n k l s h i = h
  either_same false m n k l s h i = i

  either_less : (b : Bool) (m k : Run S Flow) (s : State S × ℕ) → (m s).1.1 ≤ s.1 → (k s).1.1 ≤ s.1 → (if◌then◌else◌ {A = Outcome Flow × (State S × ℕ)} b (m s) (k s)).1.1 ≤ s.1
  either_less true m k s h i = h
  either_less false m k s h i = i

  agree_passing : {n : ℕ} (scope : List Seg) (m k : Run S Flow) → Agree n m k → Agree n (passing scope m) (passing scope k)
  unfolding passing
  agree_passing scope m k h = record {
    same = λ s le. ap (λ a. item_done scope a.0 a.1) (h.same s le);
    less = λ s le. let p = h.less s le in let q = done_less scope (m s).0 (m s).1 in omega (arith, p, q);
  }

  pub agree_item : {n : ℕ} (ev ew : Task → Run S Flow) → ((t : Task) → Agree n (ev t) (ew t)) → (scope : List Seg) (depth : ℕ) (t : Tree) → Agree n (item ev scope depth t) (item ew scope depth t)
  unfolding item
  agree_item ev ew parts scope depth t =
      let h = agree_passing scope (ev (task scope depth t)) (ew (task scope depth t)) (parts _) in
      record {
        same = λ s le. either_same (passes_over depth s.0.profile) (passing scope (ev (task scope depth t))) (passing scope (ew (task scope depth t))) (ev (task scope depth t)) (ew (task scope depth t)) s (h.same s le) ((parts _).same s le);
        less = λ s le. either_less (passes_over depth s.0.profile) (passing scope (ev (task scope depth t))) (ev (task scope depth t)) s (h.less s le) ((parts _).less s le);
      }
