-- Items of lists preserve world relations, do what they do without the counter, and tell of faults, where the parts of a term do: to pass
-- one over notes it, and changes nothing else.
use Rattle.std.specs.Prelude.{◌≡◌, ◌&&◌, ℕ, List, Bool, true, false, Ok, Err, refl, if◌then◌else◌}
use Rattle.std.proofs.Common.{arith, ap, ◌∙◌}
use Rattle.ar_space.specs.Accesses.{Accesses}
use Rattle.ar_space.specs.Outcome.{Outcome}
use Rattle.ar_space.specs.declared.refusal.Refusal.{Refusal}
use Rattle.ar_space.specs.declared.refusal.Refusal.TheVariants as refusals
use Rattle.aml_path.specs.declared.segment.Seg.{Seg}
use Rattle.aml_grammar.specs.Tree.{Tree}
use Rattle.aml_world.specs.declared.state.profile.Profile.{Profile}
use Rattle.aml_world.specs.declared.state.profile.Profile.TheVariants as profiles
use Rattle.aml_world.specs.state.State.{State}
use Rattle.aml_world.specs.state.Run.{Run}
use Rattle.aml_world.specs.state.PassedOver.{is_passable}
use Rattle.aml_world.specs.state.Profiles.{is_wide}
use Rattle.aml_world.specs.state.Noting.{with_passed}
use Rattle.aml_meaning.specs.declared.flow.Flow.{Flow}
use Rattle.aml_meaning.specs.declared.flow.Flow.TheVariants as flow
use Rattle.aml_meaning.specs.Passing.{item_done, passing}
use Rattle.aml_meaning.specs.Tasks.{Task, task, module_level, passes_over, item}
use Rattle.aml_laws.specs.Answered.{Answered}
use Rattle.aml_laws.specs.Counted.{without_counter}
use Rattle.aml_laws.proofs.CountedChanges.{RunCounts, run_view}
use Rattle.aml_laws.proofs.SetDepths.{OfSetting, is_low}
use Rattle.aml_laws.proofs.FaultsOfChanges.{Explained, RefusalExplained, RunExplains, Spent, either_branch_explains}
use Rattle.aml_laws.proofs.WorldRelations.{PartsLead, Levels, WorldRelationOf, RunPreserves}

-- ---- world relations

module _ {S : Type 0} {listed : Bool} {accesses : Accesses S} (relation : WorldRelationOf listed accesses) (lists : listed ≡ true) (u : State S) (wide : u.profile ≡ profiles.Wide) where
  refusal_preserves : (b : Bool) (scope : List Seg) (e : Refusal) (s : State S × ℕ) → is_passable e ≡ b → relation.Leads u s.0 → relation.Leads u (if◌then◌else◌ {A = Outcome Flow × (State S × ℕ)} b (Ok flow.Next, (with_passed scope e s.0, s.1)) (Err e, s)).1.0
  refusal_preserves true scope e s is h = relation.passed_noted lists u s.0 scope e wide is h
  refusal_preserves false scope e s is h = h

  done_preserves : (scope : List Seg) (r : Outcome Flow) (s : State S × ℕ) → relation.Leads u s.0 → relation.Leads u (item_done scope r s).1.0
  unfolding item_done
  done_preserves scope (Ok f) s h = h
  done_preserves scope (Err e) s h = refusal_preserves (is_passable e) scope e s refl h

pub wide_at : (depth : ℕ) (p : Profile) → passes_over depth p ≡ true → p ≡ profiles.Wide
wide_at depth profiles.Wide h = refl
wide_at depth profiles.Core h = absurd (in_core (module_level depth) h)
  where
    in_core : (b : Bool) → (b && false) ≡ true → ⊥
    in_core true e = absurd (cc e)
    in_core false e = absurd (cc e)

listed_at : (depth : ℕ) (p : Profile) → passes_over depth p ≡ true → module_level depth ≡ true
listed_at depth p h = by_both (module_level depth) (is_wide p) h
  where
    by_both : (b c : Bool) → (b && c) ≡ true → b ≡ true
    by_both true c e = refl
    by_both false c e = absurd (cc e)

module _ {S : Type 0} {accesses : Accesses S} (levels : Levels accesses) where
  either_preserves : (b : Bool) (depth : ℕ) (scope : List Seg) (m : Run S Flow) (s : State S × ℕ) → passes_over depth s.0.profile ≡ b → RunPreserves (levels.at depth) m → (levels.at depth).Leads s.0 (if b then passing scope m s else m s).1.0
  unfolding passing
  either_preserves true depth scope m s is h = done_preserves (levels.at depth) (listed_at depth s.0.profile is) s.0 (wide_at depth s.0.profile is) scope (m s).0 (m s).1 (h.preserves s)
  either_preserves false depth scope m s is h = h.preserves s

  pub item_preserves : (ev : Task → Run S Flow) → PartsLead levels ev → (scope : List Seg) (depth : ℕ) (t : Tree) → RunPreserves (levels.at depth) (item ev scope depth t)
  unfolding item
  item_preserves ev parts scope depth t = record { preserves = λ s. either_preserves (passes_over depth s.0.profile) depth scope (ev (task scope depth t)) s refl (parts.part _) }

-- ---- the counter

module _ {S : Type 0} where
  counted_refusal : (b : Bool) (scope : List Seg) (e : Refusal) (s : State (S × ℕ) × ℕ) → ◌≡◌ {A = Outcome Flow × (State S × ℕ)} (if b then (Ok flow.Next, (with_passed scope e (without_counter s.0), s.1)) else (Err e, (without_counter s.0, s.1)))
      ((if◌then◌else◌ {A = Outcome Flow × (State (S × ℕ) × ℕ)} b (Ok flow.Next, (with_passed scope e s.0, s.1)) (Err e, s)).0, (run_view S).view (if◌then◌else◌ {A = Outcome Flow × (State (S × ℕ) × ℕ)} b (Ok flow.Next, (with_passed scope e s.0, s.1)) (Err e, s)).1)
  counted_refusal true scope e s = refl
  counted_refusal false scope e s = refl

  counted_done : (scope : List Seg) (r : Outcome Flow) (s : State (S × ℕ) × ℕ) → item_done scope r ((run_view S).view s) ≡ ((item_done scope r s).0, (run_view S).view (item_done scope r s).1)
  unfolding item_done
  counted_done scope (Ok f) s = refl
  counted_done scope (Err e) s = counted_refusal (is_passable e) scope e s

  refusal_begins : (b : Bool) (scope : List Seg) (e : Refusal) (s : State (S × ℕ) × ℕ) → (run_view S).Leads s (if◌then◌else◌ {A = Outcome Flow × (State (S × ℕ) × ℕ)} b (Ok flow.Next, (with_passed scope e s.0, s.1)) (Err e, s)).1
  refusal_begins true scope e s = omega arith
  refusal_begins false scope e s = omega arith

  done_begins : (scope : List Seg) (r : Outcome Flow) (s : State (S × ℕ) × ℕ) → (run_view S).Leads s (item_done scope r s).1
  unfolding item_done
  done_begins scope (Ok f) s = omega arith
  done_begins scope (Err e) s = refusal_begins (is_passable e) scope e s

  passing_counts : (scope : List Seg) (m : Run (S × ℕ) Flow) (k : Run S Flow) → RunCounts m k → RunCounts (passing scope m) (passing scope k)
  unfolding passing
  passing_counts scope m k h = record {
    same = λ s. ap (λ (a : Outcome Flow × (State S × ℕ)). item_done scope a.0 a.1) (h.same s) ∙ counted_done scope (m s).0 (m s).1;
    leads = λ s. (run_view S).transitive s (m s).1 (item_done scope (m s).0 (m s).1).1 (h.leads s) (done_begins scope (m s).0 (m s).1);
  }

  either_counts : (b : Bool) (m n : Run (S × ℕ) Flow) (k l : Run S Flow) → RunCounts m k → RunCounts n l → RunCounts (λ s. if b then m s else n s) (λ s. if b then k s else l s)
  either_counts true m n k l f g = record { same = f.same; leads = f.leads }
  either_counts false m n k l f g = record { same = g.same; leads = g.leads }

  pub item_counts : (ev : Task → Run (S × ℕ) Flow) (uncounted : Task → Run S Flow) → ((t : Task) → RunCounts (ev t) (uncounted t)) → (scope : List Seg) (depth : ℕ) (t : Tree) → RunCounts (item ev scope depth t) (item uncounted scope depth t)
  unfolding item
  item_counts ev uncounted parts scope depth t =
      let h = passing_counts scope (ev (task scope depth t)) (uncounted (task scope depth t)) (parts _) in
      record {
        same = λ s. (either_counts (passes_over depth s.0.profile) (passing scope (ev (task scope depth t))) (ev (task scope depth t)) (passing scope (uncounted (task scope depth t))) (uncounted (task scope depth t)) h (parts _)).same s;
        leads = λ s. (either_counts (passes_over depth s.0.profile) (passing scope (ev (task scope depth t))) (ev (task scope depth t)) (passing scope (uncounted (task scope depth t))) (uncounted (task scope depth t)) h (parts _)).leads s;
      }

-- ---- faults of the register space

module _ {S : Type 0} (accesses : Accesses S) where
  -- what is passed over tells of no fault
  pub unfaulted : (e : Refusal) (s t : S) → is_passable e ≡ true → RefusalExplained accesses e s t → Answered accesses s t
  unfaulted (refusals.Space f) s t holds h = absurd (cc holds)
  unfaulted (refusals.Input f) s t holds h = absurd (cc holds)
  unfaulted _ s t holds h = h

  by_refusal : (b : Bool) (scope : List Seg) (e : Refusal) (before : S) (s : State S × ℕ) → is_passable e ≡ b → RefusalExplained accesses e before s.0.space
      → Explained accesses (if◌then◌else◌ {A = Outcome Flow × (State S × ℕ)} b (Ok flow.Next, (with_passed scope e s.0, s.1)) (Err e, s)).0 before (if◌then◌else◌ {A = Outcome Flow × (State S × ℕ)} b (Ok flow.Next, (with_passed scope e s.0, s.1)) (Err e, s)).1.0.space
  by_refusal true scope e before s is h = unfaulted e before s.0.space is h
  by_refusal false scope e before s is h = h

  spent_by_refusal : (b : Bool) (scope : List Seg) (e : Refusal) (s : State S × ℕ) → Spent {A = Flow} (Err e) s.1
      → Spent (if◌then◌else◌ {A = Outcome Flow × (State S × ℕ)} b (Ok flow.Next, (with_passed scope e s.0, s.1)) (Err e, s)).0 (if◌then◌else◌ {A = Outcome Flow × (State S × ℕ)} b (Ok flow.Next, (with_passed scope e s.0, s.1)) (Err e, s)).1.1
  spent_by_refusal true scope e s h = tt
  spent_by_refusal false scope e s h = h

  set_by_refusal : (b : Bool) (scope : List Seg) (e : Refusal) (s : State S × ℕ) → OfSetting {A = Flow} (Err e) (is_low s.0.nesting)
      → OfSetting (if◌then◌else◌ {A = Outcome Flow × (State S × ℕ)} b (Ok flow.Next, (with_passed scope e s.0, s.1)) (Err e, s)).0 (is_low (if◌then◌else◌ {A = Outcome Flow × (State S × ℕ)} b (Ok flow.Next, (with_passed scope e s.0, s.1)) (Err e, s)).1.0.nesting)
  set_by_refusal true scope e s h = tt
  set_by_refusal false scope e s h = h

  done_explained : (scope : List Seg) (r : Outcome Flow) (before : S) (s : State S × ℕ) → Explained accesses r before s.0.space → Explained accesses (item_done scope r s).0 before (item_done scope r s).1.0.space
  unfolding item_done
  done_explained scope (Ok f) before s h = h
  done_explained scope (Err e) before s h = by_refusal (is_passable e) scope e before s refl h

  done_spent : (scope : List Seg) (r : Outcome Flow) (s : State S × ℕ) → Spent r s.1 → Spent (item_done scope r s).0 (item_done scope r s).1.1
  unfolding item_done
  done_spent scope (Ok f) s h = tt
  done_spent scope (Err e) s h = spent_by_refusal (is_passable e) scope e s h

  done_set : (scope : List Seg) (r : Outcome Flow) (s : State S × ℕ) → OfSetting r (is_low s.0.nesting) → OfSetting (item_done scope r s).0 (is_low (item_done scope r s).1.0.nesting)
  unfolding item_done
  done_set scope (Ok f) s h = tt
  done_set scope (Err e) s h = set_by_refusal (is_passable e) scope e s h

  passing_explains : (scope : List Seg) (m : Run S Flow) → RunExplains accesses m → RunExplains accesses (passing scope m)
  unfolding passing
  passing_explains scope m h = record {
    explained = λ s. done_explained scope (m s).0 s.0.space (m s).1 (h.explained s);
    spent = λ s. done_spent scope (m s).0 (m s).1 (h.spent s);
    set = λ s. done_set scope (m s).0 (m s).1 (h.set s);
  }

  pub item_explains : (ev : Task → Run S Flow) → ((t : Task) → RunExplains accesses (ev t)) → (scope : List Seg) (depth : ℕ) (t : Tree) → RunExplains accesses (item ev scope depth t)
  unfolding item
  item_explains ev parts scope depth t = either_branch_explains (λ s. passes_over depth s.0.profile) (passing scope (ev (task scope depth t))) (ev (task scope depth t)) (passing_explains scope (ev (task scope depth t)) (parts _)) (parts _)
