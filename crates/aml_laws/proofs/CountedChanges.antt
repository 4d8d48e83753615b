-- Changes over a space with a counter that do what others do without it. A lemma `x_counts` says so of x.
use Rattle.std.specs.Prelude.{◌≡◌, ℕ, ◌==◌, ◌+◌, ◌-◌, ◌≤◌, List, [], ◌∷◌, Bool, true, false, Ok, Err, refl, if◌then◌else◌}
use Rattle.std.proofs.Common.{arith, ap, ◌∙◌}
use Rattle.ar_space.specs.declared.refusal.Refusal.{Refusal}
use Rattle.ar_space.specs.declared.refusal.Refusal.TheVariants as refusal
use Rattle.ar_space.specs.declared.refusal.EvaluationFault.TheVariants.{OutOfSteps}
use Rattle.ar_space.specs.declared.space.Width.{Width}
use Rattle.ar_space.specs.declared.space.Place.{Place}
use Rattle.ar_space.specs.Accesses.{Accesses, bit_count}
use Rattle.ar_space.specs.Outcome.{Outcome}
use Rattle.ar_space.specs.Change.{Change, give, stop, settle, go_on, ◌>>=◌}
use Rattle.aml_objects.specs.Objects.{Objects}
use Rattle.aml_objects.specs.declared.entry.FieldUnit.{FieldUnit}
use Rattle.aml_objects.specs.declared.entry.UpdateRule.{UpdateRule}
use Rattle.aml_objects.specs.declared.entry.UpdateRule.TheVariants.{Preserve, WriteAsOnes, WriteAsZeros}
use Rattle.aml_namespace.specs.Namespace.{Namespace}
use Rattle.aml_fields.specs.declared.region.Region.{Region}
use Rattle.aml_fields.specs.declared.field_units.Unit.{Unit as Access}
use Rattle.aml_fields.specs.Units.{units_of}
use Rattle.aml_fields.specs.UnitByUnit.{read_units, bits_read, write_units, kept_by, kept}
use Rattle.aml_fields.specs.Regions.{read_access, read_unit, read_field, write_access, write_unit, write_field, write_whole}
use Rattle.aml_world.specs.fields.Bridges.{secondary_bus}
use Rattle.aml_world.specs.state.State.{State, on_objects, on_names, on_space}
use Rattle.aml_world.specs.state.Run.{Run, lift, charge}
use Rattle.aml_laws.specs.Counted.{beside_counter, without_counter}
use Rattle.aml_laws.proofs.Preorders.{either_branch}

-- ---- a state with a counter, seen without it, and where the counter may lead

pub record View (H G : Type 0) : Type 1 where
  pub view : H → G
  pub Leads : H → H → Type 0
  pub reflexive : (h : H) → Leads h h
  pub transitive : (h i j : H) → Leads h i → Leads i j → Leads h j

pub record Counted {H G A : Type 0} (V : View H G) (m : Change H A) (k : Change G A) : Type 0 where
  pub same : (h : H) → k (V.view h) ≡ ((m h).0, V.view (m h).1)
  pub leads : (h : H) → V.Leads h (m h).1

module _ {H G : Type 0} {V : View H G} where
  pub give_counts : {A : Type 0} (a : A) → Counted V (give a) (give a)
  unfolding give
  give_counts a = record { same = λ h. refl; leads = V.reflexive }

  pub stop_counts : {A : Type 0} (e : Refusal) → Counted {A = A} V (stop e) (stop e)
  unfolding stop
  stop_counts e = record { same = λ h. refl; leads = V.reflexive }

  pub settle_counts : {A : Type 0} (x : Outcome A) → Counted V (settle x) (settle x)
  unfolding settle
  settle_counts x = record { same = λ h. refl; leads = V.reflexive }

  go_on_same : {A B : Type 0} (r : Outcome A) (h : H) (m : A → Change H B) (k : A → Change G B) → ((a : A) → Counted V (m a) (k a)) → go_on r (V.view h) k ≡ ((go_on r h m).0, V.view (go_on r h m).1)
  unfolding go_on
  go_on_same (Ok a) h m k all = (all a).same h
  go_on_same (Err e) h m k all = refl

  go_on_leads : {A B : Type 0} (g : H) (r : Outcome A) (h : H) (m : A → Change H B) (k : A → Change G B) → ((a : A) → Counted V (m a) (k a)) → V.Leads g h → V.Leads g (go_on r h m).1
  unfolding go_on
  go_on_leads g (Ok a) h m k all l = V.transitive g h _ l ((all a).leads h)
  go_on_leads g (Err e) h m k all l = l

  pub then_counts : {A B : Type 0} (m : Change H A) (k : Change G A) (n : A → Change H B) (l : A → Change G B) → Counted V m k → ((a : A) → Counted V (n a) (l a)) → Counted V (m >>= n) (k >>= l)
  unfolding ◌>>=◌
  then_counts m k n l f all = record {
    same = λ h. ap (λ a. go_on a.0 a.1 l) (f.same h) ∙ go_on_same (m h).0 (m h).1 n l all;
    leads = λ h. go_on_leads h (m h).0 (m h).1 n l all (f.leads h);
  }

  -- ---- unit by unit

  read_units_counts : (read : Access → Change H ℕ) (other : Access → Change G ℕ) → ((u : Access) → Counted V (read u) (other u)) → (us : List Access) → Counted V (read_units read us) (read_units other us)
  unfolding read_units
  read_units_counts read other each [] = give_counts _
  read_units_counts read other each (u ∷ us) = then_counts _ _ _ _ (each u) (λ unit. then_counts _ _ _ _ (read_units_counts read other each us) (λ bits. give_counts _))

  pub bits_read_counts : (read : Access → Change H ℕ) (other : Access → Change G ℕ) → ((u : Access) → Counted V (read u) (other u)) → (f : FieldUnit) → Counted V (bits_read read f) (bits_read other f)
  unfolding bits_read
  bits_read_counts read other each f = then_counts _ _ _ _ (read_units_counts read other each (units_of f.bit_offset f.bits f.access)) (λ bits. give_counts _)

  pub write_units_counts : (write : Access → Change H (Unit {0})) (other : Access → Change G (Unit {0})) → ((u : Access) → Counted V (write u) (other u)) → (us : List Access) → Counted V (write_units write us) (write_units other us)
  unfolding write_units
  write_units_counts write other each [] = give_counts _
  write_units_counts write other each (u ∷ us) = then_counts _ _ _ _ (each u) (λ done. write_units_counts write other each us)

  kept_or_whole_counts : (rule : UpdateRule) (whole : Bool) (read : Change H ℕ) (other : Change G ℕ) → Counted V read other → Counted V (λ h. if whole then (Ok 0, h) else kept_by rule read h) (λ g. if whole then (Ok 0, g) else kept_by rule other g)
  kept_or_whole_counts rule true read other f = record { same = λ h. refl; leads = V.reflexive }
  kept_or_whole_counts Preserve false read other f = record { same = f.same; leads = f.leads }
  kept_or_whole_counts WriteAsOnes false read other f = record { same = λ h. refl; leads = V.reflexive }
  kept_or_whole_counts WriteAsZeros false read other f = record { same = λ h. refl; leads = V.reflexive }

  pub kept_counts : (f : FieldUnit) (u : Access) (read : Change H ℕ) (other : Change G ℕ) → Counted V read other → Counted V (kept f u read) (kept f u other)
  unfolding kept
  kept_counts f u read other g = kept_or_whole_counts f.update (u.count == bit_count f.access) read other g

-- ---- the register space, worlds, and worlds with the steps that are left

-- accesses leave the counter as it is
abbrev pub space_view : (S : Type 0) → View (S × ℕ) S
space_view S = record { view = λ s. s.0; Leads = λ s t. t.1 ≡ s.1; reflexive = λ s. refl; transitive = λ s t u h i. i ∙ h }

-- so do changes of a world
abbrev pub world_view : (S : Type 0) → View (State (S × ℕ)) (State S)
world_view S = record { view = without_counter; Leads = λ w v. v.space.1 ≡ w.space.1; reflexive = λ w. refl; transitive = λ u v w h i. i ∙ h }

-- the terms that have begun and the steps that are left never are more together
abbrev pub run_view : (S : Type 0) → View (State (S × ℕ) × ℕ) (State S × ℕ)
run_view S = record {
  view = λ s. (without_counter s.0, s.1);
  Leads = λ s t. t.0.space.1 + t.1 ≤ s.0.space.1 + s.1;
  reflexive = λ s. omega arith;
  transitive = λ s t u h i. omega (arith, h, i);
}

abbrev pub Counts : {S A : Type 0} → Change (State (S × ℕ)) A → Change (State S) A → Type 0
Counts {S = S} m k = Counted (world_view S) m k

abbrev pub RunCounts : {S A : Type 0} → Run (S × ℕ) A → Run S A → Type 0
RunCounts {S = S} m k = Counted (run_view S) m k

branch_same : {H G A : Type 0} (view : H → G) (b : Bool) (x y : Outcome A × H) → ◌≡◌ {A = Outcome A × G} (if b then (x.0, view x.1) else (y.0, view y.1)) ((if b then x else y).0, view (if b then x else y).1)
branch_same view true x y = refl
branch_same view false x y = refl

module _ {S : Type 0} where
  -- what a change answers and leaves without the counter, and that it leaves the counter
  pub direct_counts : {A : Type 0} (m : Change (State (S × ℕ)) A) (k : Change (State S) A) → ((w : State (S × ℕ)) → k (without_counter w) ≡ ((m w).0, without_counter (m w).1)) → ((w : State (S × ℕ)) → (m w).1.space.1 ≡ w.space.1) → Counts m k
  direct_counts m k h i = record { same = h; leads = i }

  pub either_branch_counts : {A : Type 0} (test : State S → Bool) (m n : Change (State (S × ℕ)) A) (k l : Change (State S) A) → Counts m k → Counts n l
      → Counts (λ w. if test (without_counter w) then m w else n w) (λ w. if test w then k w else l w)
  either_branch_counts test m n k l f g = record { same = λ w. same_by_cases (test (without_counter w)) w; leads = λ w. leads_by_cases (test (without_counter w)) w }
    where
      same_by_cases : (b : Bool) (w : State (S × ℕ)) → (if b then k (without_counter w) else l (without_counter w)) ≡ ((if b then m w else n w).0, without_counter (if b then m w else n w).1)
      same_by_cases true w = f.same w
      same_by_cases false w = g.same w

      leads_by_cases : (b : Bool) (w : State (S × ℕ)) → (if b then m w else n w).1.space.1 ≡ w.space.1
      leads_by_cases true w = f.leads w
      leads_by_cases false w = g.leads w

  pub on_objects_counts : {A : Type 0} (m : Change Objects A) → Counts {S = S} (on_objects m) (on_objects m)
  unfolding on_objects
  on_objects_counts m = record { same = λ w. refl; leads = λ w. refl }

  pub on_names_counts : {A : Type 0} (m : Change Namespace A) → Counts {S = S} (on_names m) (on_names m)
  unfolding on_names
  on_names_counts m = record { same = λ w. refl; leads = λ w. refl }

  pub on_space_counts : {A : Type 0} (m : Change (S × ℕ) A) (k : Change S A) → Counted (space_view S) m k → Counts (on_space m) (on_space k)
  unfolding on_space
  on_space_counts m k h = record { same = λ w. ap (λ a. (a.0, record (without_counter w) { space = a.1 })) (h.same w.space); leads = λ w. h.leads w.space }

  pub lift_counts : {A : Type 0} (m : Change (State (S × ℕ)) A) (k : Change (State S) A) → Counts m k → RunCounts (lift m) (lift k)
  unfolding lift
  lift_counts m k h = record { same = λ s. ap (λ a. (a.0, (a.1, s.1))) (h.same s.0); leads = λ s. let e = h.leads s.0 in omega (arith, e) }

  pub charge_counts : RunCounts {S = S} charge charge
  unfolding charge
  charge_counts = record {
    same = λ s. branch_same (run_view S).view (s.1 == 0) (Err (refusal.Evaluation OutOfSteps), s) (Ok tt, (s.0, s.1 - 1));
    leads = λ s. either_branch (λ (x : Outcome (Unit {0}) × (State (S × ℕ) × ℕ)). x.1.0.space.1 + x.1.1 ≤ s.0.space.1 + s.1) (s.1 == 0) _ _ (omega arith) (omega arith);
  }

-- ---- fields of regions

module _ {S : Type 0} (accesses : Accesses S) where
  read_access_counts : (p : Place) (width : Width) → Counted (space_view S) (read_access (beside_counter accesses) p width) (read_access accesses p width)
  unfolding read_access beside_counter
  read_access_counts p width = record { same = λ s. refl; leads = λ s. refl }

  write_access_counts : (p : Place) (width : Width) (value : ℕ) → Counted (space_view S) (write_access (beside_counter accesses) p width value) (write_access accesses p width value)
  unfolding write_access beside_counter
  write_access_counts p width value = record { same = λ s. refl; leads = λ s. refl }

  pub read_unit_counts : (r : Region) (width : Width) (u : Access) → Counted (space_view S) (read_unit (beside_counter accesses) r width u) (read_unit accesses r width u)
  unfolding read_unit
  read_unit_counts r width u = then_counts _ _ _ _ (settle_counts _) (λ p. read_access_counts p width)

  write_unit_counts : (r : Region) (f : FieldUnit) (source : List ℕ) (u : Access) → Counted (space_view S) (write_unit (beside_counter accesses) r f source u) (write_unit accesses r f source u)
  unfolding write_unit
  write_unit_counts r f source u = then_counts _ _ _ _ (settle_counts _) (λ p. then_counts _ _ _ _ (kept_counts f u _ _ (read_access_counts p f.access)) (λ old. write_access_counts p f.access _))

  pub write_whole_counts : (r : Region) (width : Width) (offset value : ℕ) → Counted (space_view S) (write_whole (beside_counter accesses) r width offset value) (write_whole accesses r width offset value)
  unfolding write_whole
  write_whole_counts r width offset value = then_counts _ _ _ _ (settle_counts _) (λ p. write_access_counts p width value)

  pub secondary_bus_counts : (seg bus address : ℕ) → Counted (space_view S) (secondary_bus (beside_counter accesses) seg bus address) (secondary_bus accesses seg bus address)
  unfolding secondary_bus
  secondary_bus_counts seg bus address =
      then_counts _ _ _ _ (settle_counts _) (λ function. then_counts _ _ _ _ (read_unit_counts _ _ _) (λ kind. then_counts _ _ _ _ (settle_counts _) (λ bridge. read_unit_counts _ _ _)))

  pub read_field_counts : (r : Region) (f : FieldUnit) → Counted (space_view S) (read_field (beside_counter accesses) r f) (read_field accesses r f)
  read_field_counts r f = bits_read_counts _ _ (read_unit_counts r f.access) f

  pub write_field_counts : (r : Region) (f : FieldUnit) (source : List ℕ) → Counted (space_view S) (write_field (beside_counter accesses) r f source) (write_field accesses r f source)
  write_field_counts r f source = write_units_counts _ _ (write_unit_counts r f source) (units_of f.bit_offset f.bits f.access)
