-- Changes whose refusals by a fault of the register space come from their last access, whose refusals for want of steps come where none
-- is left, whose refusals for a depth that the setting doesn't allow come where it allows less than the default, and that no fault of a
-- reader or a writer refuses. A lemma `x_explains` says so of x.
use Rattle.std.specs.Prelude.{◌≡◌, ℕ, zero, suc, ◌==◌, ◌-◌, List, [], ◌∷◌, Bool, true, false, Result, Ok, Err, refl, if◌then◌else◌}
use Rattle.std.proofs.Common.{arith, ap, subst, sym}
use Rattle.ar_space.specs.declared.refusal.SpaceFault.{SpaceFault}
use Rattle.ar_space.specs.declared.refusal.Refusal.{Refusal}
use Rattle.ar_space.specs.declared.refusal.Refusal.TheVariants as refusals
use Rattle.ar_space.specs.declared.refusal.EvaluationFault.{EvaluationFault}
use Rattle.ar_space.specs.declared.refusal.EvaluationFault.TheVariants.{OutOfSteps}
use Rattle.ar_space.specs.declared.space.Width.{Width}
use Rattle.ar_space.specs.declared.space.Place.{Place}
use Rattle.ar_space.specs.Accesses.{Accesses, bit_count}
use Rattle.ar_space.specs.Outcome.{Outcome}
use Rattle.ar_space.specs.Change.{Change, give, stop, settle, go_on, ◌>>=◌}
use Rattle.aml_objects.specs.Objects.{Objects}
use Rattle.aml_objects.specs.declared.entry.FieldUnit.{FieldUnit}
use Rattle.aml_objects.specs.declared.entry.UpdateRule.{UpdateRule}
use Rattle.aml_objects.specs.declared.entry.UpdateRule.TheVariants.{Preserve, WriteAsOnes, WriteAsZeros}
use Rattle.aml_namespace.specs.Namespace.{Namespace}
use Rattle.aml_fields.specs.declared.region.Region.{Region}
use Rattle.aml_fields.specs.declared.field_units.Unit.{Unit as Access}
use Rattle.aml_fields.specs.Units.{units_of}
use Rattle.aml_fields.specs.UnitByUnit.{read_units, bits_read, write_units, kept_by, kept}
use Rattle.aml_fields.specs.Regions.{faulted, read_access, read_unit, read_field, write_access, write_unit, write_field, write_whole}
use Rattle.aml_world.specs.state.State.{State, on_objects, on_names, on_space}
use Rattle.aml_world.specs.state.Run.{Run, lift, charge}
use Rattle.aml_laws.specs.Answered.{Answered}
use Rattle.aml_laws.specs.Answered as by
use Rattle.aml_laws.specs.SpaceFaults.{LastFaults}
use Rattle.aml_laws.specs.SpaceFaults as space_faults
use Rattle.aml_laws.proofs.Charges.{charge_none, charge_one}
use Rattle.aml_laws.proofs.CleanOutcomes.{Clean, CleanRefusal, IsOfLine}
use Rattle.aml_laws.proofs.SetDepths.{OfSetting, CleanWithin, CleanRefusalWithin, CleanFaultWithin, is_low, clean_within, within_of_setting, branch_of_setting, set_anywhere}
use Rattle.aml_laws.proofs.CleanChanges.{AllClean}
use Rattle.aml_laws.proofs.CleanValues.{unit_place_clean}

-- ---- want of steps

abbrev pub SpentFault : EvaluationFault → ℕ → Type 0
SpentFault OutOfSteps rest = rest ≡ 0
SpentFault _ rest = Unit {0}

abbrev pub SpentRefusal : Refusal → ℕ → Type 0
SpentRefusal (refusals.Evaluation fault) rest = SpentFault fault rest
SpentRefusal _ rest = Unit {0}

-- an outcome is no refusal for want of steps, or none is left
abbrev pub Spent : {A : Type 0} → Outcome A → ℕ → Type 0
Spent (Ok a) rest = Unit {0}
Spent (Err e) rest = SpentRefusal e rest

clean_fault_spent : (low : Bool) (f : EvaluationFault) (rest : ℕ) → CleanFaultWithin low f → SpentFault f rest
clean_fault_spent low OutOfSteps rest c = absurd c
clean_fault_spent low _ rest c = tt

clean_refusal_spent : (low : Bool) (e : Refusal) (rest : ℕ) → CleanRefusalWithin low e → SpentRefusal e rest
clean_refusal_spent low (refusals.Evaluation f) rest c = clean_fault_spent low f rest c
clean_refusal_spent low _ rest c = tt

pub clean_spent : {A : Type 0} (low : Bool) (x : Outcome A) (rest : ℕ) → CleanWithin low x → Spent x rest
clean_spent low (Ok a) rest c = tt
clean_spent low (Err e) rest c = clean_refusal_spent low e rest c

-- where a step is left, whatever the rest is
unspent_fault : (f : EvaluationFault) (rest : ℕ) → SpentFault f 1 → SpentFault f rest
unspent_fault OutOfSteps rest h = absurd (omega arith)
unspent_fault _ rest h = tt

unspent_refusal : (e : Refusal) (rest : ℕ) → SpentRefusal e 1 → SpentRefusal e rest
unspent_refusal (refusals.Evaluation f) rest h = unspent_fault f rest h
unspent_refusal _ rest h = tt

unspent : {A : Type 0} (x : Outcome A) (rest : ℕ) → Spent x 1 → Spent x rest
unspent (Ok a) rest h = tt
unspent (Err e) rest h = unspent_refusal e rest h

-- where none is left
fault_with_none : (f : EvaluationFault) → SpentFault f 0
fault_with_none OutOfSteps = refl
fault_with_none _ = tt

refusal_with_none : (e : Refusal) → SpentRefusal e 0
refusal_with_none (refusals.Evaluation f) = fault_with_none f
refusal_with_none _ = tt

pub spent_with_none : {A : Type 0} (x : Outcome A) → Spent x 0
spent_with_none (Ok a) = tt
spent_with_none (Err e) = refusal_with_none e

pub branch_spent : {H A : Type 0} (rest : H → ℕ) (b : Bool) (x y : Outcome A × H) → Spent x.0 (rest x.1) → Spent y.0 (rest y.1) → Spent (if b then x else y).0 (rest (if b then x else y).1)
branch_spent rest true x y f g = f
branch_spent rest false x y f g = g

charge_spent : {S : Type 0} (w : State S) (b : ℕ) → Spent (charge (w, b)).0 (charge (w, b)).1.1
charge_spent w zero = subst (λ (p : Outcome (Unit {0}) × (State _ × ℕ)). Spent p.0 p.1.1) (sym (charge_none w)) refl
charge_spent w (suc b) = subst (λ (p : Outcome (Unit {0}) × (State _ × ℕ)). Spent p.0 p.1.1) (sym (charge_one w b)) tt

faulted_spent : {A : Type 0} (x : Result A SpaceFault) (rest : ℕ) → Spent (faulted x) rest
faulted_spent (Ok n) rest = tt
faulted_spent (Err f) rest = tt

faulted_of_setting : {A : Type 0} (x : Result A SpaceFault) → OfSetting (faulted x) false
faulted_of_setting (Ok n) = tt
faulted_of_setting (Err f) = tt

-- ---- accesses

module _ {S : Type 0} (accesses : Accesses S) where
  abbrev pub RefusalExplained : Refusal → S → S → Type 0
  RefusalExplained (refusals.Space fault) s t = LastFaults accesses fault s t
  RefusalExplained (refusals.Input fault) s t = IsOfLine fault × Answered accesses s t
  RefusalExplained _ s t = Answered accesses s t

  -- a fault of the register space is the answer of the last access, and no other access answers with a fault
  abbrev pub Explained : {A : Type 0} → Outcome A → S → S → Type 0
  Explained (Ok a) s t = Answered accesses s t
  Explained (Err e) s t = RefusalExplained e s t

  -- space: the register space of a state; rest: how many steps are left in it, 1 where no step is asked for, and 0 where that is not
  -- told; low: whether it allows less depth than the default
  pub record Explains {H A : Type 0} (space : H → S) (rest : H → ℕ) (low : H → Bool) (m : Change H A) : Type 0 where
    pub explained : (h : H) → Explained (m h).0 (space h) (space (m h).1)
    pub spent : (h : H) → Spent (m h).0 (rest (m h).1)
    pub set : (h : H) → OfSetting (m h).0 (low (m h).1)

module _ {S : Type 0} {accesses : Accesses S} where
  pub answered_transitive : (s t u : S) → Answered accesses s t → Answered accesses t u → Answered accesses s u
  answered_transitive s t u h by.none = h
  answered_transitive s t u h (by.read v place width value i is) = by.read v place width value (answered_transitive s t v h i) is
  answered_transitive s t u h (by.written v place width value i is) = by.written v place width value (answered_transitive s t v h i) is

module _ {S : Type 0} (accesses : Accesses S) where
  further_refusal : (e : Refusal) (s t u : S) → Answered accesses s t → RefusalExplained accesses e t u → RefusalExplained accesses e s u
  further_refusal (refusals.Space fault) s t u r h = record { last = h.last; reached = answered_transitive s t h.last r h.reached; faults = h.faults }
  further_refusal (refusals.Input fault) s t u r h = (h.0, answered_transitive s t u r h.1)
  further_refusal _ s t u r h = answered_transitive s t u r h

  further : {A : Type 0} (x : Outcome A) (s t u : S) → Answered accesses s t → Explained accesses x t u → Explained accesses x s u
  further (Ok a) s t u r h = answered_transitive s t u r h
  further (Err e) s t u r h = further_refusal e s t u r h

  clean_refusal : (low : Bool) (e : Refusal) (s t : S) → CleanRefusalWithin low e → t ≡ s → RefusalExplained accesses e s t
  clean_refusal low (refusals.Space fault) s t apart e = absurd apart
  clean_refusal low (refusals.Input fault) s t apart e = (apart, subst (λ u. Answered accesses s u) (sym e) by.none)
  clean_refusal low _ s t apart e = subst (λ u. Answered accesses s u) (sym e) by.none

  clean_explained : {A : Type 0} (low : Bool) (x : Outcome A) (s t : S) → CleanWithin low x → t ≡ s → Explained accesses x s t
  clean_explained low (Ok a) s t c e = subst (λ u. Answered accesses s u) (sym e) by.none
  clean_explained low (Err r) s t c e = clean_refusal low r s t c e

  module _ {H : Type 0} (space : H → S) (rest : H → ℕ) (low : H → Bool) where
    branch_explained : {A : Type 0} (b : Bool) (s : S) (x y : Outcome A × H) → Explained accesses x.0 s (space x.1) → Explained accesses y.0 s (space y.1) → Explained accesses (if b then x else y).0 s (space (if b then x else y).1)
    branch_explained true s x y f g = f
    branch_explained false s x y f g = g

    go_on_explained : {A B : Type 0} (s : S) (r : Outcome A) (h : H) (k : A → Change H B) → Explained accesses r s (space h) → ((a : A) → Explains accesses space rest low (k a)) → Explained accesses (go_on r h k).0 s (space (go_on r h k).1)
    unfolding go_on
    go_on_explained s (Ok a) h k r all = further (k a h).0 s (space h) (space (k a h).1) r ((all a).explained h)
    go_on_explained s (Err e) h k r all = r

    go_on_spent : {A B : Type 0} (r : Outcome A) (h : H) (k : A → Change H B) → Spent r (rest h) → ((a : A) → Explains accesses space rest low (k a)) → Spent (go_on r h k).0 (rest (go_on r h k).1)
    unfolding go_on
    go_on_spent (Ok a) h k r all = (all a).spent h
    go_on_spent (Err e) h k r all = r

    go_on_set : {A B : Type 0} (r : Outcome A) (h : H) (k : A → Change H B) → OfSetting r (low h) → ((a : A) → Explains accesses space rest low (k a)) → OfSetting (go_on r h k).0 (low (go_on r h k).1)
    unfolding go_on
    go_on_set (Ok a) h k r all = (all a).set h
    go_on_set (Err e) h k r all = r

module _ {S : Type 0} {accesses : Accesses S} {H : Type 0} {space : H → S} {rest : H → ℕ} {low : H → Bool} where
  -- a change that makes no access, which may be refused for a depth that the setting doesn't allow
  pub direct_or_set_explains : {A : Type 0} (m : Change H A) → ((h : H) → CleanWithin (low (m h).1) (m h).0) → ((h : H) → space (m h).1 ≡ space h) → Explains accesses space rest low m
  direct_or_set_explains m c e = record {
    explained = λ h. clean_explained accesses (low (m h).1) (m h).0 (space h) (space (m h).1) (c h) (e h);
    spent = λ h. clean_spent (low (m h).1) (m h).0 (rest (m h).1) (c h);
    set = λ h. within_of_setting (low (m h).1) (m h).0 (c h);
  }

  -- one that is never refused for it
  pub direct_explains : {A : Type 0} (m : Change H A) → ((h : H) → Clean (m h).0) → ((h : H) → space (m h).1 ≡ space h) → Explains accesses space rest low m
  direct_explains m c e = direct_or_set_explains m (λ h. clean_within (low (m h).1) (m h).0 (c h)) e

  pub give_explains : {A : Type 0} (a : A) → Explains accesses space rest low (give a)
  unfolding give
  give_explains a = direct_explains _ (λ h. tt) (λ h. refl)

  pub stop_explains : {A : Type 0} (e : Refusal) → CleanRefusal e → Explains accesses {A = A} space rest low (stop e)
  unfolding stop
  stop_explains e apart = direct_explains _ (λ h. apart) (λ h. refl)

  pub settle_explains : {A : Type 0} (x : Outcome A) → Clean x → Explains accesses space rest low (settle x)
  unfolding settle
  settle_explains x c = direct_explains _ (λ h. c) (λ h. refl)

  pub then_explains : {A B : Type 0} (m : Change H A) (k : A → Change H B) → Explains accesses space rest low m → ((a : A) → Explains accesses space rest low (k a)) → Explains accesses space rest low (m >>= k)
  unfolding ◌>>=◌
  then_explains m k f all = record {
    explained = λ h. go_on_explained accesses space rest low (space h) (m h).0 (m h).1 k (f.explained h) all;
    spent = λ h. go_on_spent accesses space rest low (m h).0 (m h).1 k (f.spent h) all;
    set = λ h. go_on_set accesses space rest low (m h).0 (m h).1 k (f.set h) all;
  }

  pub either_branch_explains : {A : Type 0} (test : H → Bool) (m k : Change H A) → Explains accesses space rest low m → Explains accesses space rest low k → Explains accesses space rest low (λ h. if test h then m h else k h)
  either_branch_explains test m k f g = record {
    explained = λ h. branch_explained accesses space rest low (test h) (space h) (m h) (k h) (f.explained h) (g.explained h);
    spent = λ h. branch_spent rest (test h) (m h) (k h) (f.spent h) (g.spent h);
    set = λ h. branch_of_setting low (test h) (m h) (k h) (f.set h) (g.set h);
  }

  -- the same where the steps that are left are not told
  pub explains_untold : {A : Type 0} (m : Change H A) → Explains accesses space rest low m → Explains accesses space (λ h. 0) low m
  explains_untold m f = record { explained = f.explained; spent = λ h. spent_with_none (m h).0; set = f.set }

  -- ---- unit by unit

  read_units_explains : (read : Access → Change H ℕ) → ((u : Access) → Explains accesses space rest low (read u)) → (us : List Access) → Explains accesses space rest low (read_units read us)
  unfolding read_units
  read_units_explains read each [] = give_explains _
  read_units_explains read each (u ∷ us) = then_explains _ _ (each u) (λ unit. then_explains _ _ (read_units_explains read each us) (λ bits. give_explains _))

  pub bits_read_explains : (read : Access → Change H ℕ) → ((u : Access) → Explains accesses space rest low (read u)) → (f : FieldUnit) → Explains accesses space rest low (bits_read read f)
  unfolding bits_read
  bits_read_explains read each f = then_explains _ _ (read_units_explains read each (units_of f.bit_offset f.bits f.access)) (λ bits. give_explains _)

  pub write_units_explains : (write : Access → Change H (Unit {0})) → ((u : Access) → Explains accesses space rest low (write u)) → (us : List Access) → Explains accesses space rest low (write_units write us)
  unfolding write_units
  write_units_explains write each [] = give_explains _
  write_units_explains write each (u ∷ us) = then_explains _ _ (each u) (λ done. write_units_explains write each us)

  kept_by_explains : (rule : UpdateRule) (read : Change H ℕ) → Explains accesses space rest low read → Explains accesses space rest low (λ h. kept_by rule read h)
  kept_by_explains Preserve read f = record { explained = f.explained; spent = f.spent; set = f.set }
  kept_by_explains WriteAsOnes read f = record { explained = λ h. by.none; spent = λ h. tt; set = λ h. tt }
  kept_by_explains WriteAsZeros read f = record { explained = λ h. by.none; spent = λ h. tt; set = λ h. tt }

  pub kept_explains : (f : FieldUnit) (u : Access) (read : Change H ℕ) → Explains accesses space rest low read → Explains accesses space rest low (kept f u read)
  unfolding kept
  kept_explains f u read g = record {
    explained = λ h. branch_explained accesses space rest low (u.count == bit_count f.access) (space h) (Ok 0, h) (kept_by f.update read h) by.none ((kept_by_explains f.update read g).explained h);
    spent = λ h. branch_spent rest (u.count == bit_count f.access) (Ok 0, h) (kept_by f.update read h) tt ((kept_by_explains f.update read g).spent h);
    set = λ h. branch_of_setting low (u.count == bit_count f.access) (Ok 0, h) (kept_by f.update read h) tt ((kept_by_explains f.update read g).set h);
  }

-- ---- the register space, worlds, and worlds with the steps that are left

module _ {S : Type 0} (accesses : Accesses S) where
  abbrev pub SpaceExplains : {A : Type 0} → Change S A → Type 0
  SpaceExplains m = Explains accesses (λ s. s) (λ s. 1) (λ s. false) m

  abbrev pub WorldExplains : {A : Type 0} → Change (State S) A → Type 0
  WorldExplains m = Explains accesses (λ w. w.space) (λ w. 1) (λ w. is_low w.nesting) m

  -- what has steps of its own
  abbrev pub EvaluationExplains : {A : Type 0} → Change (State S) A → Type 0
  EvaluationExplains m = Explains accesses (λ w. w.space) (λ w. 0) (λ w. is_low w.nesting) m

  abbrev pub RunExplains : {A : Type 0} → Run S A → Type 0
  RunExplains m = Explains accesses (λ s. s.0.space) (λ s. s.1) (λ s. is_low s.0.nesting) m

module _ {S : Type 0} {accesses : Accesses S} {rest : State S → ℕ} {low : State S → Bool} where
  pub on_objects_explains : {A : Type 0} (m : Change Objects A) → AllClean m → Explains accesses (λ w. w.space) rest low (on_objects m)
  unfolding on_objects
  on_objects_explains m c = direct_explains _ (λ w. c.clean w.objects) (λ w. refl)

  pub on_names_explains : {A : Type 0} (m : Change Namespace A) → AllClean m → Explains accesses (λ w. w.space) rest low (on_names m)
  unfolding on_names
  on_names_explains m c = direct_explains _ (λ w. c.clean w.names) (λ w. refl)

module _ {S : Type 0} {accesses : Accesses S} where
  pub on_space_explains : {A : Type 0} (m : Change S A) → SpaceExplains accesses m → WorldExplains accesses (on_space m)
  unfolding on_space
  on_space_explains m f = record { explained = λ w. f.explained w.space; spent = λ w. f.spent w.space; set = λ w. set_anywhere (m w.space).0 (is_low w.nesting) (f.set w.space) }

  pub lift_explains : {A : Type 0} (m : Change (State S) A) → WorldExplains accesses m → RunExplains accesses (lift m)
  unfolding lift
  lift_explains m f = record { explained = λ s. f.explained s.0; spent = λ s. unspent (m s.0).0 s.1 (f.spent s.0); set = λ s. f.set s.0 }

  pub charge_explains : RunExplains accesses charge
  unfolding charge
  charge_explains = record {
    explained = λ s. branch_explained accesses (λ x. x.0.space) (λ x. x.1) (λ x. is_low x.0.nesting) (s.1 == 0) s.0.space (Err (refusals.Evaluation OutOfSteps), s) (Ok tt, (s.0, s.1 - 1)) by.none by.none;
    spent = λ s. charge_spent s.0 s.1;
    set = λ s. branch_of_setting {H = State S × ℕ} (λ x. is_low x.0.nesting) (s.1 == 0) (Err (refusals.Evaluation OutOfSteps), s) (Ok tt, (s.0, s.1 - 1)) tt tt;
  }

-- ---- fields of regions

module _ {S : Type 0} (accesses : Accesses S) where
  read_explained : (s t : S) (p : Place) (width : Width) (x : Result ℕ SpaceFault) → accesses.reads s p width ≡ (x, t) → Explained accesses (faulted x) s t
  read_explained s t p width (Ok n) e = subst (λ a. Answered accesses s a.1) e (by.read s p width n by.none (ap (λ a. a.0) e))
  read_explained s t p width (Err f) e = record { last = s; reached = by.none; faults = space_faults.read p width e }

  write_explained : (s t : S) (p : Place) (width : Width) (value : ℕ) (x : Result (Unit {0}) SpaceFault) → accesses.writes s p width value ≡ (x, t) → Explained accesses (faulted x) s t
  write_explained s t p width value (Ok n) e = subst (λ a. Answered accesses s a.1) e (by.written s p width value by.none (ap (λ a. a.0) e))
  write_explained s t p width value (Err f) e = record { last = s; reached = by.none; faults = space_faults.written p width value e }

  read_access_explains : (p : Place) (width : Width) → SpaceExplains accesses (read_access accesses p width)
  unfolding read_access
  read_access_explains p width = record { explained = λ s. read_explained s (accesses.reads s p width).1 p width (accesses.reads s p width).0 refl; spent = λ s. faulted_spent (accesses.reads s p width).0 1; set = λ s. faulted_of_setting (accesses.reads s p width).0 }

  write_access_explains : (p : Place) (width : Width) (value : ℕ) → SpaceExplains accesses (write_access accesses p width value)
  unfolding write_access
  write_access_explains p width value = record { explained = λ s. write_explained s (accesses.writes s p width value).1 p width value (accesses.writes s p width value).0 refl; spent = λ s. faulted_spent (accesses.writes s p width value).0 1; set = λ s. faulted_of_setting (accesses.writes s p width value).0 }

  pub read_unit_explains : (r : Region) (width : Width) (u : Access) → SpaceExplains accesses (read_unit accesses r width u)
  unfolding read_unit
  read_unit_explains r width u = then_explains _ _ (settle_explains _ (unit_place_clean r width u.offset)) (λ p. read_access_explains p width)

  pub write_whole_explains : (r : Region) (width : Width) (offset value : ℕ) → SpaceExplains accesses (write_whole accesses r width offset value)
  unfolding write_whole
  write_whole_explains r width offset value = then_explains _ _ (settle_explains _ (unit_place_clean r width offset)) (λ p. write_access_explains p width value)

  write_unit_explains : (r : Region) (f : FieldUnit) (source : List ℕ) (u : Access) → SpaceExplains accesses (write_unit accesses r f source u)
  unfolding write_unit
  write_unit_explains r f source u = then_explains _ _ (settle_explains _ (unit_place_clean r f.access u.offset)) (λ p. then_explains _ _ (kept_explains f u _ (read_access_explains p f.access)) (λ old. write_access_explains p f.access _))

  pub read_field_explains : (r : Region) (f : FieldUnit) → SpaceExplains accesses (read_field accesses r f)
  read_field_explains r f = bits_read_explains _ (read_unit_explains r f.access) f

  pub write_field_explains : (r : Region) (f : FieldUnit) (source : List ℕ) → SpaceExplains accesses (write_field accesses r f source)
  write_field_explains r f source = write_units_explains _ (write_unit_explains r f source) (units_of f.bit_offset f.bits f.access)
