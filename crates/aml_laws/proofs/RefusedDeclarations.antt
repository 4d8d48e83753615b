-- A declaration that is refused changes nothing.
use Rattle.std.specs.Prelude.{◌≡◌, ℕ, ◌+◌, ◌-◌, ◌^◌, ◌==◌, List, Bool, true, false, Ok, Err, refl, if◌then◌else◌}
use Rattle.std.proofs.Common.{ap}
use Rattle.ar_space.specs.declared.refusal.Refusal.{Refusal}
use Rattle.ar_space.specs.declared.refusal.Refusal.TheVariants as refusal
use Rattle.ar_space.specs.declared.refusal.EvaluationFault.TheVariants.{ObjectLimit}
use Rattle.ar_space.specs.declared.refusal.NamespaceFault.TheVariants.{Exists, NotFound}
use Rattle.ar_space.specs.Outcome.{Outcome}
use Rattle.ar_space.specs.Change.{go_on, ◌>>=◌}
use Rattle.aml_path.specs.declared.segment.Seg.{Seg}
use Rattle.aml_objects.specs.declared.entry.MethodFlags.{MethodFlags}
use Rattle.aml_objects.specs.declared.entry.NamedObject.{NamedObject}
use Rattle.std.specs.FinMap.{contains_key, insert}
use Rattle.aml_namespace.specs.Namespace.{Namespace, above, declared}
use Rattle.aml_world.specs.state.State.{State, on_names}
use Rattle.aml_world.specs.state.Declaring.{not_in_method, new_name, new_method}

refused_by_cases : (a b c : Bool) (x y z e : Refusal) (n : ℕ) (s t : Namespace)
    → (if◌then◌else◌ {A = Outcome ℕ × Namespace} a (if◌then◌else◌ {A = Outcome ℕ × Namespace} b (Err x, s) (if◌then◌else◌ {A = Outcome ℕ × Namespace} c (Err y, s) (Ok n, t))) (Err z, s)).0 ≡ Err e
    → (if◌then◌else◌ {A = Outcome ℕ × Namespace} a (if◌then◌else◌ {A = Outcome ℕ × Namespace} b (Err x, s) (if◌then◌else◌ {A = Outcome ℕ × Namespace} c (Err y, s) (Ok n, t))) (Err z, s)).1 ≡ s
refused_by_cases true true c x y z e n s t h = refl
refused_by_cases true false true x y z e n s t h = refl
refused_by_cases true false false x y z e n s t h = absurd (cc h)
refused_by_cases false b c x y z e n s t h = refl

refused_declared_changes_nothing : (p : List Seg) (o : NamedObject) (s : Namespace) (e : Refusal) → (declared p o s).0 ≡ Err e → (declared p o s).1 ≡ s
unfolding declared
refused_declared_changes_nothing p o s e h =
    refused_by_cases (contains_key s.map (above p)) (contains_key s.map p) (s.next == 2 ^ 64 - 1) (refusal.Namespace Exists) (refusal.Evaluation ObjectLimit) (refusal.Namespace NotFound) e
    s.next s (record { map = insert s.map p (record { number = s.next; object = o }); next = s.next + 1 }) h

go_on_declared_refused : {S : Type 0} (r : Outcome (Unit {0})) (p : List Seg) (o : NamedObject) (w : State S) (e : Refusal) → (go_on r w (λ u. on_names (declared p o))).0 ≡ Err e → (go_on r w (λ u. on_names (declared p o))).1 ≡ w
unfolding go_on on_names
go_on_declared_refused (Ok u) p o w e h = ap (λ n. record w { names = n }) (refused_declared_changes_nothing p o w.names e h)
go_on_declared_refused (Err x) p o w e h = refl

pub refused_name_changes_nothing : {S : Type 0} (module_level : Bool) (p : List Seg) (o : NamedObject) (w : State S) (e : Refusal) → (new_name module_level p o w).0 ≡ Err e → (new_name module_level p o w).1 ≡ w
unfolding new_name ◌>>=◌ not_in_method
refused_name_changes_nothing module_level p o w e h = go_on_declared_refused _ p o w e h

pub refused_method_changes_nothing : {S : Type 0} (module_level : Bool) (p : List Seg) (flags : MethodFlags) (body : List ℕ) (w : State S) (e : Refusal) → (new_method module_level p flags body w).0 ≡ Err e → (new_method module_level p flags body w).1 ≡ w
unfolding new_method
refused_method_changes_nothing module_level p flags body w e h = refused_name_changes_nothing module_level p _ w e h

pub ruleset refused_names_change_nothing = (refused_name_changes_nothing, refused_method_changes_nothing)
