-- At the end of a call no name stands below its control method, and all other names stand as before.
use Rattle.std.specs.Prelude.{◌≡◌, ℕ, ◌-◌, ◌^◌, ◌==◌, List, Bool, true, false, not, None, Ok, Err, is_some, cond, if◌then◌else◌}
use Rattle.std.proofs.Common.{ap, sym, ◌∙◌}
use Rattle.std.specs.declared.cmp.Ordering.TheVariants.{Equal}
use Rattle.std.specs.FinMap.{get, get-retain_keys}
use Rattle.ar_space.specs.declared.refusal.Refusal.{Refusal}
use Rattle.ar_space.specs.declared.refusal.Refusal.TheVariants as refusal
use Rattle.ar_space.specs.declared.refusal.EvaluationFault.TheVariants.{ObjectLimit}
use Rattle.ar_space.specs.Outcome.{Outcome}
use Rattle.ar_space.specs.Change.{Change, go_on, ◌>>=◌}
use Rattle.aml_path.specs.declared.segment.Seg.{Seg}
use Rattle.aml_path.specs.Paths.{path_cmp, is_below}
use Rattle.aml_grammar.specs.Tree.{Trees}
use Rattle.aml_objects.specs.declared.value.Value.{Value}
use Rattle.aml_namespace.specs.Namespace.{without_below}
use Rattle.aml_namespace.proofs.Paths.{only_equal}
use Rattle.aml_world.specs.state.State.{State}
use Rattle.aml_world.specs.state.Run.{Run, lift}
use Rattle.aml_world.specs.state.Slots.{opened, closed}
use Rattle.aml_world.specs.state.Invocations.{body_terms, call_allowed, left}
use Rattle.aml_meaning.specs.declared.flow.Flow.{Flow}
use Rattle.aml_meaning.specs.Tasks.{Task}
use Rattle.aml_meaning.specs.Calls.{leaving, invoked}
use Rattle.aml_laws.specs.Calls.{body_frame, NoneBelow}
use Rattle.aml_laws.proofs.OutsideOfMethods.{retained_apart}

-- ---- the names below a path, removed

pub below_alike : (p r x : List Seg) → path_cmp r x ≡ Equal → not (is_below p x) ≡ not (is_below p r)
below_alike p r x e = ap (λ y. not (is_below p y)) (sym (only_equal r x e))

none_below_removed : {S : Type 0} (w : State S) (p : List Seg) → NoneBelow (record w { names = without_below p w.names }) p
unfolding without_below
none_below_removed w p q below = ap is_some (get-retain_keys w.names.map (λ x. not (is_below p x)) q (below_alike p q)) ∙ ap (λ b. is_some (cond (not b) (get w.names.map q) None)) below

-- ---- one thing after another, as the call does it and as its beginning

-- a call from here, beside what tells whether its body begins
record BodyBegins {S : Type 0} (p : List Seg) (m : Run S Flow) (k : Change (State S) ℕ) : Type 0 where
  begun : (s : State S × ℕ) (n : ℕ) → (k s.0).0 ≡ Ok n → NoneBelow (m s).1.0 p
  refused : (s : State S × ℕ) (e : Refusal) → (k s.0).0 ≡ Err e → m s ≡ (Err e, s)

module _ {S : Type 0} (p : List Seg) where
  go_on_begun : {A : Type 0} (r : Outcome A) (w : State S) (b n : ℕ) (m : A → Run S Flow) (k : A → Change (State S) ℕ) → ((a : A) → BodyBegins p (m a) (k a)) → (go_on r w k).0 ≡ Ok n → NoneBelow (go_on r (w, b) m).1.0 p
  unfolding go_on
  go_on_begun (Ok a) w b n m k h is = (h a).begun (w, b) n is
  go_on_begun (Err e) w b n m k h is = absurd (cc is)

  go_on_refused : {A : Type 0} (r : Outcome A) (w : State S) (b : ℕ) (e : Refusal) (m : A → Run S Flow) (k : A → Change (State S) ℕ) → ((a : A) → BodyBegins p (m a) (k a)) → (go_on r w k).0 ≡ Err e → go_on r (w, b) m ≡ (Err e, (w, b))
  unfolding go_on
  go_on_refused (Ok a) w b e m k h is = (h a).refused (w, b) e is
  go_on_refused (Err x) w b e m k h is = let same : x ≡ e = cc is in ap (λ (y : Refusal). (Err y, (w, b))) same

  body_terms_body_begins : (body : List ℕ) (m : Trees → Run S Flow) (k : Trees → Change (State S) ℕ) → ((a : Trees) → BodyBegins p (m a) (k a)) → BodyBegins p (lift (body_terms p body) >>= m) (body_terms p body >>= k)
  unfolding lift body_terms ◌>>=◌
  body_terms_body_begins body m k h = record { begun = λ s n is. go_on_begun _ s.0 s.1 n m k h is; refused = λ s e is. go_on_refused _ s.0 s.1 e m k h is }

  call_allowed_body_begins : (depth : ℕ) (m : Unit {0} → Run S Flow) (k : Unit {0} → Change (State S) ℕ) → ((a : Unit {0}) → BodyBegins p (m a) (k a)) → BodyBegins p (lift (call_allowed depth) >>= m) (call_allowed depth >>= k)
  unfolding lift call_allowed ◌>>=◌
  call_allowed_body_begins depth m k h = record { begun = λ s n is. go_on_begun _ s.0 s.1 n m k h is; refused = λ s e is. go_on_refused _ s.0 s.1 e m k h is }

  begun_by_cases : (b : Bool) (e : Refusal) (n j c : ℕ) (w v : State S) (m : Run S Flow) → (if◌then◌else◌ {A = Outcome ℕ × State S} b (Err e, w) (Ok j, v)).0 ≡ Ok n
      → NoneBelow (go_on (if◌then◌else◌ {A = Outcome ℕ × State S} b (Err e, w) (Ok j, v)).0 ((if◌then◌else◌ {A = Outcome ℕ × State S} b (Err e, w) (Ok j, v)).1, c) (λ i. leaving p m)).1.0 p
  unfolding go_on leaving
  begun_by_cases true e n j c w v m is = absurd (cc is)
  begun_by_cases false e n j c w v m is = none_below_removed (closed (m (v, c)).1.0) p

  refused_by_cases : (b : Bool) (e x : Refusal) (j c : ℕ) (w v : State S) (m : Run S Flow) → (if◌then◌else◌ {A = Outcome ℕ × State S} b (Err e, w) (Ok j, v)).0 ≡ Err x
      → go_on (if◌then◌else◌ {A = Outcome ℕ × State S} b (Err e, w) (Ok j, v)).0 ((if◌then◌else◌ {A = Outcome ℕ × State S} b (Err e, w) (Ok j, v)).1, c) (λ i. leaving p m) ≡ (Err x, (w, c))
  unfolding go_on
  refused_by_cases true e x j c w v m is = let same : e ≡ x = cc is in ap (λ (y : Refusal). (Err y, (w, c))) same
  refused_by_cases false e x j c w v m is = absurd (cc is)

  opened_body_begins : (vs : List Value) (m : Run S Flow) → BodyBegins p (lift (opened vs) >>= (λ n. leaving p m)) (opened vs)
  unfolding lift opened ◌>>=◌
  opened_body_begins vs m = record {
    begun = λ s n is. begun_by_cases (s.0.started == 2 ^ 64 - 1) (refusal.Evaluation ObjectLimit) n s.0.started s.1 s.0 _ m is;
    refused = λ s e is. refused_by_cases (s.0.started == 2 ^ 64 - 1) (refusal.Evaluation ObjectLimit) e s.0.started s.1 s.0 _ m is;
  }

  invoked_body_begins : (ev : Task → Run S Flow) (depth : ℕ) (body : List ℕ) (arguments : List Value) → BodyBegins p (invoked ev depth p body arguments) (body_frame depth p body arguments)
  unfolding invoked body_frame
  invoked_body_begins ev depth body arguments = call_allowed_body_begins depth _ _ (λ few. body_terms_body_begins body _ _ (λ ts. opened_body_begins _ _))

pub none_below_after_call : {S : Type 0} (ev : Task → Run S Flow) (depth : ℕ) (p : List Seg) (body : List ℕ) (arguments : List Value) (s : State S × ℕ) (n : ℕ) → (body_frame depth p body arguments s.0).0 ≡ Ok n → NoneBelow (invoked ev depth p body arguments s).1.0 p
none_below_after_call ev depth p body arguments s n is = (invoked_body_begins p ev depth body arguments).begun s n is

pub not_begun_is_refused : {S : Type 0} (ev : Task → Run S Flow) (depth : ℕ) (p : List Seg) (body : List ℕ) (arguments : List Value) (s : State S × ℕ) (e : Refusal) → (body_frame depth p body arguments s.0).0 ≡ Err e → invoked ev depth p body arguments s ≡ (Err e, s)
not_begun_is_refused ev depth p body arguments s e is = (invoked_body_begins p ev depth body arguments).refused s e is

pub refused_call_changes_nothing : {S : Type 0} (ev : Task → Run S Flow) (depth : ℕ) (p : List Seg) (body : List ℕ) (arguments : List Value) (s : State S × ℕ) (e : Refusal) → (body_frame depth p body arguments s.0).0 ≡ Err e → (invoked ev depth p body arguments s).1.0 ≡ s.0
refused_call_changes_nothing {S} ev depth p body arguments s e is = ap (λ (r : Outcome Flow × (State S × ℕ)). r.1.0) (not_begun_is_refused ev depth p body arguments s e is)

-- at the end of a call no name is removed that isn't below its control method
pub other_names_stay : {S : Type 0} (w : State S) (p q : List Seg) → is_below p q ≡ false → get (left p w).names.map q ≡ get w.names.map q
unfolding without_below
other_names_stay w p q h = retained_apart w.names.map p q h
