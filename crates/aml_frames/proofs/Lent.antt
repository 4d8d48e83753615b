-- Chains of `?` that read or write a part of the world that is lent: its objects, or the register space.
use Rattle.std.specs.Prelude.{◌≡◌, ℕ, List, Ok, Err, IsErr, IsErrAnd}
use Rattle.ar_space.specs.Accesses.{Accesses}
use Rattle.ar_space.specs.Outcome.{Outcome}
use Rattle.ar_space.specs.Change.{Change, Does, ◌>>=◌}
use Rattle.ar_space.specs.declared.integer_width.IntegerWidth.{IntegerWidth}
use Rattle.ar_space.specs.declared.refusal.Refusal.{Refusal}
use Rattle.aml_arities.specs.declared.arities.Arity.{Arity}
use Rattle.aml_objects.specs.Objects.{Objects}
use Rattle.aml_namespace.specs.Namespace.{Namespace}
use Rattle.aml_world.specs.declared.state.frame.Frame.{Frame}
use Rattle.aml_world.specs.declared.state.profile.Profile.{Profile}
use Rattle.aml_world.specs.declared.state.settings.Nesting.{Nesting}
use Rattle.aml_world.specs.state.PassedOver.{PassedOver}
use Rattle.aml_world.specs.state.State.{State, on_objects, on_space}
use Rattle.aml_world.specs.state.Run.{Run, lift}
use Rattle.aml_world.proofs.Lifted.{objects_seen, objects_changed, space_changed}
use Rattle.aml_meaning.specs.declared.flow.Flow.{Flow}
use Rattle.aml_meaning.specs.Meaning.{meaning}
use Rattle.aml_frames.specs.Follow.{Leads}
use Rattle.aml_frames.specs.Places.{Site}
use Rattle.aml_frames.specs.declared.frames.Next.{Next}
use Rattle.aml_frames.proofs.Stepping.{leads_lift_ok, leads_lift_err}

module _ {S A : Type 0} {ac : Accesses S} {r : Outcome Next} {c : Site} where
  pub leads_seen_ok : {x : A} {w : State S} {s : State S × ℕ} (b : ℕ) (o : Objects) (m : Change Objects A) (k : A → Run S Flow) → Does (Ok x) o m o → o ≡ w.objects → Leads ac (meaning ac) r c s (k x) (w, b) → Leads ac (meaning ac) r c s (lift (on_objects m) >>= k) (w, b)
  leads_seen_ok {w = w} b o m k h is l = leads_lift_ok b (on_objects m) k (objects_seen o m w h is) l

  pub leads_seen_err : {e : Refusal} {w : State S} (b : ℕ) (o : Objects) (m : Change Objects A) (k : A → Run S Flow) → Does {A = A} (Err e) o m o → o ≡ w.objects → IsErr r × IsErrAnd r (λ x. x ≡ e) → Leads ac (meaning ac) r c (w, b) (lift (on_objects m) >>= k) (w, b)
  leads_seen_err {w = w} b o m k h is i = leads_lift_err b (on_objects m) k (objects_seen o m w h is) i

  module _ (n : Namespace) (a : List Arity) (o o1 : Objects) (f : List Frame) (z : ℕ) (p : S) (i : List (List ℕ)) (d : IntegerWidth) (g : Profile) (t : Nesting) (q : PassedOver) (b : ℕ) (w : State S) where
    pub leads_written_ok : {x : A} {s : State S × ℕ} (m : Change Objects A) (k : A → Run S Flow) → Does (Ok x) o1 m o → record { names = n; arities = a; objects = o; frames = f; started = z; space = p; osi = i; width = d; profile = g; nesting = t; passed = q } ≡ w
        → Leads ac (meaning ac) r c s (k x) (record { names = n; arities = a; objects = o1; frames = f; started = z; space = p; osi = i; width = d; profile = g; nesting = t; passed = q }, b) → Leads ac (meaning ac) r c s (lift (on_objects m) >>= k) (w, b)
    leads_written_ok m k h e l = leads_lift_ok b (on_objects m) k (objects_changed n a o o1 f z p i d g t q m w e h) l

    pub leads_written_last : {x : A} (m : Change Objects A) (k : A → Run S Flow) → Does (Ok x) o1 m o → record { names = n; arities = a; objects = o; frames = f; started = z; space = p; osi = i; width = d; profile = g; nesting = t; passed = q } ≡ w
        → Leads ac (meaning ac) r c (record { names = n; arities = a; objects = o1; frames = f; started = z; space = p; osi = i; width = d; profile = g; nesting = t; passed = q }, b) (k x) (record { names = n; arities = a; objects = o1; frames = f; started = z; space = p; osi = i; width = d; profile = g; nesting = t; passed = q }, b)
        → Leads ac (meaning ac) r c (record { names = n; arities = a; objects = o1; frames = f; started = z; space = p; osi = i; width = d; profile = g; nesting = t; passed = q }, b) (lift (on_objects m) >>= k) (w, b)
    leads_written_last m k h e l = leads_written_ok m k h e l

    pub leads_written_err : {e : Refusal} (m : Change Objects A) (k : A → Run S Flow) → Does {A = A} (Err e) o1 m o → record { names = n; arities = a; objects = o; frames = f; started = z; space = p; osi = i; width = d; profile = g; nesting = t; passed = q } ≡ w
        → IsErr r × IsErrAnd r (λ x. x ≡ e) → Leads ac (meaning ac) r c (record { names = n; arities = a; objects = o1; frames = f; started = z; space = p; osi = i; width = d; profile = g; nesting = t; passed = q }, b) (lift (on_objects m) >>= k) (w, b)
    leads_written_err m k h e l = leads_lift_err b (on_objects m) k (objects_changed n a o o1 f z p i d g t q m w e h) l

  module _ (n : Namespace) (a : List Arity) (o : Objects) (f : List Frame) (z : ℕ) (p p1 : S) (i : List (List ℕ)) (d : IntegerWidth) (g : Profile) (t : Nesting) (q : PassedOver) (b : ℕ) (w : State S) where
    pub leads_accessed_ok : {x : A} {s : State S × ℕ} (m : Change S A) (k : A → Run S Flow) → Does (Ok x) p1 m p → record { names = n; arities = a; objects = o; frames = f; started = z; space = p; osi = i; width = d; profile = g; nesting = t; passed = q } ≡ w
        → Leads ac (meaning ac) r c s (k x) (record { names = n; arities = a; objects = o; frames = f; started = z; space = p1; osi = i; width = d; profile = g; nesting = t; passed = q }, b) → Leads ac (meaning ac) r c s (lift (on_space m) >>= k) (w, b)
    leads_accessed_ok m k h e l = leads_lift_ok b (on_space m) k (space_changed n a o f z p p1 i d g t q m w e h) l

    pub leads_accessed_last : {x : A} (m : Change S A) (k : A → Run S Flow) → Does (Ok x) p1 m p → record { names = n; arities = a; objects = o; frames = f; started = z; space = p; osi = i; width = d; profile = g; nesting = t; passed = q } ≡ w
        → Leads ac (meaning ac) r c (record { names = n; arities = a; objects = o; frames = f; started = z; space = p1; osi = i; width = d; profile = g; nesting = t; passed = q }, b) (k x) (record { names = n; arities = a; objects = o; frames = f; started = z; space = p1; osi = i; width = d; profile = g; nesting = t; passed = q }, b)
        → Leads ac (meaning ac) r c (record { names = n; arities = a; objects = o; frames = f; started = z; space = p1; osi = i; width = d; profile = g; nesting = t; passed = q }, b) (lift (on_space m) >>= k) (w, b)
    leads_accessed_last m k h e l = leads_accessed_ok m k h e l

    pub leads_accessed_err : {e : Refusal} (m : Change S A) (k : A → Run S Flow) → Does {A = A} (Err e) p1 m p → record { names = n; arities = a; objects = o; frames = f; started = z; space = p; osi = i; width = d; profile = g; nesting = t; passed = q } ≡ w
        → IsErr r × IsErrAnd r (λ x. x ≡ e) → Leads ac (meaning ac) r c (record { names = n; arities = a; objects = o; frames = f; started = z; space = p1; osi = i; width = d; profile = g; nesting = t; passed = q }, b) (lift (on_space m) >>= k) (w, b)
    leads_accessed_err m k h e l = leads_lift_err b (on_space m) k (space_changed n a o f z p p1 i d g t q m w e h) l

-- these close a chain of `?` that reads objects, or writes objects or the register space at its end
pub ruleset lent = (leads_seen_ok, leads_seen_err, leads_written_last, leads_written_err, leads_accessed_last, leads_accessed_err)
