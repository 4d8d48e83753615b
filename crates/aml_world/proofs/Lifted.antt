-- A change of a part of the world is a change of the world.
use Rattle.std.specs.Prelude.{◌≡◌, ℕ, List, Bool, true, false, Ok, Err, IsErr, IsErrAnd, nat_lt}
use Rattle.std.proofs.Common.{ap, refl, subst, sym, ◌∙◌}
use Rattle.ar_space.specs.declared.integer_width.IntegerWidth.{IntegerWidth}
use Rattle.ar_space.specs.Outcome.{Outcome}
use Rattle.ar_space.specs.declared.refusal.Refusal.{Refusal}
use Rattle.ar_space.specs.Change.{Change, Does, give, ◌>>=◌}
use Rattle.ar_space.proofs.Changes.{does_ok, does_err, does_give, changing}
use Rattle.aml_path.specs.declared.segment.Seg.{Seg}
use Rattle.aml_arities.specs.declared.arities.Arity.{Arity}
use Rattle.aml_convert.specs.Integers.{bits_of}
use Rattle.aml_objects.specs.Objects.{Objects, make_buffer}
use Rattle.aml_objects.specs.declared.value.Value.{Value}
use Rattle.aml_namespace.specs.Namespace.{Namespace}
use Rattle.aml_world.specs.declared.state.frame.Frame.{Frame}
use Rattle.aml_world.specs.declared.state.profile.Profile.{Profile}
use Rattle.aml_world.specs.declared.state.settings.Nesting.{Nesting}
use Rattle.aml_world.specs.state.PassedOver.{PassedOver, is_passable}
use Rattle.aml_world.specs.state.Noting.{noted, passed_noted, passed_over}
use Rattle.aml_world.specs.fields.Regions.{value_of_bits}
use Rattle.aml_world.specs.state.State.{State, on_objects, on_names, on_space}
use Rattle.aml_world.specs.state.Known.{Known, on_known}

module _ {S A : Type 0} {r : Outcome A} where
  pub objects_changed : (n : Namespace) (a : List Arity) (o o1 : Objects) (f : List Frame) (s : ℕ) (p : S) (i : List (List ℕ)) (d : IntegerWidth) (g : Profile) (z : Nesting) (q : PassedOver) (m : Change Objects A) (w : State S)
      → record { names = n; arities = a; objects = o; frames = f; started = s; space = p; osi = i; width = d; profile = g; nesting = z; passed = q } ≡ w → Does r o1 m o
      → Does r (record { names = n; arities = a; objects = o1; frames = f; started = s; space = p; osi = i; width = d; profile = g; nesting = z; passed = q }) (on_objects m) w
  unfolding on_objects
  objects_changed n a o o1 f s p i d g z q m w e h = record { is = λ ne. rw (← e, h.is ne) refl }

  pub objects_read : (n : Namespace) (a : List Arity) (o : Objects) (f : List Frame) (s : ℕ) (p : S) (i : List (List ℕ)) (d : IntegerWidth) (g : Profile) (z : Nesting) (q : PassedOver) (m : Change Objects A) (w : State S)
      → record { names = n; arities = a; objects = o; frames = f; started = s; space = p; osi = i; width = d; profile = g; nesting = z; passed = q } ≡ w → Does r o m o → Does r w (on_objects m) w
  unfolding on_objects
  objects_read n a o f s p i d g z q m w e h = record { is = λ ne. rw (← e, h.is ne) refl }

  pub space_changed : (n : Namespace) (a : List Arity) (o : Objects) (f : List Frame) (s : ℕ) (p p1 : S) (i : List (List ℕ)) (d : IntegerWidth) (g : Profile) (z : Nesting) (q : PassedOver) (m : Change S A) (w : State S)
      → record { names = n; arities = a; objects = o; frames = f; started = s; space = p; osi = i; width = d; profile = g; nesting = z; passed = q } ≡ w → Does r p1 m p
      → Does r (record { names = n; arities = a; objects = o; frames = f; started = s; space = p1; osi = i; width = d; profile = g; nesting = z; passed = q }) (on_space m) w
  unfolding on_space
  space_changed n a o f s p p1 i d g z q m w e h = record { is = λ ne. rw (← e, h.is ne) refl }

  pub known_changed : (k k1 : Known) (o : Objects) (f : List Frame) (s : ℕ) (p : S) (i : List (List ℕ)) (d : IntegerWidth) (g : Profile) (z : Nesting) (q : PassedOver) (m : Change Namespace A) (w : State S)
      → record { names = k.names; arities = k.arities; objects = o; frames = f; started = s; space = p; osi = i; width = d; profile = g; nesting = z; passed = q } ≡ w → Does r k1 (on_known m) k
      → Does r (record { names = k1.names; arities = k1.arities; objects = o; frames = f; started = s; space = p; osi = i; width = d; profile = g; nesting = z; passed = q }) (on_names m) w
  unfolding on_names on_known
  known_changed k k1 o f s p i d g z q m w e h = record {
    is = λ ne.
        rw (← e) (ap (λ (x : Outcome A × Known). (x.0, record { names = x.1.names; arities = x.1.arities; objects = o; frames = f; started = s; space = p; osi = i; width = d; profile = g; nesting = z; passed = q })) (h.is ne));
  }

-- what is read of the objects
pub objects_seen : {S A : Type 0} {r : Outcome A} (o : Objects) (m : Change Objects A) (w : State S) → Does r o m o → o ≡ w.objects → Does r w (on_objects m) w
unfolding on_objects
objects_seen {r = r} o m w h is = record {
  is = λ ne.
      let here : m w.objects ≡ (r, w.objects) = subst (λ (x : Objects). m x ≡ (r, x)) is (h.is ne) in
      rw here refl;
}

pub seen_ok : {S A B : Type 0} {a : A} {r : Outcome B} {w w1 : State S} (o : Objects) (m : Change Objects A) (k : A → Change (State S) B) → Does (Ok a) o m o → o ≡ w.objects → Does r w1 (k a) w → Does r w1 (on_objects m >>= k) w
seen_ok {w = w} o m k h is i = does_ok (on_objects m) k (objects_seen o m w h is) i

pub seen_err : {S A B : Type 0} {e : Refusal} {r : Outcome B} {w : State S} (o : Objects) (m : Change Objects A) (k : A → Change (State S) B) → Does {A = A} (Err e) o m o → o ≡ w.objects → IsErr r × IsErrAnd r (λ x. x ≡ e) → Does r w (on_objects m >>= k) w
seen_err {w = w} o m k h is i = does_err (on_objects m) k (objects_seen o m w h is) i

-- these close a chain of `?` that reads objects
pub ruleset reading = (changing, objects_seen, seen_ok, seen_err)

-- the same, where objects are written last
given : {S A : Type 0} {x : A} {s : S} {m : Change S A} → m ≡ give x → Does (Ok x) s m s
given e = rw e does_give

module _ {S A B : Type 0} (n : Namespace) (a : List Arity) (o o1 : Objects) (f : List Frame) (s : ℕ) (p : S) (i : List (List ℕ)) (d : IntegerWidth) (g : Profile) (z : Nesting) (q : PassedOver) (m : Change Objects A) (k : A → Change (State S) B) (w : State S) where
  pub written_last : {x : A} {y : B} → Does (Ok x) o1 m o → record { names = n; arities = a; objects = o; frames = f; started = s; space = p; osi = i; width = d; profile = g; nesting = z; passed = q } ≡ w → k x ≡ give y
      → Does (Ok y) (record { names = n; arities = a; objects = o1; frames = f; started = s; space = p; osi = i; width = d; profile = g; nesting = z; passed = q }) (on_objects m >>= k) w
  written_last h e t = does_ok (on_objects m) k (objects_changed n a o o1 f s p i d g z q m w e h) (given t)

  pub written_ok : {x : A} {r : Outcome B} {w1 : State S} → Does (Ok x) o1 m o → record { names = n; arities = a; objects = o; frames = f; started = s; space = p; osi = i; width = d; profile = g; nesting = z; passed = q } ≡ w
      → Does r w1 (k x) (record { names = n; arities = a; objects = o1; frames = f; started = s; space = p; osi = i; width = d; profile = g; nesting = z; passed = q }) → Does r w1 (on_objects m >>= k) w
  written_ok h e t = does_ok (on_objects m) k (objects_changed n a o o1 f s p i d g z q m w e h) t

  pub written_err : {x : Refusal} {r : Outcome B} → Does {A = A} (Err x) o1 m o → record { names = n; arities = a; objects = o; frames = f; started = s; space = p; osi = i; width = d; profile = g; nesting = z; passed = q } ≡ w → IsErr r × IsErrAnd r (λ y. y ≡ x)
      → Does r (record { names = n; arities = a; objects = o1; frames = f; started = s; space = p; osi = i; width = d; profile = g; nesting = z; passed = q }) (on_objects m >>= k) w
  written_err h e t = does_err (on_objects m) k (objects_changed n a o o1 f s p i d g z q m w e h) t

-- these close a chain of `?` that writes objects at its end
pub ruleset writing = (reading, written_last, written_err)

-- these close one that makes an object at its end
pub ruleset making = (changing, objects_changed)

-- more bits than an integer has are a new buffer
pub wide_bits : {S : Type 0} {r : Outcome Value} {w1 : State S} (v w : State S) (count : ℕ) (bytes : List ℕ) → v ≡ w → nat_lt (bits_of v.width) count ≡ true → Does r w1 (on_objects (make_buffer bytes)) v → Does r w1 (value_of_bits count bytes) w
unfolding value_of_bits
wide_bits {r = r} {w1 = w1} v w count bytes same wide h = subst (λ (s : State _). Does r w1 (value_of_bits count bytes) s) same (record { is = λ ne. rw wide (h.is ne) })

pub ruleset parts = (objects_changed, objects_read, known_changed, space_changed)

-- ---- what is passed over is noted

module _ {S : Type 0} {r : Outcome (Unit {0})} where
  pub passed_changed : (n : Namespace) (a : List Arity) (o : Objects) (f : List Frame) (s : ℕ) (p : S) (i : List (List ℕ)) (d : IntegerWidth) (g : Profile) (z : Nesting) (q q1 : PassedOver) (scope : List Seg) (e : Refusal) (w : State S)
      → record { names = n; arities = a; objects = o; frames = f; started = s; space = p; osi = i; width = d; profile = g; nesting = z; passed = q } ≡ w → Does r q1 (noted scope e) q
      → Does r (record { names = n; arities = a; objects = o; frames = f; started = s; space = p; osi = i; width = d; profile = g; nesting = z; passed = q1 }) (passed_noted scope e) w
  unfolding noted passed_noted
  passed_changed n a o f s p i d g z q q1 scope e w is h = record {
    is = λ ne. rw (← is) (ap (λ (x : Outcome (Unit {0}) × PassedOver). (x.0, record { names = n; arities = a; objects = o; frames = f; started = s; space = p; osi = i; width = d; profile = g; nesting = z; passed = x.1 })) (h.is ne));
  }

  pub does_passed : {s s1 : State S} (scope : List Seg) (e : Refusal) (w : State S) (flag : Bool) → flag ≡ is_passable e → flag ≡ true → s ≡ w → Does r s1 (passed_noted scope e) s → Does r s1 (passed_over scope e) w
  unfolding passed_noted passed_over
  does_passed scope e w flag is told same h = let holds : is_passable e ≡ true = sym is ∙ told in record { is = λ ne. rw (holds, ← same) (h.is ne) }

pub does_unpassed : {S : Type 0} (scope : List Seg) (e : Refusal) (w : State S) (flag : Bool) → flag ≡ is_passable e → flag ≡ false → Does (Err e) w (passed_over scope e) w
unfolding passed_over
does_unpassed scope e w flag is told = let holds : is_passable e ≡ false = sym is ∙ told in record { is = λ _. rw holds refl }

pub ruleset passing = (passed_changed, does_passed, does_unpassed)
