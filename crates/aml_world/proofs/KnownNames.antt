-- What is kept of bodies while names change.
use Rattle.std.specs.Prelude.{◌≡◌, ℕ, List, [], Bool, true, false, not, Option, Some, None, Ok, Err, is_err, OnErr}
use Rattle.std.proofs.Common.{◌∙◌, ap, sym, refl}
use Rattle.std.specs.FinMap.{get}
use Rattle.ar_space.specs.Outcome.{Outcome, NotMemory}
use Rattle.ar_space.specs.Change.{Change, Does}
use Rattle.aml_path.specs.declared.segment.Seg.{Seg}
use Rattle.aml_arities.specs.declared.arities.Arity.{Arity}
use Rattle.aml_objects.specs.declared.entry.Entry.{Entry}
use Rattle.aml_objects.specs.declared.entry.NamedObject.{NamedObject}
use Rattle.aml_objects.specs.declared.entry.NamedObject.TheVariants.{Data}
use Rattle.aml_objects.specs.declared.value.Value.TheVariants.{Integer}
use Rattle.aml_namespace.specs.Namespace.{Namespace, mutexes_released, numbered, replaced}
use Rattle.aml_namespace.proofs.Numbering.{numbered_stands}
use Rattle.aml_world.specs.declared.state.known_names.ScannedBody.{ScannedBody}
use Rattle.aml_world.specs.state.Invocations.{arities_in}
use Rattle.aml_world.specs.state.Known.{Known, on_known, is_plain}
use Rattle.aml_world.specs.state.KeptBodies.{AreKept}
use Rattle.aml_world.proofs.SameCounts.{arities_released, arities_replaced}
use Rattle.aml_world.proofs.BodyMarks.{stays_kept, kept_where, forgotten}

-- a change of the names is a change of what is known
pub names_changed : {A : Type 0} {r : Outcome A} (n n1 : Namespace) (a : List Arity) (m : Change Namespace A) (k : Known) → record { names = n; arities = a } ≡ k → Does r n1 m n → Does r (record { names = n1; arities = a }) (on_known m) k
unfolding on_known
names_changed n n1 a m k e h = record { is = λ ne. rw (← e, h.is ne) refl }

pub released_kept : (s s1 : Namespace) (told : List Arity) (k : List (List Seg × ScannedBody)) → s1 ≡ mutexes_released s → AreKept (arities_in s.map told) k → AreKept (arities_in s1.map told) k
released_kept s s1 told k is = stays_kept (arities_in s.map told) (arities_in s1.map told) k (ap (λ (n : Namespace). arities_in n.map told) is ∙ arities_released s told)

-- where a name comes, what is kept goes
pub declared_kept : {A : Type 0} (r : Outcome A) (b : Bool) (s s1 : Namespace) (told : List Arity) (k k1 : List (List Seg × ScannedBody)) → b ≡ is_err r → (b ≡ true → k1 ≡ k) → (b ≡ false → k1 ≡ []) → OnErr r (s1 ≡ s)
    → AreKept (arities_in s.map told) k → AreKept (arities_in s1.map told) k1
declared_kept (Ok a) b s s1 told k k1 is here gone same h = forgotten (arities_in s1.map told) k1 (gone is)
declared_kept (Err e) b s s1 told k k1 is here gone same h = kept_where b (arities_in s.map told) (arities_in s1.map told) k k1 here gone (λ yes. ap (λ (n : Namespace). arities_in n.map told) same) h

-- where names go, what is kept goes
pub removed_kept : (removed : Bool) (s s1 : Namespace) (told : List Arity) (k k1 : List (List Seg × ScannedBody)) → (not removed ≡ true → k1 ≡ k) → (not removed ≡ false → k1 ≡ []) → (removed ≡ false → s1 ≡ s)
    → AreKept (arities_in s.map told) k → AreKept (arities_in s1.map told) k1
removed_kept true s s1 told k k1 here gone same h = forgotten (arities_in s1.map told) k1 (gone refl)
removed_kept false s s1 told k k1 here gone same h =
    kept_where true (arities_in s.map told) (arities_in s1.map told) k k1 here gone (λ yes. ap (λ (n : Namespace). arities_in n.map told) (same refl)) h

module _ (id : ℕ) (o : NamedObject) (plain : is_plain o ≡ true) (s s1 : Namespace) (told : List Arity) where
  replaced_at : (f : List Seg × Entry) → numbered id s.map ≡ Some f → is_plain f.1.object ≡ true → replaced f.0 o s ≡ (Ok tt, s1) → arities_in s1.map told ≡ arities_in s.map told
  replaced_at f at was is =
      let stands : get s.map f.0 ≡ Some f.1 = numbered_stands s.map id f at in
      ap (λ (r : Outcome (Unit {0}) × Namespace). arities_in r.1.map told) (sym is)
      ∙ arities_replaced f.0 o plain told s (λ e here. let same : f.1 ≡ e = cc (stands, here) in ap (λ (x : Entry). is_plain x.object) (sym same) ∙ was)

  replaced_by : (x : Option (List Seg × Entry)) → numbered id s.map ≡ x
      → ((f : List Seg × Entry) → numbered id s.map ≡ Some f → is_plain f.1.object ≡ true) → ((f : List Seg × Entry) → numbered id s.map ≡ Some f → replaced f.0 o s ≡ (Ok tt, s1))
      → (numbered id s.map ≡ None → s1 ≡ s) → arities_in s1.map told ≡ arities_in s.map told
  replaced_by None at was is none = ap (λ (n : Namespace). arities_in n.map told) (none at)
  replaced_by (Some f) at was is none = replaced_at f at (was f at) (is f at)

integer_by : (b : Bool) (id n : ℕ) (s s1 : Namespace) (told : List Arity) (k : List (List Seg × ScannedBody))
    → (b ≡ true → (f : List Seg × Entry) → numbered id s.map ≡ Some f → replaced f.0 (Data (Integer n)) s ≡ (Ok tt, s1))
    → (b ≡ true → (f : List Seg × Entry) → numbered id s.map ≡ Some f → (m : ℕ) × (f.1.object ≡ Data (Integer m)))
    → (numbered id s.map ≡ None → b ≡ false) → (b ≡ false → s1 ≡ s) → arities_in s1.map told ≡ arities_in s.map told
integer_by true id n s s1 told k is held gone same =
    replaced_by id (Data (Integer n)) refl s s1 told (numbered id s.map) refl (λ f at. ap is_plain (held refl f at).1) (is refl) (λ none. absurd (cc (gone none)))
integer_by false id n s s1 told k is held gone same = ap (λ (x : Namespace). arities_in x.map told) (same refl)

-- an integer in place of another
pub integer_kept : (b : Bool) (id n : ℕ) (s s1 : Namespace) (told : List Arity) (k : List (List Seg × ScannedBody))
    → (b ≡ true → (f : List Seg × Entry) → numbered id s.map ≡ Some f → replaced f.0 (Data (Integer n)) s ≡ (Ok tt, s1))
    → (b ≡ true → (f : List Seg × Entry) → numbered id s.map ≡ Some f → (m : ℕ) × (f.1.object ≡ Data (Integer m)))
    → (numbered id s.map ≡ None → b ≡ false) → (b ≡ false → s1 ≡ s) → AreKept (arities_in s.map told) k → AreKept (arities_in s1.map told) k
integer_kept b id n s s1 told k is held gone same = stays_kept (arities_in s.map told) (arities_in s1.map told) k (integer_by b id n s s1 told k is held gone same)

-- another object in the node with an id
pub node_kept : (b : Bool) (id : ℕ) (o : NamedObject) (s s1 : Namespace) (told : List Arity) (k k1 : List (List Seg × ScannedBody)) → (b ≡ true → k1 ≡ k) → (b ≡ false → k1 ≡ [])
    → (b ≡ true → is_plain o ≡ true) → (b ≡ true → (f : List Seg × Entry) → numbered id s.map ≡ Some f → is_plain f.1.object ≡ true)
    → ((f : List Seg × Entry) → numbered id s.map ≡ Some f → replaced f.0 o s ≡ (Ok tt, s1)) → (numbered id s.map ≡ None → s1 ≡ s)
    → AreKept (arities_in s.map told) k → AreKept (arities_in s1.map told) k1
node_kept b id o s s1 told k k1 here gone plain was is none =
    kept_where b (arities_in s.map told) (arities_in s1.map told) k k1 here gone (λ yes. replaced_by id o (plain yes) s s1 told (numbered id s.map) refl (was yes) is none)

-- another object at a path
pub path_kept : {r : Outcome (Unit {0})} (b : Bool) (p : List Seg) (o : NamedObject) (s s1 : Namespace) (told : List Arity) (k k1 : List (List Seg × ScannedBody)) → (b ≡ true → k1 ≡ k) → (b ≡ false → k1 ≡ [])
    → (b ≡ true → is_plain o ≡ true) → (b ≡ true → (e : Entry) → get s.map p ≡ Some e → is_plain e.object ≡ true)
    → Does r s1 (replaced p o) s → NotMemory r → AreKept (arities_in s.map told) k → AreKept (arities_in s1.map told) k1
path_kept b p o s s1 told k k1 here gone plain was is ne =
    kept_where b (arities_in s.map told) (arities_in s1.map told) k k1 here gone (λ yes.
    ap (λ (x : Outcome (Unit {0}) × Namespace). arities_in x.1.map told) (sym (is.is ne)) ∙ arities_replaced p o (plain yes) told s (was yes))

pub ruleset keeping = (names_changed, declared_kept, released_kept, removed_kept, integer_kept, node_kept, path_kept)
