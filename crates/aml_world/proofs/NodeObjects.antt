-- What nodes hold that are given by their ids, and what a change there does to the world.
use Rattle.std.proofs.Common.{◌≡◌, ◌≢◌, ◌∙◌, ◌+◌, ◌-◌, ◌^◌, ap, refl, ℕ, List, Option, Some, None, Ok, false, arith}
use Rattle.std.specs.Prelude.{◌==◌, IfSome}
use Rattle.std.proofs.lemmas.Bool.Decides.{nat_tests}
use Rattle.std.specs.Option.{option_map}
use Rattle.std.specs.FinMap.{get}
use Rattle.ar_space.specs.Outcome.{seen}
use Rattle.ar_space.specs.Change.{Does, give, settle, go_on, ◌>>=◌}
use Rattle.aml_path.specs.declared.segment.Seg.{Seg}
use Rattle.aml_path.specs.Paths.{Name}
use Rattle.aml_objects.specs.declared.node.NodeId.{NodeId}
use Rattle.aml_objects.specs.declared.entry.Entry.{Entry}
use Rattle.aml_objects.specs.declared.entry.Field.TheVariants as field
use Rattle.aml_objects.specs.declared.entry.FieldUnit.{FieldUnit}
use Rattle.aml_objects.specs.declared.entry.NamedObject.TheVariants as object
use Rattle.aml_objects.specs.declared.value.Value.{Value}
use Rattle.aml_objects.specs.declared.value.Value.TheVariants as value
use Rattle.aml_namespace.specs.Namespace.{Namespace, numbered, replaced}
use Rattle.aml_namespace.specs.Search.{found, found_or_not}
use Rattle.aml_namespace.proofs.Numbering.{numbered_stands}
use Rattle.aml_world.specs.declared.state.invocation.Invocation.TheVariants as invocation
use Rattle.aml_world.specs.declared.values.store_target.StoreTarget.TheVariants as targets
use Rattle.aml_world.specs.declared.values.store_target.Stored.TheVariants as store
use Rattle.aml_world.specs.state.State.{State, on_names}
use Rattle.aml_world.specs.state.Readings.{integer_in, path_found}
use Rattle.aml_world.specs.values.StoreTargets.{held_at, target_named}
use Rattle.aml_world.specs.values.Stores.{store_integer, store_in_name, stored}
use Rattle.aml_world.specs.state.Invocations.{use_found}
use Rattle.aml_world.specs.state.Mutexes.{mutex_count, acquired, given_back, acquired_at, given_back_at}
use Rattle.aml_world.proofs.Uses.{found_is}

-- the entry under a number is that of the declaration
pub entry_is : (o : Option (List Seg × Entry)) (e : Entry) (f : List Seg × Entry) → Some e ≡ option_map (λ (g : List Seg × Entry). g.1) o → o ≡ Some f → e ≡ f.1
entry_is None e f is at = absurd (cc at)
entry_is (Some g) e f is at = let same : ◌≡◌ {A = List Seg × Entry} g f = cc at in let one : e ≡ g.1 = cc is in one ∙ ap (λ (h : List Seg × Entry). h.1) same

module _ {S : Type 0} (w : State S) where
  pub target_is : (v : Option (List Seg × Entry)) (f : List Seg × Entry) (scope : List Seg) (n : Name) → Ok v ≡ seen Some (found w.names.map scope n) → v ≡ Some f → Does (Ok (targets.Name f.0)) w (target_named scope n) w
  unfolding target_named path_found give ◌>>=◌ go_on
  target_is v f scope n is at =
      let g = found_is v (found w.names.map scope n) is in
      let same : ◌≡◌ {A = List Seg × Entry} g.0 f = cc (g.2, at) in
      record { is = λ _. rw (g.1, same) refl }

  pub target_if : (o : Option NodeId) (scope : List Seg) (n : Name) → seen (λ (id : NodeId). numbered id.number w.names.map) (found_or_not o) ≡ seen Some (found w.names.map scope n)
      → IfSome o (λ (id : NodeId). (f : List Seg × Entry) → numbered id.number w.names.map ≡ Some f → Does (Ok (targets.Name f.0)) w (target_named scope n) w)
  target_if None scope n is = tt
  target_if (Some id) scope n is = λ f at. target_is (numbered id.number w.names.map) f scope n is at

  pub integer_used : (f : List Seg × Entry) (n : ℕ) → f.1.object ≡ object.Data (value.Integer n) → Does (Ok (invocation.Value (value.Integer n))) w (use_found f 0) w
  unfolding use_found settle ◌>>=◌ go_on
  integer_used f n is = record { is = λ _. rw is refl }

  pub unit_used : (f : List Seg × Entry) (u : FieldUnit) → f.1.object ≡ object.FieldUnit u → Does (Ok (invocation.Field (field.Unit u))) w (use_found f 0) w
  unfolding use_found settle ◌>>=◌ go_on
  unit_used f u is = record { is = λ _. rw is refl }

  module _ (id : ℕ) (f : List Seg × Entry) (at : numbered id w.names.map ≡ Some f) (names : Namespace) where
    stands : get w.names.map f.0 ≡ Some f.1
    stands = numbered_stands w.names.map id f at

    pub integer_put : (n old : ℕ) → f.1.object ≡ object.Data (value.Integer old) → replaced f.0 (object.Data (value.Integer n)) w.names ≡ (Ok tt, names)
        → Does (Ok store.Done) (record w { names = names }) (stored (targets.Name f.0) (value.Integer n)) w
    unfolding store_in_name held_at store_integer integer_in on_names give ◌>>=◌ go_on
    integer_put n old is new = record { is = λ _. rw (stands, is, new) refl }

    pub unit_led_to : (u : FieldUnit) (v : Value) → f.1.object ≡ object.FieldUnit u → Does (Ok (store.Field (field.Unit u))) w (stored (targets.Name f.0) v) w
    unfolding store_in_name held_at give ◌>>=◌ go_on
    unit_led_to u v is = record { is = λ _. rw (stands, is) refl }

    pub mutex_acquired : (c : ℕ) → f.1.object ≡ object.Mutex c → c ≢ 2 ^ 64 - 1 → replaced f.0 (object.Mutex (c + 1)) w.names ≡ (Ok tt, names)
        → Does (Ok tt) (record w { names = names }) (acquired_at (targets.Name f.0)) w
    unfolding acquired mutex_count settle on_names ◌>>=◌ go_on
    mutex_acquired c is fits new = let test : (c == 2 ^ 64 - 1) ≡ false = grind (arith, nat_tests) in record { is = λ _. rw (stands, is, test, new) refl }

    pub mutex_given_back : (c : ℕ) → f.1.object ≡ object.Mutex c → c ≢ 0 → replaced f.0 (object.Mutex (c - 1)) w.names ≡ (Ok tt, names)
        → Does (Ok tt) (record w { names = names }) (given_back_at (targets.Name f.0)) w
    unfolding given_back mutex_count settle on_names ◌>>=◌ go_on
    mutex_given_back c is some new = let test : (c == 0) ≡ false = grind (arith, nat_tests) in record { is = λ _. rw (stands, is, test, new) refl }
