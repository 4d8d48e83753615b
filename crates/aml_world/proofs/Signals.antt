-- What stands under a number, where other signals are put there.
use Rattle.std.specs.Prelude.{◌≡◌, ℕ, List, Option, Some, None, Ok, refl}
use Rattle.std.proofs.Common.{◌∙◌, ap, subst, sym}
use Rattle.ar_space.specs.Outcome.{seen}
use Rattle.ar_space.specs.Change.{Does, go_on, ◌>>=◌}
use Rattle.aml_path.specs.declared.segment.Seg.{Seg}
use Rattle.aml_arities.specs.declared.arities.Arity.{Arity}
use Rattle.aml_objects.specs.declared.node.NodeId.{NodeId}
use Rattle.aml_objects.specs.declared.entry.Entry.{Entry}
use Rattle.aml_objects.specs.declared.entry.NamedObject.TheVariants as object
use Rattle.aml_namespace.specs.Namespace.{Namespace, numbered, replaced}
use Rattle.aml_world.specs.state.State.{State, on_names}
use Rattle.aml_world.specs.values.StoreTargets.{declaration, entry_declared, or_gone}
use Rattle.aml_world.specs.state.Events.{put_signals}

module _ {S : Type 0} (w : State S) (n count : ℕ) (names : Namespace) where
  found_put : (f : List Seg × Entry) → numbered n w.names.map ≡ Some f → replaced f.0 (object.Event count) w.names ≡ (Ok tt, names) → Does (Ok tt) (record w { names = names }) (put_signals n count) w
  unfolding put_signals declaration on_names ◌>>=◌ go_on
  found_put f at new = record { is = λ _. rw (at, new) refl }

  by_found : (e : Entry) (o : Option (List Seg × Entry)) → numbered n w.names.map ≡ o → seen (λ (f : List Seg × Entry). f.1) (or_gone o) ≡ Ok e → ((f : List Seg × Entry) → numbered n w.names.map ≡ Some f → replaced f.0 (object.Event count) w.names ≡ (Ok tt, names))
      → Does (Ok tt) (record w { names = names }) (put_signals n count) w
  by_found e None at is new = absurd (cc is)
  by_found e (Some f) at is new = found_put f at (new f at)

  pub signals_put : (e : Entry) → Does (Ok e) w (entry_declared n) w → ((f : List Seg × Entry) → numbered n w.names.map ≡ Some f → replaced f.0 (object.Event count) w.names ≡ (Ok tt, names))
      → Does (Ok tt) (record w { names = names }) (put_signals n count) w
  unfolding entry_declared
  signals_put e is new = by_found e (numbered n w.names.map) refl (ap (λ x. x.0) (is.is tt)) new

pub put_at : {S : Type 0} (w old : State S) (n count : ℕ) (names : Namespace) (arities : List Arity) (e : Entry) → w ≡ old → Does (Ok e) old (entry_declared n) old → (id : NodeId) → id ≡ record { key = 0; number = n }
    → ((f : List Seg × Entry) → numbered id.number w.names.map ≡ Some f → replaced f.0 (object.Event count) w.names ≡ (Ok tt, names)) → arities ≡ w.arities → Does (Ok tt) (record w { names = names; arities = arities }) (put_signals n count) old
put_at {S = S} w old n count names arities e same is id at new stays =
    subst (λ (s : State S). Does (Ok tt) (record w { names = names; arities = arities }) (put_signals n count) s) same
    (subst (λ (a : List Arity). Does (Ok tt) (record w { names = names; arities = a }) (put_signals n count) w) (sym stays)
    (signals_put w n count names e (subst (λ (s : State S). Does (Ok e) s (entry_declared n) s) (sym same) is) (λ f here. new f (ap (λ (x : NodeId). numbered x.number w.names.map) at ∙ here))))
