-- What is left where all mutexes are released: everything but how often they are acquired.
use Rattle.std.specs.Prelude.{◌≡◌, ℕ, Option, Some, None, refl}
use Rattle.std.specs.Option.{option_map}
use Rattle.std.proofs.Common.{ap, sym, subst, ◌∙◌}
use Rattle.ar_space.specs.Outcome.{Outcome}
use Rattle.ar_space.specs.Change.{Change}
use Rattle.aml_objects.specs.declared.entry.Entry.{Entry}
use Rattle.aml_objects.specs.declared.entry.NamedObject.{NamedObject}
use Rattle.aml_objects.specs.declared.entry.NamedObject.TheVariants as object
use Rattle.aml_namespace.specs.Namespace.{with_object, released, entry_released, mutexes_released}
use Rattle.aml_namespace.proofs.Changes.{released_at}
use Rattle.aml_world.specs.state.State.{State}
use Rattle.aml_world.specs.state.Run.{Run}
use Rattle.aml_world.specs.state.Mutexes as mutexes
use Rattle.aml_meaning.specs.Calling as calling
use Rattle.aml_laws.specs.Ends.{IsReleased, EndsAs}
use Rattle.aml_laws.specs.Mutexes.{IsNoMutex}

not_released : (o : NamedObject) → IsNoMutex o → released o ≡ o
not_released (object.Mutex n) other = absurd (other n refl)
not_released _ other = refl

module _ {S : Type 0} where
  pub world_released : (w : State S) → IsReleased w (mutexes.released w)
  unfolding mutexes_released
  world_released w = record {
    rest = refl;
    mutex = λ path number count at. released_at w.names path ∙ ap (option_map entry_released) at;
    other = λ path e at other. released_at w.names path ∙ ap (option_map entry_released) at ∙ ap (λ o. Some (with_object o e)) (not_released e.object other);
    none = λ path at. released_at w.names path ∙ ap (option_map entry_released) at;
  }

  -- an evaluation with its steps, at whose end all mutexes are released
  pub ends_as : {A : Type 0} (steps : ℕ) (m : Run S A) (w : State S) → EndsAs (m (w, steps)) (calling.ending (calling.with_steps steps m) w)
  unfolding calling.ending calling.with_steps
  ends_as steps m w = record { outcome = refl; world = world_released (m (w, steps)).1.0 }
