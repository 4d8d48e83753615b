-- How an answer hands a name out that stands in a package.
use Rattle.std.specs.Prelude.{◌≡◌, ◌∷◌, [], ℕ, suc, List, slice_get, Some, Ok, refl}
use Rattle.ar_space.specs.Accesses.{Accesses}
use Rattle.ar_space.specs.Change.{give, go_on, ◌>>=◌}
use Rattle.ar_space.specs.Outcome.{seen}
use Rattle.aml_path.specs.declared.segment.Seg.{Seg}
use Rattle.aml_path.specs.Paths.{Name}
use Rattle.aml_objects.specs.Objects.{string_at, buffer_at, elements_at}
use Rattle.aml_objects.specs.declared.entry.NamedObject.{NamedObject}
use Rattle.aml_objects.specs.declared.object.Element.TheVariants as element
use Rattle.aml_objects.specs.declared.object.Object.TheVariants as object
use Rattle.aml_objects.specs.declared.value.Value.TheVariants as value
use Rattle.aml_world.specs.declared.state.name_use.NameUse.TheVariants as uses
use Rattle.aml_world.specs.state.Given.{Given, Package, Named, none, more}
use Rattle.aml_world.specs.state.State.{State, on_objects}
use Rattle.aml_world.specs.state.Run.{Run, lift}
use Rattle.aml_world.specs.state.NameUses.{held_or_path, name_use}
use Rattle.aml_meaning.specs.Exporting.{text_exported, bytes_exported, value_exported, use_exported, name_exported, held_exported, element_exported, each_exported, elements_exported, package_exported, exported}
use Rattle.aml_laws.specs.NamesInPackages.{IsHandedOutAsPath, holds_nothing, a_reference, IsHandedOutAs, nothing, an_integer, a_string, a_buffer, NameIsHandedOut, as_data, as_path, as_missing}
use Rattle.aml_laws.specs.StoredParts.{HoldsNothing, scope, device, processor, power_resource, thermal_zone, method, region, mutex, event}
use Rattle.aml_laws.proofs.Charges.{charge_one}

path_for_nothing : (o : NamedObject) (path : List Seg) → HoldsNothing o → held_or_path o (Ok path) ≡ Ok (uses.Path path)
path_for_nothing _ path scope = refl
path_for_nothing _ path device = refl
path_for_nothing _ path processor = refl
path_for_nothing _ path power_resource = refl
path_for_nothing _ path thermal_zone = refl
path_for_nothing _ path (method m) = refl
path_for_nothing _ path (region r) = refl
path_for_nothing _ path (mutex c) = refl
path_for_nothing _ path (event c) = refl

pub path_for : (o : NamedObject) (path : List Seg) → IsHandedOutAsPath o → held_or_path o (Ok path) ≡ Ok (uses.Path path)
path_for _ path (holds_nothing o h) = path_for_nothing o path h
path_for _ path (a_reference r) = refl

module _ {S : Type 0} (accesses : Accesses S) (within : ℕ → Run S Given) (w : State S) (steps : ℕ) where
  data_out : (o : NamedObject) (path : List Seg) (g : Given) → IsHandedOutAs w o g → go_on {S = State S × ℕ} (held_or_path o (Ok path)) (w, steps) (use_exported accesses within) ≡ (Ok g, (w, steps))
  unfolding use_exported value_exported text_exported bytes_exported lift on_objects string_at buffer_at give go_on ◌>>=◌
  data_out _ path _ nothing = refl
  data_out _ path _ (an_integer k) = refl
  data_out _ path _ (a_string o text at) = rw at refl
  data_out _ path _ (a_buffer o bytes at) = rw at refl

  path_out : (o : NamedObject) (path : List Seg) → IsHandedOutAsPath o → go_on {S = State S × ℕ} (held_or_path o (Ok path)) (w, steps) (use_exported accesses within) ≡ (Ok (Named path), (w, steps))
  unfolding use_exported give go_on
  path_out o path is = rw (path_for o path is) refl

  missing : (path : List Seg) → go_on {S = State S × ℕ} (seen uses.Path (Ok path)) (w, steps) (use_exported accesses within) ≡ (Ok (Named path), (w, steps))
  unfolding use_exported give go_on
  missing path = refl

  name_out : (n : Name) (home : List Seg) (g : Given) → NameIsHandedOut w n home g → name_exported accesses within n home (w, steps) ≡ (Ok g, (w, steps))
  unfolding name_exported name_use lift ◌>>=◌
  name_out n home _ (as_data path e g finds is) = rw finds (data_out e.object path g is)
  name_out n home _ (as_path path e finds is) = rw finds (path_out e.object path is)
  name_out n home _ (as_missing path e finds resolves) = rw (finds, resolves) (missing path)

  alone_out : (n : Name) (home : List Seg) (g : Given) → NameIsHandedOut w n home g → each_exported accesses within (element.Name n home ∷ []) [] (w, suc steps) ≡ (Ok (g ∷ []), (w, steps))
  unfolding each_exported element_exported held_exported give go_on ◌>>=◌
  alone_out n home g is = rw (charge_one w steps, name_out n home g is) refl

pub name_handed_out : {S : Type 0} (accesses : Accesses S) (w : State S) (steps o : ℕ) (n : Name) (home : List Seg) (g : Given) → slice_get w.objects o ≡ Some (object.Package (element.Name n home ∷ [])) → NameIsHandedOut w n home g
    → exported accesses (value.Package o) (w, suc steps) ≡ (Ok (Package (more g none)), (w, steps))
unfolding exported value_exported package_exported elements_exported lift on_objects elements_at give go_on ◌>>=◌
name_handed_out accesses w steps o n home g at is = rw (at, alone_out accesses (package_exported accesses 63) w steps n home g is) refl
