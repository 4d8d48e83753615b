-- A Store converts to what a name holds, or is refused and changes nothing.
use Rattle.std.specs.Prelude.{◌≡◌, ◌<◌, ◌≤◌, ℕ, ◌==◌, nat_lt, List, [], length, false, Some, Ok, Err, refl, slice_get}
use Rattle.std.proofs.Common.{arith, ◌∙◌}
use Rattle.std.proofs.lemmas.Bool.Decides.{nat_tests}
use Rattle.std.specs.FinMap.{get}
use Rattle.ar_space.specs.Change.{give, stop, go_on, ◌>>=◌}
use Rattle.ar_space.specs.declared.refusal.Refusal.{Refusal}
use Rattle.ar_space.specs.declared.refusal.Refusal.TheVariants as refusal
use Rattle.ar_space.specs.declared.refusal.ValueFault.TheVariants.{WrongType}
use Rattle.aml_path.specs.declared.segment.Seg.{Seg}
use Rattle.aml_objects.specs.Contents.{content_in}
use Rattle.aml_objects.specs.Objects.{write_string, write_buffer}
use Rattle.aml_objects.specs.declared.object.Object.TheVariants as object
use Rattle.aml_objects.specs.declared.value.Value.{Value}
use Rattle.aml_objects.specs.declared.value.Value.TheVariants as value
use Rattle.aml_convert.specs.Conversions.{to_text_of, to_buffer_of}
use Rattle.aml_namespace.specs.Namespace.{replaced}
use Rattle.aml_world.specs.state.State.{State, on_objects, on_names}
use Rattle.aml_world.specs.state.Readings.{integer_in}
use Rattle.aml_world.specs.values.StoreTargets.{held_at}
use Rattle.aml_world.specs.values.Stores.{text_in, bytes_in, store_integer, store_text, store_bytes, store_package, store_in_name, stored, copy_in_name, copied_to}
use Rattle.aml_world.specs.declared.values.store_target.StoreTarget.TheVariants as targets
use Rattle.aml_world.specs.declared.values.store_target.Stored.TheVariants as store
use Rattle.aml_laws.specs.StoredNames.{data_entry, with_integer, with_object_numbered, cut_or_filled}

module _ {S : Type 0} (w : State S) (path : List Seg) (number : ℕ) (v : Value) where
  pub integer_stored : (m n : ℕ) → get w.names.map path ≡ Some (data_entry number (value.Integer m)) → integer_in v w ≡ (Ok n, w) → stored (targets.Name path) v w ≡ (Ok store.Done, with_integer w path number n)
  unfolding store_in_name held_at store_integer on_names replaced give go_on ◌>>=◌
  integer_stored m n at is = rw (at, is, at) refl

  pub text_stored : (o : ℕ) (old text : List ℕ) → get w.names.map path ≡ Some (data_entry number (value.String o)) → slice_get w.objects o ≡ Some (object.String old) → to_text_of w.width (content_in w.objects v) ≡ Ok text → length text ≤ 1048576
      → stored (targets.Name path) v w ≡ (Ok store.Done, with_object_numbered w o (object.String text))
  unfolding store_in_name held_at store_text text_in on_objects write_string give go_on ◌>>=◌
  text_stored o old text at held is short = let few : nat_lt 1048576 (length text) ≡ false = grind (arith, nat_tests) in rw (at, is, held, few) refl

  pub bytes_stored : (o : ℕ) (old bytes : List ℕ) → get w.names.map path ≡ Some (data_entry number (value.Buffer o)) → slice_get w.objects o ≡ Some (object.Buffer old) → to_buffer_of w.width (content_in w.objects v) ≡ Ok bytes → 0 < length old → length (cut_or_filled (length old) bytes) ≤ 1048576
      → stored (targets.Name path) v w ≡ (Ok store.Done, with_object_numbered w o (object.Buffer (cut_or_filled (length old) bytes)))
  unfolding store_in_name held_at store_bytes bytes_in on_objects write_buffer give go_on ◌>>=◌
  bytes_stored o old bytes at held is some short =
      let room : (length old == 0) ≡ false = grind (arith, nat_tests) in
      let few : nat_lt 1048576 (length (cut_or_filled (length old) bytes)) ≡ false = grind (arith, nat_tests) in
      rw (at, is, held, room, few) refl

  pub bytes_stored_whole : (o : ℕ) (bytes : List ℕ) → get w.names.map path ≡ Some (data_entry number (value.Buffer o)) → slice_get w.objects o ≡ Some (object.Buffer []) → to_buffer_of w.width (content_in w.objects v) ≡ Ok bytes → length bytes ≤ 1048576
      → stored (targets.Name path) v w ≡ (Ok store.Done, with_object_numbered w o (object.Buffer bytes))
  unfolding store_in_name held_at store_bytes bytes_in on_objects write_buffer give go_on ◌>>=◌
  bytes_stored_whole o bytes at held is short = let few : nat_lt 1048576 (length bytes) ≡ false = grind (arith, nat_tests) in rw (at, is, held, few) refl

  -- ---- what doesn't convert leaves the world as it was

  pub no_integer_stored : (m : ℕ) (e : Refusal) → get w.names.map path ≡ Some (data_entry number (value.Integer m)) → integer_in v w ≡ (Err e, w) → stored (targets.Name path) v w ≡ (Err e, w)
  unfolding store_in_name held_at store_integer give go_on ◌>>=◌
  no_integer_stored m e at is = rw (at, is) refl

  pub no_text_stored : (o : ℕ) (e : Refusal) → get w.names.map path ≡ Some (data_entry number (value.String o)) → to_text_of w.width (content_in w.objects v) ≡ Err e → stored (targets.Name path) v w ≡ (Err e, w)
  unfolding store_in_name held_at store_text text_in give go_on ◌>>=◌
  no_text_stored o e at is = rw (at, is) refl

  pub no_bytes_stored : (o : ℕ) (e : Refusal) → get w.names.map path ≡ Some (data_entry number (value.Buffer o)) → to_buffer_of w.width (content_in w.objects v) ≡ Err e → stored (targets.Name path) v w ≡ (Err e, w)
  unfolding store_in_name held_at store_bytes bytes_in give go_on ◌>>=◌
  no_bytes_stored o e at is = rw (at, is) refl

-- ---- a package is copied from a package alone

module _ {S : Type 0} (w : State S) (path : List Seg) (number m : ℕ) (at : get w.names.map path ≡ Some (data_entry number (value.Package m))) where
  package_copied : (o : ℕ) → stored (targets.Name path) (value.Package o) w ≡ copied_to (targets.Name path) (value.Package o) w
  unfolding store_in_name copy_in_name held_at give go_on ◌>>=◌
  package_copied o = rw at refl

  by_package : (v : Value) → stored (targets.Name path) v w ≡ store_package path v w
  unfolding store_in_name held_at give go_on ◌>>=◌
  by_package v = rw at refl

  is_refused : (v : Value) → ((o : ℕ) → v ≡ value.Package o → ⊥) → store_package {S = S} path v w ≡ (Err (refusal.Value WrongType), w)
  unfolding stop
  is_refused (value.Package o) other = absurd (other o refl)
  is_refused value.Uninitialized other = refl
  is_refused (value.Integer n) other = refl
  is_refused (value.String o) other = refl
  is_refused (value.Buffer o) other = refl
  is_refused (value.Reference r) other = refl

pub package_stored : {S : Type 0} (w : State S) (path : List Seg) (number m o : ℕ) → get w.names.map path ≡ Some (data_entry number (value.Package m)) → stored (targets.Name path) (value.Package o) w ≡ copied_to (targets.Name path) (value.Package o) w
package_stored w path number m o at = package_copied w path number m at o

pub no_package_stored : {S : Type 0} (w : State S) (path : List Seg) (number : ℕ) (v : Value) (m : ℕ) → get w.names.map path ≡ Some (data_entry number (value.Package m)) → ((o : ℕ) → v ≡ value.Package o → ⊥) → stored (targets.Name path) v w ≡ (Err (refusal.Value WrongType), w)
no_package_stored w path number v m at other = by_package w path number m at v ∙ is_refused w path number m at v other

pub ruleset a_store_converts_to_what_its_name_holds = (integer_stored, text_stored, bytes_stored, bytes_stored_whole, package_stored, no_integer_stored, no_text_stored, no_bytes_stored, no_package_stored)
