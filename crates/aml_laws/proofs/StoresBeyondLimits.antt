-- A Store of what is too long for the object that a name holds.
use Rattle.std.specs.Prelude.{◌≡◌, ◌<◌, ℕ, ◌==◌, nat_lt, List, [], length, true, false, Some, Ok, Err, refl, slice_get}
use Rattle.std.proofs.Common.{arith}
use Rattle.std.proofs.lemmas.Bool.Decides.{nat_tests}
use Rattle.std.specs.FinMap.{get}
use Rattle.ar_space.specs.Change.{give, go_on, ◌>>=◌}
use Rattle.ar_space.specs.declared.refusal.Refusal.TheVariants as refusal
use Rattle.ar_space.specs.declared.refusal.EvaluationFault.TheVariants.{ObjectLimit}
use Rattle.aml_path.specs.declared.segment.Seg.{Seg}
use Rattle.aml_objects.specs.Contents.{content_in}
use Rattle.aml_objects.specs.Objects.{write_string, write_buffer}
use Rattle.aml_objects.specs.declared.object.Object.TheVariants as object
use Rattle.aml_objects.specs.declared.value.Value.{Value}
use Rattle.aml_objects.specs.declared.value.Value.TheVariants as value
use Rattle.aml_convert.specs.Conversions.{to_text_of, to_buffer_of}
use Rattle.aml_world.specs.state.State.{State, on_objects}
use Rattle.aml_world.specs.values.StoreTargets.{held_at}
use Rattle.aml_world.specs.values.Stores.{text_in, bytes_in, store_text, store_bytes, store_in_name, stored}
use Rattle.aml_world.specs.declared.values.store_target.StoreTarget.TheVariants as targets
use Rattle.aml_laws.specs.StoredNames.{data_entry, cut_or_filled}

module _ {S : Type 0} (w : State S) (path : List Seg) (number : ℕ) (v : Value) where
  pub long_text_not_stored : (o : ℕ) (old text : List ℕ) → get w.names.map path ≡ Some (data_entry number (value.String o)) → slice_get w.objects o ≡ Some (object.String old) → to_text_of w.width (content_in w.objects v) ≡ Ok text → 1048576 < length text
      → stored (targets.Name path) v w ≡ (Err (refusal.Evaluation ObjectLimit), w)
  unfolding store_in_name held_at store_text text_in on_objects write_string give go_on ◌>>=◌
  long_text_not_stored o old text at held is long = let many : nat_lt 1048576 (length text) ≡ true = grind (arith, nat_tests) in rw (at, is, held, many) refl

  pub long_bytes_not_stored : (o : ℕ) (old bytes : List ℕ) → get w.names.map path ≡ Some (data_entry number (value.Buffer o)) → slice_get w.objects o ≡ Some (object.Buffer old) → to_buffer_of w.width (content_in w.objects v) ≡ Ok bytes → 0 < length old → 1048576 < length (cut_or_filled (length old) bytes)
      → stored (targets.Name path) v w ≡ (Err (refusal.Evaluation ObjectLimit), w)
  unfolding store_in_name held_at store_bytes bytes_in on_objects write_buffer give go_on ◌>>=◌
  long_bytes_not_stored o old bytes at held is some long =
      let room : (length old == 0) ≡ false = grind (arith, nat_tests) in
      let many : nat_lt 1048576 (length (cut_or_filled (length old) bytes)) ≡ true = grind (arith, nat_tests) in
      rw (at, is, held, room, many) refl

  pub whole_bytes_not_stored : (o : ℕ) (bytes : List ℕ) → get w.names.map path ≡ Some (data_entry number (value.Buffer o)) → slice_get w.objects o ≡ Some (object.Buffer []) → to_buffer_of w.width (content_in w.objects v) ≡ Ok bytes → 1048576 < length bytes
      → stored (targets.Name path) v w ≡ (Err (refusal.Evaluation ObjectLimit), w)
  unfolding store_in_name held_at store_bytes bytes_in on_objects write_buffer give go_on ◌>>=◌
  whole_bytes_not_stored o bytes at held is long = let many : nat_lt 1048576 (length bytes) ≡ true = grind (arith, nat_tests) in rw (at, is, held, many) refl
