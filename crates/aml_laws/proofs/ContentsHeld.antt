-- What values hold.
use Rattle.std.specs.Prelude.{◌≡◌, ℕ, List, slice_get, Some, refl}
use Rattle.std.proofs.Common.{ap}
use Rattle.aml_objects.specs.Contents as content
use Rattle.aml_objects.specs.Contents.{string_held, buffer_held, content_in}
use Rattle.aml_objects.specs.declared.object.Object.{Object}
use Rattle.aml_objects.specs.declared.object.Object.TheVariants as object
use Rattle.aml_objects.specs.declared.value.Value.{Value}
use Rattle.aml_objects.specs.declared.value.Value.TheVariants as value
use Rattle.aml_laws.specs.StoredParts.{IsNoData, uninitialized, a_package, a_reference}

module _ (objects : List Object) where
  pub integer_holds : (n : ℕ) → content_in objects (value.Integer n) ≡ content.Integer n
  integer_holds n = refl

  pub string_holds : (o : ℕ) (bytes : List ℕ) → slice_get objects o ≡ Some (object.String bytes) → content_in objects (value.String o) ≡ content.String bytes
  string_holds o bytes is = ap string_held is

  pub buffer_holds : (o : ℕ) (bytes : List ℕ) → slice_get objects o ≡ Some (object.Buffer bytes) → content_in objects (value.Buffer o) ≡ content.Buffer bytes
  buffer_holds o bytes is = ap buffer_held is

  pub nothing_held : (v : Value) → IsNoData v → content_in objects v ≡ content.Other
  nothing_held _ uninitialized = refl
  nothing_held _ (a_package o) = refl
  nothing_held _ (a_reference r) = refl
