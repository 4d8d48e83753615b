-- The kinds of objects, by their numbers.
use Rattle.std.specs.Prelude.{◌≡◌, ◌≤◌, ℕ, length, slice_get, Option, Some}
use Rattle.std.specs.Option.{option_map}
use Rattle.aml_objects.specs.declared.object.Object.{Object}
use Rattle.aml_objects.specs.declared.object.Object.TheVariants as object
use Rattle.aml_objects.specs.Objects.{Objects}
use Rattle.aml_world.specs.declared.values.object_type.ObjectType.{ObjectType}
use Rattle.aml_world.specs.declared.values.object_type.ObjectType.TheVariants as types

abbrev pub kind_of : Object → ObjectType
kind_of (object.String bytes) = types.String
kind_of (object.Buffer bytes) = types.Buffer
kind_of (object.Package elements) = types.Package

-- the kind of the object with a number
abbrev pub kind_at : Objects → ℕ → Option ObjectType
kind_at objects o = option_map kind_of (slice_get objects o)

-- objects are made and written to; none goes, each keeps its number and its kind, and they don't become more than 262,144
pub record KeepsKinds (before after : Objects) : Type 0 where
  pub more : length before ≤ length after
  pub few : length before ≤ 262144 → length after ≤ 262144
  pub kinds : (o : ℕ) (kind : ObjectType) → kind_at before o ≡ Some kind → kind_at after o ≡ Some kind
