-- A Match term over a package of one name (ACPI 6.5, 19.6: Match).
use Rattle.std.specs.Prelude.{◌≡◌, ℕ, List, [], ◌∷◌, slice_get, Some, Ok}
use Rattle.ar_space.specs.Accesses.{Accesses}
use Rattle.aml_path.specs.declared.segment.Seg.{Seg}
use Rattle.aml_path.specs.Paths.{Name}
use Rattle.aml_grammar.specs.Tree.{Tree}
use Rattle.aml_objects.specs.declared.object.Element.TheVariants as element
use Rattle.aml_objects.specs.declared.object.Object.TheVariants as object
use Rattle.aml_objects.specs.declared.value.Value.{Value}
use Rattle.aml_objects.specs.declared.value.Value.TheVariants as value
use Rattle.aml_world.specs.declared.state.profile.Profile.TheVariants as profiles
use Rattle.aml_world.specs.state.State.{State}
use Rattle.aml_world.specs.state.Readings.{integer_in}
use Rattle.aml_laws.specs.OperatorTerms.{GivesValue, Gives}

-- The operands of a Match give, one behind another, a package of one name, an integer for each test, and a value that converts to 0, in the
-- wide profile.
pub record MatchesName {S : Type 0} (accesses : Accesses S) (scope : List Seg) (depth : ℕ) (p x y i : Tree) (s : State S × ℕ) (n : Name) (home : List Seg) (a b : ℕ) (after : State S × ℕ) : Type 0 where
  pub wide : s.0.profile ≡ profiles.Wide
  pub source : ℕ
  pub behind_package : State S × ℕ
  pub behind_first : State S × ℕ
  pub behind_second : State S × ℕ
  pub v : Value
  pub gives_package : GivesValue accesses scope depth p s (value.Package source) behind_package
  pub gives_first : Gives accesses scope depth x behind_package a behind_first
  pub gives_second : Gives accesses scope depth y behind_first b behind_second
  pub gives_start : GivesValue accesses scope depth i behind_second v after
  pub converts : integer_in v after.0 ≡ (Ok 0, after.0)
  pub holds : slice_get after.0.objects source ≡ Some (object.Package (element.Name n home ∷ []))
