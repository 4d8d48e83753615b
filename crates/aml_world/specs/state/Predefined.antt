-- The names that stand before any table is loaded (ACPI 6.5, 5.3.1 and 5.7).
use Rattle.std.specs.Prelude.{ℕ, codes, false, List, [], ◌∷◌, ◌++◌, Ok}
use Rattle.ar_space.specs.Change.{Change, settle, ◌>>=◌, ◌>>◌}
use Rattle.aml_path.specs.declared.segment.Seg.{Seg}
use Rattle.aml_path.specs.Segments.{seg_of}
use Rattle.aml_objects.specs.declared.value.Value.TheVariants as value
use Rattle.aml_objects.specs.declared.entry.NamedObject.{NamedObject}
use Rattle.aml_objects.specs.declared.entry.NamedObject.TheVariants as object
use Rattle.aml_objects.specs.declared.entry.MethodBody.TheVariants.{Osi}
use Rattle.aml_objects.specs.Objects.{make_string}
use Rattle.aml_namespace.specs.Namespace.{declared, root_alone}
use Rattle.ar_space.specs.declared.integer_width.IntegerWidth.{IntegerWidth}
use Rattle.aml_world.specs.declared.state.settings.EvaluationSettings.{EvaluationSettings}
use Rattle.aml_world.specs.state.Settings.{settings_of}
use Rattle.aml_world.specs.declared.state.profile.Profile.TheVariants.{Core}
use Rattle.aml_world.specs.state.PassedOver.{nothing_passed}
use Rattle.aml_world.specs.state.State.{State, on_objects, on_names}

-- the world before anything is declared, made with settings, and with those of the core profile
abbrev pub fresh_as : {S : Type 0} → EvaluationSettings → IntegerWidth → List (List ℕ) → S → State S
fresh_as settings width osi space = record { names = root_alone; arities = []; objects = []; frames = []; started = 0; space = space; osi = osi; width = width; profile = settings.profile; nesting = settings.nesting; passed = nothing_passed }

abbrev pub fresh : {S : Type 0} → IntegerWidth → List (List ℕ) → S → State S
fresh width osi space = fresh_as (settings_of Core) width osi space

-- how many arguments a path takes, from now on
unfoldable pub takes : {S : Type 0} → List Seg → ℕ → Change (State S) (Unit {0})
takes path count w = (Ok tt, record w { arities = w.arities ++ record { path = path; count = count; external = false } ∷ [] })

-- a name at the root, given by its four characters
unfoldable pub at_root : {S : Type 0} → List ℕ → NamedObject → ℕ → Change (State S) (Unit {0})
at_root text object count = do
  s ← settle (seg_of text)
  p ← settle (Ok (s ∷ []))
  on_names (declared p object)
  q ← settle (Ok (s ∷ []))
  takes q count

unfoldable pub predefined_scopes : {S : Type 0} → Change (State S) (Unit {0})
predefined_scopes = do
  at_root (codes "_GPE") object.Scope 0
  at_root (codes "_PR_") object.Scope 0
  at_root (codes "_SB_") object.Scope 0
  at_root (codes "_SI_") object.Scope 0
  at_root (codes "_TZ_") object.Scope 0

unfoldable pub predefined_objects : {S : Type 0} → Change (State S) (Unit {0})
predefined_objects = do
  at_root (codes "_GL_") (object.Mutex 0) 0
  text ← on_objects (make_string (codes "Microsoft Windows NT"))
  at_root (codes "_OS_") (object.Data text) 0
  at_root (codes "_REV") (object.Data (value.Integer 2)) 0
  at_root (codes "_OSI") (object.Method (record { flags = record { byte = 1 }; body = Osi })) 1

unfoldable pub predefined : {S : Type 0} → Change (State S) (Unit {0})
predefined = do
  predefined_scopes
  predefined_objects
