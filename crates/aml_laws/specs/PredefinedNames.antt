-- Names that stand before any table is loaded (ACPI 6.5, 5.3.1 and 5.7).
use Rattle.std.specs.Prelude.{◌≡◌, ℕ, List, [], ◌∷◌, Some, codes}
use Rattle.std.specs.FinMap.{get}
use Rattle.aml_path.specs.declared.segment.Seg.{Seg}
use Rattle.aml_arities.specs.Arities.{arity_at}
use Rattle.aml_objects.specs.declared.entry.Entry.{Entry}
use Rattle.aml_objects.specs.declared.entry.MethodBody.TheVariants.{Osi}
use Rattle.aml_objects.specs.declared.entry.NamedObject.{NamedObject}
use Rattle.aml_objects.specs.declared.entry.NamedObject.TheVariants as named
use Rattle.aml_objects.specs.declared.value.Value.TheVariants as value
use Rattle.aml_world.specs.state.State.{State}

-- a name of four characters, what it stands for at the root, and how many arguments it takes; text: the object of the name of the operating
-- system
pub data IsPredefined (text : ℕ) : List ℕ → NamedObject → ℕ → Type 0 where
  events : IsPredefined text (codes "_GPE") named.Scope 0
  processors : IsPredefined text (codes "_PR_") named.Scope 0
  system_bus : IsPredefined text (codes "_SB_") named.Scope 0
  indicators : IsPredefined text (codes "_SI_") named.Scope 0
  thermal_zones : IsPredefined text (codes "_TZ_") named.Scope 0
  global_lock : IsPredefined text (codes "_GL_") (named.Mutex 0) 0
  operating_system : IsPredefined text (codes "_OS_") (named.Data (value.String text)) 0
  revision : IsPredefined text (codes "_REV") (named.Data (value.Integer 2)) 0
  interfaces : IsPredefined text (codes "_OSI") (named.Method (record { flags = record { byte = 1 }; body = Osi })) 1

-- at a segment of these characters below the root stands this object, and a name that is read in a table takes so many arguments there
pub record StandsAtRoot {S : Type 0} (w : State S) (text : List ℕ) (o : NamedObject) (count : ℕ) : Type 0 where
  pub segment : Seg
  pub spelled : segment.bytes ≡ text
  pub entry : Entry
  pub stands : get w.names.map (segment ∷ []) ≡ Some entry
  pub is : entry.object ≡ o
  pub takes : arity_at w.arities (segment ∷ []) ≡ Some count

-- what stands at the root itself: a scope
pub record IsRoot (path : List Seg) (o : NamedObject) : Type 0 where
  pub here : path ≡ []
  pub scope : o ≡ named.Scope

-- the path of a predefined name: one segment below the root, which has the characters of that name
pub record IsPathOfPredefined (path : List Seg) : Type 0 where
  pub segment : Seg
  pub is : path ≡ segment ∷ []
  pub object : NamedObject
  pub count : ℕ
  pub predefined : IsPredefined 0 segment.bytes object count
