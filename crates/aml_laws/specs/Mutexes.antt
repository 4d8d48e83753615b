-- How often mutexes are acquired.
use Rattle.std.specs.Prelude.{◌≡◌, ℕ, List, Some}
use Rattle.std.specs.FinMap.{get, insert}
use Rattle.aml_path.specs.declared.segment.Seg.{Seg}
use Rattle.aml_objects.specs.declared.entry.Entry.{Entry}
use Rattle.aml_objects.specs.declared.entry.NamedObject.{NamedObject}
use Rattle.aml_objects.specs.declared.entry.NamedObject.TheVariants as object
use Rattle.aml_world.specs.state.State.{State}

-- a mutex that is acquired so many times, by the number of its declaration
abbrev pub mutex_entry : ℕ → ℕ → Entry
mutex_entry n count = record { number = n; object = object.Mutex count }

-- the same world, with the mutex at a path acquired so many times
abbrev pub with_acquisitions : {S : Type 0} → State S → List Seg → ℕ → ℕ → State S
with_acquisitions w path n count = record w { names = record w.names { map = insert w.names.map path (mutex_entry n count) } }

-- nobody holds a mutex
abbrev pub AllFree : {S : Type 0} → State S → Type 0
AllFree w = (path : List Seg) (e : Entry) (count : ℕ) → get w.names.map path ≡ Some e → e.object ≡ object.Mutex count → count ≡ 0

-- what a name stands for that is no mutex
abbrev pub IsNoMutex : NamedObject → Type 0
IsNoMutex o = (count : ℕ) → o ≡ object.Mutex count → ⊥
