-- What stands at the name of an event.
use Rattle.std.specs.Prelude.{◌≡◌, ℕ, List, Some}
use Rattle.std.specs.FinMap.{get, insert}
use Rattle.aml_path.specs.declared.segment.Seg.{Seg}
use Rattle.aml_objects.specs.declared.entry.Entry.{Entry}
use Rattle.aml_objects.specs.declared.entry.NamedObject.{NamedObject}
use Rattle.aml_objects.specs.declared.entry.NamedObject.TheVariants as object
use Rattle.aml_world.specs.state.State.{State}

-- an event with so many signals that no Wait has taken, by the number of its declaration
abbrev pub event_entry : ℕ → ℕ → Entry
event_entry n count = record { number = n; object = object.Event count }

-- the same world, with so many signals of the event at a path
abbrev pub with_signals : {S : Type 0} → State S → List Seg → ℕ → ℕ → State S
with_signals w path n count = record w { names = record w.names { map = insert w.names.map path (event_entry n count) } }

-- what a name stands for that is no event
abbrev pub IsNoEvent : NamedObject → Type 0
IsNoEvent o = (count : ℕ) → o ≡ object.Event count → ⊥

-- no declaration has this number: the one that had it is gone, or none ever had it
abbrev pub NoDeclarationHas : {S : Type 0} → State S → ℕ → Type 0
NoDeclarationHas w n = (path : List Seg) (e : Entry) → get w.names.map path ≡ Some e → e.number ≡ n → ⊥
