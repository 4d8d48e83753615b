-- What initializing a machine calls (ACPI 6.5, 6.5.1 and 5.8.1): `\_INI`, `\_SB_._INI` and `\_PIC`, one after another.
use Rattle.std.specs.Prelude.{◌≡◌, ℕ, List, [], ◌∷◌, true, false, codes, Some, None, Ok, Err, refl}
use Rattle.std.specs.FinMap.{get}
use Rattle.ar_space.specs.declared.refusal.Refusal.{Refusal}
use Rattle.ar_space.specs.Accesses.{Accesses}
use Rattle.ar_space.specs.Outcome.{Outcome}
use Rattle.ar_tables.specs.declared.mode.Mode.{Mode}
use Rattle.ar_tables.specs.declared.mode.Mode.TheVariants.{Pic, Apic}
use Rattle.aml_path.specs.declared.segment.Seg.{Seg}
use Rattle.aml_objects.specs.declared.entry.Entry.{Entry}
use Rattle.aml_world.specs.declared.state.profile.Profile.TheVariants.{Core, Wide}
use Rattle.aml_world.specs.state.Given as given
use Rattle.aml_world.specs.state.PassedOver.{is_passable}
use Rattle.aml_world.specs.state.Noting.{with_passed}
use Rattle.aml_world.specs.state.State.{State}
use Rattle.aml_meaning.specs.Calling.{answered}
use Rattle.acpi_machine.specs.MachineStates.{MachineState}

abbrev pub ini : Seg
ini = record { bytes = codes "_INI"; valid = refl }

abbrev pub system_bus : Seg
system_bus = record { bytes = codes "_SB_"; valid = refl }

abbrev pub pic : Seg
pic = record { bytes = codes "_PIC"; valid = refl }

-- 0 where the 8259 controllers are used, and 1 where I/O APICs are
abbrev pub controllers_told : Mode → ℕ
controllers_told Pic = 0
controllers_told Apic = 1

-- what is called, with its arguments
abbrev pub Callee : Type 0
Callee = List Seg × List given.Given

abbrev pub initializing_calls : Mode → List Callee
initializing_calls mode = (ini ∷ [], []) ∷ (system_bus ∷ ini ∷ [], []) ∷ (pic ∷ [], given.Integer (controllers_told mode) ∷ []) ∷ []

module _ {S : Type 0} (accesses : Accesses S) where
  -- How one call comes out, and the machine that it leaves: where no name stands at the path nothing is called. What is answered is dropped.
  -- A refusal is passed over and noted in the wide profile, where it may be; else it ends initializing.
  pub data CallEnds (p : List Seg) (arguments : List given.Given) (m : MachineState S) : Outcome (Unit {0}) → MachineState S → Type 0 where
    absent : get m.world.names.map p ≡ None → CallEnds p arguments m (Ok tt) m
    called : (entry : Entry) (answer : given.Given) (w : State S) → get m.world.names.map p ≡ Some entry → answered accesses p arguments m.steps m.world ≡ (Ok answer, w) → CallEnds p arguments m (Ok tt) (record m { world = w })
    passed_over : (entry : Entry) (e : Refusal) (w : State S) → get m.world.names.map p ≡ Some entry → answered accesses p arguments m.steps m.world ≡ (Err e, w) → w.profile ≡ Wide → is_passable e ≡ true
        → CallEnds p arguments m (Ok tt) (record m { world = with_passed p e w })
    refused_in_core : (entry : Entry) (e : Refusal) (w : State S) → get m.world.names.map p ≡ Some entry → answered accesses p arguments m.steps m.world ≡ (Err e, w) → w.profile ≡ Core
        → CallEnds p arguments m (Err e) (record m { world = w })
    refused : (entry : Entry) (e : Refusal) (w : State S) → get m.world.names.map p ≡ Some entry → answered accesses p arguments m.steps m.world ≡ (Err e, w) → is_passable e ≡ false
        → CallEnds p arguments m (Err e) (record m { world = w })

  -- one call after another, each of the machine that the one before it left, up to the first that ends it
  pub data CalledInTurn : List Callee → MachineState S → Outcome (Unit {0}) → MachineState S → Type 0 where
    no_more : (m : MachineState S) → CalledInTurn [] m (Ok tt) m
    next : (p : List Seg) (arguments : List given.Given) (calls : List Callee) (m n after : MachineState S) (r : Outcome (Unit {0})) → CallEnds p arguments m (Ok tt) n → CalledInTurn calls n r after
        → CalledInTurn ((p, arguments) ∷ calls) m r after
    ended : (p : List Seg) (arguments : List given.Given) (calls : List Callee) (m after : MachineState S) (e : Refusal) → CallEnds p arguments m (Err e) after → CalledInTurn ((p, arguments) ∷ calls) m (Err e) after
