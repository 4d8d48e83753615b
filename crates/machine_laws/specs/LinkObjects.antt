-- What makes a device an interrupt link device (ACPI 6.5, 6.2.13), and what the objects below it answer (6.1.5, 6.2
-- and 6.3.7).
use Rattle.std.specs.Prelude.{◌≡◌, ◌+◌, ◌*◌, ℕ, List, [], ◌∷◌, ◌++◌, codes, Bool, true, false, Option, Some, None, Ok, Err, refl}
use Rattle.std.specs.FinMap.{get}
use Rattle.ar_space.specs.Accesses.{Accesses}
use Rattle.ar_space.specs.Outcome.{Outcome}
use Rattle.ar_space.specs.declared.refusal.Refusal.{Refusal}
use Rattle.ar_space.specs.declared.refusal.Refusal.TheVariants as refusal
use Rattle.ar_space.specs.declared.refusal.RoutingTableFault.TheVariants.{NotALink}
use Rattle.aml_path.specs.declared.segment.Seg.{Seg}
use Rattle.aml_objects.specs.declared.entry.Entry.{Entry}
use Rattle.aml_objects.specs.declared.entry.Method.{Method}
use Rattle.aml_objects.specs.declared.entry.NamedObject.{NamedObject}
use Rattle.aml_objects.specs.declared.entry.NamedObject.TheVariants as object
use Rattle.aml_objects.specs.declared.value.Value.TheVariants as value
use Rattle.aml_namespace.specs.Namespace.{Map}
use Rattle.aml_world.specs.declared.state.profile.Profile.{Profile}
use Rattle.aml_world.specs.declared.state.profile.Profile.TheVariants.{Wide}
use Rattle.aml_world.specs.state.Given as given
use Rattle.acpi_machine.specs.Calls.{evaluated_object}
use Rattle.acpi_machine.specs.MachineStates.{MachineState}

-- ---- names

abbrev pub hardware_id : Seg
hardware_id = record { bytes = codes "_HID"; valid = refl }

abbrev pub status : Seg
status = record { bytes = codes "_STA"; valid = refl }

abbrev pub possible_settings : Seg
possible_settings = record { bytes = codes "_PRS"; valid = refl }

abbrev pub current_settings : Seg
current_settings = record { bytes = codes "_CRS"; valid = refl }

abbrev pub new_settings : Seg
new_settings = record { bytes = codes "_SRS"; valid = refl }

abbrev pub routing_table_name : Seg
routing_table_name = record { bytes = codes "_PRT"; valid = refl }

-- ---- what stands at a path

pub record HoldsObject (names : Map) (p : List Seg) (o : NamedObject) : Type 0 where
  pub entry : Entry
  pub at : get names p ≡ Some entry
  pub is : entry.object ≡ o

-- a path leads to the target of the alias that stands there, and else to itself
pub data LeadsTo (names : Map) (p : List Seg) : List Seg → Type 0 where
  by_alias : (target : List Seg) → HoldsObject names p (object.Alias target) → LeadsTo names p target
  itself : ((target : List Seg) → HoldsObject names p (object.Alias target) → ⊥) → LeadsTo names p p

-- what may tell a hardware id: a name that holds an integer or a string, and in the wide profile a control method
pub data MayTellId (profile : Profile) : NamedObject → Type 0 where
  integer : (n : ℕ) → MayTellId profile (object.Data (value.Integer n))
  string : (number : ℕ) → MayTellId profile (object.Data (value.String number))
  method : (m : Method) → profile ≡ Wide → MayTellId profile (object.Method m)

-- the hardware id of interrupt link devices: the integer EISAID("PNP0C0F"), or this string
pub data IsLinkId : given.Given → Type 0 where
  compressed : IsLinkId (given.Integer 0x0F0CD041)
  spelled : IsLinkId (given.Text (codes "PNP0C0F"))

-- ---- calls

module _ {S : Type 0} (accesses : Accesses S) where
  -- How finding the link device at a path ends. There has to be a Device, or an alias of one, and its hardware id
  -- tells whether it is a link.
  pub data LinkEnds (p : List Seg) (m : MachineState S) : Outcome (List Seg) → MachineState S → Type 0 where
    found : (device name : List Seg) (o : NamedObject) (id : given.Given) (after : MachineState S) → LeadsTo m.world.names.map p device → HoldsObject m.world.names.map device object.Device
        → LeadsTo m.world.names.map (device ++ hardware_id ∷ []) name → HoldsObject m.world.names.map name o → MayTellId m.world.profile o → evaluated_object accesses name [] m ≡ (Ok id, after) → IsLinkId id
        → LinkEnds p m (Ok device) after
    another_id : (device name : List Seg) (o : NamedObject) (id : given.Given) (after : MachineState S) → LeadsTo m.world.names.map p device → HoldsObject m.world.names.map device object.Device
        → LeadsTo m.world.names.map (device ++ hardware_id ∷ []) name → HoldsObject m.world.names.map name o → MayTellId m.world.profile o → evaluated_object accesses name [] m ≡ (Ok id, after) → (IsLinkId id → ⊥)
        → LinkEnds p m (Err (refusal.RoutingTable NotALink)) after
    refused : (device name : List Seg) (o : NamedObject) (e : Refusal) (after : MachineState S) → LeadsTo m.world.names.map p device → HoldsObject m.world.names.map device object.Device
        → LeadsTo m.world.names.map (device ++ hardware_id ∷ []) name → HoldsObject m.world.names.map name o → MayTellId m.world.profile o → evaluated_object accesses name [] m ≡ (Err e, after)
        → LinkEnds p m (Err e) after
    no_id : (device name : List Seg) → LeadsTo m.world.names.map p device → HoldsObject m.world.names.map device object.Device
        → LeadsTo m.world.names.map (device ++ hardware_id ∷ []) name → ((o : NamedObject) → HoldsObject m.world.names.map name o → MayTellId m.world.profile o → ⊥)
        → LinkEnds p m (Err (refusal.RoutingTable NotALink)) m
    no_device : (device : List Seg) → LeadsTo m.world.names.map p device → (HoldsObject m.world.names.map device object.Device → ⊥) → LinkEnds p m (Err (refusal.RoutingTable NotALink)) m

  -- what the object at a path answers, and the machine that it leaves: nothing, where no name stands there
  pub data ObjectAnswers (p : List Seg) (arguments : List given.Given) (m : MachineState S) : Outcome (Option given.Given) → MachineState S → Type 0 where
    absent : get m.world.names.map p ≡ None → ObjectAnswers p arguments m (Ok None) m
    answered : (entry : Entry) (g : given.Given) (after : MachineState S) → get m.world.names.map p ≡ Some entry → evaluated_object accesses p arguments m ≡ (Ok g, after) → ObjectAnswers p arguments m (Ok (Some g)) after
    refused_so : (entry : Entry) (e : Refusal) (after : MachineState S) → get m.world.names.map p ≡ Some entry → evaluated_object accesses p arguments m ≡ (Err e, after) → ObjectAnswers p arguments m (Err e) after

-- what a status says of presence: a device without one is present, and with one it is by bit 0 of its integer
pub data TellsPresence : Option given.Given → Bool → Type 0 where
  no_status : TellsPresence None true
  odd : (n : ℕ) → TellsPresence (Some (given.Integer (2 * n + 1))) true
  even : (n : ℕ) → TellsPresence (Some (given.Integer (2 * n))) false
