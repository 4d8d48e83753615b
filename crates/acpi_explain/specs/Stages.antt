-- Where a run is refused: which table, which call, which object. Each is refused in the world that those before it leave.
use Rattle.std.specs.Prelude.{◌≡◌, ◌⊎◌, ⊤, ℕ, Bool, true, false, List, [], ◌∷◌, Option, Some, None, codes, Ok, Err}
use Rattle.ar_space.specs.Accesses.{Accesses}
use Rattle.ar_space.specs.Change.{Change}
use Rattle.ar_space.specs.Outcome.{Outcome}
use Rattle.ar_space.specs.declared.refusal.Refusal.{Refusal}
use Rattle.ar_space.specs.declared.refusal.Refusal.TheVariants as refusal
use Rattle.ar_space.specs.declared.refusal.RoutingFault.TheVariants.{Avoided, MixedPolarity, TooMany}
use Rattle.ar_tables.specs.declared.mode.Mode.{Mode}
use Rattle.ar_tables.specs.declared.tables.Tables.{Tables}
use Rattle.aml_path.specs.declared.segment.Seg.{Seg}
use Rattle.aml_world.specs.declared.state.settings.EvaluationSettings.{EvaluationSettings}
use Rattle.aml_world.specs.state.Given as given
use Rattle.aml_world.specs.state.Predefined.{fresh_as, predefined}
use Rattle.aml_world.specs.state.State.{State}
use Rattle.acpi_machine.specs.Calls.{called_where_it_stands, evaluated_object, initialized, mode_number}
use Rattle.acpi_machine.specs.FixedPaths.{at_root, below_root}
use Rattle.acpi_machine.specs.Loading.{few_texts, loaded_tables, table_loaded}
use Rattle.acpi_machine.specs.MachineStates.{MachineState, sci_of}
use Rattle.acpi_prt.specs.Children.{child_named}
use Rattle.acpi_prt.specs.declared.pin.Pin.{Pin}
use Rattle.acpi_links.specs.Devices.{devices, pins_of_device}
use Rattle.acpi_links.specs.Gatherings.{Gathering, gathered, pins_found}
use Rattle.acpi_links.specs.Links.{few_links, link_asked, links_named}
use Rattle.acpi_links.specs.Presence.{is_present}
use Rattle.acpi_links.specs.Resources.{possible_resources, current_resources}
use Rattle.acpi_links.specs.Stops.{offer_asked}
use Rattle.acpi_explain.specs.Refused.{IsFirstRefused}
use Rattle.acpi_explain.specs.declared.stage.Stage.{Stage}
use Rattle.acpi_explain.specs.declared.stage.Stage.TheVariants as stages

-- ---- the calls of initializing

-- a path, and the arguments of the call
abbrev pub Call : Type 0
Call = List Seg × List given.Given

-- the paths of what is called to initialize a machine (ACPI 6.5, 6.5.1 and 5.8.1)
pub record InitialPaths : Type 0 where
  pub root_ini : List Seg
  pub bus_ini : List Seg
  pub pic : List Seg
  pub is_root_ini : at_root (codes "_INI") ≡ Ok root_ini
  pub is_bus_ini : below_root (codes "_SB_") (codes "_INI") ≡ Ok bus_ini
  pub is_pic : at_root (codes "_PIC") ≡ Ok pic

abbrev pub calls_in : Mode → InitialPaths → List Call
calls_in mode p = (p.root_ini, []) ∷ (p.bus_ini, []) ∷ (p.pic, given.Integer (mode_number mode) ∷ []) ∷ []

-- a machine in a mode
abbrev pub in_mode : {S : Type 0} → Mode → MachineState S → MachineState S
in_mode mode s = record s { mode = mode }

-- ---- gathering

-- what has no object of its own: that too much was found, that nothing is left of an offer, or that links differ in polarity
abbrev pub IsOfNoObject : {A : Type 0} → Outcome A → Type 0
IsOfNoObject (Ok a) = ⊤
IsOfNoObject (Err e) = (e ≡ refusal.Routing TooMany) ⊎ (((p : List ℕ) × (e ≡ refusal.Routing (Avoided p))) ⊎ (e ≡ refusal.Routing MixedPolarity))

-- accesses: what the register space makes of them
module _ {S : Type 0} (accesses : Accesses S) where
  -- ---- loading

  -- The table with this number, the DSDT being 0, is refused; those before it are loaded, from a world in which nothing is declared. So
  -- is loading all.
  pub record IsTableRefused (settings : EvaluationSettings) (t : Tables) (steps : ℕ) (osi : List (List ℕ)) (space : S) (number : ℕ) : Type 0 where
    pub world : State S
    pub is_world : predefined (fresh_as settings t.width osi space) ≡ (Ok tt, world)
    pub after : State S
    pub refusal : Refusal
    pub table : List ℕ
    pub is_first : IsFirstRefused (table_loaded accesses steps) (t.dsdt ∷ t.ssdts) number table world after refusal
    pub is_run : loaded_tables accesses t steps osi (fresh_as settings t.width osi space) ≡ (Err refusal, after)

  -- which table is refused; where none is, all are loaded, unless `_OSI` is to know too many texts
  abbrev pub IsTable : EvaluationSettings → Tables → ℕ → List (List ℕ) → S → Option ℕ → Type 0
  IsTable settings t steps osi space None = few_texts osi ≡ Ok tt → (after : State S) × (loaded_tables accesses t steps osi (fresh_as settings t.width osi space) ≡ (Ok tt, after))
  IsTable settings t steps osi space (Some number) = IsTableRefused settings t steps osi space number

  -- ---- initializing

  -- a call, where a name stands at its path
  abbrev pub call_made : Call → Change (MachineState S) (Unit {0})
  call_made c = called_where_it_stands accesses c.0 c.1

  -- The call at this path is refused; those before it are answered or passed over. Initializing is refused so, too.
  pub record IsCallRefused (mode : Mode) (before : MachineState S) (path : List Seg) : Type 0 where
    pub paths : InitialPaths
    pub after : MachineState S
    pub refusal : Refusal
    pub arguments : List given.Given
    pub number : ℕ
    pub is_first : IsFirstRefused call_made (calls_in mode paths) number (path, arguments) (in_mode mode before) after refusal
    pub is_run : initialized accesses mode before ≡ (Err refusal, after)

  abbrev pub IsCall : Mode → MachineState S → Option (List Seg) → Type 0
  IsCall mode before None = (after : MachineState S) × (initialized accesses mode before ≡ (Ok tt, after))
  IsCall mode before (Some path) = IsCallRefused mode before path

  -- ---- one evaluation

  -- whether it is refused
  abbrev pub IsEvaluation : List Seg → List given.Given → MachineState S → Bool → Type 0
  IsEvaluation path arguments before true = (e : Refusal) × (after : MachineState S) × (evaluated_object accesses path arguments before ≡ (Err e, after))
  IsEvaluation path arguments before false = (value : given.Given) × (after : MachineState S) × (evaluated_object accesses path arguments before ≡ (Ok value, after))

  -- ---- gathering; avoid: the interrupts that no link is to be given

  module _ (avoid : List ℕ) where
    -- `_STA` of a link is refused
    pub record IsStatus (link path : List Seg) (before after : MachineState S) (e : Refusal) : Type 0 where
      pub is_path : child_named link (codes "_STA") ≡ Ok path
      pub is_refused : is_present accesses link before ≡ (Err e, after)

    -- `_PRS` is, of a link that is present
    pub record IsOffer (link path : List Seg) (before after : MachineState S) (e : Refusal) : Type 0 where
      pub is_path : child_named link (codes "_PRS") ≡ Ok path
      pub there : MachineState S
      pub present : is_present accesses link before ≡ (Ok true, there)
      pub is_refused : possible_resources accesses link there ≡ (Err e, after)

    -- `_CRS` is, of a link that is present and offers an interrupt that isn't avoided
    pub record IsSetting (link path : List Seg) (before after : MachineState S) (e : Refusal) : Type 0 where
      pub is_path : child_named link (codes "_CRS") ≡ Ok path
      pub asked : MachineState S
      pub present : is_present accesses link before ≡ (Ok true, asked)
      pub there : MachineState S
      pub offered : offer_asked accesses avoid link asked ≡ (Ok tt, there)
      pub is_refused : current_resources accesses link there ≡ (Err e, after)

    -- the object at a path is refused, and it is one of this link
    abbrev pub IsOfLink : List Seg → List Seg → MachineState S → MachineState S → Refusal → Type 0
    IsOfLink link path before after e = IsStatus link path before after e ⊎ (IsOffer link path before after e ⊎ IsSetting link path before after e)

    -- all routing tables are read, and the links that they lead to are asked, until one is refused by the object at a path
    pub record IsObject (path : List Seg) (before after : MachineState S) (e : Refusal) : Type 0 where
      pub pins : List (List Seg × Pin)
      pub asked : MachineState S
      pub are_found : pins_found accesses (sci_of before) before ≡ (Ok pins, asked)
      pub few : few_links (links_named pins) ≡ Ok tt
      pub link : List Seg
      pub number : ℕ
      pub is_first : IsFirstRefused (link_asked accesses avoid) (links_named pins) number link asked after e
      pub is_object : IsOfLink link path is_first.there after e

    -- at a stage of gathering a part is refused
    abbrev pub IsRefusedAt : Stage → MachineState S → MachineState S → Refusal → Type 0
    IsRefusedAt (stages.Loading n) before after e = ⊥
    IsRefusedAt (stages.Calling path) before after e = ⊥
    IsRefusedAt (stages.RoutingTable device) before after e = (n : ℕ) × IsFirstRefused (pins_of_device accesses) (devices before) n device before after e
    IsRefusedAt (stages.Reading path) before after e = IsObject path before after e
    IsRefusedAt (stages.Setting link) before after e = ⊥
    IsRefusedAt (stages.ReadingAgain link) before after e = ⊥
    IsRefusedAt stages.Gathering before after e = IsOfNoObject {A = Gathering} (Err e)

    -- gathering is refused by e at a stage
    pub record IsStageBy (before : MachineState S) (stage : Stage) (e : Refusal) : Type 0 where
      pub after : MachineState S
      pub is_stage : IsRefusedAt stage before after e
      pub is_run : gathered accesses avoid before ≡ (Err e, after)

    -- `Gathering` is also told where it isn't refused
    pub record IsNotRefused (before : MachineState S) (stage : Stage) : Type 0 where
      pub is_stage : stage ≡ stages.Gathering
      pub found : Gathering
      pub after : MachineState S
      pub is_run : gathered accesses avoid before ≡ (Ok found, after)

    -- the stage at which gathering is refused
    abbrev pub IsStage : MachineState S → Stage → Type 0
    IsStage before stage = ((e : Refusal) × IsStageBy before stage e) ⊎ IsNotRefused before stage
