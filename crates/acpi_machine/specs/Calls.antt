-- What a machine answers (ACPI 6.5, 5.5).
use Rattle.std.specs.Prelude.{ℕ, List, [], ◌∷◌, codes, Ok, Err, if◌then◌else◌}
use Rattle.std.specs.FinMap.{contains_key}
use Rattle.ar_space.specs.declared.refusal.Refusal.{Refusal}
use Rattle.ar_space.specs.declared.refusal.Refusal.TheVariants as refusal
use Rattle.ar_space.specs.declared.refusal.MachineFault.TheVariants.{Spent}
use Rattle.ar_space.specs.Accesses.{Accesses}
use Rattle.ar_space.specs.Outcome.{Outcome}
use Rattle.ar_space.specs.Change.{Change, give, stop, settle, ◌>>=◌, ◌>>◌}
use Rattle.aml_path.specs.declared.segment.Seg.{Seg}
use Rattle.aml_world.specs.state.State.{State}
use Rattle.aml_world.specs.state.Given as given
use Rattle.aml_world.specs.state.Profiles.{is_wide}
use Rattle.aml_world.specs.state.Noting.{passed_over}
use Rattle.aml_meaning.specs.Calling.{answered}
use Rattle.ar_tables.specs.declared.mode.Mode.{Mode}
use Rattle.ar_tables.specs.declared.mode.Mode.TheVariants.{Pic, Apic}
use Rattle.acpi_machine.specs.MachineStates.{MachineState}
use Rattle.acpi_machine.specs.FixedPaths.{at_root, below_root}
use Rattle.acpi_machine.specs.Loading.{few_texts}

-- a change of the world alone
unfoldable pub on_world : {S A : Type 0} → Change (State S) A → Change (MachineState S) A
on_world m s = ((m s.world).0, record s { world = (m s.world).1 })

-- a machine on which memory ran out answers no call
unfoldable pub unless_spent : {S A : Type 0} → Change (MachineState S) A → Change (MachineState S) A
unless_spent m s = if s.spent then stop (refusal.Machine Spent) s else m s

-- the argument of `\_PIC` (ACPI 6.5, 5.8.1)
abbrev pub mode_number : Mode → ℕ
mode_number Pic = 0
mode_number Apic = 1

-- a call that is refused is passed over, as an item of a table is, where the profile is the wide one
abbrev pub refused_call : {S : Type 0} → List Seg → Refusal → Change (MachineState S) (Unit {0})
refused_call p e s = if is_wide s.world.profile then on_world (passed_over p e) s else (Err e, s)

abbrev pub call_done : {S : Type 0} → List Seg → Outcome (Unit {0}) → Change (MachineState S) (Unit {0})
call_done p (Ok done) s = (Ok done, s)
call_done p (Err e) s = refused_call p e s

unfoldable pub call_passing : {S : Type 0} → List Seg → Change (MachineState S) (Unit {0}) → Change (MachineState S) (Unit {0})
call_passing p m s = let a = m s in call_done p a.0 a.1

-- accesses: what the register space makes of them
module _ {S : Type 0} (accesses : Accesses S) where
  -- what the object at a path answers within the steps of the machine
  unfoldable pub object_answered : List Seg → List given.Given → Change (MachineState S) given.Given
  object_answered p arguments s = on_world (answered accesses p arguments s.steps) s

  unfoldable pub evaluated_object : List Seg → List given.Given → Change (MachineState S) given.Given
  evaluated_object p arguments = unless_spent (object_answered p arguments)

  -- ---- initializing

  -- what it answers is dropped
  unfoldable pub object_called : List Seg → List given.Given → Change (MachineState S) (Unit {0})
  object_called p arguments = do
    answer ← object_answered p arguments
    give tt

  -- where a name stands at the path itself
  unfoldable pub called_where_it_stands : List Seg → List given.Given → Change (MachineState S) (Unit {0})
  called_where_it_stands p arguments s = if contains_key s.world.names.map p then call_passing p (object_called p arguments) s else (Ok tt, s)

  unfoldable pub initial_calls : Mode → Change (MachineState S) (Unit {0})
  initial_calls mode = do
    root_ini ← settle (at_root (codes "_INI"))
    called_where_it_stands root_ini []
    bus_ini ← settle (below_root (codes "_SB_") (codes "_INI"))
    called_where_it_stands bus_ini []
    pic ← settle (at_root (codes "_PIC"))
    called_where_it_stands pic (given.Integer (mode_number mode) ∷ [])

  -- the mode is kept, however the calls end
  unfoldable pub started : Mode → Change (MachineState S) (Unit {0})
  started mode s = initial_calls mode (record s { mode = mode })

  unfoldable pub initialized : Mode → Change (MachineState S) (Unit {0})
  initialized mode = unless_spent (started mode)

-- ---- the texts that `_OSI` knows

unfoldable pub texts_kept : {S : Type 0} → List (List ℕ) → Change (MachineState S) (Unit {0})
texts_kept texts s = (Ok tt, record s { world = record s.world { osi = texts } })

unfoldable pub few_texts_kept : {S : Type 0} → List (List ℕ) → Change (MachineState S) (Unit {0})
few_texts_kept texts = do
  settle (few_texts texts)
  texts_kept texts

unfoldable pub osi_set : {S : Type 0} → List (List ℕ) → Change (MachineState S) (Unit {0})
osi_set texts = unless_spent (few_texts_kept texts)
