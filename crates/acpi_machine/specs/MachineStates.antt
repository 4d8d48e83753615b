-- A machine, as contracts see it.
use Rattle.std.specs.Prelude.{ℕ, Bool, true, false, refl, Option}
use Rattle.std.specs.Coded.{Coded, code_by, coded×, coded_ℕ, coded_bool}
use Rattle.ar_tables.specs.declared.tables.Tables.{Tables}
use Rattle.ar_tables.specs.contracts.tables.Tables as tables_type
use Rattle.aml_world.specs.state.State.{State, state_code}
use Rattle.ar_tables.specs.declared.mode.Mode.{Mode}
use Rattle.ar_tables.specs.declared.mode.Mode.TheVariants.{Apic, Pic}
use Rattle.ar_tables.specs.contracts.mode.Mode as mode_type
use Rattle.ar_tables.specs.SciSources.{sci_source}

-- the world, the tables, the mode, how many steps an evaluation may take, and whether a call ran out of memory
pub record MachineState (S : Type 0) : Type 0 where
  pub world : State S
  pub tables : Tables
  pub mode : Mode
  pub steps : ℕ
  pub spent : Bool

abbrev pub machine_code : {S : Type 0} → Coded S → Coded (MachineState S)
machine_code {S = S} code =
    code_by (State S × (Tables × (Mode × (ℕ × Bool))))
    (coded× (state_code code) (coded× tables_type.the_row.coded (coded× mode_type.the_row.coded (coded× coded_ℕ coded_bool))))
    (λ s. (s.world, (s.tables, (s.mode, (s.steps, s.spent)))))
    (λ p. record { world = p.0; tables = p.1.0; mode = p.1.1.0; steps = p.1.1.1.0; spent = p.1.1.1.1 })
    (λ _. refl)

-- a machine as loading leaves it
abbrev pub machine_of : {S : Type 0} → Tables → ℕ → State S → MachineState S
machine_of t steps w = record { world = w; tables = t; mode = Apic; steps = steps; spent = false }

-- whether I/O APICs are used
abbrev pub is_apic : Mode → Bool
is_apic Pic = false
is_apic Apic = true

-- the interrupt source of the System Control Interrupt, in the machine's mode
abbrev pub sci_of : {S : Type 0} → MachineState S → Option ℕ
sci_of s = sci_source s.tables (is_apic s.mode)
