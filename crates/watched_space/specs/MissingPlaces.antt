-- The bytes that a register space was asked for and doesn't have, by address space.
use Rattle.std.specs.Prelude.{ℕ, ◌/◌, ◌%◌, Bool, List, [], ◌++◌, map, Option, refl}
use Rattle.std.specs.Coded.{Coded, code_by, coded×}
use Rattle.ar_space.specs.Registers.{counted}
use Rattle.ar_space.specs.declared.space.Place.{Place}
use Rattle.ar_space.specs.declared.space.Place.TheVariants.{Memory, Io, Pci}
use Rattle.watched_space.specs.NumberedBytes.{Numbered, numbered_code, read_zero, written_zero}

-- those of memory by address, of ports by port, and registers by their number among the registers of all functions
pub record Missing : Type 0 where
  pub memory : Numbered
  pub ports : Numbered
  pub registers : Numbered

abbrev pub missing_code : Coded Missing
missing_code = code_by (Numbered × (Numbered × Numbered)) (coded× numbered_code (coded× numbered_code numbered_code))
    (λ m. (m.memory, (m.ports, m.registers))) (λ p. record { memory = p.0; ports = p.1.0; registers = p.1.1 }) (λ _. refl)

abbrev pub no_missing : Missing
no_missing = record { memory = []; ports = []; registers = [] }

-- the byte at a place is asked for: what it is, if there is room, and the bytes then
abbrev pub missing_read : Missing → Place → Option ℕ × Missing
missing_read m (Memory address) = let z = read_zero m.memory address in (z.0, record m { memory = z.1 })
missing_read m (Io port) = let z = read_zero m.ports port in (z.0, record m { ports = z.1 })
missing_read m (Pci seg bus dev func reg) = let z = read_zero m.registers (counted (record { seg = seg; bus = bus; dev = dev; func = func; reg = reg })) in (z.0, record m { registers = z.1 })

-- it is written: whether there was room, and the bytes then
abbrev pub missing_written : Missing → Place → ℕ → Bool × Missing
missing_written m (Memory address) byte = let z = written_zero m.memory address byte in (z.0, record m { memory = z.1 })
missing_written m (Io port) byte = let z = written_zero m.ports port byte in (z.0, record m { ports = z.1 })
missing_written m (Pci seg bus dev func reg) byte = let z = written_zero m.registers (counted (record { seg = seg; bus = bus; dev = dev; func = func; reg = reg })) byte in (z.0, record m { registers = z.1 })

-- ---- the places, each once, in ascending order

abbrev pub memory_place : ℕ × ℕ → Place
memory_place entry = Memory entry.0

abbrev pub port_place : ℕ × ℕ → Place
port_place entry = Io (entry.0 % 65536)

abbrev pub register_place : ℕ × ℕ → Place
register_place entry = let function = entry.0 / 65536 in Pci (function / 16777216 % 65536) (function / 65536 % 256) (function / 256 % 256) (function % 256) (entry.0 % 65536)

abbrev pub missing_places : Missing → List Place
missing_places m = (map memory_place m.memory ++ map port_place m.ports) ++ map register_place m.registers
