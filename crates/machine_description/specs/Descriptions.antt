-- What the machine of a machine text is loaded from.
use Rattle.std.specs.Prelude.{ℕ, List, Ok}
use Rattle.ar_space.specs.Bytes.{Bytes}
use Rattle.ar_space.specs.Outcome.{Outcome, ◌>>=◌}
use Rattle.ar_tables.specs.declared.tables.Tables.{Tables}
use Rattle.ar_tables.specs.FindTables.{tables_of}
use Rattle.machine_text.specs.MachineText.{machine_text}

-- the tables of a machine, the texts that `_OSI` knows, and the bytes of its registers
abbrev pub Description : Type 0
Description = Tables × (List (List ℕ) × Bytes)

-- the memory of a machine text is the image of its tables
unfoldable pub described : List ℕ → Outcome Description
described text = do
  m ← machine_text text
  t ← tables_of m.space.memory m.rsdp
  Ok (t, (m.osi, m.space))
