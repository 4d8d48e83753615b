-- What a machine text describes.
use Rattle.std.proofs.Common.{◌≡◌, subst, sym}
use Rattle.std.specs.Prelude.{ℕ, List, Ok}
use Rattle.ar_space.specs.Bytes.{Bytes}
use Rattle.ar_space.specs.Outcome.{Outcome, Answers}
use Rattle.ar_tables.specs.declared.tables.Tables.{Tables}
use Rattle.ar_tables.specs.FindTables.{tables_of}
use Rattle.machine_text.specs.declared.machine_lines.MachineText.{MachineText}

-- what holds of its tables, its texts of `_OSI` and its registers holds of what the text says
pub of_described : (P : Outcome Tables → List (List ℕ) → Bytes → Type 0) (m : MachineText) (t : Tables) (osi : List (List ℕ)) (registers : Bytes) → Answers (Ok t) (tables_of m.space.memory m.rsdp) → osi ≡ m.osi → registers ≡ m.space → P (Ok t) osi registers
    → P (tables_of m.space.memory m.rsdp) m.osi m.space
of_described P m t osi registers found texts bytes h = subst (λ x. P x m.osi m.space) (sym (found.is tt)) (subst (λ x. P (Ok t) x m.space) texts (subst (λ x. P (Ok t) osi x) bytes h))
