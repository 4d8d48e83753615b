-- How the tables of a machine are loaded (ACPI 6.5, 5.4).
use Rattle.std.specs.Prelude.{ℕ, nat_lt, List, [], ◌∷◌, length, drop, Ok, Err, if◌then◌else◌}
use Rattle.ar_space.specs.declared.refusal.Refusal.TheVariants as refusal
use Rattle.ar_space.specs.declared.refusal.EvaluationFault.TheVariants.{ObjectLimit}
use Rattle.ar_space.specs.Accesses.{Accesses}
use Rattle.ar_space.specs.Outcome.{Outcome}
use Rattle.ar_space.specs.Change.{Change, give, settle, ◌>>◌}
use Rattle.ar_tables.specs.declared.tables.Tables.{Tables}
use Rattle.aml_world.specs.state.State.{State}
use Rattle.aml_world.specs.state.Predefined.{predefined}
use Rattle.aml_meaning.specs.Calling.{loaded}

-- `_OSI` knows at most 64 texts
abbrev pub few_texts : List (List ℕ) → Outcome (Unit {0})
few_texts texts = if nat_lt 64 (length texts) then Err (refusal.Evaluation ObjectLimit) else Ok tt

-- accesses: what the register space makes of them
module _ {S : Type 0} (accesses : Accesses S) where
  -- the AML of a table stands behind its header of 36 bytes
  unfoldable pub table_loaded : ℕ → List ℕ → Change (State S) (Unit {0})
  table_loaded steps table = loaded accesses (drop 36 table) steps

  unfoldable pub each_loaded : ℕ → List (List ℕ) → Change (State S) (Unit {0})
  each_loaded steps [] = give tt
  each_loaded steps (table ∷ tables) = do
    table_loaded steps table
    each_loaded steps tables

  -- the DSDT, and each SSDT in the order of the list
  unfoldable pub all_loaded : Tables → ℕ → Change (State S) (Unit {0})
  all_loaded t steps = do
    table_loaded steps t.dsdt
    each_loaded steps t.ssdts

  -- from a world in which nothing is declared
  unfoldable pub loaded_tables : Tables → ℕ → List (List ℕ) → Change (State S) (Unit {0})
  loaded_tables t steps osi = do
    settle (few_texts osi)
    predefined
    all_loaded t steps
