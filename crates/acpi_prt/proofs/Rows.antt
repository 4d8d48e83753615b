-- The elements of a package as a list.
use Rattle.std.specs.Prelude.{◌≡◌, map, refl, ℕ, ◌^◌, ◌/◌, ◌==◌, nat_lt, List, [], ◌∷◌, Ok, Err, if◌then◌else◌}
use Rattle.ar_space.specs.declared.refusal.Refusal.TheVariants.{RoutingTable}
use Rattle.ar_space.specs.declared.refusal.RoutingTableFault.TheVariants.{NotPackage, BadEntry, BadPin, SourceIndex}
use Rattle.ar_space.specs.Outcome.{Outcome}
use Rattle.std.proofs.Common.{ap}
use mathlib.Core.Former.{Count}
use Rattle.aml_world.specs.declared.state.datum.Datum as datum
use Rattle.aml_world.specs.state.Given.{Given, Givens, none, more, given_of, row_of}
use Rattle.aml_world.specs.state.Given as given
use Rattle.acpi_prt.specs.Entries.{device_number, entries_of, fits_word, pin_tested, list_of, no_index, source_tested, word_of, zero_source}

pub row_items : (n : Count) (k : datum.Row_of-Datum n) → list_of (row_of k) ≡ map given_of (datum.items-the_row-Datum n k)
row_items n datum.end_of-Datum = refl
row_items n (datum.more_of-Datum t rest) = ap (λ gs. given_of t ∷ gs) (row_items _ rest)

pub ruleset rows = (datum.the_lemmas, row_items)
