-- The parts of an entry of a routing table (ACPI 6.5, table 6.15).
use Rattle.std.specs.Prelude.{◌≡◌, map, refl, ℕ, ◌^◌, ◌/◌, ◌==◌, nat_lt, List, [], ◌∷◌, Ok, Err, if◌then◌else◌}
use Rattle.ar_space.specs.declared.refusal.Refusal.TheVariants.{RoutingTable}
use Rattle.ar_space.specs.declared.refusal.RoutingTableFault.TheVariants.{NotPackage, BadEntry, BadPin, SourceIndex}
use Rattle.ar_space.specs.Outcome.{Outcome}
use Rattle.aml_world.specs.state.Given.{Given, Givens, none, more, given_of, row_of}
use Rattle.aml_world.specs.state.Given as given

abbrev pub list_of : Givens → List Given
list_of none = []
list_of (more g gs) = g ∷ list_of gs

-- the entries of a table
abbrev pub entries_of : Given → Outcome (List Given)
entries_of (given.Package gs) = Ok (list_of gs)
entries_of _ = Err (RoutingTable NotPackage)

-- an integer of at most 32 bits
abbrev pub fits_word : ℕ → Outcome ℕ
fits_word n = if nat_lt n (2 ^ 32) then Ok n else Err (RoutingTable BadEntry)

abbrev pub word_of : Given → Outcome ℕ
word_of (given.Integer n) = fits_word n
word_of _ = Err (RoutingTable BadEntry)

-- a source is the integer 0 or a name
abbrev pub zero_source : ℕ → Outcome (Unit {0})
zero_source n = if n == 0 then Ok tt else Err (RoutingTable BadEntry)

abbrev pub source_tested : Given → Outcome (Unit {0})
source_tested (given.Integer n) = zero_source n
source_tested (given.Named p) = Ok tt
source_tested _ = Err (RoutingTable BadEntry)

-- pins A to D are 0 to 3
abbrev pub pin_tested : ℕ → Outcome ℕ
pin_tested pin = if nat_lt 3 pin then Err (RoutingTable BadPin) else Ok pin

-- the source index at a link device
abbrev pub no_index : ℕ → Outcome (Unit {0})
no_index index = if index == 0 then Ok tt else Err (RoutingTable SourceIndex)

-- the high word of an address (ACPI 6.5, 6.1.1)
abbrev pub device_number : ℕ → ℕ
device_number address = address / 2 ^ 16
