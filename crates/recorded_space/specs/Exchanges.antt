-- What an access with its answer says of an access.
use Rattle.std.specs.Prelude.{◌≢◌, ℕ, ◌==◌, ◌^◌, nat_lt, Bool, false, Option, Some, None, Result, Ok, Err, if◌then◌else◌}
use Rattle.ar_space.specs.declared.refusal.SpaceFault.{SpaceFault}
use Rattle.ar_space.specs.declared.space.Width.{Width}
use Rattle.ar_space.specs.declared.space.Place.{Place}
use Rattle.ar_space.specs.declared.space.Place.TheVariants.{Memory, Io, Pci}
use Rattle.ar_space.specs.Accesses.{bit_count}
use Rattle.space_trace.specs.declared.access.Access.{Access}
use Rattle.space_trace.specs.declared.access.Access.TheVariants as access
use Rattle.recorded_space.specs.declared.exchange.Exchange.{Exchange}
use Rattle.recorded_space.specs.declared.exchange.Exchange.TheVariants.{Read, Write}

abbrev pub access_of : Exchange → Access
access_of (Read place width answer) = access.Read place width
access_of (Write place width value answer) = access.Write place width value

abbrev pub is_same_place : Place → Place → Bool
is_same_place (Memory a) (Memory b) = a == b
is_same_place (Io a) (Io b) = a == b
is_same_place (Pci seg bus dev func reg) (Pci seg2 bus2 dev2 func2 reg2) =
    if seg == seg2 then (if bus == bus2 then (if dev == dev2 then (if func == func2 then reg == reg2 else false) else false) else false) else false
is_same_place a b = false

abbrev pub is_same_width : Width → Width → Bool
is_same_width a b = bit_count a == bit_count b

abbrev pub is_same_register : Place → Width → Place → Width → Bool
is_same_register at wide place width = if is_same_place at place then is_same_width wide width else false

-- an answer whose value fits the width
abbrev pub kept : Width → Result ℕ SpaceFault → Option (Result ℕ SpaceFault)
kept width (Ok value) = if nat_lt value (2 ^ bit_count width) then Some (Ok value) else None
kept width (Err fault) = Some (Err fault)

-- the value that was read fits the width
abbrev pub IsKept : Exchange → Type 0
IsKept (Read place width answer) = kept width answer ≢ None
IsKept (Write place width value answer) = Unit {0}

-- what an entry says of a read, and of a write: nothing, where it is another access
abbrev pub read_answer : Place → Width → Exchange → Option (Result ℕ SpaceFault)
read_answer place width (Read at wide answer) = if is_same_register at wide place width then kept width answer else None
read_answer place width (Write at wide written answer) = None

abbrev pub write_answer : Place → Width → ℕ → Exchange → Option (Result (Unit {0}) SpaceFault)
write_answer place width value (Read at wide answer) = None
write_answer place width value (Write at wide written answer) =
    if is_same_register at wide place width then (if written == value then Some answer else None) else None
