-- Accesses, as C has them: what their numbers mean.
use Rattle.std.specs.Prelude.{◌≢◌, ◌<◌, ◌^◌, ℕ, ◌==◌, nat_lt, Option, Some, None, Result, Ok, Err, if◌then◌else◌}
use Rattle.ar_space.specs.Accesses.{bit_count}
use Rattle.ar_space.specs.declared.refusal.SpaceFault.{SpaceFault}
use Rattle.ar_space.specs.declared.refusal.SpaceFault.TheVariants.{NoRegister, Device}
use Rattle.ar_space.specs.declared.space.Place.{Place}
use Rattle.ar_space.specs.declared.space.Place.TheVariants.{Memory, Io, Pci}
use Rattle.ar_space.specs.declared.space.Width.{Width}
use Rattle.ar_space.specs.declared.space.Width.TheVariants.{W8, W16, W32, W64}
use Rattle.space_trace.specs.declared.access.Access.{Access}
use Rattle.space_trace.specs.declared.access.Access.TheVariants as access
use Rattle.recorded_space.specs.declared.exchange.Exchange.{Exchange}
use Rattle.recorded_space.specs.declared.exchange.Exchange.TheVariants as exchange
use Rattle.recorded_space.specs.Exchanges.{kept}
use Rattle.recorded_route.specs.declared.ending.WantedAccess.{WantedAccess}
use Rattle.acpiroute_c.specs.declared.call_access.CallAccess.{CallAccess}
use Rattle.acpiroute_c.specs.declared.call_access.CallWanted.{CallWanted}

abbrev pub port_at : ℕ → Option Place
port_at address = if nat_lt address 0x10000 then Some (Io address) else None

abbrev pub register_at : CallAccess → Option Place
register_at a = if nat_lt a.address 0x10000 then Some (Pci a.segment a.bus a.device a.function a.address) else None

-- 0 memory, 1 I/O ports, 2 the configuration space of a PCI function
abbrev pub place_of : CallAccess → Option Place
place_of a = if a.space == 0 then Some (Memory a.address) else (if a.space == 1 then port_at a.address else (if a.space == 2 then register_at a else None))

abbrev pub width_of : ℕ → Option Width
width_of n = if n == 8 then Some W8 else (if n == 16 then Some W16 else (if n == 32 then Some W32 else (if n == 64 then Some W64 else None)))

-- 0 it was answered, 1 there is no register, 2 the device failed
abbrev pub answer_of : ℕ → ℕ → Option (Result ℕ SpaceFault)
answer_of n value = if n == 0 then Some (Ok value) else (if n == 1 then Some (Err NoRegister) else (if n == 2 then Some (Err Device) else None))

-- of a write it only counts whether it was answered
abbrev pub done : Result ℕ SpaceFault → Result (Unit {0}) SpaceFault
done (Ok value) = Ok tt
done (Err fault) = Err fault

-- a value that was read fits the width
abbrev pub read_with : Place → Width → Option (Result ℕ SpaceFault) → Option Exchange
read_with place width (Some answer) = Some (exchange.Read place width answer)
read_with place width None = None

-- 0 a read, 1 a write
abbrev pub exchange_with : ℕ → Place → Width → ℕ → Result ℕ SpaceFault → Option Exchange
exchange_with kind place width value answer =
    if kind == 0 then read_with place width (kept width answer) else (if kind == 1 then Some (exchange.Write place width value (done answer)) else None)

abbrev with_answer : CallAccess → Place → Width → Option (Result ℕ SpaceFault) → Option Exchange
with_answer a place width (Some answer) = exchange_with a.kind place width a.value answer
with_answer a place width None = None

abbrev with_width : CallAccess → Place → Option Width → Option Exchange
with_width a place (Some width) = with_answer a place width (answer_of a.answer a.value)
with_width a place None = None

abbrev with_place : CallAccess → Option Place → Option Exchange
with_place a (Some place) = with_width a place (width_of a.width)
with_place a None = None

-- an access with its answer, where all of its numbers mean something
abbrev pub exchange_of : CallAccess → Option Exchange
exchange_of a = with_place a (place_of a)

-- all of its numbers mean something
abbrev pub IsEntry : CallAccess → Type 0
IsEntry a = exchange_of a ≢ None

-- ---- an access that is wanted

abbrev pub place_form : Place → Width → ℕ → ℕ → CallAccess
place_form (Memory address) width kind value =
    record { address = address; value = value; segment = 0; bus = 0; device = 0; function = 0; space = 0; width = bit_count width; kind = kind; answer = 0 }
place_form (Io port) width kind value =
    record { address = port; value = value; segment = 0; bus = 0; device = 0; function = 0; space = 1; width = bit_count width; kind = kind; answer = 0 }
place_form (Pci seg bus dev func reg) width kind value =
    record { address = reg; value = value; segment = seg; bus = bus; device = dev; function = func; space = 2; width = bit_count width; kind = kind; answer = 0 }

abbrev pub access_form : Access → CallAccess
access_form (access.Read place width) = place_form place width 0 0
access_form (access.Write place width value) = place_form place width 1 value

abbrev pub wanted_form : WantedAccess → CallWanted
wanted_form w = record { access = access_form w.access; entry = w.entry }

-- a port and a register have 16 bits, as their types do
abbrev pub IsPlace : Place → Type 0
IsPlace (Memory address) = Unit {0}
IsPlace (Io port) = port < 2 ^ 16
IsPlace (Pci seg bus dev func reg) = reg < 2 ^ 16
