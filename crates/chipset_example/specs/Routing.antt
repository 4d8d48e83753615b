-- What the registers of the interrupt router make of accesses.
use Rattle.std.specs.Prelude.{ℕ, ◌==◌, ◌%◌, Bool, false, Option, Some, None, Result, Ok, Err, if◌then◌else◌}
use Rattle.ar_space.specs.Accesses.{Accesses}
use Rattle.ar_space.specs.declared.refusal.SpaceFault.{SpaceFault}
use Rattle.ar_space.specs.declared.refusal.SpaceFault.TheVariants.{NoRegister}
use Rattle.ar_space.specs.declared.space.Width.{Width}
use Rattle.ar_space.specs.declared.space.Width.TheVariants.{W8, W16, W32, W64}
use Rattle.ar_space.specs.declared.space.Place.{Place}
use Rattle.ar_space.specs.declared.space.Place.TheVariants.{Memory, Io, Pci}
use Rattle.chipset_example.specs.declared.chipset.Chipset.{Chipset}
use Rattle.chipset_example.specs.declared.chipset.RouterPin.{RouterPin}
use Rattle.chipset_example.specs.declared.chipset.RouterPin.TheVariants.{A, B, C, D}

abbrev pub line_of : ℕ → Option RouterPin
line_of reg = if reg == 0x60 then Some A else (if reg == 0x61 then Some B else (if reg == 0x62 then Some C else (if reg == 0x63 then Some D else None)))

-- function 0 of device 1 on bus 0
abbrev pub is_router : ℕ → ℕ → ℕ → ℕ → Bool
is_router seg bus dev func = if seg == 0 then (if bus == 0 then (if dev == 1 then func == 0 else false) else false) else false

-- bytes alone
abbrev pub register_at : Place → Width → Option RouterPin
register_at (Memory address) width = None
register_at (Io port) width = None
register_at (Pci seg bus dev func reg) W8 = if is_router seg bus dev func then line_of reg else None
register_at (Pci seg bus dev func reg) W16 = None
register_at (Pci seg bus dev func reg) W32 = None
register_at (Pci seg bus dev func reg) W64 = None

abbrev pub value_of : Chipset → RouterPin → ℕ
value_of s A = s.a
value_of s B = s.b
value_of s C = s.c
value_of s D = s.d

abbrev pub with_value : Chipset → RouterPin → ℕ → Chipset
with_value s A n = record s { a = n }
with_value s B n = record s { b = n }
with_value s C n = record s { c = n }
with_value s D n = record s { d = n }

abbrev pub read_at : Chipset → Option RouterPin → Result ℕ SpaceFault × Chipset
read_at s (Some pin) = (Ok (value_of s pin), s)
read_at s None = (Err NoRegister, s)

abbrev pub written_at : Chipset → Option RouterPin → ℕ → Result (Unit {0}) SpaceFault × Chipset
written_at s (Some pin) n = (Ok tt, with_value s pin (n % 256))
written_at s None n = (Err NoRegister, s)

abbrev pub routed : Accesses Chipset
routed = record {
  reads = λ s place width. read_at s (register_at place width);
  writes = λ s place width value. written_at s (register_at place width) value;
}
