-- An access that is wanted, read back with its answer.
use Rattle.std.specs.Prelude.{◌≡◌, ◌<◌, ◌^◌, ℕ, Some, Ok, Err, refl}
use Rattle.std.proofs.lemmas.Bool.{lt-ltb}
use Rattle.ar_space.specs.declared.refusal.SpaceFault.TheVariants.{NoRegister, Device}
use Rattle.ar_space.specs.declared.space.Place.{Place}
use Rattle.ar_space.specs.declared.space.Place.TheVariants.{Memory, Io, Pci}
use Rattle.ar_space.specs.declared.space.Width.{Width}
use Rattle.ar_space.specs.declared.space.Width.TheVariants.{W8, W16, W32, W64}
use Rattle.ar_space.specs.Accesses.{bit_count}
use Rattle.space_trace.specs.declared.access.Access.TheVariants as access
use Rattle.recorded_space.specs.declared.exchange.Exchange.TheVariants as exchange
use Rattle.acpiroute_c.specs.Accesses.{width_of, exchange_of, access_form, IsPlace}

widths : (width : Width) → width_of (bit_count width) ≡ Some width
widths W8 = refl
widths W16 = refl
widths W32 = refl
widths W64 = refl

pub read_done : (place : Place) (width : Width) (value : ℕ) → IsPlace place → value < 2 ^ bit_count width → exchange_of (record (access_form (access.Read place width)) { value = value }) ≡ Some (exchange.Read place width (Ok value))
read_done (Memory address) width value is fits = rw (widths width, lt-ltb value (2 ^ bit_count width) fits) refl
read_done (Io port) width value is fits = rw (lt-ltb port 65536 is, widths width, lt-ltb value (2 ^ bit_count width) fits) refl
read_done (Pci seg bus dev func reg) width value is fits = rw (lt-ltb reg 65536 is, widths width, lt-ltb value (2 ^ bit_count width) fits) refl

pub read_no_register : (place : Place) (width : Width) → IsPlace place → exchange_of (record (access_form (access.Read place width)) { answer = 1 }) ≡ Some (exchange.Read place width (Err NoRegister))
read_no_register (Memory address) width is = rw (widths width) refl
read_no_register (Io port) width is = rw (lt-ltb port 65536 is, widths width) refl
read_no_register (Pci seg bus dev func reg) width is = rw (lt-ltb reg 65536 is, widths width) refl

pub read_failed : (place : Place) (width : Width) → IsPlace place → exchange_of (record (access_form (access.Read place width)) { answer = 2 }) ≡ Some (exchange.Read place width (Err Device))
read_failed (Memory address) width is = rw (widths width) refl
read_failed (Io port) width is = rw (lt-ltb port 65536 is, widths width) refl
read_failed (Pci seg bus dev func reg) width is = rw (lt-ltb reg 65536 is, widths width) refl

pub write_done : (place : Place) (width : Width) (value : ℕ) → IsPlace place → exchange_of (access_form (access.Write place width value)) ≡ Some (exchange.Write place width value (Ok tt))
write_done (Memory address) width value is = rw (widths width) refl
write_done (Io port) width value is = rw (lt-ltb port 65536 is, widths width) refl
write_done (Pci seg bus dev func reg) width value is = rw (lt-ltb reg 65536 is, widths width) refl

pub write_no_register : (place : Place) (width : Width) (value : ℕ) → IsPlace place → exchange_of (record (access_form (access.Write place width value)) { answer = 1 }) ≡ Some (exchange.Write place width value (Err NoRegister))
write_no_register (Memory address) width value is = rw (widths width) refl
write_no_register (Io port) width value is = rw (lt-ltb port 65536 is, widths width) refl
write_no_register (Pci seg bus dev func reg) width value is = rw (lt-ltb reg 65536 is, widths width) refl

pub write_failed : (place : Place) (width : Width) (value : ℕ) → IsPlace place → exchange_of (record (access_form (access.Write place width value)) { answer = 2 }) ≡ Some (exchange.Write place width value (Err Device))
write_failed (Memory address) width value is = rw (widths width) refl
write_failed (Io port) width value is = rw (lt-ltb port 65536 is, widths width) refl
write_failed (Pci seg bus dev func reg) width value is = rw (lt-ltb reg 65536 is, widths width) refl

pub ruleset read_back = (read_done, read_no_register, read_failed)

pub ruleset written_back = (write_done, write_no_register, write_failed)
