-- Where a route leads to, as a test.
use Rattle.std.specs.Prelude.{ℕ, ◌==◌, Bool, false}
use Rattle.acpi_prt.specs.declared.pin.Route.{Route}
use Rattle.acpi_prt.specs.declared.pin.Route.TheVariants.{Wired, Link}

-- to this global system interrupt
abbrev pub is_wired_to : ℕ → Route → Bool
is_wired_to interrupt (Wired n) = n == interrupt
is_wired_to interrupt (Link p) = false
