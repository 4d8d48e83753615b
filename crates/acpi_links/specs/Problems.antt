-- The routing problem of present links, of wired pins and of the System Control Interrupt.
use Rattle.std.specs.Prelude.{ℕ, ◌==◌, List, [], ◌∷◌, ◌++◌, map, count_by, option_to_list, Option, Some, None}
use Rattle.std.specs.List.{filter_map}
use Rattle.aml_path.specs.declared.segment.Seg.{Seg}
use Rattle.acpi_resources.specs.Numbers.{set_of}
use Rattle.acpi_prt.specs.declared.pin.Pin.{Pin}
use Rattle.acpi_prt.specs.declared.pin.Route.{Route}
use Rattle.acpi_prt.specs.declared.pin.Route.TheVariants.{Wired, Link}
use Rattle.route_model.specs.Avoided.{without}
use Rattle.route_model.specs.Links.{OfferingLink}
use Rattle.route_solve.specs.Problems.{RoutingProblem}
use Rattle.acpi_links.specs.Links.{PresentLink}

-- the interrupt that a route is wired to
abbrev pub wired_number : Route → Option ℕ
wired_number (Wired n) = Some n
wired_number (Link p) = None

-- the interrupts that pins are wired to, one for each such pin
unfoldable pub wired_numbers : List (List Seg × Pin) → List ℕ
wired_numbers pins = filter_map (λ pin. wired_number pin.1.route) pins

abbrev pub with_number : List ℕ → Option ℕ → List ℕ
with_number list None = list
with_number list (Some n) = list ++ n ∷ []

-- an interrupt, and how often it is listed
abbrev pub counted : List ℕ → ℕ → ℕ × ℕ
counted numbers n = (n, count_by (λ m. m == n) numbers)

-- all interrupts of a list, ascending, each with how often it is listed
unfoldable pub wired_counts : List ℕ → List (ℕ × ℕ)
wired_counts numbers = map (counted numbers) (set_of numbers)

-- the interrupts that pins are wired to, with their counts
abbrev pub pin_counts : List (List Seg × Pin) → List (ℕ × ℕ)
pin_counts pins = wired_counts (wired_numbers pins)

-- the interrupts of all wired sources, one for each: the pins, and the System Control Interrupt, if it has a source
unfoldable pub source_numbers : Option ℕ → List (List Seg × Pin) → List ℕ
source_numbers sci pins = wired_numbers pins ++ option_to_list sci

-- a link, with what it offers of the interrupts that aren't avoided
abbrev pub offering : List ℕ → PresentLink → OfferingLink
offering avoid link = record { path = link.0; offers = without avoid link.1.numbers }

-- each present link is one source, however many pins lead to it, each wired pin is one, and so is the System Control Interrupt
unfoldable pub problem_of : List ℕ → Option ℕ → List PresentLink → List (List Seg × Pin) → RoutingProblem
problem_of avoid sci links pins = record { links = map (offering avoid) links; wired = wired_counts (source_numbers sci pins) }
