-- What kind of value the objects of a device answer (ACPI 6.5, 6.1 and 6.2).
use Rattle.std.specs.Prelude.{ℕ, List, Option, Some, None, Ok, Err}
use Rattle.ar_space.specs.declared.refusal.Refusal.TheVariants as refusal
use Rattle.ar_space.specs.declared.refusal.ValueFault.TheVariants.{WrongType}
use Rattle.ar_space.specs.Outcome.{Outcome, ◌>>=◌}
use Rattle.aml_world.specs.state.Given as given
use Rattle.acpi_resources.specs.Current.{current_of}

-- the bytes of a buffer; no other value is taken
abbrev pub bytes_in : given.Given → Outcome (List ℕ)
bytes_in given.Nothing = Err (refusal.Value WrongType)
bytes_in (given.Integer n) = Err (refusal.Value WrongType)
bytes_in (given.Text bs) = Err (refusal.Value WrongType)
bytes_in (given.Bytes bs) = Ok bs
bytes_in (given.Package gs) = Err (refusal.Value WrongType)
bytes_in (given.Named p) = Err (refusal.Value WrongType)
bytes_in given.Reference = Err (refusal.Value WrongType)

-- the numbers in a buffer of resource descriptors
unfoldable pub numbers_in : given.Given → Outcome (Option (List ℕ))
numbers_in g = do
  bytes ← bytes_in g
  numbers ← current_of bytes
  Ok (Some numbers)

-- the numbers of an answer, where there is one
abbrev pub numbers_of : Option given.Given → Outcome (Option (List ℕ))
numbers_of None = Ok None
numbers_of (Some g) = numbers_in g
