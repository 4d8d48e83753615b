-- The entries of a routing table (ACPI 6.5, 6.2.13 and table 6.15): their four parts, and what each may be.
use Rattle.std.specs.Prelude.{◌≡◌, ◌<◌, ◌+◌, ◌*◌, ◌^◌, ℕ, List, [], ◌∷◌, length}
use Rattle.aml_path.specs.declared.segment.Seg.{Seg}
use Rattle.aml_world.specs.state.Given.{Given, Givens, givens}
use Rattle.aml_world.specs.state.Given as given

-- the address, the pin, the source and the source index, in this order
abbrev pub entry_of : Given → Given → Given → Given → Given
entry_of address pin source index = given.Package (givens (address ∷ pin ∷ source ∷ index ∷ []))

-- the number of a device on its bus is the high word of an address, and that of a function the low one (ACPI 6.5,
-- 6.1.1)
pub record IsAddress (address device function : ℕ) : Type 0 where
  pub device_fits : device < 2 ^ 16
  pub function_fits : function < 2 ^ 16
  pub is : address ≡ device * 2 ^ 16 + function

-- an integer of 32 bits
pub data IsWord : Given → Type 0 where
  word : (n : ℕ) → n < 2 ^ 32 → IsWord (given.Integer n)

-- a source: the integer 0, whose interrupt is the index, or the name of a link device
pub data IsSource : Given → Type 0 where
  no_link : IsSource (given.Integer 0)
  link : (p : List Seg) → IsSource (given.Named p)

-- No entry: what is neither a package nor left out, a package of more or fewer than four, and one of whose parts one
-- can't be what it is.
pub data IsNoEntry : Given → Type 0 where
  no_package : (g : Given) → (g ≡ given.Nothing → ⊥) → ((parts : Givens) → g ≡ given.Package parts → ⊥) → IsNoEntry g
  not_four : (parts : List Given) → (length parts ≡ 4 → ⊥) → IsNoEntry (given.Package (givens parts))
  wrong_address : (address pin source index : Given) → (IsWord address → ⊥) → IsNoEntry (entry_of address pin source index)
  wrong_pin : (address pin source index : Given) → (IsWord pin → ⊥) → IsNoEntry (entry_of address pin source index)
  wrong_source : (address pin source index : Given) → (IsSource source → ⊥) → IsNoEntry (entry_of address pin source index)
  wrong_index : (address pin source index : Given) → (IsWord index → ⊥) → IsNoEntry (entry_of address pin source index)
