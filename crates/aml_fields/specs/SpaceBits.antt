-- The bits of an address space of bytes, and what lies beside it.
use Rattle.std.specs.Prelude.{◌≡◌, ◌<◌, ◌≤◌, ◌⊎◌, ℕ, ◌+◌, ◌*◌, ◌/◌, ◌%◌, Bool, Option, Some}
use Rattle.std.specs.Option.{option_map}
use Rattle.std.specs.FinMap.{get}
use Rattle.ar_space.specs.Bytes.{Bytes}
use Rattle.aml_objects.specs.declared.entry.FieldUnit.{FieldUnit}
use Rattle.aml_fields.specs.declared.region.AddressSpace.{AddressSpace}
use Rattle.aml_fields.specs.declared.region.AddressSpace.TheVariants.{Memory, Io, Pci}
use Rattle.aml_fields.specs.declared.region.Region.{Region}
use Rattle.aml_fields.specs.Bits.{bit}

-- the byte with a number
abbrev pub byte_of : AddressSpace → Bytes → ℕ → Option ℕ
byte_of Memory b n = get b.memory n
byte_of Io b n = get b.ports n
byte_of (Pci seg bus dev func) b n = get b.registers (record { seg = seg; bus = bus; dev = dev; func = func; reg = n })

-- one bit, counted from the lowest of the first byte
abbrev pub bit_of : AddressSpace → Bytes → ℕ → Option Bool
bit_of space b k = option_map (λ x. bit x (k % 8)) (byte_of space b (k / 8))

-- no byte is larger than a byte
abbrev pub AreBytes : AddressSpace → Bytes → Type 0
AreBytes space b = (n x : ℕ) → byte_of space b n ≡ Some x → x < 256

-- the bytes of the other address spaces are the same
abbrev pub OthersAreSame : AddressSpace → Bytes → Bytes → Type 0
OthersAreSame Memory b b' = (b'.ports ≡ b.ports) × (b'.registers ≡ b.registers)
OthersAreSame Io b b' = (b'.memory ≡ b.memory) × (b'.registers ≡ b.registers)
OthersAreSame (Pci seg bus dev func) b b' = (b'.memory ≡ b.memory) × (b'.ports ≡ b.ports)

-- a bit that is none of a field's
abbrev pub IsOutside : Region → FieldUnit → ℕ → Type 0
IsOutside region field k = (k < 8 * region.offset + field.bit_offset) ⊎ (8 * region.offset + field.bit_offset + field.bits ≤ k)

-- SystemMemory or SystemIO
abbrev pub IsPlain : AddressSpace → Type 0
IsPlain space = (space ≡ Memory) ⊎ (space ≡ Io)
