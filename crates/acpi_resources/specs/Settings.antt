-- The bytes that set a link device to an interrupt: the argument of its _SRS (ACPI 6.5, 6.2.16).
use Rattle.std.specs.Prelude.{ℕ, ◌^◌, List, [], ◌∷◌, ◌++◌}
use Rattle.byteorder.specs.Endian.{little_bytes}
use Rattle.acpi_resources.specs.declared.form.Form.{Form}
use Rattle.acpi_resources.specs.declared.form.Form.TheVariants.{Small, Extended}
use Rattle.acpi_resources.specs.Records.{InterruptOffer}

-- one interrupt descriptor of the form, and the end tag
abbrev pub setting_bytes : Form → ℕ → ℕ → List ℕ
setting_bytes Small flags n = 0x23 ∷ little_bytes 2 (2 ^ n) ++ flags ∷ 0x79 ∷ 0x00 ∷ []
setting_bytes Extended flags n = 0x89 ∷ 0x06 ∷ 0x00 ∷ flags ∷ 0x01 ∷ little_bytes 4 n ++ 0x79 ∷ 0x00 ∷ []

-- the setting of an offer to one of its interrupts
abbrev pub setting_of : InterruptOffer → ℕ → List ℕ
setting_of offer n = setting_bytes offer.form offer.flags n

-- the offer of one of the interrupts alone
abbrev pub offer_of_one : InterruptOffer → ℕ → InterruptOffer
offer_of_one offer n = record { numbers = n ∷ []; form = offer.form; polarity = offer.polarity; flags = offer.flags }
