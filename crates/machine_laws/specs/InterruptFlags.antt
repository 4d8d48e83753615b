-- The bytes of flags of the two interrupt descriptors, bit by bit (ACPI 6.5, 6.4.2.1 and 6.4.3.6).
use Rattle.std.specs.Prelude.{◌≡◌, ◌<◌, ◌+◌, ◌*◌, ℕ}
use Rattle.acpi_resources.specs.declared.form.Form.{Form}
use Rattle.acpi_resources.specs.declared.form.Form.TheVariants.{Small, Extended}

-- of the IRQ descriptor: bit 0 is the mode, bit 3 the polarity and bit 4 the sharing
pub record IrqFlags (flags mode polarity sharing : ℕ) : Type 0 where
  pub ignored : ℕ
  pub further : ℕ
  pub mode_bit : mode < 2
  pub ignored_bits : ignored < 4
  pub polarity_bit : polarity < 2
  pub sharing_bit : sharing < 2
  pub is : flags ≡ mode + 2 * ignored + 8 * polarity + 16 * sharing + 32 * further

-- of the Extended Interrupt descriptor: bit 0 says consumer or producer, bit 1 is the mode, bit 2 the polarity and
-- bit 3 the sharing
pub record ExtendedFlags (flags mode polarity sharing : ℕ) : Type 0 where
  pub consumer : ℕ
  pub further : ℕ
  pub consumer_bit : consumer < 2
  pub mode_bit : mode < 2
  pub polarity_bit : polarity < 2
  pub sharing_bit : sharing < 2
  pub is : flags ≡ consumer + 2 * mode + 4 * polarity + 8 * sharing + 16 * further

abbrev pub HasFlags : Form → ℕ → ℕ → ℕ → ℕ → Type 0
HasFlags Small flags mode polarity sharing = IrqFlags flags mode polarity sharing
HasFlags Extended flags mode polarity sharing = ExtendedFlags flags mode polarity sharing
