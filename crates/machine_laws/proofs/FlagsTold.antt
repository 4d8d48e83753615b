-- What the flags of interrupt descriptors say.
use Rattle.std.specs.Prelude.{◌≡◌, ◌<◌, ◌+◌, ◌*◌, ◌/◌, ◌%◌, ◌^◌, ◌==◌, ℕ, zero, suc, Bool, true, false, if◌then◌else◌}
use Rattle.std.specs.Int.RustNames.{bit_and}
use Rattle.std.proofs.Common.{ap, ◌∙◌, arith}
use Rattle.std.proofs.lemmas.Bool.{eq-eqb, ne_eqb}
use Rattle.std.proofs.lemmas.Nat.{div-mul-add, mod-mul-add, pow_pos}
use Rattle.std.proofs.lemmas.Nat.Bits.{and_pow}
use Rattle.acpi_resources.specs.declared.form.Form.{Form}
use Rattle.acpi_resources.specs.declared.form.Form.TheVariants.{Small, Extended}
use Rattle.acpi_resources.specs.declared.form.Polarity.TheVariants.{High, Low}
use Rattle.acpi_resources.specs.FlagByte.{has_bit, is_edge, is_shared, polarity_of}
use Rattle.machine_laws.specs.InterruptFlags.{IrqFlags, ExtendedFlags, HasFlags}

-- ---- one bit

bit_is : (n k low bit high : ℕ) → n ≡ (high * 2 + bit) * 2 ^ k + low → low < 2 ^ k → bit < 2 → bit_and n (2 ^ k) ≡ bit * 2 ^ k
bit_is n k low bit high is small one =
    and_pow n k ∙ ap (λ (b : ℕ). b * 2 ^ k) (ap (λ (x : ℕ). x / 2 ^ k % 2) is ∙ (ap (λ (x : ℕ). x % 2) (div-mul-add (high * 2 + bit) (2 ^ k) low small) ∙ mod-mul-add high 2 bit one))

has_bit_is : (n k low bit high : ℕ) → n ≡ (high * 2 + bit) * 2 ^ k + low → low < 2 ^ k → bit < 2 → has_bit n k ≡ (bit == 1)
has_bit_is n k low zero high is small one = ap (λ (x : ℕ). x == 2 ^ k) (bit_is n k low 0 high is small one) ∙ ne_eqb (0 * 2 ^ k) (2 ^ k) (λ e. let p = pow_pos k in omega arith)
has_bit_is n k low (suc zero) high is small one = ap (λ (x : ℕ). x == 2 ^ k) (bit_is n k low 1 high is small one) ∙ eq-eqb (1 * 2 ^ k) (2 ^ k) (omega arith)
has_bit_is n k low (suc (suc b)) high is small one = absurd (omega arith)

module _ (flags mode polarity sharing : ℕ) where
  irq_mode : IrqFlags flags mode polarity sharing → has_bit flags 0 ≡ (mode == 1)
  irq_mode h =
      let up : ℕ = h.ignored + 4 * polarity + 8 * sharing + 16 * h.further in
      let is : flags ≡ (up * 2 + mode) * 1 + 0 = omega (arith, h.is) in
      has_bit_is flags 0 0 mode up is (omega arith) h.mode_bit

  irq_polarity : IrqFlags flags mode polarity sharing → has_bit flags 3 ≡ (polarity == 1)
  irq_polarity h =
      let up : ℕ = sharing + 2 * h.further in
      let low : ℕ = mode + 2 * h.ignored in
      let is : flags ≡ (up * 2 + polarity) * 8 + low = omega (arith, h.is) in
      let small : low < 8 = omega (arith, h.mode_bit, h.ignored_bits) in
      has_bit_is flags 3 low polarity up is small h.polarity_bit

  irq_sharing : IrqFlags flags mode polarity sharing → has_bit flags 4 ≡ (sharing == 1)
  irq_sharing h =
      let low : ℕ = mode + 2 * h.ignored + 8 * polarity in
      let is : flags ≡ (h.further * 2 + sharing) * 16 + low = omega (arith, h.is) in
      let small : low < 16 = omega (arith, h.mode_bit, h.ignored_bits, h.polarity_bit) in
      has_bit_is flags 4 low sharing h.further is small h.sharing_bit

  extended_mode : ExtendedFlags flags mode polarity sharing → has_bit flags 1 ≡ (mode == 1)
  extended_mode h =
      let up : ℕ = polarity + 2 * sharing + 4 * h.further in
      let is : flags ≡ (up * 2 + mode) * 2 + h.consumer = omega (arith, h.is) in
      has_bit_is flags 1 h.consumer mode up is h.consumer_bit h.mode_bit

  extended_polarity : ExtendedFlags flags mode polarity sharing → has_bit flags 2 ≡ (polarity == 1)
  extended_polarity h =
      let up : ℕ = sharing + 2 * h.further in
      let low : ℕ = h.consumer + 2 * mode in
      let is : flags ≡ (up * 2 + polarity) * 4 + low = omega (arith, h.is) in
      let small : low < 4 = omega (arith, h.consumer_bit, h.mode_bit) in
      has_bit_is flags 2 low polarity up is small h.polarity_bit

  extended_sharing : ExtendedFlags flags mode polarity sharing → has_bit flags 3 ≡ (sharing == 1)
  extended_sharing h =
      let low : ℕ = h.consumer + 2 * mode + 4 * polarity in
      let is : flags ≡ (h.further * 2 + sharing) * 8 + low = omega (arith, h.is) in
      let small : low < 8 = omega (arith, h.consumer_bit, h.mode_bit, h.polarity_bit) in
      has_bit_is flags 3 low sharing h.further is small h.sharing_bit

pub edge_told : (form : Form) (flags polarity sharing : ℕ) → HasFlags form flags 1 polarity sharing → is_edge form flags ≡ true
edge_told Small flags polarity sharing h = irq_mode flags 1 polarity sharing h
edge_told Extended flags polarity sharing h = extended_mode flags 1 polarity sharing h

pub level_told : (form : Form) (flags polarity sharing : ℕ) → HasFlags form flags 0 polarity sharing → is_edge form flags ≡ false
level_told Small flags polarity sharing h = irq_mode flags 0 polarity sharing h
level_told Extended flags polarity sharing h = extended_mode flags 0 polarity sharing h

pub low_told : (form : Form) (flags mode sharing : ℕ) → HasFlags form flags mode 1 sharing → polarity_of form flags ≡ Low
low_told Small flags mode sharing h = ap (λ (b : Bool). if b then Low else High) (irq_polarity flags mode 1 sharing h)
low_told Extended flags mode sharing h = ap (λ (b : Bool). if b then Low else High) (extended_polarity flags mode 1 sharing h)

pub high_told : (form : Form) (flags mode sharing : ℕ) → HasFlags form flags mode 0 sharing → polarity_of form flags ≡ High
high_told Small flags mode sharing h = ap (λ (b : Bool). if b then Low else High) (irq_polarity flags mode 0 sharing h)
high_told Extended flags mode sharing h = ap (λ (b : Bool). if b then Low else High) (extended_polarity flags mode 0 sharing h)

pub shared_told : (form : Form) (flags mode polarity : ℕ) → HasFlags form flags mode polarity 1 → is_shared form flags ≡ true
shared_told Small flags mode polarity h = irq_sharing flags mode polarity 1 h
shared_told Extended flags mode polarity h = extended_sharing flags mode polarity 1 h

pub exclusive_told : (form : Form) (flags mode polarity : ℕ) → HasFlags form flags mode polarity 0 → is_shared form flags ≡ false
exclusive_told Small flags mode polarity h = irq_sharing flags mode polarity 0 h
exclusive_told Extended flags mode polarity h = extended_sharing flags mode polarity 0 h
