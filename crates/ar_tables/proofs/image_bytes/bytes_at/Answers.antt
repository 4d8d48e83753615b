use Rattle.std.proofs.Common.{◌∙◌, length, ap, sym, arith, inl, inr, Ok}
use Rattle.ar_tables.specs.ImageBytes.{bytes_at}
use Rattle.ar_tables.proofs.ImageRuns.{read_image}
use Rattle.ar_tables.proofs.image_bytes.bytes_at.Goals as goal

pub returns-then-len-count-clause-value : goal.returns-then-len-count-clause-value
unfolding bytes_at
returns-then-len-count-clause-value c =
    let is = ap length c.in_ok-bytes.ensures in
    elim (read_image c.args.image.now c.args.address c.args.count c.ranges.address.fits) [
      | inl (whole, all) ↦ absurd (omega (arith, whole, is, c.len.ensures, c.if-len-count.true))
      | inr (short, none) ↦ record { is = λ _. none }
    ]

pub returns-clause-value : goal.returns-clause-value
unfolding bytes_at
returns-clause-value c =
    let is = ap length c.in_ok-bytes.ensures in
    elim (read_image c.args.image.now c.args.address c.args.count c.ranges.address.fits) [
      | inl (whole, all) ↦ record { is = λ _. all ∙ ap Ok (sym c.in_ok-bytes.ensures) }
      | inr (short, none) ↦ absurd (omega (arith, short, is, c.len.ensures, c.if-len-count.false))
    ]

pub returns-clause-len : goal.returns-clause-len
returns-clause-len c =
    let is = ap length c.in_ok-bytes.ensures in
    elim (read_image c.args.image.now c.args.address c.args.count c.ranges.address.fits) [
      | inl (whole, all) ↦ is ∙ whole
      | inr (short, none) ↦ absurd (omega (arith, short, is, c.len.ensures, c.if-len-count.false))
    ]
