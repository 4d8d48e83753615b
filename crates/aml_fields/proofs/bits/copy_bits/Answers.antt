-- Each bit goes behind those before it.
use Rattle.std.proofs.Common.{◌≡◌, ◌+◌, ◌<◌, false, length, drop, set, refl, sym, ap, ◌∙◌, subst, arith, get_or-drop}
use Rattle.aml_fields.specs.Bits.{bits_of, field_bits, put}
use Rattle.aml_fields.proofs.Numbers.{known_by_bits}
use Rattle.aml_fields.proofs.BitLists.{length_of}
use Rattle.aml_fields.proofs.Putting.{put_none, put_more}
use Rattle.aml_fields.proofs.bits.copy_bits.Goals as goal

pub loop-n-init : goal.loop-n-init
loop-n-init c = (refl, put_none c.args.to (drop c.args.from (bits_of c.args.source.now)) (bits_of c.args.target.now), λ i. (c.type_inv.target i).fits)

pub loop-n-preserved : goal.loop-n-preserved
loop-n-preserved c =
    let old = bits_of c.args.target.now in
    let room : c.args.to + c.loop-n.n < length old = subst (λ k. c.args.to + c.loop-n.n < k) (sym (length_of c.args.target.now)) (omega (arith, c.requires.inside)) in (
      c.set_bit.ensures.len ∙ c.loop-n.invariant.0,
      c.set_bit.ensures.bits
          ∙ ap (λ l. set l (c.args.to + c.loop-n.n) c.bit.result) c.loop-n.invariant.1
          ∙ put_more c.args.to c.loop-n.n (drop c.args.from (bits_of c.args.source.now)) old c.bit.result room (get_or-drop c.args.from (bits_of c.args.source.now) c.loop-n.n false ∙ sym c.bit.ensures),
      λ i. (c.type_inv.target i).fits,
    )

pub returns-clause-bytes : goal.returns-clause-bytes
returns-clause-bytes c =
    let all : c.loop-n.n ≡ c.args.count = omega (arith, c.loop-n.auto.n-end) in
    known_by_bits c.loop-n.target (length c.args.target.now) _ c.loop-n.invariant.2 c.loop-n.invariant.0
    (c.loop-n.invariant.1 ∙ ap (λ n. put c.args.to (field_bits c.args.source.now c.args.from n) (bits_of c.args.target.now)) all)
