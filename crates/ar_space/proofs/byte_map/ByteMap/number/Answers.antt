use Rattle.std.proofs.Common.{◌∙◌, ◌+◌, ◌-◌, ◌*◌, ◌^◌, ◌<◌, Some, ap, sym, arith}
use Rattle.std.specs.FinMap as map
use Rattle.ar_space.proofs.Powers.{bytes_more, eight_bytes, seven_bytes}
use Rattle.ar_space.proofs.PageMaps.{no_low, no_high, both_parts}
use Rattle.ar_space.proofs.byte_map.ByteMap.number.Goals as goal

pub returns-in_err-low-clause-number : goal.returns-in_err-low-clause-number
returns-in_err-low-clause-number c = c.from_residual.ensures
    ∙ sym (no_low (map.get c.args.self.now) c.args.address c.room_at-room.result (c.args.count - c.room_at-room.result) c.args.count (omega (arith, c.if-count-room.false)) (sym c.number_in_page-2.ensures.number ∙ c.in_err-low.was))

pub returns-in_err-high-clause-number : goal.returns-in_err-high-clause-number
returns-in_err-high-clause-number c = c.from_residual-in_err-high.ensures
    ∙ sym (no_high (map.get c.args.self.now) c.args.address c.room_at-room.result (c.args.count - c.room_at-room.result) c.args.count (omega (arith, c.if-count-room.false)) (sym c.number_in_page-3.ensures.number ∙ c.in_err-high.was))

pub pow-requires : goal.pow-requires
pow-requires c = seven_bytes c.room_at-room.result (omega (arith, c.if-count-room.false, c.requires))

pub overflow_mul-result : goal.overflow_mul-result
overflow_mul-result c =
    let below : c.in_ok-low.low + c.pow.result * c.in_ok-high.high < 256 ^ c.args.count =
    rw c.pow.ensures (bytes_more c.room_at-room.result (c.args.count - c.room_at-room.result) c.args.count c.in_ok-low.low c.in_ok-high.high (omega (arith, c.if-count-room.false)) c.in_ok-low.ensures.fits c.in_ok-high.ensures.fits) in
    omega (arith, below, eight_bytes c.args.count c.requires.1)

pub overflow_add-result : goal.overflow_add-result
overflow_add-result c =
    let below : c.in_ok-low.low + c.pow.result * c.in_ok-high.high < 256 ^ c.args.count =
    rw c.pow.ensures (bytes_more c.room_at-room.result (c.args.count - c.room_at-room.result) c.args.count c.in_ok-low.low c.in_ok-high.high (omega (arith, c.if-count-room.false)) c.in_ok-low.ensures.fits c.in_ok-high.ensures.fits) in
    omega (arith, below, eight_bytes c.args.count c.requires.1)

pub returns-clause-number : goal.returns-clause-number
returns-clause-number c = ap (λ p. Some (c.in_ok-low.low + p * c.in_ok-high.high)) c.pow.ensures
    ∙ sym (both_parts (map.get c.args.self.now) c.args.address c.room_at-room.result (c.args.count - c.room_at-room.result) c.args.count c.in_ok-low.low c.in_ok-high.high (omega (arith, c.if-count-room.false))
    (sym c.number_in_page-2.ensures.number ∙ c.in_ok-low.was) (sym c.number_in_page-3.ensures.number ∙ c.in_ok-high.was))

pub returns-clause-fits : goal.returns-clause-fits
returns-clause-fits c =
    rw c.pow.ensures (bytes_more c.room_at-room.result (c.args.count - c.room_at-room.result) c.args.count c.in_ok-low.low c.in_ok-high.high (omega (arith, c.if-count-room.false)) c.in_ok-low.ensures.fits c.in_ok-high.ensures.fits)
