use Rattle.std.proofs.Common.{get_or}
use Rattle.std.proofs.lemmas.List.{get_or_default}
use Rattle.ar_space.specs.declared.space.Place.TheVariants.{Memory}
use Rattle.acpiroute_lib.proofs.Putting.{byte_more, bytes_put}
use Rattle.acpiroute_lib.proofs.place_words.missing_lines.Goals as goal

pub loop-place-preserved : goal.loop-place-preserved
loop-place-preserved c =
    let ps = c.args.places.now in
    let i = c.loop-place.place-index in
    let p = get_or ps i (Memory 0) in
    byte_more ps i p c.loop-place.before c.loop-place.text.items c.put_byte.new.text.items _ c.loop-place-test.true (get_or_default ps i (Memory 0) p c.loop-place-test.true) c.loop-place.invariant c.in_ok-put_byte.ensures

pub returns : goal.returns
returns c = bytes_put c.args.places.now c.loop-place.place-index c.loop-place.before c.loop-place.text.items c.put_end.new.text.items _ c.loop-place-test.false c.loop-place.invariant c.in_ok-put_end.ensures
