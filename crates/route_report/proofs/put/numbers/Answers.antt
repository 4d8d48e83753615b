use Rattle.std.proofs.Common.{ℕ, List, map, arith, get_or, ◌∷◌}
use Rattle.std.proofs.lemmas.List.{get_or_default}
use Rattle.std.specs.Prelude.{decimal}
use Rattle.route_report.specs.Lines.{spaced}
use Rattle.route_report.proofs.Putting.{put_more, one_spaced}
use Rattle.route_report.proofs.put.numbers.Goals as goal

pub loop-each-preserved : goal.loop-each-preserved
loop-each-preserved c =
    let ns = c.args.numbers.now in
    let i = c.loop-each.each-index in
    let n = get_or ns i 0 in
    put_more (λ (xs : List ℕ). spaced (map decimal xs)) (λ m. 32 ∷ decimal m) (one_spaced decimal) ns i n c.args.text.now.items c.loop-each.text.items c.number.new.text.items (omega arith) (get_or_default ns i 0 n (omega arith)) c.loop-each.invariant c.in_ok-number.ensures.text
