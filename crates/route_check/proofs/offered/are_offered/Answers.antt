use Rattle.std.proofs.Common.{◌≡◌, ◌∙◌, sym, arith}
use Rattle.std.specs.Prelude.{Contains}
use Rattle.route_model.specs.Avoided.{without}
use Rattle.route_check.specs.Valid.{given_to}
use Rattle.route_check.proofs.Aligned.{given_there}
use Rattle.route_check.proofs.Loops.{all_done, all_more, all_failed_at, shown, refuted}
use Rattle.route_check.proofs.offered.are_offered.Goals as goal

pub loop-i-preserved : goal.loop-i-preserved
loop-i-preserved c =
    let link = c.index-links-i.result in
    let is : c.given_at.result ≡ given_to c.args.gives.now link.path = c.given_at.ensures ∙ sym (given_there c.args.links.now c.args.gives.now c.loop-i.i link (omega arith) c.index-links-i.is) in
    all_more (λ x. Contains (without c.args.avoided.now x.offers) (given_to c.args.gives.now x.path)) c.args.links.now c.loop-i.i link (omega arith) c.index-links-i.is c.loop-i.invariant (shown c.offers.result (rw is at c.offers.ensures) c.if-not-offers.false)

pub returns-then-not-offers : goal.returns-then-not-offers
returns-then-not-offers c =
    let link = c.index-links-i.result in
    let is : c.given_at.result ≡ given_to c.args.gives.now link.path = c.given_at.ensures ∙ sym (given_there c.args.links.now c.args.gives.now c.loop-i.i link (omega arith) c.index-links-i.is) in
    all_failed_at (λ x. Contains (without c.args.avoided.now x.offers) (given_to c.args.gives.now x.path)) c.args.links.now c.loop-i.i link (omega arith) c.index-links-i.is (refuted c.offers.result (rw is at c.offers.ensures) c.if-not-offers.true)

pub returns : goal.returns
returns c = all_done (λ x. Contains (without c.args.avoided.now x.offers) (given_to c.args.gives.now x.path)) c.args.links.now c.loop-i.i (omega arith) c.loop-i.invariant
