use Rattle.std.proofs.Common.{◌∙◌, ◌<◌, arith, refl, length}
use Rattle.std.proofs.lemmas.List.{length-map, take_all, take_more}
use Rattle.route_model.specs.Links.{OfferingLink}
use Rattle.route_check.specs.Valid.{choice_of, given_to}
use Rattle.route_check.proofs.shared.choice_of.Goals as goal

pub loop-i-preserved : goal.loop-i-preserved
loop-i-preserved c =
    let choice = choice_of c.args.links.now c.args.gives.now in
    let within : c.loop-i.i < length choice = (let e = length-map c.args.links.now (λ (l : OfferingLink). given_to c.args.gives.now l.path) in omega arith) in
    rw (c.in_ok-push.ensures.items, c.loop-i.invariant, c.given_at.ensures, take_more choice c.loop-i.i 0 within) refl

pub returns : goal.returns
returns c =
    let e = length-map c.args.links.now (λ (l : OfferingLink). given_to c.args.gives.now l.path) in
    c.loop-i.invariant ∙ take_all c.loop-i.i (choice_of c.args.links.now c.args.gives.now) (omega arith)
