use Rattle.std.proofs.Common.{◌≡◌, ◌∙◌, ◌<◌, ◌+◌, ℕ, ap, ap₂, arith, get_or, length, map, take, max, [], List}
use Rattle.std.proofs.lemmas.List.{get_or_default, length-map}
use Rattle.aml_path.specs.declared.segment.Seg.{Seg}
use Rattle.route_model.specs.Links.{OfferingLink}
use Rattle.route_model.specs.Routing.{load, greatest}
use Rattle.route_check.specs.Valid.{given_to, choice_of, effective_counts}
use Rattle.route_check.proofs.Sums.{greatest_more}
use Rattle.route_check.proofs.loads.busiest_given.Goals as goal

pub loop-i-preserved : goal.loop-i-preserved
loop-i-preserved c =
    let links = c.args.claim.now.links in
    let gives = c.args.claim.now.gives in
    let wired = effective_counts c.args.claim.now in
    let choice = choice_of links gives in
    let i = c.loop-i.i in
    let n = c.given_at.result in
    let at : n ≡ get_or choice i 0 = c.given_at.ensures ∙ ap₂ (λ (ls : List OfferingLink) (gs : List (List Seg × ℕ)). get_or (choice_of ls gs) i 0) c.links-links.ensures c.gives-gives.ensures in
    let long = ap length c.links-links.ensures in
    let longer = length-map links (λ (l : OfferingLink). given_to gives l.path) in
    let test = c.loop-i-test.true in
    let within : i < length choice = omega arith in
    let more = greatest_more (load wired choice) [] choice i n within (at ∙ get_or_default choice i 0 n within) in
    let e : c.max-greatest.result ≡ max c.loop-i.greatest c.load.result = c.max-greatest.ensures in
    let f = c.load.ensures in
    let inv = c.loop-i.invariant in
    let goal' : c.max-greatest.result ≡ greatest (map (load wired choice) (take (i + 1) choice)) = omega arith in
    goal'
