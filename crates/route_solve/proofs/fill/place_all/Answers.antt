use Rattle.std.proofs.Common.{◌≡◌, ◌<◌, ◌+◌, ◌-◌, ℕ, List, Option, Some, set, length, ◌∙◌, ap, subst, arith, inr}
use Rattle.std.proofs.lemmas.Bool.{OnFalse_at}
use Rattle.route_solve.specs.Certificate.{IsCertificate}
use Rattle.route_solve.specs.Graphs.{edges}
use Rattle.route_solve.specs.Capacities.{capacity_at}
use Rattle.route_solve.proofs.Handing.{augmented_whole, augmented_unplaced, augmented_directly}
use Rattle.route_solve.proofs.Matched.{matched}
use Rattle.route_solve.proofs.Placing.{raised}
use Rattle.route_solve.proofs.fill.place_all.Goals as goal

pub give-requires-clause-known : goal.give-requires-clause-known
give-requires-clause-known c = let b = c.requires.graph.below _ _ c.first_offer-i.ensures in let e = c.place.ensures.matching.interrupts in omega arith

pub loop-link-preserved : goal.loop-link-preserved
loop-link-preserved c =
    let g = c.args.graph.now in
    let inv = c.loop-link.invariant in
    let limit = c.loop-link.limit in
    let link = c.loop-link.link in
    let p = c.loop-link.matching.choice.items in
    let same : c.place.new.matching.choice.items ≡ p = OnFalse_at c.if-place.false c.place.ensures.unchanged in
    let small = inv.small in
    let above = inv.above in
    let bound : link < length p = let t = c.loop-link-test.true in let l = c.len-link-end.ensures in let a = inv.matching.links in let b = c.requires.matching.matching.links in omega arith in
    let i = c.first_offer-i.result in
    let s = augmented_directly (edges g) (capacity_at limit g.sources.now) g.low p link i bound in
    let is : c.give.new.self.choice.items ≡ set p link (Some i) = c.give.ensures.given ∙ ap (λ (q : List (Option ℕ)). set q link (Some i)) same in
    record {
      matching = matched g.offers.now g.sources.now (limit + 1) c.give.new.self (c.give.ensures.same ∙ c.place.ensures.matching.interrupts) c.give.ensures.counted (rw is (raised (edges g) g.sources.now limit p link i (λ j. let w = c.requires.wired j in omega arith) bound inv.matching.placed c.first_offer-i.ensures));
      sized = record { kept = inv.sized.kept; search = c.place.ensures.sized; hall = c.mark_hall_set.ensures.sized };
      whole = rw is (augmented_whole g.low p link (set p link (Some i)) s inv.whole);
      unplaced = rw is (augmented_unplaced g.low p link (set p link (Some i)) s inv.unplaced);
      above = omega arith;
      small = omega arith;
      shown = inr (omega arith, subst (λ k. IsCertificate (edges g) (capacity_at k g.sources.now) c.mark_hall_set.new.hall.reached.items) (let e : limit ≡ limit + 1 - 1 = omega arith in e) c.mark_hall_set.ensures.set);
    }
