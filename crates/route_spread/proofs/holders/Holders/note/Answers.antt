use Rattle.std.proofs.Common.{◌+◌, ◌-◌, ◌<◌, ◌∙◌, ℕ, arith, length, subst}
use Rattle.std.proofs.lemmas.List.{length-set}
use Rattle.route_spread.specs.Marks.{at}
use Rattle.route_spread.proofs.Found.{found_at}
use Rattle.route_spread.proofs.Chains.{IsGathered, gathered_more}
use Rattle.route_spread.proofs.holders.Holders.note.Goals as goal

pub loop-link-preserved : goal.loop-link-preserved
loop-link-preserved c =
    let choice = c.args.choice.now in
    let first = c.loop-link.self.first.items in
    let next = c.loop-link.self.next.items in
    let link = c.loop-link.link - 1 in
    let t = c.loop-link-test.true in
    let inv = c.loop-link.invariant in
    let within = inv.gathered.within in
    let b : link < length choice = omega arith in
    let g : IsGathered choice first next (link + 1) = subst (λ (n : ℕ). IsGathered choice first next n) (omega arith) inv.gathered in
    let k = c.requires.known link b in
    let lf = inv.first in
    let ln = inv.next in
    let rn = c.requires.next in
    record {
      gathered = rw (found_at first (at choice link) c.index.result.now (omega arith) c.index.ensures) (gathered_more choice first next link b (omega arith) (omega arith) g);
      first = length-set first (at choice link) link ∙ lf;
      next = length-set next link c.index.result.now ∙ ln;
    }
