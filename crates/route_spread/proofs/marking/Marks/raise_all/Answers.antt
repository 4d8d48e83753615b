use Rattle.std.proofs.Common.{◌≤◌, ◌∙◌, ℕ, subst, arith}
use Rattle.std.proofs.lemmas.List.{get_or_default}
use Rattle.std.proofs.lemmas.List.Elements.{Contains-get_or}
use Rattle.route_spread.specs.Marks.{height_at}
use Rattle.route_spread.proofs.marking.Marks.raise_all.Goals as goal

pub is_far-requires-clause-within : goal.is_far-requires-clause-within
is_far-requires-clause-within c = c.requires.known _ (Contains-get_or c.args.offers.now c.loop-i.i-index 0 c.loop-i-test.true)

pub raise-requires-clause-within : goal.raise-requires-clause-within
raise-requires-clause-within c = c.requires.known _ (Contains-get_or c.args.offers.now c.loop-i.i-index 0 c.loop-i-test.true)

pub returns-clause-found : goal.returns-clause-found
returns-clause-found c i h =
    let done = c.loop-i.invariant.done h.0 (let b = h.1 in let t = c.loop-i-test.false in omega arith) in
    subst (λ (n : ℕ). c.args.top ≤ height_at c.args.loads.now c.loop-i.self.raised.items n) (get_or_default c.args.offers.now h.0 0 i h.1 ∙ h.2) done
