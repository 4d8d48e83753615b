use Rattle.std.proofs.Common.{◌≡◌, ◌∙◌, ℕ, false, ap}
use Rattle.route_spread.proofs.Found.{none_raised}
use Rattle.route_spread.specs.Marks.{is_raised}
use Rattle.route_spread.proofs.Turns.{between_none}
use Rattle.route_spread.proofs.marking.Marks.begin.Goals as goal

pub returns-clause-arranged : goal.returns-clause-arranged
returns-clause-arranged c =
    let new = c.arrange.new.self in
    let none : (x : ℕ) → is_raised c.fill.new.self.items x ≡ false = (λ x. ap (λ bs. is_raised bs x) (c.fill.ensures.items (λ y e. e)) ∙ none_raised _ x) in
    rw c.arrange.ensures.none (between_none c.args.loads.now c.fill.new.self.items new.interrupts.items new.ranks.items c.arrange.ensures.listed none c.arrange.ensures.falling)
