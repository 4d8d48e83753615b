use Rattle.std.proofs.Common.{sym, ◌∙◌}
use Rattle.std.proofs.lemmas.Bool.{false≢true}
use Rattle.route_model.proofs.Filtered.{any_contains, contains_any}
use Rattle.route_model.proofs.NotAvoided.{left_from, left_tells}
use Rattle.route_check.proofs.offered.offers.Goals as goal

pub returns-then-contains : goal.returns-then-contains
returns-then-contains c =
    let offers = c.args.link.now.offers in
    let n = c.args.n in
    let value = rw c.offers.ensures at c.contains.ensures.value in
    rw c.has.ensures (left_tells c.args.avoided.now offers n (any_contains n offers (sym value ∙ c.if-contains.true)))

pub returns-else-contains : goal.returns-else-contains
returns-else-contains c =
    let offers = c.args.link.now.offers in
    let n = c.args.n in
    let value = rw c.offers.ensures at c.contains.ensures.value in
    (λ t. absurd (false≢true (sym c.if-contains.false ∙ t)), λ d. value ∙ contains_any n offers (left_from c.args.avoided.now offers n d).0)
