use Rattle.std.proofs.lemmas.List.{map-id}
use Rattle.route_check.proofs.bound.is_inside.Goals as goal

pub returns-else-not-has_path : goal.returns-else-not-has_path
returns-else-not-has_path c =
    let inside = rw c.offers.ensures at c.all_inside.ensures in
    let has = rw (c.path.ensures, map-id c.args.set.now.links.now) at c.has_path.ensures in
    (λ t _. inside.0 t, λ h. inside.1 (h (has.0 c.if-not-has_path.false)))
