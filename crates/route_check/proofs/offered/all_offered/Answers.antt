use Rattle.route_check.proofs.offered.all_offered.Goals as goal

pub returns : goal.returns
returns c = rw (c.links-links.ensures, c.gives-gives.ensures, c.by.ensures) at c.are_offered.ensures
