use Rattle.route_check.proofs.bound.offers_inside.Goals as goal

pub returns : goal.returns
returns c = rw (c.links.ensures, c.set_links-links.ensures, c.set_interrupts-interrupts.ensures, c.by.ensures) at c.are_inside.ensures
