use Rattle.route_numbers.proofs.offered.add_and_sort.Goals as goal

pub returns-clause-only : goal.returns-clause-only
returns-clause-only c n h = c.in_ok-add_offers.ensures.only n (c.in_ok-put_in_order.ensures.only n h)
