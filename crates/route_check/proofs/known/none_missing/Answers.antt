use Rattle.route_check.proofs.Loops.{no, refuted, shown}
use Rattle.route_check.proofs.known.none_missing.Goals as goal

pub returns-then-not-all_given : goal.returns-then-not-all_given
returns-then-not-all_given c = no (λ n. refuted c.all_given.result (rw (c.links-links.ensures, c.gives-gives.ensures) at c.all_given.ensures) c.if-not-all_given.true n.given)

pub returns-then-not-all_known : goal.returns-then-not-all_known
returns-then-not-all_known c = no (λ n. refuted c.all_known.result (rw (c.links-links.ensures, c.gives-gives.ensures) at c.all_known.ensures) c.if-not-all_known.true n.known)

pub returns : goal.returns
returns c =
    let set = rw (c.set_links.ensures, c.links-links.ensures) at c.all_links.ensures in (
      λ t. record {
        given = shown c.all_given.result (rw (c.links-links.ensures, c.gives-gives.ensures) at c.all_given.ensures) c.if-not-all_given.false;
        known = shown c.all_known.result (rw (c.links-links.ensures, c.gives-gives.ensures) at c.all_known.ensures) c.if-not-all_known.false;
        set_known = set.0 t;
      },
      λ n. set.1 n.set_known,
    )
