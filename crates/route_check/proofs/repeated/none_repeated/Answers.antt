use Rattle.std.proofs.lemmas.List.{map-id}
use Rattle.route_check.proofs.Loops.{no, shown, refuted}
use Rattle.route_check.proofs.repeated.none_repeated.Goals as goal

pub returns-then-not-are_numbers_distinct : goal.returns-then-not-are_numbers_distinct
returns-then-not-are_numbers_distinct c = no (λ n. refuted c.are_numbers_distinct.result (rw c.wired.ensures at c.are_numbers_distinct.ensures) c.if-not-are_numbers_distinct.true n.wired)

pub returns-then-not-are_paths_distinct-3 : goal.returns-then-not-are_paths_distinct-3
returns-then-not-are_paths_distinct-3 c =
    let set = rw (map-id c.set_links.result.now, c.set_links.ensures) at c.are_paths_distinct-3.ensures in
    no (λ n. refuted c.are_paths_distinct-3.result set c.if-not-are_paths_distinct-3.true n.set)

pub returns : goal.returns
returns c =
    let set = rw (map-id c.set_links.result.now, c.set_links.ensures) at c.are_paths_distinct-3.ensures in
    let interrupts = rw (map-id c.set_interrupts.result.now, c.set_interrupts.ensures) at c.are_numbers_distinct-2.ensures in (
      λ t. record {
        links = shown c.are_paths_distinct.result (rw c.links.ensures at c.are_paths_distinct.ensures) c.if-not-are_paths_distinct.false;
        gives = shown c.are_paths_distinct-2.result (rw c.gives.ensures at c.are_paths_distinct-2.ensures) c.if-not-are_paths_distinct-2.false;
        wired = shown c.are_numbers_distinct.result (rw c.wired.ensures at c.are_numbers_distinct.ensures) c.if-not-are_numbers_distinct.false;
        set = shown c.are_paths_distinct-3.result set c.if-not-are_paths_distinct-3.false;
        interrupts = interrupts.0 t;
      },
      λ n. interrupts.1 n.interrupts,
    )
