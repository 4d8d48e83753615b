use Rattle.std.proofs.Common.{arith, refl, sym, ◌∙◌, ap, [], get_or, ◌-◌, ◌≡◌}
use Rattle.std.specs.Ordering.{is_lt}
use Rattle.std.proofs.lemmas.List.{length-map}
use Rattle.std.proofs.lemmas.Map.Keys.{sorted_from_all_adjacent}
use Rattle.aml_path.specs.Paths.{path_cmp}
use Rattle.route_model.specs.Links.{paths_of}
use Rattle.route_model.proofs.Paths.{path_total}
use Rattle.route_solve.proofs.Ascending.{yes, no}
use Rattle.route_solve.proofs.PathOrder.{path_at, less, paths_more, paths_not}
use Rattle.route_solve.proofs.conditions.links_ascend.Goals as goal

pub returns-then-not-is_lt : goal.returns-then-not-is_lt
returns-then-not-is_lt c =
    let links = c.args.links.now in
    let i = c.loop-i.i in
    let one = c.loop-i.auto.i in
    let long = length-map links (λ l. l.path) in
    let a = path_at links (i - 1) c.index-links-i.result (omega arith) c.index-links-i.is in
    let b = path_at links i c.index-links-i-in-loop-i.result (omega arith) c.index-links-i-in-loop-i.is in
    let compared : c.cmp.result ≡ path_cmp (get_or (paths_of links) (i - 1) []) (get_or (paths_of links) i []) = c.cmp.ensures ∙ rw (a, b, c.path-before.ensures, c.path.ensures) refl in
    no (paths_not (paths_of links) i (omega arith) (omega arith) (ap is_lt (sym compared) ∙ (sym c.is_lt.ensures ∙ c.if-not-is_lt.true)))

pub loop-i-preserved : goal.loop-i-preserved
loop-i-preserved c =
    let links = c.args.links.now in
    let i = c.loop-i.i in
    let one = c.loop-i.auto.i in
    let a = path_at links (i - 1) c.index-links-i.result (omega arith) c.index-links-i.is in
    let b = path_at links i c.index-links-i-in-loop-i.result (omega arith) c.index-links-i-in-loop-i.is in
    let compared : c.cmp.result ≡ path_cmp (get_or (paths_of links) (i - 1) []) (get_or (paths_of links) i []) = c.cmp.ensures ∙ rw (a, b, c.path-before.ensures, c.path.ensures) refl in
    paths_more (paths_of links) i (omega arith) (sym compared ∙ less c.cmp.result (sym c.is_lt.ensures ∙ c.if-not-is_lt.false)) c.loop-i.invariant

pub returns : goal.returns
returns c =
    let long = length-map c.args.links.now (λ l. l.path) in
    yes (sorted_from_all_adjacent path_total (paths_of c.args.links.now) [] (λ k b. c.loop-i.invariant k (omega arith)))
