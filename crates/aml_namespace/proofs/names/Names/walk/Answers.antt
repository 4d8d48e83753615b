use Rattle.std.proofs.Common.{◌≡◌, ◌∙◌, ◌||◌, List, ap, sym, Ok}
use Rattle.std.specs.List.{list_any}
use Rattle.std.specs.BTreeSet.{contains}
use Rattle.std.specs.Ordering.{eq_by_cmp}
use Rattle.aml_path.specs.declared.segment.Seg.{Seg}
use Rattle.aml_path.specs.Paths.{path_cmp}
use Rattle.aml_namespace.specs.Walks.{walked}
use Rattle.aml_namespace.specs.Tree.{map_of}
use Rattle.aml_namespace.proofs.Walking.{named_by, walked_is, or_none}
use Rattle.aml_namespace.proofs.names.Names.walk.Goals as goal

pub returns : goal.returns
returns c =
    let same : (q : List Seg) → list_any (eq_by_cmp path_cmp q) c.loop-id.paths.keys ≡ list_any (named_by (map_of c.self.inside.nodes) q) c.self.inside.index = λ q.
    sym (or_none (contains path_cmp c.loop-id.paths q))
    ∙ sym (ap (λ es. contains path_cmp c.loop-id.paths q || list_any (named_by c.args.self.now.map q) es) c.in-None.ensures.steps.0)
    ∙ c.loop-id.invariant q
    ∙ ap (list_any (named_by c.args.self.now.map q)) c.into_iter-id-iterator.ensures.into_iter_gives.0
    ∙ ap (list_any (named_by c.args.self.now.map q)) c.places-id-items.ensures
    ∙ sym (ap (λ s. list_any (named_by s.map q) c.self.inside.index) c.self.view_is) in
    let all = walked_is c.self.inside.nodes c.self.inside.index c.self.inside.next c.self.invariant c.loop-id.paths.keys c.listed.ensures.ordered same ∙ ap (λ s. walked s.map) c.self.view_is in
    record { is = λ ne. ap Ok (sym all) ∙ c.listed.ensures.paths.is ne }
