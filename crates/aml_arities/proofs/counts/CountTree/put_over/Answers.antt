use Rattle.std.proofs.Common.{◌≡◌, ◌∙◌, [], ap, List, length, get_or, arith}
use Rattle.aml_path.specs.declared.segment.Seg.{Seg}
use Rattle.aml_arities.specs.declared.counts.Counts.{Counts}
use Rattle.aml_arities.specs.Arities.{or_else}
use Rattle.aml_arities.specs.Counts.{Counted, shown}
use Rattle.aml_arities.proofs.PathTrees.{number_is}
use Rattle.aml_arities.proofs.counts.CountTree.put_over.Goals as goal

pub put_over-requires-clause-within : goal.put_over-requires-clause-within
put_over-requires-clause-within c = λ n lt.
    let at = number_is (get_or c.args.later.now.paths n []) c.args.self.now.paths (get_or c.args.nodes.now n 0) (c.requires.leads.each n (omega (arith, lt, c.requires.leads.many))) in
    omega (arith, at.0, c.requires.room, ap (λ (t : Counted). length t.counts) c.self.view_is)

pub returns-clause-counts : goal.returns-clause-counts
returns-clause-counts c = λ q e.
    ap (λ (ps : List (List Seg)). shown (record { paths = ps; counts = c.put_over.new.counts.items }) q e) (ap (λ (t : Counted). t.paths) c.self.view_is)
    ∙ c.put_over.ensures.both c.args.self.now.paths c.args.later.now.paths c.requires.leads q e
    ∙ ap (λ (cs : List Counts). or_else (shown (record { paths = c.args.later.now.paths; counts = cs }) q e) (shown (record { paths = c.args.self.now.paths; counts = c.self.inside.counts.items }) q e)) (c.deref.ensures.value ∙ ap (λ (t : Counted). t.counts) c.later.view_is)
    ∙ ap (λ (cs : List Counts). or_else (shown c.args.later.now q e) (shown (record { paths = c.args.self.now.paths; counts = cs }) q e)) (ap (λ (t : Counted). t.counts) c.self.view_is)
