use Rattle.std.proofs.Common.{◌≡◌, ◌∙◌, ◌<◌, ap, sym, refl, ℕ, Bool, List, length, take, get_or, set, arith, length-set}
use Rattle.std.proofs.lemmas.List.{get_or_default, get_or_read, take_all}
use Rattle.aml_arities.specs.declared.counts.Counts.{Counts}
use Rattle.aml_arities.specs.Arities.{or_else}
use Rattle.aml_arities.specs.Counts.{no_counts, count_of, counts_at, shown}
use Rattle.aml_arities.proofs.Counted.{put_more, over_sort, or_none, none_under}
use Rattle.aml_arities.proofs.counts.put_under.Goals as goal

pub loop-node-init : goal.loop-node-init
loop-node-init c = record { long = refl; both = λ ps qs leads. none_under ps qs c.args.counts.now.items }

pub loop-node-preserved : goal.loop-node-preserved
loop-node-preserved c =
    let k = c.loop-node.node in
    let ds = c.loop-node.counts.items in
    let others = c.args.earlier.now in
    let t = get_or c.args.nodes.now k 0 in
    let one = get_or others k no_counts in
    let within : k < length others = c.loop-node-test.true in
    let within_nodes : k < length c.args.nodes.now = omega (arith, within, c.requires.many) in
    let room = c.requires.within k within_nodes in
    let there : t < length ds = omega (arith, room, c.loop-node.invariant.long) in
    let read : c.index.result.now ≡ counts_at ds t = get_or_read ds t c.index.result.now there c.index.ensures no_counts in
    let is : (e : Bool) → count_of c.over.result e ≡ or_else (count_of (counts_at ds t) e) (count_of one e) = λ e.
    ap (λ (y : Counts). count_of y e) c.over.ensures
    ∙ over_sort c.index.result.now one e
    ∙ ap (λ (y : Counts). or_else (count_of y e) (count_of one e)) read in
    record {
      long = length-set ds t c.over.result ∙ c.loop-node.invariant.long;
      both = λ ps qs leads q e.
          put_more (λ l o. or_else o l) or_none ps qs c.args.nodes.now leads c.args.counts.now.items ds others k one c.over.result t within within_nodes (get_or_default others k no_counts one within) refl there is q e
          (c.loop-node.invariant.both ps qs leads q e);
    }

pub returns-clause-both : goal.returns-clause-both
returns-clause-both c = λ ps qs leads q e.
    c.loop-node.invariant.both ps qs leads q e
    ∙ ap (λ (l : List Counts). or_else (shown (record { paths = ps; counts = c.args.counts.now.items }) q e) (shown (record { paths = qs; counts = l }) q e)) (take_all c.loop-node.node c.args.earlier.now c.loop-node-test.false)
