use Rattle.std.proofs.Common.{◌≡◌, ◌∙◌, ◌+◌, ◌++◌, ◌∷◌, [], ap, sym, false, length, take, map, get_or, List, arith}
use Rattle.std.proofs.lemmas.List.{take_more, map-append}
use Rattle.aml_arities.specs.declared.arities.Entry.{Entry}
use Rattle.aml_arities.specs.Counts.{moved_by}
use Rattle.aml_arities.proofs.Counted.{placed_at}
use Rattle.aml_arities.proofs.arities.moved.Goals as goal

pub bounds-nodes-entry : goal.bounds-nodes-entry
bounds-nodes-entry c = placed_at (length c.args.nodes.now) c.args.entries.now c.loop-entry.entry-index (record { node = 0; count = 0; external = false }) c.loop-entry-test.true c.requires

pub loop-entry-preserved : goal.loop-entry-preserved
loop-entry-preserved c =
    let entries = c.args.entries.now in
    let i = c.loop-entry.entry-index in
    let none : Entry = record { node = 0; count = 0; external = false } in
    let one : Entry = moved_by c.args.nodes.now (get_or entries i none) in
    c.in_ok-push.ensures.items
    ∙ ap (λ (l : List Entry). l ++ one ∷ []) c.loop-entry.invariant
    ∙ sym (ap (map (moved_by c.args.nodes.now)) (take_more entries i none c.loop-entry-test.true) ∙ map-append (moved_by c.args.nodes.now) (take i entries) (get_or entries i none ∷ []))
