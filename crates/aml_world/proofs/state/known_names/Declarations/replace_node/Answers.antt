use Rattle.std.proofs.Common.{◌∙◌, ap, List}
use Rattle.std.specs.Option.{option_map}
use Rattle.aml_path.specs.declared.segment.Seg.{Seg}
use Rattle.aml_objects.specs.declared.entry.Entry.{Entry}
use Rattle.aml_world.proofs.KnownNames.{node_kept}
use Rattle.aml_world.proofs.state.known_names.Declarations.replace_node.Goals as goal

pub invariant_of-self : goal.invariant_of-self
invariant_of-self c =
    let i = c.self.inside in
    let plain = c.both_plain-plain in
    node_kept plain.result c.args.id.number c.args.object i.names c.replace_node.new.self i.arities i.kept.entries c.keep_where.new.kept.entries c.keep_where.ensures.stays c.keep_where.ensures.goes
    plain.ensures.new (λ yes f at. plain.ensures.old yes f.1 (c.node.ensures ∙ ap (option_map (λ (x : List Seg × Entry). x.1)) at))
    c.replace_node.ensures.change c.replace_node.ensures.unchanged c.self.invariant
