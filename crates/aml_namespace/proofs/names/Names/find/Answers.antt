use Rattle.std.proofs.Common.{◌∙◌, ap}
use Rattle.std.specs.Option.{option_map}
use Rattle.std.specs.FinMap.{get}
use Rattle.aml_objects.specs.declared.entry.Entry.{Entry}
use Rattle.aml_namespace.specs.Tree.{child_in, down}
use Rattle.aml_namespace.proofs.Finding.{find_is}
use Rattle.aml_namespace.proofs.names.Names.find.Goals as goal

pub returns : goal.returns
returns c =
    c.descend.ensures
    ∙ ap (λ n. down (child_in c.self.inside.index) n c.segments.result.now) c.root_id.ensures
    ∙ ap (down (child_in c.self.inside.index) 0) c.segments.ensures
    ∙ find_is c.self.inside.nodes (child_in c.self.inside.index) c.self.inside.next c.self.invariant c.args.path.now
    ∙ ap (λ s. option_map (λ (e : Entry). e.number) (get s.map c.args.path.now)) c.self.view_is
