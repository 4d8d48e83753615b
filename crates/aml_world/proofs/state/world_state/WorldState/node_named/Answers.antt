use Rattle.std.proofs.Common.{◌≡◌, subst, Some}
use Rattle.ar_space.specs.Outcome.{seen}
use Rattle.aml_objects.specs.declared.node.NodeId.{NodeId}
use Rattle.aml_namespace.specs.Namespace.{Namespace, numbered}
use Rattle.aml_namespace.specs.OneSegment.{segment_name}
use Rattle.aml_namespace.specs.Search.{found, found_or_not}
use Rattle.aml_world.proofs.NodeObjects.{target_if}
use Rattle.aml_world.proofs.state.world_state.WorldState.node_named.Goals as goal

pub returns-clause-target : goal.returns-clause-target
returns-clause-target g c =
    let scope = c.args.scope.path.now in
    let name = segment_name c.args.segment in
    target_if c.args.self.now c.search_segment.result scope name
    (subst (λ (n : Namespace). seen (λ (id : NodeId). numbered id.number n.map) (found_or_not c.search_segment.result) ≡ seen Some (found n.map scope name)) c.names.ensures c.search_segment.ensures)
