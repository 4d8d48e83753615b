use Rattle.std.proofs.Common.{◌≡◌, ◌∙◌, List, ap, sym, Some, Ok}
use Rattle.ar_space.specs.Change.{Does}
use Rattle.aml_path.specs.declared.segment.Seg.{Seg}
use Rattle.aml_objects.specs.declared.entry.Entry.{Entry}
use Rattle.aml_objects.specs.declared.entry.NamedObject.TheVariants.{Data}
use Rattle.aml_objects.specs.declared.value.Value.TheVariants.{Integer}
use Rattle.aml_namespace.specs.Namespace.{Namespace, numbered}
use Rattle.aml_world.specs.declared.state.invocation.Invocation.TheVariants as invocation
use Rattle.aml_world.specs.state.Invocations.{use_found}
use Rattle.aml_world.proofs.SlotIntegers.{if_some}
use Rattle.aml_world.proofs.NodeObjects.{entry_is, integer_used}
use Rattle.aml_world.proofs.state.world_state.WorldState.node_integer.Goals as goal

pub returns-in-Some-clause-used : goal.returns-in-Some-clause-used
returns-in-Some-clause-used g c =
    let w = c.args.self.now in
    let id = c.args.id.number in
    let e = c.in-Some.entry.now in
    if_some c.integer_of.result (λ number. e.object ≡ Data (Integer number)) (λ number. (f : List Seg × Entry) → numbered id w.names.map ≡ Some f → Does (Ok (invocation.Value (Integer number))) w (use_found f 0) w)
    (λ number held f at.
    let same : e ≡ f.1 = entry_is (numbered id c.names.result.now.map) e f c.in-Some.ensures (ap (λ (n : Namespace). numbered id n.map) c.names.ensures ∙ at) in
    integer_used w f number (ap (λ (x : Entry). x.object) (sym same) ∙ held))
    c.integer_of.ensures
