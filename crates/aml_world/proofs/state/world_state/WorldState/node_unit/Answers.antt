use Rattle.std.proofs.Common.{◌≡◌, ◌∙◌, List, ap, sym, Some, Ok}
use Rattle.ar_space.specs.Change.{Does}
use Rattle.aml_path.specs.declared.segment.Seg.{Seg}
use Rattle.aml_objects.specs.declared.entry.Entry.{Entry}
use Rattle.aml_objects.specs.declared.entry.Field.TheVariants as field
use Rattle.aml_objects.specs.declared.entry.NamedObject.TheVariants as objects
use Rattle.aml_objects.specs.declared.value.Value.{Value}
use Rattle.aml_namespace.specs.Namespace.{Namespace, numbered}
use Rattle.aml_world.specs.declared.state.invocation.Invocation.TheVariants as invocation
use Rattle.aml_world.specs.declared.values.store_target.StoreTarget.TheVariants as targets
use Rattle.aml_world.specs.declared.values.store_target.Stored.TheVariants.{Field}
use Rattle.aml_world.specs.state.Invocations.{use_found}
use Rattle.aml_world.specs.values.Stores.{stored}
use Rattle.aml_world.proofs.SlotIntegers.{if_some}
use Rattle.aml_world.proofs.NodeObjects.{entry_is, unit_used, unit_led_to}
use Rattle.aml_world.proofs.state.world_state.WorldState.node_unit.Goals as goal

pub returns-in-Some-clause-used : goal.returns-in-Some-clause-used
returns-in-Some-clause-used g c =
    let w = c.args.self.now in
    let id = c.args.id.number in
    let e = c.in-Some.entry.now in
    if_some c.unit_of.result (λ u. e.object ≡ objects.FieldUnit u) (λ u. (f : List Seg × Entry) → numbered id w.names.map ≡ Some f → Does (Ok (invocation.Field (field.Unit u))) w (use_found f 0) w)
    (λ u held f at.
    let same : e ≡ f.1 = entry_is (numbered id c.names.result.now.map) e f c.in-Some.ensures (ap (λ (n : Namespace). numbered id n.map) c.names.ensures ∙ at) in
    unit_used w f u (ap (λ (x : Entry). x.object) (sym same) ∙ held))
    c.unit_of.ensures

pub returns-in-Some-clause-written : goal.returns-in-Some-clause-written
returns-in-Some-clause-written g c =
    let w = c.args.self.now in
    let id = c.args.id.number in
    let e = c.in-Some.entry.now in
    if_some c.unit_of.result (λ u. e.object ≡ objects.FieldUnit u)
    (λ u. (f : List Seg × Entry) → numbered id w.names.map ≡ Some f → (v : Value) → Does (Ok (Field (field.Unit u))) w (stored (targets.Name f.0) v) w)
    (λ u held f at v.
    let same : e ≡ f.1 = entry_is (numbered id c.names.result.now.map) e f c.in-Some.ensures (ap (λ (n : Namespace). numbered id n.map) c.names.ensures ∙ at) in
    unit_led_to w id f at w.names u v (ap (λ (x : Entry). x.object) (sym same) ∙ held))
    c.unit_of.ensures
