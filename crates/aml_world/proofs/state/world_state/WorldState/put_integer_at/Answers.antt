use Rattle.std.proofs.Common.{◌≡◌, List, sym, ◌∙◌, ap, subst, Some, Ok}
use Rattle.ar_space.specs.Change.{Does}
use Rattle.aml_objects.specs.declared.value.Value.TheVariants.{Integer}
use Rattle.aml_arities.specs.declared.arities.Arity.{Arity}
use Rattle.aml_namespace.specs.Namespace.{numbered}
use Rattle.aml_world.specs.declared.values.store_target.StoreTarget.TheVariants as targets
use Rattle.aml_world.specs.declared.values.store_target.Stored.TheVariants.{Done}
use Rattle.aml_world.specs.state.State.{State}
use Rattle.aml_world.specs.values.Stores.{stored}
use Rattle.aml_world.proofs.NodeObjects.{integer_put}
use Rattle.aml_world.proofs.state.world_state.WorldState.put_integer_at.Goals as goal

pub returns-clause-change : goal.returns-clause-change
returns-clause-change g c = λ yes f at.
    let i = c.self.inside in
    let w : State g.row.S.Denot = record { names = i.declarations.names; arities = i.declarations.arities; objects = i.heap; frames = i.frames.items; started = i.started; space = i.space; osi = i.osi.items; width = i.width; profile = i.profile; nesting = i.nesting; passed = i.passed } in
    let id = c.args.id.number in
    let here : numbered id i.declarations.names.map ≡ Some f = ap (λ (s : State g.row.S.Denot). numbered id s.names.map) c.self.view_is ∙ at in
    let held = c.put_integer.ensures.held yes f here in
    let k = c.put_integer.new.self in
    subst (λ (s : State g.row.S.Denot). Does (Ok Done) (record w { names = k.names; arities = k.arities }) (stored (targets.Name f.0) (Integer c.args.number)) s) c.self.view_is
    (subst (λ (a : List Arity). Does (Ok Done) (record w { names = k.names; arities = a }) (stored (targets.Name f.0) (Integer c.args.number)) w) (sym c.put_integer.ensures.arities)
    (integer_put w id f here k.names c.args.number held.0 held.1 (c.put_integer.ensures.change yes f here)))
