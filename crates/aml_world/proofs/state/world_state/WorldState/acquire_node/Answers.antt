use Rattle.std.proofs.Common.{◌≡◌, List, sym, ◌≢◌, ◌-◌, ◌^◌, ◌∙◌, ap, subst, Some, Ok, arith}
use Rattle.ar_space.specs.Change.{Does}
use Rattle.aml_arities.specs.declared.arities.Arity.{Arity}
use Rattle.aml_namespace.specs.Namespace.{numbered}
use Rattle.aml_world.specs.declared.values.store_target.StoreTarget.TheVariants as targets
use Rattle.aml_world.specs.state.State.{State}
use Rattle.aml_world.specs.state.Mutexes.{acquired_at}
use Rattle.aml_world.proofs.NodeObjects.{mutex_acquired}
use Rattle.aml_world.proofs.state.world_state.WorldState.acquire_node.Goals as goal

pub returns-clause-change : goal.returns-clause-change
returns-clause-change g c = λ yes f at.
    let i = c.self.inside in
    let w : State g.row.S.Denot = record { names = i.declarations.names; arities = i.declarations.arities; objects = i.heap; frames = i.frames.items; started = i.started; space = i.space; osi = i.osi.items; width = i.width; profile = i.profile; nesting = i.nesting; passed = i.passed } in
    let id = c.args.id.number in
    let here : numbered id i.declarations.names.map ≡ Some f = ap (λ (s : State g.row.S.Denot). numbered id s.names.map) c.self.view_is ∙ at in
    let fits : c.in-Some.count ≢ 2 ^ 64 - 1 = omega arith in
    let k = c.replace_node.new.self in
    subst (λ (s : State g.row.S.Denot). Does (Ok tt) (record w { names = k.names; arities = k.arities }) (acquired_at (targets.Name f.0)) s) c.self.view_is
    (subst (λ (a : List Arity). Does (Ok tt) (record w { names = k.names; arities = a }) (acquired_at (targets.Name f.0)) w) (sym c.replace_node.ensures.arities)
    (mutex_acquired w id f here k.names c.in-Some.count (c.in-Some.ensures.held f at) fits (c.replace_node.ensures.change f here)))
