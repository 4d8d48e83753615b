use Rattle.std.proofs.Common.{arith}
use Rattle.ar_space.proofs.Changes.{does_same, does_seen_err, same_ok}
use Rattle.aml_world.proofs.Imports.{same_argument, arguments_end}
use Rattle.aml_world.proofs.state.world_state.WorldState.import_all.Goals as goal

pub loop-datum-preserved : goal.loop-datum-preserved
loop-datum-preserved g c = rw (c.in_ok-push.ensures.items) (same_ok _ _ (same_argument c.args.arguments.now c.loop-datum.values.items c.loop-datum.datum-index _ c.loop-datum.invariant (omega arith) c.datum-item.is) c.in_ok-value.ensures)

pub returns : goal.returns
returns g c = arguments_end c.args.arguments.now c.loop-datum.values.items c.loop-datum.datum-index c.loop-datum.invariant (omega arith)

pub returns-in_err-value : goal.returns-in_err-value
returns-in_err-value g c = does_same (same_argument c.args.arguments.now c.loop-datum.values.items c.loop-datum.datum-index _ c.loop-datum.invariant (omega arith) c.datum-item.is) (does_seen_err c.from_residual.result (λ v. v.items) _ _ c.in_err-value.ensures c.from_residual.ensures)
