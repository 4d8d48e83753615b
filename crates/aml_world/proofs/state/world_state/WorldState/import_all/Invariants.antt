use Rattle.std.proofs.Common.{[], drop, map}
use Rattle.ar_space.specs.Change.{Same}
use Rattle.aml_world.specs.state.Given.{given_of}
use Rattle.aml_world.specs.state.Importing.{all_imported}
use Rattle.aml_world.proofs.state.world_state.WorldState.import_all.Given as goal

abbrev pub invariant-loop-datum : goal.invariant-loop-datum
invariant-loop-datum g l = Same (all_imported (map given_of l.arguments) []) l.fn.self (all_imported (map given_of (drop l.datum-index l.arguments)) l.values.items) l.self
