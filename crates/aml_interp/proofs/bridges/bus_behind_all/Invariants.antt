use Rattle.std.proofs.Common.{length}
use Rattle.ar_space.specs.Change.{Same}
use Rattle.aml_world.specs.fields.Fields.{bus_behind_all}
use Rattle.aml_meaning.specs.Meaning.{meaning}
use Rattle.aml_frames.specs.Uses.{asking}
use Rattle.aml_interp.proofs.bridges.bus_behind_all.Given as goal

-- the bus behind the bridges that are left is the one behind them all
abbrev pub invariant-loop-bridge : goal.invariant-loop-bridge
invariant-loop-bridge g l =
    Same (bus_behind_all g.S.Space.accesses (asking g.S.Space.accesses (meaning g.S.Space.accesses) l.calls) l.segment l.bus l.fn.bridges.items) l.fn.run
    (bus_behind_all g.S.Space.accesses (asking g.S.Space.accesses (meaning g.S.Space.accesses) l.calls) l.segment l.behind l.left.items) l.run

abbrev pub decreases-loop-bridge : goal.decreases-loop-bridge
decreases-loop-bridge g l = length l.left.items
