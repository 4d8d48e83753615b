use Rattle.std.proofs.Common.{sym, ◌∙◌}
use Rattle.ar_space.proofs.Changes.{does_same, does_err, same_ok}
use Rattle.aml_meaning.specs.Meaning.{meaning}
use Rattle.aml_frames.specs.Uses.{asking}
use Rattle.aml_interp.proofs.Buses.{no_bridges, bridge_next, bridges_end}
use Rattle.aml_interp.proofs.bridges.bus_behind_all.Goals as goal

pub loop-bridge-preserved : goal.loop-bridge-preserved
loop-bridge-preserved g c =
    same_ok _ _
    (bridge_next g.S.Space.accesses (asking g.S.Space.accesses (meaning g.S.Space.accesses) c.args.calls) c.args.segment c.loop-bridge.behind c.loop-bridge.left.items c.in-Some.bridge c.pop_front.new.self.items c.in-Some.ensures.items c.loop-bridge.invariant)
    c.in_ok-behind.ensures

pub returns-in_err-behind : goal.returns-in_err-behind
returns-in_err-behind g c =
    does_same
    (bridge_next g.S.Space.accesses (asking g.S.Space.accesses (meaning g.S.Space.accesses) c.args.calls) c.args.segment c.loop-bridge.behind c.loop-bridge.left.items c.in-Some.bridge c.pop_front.new.self.items c.in-Some.ensures.items c.loop-bridge.invariant)
    (does_err _ _ c.in_err-behind.ensures c.from_residual.ensures)

pub returns : goal.returns
returns g c =
    bridges_end g.S.Space.accesses (asking g.S.Space.accesses (meaning g.S.Space.accesses) c.args.calls) c.args.segment c.loop-bridge.behind c.loop-bridge.left.items
    (no_bridges c.loop-bridge.left.items (sym c.loop-bridge.left.ok.0 ∙ c.in_default.ensures.cases.0)) c.loop-bridge.invariant
