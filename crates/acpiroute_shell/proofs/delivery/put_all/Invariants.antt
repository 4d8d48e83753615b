use Rattle.std.proofs.Common.{◌≡◌, false, ◌-◌, ◌≤◌, length, take}
use Rattle.std.specs.Io.KnownBytes.{Appends}
use Rattle.acpiroute_shell.proofs.delivery.put_all.Given as goal

abbrev pub invariant-loop-done : goal.invariant-loop-done
invariant-loop-done g l = Appends (g.W.Sink.held l.initial.writer).bytes (g.W.Sink.held l.writer).bytes (take l.done l.text) × (l.done ≤ length l.text) × ((g.W.Sink.held l.writer).has_failed ≡ false)

abbrev pub decreases-loop-done : goal.decreases-loop-done
decreases-loop-done g l = length l.text - l.done
