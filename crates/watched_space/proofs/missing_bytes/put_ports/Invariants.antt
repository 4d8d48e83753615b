use Rattle.std.proofs.Common.{◌≡◌, ◌++◌, map, take}
use Rattle.watched_space.specs.MissingPlaces.{port_place}
use Rattle.watched_space.proofs.missing_bytes.put_ports.Given as goal

abbrev pub invariant-loop-entry : goal.invariant-loop-entry
invariant-loop-entry l = l.places.items ≡ l.fn.places.items ++ map port_place (take l.entry-index l.entries)
