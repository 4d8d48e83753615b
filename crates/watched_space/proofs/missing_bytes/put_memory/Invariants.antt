use Rattle.std.proofs.Common.{◌≡◌, ◌++◌, map, take}
use Rattle.watched_space.specs.MissingPlaces.{memory_place}
use Rattle.watched_space.proofs.missing_bytes.put_memory.Given as goal

abbrev pub invariant-loop-entry : goal.invariant-loop-entry
invariant-loop-entry l = l.places.items ≡ l.fn.places.items ++ map memory_place (take l.entry-index l.entries)
