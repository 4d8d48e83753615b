use Rattle.std.proofs.Common.{◌≡◌, map, take, Some}
use Rattle.acpiroute_c.specs.Accesses.{exchange_of}
use Rattle.acpiroute_c.proofs.call_access.exchanges_of.Given as goal

abbrev pub invariant-loop-access : goal.invariant-loop-access
invariant-loop-access l = map Some l.list.items ≡ map exchange_of (take l.access-index l.fn.accesses)
