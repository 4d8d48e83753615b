-- the entries so far, and then those of the addresses that are left, are those of all addresses
use Rattle.std.proofs.Common.{◌≡◌, drop}
use Rattle.ar_space.specs.Each.{each, following}
use Rattle.ar_tables.specs.Lists.{entry_at}
use Rattle.ar_tables.proofs.root_table.each_entry.Given as goal

abbrev pub invariant-loop-address : goal.invariant-loop-address
invariant-loop-address l = each (entry_at l.image) l.addresses ≡ following l.entries.items (each (entry_at l.image) (drop l.address-index l.addresses))
