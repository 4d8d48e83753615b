-- the tables so far, and then those of the addresses that are left, are those of all addresses
use Rattle.std.proofs.Common.{◌≡◌, drop}
use Rattle.ar_space.specs.Each.{each, following}
use Rattle.ar_tables.specs.declared.table.TableKind.TheVariants.{Ssdt}
use Rattle.ar_tables.specs.Headers.{table_at}
use Rattle.ar_tables.proofs.tables.each_ssdt.Given as goal

abbrev pub invariant-loop-address : goal.invariant-loop-address
invariant-loop-address l = each (table_at l.image Ssdt) l.addresses ≡ following l.tables.items (each (table_at l.image Ssdt) (drop l.address-index l.addresses))
