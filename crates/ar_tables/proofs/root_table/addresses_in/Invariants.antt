-- the addresses so far are those of the first places that aren't zero
use Rattle.std.proofs.Common.{◌≡◌, ◌*◌, drop, map}
use Rattle.std.specs.Prelude.{not, ◌==◌, filter}
use Rattle.std.specs.List.{range_with_len}
use Rattle.byteorder.specs.Endian.{little_number}
use Rattle.ar_tables.specs.Lists.{address_size}
use Rattle.ar_tables.proofs.root_table.addresses_in.Given as goal

abbrev pub invariant-loop-n : goal.invariant-loop-n
invariant-loop-n l = l.addresses.items ≡ filter (λ address. not (address == 0)) (map (λ n. little_number (address_size l.root) (drop (address_size l.root * n) l.list)) (range_with_len 0 l.n))
