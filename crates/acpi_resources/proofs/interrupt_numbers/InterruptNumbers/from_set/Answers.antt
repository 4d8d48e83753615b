-- The keys of a set are in strict order.
use Rattle.std.proofs.Common.{◌≡◌, sym, subst, rules}
use Rattle.std.specs.List.Sorted.{IsStrictlyIncreasing}
use Rattle.std.proofs.lemmas.Map.Keys.{IsStrictlyIncreasing-from_sorted}
use Rattle.acpi_resources.proofs.interrupt_numbers.InterruptNumbers.from_set.Goals as goal

pub from_vec-requires : goal.from_vec-requires
from_vec-requires c =
    let same : c.in_ok-collect.field-0.items ≡ c.args.numbers.keys = search rules in
    subst IsStrictlyIncreasing (sym same) (IsStrictlyIncreasing-from_sorted c.args.numbers.keys c.into_iter.ensures.into_iter_gives.4)

pub returns-clause-ascending : goal.returns-clause-ascending
returns-clause-ascending c =
    let same : c.from_vec.result ≡ c.args.numbers.keys = search rules in
    subst IsStrictlyIncreasing (sym same) (IsStrictlyIncreasing-from_sorted c.args.numbers.keys c.into_iter.ensures.into_iter_gives.4)
