use Rattle.machine_laws.proofs.FlagsTold.{edge_told, level_told, low_told, high_told, shared_told, exclusive_told}
use Rattle.machine_laws.proofs.descriptors.the_flags_of_an_interrupt_are_bits.Goals as goal

pub returns-clause-edge : goal.returns-clause-edge
returns-clause-edge c = edge_told

pub returns-clause-level : goal.returns-clause-level
returns-clause-level c = level_told

pub returns-clause-low : goal.returns-clause-low
returns-clause-low c = low_told

pub returns-clause-high : goal.returns-clause-high
returns-clause-high c = high_told

pub returns-clause-shared : goal.returns-clause-shared
returns-clause-shared c = shared_told

pub returns-clause-exclusive : goal.returns-clause-exclusive
returns-clause-exclusive c = exclusive_told
