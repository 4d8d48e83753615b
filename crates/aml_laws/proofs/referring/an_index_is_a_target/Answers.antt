use Rattle.aml_laws.proofs.IndexTargets.{index_is_target, store_gives_part}
use Rattle.aml_laws.proofs.PartsCounted.{part_increments, part_decrements}
use Rattle.aml_laws.proofs.referring.an_index_is_a_target.Goals as goal

pub returns-clause-target : goal.returns-clause-target
returns-clause-target g c = index_is_target

pub returns-clause-stored : goal.returns-clause-stored
returns-clause-stored g c = store_gives_part

pub returns-clause-counted_up : goal.returns-clause-counted_up
returns-clause-counted_up g c = part_increments

pub returns-clause-counted_down : goal.returns-clause-counted_down
returns-clause-counted_down g c = part_decrements
