use Rattle.machine_text.proofs.LastLines.{last_line_gives, no_line_gives}
use Rattle.machine_text.proofs.laws.a_byte_is_that_of_the_last_line_that_gives_one.Goals as goal

pub returns-clause-last : goal.returns-clause-last
returns-clause-last c = last_line_gives

pub returns-clause-none : goal.returns-clause-none
returns-clause-none c = no_line_gives
