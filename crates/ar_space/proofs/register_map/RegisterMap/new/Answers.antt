use Rattle.ar_space.proofs.RegisterNumbers.{no_registers}
use Rattle.ar_space.proofs.register_map.RegisterMap.new.Goals as goal

pub returns : goal.returns
returns c = no_registers c.new.result c.new.ensures
