use Rattle.std.specs.Prelude.{refl}
use Rattle.std.proofs.Common.{◌∙◌, ap}
use Rattle.recorded_route.specs.Endings.{wanted_of}
use Rattle.recorded_route.proofs.run.machine_run.Goals as goal

pub returns : goal.returns
returns c = λ ne. record {
  after = c.start-outcome.new.machine.world.space;
  is_run = record { after = c.start-outcome.new.machine; is_started = c.start-outcome.ensures ne; is_space = refl };
  is_wanted = c.wanted_of.ensures ∙ ap wanted_of c.space.ensures;
}
