use Rattle.std.proofs.Common.{◌∙◌, ap, sym}
use Rattle.acpiroute_lib.proofs.watched_run.watched_machine.Goals as goal

pub returns : goal.returns
returns c = record { after = c.machine_end-end.new.machine; is_end = c.machine_end-end.ensures.run; is_phase = c.machine_end-end.ensures.phase; is_last = sym (c.last-last.ensures ∙ ap (λ w. w.last) (c.into_parts-space.ensures.space ∙ ap (λ w. w.space) c.into_world.ensures)) }
