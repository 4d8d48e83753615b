use Rattle.acpi_explain.proofs.end.route_end.Goals as goal

pub returns-in-Ok-configure_with : goal.returns-in-Ok-configure_with
returns-in-Ok-configure_with g c = (c.initialize.new.self, (c.in-Ok.ensures.answer.is tt, c.in-Ok-configure_with.ensures.report))

pub returns-in-Err-configure_with : goal.returns-in-Err-configure_with
returns-in-Err-configure_with g c = λ ne. (c.initialize.new.self, (c.in-Ok.ensures.answer.is tt, c.in-Err-configure_with.ensures.refusal ne))
