use Rattle.std.proofs.Common.{ap, ◌∙◌, sym}
use Rattle.acpi_machine.proofs.Whole.{texts_refused_by, texts_refused_space, texts_refused_passed, names_refused_by, names_refused_space, names_refused_passed, all_done}
use Rattle.acpi_machine.proofs.loading.load_tables_traced.Goals as goal

pub returns-in-Err-clause-refusal : goal.returns-in-Err-clause-refusal
returns-in-Err-clause-refusal g c = λ ne. texts_refused_by _ _ _ _ _ _ (rw (← c.deref.ensures.value) c.in-Err.ensures.answer) ne

pub returns-in-Err-clause-space : goal.returns-in-Err-clause-space
returns-in-Err-clause-space g c = λ ne. texts_refused_space _ _ _ _ _ _ (rw (← c.deref.ensures.value) c.in-Err.ensures.answer) ne

pub returns-in-Err-with_settings-clause-refusal : goal.returns-in-Err-with_settings-clause-refusal
returns-in-Err-with_settings-clause-refusal g c = λ ne. names_refused_by _ _ _ _ _ _ (rw (← c.deref.ensures.value) c.in-Ok.ensures.answer) (c.in-Err-with_settings.ensures.refusal ne)

pub returns-in-Err-with_settings-clause-space : goal.returns-in-Err-with_settings-clause-space
returns-in-Err-with_settings-clause-space g c = λ ne. names_refused_space _ _ _ _ _ _ (rw (← c.deref.ensures.value) c.in-Ok.ensures.answer) (c.in-Err-with_settings.ensures.refusal ne) ∙ sym c.in-Err-with_settings.ensures.space

pub returns-in-Ok-load_all-clause-world : goal.returns-in-Ok-load_all-clause-world
returns-in-Ok-load_all-clause-world g c = (all_done _ _ _ _ _ _ _ (rw (← c.deref.ensures.value) c.in-Ok.ensures.answer) c.in-Ok-with_settings.ensures.world c.in-Ok-load_all.ensures).is tt

pub returns-in-Err-load_all-clause-refusal : goal.returns-in-Err-load_all-clause-refusal
returns-in-Err-load_all-clause-refusal g c = λ ne. ap (λ p. p.0) ((all_done _ _ _ _ _ _ _ (rw (← c.deref.ensures.value) c.in-Ok.ensures.answer) c.in-Ok-with_settings.ensures.world c.in-Err-load_all.ensures).is ne)

pub returns-in-Err-load_all-clause-space : goal.returns-in-Err-load_all-clause-space
returns-in-Err-load_all-clause-space g c = λ ne. ap (λ p. p.1.space) ((all_done _ _ _ _ _ _ _ (rw (← c.deref.ensures.value) c.in-Ok.ensures.answer) c.in-Ok-with_settings.ensures.world c.in-Err-load_all.ensures).is ne) ∙ sym c.parts_of-space.ensures.space

pub returns-in-Err-clause-passed : goal.returns-in-Err-clause-passed
returns-in-Err-clause-passed g c = λ ne. texts_refused_passed _ _ _ _ _ _ (rw (← c.deref.ensures.value) c.in-Err.ensures.answer) ne ∙ sym c.new-in-Err.ensures

pub returns-in-Err-with_settings-clause-passed : goal.returns-in-Err-with_settings-clause-passed
returns-in-Err-with_settings-clause-passed g c = λ ne. names_refused_passed _ _ _ _ _ _ (rw (← c.deref.ensures.value) c.in-Ok.ensures.answer) (c.in-Err-with_settings.ensures.refusal ne) ∙ sym c.new-in-Err-with_settings-2.ensures

pub returns-in-Err-load_all-clause-passed : goal.returns-in-Err-load_all-clause-passed
returns-in-Err-load_all-clause-passed g c = λ ne. ap (λ p. p.1.passed) ((all_done _ _ _ _ _ _ _ (rw (← c.deref.ensures.value) c.in-Ok.ensures.answer) c.in-Ok-with_settings.ensures.world c.in-Err-load_all.ensures).is ne) ∙ sym c.parts_of-space.ensures.passed
