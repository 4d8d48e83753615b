use Rattle.machine_laws.proofs.TemplatesTold.{mask_numbers, table_numbers, no_number_left}
use Rattle.machine_laws.proofs.templates.interrupts_are_numbered_by_bits_and_bytes.Goals as goal

pub returns-clause-mask : goal.returns-clause-mask
returns-clause-mask c = mask_numbers

pub returns-clause-table : goal.returns-clause-table
returns-clause-table c = table_numbers

pub returns-clause-end : goal.returns-clause-end
returns-clause-end c = no_number_left
