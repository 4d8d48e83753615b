use Rattle.std.proofs.Common.{rules}
use Rattle.acpi_explain.proofs.Putting.{without_name, with_name}
use Rattle.acpi_explain.proofs.trace_lines.place_lines.Goals as goal

pub returns-in-None : goal.returns-in-None
returns-in-None c = without_name c.in_ok-text.text.items c.in_ok-text.ensures

pub returns-in_ok-put_line-in-Some : goal.returns-in_ok-put_line-in-Some
returns-in_ok-put_line-in-Some c = with_name c.in_ok-text.text.items c.put_line.new.text.items c.in_ok-words-in-Some.words.items c.in_ok-words-in-Some.ensures c.in_ok-text.ensures (search rules)
