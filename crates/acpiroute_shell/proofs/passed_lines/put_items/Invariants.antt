use Rattle.std.proofs.Common.{◌≡◌, ◌++◌, drop}
use Rattle.acpiroute_shell.specs.PassedLines.{passed_list}
use Rattle.acpiroute_shell.proofs.passed_lines.put_items.Given as goal

abbrev pub invariant-loop-item : goal.invariant-loop-item
invariant-loop-item l = l.fn.text.items ++ passed_list l.items ≡ l.text.items ++ passed_list (drop l.item-index l.items)
