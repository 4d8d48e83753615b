use Rattle.std.proofs.Common.{◌≡◌, ◌++◌}
use Rattle.aml_namespace.proofs.walk.listed.Given as goal

abbrev pub invariant-loop-path : goal.invariant-loop-path
invariant-loop-path l = l.list.items ++ l.path-iterator ≡ l.initial.path-iterator
