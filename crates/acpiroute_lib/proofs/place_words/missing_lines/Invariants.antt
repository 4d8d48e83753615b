use Rattle.std.proofs.Common.{◌≡◌, ◌++◌, drop}
use Rattle.acpiroute_lib.specs.MissingLines.{lines_behind, missing_lines}
use Rattle.acpiroute_lib.proofs.place_words.missing_lines.Given as goal

abbrev pub invariant-loop-place : goal.invariant-loop-place
invariant-loop-place l = missing_lines l.places ≡ l.text.items ++ lines_behind l.before (drop l.place-index l.places)
