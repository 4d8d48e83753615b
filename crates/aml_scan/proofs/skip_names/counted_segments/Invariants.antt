use Rattle.std.proofs.Common.{◌-◌, ◌+◌, ◌≤◌, length}
use Rattle.ar_space.specs.Change.{Same}
use Rattle.aml_grammar.specs.State.{times}
use Rattle.aml_grammar.specs.Names.{segment}
use Rattle.aml_scan.specs.Scanned.{scanned}
use Rattle.aml_scan.proofs.skip_names.counted_segments.Given as goal

abbrev pub invariant-segments : goal.invariant-segments
invariant-segments g l = record {
  so_far : Same (scanned (times segment l.count)) l.fn.reader (scanned (times segment (l.count - l.counter))) l.reader;
  shorter : length l.reader.rest + l.counter ≤ length l.fn.reader.rest;
}
