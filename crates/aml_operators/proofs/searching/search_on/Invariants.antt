use Rattle.std.proofs.Common.{◌≡◌, ◌≤◌}
use Rattle.aml_meaning.specs.Meaning.{meaning}
use Rattle.aml_meaning.specs.MatchTerms.{searched_last}
use Rattle.aml_operators.proofs.searching.search_on.Given as goal

abbrev pub invariant-elements : goal.invariant-elements
invariant-elements g l = (searched_last g.S.Space.accesses (meaning g.S.Space.accesses) l.fn.act.depth l.fn.search l.fn.left l.fn.run ≡ searched_last g.S.Space.accesses (meaning g.S.Space.accesses) l.fn.act.depth l.fn.search l.rest l.fn.run) × (l.rest ≤ l.fn.left)

abbrev pub decreases-elements : goal.decreases-elements
decreases-elements g l = l.rest
