use Rattle.std.proofs.Common.{◌≡◌}
use Rattle.aml_terms.specs.AtTree.{at_list}
use Rattle.aml_meaning.specs.Terms.{count_of}
use Rattle.aml_meaning.specs.FieldTerms.{has_connection}
use Rattle.aml_declarations.proofs.field_lists.has_connection.Given as goal

abbrev pub invariant-elements : goal.invariant-elements
invariant-elements l = has_connection (at_list l.fn.elements) ≡ has_connection (at_list l.rest)

abbrev pub decreases-elements : goal.decreases-elements
decreases-elements l = count_of (at_list l.rest)
