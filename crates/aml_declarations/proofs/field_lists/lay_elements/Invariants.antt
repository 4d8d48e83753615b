use Rattle.ar_space.specs.Change.{Same}
use Rattle.aml_terms.specs.AtTree.{at_list}
use Rattle.aml_meaning.specs.Terms.{count_of}
use Rattle.aml_meaning.specs.FieldTerms.{elements_laid}
use Rattle.aml_declarations.proofs.field_lists.lay_elements.Given as goal

abbrev pub invariant-elements : goal.invariant-elements
invariant-elements g l = Same (elements_laid l.group l.fn.act.scope l.fn.act.depth l.fn.first (at_list l.fn.elements)) l.fn.world (elements_laid l.group l.fn.act.scope l.fn.act.depth l.at (at_list l.rest)) l.world

abbrev pub decreases-elements : goal.decreases-elements
decreases-elements g l = count_of (at_list l.rest)
