use Rattle.aml_spelling.proofs.FaultDeclared.{scope_exactly, alias_exactly, external_exactly, declared_exactly}
use Rattle.aml_spelling.proofs.laws.names_are_refused_exactly_if_faulty.Goals as goal

pub returns : goal.returns
returns c = record {
  place = λ s spot earlier r e f. scope_exactly s spot (e, f) earlier r;
  source = λ s spot earlier r e f. alias_exactly s spot (e, f) earlier r;
  external = λ s spot earlier r e f. external_exactly s spot (e, f) earlier r;
  declared = λ s spot context start count earlier r e f body. declared_exactly s spot context start count earlier r (e, f) body;
}
