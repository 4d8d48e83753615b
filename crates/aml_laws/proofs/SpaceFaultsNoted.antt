-- Over a space with notes, the notes of an evaluation are told by its outcome: a fault of the register space is the answer that is
-- noted last, and no other one is a fault.
use Rattle.std.specs.Prelude.{ℕ, List}
use Rattle.ar_space.specs.Accesses.{Accesses}
use Rattle.aml_path.specs.declared.segment.Seg.{Seg}
use Rattle.aml_grammar.specs.Tree.{Trees}
use Rattle.aml_objects.specs.declared.value.Value.{Value}
use Rattle.aml_objects.specs.declared.entry.FieldUnit.{FieldUnit}
use Rattle.aml_fields.specs.declared.region.Region.{Region}
use Rattle.aml_fields.specs.Regions.{read_field, write_field}
use Rattle.aml_world.specs.state.Given.{Given}
use Rattle.aml_world.specs.state.State.{State}
use Rattle.aml_meaning.specs.Tasks.{Task, in_turn}
use Rattle.aml_meaning.specs.Calls.{invoked}
use Rattle.aml_meaning.specs.Meaning.{meaning}
use Rattle.aml_meaning.specs.Calling.{loaded, evaluated, answered}
use Rattle.aml_laws.specs.Noted.{WithNotes, noted, TellsNotes}
use Rattle.aml_laws.proofs.NotesOfFaults.{explained_told}
use Rattle.aml_laws.proofs.FaultsOfChanges.{read_field_explains, write_field_explains}
use Rattle.aml_laws.proofs.FaultsOfCalls.{in_turn_explains, invoked_explains}
use Rattle.aml_laws.proofs.FaultsOfTerms.{meaning_explains}
use Rattle.aml_laws.proofs.FaultsOfEvaluations.{loaded_explains, evaluated_explains, answered_explains}

module _ {S : Type 0} (accesses : Accesses S) where
  pub notes_of_term : (t : Task) (s : State (WithNotes S) × ℕ) → TellsNotes (meaning (noted accesses) t s).0 s.0.space (meaning (noted accesses) t s).1.0.space
  notes_of_term t s = explained_told accesses _ _ _ ((meaning_explains (noted accesses) t).explained s)

  pub notes_of_list : (scope : List Seg) (depth : ℕ) (ts : Trees) (s : State (WithNotes S) × ℕ) → TellsNotes (in_turn (meaning (noted accesses)) scope depth ts s).0 s.0.space (in_turn (meaning (noted accesses)) scope depth ts s).1.0.space
  notes_of_list scope depth ts s = explained_told accesses _ _ _ ((in_turn_explains (noted accesses) (meaning (noted accesses)) (meaning_explains (noted accesses)) scope depth ts).explained s)

  pub notes_of_call : (depth : ℕ) (p : List Seg) (body : List ℕ) (arguments : List Value) (s : State (WithNotes S) × ℕ) → TellsNotes (invoked (meaning (noted accesses)) depth p body arguments s).0 s.0.space (invoked (meaning (noted accesses)) depth p body arguments s).1.0.space
  notes_of_call depth p body arguments s = explained_told accesses _ _ _ ((invoked_explains (noted accesses) (meaning (noted accesses)) (meaning_explains (noted accesses)) depth p body arguments).explained s)

  pub notes_of_table : (bytes : List ℕ) (steps : ℕ) (w : State (WithNotes S)) → TellsNotes (loaded (noted accesses) bytes steps w).0 w.space (loaded (noted accesses) bytes steps w).1.space
  notes_of_table bytes steps w = explained_told accesses _ _ _ ((loaded_explains (noted accesses) bytes steps).explained w)

  pub notes_of_value : (p : List Seg) (arguments : List Value) (steps : ℕ) (w : State (WithNotes S)) → TellsNotes (evaluated (noted accesses) p arguments steps w).0 w.space (evaluated (noted accesses) p arguments steps w).1.space
  notes_of_value p arguments steps w = explained_told accesses _ _ _ ((evaluated_explains (noted accesses) p arguments steps).explained w)

  pub notes_of_answer : (p : List Seg) (arguments : List Given) (steps : ℕ) (w : State (WithNotes S)) → TellsNotes (answered (noted accesses) p arguments steps w).0 w.space (answered (noted accesses) p arguments steps w).1.space
  notes_of_answer p arguments steps w = explained_told accesses _ _ _ ((answered_explains (noted accesses) p arguments steps).explained w)

  pub notes_of_field_read : (r : Region) (f : FieldUnit) (s : WithNotes S) → TellsNotes (read_field (noted accesses) r f s).0 s (read_field (noted accesses) r f s).1
  notes_of_field_read r f s = explained_told accesses _ _ _ ((read_field_explains (noted accesses) r f).explained s)

  pub notes_of_field_written : (r : Region) (f : FieldUnit) (source : List ℕ) (s : WithNotes S) → TellsNotes (write_field (noted accesses) r f source s).0 s (write_field (noted accesses) r f source s).1
  notes_of_field_written r f source s = explained_told accesses _ _ _ ((write_field_explains (noted accesses) r f source).explained s)

pub ruleset space_faults_are_answers_of_the_last_access = (notes_of_term, notes_of_list, notes_of_call, notes_of_table, notes_of_value, notes_of_answer, notes_of_field_read, notes_of_field_written)
