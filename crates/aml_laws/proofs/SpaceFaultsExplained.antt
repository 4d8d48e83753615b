-- A refusal by a fault of the register space is what the last access answered.
use Rattle.std.specs.Prelude.{◌≡◌, ◌≢◌, ℕ, List, Err}
use Rattle.std.proofs.Common.{ap, subst}
use Rattle.ar_space.specs.declared.refusal.SpaceFault.{SpaceFault}
use Rattle.ar_space.specs.declared.refusal.Refusal.TheVariants.{Space}
use Rattle.ar_space.specs.Accesses.{Accesses}
use Rattle.ar_space.specs.Outcome.{Outcome}
use Rattle.aml_path.specs.declared.segment.Seg.{Seg}
use Rattle.aml_grammar.specs.Tree.{Trees}
use Rattle.aml_objects.specs.declared.value.Value.{Value}
use Rattle.aml_objects.specs.declared.entry.FieldUnit.{FieldUnit}
use Rattle.aml_fields.specs.declared.region.Region.{Region}
use Rattle.aml_fields.specs.Regions.{read_field, write_field}
use Rattle.aml_world.specs.state.Given.{Given}
use Rattle.aml_world.specs.state.State.{State}
use Rattle.aml_meaning.specs.Tasks.{Task, in_turn}
use Rattle.aml_meaning.specs.Calls.{invoked}
use Rattle.aml_meaning.specs.Meaning.{meaning}
use Rattle.aml_meaning.specs.Calling.{loaded, evaluated, answered}
use Rattle.aml_laws.specs.SpaceFaults.{Faults, read, written, LastFaults, NeverFaults}
use Rattle.aml_laws.proofs.FaultsOfChanges.{Explained, read_field_explains, write_field_explains}
use Rattle.aml_laws.proofs.FaultsOfCalls.{in_turn_explains, invoked_explains}
use Rattle.aml_laws.proofs.FaultsOfTerms.{meaning_explains}
use Rattle.aml_laws.proofs.FaultsOfEvaluations.{loaded_explains, evaluated_explains, answered_explains}

module _ {S : Type 0} (accesses : Accesses S) where
  pub fault_explained : {A : Type 0} (x : Outcome A) (s t : S) (fault : SpaceFault) → Explained accesses x s t → x ≡ Err (Space fault) → LastFaults accesses fault s t
  fault_explained x s t fault h e = subst (λ y. Explained accesses y s t) e h

  pub fault_of_term : (fault : SpaceFault) (t : Task) (s : State S × ℕ) → (meaning accesses t s).0 ≡ Err (Space fault) → LastFaults accesses fault s.0.space (meaning accesses t s).1.0.space
  fault_of_term fault t s e = fault_explained (meaning accesses t s).0 s.0.space _ fault ((meaning_explains accesses t).explained s) e

  pub fault_of_list : (fault : SpaceFault) (scope : List Seg) (depth : ℕ) (ts : Trees) (s : State S × ℕ) → (in_turn (meaning accesses) scope depth ts s).0 ≡ Err (Space fault) → LastFaults accesses fault s.0.space (in_turn (meaning accesses) scope depth ts s).1.0.space
  fault_of_list fault scope depth ts s e = fault_explained (in_turn (meaning accesses) scope depth ts s).0 s.0.space _ fault ((in_turn_explains accesses (meaning accesses) (meaning_explains accesses) scope depth ts).explained s) e

  pub fault_of_call : (fault : SpaceFault) (depth : ℕ) (p : List Seg) (body : List ℕ) (arguments : List Value) (s : State S × ℕ) → (invoked (meaning accesses) depth p body arguments s).0 ≡ Err (Space fault) → LastFaults accesses fault s.0.space (invoked (meaning accesses) depth p body arguments s).1.0.space
  fault_of_call fault depth p body arguments s e = fault_explained (invoked (meaning accesses) depth p body arguments s).0 s.0.space _ fault ((invoked_explains accesses (meaning accesses) (meaning_explains accesses) depth p body arguments).explained s) e

  pub fault_of_table : (fault : SpaceFault) (bytes : List ℕ) (steps : ℕ) (w : State S) → (loaded accesses bytes steps w).0 ≡ Err (Space fault) → LastFaults accesses fault w.space (loaded accesses bytes steps w).1.space
  fault_of_table fault bytes steps w e = fault_explained (loaded accesses bytes steps w).0 w.space _ fault ((loaded_explains accesses bytes steps).explained w) e

  pub fault_of_value : (fault : SpaceFault) (p : List Seg) (arguments : List Value) (steps : ℕ) (w : State S) → (evaluated accesses p arguments steps w).0 ≡ Err (Space fault) → LastFaults accesses fault w.space (evaluated accesses p arguments steps w).1.space
  fault_of_value fault p arguments steps w e = fault_explained (evaluated accesses p arguments steps w).0 w.space _ fault ((evaluated_explains accesses p arguments steps).explained w) e

  pub fault_of_answer : (fault : SpaceFault) (p : List Seg) (arguments : List Given) (steps : ℕ) (w : State S) → (answered accesses p arguments steps w).0 ≡ Err (Space fault) → LastFaults accesses fault w.space (answered accesses p arguments steps w).1.space
  fault_of_answer fault p arguments steps w e = fault_explained (answered accesses p arguments steps w).0 w.space _ fault ((answered_explains accesses p arguments steps).explained w) e

  pub fault_of_field_read : (fault : SpaceFault) (r : Region) (f : FieldUnit) (s : S) → (read_field accesses r f s).0 ≡ Err (Space fault) → LastFaults accesses fault s (read_field accesses r f s).1
  fault_of_field_read fault r f s e = fault_explained (read_field accesses r f s).0 s _ fault ((read_field_explains accesses r f).explained s) e

  pub fault_of_field_written : (fault : SpaceFault) (r : Region) (f : FieldUnit) (source : List ℕ) (s : S) → (write_field accesses r f source s).0 ≡ Err (Space fault) → LastFaults accesses fault s (write_field accesses r f source s).1
  fault_of_field_written fault r f source s e = fault_explained (write_field accesses r f source s).0 s _ fault ((write_field_explains accesses r f source).explained s) e

  -- ---- a space that never answers with the fault

  no_such_access : (fault : SpaceFault) (s t : S) → NeverFaults accesses fault → Faults accesses fault s t → ⊥
  no_such_access fault s t never (read place width e) = never.reads s place width (ap (λ a. a.0) e)
  no_such_access fault s t never (written place width value e) = never.writes s place width value (ap (λ a. a.0) e)

  pub never_of_table : (fault : SpaceFault) (bytes : List ℕ) (steps : ℕ) (w : State S) → NeverFaults accesses fault → (loaded accesses bytes steps w).0 ≢ Err (Space fault)
  never_of_table fault bytes steps w never e = let h = fault_of_table fault bytes steps w e in no_such_access fault h.last _ never h.faults

  pub never_of_value : (fault : SpaceFault) (p : List Seg) (arguments : List Value) (steps : ℕ) (w : State S) → NeverFaults accesses fault → (evaluated accesses p arguments steps w).0 ≢ Err (Space fault)
  never_of_value fault p arguments steps w never e = let h = fault_of_value fault p arguments steps w e in no_such_access fault h.last _ never h.faults

  pub never_of_answer : (fault : SpaceFault) (p : List Seg) (arguments : List Given) (steps : ℕ) (w : State S) → NeverFaults accesses fault → (answered accesses p arguments steps w).0 ≢ Err (Space fault)
  never_of_answer fault p arguments steps w never e = let h = fault_of_answer fault p arguments steps w e in no_such_access fault h.last _ never h.faults

pub ruleset space_faults_are_reached_by_accesses = (fault_of_term, fault_of_list, fault_of_call, fault_of_table, fault_of_value, fault_of_answer, fault_of_field_read, fault_of_field_written)

pub ruleset faults_that_no_access_answers_are_never_refused = (never_of_table, never_of_value, never_of_answer)
