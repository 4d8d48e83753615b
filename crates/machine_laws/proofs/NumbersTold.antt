-- The number of a refusal tells of the accesses what the refusal does.
use Rattle.std.specs.Prelude.{◌≡◌, ℕ, List, Option, None, Bool, true, false, Ok, Err, refl}
use Rattle.std.proofs.Common.{subst, sym}
use Rattle.ar_space.specs.declared.refusal.SpaceFault.{SpaceFault}
use Rattle.ar_space.specs.declared.refusal.SpaceFault.TheVariants.{NoRegister, Device}
use Rattle.ar_space.specs.declared.refusal.TableFault.{TableFault}
use Rattle.ar_space.specs.declared.refusal.NameFault.{NameFault}
use Rattle.ar_space.specs.declared.refusal.TermFault.{TermFault}
use Rattle.ar_space.specs.declared.refusal.ValueFault.{ValueFault}
use Rattle.ar_space.specs.declared.refusal.FieldFault.{FieldFault}
use Rattle.ar_space.specs.declared.refusal.NamespaceFault.{NamespaceFault}
use Rattle.ar_space.specs.declared.refusal.EvaluationFault.{EvaluationFault}
use Rattle.ar_space.specs.declared.refusal.MachineFault.{MachineFault}
use Rattle.ar_space.specs.declared.refusal.ResourceFault.{ResourceFault}
use Rattle.ar_space.specs.declared.refusal.RoutingTableFault.{RoutingTableFault}
use Rattle.ar_space.specs.declared.refusal.RoutingFault.{RoutingFault}
use Rattle.ar_space.specs.declared.refusal.ReportFault.{ReportFault}
use Rattle.ar_space.specs.declared.refusal.InputFault.{InputFault}
use Rattle.ar_space.specs.declared.refusal.TableFault.TheVariants.{BadSignature}
use Rattle.ar_space.specs.declared.refusal.NameFault.TheVariants.{BadName}
use Rattle.ar_space.specs.declared.refusal.TermFault.TheVariants.{BadOpcode}
use Rattle.ar_space.specs.declared.refusal.ValueFault.TheVariants.{WrongType}
use Rattle.ar_space.specs.declared.refusal.FieldFault.TheVariants.{FieldLimit}
use Rattle.ar_space.specs.declared.refusal.NamespaceFault.TheVariants.{Exists}
use Rattle.ar_space.specs.declared.refusal.EvaluationFault.TheVariants.{OutOfSteps}
use Rattle.ar_space.specs.declared.refusal.MachineFault.TheVariants.{Spent}
use Rattle.ar_space.specs.declared.refusal.ResourceFault.TheVariants.{Edge}
use Rattle.ar_space.specs.declared.refusal.RoutingTableFault.TheVariants.{NotPackage}
use Rattle.ar_space.specs.declared.refusal.RoutingFault.TheVariants.{MixedPolarity}
use Rattle.ar_space.specs.declared.refusal.ReportFault.TheVariants.{BadLine}
use Rattle.ar_space.specs.declared.refusal.InputFault.TheVariants.{ReadFault}
use Rattle.ar_space.specs.declared.refusal.Refusal.{Refusal}
use Rattle.ar_space.specs.declared.refusal.Refusal.TheVariants as refusal
use Rattle.ar_space.specs.Numbers.{number_of, table_fault_number, name_fault_number, term_fault_number, value_fault_number, field_fault_number, namespace_fault_number, evaluation_fault_number, machine_fault_number, resource_fault_number, routing_table_fault_number, routing_fault_number, report_fault_number, input_fault_number}
use Rattle.ar_space.specs.Outcome.{Outcome}
use Rattle.recorded_space.specs.declared.exchange.Exchange.{Exchange}
use Rattle.aml_laws.specs.Noted.{AllAnswered, RefusalTells, Tells}
use Rattle.acpi_configure.specs.Settling.{set_told, state_told}
use Rattle.machine_laws.specs.ReportedNotes.{fault_numbered, FaultTells, NumberTells, OutcomeTells, StateTells}

-- ---- numbers of no fault of the register space

of_table : (fault : TableFault) → fault_numbered (table_fault_number fault) ≡ None
of_table BadSignature = refl
of_table _ = refl

of_name : (fault : NameFault) → fault_numbered (name_fault_number fault) ≡ None
of_name BadName = refl
of_name _ = refl

of_term : (fault : TermFault) → fault_numbered (term_fault_number fault) ≡ None
of_term BadOpcode = refl
of_term _ = refl

of_value : (fault : ValueFault) → fault_numbered (value_fault_number fault) ≡ None
of_value WrongType = refl
of_value _ = refl

of_field : (fault : FieldFault) → fault_numbered (field_fault_number fault) ≡ None
of_field FieldLimit = refl
of_field _ = refl

of_namespace : (fault : NamespaceFault) → fault_numbered (namespace_fault_number fault) ≡ None
of_namespace Exists = refl
of_namespace _ = refl

of_evaluation : (fault : EvaluationFault) → fault_numbered (evaluation_fault_number fault) ≡ None
of_evaluation OutOfSteps = refl
of_evaluation _ = refl

of_machine : (fault : MachineFault) → fault_numbered (machine_fault_number fault) ≡ None
of_machine Spent = refl

of_resource : (fault : ResourceFault) → fault_numbered (resource_fault_number fault) ≡ None
of_resource Edge = refl
of_resource _ = refl

of_routing_table : (fault : RoutingTableFault) → fault_numbered (routing_table_fault_number fault) ≡ None
of_routing_table NotPackage = refl
of_routing_table _ = refl

of_routing : (fault : RoutingFault) → fault_numbered (routing_fault_number fault) ≡ None
of_routing MixedPolarity = refl
of_routing _ = refl

of_report : (fault : ReportFault) → fault_numbered (report_fault_number fault) ≡ None
of_report (BadLine line) = refl

of_input : (fault : InputFault) → fault_numbered (input_fault_number fault) ≡ None
of_input ReadFault = refl
of_input _ = refl

-- ---- what is told

none_told : (n : ℕ) (notes : List Exchange) → fault_numbered n ≡ None → AllAnswered notes → NumberTells n notes
none_told n notes none all = subst (λ (fault : Option SpaceFault). FaultTells fault notes) (sym none) all

number_tells : (e : Refusal) (notes : List Exchange) → RefusalTells e notes → NumberTells (number_of e) notes
number_tells (refusal.Space NoRegister) notes told = told
number_tells (refusal.Space Device) notes told = told
number_tells (refusal.Table fault) notes told = none_told (table_fault_number fault) notes (of_table fault) told
number_tells (refusal.Name fault) notes told = none_told (name_fault_number fault) notes (of_name fault) told
number_tells (refusal.Term fault offset) notes told = none_told (term_fault_number fault) notes (of_term fault) told
number_tells (refusal.Value fault) notes told = none_told (value_fault_number fault) notes (of_value fault) told
number_tells (refusal.Field fault) notes told = none_told (field_fault_number fault) notes (of_field fault) told
number_tells (refusal.Namespace fault) notes told = none_told (namespace_fault_number fault) notes (of_namespace fault) told
number_tells (refusal.Evaluation fault) notes told = none_told (evaluation_fault_number fault) notes (of_evaluation fault) told
number_tells (refusal.Machine fault) notes told = none_told (machine_fault_number fault) notes (of_machine fault) told
number_tells (refusal.Resource fault) notes told = none_told (resource_fault_number fault) notes (of_resource fault) told
number_tells (refusal.RoutingTable fault) notes told = none_told (routing_table_fault_number fault) notes (of_routing_table fault) told
number_tells (refusal.Routing fault) notes told = none_told (routing_fault_number fault) notes (of_routing fault) told
number_tells (refusal.Report fault) notes told = none_told (report_fault_number fault) notes (of_report fault) told
number_tells (refusal.Input fault) notes told = none_told (input_fault_number fault) notes (of_input fault) told
number_tells refusal.OutOfMemory notes told = told

pub set_tells : (r : Outcome Bool) (notes : List Exchange) → Tells r notes → OutcomeTells (set_told r) notes
set_tells (Ok true) notes told = told
set_tells (Ok false) notes told = told
set_tells (Err e) notes told = number_tells e notes told

pub state_tells : (r : Outcome (Option (List ℕ))) (notes : List Exchange) → Tells r notes → StateTells (state_told r) notes
state_tells (Ok now) notes told = told
state_tells (Err e) notes told = number_tells e notes told
