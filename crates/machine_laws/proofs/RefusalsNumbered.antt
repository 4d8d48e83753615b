-- Each refusal is told by the number that is written out for it.
use Rattle.std.specs.Prelude.{ℕ}
use Rattle.ar_space.specs.Numbers.{number_of}
use Rattle.ar_space.specs.declared.refusal.EvaluationFault.TheVariants as evaluation
use Rattle.ar_space.specs.declared.refusal.EvaluationFault.{EvaluationFault}
use Rattle.ar_space.specs.declared.refusal.FieldFault.TheVariants as field
use Rattle.ar_space.specs.declared.refusal.FieldFault.{FieldFault}
use Rattle.ar_space.specs.declared.refusal.InputFault.TheVariants as input
use Rattle.ar_space.specs.declared.refusal.InputFault.{InputFault}
use Rattle.ar_space.specs.declared.refusal.MachineFault.TheVariants as machine
use Rattle.ar_space.specs.declared.refusal.MachineFault.{MachineFault}
use Rattle.ar_space.specs.declared.refusal.NameFault.TheVariants as name
use Rattle.ar_space.specs.declared.refusal.NameFault.{NameFault}
use Rattle.ar_space.specs.declared.refusal.NamespaceFault.TheVariants as namespace
use Rattle.ar_space.specs.declared.refusal.NamespaceFault.{NamespaceFault}
use Rattle.ar_space.specs.declared.refusal.Refusal.TheVariants as refusal
use Rattle.ar_space.specs.declared.refusal.Refusal.{Refusal}
use Rattle.ar_space.specs.declared.refusal.ReportFault.TheVariants as report
use Rattle.ar_space.specs.declared.refusal.ReportFault.{ReportFault}
use Rattle.ar_space.specs.declared.refusal.ResourceFault.TheVariants as resource
use Rattle.ar_space.specs.declared.refusal.ResourceFault.{ResourceFault}
use Rattle.ar_space.specs.declared.refusal.RoutingFault.TheVariants as routing
use Rattle.ar_space.specs.declared.refusal.RoutingFault.{RoutingFault}
use Rattle.ar_space.specs.declared.refusal.RoutingTableFault.TheVariants as entry
use Rattle.ar_space.specs.declared.refusal.RoutingTableFault.{RoutingTableFault}
use Rattle.ar_space.specs.declared.refusal.SpaceFault.TheVariants as space
use Rattle.ar_space.specs.declared.refusal.SpaceFault.{SpaceFault}
use Rattle.ar_space.specs.declared.refusal.TableFault.TheVariants as table
use Rattle.ar_space.specs.declared.refusal.TableFault.{TableFault}
use Rattle.ar_space.specs.declared.refusal.TermFault.TheVariants as term
use Rattle.ar_space.specs.declared.refusal.TermFault.{TermFault}
use Rattle.ar_space.specs.declared.refusal.ValueFault.TheVariants as value
use Rattle.ar_space.specs.declared.refusal.ValueFault.{ValueFault}
use Rattle.machine_laws.specs.RefusalNumbers.{IsNumbered, no_register, device, bad_signature, bad_checksum, bad_length, not_in_image, no_fadt, no_dsdt, bad_name, above_root, bad_opcode, bad_package_length, truncated, too_deep, not_in_body, wrong_type, empty_value, divide_by_zero, field_limit, region_limit, exists, not_found, out_of_steps, call_depth, arity_changed, unsupported, space_kind, dead_reference, no_value, fatal, deep_pci, not_acquired, index_limit, object_limit, depth_setting, spent, out_of_memory, edge, exclusive, dependent, several, descriptor, no_end, no_interrupt, source, not_package, bad_entry, bad_pin, not_a_link, source_index, mixed_polarity, no_offer, too_many, avoided, bad_line, machine_line, read_fault, write_fault, text_too_long}

told_space : (fault : SpaceFault) → IsNumbered (refusal.Space fault) (number_of (refusal.Space fault))
told_space space.NoRegister = no_register
told_space space.Device = device

told_table : (fault : TableFault) → IsNumbered (refusal.Table fault) (number_of (refusal.Table fault))
told_table table.BadSignature = bad_signature
told_table table.BadChecksum = bad_checksum
told_table table.BadLength = bad_length
told_table table.NotInImage = not_in_image
told_table table.NoFadt = no_fadt
told_table table.NoDsdt = no_dsdt

told_name : (fault : NameFault) → IsNumbered (refusal.Name fault) (number_of (refusal.Name fault))
told_name name.BadName = bad_name
told_name name.AboveRoot = above_root

told_term : (fault : TermFault) (offset : ℕ) → IsNumbered (refusal.Term fault offset) (number_of (refusal.Term fault offset))
told_term term.BadOpcode offset = bad_opcode offset
told_term term.BadPkgLength offset = bad_package_length offset
told_term term.Truncated offset = truncated offset
told_term term.TooDeep offset = too_deep offset
told_term term.NotInBody offset = not_in_body offset

told_value : (fault : ValueFault) → IsNumbered (refusal.Value fault) (number_of (refusal.Value fault))
told_value value.WrongType = wrong_type
told_value value.EmptyValue = empty_value
told_value value.DivideByZero = divide_by_zero

told_field : (fault : FieldFault) → IsNumbered (refusal.Field fault) (number_of (refusal.Field fault))
told_field field.FieldLimit = field_limit
told_field field.RegionLimit = region_limit

told_namespace : (fault : NamespaceFault) → IsNumbered (refusal.Namespace fault) (number_of (refusal.Namespace fault))
told_namespace namespace.Exists = exists
told_namespace namespace.NotFound = not_found

told_evaluation : (fault : EvaluationFault) → IsNumbered (refusal.Evaluation fault) (number_of (refusal.Evaluation fault))
told_evaluation evaluation.OutOfSteps = out_of_steps
told_evaluation evaluation.CallDepth = call_depth
told_evaluation evaluation.ArityChanged = arity_changed
told_evaluation (evaluation.Unsupported op) = unsupported op
told_evaluation evaluation.SpaceKind = space_kind
told_evaluation evaluation.DeadReference = dead_reference
told_evaluation evaluation.NoValue = no_value
told_evaluation evaluation.Fatal = fatal
told_evaluation evaluation.DeepPci = deep_pci
told_evaluation evaluation.NotAcquired = not_acquired
told_evaluation evaluation.IndexLimit = index_limit
told_evaluation evaluation.ObjectLimit = object_limit
told_evaluation evaluation.DepthSetting = depth_setting

told_machine : (fault : MachineFault) → IsNumbered (refusal.Machine fault) (number_of (refusal.Machine fault))
told_machine machine.Spent = spent

told_resource : (fault : ResourceFault) → IsNumbered (refusal.Resource fault) (number_of (refusal.Resource fault))
told_resource resource.Edge = edge
told_resource resource.Exclusive = exclusive
told_resource resource.Dependent = dependent
told_resource resource.Several = several
told_resource (resource.Descriptor tag) = descriptor tag
told_resource resource.NoEnd = no_end
told_resource resource.NoInterrupt = no_interrupt
told_resource resource.Source = source

told_entry : (fault : RoutingTableFault) → IsNumbered (refusal.RoutingTable fault) (number_of (refusal.RoutingTable fault))
told_entry entry.NotPackage = not_package
told_entry entry.BadEntry = bad_entry
told_entry entry.BadPin = bad_pin
told_entry entry.NotALink = not_a_link
told_entry entry.SourceIndex = source_index

told_routing : (fault : RoutingFault) → IsNumbered (refusal.Routing fault) (number_of (refusal.Routing fault))
told_routing routing.MixedPolarity = mixed_polarity
told_routing (routing.NoOffer path) = no_offer path
told_routing routing.TooMany = too_many
told_routing (routing.Avoided path) = avoided path

told_report : (fault : ReportFault) → IsNumbered (refusal.Report fault) (number_of (refusal.Report fault))
told_report (report.BadLine line) = bad_line line

told_input : (fault : InputFault) → IsNumbered (refusal.Input fault) (number_of (refusal.Input fault))
told_input (input.MachineLine line) = machine_line line
told_input input.ReadFault = read_fault
told_input input.WriteFault = write_fault
told_input input.TextTooLong = text_too_long

pub told_by_number : (e : Refusal) → IsNumbered e (number_of e)
told_by_number (refusal.Space fault) = told_space fault
told_by_number (refusal.Table fault) = told_table fault
told_by_number (refusal.Name fault) = told_name fault
told_by_number (refusal.Term fault offset) = told_term fault offset
told_by_number (refusal.Value fault) = told_value fault
told_by_number (refusal.Field fault) = told_field fault
told_by_number (refusal.Namespace fault) = told_namespace fault
told_by_number (refusal.Evaluation fault) = told_evaluation fault
told_by_number (refusal.Machine fault) = told_machine fault
told_by_number refusal.OutOfMemory = out_of_memory
told_by_number (refusal.Resource fault) = told_resource fault
told_by_number (refusal.RoutingTable fault) = told_entry fault
told_by_number (refusal.Routing fault) = told_routing fault
told_by_number (refusal.Report fault) = told_report fault
told_by_number (refusal.Input fault) = told_input fault
