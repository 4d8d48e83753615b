-- The numbers by which refusals are told, written out.
use Rattle.std.specs.Prelude.{ℕ}
use Rattle.ar_space.specs.declared.path_text.PathText.{PathText}
use Rattle.ar_space.specs.declared.refusal.EvaluationFault.TheVariants as evaluation
use Rattle.ar_space.specs.declared.refusal.FieldFault.TheVariants as field
use Rattle.ar_space.specs.declared.refusal.InputFault.TheVariants as input
use Rattle.ar_space.specs.declared.refusal.MachineFault.TheVariants as machine
use Rattle.ar_space.specs.declared.refusal.NameFault.TheVariants as name
use Rattle.ar_space.specs.declared.refusal.NamespaceFault.TheVariants as namespace
use Rattle.ar_space.specs.declared.refusal.Refusal.{Refusal}
use Rattle.ar_space.specs.declared.refusal.Refusal.TheVariants as refusal
use Rattle.ar_space.specs.declared.refusal.ReportFault.TheVariants as report
use Rattle.ar_space.specs.declared.refusal.ResourceFault.TheVariants as resource
use Rattle.ar_space.specs.declared.refusal.RoutingFault.TheVariants as routing
use Rattle.ar_space.specs.declared.refusal.RoutingTableFault.TheVariants as entry
use Rattle.ar_space.specs.declared.refusal.SpaceFault.TheVariants as space
use Rattle.ar_space.specs.declared.refusal.TableFault.TheVariants as table
use Rattle.ar_space.specs.declared.refusal.TermFault.TheVariants as term
use Rattle.ar_space.specs.declared.refusal.ValueFault.TheVariants as value

pub data IsNumbered : Refusal → ℕ → Type 0 where
  no_register : IsNumbered (refusal.Space space.NoRegister) 1
  device : IsNumbered (refusal.Space space.Device) 2
  bad_signature : IsNumbered (refusal.Table table.BadSignature) 10
  bad_checksum : IsNumbered (refusal.Table table.BadChecksum) 11
  bad_length : IsNumbered (refusal.Table table.BadLength) 12
  not_in_image : IsNumbered (refusal.Table table.NotInImage) 13
  no_fadt : IsNumbered (refusal.Table table.NoFadt) 14
  no_dsdt : IsNumbered (refusal.Table table.NoDsdt) 15
  bad_name : IsNumbered (refusal.Name name.BadName) 20
  above_root : IsNumbered (refusal.Name name.AboveRoot) 21
  bad_opcode : (offset : ℕ) → IsNumbered (refusal.Term term.BadOpcode offset) 30
  bad_package_length : (offset : ℕ) → IsNumbered (refusal.Term term.BadPkgLength offset) 31
  truncated : (offset : ℕ) → IsNumbered (refusal.Term term.Truncated offset) 32
  too_deep : (offset : ℕ) → IsNumbered (refusal.Term term.TooDeep offset) 33
  not_in_body : (offset : ℕ) → IsNumbered (refusal.Term term.NotInBody offset) 34
  wrong_type : IsNumbered (refusal.Value value.WrongType) 40
  empty_value : IsNumbered (refusal.Value value.EmptyValue) 41
  divide_by_zero : IsNumbered (refusal.Value value.DivideByZero) 42
  field_limit : IsNumbered (refusal.Field field.FieldLimit) 50
  region_limit : IsNumbered (refusal.Field field.RegionLimit) 51
  exists : IsNumbered (refusal.Namespace namespace.Exists) 60
  not_found : IsNumbered (refusal.Namespace namespace.NotFound) 61
  out_of_steps : IsNumbered (refusal.Evaluation evaluation.OutOfSteps) 70
  call_depth : IsNumbered (refusal.Evaluation evaluation.CallDepth) 71
  arity_changed : IsNumbered (refusal.Evaluation evaluation.ArityChanged) 72
  unsupported : (op : ℕ) → IsNumbered (refusal.Evaluation (evaluation.Unsupported op)) 73
  space_kind : IsNumbered (refusal.Evaluation evaluation.SpaceKind) 74
  dead_reference : IsNumbered (refusal.Evaluation evaluation.DeadReference) 75
  no_value : IsNumbered (refusal.Evaluation evaluation.NoValue) 76
  fatal : IsNumbered (refusal.Evaluation evaluation.Fatal) 77
  deep_pci : IsNumbered (refusal.Evaluation evaluation.DeepPci) 78
  not_acquired : IsNumbered (refusal.Evaluation evaluation.NotAcquired) 79
  index_limit : IsNumbered (refusal.Evaluation evaluation.IndexLimit) 80
  object_limit : IsNumbered (refusal.Evaluation evaluation.ObjectLimit) 81
  depth_setting : IsNumbered (refusal.Evaluation evaluation.DepthSetting) 144
  spent : IsNumbered (refusal.Machine machine.Spent) 90
  out_of_memory : IsNumbered refusal.OutOfMemory 99
  edge : IsNumbered (refusal.Resource resource.Edge) 100
  exclusive : IsNumbered (refusal.Resource resource.Exclusive) 101
  dependent : IsNumbered (refusal.Resource resource.Dependent) 102
  several : IsNumbered (refusal.Resource resource.Several) 103
  descriptor : (tag : ℕ) → IsNumbered (refusal.Resource (resource.Descriptor tag)) 104
  no_end : IsNumbered (refusal.Resource resource.NoEnd) 105
  no_interrupt : IsNumbered (refusal.Resource resource.NoInterrupt) 106
  source : IsNumbered (refusal.Resource resource.Source) 107
  not_package : IsNumbered (refusal.RoutingTable entry.NotPackage) 110
  bad_entry : IsNumbered (refusal.RoutingTable entry.BadEntry) 111
  bad_pin : IsNumbered (refusal.RoutingTable entry.BadPin) 112
  not_a_link : IsNumbered (refusal.RoutingTable entry.NotALink) 113
  source_index : IsNumbered (refusal.RoutingTable entry.SourceIndex) 114
  mixed_polarity : IsNumbered (refusal.Routing routing.MixedPolarity) 120
  no_offer : (path : PathText) → IsNumbered (refusal.Routing (routing.NoOffer path)) 121
  too_many : IsNumbered (refusal.Routing routing.TooMany) 122
  avoided : (path : PathText) → IsNumbered (refusal.Routing (routing.Avoided path)) 123
  bad_line : (line : ℕ) → IsNumbered (refusal.Report (report.BadLine line)) 130
  machine_line : (line : ℕ) → IsNumbered (refusal.Input (input.MachineLine line)) 140
  read_fault : IsNumbered (refusal.Input input.ReadFault) 141
  write_fault : IsNumbered (refusal.Input input.WriteFault) 142
  text_too_long : IsNumbered (refusal.Input input.TextTooLong) 143
