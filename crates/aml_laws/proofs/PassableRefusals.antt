-- Which refusals are passed over, by their numbers.
use Rattle.std.specs.Prelude.{◌≡◌, ◌==◌, refl}
use Rattle.std.specs.List.{list_any}
use Rattle.ar_space.specs.declared.refusal.EvaluationFault.TheVariants as evaluations
use Rattle.ar_space.specs.declared.refusal.FieldFault.TheVariants as fields
use Rattle.ar_space.specs.declared.refusal.InputFault.TheVariants as inputs
use Rattle.ar_space.specs.declared.refusal.MachineFault.TheVariants as machines
use Rattle.ar_space.specs.declared.refusal.NameFault.TheVariants as names
use Rattle.ar_space.specs.declared.refusal.NamespaceFault.TheVariants as namespaces
use Rattle.ar_space.specs.declared.refusal.Refusal.{Refusal}
use Rattle.ar_space.specs.declared.refusal.Refusal.TheVariants as refusals
use Rattle.ar_space.specs.declared.refusal.ReportFault.TheVariants as reports
use Rattle.ar_space.specs.declared.refusal.ResourceFault.TheVariants as resources
use Rattle.ar_space.specs.declared.refusal.RoutingFault.TheVariants as routings
use Rattle.ar_space.specs.declared.refusal.RoutingTableFault.TheVariants as routing_tables
use Rattle.ar_space.specs.declared.refusal.SpaceFault.TheVariants as spaces
use Rattle.ar_space.specs.declared.refusal.TableFault.TheVariants as tables
use Rattle.ar_space.specs.declared.refusal.TermFault.TheVariants as terms
use Rattle.ar_space.specs.declared.refusal.ValueFault.TheVariants as values
use Rattle.ar_space.specs.Numbers.{number_of}
use Rattle.aml_world.specs.state.PassedOver.{is_passable}
use Rattle.aml_laws.specs.PassedNumbers.{passed_numbers}

pub passed_by_number : (e : Refusal) → is_passable e ≡ list_any (λ n. n == number_of e) passed_numbers
passed_by_number (refusals.Space spaces.NoRegister) = refl
passed_by_number (refusals.Space spaces.Device) = refl
passed_by_number (refusals.Table tables.BadSignature) = refl
passed_by_number (refusals.Table tables.BadChecksum) = refl
passed_by_number (refusals.Table tables.BadLength) = refl
passed_by_number (refusals.Table tables.NotInImage) = refl
passed_by_number (refusals.Table tables.NoFadt) = refl
passed_by_number (refusals.Table tables.NoDsdt) = refl
passed_by_number (refusals.Name names.BadName) = refl
passed_by_number (refusals.Name names.AboveRoot) = refl
passed_by_number (refusals.Term terms.BadOpcode offset) = refl
passed_by_number (refusals.Term terms.BadPkgLength offset) = refl
passed_by_number (refusals.Term terms.Truncated offset) = refl
passed_by_number (refusals.Term terms.TooDeep offset) = refl
passed_by_number (refusals.Term terms.NotInBody offset) = refl
passed_by_number (refusals.Value values.WrongType) = refl
passed_by_number (refusals.Value values.EmptyValue) = refl
passed_by_number (refusals.Value values.DivideByZero) = refl
passed_by_number (refusals.Field fields.FieldLimit) = refl
passed_by_number (refusals.Field fields.RegionLimit) = refl
passed_by_number (refusals.Namespace namespaces.Exists) = refl
passed_by_number (refusals.Namespace namespaces.NotFound) = refl
passed_by_number (refusals.Evaluation evaluations.OutOfSteps) = refl
passed_by_number (refusals.Evaluation evaluations.CallDepth) = refl
passed_by_number (refusals.Evaluation evaluations.ArityChanged) = refl
passed_by_number (refusals.Evaluation (evaluations.Unsupported op)) = refl
passed_by_number (refusals.Evaluation evaluations.SpaceKind) = refl
passed_by_number (refusals.Evaluation evaluations.DeadReference) = refl
passed_by_number (refusals.Evaluation evaluations.NoValue) = refl
passed_by_number (refusals.Evaluation evaluations.Fatal) = refl
passed_by_number (refusals.Evaluation evaluations.DeepPci) = refl
passed_by_number (refusals.Evaluation evaluations.NotAcquired) = refl
passed_by_number (refusals.Evaluation evaluations.IndexLimit) = refl
passed_by_number (refusals.Evaluation evaluations.ObjectLimit) = refl
passed_by_number (refusals.Evaluation evaluations.DepthSetting) = refl
passed_by_number (refusals.Machine machines.Spent) = refl
passed_by_number (refusals.Resource resources.Edge) = refl
passed_by_number (refusals.Resource resources.Exclusive) = refl
passed_by_number (refusals.Resource resources.Dependent) = refl
passed_by_number (refusals.Resource resources.Several) = refl
passed_by_number (refusals.Resource (resources.Descriptor tag)) = refl
passed_by_number (refusals.Resource resources.NoEnd) = refl
passed_by_number (refusals.Resource resources.NoInterrupt) = refl
passed_by_number (refusals.Resource resources.Source) = refl
passed_by_number (refusals.RoutingTable routing_tables.NotPackage) = refl
passed_by_number (refusals.RoutingTable routing_tables.BadEntry) = refl
passed_by_number (refusals.RoutingTable routing_tables.BadPin) = refl
passed_by_number (refusals.RoutingTable routing_tables.NotALink) = refl
passed_by_number (refusals.RoutingTable routing_tables.SourceIndex) = refl
passed_by_number (refusals.Routing routings.MixedPolarity) = refl
passed_by_number (refusals.Routing (routings.NoOffer path)) = refl
passed_by_number (refusals.Routing routings.TooMany) = refl
passed_by_number (refusals.Routing (routings.Avoided path)) = refl
passed_by_number (refusals.Report (reports.BadLine line)) = refl
passed_by_number (refusals.Input (inputs.MachineLine line)) = refl
passed_by_number (refusals.Input inputs.ReadFault) = refl
passed_by_number (refusals.Input inputs.WriteFault) = refl
passed_by_number (refusals.Input inputs.TextTooLong) = refl
passed_by_number refusals.OutOfMemory = refl
