-- The lines of a failed read, of a failed write and of an input that is too long are those of no other refusal.
use Rattle.std.specs.Prelude.{◌≡◌, ℕ, List, take, drop, Option, Some, None, codes, refl, if◌then◌else◌}
use Rattle.std.proofs.Common.{ap, sym, ◌∙◌}
use Rattle.std.specs.Fmt.{digits}
use Rattle.std.specs.Str.{bytes_eq}
use Rattle.ar_space.specs.declared.refusal.Refusal.{Refusal}
use Rattle.ar_space.specs.declared.refusal.Refusal.TheVariants as refusal
use Rattle.ar_space.specs.declared.refusal.SpaceFault.{SpaceFault}
use Rattle.ar_space.specs.declared.refusal.SpaceFault.TheVariants.{NoRegister}
use Rattle.ar_space.specs.declared.refusal.TableFault.{TableFault}
use Rattle.ar_space.specs.declared.refusal.TableFault.TheVariants.{BadSignature}
use Rattle.ar_space.specs.declared.refusal.NameFault.{NameFault}
use Rattle.ar_space.specs.declared.refusal.NameFault.TheVariants.{BadName}
use Rattle.ar_space.specs.declared.refusal.TermFault.{TermFault}
use Rattle.ar_space.specs.declared.refusal.TermFault.TheVariants.{BadOpcode}
use Rattle.ar_space.specs.declared.refusal.ValueFault.{ValueFault}
use Rattle.ar_space.specs.declared.refusal.ValueFault.TheVariants.{WrongType}
use Rattle.ar_space.specs.declared.refusal.FieldFault.{FieldFault}
use Rattle.ar_space.specs.declared.refusal.FieldFault.TheVariants.{FieldLimit}
use Rattle.ar_space.specs.declared.refusal.NamespaceFault.{NamespaceFault}
use Rattle.ar_space.specs.declared.refusal.NamespaceFault.TheVariants.{Exists}
use Rattle.ar_space.specs.declared.refusal.EvaluationFault.{EvaluationFault}
use Rattle.ar_space.specs.declared.refusal.EvaluationFault.TheVariants.{OutOfSteps}
use Rattle.ar_space.specs.declared.refusal.MachineFault.{MachineFault}
use Rattle.ar_space.specs.declared.refusal.MachineFault.TheVariants.{Spent}
use Rattle.ar_space.specs.declared.refusal.ResourceFault.{ResourceFault}
use Rattle.ar_space.specs.declared.refusal.ResourceFault.TheVariants.{Edge}
use Rattle.ar_space.specs.declared.refusal.RoutingTableFault.{RoutingTableFault}
use Rattle.ar_space.specs.declared.refusal.RoutingTableFault.TheVariants.{NotPackage}
use Rattle.ar_space.specs.declared.refusal.RoutingFault.{RoutingFault}
use Rattle.ar_space.specs.declared.refusal.RoutingFault.TheVariants.{MixedPolarity}
use Rattle.ar_space.specs.declared.refusal.ReportFault.{ReportFault}
use Rattle.ar_space.specs.declared.refusal.ReportFault.TheVariants.{BadLine}
use Rattle.ar_space.specs.declared.refusal.InputFault.{InputFault}
use Rattle.ar_space.specs.declared.refusal.InputFault.TheVariants.{MachineLine, ReadFault, WriteFault, TextTooLong}
use Rattle.acpiroute_shell.specs.ErrorLines.{error_line}

-- which of the three a line tells, by the digits behind `refused `
abbrev by_digits : List ℕ → Option InputFault
by_digits number = if bytes_eq number (codes "141") then Some ReadFault else if bytes_eq number (codes "142") then Some WriteFault else if bytes_eq number (codes "143") then Some TextTooLong else None

abbrev told_on : List ℕ → Option InputFault
told_on line = by_digits (take 3 (drop 8 line))

of_space : (fault : SpaceFault) → told_on (error_line (refusal.Space fault)) ≡ None
unfolding digits
of_space NoRegister = refl
of_space _ = refl

of_table : (fault : TableFault) → told_on (error_line (refusal.Table fault)) ≡ None
unfolding digits
of_table BadSignature = refl
of_table _ = refl

of_name : (fault : NameFault) → told_on (error_line (refusal.Name fault)) ≡ None
unfolding digits
of_name BadName = refl
of_name _ = refl

of_term : (fault : TermFault) (offset : ℕ) → told_on (error_line (refusal.Term fault offset)) ≡ None
unfolding digits
of_term BadOpcode offset = refl
of_term _ offset = refl

of_value : (fault : ValueFault) → told_on (error_line (refusal.Value fault)) ≡ None
unfolding digits
of_value WrongType = refl
of_value _ = refl

of_field : (fault : FieldFault) → told_on (error_line (refusal.Field fault)) ≡ None
unfolding digits
of_field FieldLimit = refl
of_field _ = refl

of_namespace : (fault : NamespaceFault) → told_on (error_line (refusal.Namespace fault)) ≡ None
unfolding digits
of_namespace Exists = refl
of_namespace _ = refl

of_evaluation : (fault : EvaluationFault) → told_on (error_line (refusal.Evaluation fault)) ≡ None
unfolding digits
of_evaluation OutOfSteps = refl
of_evaluation _ = refl

of_machine : (fault : MachineFault) → told_on (error_line (refusal.Machine fault)) ≡ None
unfolding digits
of_machine Spent = refl

of_resource : (fault : ResourceFault) → told_on (error_line (refusal.Resource fault)) ≡ None
unfolding digits
of_resource Edge = refl
of_resource _ = refl

of_routing_table : (fault : RoutingTableFault) → told_on (error_line (refusal.RoutingTable fault)) ≡ None
unfolding digits
of_routing_table NotPackage = refl
of_routing_table _ = refl

of_routing : (fault : RoutingFault) → told_on (error_line (refusal.Routing fault)) ≡ None
unfolding digits
of_routing MixedPolarity = refl
of_routing _ = refl

of_report : (fault : ReportFault) → told_on (error_line (refusal.Report fault)) ≡ None
unfolding digits
of_report (BadLine line) = refl

of_bad_line : (n : ℕ) → told_on (error_line (refusal.Input (MachineLine n))) ≡ None
unfolding digits
of_bad_line n = refl

of_memory : told_on (error_line refusal.OutOfMemory) ≡ None
unfolding digits
of_memory = refl

read_told : told_on (error_line (refusal.Input ReadFault)) ≡ Some ReadFault
unfolding digits
read_told = refl

write_told : told_on (error_line (refusal.Input WriteFault)) ≡ Some WriteFault
unfolding digits
write_told = refl

length_told : told_on (error_line (refusal.Input TextTooLong)) ≡ Some TextTooLong
unfolding digits
length_told = refl

module _ (stream : InputFault) where
  no_other : (o : Option InputFault) (r : Refusal) → o ≡ None → o ≡ Some stream → r ≡ refusal.Input stream
  no_other o r none some = absurd (cc (sym none ∙ some))

  same_fault : (o : Option InputFault) (fault : InputFault) → o ≡ Some fault → o ≡ Some stream → refusal.Input fault ≡ refusal.Input stream
  same_fault o fault is same = ap refusal.Input (cc (sym is ∙ same))

  of_input : (fault : InputFault) → told_on (error_line (refusal.Input fault)) ≡ Some stream → refusal.Input fault ≡ refusal.Input stream
  of_input (MachineLine n) is = no_other _ _ (of_bad_line n) is
  of_input ReadFault is = same_fault _ _ read_told is
  of_input WriteFault is = same_fault _ _ write_told is
  of_input TextTooLong is = same_fault _ _ length_told is

  told_alone : (r : Refusal) → told_on (error_line r) ≡ Some stream → r ≡ refusal.Input stream
  told_alone (refusal.Space fault) is = no_other _ _ (of_space fault) is
  told_alone (refusal.Table fault) is = no_other _ _ (of_table fault) is
  told_alone (refusal.Name fault) is = no_other _ _ (of_name fault) is
  told_alone (refusal.Term fault offset) is = no_other _ _ (of_term fault offset) is
  told_alone (refusal.Value fault) is = no_other _ _ (of_value fault) is
  told_alone (refusal.Field fault) is = no_other _ _ (of_field fault) is
  told_alone (refusal.Namespace fault) is = no_other _ _ (of_namespace fault) is
  told_alone (refusal.Evaluation fault) is = no_other _ _ (of_evaluation fault) is
  told_alone (refusal.Machine fault) is = no_other _ _ (of_machine fault) is
  told_alone (refusal.Resource fault) is = no_other _ _ (of_resource fault) is
  told_alone (refusal.RoutingTable fault) is = no_other _ _ (of_routing_table fault) is
  told_alone (refusal.Routing fault) is = no_other _ _ (of_routing fault) is
  told_alone (refusal.Report fault) is = no_other _ _ (of_report fault) is
  told_alone (refusal.Input fault) is = of_input fault is
  told_alone refusal.OutOfMemory is = no_other _ _ of_memory is

pub read_line_alone : (r : Refusal) → error_line r ≡ error_line (refusal.Input ReadFault) → r ≡ refusal.Input ReadFault
read_line_alone r same = told_alone ReadFault r (ap (λ line. told_on line) same ∙ read_told)

pub write_line_alone : (r : Refusal) → error_line r ≡ error_line (refusal.Input WriteFault) → r ≡ refusal.Input WriteFault
write_line_alone r same = told_alone WriteFault r (ap (λ line. told_on line) same ∙ write_told)

pub length_line_alone : (r : Refusal) → error_line r ≡ error_line (refusal.Input TextTooLong) → r ≡ refusal.Input TextTooLong
length_line_alone r same = told_alone TextTooLong r (ap (λ line. told_on line) same ∙ length_told)

pub ruleset lines_alone = (read_line_alone, write_line_alone, length_line_alone)
