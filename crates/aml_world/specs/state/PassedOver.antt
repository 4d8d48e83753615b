-- What the wide profile passes over: items of lists at module level that are refused, and calls of initializing. An interpreter goes on
-- behind a faulty declaration, which real tables rely on.
use Rattle.std.specs.Prelude.{ℕ, ◌+◌, ◌-◌, ◌^◌, ◌==◌, Bool, true, false, List, [], ◌∷◌, ◌++◌, length, nat_lt, if◌then◌else◌, refl}
use Rattle.std.specs.Coded.{Coded, code_by, coded×, coded_list, coded_ℕ}
use Rattle.ar_space.specs.declared.refusal.EvaluationFault.{EvaluationFault}
use Rattle.ar_space.specs.declared.refusal.EvaluationFault.TheVariants as fault
use Rattle.ar_space.specs.declared.refusal.FieldFault.{FieldFault}
use Rattle.ar_space.specs.declared.refusal.FieldFault.TheVariants.{FieldLimit, RegionLimit}
use Rattle.ar_space.specs.declared.refusal.Refusal.{Refusal}
use Rattle.ar_space.specs.declared.refusal.Refusal.TheVariants as refusal
use Rattle.aml_world.specs.declared.state.passed_over.PassedItem.{PassedItem}
use Rattle.aml_world.specs.contracts.state.passed_over.PassedItem as item_type

-- ---- by which refusals: those of values, of names, and of what a field or a reference leads to. Registers, the limits of an
-- evaluation, and what is told by Fatal end it.

abbrev pub is_passable_field : FieldFault → Bool
is_passable_field FieldLimit = true
is_passable_field RegionLimit = false

abbrev pub is_passable_evaluation : EvaluationFault → Bool
is_passable_evaluation (fault.Unsupported op) = true
is_passable_evaluation fault.SpaceKind = true
is_passable_evaluation fault.DeadReference = true
is_passable_evaluation fault.NoValue = true
is_passable_evaluation fault.IndexLimit = true
is_passable_evaluation fault.OutOfSteps = false
is_passable_evaluation fault.CallDepth = false
is_passable_evaluation fault.ArityChanged = false
is_passable_evaluation fault.Fatal = false
is_passable_evaluation fault.DeepPci = false
is_passable_evaluation fault.NotAcquired = false
is_passable_evaluation fault.ObjectLimit = false
is_passable_evaluation fault.DepthSetting = false

abbrev pub is_passable : Refusal → Bool
is_passable (refusal.Value f) = true
is_passable (refusal.Namespace f) = true
is_passable (refusal.Field f) = is_passable_field f
is_passable (refusal.Evaluation f) = is_passable_evaluation f
is_passable (refusal.Space f) = false
is_passable (refusal.Table f) = false
is_passable (refusal.Name f) = false
is_passable (refusal.Term f n) = false
is_passable (refusal.Machine f) = false
is_passable (refusal.Resource f) = false
is_passable (refusal.RoutingTable f) = false
is_passable (refusal.Routing f) = false
is_passable (refusal.Report f) = false
is_passable (refusal.Input f) = false
is_passable refusal.OutOfMemory = false

-- ---- what is told of them

-- how many there were, and the first of them
pub record PassedOver : Type 0 where
  pub count : ℕ
  pub kept : List PassedItem

abbrev pub passed_code : Coded PassedOver
passed_code = code_by (ℕ × List PassedItem) (coded× coded_ℕ (coded_list item_type.the_row.coded)) (λ p. (p.count, p.kept)) (λ p. record { count = p.0; kept = p.1 }) (λ _. refl)

abbrev pub nothing_passed : PassedOver
nothing_passed = record { count = 0; kept = [] }

-- the first 64 are kept; the count stays at 2^64 - 1
abbrev pub kept_with : PassedItem → List PassedItem → List PassedItem
kept_with item kept = if nat_lt (length kept) 64 then kept ++ item ∷ [] else kept

abbrev pub counted_on : ℕ → ℕ
counted_on n = if n == 2 ^ 64 - 1 then n else n + 1

abbrev pub passed_with : PassedItem → PassedOver → PassedOver
passed_with item p = record { count = counted_on p.count; kept = kept_with item p.kept }
