-- What is told of what was passed over: how many there were, and the first 64 of them, in order.
use Rattle.std.specs.Prelude.{◌≡◌, ◌⊎◌, ◌<◌, ◌≤◌, ◌+◌, ◌-◌, ◌^◌, ◌∷◌, ◌++◌, ℕ, List, [], length, min, take, false}
use Rattle.ar_space.specs.declared.refusal.Refusal.{Refusal}
use Rattle.aml_path.specs.declared.segment.Seg.{Seg}
use Rattle.aml_world.specs.declared.state.passed_over.PassedItem.{PassedItem}
use Rattle.aml_world.specs.state.PassedOver.{PassedOver}
use Rattle.aml_world.specs.state.State.{State}
use Rattle.aml_meaning.specs.Tasks.{passes_over}

-- so many are kept as there may be: all, or 64
abbrev pub KeepsTheFirst : PassedOver → Type 0
KeepsTheFirst passed = length passed.kept ≡ min 64 passed.count

-- one more, behind those that are kept where there is room for it
abbrev pub one_more : PassedItem → PassedOver → PassedOver
one_more item passed = record { count = passed.count + 1; kept = take 64 (passed.kept ++ item ∷ []) }

abbrev pub with_one_more : {S : Type 0} → List Seg → Refusal → State S → State S
with_one_more scope e w = record w { passed = one_more (record { refusal = e; scope = scope }) w.passed }

-- what is kept stays, in its order, with more behind it; and the count doesn't fall
pub record GoesOn (before after : PassedOver) : Type 0 where
  pub more : List PassedItem
  pub kept : after.kept ≡ before.kept ++ more
  pub count : before.count ≤ after.count

-- A list leaves this world of that one and passes nothing over: where so many control methods are being called nothing may be passed over in
-- the profile, or the count, which isn't at its end, is the same.
abbrev pub PassesNothing : {S : Type 0} → ℕ → State S → State S → Type 0
PassesNothing depth before after = (passes_over depth before.profile ≡ false) ⊎ ((after.passed.count ≡ before.passed.count) × (before.passed.count < 2 ^ 64 - 1))
