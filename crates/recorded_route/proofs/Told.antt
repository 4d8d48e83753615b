-- How a run ends, where its outcome is seen by a view.
use Rattle.std.specs.Prelude.{◌≡◌, Option, Some, None, Ok, Err, refl}
use Rattle.ar_space.specs.Outcome.{Outcome, seen}
use Rattle.recorded_route.specs.declared.ending.WantedAccess.{WantedAccess}
use Rattle.recorded_route.specs.Endings.{ending_of, seen_ending}

pub seen_told : {A B : Type 0} (view : A → B) (outcome : Outcome A) (missing : Option WantedAccess) → seen_ending view (ending_of outcome missing) ≡ ending_of (seen view outcome) missing
seen_told view (Ok value) None = refl
seen_told view (Ok value) (Some wanted) = refl
seen_told view (Err e) None = refl
seen_told view (Err e) (Some wanted) = refl
