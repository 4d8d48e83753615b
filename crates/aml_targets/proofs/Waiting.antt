-- The operand of a Wait, which is found first.
use Rattle.std.specs.Prelude.{ℕ, Option, Ok}
use Rattle.std.proofs.Common.{refl}
use Rattle.ar_space.specs.Accesses.{Accesses}
use Rattle.ar_space.specs.Change.{◌>>=◌}
use Rattle.aml_world.specs.state.State.{State}
use Rattle.aml_meaning.specs.Meaning.{meaning}
use Rattle.aml_meaning.specs.Tasks.{operand_value}
use Rattle.aml_frames.specs.declared.frames.Frame.TheVariants as frames
use Rattle.aml_frames.specs.declared.frames.Next.TheVariants as next
use Rattle.aml_frames.specs.Places.{Site, next_term}
use Rattle.aml_frames.specs.Uses.{wait_done}
use Rattle.aml_frames.specs.Follow.{Leads}
use Rattle.aml_frames.proofs.Stepping.{leads_value}

module _ {S : Type 0} {ac : Accesses S} where
  -- the timeout of a Wait
  pub leads_timeout : {c : Site} {s : State S × ℕ} (levels : ℕ) (e : Option ℕ) → Leads ac (meaning ac) (Ok (next.Term levels (frames.Wait e))) c s (operand_value (meaning ac) c.scope c.depth (next_term c levels) >>= wait_done ac (meaning ac) e) s
  leads_timeout levels e = leads_value levels (frames.Wait e) (wait_done ac (meaning ac) e) refl

-- what closes the operand of a Wait
pub ruleset waiting = (leads_timeout)
