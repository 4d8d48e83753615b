use Rattle.std.proofs.Common.{ap, ℕ, ◌∙◌, refl, rules, arith}
use Rattle.aml_frames.proofs.Stepping.{stepping}
use Rattle.aml_world.specs.state.State.{State}
use Rattle.aml_frames.specs.Addresses.{bridge_known}
use Rattle.aml_frames.proofs.Lent.{leads_accessed_ok, leads_accessed_err}
use Rattle.aml_accesses.proofs.bridges.pass_bridge.Goals as goal

pub returns-in_err-bus : goal.returns-in_err-bus
unfolding bridge_known
returns-in_err-bus g c = record {
  spent = rw (← ap {B = State g.row.S.Denot × ℕ} (λ x. (x.world, x.steps)) c.run-inside.view_is ∙ c.run.view_is) (omega arith);
  falls = first_of (search (rules, stepping), grind arith);
  means =
      rw (← ap {B = State g.row.S.Denot × ℕ} (λ x. (x.world, x.steps)) c.run-inside.view_is ∙ c.run.view_is)
      (leads_accessed_err _ _ _ _ _ _ _ _ _ _ _ _ _ _ _ _ c.in_err-bus.ensures.change refl c.from_residual.ensures);
  ends = search (rules, stepping);
}

pub returns : goal.returns
unfolding bridge_known
returns g c = record {
  spent = rw (← ap {B = State g.row.S.Denot × ℕ} (λ x. (x.world, x.steps)) c.run-inside.view_is ∙ c.run.view_is) (omega arith);
  falls = first_of (search (rules, stepping), grind arith);
  means =
      rw (← ap {B = State g.row.S.Denot × ℕ} (λ x. (x.world, x.steps)) c.run-inside.view_is ∙ c.run.view_is)
      (leads_accessed_ok _ _ _ _ _ _ _ _ _ _ _ _ _ _ _ _ c.in_ok-bus.ensures.change refl c.begin_bridges.ensures.means);
  ends = search (rules, stepping);
}
