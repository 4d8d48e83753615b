use Rattle.std.proofs.Common.{ap, ℕ, ◌∙◌, refl, rules, arith}
use Rattle.aml_accesses.proofs.Addressing.{reading_as}
use Rattle.aml_world.specs.state.State.{State}
use Rattle.aml_frames.proofs.Lent.{leads_accessed_ok}
use Rattle.aml_accesses.proofs.field_access.access_located.Goals as goal

pub returns-in_ok-bytes-in-Read : goal.returns-in_ok-bytes-in-Read
returns-in_ok-bytes-in-Read g c = record {
  spent = rw (← ap {B = State g.row.S.Denot × ℕ} (λ x. (x.world, x.steps)) c.run-inside.view_is ∙ c.run.view_is) (omega arith);
  falls = first_of (search (rules, reading_as), grind arith);
  means =
      rw (c.in-Read.is, ← ap {B = State g.row.S.Denot × ℕ} (λ x. (x.world, x.steps)) c.run-inside.view_is ∙ c.run.view_is)
      (leads_accessed_ok _ _ _ _ _ _ _ _ _ _ _ _ _ _ _ _ c.in_ok-bytes-in-Read.ensures refl c.finish_read.ensures.means);
  ends = search (rules, reading_as);
}
