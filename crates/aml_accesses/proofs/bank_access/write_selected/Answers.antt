use Rattle.std.proofs.Common.{ap, ℕ, ◌∙◌, refl, rules, arith}
use Rattle.aml_accesses.proofs.BankSteps.{bank_by_bank}
use Rattle.aml_world.specs.state.State.{State}
use Rattle.aml_frames.proofs.Lent.{leads_accessed_ok, leads_accessed_err}
use Rattle.aml_accesses.proofs.bank_access.write_selected.Goals as goal

pub returns-in_err-write_whole : goal.returns-in_err-write_whole
returns-in_err-write_whole g c = record {
  spent = rw (← ap {B = State g.row.S.Denot × ℕ} (λ x. (x.world, x.steps)) c.run-inside.view_is ∙ c.run.view_is) (omega arith);
  falls = first_of (search (rules, bank_by_bank), grind arith);
  means =
      rw (← c.into_inner-writes.ensures, ← ap {B = State g.row.S.Denot × ℕ} (λ x. (x.world, x.steps)) c.run-inside.view_is ∙ c.run.view_is)
      (leads_accessed_err _ _ _ _ _ _ _ _ _ _ _ _ _ _ _ _ c.in_err-write_whole.ensures.change refl c.from_residual.ensures);
  ends = search (rules, bank_by_bank);
}

pub returns : goal.returns
returns g c = record {
  spent = rw (← ap {B = State g.row.S.Denot × ℕ} (λ x. (x.world, x.steps)) c.run-inside.view_is ∙ c.run.view_is) (omega arith);
  falls = first_of (search (rules, bank_by_bank), grind arith);
  means =
      rw (← c.into_inner-writes.ensures, ← ap {B = State g.row.S.Denot × ℕ} (λ x. (x.world, x.steps)) c.run-inside.view_is ∙ c.run.view_is)
      (leads_accessed_ok _ _ _ _ _ _ _ _ _ _ _ _ _ _ _ _ c.in_ok-write_whole.ensures.change refl c.next_bank_write.ensures.means);
  ends = search (rules, bank_by_bank);
}
