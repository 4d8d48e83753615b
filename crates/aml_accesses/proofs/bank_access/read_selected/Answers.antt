use Rattle.std.proofs.Common.{ap, ℕ, ◌∙◌, refl, rules, arith}
use Rattle.aml_accesses.proofs.BankSteps.{bank_by_bank}
use Rattle.aml_world.specs.state.State.{State}
use Rattle.aml_frames.proofs.Lent.{leads_accessed_ok, leads_accessed_err}
use Rattle.aml_accesses.proofs.bank_access.read_selected.Goals as goal

pub returns-in_err-number : goal.returns-in_err-number
returns-in_err-number g c = record {
  spent = rw (← ap {B = State g.row.S.Denot × ℕ} (λ x. (x.world, x.steps)) c.run-inside.view_is ∙ c.run.view_is) (omega arith);
  falls = first_of (search (rules, bank_by_bank), grind arith);
  means =
      rw (← ap {B = State g.row.S.Denot × ℕ} (λ x. (x.world, x.steps)) c.run-inside.view_is ∙ c.run.view_is)
      (leads_accessed_err _ _ _ _ _ _ _ _ _ _ _ _ _ _ _ _ (rw (c.field-field.ensures, c.get.ensures) at c.in_err-number.ensures.change) refl c.from_residual.ensures);
  ends = search (rules, bank_by_bank);
}

pub returns : goal.returns
returns g c = record {
  spent = rw (← ap {B = State g.row.S.Denot × ℕ} (λ x. (x.world, x.steps)) c.run-inside.view_is ∙ c.run.view_is) (omega arith);
  falls = first_of (search (rules, bank_by_bank), grind arith);
  means =
      rw (← ap {B = State g.row.S.Denot × ℕ} (λ x. (x.world, x.steps)) c.run-inside.view_is ∙ c.run.view_is)
      (leads_accessed_ok _ _ _ _ _ _ _ _ _ _ _ _ _ _ _ _ (rw (c.field-field.ensures, c.get.ensures) at c.in_ok-number.ensures.change) refl (rw (c.into_inner.ensures) at c.meet_unit.ensures.means));
  ends = search (rules, bank_by_bank);
}
