use Rattle.std.proofs.Common.{false, sym, ◌∙◌}
use Rattle.std.proofs.lemmas.Bool.{false≢true}
use Rattle.route_model.proofs.Filtered.{contains_any}
use Rattle.route_model.proofs.NotAvoided.{avoided_is, is_left, left_from}
use Rattle.acpi_links.proofs.laws.the_avoided_interrupts_are_not_offered.Goals as goal

pub returns : goal.returns
returns c = λ avoid link interrupt. (
  (λ d. let from = left_from avoid link.1.numbers interrupt d in (from.0, λ a. absurd (false≢true (sym from.1 ∙ contains_any interrupt avoid a)))),
  (λ h. is_left avoid link.1.numbers interrupt h.0 (sym (avoided_is avoid interrupt false ((λ t. absurd (false≢true t)), (λ a. absurd (h.1 a)))))),
)
