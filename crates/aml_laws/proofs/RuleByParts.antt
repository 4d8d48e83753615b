-- A rule asks for its parts with no more steps than it got, so that what they mean with more steps does not matter.
use Rattle.std.specs.Prelude.{◌≡◌, ℕ}
use Rattle.std.proofs.Common.{arith}
use Rattle.ar_space.specs.Accesses.{Accesses}
use Rattle.aml_world.specs.state.State.{State}
use Rattle.aml_world.specs.state.Run.{Run}
use Rattle.aml_meaning.specs.declared.flow.Flow.{Flow}
use Rattle.aml_meaning.specs.Tasks.{Task}
use Rattle.aml_meaning.specs.Evaluation.{rule}
use Rattle.aml_meaning.proofs.Agree.{Agree}
use Rattle.aml_meaning.proofs.AgreeTerms.{agree_rule}
use Rattle.aml_laws.specs.Parts.{SameUpTo}

pub rule_by_parts : {S : Type 0} (accesses : Accesses S) (ev ew : Task → Run S Flow) (t : Task) (w : State S) (n : ℕ) → SameUpTo n ev ew → rule accesses ev t (w, n) ≡ rule accesses ew t (w, n)
rule_by_parts {S} accesses ev ew t w n h =
    let all : (u : Task) → Agree {S = S} n (ev u) (ew u) = λ u. record { same = h.same u; less = h.less u } in
    (agree_rule accesses ev ew all t).same (w, n) (omega arith)
