use Rattle.aml_laws.proofs.PartsStored.{latest_takes, referred_takes, latest_refuses, referred_refuses}
use Rattle.aml_laws.proofs.stored_parts.slots_take_copies.Goals as goal

pub returns-clause-latest : goal.returns-clause-latest
returns-clause-latest g c = λ w last f slot v count. latest_takes w last f slot v count

pub returns-clause-referred : goal.returns-clause-referred
returns-clause-referred g c = λ w n k f slot v count. referred_takes w k f slot v n count

pub returns-clause-latest_refused : goal.returns-clause-latest_refused
returns-clause-latest_refused g c = λ w last f slot v e. latest_refuses w last f slot v e

pub returns-clause-referred_refused : goal.returns-clause-referred_refused
returns-clause-referred_refused g c = λ w n k f slot v e. referred_refuses w k f slot v n e
