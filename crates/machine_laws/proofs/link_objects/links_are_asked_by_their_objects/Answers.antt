use Rattle.machine_laws.proofs.LinksTold.{core_offered, wide_offered, wrong_offer_told, not_offered, offer_refused, current_told, bad_current_told, wrong_current_told, no_current_told, current_refused, set_told, not_set_told, set_refused}
use Rattle.machine_laws.proofs.link_objects.links_are_asked_by_their_objects.Goals as goal

pub returns-clause-core : goal.returns-clause-core
returns-clause-core g c = core_offered

pub returns-clause-wide : goal.returns-clause-wide
returns-clause-wide g c = wide_offered

pub returns-clause-no_offer : goal.returns-clause-no_offer
returns-clause-no_offer g c = not_offered

pub returns-clause-refused_offer : goal.returns-clause-refused_offer
returns-clause-refused_offer g c = offer_refused

pub returns-clause-current : goal.returns-clause-current
returns-clause-current g c = current_told

pub returns-clause-no_current : goal.returns-clause-no_current
returns-clause-no_current g c = no_current_told

pub returns-clause-refused_current : goal.returns-clause-refused_current
returns-clause-refused_current g c = current_refused

pub returns-clause-set : goal.returns-clause-set
returns-clause-set g c = set_told

pub returns-clause-not_set : goal.returns-clause-not_set
returns-clause-not_set g c = not_set_told

pub returns-clause-refused_set : goal.returns-clause-refused_set
returns-clause-refused_set g c = set_refused

pub returns-clause-wrong_offer : goal.returns-clause-wrong_offer
returns-clause-wrong_offer g c = wrong_offer_told

pub returns-clause-bad_current : goal.returns-clause-bad_current
returns-clause-bad_current g c = bad_current_told

pub returns-clause-wrong_current : goal.returns-clause-wrong_current
returns-clause-wrong_current g c = wrong_current_told
