use Rattle.machine_laws.proofs.TemplatesTold.{template_offers, template_set, template_refused}
use Rattle.machine_laws.proofs.templates.a_template_says_what_its_items_say.Goals as goal

pub returns-clause-offered : goal.returns-clause-offered
returns-clause-offered c = template_offers

pub returns-clause-current : goal.returns-clause-current
returns-clause-current c = template_set

pub returns-clause-refused : goal.returns-clause-refused
returns-clause-refused c = template_refused
