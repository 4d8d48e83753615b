use Rattle.aml_laws.proofs.TargetsActedOn.{notifies_at, notifies_nothing, no_object_at}
use Rattle.aml_laws.proofs.targets.a_notify_finds_its_object_first.Goals as goal

pub returns-clause-notified : goal.returns-clause-notified
returns-clause-notified g c = λ accesses scope depth p t w steps between names x v after gives. notifies_at accesses scope depth p w steps t between names x after v gives

pub returns-clause-unvalued : goal.returns-clause-unvalued
returns-clause-unvalued g c = λ accesses scope depth p t w steps between names x after. notifies_nothing accesses scope depth p w steps t between names x after

pub returns-clause-unnamed : goal.returns-clause-unnamed
returns-clause-unnamed g c = no_object_at
