use Rattle.std.specs.Prelude.{refl}
use Rattle.aml_laws.proofs.DataSeen.{package_seen}
use Rattle.aml_laws.proofs.views.data_are_seen_as_they_are.Goals as goal

pub returns-clause-nothing : goal.returns-clause-nothing
returns-clause-nothing c = refl

pub returns-clause-integer : goal.returns-clause-integer
returns-clause-integer c = λ n. refl

pub returns-clause-text : goal.returns-clause-text
returns-clause-text c = λ bytes. refl

pub returns-clause-bytes : goal.returns-clause-bytes
returns-clause-bytes c = λ bytes. refl

pub returns-clause-package : goal.returns-clause-package
returns-clause-package c = package_seen

pub returns-clause-named : goal.returns-clause-named
returns-clause-named c = λ path. refl

pub returns-clause-reference : goal.returns-clause-reference
returns-clause-reference c = refl
