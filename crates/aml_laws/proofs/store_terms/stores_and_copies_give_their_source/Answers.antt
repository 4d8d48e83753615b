use Rattle.aml_laws.proofs.StoreTermsDone.{store_gives, copy_gives}
use Rattle.aml_laws.proofs.store_terms.stores_and_copies_give_their_source.Goals as goal

pub returns-clause-stored : goal.returns-clause-stored
returns-clause-stored g c = λ accesses scope depth x p w steps v after end gives h. store_gives accesses scope depth x p w steps v after end gives h

pub returns-clause-copied : goal.returns-clause-copied
returns-clause-copied g c = λ accesses scope depth x p w steps v after end gives h. copy_gives accesses scope depth x p w steps v after end gives h
