use Rattle.std.proofs.Common.{◌∙◌, ◌-◌, ap, sym, refl, length}
use Rattle.std.specs.Prelude.{is_some}
use Rattle.ar_space.proofs.Places.{past_the_last, has_room}
use Rattle.ar_space.proofs.sparse.Sparse.replace_all.Goals as goal

pub replace_within-requires-clause-room : goal.replace_within-requires-clause-room
replace_within-requires-clause-room c = has_room c.args.place _ (length c.args.bytes.now) (length c.args.bytes.now - 1) c.requires.0 refl (sym c.offset_by.ensures ∙ c.in-Some.is)

pub returns-in-None-clause-stood : goal.returns-in-None-clause-stood
returns-in-None-clause-stood c = sym (ap is_some (past_the_last c.args.self.now c.args.place (length c.args.bytes.now) (length c.args.bytes.now - 1) c.requires.0 refl (sym c.offset_by.ensures ∙ c.in-None.is)))
