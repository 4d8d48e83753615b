use Rattle.std.proofs.Common.{◌∙◌, sym, ap, Err, [], ◌∷◌}
use Rattle.std.specs.Prelude.{option_map}
use Rattle.ar_space.proofs.Outcomes.{answers_is}
use Rattle.machine_text.proofs.Joined.{only_bytes, only_refused}
use Rattle.machine_text.proofs.Pairs.{two_digits}
use Rattle.machine_text.proofs.words.only_byte.Goals as goal

pub returns-in-Some : goal.returns-in-Some
returns-in-Some c = answers_is (only_bytes c.args.n c.args.word.now _ (two_digits c.args.word.now c.requires ∙ ap (option_map (λ b. b ∷ [])) (sym c.pair.ensures ∙ c.in-Some.is)))

pub returns-in-None : goal.returns-in-None
returns-in-None c = answers_is (ap Err c.bad_line.ensures ∙ only_refused c.args.n c.args.word.now (two_digits c.args.word.now c.requires ∙ ap (option_map (λ b. b ∷ [])) (sym c.pair.ensures ∙ c.in-None.is)))
