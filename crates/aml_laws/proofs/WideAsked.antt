-- A world of the wide profile evaluates the terms that are asked for in it.
use Rattle.std.specs.Prelude.{◌≡◌, ℕ, Ok, refl}
use Rattle.std.proofs.Common.{ap}
use Rattle.ar_space.specs.Change.{go_on, ◌>>=◌}
use Rattle.aml_grammar.specs.declared.opcode.Opcode.{Opcode}
use Rattle.aml_world.specs.declared.state.profile.Profile.TheVariants as profiles
use Rattle.aml_world.specs.state.Profiles.{evaluated_in, asked_for}
use Rattle.aml_world.specs.state.Run.{Run, lift}
use Rattle.aml_world.specs.state.State.{State}
use Rattle.aml_meaning.specs.declared.flow.Flow.{Flow}
use Rattle.aml_meaning.specs.WideTerms.{in_wide}

module _ {S : Type 0} (op : Opcode) (w : State S) (steps : ℕ) (wide : w.profile ≡ profiles.Wide) where
  asked_so : lift (asked_for op) (w, steps) ≡ (Ok tt, (w, steps))
  unfolding lift asked_for
  asked_so = ap (λ p. (evaluated_in p op, (w, steps))) wide

  pub asked_in_wide : (m : Run S Flow) → in_wide op m (w, steps) ≡ m (w, steps)
  unfolding go_on ◌>>=◌
  asked_in_wide m = rw asked_so refl
