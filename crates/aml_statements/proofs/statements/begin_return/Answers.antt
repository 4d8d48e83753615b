use Rattle.std.proofs.Common.{ℕ, Ok, refl, rules, arith}
use Rattle.ar_space.specs.Accesses.{Accesses}
use Rattle.ar_space.specs.Change.{give, settle, go_on, ◌>>=◌}
use Rattle.aml_objects.specs.declared.value.Value.TheVariants as value
use Rattle.aml_world.specs.state.State.{State}
use Rattle.aml_meaning.specs.declared.flow.Flow.TheVariants as flow
use Rattle.aml_meaning.specs.Meaning.{meaning}
use Rattle.aml_frames.specs.declared.frames.Frame.TheVariants as frames
use Rattle.aml_frames.specs.declared.frames.Next.TheVariants as next
use Rattle.aml_frames.specs.Places.{Site}
use Rattle.aml_frames.specs.Follow.{resumed, Leads}
use Rattle.aml_frames.proofs.Knowing.{leads_return, taken_known}
use Rattle.aml_statements.proofs.statements.begin_return.Goals as goal

return_known : {S : Type 0} {ac : Accesses S} {e : Site} {s : State S × ℕ} (c : Site) (n : ℕ) → Leads ac (meaning ac) (Ok (next.Flow (flow.Return (value.Integer n)))) e s (resumed ac (meaning ac) frames.Return c (flow.Value (value.Integer n))) s
unfolding settle give ◌>>=◌ go_on
return_known c n = record { is = λ _. refl }

pub returns-in-Some-clause-steps : goal.returns-in-Some-clause-steps
returns-in-Some-clause-steps g c = record {
  spent = omega arith;
  falls = first_of (search rules, grind arith);
  means =
      let integer = rw c.in-Some.is at c.in_ok-number.ensures.integer in
      let behind = rw c.in-Some.is at c.in_ok-number.ensures.behind in
      leads_return c.args.act.now c.args.levels (taken_known c.args.act.now c.args.levels c.in-Some.number frames.Return integer behind (return_known c.known_integer.new.act c.in-Some.number));
  ends = search rules;
}
