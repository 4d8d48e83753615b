use Rattle.std.proofs.Common.{refl, rules, arith}
use Rattle.aml_meaning.specs.Meaning.{meaning}
use Rattle.aml_frames.proofs.ShortNames.{acquired_at_name, short_mutexes}
use Rattle.aml_frames.proofs.at_once.short_names.acquire_at_name.Goals as goal

pub returns : goal.returns
returns g c = record {
  done = λ done. rw (← c.run.view_is) (acquired_at_name g.S.Space.accesses (meaning g.S.Space.accesses) c.args.act.now c.args.levels c.in-Some.id.number c.run.inside.world c.acquire_node.new.self c.run.inside.steps c.in-Some.ensures (c.if-not-acquire_node.ensures.change refl));
  behind = search (rules, short_mutexes);
  spent = first_of (search rules, grind arith);
  none = first_of (search rules, grind arith);
  stays = first_of (search rules, grind arith);
}
