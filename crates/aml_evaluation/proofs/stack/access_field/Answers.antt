use Rattle.std.proofs.Common.{rules}
use Rattle.aml_meaning.specs.Meaning.{meaning}
use Rattle.aml_frames.specs.declared.uses.Accessed.TheVariants as object
use Rattle.aml_frames.specs.declared.uses.Doing.TheVariants as doing
use Rattle.aml_frames.specs.declared.uses.Reading.TheVariants as reading
use Rattle.aml_evaluation.proofs.Machine.{does_access}
use Rattle.aml_evaluation.proofs.stack.access_field.Goals as goal

pub returns : goal.returns
returns g c =
    let h = rw c.in_ok-held.ensures at c.execute.ensures in
    does_access g.S.Space.accesses (meaning g.S.Space.accesses) (record { calls = c.args.calls; object = object.Field c.args.field; doing = doing.Read reading.Part }) c.new-stack.result.act c.new-stack.result.entries.items c.new-stack.ensures.empty h
