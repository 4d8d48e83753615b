use Rattle.aml_frames.proofs.ShortNames.{maybe_stands}
use Rattle.aml_frames.proofs.at_once.short_names.one_segment.Goals as goal

pub returns-in-len4-up : goal.returns-in-len4-up
returns-in-len4-up c = maybe_stands c.args.act.now.place _ c.segment_of.result c.rest.ensures c.in-len4-up.len_at_least c.segment_of.ensures
