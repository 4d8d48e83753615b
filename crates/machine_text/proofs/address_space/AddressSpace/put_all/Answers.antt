use Rattle.std.proofs.Common.{◌∙◌, ap, sym}
use Rattle.ar_space.specs.Bytes.{put_on}
use Rattle.ar_space.proofs.OnOk.{on_ok}
use Rattle.machine_text.proofs.Puts.{put_from, put_none}
use Rattle.machine_text.proofs.address_space.AddressSpace.put_all.Goals as goal

pub returns-then-is_empty-clause-value : goal.returns-then-is_empty-clause-value
returns-then-is_empty-clause-value c = put_none c.args.self c.args.space.now c.args.first c.args.bytes.now (sym c.is_empty.ensures ∙ c.if-is_empty.true)

pub returns-clause-value : goal.returns-clause-value
returns-clause-value c = on_ok c.put_all.result (λ put. put ∙ ap (λ p. put_on c.args.space.now p 0 c.args.bytes.now) c.place.ensures
    ∙ put_from c.args.self c.args.space.now c.args.first c.args.bytes.now c.requires) c.put_all.ensures.ok
