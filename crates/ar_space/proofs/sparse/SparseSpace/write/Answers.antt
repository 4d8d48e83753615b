use Rattle.std.proofs.Common.{◌∙◌, ap, take}
use Rattle.ar_space.specs.Accesses.{byte_count}
use Rattle.ar_space.proofs.Places.{write_state}
use Rattle.ar_space.proofs.sparse.SparseSpace.write.Goals as goal

pub returns-then-replace_all-clause-state : goal.returns-then-replace_all-clause-state
returns-then-replace_all-clause-state c =
    write_state c.args.self.now c.replace_all.new.self c.args.place c.args.width c.args.value (take c.from.result c.to_le_bytes-bytes.result) c.replace_all.result
    (ap (λ n. take n c.to_le_bytes-bytes.result) (c.from.ensures ∙ c.bytes.ensures) ∙ ap (take (byte_count c.args.width)) c.to_le_bytes-bytes.ensures)
    c.replace_all.ensures.stood c.if-replace_all.true c.replace_all.ensures.new
