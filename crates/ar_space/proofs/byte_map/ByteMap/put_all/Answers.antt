use Rattle.std.proofs.Common.{◌∙◌, ◌+◌, length, ap, sym, arith, rules}
use Rattle.ar_space.specs.Runs.{with_bytes}
use Rattle.ar_space.proofs.PageMaps.{with_both, with_none}
use Rattle.ar_space.proofs.byte_map.ByteMap.put_all.Goals as goal

pub loop-rest-preserved : goal.loop-rest-preserved
loop-rest-preserved c = record {
  room = omega (arith, c.loop-rest.invariant.room, c.split_at.ensures.front_len, c.split_at.ensures.back_len);
  same = ap (λ m. with_bytes m (c.loop-rest.next + length c.split_at.result.0.now) c.split_at.result.1.now) c.in_ok-put_in_page.ensures.ok
      ∙ with_both c.loop-rest.self c.loop-rest.next c.split_at.result.0.now c.split_at.result.1.now
      ∙ ap (with_bytes c.loop-rest.self c.loop-rest.next) (sym c.split_at.ensures.by_index.0) ∙ c.loop-rest.invariant.same;
}

pub returns-then-is_empty-clause-ok : goal.returns-then-is_empty-clause-ok
returns-then-is_empty-clause-ok c = with_none c.args.self.now c.args.address c.args.bytes.now (search rules)
