use Rattle.std.proofs.Common.{rules, ℕ, ◌≡◌, ◌∙◌, ◌+◌, ◌<◌, ◌≤◌, true, length, if◌then◌else◌, sym, ap, subst, arith}
use Rattle.std.specs.Prelude.{is_ok}
use Rattle.std.specs.List.{insert}
use Rattle.std.specs.Vec.{vec_len, vec_capacity}
use Rattle.std.proofs.lemmas.List.Edits.{length-insert}
use Rattle.watched_space.specs.NumberedBytes.{IsAscending, IsGapFor, with_byte}
use Rattle.watched_space.proofs.Ascending.{placed_ok, insert_in_gap, ascends_insert}
use Rattle.watched_space.proofs.zeros.Zeros.insert.Goals as goal

pub invariant_of-self : goal.invariant_of-self
invariant_of-self c =
    let old = c.self.inside.bytes in
    let x : ℕ × ℕ = (c.args.number, c.args.byte) in
    let room : vec_len old < vec_capacity old = omega (arith, c.if-len-ge-MOST.false, c.len.ensures, c.self.invariant.room) in
    let ok = c.insert.ensures.succeeds room in
    let items : c.insert.new.self.items ≡ insert old.items c.args.at x = c.insert.ensures.items ∙ placed_ok c.insert.result _ _ ok in
    let gap : IsGapFor old.items c.args.number c.args.at = subst (λ l. IsGapFor l c.args.number c.args.at) (sym c.self.view_is) c.requires in
    let more = length-insert old.items c.args.at x gap.in_range in
    let short : length old.items < 4096 = search rules in
    record {
      ascends = subst IsAscending (sym items) (ascends_insert _ _ _ gap _ c.self.invariant.ascends);
      few = omega (arith, ap length items, more, short);
      room = omega (arith, c.insert.ensures.capacity, c.self.invariant.room);
    }

pub returns-clause-state : goal.returns-clause-state
returns-clause-state c =
    let gap : IsGapFor c.self.inside.bytes.items c.args.number c.args.at = subst (λ l. IsGapFor l c.args.number c.args.at) (sym c.self.view_is) c.requires in
    rw (c.insert.ensures.items, insert_in_gap _ _ c.args.byte _ gap, c.self.view_is, c.is_ok.ensures.value) (search rules)
