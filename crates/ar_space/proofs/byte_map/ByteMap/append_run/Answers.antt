use Rattle.std.proofs.Common.{◌≡◌, ◌∙◌, ◌+◌, ◌-◌, ◌<◌, ◌≤◌, ◌++◌, length, length-append, ap, sym, arith, append_assoc}
use Rattle.std.specs.FinMap as map
use Rattle.ar_space.specs.Runs.{run_from}
use Rattle.ar_space.proofs.RunBytes.{run_both, run_ends}
use Rattle.ar_space.proofs.byte_map.ByteMap.append_run.Goals as goal

pub returns-then-len-had : goal.returns-then-len-had
returns-then-len-had c =
    let f = map.get c.args.self.now in
    let room = c.room_at-room.result in
    let left = c.loop-left.left in
    let here = run_from f c.loop-left.next room in
    let more = length-append c.loop-left.bytes.items here in
    let is = ap length c.in_ok-append_in_page.ensures in
    let short : length here < room = omega (arith, more, is, c.if-len-had.true, c.len.ensures, c.len-had.ensures) in
    let all : run_from f c.loop-left.next left ≡ here = ap (run_from f c.loop-left.next) (omega (arith, c.loop-left-test.true)) ∙ run_ends f c.loop-left.next room (left - room) short in
    c.in_ok-append_in_page.ensures ∙ ap (λ xs. c.loop-left.bytes.items ++ xs) (sym all) ∙ c.loop-left.invariant.same

pub loop-left-preserved : goal.loop-left-preserved
loop-left-preserved c =
    let f = map.get c.args.self.now in
    let room = c.room_at-room.result in
    let left = c.loop-left.left in
    let here = run_from f c.loop-left.next room in
    let rest = run_from f (c.loop-left.next + room) (left - room) in
    let more = length-append c.loop-left.bytes.items here in
    let is = ap length c.in_ok-append_in_page.ensures in
    let whole : room ≤ length here = omega (arith, more, is, c.if-len-had.false, c.len.ensures, c.len-had.ensures) in
    let all : run_from f c.loop-left.next left ≡ here ++ rest = ap (run_from f c.loop-left.next) (omega (arith, c.loop-left-test.true)) ∙ run_both f c.loop-left.next room (left - room) whole in
    record {
      room = omega (arith, c.loop-left.invariant.room, c.loop-left-test.true);
      same = ap (λ xs. xs ++ rest) c.in_ok-append_in_page.ensures ∙ append_assoc c.loop-left.bytes.items here rest ∙ ap (λ xs. c.loop-left.bytes.items ++ xs) (sym all) ∙ c.loop-left.invariant.same;
    }
