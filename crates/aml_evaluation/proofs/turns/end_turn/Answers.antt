use Rattle.std.specs.Prelude.{◌≡◌, ◌-◌, take, length, Err}
use Rattle.std.proofs.Common.{◌∙◌, ap, refl, rules, arith}
use Rattle.aml_evaluation.proofs.LoopTurns.{turn_again, turn_done, turn_refused, falls_left, refused_left}
use Rattle.aml_evaluation.proofs.LoopTurns.{turning}
use Rattle.aml_evaluation.proofs.turns.end_turn.Goals as goal

pub returns-in-Ok-Turn : goal.returns-in-Ok-Turn
returns-in-Ok-Turn g c = record {
  falls = search (rules, turning);
  refused = search (rules, turning);
  means =
      let led = rw c.in-Ok-Turn.field-0-is at c.in-Ok-Turn.ensures.means in
      let ends = rw c.in-Ok-Turn.field-0-is at c.in-Ok-Turn.ensures.ends in
      let same = c.in-Ok-Turn.ensures.same c.in-Ok-Turn.again c.in-Ok-Turn.field-0-is in
      rw c.go_to_items.ensures (turn_again c.args.stack.now.act c.resume_turn.new.act c.args.stack.now.entries.items c.items.result c.args.turn c.in-Ok-Turn.again c.requires same led ends c.items.ensures);
}

pub returns-in-Ok : goal.returns-in-Ok
returns-in-Ok g c = record {
  falls =
      let xs = c.args.stack.now.entries.items in
      let popped : c.pop.new.self.items ≡ take (length xs - 1) xs = c.pop.ensures.rest ∙ ap (λ n. take (n - 1) xs) c.args.stack.now.entries.ok.0 in
      falls_left c.follow.result c.follow.new.run.1 c.args.run.now.1 c.resume_turn.new.run.1 _ _ xs c.pop.new.self.items c.args.turn c.requires popped c.in-Ok.ensures.falls c.follow.ensures.falls;
  refused = search (rules, turning);
  means =
      let xs = c.args.stack.now.entries.items in
      let popped : c.pop.new.self.items ≡ take (length xs - 1) xs = c.pop.ensures.rest ∙ ap (λ n. take (n - 1) xs) c.args.stack.now.entries.ok.0 in
      turn_done c.in-Ok.next c.args.stack.now.act c.resume_turn.new.act xs c.pop.new.self.items c.args.turn c.requires popped c.in-Ok.ensures.means c.in-Ok.ensures.ends c.follow.ensures.means;
}

pub returns-in-Err : goal.returns-in-Err
returns-in-Err g c = record {
  falls = search (rules, turning);
  refused =
      let xs = c.args.stack.now.entries.items in
      let popped : c.pop-in-Err.new.self.items ≡ take (length xs - 1) xs = c.pop-in-Err.ensures.rest ∙ ap (λ n. take (n - 1) xs) c.args.stack.now.entries.ok.0 in
      refused_left (Err c.in-Err.refusal) c.resume_turn.new.run.1 c.args.run.now.1 xs c.pop-in-Err.new.self.items c.args.turn c.requires popped c.in-Err.ensures.spent;
  means =
      let xs = c.args.stack.now.entries.items in
      let popped : c.pop-in-Err.new.self.items ≡ take (length xs - 1) xs = c.pop-in-Err.ensures.rest ∙ ap (λ n. take (n - 1) xs) c.args.stack.now.entries.ok.0 in
      turn_refused c.in-Err.refusal c.args.stack.now.act c.resume_turn.new.act xs c.pop-in-Err.new.self.items c.args.turn c.requires popped c.in-Err.ensures.means (refl, refl);
}
