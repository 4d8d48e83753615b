use Rattle.std.proofs.Common.{◌≡◌, ◌<◌, refl, arith, rules}
use Rattle.aml_frames.specs.declared.frames.Call.{Call}
use Rattle.aml_accesses.proofs.Arguments.{fewer, same_argument, argument_refused, argument_waits, arguments_done, ends_taken, ends_waiting, ends_called}
use Rattle.aml_accesses.proofs.calls.begin_call.Goals as goal

pub returns-in_err-known : goal.returns-in_err-known
returns-in_err-known g c = record {
  spent = omega arith;
  falls = first_of (search rules, grind arith);
  means =
      let some : 0 < c.arguments.call.left = c.arguments-test.true in
      argument_refused c.arguments.act c.arguments.call _ c.arguments.invariant.same some c.in_err-known.ensures.refused c.from_residual.ensures;
  ends = search rules;
}

pub arguments-preserved : goal.arguments-preserved
arguments-preserved g c =
    let some : 0 < c.arguments.call.left = c.arguments-test.true in
    let j : Call = record (fewer c.arguments.call) { done = c.push.new.self } in
    let integer = rw c.in-Some.is at c.in_ok-known.ensures.integer in
    let behind = rw c.in-Some.is at c.in_ok-known.ensures.behind in
    record {
      spent = omega (arith, c.in_ok-known.ensures.spent, c.arguments.invariant.spent);
      same = same_argument g.S.Space.accesses c.arguments.act c.known_integer.new.act c.arguments.call j c.in-Some.number c.arguments.invariant.same some integer behind refl refl refl c.in_ok-push-in-Some.ensures.items;
      ends = ends_taken _ c.arguments.act c.known_integer.new.act c.arguments.call j c.arguments.invariant.ends some behind refl refl;
    }

pub returns : goal.returns
returns g c = record {
  spent = omega arith;
  falls = first_of (search rules, grind arith);
  means =
      let none : c.arguments.call.left ≡ 0 = let h = c.arguments-test.false in omega (arith, h) in
      arguments_done c.arguments.act c.arguments.call c.arguments.invariant.same none c.begin_callee.ensures.steps.means;
  ends =
      let none : c.arguments.call.left ≡ 0 = let h = c.arguments-test.false in omega (arith, h) in
      ends_called c.begin_callee.result _ c.arguments.act c.arguments.act c.arguments.call c.arguments.invariant.ends none c.begin_callee.ensures.steps.ends;
}

pub returns-in-None : goal.returns-in-None
returns-in-None g c = record {
  spent = omega arith;
  falls = first_of (search rules, grind arith);
  means =
      let some : 0 < c.arguments.call.left = c.arguments-test.true in
      argument_waits c.arguments.act c.arguments.call c.in_ok-waiting-in-None.waiting c.arguments.invariant.same some c.in_ok-waiting-in-None.ensures (c.in_ok-known.ensures.stays c.in-None.is) (c.in_ok-known.ensures.none c.in-None.is);
  ends =
      let some : 0 < c.arguments.call.left = c.arguments-test.true in
      ends_waiting _ c.arguments.act c.known_integer.new.act c.arguments.call c.in_ok-waiting-in-None.waiting c.arguments.invariant.ends some c.in_ok-waiting-in-None.ensures (c.in_ok-known.ensures.stays c.in-None.is);
}
