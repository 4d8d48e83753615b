use Rattle.std.proofs.Common.{◌≡◌, ◌++◌, length}
use Rattle.aml_namespace.specs.Calls.{replies_to, left_by}
use Rattle.aml_namespace.proofs.names.Names.answer_all.Given as goal

-- the replies so far and those to the calls that are left are those to all, and so for what they leave
abbrev pub invariant-loop-call : goal.invariant-loop-call
invariant-loop-call l = record {
  replies : l.replies.items ++ replies_to l.left.items l.self ≡ replies_to l.fn.calls.items l.fn.self;
  namespace : left_by l.left.items l.self ≡ left_by l.fn.calls.items l.fn.self;
}

abbrev pub decreases-loop-call : goal.decreases-loop-call
decreases-loop-call l = length l.left.items
