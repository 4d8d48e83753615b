-- What is promised of what is there already: it is taken at once, without a frame.
use Rattle.std.specs.Prelude.{◌≡◌, ℕ, ◌≤◌, ◌<◌, Bool, true, false, Option, None, Ok, Err, IfOk, IfErr, IfSome}
use Rattle.ar_space.specs.Accesses.{Accesses}
use Rattle.ar_space.specs.Outcome.{Outcome, NotMemory}
use Rattle.ar_space.specs.Change.{Does}
use Rattle.aml_marks.specs.Marked.{first, over}
use Rattle.aml_objects.specs.declared.value.Value.{Value}
use Rattle.aml_objects.specs.declared.value.Value.TheVariants as values
use Rattle.aml_world.specs.declared.values.operation_kind.Count.{Count}
use Rattle.aml_world.specs.state.State.{State}
use Rattle.aml_world.specs.state.Run.{Run, charge}
use Rattle.aml_meaning.specs.declared.flow.Flow.{Flow}
use Rattle.aml_meaning.specs.declared.flow.Flow.TheVariants as flows
use Rattle.aml_meaning.specs.declared.term_kind.OperatorKind.{OperatorKind}
use Rattle.aml_meaning.specs.declared.term_kind.TermKind.TheVariants as kinds
use Rattle.aml_meaning.specs.Meaning.{meaning}
use Rattle.aml_frames.specs.declared.frames.Next.TheVariants as next
use Rattle.aml_frames.specs.declared.uses.TargetUse.{TargetUse}
use Rattle.aml_frames.specs.declared.uses.TargetUse.TheVariants as uses
use Rattle.aml_frames.specs.Places.{Site, at_place, behind_term}
use Rattle.aml_frames.specs.Uses.{super, behind_target, target_ends, target_run}
use Rattle.aml_frames.specs.Follow.{term_run, operator_run, behind_operator_at, Leads}
use Rattle.aml_frames.specs.Operands.{row_kind}
use Rattle.aml_frames.specs.at_once.ShortTerms.{is_made, row_alone}

-- the integer of a term: it takes the steps of the term, and evaluation stands behind it; a refusal is that of the term; where there is
-- none, nothing changes
pub record KnownInteger {S : Type 0} (ac : Accesses S) (r : Outcome (Option ℕ)) (c : Site) (after : State S × ℕ) (levels : ℕ) (d : Site) (before : State S × ℕ) : Type 0 where
  pub integer : IfOk r (λ known. IfSome known (λ number. Does (Ok (flows.Value (values.Integer number))) after (term_run ac (meaning ac) d levels) before))
  pub refused : IfErr r (λ refusal. Does (Err refusal) after (term_run ac (meaning ac) d levels) before)
  pub spent : after.1 ≤ before.1
  pub paid : IfOk r (λ known. IfSome known (λ number. after.1 < before.1))
  pub behind : IfOk r (λ known. IfSome known (λ number. c ≡ behind_term d levels))
  pub none : IfOk r (λ known. known ≡ None → after ≡ before)
  pub stays : IfOk r (λ known. known ≡ None → c ≡ d)
  pub memory : NotMemory r

-- the integer of a short term, which takes steps alone; where there is none, nothing changes
pub record ShortInteger {S : Type 0} (ac : Accesses S) (r : Option ℕ) (c : Site) (after : State S × ℕ) (levels : ℕ) (d : Site) (before : State S × ℕ) : Type 0 where
  pub integer : IfSome r (λ n. Does (Ok (flows.Value (values.Integer n))) after (term_run ac (meaning ac) d levels) before)
  pub behind : IfSome r (λ n. c ≡ behind_term d levels)
  pub kept : after.0 ≡ before.0
  pub paid : IfSome r (λ n. after.1 < before.1)
  pub none : r ≡ None → after ≡ before
  pub stays : r ≡ None → c ≡ d

-- the step of an operator is taken, and evaluation goes over its opcode; where there is none, nothing changes
pub record TakenOperator {S : Type 0} (r : Option OperatorKind) (c : Site) (after : State S × ℕ) (levels : ℕ) (d : Site) (before : State S × ℕ) : Type 0 where
  pub kind : IfSome r (λ kind. row_kind (row_alone (first d.place.rest)) ≡ kinds.Operator kind)
  pub deep : IfSome r (λ kind. 0 < levels)
  pub taken : IfSome r (λ kind. Does (Ok tt) after charge before)
  pub paid : IfSome r (λ kind. after.1 < before.1)
  pub moves : IfSome r (λ kind. c ≡ at_place d (over 1 d.place))
  pub kept : after.0 ≡ before.0
  pub none : r ≡ None → after ≡ before
  pub stays : r ≡ None → c ≡ d

-- the integer of an operator whose operands are short; where there is none, the place may have moved
pub record ShortOperator {S : Type 0} (ac : Accesses S) (r : Option ℕ) (c : Site) (after : State S × ℕ) (k : OperatorKind) (levels : ℕ) (d : Site) (before : State S × ℕ) : Type 0 where
  pub integer : IfSome r (λ n. Leads ac (meaning ac) (Ok (next.Flow (flows.Value (values.Integer n)))) c after (operator_run ac (meaning ac) k d levels) before)
  pub behind : IfSome r (λ n. c ≡ behind_operator_at k d levels)
  pub spent : after.1 ≤ before.1
  pub moves : c ≡ at_place d c.place

-- a target that is used at once, with its value, or a refusal of that; where it isn't, nothing changes
pub record UsedTarget {S : Type 0} (ac : Accesses S) (r : Outcome (Option Value)) (c : Site) (after : State S × ℕ) (u : TargetUse) (levels : ℕ) (d : Site) (before : State S × ℕ) : Type 0 where
  pub done : IfOk r (λ known. IfSome known (λ value. Does (Ok (flows.Value value)) after (target_run ac (meaning ac) (super levels) u d) before))
  pub refused : IfErr r (λ refusal. Does (Err refusal) after (target_run ac (meaning ac) (super levels) u d) before)
  pub spent : after.1 ≤ before.1
  pub behind : IfOk r (λ known. IfSome known (λ value. c ≡ target_ends (super levels) u d))
  pub none : IfOk r (λ known. known ≡ None → after ≡ before)
  pub stays : IfOk r (λ known. known ≡ None → c ≡ d)
  pub memory : NotMemory r

-- an integer is stored to a target at once, or a refusal of that; where it isn't, nothing changes
pub record StoredInteger {S : Type 0} (ac : Accesses S) (r : Outcome Bool) (c : Site) (after : State S × ℕ) (n : ℕ) (levels : ℕ) (d : Site) (before : State S × ℕ) : Type 0 where
  pub done : IfOk r (λ done. done ≡ true → Does (Ok (flows.Value (values.Integer n))) after (target_run ac (meaning ac) (super levels) (uses.Store (values.Integer n)) d) before)
  pub refused : IfErr r (λ refusal. Does (Err refusal) after (target_run ac (meaning ac) (super levels) (uses.Store (values.Integer n)) d) before)
  pub spent : after.1 ≤ before.1
  pub behind : IfOk r (λ done. done ≡ true → c ≡ behind_target (super levels) d)
  pub none : IfOk r (λ done. done ≡ false → after ≡ before)
  pub stays : IfOk r (λ done. done ≡ false → c ≡ d)
  pub memory : NotMemory r

-- an integer that a target holds is counted up or down at once; where it isn't, nothing changes
pub record CountedTarget {S : Type 0} (ac : Accesses S) (r : Option ℕ) (c : Site) (after : State S × ℕ) (k : Count) (levels : ℕ) (d : Site) (before : State S × ℕ) : Type 0 where
  pub counted : IfSome r (λ n. Does (Ok (flows.Value (values.Integer n))) after (target_run ac (meaning ac) (super levels) (uses.Count k) d) before)
  pub behind : IfSome r (λ n. c ≡ behind_target (super levels) d)
  pub spent : after.1 ≤ before.1
  pub none : r ≡ None → after ≡ before
  pub stays : r ≡ None → c ≡ d

-- a target that is used at once, which leaves this flow, or not: then nothing changes
pub record TakenTarget {S : Type 0} (ac : Accesses S) (r : Bool) (f : Flow) (c : Site) (after : State S × ℕ) (u : TargetUse) (levels : ℕ) (d : Site) (before : State S × ℕ) : Type 0 where
  pub done : r ≡ true → Does (Ok f) after (target_run ac (meaning ac) (super levels) u d) before
  pub behind : r ≡ true → c ≡ target_ends (super levels) u d
  pub spent : after.1 ≤ before.1
  pub none : r ≡ false → after ≡ before
  pub stays : r ≡ false → c ≡ d

-- the value of a term that is made or held without a frame: it takes the steps of the term, and evaluation stands behind it; a refusal is
-- that of the term, or want of memory where memory is taken; where there is none, nothing changes
pub record ShortValue {S : Type 0} (ac : Accesses S) (r : Outcome (Option Value)) (c : Site) (after : State S × ℕ) (levels : ℕ) (d : Site) (before : State S × ℕ) : Type 0 where
  pub value : IfOk r (λ known. IfSome known (λ v. Does (Ok (flows.Value v)) after (term_run ac (meaning ac) d levels) before))
  pub refused : IfErr r (λ refusal. Does (Err refusal) after (term_run ac (meaning ac) d levels) before)
  pub spent : after.1 ≤ before.1
  pub paid : IfOk r (λ known. IfSome known (λ v. after.1 < before.1))
  pub charged : IfErr r (λ refusal. after.1 < before.1)
  pub memory : is_made (first d.place.rest) ≡ false → NotMemory r
  pub behind : IfOk r (λ known. IfSome known (λ v. c ≡ behind_term d levels))
  pub none : IfOk r (λ known. known ≡ None → after ≡ before)
  pub stays : IfOk r (λ known. known ≡ None → c ≡ d)

-- the same by the rule of the term, whose step is paid: where there is none, only the place and the steps may have changed
pub record MadeValue {S : Type 0} (ac : Accesses S) (r : Outcome (Option Value)) (c : Site) (after : State S × ℕ) (rule : Run S Flow × Site) (d : Site) (before : State S × ℕ) : Type 0 where
  pub value : IfOk r (λ known. IfSome known (λ v. Leads ac (meaning ac) (Ok (next.Flow (flows.Value v))) c after rule.0 before))
  pub refused : IfErr r (λ refusal. Leads ac (meaning ac) (Err refusal) c after rule.0 before)
  pub behind : IfOk r (λ known. IfSome known (λ v. c ≡ rule.1))
  pub spent : after.1 ≤ before.1
  pub kept : IfOk r (λ known. known ≡ None → after.0 ≡ before.0)
  pub moves : IfOk r (λ known. known ≡ None → c ≡ at_place d c.place)
