-- What frames, and what steps leave to do, mean: rules cut where a part is evaluated. What a frame means is the rest of its rule.
use Rattle.std.specs.Prelude.{◌≡◌, ℕ, ◌-◌, List, [], ◌∷◌, ◌++◌, length, Bool, Some, Ok, Err, IfOk, false}
use Rattle.ar_space.specs.Accesses.{Accesses}
use Rattle.ar_space.specs.Outcome.{Outcome, NotMemory}
use Rattle.ar_space.specs.Change.{give, stop, settle, ◌>>=◌}
use Rattle.ar_space.specs.declared.refusal.Refusal.TheVariants as refusal
use Rattle.ar_space.specs.declared.refusal.EvaluationFault.TheVariants.{Fatal}
use Rattle.aml_path.specs.declared.segment.Seg.{Seg}
use Rattle.aml_grammar.specs.Apart.{code_of}
use Rattle.aml_grammar.specs.declared.opcode.Opcode.{Opcode}
use Rattle.aml_grammar.specs.Shape.{trees_of}
use Rattle.aml_grammar.specs.Tree.{Trees}
use Rattle.aml_marks.specs.Marked.{Place, count_at, a_name, turns_of, to_end, all_items, maybe_else, walk_levels, with_row}
use Rattle.aml_scan.specs.RowsAt.{row_at}
use Rattle.aml_scan.specs.declared.row_places.RowPlace.{RowPlace}
use Rattle.aml_convert.specs.Operators.{is_true}
use Rattle.aml_objects.specs.declared.entry.NamedObject.TheVariants as object
use Rattle.aml_objects.specs.declared.object.Element.TheVariants as element
use Rattle.aml_objects.specs.declared.entry.Field.{Field}
use Rattle.aml_objects.specs.declared.value.Value.{Value}
use Rattle.aml_objects.specs.declared.value.Value.TheVariants as values
use Rattle.aml_world.specs.state.State.{State}
use Rattle.aml_world.specs.state.Run.{Run, lift}
use Rattle.aml_world.specs.state.Readings.{integer_in, integer_kept}
use Rattle.aml_world.specs.state.NewObjects.{within}
use Rattle.aml_world.specs.declared.values.store_target.Held.TheVariants as held
use Rattle.aml_world.specs.declared.values.store_target.StoreTarget.TheVariants as targets
use Rattle.aml_world.specs.values.StoreTargets.{tested, value_followed, most_references, followed as references_followed, reference_in}
use Rattle.aml_world.specs.state.Osi.{osi_answered}
use Rattle.aml_world.specs.declared.fields.regions.RegionField.{RegionField}
use Rattle.aml_world.specs.fields.Regions.{bank_held}
use Rattle.aml_world.specs.fields.Fields.{unit_bytes, region_written}
use Rattle.aml_world.specs.state.Invocations.{invocation_found, call_allowed}
use Rattle.aml_meaning.specs.declared.flow.Flow.{Flow}
use Rattle.aml_meaning.specs.declared.flow.Flow.TheVariants as flow
use Rattle.aml_meaning.specs.declared.term_kind.OperatorKind.{OperatorKind}
use Rattle.aml_meaning.specs.declared.term_kind.OperatorKind.TheVariants as operators
use Rattle.aml_meaning.specs.declared.term_kind.StatementKind.{StatementKind}
use Rattle.aml_meaning.specs.declared.term_kind.WideKind.{WideKind}
use Rattle.aml_meaning.specs.Tasks.{value_in, Task, task, operand_value, after_item, in_turn}
use Rattle.aml_meaning.specs.Terms.{else_of}
use Rattle.aml_meaning.specs.Evaluation.{code_rule}
use Rattle.aml_meaning.specs.OperatorTerms.{operator_rule}
use Rattle.aml_meaning.specs.WideTerms.{in_wide, wide_rule}
use Rattle.aml_meaning.specs.StatementTerms.{statement_rule, branch, turn_of, after_turn, loop, loop_end}
use Rattle.aml_meaning.specs.InvocationTerms.{arguments_in_turn, invocation_rule}
use Rattle.aml_meaning.specs.Calls.{leaving, invoked}
use Rattle.aml_frames.specs.declared.position.Position.{Position}
use Rattle.aml_frames.specs.declared.frames.Call.{Call}
use Rattle.aml_frames.specs.declared.frames.Callee.{Callee}
use Rattle.aml_frames.specs.declared.frames.Callee.TheVariants as callee
use Rattle.aml_frames.specs.declared.frames.Items.{Items}
use Rattle.aml_frames.specs.declared.frames.Loop.{Loop}
use Rattle.aml_frames.specs.declared.frames.Frame.{Frame}
use Rattle.aml_frames.specs.declared.frames.Frame.TheVariants as frames
use Rattle.aml_frames.specs.declared.frames.Next.{Next}
use Rattle.aml_frames.specs.declared.frames.Next.TheVariants as next
use Rattle.aml_frames.specs.Places.{Site, place_between, at_place, terms, next_term, behind_term}
use Rattle.aml_frames.specs.declared.uses.Access.{Access}
use Rattle.aml_frames.specs.declared.uses.Accessed.TheVariants as accessed
use Rattle.aml_frames.specs.declared.uses.Doing.TheVariants as doing
use Rattle.aml_frames.specs.declared.uses.Reading.{Reading}
use Rattle.aml_frames.specs.declared.uses.Inquiry.{Inquiry}
use Rattle.aml_frames.specs.declared.uses.Inquiry.TheVariants as inquiry
use Rattle.aml_frames.specs.declared.uses.TargetUse.TheVariants as uses
use Rattle.aml_frames.specs.Addresses.{part_met}
use Rattle.aml_frames.specs.Data.{buffer_made, package_left, package_of_all, package_run}
use Rattle.aml_frames.specs.Indexed.{writes_done, unit_given, unit_behind, unit_merged}
use Rattle.aml_frames.specs.Banked as banked
use Rattle.aml_frames.specs.declared.banked.BankedField.{BankedField}
use Rattle.aml_frames.specs.Declarations.{declared_at}
use Rattle.aml_frames.specs.RegionTerms.{part_declared, part_ends}
use Rattle.aml_frames.specs.Matching.{match_left, match_ends, element_read}
use Rattle.aml_frames.specs.Uses.{asking, optional, behind_target, use_ends, target_ends, monadic_ends, dyadic_ends, access_run, inquired, counted_back, used, target_run, monadic_done, middle_done, wait_done, dyadic_by, dyadic_done}
use Rattle.aml_frames.specs.Operands.{operator_tree, statement_tree, wide_tree, behind_operator, behind_statement, behind_wide}

abbrev pub place_of : Site → Position → Place
place_of c o = place_between c.bytes o.at o.end

abbrev pub at_position : Site → Position → Site
at_position c o = at_place c (place_of c o)

-- the items of a list that are left, and where it ends
abbrev pub items_left : Items → Site → Trees
items_left i c = trees_of (to_end (terms c i.levels false) i.left c.place).0

-- all items that are left
abbrev pub all_left : Site → ℕ → Trees
all_left c levels = trees_of (all_items (terms c levels) false c.place).0

-- the list of a While, behind its predicate
abbrev pub loop_site : Loop → Site → Site
loop_site l c = at_position c l.predicate

abbrev pub loop_list : Loop → Site → Trees
loop_list l c = all_left (behind_term (loop_site l c) l.levels) l.levels

-- behind an operator, a statement and any term whose operands stand next
abbrev pub behind_operator_at : OperatorKind → Site → ℕ → Site
behind_operator_at k c levels = at_place c (behind_operator (terms c levels) k c.place)

-- the operators that ask something of what their operand refers to
abbrev pub inquiry_kind : Inquiry → OperatorKind
inquiry_kind inquiry.SizeOf = operators.SizeOf
inquiry_kind inquiry.ObjectType = operators.ObjectType

-- behind a name with its arguments
abbrev pub behind_name_at : Site → ℕ → Site
behind_name_at c levels = at_place c (turns_of (terms c levels false) (count_at c.marks c.place.at) (a_name c.place).1).1

abbrev pub behind_statement_at : StatementKind → Site → ℕ → Site
behind_statement_at k c levels = at_place c (behind_statement (terms c levels) k c.place)

abbrev pub behind_wide_at : WideKind → Site → ℕ → Site
behind_wide_at k c levels = at_place c (behind_wide (terms c levels) k c.place)

abbrev pub behind_coded : RowPlace → Site → ℕ → Site
behind_coded o c levels = at_place c (with_row (terms c levels) (row_at o) c.place).1

-- behind the arguments of a call that are left
abbrev pub behind_arguments : Call → Site → Site
behind_arguments k c = at_place c (turns_of (terms c k.levels false) k.left c.place).1

-- the items of the list of a While, and a read of a field by a term
abbrev pub turn_items : Loop → Site → Items
turn_items l c = record { left = length c.place.rest; levels = l.levels; outer = l.outer }

abbrev pub read_access : Site → Field → Reading → Access
read_access c f how = record { calls = 32 - c.depth; object = accessed.Field f; doing = doing.Read how }

abbrev pub behind_else : Site → ℕ → Position → Site
behind_else c levels o = at_place c (maybe_else (terms c levels) (place_of c o)).1

-- where evaluation stands when all of a frame's term is done
abbrev pub ends : Frame → Site → Site
ends (frames.Items i) c = at_position c i.outer
ends (frames.If levels o) c = behind_else c levels o
ends (frames.Predicate l) c = at_position c l.outer
ends (frames.Turn l) c = at_position c l.outer
ends frames.Return c = c
ends frames.Pause c = c
ends frames.Fatal c = c
ends (frames.Argument k) c = behind_arguments k c
ends (frames.Buffer o) c = at_position c o
ends (frames.VarPackage levels o) c = at_position c o
ends (frames.Element k) c = at_position c k.outer
ends (frames.Operand k levels) c = monadic_ends k levels c
ends (frames.First k levels) c = dyadic_ends k levels (behind_term c levels)
ends (frames.Second o) c = dyadic_ends o.kind o.levels c
ends (frames.Third levels v u) c = behind_target (optional levels) c
ends (frames.Give v) c = c
ends (frames.Quotient levels q) c = behind_target (optional levels) c
ends frames.Found c = c
ends (frames.IndexTarget u) c = use_ends u c
ends (frames.DerefTarget u) c = use_ends u c
ends (frames.Referent i) c = c
ends (frames.Counted k x) c = c
ends (frames.Address x) c = c
ends (frames.UnitChosen l u) c = c
ends (frames.UnitRead l u) c = c
ends (frames.UnitMerged x n) c = c
ends (frames.UnitWritten x) c = c
ends (frames.BankRead l u) c = c
ends (frames.BankWrite x offset n) c = c
ends (frames.Named o) c = c
ends (frames.Scope p node) c = record c { scope = p }
ends (frames.Declaration d) c = part_ends d c
ends (frames.Match levels part) c = match_ends part levels c
ends (frames.Matched x) c = c
ends (frames.Wait e) c = c

-- and when all that a step leaves is done
abbrev pub next_ends : Next → Site → Site
next_ends (next.Flow f) c = c
next_ends (next.Term levels x) c = ends x (behind_term c levels)
next_ends (next.Items i) c = at_position c i.outer
next_ends (next.Turn l) c = ends (frames.Turn l) (at_position c l.outer)
next_ends (next.Scope i p node) c = ends (frames.Scope p node) (at_position c i.outer)
next_ends (next.Package k) c = at_position c k.outer
next_ends (next.Body b) c = c
next_ends (next.BodyThen b x) c = ends (frames.Address x) c
next_ends (next.Target t u) c = target_ends t u c
next_ends (next.Division levels v q) c = ends (frames.Quotient levels q) (target_ends (optional levels) (uses.Store v) c)
next_ends (next.Found levels r) c = ends frames.Found (target_ends (optional levels) (uses.Store (values.Reference r)) c)
next_ends (next.AccessThen a x) c = ends x c
next_ends (next.IntegerThen n x) c = ends x c

-- a step of a rule ends where the rule ends
abbrev pub EndsAt : Outcome Next → Site → Site → Type 0
EndsAt r c behind = IfOk r (λ n. next_ends n c ≡ behind)

module _ {S : Type 0} (accesses : Accesses S) (ev : Task → Run S Flow) where
  abbrev pub term_run : Site → ℕ → Run S Flow
  term_run c levels = ev (task c.scope c.depth (next_term c levels))

  abbrev pub list_run : Site → Trees → Run S Flow
  list_run c ts = in_turn ev c.scope c.depth ts

  abbrev pub items_run : Items → Site → Run S Flow
  items_run i c = list_run c (items_left i c)

  -- the body of a control method that was entered, and what the call leaves
  abbrev pub body_run : Site → Run S Flow
  body_run b = leaving b.scope (list_run b (all_left b walk_levels))

  -- a While again
  abbrev pub loop_again : Loop → Site → Run S Flow
  loop_again l c = loop ev c.scope c.depth (next_term (loop_site l c) l.levels) (loop_list l c)

  -- what is left of a While whose predicate was evaluated, before its list
  unfoldable pub turn_left : Loop → Site → Bool → Run S Flow
  turn_left l c holds = do
    f ← turn_of ev c.scope c.depth (all_left c l.levels) holds
    after_turn ev (loop_end f) (loop_again l c)

  abbrev pub branch_at : Site → ℕ → Position → Bool → Run S Flow
  branch_at c levels o holds = branch ev c.scope c.depth (all_left c levels) (else_of (Some (maybe_else (terms c levels) (place_of c o)).0)) holds

  -- a call whose arguments are evaluated; `\_OSI` has no body
  abbrev pub called : Callee → ℕ → List Value → Run S Flow
  called (callee.Method p body) depth vs = invoked ev depth p body vs
  called callee.Osi depth vs = do
    few ← lift (call_allowed depth)
    v ← lift (osi_answered vs)
    give (flow.Value v)

  -- the arguments of a call that are left behind those that are done, and then the call
  abbrev pub arguments_left : Call → List Value → Site → Run S Flow
  arguments_left k done c = arguments_in_turn ev c.scope c.depth (trees_of (turns_of (terms c k.levels false) k.left c.place).0) done >>= called k.callee c.depth

  -- a name where a value stands, with its arguments behind it
  unfoldable pub name_run : Site → ℕ → Run S Flow
  name_run c levels = do
    i ← lift (invocation_found c.scope (a_name c.place).0 (count_at c.marks c.place.at))
    invocation_rule accesses ev c.scope c.depth (trees_of (turns_of (terms c levels false) (count_at c.marks c.place.at) (a_name c.place).1).0) i

  -- an operator and a statement whose operands stand next
  abbrev pub operator_run : OperatorKind → Site → ℕ → Run S Flow
  operator_run k c levels = operator_rule accesses ev k c.scope c.depth (operator_tree (terms c levels) k c.place)

  abbrev pub statement_run : StatementKind → Site → ℕ → Run S Flow
  statement_run k c levels = statement_rule ev k c.scope c.depth (statement_tree (terms c levels) k c.place)

  -- a term of the wide profile whose operands stand next, and the same where the profile is asked first
  abbrev pub wide_run : WideKind → Site → ℕ → Run S Flow
  wide_run k c levels = wide_rule accesses ev k c.scope c.depth (wide_tree (terms c levels) k c.place)

  abbrev pub asked_run : Opcode → WideKind → Site → ℕ → Run S Flow
  asked_run op k c levels = in_wide op (wide_run k c levels)

  -- the term that stands next, whose step is paid
  abbrev pub begun_run : Site → ℕ → Run S Flow
  begun_run c levels = code_rule accesses ev (code_of (next_term c levels)) c.scope c.depth (next_term c levels)

  -- a term whose opcode was read, by the place of its row
  abbrev pub coded_run : RowPlace → Site → ℕ → Run S Flow
  coded_run o c levels = code_rule accesses ev (code_of (with_row (terms c levels) (row_at o) c.place).0) c.scope c.depth (with_row (terms c levels) (row_at o) c.place).0

  -- what a frame does with the flow that it waits for
  abbrev pub resumed : Frame → Site → Flow → Run S Flow
  resumed (frames.Items i) c f = after_item ev f (items_run i c)
  resumed (frames.If levels o) c f = do
    v ← settle (value_in f)
    x ← lift (integer_in v)
    branch_at c levels o (is_true x)
  resumed (frames.Predicate l) c f = do
    v ← settle (value_in f)
    x ← lift (integer_in v)
    turn_left l c (is_true x)
  resumed (frames.Turn l) c f = after_turn ev (loop_end f) (loop_again l c)
  resumed frames.Return c f = do
    v ← settle (value_in f)
    give (flow.Return v)
  resumed frames.Pause c f = do
    v ← settle (value_in f)
    give flow.Next
  resumed frames.Fatal c f = do
    v ← settle (value_in f)
    stop (refusal.Evaluation Fatal)
  resumed (frames.Argument k) c f = do
    v ← settle (value_in f)
    arguments_left k (k.done.items ++ v ∷ []) c
  resumed (frames.Buffer o) c f = do
    v ← settle (value_in f)
    n ← lift (integer_in v)
    buffer_made n c
  resumed (frames.VarPackage levels o) c f = do
    v ← settle (value_in f)
    n ← lift (integer_in v)
    few ← lift (within 65535 n)
    package_of_all ev n levels c
  resumed (frames.Element k) c f = do
    v ← settle (value_in f)
    package_left ev k (k.done ++ element.Value v ∷ []) c
  resumed (frames.Operand k levels) c f = do
    v ← settle (value_in f)
    monadic_done accesses ev k levels v c
  resumed (frames.First k levels) c f = do
    v ← settle (value_in f)
    u ← operand_value ev c.scope c.depth (next_term c levels)
    dyadic_by accesses ev k levels v u (behind_term c levels)
  resumed (frames.Second o) c f = do
    u ← settle (value_in f)
    dyadic_done accesses ev o u c
  resumed (frames.Third levels v u) c f = do
    n ← settle (value_in f)
    middle_done accesses ev levels v u n c
  resumed (frames.Give v) c f = give (flow.Value v)
  resumed (frames.Quotient levels q) c f = target_run accesses ev (optional levels) (uses.Store q) c
  resumed frames.Found c f = do
    v ← lift (integer_kept 18446744073709551615)
    give (flow.Value v)
  resumed (frames.IndexTarget u) c f = do
    v ← settle (value_in f)
    r ← settle (reference_in v)
    used accesses ev u c (targets.Refers r)
  resumed (frames.DerefTarget u) c f = do
    v ← settle (value_in f)
    r ← settle (reference_in v)
    there ← lift (tested r)
    used accesses ev u c (targets.Refers r)
  resumed (frames.Referent i) c f = do
    v ← settle (value_in f)
    r ← lift (value_followed (references_followed most_references) v)
    inquired accesses ev i c r
  resumed (frames.Counted k x) c f = do
    v ← settle (value_in f)
    n ← lift (integer_in v)
    counted_back accesses ev k x.0 (held.Field x.1) c n
  resumed (frames.Address x) c f = part_met accesses ev x f
  resumed (frames.UnitChosen l u) c f = unit_behind accesses ev l u
  resumed (frames.UnitRead l u) c f = unit_given accesses ev l u f
  resumed (frames.UnitMerged x n) c f = unit_merged accesses ev x n
  resumed (frames.UnitWritten x) c f = writes_done accesses ev x
  resumed (frames.BankRead l u) c f = banked.unit_behind accesses ev l u
  resumed (frames.BankWrite x offset n) c f = banked.unit_merged accesses ev x offset n
  resumed (frames.Named o) c f = do
    v ← settle (value_in f)
    declared_at (object.Data v) (place_of c o) c
  resumed (frames.Scope p node) c f = give f
  resumed (frames.Declaration d) c f = do
    v ← settle (value_in f)
    part_declared ev d v c
  resumed (frames.Match levels part) c f = do
    v ← settle (value_in f)
    match_left accesses ev part levels v c
  resumed (frames.Matched x) c f = do
    v ← settle (value_in f)
    element_read accesses ev c.depth x v
  resumed (frames.Wait e) c f = do
    v ← settle (value_in f)
    wait_done accesses ev e v

  -- the body of a control method that takes no arguments, and then a frame
  abbrev pub entered_then : ℕ → List Seg → List ℕ → Frame → Site → Run S Flow
  entered_then depth p body x c = invoked ev depth p body [] >>= resumed x c

  -- a number is written to a field of a region, as a unit, and then a frame
  abbrev pub number_written_then : ℕ → RegionField → ℕ → Frame → Site → Run S Flow
  number_written_then calls f n x c = do
    done ← region_written accesses (asking accesses ev calls) f (unit_bytes n)
    resumed x c flow.Next

  -- the bank of a field is selected, and then a frame
  abbrev pub selected_then : BankedField → Frame → Site → Run S Flow
  selected_then x k c = do
    held ← settle (bank_held x.bank.field x.bank.value)
    number_written_then x.calls x.bank.field x.bank.value k c

  -- what is left to do
  abbrev pub next_run : Next → Site → Run S Flow
  next_run (next.Flow f) c = give f
  next_run (next.Term levels x) c = term_run c levels >>= resumed x (behind_term c levels)
  next_run (next.Items i) c = items_run i c
  next_run (next.Turn l) c = items_run (turn_items l c) c >>= resumed (frames.Turn l) (at_position c l.outer)
  next_run (next.Scope i p node) c = items_run i c >>= resumed (frames.Scope p node) (at_position c i.outer)
  next_run (next.Package k) c = package_run ev k c
  next_run (next.Body b) c = body_run b
  next_run (next.BodyThen b x) c = body_run b >>= resumed (frames.Address x) c
  next_run (next.Target t u) c = target_run accesses ev t u c
  next_run (next.Division levels v q) c = target_run accesses ev (optional levels) (uses.Store v) c >>= resumed (frames.Quotient levels q) (target_ends (optional levels) (uses.Store v) c)
  next_run (next.Found levels r) c = target_run accesses ev (optional levels) (uses.Store (values.Reference r)) c >>= resumed frames.Found (target_ends (optional levels) (uses.Store (values.Reference r)) c)
  next_run (next.AccessThen a x) c = access_run accesses ev a >>= resumed x c
  next_run (next.IntegerThen n x) c = give (flow.Value (values.Integer n)) >>= resumed x c

  abbrev pub followed : Outcome Next → Site → Run S Flow
  followed (Ok n) c = next_run n c
  followed (Err e) c = stop e

  -- a step of a rule: what the rule does is what is left to do after the step, unless memory ran out
  pub record Leads (r : Outcome Next) (c : Site) (after : State S × ℕ) (m : Run S Flow) (before : State S × ℕ) : Type 0 where
    pub is : NotMemory r → m before ≡ followed r c after
