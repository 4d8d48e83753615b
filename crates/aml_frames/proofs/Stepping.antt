-- Chains of `?` that end in what is left to do.
use Rattle.std.specs.Prelude.{◌≡◌, ◌<◌, ◌-◌, ℕ, List, length, Bool, true, false, Option, Some, None, Ok, Err, IsErr, IsErrAnd, refl}
use Rattle.std.proofs.Common.{◌∙◌, ap, sym, subst}
use Rattle.ar_space.specs.Accesses.{Accesses}
use Rattle.ar_space.specs.Outcome.{Outcome, Answers}
use Rattle.ar_space.specs.Change.{Change, Does, give, stop, settle, go_on, ◌>>=◌, ◌>>◌}
use Rattle.ar_space.specs.declared.refusal.Refusal.{Refusal}
use Rattle.ar_space.specs.declared.refusal.Refusal.TheVariants.{OutOfMemory}
use Rattle.aml_path.specs.declared.segment.Seg.{Seg}
use Rattle.aml_grammar.specs.Apart.{code_of, operand_of}
use Rattle.aml_grammar.specs.Shape.{trees_of}
use Rattle.aml_grammar.specs.Tree.{Tree}
use Rattle.aml_marks.specs.Marked.{Place, trees_by, count_at, a_term, over, inside, after, gives, with_row, all_items, an_else, maybe_else}
use Rattle.aml_grammar.specs.State.{is_next}
use Rattle.aml_marks.proofs.Walking.{some_turns, no_turns, one_more, at_end, no_more}
use Rattle.aml_scan.specs.RowsAt.{row_at}
use Rattle.aml_scan.specs.declared.row_places.RowPlace.{RowPlace}
use Rattle.aml_convert.specs.Operators.{is_true}
use Rattle.aml_objects.specs.declared.value.Value.{Value}
use Rattle.aml_world.specs.state.State.{State}
use Rattle.aml_world.specs.state.Run.{Run, lift, charge}
use Rattle.aml_world.specs.state.Readings.{integer_in}
use Rattle.aml_meaning.specs.declared.flow.Flow.{Flow}
use Rattle.aml_meaning.specs.declared.flow.Flow.TheVariants as flow
use Rattle.aml_meaning.specs.declared.term_kind.TermKind.TheVariants as kinds
use Rattle.aml_meaning.specs.declared.term_kind.DataKind.{DataKind}
use Rattle.aml_meaning.specs.declared.term_kind.OperatorKind.{OperatorKind}
use Rattle.aml_meaning.specs.declared.term_kind.StatementKind.{StatementKind}
use Rattle.aml_meaning.specs.Tasks.{value_in, Task, operand_value, operand_integer, value_at, item, in_turn, passes_over, goes_on, after_item}
use Rattle.aml_grammar.specs.declared.kinds.Row.{Row}
use Rattle.aml_meaning.specs.Terms.{inner_of, else_of, kind_of}
use Rattle.aml_meaning.specs.Passing.{passing}
use Rattle.aml_meaning.specs.InvocationTerms.{arguments_in_turn}
use Rattle.aml_grammar.specs.declared.marks.Mark.{Mark}
use Rattle.aml_meaning.specs.Calls.{leaving}
use Rattle.aml_meaning.specs.Meaning.{meaning}
use Rattle.aml_meaning.specs.Evaluation.{rule, code_rule}
use Rattle.aml_meaning.specs.OperatorTerms.{operator_rule}
use Rattle.aml_meaning.specs.declared.term_kind.StatementKind.TheVariants as statements
use Rattle.aml_meaning.specs.StatementTerms.{statement_rule, if_rule, else_rule, while_rule, fatal_rule, branch, otherwise, loop, turn, turn_of, after_turn, loop_end}
use Rattle.aml_meaning.proofs.Runs.{running, does_lift}
use Rattle.aml_meaning.proofs.Meanings.{meaning_is}
use Rattle.aml_meaning.proofs.Loops.{loop_is}
use Rattle.aml_frames.specs.declared.position.Position.{Position}
use Rattle.aml_frames.specs.declared.frames.Call.{Call}
use Rattle.aml_frames.specs.declared.frames.Frame.{Frame}
use Rattle.aml_frames.specs.declared.frames.Frame.TheVariants as frames
use Rattle.aml_frames.specs.declared.frames.Items.{Items}
use Rattle.aml_frames.specs.declared.frames.Loop.{Loop}
use Rattle.aml_frames.specs.declared.frames.Next.{Next}
use Rattle.aml_frames.specs.declared.frames.Next.TheVariants as next
use Rattle.aml_frames.specs.Places.{Site, at_place, terms, next_term, behind_term}
use Rattle.aml_frames.specs.Operands.{inside_at, outside_at, behind_one, items_at, row_kind, operator_tree, statement_tree}
use Rattle.aml_frames.specs.Data.{data_run, behind_data_at}
use Rattle.aml_frames.specs.Follow.{called, arguments_left, behind_arguments, place_of, branch_at, statement_run, behind_statement_at, behind_operator_at, behind_coded, term_run, items_run, loop_site, loop_list, loop_again, turn_left, resumed, ends, Leads, EndsAt}
use Rattle.aml_frames.proofs.PassedItems.{refused_item, passed_item, then_same}
use Rattle.aml_frames.proofs.RuleShapes.{operator_is, statement_is, data_is, behind_operator_is, behind_statement_is, behind_data_is}

-- ---- one after another, and then another: brackets make no difference

bind_on : {S A B C : Type 0} (r : Outcome A) (s : S) (k : A → Change S B) (l : B → Change S C) → go_on (go_on r s k).0 (go_on r s k).1 l ≡ go_on r s (λ a. k a >>= l)
unfolding go_on ◌>>=◌
bind_on (Ok a) s k l = refl
bind_on (Err e) s k l = refl

pub bind_bind : {S A B C : Type 0} (m : Change S A) (k : A → Change S B) (l : B → Change S C) (s : S) → (m >>= k >>= l) s ≡ (m >>= (λ a. k a >>= l)) s
unfolding ◌>>=◌
bind_bind m k l s = bind_on (m s).0 (m s).1 k l

-- an integer that the term gives which stands next
pub integer_run : {S : Type 0} (ac : Accesses S) (c : Site) (levels : ℕ) (k : ℕ → Run S Flow) (s : State S × ℕ) → (operand_integer (meaning ac) c.scope c.depth (next_term c levels) >>= k) s ≡ (term_run ac (meaning ac) c levels >>= (λ f. settle (value_in f) >>= (λ v. lift (integer_in v) >>= k))) s
unfolding operand_integer operand_value
integer_run ac c levels k s =
    bind_bind (term_run ac (meaning ac) c levels >>= (λ f. settle (value_in f))) (λ v. lift (integer_in v)) k s
    ∙ bind_bind (term_run ac (meaning ac) c levels) (λ f. settle (value_in f)) (λ v. lift (integer_in v) >>= k) s

pub ends_if : (c d : Site) (levels : ℕ) (o : Position) → d ≡ at_place c (inside_at c.place) → place_of c o ≡ outside_at c.place → EndsAt (Ok (next.Term levels (frames.If levels o))) d (behind_statement_at statements.If c levels)
ends_if c d levels o e h = rw (e, h) refl

loop_on : {S : Type 0} (ac : Accesses S) (c : Site) (l : Loop) (s : State S × ℕ) → loop_again ac (meaning ac) l c s ≡ (term_run ac (meaning ac) (loop_site l c) l.levels >>= resumed ac (meaning ac) (frames.Predicate l) (behind_term (loop_site l c) l.levels)) s
unfolding turn turn_left
loop_on ac c l s =
    let t = next_term (loop_site l c) l.levels in
    let ts = loop_list l c in
    loop_is ac c.scope c.depth t ts s
    ∙ bind_bind (operand_integer (meaning ac) c.scope c.depth t) (λ x. turn_of (meaning ac) c.scope c.depth ts (is_true x)) (λ f. after_turn (meaning ac) (loop_end f) (loop_again ac (meaning ac) l c)) s
    ∙ integer_run ac (loop_site l c) l.levels (λ x. turn_of (meaning ac) c.scope c.depth ts (is_true x) >>= (λ f. after_turn (meaning ac) (loop_end f) (loop_again ac (meaning ac) l c))) s

pub ends_else : (c d x : Site) (levels : ℕ) → d ≡ at_place c (over 1 c.place) → is_next 161 c.place.rest ≡ true → x ≡ behind_statement_at statements.Else d levels → x ≡ at_place c (maybe_else (terms c levels) c.place).1
unfolding maybe_else an_else inside after gives
ends_else c d x levels e n h = h ∙ rw (e, n) refl

-- ---- where a term ends whose opcode was taken

pub ends_begun : (r : Outcome Next) (e c d : Site) (levels : ℕ) (o : RowPlace) → a_term (count_at c.marks) levels false c.place ≡ with_row (a_term (count_at c.marks) (levels - 1)) (row_at o) d.place → d ≡ at_place c d.place → EndsAt r e (behind_coded o d (levels - 1)) → EndsAt r e (behind_term c levels)
ends_begun r e c d levels o h i l =
    subst (EndsAt r e) (ap (λ (x : Site). behind_coded o (at_place x d.place) (levels - 1)) i ∙ ap (at_place c) (sym (ap (λ (x : Tree × Place). x.1) h))) l

pub ends_operator : (r : Outcome Next) (e c : Site) (levels : ℕ) (k : OperatorKind) (o : RowPlace) → row_kind (row_at o) ≡ kinds.Operator k → EndsAt r e (behind_operator_at k c levels) → EndsAt r e (behind_coded o c levels)
ends_operator r e c levels k o h l = subst (EndsAt r e) (ap (at_place c) (sym (behind_operator_is (terms c levels) k o c.place h))) l

pub ends_data : (r : Outcome Next) (e c : Site) (levels : ℕ) (k : DataKind) (o : RowPlace) → row_kind (row_at o) ≡ kinds.Data k → EndsAt r e (behind_data_at k o c levels) → EndsAt r e (behind_coded o c levels)
ends_data r e c levels k o h l = subst (EndsAt r e) (ap (at_place c) (sym (behind_data_is (terms c levels) k o c.place h))) l

pub ends_statement : (r : Outcome Next) (e c : Site) (levels : ℕ) (k : StatementKind) (o : RowPlace) → row_kind (row_at o) ≡ kinds.Statement k → EndsAt r e (behind_statement_at k c levels) → EndsAt r e (behind_coded o c levels)
ends_statement r e c levels k o h l = subst (EndsAt r e) (ap (at_place c) (sym (behind_statement_is (terms c levels) k o c.place h))) l

-- the kind of the opcode of a row that stands
pub kind_there : (o : RowPlace) (row : Row) → Some row ≡ row_at o → row_kind (row_at o) ≡ kind_of row.0
kind_there o row e = rw (← e) refl

pub ruleset coding = (kind_there, ends_begun, ends_operator, ends_statement, ends_data)

-- ---- where calls end

pub ends_argument : (c : Site) (k j : Call) → 0 < k.left → j ≡ record k { left = k.left - 1 } → ends (frames.Argument j) (behind_term c k.levels) ≡ behind_arguments k c
ends_argument c k j some e = rw e (ap (λ (x : List Tree × Place). at_place c x.1) (sym (some_turns (terms c k.levels false) k.left c.place some)))

pub ends_no_argument : (c : Site) (k : Call) → k.left ≡ 0 → c ≡ behind_arguments k c
ends_no_argument c k none = ap (λ (x : List Tree × Place). at_place c x.1) (sym (no_turns (terms c k.levels false) k.left c.place none))

pub ends_in_call : (r : Outcome Next) (c d : Site) (k : Call) → k.left ≡ 0 → EndsAt r d c → EndsAt r d (behind_arguments k c)
ends_in_call r c d k none h = subst (EndsAt r d) (ends_no_argument c k none) h

-- a list whose items may be passed over
pub list_passing : {S : Type 0} (ac : Accesses S) (c : Site) (i : Items) (n : ℕ) (s : State S × ℕ) → passes_over c.depth s.0.profile ≡ true → 0 < i.left → 0 < length c.place.rest → n ≡ i.left - 1
    → items_run ac (meaning ac) i c s ≡ (passing c.scope (term_run ac (meaning ac) c i.levels) >>= resumed ac (meaning ac) (frames.Items (record { left = n; levels = i.levels; outer = i.outer })) (behind_term c i.levels)) s
unfolding in_turn
list_passing ac c i n s holds some left e =
    rw (e, ap (λ (x : List Tree × Place). trees_of x.0) (one_more (terms c i.levels false) i.left c.place some left))
    (then_same (item (meaning ac) c.scope c.depth (next_term c i.levels)) (passing c.scope (term_run ac (meaning ac) c i.levels)) _ s (passed_item (meaning ac) c.scope c.depth (next_term c i.levels) s holds))

module _ {S : Type 0} {ac : Accesses S} where
  -- ---- what a chain is made of, as for `Does`

  pub leads_give : {c : Site} {s : State S × ℕ} (f : Flow) → Leads ac (meaning ac) (Ok (next.Flow f)) c s (give f) s
  leads_give f = record { is = λ _. refl }

  pub leads_stop : {c : Site} {s : State S × ℕ} (e : Refusal) → Leads ac (meaning ac) (Err e) c s (stop e) s
  leads_stop e = record { is = λ _. refl }

  pub leads_ok : {A : Type 0} {x : A} {r : Outcome Next} {c : Site} {s s1 s2 : State S × ℕ} (m : Run S A) (k : A → Run S Flow) → Does (Ok x) s1 m s → Leads ac (meaning ac) r c s2 (k x) s1 → Leads ac (meaning ac) r c s2 (m >>= k) s
  unfolding ◌>>=◌ go_on
  leads_ok m k h i = record { is = λ ne. rw (h.is tt) (i.is ne) }

  pub leads_err : {A : Type 0} {e : Refusal} {r : Outcome Next} {c : Site} {s s1 : State S × ℕ} (m : Run S A) (k : A → Run S Flow) → Does {A = A} (Err e) s1 m s → IsErr r × IsErrAnd r (λ x. x ≡ e) → Leads ac (meaning ac) r c s1 (m >>= k) s
  unfolding ◌>>=◌ go_on stop
  leads_err {r = Ok x} m k h i = absurd (cc i.0)
  leads_err {r = Err x} m k h i = record { is = λ ne. rw (h.is (λ q. ne (i.1 ∙ q)), i.1) refl }

  pub leads_lift_ok : {A : Type 0} {x : A} {r : Outcome Next} {c : Site} {w w1 : State S} {s2 : State S × ℕ} (b : ℕ) (m : Change (State S) A) (k : A → Run S Flow) → Does (Ok x) w1 m w → Leads ac (meaning ac) r c s2 (k x) (w1, b) → Leads ac (meaning ac) r c s2 (lift m >>= k) (w, b)
  leads_lift_ok b m k h i = leads_ok (lift m) k (does_lift b m h) i

  pub leads_lift_err : {A : Type 0} {e : Refusal} {r : Outcome Next} {c : Site} {w w1 : State S} (b : ℕ) (m : Change (State S) A) (k : A → Run S Flow) → Does {A = A} (Err e) w1 m w → IsErr r × IsErrAnd r (λ x. x ≡ e) → Leads ac (meaning ac) r c (w1, b) (lift m >>= k) (w, b)
  leads_lift_err b m k h i = leads_err (lift m) k (does_lift b m h) i

  pub leads_settle_ok : {A : Type 0} {x : A} {r : Outcome Next} {c : Site} {s s1 : State S × ℕ} (m : Outcome A) (k : A → Run S Flow) → Answers (Ok x) m → Leads ac (meaning ac) r c s1 (k x) s → Leads ac (meaning ac) r c s1 (settle m >>= k) s
  unfolding ◌>>=◌ go_on settle
  leads_settle_ok m k h i = record { is = λ ne. rw (h.is tt) (i.is ne) }

  pub leads_settle_err : {A : Type 0} {e : Refusal} {r : Outcome Next} {c : Site} {s : State S × ℕ} (m : Outcome A) (k : A → Run S Flow) → Answers {A = A} (Err e) m → IsErr r × IsErrAnd r (λ x. x ≡ e) → Leads ac (meaning ac) r c s (settle m >>= k) s
  unfolding ◌>>=◌ go_on settle stop
  leads_settle_err {r = Ok x} m k h i = absurd (cc i.0)
  leads_settle_err {r = Err x} m k h i = record { is = λ ne. rw (h.is (λ q. ne (i.1 ∙ q)), i.1) refl }

  pub leads_memory : {s : State S × ℕ} (r : Outcome Next) (c : Site) (after : State S × ℕ) (m : Run S Flow) → IsErr r × IsErrAnd r (λ e. e ≡ OutOfMemory) → Leads ac (meaning ac) r c after m s
  leads_memory (Ok n) c after m i = absurd (cc i.0)
  leads_memory (Err e) c after m i = record { is = λ ne. absurd (ne i.1) }

  -- ---- terms

  pub leads_meaning : {r : Outcome Next} {c : Site} {s s1 : State S × ℕ} (t : Task) → Leads ac (meaning ac) r c s1 (charge >> rule ac (meaning ac) t) s → Leads ac (meaning ac) r c s1 (meaning ac t) s
  leads_meaning {s = s} t h = record { is = λ ne. meaning_is ac t s ∙ h.is ne }

  -- a term whose opcode was taken
  pub leads_begun : {r : Outcome Next} {e : Site} {s s1 : State S × ℕ} (c d : Site) (levels : ℕ) (o : RowPlace) → a_term (count_at c.marks) levels false c.place ≡ with_row (a_term (count_at c.marks) (levels - 1)) (row_at o) d.place → d ≡ at_place c d.place
      → Leads ac (meaning ac) r e s1 (code_rule ac (meaning ac) (code_of (with_row (terms d (levels - 1)) (row_at o) d.place).0) d.scope d.depth (with_row (terms d (levels - 1)) (row_at o) d.place).0) s
      → Leads ac (meaning ac) r e s1 (code_rule ac (meaning ac) (code_of (next_term c levels)) c.scope c.depth (next_term c levels)) s
  leads_begun {r = r} {e = e} {s = s} {s1 = s1} c d levels o h i l =
      subst (λ (t : Tree). Leads ac (meaning ac) r e s1 (code_rule ac (meaning ac) (code_of t) c.scope c.depth t) s) (sym (ap (λ (x : Tree × Place). x.0) h))
      (subst (λ (x : Site). Leads ac (meaning ac) r e s1 (code_rule ac (meaning ac) (code_of (with_row (terms x (levels - 1)) (row_at o) d.place).0) x.scope x.depth (with_row (terms x (levels - 1)) (row_at o) d.place).0) s) i l)

  pub leads_operator : {r : Outcome Next} {e : Site} {s s1 : State S × ℕ} (c : Site) (levels : ℕ) (k : OperatorKind) (o : RowPlace) → row_kind (row_at o) ≡ kinds.Operator k
      → Leads ac (meaning ac) r e s1 (operator_rule ac (meaning ac) k c.scope c.depth (operator_tree (terms c levels) k c.place)) s
      → Leads ac (meaning ac) r e s1 (code_rule ac (meaning ac) (code_of (with_row (terms c levels) (row_at o) c.place).0) c.scope c.depth (with_row (terms c levels) (row_at o) c.place).0) s
  leads_operator c levels k o h l = rw (operator_is ac (meaning ac) c.scope c.depth (terms c levels) k o c.place h) l

  pub leads_data : {r : Outcome Next} {e : Site} {s s1 : State S × ℕ} (c : Site) (levels : ℕ) (k : DataKind) (o : RowPlace) → row_kind (row_at o) ≡ kinds.Data k
      → Leads ac (meaning ac) r e s1 (data_run (meaning ac) k o c levels) s
      → Leads ac (meaning ac) r e s1 (code_rule ac (meaning ac) (code_of (with_row (terms c levels) (row_at o) c.place).0) c.scope c.depth (with_row (terms c levels) (row_at o) c.place).0) s
  leads_data c levels k o h l = rw (data_is ac (meaning ac) c.scope c.depth (terms c levels) k o c.place h) l

  pub leads_statement : {r : Outcome Next} {e : Site} {s s1 : State S × ℕ} (c : Site) (levels : ℕ) (k : StatementKind) (o : RowPlace) → row_kind (row_at o) ≡ kinds.Statement k
      → Leads ac (meaning ac) r e s1 (statement_rule (meaning ac) k c.scope c.depth (statement_tree (terms c levels) k c.place)) s
      → Leads ac (meaning ac) r e s1 (code_rule ac (meaning ac) (code_of (with_row (terms c levels) (row_at o) c.place).0) c.scope c.depth (with_row (terms c levels) (row_at o) c.place).0) s
  leads_statement c levels k o h l = rw (statement_is ac (meaning ac) c.scope c.depth (terms c levels) k o c.place h) l

  -- ---- a part that is evaluated in the middle of a rule: one of these for each word that rules evaluate parts by

  -- an operand's value
  pub leads_value : {c : Site} {s : State S × ℕ} (levels : ℕ) (x : Frame) (k : Value → Run S Flow) → resumed ac (meaning ac) x (behind_term c levels) ≡ (λ f. settle (value_in f) >>= k) → Leads ac (meaning ac) (Ok (next.Term levels x)) c s (operand_value (meaning ac) c.scope c.depth (next_term c levels) >>= k) s
  unfolding operand_value settle ◌>>=◌ go_on
  leads_value {c = c} {s = s} levels x k e = record { is = λ _. rw e (bind_on {A = Flow} (term_run ac (meaning ac) c levels s).0 (term_run ac (meaning ac) c levels s).1 (λ f. settle (value_in f)) k) }

  -- the value of the operand at a position
  pub leads_value_at : {c : Site} {s : State S × ℕ} (levels : ℕ) (x : Frame) (u : Tree) (i : ℕ) (k : Value → Run S Flow) → inner_of (operand_of u i) ≡ Ok (next_term c levels) → resumed ac (meaning ac) x (behind_term c levels) ≡ (λ f. settle (value_in f) >>= k) → Leads ac (meaning ac) (Ok (next.Term levels x)) c s (value_at (meaning ac) c.scope c.depth u i >>= k) s
  unfolding value_at operand_value settle ◌>>=◌ go_on
  leads_value_at {c = c} {s = s} levels x u i k h e = record { is = λ _. rw (h, e) (bind_on {A = Flow} (term_run ac (meaning ac) c levels s).0 (term_run ac (meaning ac) c levels s).1 (λ f. settle (value_in f)) k) }

  pub leads_settled : {A : Type 0} {r : Outcome Next} {c : Site} {s s1 : State S × ℕ} (x : A) (k : A → Run S Flow) → Leads ac (meaning ac) r c s1 (k x) s → Leads ac (meaning ac) r c s1 (settle (Ok x) >>= k) s
  unfolding ◌>>=◌ go_on settle
  leads_settled x k h = record { is = λ ne. h.is ne }

  -- ---- If

  pub leads_if : {s : State S × ℕ} (c d : Site) (levels : ℕ) (o : Position) → d ≡ at_place c (inside_at c.place) → place_of c o ≡ outside_at c.place → Leads ac (meaning ac) (Ok (next.Term levels (frames.If levels o))) d s (statement_run ac (meaning ac) statements.If c levels) s
  unfolding if_rule ◌>>=◌ go_on settle
  leads_if {s = s} c d levels o e h =
      let b = terms c levels in
      let inside : Site = at_place c (inside_at c.place) in
      let k : Place → ℕ → Run S Flow = λ q x. branch (meaning ac) c.scope c.depth (items_at b (behind_one b (inside_at c.place))) (else_of (Some (maybe_else b q).0)) (is_true x) in
      rw e (record { is = λ _. integer_run ac inside levels (k (outside_at c.place)) s ∙ ap (λ q. (term_run ac (meaning ac) inside levels >>= (λ f. settle (value_in f) >>= (λ v. lift (integer_in v) >>= k q))) s) (sym h) })

  pub leads_branch : {s : State S × ℕ} {n : ℕ} (c d : Site) (levels : ℕ) (o e : Position) (holds : Bool) → holds ≡ true → d ≡ c → n ≡ length c.place.rest → Leads ac (meaning ac) (Ok (next.Items (record { left = n; levels = levels; outer = e }))) d s (branch_at ac (meaning ac) c levels o holds) s
  unfolding all_items
  leads_branch c d levels o e true h i j = rw (i, j) (record { is = λ _. refl })
  leads_branch c d levels o e false h i j = absurd (cc h)

  pub leads_otherwise : {r : Outcome Next} {e : Site} {s s1 : State S × ℕ} (c : Site) (levels : ℕ) (o : Position) (holds : Bool) → holds ≡ false → Leads ac (meaning ac) r e s1 (otherwise (meaning ac) c.scope c.depth (else_of (Some (maybe_else (terms c levels) (place_of c o)).0))) s → Leads ac (meaning ac) r e s1 (branch_at ac (meaning ac) c levels o holds) s
  leads_otherwise c levels o true h l = absurd (cc h)
  leads_otherwise c levels o false h l = l

  -- ---- lists

  pub leads_item : {s : State S × ℕ} (c : Site) (i : Items) (n : ℕ) → passes_over c.depth s.0.profile ≡ false → 0 < i.left → 0 < length c.place.rest → n ≡ i.left - 1 → Leads ac (meaning ac) (Ok (next.Term i.levels (frames.Items (record { left = n; levels = i.levels; outer = i.outer })))) c s (items_run ac (meaning ac) i c) s
  unfolding in_turn
  leads_item {s = s} c i n fails some left e = rw e (record {
    is = λ _.
        rw (ap (λ (x : List Tree × Place). trees_of x.0) (one_more (terms c i.levels false) i.left c.place some left))
        (then_same (item (meaning ac) c.scope c.depth (next_term c i.levels)) (term_run ac (meaning ac) c i.levels) _ s (refused_item (meaning ac) c.scope c.depth (next_term c i.levels) s fails));
  })

  pub leads_no_item : {s : State S × ℕ} (c d : Site) (i : Items) → i.left ≡ 0 → Leads ac (meaning ac) (Ok (next.Flow flow.Next)) d s (items_run ac (meaning ac) i c) s
  unfolding in_turn
  leads_no_item c d i none = record { is = λ _. rw (ap (λ (x : List Tree × Place). trees_of x.0) (no_more (terms c i.levels false) i.left c.place none)) refl }

  pub leads_end : {s : State S × ℕ} (c d : Site) (i : Items) → length c.place.rest ≡ 0 → Leads ac (meaning ac) (Ok (next.Flow flow.Next)) d s (items_run ac (meaning ac) i c) s
  unfolding in_turn
  leads_end c d i none = record { is = λ _. rw (ap (λ (x : List Tree × Place). trees_of x.0) (at_end (terms c i.levels false) i.left c.place none)) refl }

  pub leads_goes_on : {s : State S × ℕ} (c d : Site) (i : Items) (f : Flow) (on : Bool) → on ≡ goes_on f → on ≡ true → d ≡ c → Leads ac (meaning ac) (Ok (next.Items i)) d s (after_item (meaning ac) f (items_run ac (meaning ac) i c)) s
  leads_goes_on c d i f on e h j = rw (j, ← e, h) (record { is = λ _. refl })

  pub leads_goes_off : {s : State S × ℕ} (c d : Site) (i : Items) (f : Flow) (on : Bool) → on ≡ goes_on f → on ≡ false → Leads ac (meaning ac) (Ok (next.Flow f)) d s (after_item (meaning ac) f (items_run ac (meaning ac) i c)) s
  leads_goes_off c d i f on e h = rw (← e, h) (record { is = λ _. refl })

  -- ---- While

  pub leads_loop : {s : State S × ℕ} (c d : Site) (l : Loop) → d ≡ loop_site l c → Leads ac (meaning ac) (Ok (next.Term l.levels (frames.Predicate l))) d s (loop_again ac (meaning ac) l c) s
  leads_loop {s = s} c d l e = rw e (record { is = λ _. loop_on ac c l s })

  pub leads_while : {s : State S × ℕ} (c d : Site) (levels : ℕ) (l : Loop) → d ≡ at_place c (inside_at c.place) → place_of d l.predicate ≡ d.place → l.levels ≡ levels → Leads ac (meaning ac) (Ok (next.Term levels (frames.Predicate l))) d s (statement_run ac (meaning ac) statements.While c levels) s
  unfolding while_rule ◌>>=◌ go_on settle
  leads_while {s = s} c d levels l e h j =
      let b = terms c levels in
      let at : place_of c l.predicate ≡ inside_at c.place = rw e at h in
      let again : Place → State S × ℕ → Outcome Flow × (State S × ℕ) = λ q. loop (meaning ac) c.scope c.depth (b false q).0 (items_at b (b false q).1) in
      let m : loop_again ac (meaning ac) l c s ≡ again (inside_at c.place) s = rw j (ap (λ q. again q s) at) in
      record { is = λ _. sym m ∙ (leads_loop {s = s} c d l (e ∙ ap (at_place c) (sym at))).is tt ∙ rw j refl }

  pub leads_turn : {s : State S × ℕ} (c d : Site) (l : Loop) (holds : Bool) → holds ≡ true → d ≡ c → Leads ac (meaning ac) (Ok (next.Turn l)) d s (turn_left ac (meaning ac) l c holds) s
  unfolding turn_left all_items
  leads_turn c d l true h i = rw i (record { is = λ _. refl })
  leads_turn c d l false h i = absurd (cc h)

  pub leads_no_turn : {s : State S × ℕ} (c d : Site) (l : Loop) (holds : Bool) → holds ≡ false → Leads ac (meaning ac) (Ok (next.Flow flow.Next)) d s (turn_left ac (meaning ac) l c holds) s
  unfolding turn_left give ◌>>=◌ go_on
  leads_no_turn c d l true h = absurd (cc h)
  leads_no_turn c d l false h = record { is = λ _. refl }

  pub leads_again : {r : Outcome Next} {e : Site} {s s1 : State S × ℕ} (c : Site) (l : Loop) (o : Option Flow) (f : Flow) → o ≡ loop_end f → o ≡ None → Leads ac (meaning ac) r e s1 (loop_again ac (meaning ac) l c) s → Leads ac (meaning ac) r e s1 (resumed ac (meaning ac) (frames.Turn l) c f) s
  leads_again c l o f e h k = rw (← e, h) k

  pub leads_ended : {s : State S × ℕ} (c d : Site) (l : Loop) (o : Option Flow) (f g : Flow) → o ≡ loop_end f → o ≡ Some g → Leads ac (meaning ac) (Ok (next.Flow g)) d s (resumed ac (meaning ac) (frames.Turn l) c f) s
  leads_ended c d l o f g e h = rw (← e, h) (record { is = λ _. refl })

  -- an Else that is evaluated
  pub leads_else : {r : Outcome Next} {e : Site} {s s1 : State S × ℕ} (c d : Site) (levels : ℕ) → d ≡ at_place c (over 1 c.place) → Leads ac (meaning ac) r e s1 (charge >> statement_run ac (meaning ac) statements.Else d levels) s → Leads ac (meaning ac) r e s1 (otherwise (meaning ac) c.scope c.depth (Some (an_else (terms c levels) c.place).0)) s
  unfolding rule else_rule an_else inside after gives settle ◌>>=◌ go_on
  leads_else {r = r} {e = e} {s = s} {s1 = s1} c d levels i h = leads_meaning _ (subst (λ (x : Site). Leads ac (meaning ac) r e s1 (charge >> statement_run ac (meaning ac) statements.Else x levels) s) i h)

  -- ---- the other statements

  pub leads_list : {s : State S × ℕ} {n : ℕ} (c d : Site) (levels : ℕ) (o : Position) → d ≡ at_place c (inside_at c.place) → n ≡ length d.place.rest → Leads ac (meaning ac) (Ok (next.Items (record { left = n; levels = levels; outer = o }))) d s (statement_run ac (meaning ac) statements.Else c levels) s
  unfolding else_rule all_items settle ◌>>=◌ go_on
  leads_list c d levels o e h = rw (h, e) (record { is = λ _. refl })

  pub leads_fatal : {s : State S × ℕ} (c d e : Site) (levels : ℕ) → d ≡ at_place c (over 1 c.place) → e ≡ at_place d (over 4 d.place) → Leads ac (meaning ac) (Ok (next.Term levels frames.Fatal)) e s (statement_run ac (meaning ac) statements.Fatal c levels) s
  unfolding fatal_rule
  leads_fatal c d e levels h i = rw (i, h) (leads_value_at levels frames.Fatal (statement_tree (terms c levels) statements.Fatal c.place) 2 _ refl refl)

  -- ---- calls

  pub leads_argument : {s : State S × ℕ} (c : Site) (k j : Call) → 0 < k.left → j ≡ record k { left = k.left - 1 } → Leads ac (meaning ac) (Ok (next.Term k.levels (frames.Argument j))) c s (arguments_left ac (meaning ac) k k.done.items c) s
  unfolding arguments_in_turn operand_value
  leads_argument {s = s} c k j some e = rw e (record { is = λ _. rw (ap (λ (x : List Tree × Place). trees_of x.0) (some_turns (terms c k.levels false) k.left c.place some)) (bind_bind _ _ _ s ∙ bind_bind _ _ _ s) })

  pub leads_no_argument : {r : Outcome Next} {e : Site} {s s1 : State S × ℕ} (c : Site) (k : Call) → k.left ≡ 0 → Leads ac (meaning ac) r e s1 (called ac (meaning ac) k.callee c.depth k.done.items) s → Leads ac (meaning ac) r e s1 (arguments_left ac (meaning ac) k k.done.items c) s
  unfolding arguments_in_turn give ◌>>=◌ go_on
  leads_no_argument c k none h = record { is = λ ne. rw (ap (λ (x : List Tree × Place). trees_of x.0) (no_turns (terms c k.levels false) k.left c.place none)) (h.is ne) }

  -- the body of a control method that was entered
  pub leads_body : {c : Site} {s : State S × ℕ} (b : Site) (p : List Seg) (depth : ℕ) (bs : List ℕ) (marks : List Mark) → b ≡ record { bytes = bs; marks = marks; scope = p; depth = depth; place = record { at = 0; rest = bs } } → Leads ac (meaning ac) (Ok (next.Body b)) c s (leaving p (in_turn (meaning ac) p depth (trees_of (trees_by marks bs)))) s
  leads_body b p depth bs marks e = rw e (record { is = λ _. refl })

-- what closes each step: the rules above, and those of a changed world
pub ruleset stepping = (running, leads_list, leads_fatal, leads_give, leads_stop, leads_ok, leads_err, leads_lift_ok, leads_lift_err, leads_settle_ok, leads_settle_err, leads_memory, leads_meaning, leads_begun, leads_operator, leads_statement, leads_value, leads_value_at, leads_settled, ends_begun)

pub ruleset branching = (leads_if, ends_if, leads_branch, leads_otherwise)

pub ruleset calls = (stepping, leads_argument, leads_no_argument, leads_body, ends_argument, ends_in_call)

pub ruleset elses = (stepping, leads_else, ends_else)

pub ruleset listing = (stepping, leads_no_item, leads_end, leads_goes_on, leads_goes_off)

pub ruleset looping = (stepping, leads_loop, leads_while, leads_turn, leads_no_turn, leads_again, leads_ended)
