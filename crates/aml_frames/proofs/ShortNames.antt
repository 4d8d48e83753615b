-- Names of one segment without a prefix that stand next.
use Rattle.std.specs.Prelude.{IsErr, IsErrAnd, ◌≡◌, ℕ, zero, suc, List, [], ◌∷◌, ◌+◌, ◌-◌, ◌<◌, ◌≤◌, length, drop, slice_index_or, Option, Some, None, IfSome, IfOk, IfErr, MatchOption, MatchBool, Bool, true, false, Ok, Err, ◌==◌, ◌&&◌, refl, if◌then◌else◌}
use Rattle.std.proofs.Common.{◌∙◌, sym, ap, subst, arith}
use Rattle.std.proofs.lemmas.Bool.{eqb-true}
use Rattle.ar_space.specs.declared.refusal.Refusal.{Refusal}
use Rattle.ar_space.specs.Accesses.{Accesses}
use Rattle.ar_space.specs.Outcome.{Outcome, seen}
use Rattle.ar_space.specs.Change.{Change, Does, give, settle, go_on, ◌>>=◌}
use Rattle.ar_space.proofs.Changes.{does_ok, does_err, does_give}
use Rattle.aml_path.specs.declared.segment.Seg.{Seg}
use Rattle.aml_path.specs.declared.name.Prefix.TheVariants.{Parents}
use Rattle.aml_path.specs.Characters.{is_lead_name_char, is_name_char, is_segment}
use Rattle.aml_path.specs.Segments.{seg_of, tested}
use Rattle.aml_grammar.specs.declared.opcode.TermCode.TheVariants as codes
use Rattle.aml_grammar.specs.State.{State as Reading, bad_name, past, byte, peek, times}
use Rattle.aml_grammar.specs.Names.{carets, segments_at, name_at, starts_name, lead_name_char, name_char, segment, segments, parents, relative_name, name_string}
use Rattle.aml_grammar.specs.Shape.{parts_of, trees_of}
use Rattle.aml_grammar.specs.Tree.{Tree, term, Part, name, list, no_trees}
use Rattle.aml_marks.specs.Marked.{Place, Below, count_at, over, first, after, gives, prefix_length, segments_length, name_length, bare_state, or_root, a_name, a_super_name, a_call, a_term_in, a_term}
use Rattle.aml_marks.proofs.Walking.{some_levels, no_turns}
use Rattle.aml_objects.specs.declared.entry.Entry.{Entry}
use Rattle.aml_objects.specs.declared.entry.NamedObject.TheVariants as object
use Rattle.aml_objects.specs.declared.entry.FieldUnit.{FieldUnit}
use Rattle.aml_objects.specs.declared.entry.Field.TheVariants as field
use Rattle.aml_objects.specs.declared.node.NodeId.{NodeId}
use Rattle.aml_objects.specs.declared.value.Value.{Value}
use Rattle.aml_objects.specs.declared.value.Value.TheVariants as value
use Rattle.std.specs.FinMap.{get}
use Rattle.aml_namespace.specs.Namespace.{numbered}
use Rattle.aml_namespace.specs.OneSegment.{segment_name}
use Rattle.aml_namespace.specs.Search.{found, found_or_not}
use Rattle.aml_namespace.proofs.Numbering.{numbered_stands}
use Rattle.aml_world.specs.declared.state.invocation.Invocation.TheVariants as invocation
use Rattle.aml_world.specs.declared.values.store_target.StoreTarget.TheVariants as targets
use Rattle.aml_world.specs.declared.values.store_target.Stored.TheVariants as store
use Rattle.aml_world.specs.declared.values.store_target.Held.TheVariants as held
use Rattle.aml_world.specs.declared.values.operation_kind.Count.{Count}
use Rattle.aml_world.specs.state.State.{State}
use Rattle.aml_world.specs.state.Run.{Run, lift, charge}
use Rattle.aml_world.specs.state.Readings.{path_found, integer_in}
use Rattle.aml_world.specs.fields.Fields.{field_value, field_stored}
use Rattle.aml_world.specs.values.Stores.{stored}
use Rattle.aml_world.specs.values.StoreTargets.{held_at, name_read, target_read, target_named}
use Rattle.aml_world.specs.values.Operations.{counted_by}
use Rattle.aml_world.specs.state.Mutexes.{acquired_at, given_back_at}
use Rattle.aml_world.specs.state.Invocations.{use_found}
use Rattle.aml_world.proofs.Uses.{found_is, used}
use Rattle.aml_meaning.specs.declared.flow.Flow.{Flow}
use Rattle.aml_meaning.specs.declared.flow.Flow.TheVariants as flow
use Rattle.aml_meaning.specs.Tasks.{Task, task}
use Rattle.aml_meaning.specs.TargetTerms.{part_target}
use Rattle.aml_meaning.specs.FieldCalls.{asked, answer_within, called_at, stored_to}
use Rattle.aml_meaning.specs.InvocationTerms.{field_rule, invocation_rule, name_value}
use Rattle.aml_meaning.specs.Evaluation.{rule}
use Rattle.aml_meaning.specs.Meaning.{meaning}
use Rattle.aml_meaning.proofs.Agree.{not_zero}
use Rattle.aml_meaning.proofs.Meanings.{does_meaning}
use Rattle.aml_meaning.proofs.Runs.{lift_ok}
use Rattle.aml_frames.specs.declared.uses.TargetUse.TheVariants as uses
use Rattle.aml_frames.specs.Places.{Site, at_place, terms, behind_term}
use Rattle.aml_frames.specs.Follow.{term_run}
use Rattle.aml_frames.specs.Uses.{super, behind_target as behind_super_of, target_ends, target_run, stored_at, counted_back}
use Rattle.aml_frames.specs.at_once.ShortNames.{IsSegmentAt, FindsAt, node_value, Reads, Puts}

-- ---- a segment that stands next is a name

other_lead : (a k : ℕ) (t : Bool) → (a == k) ≡ t → is_lead_name_char a ≡ true → is_lead_name_char k ≡ false → (a == k) ≡ false
other_lead a k true is lead other = absurd (cc (ap is_lead_name_char (eqb-true a k is), lead, other))
other_lead a k false is lead other = is

not_lead : (a k : ℕ) → is_lead_name_char a ≡ true → is_lead_name_char k ≡ false → (a == k) ≡ false
not_lead a k lead other = other_lead a k (a == k) refl lead other

and_is : (x y : Bool) → (x && y) ≡ true → (x ≡ true) × (y ≡ true)
and_is true true e = (refl, refl)
and_is true false e = absurd (cc e)
and_is false true e = absurd (cc e)
and_is false false e = absurd (cc e)

made : (bs : List ℕ) (b : Bool) (is : is_segment bs ≡ b) (s : Seg) → Ok s ≡ tested bs b is → is_segment bs ≡ true
made bs true is s e = is
made bs false is s e = absurd (cc e)

made_of : (bs : List ℕ) (s : Seg) → Ok s ≡ seg_of bs → is_segment bs ≡ true
unfolding seg_of
made_of bs s e = made bs (is_segment bs) refl s e

bound : {S A B : Type 0} {s s1 : S} {a : A} (m : Change S A) (k : A → Change S B) → m s ≡ (Ok a, s1) → (m >>= k) s ≡ k a s1
unfolding ◌>>=◌ go_on
bound m k e = rw e refl

lead_step : (s : Reading) (a : ℕ) (bs : List ℕ) → is_lead_name_char a ≡ true → lead_name_char (record s { rest = a ∷ bs }) ≡ (Ok a, record s { at = s.at + 1; rest = bs })
unfolding lead_name_char byte give ◌>>=◌ go_on
lead_step s a bs lead = ap (λ x. (if x then give {S = Reading} a else bad_name) (record s { at = s.at + 1; rest = bs })) lead

name_step : (s : Reading) (a : ℕ) (bs : List ℕ) → is_name_char a ≡ true → name_char (record s { rest = a ∷ bs }) ≡ (Ok a, record s { at = s.at + 1; rest = bs })
unfolding name_char byte give ◌>>=◌ go_on
name_step s a bs lead = ap (λ x. (if x then give {S = Reading} a else bad_name) (record s { at = s.at + 1; rest = bs })) lead

none_more : (n : ℕ) → 0 + n ≡ n
none_more n = omega arith

module _ (a b c d : ℕ) (bs : List ℕ) (s : Seg) (lead : is_lead_name_char a ≡ true) (second : is_name_char b ≡ true) (third : is_name_char c ≡ true) (fourth : is_name_char d ≡ true) (is : Ok s ≡ seg_of (a ∷ b ∷ c ∷ d ∷ [])) where
  read : (st : Reading) → segment (record st { rest = a ∷ b ∷ c ∷ d ∷ bs }) ≡ (Ok s, record st { at = st.at + 1 + 1 + 1 + 1; rest = bs })
  unfolding segment settle
  read st =
      bound _ _ (lead_step st a (b ∷ c ∷ d ∷ bs) lead) ∙ bound _ _ (name_step (record st { at = st.at + 1 }) b (c ∷ d ∷ bs) second) ∙ bound _ _ (name_step (record st { at = st.at + 1 + 1 }) c (d ∷ bs) third)
      ∙ bound _ _ (name_step (record st { at = st.at + 1 + 1 + 1 }) d bs fourth) ∙ ap (λ x. (x, record st { at = st.at + 1 + 1 + 1 + 1; rest = bs })) (sym is)

  once : (st : Reading) → (times segment 1 (record st { rest = a ∷ b ∷ c ∷ d ∷ bs })).0 ≡ Ok (s ∷ [])
  unfolding times give ◌>>=◌ go_on
  once st = rw (read st) refl

  all_segments : (st : Reading) → (segments (record st { rest = a ∷ b ∷ c ∷ d ∷ bs })).0 ≡ Ok (s ∷ [])
  unfolding segments peek ◌>>=◌ go_on
  all_segments st = (rw (segments_at, not_lead a 0 lead refl, not_lead a 46 lead refl, not_lead a 47 lead refl) refl) ∙ once st

  no_carets : carets (a ∷ b ∷ c ∷ d ∷ bs) ≡ 0
  no_carets = rw (not_lead a 94 lead refl) refl

  relative : (st : Reading) → (relative_name (record st { rest = a ∷ b ∷ c ∷ d ∷ bs })).0 ≡ Ok (segment_name s)
  unfolding relative_name parents give ◌>>=◌ go_on
  relative st =
      ap (λ n. ((segments >>= (λ ss. give {S = Reading} (record { prefix = Parents n; segments = ss }))) (past n (record st { rest = a ∷ b ∷ c ∷ d ∷ bs }))).0) no_carets
      ∙ ap (λ o. (go_on o (segments (record st { at = st.at + 0; rest = a ∷ b ∷ c ∷ d ∷ bs })).1 (λ ss. give {S = Reading} (record { prefix = Parents 0; segments = ss }))).0) (all_segments (record st { at = st.at + 0 }))

  spelled : (st : Reading) → (name_string (record st { rest = a ∷ b ∷ c ∷ d ∷ bs })).0 ≡ Ok (segment_name s)
  unfolding name_string peek ◌>>=◌ go_on
  spelled st = (rw (name_at, not_lead a 0 lead refl, not_lead a 92 lead refl) refl) ∙ relative st

  named : (at : ℕ) → (a_name (record { at = at; rest = a ∷ b ∷ c ∷ d ∷ bs })).0 ≡ segment_name s
  unfolding a_name
  named at = ap (λ o. or_root o) (spelled (bare_state (record { at = at; rest = [] })))

  no_prefix : prefix_length (a ∷ b ∷ c ∷ d ∷ bs) ≡ 0
  no_prefix = rw (not_lead a 92 lead refl) no_carets

  one_length : segments_length (a ∷ b ∷ c ∷ d ∷ bs) ≡ 4
  one_length = rw (not_lead a 0 lead refl, not_lead a 46 lead refl, not_lead a 47 lead refl) refl

  ends : name_length (a ∷ b ∷ c ∷ d ∷ bs) ≡ 4
  ends = ap (λ n. n + segments_length (drop n (a ∷ b ∷ c ∷ d ∷ bs))) no_prefix ∙ none_more _ ∙ one_length

  starts : starts_name a ≡ true
  unfolding starts_name
  starts = rw (not_lead a 92 lead refl, not_lead a 94 lead refl, not_lead a 46 lead refl, not_lead a 47 lead refl, lead) refl

stands_at : (p : Place) (a b c d : ℕ) (bs : List ℕ) (s : Seg) → p.rest ≡ a ∷ b ∷ c ∷ d ∷ bs → Ok s ≡ seg_of (a ∷ b ∷ c ∷ d ∷ []) → IsSegmentAt p s
stands_at p a b c d bs s e is =
    let x = and_is (is_lead_name_char a && is_name_char b && is_name_char c) (is_name_char d) (made_of (a ∷ b ∷ c ∷ d ∷ []) s is) in
    let y = and_is (is_lead_name_char a && is_name_char b) (is_name_char c) x.0 in
    let z = and_is (is_lead_name_char a) (is_name_char b) y.0 in
    rw e (record { name = named a b c d bs s z.0 z.1 y.1 x.1 is p.at; ends = ends a b c d bs s z.0 z.1 y.1 x.1 is; starts = starts a b c d bs s z.0 z.1 y.1 x.1 is })

pub segment_stands : (p : Place) (xs : List ℕ) (s : Seg) → xs ≡ p.rest → 4 ≤ length xs → Ok s ≡ seg_of (slice_index_or xs 0 0 ∷ slice_index_or xs 1 0 ∷ slice_index_or xs 2 0 ∷ slice_index_or xs 3 0 ∷ []) → IsSegmentAt p s
segment_stands p [] s e few is = absurd (omega (arith, few))
segment_stands p (a ∷ []) s e few is = absurd (omega (arith, few))
segment_stands p (a ∷ b ∷ []) s e few is = absurd (omega (arith, few))
segment_stands p (a ∷ b ∷ c ∷ []) s e few is = absurd (omega (arith, few))
segment_stands p (a ∷ b ∷ c ∷ d ∷ bs) s e few is = stands_at p a b c d bs s (sym e) is

pub maybe_stands : (p : Place) (xs : List ℕ) (o : Option Seg) → xs ≡ p.rest → 4 ≤ length xs → IfSome o (λ s. Ok s ≡ seg_of (slice_index_or xs 0 0 ∷ slice_index_or xs 1 0 ∷ slice_index_or xs 2 0 ∷ slice_index_or xs 3 0 ∷ [])) → IfSome o (λ s. IsSegmentAt p s)
maybe_stands p xs None e few is = tt
maybe_stands p xs (Some s) e few is = segment_stands p xs s e few is

-- ---- the node that it finds

pub finds_if : {S : Type 0} (w : State S) (scope : List Seg) (p : Place) (s : Seg) (o : Option NodeId) → IsSegmentAt p s → seen (λ (id : NodeId). numbered id.number w.names.map) (found_or_not o) ≡ seen Some (found w.names.map scope (segment_name s))
    → IfSome o (λ (id : NodeId). FindsAt w scope p id.number)
finds_if w scope p s None h is = tt
finds_if w scope p s (Some id) h is = let f = found_is (numbered id.number w.names.map) (found w.names.map scope (segment_name s)) is in record { segment = s; stands = h; node = f.0; is = f.2; finds = f.1 }

-- ---- a name where a value stands

short_call : (b : Below) (count : ℕ → ℕ) (p : Place) (s : Seg) → IsSegmentAt p s → count p.at ≡ 0 → a_call b count p ≡ (term codes.MethodInvocation (parts_of (name (segment_name s) ∷ list no_trees ∷ [])), over 4 p)
unfolding a_call a_name after gives
short_call b count p s h none =
    ap (λ (x : List Tree × Place). (term codes.MethodInvocation (parts_of (name (a_name p).0 ∷ list (trees_of x.0) ∷ [])), x.1)) (no_turns (b false) (count p.at) (over (name_length p.rest) p) none)
    ∙ ap (λ n. (term codes.MethodInvocation (parts_of (name n ∷ list no_trees ∷ [])), over (name_length p.rest) p)) h.name
    ∙ ap (λ n. (term codes.MethodInvocation (parts_of (name (segment_name s) ∷ list no_trees ∷ [])), over n p)) h.ends

short_named : (b : Below) (count : ℕ → ℕ) (p : Place) → starts_name (first p.rest) ≡ true → a_term_in b count false p ≡ a_call b count p
unfolding a_term_in
short_named b count p h = rw h refl

short_term : (count : ℕ → ℕ) (levels : ℕ) (p : Place) (s : Seg) → IsSegmentAt p s → 0 < levels → count p.at ≡ 0 → a_term count levels false p ≡ (term codes.MethodInvocation (parts_of (name (segment_name s) ∷ list no_trees ∷ [])), over 4 p)
short_term count levels p s h some none = some_levels count levels false p some ∙ short_named (a_term count (levels - 1)) count p h.starts ∙ short_call (a_term count (levels - 1)) count p s h none

module _ {S : Type 0} (accesses : Accesses S) (ev : Task → Run S Flow) (scope : List Seg) (depth : ℕ) (w : State S) (steps : ℕ) where
  value_same : (s : Seg) (f : List Seg × Entry) → found w.names.map scope (segment_name s) ≡ Ok f
      → rule accesses ev (task scope depth (term codes.MethodInvocation (parts_of (name (segment_name s) ∷ list no_trees ∷ [])))) (w, steps) ≡ node_value accesses ev scope depth f (w, steps)
  unfolding rule name_value node_value lift settle ◌>>=◌ go_on
  value_same s f is = ap (λ x. go_on x.0 (x.1, steps) (λ i. invocation_rule accesses ev scope depth no_trees i)) (used w scope (segment_name s) 0 f is)

  value_done : {r : Outcome Flow} {s1 : State S × ℕ} (s : Seg) (f : List Seg × Entry) (t : Tree) → found w.names.map scope (segment_name s) ≡ Ok f → t ≡ term codes.MethodInvocation (parts_of (name (segment_name s) ∷ list no_trees ∷ []))
      → Does r s1 (node_value accesses ev scope depth f) (w, steps) → Does r s1 (rule accesses ev (task scope depth t)) (w, steps)
  value_done s f t is e h = rw e (record { is = λ ne. value_same s f is ∙ h.is ne })

charged : {S : Type 0} (w : State S) (steps : ℕ) → 0 < steps → Does (Ok tt) (w, steps - 1) charge (w, steps)
unfolding charge
charged w zero some = absurd (omega (arith, some))
charged w (suc steps) some = record { is = λ _. rw (not_zero steps) refl }

pub value_at_name : {S : Type 0} {r : Outcome Flow} {w1 : State S} (accesses : Accesses S) (c : Site) (levels : ℕ) (number : ℕ) (w : State S) (steps : ℕ)
    → FindsAt w c.scope c.place number → 0 < levels → count_at c.marks c.place.at ≡ 0 → 0 < steps → Reads accesses number r w1 w → Does r (w1, steps - 1) (term_run accesses (meaning accesses) c levels) (w, steps)
value_at_name accesses c levels number w steps h some none left reads =
    does_meaning accesses _ (does_ok charge _ (charged w steps left)
    (value_done accesses (meaning accesses) c.scope c.depth w (steps - 1) h.segment h.node _ h.finds (ap (λ (x : Tree × Place). x.0) (short_term (count_at c.marks) levels c.place h.segment h.stands some none)) (reads.is (meaning accesses) c.scope c.depth h.node (steps - 1) h.is)))

pub behind_value : {S : Type 0} {w : State S} {number : ℕ} (x c : Site) (levels : ℕ) → x ≡ at_place c (over 4 c.place) → FindsAt w c.scope c.place number → 0 < levels → count_at c.marks c.place.at ≡ 0 → x ≡ behind_term c levels
behind_value x c levels e h some none = e ∙ ap (at_place c) (sym (ap (λ (x : Tree × Place). x.1) (short_term (count_at c.marks) levels c.place h.segment h.stands some none)))

-- what the node holds is its value, or a field's bits are
module _ {S : Type 0} (accesses : Accesses S) (number : ℕ) (w : State S) where
  pub reads_integer : (n : ℕ) → ((f : List Seg × Entry) → numbered number w.names.map ≡ Some f → Does (Ok (invocation.Value (value.Integer n))) w (use_found f 0) w) → Reads accesses number (Ok (flow.Value (value.Integer n))) w w
  unfolding node_value
  reads_integer n h = record { is = λ ev scope depth f steps at. lift_ok steps (use_found f 0) _ (h f at) does_give }

module _ {S : Type 0} (accesses : Accesses S) (number : ℕ) (w w1 : State S) where
  reads_unit : (u : FieldUnit) (n : ℕ) → ((f : List Seg × Entry) → numbered number w.names.map ≡ Some f → Does (Ok (invocation.Field (field.Unit u))) w (use_found f 0) w)
      → ((call : List Seg → Run S ℕ) (steps : ℕ) → Does (Ok (value.Integer n)) (w1, steps) (field_value accesses call (field.Unit u)) (w, steps)) → Reads accesses number (Ok (flow.Value (value.Integer n))) w1 w
  unfolding node_value field_rule
  reads_unit u n h i = record { is = λ ev scope depth f steps at. lift_ok steps (use_found f 0) _ (h f at) (does_ok (field_value accesses (called_at accesses ev depth) (field.Unit u)) _ (i (called_at accesses ev depth) steps) does_give) }

  reads_refused : (u : FieldUnit) (x y : Refusal) → ((f : List Seg × Entry) → numbered number w.names.map ≡ Some f → Does (Ok (invocation.Field (field.Unit u))) w (use_found f 0) w)
      → ((call : List Seg → Run S ℕ) (steps : ℕ) → Does {A = Value} (Err x) (w1, steps) (field_value accesses call (field.Unit u)) (w, steps)) → y ≡ x → Reads accesses number (Err y) w1 w
  unfolding node_value field_rule
  reads_refused u x y h i e = record { is = λ ev scope depth f steps at. lift_ok steps (use_found f 0) _ (h f at) (does_err {B = Flow} {r = Err y} (field_value accesses (called_at accesses ev depth) (field.Unit u)) _ (i (called_at accesses ev depth) steps) (refl, e)) }

  pub reads_if : (u : FieldUnit) (r : Outcome (Option ℕ)) → ((f : List Seg × Entry) → numbered number w.names.map ≡ Some f → Does (Ok (invocation.Field (field.Unit u))) w (use_found f 0) w)
      → IfOk r (λ o. MatchOption o (w1 ≡ w) (λ n. (call : List Seg → Run S ℕ) (steps : ℕ) → Does (Ok (value.Integer n)) (w1, steps) (field_value accesses call (field.Unit u)) (w, steps)))
      → IfOk r (λ o. IfSome o (λ n. Reads accesses number (Ok (flow.Value (value.Integer n))) w1 w))
  reads_if u (Ok None) h i = tt
  reads_if u (Ok (Some n)) h i = reads_unit u n h i
  reads_if u (Err x) h i = tt

  pub refused_if : (u : FieldUnit) (r : Outcome (Option ℕ)) → ((f : List Seg × Entry) → numbered number w.names.map ≡ Some f → Does (Ok (invocation.Field (field.Unit u))) w (use_found f 0) w)
      → IfErr r (λ x. (call : List Seg → Run S ℕ) (steps : ℕ) → Does {A = Value} (Err x) (w1, steps) (field_value accesses call (field.Unit u)) (w, steps)) → IfErr r (λ x. Reads accesses number (Err x) w1 w)
  refused_if u (Ok o) h i = tt
  refused_if u (Err x) h i = reads_refused u x x h i refl

-- ---- a name that is a target

short_super : (below : Below) (p : Place) (s : Seg) → IsSegmentAt p s → a_super_name below p ≡ (name (segment_name s), over 4 p)
unfolding a_super_name a_name
short_super below p s h = rw h.starts (ap (λ n. (name n, over (name_length p.rest) p)) h.name ∙ ap (λ n. (name (segment_name s), over n p)) h.ends)

pub behind_target : {S : Type 0} {w : State S} {number : ℕ} (x c : Site) (levels : ℕ) → x ≡ at_place c (over 4 c.place) → FindsAt w c.scope c.place number → x ≡ behind_super_of (super levels) c
behind_target x c levels e h = e ∙ ap (at_place c) (sym (ap (λ (x : Part × Place). x.1) (short_super (terms c levels) c.place h.segment h.stands)))

-- a timeout stands behind the mutex of Acquire
pub behind_acquired : {S : Type 0} {w : State S} {number : ℕ} (x y c : Site) (levels : ℕ) → y ≡ at_place c (over 4 c.place) → x ≡ at_place y (over 2 y.place) → FindsAt w c.scope c.place number → x ≡ target_ends (super levels) uses.Acquire c
behind_acquired x y c levels e i h = i ∙ ap (λ (z : Site). at_place z (over 2 z.place)) (behind_target y c levels e h)

module _ {S : Type 0} (ev : Task → Run S Flow) (scope : List Seg) (depth : ℕ) (below : Below) (p : Place) where
  named_target : {w : State S} (steps : ℕ) (s : Seg) (z : Part) (f : List Seg × Entry) → z ≡ name (segment_name s) → found w.names.map scope (segment_name s) ≡ Ok f → Does (Ok (targets.Name f.0)) (w, steps) (part_target ev scope depth z) (w, steps)
  unfolding part_target target_named path_found lift give ◌>>=◌ go_on
  named_target steps s z f e is = record { is = λ _. rw (e, is) refl }

  pub target_at_name : {w : State S} {number : ℕ} (steps : ℕ) (h : FindsAt w scope p number) → Does (Ok (targets.Name h.node.0)) (w, steps) (part_target ev scope depth (a_super_name below p).0) (w, steps)
  target_at_name steps h = named_target steps h.segment _ h.node (ap (λ (x : Part × Place). x.0) (short_super below p h.segment h.stands)) h.finds

module _ {S : Type 0} (accesses : Accesses S) (ev : Task → Run S Flow) (c : Site) (levels : ℕ) (number : ℕ) (w w1 : State S) (steps : ℕ) (h : FindsAt w c.scope c.place number) where
  pub put_at_name : (v : Value) → Puts accesses number v (Ok tt) w1 w → Does (Ok (flow.Value v)) (w1, steps) (target_run accesses ev (super levels) (uses.Store v) c) (w, steps)
  unfolding stored_at
  put_at_name v puts = does_ok (part_target ev c.scope c.depth (a_super_name (terms c levels) c.place).0) _ (target_at_name ev c.scope c.depth (terms c levels) c.place steps h) (does_ok (stored_to accesses ev c.depth (targets.Name h.node.0) v) _ (puts.is ev c.depth h.node steps h.is) does_give)

  pub put_refused : (v : Value) (x y : Refusal) → Puts accesses number v (Err x) w1 w → y ≡ x → Does (Err y) (w1, steps) (target_run accesses ev (super levels) (uses.Store v) c) (w, steps)
  unfolding stored_at
  put_refused v x y puts e = does_ok (part_target ev c.scope c.depth (a_super_name (terms c levels) c.place).0) _ (target_at_name ev c.scope c.depth (terms c levels) c.place steps h) (does_err {B = Flow} {r = Err y} (stored_to accesses ev c.depth (targets.Name h.node.0) v) _ (puts.is ev c.depth h.node steps h.is) (refl, e))

  pub acquired_at_name : ((f : List Seg × Entry) → numbered number w.names.map ≡ Some f → Does (Ok tt) w1 (acquired_at (targets.Name f.0)) w) → Does (Ok (flow.Value (value.Integer 0))) (w1, steps) (target_run accesses ev (super levels) uses.Acquire c) (w, steps)
  acquired_at_name i = does_ok (part_target ev c.scope c.depth (a_super_name (terms c levels) c.place).0) _ (target_at_name ev c.scope c.depth (terms c levels) c.place steps h) (lift_ok steps (acquired_at (targets.Name h.node.0)) _ (i h.node h.is) does_give)

  pub released_at_name : ((f : List Seg × Entry) → numbered number w.names.map ≡ Some f → Does (Ok tt) w1 (given_back_at (targets.Name f.0)) w) → Does (Ok flow.Next) (w1, steps) (target_run accesses ev (super levels) uses.Release c) (w, steps)
  released_at_name i = does_ok (part_target ev c.scope c.depth (a_super_name (terms c levels) c.place).0) _ (target_at_name ev c.scope c.depth (terms c levels) c.place steps h) (lift_ok steps (given_back_at (targets.Name h.node.0)) _ (i h.node h.is) does_give)

module _ {S : Type 0} (accesses : Accesses S) (number : ℕ) (w w1 : State S) where
  pub puts_integer : (n : ℕ) → ((f : List Seg × Entry) → numbered number w.names.map ≡ Some f → Does (Ok store.Done) w1 (stored (targets.Name f.0) (value.Integer n)) w) → Puts accesses number (value.Integer n) (Ok tt) w1 w
  unfolding stored_to
  puts_integer n h = record { is = λ ev depth f steps at. lift_ok steps (stored (targets.Name f.0) (value.Integer n)) _ (h f at) does_give }

  puts_unit : {r : Outcome (Unit {0})} (u : FieldUnit) (v : Value) → ((f : List Seg × Entry) → numbered number w.names.map ≡ Some f → (x : Value) → Does (Ok (store.Field (field.Unit u))) w (stored (targets.Name f.0) x) w)
      → ((call : List Seg → Run S ℕ) (steps : ℕ) → Does r (w1, steps) (field_stored accesses call (field.Unit u) v) (w, steps)) → Puts accesses number v r w1 w
  unfolding stored_to
  puts_unit u v h i = record { is = λ ev depth f steps at. lift_ok steps (stored (targets.Name f.0) v) _ (h f at v) (i (called_at accesses ev depth) steps) }

  -- w0: the same world, after what was tried and did nothing
  module _ (w0 : State S) (same : w0 ≡ w) (u : FieldUnit) (v : Value) (h : (f : List Seg × Entry) → numbered number w0.names.map ≡ Some f → (x : Value) → Does (Ok (store.Field (field.Unit u))) w0 (stored (targets.Name f.0) x) w0) where
    puts_same : {r : Outcome (Unit {0})} → ((call : List Seg → Run S ℕ) (steps : ℕ) → Does r (w1, steps) (field_stored accesses call (field.Unit u) v) (w0, steps)) → Puts accesses number v r w1 w
    puts_same {r = r} i = puts_unit u v (subst (λ x. (f : List Seg × Entry) → numbered number x.names.map ≡ Some f → (y : Value) → Does (Ok (store.Field (field.Unit u))) x (stored (targets.Name f.0) y) x) same h)
        (subst (λ x. (call : List Seg → Run S ℕ) (steps : ℕ) → Does r (w1, steps) (field_stored accesses call (field.Unit u) v) (x, steps)) same i)

    pub puts_if : (r : Outcome Bool) → IfOk r (λ done. MatchBool done ((call : List Seg → Run S ℕ) (steps : ℕ) → Does (Ok tt) (w1, steps) (field_stored accesses call (field.Unit u) v) (w0, steps)) (w1 ≡ w0))
        → IfOk r (λ done. done ≡ true → Puts accesses number v (Ok tt) w1 w)
    puts_if (Ok true) i = λ _. puts_same i
    puts_if (Ok false) i = λ e. absurd (cc e)
    puts_if (Err x) i = tt

    pub put_not_if : (r : Outcome Bool) → IfErr r (λ x. (call : List Seg → Run S ℕ) (steps : ℕ) → Does {A = Unit {0}} (Err x) (w1, steps) (field_stored accesses call (field.Unit u) v) (w0, steps)) → IfErr r (λ x. Puts accesses number v (Err x) w1 w)
    put_not_if (Ok done) i = tt
    put_not_if (Err x) i = puts_same i

module _ {S : Type 0} (w : State S) (number : ℕ) (f : List Seg × Entry) (at : numbered number w.names.map ≡ Some f) where
  held_there : (x : ℕ) → f.1.object ≡ object.Data (value.Integer x) → Does (Ok (held.Value (value.Integer x))) w (target_read (targets.Name f.0)) w
  unfolding name_read held_at settle ◌>>=◌ go_on
  held_there x is = let there : get w.names.map f.0 ≡ Some f.1 = numbered_stands w.names.map number f at in record { is = λ _. rw (there, is) refl }

integer_itself : {S : Type 0} (w : State S) (x : ℕ) → Does (Ok x) w (integer_in (value.Integer x)) w
unfolding integer_in
integer_itself w x = record { is = λ _. refl }

pub counted_at_name : {S : Type 0} {w1 : State S} (accesses : Accesses S) (ev : Task → Run S Flow) (c : Site) (levels : ℕ) (k : Count) (number : ℕ) (w : State S) (steps x n : ℕ) → FindsAt w c.scope c.place number
    → ((f : List Seg × Entry) → numbered number w.names.map ≡ Some f → f.1.object ≡ object.Data (value.Integer x)) → Does (Ok (value.Integer n)) w (counted_by k x) w
    → ((f : List Seg × Entry) → numbered number w.names.map ≡ Some f → Does (Ok store.Done) w1 (stored (targets.Name f.0) (value.Integer n)) w)
    → Does (Ok (flow.Value (value.Integer n))) (w1, steps) (target_run accesses ev (super levels) (uses.Count k) c) (w, steps)
unfolding counted_back stored_to
counted_at_name accesses ev c levels k number w steps x n h is counts puts =
    does_ok (part_target ev c.scope c.depth (a_super_name (terms c levels) c.place).0) _ (target_at_name ev c.scope c.depth (terms c levels) c.place steps h)
    (lift_ok steps (target_read (targets.Name h.node.0)) _ (held_there w number h.node h.is x (is h.node h.is))
    (lift_ok steps (integer_in (value.Integer x)) _ (integer_itself w x)
    (lift_ok steps (counted_by k x) _ counts
    (does_ok (stored_to accesses ev c.depth (targets.Name h.node.0) (value.Integer n)) _ (lift_ok steps (stored (targets.Name h.node.0) (value.Integer n)) _ (puts h.node h.is) does_give) does_give))))

-- these close the functions of such names
pub ruleset short_values = (value_at_name, behind_value)

pub ruleset short_targets = (behind_target, put_at_name, put_refused, counted_at_name)

pub ruleset short_mutexes = (behind_target, behind_acquired, acquired_at_name, released_at_name)
