-- Operators, what is done with targets, and accesses of fields: steps keep what their rules mean.
use Rattle.std.specs.Prelude.{◌≡◌, ℕ, ◌-◌, List, Bool, true, false, Option, Some, None, Ok, Err, refl}
use Rattle.std.proofs.Common.{◌∙◌, ap, sym, subst}
use Rattle.ar_space.specs.Accesses.{Accesses}
use Rattle.ar_space.specs.Outcome.{Outcome}
use Rattle.ar_space.specs.Change.{give, settle, stop, go_on, ◌>>=◌}
use Rattle.aml_path.specs.declared.segment.Seg.{Seg}
use Rattle.aml_path.specs.Paths.{Name}
use Rattle.aml_grammar.specs.Names.{starts_name}
use Rattle.aml_grammar.specs.declared.opcode.TermCode.TheVariants as codes
use Rattle.aml_grammar.specs.Apart.{code_of}
use Rattle.aml_grammar.specs.Tree.{Tree, term, Part, name, inner, no_parts, part}
use Rattle.aml_marks.specs.Marked.{Place, first, a_name, a_super_name, a_target}
use Rattle.aml_objects.specs.declared.entry.Field.{Field}
use Rattle.aml_objects.specs.declared.value.Reference.{Reference}
use Rattle.aml_objects.specs.declared.value.Value.{Value}
use Rattle.aml_objects.specs.declared.value.Value.TheVariants as value
use Rattle.aml_world.specs.declared.values.store_target.Held.TheVariants as held
use Rattle.aml_world.specs.declared.values.store_target.StoreTarget.{StoreTarget}
use Rattle.aml_world.specs.declared.values.operation_kind.Count.{Count}
use Rattle.aml_world.specs.declared.values.operation_kind.OneOperand.{OneOperand}
use Rattle.aml_world.specs.declared.values.operation_kind.TwoOperands.{TwoOperands}
use Rattle.aml_world.specs.declared.values.operation_kind.Test.{Test}
use Rattle.aml_world.specs.state.State.{State}
use Rattle.aml_world.specs.state.Run.{Run, lift}
use Rattle.aml_world.specs.state.Readings.{integer_in}
use Rattle.aml_world.specs.fields.Regions.{integer_of_bits, value_of_bits, referent_of_bits}
use Rattle.aml_world.specs.fields.Fields.{field_value, field_integer, field_referent, bits_in, written_in}
use Rattle.aml_world.specs.values.Operations.{type_number, type_of_referent}
use Rattle.aml_world.specs.values.StoreTargets.{reference_if_found, reference_of, if_initialized, target_referent, value_followed, followed, most_references}
use Rattle.aml_meaning.specs.declared.flow.Flow.{Flow}
use Rattle.aml_meaning.specs.declared.flow.Flow.TheVariants as flow
use Rattle.aml_meaning.specs.declared.term_kind.TargetKind.{TargetKind}
use Rattle.aml_meaning.specs.declared.term_kind.TargetKind.TheVariants as kinds
use Rattle.aml_meaning.specs.declared.term_kind.OperatorKind.TheVariants as operators
use Rattle.aml_meaning.specs.declared.term_kind.StatementKind.TheVariants as statements
use Rattle.aml_meaning.specs.Tasks.{value_in, operand_value, value_at, two_values}
use Rattle.aml_meaning.specs.Terms.{target_kind}
use Rattle.aml_meaning.specs.Meaning.{meaning}
use Rattle.aml_meaning.specs.FieldCalls.{asked, answer_within, referent_read}
use Rattle.aml_meaning.specs.TargetTerms.{targeted, part_target}
use Rattle.aml_meaning.specs.OperatorTerms.{store_rule, copy_rule, two_rule, divide_rule, one_rule, test_rule, lnot_rule, count_rule, size_rule, type_rule, acquire_rule, reference_rule, dereference_rule, conditional_rule, referent_of_value, referent_of_target, referent_by_kind, referent_by, referent_at, sought, sought_name, sought_target, reference_found, reference_stored}
use Rattle.aml_meaning.specs.StatementTerms.{release_rule, notify_rule}
use Rattle.aml_frames.specs.declared.frames.Frame.TheVariants as frames
use Rattle.aml_frames.specs.declared.frames.Next.{Next}
use Rattle.aml_frames.specs.declared.frames.Next.TheVariants as next
use Rattle.aml_frames.specs.declared.uses.Access.{Access}
use Rattle.aml_frames.specs.declared.uses.Accessed.TheVariants as object
use Rattle.aml_frames.specs.declared.uses.Doing.TheVariants as doing
use Rattle.aml_frames.specs.declared.uses.Dyadic.TheVariants as dyadic
use Rattle.aml_frames.specs.declared.uses.Inquiry.{Inquiry}
use Rattle.aml_frames.specs.declared.uses.Inquiry.TheVariants as inquiry
use Rattle.aml_frames.specs.declared.uses.Monadic.TheVariants as monadic
use Rattle.aml_frames.specs.declared.uses.Reading.{Reading}
use Rattle.aml_frames.specs.declared.uses.Reading.TheVariants as reading
use Rattle.aml_frames.specs.declared.uses.TargetUse.TheVariants as uses
use Rattle.aml_frames.specs.Places.{Site, at_place, terms, next_term, behind_term}
use Rattle.aml_frames.specs.Operands.{behind_one, behind_two, operator_tree, argument_super_at, argument_target_at, arguments_target_at, arguments_targets_at, super_at, super_word_at, super_argument_at}
use Rattle.aml_frames.specs.Uses.{super, optional, behind_target, target_run, access_run, read_as, told, stored_at, inquired, counted_back, found_next, used}
use Rattle.aml_frames.specs.Follow.{read_access, operator_run, statement_run, behind_operator_at, inquiry_kind, Leads, EndsAt}
use Rattle.aml_frames.proofs.Stepping.{bind_bind, leads_value, leads_value_at, leads_data, stepping}
use Rattle.aml_frames.proofs.Targeting.{target_part_is, named_part, term_part, bind_as, bind_same, leads_nested, leads_given, aiming, names_of_targets, kinds_of_targets, operands_of_targets}
use Rattle.aml_frames.proofs.Declaring.{leads_declaration, ends_declaration}
use Rattle.aml_frames.proofs.Beginning.{leads_call, ends_call, leads_no_term, leads_unsupported}
use Rattle.aml_frames.proofs.Weighing.{few_calls, charged_less, charged_paid, step_enough}

abbrev writes : ℕ → Field → List ℕ → Access
writes calls f bytes = record { calls = calls; object = object.Field f; doing = doing.Write bytes }

pub given_one : {S A B : Type 0} (x : A) (k : A → Run S B) (s : State S × ℕ) → (give x >>= k) s ≡ k x s
unfolding give ◌>>=◌ go_on
given_one x k s = refl

told_type : {S A : Type 0} (x : A) (k : A → Run S Flow) (s : State S × ℕ) → (lift (give x) >>= k) s ≡ k x s
unfolding lift give ◌>>=◌ go_on
told_type x k s = refl

-- an integer that is handed on as the value of a flow
pub integer_told : {S : Type 0} (o : Outcome ℕ) (s : State S × ℕ) (k : ℕ → Run S Flow) → go_on o s k ≡ go_on (go_on o s (λ x. give (flow.Value (value.Integer x)))).0 (go_on o s (λ x. give (flow.Value (value.Integer x)))).1 (λ f. settle (value_in f) >>= (λ v. lift (integer_in v) >>= k))
unfolding go_on give settle stop lift ◌>>=◌ integer_in
integer_told (Ok x) s k = refl
integer_told (Err e) s k = refl

counted_one : {S : Type 0} (bytes : List ℕ) (k : ℕ → Run S Flow) (s : State S × ℕ) → (lift (integer_of_bits bytes) >>= k) s ≡ (lift (integer_of_bits bytes) >>= (λ n. give (flow.Value (value.Integer n))) >>= (λ g. settle (value_in g) >>= (λ v. lift (integer_in v) >>= k))) s
unfolding lift ◌>>=◌
counted_one bytes k s = integer_told (integer_of_bits bytes s.0).0 ((integer_of_bits bytes s.0).1, s.1) k

-- whether a term refers whose value is followed
abbrev pub follows : TargetKind → Bool
follows kinds.RefOf = true
follows kinds.DerefOf = true
follows kinds.Index = true
follows _ = false

module _ {S : Type 0} (ac : Accesses S) where
  pub two_run : {A : Type 0} (scope : List Seg) (depth : ℕ) (t : Tree) (k : Value × Value → Run S A) (s : State S × ℕ) → (two_values (meaning ac) scope depth t >>= k) s ≡ (value_at (meaning ac) scope depth t 0 >>= (λ v. value_at (meaning ac) scope depth t 1 >>= (λ u. k (v, u)))) s
  unfolding two_values
  two_run scope depth t k s =
      bind_bind (value_at (meaning ac) scope depth t 0) (λ v. value_at (meaning ac) scope depth t 1 >>= (λ u. give (v, u))) k s
      ∙ bind_same (value_at (meaning ac) scope depth t 0) _ _ s (λ v i. bind_bind (value_at (meaning ac) scope depth t 1) (λ u. give (v, u)) k i ∙ bind_same (value_at (meaning ac) scope depth t 1) _ _ i (λ u j. given_one (v, u) k j))

  inquiry_is : (c : Site) (levels : ℕ) (i : Inquiry) (s : State S × ℕ) → operator_run ac (meaning ac) (inquiry_kind i) c levels s ≡ (referent_at ac (meaning ac) c.scope c.depth (operator_tree (terms c levels) operators.SizeOf c.place) >>= inquired ac (meaning ac) i c) s
  unfolding size_rule type_rule inquired
  inquiry_is c levels inquiry.SizeOf s = refl
  inquiry_is c levels inquiry.ObjectType s =
      bind_same (referent_at ac (meaning ac) c.scope c.depth (operator_tree (terms c levels) operators.SizeOf c.place)) _ _ s (λ r j. bind_same (referent_read ac (meaning ac) c.depth r) _ _ j (λ x k. sym (told_type (value.Integer (type_number (type_of_referent x))) (λ v. give (flow.Value v)) k)))

  -- an operand by itself: what is asked of what it refers to
  abbrev asked_of : Site → Inquiry → Part → Run S Flow
  asked_of c i z = referent_by ac (meaning ac) c.scope c.depth (term codes.Name (part z no_parts)) (Some z) >>= inquired ac (meaning ac) i c

  by_target : (c : Site) (i : Inquiry) (z : Part) (q : Place) (s : State S × ℕ) → (referent_of_target ac (meaning ac) c.scope c.depth (term codes.Name (part z no_parts)) >>= inquired ac (meaning ac) i c) s ≡ (part_target (meaning ac) c.scope c.depth z >>= used ac (meaning ac) (uses.Inquire i) (at_place c q)) s
  unfolding referent_of_target inquired
  by_target c i z q s =
      bind_as (referent_of_target ac (meaning ac) c.scope c.depth (term codes.Name (part z no_parts))) (part_target (meaning ac) c.scope c.depth z >>= (λ p. lift (target_referent p))) (inquired ac (meaning ac) i c) s (ap (λ (m : Run S StoreTarget). m >>= (λ p. lift (target_referent p))) (target_part_is (meaning ac) c.scope c.depth codes.Name (part z no_parts) 0 z refl))
      ∙ bind_bind (part_target (meaning ac) c.scope c.depth z) (λ p. lift (target_referent p)) (inquired ac (meaning ac) i c) s

  by_value : (c : Site) (levels : ℕ) (i : Inquiry) (s : State S × ℕ) → (referent_of_value ac (meaning ac) c.scope c.depth (next_term c levels) >>= inquired ac (meaning ac) i c) s ≡ (operand_value (meaning ac) c.scope c.depth (next_term c levels) >>= (λ v. lift (value_followed (followed most_references) v) >>= inquired ac (meaning ac) i (behind_term c levels))) s
  unfolding referent_of_value inquired
  by_value c levels i s = bind_bind (operand_value (meaning ac) c.scope c.depth (next_term c levels)) (λ v. lift (value_followed (followed most_references) v)) (inquired ac (meaning ac) i c) s

  followed_at : (scope : List Seg) (depth : ℕ) (t u : Tree) (k : TargetKind) → follows k ≡ true → referent_by_kind ac (meaning ac) scope depth t u k ≡ referent_of_value ac (meaning ac) scope depth u
  followed_at scope depth t u kinds.RefOf e = refl
  followed_at scope depth t u kinds.DerefOf e = refl
  followed_at scope depth t u kinds.Index e = refl
  followed_at scope depth t u kinds.Nowhere e = absurd (cc e)
  followed_at scope depth t u (kinds.Slot slot) e = absurd (cc e)
  followed_at scope depth t u kinds.Other e = absurd (cc e)

  targeted_at : (scope : List Seg) (depth : ℕ) (t u : Tree) (k : TargetKind) → follows k ≡ false → referent_by_kind ac (meaning ac) scope depth t u k ≡ referent_of_target ac (meaning ac) scope depth t
  targeted_at scope depth t u kinds.RefOf e = absurd (cc e)
  targeted_at scope depth t u kinds.DerefOf e = absurd (cc e)
  targeted_at scope depth t u kinds.Index e = absurd (cc e)
  targeted_at scope depth t u kinds.Nowhere e = refl
  targeted_at scope depth t u (kinds.Slot slot) e = refl
  targeted_at scope depth t u kinds.Other e = refl

  -- CondRefOf: a reference that is found or not
  found_is : (c : Site) (levels : ℕ) (z : Part) (q : Place) (o : Option Reference) (s : State S × ℕ) → reference_found ac (meaning ac) c.scope c.depth (term codes.Name (part z (part (a_target (terms c levels) q).0 no_parts))) o s ≡ found_next ac (meaning ac) levels o (at_place c q) s
  unfolding reference_stored targeted found_next stored_at
  found_is c levels z q None s = refl
  found_is c levels z q (Some r) s = rw (target_part_is (meaning ac) c.scope c.depth codes.Name (part z (part (a_target (terms c levels) q).0 no_parts)) 1 (a_target (terms c levels) q).0 refl) refl

  -- CondRefOf over its first operand, which stands before a place
  abbrev conditional_of : Site → ℕ → Part × Place → Run S Flow
  conditional_of c levels y = let t = term codes.Name (part y.0 (part (a_target (terms c levels) y.1).0 no_parts)) in sought ac (meaning ac) c.scope c.depth t (Some y.0) >>= reference_found ac (meaning ac) c.scope c.depth t

  conditional_is : (c : Site) (levels : ℕ) → operator_run ac (meaning ac) operators.CondRefOf c levels ≡ conditional_of c levels (a_super_name (terms c levels) c.place)
  unfolding conditional_rule
  conditional_is c levels = refl

  by_name : (c : Site) (levels : ℕ) (n : Name) (q : Place) (s : State S × ℕ) → conditional_of c levels (name n, q) s ≡ (lift (reference_if_found c.scope n) >>= (λ o. found_next ac (meaning ac) levels o (at_place c q))) s
  unfolding sought_name settle ◌>>=◌ go_on
  by_name c levels n q s = bind_same (lift (reference_if_found c.scope n)) _ _ s (λ o i. found_is c levels (name n) q o i)

  by_term : (c : Site) (levels : ℕ) (u : Tree) (q : Place) (s : State S × ℕ) → conditional_of c levels (inner u, q) s ≡ (part_target (meaning ac) c.scope c.depth (inner u) >>= used ac (meaning ac) (uses.CondRefOf levels) (at_place c q)) s
  unfolding sought_target
  by_term c levels u q s =
      let ps = part (inner u) (part (a_target (terms c levels) q).0 no_parts) in
      let t = term codes.Name ps in
      let target = part_target (meaning ac) c.scope c.depth (inner u) in
      let last = reference_found ac (meaning ac) c.scope c.depth t in
      bind_as (sought_target ac (meaning ac) c.scope c.depth t) (target >>= (λ p. lift (reference_of p) >>= (λ x. lift (if_initialized x)))) last s
      (ap (λ (m : Run S StoreTarget). m >>= (λ p. lift (reference_of p) >>= (λ x. lift (if_initialized x)))) (target_part_is (meaning ac) c.scope c.depth codes.Name ps 0 (inner u) refl))
      ∙ bind_bind target (λ p. lift (reference_of p) >>= (λ x. lift (if_initialized x))) last s
      ∙ bind_same target _ _ s (λ p i. bind_bind (lift (reference_of p)) (λ x. lift (if_initialized x)) last i
      ∙ bind_same (lift (reference_of p)) _ _ i (λ x j. bind_same (lift (if_initialized x)) _ _ j (λ o k. found_is c levels (inner u) q o k)))

-- what a field is read as by a term
pub value_read : {S : Type 0} (ac : Accesses S) (c : Site) (f : Field) (s : State S × ℕ) → (field_value ac (asked (answer_within ac (meaning ac) (32 - c.depth))) f >>= (λ v. give (flow.Value v))) s ≡ access_run ac (meaning ac) (read_access c f reading.Value) s
unfolding field_value read_as
value_read ac c f s = bind_bind (bits_in ac (asked (answer_within ac (meaning ac) (32 - c.depth))) f) (λ bytes. lift (value_of_bits _ bytes)) (λ v. give (flow.Value v)) s

module _ {S : Type 0} {ac : Accesses S} where
  -- ---- accesses

  pub leads_read : {r : Outcome Next} {d : Site} {s s1 : State S × ℕ} (c : Site) (depth : ℕ) (f : Field) → depth ≡ c.depth → Leads ac (meaning ac) r d s1 (access_run ac (meaning ac) (read_access c f reading.Value)) s → Leads ac (meaning ac) r d s1 (field_value ac (asked (answer_within ac (meaning ac) (32 - depth))) f >>= (λ v. give (flow.Value v))) s
  leads_read {s = s} c depth f e h = rw e (record { is = λ ne. value_read ac c f s ∙ h.is ne })

  pub leads_told : {r : Outcome Next} {d : Site} {s s1 : State S × ℕ} (c : Site) (depth : ℕ) (f : Field) (i : Inquiry) → depth ≡ c.depth → Leads ac (meaning ac) r d s1 (access_run ac (meaning ac) (read_access c f (reading.Inquire i))) s → Leads ac (meaning ac) r d s1 (field_referent ac (asked (answer_within ac (meaning ac) (32 - depth))) f >>= (λ x. lift (told i x) >>= (λ v. give (flow.Value v)))) s
  unfolding field_referent read_as
  leads_told {s = s} c depth f i e h = rw e (record { is = λ ne. bind_bind (bits_in ac (asked (answer_within ac (meaning ac) (32 - c.depth))) f) (λ bytes. lift (referent_of_bits _ bytes)) (λ x. lift (told i x) >>= (λ v. give (flow.Value v))) s ∙ h.is ne })

  pub leads_counted : {c : Site} {s : State S × ℕ} (depth : ℕ) (k : Count) (p : StoreTarget) (f : Field) → depth ≡ c.depth → Leads ac (meaning ac) (Ok (next.AccessThen (read_access c f reading.Integer) (frames.Counted k (p, f)))) c s (field_integer ac (asked (answer_within ac (meaning ac) (32 - depth))) f >>= (λ n. counted_back ac (meaning ac) k p (held.Field f) c n)) s
  unfolding field_integer read_as
  leads_counted {c = c} {s = s} depth k p f e =
      let m = bits_in ac (asked (answer_within ac (meaning ac) (32 - c.depth))) f in
      let back = counted_back ac (meaning ac) k p (held.Field f) c in
      let after : Flow → Run S Flow = λ g. settle (value_in g) >>= (λ v. lift (integer_in v) >>= back) in
      rw e (record {
        is = λ _.
            bind_bind m (λ bytes. lift (integer_of_bits bytes)) back s
            ∙ bind_same m (λ bytes. lift (integer_of_bits bytes) >>= back) (λ bytes. lift (integer_of_bits bytes) >>= (λ n. give (flow.Value (value.Integer n))) >>= after) s (λ bytes i. counted_one bytes back i)
            ∙ sym (bind_bind m (λ bytes. lift (integer_of_bits bytes) >>= (λ n. give (flow.Value (value.Integer n)))) after s);
      })

  pub leads_written : {c : Site} {s : State S × ℕ} (calls : ℕ) (f : Field) (bytes : List ℕ) (v : Value) → Leads ac (meaning ac) (Ok (next.AccessThen (writes calls f bytes) (frames.Give v))) c s (written_in ac (asked (answer_within ac (meaning ac) calls)) f bytes >>= (λ done. give (flow.Value v))) s
  leads_written {s = s} calls f bytes v =
      let m = written_in ac (asked (answer_within ac (meaning ac) calls)) f bytes in
      record { is = λ _. sym (bind_bind m (λ done. give flow.Next) (λ g. give (flow.Value v)) s ∙ bind_same m _ _ s (λ done i. given_one flow.Next (λ g. give (flow.Value v)) i)) }

  -- ---- two stores

  pub leads_stores : {c : Site} {s : State S × ℕ} (levels : ℕ) (v q : Value) → Leads ac (meaning ac) (Ok (next.Division levels v q)) c s (target_run ac (meaning ac) (optional levels) (uses.Store v) c >>= (λ done. target_run ac (meaning ac) (optional levels) (uses.Store q) (behind_target (optional levels) c))) s
  leads_stores levels v q = record { is = λ _. refl }

  pub leads_found : {c : Site} {s : State S × ℕ} (levels : ℕ) (r : _) → Leads ac (meaning ac) (Ok (next.Found levels r)) c s (found_next ac (meaning ac) levels (Some r) c) s
  unfolding found_next
  leads_found levels r = record { is = λ _. refl }

  -- ---- operators

  pub leads_store : {c : Site} {s : State S × ℕ} (levels : ℕ) → Leads ac (meaning ac) (Ok (next.Term levels (frames.Operand monadic.Store levels))) c s (operator_run ac (meaning ac) operators.Store c levels) s
  unfolding store_rule targeted stored_at
  leads_store {c = c} {s = s} levels = rw (target_part_is (meaning ac) c.scope c.depth codes.Name (argument_super_at (terms c levels) c.place) 1 (a_super_name (terms c levels) (behind_one (terms c levels) c.place)).0 refl) (leads_value_at {c = c} {s = s} levels (frames.Operand monadic.Store levels) (operator_tree (terms c levels) operators.Store c.place) 0 _ refl refl)

  pub leads_copy : {c : Site} {s : State S × ℕ} (levels : ℕ) → Leads ac (meaning ac) (Ok (next.Term levels (frames.Operand monadic.CopyObject levels))) c s (operator_run ac (meaning ac) operators.CopyObject c levels) s
  unfolding copy_rule
  leads_copy {c = c} {s = s} levels = rw (target_part_is (meaning ac) c.scope c.depth codes.Name (argument_super_at (terms c levels) c.place) 1 (a_super_name (terms c levels) (behind_one (terms c levels) c.place)).0 refl) (leads_value_at {c = c} {s = s} levels (frames.Operand monadic.CopyObject levels) (operator_tree (terms c levels) operators.CopyObject c.place) 0 _ refl refl)

  pub leads_one : {c : Site} {s : State S × ℕ} (levels : ℕ) (k : OneOperand) → Leads ac (meaning ac) (Ok (next.Term levels (frames.Operand (monadic.One k) levels))) c s (operator_run ac (meaning ac) (operators.One k) c levels) s
  unfolding one_rule targeted stored_at
  leads_one {c = c} {s = s} levels k = rw (target_part_is (meaning ac) c.scope c.depth codes.Name (argument_target_at (terms c levels) c.place) 1 (a_target (terms c levels) (behind_one (terms c levels) c.place)).0 refl) (leads_value_at {c = c} {s = s} levels (frames.Operand (monadic.One k) levels) (operator_tree (terms c levels) (operators.One k) c.place) 0 _ refl refl)

  pub leads_not : {c : Site} {s : State S × ℕ} (levels : ℕ) → Leads ac (meaning ac) (Ok (next.Term levels (frames.Operand monadic.LNot levels))) c s (operator_run ac (meaning ac) operators.LNot c levels) s
  unfolding lnot_rule
  leads_not {c = c} {s = s} levels = leads_value_at {c = c} {s = s} levels (frames.Operand monadic.LNot levels) (operator_tree (terms c levels) operators.LNot c.place) 0 _ refl refl

  pub leads_deref_of : {c : Site} {s : State S × ℕ} (levels : ℕ) → Leads ac (meaning ac) (Ok (next.Term levels (frames.Operand monadic.DerefOf levels))) c s (operator_run ac (meaning ac) operators.DerefOf c levels) s
  unfolding dereference_rule
  leads_deref_of {c = c} {s = s} levels = leads_value_at {c = c} {s = s} levels (frames.Operand monadic.DerefOf levels) (operator_tree (terms c levels) operators.DerefOf c.place) 0 _ refl refl

  pub leads_two : {c : Site} {s : State S × ℕ} (levels : ℕ) (k : TwoOperands) → Leads ac (meaning ac) (Ok (next.Term levels (frames.First (dyadic.Two k) levels))) c s (operator_run ac (meaning ac) (operators.Two k) c levels) s
  unfolding two_rule targeted stored_at value_at settle ◌>>=◌ go_on
  leads_two {c = c} {s = s} levels k = rw (target_part_is (meaning ac) c.scope c.depth codes.Name (arguments_target_at (terms c levels) c.place) 2 (a_target (terms c levels) (behind_two (terms c levels) c.place)).0 refl) (record { is = λ _. two_run ac c.scope c.depth (operator_tree (terms c levels) (operators.Two k) c.place) _ s ∙ (leads_value_at {c = c} {s = s} levels (frames.First (dyadic.Two k) levels) (operator_tree (terms c levels) (operators.Two k) c.place) 0 _ refl refl).is tt })

  pub leads_divide : {c : Site} {s : State S × ℕ} (levels : ℕ) → Leads ac (meaning ac) (Ok (next.Term levels (frames.First dyadic.Divide levels))) c s (operator_run ac (meaning ac) operators.Divide c levels) s
  unfolding divide_rule targeted stored_at value_at settle ◌>>=◌ go_on
  leads_divide {c = c} {s = s} levels =
      let b = terms c levels in
      let ps = arguments_targets_at b c.place in
      rw (target_part_is (meaning ac) c.scope c.depth codes.Name ps 2 (a_target b (behind_two b c.place)).0 refl, target_part_is (meaning ac) c.scope c.depth codes.Name ps 3 (a_target b (a_target b (behind_two b c.place)).1).0 refl)
      (record { is = λ _. two_run ac c.scope c.depth (operator_tree b operators.Divide c.place) _ s ∙ (leads_value_at {c = c} {s = s} levels (frames.First dyadic.Divide levels) (operator_tree b operators.Divide c.place) 0 _ refl refl).is tt })

  pub leads_test : {c : Site} {s : State S × ℕ} (levels : ℕ) (k : Test) → Leads ac (meaning ac) (Ok (next.Term levels (frames.First (dyadic.Test k) levels))) c s (operator_run ac (meaning ac) (operators.Test k) c levels) s
  unfolding test_rule value_at settle ◌>>=◌ go_on
  leads_test {c = c} {s = s} levels k = record { is = λ _. two_run ac c.scope c.depth (operator_tree (terms c levels) (operators.Test k) c.place) _ s ∙ (leads_value_at {c = c} {s = s} levels (frames.First (dyadic.Test k) levels) (operator_tree (terms c levels) (operators.Test k) c.place) 0 _ refl refl).is tt }

  -- ---- operators of a target

  pub leads_count : {r : Outcome Next} {d : Site} {s s1 : State S × ℕ} (c : Site) (levels : ℕ) (k : Count) → Leads ac (meaning ac) r d s1 (target_run ac (meaning ac) (super levels) (uses.Count k) c) s → Leads ac (meaning ac) r d s1 (operator_run ac (meaning ac) (operators.Count k) c levels) s
  unfolding count_rule counted_back
  leads_count c levels k h = rw (target_part_is (meaning ac) c.scope c.depth codes.Name (super_at (terms c levels) c.place) 0 (a_super_name (terms c levels) c.place).0 refl) h

  pub leads_acquire : {r : Outcome Next} {d : Site} {s s1 : State S × ℕ} (c : Site) (levels : ℕ) → Leads ac (meaning ac) r d s1 (target_run ac (meaning ac) (super levels) uses.Acquire c) s → Leads ac (meaning ac) r d s1 (operator_run ac (meaning ac) operators.Acquire c levels) s
  unfolding acquire_rule
  leads_acquire c levels h = rw (target_part_is (meaning ac) c.scope c.depth codes.Name (super_word_at (terms c levels) c.place) 0 (a_super_name (terms c levels) c.place).0 refl) h

  pub leads_reference : {r : Outcome Next} {d : Site} {s s1 : State S × ℕ} (c : Site) (levels : ℕ) → Leads ac (meaning ac) r d s1 (target_run ac (meaning ac) (super levels) uses.RefOf c) s → Leads ac (meaning ac) r d s1 (operator_run ac (meaning ac) operators.RefOf c levels) s
  unfolding reference_rule
  leads_reference c levels h = rw (target_part_is (meaning ac) c.scope c.depth codes.Name (super_at (terms c levels) c.place) 0 (a_super_name (terms c levels) c.place).0 refl) h

  pub leads_release : {r : Outcome Next} {d : Site} {s s1 : State S × ℕ} (c : Site) (levels : ℕ) → Leads ac (meaning ac) r d s1 (target_run ac (meaning ac) (super levels) uses.Release c) s → Leads ac (meaning ac) r d s1 (statement_run ac (meaning ac) statements.Release c levels) s
  unfolding release_rule
  leads_release c levels h = rw (target_part_is (meaning ac) c.scope c.depth codes.Name (super_at (terms c levels) c.place) 0 (a_super_name (terms c levels) c.place).0 refl) h

  pub leads_notify : {r : Outcome Next} {d : Site} {s s1 : State S × ℕ} (c : Site) (levels : ℕ) → Leads ac (meaning ac) r d s1 (target_run ac (meaning ac) (super levels) (uses.Notify levels) c) s → Leads ac (meaning ac) r d s1 (statement_run ac (meaning ac) statements.Notify c levels) s
  unfolding notify_rule value_at settle ◌>>=◌ go_on
  leads_notify c levels h = rw (target_part_is (meaning ac) c.scope c.depth codes.Name (super_argument_at (terms c levels) c.place) 0 (a_super_name (terms c levels) c.place).0 refl) h

  -- ---- SizeOf and ObjectType

  pub leads_inquiry_name : {r : Outcome Next} {d : Site} {s s1 : State S × ℕ} (c : Site) (levels : ℕ) (i : Inquiry) → starts_name (first c.place.rest) ≡ true → Leads ac (meaning ac) r d s1 (target_run ac (meaning ac) (super levels) (uses.Inquire i) c) s → Leads ac (meaning ac) r d s1 (operator_run ac (meaning ac) (inquiry_kind i) c levels) s
  leads_inquiry_name {s = s} c levels i e h =
      record {
        is = λ ne. inquiry_is ac c levels i s
            ∙ subst (λ (y : Part × Place). asked_of ac c i y.0 s ≡ (part_target (meaning ac) c.scope c.depth y.0 >>= used ac (meaning ac) (uses.Inquire i) (at_place c y.1)) s) (sym (named_part (terms c levels) c.place e)) (by_target ac c i (name (a_name c.place).0) (a_name c.place).1 s)
            ∙ h.is ne;
      }

  pub leads_inquiry_target : {r : Outcome Next} {d : Site} {s s1 : State S × ℕ} (c : Site) (levels : ℕ) (i : Inquiry) (k : TargetKind) → starts_name (first c.place.rest) ≡ false → k ≡ target_kind (code_of (next_term c levels)) → follows k ≡ false → Leads ac (meaning ac) r d s1 (target_run ac (meaning ac) (super levels) (uses.Inquire i) c) s → Leads ac (meaning ac) r d s1 (operator_run ac (meaning ac) (inquiry_kind i) c levels) s
  leads_inquiry_target {s = s} c levels i k e j f h =
      let u = next_term c levels in
      let t = term codes.Name (part (inner u) no_parts) in
      record {
        is = λ ne. inquiry_is ac c levels i s
            ∙ subst (λ (y : Part × Place). asked_of ac c i y.0 s ≡ (part_target (meaning ac) c.scope c.depth y.0 >>= used ac (meaning ac) (uses.Inquire i) (at_place c y.1)) s) (sym (term_part (terms c levels) c.place e))
            (bind_as _ _ (inquired ac (meaning ac) i c) s (ap (referent_by_kind ac (meaning ac) c.scope c.depth t u) (sym j) ∙ targeted_at ac c.scope c.depth t u k f) ∙ by_target ac c i (inner u) (behind_one (terms c levels) c.place) s)
            ∙ h.is ne;
      }

  pub leads_inquiry_value : {s : State S × ℕ} (c : Site) (levels : ℕ) (i : Inquiry) (k : TargetKind) → starts_name (first c.place.rest) ≡ false → k ≡ target_kind (code_of (next_term c levels)) → follows k ≡ true → Leads ac (meaning ac) (Ok (next.Term levels (frames.Referent i))) c s (operator_run ac (meaning ac) (inquiry_kind i) c levels) s
  leads_inquiry_value {s = s} c levels i k e j f =
      let u = next_term c levels in
      let t = term codes.Name (part (inner u) no_parts) in
      let follow : Value → Run S Flow = λ v. lift (value_followed (followed most_references) v) >>= inquired ac (meaning ac) i (behind_term c levels) in
      record {
        is = λ _. inquiry_is ac c levels i s
            ∙ subst (λ (y : Part × Place). asked_of ac c i y.0 s ≡ (operand_value (meaning ac) c.scope c.depth u >>= follow) s) (sym (term_part (terms c levels) c.place e))
            (bind_as _ _ (inquired ac (meaning ac) i c) s (ap (referent_by_kind ac (meaning ac) c.scope c.depth t u) (sym j) ∙ followed_at ac c.scope c.depth t u k f) ∙ by_value ac c levels i s)
            ∙ (leads_value {c = c} {s = s} levels (frames.Referent i) follow refl).is tt;
      }

  -- ---- CondRefOf

  pub leads_conditional_name : {r : Outcome Next} {d : Site} {s s1 : State S × ℕ} (c : Site) (levels : ℕ) → starts_name (first c.place.rest) ≡ true → Leads ac (meaning ac) r d s1 (lift (reference_if_found c.scope (a_name c.place).0) >>= (λ o. found_next ac (meaning ac) levels o (at_place c (a_name c.place).1))) s → Leads ac (meaning ac) r d s1 (operator_run ac (meaning ac) operators.CondRefOf c levels) s
  leads_conditional_name {s = s} c levels e h =
      record { is = λ ne. ap (λ (m : Run S Flow). m s) (conditional_is ac c levels ∙ ap (conditional_of ac c levels) (named_part (terms c levels) c.place e)) ∙ by_name ac c levels (a_name c.place).0 (a_name c.place).1 s ∙ h.is ne }

  pub leads_conditional : {r : Outcome Next} {d : Site} {s s1 : State S × ℕ} (c : Site) (levels : ℕ) → starts_name (first c.place.rest) ≡ false → Leads ac (meaning ac) r d s1 (target_run ac (meaning ac) (super levels) (uses.CondRefOf levels) c) s → Leads ac (meaning ac) r d s1 (operator_run ac (meaning ac) operators.CondRefOf c levels) s
  leads_conditional {s = s} c levels e h =
      record {
        is = λ ne. ap (λ (m : Run S Flow). m s) (conditional_is ac c levels)
            ∙ subst (λ (y : Part × Place). conditional_of ac c levels y s ≡ (part_target (meaning ac) c.scope c.depth y.0 >>= used ac (meaning ac) (uses.CondRefOf levels) (at_place c y.1)) s) (sym (term_part (terms c levels) c.place e)) (by_term ac c levels (next_term c levels) (behind_one (terms c levels) c.place) s)
            ∙ h.is ne;
      }

-- where they end
pub ends_inquiry_value : (c : Site) (levels : ℕ) (i : Inquiry) (x : Site) → starts_name (first c.place.rest) ≡ false → x ≡ behind_term c levels → x ≡ behind_operator_at (inquiry_kind i) c levels
ends_inquiry_value c levels inquiry.SizeOf x e h = h ∙ ap (λ (y : Part × Place). at_place c y.1) (sym (term_part (terms c levels) c.place e))
ends_inquiry_value c levels inquiry.ObjectType x e h = h ∙ ap (λ (y : Part × Place). at_place c y.1) (sym (term_part (terms c levels) c.place e))

pub ends_conditional_name : (r : Outcome Next) (d c : Site) (levels : ℕ) → starts_name (first c.place.rest) ≡ true → EndsAt r d (behind_target (optional levels) (at_place c (a_name c.place).1)) → EndsAt r d (behind_operator_at operators.CondRefOf c levels)
ends_conditional_name r d c levels e h = subst (λ (y : Part × Place). EndsAt r d (behind_target (optional levels) (at_place c y.1))) (sym (named_part (terms c levels) c.place e)) h

-- what closes steps of targets, of what is done with them, and of operators
pub ruleset finding = (aiming, charged_less)

pub ruleset naming = (stepping, names_of_targets, charged_less)

pub ruleset referring = (kinds_of_targets, charged_less)

pub ruleset aimed_operands = (stepping, operands_of_targets, charged_less, charged_paid)

pub ruleset seeking = (stepping, leads_conditional_name, ends_conditional_name)

pub ruleset using_targets = (stepping, leads_nested, leads_given, leads_read, leads_told, leads_counted, leads_written, leads_stores, leads_found, few_calls, step_enough)

pub ruleset beginning_terms = (using_targets, leads_call, ends_call, leads_no_term, leads_unsupported, leads_data, leads_declaration, ends_declaration)

pub ruleset operating = (using_targets, leads_release, leads_notify, leads_store, leads_copy, leads_one, leads_not, leads_deref_of, leads_two, leads_divide, leads_test, leads_count, leads_acquire, leads_reference, leads_inquiry_name, leads_inquiry_target, leads_inquiry_value, ends_inquiry_value, leads_conditional)
