-- Short terms are the terms that they stand for.
use Rattle.std.specs.Prelude.{◌≡◌, ◌≢◌, ◌<◌, ◌≤◌, ◌-◌, ◌==◌, ◌&&◌, not, ℕ, zero, suc, List, Bool, true, false, Option, Some, None, Ok, Err, if◌then◌else◌, refl}
use Rattle.std.proofs.Math.Nat.{mod-eq_of_lt}
use Rattle.ar_space.specs.declared.integer_width.IntegerWidth.{IntegerWidth}
use Rattle.ar_space.specs.declared.integer_width.IntegerWidth.TheVariants.{Bits32, Bits64}
use Rattle.std.proofs.Common.{arith, ◌∙◌, sym, ap}
use Rattle.ar_space.specs.declared.refusal.Refusal.TheVariants as refusal
use Rattle.ar_space.specs.declared.refusal.EvaluationFault.TheVariants.{OutOfSteps}
use Rattle.ar_space.specs.Accesses.{Accesses}
use Rattle.ar_space.specs.Outcome.{Outcome, NotMemory}
use Rattle.ar_space.specs.Change.{Does, settle, go_on, ◌>>=◌}
use Rattle.ar_space.proofs.Changes.{does_ok, does_give}
use Rattle.aml_path.specs.declared.segment.Seg.{Seg}
use Rattle.aml_grammar.specs.declared.opcode.Opcode.{Opcode}
use Rattle.aml_grammar.specs.declared.opcode.TermCode.TheVariants as codes
use Rattle.aml_grammar.specs.declared.kinds.OperandKind.{OperandKind}
use Rattle.aml_grammar.specs.declared.kinds.OperandKind.TheVariants as kinds
use Rattle.aml_grammar.specs.declared.kinds.Row.{Row}
use Rattle.aml_grammar.specs.Grammar.{is_if, is_nothing}
use Rattle.aml_grammar.specs.Names.{starts_name}
use Rattle.aml_grammar.specs.Table.{row_of}
use Rattle.aml_grammar.specs.Tree.{Tree, term, Part, null, number, inner, Parts, no_parts, part}
use Rattle.aml_marks.specs.Marked.{Place, Below, count_at, to_part, over, first, after, gives, inside, an_integer, an_operand, all_operands, of_row, with_row, an_opcode, a_coded, a_term_in, a_term, a_target, a_super_name}
use Rattle.aml_marks.proofs.Walking.{some_levels}
use Rattle.aml_objects.specs.declared.value.Slot.{Slot}
use Rattle.aml_objects.specs.declared.value.Value.{Value}
use Rattle.aml_objects.specs.declared.value.Value.TheVariants as value
use Rattle.aml_convert.specs.Integers.{truncated}
use Rattle.aml_world.specs.declared.values.store_target.StoreTarget.{StoreTarget}
use Rattle.aml_world.specs.declared.values.store_target.StoreTarget.TheVariants as place
use Rattle.aml_world.specs.declared.values.store_target.Stored.TheVariants.{Done}
use Rattle.aml_world.specs.declared.values.operation_kind.Count.{Count}
use Rattle.aml_world.specs.state.State.{State}
use Rattle.aml_world.specs.state.Run.{charge}
use Rattle.aml_world.specs.values.Operations.{counted_by}
use Rattle.aml_world.specs.state.Readings.{integer_kept}
use Rattle.aml_world.specs.values.Stores.{stored}
use Rattle.aml_world.specs.values.StoreTargets.{slot_read, held_in_slot}
use Rattle.aml_world.proofs.IntegerOperations.{does_integer}
use Rattle.aml_meaning.specs.declared.flow.Flow.{Flow}
use Rattle.aml_meaning.specs.declared.flow.Flow.TheVariants as flow
use Rattle.aml_meaning.specs.declared.term_kind.TargetKind.TheVariants as targets
use Rattle.aml_meaning.specs.declared.term_kind.TermKind.{TermKind}
use Rattle.aml_meaning.specs.Terms.{kind_of, target_kind_of}
use Rattle.aml_meaning.specs.Tasks.{task}
use Rattle.aml_meaning.specs.Meaning.{meaning}
use Rattle.aml_meaning.specs.Evaluation.{rule, kind_rule}
use Rattle.aml_meaning.specs.DataTerms.{constant_rule, integer_rule}
use Rattle.aml_meaning.specs.OperatorTerms.{slot_rule}
use Rattle.aml_meaning.specs.TargetTerms.{part_target}
use Rattle.aml_meaning.specs.FieldCalls.{stored_to}
use Rattle.aml_meaning.proofs.Agree.{not_zero}
use Rattle.aml_meaning.proofs.Meanings.{does_meaning}
use Rattle.aml_meaning.proofs.Runs.{does_lift}
use Rattle.aml_meaning.proofs.TargetKinds.{does_target_of}
use Rattle.aml_frames.specs.declared.uses.TargetUse.TheVariants as uses
use Rattle.aml_frames.specs.Places.{Site, at_place, terms, behind_term}
use Rattle.aml_frames.specs.Uses.{super, behind_target, target_run, stored_at, counted_back}
use Rattle.aml_frames.specs.at_once.ShortTerms.{unless, row_alone, is_bare, has_width, width_of, is_number, IsShort}
use Rattle.aml_frames.specs.declared.at_once.short_terms.Short.TheVariants as shorts

-- ---- the row of a byte that is an opcode by itself

both : (x y : Bool) → (x && y) ≡ true → (x ≡ true) × (y ≡ true)
both true y e = (refl, e)
both false y e = absurd (cc e)

not_true : (x : Bool) → not x ≡ true → x ≡ false
not_true true e = absurd (cc e)
not_true false e = refl

pub alone : (x y : Bool) (r : Option Row) → unless x y r ≢ None → (x ≡ false) × ((y ≡ false) × (unless x y r ≡ r))
alone true y r e = absurd (e refl)
alone false true r e = absurd (e refl)
alone false false r e = (refl, (refl, refl))

coded_in : (b : Below) (count : ℕ → ℕ) (element : Bool) (p : Place) → (first p.rest == 0x5B) ≡ false → starts_name (first p.rest) ≡ false → a_term_in b count element p ≡ with_row b (row_of (first p.rest)) (over 1 p)
unfolding a_term_in a_coded an_opcode after gives
coded_in b count element p e f = rw (f, e) refl

bare_some : (r : Option Row) → is_bare r ≡ true → r ≢ None
bare_some None e h = absurd (cc e)
bare_some (Some row) e h = absurd (cc h)

number_some : (r : Option Row) → is_number r ≡ true → r ≢ None
number_some None e h = absurd (cc e)
number_some (Some row) e h = absurd (cc h)

pub alone_term : (count : ℕ → ℕ) (levels : ℕ) (p : Place) → 0 < levels → row_alone (first p.rest) ≢ None → a_term count levels false p ≡ with_row (a_term count (levels - 1)) (row_alone (first p.rest)) (over 1 p)
alone_term count levels p lt some =
    let x = alone (first p.rest == 0x5B) (starts_name (first p.rest)) (row_of (first p.rest)) some in
    some_levels count levels false p lt ∙ coded_in (a_term count (levels - 1)) count false p x.0 x.1.0 ∙ ap (λ r. with_row (a_term count (levels - 1)) r (over 1 p)) (sym x.1.1)

bare_row : (b : Below) (row : Row) (p : Place) → is_bare (Some row) ≡ true → with_row b (Some row) p ≡ (term (codes.Opcode row.0) no_parts, p)
unfolding with_row of_row inside all_operands after gives
bare_row b row p e = let x = both _ _ e in let y = both _ _ x.1 in rw (not_true row.2 x.0, not_true (is_if row.0) y.0, y.1) refl

number_reads : (b : Below) (k : OperandKind) → has_width k ≡ true → (is_nothing k ≡ false) × (an_operand b k ≡ to_part number (an_integer (width_of k)))
unfolding an_operand
number_reads b kinds.ByteData e = (refl, refl)
number_reads b kinds.WordData e = (refl, refl)
number_reads b kinds.DWordData e = (refl, refl)
number_reads b kinds.QWordData e = (refl, refl)
number_reads b _ e = absurd (cc e)

number_row : (b : Below) (row : Row) (p : Place) → is_number (Some row) ≡ true → with_row b (Some row) p ≡ (term (codes.Opcode row.0) (part (number (an_integer (width_of row.3.0) p).0) no_parts), over (width_of row.3.0) p)
unfolding with_row of_row inside all_operands after gives
number_row b row p e =
    let x = both _ _ e in let y = both _ _ x.1 in let z = both _ _ y.1 in let r = number_reads b row.3.0 z.0 in
    rw (not_true row.2 x.0, not_true (is_if row.0) y.0, r.0, r.1, z.1) refl

-- ---- where the term ends

pub behind_bare : (count : ℕ → ℕ) (levels : ℕ) (p : Place) → 0 < levels → is_bare (row_alone (first p.rest)) ≡ true → over 1 p ≡ (a_term count levels false p).1
behind_bare count levels p lt e = by_row (row_alone (first p.rest)) e (alone_term count levels p lt (bare_some _ e))
  where
    by_row : (r : Option Row) → is_bare r ≡ true → a_term count levels false p ≡ with_row (a_term count (levels - 1)) r (over 1 p) → over 1 p ≡ (a_term count levels false p).1
    by_row None e h = absurd (cc e)
    by_row (Some row) e h = sym (ap (λ (x : Tree × Place). x.1) (h ∙ bare_row _ row _ e))

pub behind_number : (count : ℕ → ℕ) (levels n : ℕ) (p : Place) → 0 < levels → IsShort (shorts.Number n) (row_alone (first p.rest)) → over n (over 1 p) ≡ (a_term count levels false p).1
behind_number count levels n p lt e = by_row (row_alone (first p.rest)) e (alone_term count levels p lt (number_some _ e.1.1))
  where
    by_row : (r : Option Row) → IsShort (shorts.Number n) r → a_term count levels false p ≡ with_row (a_term count (levels - 1)) r (over 1 p) → over n (over 1 p) ≡ (a_term count levels false p).1
    by_row None e h = absurd (cc e.1.1)
    by_row (Some row) e h = ap (λ k. over k (over 1 p)) (sym e.1.0) ∙ sym (ap (λ (x : Tree × Place). x.1) (h ∙ number_row _ row _ e.1.1))

-- ---- steps

abbrev stepped : {S : Type 0} → Bool → State S × ℕ → ℕ → Outcome (Unit {0}) × (State S × ℕ)
stepped x s rest = if x then (Err (refusal.Evaluation OutOfSteps), s) else (Ok tt, (s.0, rest))

taken_by : {S : Type 0} (x : Bool) (s s1 : State S × ℕ) (rest : ℕ) → stepped x s rest ≡ (Ok tt, s1) → s1.0 ≡ s.0
taken_by {S = S} true s s1 rest e = absurd (cc (ap (λ (x : Outcome (Unit {0}) × (State S × ℕ)). x.0) e))
taken_by {S = S} false s s1 rest e = sym (ap (λ (x : Outcome (Unit {0}) × (State S × ℕ)). x.1.0) e)

-- a step leaves the world as it was
charged_world : {S : Type 0} (s s1 : State S × ℕ) → Does (Ok tt) s1 charge s → s1.0 ≡ s.0
unfolding charge
charged_world s s1 h = taken_by (s.1 == 0) s s1 (s.1 - 1) (h.is tt)

pub charged_one : {S : Type 0} (w : State S) (n : ℕ) → 0 < n → Does (Ok tt) (w, n - 1) charge (w, n)
unfolding charge
charged_one w zero some = absurd (omega (arith, some))
charged_one w (suc n) some = record { is = λ _. rw (not_zero n) refl }

-- a number is kept as an integer: its lowest 32 or 64 bits
pub does_kept : {S : Type 0} (s : State S) (n m : ℕ) → n ≡ truncated s.width m → Does (Ok (value.Integer n)) s (integer_kept m) s
unfolding integer_kept
does_kept s n m h = record { is = λ _. rw h refl }

-- ---- what the term means

module _ {S : Type 0} (accesses : Accesses S) (scope : List Seg) (depth : ℕ) where
  does_rule : {r : Outcome Flow} {s s1 s2 : State S × ℕ} (op : Opcode) (ps : Parts) (k : TermKind) → kind_of op ≡ k → Does (Ok tt) s1 charge s → Does r s2 (kind_rule accesses (meaning accesses) k op scope depth (term (codes.Opcode op) ps)) s1
      → Does r s2 (meaning accesses (task scope depth (term (codes.Opcode op) ps))) s
  unfolding rule
  does_rule op ps k e h i = does_meaning accesses _ (does_ok charge _ h (rw e i))

  does_slot : {s s1 : State S × ℕ} (slot : Slot) (v : Value) → Does (Ok tt) s1 charge s → Does (Ok v) s.0 (slot_read slot) s.0 → Does (Ok (flow.Value v)) s1 (slot_rule accesses (meaning accesses) slot) s1
  unfolding slot_rule
  does_slot {s = s} {s1 = s1} slot v h i = does_ok _ _ (does_lift s1.1 (slot_read slot) (rw (charged_world s s1 h) i)) does_give

  does_constant : {s : State S × ℕ} (n m : ℕ) → Does (Ok (value.Integer n)) s.0 (integer_kept m) s.0 → Does (Ok (flow.Value (value.Integer n))) s (constant_rule (meaning accesses) m) s
  unfolding constant_rule
  does_constant {s = s} n m i = does_ok _ _ (does_lift s.1 (integer_kept m) i) does_give

  integer_is : (op : Opcode) (m : ℕ) (s : State S × ℕ) → integer_rule (meaning accesses) (term (codes.Opcode op) (part (number m) no_parts)) s ≡ constant_rule (meaning accesses) m s
  unfolding integer_rule settle ◌>>=◌ go_on
  integer_is op m s = refl

  module _ (count : ℕ → ℕ) (levels : ℕ) (p : Place) where
    slot_row : {s s1 : State S × ℕ} (r : Option Row) (slot : Slot) (v : Value) → IsShort (shorts.Slot slot) r → a_term count levels false p ≡ with_row (a_term count (levels - 1)) r (over 1 p)
        → Does (Ok tt) s1 charge s → Does (Ok v) s.0 (slot_read slot) s.0 → Does (Ok (flow.Value v)) s1 (meaning accesses (task scope depth (a_term count levels false p).0)) s
    slot_row None slot v e h c i = absurd (cc e.1.1)
    slot_row (Some row) slot v e h c i = rw (h, bare_row (a_term count (levels - 1)) row (over 1 p) e.1.1) (does_rule row.0 no_parts _ e.0 c (does_slot slot v c i))

    pub does_short_slot : {s s1 : State S × ℕ} (slot : Slot) (v : Value) → 0 < levels → IsShort (shorts.Slot slot) (row_alone (first p.rest))
        → Does (Ok tt) s1 charge s → Does (Ok v) s.0 (slot_read slot) s.0 → Does (Ok (flow.Value v)) s1 (meaning accesses (task scope depth (a_term count levels false p).0)) s
    does_short_slot slot v lt e = slot_row (row_alone (first p.rest)) slot v e (alone_term count levels p lt (bare_some _ e.1.1))

    constant_row : {s s1 : State S × ℕ} (r : Option Row) (m n : ℕ) → IsShort (shorts.Constant m) r → a_term count levels false p ≡ with_row (a_term count (levels - 1)) r (over 1 p)
        → Does (Ok tt) s1 charge s → Does (Ok (value.Integer n)) s1.0 (integer_kept m) s1.0 → Does (Ok (flow.Value (value.Integer n))) s1 (meaning accesses (task scope depth (a_term count levels false p).0)) s
    constant_row None m n e h c i = absurd (cc e.1)
    constant_row (Some row) m n e h c i = rw (h, bare_row (a_term count (levels - 1)) row (over 1 p) e.1) (does_rule row.0 no_parts _ e.0 c (does_constant n m i))

    pub does_short_constant : {s s1 : State S × ℕ} (m n : ℕ) → 0 < levels → IsShort (shorts.Constant m) (row_alone (first p.rest))
        → Does (Ok tt) s1 charge s → Does (Ok (value.Integer n)) s1.0 (integer_kept m) s1.0 → Does (Ok (flow.Value (value.Integer n))) s1 (meaning accesses (task scope depth (a_term count levels false p).0)) s
    does_short_constant m n lt e = constant_row (row_alone (first p.rest)) m n e (alone_term count levels p lt (bare_some _ e.1))

    does_integer_rule : {s : State S × ℕ} (op : Opcode) (n m : ℕ) → Does (Ok (value.Integer n)) s.0 (integer_kept m) s.0 → Does (Ok (flow.Value (value.Integer n))) s (integer_rule (meaning accesses) (term (codes.Opcode op) (part (number m) no_parts))) s
    does_integer_rule {s = s} op n m i = record { is = λ ne. integer_is op m s ∙ (does_constant n m i).is ne }

    number_term : {s s1 : State S × ℕ} (r : Option Row) (k n : ℕ) → IsShort (shorts.Number k) r → a_term count levels false p ≡ with_row (a_term count (levels - 1)) r (over 1 p)
        → Does (Ok tt) s1 charge s → Does (Ok (value.Integer n)) s1.0 (integer_kept (an_integer k (over 1 p)).0) s1.0 → Does (Ok (flow.Value (value.Integer n))) s1 (meaning accesses (task scope depth (a_term count levels false p).0)) s
    number_term None k n e h c i = absurd (cc e.1.1)
    number_term (Some row) k n e h c i =
        rw (h, number_row (a_term count (levels - 1)) row (over 1 p) e.1.1, e.1.0) (does_rule row.0 _ _ e.0 c (does_integer_rule row.0 n (an_integer k (over 1 p)).0 i))

    pub does_short_number : {s s1 : State S × ℕ} (k m n : ℕ) → 0 < levels → IsShort (shorts.Number k) (row_alone (first p.rest)) → m ≡ (an_integer k (over 1 p)).0
        → Does (Ok tt) s1 charge s → Does (Ok (value.Integer n)) s1.0 (integer_kept m) s1.0 → Does (Ok (flow.Value (value.Integer n))) s1 (meaning accesses (task scope depth (a_term count levels false p).0)) s
    does_short_number k m n lt e same c i = number_term (row_alone (first p.rest)) k n e (alone_term count levels p lt (number_some _ e.1.1)) c (rw (← same) i)

-- ---- targets

no_name : (p : Place) → row_alone (first p.rest) ≢ None → starts_name (first p.rest) ≡ false
no_name p some = (alone (first p.rest == 0x5B) (starts_name (first p.rest)) (row_of (first p.rest)) some).1.0

super_is : (b : Below) (p : Place) → starts_name (first p.rest) ≡ false → a_super_name b p ≡ (inner (b false p).0, (b false p).1)
unfolding a_super_name
super_is b p e = rw e refl

pub behind_super : (count : ℕ → ℕ) (levels : ℕ) (p : Place) → 0 < levels → is_bare (row_alone (first p.rest)) ≡ true → over 1 p ≡ (a_super_name (a_term count levels) p).1
behind_super count levels p lt e = behind_bare count levels p lt e ∙ sym (ap (λ (x : Part × Place). x.1) (super_is (a_term count levels) p (no_name p (bare_some _ e))))

module _ {S : Type 0} (accesses : Accesses S) (scope : List Seg) (depth : ℕ) where
  slot_target : {s : State S × ℕ} (op : Opcode) (slot : Slot) → target_kind_of op ≡ targets.Slot slot → Does (Ok (place.Slot slot)) s (part_target (meaning accesses) scope depth (inner (term (codes.Opcode op) no_parts))) s
  unfolding part_target
  slot_target op slot e = does_target_of (meaning accesses) scope depth (term (codes.Opcode op) no_parts) (rw e does_give)

  does_stored : {w w1 : State S} (n : ℕ) (t : StoreTarget) (v : Value) → Does (Ok Done) w1 (stored t v) w → Does (Ok tt) (w1, n) (stored_to accesses (meaning accesses) depth t v) (w, n)
  unfolding stored_to
  does_stored n t v h = does_ok _ _ (does_lift n (stored t v) h) does_give

  module _ (count : ℕ → ℕ) (levels : ℕ) (p : Place) where
    target_row : {s : State S × ℕ} (r : Option Row) (slot : Slot) → IsShort (shorts.Slot slot) r → a_term count levels false p ≡ with_row (a_term count (levels - 1)) r (over 1 p)
        → Does (Ok (place.Slot slot)) s (part_target (meaning accesses) scope depth (inner (a_term count levels false p).0)) s
    target_row None slot e h = absurd (cc e.1.1)
    target_row (Some row) slot e h = rw (h, bare_row (a_term count (levels - 1)) row (over 1 p) e.1.1) (slot_target row.0 slot e.1.0)

    target_short : {s : State S × ℕ} (slot : Slot) → 0 < levels → IsShort (shorts.Slot slot) (row_alone (first p.rest)) → Does (Ok (place.Slot slot)) s (part_target (meaning accesses) scope depth (a_super_name (a_term count levels) p).0) s
    target_short slot lt e =
        rw (super_is (a_term count levels) p (no_name p (bare_some _ e.1.1))) (target_row (row_alone (first p.rest)) slot e (alone_term count levels p lt (bare_some _ e.1.1)))

module _ {S : Type 0} (accesses : Accesses S) (c : Site) (levels : ℕ) where
  pub does_put_slot : {w w1 : State S} (n : ℕ) (slot : Slot) (v : Value) → 0 < levels → IsShort (shorts.Slot slot) (row_alone (first c.place.rest)) → Does (Ok Done) w1 (stored (place.Slot slot) v) w
      → Does (Ok (flow.Value v)) (w1, n) (target_run accesses (meaning accesses) (super levels) (uses.Store v) c) (w, n)
  unfolding stored_at
  does_put_slot n slot v lt e h = does_ok _ _ (target_short accesses c.scope c.depth (count_at c.marks) levels c.place slot lt e) (does_ok _ _ (does_stored accesses c.scope c.depth n (place.Slot slot) v h) does_give)

  pub does_count_slot : {w w1 : State S} (n : ℕ) (k : Count) (slot : Slot) (x y : ℕ) → 0 < levels → IsShort (shorts.Slot slot) (row_alone (first c.place.rest)) → Does (Ok (value.Integer x)) w (slot_read slot) w → Does (Ok (value.Integer y)) w (counted_by k x) w
      → Does (Ok Done) w1 (stored (place.Slot slot) (value.Integer y)) w → Does (Ok (flow.Value (value.Integer y))) (w1, n) (target_run accesses (meaning accesses) (super levels) (uses.Count k) c) (w, n)
  unfolding counted_back held_in_slot
  does_count_slot n k slot x y lt e i b h =
      does_ok _ _ (target_short accesses c.scope c.depth (count_at c.marks) levels c.place slot lt e)
      (does_ok _ _ (does_lift n _ (does_ok (slot_read slot) _ i does_give))
      (does_ok _ _ (does_lift n _ (does_integer x))
      (does_ok _ _ (does_lift n (counted_by k x) b)
      (does_ok _ _ (does_stored accesses c.scope c.depth n (place.Slot slot) (value.Integer y) h) does_give))))

  -- ---- terms and targets that stand next

  pub behind_slot : 0 < levels → is_bare (row_alone (first c.place.rest)) ≡ true → at_place c (over 1 c.place) ≡ behind_term c levels
  behind_slot lt e = ap (at_place c) (behind_bare (count_at c.marks) levels c.place lt e)

  pub behind_integer : (n : ℕ) → 0 < levels → IsShort (shorts.Number n) (row_alone (first c.place.rest)) → at_place c (over n (over 1 c.place)) ≡ behind_term c levels
  behind_integer n lt e = ap (at_place c) (behind_number (count_at c.marks) levels n c.place lt e)

  pub behind_slot_target : 0 < levels → is_bare (row_alone (first c.place.rest)) ≡ true → at_place c (over 1 c.place) ≡ behind_target (super levels) c
  behind_slot_target lt e = ap (at_place c) (behind_super (count_at c.marks) levels c.place lt e)
