-- Increment and Decrement put what they count back into their target.
use Rattle.std.specs.Prelude.{◌≡◌, ◌<◌, ◌+◌, ◌%◌, ◌^◌, ℕ, suc, List, ◌∷◌, take, Ok, Err, refl}
use Rattle.std.proofs.Common.{ap, ◌∙◌}
use Rattle.ar_space.specs.Accesses.{Accesses}
use Rattle.ar_space.specs.Outcome.{Outcome}
use Rattle.ar_space.specs.Change.{give, settle, go_on, ◌>>=◌}
use Rattle.ar_space.specs.declared.refusal.Refusal.{Refusal}
use Rattle.aml_path.specs.declared.segment.Seg.{Seg}
use Rattle.aml_grammar.specs.declared.opcode.Opcode.{Opcode}
use Rattle.aml_grammar.specs.declared.opcode.Opcode.TheVariants as opcodes
use Rattle.aml_grammar.specs.Tree.{Part}
use Rattle.aml_objects.specs.Contents.{Integer}
use Rattle.aml_objects.specs.declared.entry.Field.{Field}
use Rattle.aml_objects.specs.declared.value.Reference.TheVariants as reference
use Rattle.aml_objects.specs.declared.value.Value.{Value}
use Rattle.aml_objects.specs.declared.value.Value.TheVariants as value
use Rattle.aml_convert.specs.Conversions.{to_buffer_of}
use Rattle.aml_convert.specs.Integers.{bits_of, bytes_of, truncated}
use Rattle.aml_world.specs.declared.values.store_target.Held.{Held}
use Rattle.aml_world.specs.declared.values.store_target.Held.TheVariants as held
use Rattle.aml_world.specs.declared.values.store_target.StoreTarget.{StoreTarget}
use Rattle.aml_world.specs.declared.values.store_target.StoreTarget.TheVariants as targets
use Rattle.aml_world.specs.declared.values.operation_kind.Count.{Count}
use Rattle.aml_world.specs.declared.values.operation_kind.Count.TheVariants as count
use Rattle.aml_world.specs.state.State.{State}
use Rattle.aml_world.specs.state.Run.{lift}
use Rattle.aml_world.specs.state.Readings.{integer_in}
use Rattle.aml_world.specs.values.Stores.{stored}
use Rattle.aml_world.specs.values.StoreTargets.{held_at, name_read, target_read}
use Rattle.aml_world.specs.fields.Fields.{field_integer}
use Rattle.aml_world.specs.values.Operations.{counted_by}
use Rattle.aml_meaning.specs.declared.flow.Flow.{Flow}
use Rattle.aml_meaning.specs.declared.term_kind.OperatorKind.TheVariants as operators
use Rattle.aml_meaning.specs.declared.term_kind.TermKind.TheVariants as kinds
use Rattle.aml_meaning.specs.Terms.{kind_of}
use Rattle.aml_meaning.specs.Tasks.{task}
use Rattle.aml_meaning.specs.FieldCalls.{held_integer, field_written, stored_to, stored_back}
use Rattle.aml_meaning.specs.OperatorTerms.{count_rule}
use Rattle.aml_meaning.specs.Evaluation.{rule}
use Rattle.aml_meaning.specs.Meaning.{meaning}
use Rattle.aml_laws.specs.FieldNames.{bits_read_at, bits_written_at}
use Rattle.aml_laws.specs.IntegersOfValues.{lowest_first}
use Rattle.aml_laws.specs.OperatorTerms.{counting, IsRefused}
use Rattle.aml_laws.specs.PutIntoTargets.{IsCount, upwards, downwards, StandsAt, in_place, referred, IsFieldAt, named_there, referred_there, ComesOfTarget, CountsTarget, CountsFieldAt, CountsNothing, no_target, no_integer, unread}
use Rattle.aml_laws.specs.TargetsNamed.{NamesAt, NamesNone}
use Rattle.aml_laws.proofs.Counting.{target_gives, next_is, less, before_is, one_less}
use Rattle.aml_laws.proofs.FieldNamesUsed.{holding_is, written_so}
use Rattle.aml_laws.proofs.FieldsReached.{integer_is}
use Rattle.aml_laws.proofs.PutIntoTargets.{ends, put_so, target_so, no_target_so}
use Rattle.aml_laws.proofs.TreesCost.{term_begins}

-- ---- what stands in a target

module _ {S : Type 0} (w : State S) where
  value_is_held : (t : StoreTarget) (v : Value) → StandsAt w t v → target_read t w ≡ (Ok (held.Value v), w)
  value_is_held _ _ (in_place t v holds) = target_gives w t v holds
  value_is_held _ _ (referred r v is) = is

  field_is_held : (t : StoreTarget) (f : Field) → IsFieldAt w t f → target_read t w ≡ (Ok (held.Field f), w)
  unfolding name_read held_at settle go_on ◌>>=◌
  field_is_held _ _ (named_there path e f bits at is) = rw (at, holding_is e.object f bits is) refl
  field_is_held _ _ (referred_there n f is) = is

-- ---- what is put back

module _ {S : Type 0} (accesses : Accesses S) (depth : ℕ) (v : Value) where
  value_back : (old : Value) (t : StoreTarget) → stored_back accesses (meaning accesses) depth (held.Value old) t v ≡ stored_to accesses (meaning accesses) depth t v
  value_back old targets.Nowhere = refl
  value_back old (targets.Slot slot) = refl
  value_back old (targets.Name path) = refl
  value_back old (targets.Refers (reference.Name n)) = refl
  value_back old (targets.Refers (reference.Slot slot n)) = refl
  value_back old (targets.Refers (reference.Element o i)) = refl
  value_back old (targets.Refers (reference.Byte o i)) = refl

  field_back : (w : State S) (t : StoreTarget) (f : Field) → IsFieldAt w t f → stored_back accesses (meaning accesses) depth (held.Field f) t v ≡ field_written accesses (meaning accesses) depth f v
  field_back w _ _ (named_there path e f bits at is) = refl
  field_back w _ _ (referred_there n f is) = refl

  back_so : (t : StoreTarget) (s : State S × ℕ) (o : Outcome (Unit {0})) (after : State S × ℕ) → ComesOfTarget accesses depth stored t v s o after → stored_to accesses (meaning accesses) depth t v s ≡ (o, after)
  unfolding stored_to
  back_so t s o after comes = put_so accesses depth stored t v s o after comes

-- ---- the terms

module _ {S : Type 0} (accesses : Accesses S) (scope : List Seg) (depth : ℕ) (p : Part) (w : State S) (steps : ℕ) (k : Count) (op : Opcode) (is : kind_of op ≡ kinds.Operator (operators.Count k)) where
  abbrev term_counts : Outcome Flow × (State S × ℕ) → Type 0
  term_counts y = meaning accesses (task scope depth (counting op p)) (w, suc steps) ≡ y

  ruled : rule accesses (meaning accesses) (task scope depth (counting op p)) (w, steps) ≡ count_rule accesses (meaning accesses) k scope depth (counting op p) (w, steps)
  unfolding rule
  ruled = rw is refl

  pub begins : term_counts (count_rule accesses (meaning accesses) k scope depth (counting op p) (w, steps))
  begins = (term_begins accesses (task scope depth (counting op p))).paid w steps ∙ ruled

  module _ (t : StoreTarget) (between : State S × ℕ) (finds : NamesAt accesses scope depth (w, steps) p t between) (h : Held) (holds : target_read t between.0 ≡ (Ok h, between.0)) where
    counts_so : (a : ℕ) (end : State S × ℕ) → held_integer accesses (meaning accesses) depth h (between.0, between.1) ≡ (Ok a, end) → (n : ℕ) → counted_by k a end.0 ≡ (Ok (value.Integer n), end.0) → (o : Outcome (Unit {0})) (after : State S × ℕ)
        → stored_back accesses (meaning accesses) depth h t (value.Integer n) (end.0, end.1) ≡ (o, after) → count_rule accesses (meaning accesses) k scope depth (counting op p) (w, steps) ≡ ends (value.Integer n) (o, after)
    unfolding count_rule lift go_on ◌>>=◌
    counts_so a end reads n counted o after back = rw (target_so accesses scope depth (counting op p) 0 p refl (w, steps) t between finds, holds, reads, counted, back) refl

    reading_stops : (e : Refusal) (end : State S × ℕ) → held_integer accesses (meaning accesses) depth h (between.0, between.1) ≡ (Err e, end) → count_rule accesses (meaning accesses) k scope depth (counting op p) (w, steps) ≡ (Err e, end)
    unfolding count_rule lift go_on ◌>>=◌
    reading_stops e end stops = rw (target_so accesses scope depth (counting op p) 0 p refl (w, steps) t between finds, holds, stops) refl

  none_stops : (e : Refusal) (after : State S × ℕ) → NamesNone accesses scope depth (w, steps) p e after → count_rule accesses (meaning accesses) k scope depth (counting op p) (w, steps) ≡ (Err e, after)
  unfolding count_rule go_on ◌>>=◌
  none_stops e after none = rw (no_target_so accesses scope depth (counting op p) 0 p refl (w, steps) e after none) refl

  -- a value
  module _ (t : StoreTarget) (between : State S × ℕ) (finds : NamesAt accesses scope depth (w, steps) p t between) (v : Value) (stands : StandsAt between.0 t v) where
    value_read : (a : Outcome ℕ) → integer_in v between.0 ≡ (a, between.0) → held_integer accesses (meaning accesses) depth (held.Value v) between ≡ (a, between)
    unfolding lift
    value_read a converts = rw converts refl

    pub value_counts : (a : ℕ) → integer_in v between.0 ≡ (Ok a, between.0) → (n : ℕ) → counted_by k a between.0 ≡ (Ok (value.Integer n), between.0) → (o : Outcome (Unit {0})) (after : State S × ℕ) → ComesOfTarget accesses depth stored t (value.Integer n) between o after
        → term_counts (ends (value.Integer n) (o, after))
    value_counts a converts n counted o after comes =
        begins
        ∙ counts_so t between finds (held.Value v) (value_is_held between.0 t v stands) a between (value_read (Ok a) converts) n counted o after (ap (λ m. m between) (value_back accesses depth (value.Integer n) v t) ∙ back_so accesses depth (value.Integer n) t between o after comes)

    pub value_stops : (e : Refusal) → integer_in v between.0 ≡ (Err e, between.0) → term_counts (Err e, between)
    value_stops e stops = begins ∙ reading_stops t between finds (held.Value v) (value_is_held between.0 t v stands) e between (value_read (Err e) stops)

  -- a field
  module _ (t : StoreTarget) (between : State S × ℕ) (finds : NamesAt accesses scope depth (w, steps) p t between) (f : Field) (stands : IsFieldAt between.0 t f) where
    field_read : (b : ℕ) (bytes : List ℕ) (end : State S × ℕ) → bits_read_at accesses depth f between ≡ (Ok (b ∷ bytes), end) → held_integer accesses (meaning accesses) depth (held.Field f) between ≡ (Ok (lowest_first (take (bytes_of end.0.width) (b ∷ bytes))), end)
    unfolding field_integer lift go_on ◌>>=◌
    field_read b bytes end read = rw (read, integer_is end.0 b bytes) refl

    field_unread : (e : Refusal) (end : State S × ℕ) → bits_read_at accesses depth f between ≡ (Err e, end) → held_integer accesses (meaning accesses) depth (held.Field f) between ≡ (Err e, end)
    unfolding field_integer go_on ◌>>=◌
    field_unread e end stops = rw stops refl

    pub field_counts : (b : ℕ) (bytes : List ℕ) (end : State S × ℕ) → bits_read_at accesses depth f between ≡ (Ok (b ∷ bytes), end) → (n : ℕ) → counted_by k (lowest_first (take (bytes_of end.0.width) (b ∷ bytes))) end.0 ≡ (Ok (value.Integer n), end.0)
        → (out : List ℕ) (o : Outcome (Unit {0})) (after : State S × ℕ) → to_buffer_of end.0.width (Integer n) ≡ Ok out → bits_written_at accesses depth f out end ≡ (o, after) → term_counts (ends (value.Integer n) (o, after))
    field_counts b bytes end read n counted out o after converts writes =
        begins
        ∙ counts_so t between finds (held.Field f) (field_is_held between.0 t f stands) (lowest_first (take (bytes_of end.0.width) (b ∷ bytes))) end (field_read b bytes end read) n counted o after
        (ap (λ m. m end) (field_back accesses depth (value.Integer n) between.0 t f stands) ∙ written_so accesses depth f (value.Integer n) end out o after converts writes)

    pub field_stops : (e : Refusal) (end : State S × ℕ) → bits_read_at accesses depth f between ≡ (Err e, end) → term_counts (Err e, end)
    field_stops e end stops = begins ∙ reading_stops t between finds (held.Field f) (field_is_held between.0 t f stands) e end (field_unread e end stops)

  nothing_counts : (e : Refusal) (after : State S × ℕ) → CountsNothing accesses scope depth p (w, steps) e after → term_counts (Err e, after)
  nothing_counts _ _ (no_target e after none) = begins ∙ none_stops e after none
  nothing_counts _ _ (no_integer t between v e finds stands stops) = value_stops t between finds v stands e stops
  nothing_counts _ _ (unread t between f e after finds stands stops) = field_stops t between finds f stands e after stops

-- ---- the laws

pub puts_up : {S : Type 0} → CountsTarget S opcodes.Increment (λ width a n. n ≡ (a + 1) % 2 ^ bits_of width)
unfolding give go_on
puts_up accesses scope depth p w steps a t between v finds stands converts =
    let n : ℕ = truncated between.0.width (a + 1) in (
      n,
      refl,
      λ after. (
        λ comes. value_counts accesses scope depth p w steps count.Increment opcodes.Increment refl t between finds v stands a converts n (next_is between.0 a) (Ok tt) after comes,
        λ e comes. value_counts accesses scope depth p w steps count.Increment opcodes.Increment refl t between finds v stands a converts n (next_is between.0 a) (Err e) after comes,
      ),
    )

pub puts_down : {S : Type 0} → CountsTarget S opcodes.Decrement (λ width a n. (n < 2 ^ bits_of width) × ((n + 1) % 2 ^ bits_of width ≡ a % 2 ^ bits_of width))
unfolding give go_on
puts_down accesses scope depth p w steps a t between v finds stands converts =
    let n : ℕ = less between.0 a in (
      n,
      one_less between.0.width a,
      λ after. (
        λ comes. value_counts accesses scope depth p w steps count.Decrement opcodes.Decrement refl t between finds v stands a converts n (before_is between.0 a) (Ok tt) after comes,
        λ e comes. value_counts accesses scope depth p w steps count.Decrement opcodes.Decrement refl t between finds v stands a converts n (before_is between.0 a) (Err e) after comes,
      ),
    )

pub field_puts_up : {S : Type 0} → CountsFieldAt S opcodes.Increment (λ width a n. n ≡ (a + 1) % 2 ^ bits_of width)
unfolding give go_on
field_puts_up accesses scope depth p w steps t between f finds stands b bytes end read =
    let a : ℕ = lowest_first (take (bytes_of end.0.width) (b ∷ bytes)) in
    let n : ℕ = truncated end.0.width (a + 1) in (
      n,
      refl,
      λ out after converts. (
        λ writes. field_counts accesses scope depth p w steps count.Increment opcodes.Increment refl t between finds f stands b bytes end read n (next_is end.0 a) out (Ok tt) after converts writes,
        λ e stops. field_counts accesses scope depth p w steps count.Increment opcodes.Increment refl t between finds f stands b bytes end read n (next_is end.0 a) out (Err e) after converts stops,
      ),
    )

pub field_puts_down : {S : Type 0} → CountsFieldAt S opcodes.Decrement (λ width a n. (n < 2 ^ bits_of width) × ((n + 1) % 2 ^ bits_of width ≡ a % 2 ^ bits_of width))
unfolding give go_on
field_puts_down accesses scope depth p w steps t between f finds stands b bytes end read =
    let a : ℕ = lowest_first (take (bytes_of end.0.width) (b ∷ bytes)) in
    let n : ℕ = less end.0 a in (
      n,
      one_less end.0.width a,
      λ out after converts. (
        λ writes. field_counts accesses scope depth p w steps count.Decrement opcodes.Decrement refl t between finds f stands b bytes end read n (before_is end.0 a) out (Ok tt) after converts writes,
        λ e stops. field_counts accesses scope depth p w steps count.Decrement opcodes.Decrement refl t between finds f stands b bytes end read n (before_is end.0 a) out (Err e) after converts stops,
      ),
    )

pub puts_nothing : {S : Type 0} (accesses : Accesses S) (scope : List Seg) (depth : ℕ) (op : Opcode) → IsCount op → (p : Part) (w : State S) (steps : ℕ) (e : Refusal) (after : State S × ℕ) → CountsNothing accesses scope depth p (w, steps) e after
    → IsRefused accesses scope depth (counting op p) (w, suc steps) e after
puts_nothing accesses scope depth _ upwards p w steps e after none = nothing_counts accesses scope depth p w steps count.Increment opcodes.Increment refl e after none
puts_nothing accesses scope depth _ downwards p w steps e after none = nothing_counts accesses scope depth p w steps count.Decrement opcodes.Decrement refl e after none
