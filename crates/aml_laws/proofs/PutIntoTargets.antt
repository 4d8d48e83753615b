-- Terms put what they give into their targets.
use Rattle.std.specs.Prelude.{◌≡◌, ℕ, suc, List, Some, Ok, Err, refl}
use Rattle.std.proofs.Common.{ap, sym, ◌∙◌}
use Rattle.ar_space.specs.Accesses.{Accesses}
use Rattle.ar_space.specs.Outcome.{Outcome}
use Rattle.ar_space.specs.Change.{Change, give, settle, go_on, ◌>>=◌}
use Rattle.ar_space.specs.declared.refusal.Refusal.{Refusal}
use Rattle.aml_path.specs.declared.segment.Seg.{Seg}
use Rattle.aml_grammar.specs.declared.opcode.Opcode.{Opcode}
use Rattle.aml_grammar.specs.declared.opcode.Opcode.TheVariants as opcodes
use Rattle.aml_grammar.specs.Apart.{operand_of}
use Rattle.aml_grammar.specs.Tree.{Tree, Part, null}
use Rattle.aml_objects.specs.declared.value.Value.{Value}
use Rattle.aml_convert.specs.declared.operators.BinaryOperator.TheVariants as integers
use Rattle.aml_convert.specs.declared.operators.UnaryOperator.TheVariants as unary
use Rattle.aml_world.specs.declared.values.store_target.StoreTarget.{StoreTarget}
use Rattle.aml_world.specs.declared.values.store_target.Stored.{Stored}
use Rattle.aml_world.specs.declared.values.operation_kind.OneOperand.{OneOperand}
use Rattle.aml_world.specs.declared.values.operation_kind.OneOperand.TheVariants as one
use Rattle.aml_world.specs.declared.values.operation_kind.TwoOperands.{TwoOperands}
use Rattle.aml_world.specs.declared.values.operation_kind.TwoOperands.TheVariants as two
use Rattle.aml_world.specs.declared.values.operation_kind.Conversion.{Conversion}
use Rattle.aml_world.specs.declared.values.operation_kind.Conversion.TheVariants as conversions
use Rattle.aml_world.specs.state.State.{State}
use Rattle.aml_world.specs.state.Run.{Run, lift}
use Rattle.aml_world.specs.state.Readings.{path_found}
use Rattle.aml_world.specs.values.Stores.{stored, copied_to}
use Rattle.aml_world.specs.values.FormedStores.{formed_to}
use Rattle.aml_world.specs.values.StoreTargets.{target_named}
use Rattle.aml_meaning.specs.declared.flow.Flow.{Flow}
use Rattle.aml_meaning.specs.declared.flow.Flow.TheVariants as flow
use Rattle.aml_meaning.specs.Tasks.{task, value_at, two_values}
use Rattle.aml_meaning.specs.FieldCalls.{completed, stored_to}
use Rattle.aml_meaning.specs.TargetTerms.{name_target, target_at, targeted}
use Rattle.aml_meaning.specs.OperatorTerms.{store_rule, copy_rule, two_rule, one_rule}
use Rattle.aml_meaning.specs.WideTerms.{in_wide, formed_at, convert_rule, to_string_rule, middle_rule}
use Rattle.aml_meaning.specs.Evaluation.{rule}
use Rattle.aml_meaning.specs.Meaning.{meaning}
use Rattle.aml_laws.specs.OperatorTerms.{one_to, two_to, GivesValue}
use Rattle.aml_laws.specs.JoinedTerms.{middle}
use Rattle.aml_laws.specs.PutIntoTargets.{StoresOfOne, of_not, of_highest_bit, of_lowest_bit, of_buffer, of_integer, StoresOfTwo, of_sum, of_difference, of_product, of_remainder, of_and, of_nand, of_or, of_nor, of_xor, of_left_shift, of_right_shift, of_joined_values, of_joined_resources, of_index, FormsOfOne, of_decimal_string, of_hexadecimal_string, from_coded_decimal, to_coded_decimal, PutsBy, by_store, by_copy, by_one, by_two, by_part, by_form, by_string, ComesOfTarget, stored_there, refused_there, unconverted, written, ComesOfPut, not_named, named_so, PutsWhatItGives}
use Rattle.aml_laws.specs.TargetsNamed.{NamesAt, by_itself, behind, NamesNone, unfound, refused_behind}
use Rattle.aml_laws.proofs.FieldNamesUsed.{written_so, not_converted}
use Rattle.aml_laws.proofs.OperatorsComputed.{target_is}
use Rattle.aml_laws.proofs.ReferringTargets.{behind_is}
use Rattle.aml_laws.proofs.TreesCost.{term_begins}

-- ---- a target that takes a value

module _ {S : Type 0} (accesses : Accesses S) (depth : ℕ) (put : StoreTarget → Value → Change (State S) Stored) (q : StoreTarget) (v : Value) (s : State S × ℕ) where
  pub put_so : (o : Outcome (Unit {0})) (after : State S × ℕ) → ComesOfTarget accesses depth put q v s o after → (lift (put q v) >>= (λ r. completed accesses (meaning accesses) depth r v)) s ≡ (o, after)
  unfolding lift give go_on ◌>>=◌
  put_so _ _ (stored_there end is) = rw is refl
  put_so _ _ (refused_there e end is) = rw is refl
  put_so _ _ (unconverted f there is e converts) = rw is (not_converted accesses depth f v (there, s.1) e converts)
  put_so _ _ (written f there is bytes converts o after writes) = rw is (written_so accesses depth f v (there, s.1) bytes o after converts writes)

-- ---- the operand that names a target

module _ {S : Type 0} (accesses : Accesses S) (scope : List Seg) (depth : ℕ) (t : Tree) (i : ℕ) where
  pub target_so : (p : Part) → operand_of t i ≡ Some p → (s : State S × ℕ) (q : StoreTarget) (after : State S × ℕ) → NamesAt accesses scope depth s p q after → target_at (meaning accesses) scope depth t i s ≡ (Ok q, after)
  target_so _ is s _ _ (by_itself p q names) = target_is accesses scope depth t i s.0 s.1 p q names is
  target_so _ is s _ _ (behind u q after names) = rw is (behind_is accesses scope depth u s q after names)

  pub no_target_so : (p : Part) → operand_of t i ≡ Some p → (s : State S × ℕ) (e : Refusal) (after : State S × ℕ) → NamesNone accesses scope depth s p e after → target_at (meaning accesses) scope depth t i s ≡ (Err e, after)
  unfolding name_target target_named path_found settle lift go_on ◌>>=◌
  no_target_so _ is s _ _ (unfound n e lost) = rw (is, is, lost) refl
  no_target_so _ is s _ _ (refused_behind u e after stops) = rw is stops

-- what a term comes to that gives a value once its target took it
abbrev pub ends : {S : Type 0} → Value → Outcome (Unit {0}) × (State S × ℕ) → Outcome Flow × (State S × ℕ)
ends v r = go_on r.0 r.1 (λ done. give (flow.Value v))

module _ {S A B C : Type 0} (f : A → Change S B) (k : B → Change S C) where
  joined_steps : (r : Outcome A) (s : S) → go_on r s (λ a. f a >>= k) ≡ go_on (go_on r s f).0 (go_on r s f).1 k
  unfolding go_on ◌>>=◌
  joined_steps (Ok a) s = refl
  joined_steps (Err e) s = refl

module _ {S : Type 0} (accesses : Accesses S) (scope : List Seg) (depth : ℕ) (put : StoreTarget → Value → Change (State S) Stored) where
  -- a value is put into the target of a term, and is the value of this
  abbrev pub put_into : Tree → ℕ → Value → Run S Flow
  put_into t i v = target_at (meaning accesses) scope depth t i >>= (λ q. lift (put q v) >>= (λ r. completed accesses (meaning accesses) depth r v >>= (λ done. give (flow.Value v))))

  module _ (t : Tree) (i : ℕ) (p : Part) (is : operand_of t i ≡ Some p) (v : Value) (s : State S × ℕ) where
    pub put_into_so : (o : Outcome (Unit {0})) (after : State S × ℕ) → ComesOfPut accesses scope depth put p v s o after → put_into t i v s ≡ ends v (o, after)
    unfolding go_on ◌>>=◌
    put_into_so _ _ (not_named e after none) = rw (no_target_so accesses scope depth t i p is s e after none) refl
    put_into_so _ _ (named_so q between finds o after comes) =
        rw (target_so accesses scope depth t i p is s q between finds)
        (joined_steps (λ r. completed accesses (meaning accesses) depth r v) (λ done. give (flow.Value v)) (lift (put q v) between).0 (lift (put q v) between).1 ∙ ap (ends v) (put_so accesses depth put q v between o after comes))

module _ {S : Type 0} (accesses : Accesses S) (scope : List Seg) (depth : ℕ) (t : Tree) (i : ℕ) (p : Part) (is : operand_of t i ≡ Some p) (v : Value) (s : State S × ℕ) where
  pub targeted_so : (o : Outcome (Unit {0})) (after : State S × ℕ) → ComesOfPut accesses scope depth stored p v s o after → targeted accesses (meaning accesses) scope depth t i v s ≡ ends v (o, after)
  unfolding targeted stored_to go_on ◌>>=◌
  targeted_so _ _ (not_named e after none) = rw (no_target_so accesses scope depth t i p is s e after none) refl
  targeted_so _ _ (named_so q between finds o after comes) = rw (target_so accesses scope depth t i p is s q between finds) (ap (ends v) (put_so accesses depth stored q v between o after comes))

-- ---- terms without a target

module _ {S : Type 0} (accesses : Accesses S) (scope : List Seg) (depth : ℕ) (t : Tree) (i : ℕ) (is : operand_of t i ≡ Some null) (v : Value) (s : State S × ℕ) where
  untargeted : targeted accesses (meaning accesses) scope depth t i v s ≡ (Ok (flow.Value v), s)
  unfolding targeted stored_to lift give go_on ◌>>=◌
  untargeted = rw is refl

  unformed : put_into accesses scope depth formed_to t i v s ≡ (Ok (flow.Value v), s)
  unfolding lift give go_on ◌>>=◌
  unformed = rw is refl

  uncopied : put_into accesses scope depth copied_to t i v s ≡ (Ok (flow.Value v), s)
  unfolding lift give go_on ◌>>=◌
  uncopied = rw is refl

-- ---- two changes, of which one leads somewhere where the other gives a value

module _ {S : Type 0} (f : Flow) (between : State S × ℕ) (y : Outcome Flow × (State S × ℕ)) where
  abbrev Leads : Run S Flow → Run S Flow → Type 0
  Leads k l = (s : State S × ℕ) → k s ≡ (Ok f, between) → l s ≡ y

  go_leads : {A : Type 0} (k l : A → Run S Flow) → ((a : A) → Leads (k a) (l a)) → (r : Outcome A) (s : State S × ℕ) → go_on r s k ≡ (Ok f, between) → go_on r s l ≡ y
  unfolding go_on
  go_leads k l all (Ok a) s is = all a s is
  go_leads k l all (Err e) s is = absurd (cc (ap (λ (p : Outcome Flow × (State S × ℕ)). p.0) is))

  then_leads : {A : Type 0} (m : Run S A) (k l : A → Run S Flow) → ((a : A) → Leads (k a) (l a)) → Leads (m >>= k) (m >>= l)
  unfolding ◌>>=◌
  then_leads m k l all s is = go_leads k l all (m s).0 (m s).1 is

module _ {S : Type 0} (accesses : Accesses S) (scope : List Seg) (depth : ℕ) (p : Part) (v : Value) (between : State S × ℕ) (y : Outcome Flow × (State S × ℕ)) where
  abbrev LeadsSo : Run S Flow → Run S Flow → Type 0
  LeadsSo k l = Leads (flow.Value v) between y k l

  -- a value that comes to both targets in any state
  comes_to : (k l : Value → Run S Flow) → ((r : Value) (s : State S × ℕ) → k r s ≡ (Ok (flow.Value r), s)) → l v between ≡ y → (r : Value) → LeadsSo (k r) (l r)
  comes_to k l gives ends r s is =
      let same : (Ok (flow.Value r), s) ≡ (Ok (flow.Value v), between) = sym (gives r s) ∙ is in
      let one : r ≡ v = cc (ap (λ (p : Outcome Flow × (State S × ℕ)). p.0) same) in
      let other : s ≡ between = ap (λ (p : Outcome Flow × (State S × ℕ)). p.1) same in
      ap (λ r. l r s) one ∙ (ap (λ s. l v s) other ∙ ends)

  wide_leads : (op : Opcode) (k l : Run S Flow) → LeadsSo k l → LeadsSo (in_wide op k) (in_wide op l)
  wide_leads op k l all = then_leads (flow.Value v) between y _ _ _ (λ done. all)

  -- what is stored
  module _ (t u : Tree) (i : ℕ) (nothing : operand_of t i ≡ Some null) (h : targeted accesses (meaning accesses) scope depth u i v between ≡ y) where
    target_leads : (r : Value) → LeadsSo (targeted accesses (meaning accesses) scope depth t i r) (targeted accesses (meaning accesses) scope depth u i r)
    target_leads = comes_to (targeted accesses (meaning accesses) scope depth t i) (targeted accesses (meaning accesses) scope depth u i) (untargeted accesses scope depth t i nothing) h

  store_leads : (op : Opcode) (x : Tree) → targeted accesses (meaning accesses) scope depth (one_to op x p) 1 v between ≡ y → LeadsSo (store_rule accesses (meaning accesses) scope depth (one_to op x null)) (store_rule accesses (meaning accesses) scope depth (one_to op x p))
  unfolding store_rule value_at
  store_leads op x h = then_leads (flow.Value v) between y _ _ _ (λ r. target_leads (one_to op x null) (one_to op x p) 1 refl h r)

  one_leads : (op : Opcode) (x : Tree) → targeted accesses (meaning accesses) scope depth (one_to op x p) 1 v between ≡ y → (k : OneOperand) → LeadsSo (one_rule accesses (meaning accesses) k scope depth (one_to op x null)) (one_rule accesses (meaning accesses) k scope depth (one_to op x p))
  unfolding one_rule value_at
  one_leads op x h k = then_leads (flow.Value v) between y _ _ _ (λ u. then_leads (flow.Value v) between y _ _ _ (λ r. target_leads (one_to op x null) (one_to op x p) 1 refl h r))

  two_leads : (op : Opcode) (x z : Tree) → targeted accesses (meaning accesses) scope depth (two_to op x z p) 2 v between ≡ y → (k : TwoOperands) → LeadsSo (two_rule accesses (meaning accesses) k scope depth (two_to op x z null)) (two_rule accesses (meaning accesses) k scope depth (two_to op x z p))
  unfolding two_rule two_values value_at
  two_leads op x z h k = then_leads (flow.Value v) between y _ _ _ (λ u. then_leads (flow.Value v) between y _ _ _ (λ r. target_leads (two_to op x z null) (two_to op x z p) 2 refl h r))

  middle_leads : (op : Opcode) (x z q : Tree) → targeted accesses (meaning accesses) scope depth (middle x z q p) 3 v between ≡ y → LeadsSo (in_wide op (middle_rule accesses (meaning accesses) scope depth (middle x z q null))) (in_wide op (middle_rule accesses (meaning accesses) scope depth (middle x z q p)))
  unfolding middle_rule two_values value_at
  middle_leads op x z q h =
      wide_leads op _ _ (then_leads (flow.Value v) between y _ _ _ (λ u. then_leads (flow.Value v) between y _ _ _ (λ a. then_leads (flow.Value v) between y _ _ _ (λ r. target_leads (middle x z q null) (middle x z q p) 3 refl h r))))

  -- what is copied
  copy_leads : (x : Tree) → put_into accesses scope depth copied_to (one_to opcodes.CopyObject x p) 1 v between ≡ y → LeadsSo (copy_rule accesses (meaning accesses) scope depth (one_to opcodes.CopyObject x null)) (copy_rule accesses (meaning accesses) scope depth (one_to opcodes.CopyObject x p))
  unfolding copy_rule value_at
  copy_leads x h =
      then_leads (flow.Value v) between y _ _ _
      (comes_to (put_into accesses scope depth copied_to (one_to opcodes.CopyObject x null) 1) (put_into accesses scope depth copied_to (one_to opcodes.CopyObject x p) 1) (uncopied accesses scope depth (one_to opcodes.CopyObject x null) 1 refl) h)

  -- what isn't converted again
  module _ (t u : Tree) (i : ℕ) (nothing : operand_of t i ≡ Some null) (h : put_into accesses scope depth formed_to u i v between ≡ y) where
    form_leads : (r : Value) → LeadsSo (formed_at accesses (meaning accesses) scope depth t i r) (formed_at accesses (meaning accesses) scope depth u i r)
    unfolding formed_at
    form_leads = comes_to (put_into accesses scope depth formed_to t i) (put_into accesses scope depth formed_to u i) (unformed accesses scope depth t i nothing) h

  convert_leads : (op : Opcode) (x : Tree) → put_into accesses scope depth formed_to (one_to op x p) 1 v between ≡ y → (k : Conversion)
      → LeadsSo (in_wide op (convert_rule accesses (meaning accesses) k scope depth (one_to op x null))) (in_wide op (convert_rule accesses (meaning accesses) k scope depth (one_to op x p)))
  unfolding convert_rule value_at
  convert_leads op x h k = wide_leads op _ _ (then_leads (flow.Value v) between y _ _ _ (λ u. then_leads (flow.Value v) between y _ _ _ (λ r. form_leads (one_to op x null) (one_to op x p) 1 refl h r)))

  string_leads : (op : Opcode) (x z : Tree) → put_into accesses scope depth formed_to (two_to op x z p) 2 v between ≡ y → LeadsSo (in_wide op (to_string_rule accesses (meaning accesses) scope depth (two_to op x z null))) (in_wide op (to_string_rule accesses (meaning accesses) scope depth (two_to op x z p)))
  unfolding to_string_rule two_values value_at
  string_leads op x z h = wide_leads op _ _ (then_leads (flow.Value v) between y _ _ _ (λ u. then_leads (flow.Value v) between y _ _ _ (λ r. form_leads (two_to op x z null) (two_to op x z p) 2 refl h r)))

  -- ---- rules

  abbrev ruled : Tree → Run S Flow
  ruled t = rule accesses (meaning accesses) (task scope depth t)

  one_ruled : (op : Opcode) → StoresOfOne op → (x : Tree) → targeted accesses (meaning accesses) scope depth (one_to op x p) 1 v between ≡ y → LeadsSo (ruled (one_to op x null)) (ruled (one_to op x p))
  unfolding rule
  one_ruled op of_not x h = one_leads opcodes.Not x h (one.Integer unary.Not)
  one_ruled op of_highest_bit x h = one_leads opcodes.FindSetLeftBit x h (one.Integer unary.FindSetLeftBit)
  one_ruled op of_lowest_bit x h = one_leads opcodes.FindSetRightBit x h (one.Integer unary.FindSetRightBit)
  one_ruled op of_buffer x h = one_leads opcodes.ToBuffer x h one.ToBuffer
  one_ruled op of_integer x h = one_leads opcodes.ToInteger x h one.ToInteger

  form_ruled : (op : Opcode) → FormsOfOne op → (x : Tree) → put_into accesses scope depth formed_to (one_to op x p) 1 v between ≡ y → LeadsSo (ruled (one_to op x null)) (ruled (one_to op x p))
  unfolding rule
  form_ruled op of_decimal_string x h = convert_leads opcodes.ToDecimalString x h conversions.DecimalString
  form_ruled op of_hexadecimal_string x h = convert_leads opcodes.ToHexString x h conversions.HexadecimalString
  form_ruled op from_coded_decimal x h = convert_leads opcodes.FromBcd x h conversions.FromDecimal
  form_ruled op to_coded_decimal x h = convert_leads opcodes.ToBcd x h conversions.ToDecimal

  two_ruled : (op : Opcode) → StoresOfTwo op → (x z : Tree) → targeted accesses (meaning accesses) scope depth (two_to op x z p) 2 v between ≡ y → LeadsSo (ruled (two_to op x z null)) (ruled (two_to op x z p))
  unfolding rule
  two_ruled op of_sum x z h = two_leads opcodes.Add x z h (two.Integers integers.Add)
  two_ruled op of_difference x z h = two_leads opcodes.Subtract x z h (two.Integers integers.Subtract)
  two_ruled op of_product x z h = two_leads opcodes.Multiply x z h (two.Integers integers.Multiply)
  two_ruled op of_remainder x z h = two_leads opcodes.Mod x z h (two.Integers integers.Mod)
  two_ruled op of_and x z h = two_leads opcodes.And x z h (two.Integers integers.And)
  two_ruled op of_nand x z h = two_leads opcodes.Nand x z h (two.Integers integers.Nand)
  two_ruled op of_or x z h = two_leads opcodes.Or x z h (two.Integers integers.Or)
  two_ruled op of_nor x z h = two_leads opcodes.Nor x z h (two.Integers integers.Nor)
  two_ruled op of_xor x z h = two_leads opcodes.Xor x z h (two.Integers integers.Xor)
  two_ruled op of_left_shift x z h = two_leads opcodes.ShiftLeft x z h (two.Integers integers.ShiftLeft)
  two_ruled op of_right_shift x z h = two_leads opcodes.ShiftRight x z h (two.Integers integers.ShiftRight)
  two_ruled op of_joined_values x z h = two_leads opcodes.Concat x z h two.Concatenate
  two_ruled op of_joined_resources x z h = two_leads opcodes.ConcatRes x z h two.ConcatenateResources
  two_ruled op of_index x z h = two_leads opcodes.Index x z h two.Index

  store_ruled : (x : Tree) → targeted accesses (meaning accesses) scope depth (one_to opcodes.Store x p) 1 v between ≡ y → LeadsSo (ruled (one_to opcodes.Store x null)) (ruled (one_to opcodes.Store x p))
  unfolding rule
  store_ruled x h = store_leads opcodes.Store x h

  copy_ruled : (x : Tree) → put_into accesses scope depth copied_to (one_to opcodes.CopyObject x p) 1 v between ≡ y → LeadsSo (ruled (one_to opcodes.CopyObject x null)) (ruled (one_to opcodes.CopyObject x p))
  unfolding rule
  copy_ruled x h = copy_leads x h

  string_ruled : (x z : Tree) → put_into accesses scope depth formed_to (two_to opcodes.ToString x z p) 2 v between ≡ y → LeadsSo (ruled (two_to opcodes.ToString x z null)) (ruled (two_to opcodes.ToString x z p))
  unfolding rule
  string_ruled x z h = string_leads opcodes.ToString x z h

  middle_ruled : (x z q : Tree) → targeted accesses (meaning accesses) scope depth (middle x z q p) 3 v between ≡ y → LeadsSo (ruled (middle x z q null)) (ruled (middle x z q p))
  unfolding rule
  middle_ruled x z q h = middle_leads opcodes.Mid x z q h

  -- from the terms to their rules
  begun : (t u : Tree) → LeadsSo (ruled t) (ruled u) → (w : State S) (steps : ℕ) → GivesValue accesses scope depth t (w, suc steps) v between → meaning accesses (task scope depth u) (w, suc steps) ≡ y
  begun t u leads w steps gives = (term_begins accesses (task scope depth u)).paid w steps ∙ leads (w, steps) (sym ((term_begins accesses (task scope depth t)).paid w steps) ∙ gives)

-- ---- the law

module _ {S : Type 0} (accesses : Accesses S) (scope : List Seg) (depth : ℕ) (w : State S) (steps : ℕ) (v : Value) (between : State S × ℕ) (p : Part) (o : Outcome (Unit {0})) (after : State S × ℕ) where
  abbrev final : Outcome Flow × (State S × ℕ)
  final = ends v (o, after)

  term_puts : (put : StoreTarget → Value → Change (State S) Stored) (t : Part → Tree) → PutsBy put t → GivesValue accesses scope depth (t null) (w, suc steps) v between → ComesOfPut accesses scope depth put p v between o after → meaning accesses (task scope depth (t p)) (w, suc steps) ≡ final
  term_puts _ _ (by_store x) gives comes =
      begun accesses scope depth p v between final (one_to opcodes.Store x null) (one_to opcodes.Store x p) (store_ruled accesses scope depth p v between final x (targeted_so accesses scope depth (one_to opcodes.Store x p) 1 p refl v between o after comes)) w steps gives
  term_puts _ _ (by_copy x) gives comes =
      begun accesses scope depth p v between final (one_to opcodes.CopyObject x null) (one_to opcodes.CopyObject x p) (copy_ruled accesses scope depth p v between final x (put_into_so accesses scope depth copied_to (one_to opcodes.CopyObject x p) 1 p refl v between o after comes)) w steps gives
  term_puts _ _ (by_one op is x) gives comes =
      begun accesses scope depth p v between final (one_to op x null) (one_to op x p) (one_ruled accesses scope depth p v between final op is x (targeted_so accesses scope depth (one_to op x p) 1 p refl v between o after comes)) w steps gives
  term_puts _ _ (by_two op is x y) gives comes =
      begun accesses scope depth p v between final (two_to op x y null) (two_to op x y p) (two_ruled accesses scope depth p v between final op is x y (targeted_so accesses scope depth (two_to op x y p) 2 p refl v between o after comes)) w steps gives
  term_puts _ _ (by_part x y z) gives comes =
      begun accesses scope depth p v between final (middle x y z null) (middle x y z p) (middle_ruled accesses scope depth p v between final x y z (targeted_so accesses scope depth (middle x y z p) 3 p refl v between o after comes)) w steps gives
  term_puts _ _ (by_form op is x) gives comes =
      begun accesses scope depth p v between final (one_to op x null) (one_to op x p) (form_ruled accesses scope depth p v between final op is x (put_into_so accesses scope depth formed_to (one_to op x p) 1 p refl v between o after comes)) w steps gives
  term_puts _ _ (by_string x y) gives comes =
      begun accesses scope depth p v between final (two_to opcodes.ToString x y null) (two_to opcodes.ToString x y p) (string_ruled accesses scope depth p v between final x y (put_into_so accesses scope depth formed_to (two_to opcodes.ToString x y p) 2 p refl v between o after comes)) w steps gives

pub puts_what_it_gives : {S : Type 0} (put : StoreTarget → Value → Change (State S) Stored) (t : Part → Tree) → PutsBy put t → PutsWhatItGives S put t
unfolding give go_on
puts_what_it_gives put t how accesses scope depth w steps v between gives p after = (
  λ comes. term_puts accesses scope depth w steps v between p (Ok tt) after put t how gives comes,
  λ e comes. term_puts accesses scope depth w steps v between p (Err e) after put t how gives comes,
)
