-- A term is refused with the operand that it comes to.
use Rattle.std.specs.Prelude.{◌≡◌, ◌⊎◌, ◌∷◌, [], ℕ, suc, List, Ok, Err, refl}
use Rattle.std.proofs.Common.{inl, inr, ◌∙◌}
use Rattle.ar_space.specs.declared.refusal.Refusal.{Refusal}
use Rattle.ar_space.specs.declared.refusal.Refusal.TheVariants as refusal
use Rattle.ar_space.specs.declared.refusal.EvaluationFault.TheVariants.{NoValue}
use Rattle.ar_space.specs.Accesses.{Accesses}
use Rattle.ar_space.specs.Change.{give, settle, go_on, ◌>>=◌}
use Rattle.aml_path.specs.declared.segment.Seg.{Seg}
use Rattle.aml_path.specs.Paths.{Name}
use Rattle.aml_grammar.specs.declared.opcode.Opcode.{Opcode}
use Rattle.aml_grammar.specs.declared.opcode.Opcode.TheVariants as opcodes
use Rattle.aml_grammar.specs.Tree.{Tree, Trees, name, number, inner, list, Parts, no_parts, part}
use Rattle.aml_objects.specs.declared.value.Value.{Value}
use Rattle.aml_convert.specs.declared.operators.BinaryOperator.{BinaryOperator}
use Rattle.aml_world.specs.declared.state.profile.Profile.TheVariants as profiles
use Rattle.aml_world.specs.declared.values.operation_kind.Conversion.{Conversion}
use Rattle.aml_world.specs.declared.values.operation_kind.Conversion.TheVariants as conversions
use Rattle.aml_world.specs.state.State.{State}
use Rattle.aml_meaning.specs.declared.term_kind.TermKind.TheVariants as kinds
use Rattle.aml_meaning.specs.declared.term_kind.WideKind.TheVariants as wide
use Rattle.aml_meaning.specs.Terms.{kind_of}
use Rattle.aml_meaning.specs.Tasks.{task, operand_value, operand_integer, value_at, two_values}
use Rattle.aml_meaning.specs.DataTerms.{buffer_rule, var_package_rule}
use Rattle.aml_meaning.specs.DeclarationTerms.{name_rule}
use Rattle.aml_meaning.specs.FieldTerms.{region_rule, sized_field_rule, bits_field_rule}
use Rattle.aml_meaning.specs.MatchTerms.{match_rule}
use Rattle.aml_meaning.specs.OperatorTerms.{one_rule, lnot_rule, store_rule, copy_rule, dereference_rule, two_rule, divide_rule, test_rule}
use Rattle.aml_meaning.specs.StatementTerms.{if_rule, while_rule, loop, turns, turn, return_rule, pause_rule, fatal_rule}
use Rattle.aml_meaning.specs.WideTerms.{wide_rule, convert_rule, to_string_rule, middle_rule}
use Rattle.aml_meaning.specs.Evaluation.{rule}
use Rattle.aml_meaning.specs.Meaning.{meaning}
use Rattle.aml_laws.specs.BufferFieldTerms.{HasSize, of_bit, of_byte, of_word, of_double_word, of_quad_word}
use Rattle.aml_laws.specs.IntegersOfValues.{TakesIntegers}
use Rattle.aml_laws.specs.MatchedTerms.{match}
use Rattle.aml_laws.specs.OperandTerms.{TakesFirst, by_not, by_highest_bit, by_lowest_bit, by_to_buffer, by_to_integer, by_lnot, by_store, by_copy, by_dereference, by_return, by_sleep, by_stall, by_size_of_buffer, by_size_of_package, by_decimal_string, by_hexadecimal_string, from_coded_decimal, to_coded_decimal, AsksCondition, by_if, by_while, TakesTwo, by_integers, by_buffer_field, by_join, by_join_of_resources, by_index, by_division, by_and, by_or, by_equal, by_greater, by_less, by_string, TakesThree, by_bits, by_part, TakesValues, of_first, of_condition, of_two, of_three, of_match, of_region, of_name, of_fatal, ComesTo, this_one, a_later_one}
use Rattle.aml_laws.specs.OperatorTerms.{of_opcode, GivesValue, GivesNothing, IsRefused}
use Rattle.aml_laws.specs.RegionTerms.{operation_region}
use Rattle.aml_laws.proofs.OperandsRefused.{IsKind, kind_taken}
use Rattle.aml_laws.proofs.TreesCost.{term_begins}
use Rattle.aml_laws.proofs.WideAsked.{asked_in_wide}

module _ {S : Type 0} (accesses : Accesses S) (scope : List Seg) (depth : ℕ) where
  abbrev Stops : Tree → State S × ℕ → Refusal → State S × ℕ → Type 0
  Stops x s e after = operand_value (meaning accesses) scope depth x s ≡ (Err e, after)

  abbrev Goes : Tree → State S × ℕ → Value → State S × ℕ → Type 0
  Goes x s v after = operand_value (meaning accesses) scope depth x s ≡ (Ok v, after)

  pub refused_stops : (x : Tree) (s : State S × ℕ) (e : Refusal) (after : State S × ℕ) → IsRefused accesses scope depth x s e after → Stops x s e after
  unfolding operand_value settle go_on ◌>>=◌
  refused_stops x s e after is = rw is refl

  pub nothing_stops : (x : Tree) (s after : State S × ℕ) → GivesNothing accesses scope depth x s after → Stops x s (refusal.Evaluation NoValue) after
  unfolding operand_value settle go_on ◌>>=◌
  nothing_stops x s after is = rw is refl

  pub value_goes : (x : Tree) (s : State S × ℕ) (v : Value) (after : State S × ℕ) → GivesValue accesses scope depth x s v after → Goes x s v after
  unfolding operand_value settle give go_on ◌>>=◌
  value_goes x s v after is = rw is refl

  module _ (e : Refusal) (after : State S × ℕ) where
    -- one of some operands stops, and each one in front of it goes on
    abbrev StopsAt : List Tree → State S × ℕ → Type 0
    StopsAt [] s = ⊥
    StopsAt (x ∷ xs) s = Stops x s e after ⊎ ((v : Value) × (between : State S × ℕ) × Goes x s v between × StopsAt xs between)

    stops_at : (xs : List Tree) (s : State S × ℕ) (x : Tree) (at : State S × ℕ) → ComesTo accesses scope depth xs s x at → Stops x at e after → StopsAt xs s
    stops_at _ _ _ _ (this_one x xs s) is = inl is
    stops_at _ _ _ _ (a_later_one y xs s between v x at gives comes) is = inr (v, between, value_goes y s v between gives, stops_at xs between x at comes is)

    module _ (w : State S) (steps : ℕ) where
      abbrev RuleStops : Tree → Type 0
      RuleStops t = rule accesses (meaning accesses) (task scope depth t) (w, steps) ≡ (Err e, after)

      -- ---- one operand

      module _ (k : Conversion) (op : Opcode) (x : Tree) (ps : Parts) where
        conversion_asked : kind_of op ≡ kinds.Wide (wide.Convert k) → w.profile ≡ profiles.Wide
            → rule accesses (meaning accesses) (task scope depth (of_opcode op (part (inner x) ps))) (w, steps) ≡ convert_rule accesses (meaning accesses) k scope depth (of_opcode op (part (inner x) ps)) (w, steps)
        unfolding rule
        conversion_asked kind is_wide = rw kind (asked_in_wide op w steps is_wide (convert_rule accesses (meaning accesses) k scope depth (of_opcode op (part (inner x) ps))))

        conversion_stops : Stops x (w, steps) e after → convert_rule accesses (meaning accesses) k scope depth (of_opcode op (part (inner x) ps)) (w, steps) ≡ (Err e, after)
        unfolding convert_rule value_at settle go_on ◌>>=◌
        conversion_stops is = rw is refl

        converting : kind_of op ≡ kinds.Wide (wide.Convert k) → w.profile ≡ profiles.Wide → Stops x (w, steps) e after → RuleStops (of_opcode op (part (inner x) ps))
        converting kind is_wide is = conversion_asked kind is_wide ∙ conversion_stops is

      first_stops : (op : Opcode) → TakesFirst w.profile op → (x : Tree) (ps : Parts) → Stops x (w, steps) e after → RuleStops (of_opcode op (part (inner x) ps))
      unfolding rule one_rule lnot_rule store_rule copy_rule dereference_rule return_rule pause_rule buffer_rule var_package_rule operand_integer value_at settle go_on ◌>>=◌
      first_stops _ by_not x ps is = rw is refl
      first_stops _ by_highest_bit x ps is = rw is refl
      first_stops _ by_lowest_bit x ps is = rw is refl
      first_stops _ by_to_buffer x ps is = rw is refl
      first_stops _ by_to_integer x ps is = rw is refl
      first_stops _ by_lnot x ps is = rw is refl
      first_stops _ by_store x ps is = rw is refl
      first_stops _ by_copy x ps is = rw is refl
      first_stops _ by_dereference x ps is = rw is refl
      first_stops _ by_return x ps is = rw is refl
      first_stops _ by_sleep x ps is = rw is refl
      first_stops _ by_stall x ps is = rw is refl
      first_stops _ by_size_of_buffer x ps is = rw is refl
      first_stops _ by_size_of_package x ps is = rw is refl
      first_stops _ (by_decimal_string is_wide) x ps is = converting conversions.DecimalString opcodes.ToDecimalString x ps refl is_wide is
      first_stops _ (by_hexadecimal_string is_wide) x ps is = converting conversions.HexadecimalString opcodes.ToHexString x ps refl is_wide is
      first_stops _ (from_coded_decimal is_wide) x ps is = converting conversions.FromDecimal opcodes.FromBcd x ps refl is_wide is
      first_stops _ (to_coded_decimal is_wide) x ps is = converting conversions.ToDecimal opcodes.ToBcd x ps refl is_wide is

      condition_stops : (op : Opcode) → AsksCondition op → (x : Tree) (ts : Trees) (ps : Parts) → Stops x (w, steps) e after → RuleStops (of_opcode op (part (inner x) (part (list ts) ps)))
      unfolding rule if_rule while_rule loop turns turn operand_integer settle give go_on ◌>>=◌
      condition_stops _ by_if x ts ps is = rw is refl
      condition_stops _ by_while x ts ps is = rw is refl

      -- ---- two operands

      abbrev Two : Tree → Tree → Type 0
      Two x y = Stops x (w, steps) e after ⊎ ((v : Value) × (between : State S × ℕ) × Goes x (w, steps) v between × Stops y between e after)

      pair_stops : (op : Opcode) (x y : Tree) (ps : Parts) → Two x y → two_values (meaning accesses) scope depth (of_opcode op (part (inner x) (part (inner y) ps))) (w, steps) ≡ (Err e, after)
      unfolding two_values value_at settle give go_on ◌>>=◌
      pair_stops op x y ps (inl is) = rw is refl
      pair_stops op x y ps (inr (v, between, goes, is)) = rw (goes, is) refl

      module _ (x y : Tree) (ps : Parts) (two : Two x y) where
        abbrev of : Opcode → Tree
        of op = of_opcode op (part (inner x) (part (inner y) ps))

        pair : (op : Opcode) → two_values (meaning accesses) scope depth (of op) (w, steps) ≡ (Err e, after)
        pair op = pair_stops op x y ps two

        of_integers : (op : Opcode) (k : BinaryOperator) → IsKind op k → RuleStops (of op)
        unfolding rule two_rule go_on ◌>>=◌
        of_integers op k kind = rw (kind, pair op) refl

        of_buffer_field : (op : Opcode) (step count : ℕ) → HasSize op step count → RuleStops (of op)
        unfolding rule sized_field_rule go_on ◌>>=◌
        of_buffer_field _ _ _ of_bit = rw (pair opcodes.CreateBitField) refl
        of_buffer_field _ _ _ of_byte = rw (pair opcodes.CreateByteField) refl
        of_buffer_field _ _ _ of_word = rw (pair opcodes.CreateWordField) refl
        of_buffer_field _ _ _ of_double_word = rw (pair opcodes.CreateDWordField) refl
        of_buffer_field _ _ _ of_quad_word = rw (pair opcodes.CreateQWordField) refl

        string_asked : w.profile ≡ profiles.Wide → rule accesses (meaning accesses) (task scope depth (of opcodes.ToString)) (w, steps) ≡ to_string_rule accesses (meaning accesses) scope depth (of opcodes.ToString) (w, steps)
        unfolding rule
        string_asked is_wide = asked_in_wide opcodes.ToString w steps is_wide (to_string_rule accesses (meaning accesses) scope depth (of opcodes.ToString))

        string_stops : to_string_rule accesses (meaning accesses) scope depth (of opcodes.ToString) (w, steps) ≡ (Err e, after)
        unfolding to_string_rule go_on ◌>>=◌
        string_stops = rw (pair opcodes.ToString) refl

        of_string : w.profile ≡ profiles.Wide → RuleStops (of opcodes.ToString)
        of_string is_wide = string_asked is_wide ∙ string_stops

        second_stops : (op : Opcode) → TakesTwo w.profile op → RuleStops (of op)
        unfolding rule two_rule divide_rule test_rule go_on ◌>>=◌
        second_stops _ (by_integers op takes) = let k = kind_taken op takes in of_integers op k.0 k.1
        second_stops _ (by_buffer_field op step count has) = of_buffer_field op step count has
        second_stops _ by_join = rw (pair opcodes.Concat) refl
        second_stops _ by_join_of_resources = rw (pair opcodes.ConcatRes) refl
        second_stops _ by_index = rw (pair opcodes.Index) refl
        second_stops _ by_division = rw (pair opcodes.Divide) refl
        second_stops _ by_and = rw (pair opcodes.LAnd) refl
        second_stops _ by_or = rw (pair opcodes.LOr) refl
        second_stops _ by_equal = rw (pair opcodes.LEqual) refl
        second_stops _ by_greater = rw (pair opcodes.LGreater) refl
        second_stops _ by_less = rw (pair opcodes.LLess) refl
        second_stops _ (by_string is_wide) = of_string is_wide

      region_stops : (n : Name) (space : ℕ) (x y : Tree) → Two x y → RuleStops (operation_region n space x y)
      unfolding rule region_rule value_at settle give go_on ◌>>=◌
      region_stops n space x y (inl is) = rw is refl
      region_stops n space x y (inr (v, between, goes, is)) = rw (goes, is) refl

      -- ---- three operands and four

      abbrev Three : Tree → Tree → Tree → Type 0
      Three x y z = Stops x (w, steps) e after ⊎ ((v : Value) × (one : State S × ℕ) × Goes x (w, steps) v one × (Stops y one e after ⊎ ((u : Value) × (other : State S × ℕ) × Goes y one u other × Stops z other e after)))

      module _ (x y z : Tree) (ps : Parts) where
        abbrev among : Opcode → Tree
        among op = of_opcode op (part (inner x) (part (inner y) (part (inner z) ps)))

        bits_stop : Three x y z → RuleStops (among opcodes.CreateField)
        unfolding rule bits_field_rule value_at settle give go_on ◌>>=◌
        bits_stop (inl is) = rw is refl
        bits_stop (inr (v, one, goes, inl is)) = rw (goes, is) refl
        bits_stop (inr (v, one, goes, inr (u, other, too, is))) = rw (goes, too, is) refl

        middle_stops : Three x y z → middle_rule accesses (meaning accesses) scope depth (among opcodes.Mid) (w, steps) ≡ (Err e, after)
        unfolding middle_rule two_values value_at settle give go_on ◌>>=◌
        middle_stops (inl is) = rw is refl
        middle_stops (inr (v, one, goes, inl is)) = rw (goes, is) refl
        middle_stops (inr (v, one, goes, inr (u, other, too, is))) = rw (goes, too, is) refl

        middle_asked : w.profile ≡ profiles.Wide → rule accesses (meaning accesses) (task scope depth (among opcodes.Mid)) (w, steps) ≡ middle_rule accesses (meaning accesses) scope depth (among opcodes.Mid) (w, steps)
        unfolding rule
        middle_asked is_wide = asked_in_wide opcodes.Mid w steps is_wide (middle_rule accesses (meaning accesses) scope depth (among opcodes.Mid))

        third_stops : (op : Opcode) → TakesThree w.profile op → Three x y z → RuleStops (among op)
        third_stops _ by_bits three = bits_stop three
        third_stops _ (by_part is_wide) three = middle_asked is_wide ∙ middle_stops three

      module _ (c x y i : Tree) (j k : ℕ) where
        abbrev Four : Type 0
        Four = Stops c (w, steps) e after ⊎ ((v : Value) × (one : State S × ℕ) × Goes c (w, steps) v one × (Stops x one e after ⊎ ((u : Value) × (two : State S × ℕ) × Goes x one u two × (Stops y two e after ⊎ ((r : Value) × (three : State S × ℕ) × Goes y two r three × Stops i three e after)))))

        match_stops : Four → match_rule accesses (meaning accesses) scope depth (match c j x k y i) (w, steps) ≡ (Err e, after)
        unfolding match_rule value_at settle give go_on ◌>>=◌
        match_stops (inl is) = rw is refl
        match_stops (inr (v, one, goes, inl is)) = rw (goes, is) refl
        match_stops (inr (v, one, goes, inr (u, two, again, inl is))) = rw (goes, again, is) refl
        match_stops (inr (v, one, goes, inr (u, two, again, inr (r, three, too, is)))) = rw (goes, again, too, is) refl

        match_asked : w.profile ≡ profiles.Wide → rule accesses (meaning accesses) (task scope depth (match c j x k y i)) (w, steps) ≡ match_rule accesses (meaning accesses) scope depth (match c j x k y i) (w, steps)
        unfolding rule
        match_asked is_wide = asked_in_wide opcodes.Match w steps is_wide (match_rule accesses (meaning accesses) scope depth (match c j x k y i))

      -- ---- behind other operands

      name_stops : (n : Name) (x : Tree) → Stops x (w, steps) e after → RuleStops (of_opcode opcodes.Name (part (name n) (part (inner x) no_parts)))
      unfolding rule name_rule settle give go_on ◌>>=◌
      name_stops n x is = rw is refl

      fatal_stops : (kind code : ℕ) (x : Tree) → Stops x (w, steps) e after → RuleStops (of_opcode opcodes.Fatal (part (number kind) (part (number code) (part (inner x) no_parts))))
      unfolding rule fatal_rule value_at settle give go_on ◌>>=◌
      fatal_stops kind code x is = rw is refl

      -- ---- any of these terms

      one_of : (x : Tree) → StopsAt (x ∷ []) (w, steps) → Stops x (w, steps) e after
      one_of x (inl is) = is
      one_of x (inr (v, between, goes, none)) = absurd none

      two_of : (x y : Tree) → StopsAt (x ∷ y ∷ []) (w, steps) → Two x y
      two_of x y (inl is) = inl is
      two_of x y (inr (v, between, goes, inl is)) = inr (v, between, goes, is)
      two_of x y (inr (v, between, goes, inr (u, other, too, none))) = absurd none

      three_of : (x y z : Tree) → StopsAt (x ∷ y ∷ z ∷ []) (w, steps) → Three x y z
      three_of x y z (inl is) = inl is
      three_of x y z (inr (v, one, goes, inl is)) = inr (v, one, goes, inl is)
      three_of x y z (inr (v, one, goes, inr (u, other, too, inl is))) = inr (v, one, goes, inr (u, other, too, is))
      three_of x y z (inr (v, one, goes, inr (u, other, too, inr (r, last, also, none)))) = absurd none

      four_of : (c x y i : Tree) (j k : ℕ) → StopsAt (c ∷ x ∷ y ∷ i ∷ []) (w, steps) → Four c x y i j k
      four_of c x y i j k (inl is) = inl is
      four_of c x y i j k (inr (v, one, goes, inl is)) = inr (v, one, goes, inl is)
      four_of c x y i j k (inr (v, one, goes, inr (u, two, again, inl is))) = inr (v, one, goes, inr (u, two, again, inl is))
      four_of c x y i j k (inr (v, one, goes, inr (u, two, again, inr (r, three, too, inl is)))) = inr (v, one, goes, inr (u, two, again, inr (r, three, too, is)))
      four_of c x y i j k (inr (v, one, goes, inr (u, two, again, inr (r, three, too, inr (q, last, also, none))))) = absurd none

      rule_stops : (t : Tree) (xs : List Tree) → TakesValues w.profile t xs → StopsAt xs (w, steps) → RuleStops t
      rule_stops _ _ (of_first op takes x ps) is = first_stops op takes x ps (one_of x is)
      rule_stops _ _ (of_condition op asks x ts ps) is = condition_stops op asks x ts ps (one_of x is)
      rule_stops _ _ (of_two op takes x y ps) is = second_stops x y ps (two_of x y is) op takes
      rule_stops _ _ (of_three op takes x y z ps) is = third_stops x y z ps op takes (three_of x y z is)
      rule_stops _ _ (of_match is_wide c x y i j k) is = match_asked c x y i j k is_wide ∙ match_stops c x y i j k (four_of c x y i j k is)
      rule_stops _ _ (of_region n space offset size) is = region_stops n space offset size (two_of offset size is)
      rule_stops _ _ (of_name n x) is = name_stops n x (one_of x is)
      rule_stops _ _ (of_fatal kind code x) is = fatal_stops kind code x (one_of x is)

  module _ (w : State S) (steps : ℕ) (t : Tree) (xs : List Tree) (takes : TakesValues w.profile t xs) (x : Tree) (at : State S × ℕ) (comes : ComesTo accesses scope depth xs (w, steps) x at) where
    pub stopped : (e : Refusal) (after : State S × ℕ) → Stops x at e after → IsRefused accesses scope depth t (w, suc steps) e after
    stopped e after is = (term_begins accesses (task scope depth t)).paid w steps ∙ rule_stops e after w steps t xs takes (stops_at e after xs (w, steps) x at comes is)

    pub refused_with_operand : (e : Refusal) (after : State S × ℕ) → IsRefused accesses scope depth x at e after → IsRefused accesses scope depth t (w, suc steps) e after
    refused_with_operand e after is = stopped e after (refused_stops x at e after is)

    pub refused_without_value : (after : State S × ℕ) → GivesNothing accesses scope depth x at after → IsRefused accesses scope depth t (w, suc steps) (refusal.Evaluation NoValue) after
    refused_without_value after is = stopped (refusal.Evaluation NoValue) after (nothing_stops x at after is)
