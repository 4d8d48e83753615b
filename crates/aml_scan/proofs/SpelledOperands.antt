-- Operands and field elements that hold no terms are read as they are spelled.
use Rattle.std.proofs.Common.{◌≡◌, ℕ, ◌<◌, List, [], ◌∷◌, ◌++◌, length, Bool, true, false, Option, Some, None, refl, ◌∙◌, sym, ap, length-append, arith}
use Rattle.std.specs.Prelude.{if◌then◌else◌}
use Rattle.std.proofs.lemmas.List.{append-nil}
use Rattle.aml_path.specs.declared.segment.Seg.{Seg}
use Rattle.aml_path.specs.Paths.{Name}
use Rattle.aml_grammar.specs.declared.kinds.OperandKind.{OperandKind}
use Rattle.aml_grammar.specs.declared.kinds.OperandKind.TheVariants as kinds
use Rattle.aml_grammar.specs.declared.context.Context.{Context}
use Rattle.aml_grammar.specs.declared.context.Earlier.{Earlier}
use Rattle.aml_grammar.specs.State.{State, adding}
use Rattle.aml_grammar.specs.Operands.{Read, declare, declare_earlier, name_operand, scope_name, alias_source, external_name, declared_name, integer_operand, method_flags, object_type, argument_count, text_operand, bytes_operand, reserved_field, access_field, extended_access_field, named_field}
use Rattle.aml_grammar.specs.Tree.{Tree, name, number, bytes}
use Rattle.aml_scan.specs.Spelling.{Around, field_element, IsInteger, IsNameString, Spells, SpellsOperand}
use Rattle.aml_scan.proofs.Takes.{Takes, Relation, same_state, takes_then, takes_map, takes_give, takes_look, takes_settle, takes_byte, takes_seen, takes_all}
use Rattle.aml_scan.proofs.SpelledNumbers.{takes_integer, takes_bit_count, takes_text}
use Rattle.aml_scan.proofs.SpelledNames.{takes_name, takes_segment, segment_some}

-- ---- what takes nothing

abbrev Nothing : {A : Type 0} → Relation A
Nothing a front rest = front ≡ []

declared_state : (body : Bool) (path : List Seg) (n : ℕ) (external : Bool) (s : State) → (if body then s else adding path n external s).rest ≡ s.rest
declared_state true path n external s = refl
declared_state false path n external s = refl

takes_declare : (context : Context) (path : List Seg) (n : ℕ) (external : Bool) (s : State) → Takes (declare context path n external) s Nothing
takes_declare context path n external s = record { is = λ u s2 e. ([], sym (declared_state context.body path n external s) ∙ ap (λ (t : State). t.rest) (same_state e), refl) }

takes_declare_earlier : (context : Context) (path : Option (List Seg)) (n : ℕ) (external : Bool) (s : State) → Takes (declare_earlier context path n external) s Nothing
takes_declare_earlier context None n external s = takes_give tt refl
takes_declare_earlier context (Some path) n external s = takes_declare context path n external s

-- ---- operands

-- an operand is spelled as its kind asks
abbrev pub OfKind : Around → OperandKind → Relation Read
OfKind around k x front rest = SpellsOperand around k x.0 front

pub takes_name_operand : (s : State) → Takes name_operand s (λ p front rest. (n : Name) × (p ≡ name n) × IsNameString n front)
unfolding name_operand
takes_name_operand s = takes_map name (takes_name s) (λ n front rest h. (n, refl, h))

pub takes_scope_name : (around : Around) → (scope : List Seg) (earlier : Earlier) (s : State) → Takes (scope_name scope earlier) s (OfKind around kinds.ScopeName)
unfolding scope_name Spells
takes_scope_name around scope earlier s = takes_then (takes_name s) (λ n f s1 h. takes_settle (λ path _. takes_look _ _ (takes_give _ (rw append-nil h))))

pub takes_alias_source : (around : Around) → (scope : List Seg) (earlier : Earlier) (s : State) → Takes (alias_source scope earlier) s (OfKind around kinds.AliasSource)
unfolding alias_source Spells
takes_alias_source around scope earlier s = takes_then (takes_name s) (λ n f s1 h. takes_settle (λ path _. takes_look _ _ (takes_give _ (rw append-nil h))))

pub takes_external_name : (around : Around) → (scope : List Seg) (earlier : Earlier) (s : State) → Takes (external_name scope earlier) s (OfKind around kinds.ExternalName)
unfolding external_name Spells
takes_external_name around scope earlier s = takes_then (takes_name s) (λ n f s1 h. takes_settle (λ path _. takes_give _ (rw append-nil h)))

pub takes_declared_name : (scope : List Seg) (context : Context) (start count : ℕ) (earlier : Earlier) (s : State) → Takes (declared_name scope context start count earlier) s (λ x front rest. (n : Name) × (x.0 ≡ name n) × IsNameString n front)
unfolding declared_name
takes_declared_name scope context start count earlier s = takes_then (takes_name s) (λ n f s1 h. takes_settle (λ path _. takes_then (takes_declare context path count false s1) (λ _ g s2 i. takes_give _ (n, refl, rw (i, append-nil) h))))

pub takes_integer_operand : (width : ℕ) (s : State) → Takes (integer_operand width) s (λ p front rest. (n : ℕ) × (p ≡ number n) × IsInteger width n front)
unfolding integer_operand
takes_integer_operand width s = takes_map number (takes_integer width s) (λ n front rest h. (n, refl, h))

pub takes_method_flags : (around : Around) → (context : Context) (earlier : Earlier) (s : State) → Takes (method_flags context earlier) s (OfKind around kinds.MethodFlags)
unfolding method_flags Spells
takes_method_flags around context earlier s = takes_then (takes_byte s) (λ n f s1 h. takes_then (takes_declare_earlier context earlier.path _ false s1) (λ _ g s2 i. takes_give _ (rw (h, i) refl)))

pub takes_object_type : (around : Around) → (earlier : Earlier) (s : State) → Takes (object_type earlier) s (OfKind around kinds.ObjectType)
unfolding object_type Spells
takes_object_type around earlier s = takes_map _ (takes_byte s) (λ n front rest h. h)

pub takes_argument_count : (around : Around) → (context : Context) (earlier : Earlier) (s : State) → Takes (argument_count context earlier) s (OfKind around kinds.ArgumentCount)
unfolding argument_count Spells
takes_argument_count around context earlier s = takes_then (takes_byte s) (λ n f s1 h. takes_then (takes_declare_earlier context earlier.path _ true s1) (λ _ g s2 i. takes_give _ (rw (h, i) refl)))

pub takes_text_operand : (around : Around) → (s : State) → Takes text_operand s (λ p front rest. SpellsOperand around kinds.AsciiCharList p front)
unfolding text_operand Spells
takes_text_operand around s = takes_map bytes (takes_text s) (λ bs front rest h. h)

pub takes_bytes_operand : (around : Around) → (s : State) → Takes bytes_operand s (λ p front rest. SpellsOperand around kinds.ByteList p front × (rest ≡ []))
unfolding bytes_operand Spells
takes_bytes_operand around s = takes_map bytes (takes_all s) (λ bs front rest h. h)

-- ---- field elements

-- a field element is spelled so, by a byte at least
abbrev pub IsElement : Around → Relation Tree
IsElement around t front rest = Spells around field_element t front × (0 < length front)

pub takes_reserved_field : (around : Around) → (bs : List ℕ) (s : State) → s.rest ≡ 0 ∷ bs → Takes reserved_field s (IsElement around)
unfolding reserved_field Spells
takes_reserved_field around bs s is = takes_then (takes_seen is) (λ c f s1 h. takes_map _ (takes_bit_count s1) (λ n g rest i. rw h.0 ((g, refl, i), omega arith)))

pub takes_access_field : (around : Around) → (bs : List ℕ) (s : State) → s.rest ≡ 1 ∷ bs → Takes access_field s (IsElement around)
unfolding access_field Spells
takes_access_field around bs s is = takes_then (takes_seen is) (λ c f s1 h. takes_then (takes_byte s1) (λ access g s2 i. takes_map _ (takes_byte s2) (λ attribute k rest j. rw (h.0, i, j) (refl, omega arith))))

pub takes_extended_access_field : (around : Around) → (bs : List ℕ) (s : State) → s.rest ≡ 3 ∷ bs → Takes extended_access_field s (IsElement around)
unfolding extended_access_field Spells
takes_extended_access_field around bs s is =
    takes_then (takes_seen is) (λ c f s1 h. takes_then (takes_byte s1) (λ access g s2 i. takes_then (takes_byte s2) (λ attribute k s3 j. takes_map _ (takes_byte s3) (λ count l rest m. rw (h.0, i, j, m) (refl, omega arith)))))

pub takes_named_field : (around : Around) → (scope : List Seg) (context : Context) (s : State) → Takes (named_field scope context) s (IsElement around)
unfolding named_field Spells
takes_named_field around scope context s = takes_then (takes_segment s) (λ seg f s1 h. takes_then (takes_declare context (scope ++ seg ∷ []) 0 false s1) (λ _ g s2 i. takes_map _ (takes_bit_count s2) (λ n k rest j.
    let some : 0 < length (seg.bytes ++ k) = rw length-append (omega (arith, segment_some seg)) in
    rw (h, i) ((seg, refl, k, refl, j), some))))
