-- Operands without terms: the walks go as the steps do, whatever the steps declare.
use Rattle.std.proofs.Common.{ℕ, ◌%◌, List, [], ◌∷◌, ◌++◌, Bool, true, false, Option, Some, None, Ok, refl, ap}
use Rattle.std.specs.Prelude.{◌==◌, if◌then◌else◌}
use Rattle.ar_space.specs.Change.{give}
use Rattle.aml_path.specs.declared.segment.Seg.{Seg}
use Rattle.aml_path.specs.Paths.{resolved}
use Rattle.aml_grammar.specs.declared.opcode.TermCode.TheVariants as codes
use Rattle.aml_grammar.specs.declared.context.Context.{Context}
use Rattle.aml_grammar.specs.declared.context.Earlier.{Earlier}
use Rattle.aml_grammar.specs.State.{State, Step, adding}
use Rattle.aml_grammar.specs.Operands.{Read, declare, declare_earlier, name_operand, scope_name, alias_source, external_name, declared_name, integer_operand, method_flags, object_type, argument_count, text_operand, bytes_operand, reserved_field, access_field, extended_access_field, one_segment, named_field}
use Rattle.aml_grammar.specs.DeclaredNames.{declared_path}
use Rattle.aml_grammar.specs.Tree.{term, Part, null, name, number, bytes}
use Rattle.aml_grammar.specs.Shape.{parts_of}
use Rattle.aml_grammar.specs.Grammar.{keeping}
use Rattle.aml_marks.specs.Marked.{Walk, after, gives, a_byte, an_integer, a_text, all_left, a_bit_count, a_name, to_part, a_reserved_field, an_access_field, an_extended_access_field, a_named_field}
use Rattle.aml_marks.proofs.Follows.{same_value, same_state, both, carry, goes_nowhere, Follows, FollowsBy, by_then, follows_then, follows_map, follows_part, follows_quiet, by_first, Stays, stays_then, stays_give, stays_settle, stays_look, Any}
use Rattle.aml_marks.proofs.Moves.{follows_takes}
use Rattle.aml_marks.proofs.Leaves.{takes_byte, takes_integer, takes_text, takes_all, takes_bit_count}
use Rattle.aml_marks.proofs.LeafNames.{takes_name, by_segment}

-- ---- declarations

declare_if : (body : Bool) (path : List Seg) (n : ℕ) (external : Bool) → Stays {A = Unit {0}} Any (λ s. (Ok tt, if body then s else adding path n external s))
declare_if true path n external = record { is = λ s a t e. rw (← same_state e) (tt, refl, refl) }
declare_if false path n external = record { is = λ s a t e. rw (← same_state e) (tt, refl, refl) }

pub stays_declare : (context : Context) (path : List Seg) (n : ℕ) (external : Bool) → Stays Any (declare context path n external)
stays_declare context path n external = declare_if context.body path n external

stays_earlier : (context : Context) (o : Option (List Seg)) (n : ℕ) (external : Bool) → Stays Any (declare_earlier context o n external)
stays_earlier context None n external = stays_give tt tt
stays_earlier context (Some path) n external = stays_declare context path n external

-- an operand whose walk gives its part
abbrev pub ReadBy : (ℕ → ℕ) → Step Read → Walk Part → State → Type 0
ReadBy count m w s = FollowsBy count (λ (x : Read). x.0) m w s

module _ {count : ℕ → ℕ} where
  pub by_keeping : {m : Step Part} {w : Walk Part} {s : State} (earlier : Earlier) → Follows count m w s → ReadBy count (keeping earlier m) w s
  unfolding give
  by_keeping {m = m} {w = w} {s = s} earlier h = record {
    is = λ x s2 e.
        let p = both m (λ q. give (q, earlier)) s x s2 e in
        let y = h.is p.0 p.1 p.2 in
        carry count w s (ap (λ (x : Read). x.0) (same_value p.3)) (same_state p.3) y;
  }

  pub by_nothing : (earlier : Earlier) (s : State) → ReadBy count (give (null, earlier)) (gives null) s
  unfolding give gives
  by_nothing earlier s = record { is = λ x s2 e. rw (← same_state e, ← same_value e) (goes_nowhere, λ fits kept. refl) }

  -- ---- names

  pub follows_name : (s : State) → Follows count name_operand (to_part name a_name) s
  unfolding name_operand
  follows_name s = follows_part name (follows_takes (takes_name s))

  pub by_scope : (scope : List Seg) (earlier : Earlier) (s : State) → ReadBy count (scope_name scope earlier) (to_part name a_name) s
  unfolding scope_name
  by_scope scope earlier s = by_first (λ (x : Read). x.0) name _ (follows_takes (takes_name s)) (λ n. stays_then Any (stays_settle (resolved n scope)) (λ path. stays_then Any (stays_look _) (λ place. stays_give _ refl)))

  pub by_source : (scope : List Seg) (earlier : Earlier) (s : State) → ReadBy count (alias_source scope earlier) (to_part name a_name) s
  unfolding alias_source
  by_source scope earlier s = by_first (λ (x : Read). x.0) name _ (follows_takes (takes_name s)) (λ n. stays_then Any (stays_settle (resolved n scope)) (λ path. stays_then Any (stays_look _) (λ count. stays_give _ refl)))

  pub by_external : (scope : List Seg) (earlier : Earlier) (s : State) → ReadBy count (external_name scope earlier) (to_part name a_name) s
  unfolding external_name
  by_external scope earlier s = by_first (λ (x : Read). x.0) name _ (follows_takes (takes_name s)) (λ n. stays_then Any (stays_settle (resolved n scope)) (λ path. stays_give _ refl))

  pub by_declared : (scope : List Seg) (context : Context) (start n : ℕ) (earlier : Earlier) (s : State) → ReadBy count (declared_name scope context start n earlier) (to_part name a_name) s
  unfolding declared_name
  by_declared scope context start n earlier s = by_first (λ (x : Read). x.0) name _ (follows_takes (takes_name s)) (λ m. stays_then Any (stays_settle (declared_path scope context start m)) (λ path. stays_then Any (stays_declare context path n false) (λ added. stays_give _ refl)))

  -- ---- numbers and bytes

  pub follows_integer : (width : ℕ) (s : State) → Follows count (integer_operand width) (to_part number (an_integer width)) s
  unfolding integer_operand
  follows_integer width s = follows_part number (follows_takes (takes_integer width s))

  pub by_flags : (context : Context) (earlier : Earlier) (s : State) → ReadBy count (method_flags context earlier) (to_part number a_byte) s
  unfolding method_flags
  by_flags context earlier s = by_first (λ (x : Read). x.0) number _ (follows_takes (takes_byte s)) (λ n. stays_then Any (stays_earlier context earlier.path (n % 8) false) (λ added. stays_give _ refl))

  pub by_type : (earlier : Earlier) (s : State) → ReadBy count (object_type earlier) (to_part number a_byte) s
  unfolding object_type
  by_type earlier s = by_first (λ (x : Read). x.0) number _ (follows_takes (takes_byte s)) (λ n. stays_give _ refl)

  pub by_count : (context : Context) (earlier : Earlier) (s : State) → ReadBy count (argument_count context earlier) (to_part number a_byte) s
  unfolding argument_count
  by_count context earlier s = by_first (λ (x : Read). x.0) number _ (follows_takes (takes_byte s)) (λ n. stays_then Any (stays_earlier context earlier.path (if earlier.count == 8 then n else 0) true) (λ added. stays_give _ refl))

  pub follows_text : (s : State) → Follows count text_operand (to_part bytes a_text) s
  unfolding text_operand
  follows_text s = follows_part bytes (follows_takes (takes_text s))

  pub follows_bytes : (s : State) → Follows count bytes_operand (to_part bytes all_left) s
  unfolding bytes_operand
  follows_bytes s = follows_part bytes (follows_takes (takes_all s))

  -- ---- field elements without terms

  pub follows_reserved : (s : State) → Follows count reserved_field a_reserved_field s
  unfolding reserved_field a_reserved_field
  follows_reserved s = follows_then (follows_takes (takes_byte s)) (λ code s1 g. follows_map (λ n. term codes.ReservedField (parts_of (number n ∷ []))) (follows_takes (takes_bit_count s1)))

  pub follows_access : (s : State) → Follows count access_field an_access_field s
  unfolding access_field an_access_field
  follows_access s = follows_then (follows_takes (takes_byte s)) (λ code s1 g. follows_then (follows_takes (takes_byte s1)) (λ access s2 g. follows_map (λ attribute. term codes.AccessField (parts_of (number access ∷ number attribute ∷ []))) (follows_takes (takes_byte s2))))

  pub follows_extended : (s : State) → Follows count extended_access_field an_extended_access_field s
  unfolding extended_access_field an_extended_access_field
  follows_extended s = follows_then (follows_takes (takes_byte s)) (λ code s1 g. follows_then (follows_takes (takes_byte s1)) (λ access s2 g. follows_then (follows_takes (takes_byte s2)) (λ attribute s3 g. follows_map (λ n. term codes.ExtendedAccessField (parts_of (number access ∷ number attribute ∷ number n ∷ []))) (follows_takes (takes_byte s3)))))

  pub follows_named_field : (scope : List Seg) (context : Context) (s : State) → Follows count (named_field scope context) a_named_field s
  unfolding named_field a_named_field
  follows_named_field scope context s = by_then (λ n. after a_bit_count (λ bits. gives (term codes.NamedField (parts_of (name n ∷ number bits ∷ []))))) (by_segment s) (λ g s1 goes. follows_quiet (stays_declare context (scope ++ g ∷ []) 0 false) (λ added s2. follows_map (λ bits. term codes.NamedField (parts_of (name (one_segment g) ∷ number bits ∷ []))) (follows_takes (takes_bit_count s2))))
