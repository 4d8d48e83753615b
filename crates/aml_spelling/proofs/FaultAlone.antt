-- Behind an If that is read without an Else there is none.
use Rattle.std.proofs.Common.{◌≡◌, ℕ, List, [], ◌∷◌, ◌++◌, Bool, true, false, Option, Some, None, Ok, refl, subst, ◌∙◌, sym, ap, arith}
use Rattle.std.specs.Prelude.{if◌then◌else◌}
use Rattle.std.proofs.lemmas.Bool.{eqb-false}
use Rattle.ar_space.specs.declared.refusal.Refusal.{Refusal}
use Rattle.ar_space.specs.declared.refusal.Refusal.TheVariants as refusals
use Rattle.ar_space.specs.declared.refusal.TermFault.TheVariants.{BadOpcode, TooDeep}
use Rattle.ar_space.specs.Change.{give, stop, go_on, ◌>>=◌}
use Rattle.aml_path.specs.declared.segment.Seg.{Seg}
use Rattle.aml_grammar.specs.declared.opcode.Opcode.{Opcode}
use Rattle.aml_grammar.specs.declared.opcode.Opcode.TheVariants as opcodes
use Rattle.aml_grammar.specs.declared.opcode.TermCode.TheVariants as codes
use Rattle.aml_grammar.specs.declared.kinds.Row.{Row}
use Rattle.aml_grammar.specs.declared.context.Position.{Position}
use Rattle.aml_grammar.specs.declared.context.Position.TheVariants as positions
use Rattle.aml_grammar.specs.declared.context.Context.{Context}
use Rattle.aml_grammar.specs.Names.{starts_name}
use Rattle.aml_grammar.specs.State.{State, Step, is_next}
use Rattle.aml_grammar.specs.Tree.{Tree, term, Part, null, inner, Parts, no_parts, part}
use Rattle.aml_grammar.specs.Shape.{parts_of}
use Rattle.aml_grammar.specs.Grammar.{Inner, is_if, at_item, item_of, at_else, costs_no_level, takes_name, plain_term, else_term, else_operand, else_part, if_term, row_term, deeper, coded_term, element_name, invocation, named_term, named, term_in, below, by_arities}
use Rattle.aml_scan.specs.Spelling.{Begins}
use Rattle.aml_scan.proofs.Takes.{same_value, same_state, refused, both}
use Rattle.aml_spelling.specs.Faults.{lacks_else}
use Rattle.aml_spelling.proofs.FaultKinds.{TermAlone}

-- what is read is no If without an Else, or none follows
record Alone (m : Step Tree) (s : State) : Type 0 where
  pub is : (t : Tree) (s2 : State) → m s ≡ (Ok t, s2) → lacks_else t ≡ true → Begins 0xA1 0xA1 s2.rest → ⊥

alone_then : {A : Type 0} (m : Step A) {k : A → Step Tree} {s : State} → ((a : A) (s1 : State) → Alone (k a) s1) → Alone (m >>= k) s
alone_then m {k = k} {s = s} i = record { is = λ t s2 e. let p = both m k s t s2 e in (i p.0 p.1).is t s2 p.3 }

alone_give : {s : State} (t : Tree) → (lacks_else t ≡ true → ⊥) → Alone (give t) s
unfolding give
alone_give t h = record { is = λ u s2 e lacks begins. h (subst (λ (v : Tree). lacks_else v ≡ true) (sym (same_value e)) lacks) }

alone_stop : {s : State} (r : Refusal) → Alone (stop r) s
unfolding stop
alone_stop r = record { is = λ t s2 e. absurd (refused e) }

alone_if : {m n : Step Tree} {s : State} (b : Bool) → (b ≡ true → Alone m s) → (b ≡ false → Alone n s) → Alone (if b then m else n) s
alone_if true h i = h refl
alone_if false h i = i refl

alone_as : {m n : Step Tree} {s : State} → m s ≡ n s → Alone n s → Alone m s
alone_as same h = record { is = λ t s2 e. h.is t s2 (sym same ∙ e) }

-- ---- which trees lack an Else

pub lacks_shape : (t : Tree) → lacks_else t ≡ true → (c : Part) × (l : Part) × (t ≡ term (codes.Opcode opcodes.If) (part c (part l (part null no_parts))))
lacks_shape (term (codes.Opcode opcodes.If) (part c (part l (part null no_parts)))) e = (c, l, refl)
lacks_shape _ e = absurd (cc e)

abbrev opcode_in : Tree → Opcode
opcode_in (term (codes.Opcode o) ps) = o
opcode_in _ = opcodes.Zero

lacks_if : (o : Opcode) (ps : Parts) → is_if o ≡ false → lacks_else (term (codes.Opcode o) ps) ≡ true → ⊥
lacks_if o ps other e = let k = lacks_shape (term (codes.Opcode o) ps) e in cc (other, ap is_if (ap opcode_in k.2))

abbrev parts_in : Tree → Parts
parts_in (term code ps) = ps

abbrev last_part : Parts → Part
last_part no_parts = null
last_part (part p no_parts) = p
last_part (part p (part q ps)) = last_part (part q ps)

last_is : (ps : List Part) (e : Part) → last_part (parts_of (ps ++ e ∷ [])) ≡ e
last_is [] e = refl
last_is (p ∷ []) e = refl
last_is (p ∷ q ∷ ps) e = last_is (q ∷ ps) e

lacks_inner : (o : Opcode) (ps : List Part) (t : Tree) → lacks_else (term (codes.Opcode o) (parts_of (ps ++ inner t ∷ []))) ≡ true → ⊥
lacks_inner o ps t e =
    let k = lacks_shape (term (codes.Opcode o) (parts_of (ps ++ inner t ∷ []))) e in
    let same : inner t ≡ null = sym (last_is ps (inner t)) ∙ ap (λ (u : Tree). last_part (parts_in u)) k.2 in
    cc same

lacks_none : (o : Opcode) → lacks_else (term (codes.Opcode o) no_parts) ≡ true → ⊥
lacks_none o e =
    let k = lacks_shape (term (codes.Opcode o) no_parts) e in
    let same : no_parts ≡ part k.0 (part k.1 (part null no_parts)) = ap parts_in k.2 in
    cc same

-- ---- rows

begins_next : (bs : List ℕ) → is_next 0xA1 bs ≡ false → Begins 0xA1 0xA1 bs → ⊥
begins_next [] e h = h
begins_next (b ∷ bs) e h = let same : b ≡ 0xA1 = omega (arith, h.0, h.1) in eqb-false b 0xA1 e same

inner_is : (u : Tree) (s1 : State) (x : Part) (s2 : State) → give (inner u) s1 ≡ (Ok x, s2) → inner u ≡ x
unfolding give
inner_is u s1 x s2 e = same_value e

abbrev none_step : Step Part
none_step s = (Ok null, s)

kept_state : (ps : List Part) (row : Row) (s : State) (t : Tree) (s2 : State) → (none_step >>= (λ e. give (term (codes.Opcode row.0) (parts_of (ps ++ e ∷ []))))) s ≡ (Ok t, s2) → s ≡ s2
unfolding give ◌>>=◌ go_on
kept_state ps row s t s2 e = same_state e

module _ (inner_term : Inner) (scope : List Seg) (context : Context) (start : ℕ) where
  alone_else : (ps : List Part) (row : Row) (c : Context) (s : State) → Alone (else_operand inner_term scope c >>= (λ e. give (term (codes.Opcode row.0) (parts_of (ps ++ e ∷ []))))) s
  unfolding else_operand
  alone_else ps row c s = record {
    is = λ t s2 e.
        let p = both (else_term inner_term scope c >>= (λ u. give (inner u))) (λ e. give (term (codes.Opcode row.0) (parts_of (ps ++ e ∷ [])))) s t s2 e in
        let q = both (else_term inner_term scope c) (λ u. give (inner u)) s p.0 p.1 p.2 in
        (alone_give {s = p.1} (term (codes.Opcode row.0) (parts_of (ps ++ p.0 ∷ []))) (λ lacks. lacks_inner row.0 ps q.0 (subst (λ (x : Part). lacks_else (term (codes.Opcode row.0) (parts_of (ps ++ x ∷ []))) ≡ true) (sym (inner_is q.0 q.1 p.0 p.1 q.3)) lacks))).is t s2 p.3;
  }

  alone_else_if : (ps : List Part) (row : Row) (c : Context) (s : State) (b : Bool) → is_next 0xA1 s.rest ≡ b → Alone ((λ t. if b then else_operand inner_term scope c t else (Ok null, t)) >>= (λ e. give (term (codes.Opcode row.0) (parts_of (ps ++ e ∷ []))))) s
  alone_else_if ps row c s true is = alone_else ps row c s
  alone_else_if ps row c s false is = record { is = λ t s2 e lacks begins. begins_next s.rest is (subst (λ (u : State). Begins 0xA1 0xA1 u.rest) (sym (kept_state ps row s t s2 e)) begins) }

  alone_if_term : (row : Row) (s : State) → Alone (if_term inner_term scope context start row) s
  unfolding if_term else_part ◌>>=◌
  alone_if_term row s = alone_then _ (λ ps s1. alone_as refl (alone_else_if ps row (at_else context start s1.at) s1 (is_next 0xA1 s1.rest) refl))

  alone_row_term : (row : Row) (s : State) → Alone (row_term inner_term scope context start row) s
  unfolding row_term plain_term
  alone_row_term row s = alone_as refl (alone_if (is_if row.0) (λ _. alone_if_term row s) (λ other. alone_then _ (λ ps s1. alone_give _ (lacks_if row.0 (parts_of ps) other))))

-- ---- terms

alone_deeper : (below : Option Inner) (item : ℕ) (go : Inner → Step Tree) (s : State) → ((inner_term : Inner) → Alone (go inner_term) s) → Alone (deeper below item go) s
unfolding deeper
alone_deeper None item go s i = alone_stop (refusals.Term TooDeep item)
alone_deeper (Some inner_term) item go s i = i inner_term

alone_coded : (below : Option Inner) (position : Position) (scope : List Seg) (context : Context) (start : ℕ) (s : State) → Alone (coded_term below position scope context start) s
unfolding coded_term
alone_coded below position scope context start s = alone_then _ (λ row s1. alone_if (costs_no_level row.1 position) (λ _. alone_give _ (lacks_none row.0)) (λ _. alone_deeper below (item_of context.item start) _ s1 (λ inner_term. alone_row_term inner_term scope context start row s1)))

alone_element : (s : State) → Alone element_name s
unfolding element_name
alone_element s = alone_then _ (λ n s1. alone_give _ (λ e. cc e))

alone_call : (inner_term : Inner) (scope : List Seg) (context : Context) (start : ℕ) (s : State) → Alone (invocation by_arities inner_term scope context start) s
unfolding invocation
alone_call inner_term scope context start s = alone_then _ (λ n s1. alone_then _ (λ path s2. alone_then _ (λ count s3. alone_then _ (λ ts s4. alone_give _ (λ e. cc e)))))

alone_named_term : (inner_term : Inner) (position : Position) (scope : List Seg) (context : Context) (start : ℕ) (s : State) → Alone (named_term by_arities inner_term position scope context start) s
alone_named_term inner_term positions.PackageElement scope context start s = alone_element s
alone_named_term inner_term positions.ListItem scope context start s = alone_call inner_term scope context start s
alone_named_term inner_term positions.TermArg scope context start s = alone_call inner_term scope context start s
alone_named_term inner_term positions.DataObject scope context start s = alone_call inner_term scope context start s
alone_named_term inner_term positions.SuperName scope context start s = alone_call inner_term scope context start s

alone_named : (below : Option Inner) (position : Position) (scope : List Seg) (context : Context) (start : ℕ) (s : State) → Alone (named by_arities below position scope context start) s
unfolding named
alone_named below position scope context start s = alone_as refl (alone_if (takes_name position) (λ _. alone_deeper below (item_of context.item start) _ s (λ inner_term. alone_named_term inner_term position scope context start s)) (λ _. alone_stop (refusals.Term BadOpcode start)))

alone_term : (o : Option Inner) (position : Position) (scope : List Seg) (context : Context) (s : State) → Alone (term_in by_arities o position scope context) s
unfolding term_in
alone_term o position scope context s = alone_as refl (alone_then _ (λ start s1. alone_then _ (λ b s2. alone_if (starts_name b) (λ _. alone_named o position scope (at_item context start) start s2) (λ _. alone_coded o position scope (at_item context start) start s2))))

pub term_alone : (o : Option Inner) → TermAlone (term_in by_arities o)
term_alone o position scope context s s1 t e = (alone_term o position scope context s).is t s1 e
