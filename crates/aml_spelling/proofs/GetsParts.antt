-- Operands that hold terms are read from their spelling, where the terms are.
use Rattle.std.proofs.Common.{◌≡◌, ℕ, zero, suc, ◌+◌, ◌≤◌, List, [], ◌∷◌, ◌++◌, length, Bool, true, false, refl, ◌∙◌, sym, ap, length-append, arith}
use Rattle.std.specs.Prelude.{◌==◌, ◌||◌}
use Rattle.std.proofs.lemmas.Bool.{le-leb}
use Rattle.ar_space.specs.Change.{give}
use Rattle.aml_path.specs.declared.segment.Seg.{Seg}
use Rattle.aml_path.specs.Paths.{Name}
use Rattle.aml_arities.specs.declared.arities.Arity.{Arity}
use Rattle.aml_grammar.specs.declared.context.Position.{Position}
use Rattle.aml_grammar.specs.declared.context.Position.TheVariants as positions
use Rattle.aml_grammar.specs.declared.context.Context.{Context}
use Rattle.aml_grammar.specs.Names.{starts_name}
use Rattle.aml_grammar.specs.State.{State, Step, until_of, until_end, is_next}
use Rattle.aml_grammar.specs.Tree.{Tree, name, inner, list, Trees, no_trees, tree}
use Rattle.aml_grammar.specs.Shape.{trees_of}
use Rattle.aml_grammar.specs.Grammar.{Inner, is_slot, items, term_operand, list_operand, super_name_at, super_name as super_name_step, target, simple_name, connection}
use Rattle.aml_scan.specs.Spelling.{Around, Place, data_object, super_name, Begins, IsNameString, Spells, SpellsAll}
use Rattle.aml_scan.proofs.SpelledRows.{around_of, place_of}
use Rattle.aml_spelling.specs.Faults.{lacks_else}
use Rattle.aml_spelling.specs.Stands.{Stands, StandAll}
use Rattle.aml_spelling.proofs.Gets.{Gets, gets_then, gets_give, gets_map, gets_value, gets_as, gets_yes, gets_no, gets_look, gets_peek}
use Rattle.aml_spelling.proofs.GetsNames.{name_first}
use Rattle.aml_spelling.proofs.GetsOperands.{gets_name_operand}
use Rattle.aml_spelling.proofs.GetsFirst.{term_first, items_no_else, place_first}

-- an item of a list that is an If without an Else is followed by none
abbrev pub NoElse : Position → Tree → List ℕ → Type 0
NoElse positions.ListItem t rest = lacks_else t ≡ true → is_next 0xA1 rest ≡ false
NoElse positions.TermArg t rest = Unit {0}
NoElse positions.DataObject t rest = Unit {0}
NoElse positions.PackageElement t rest = Unit {0}
NoElse positions.SuperName t rest = Unit {0}

-- terms with so many levels left are read from their spelling
abbrev pub TermGets : ℕ → Inner → Type 0
TermGets levels inner_term = (position : Position) (scope : List Seg) (context : Context) (t : Tree) (spelling rest : List ℕ) (known after : List Arity) (s : State)
    → Spells (around_of context) (place_of position) t spelling → Stands levels scope (around_of context) (place_of position) t known after → NoElse position t rest → s.rest ≡ spelling ++ rest → s.arities ≡ known
    → Gets (inner_term position scope context) s t rest after

-- ---- tests of a first byte

either_two : (x y z : Bool) → y ≡ true → (x || y || z) ≡ true
either_two true true z e = refl
either_two false true z e = refl
either_two x false z e = absurd (cc e)

pub either_three : (x y z : Bool) → z ≡ true → (x || y || z) ≡ true
either_three true y true e = refl
either_three false true true e = refl
either_three false false true e = refl
either_three x y false e = absurd (cc e)

slot_begins : (spelling : List ℕ) (b : ℕ) (left : List ℕ) → Begins 0x60 0x6E spelling → spelling ≡ b ∷ left → is_slot b ≡ true
unfolding is_slot
slot_begins [] b left h e = absurd h
slot_begins (c ∷ spelling) b left h e = let same : c ≡ b = cc e in rw (← same, le-leb 0x60 c h.0, le-leb c 0x6E h.1) refl

buffer_begins : (spelling : List ℕ) → Begins 0x11 0x11 spelling → (left : List ℕ) × (spelling ≡ 0x11 ∷ left)
buffer_begins [] h = absurd h
buffer_begins (b ∷ spelling) h = let one : b ≡ 0x11 = omega (arith, h.0, h.1) in (spelling, ap (λ c. c ∷ spelling) one)

-- ---- lists

abbrev pub list_of : Trees → List Tree
list_of no_trees = []
list_of (tree t ts) = t ∷ list_of ts

pub list_again : (ts : Trees) → trees_of (list_of ts) ≡ ts
list_again no_trees = refl
list_again (tree t ts) = ap (λ us. tree t us) (list_again ts)

no_else_after : (around : Around) (position : Position) (t : Tree) (ts : Trees) (spelling : List ℕ) → SpellsAll around (place_of position) ts spelling → NoElse position t spelling
no_else_after around positions.ListItem t ts spelling h = λ _. items_no_else around ts spelling h
no_else_after around positions.TermArg t ts spelling h = tt
no_else_after around positions.DataObject t ts spelling h = tt
no_else_after around positions.PackageElement t ts spelling h = tt
no_else_after around positions.SuperName t ts spelling h = tt

-- what is read from its spelling, by at least a byte, is read until nothing is left
abbrev pub ItemGets : ℕ → List Seg → Around → Place → Step Tree → Type 0
ItemGets levels scope around place m = (t : Tree) (spelling rest : List ℕ) (known after : List Arity) (s : State) → Spells around place t spelling → Stands levels scope around place t known after → ((ts : Trees) × SpellsAll around place ts rest) → s.rest ≡ spelling ++ rest → s.arities ≡ known → Gets m s t rest after

module _ (levels : ℕ) (scope : List Seg) (around : Around) (place : Place) (m : Step Tree) (h : ItemGets levels scope around place m)
    (some : (t : Tree) (spelling : List ℕ) → Spells around place t spelling → (b : ℕ) × (left : List ℕ) × (spelling ≡ b ∷ left)) where
  pub gets_until : (n : ℕ) (ts : Trees) (spelling : List ℕ) (known after : List Arity) (s : State) → length spelling ≤ n → SpellsAll around place ts spelling → StandAll levels scope around place ts known after → s.rest ≡ spelling → s.arities ≡ known
      → Gets (until_end m n) s (list_of ts) [] after
  unfolding until_end Spells Stands give
  gets_until zero no_trees spelling known after s le spelled stands is ar = record { after = s; is = refl; left = is ∙ spelled; knows = ar ∙ sym stands }
  gets_until (suc n) no_trees spelling known after s le spelled stands is ar = gets_as (ap (λ l. until_of m (until_end m n) l s) (is ∙ spelled)) (gets_give [] (is ∙ spelled) (ar ∙ sym stands))
  gets_until zero (tree t ts) spelling known after s le spelled stands is ar =
      let k = some t spelled.0 spelled.3 in
      let long : length spelling ≡ suc (length (k.1 ++ spelled.1)) = ap (λ (l : List ℕ). length l) spelled.2 ∙ ap (λ (l : List ℕ). length (l ++ spelled.1)) k.2 in
      absurd (omega (arith, le, long))
  gets_until (suc n) (tree t ts) spelling known after s le spelled stands is ar =
      let k = some t spelled.0 spelled.3 in
      let first : s.rest ≡ k.0 ∷ (k.1 ++ spelled.1) = is ∙ spelled.2 ∙ ap (λ l. l ++ spelled.1) k.2 in
      let long : length spelling ≡ suc (length (k.1 ++ spelled.1)) = ap (λ (l : List ℕ). length l) spelled.2 ∙ ap (λ (l : List ℕ). length (l ++ spelled.1)) k.2 in
      let parts : length (k.1 ++ spelled.1) ≡ length k.1 + length spelled.1 = length-append k.1 spelled.1 in
      gets_as (ap (λ l. until_of m (until_end m n) l s) first)
      (gets_then _ (h t spelled.0 spelled.1 known stands.0 s spelled.3 stands.1 (ts, spelled.4) (is ∙ spelled.2) ar) (λ s1 is1 ar1.
      gets_map (λ xs. t ∷ xs) (gets_until n ts spelled.1 stands.0 after s1 (omega (arith, le, long, parts)) spelled.4 stands.2 is1 ar1)))

module _ (levels : ℕ) (inner_term : Inner) (h : TermGets levels inner_term) where
  pub gets_items : (position : Position) (scope : List Seg) (context : Context) (ts : Trees) (spelling : List ℕ) (known after : List Arity) (s : State) → SpellsAll (around_of context) (place_of position) ts spelling
      → StandAll levels scope (around_of context) (place_of position) ts known after → s.rest ≡ spelling → s.arities ≡ known → Gets (items inner_term position scope context) s (list_of ts) [] after
  unfolding items
  gets_items position scope context ts spelling known after s spelled stands is ar = gets_as refl (gets_until levels scope (around_of context) (place_of position) (inner_term position scope context)
      (λ t front rest k l s1 i j more is1 ar1. h position scope context t front rest k l s1 i j (no_else_after (around_of context) position t more.0 rest more.1) is1 ar1)
      (term_first (around_of context) position)
      (length s.rest) ts spelling known after s (rw is (omega arith)) spelled stands is ar)

  pub gets_list : (position : Position) (scope : List Seg) (context : Context) (ts : Trees) (spelling : List ℕ) (known after : List Arity) (s : State) → SpellsAll (around_of context) (place_of position) ts spelling
      → StandAll levels scope (around_of context) (place_of position) ts known after → s.rest ≡ spelling → s.arities ≡ known → Gets (list_operand inner_term position scope context) s (list ts) [] after
  unfolding list_operand
  gets_list position scope context ts spelling known after s spelled stands is ar = gets_value (ap list (list_again ts)) (gets_map (λ us. list (trees_of us)) (gets_items position scope context ts spelling known after s spelled stands is ar))

  -- ---- terms and places

  module _ {s : State} {rest : List ℕ} {known : List Arity} (spelling : List ℕ) (is : s.rest ≡ spelling ++ rest) (ar : s.arities ≡ known) where
    pub gets_term : (position : Position) (scope : List Seg) (context : Context) (t : Tree) (after : List Arity) → Spells (around_of context) (place_of position) t spelling → Stands levels scope (around_of context) (place_of position) t known after → NoElse position t rest
        → Gets (term_operand inner_term position scope context) s (inner t) rest after
    unfolding term_operand
    gets_term position scope context t after spelled stands alone = gets_map inner (h position scope context t spelling rest known after s spelled stands alone is ar)

    super_by_name : (scope : List Seg) (context : Context) (n : Name) (b : ℕ) → (b == 0) ≡ false → starts_name b ≡ true → IsNameString n spelling → Gets (super_name_at inner_term scope context b) s (name n) rest known
    super_by_name scope context n b some starts spelled = gets_no _ some (gets_yes _ starts (gets_name_operand n spelling spelled is ar))

    super_by_term : (scope : List Seg) (context : Context) (t : Tree) (after : List Arity) (b : ℕ) → (b == 0) ≡ false → starts_name b ≡ false → Spells (around_of context) super_name t spelling → Stands levels scope (around_of context) super_name t known after
        → Gets (super_name_at inner_term scope context b) s (inner t) rest after
    super_by_term scope context t after b some starts spelled stands = gets_no _ some (gets_no _ starts (gets_term positions.SuperName scope context t after spelled stands tt))

    pub gets_super_name : (scope : List Seg) (context : Context) (n : Name) → IsNameString n spelling → Gets (super_name_step inner_term scope context) s (name n) rest known
    unfolding super_name_step
    gets_super_name scope context n spelled = let k = name_first n spelling spelled in gets_peek _ (is ∙ ap (λ l. l ++ rest) k.2) (super_by_name scope context n k.0 k.3 k.4 spelled)

    pub gets_super_term : (scope : List Seg) (context : Context) (t : Tree) (after : List Arity) → Spells (around_of context) super_name t spelling → Stands levels scope (around_of context) super_name t known after → Gets (super_name_step inner_term scope context) s (inner t) rest after
    unfolding super_name_step
    gets_super_term scope context t after spelled stands = let k = place_first (around_of context) t spelling spelled in gets_peek _ (is ∙ ap (λ l. l ++ rest) k.2) (super_by_term scope context t after k.0 k.3 k.4 spelled stands)

    pub gets_target_name : (scope : List Seg) (context : Context) (n : Name) → IsNameString n spelling → Gets (target inner_term scope context) s (name n) rest known
    unfolding target
    gets_target_name scope context n spelled = let k = name_first n spelling spelled in gets_peek _ (is ∙ ap (λ l. l ++ rest) k.2) (gets_no _ k.3 (gets_super_name scope context n spelled))

    pub gets_target_term : (scope : List Seg) (context : Context) (t : Tree) (after : List Arity) → Spells (around_of context) super_name t spelling → Stands levels scope (around_of context) super_name t known after → Gets (target inner_term scope context) s (inner t) rest after
    unfolding target
    gets_target_term scope context t after spelled stands = let k = place_first (around_of context) t spelling spelled in gets_peek _ (is ∙ ap (λ l. l ++ rest) k.2) (gets_no _ k.3 (gets_super_term scope context t after spelled stands))

    pub gets_simple_by_name : (scope : List Seg) (context : Context) (n : Name) → IsNameString n spelling → Gets (simple_name inner_term scope context) s (name n) rest known
    unfolding simple_name
    gets_simple_by_name scope context n spelled =
        let k = name_first n spelling spelled in
        gets_look (λ s. s.at) _ (gets_peek _ (is ∙ ap (λ l. l ++ rest) k.2) (gets_yes _ (either_two (k.0 == 0) (starts_name k.0) (is_slot k.0) k.4) (gets_super_name scope context n spelled)))

    pub gets_simple_term : (scope : List Seg) (context : Context) (t : Tree) (after : List Arity) → Begins 0x60 0x6E spelling → Spells (around_of context) super_name t spelling → Stands levels scope (around_of context) super_name t known after
        → Gets (simple_name inner_term scope context) s (inner t) rest after
    unfolding simple_name
    gets_simple_term scope context t after begins spelled stands =
        let k = place_first (around_of context) t spelling spelled in
        gets_look (λ s. s.at) _ (gets_peek _ (is ∙ ap (λ l. l ++ rest) k.2) (gets_yes _ (either_three (k.0 == 0) (starts_name k.0) (is_slot k.0) (slot_begins spelling k.0 k.1 begins k.2)) (gets_super_term scope context t after spelled stands)))

    -- ---- connections

    pub gets_connection_name : (scope : List Seg) (context : Context) (n : Name) → IsNameString n spelling → Gets (connection inner_term scope context) s (name n) rest known
    unfolding connection
    gets_connection_name scope context n spelled = let k = name_first n spelling spelled in gets_peek _ (is ∙ ap (λ l. l ++ rest) k.2) (gets_yes _ k.4 (gets_name_operand n spelling spelled is ar))

    pub gets_connection_term : (scope : List Seg) (context : Context) (t : Tree) (after : List Arity) → Begins 0x11 0x11 spelling → Spells (around_of context) data_object t spelling → Stands levels scope (around_of context) data_object t known after
        → Gets (connection inner_term scope context) s (inner t) rest after
    unfolding connection starts_name
    gets_connection_term scope context t after begins spelled stands =
        let k = buffer_begins spelling begins in
        gets_peek _ (is ∙ ap (λ l. l ++ rest) k.1) (gets_term positions.DataObject scope context t after spelled stands tt)
