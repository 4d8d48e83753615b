-- A fault on a way through an operand is what reading the operand refuses, where the terms below are refused so.
use Rattle.std.proofs.Common.{◌≡◌, ℕ, ◌+◌, ◌<◌, List, [], ◌∷◌, ◌++◌, length, Bool, true, false, Some, refl, subst, subst₂, sym, ap, arith}
use Rattle.std.specs.Prelude.{◌==◌}
use Rattle.ar_space.specs.declared.refusal.Refusal.{Refusal}
use Rattle.aml_path.specs.declared.segment.Seg.{Seg}
use Rattle.aml_grammar.specs.declared.kinds.Class.{Class}
use Rattle.aml_grammar.specs.declared.kinds.Class.TheVariants as classes
use Rattle.aml_grammar.specs.declared.kinds.OperandKind.{OperandKind}
use Rattle.aml_grammar.specs.declared.kinds.OperandKind.TheVariants as kinds
use Rattle.aml_grammar.specs.declared.context.Position.{Position}
use Rattle.aml_grammar.specs.declared.context.Position.TheVariants as positions
use Rattle.aml_grammar.specs.declared.context.Context.{Context}
use Rattle.aml_grammar.specs.declared.context.Earlier.{Earlier}
use Rattle.aml_grammar.specs.Names.{starts_name}
use Rattle.aml_grammar.specs.State.{State, until_end, is_next}
use Rattle.aml_grammar.specs.Tree.{Tree, Trees}
use Rattle.aml_grammar.specs.Grammar.{Inner, is_slot, item_of, scope_of, in_loop, items, term_operand, list_operand, super_name as super_name_step, target, simple_name, connection, connect_field, field, fields, fields_operand, operand}
use Rattle.aml_scan.specs.Spelling.{Around, Place, list_item, data_object, package_element, super_name, field_element, may_stand, Begins, Spells}
use Rattle.aml_scan.proofs.SpelledRows.{around_of, place_of}
use Rattle.aml_spelling.specs.Faults.{Spot, Way, here, in_operand, in_argument, at_else, in_else, in_term, in_item, in_connection, a_term, an_operand, AsName, lacks_else, TermOf, ListOf, Passes, FaultyAt}
use Rattle.aml_spelling.proofs.EndsTerms.{ends_field}
use Rattle.aml_spelling.proofs.FaultAlone.{lacks_shape}
use Rattle.aml_spelling.proofs.FaultKinds.{Below, field_no_if}
use Rattle.aml_spelling.proofs.FaultLists.{spot_of}
use Rattle.aml_spelling.proofs.FaultSupers.{item_same, as_name, as_zero, as_none, range_slot}
use Rattle.aml_spelling.proofs.GetsFields.{gets_element, field_first}
use Rattle.aml_spelling.proofs.GetsFirst.{term_first, item_no_else}
use Rattle.aml_spelling.proofs.GetsParts.{TermGets, NoElse, either_three}
use Rattle.aml_spelling.proofs.GetsTerms.{if_class}
use Rattle.aml_spelling.proofs.RefusedElements.{element_refused}
use Rattle.aml_spelling.proofs.RefusedLists.{until_refused}
use Rattle.aml_spelling.proofs.RefusedOperands.{operand_here}
use Rattle.aml_spelling.proofs.RowFacts.{no_field}
use Rattle.aml_spelling.proofs.Refused.{Refused, refused_first, refused_yes, refused_no, refused_as, refused_look, refused_peek, refused_seen}

-- terms that have a fault are refused so
abbrev pub TermRefuses : ℕ → Inner → Type 0
TermRefuses levels inner_term = (way : Way) (position : Position) (scope : List Seg) (context : Context) (s : State) (r : Refusal)
    → FaultyAt way (a_term (place_of position)) (spot_of levels scope (around_of context) (item_of context.item s.at) s) r → Refused (inner_term position scope context) s r

-- all that is known of the terms below
pub record Full (levels : ℕ) (inner_term : Inner) : Type 0 where
  pub below : Below levels inner_term
  pub gets : TermGets levels inner_term
  pub refuses : TermRefuses levels inner_term

longer : (l : List ℕ) (b : ℕ) (bs : List ℕ) → l ≡ b ∷ bs → 0 < length l
longer l b bs is = rw is (omega arith)

-- an If stands in lists of items alone
statement_item : (around : Around) (position : Position) → may_stand around classes.Statement (place_of position) ≡ true → position ≡ positions.ListItem
statement_item around positions.ListItem e = refl
statement_item around positions.TermArg e = absurd (cc e)
statement_item around positions.DataObject e = absurd (cc e)
statement_item around positions.PackageElement e = absurd (cc e)
statement_item around positions.SuperName e = absurd (cc e)

if_is_item : (around : Around) (position : Position) (t : Tree) (front : List ℕ) → Spells around (place_of position) t front → lacks_else t ≡ true → position ≡ positions.ListItem
unfolding Spells
if_is_item around position t front h e =
    let k = lacks_shape t e in
    let g = subst (λ (u : Tree). Spells around (place_of position) u front) k.2 h in
    statement_item around position (subst (λ (c : Class). may_stand around c (place_of position) ≡ true) (if_class g.0 g.1) g.2)

no_else_at : (position : Position) (t : Tree) (rest : List ℕ) → (lacks_else t ≡ true → is_next 0xA1 rest ≡ false) → NoElse position t rest
no_else_at positions.ListItem t rest h = h
no_else_at positions.TermArg t rest h = tt
no_else_at positions.DataObject t rest h = tt
no_else_at positions.PackageElement t rest h = tt
no_else_at positions.SuperName t rest h = tt

apart_items : (around : Around) (position : Position) (t u : Tree) (front next rest : List ℕ) → Spells around (place_of position) t front → lacks_else t ≡ true → Spells around (place_of position) u next → is_next 0xA1 (next ++ rest) ≡ false
apart_items around position t u front next rest h e i =
    item_no_else around u next rest (subst (λ (p : Position). Spells around (place_of p) u next) (if_is_item around position t front h e) i)

module _ (levels : ℕ) (inner_term : Inner) (full : Full levels inner_term) (scope : List Seg) (context : Context) (item : ℕ) (in_item_at : context.item ≡ Some item) where
  abbrev spot_at : State → Spot
  spot_at s = spot_of levels scope (around_of context) item s

  pub term_refused : (way : Way) (position : Position) (s : State) (r : Refusal) → FaultyAt way (a_term (place_of position)) (spot_at s) r → Refused (inner_term position scope context) s r
  term_refused way position s r f = full.refuses way position scope context s r (subst (λ (i : ℕ). FaultyAt way (a_term (place_of position)) (spot_of levels scope (around_of context) i s) r) (sym (item_same context item in_item_at s.at)) f)

  pub term_operand_refused : (way : Way) (position : Position) (s : State) (r : Refusal) → FaultyAt way (a_term (place_of position)) (spot_at s) r → Refused (term_operand inner_term position scope context) s r
  unfolding term_operand
  term_operand_refused way position s r f = refused_first _ (term_refused way position s r f)

  -- ---- lists

  items_refused : (position : Position) (ts : Trees) (way : Way) (s : State) (r : Refusal) (next : Spot) → Passes (spot_of levels scope (around_of context) item s) (place_of position) ts next → FaultyAt way (a_term (place_of position)) next r → Refused (items inner_term position scope context) s r
  unfolding items
  items_refused position ts way s r next p f = refused_as {n = until_end (inner_term position scope context) (length s.rest)} refl
      (until_refused levels scope (around_of context) item (place_of position) (inner_term position scope context) (λ (spot : Spot) (q : Refusal). FaultyAt way (a_term (place_of position)) spot q)
      (λ t front rest known after s1 h i alone is ar. full.gets position scope context t front rest known after s1 h i (no_else_at position t rest alone) is ar)
      (λ t front h. let k = term_first (around_of context) position t front h in longer front k.0 k.1 k.2)
      (apart_items (around_of context) position) (full.below.ends position scope context) (λ s1 q g. term_refused way position s1 q g)
      (length s.rest) ts s r next (omega arith) p f)

  pub list_refused : (position : Position) (ts : Trees) (way : Way) (s : State) (r : Refusal) (next : Spot) → Passes (spot_of levels scope (around_of context) item s) (place_of position) ts next → FaultyAt way (a_term (place_of position)) next r → Refused (list_operand inner_term position scope context) s r
  unfolding list_operand
  list_refused position ts way s r next p f = refused_first _ (items_refused position ts way s r next p f)

  -- ---- field elements

  eleven : (bs : List ℕ) → Begins 0x11 0x11 bs → (left : List ℕ) × (bs ≡ 0x11 ∷ left)
  eleven [] h = absurd h
  eleven (b ∷ bs) h = let same : b ≡ 0x11 = omega (arith, h.0, h.1) in (bs, ap (λ (c : ℕ). c ∷ bs) same)

  connection_refused : (way : Way) (s : State) (r : Refusal) (left : List ℕ) → s.rest ≡ 0x11 ∷ left → FaultyAt way (a_term data_object) (spot_at s) r → Refused (connection inner_term scope context) s r
  unfolding connection starts_name
  connection_refused way s r left is f = refused_peek _ is (term_operand_refused way positions.DataObject s r f)

  field_refused : (way : Way) (s : State) (r : Refusal) → FaultyAt way (a_term field_element) (spot_at s) r → Refused (field inner_term scope context) s r
  unfolding field connect_field FaultyAt
  field_refused here s r f = element_refused levels inner_term full.below scope context item in_item_at s r f
  field_refused (in_connection way) s r f =
      let k = eleven f.0 f.2 in
      refused_peek _ f.1 (refused_seen _ f.1 (refused_first _ (connection_refused way (record s { at = s.at + 1; rest = f.0 }) r k.0 k.1 f.3)))
  field_refused (in_operand o ps way) s r f = absurd (no_field (around_of context) f.0.1 f.6.0)
  field_refused (in_argument n ts way) s r f = absurd (cc f.6)
  field_refused (at_else ps) s r f = absurd (no_field (around_of context) f.1.0.1 f.1.9.0)
  field_refused (in_else ps ts way) s r f = absurd (no_field (around_of context) f.1.0.1 f.1.9.0)
  field_refused (in_term way) s r f = absurd f
  field_refused (in_item ts way) s r f = absurd f

  element_some : (t : Tree) (front : List ℕ) → Spells (around_of context) field_element t front → 0 < length front
  element_some t front h = let k = field_first levels inner_term full.gets scope context t front h in longer front k.0 k.1 k.2

  field_list_refused : (ts : Trees) (way : Way) (s : State) (r : Refusal) (next : Spot) → Passes (spot_of levels scope (around_of context) item s) field_element ts next → FaultyAt way (a_term field_element) next r → Refused (fields_operand inner_term scope context) s r
  unfolding fields_operand fields
  field_list_refused ts way s r next p f = refused_first _ (refused_as {n = until_end (field inner_term scope context) (length s.rest)} refl
      (until_refused levels scope (around_of context) item field_element (field inner_term scope context) (λ (spot : Spot) (q : Refusal). FaultyAt way (a_term field_element) spot q)
      (λ t front rest known after s1 h i alone is ar. gets_element levels inner_term full.gets scope context t front rest known after s1 h i is ar)
      element_some (λ t u front next rest h e i. absurd (field_no_if (around_of context) t front h e)) (ends_field inner_term full.below.ends scope context) (λ s1 q g. field_refused way s1 q g)
      (length s.rest) ts s r next (omega arith) p f))

  -- ---- names of objects

  super_term_by : (way : Way) (s : State) (r : Refusal) (l : List ℕ) → s.rest ≡ l → (AsName s.rest → ⊥) → FaultyAt way (a_term super_name) (spot_at s) r → Refused (super_name_step inner_term scope context) s r
  unfolding super_name_step
  super_term_by way s r [] is other f = absurd (other (as_none s.rest is))
  super_term_by way s r (b ∷ bs) is other f = by_zero (b == 0) (starts_name b) refl refl
    where
      by_zero : (x y : Bool) → (b == 0) ≡ x → starts_name b ≡ y → Refused (super_name_step inner_term scope context) s r
      by_zero true y none names = absurd (other (as_zero b bs s.rest is none))
      by_zero false true some names = absurd (other (as_name b bs s.rest is names))
      by_zero false false some names = refused_peek _ is (refused_no _ some (refused_no _ names (term_operand_refused way positions.SuperName s r f)))

  super_term : (way : Way) (s : State) (r : Refusal) → (AsName s.rest → ⊥) → FaultyAt way (a_term super_name) (spot_at s) r → Refused (super_name_step inner_term scope context) s r
  super_term way s r other f = super_term_by way s r s.rest refl other f

  target_term_by : (way : Way) (s : State) (r : Refusal) (l : List ℕ) → s.rest ≡ l → (AsName s.rest → ⊥) → FaultyAt way (a_term super_name) (spot_at s) r → Refused (target inner_term scope context) s r
  unfolding target
  target_term_by way s r [] is other f = absurd (other (as_none s.rest is))
  target_term_by way s r (b ∷ bs) is other f = by_zero (b == 0) refl
    where
      by_zero : (x : Bool) → (b == 0) ≡ x → Refused (target inner_term scope context) s r
      by_zero true none = absurd (other (as_zero b bs s.rest is none))
      by_zero false some = refused_peek _ is (refused_no _ some (super_term way s r other f))

  simple_term_by : (way : Way) (s : State) (r : Refusal) (l : List ℕ) → s.rest ≡ l → (AsName s.rest → ⊥) → Begins 0x60 0x6E s.rest → FaultyAt way (a_term super_name) (spot_at s) r → Refused (simple_name inner_term scope context) s r
  unfolding simple_name
  simple_term_by way s r [] is other slot f = absurd (other (as_none s.rest is))
  simple_term_by way s r (b ∷ bs) is other slot f =
      refused_look _ _ (refused_peek _ is (refused_yes _ (either_three (b == 0) (starts_name b) (is_slot b) (range_slot b bs (subst (λ (l : List ℕ). Begins 0x60 0x6E l) is slot))) (super_term way s r other f)))

  -- ---- operands

  in_term_refused : (start : ℕ) (way : Way) (k : OperandKind) (earlier : Earlier) (s : State) (r : Refusal) (place : Place) → TermOf k s.rest place → FaultyAt way (a_term place) (spot_at s) r → Refused (operand inner_term scope context start k earlier) s r
  unfolding operand
  in_term_refused start way kinds.TermArg earlier s r place h f = refused_first _ (term_operand_refused way positions.TermArg s r (subst (λ (p : Place). FaultyAt way (a_term p) (spot_at s) r) h f))
  in_term_refused start way kinds.DataObject earlier s r place h f = refused_first _ (term_operand_refused way positions.DataObject s r (subst (λ (p : Place). FaultyAt way (a_term p) (spot_at s) r) h f))
  in_term_refused start way kinds.SuperName earlier s r place h f = refused_first _ (super_term way s r h.1 (subst (λ (p : Place). FaultyAt way (a_term p) (spot_at s) r) h.0 f))
  in_term_refused start way kinds.Target earlier s r place h f = refused_first _ (target_term_by way s r s.rest refl h.1 (subst (λ (p : Place). FaultyAt way (a_term p) (spot_at s) r) h.0 f))
  in_term_refused start way kinds.SimpleName earlier s r place h f = refused_first _ (simple_term_by way s r s.rest refl h.1 h.2 (subst (λ (p : Place). FaultyAt way (a_term p) (spot_at s) r) h.0 f))
  in_term_refused start way k earlier s r place h f = absurd h

module _ (levels : ℕ) (inner_term : Inner) (full : Full levels inner_term) (scope : List Seg) (context : Context) (item : ℕ) (in_item_at : context.item ≡ Some item) (start : ℕ) where
  abbrev spot_here : State → Spot
  spot_here s = spot_of levels scope (around_of context) item s

  -- a place and what holds there, put in for others
  put : (way : Way) (ts : Trees) (r : Refusal) (place q : Place) (within w next : Spot) → place ≡ q → within ≡ w → Passes within place ts next → FaultyAt way (a_term place) next r → Passes w q ts next × FaultyAt way (a_term q) next r
  put way ts r place q within w next e f p g = (subst₂ (λ (x : Spot) (y : Place). Passes x y ts next) f e p, subst (λ (y : Place). FaultyAt way (a_term y) next r) e g)

  in_list_refused : (way : Way) (ts : Trees) (k : OperandKind) (earlier : Earlier) (s : State) (r : Refusal) (place : Place) (within next : Spot) → ListOf k earlier (spot_here s) place within → Passes within place ts next → FaultyAt way (a_term place) next r
      → Refused (operand inner_term scope context start k earlier) s r
  unfolding operand
  in_list_refused way ts kinds.TermList earlier s r place within next h p f =
      let g = put way ts r place list_item within (spot_of levels (scope_of scope earlier.path) (around_of context) item s) next h.0 h.1 p f in
      refused_first _ (list_refused levels inner_term full (scope_of scope earlier.path) context item in_item_at positions.ListItem ts way s r next g.0 g.1)
  in_list_refused way ts kinds.LoopTermList earlier s r place within next h p f =
      let g = put way ts r place list_item within (spot_of levels (scope_of scope earlier.path) (around_of (in_loop context)) item s) next h.0 h.1 p f in
      refused_first _ (list_refused levels inner_term full (scope_of scope earlier.path) (in_loop context) item in_item_at positions.ListItem ts way s r next g.0 g.1)
  in_list_refused way ts kinds.PackageElementList earlier s r place within next h p f =
      let g = put way ts r place package_element within (spot_of levels (scope_of scope earlier.path) (around_of context) item s) next h.0 h.1 p f in
      refused_first _ (list_refused levels inner_term full (scope_of scope earlier.path) context item in_item_at positions.PackageElement ts way s r next g.0 g.1)
  in_list_refused way ts kinds.FieldList earlier s r place within next h p f =
      let g = put way ts r place field_element within (spot_of levels scope (around_of context) item s) next h.0 h.1 p f in
      refused_first _ (field_list_refused levels inner_term full scope context item in_item_at ts way s r next g.0 g.1)
  in_list_refused way ts k earlier s r place within next h p f = absurd h

  pub operand_refused : (way : Way) (k : OperandKind) (earlier : Earlier) (s : State) (r : Refusal) → FaultyAt way (an_operand start k earlier) (spot_here s) r → Refused (operand inner_term scope context start k earlier) s r
  unfolding FaultyAt
  operand_refused here k earlier s r f = operand_here levels inner_term scope context item start k earlier s r f
  operand_refused (in_term way) k earlier s r f = in_term_refused levels inner_term full scope context item in_item_at start way k earlier s r f.0 f.1 f.2
  operand_refused (in_item ts way) k earlier s r f = in_list_refused way ts k earlier s r f.0 f.1 f.3 f.2 f.4 f.5
  operand_refused way k earlier s r f = absurd f
