-- Where a name of an object or a place to store to is refused, its fault stands there, or one of the term that it is.
use Rattle.std.proofs.Common.{◌≡◌, ℕ, List, [], ◌∷◌, Bool, true, false, Option, Some, refl, subst, sym, ap, arith, ◌⊎◌, inl, inr}
use Rattle.std.specs.Prelude.{◌==◌, ◌||◌}
use Rattle.std.proofs.lemmas.Bool.{eqb-true, eqb-false, le-leb}
use Rattle.ar_space.specs.declared.refusal.Refusal.{Refusal}
use Rattle.ar_space.specs.declared.refusal.Refusal.TheVariants as refusals
use Rattle.ar_space.specs.declared.refusal.NameFault.TheVariants.{BadName}
use Rattle.ar_space.specs.declared.refusal.TermFault.TheVariants.{BadOpcode, Truncated}
use Rattle.aml_path.specs.declared.segment.Seg.{Seg}
use Rattle.aml_grammar.specs.declared.kinds.OperandKind.TheVariants as kinds
use Rattle.aml_grammar.specs.declared.context.Position.{Position}
use Rattle.aml_grammar.specs.declared.context.Position.TheVariants as positions
use Rattle.aml_grammar.specs.declared.context.Context.{Context}
use Rattle.aml_grammar.specs.declared.context.Earlier.{Earlier}
use Rattle.aml_grammar.specs.Names.{starts_name}
use Rattle.aml_grammar.specs.State.{State}
use Rattle.aml_grammar.specs.Tree.{null, inner}
use Rattle.aml_grammar.specs.Grammar.{Inner, is_slot, item_of, term_operand, super_name as super_name_step, target, simple_name}
use Rattle.aml_scan.specs.Spelling.{super_name, Begins}
use Rattle.aml_scan.proofs.SpelledRows.{around_of, place_of}
use Rattle.aml_spelling.specs.Faults.{Spot, Way, here, in_term, a_term, an_operand, Starts, Wrong, IsName, AsName, AsTarget, AtPart, FaultyAt}
use Rattle.aml_spelling.proofs.FaultLists.{spot_of}
use Rattle.aml_spelling.proofs.FaultNameStrings.{name_none, begins_name, begins_not}
use Rattle.aml_spelling.proofs.FaultOperands.{halts_name_operand}
use Rattle.aml_spelling.proofs.FaultParts.{at_short, at_end}
use Rattle.aml_spelling.proofs.Halts.{Halts, halts_give, halts_stop, halts_map, halts_more, halts_look, halts_if, halts_peek, halts_seen}

-- terms that are refused have a fault, with so many levels left
abbrev pub TermHalts : ℕ → Inner → Type 0
TermHalts levels inner_term = (position : Position) (scope : List Seg) (context : Context) (s : State)
    → Halts (inner_term position scope context) s (λ r. (way : Way) × FaultyAt way (a_term (place_of position)) (spot_of levels scope (around_of context) (item_of context.item s.at) s) r)

pub item_same : (context : Context) (item : ℕ) → context.item ≡ Some item → (at : ℕ) → item_of context.item at ≡ item
item_same context item is at = ap (λ (o : Option ℕ). item_of o at) is

-- ---- first bytes

pub as_name : (b : ℕ) (bs rest : List ℕ) → rest ≡ b ∷ bs → starts_name b ≡ true → AsName rest
as_name b bs rest is names = rw is (inr (begins_name b names))

pub as_zero : (b : ℕ) (bs rest : List ℕ) → rest ≡ b ∷ bs → (b == 0) ≡ true → AsName rest
as_zero b bs rest is zero = rw is (inl (eqb-true b 0 zero))

pub as_none : (rest : List ℕ) → rest ≡ [] → AsName rest
as_none rest is = rw is tt

as_neither : (b : ℕ) (bs : List ℕ) → (b == 0) ≡ false → starts_name b ≡ false → AsName (b ∷ bs) → ⊥
as_neither b bs some names (inl h) = eqb-false b 0 some h
as_neither b bs some names (inr h) = begins_not b names h

pub no_name : (b : ℕ) (bs rest : List ℕ) → rest ≡ b ∷ bs → (b == 0) ≡ false → starts_name b ≡ false → AsName rest → ⊥
no_name b bs rest is some names h = as_neither b bs some names (subst (λ (l : List ℕ). AsName l) is h)

target_first : (b : ℕ) (bs : List ℕ) → (b == 0) ≡ false → AsName (b ∷ bs) → AsTarget (b ∷ bs)
target_first b bs some (inl h) = absurd (eqb-false b 0 some h)
target_first b bs some (inr h) = h

as_target : (b : ℕ) (bs rest : List ℕ) → rest ≡ b ∷ bs → (b == 0) ≡ false → AsName rest → AsTarget rest
as_target b bs rest is some h = subst (λ (l : List ℕ). AsTarget l) (sym is) (target_first b bs some (subst (λ (l : List ℕ). AsName l) is h))

target_none : (rest : List ℕ) → rest ≡ [] → AsTarget rest
target_none rest is = rw is tt

slot_range : (b : ℕ) (bs : List ℕ) → is_slot b ≡ true → Begins 0x60 0x6E (b ∷ bs)
unfolding is_slot
slot_range b bs is = (grind arith, grind arith)

slot_begins : (b : ℕ) (bs rest : List ℕ) → rest ≡ b ∷ bs → is_slot b ≡ true → Begins 0x60 0x6E rest
slot_begins b bs rest is slot = rw is (slot_range b bs slot)

pub range_slot : (b : ℕ) (bs : List ℕ) → Begins 0x60 0x6E (b ∷ bs) → is_slot b ≡ true
unfolding is_slot
range_slot b bs h = rw (le-leb 0x60 b h.0, le-leb b 0x6E h.1) refl

no_slot : (b : ℕ) (bs rest : List ℕ) → rest ≡ b ∷ bs → is_slot b ≡ false → Begins 0x60 0x6E rest → ⊥
no_slot b bs rest is other h = cc (other, range_slot b bs (subst (λ (l : List ℕ). Begins 0x60 0x6E l) is h))

pub none_of_three : (x y z : Bool) → (x || y || z) ≡ false → (x ≡ false) × ((y ≡ false) × (z ≡ false))
none_of_three true y z e = absurd (cc e)
none_of_three false true z e = absurd (cc e)
none_of_three false false z e = (refl, (refl, e))

one_of_three : (x y z : Bool) → (x || y || z) ≡ true → x ≡ false → y ≡ false → z ≡ true
one_of_three true y z e f g = absurd (cc f)
one_of_three false true z e f g = absurd (cc g)
one_of_three false false z e f g = e

pub zero_wrong : (b : ℕ) (bs rest : List ℕ) → rest ≡ b ∷ bs → (b == 0) ≡ true → Wrong IsName rest
unfolding starts_name
zero_wrong b bs rest is zero = ([], b, bs, is, name_none, λ starts. begins_not 0 refl (subst (λ (c : ℕ). Starts IsName (c ∷ [])) (eqb-true b 0 zero) starts))

-- ---- names of objects

-- a fault of a name, or of the term that stands there
abbrev pub SuperFault : Spot → Refusal → Type 0
SuperFault spot r = (AsName spot.rest × AtPart IsName spot r) ⊎ ((AsName spot.rest → ⊥) × (way : Way) × FaultyAt way (a_term super_name) spot r)

super_part : (start : ℕ) (earlier : Earlier) (spot : Spot) (r : Refusal) → SuperFault spot r → (way : Way) × FaultyAt way (an_operand start kinds.SuperName earlier) spot r
unfolding FaultyAt
super_part start earlier spot r (inl h) = (here, h)
super_part start earlier spot r (inr h) = (in_term h.1, (super_name, (refl, h.0), h.2))

target_part : (start : ℕ) (earlier : Earlier) (spot : Spot) (b : ℕ) (bs : List ℕ) → spot.rest ≡ b ∷ bs → (b == 0) ≡ false → (r : Refusal) → SuperFault spot r → (way : Way) × FaultyAt way (an_operand start kinds.Target earlier) spot r
unfolding FaultyAt
target_part start earlier spot b bs is some r (inl h) = (here, (as_target b bs spot.rest is some h.0, h.1))
target_part start earlier spot b bs is some r (inr h) = (in_term h.1, (super_name, (refl, h.0), h.2))

simple_name_part : (start : ℕ) (earlier : Earlier) (spot : Spot) (r : Refusal) → AsName spot.rest → AtPart IsName spot r → (way : Way) × FaultyAt way (an_operand start kinds.SimpleName earlier) spot r
unfolding FaultyAt
simple_name_part start earlier spot (refusals.Term BadOpcode o) a h = absurd h
simple_name_part start earlier spot r a h = (here, (a, h))

simple_part : (start : ℕ) (earlier : Earlier) (spot : Spot) → ((AsName spot.rest → ⊥) → Begins 0x60 0x6E spot.rest) → (r : Refusal) → SuperFault spot r → (way : Way) × FaultyAt way (an_operand start kinds.SimpleName earlier) spot r
unfolding FaultyAt
simple_part start earlier spot slot r (inl h) = simple_name_part start earlier spot r h.0 h.1
simple_part start earlier spot slot r (inr h) = (in_term h.1, (super_name, (refl, h.0, slot h.0), h.2))

pub slot_or : (b : ℕ) (bs rest : List ℕ) → rest ≡ b ∷ bs → (b == 0 || starts_name b || is_slot b) ≡ true → (AsName rest → ⊥) → Begins 0x60 0x6E rest
slot_or b bs rest is one never = by_zero (b == 0) refl
  where
    by_name : (y : Bool) → (b == 0) ≡ false → starts_name b ≡ y → Begins 0x60 0x6E rest
    by_name true some names = absurd (never (as_name b bs rest is names))
    by_name false some names = slot_begins b bs rest is (one_of_three (b == 0) (starts_name b) (is_slot b) one some names)

    by_zero : (x : Bool) → (b == 0) ≡ x → Begins 0x60 0x6E rest
    by_zero true zero = absurd (never (as_zero b bs rest is zero))
    by_zero false some = by_name (starts_name b) some refl

simple_wrong : (start : ℕ) (earlier : Earlier) (spot : Spot) (b : ℕ) (bs : List ℕ) → spot.rest ≡ b ∷ bs → (b == 0 || starts_name b || is_slot b) ≡ false → (at : ℕ) → at ≡ spot.at → (way : Way) × FaultyAt way (an_operand start kinds.SimpleName earlier) spot (refusals.Term BadOpcode at)
unfolding FaultyAt
simple_wrong start earlier spot b bs is none at e = let k = none_of_three (b == 0) (starts_name b) (is_slot b) none in (here, (no_name b bs spot.rest is k.0 k.1.0, no_slot b bs spot.rest is k.1.1, e))

module _ (levels : ℕ) (inner_term : Inner) (h : TermHalts levels inner_term) (scope : List Seg) (context : Context) (item : ℕ) (in_item : context.item ≡ Some item) where
  abbrev pub here_at : State → Spot
  here_at s = spot_of levels scope (around_of context) item s

  pub halts_term : (position : Position) (s : State) → Halts (term_operand inner_term position scope context) s (λ r. (way : Way) × FaultyAt way (a_term (place_of position)) (here_at s) r)
  unfolding term_operand
  halts_term position s = halts_map inner (halts_more (h position scope context s) (λ r k. (k.0, subst (λ (i : ℕ). FaultyAt k.0 (a_term (place_of position)) (spot_of levels scope (around_of context) i s) r) (item_same context item in_item s.at) k.1)))

  missing_name : (s : State) → s.rest ≡ [] → AtPart IsName (here_at s) (refusals.Term Truncated s.at)
  missing_name s none = at_short IsName (here_at s) (refusals.Term Truncated s.at) s.at refl (at_end s (here_at s) (refl, refl) none) (rw none name_none)

  halts_super : (s : State) → Halts (super_name_step inner_term scope context) s (λ r. SuperFault (here_at s) r)
  unfolding super_name_step
  halts_super s = halts_peek (λ none. inl (as_none s.rest none, missing_name s none)) (λ b bs is.
      halts_if (b == 0) (λ zero. halts_stop (refusals.Name BadName) (inl (as_zero b bs s.rest is zero, zero_wrong b bs s.rest is zero)))
      (λ some. halts_if (starts_name b) (λ names. halts_more (halts_name_operand s (here_at s) (refl, refl)) (λ r k. inl (as_name b bs s.rest is names, k)))
      (λ names. halts_more (halts_term positions.SuperName s) (λ r k. inr (no_name b bs s.rest is some names, k.0, k.1)))))

  pub halts_super_name : (start : ℕ) (earlier : Earlier) (s : State) → Halts (super_name_step inner_term scope context) s (λ r. (way : Way) × FaultyAt way (an_operand start kinds.SuperName earlier) (here_at s) r)
  halts_super_name start earlier s = halts_more (halts_super s) (super_part start earlier (here_at s))

  pub halts_target : (start : ℕ) (earlier : Earlier) (s : State) → Halts (target inner_term scope context) s (λ r. (way : Way) × FaultyAt way (an_operand start kinds.Target earlier) (here_at s) r)
  unfolding target FaultyAt
  halts_target start earlier s = halts_peek (λ none. (here, (target_none s.rest none, missing_name s none))) (λ b bs is.
      halts_if (b == 0) (λ zero. halts_seen _ is (λ s1 at1 is1 ar1. halts_give null))
      (λ some. halts_more (halts_super s) (target_part start earlier (here_at s) b bs is some)))

  pub halts_simple : (start : ℕ) (earlier : Earlier) (s : State) → Halts (simple_name inner_term scope context) s (λ r. (way : Way) × FaultyAt way (an_operand start kinds.SimpleName earlier) (here_at s) r)
  unfolding simple_name
  halts_simple start earlier s = halts_look (λ s. s.at) _ (halts_peek (λ none. simple_name_part start earlier (here_at s) (refusals.Term Truncated s.at) (as_none s.rest none) (missing_name s none)) (λ b bs is.
      halts_if (b == 0 || starts_name b || is_slot b) (λ one. halts_more (halts_super s) (simple_part start earlier (here_at s) (slot_or b bs s.rest is one)))
      (λ none. halts_stop (refusals.Term BadOpcode s.at) (simple_wrong start earlier (here_at s) b bs is none s.at refl))))
