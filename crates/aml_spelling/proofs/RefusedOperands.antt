-- A fault that stands at an operand is what reading the operand refuses.
use Rattle.std.proofs.Common.{◌≡◌, ℕ, List, [], ◌∷◌, Bool, true, false, refl, subst, ◌∙◌, sym, ap, arith, inr}
use Rattle.std.specs.Prelude.{◌==◌, ◌||◌}
use Rattle.ar_space.specs.Outcome.{Outcome}
use Rattle.ar_space.specs.Change.{◌>>=◌}
use Rattle.ar_space.specs.declared.refusal.Refusal.{Refusal}
use Rattle.ar_space.specs.declared.refusal.Refusal.TheVariants as refusals
use Rattle.ar_space.specs.declared.refusal.NameFault.TheVariants.{BadName}
use Rattle.ar_space.specs.declared.refusal.TermFault.TheVariants.{BadOpcode, Truncated}
use Rattle.aml_path.specs.declared.segment.Seg.{Seg}
use Rattle.aml_grammar.specs.declared.kinds.OperandKind.{OperandKind}
use Rattle.aml_grammar.specs.declared.kinds.OperandKind.TheVariants as kinds
use Rattle.aml_grammar.specs.declared.context.Context.{Context}
use Rattle.aml_grammar.specs.declared.context.Earlier.{Earlier}
use Rattle.aml_grammar.specs.Names.{starts_name, name_string}
use Rattle.aml_grammar.specs.State.{State, Step, bad_name, byte, peek, little_endian}
use Rattle.aml_grammar.specs.Tree.{Part}
use Rattle.aml_grammar.specs.Operands.{name_operand, integer_operand, method_flags, object_type, argument_count, text_operand}
use Rattle.aml_grammar.specs.Grammar.{Inner, is_slot, super_name as super_name_step, target, simple_name, operand}
use Rattle.aml_scan.specs.Spelling.{Begins, IsNameString}
use Rattle.aml_scan.proofs.SpelledNames.{takes_name}
use Rattle.aml_scan.proofs.SpelledNumbers.{stand_for}
use Rattle.aml_scan.proofs.SpelledRows.{around_of}
use Rattle.aml_spelling.specs.Faults.{Spot, Starts, IsName, IsNumber, IsText, AsName, AsTarget, AtPart, AtOperand}
use Rattle.aml_spelling.proofs.FaultApart.{numbers_apart, refused_part, number_refuses, text_refuses}
use Rattle.aml_spelling.proofs.FaultDeclared.{scope_exactly, alias_exactly, external_exactly, declared_exactly}
use Rattle.aml_spelling.proofs.FaultLists.{spot_of}
use Rattle.aml_spelling.proofs.FaultNameStrings.{first_is, name_none, names_apart, refuses_name}
use Rattle.aml_spelling.proofs.FaultOnce.{part_once, whole_no_fault}
use Rattle.aml_spelling.proofs.FaultParts.{StandsAt, at_short, at_end, short_number}
use Rattle.aml_spelling.proofs.FaultSupers.{zero_wrong, no_name, slot_or, none_of_three}
use Rattle.aml_spelling.proofs.GetsNames.{name_first}
use Rattle.aml_spelling.proofs.Refused.{Refused, refused_first, refused_stop, refused_yes, refused_no, refused_look, refused_peek, refused_none, refused_missing}

-- ---- names, numbers and texts

pub name_refused : (s : State) (spot : Spot) → StandsAt s spot → (r : Refusal) → AtPart IsName spot r → Refused name_string s r
name_refused s spot here r h = let k = refused_part IsName names_apart name_string (λ n front. IsNameString n front) takes_name (λ n front i. (n, i)) refuses_name s spot here r h in record { is = ap (λ (p : Outcome _ × State). p.0) k.1 }

name_operand_refused : (s : State) (spot : Spot) → StandsAt s spot → (r : Refusal) → AtPart IsName spot r → Refused name_operand s r
unfolding name_operand
name_operand_refused s spot here r h = refused_first _ (name_refused s spot here r h)

integer_refused : (width : ℕ) (s : State) (spot : Spot) → StandsAt s spot → (r : Refusal) → AtPart (IsNumber width) spot r → Refused (integer_operand width) s r
unfolding integer_operand
integer_refused width s spot here r h = let k = number_refuses width s spot here r h in refused_first _ (record { is = ap (λ (p : Outcome _ × State). p.0) k.1 })

text_refused : (s : State) (spot : Spot) → StandsAt s spot → (r : Refusal) → AtPart IsText spot r → Refused text_operand s r
unfolding text_operand
text_refused s spot here r h = let k = text_refuses s spot here r h in refused_first _ (record { is = ap (λ (p : Outcome _ × State). p.0) k.1 })

one_by : {B : Type 0} (k : ℕ → Step B) (s : State) (spot : Spot) → StandsAt s spot → (r : Refusal) → AtPart (IsNumber 1) spot r → (l : List ℕ) → s.rest ≡ l → Refused (byte >>= k) s r
one_by k s spot here r h [] is =
    let missing : AtPart (IsNumber 1) spot (refusals.Term Truncated s.at) = at_short (IsNumber 1) spot (refusals.Term Truncated s.at) s.at refl (at_end s spot here is) (rw (← here.1, is) (short_number 1 [] (omega arith))) in
    subst (λ (q : Refusal). Refused (byte >>= k) s q) (part_once (IsNumber 1) spot (refusals.Term Truncated s.at) r missing h) (refused_missing k is)
one_by k s spot here r h (b ∷ bs) is = absurd (whole_no_fault (IsNumber 1) (numbers_apart 1) spot r (b ∷ [], bs, sym here.1 ∙ is, (little_endian (b ∷ []), (refl, stand_for (b ∷ [])))) h)

one_refused : {B : Type 0} (k : ℕ → Step B) (s : State) (spot : Spot) → StandsAt s spot → (r : Refusal) → AtPart (IsNumber 1) spot r → Refused (byte >>= k) s r
one_refused k s spot here r h = one_by k s spot here r h s.rest refl

-- ---- names of objects

name_missing : (s : State) (spot : Spot) → StandsAt s spot → s.rest ≡ [] → AtPart IsName spot (refusals.Term Truncated s.at)
name_missing s spot here none = at_short IsName spot (refusals.Term Truncated s.at) s.at refl (at_end s spot here none) (rw (← here.1, none) name_none)

begins_some : (b : ℕ) → Starts IsName (b ∷ []) → (b == 0) ≡ false
begins_some b h = let k = name_first h.1.0 (b ∷ h.0) h.1.1 in subst (λ (c : ℕ). (c == 0) ≡ false) (sym (first_is b k.0 h.0 k.1 k.2).0) k.3

module _ (inner_term : Inner) (scope : List Seg) (context : Context) (s : State) (spot : Spot) (here : StandsAt s spot) (r : Refusal) where
  super_none : {B : Type 0} (k : ℕ → Step B) → s.rest ≡ [] → AtPart IsName spot r → Refused (peek >>= k) s r
  super_none k none h = subst (λ (q : Refusal). Refused (peek >>= k) s q) (part_once IsName spot (refusals.Term Truncated s.at) r (name_missing s spot here none) h) (refused_none k none)

  super_at : (b : ℕ) (bs : List ℕ) → s.rest ≡ b ∷ bs → AsName spot.rest → AtPart IsName spot r → (x y : Bool) → (b == 0) ≡ x → starts_name b ≡ y → Refused (super_name_step inner_term scope context) s r
  unfolding super_name_step
  super_at b bs is fits h true y zero names =
      let bad : AtPart IsName spot (refusals.Name BadName) = zero_wrong b bs spot.rest (sym here.1 ∙ is) zero in
      refused_peek _ is (refused_yes _ zero (subst (λ (q : Refusal). Refused {A = Part} bad_name s q) (part_once IsName spot (refusals.Name BadName) r bad h) (refused_stop (refusals.Name BadName) s)))
  super_at b bs is fits h false true some names = refused_peek _ is (refused_no _ some (refused_yes _ names (name_operand_refused s spot here r h)))
  super_at b bs is fits h false false some names = absurd (no_name b bs spot.rest (sym here.1 ∙ is) some names fits)

  super_by : (l : List ℕ) → s.rest ≡ l → AsName spot.rest → AtPart IsName spot r → Refused (super_name_step inner_term scope context) s r
  unfolding super_name_step
  super_by [] is fits h = super_none _ is h
  super_by (b ∷ bs) is fits h = super_at b bs is fits h (b == 0) (starts_name b) refl refl

  pub super_refused : AsName spot.rest → AtPart IsName spot r → Refused (super_name_step inner_term scope context) s r
  super_refused fits h = super_by s.rest refl fits h

  target_named : (b : ℕ) (bs : List ℕ) → s.rest ≡ b ∷ bs → AsTarget spot.rest → ((b == 0) ≡ false) × AsName spot.rest
  target_named b bs is fits =
      let names = subst (λ (l : List ℕ). AsTarget l) (sym here.1 ∙ is) fits in
      (begins_some b names, rw (← here.1, is) (inr names))

  target_by : (l : List ℕ) → s.rest ≡ l → AsTarget spot.rest → AtPart IsName spot r → Refused (target inner_term scope context) s r
  unfolding target
  target_by [] is fits h = super_none _ is h
  target_by (b ∷ bs) is fits h = let k = target_named b bs is fits in refused_peek _ is (refused_no _ k.0 (super_refused k.1 h))

  pub target_refused : AsTarget spot.rest → AtPart IsName spot r → Refused (target inner_term scope context) s r
  target_refused fits h = target_by s.rest refl fits h

  simple_at : (b : ℕ) (bs : List ℕ) → s.rest ≡ b ∷ bs → AsName spot.rest → AtPart IsName spot r → (c : Bool) → (b == 0 || starts_name b || is_slot b) ≡ c → Refused (simple_name inner_term scope context) s r
  unfolding simple_name
  simple_at b bs is fits h true one = refused_look _ _ (refused_peek _ is (refused_yes _ one (super_refused fits h)))
  simple_at b bs is fits h false none = let k = none_of_three (b == 0) (starts_name b) (is_slot b) none in absurd (no_name b bs spot.rest (sym here.1 ∙ is) k.0 k.1.0 fits)

  simple_by : (l : List ℕ) → s.rest ≡ l → AsName spot.rest → AtPart IsName spot r → Refused (simple_name inner_term scope context) s r
  unfolding simple_name
  simple_by [] is fits h = refused_look _ _ (super_none _ is h)
  simple_by (b ∷ bs) is fits h = simple_at b bs is fits h (b == 0 || starts_name b || is_slot b) refl

  pub simple_refused : AsName spot.rest → AtPart IsName spot r → Refused (simple_name inner_term scope context) s r
  simple_refused fits h = simple_by s.rest refl fits h

  simple_other : (b : ℕ) (bs : List ℕ) → s.rest ≡ b ∷ bs → (AsName spot.rest → ⊥) → (Begins 0x60 0x6E spot.rest → ⊥) → (c : Bool) → (b == 0 || starts_name b || is_slot b) ≡ c → Refused (simple_name inner_term scope context) s (refusals.Term BadOpcode s.at)
  unfolding simple_name
  simple_other b bs is fits slot true one = absurd (slot (slot_or b bs spot.rest (sym here.1 ∙ is) one fits))
  simple_other b bs is fits slot false none = refused_look _ _ (refused_peek _ is (refused_no _ none (refused_stop (refusals.Term BadOpcode s.at) s)))

  simple_neither : (l : List ℕ) → s.rest ≡ l → (AsName spot.rest → ⊥) → (Begins 0x60 0x6E spot.rest → ⊥) → Refused (simple_name inner_term scope context) s (refusals.Term BadOpcode s.at)
  simple_neither [] is fits slot = absurd (fits (rw (← here.1, is) tt))
  simple_neither (b ∷ bs) is fits slot = simple_other b bs is fits slot (b == 0 || starts_name b || is_slot b) refl

simple_here : (inner_term : Inner) (scope : List Seg) (context : Context) (s : State) (spot : Spot) → StandsAt s spot → (start : ℕ) (r : Refusal) → AtOperand start kinds.SimpleName spot r → Refused (simple_name inner_term scope context) s r
simple_here inner_term scope context s spot here start (refusals.Term BadOpcode o) h =
    let same : s.at ≡ o = here.0 ∙ sym h.2 in
    subst (λ (i : ℕ). Refused (simple_name inner_term scope context) s (refusals.Term BadOpcode i)) same (simple_neither inner_term scope context s spot here (refusals.Term BadOpcode o) s.rest refl h.0 h.1)
simple_here inner_term scope context s spot here start r h = simple_refused inner_term scope context s spot here r h.0 h.1

-- ---- operands

flags_refused : (context : Context) (earlier : Earlier) (s : State) (spot : Spot) → StandsAt s spot → (r : Refusal) → AtPart (IsNumber 1) spot r → Refused (method_flags context earlier) s r
unfolding method_flags
flags_refused context earlier s spot here r h = one_refused _ s spot here r h

type_refused : (earlier : Earlier) (s : State) (spot : Spot) → StandsAt s spot → (r : Refusal) → AtPart (IsNumber 1) spot r → Refused (object_type earlier) s r
unfolding object_type
type_refused earlier s spot here r h = one_refused _ s spot here r h

count_refused : (context : Context) (earlier : Earlier) (s : State) (spot : Spot) → StandsAt s spot → (r : Refusal) → AtPart (IsNumber 1) spot r → Refused (argument_count context earlier) s r
unfolding argument_count
count_refused context earlier s spot here r h = one_refused _ s spot here r h

-- a fault that stands at an operand itself
pub operand_here : (levels : ℕ) (inner_term : Inner) (scope : List Seg) (context : Context) (item start : ℕ) (k : OperandKind) (earlier : Earlier) (s : State) (r : Refusal) → AtOperand start k (spot_of levels scope (around_of context) item s) r → Refused (operand inner_term scope context start k earlier) s r
unfolding operand
operand_here levels inner_term scope context item start kinds.NameString earlier s r h = refused_first _ (name_operand_refused s (spot_of levels scope (around_of context) item s) (refl, refl) r h)
operand_here levels inner_term scope context item start kinds.ScopeName earlier s r h = record { is = (scope_exactly s (spot_of levels scope (around_of context) item s) (refl, refl) earlier r).1 h }
operand_here levels inner_term scope context item start kinds.AliasSource earlier s r h = record { is = (alias_exactly s (spot_of levels scope (around_of context) item s) (refl, refl) earlier r).1 h }
operand_here levels inner_term scope context item start kinds.ExternalName earlier s r h = record { is = (external_exactly s (spot_of levels scope (around_of context) item s) (refl, refl) earlier r).1 h }
operand_here levels inner_term scope context item start kinds.AliasName earlier s r h = record { is = (declared_exactly s (spot_of levels scope (around_of context) item s) context start earlier.count earlier r (refl, refl) refl).1 h }
operand_here levels inner_term scope context item start kinds.DeclaredName earlier s r h = record { is = (declared_exactly s (spot_of levels scope (around_of context) item s) context start 0 earlier r (refl, refl) refl).1 h }
operand_here levels inner_term scope context item start kinds.MethodFlags earlier s r h = flags_refused context earlier s (spot_of levels scope (around_of context) item s) (refl, refl) r h
operand_here levels inner_term scope context item start kinds.ObjectType earlier s r h = type_refused earlier s (spot_of levels scope (around_of context) item s) (refl, refl) r h
operand_here levels inner_term scope context item start kinds.ArgumentCount earlier s r h = count_refused context earlier s (spot_of levels scope (around_of context) item s) (refl, refl) r h
operand_here levels inner_term scope context item start kinds.ByteData earlier s r h = refused_first _ (integer_refused 1 s (spot_of levels scope (around_of context) item s) (refl, refl) r h)
operand_here levels inner_term scope context item start kinds.WordData earlier s r h = refused_first _ (integer_refused 2 s (spot_of levels scope (around_of context) item s) (refl, refl) r h)
operand_here levels inner_term scope context item start kinds.DWordData earlier s r h = refused_first _ (integer_refused 4 s (spot_of levels scope (around_of context) item s) (refl, refl) r h)
operand_here levels inner_term scope context item start kinds.QWordData earlier s r h = refused_first _ (integer_refused 8 s (spot_of levels scope (around_of context) item s) (refl, refl) r h)
operand_here levels inner_term scope context item start kinds.AsciiCharList earlier s r h = refused_first _ (text_refused s (spot_of levels scope (around_of context) item s) (refl, refl) r h)
operand_here levels inner_term scope context item start kinds.SuperName earlier s r h = refused_first _ (super_refused inner_term scope context s (spot_of levels scope (around_of context) item s) (refl, refl) r h.0 h.1)
operand_here levels inner_term scope context item start kinds.Target earlier s r h = refused_first _ (target_refused inner_term scope context s (spot_of levels scope (around_of context) item s) (refl, refl) r h.0 h.1)
operand_here levels inner_term scope context item start kinds.SimpleName earlier s r h = refused_first _ (simple_here inner_term scope context s (spot_of levels scope (around_of context) item s) (refl, refl) start r h)
operand_here levels inner_term scope context item start k earlier s r h = absurd h
