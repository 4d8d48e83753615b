-- Which bytes are a name segment, and where names are declared and lists are read.
use Rattle.std.specs.Prelude.{◌≡◌, ◌≤◌, ◌==◌, ◌&&◌, ◌||◌, ℕ, suc, List, [], ◌∷◌, Bool, true, false, nat_le, not, Some, None, Ok, Err, refl}
use Rattle.std.proofs.Common.{ap, inl, inr, arith, ◌∙◌}
use Rattle.std.proofs.lemmas.Bool.{eqb-true, ne_eqb}
use Rattle.std.proofs.lemmas.Bool.Decides.{nat_tests}
use Rattle.ar_space.specs.declared.refusal.NameFault.TheVariants.{BadName}
use Rattle.ar_space.specs.declared.refusal.Refusal.TheVariants as refusals
use Rattle.aml_grammar.specs.DeclaredNames.{begins_outside}
use Rattle.aml_grammar.specs.Grammar.{scope_of}
use Rattle.aml_path.specs.Characters.{is_lead_name_char, is_name_char, is_segment}
use Rattle.aml_path.specs.Paths.{Name, begins_here}
use Rattle.aml_path.specs.Segments.{tested, seg_of}
use Rattle.aml_path.specs.declared.name.Prefix.{Prefix}
use Rattle.aml_path.specs.declared.name.Prefix.TheVariants.{Root, Parents}
use Rattle.aml_path.specs.declared.segment.Seg.{Seg}
use Rattle.aml_spelling.specs.NameSegments.{IsLeadCharacter, IsCharacter, IsNameSegment, four}

-- ---- characters

at_most : (n k : ℕ) → nat_le n k ≡ true → n ≤ k
at_most n k e = grind (arith, nat_tests)

is_at_most : (n k : ℕ) → n ≤ k → nat_le n k ≡ true
is_at_most n k h = grind (arith, nat_tests)

lead_so : (b : ℕ) → is_lead_name_char b ≡ true → IsLeadCharacter b
lead_so b e = by (nat_le 65 b) (nat_le b 90) (b == 95) refl refl refl e
  where
    by : (x y z : Bool) → nat_le 65 b ≡ x → nat_le b 90 ≡ y → (b == 95) ≡ z → ((x && y) || z) ≡ true → IsLeadCharacter b
    by true true z from to is e = inl (at_most 65 b from, at_most b 90 to)
    by true false true from to is e = inr (eqb-true b 95 is)
    by true false false from to is e = absurd (cc e)
    by false y true from to is e = inr (eqb-true b 95 is)
    by false y false from to is e = absurd (cc e)

lead_is : (b : ℕ) → IsLeadCharacter b → is_lead_name_char b ≡ true
lead_is b (inl h) = rw (is_at_most 65 b h.0, is_at_most b 90 h.1) refl
lead_is b (inr e) = rw e refl

character_so : (b : ℕ) → is_name_char b ≡ true → IsCharacter b
character_so b e = by (is_lead_name_char b) (nat_le 48 b) (nat_le b 57) refl refl refl e
  where
    by : (x y z : Bool) → is_lead_name_char b ≡ x → nat_le 48 b ≡ y → nat_le b 57 ≡ z → (x || (y && z)) ≡ true → IsCharacter b
    by true y z lead from to e = inl (lead_so b lead)
    by false true true lead from to e = inr (at_most 48 b from, at_most b 57 to)
    by false true false lead from to e = absurd (cc e)
    by false false z lead from to e = absurd (cc e)

either : (x y : Bool) → y ≡ true → (x || y) ≡ true
either true y e = refl
either false y e = e

digit_is : (b : ℕ) → 48 ≤ b → b ≤ 57 → (nat_le 48 b && nat_le b 57) ≡ true
digit_is b from to = rw (is_at_most 48 b from, is_at_most b 57 to) refl

character_is : (b : ℕ) → IsCharacter b → is_name_char b ≡ true
character_is b (inl lead) = ap (λ x. x || (nat_le 48 b && nat_le b 57)) (lead_is b lead)
character_is b (inr h) = either (is_lead_name_char b) (nat_le 48 b && nat_le b 57) (digit_is b h.0 h.1)

-- ---- segments

segment_so : (bytes : List ℕ) → is_segment bytes ≡ true → IsNameSegment bytes
segment_so [] e = absurd (cc e)
segment_so (a ∷ []) e = absurd (cc e)
segment_so (a ∷ b ∷ []) e = absurd (cc e)
segment_so (a ∷ b ∷ c ∷ []) e = absurd (cc e)
segment_so (a ∷ b ∷ c ∷ d ∷ []) e = by (is_lead_name_char a) (is_name_char b) (is_name_char c) (is_name_char d) refl refl refl refl e
  where
    by : (w x y z : Bool) → is_lead_name_char a ≡ w → is_name_char b ≡ x → is_name_char c ≡ y → is_name_char d ≡ z → (w && x && y && z) ≡ true → IsNameSegment (a ∷ b ∷ c ∷ d ∷ [])
    by true true true true first second third last e = four a b c d (lead_so a first) (character_so b second) (character_so c third) (character_so d last)
    by true true true false first second third last e = absurd (cc e)
    by true true false z first second third last e = absurd (cc e)
    by true false y z first second third last e = absurd (cc e)
    by false x y z first second third last e = absurd (cc e)
segment_so (a ∷ b ∷ c ∷ d ∷ x ∷ more) e = absurd (cc e)

segment_is : (bytes : List ℕ) → IsNameSegment bytes → is_segment bytes ≡ true
segment_is _ (four a b c d first second third last) = rw (lead_is a first, character_is b second, character_is c third, character_is d last) refl

pub segment_named : (s : Seg) → IsNameSegment s.bytes
segment_named s = segment_so s.bytes s.valid

taken : (bytes : List ℕ) (b : Bool) (is : is_segment bytes ≡ b) → b ≡ true → (s : Seg) × (tested bytes b is ≡ Ok s) × (s.bytes ≡ bytes)
taken bytes true is e = (record { bytes = bytes; valid = is }, refl, refl)
taken bytes false is e = absurd (cc e)

pub segment_taken : (bytes : List ℕ) → IsNameSegment bytes → (s : Seg) × (seg_of bytes ≡ Ok s) × (s.bytes ≡ bytes)
unfolding seg_of
segment_taken bytes h = taken bytes (is_segment bytes) refl (segment_is bytes h)

dropped : (bytes : List ℕ) (b : Bool) (is : is_segment bytes ≡ b) → (IsNameSegment bytes → ⊥) → tested bytes b is ≡ Err (refusals.Name BadName)
dropped bytes true is none = absurd (none (segment_so bytes is))
dropped bytes false is none = refl

pub no_segment : (bytes : List ℕ) → (IsNameSegment bytes → ⊥) → seg_of bytes ≡ Err (refusals.Name BadName)
unfolding seg_of
no_segment bytes none = dropped bytes (is_segment bytes) refl none

-- ---- scopes

pub read_inside : (scope path : List Seg) → scope_of scope (Some path) ≡ path
read_inside scope path = refl

pub read_there : (scope : List Seg) → scope_of scope None ≡ scope
read_there scope = refl

begins_so : (n : Name) (p : Prefix) → n.prefix ≡ p → begins_outside n ≡ not (begins_here p)
begins_so n p is = ap (λ q. not (begins_here q)) is

pub at_root : (n : Name) → n.prefix ≡ Root → begins_outside n ≡ true
at_root n is = begins_so n Root is

pub above_scope : (n : Name) (more : ℕ) → n.prefix ≡ Parents (suc more) → begins_outside n ≡ true
above_scope n more is = begins_so n (Parents (suc more)) is ∙ ap not (ne_eqb (suc more) 0 (λ e. omega (arith, e)))

pub in_scope : (n : Name) → n.prefix ≡ Parents 0 → begins_outside n ≡ false
in_scope n is = begins_so n (Parents 0) is
