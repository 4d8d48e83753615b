-- Where a field element is refused, its fault stands there, or one of the Buffer of its connection.
use Rattle.std.proofs.Common.{◌≡◌, ℕ, zero, suc, ◌+◌, ◌<◌, List, [], ◌∷◌, ◌++◌, length, Bool, true, false, refl, subst, ◌∙◌, sym, ap, length-append, arith, ◌⊎◌, inl, inr}
use Rattle.std.specs.Prelude.{◌==◌, if◌then◌else◌}
use Rattle.std.proofs.lemmas.Bool.{eqb-true, eqb-false}
use Rattle.ar_space.specs.Change.{give, ◌>>=◌}
use Rattle.ar_space.specs.declared.refusal.Refusal.{Refusal}
use Rattle.aml_path.specs.declared.segment.Seg.{Seg}
use Rattle.aml_grammar.specs.declared.context.Context.{Context}
use Rattle.aml_grammar.specs.State.{State, Step, byte, bit_count, adding, little_endian}
use Rattle.aml_grammar.specs.Names.{starts_name, segment}
use Rattle.aml_grammar.specs.Operands.{declare, reserved_field, access_field, extended_access_field, named_field}
use Rattle.aml_scan.proofs.Takes.{takes_byte, same_state}
use Rattle.aml_scan.proofs.SpelledNames.{takes_segment}
use Rattle.aml_scan.proofs.SpelledNumbers.{stand_for}
use Rattle.aml_spelling.specs.Faults.{Sort, Spot, Short, Wrong, IsName, IsNumber, IsCount, IsElement, AtPart}
use Rattle.aml_spelling.proofs.Ends.{ends_byte, ends_segment}
use Rattle.aml_spelling.proofs.FaultApart.{numbers_apart}
use Rattle.aml_spelling.proofs.FaultNameStrings.{behind_byte, first_is, name_begun}
use Rattle.aml_spelling.proofs.FaultOperands.{halts_declare}
use Rattle.aml_spelling.proofs.FaultParts.{StandsAt, at_short, at_end, short_number, part_count}
use Rattle.aml_spelling.proofs.FaultSegments.{Refuses, moved, same_sorts, part_then, Segment, refuses_segment, segments_apart}
use Rattle.aml_spelling.proofs.FaultShapes.{Then, at_like}
use Rattle.aml_spelling.proofs.GetsNames.{seg_begins}
use Rattle.aml_spelling.proofs.Halts.{Halts, halts_then, halts_map, halts_more, halts_byte, halts_seen}

-- ---- bytes one after another

refuses_byte : Refuses byte (IsNumber 1)
refuses_byte s spot here = halts_more (halts_byte s) (λ r m. at_short (IsNumber 1) spot r s.at m.0 (at_end s spot here m.1) (rw (← here.1, m.1) (short_number 1 [] (omega arith))))

number_of_size : (n : ℕ) (l : List ℕ) → length l ≡ n → IsNumber n l
number_of_size n l e = (little_endian l, (e, stand_for l))

is_byte : (b : ℕ) (front : List ℕ) → front ≡ b ∷ [] → IsNumber 1 front
is_byte b front e = number_of_size 1 front (ap (λ (l : List ℕ). length l) e)

zeros : (n : ℕ) → (q : List ℕ) × IsNumber n q
zeros zero = ([], number_of_size 0 [] refl)
zeros (suc n) = let k = zeros n in (0 ∷ k.0, number_of_size (suc n) (0 ∷ k.0) (ap suc k.1.1.0))

one_more : (n : ℕ) (l : List ℕ) → Then (IsNumber 1) (IsNumber n) l → IsNumber (suc n) l
one_more n l h =
    let a : length h.0 ≡ 1 = h.3.1.0 in
    let b : length h.1 ≡ n = h.4.1.0 in
    let c : length l ≡ length h.0 + length h.1 = ap (λ (k : List ℕ). length k) h.2 ∙ length-append h.0 h.1 in
    number_of_size (suc n) l (omega (arith, a, b, c))

one_less : (n : ℕ) (l : List ℕ) → IsNumber (suc n) l → Then (IsNumber 1) (IsNumber n) l
one_less n [] h = let e : 0 ≡ suc n = h.1.0 in absurd (omega (arith, e))
one_less n (b ∷ l) h = let e : length (b ∷ l) ≡ suc n = h.1.0 in (b ∷ [], l, refl, number_of_size 1 (b ∷ []) refl, number_of_size n l (omega (arith, e)))

refuses_more : {B : Type 0} (n : ℕ) (k : ℕ → Step B) → ((b : ℕ) → Refuses (k b) (IsNumber n)) → Refuses (byte >>= k) (IsNumber (suc n))
refuses_more n k h s spot here =
    let z = zeros n in
    halts_more (part_then (IsNumber 1) (IsNumber n) (λ (b : ℕ) (front : List ℕ). front ≡ b ∷ []) byte k (numbers_apart 1) z.0 z.1 takes_byte is_byte ends_byte refuses_byte (λ b front e. h b) s spot here)
    (same_sorts (Then (IsNumber 1) (IsNumber n)) (IsNumber (suc n)) (one_more n) (one_less n) spot)

last_byte : {B : Type 0} (k : ℕ → B) → Refuses (byte >>= (λ b. give (k b))) (IsNumber 1)
last_byte k s spot here = halts_map k (refuses_byte s spot here)

-- ---- elements that begin with a code

abbrev pub Segmented : List ℕ → Type 0
Segmented l = (seg : Seg) × (back : List ℕ) × (l ≡ seg.bytes ++ back) × IsCount back

pub no_code : (b : ℕ) (l : List ℕ) → Segmented (b ∷ l) → (b ≡ 0) ⊎ ((b ≡ 1) ⊎ ((b ≡ 2) ⊎ (b ≡ 3))) → ⊥
no_code b l h e =
    let k = seg_begins h.0 in
    let same : b ≡ k.0 = (first_is b k.0 l (k.1 ++ h.1) (h.2 ∙ ap (λ (m : List ℕ). m ++ h.1) k.2)).0 in
    elim e [
      | inl t ↦ eqb-false k.0 0 k.3 (sym same ∙ t)
      | inr (inl t) ↦ eqb-false k.0 1 k.4 (sym same ∙ t)
      | inr (inr (inl t)) ↦ eqb-false k.0 2 k.5 (sym same ∙ t)
      | inr (inr (inr t)) ↦ eqb-false k.0 3 k.6 (sym same ∙ t)
    ]

two_codes : (b n m : ℕ) → b ≡ n → b ≡ m → (n < m) ⊎ (m < n) → ⊥
two_codes b n m e f (inl h) = omega (arith, e, f, h)
two_codes b n m e f (inr h) = omega (arith, e, f, h)

pub reserved_is : (b : ℕ) (l : List ℕ) → b ≡ 0 → IsElement (b ∷ l) → IsCount l
reserved_is b l e (inl h) = h.1
reserved_is b l e (inr (inl h)) = absurd (two_codes b 0 1 e h.0 (inl (omega arith)))
reserved_is b l e (inr (inr (inl h))) = absurd (two_codes b 0 2 e h.0 (inl (omega arith)))
reserved_is b l e (inr (inr (inr (inl h)))) = absurd (two_codes b 0 3 e h.0 (inl (omega arith)))
reserved_is b l e (inr (inr (inr (inr h)))) = absurd (no_code b l h (inl e))

pub access_is : (b : ℕ) (l : List ℕ) → b ≡ 1 → IsElement (b ∷ l) → IsNumber 2 l
access_is b l e (inl h) = absurd (two_codes b 1 0 e h.0 (inr (omega arith)))
access_is b l e (inr (inl h)) = h.1
access_is b l e (inr (inr (inl h))) = absurd (two_codes b 1 2 e h.0 (inl (omega arith)))
access_is b l e (inr (inr (inr (inl h)))) = absurd (two_codes b 1 3 e h.0 (inl (omega arith)))
access_is b l e (inr (inr (inr (inr h)))) = absurd (no_code b l h (inr (inl e)))

pub connection_is : (b : ℕ) (l : List ℕ) → b ≡ 2 → IsElement (b ∷ l) → IsName l ⊎ (l ≡ 0x11 ∷ [])
connection_is b l e (inl h) = absurd (two_codes b 2 0 e h.0 (inr (omega arith)))
connection_is b l e (inr (inl h)) = absurd (two_codes b 2 1 e h.0 (inr (omega arith)))
connection_is b l e (inr (inr (inl h))) = h.1
connection_is b l e (inr (inr (inr (inl h)))) = absurd (two_codes b 2 3 e h.0 (inl (omega arith)))
connection_is b l e (inr (inr (inr (inr h)))) = absurd (no_code b l h (inr (inr (inl e))))

pub extended_is : (b : ℕ) (l : List ℕ) → b ≡ 3 → IsElement (b ∷ l) → IsNumber 3 l
extended_is b l e (inl h) = absurd (two_codes b 3 0 e h.0 (inr (omega arith)))
extended_is b l e (inr (inl h)) = absurd (two_codes b 3 1 e h.0 (inr (omega arith)))
extended_is b l e (inr (inr (inl h))) = absurd (two_codes b 3 2 e h.0 (inr (omega arith)))
extended_is b l e (inr (inr (inr (inl h)))) = h.1
extended_is b l e (inr (inr (inr (inr h)))) = absurd (no_code b l h (inr (inr (inr e))))

named_is : (b : ℕ) (l : List ℕ) → (b == 0) ≡ false → (b == 1) ≡ false → (b == 2) ≡ false → (b == 3) ≡ false → IsElement (b ∷ l) → Segmented (b ∷ l)
named_is b l e f g h (inl k) = absurd (eqb-false b 0 e k.0)
named_is b l e f g h (inr (inl k)) = absurd (eqb-false b 1 f k.0)
named_is b l e f g h (inr (inr (inl k))) = absurd (eqb-false b 2 g k.0)
named_is b l e f g h (inr (inr (inr (inl k)))) = absurd (eqb-false b 3 h k.0)
named_is b l e f g h (inr (inr (inr (inr k)))) = k

pub element_none : Short IsElement []
element_none = (0, 0 ∷ [], inl (refl, (0, (refl, 0, refl, refl))))

module _ (b : ℕ) (bs : List ℕ) (s : State) (spot : Spot) (here : StandsAt s spot) (is : s.rest ≡ b ∷ bs) where
  pub halts_reserved : (b == 0) ≡ true → Halts reserved_field s (λ r. AtPart IsElement spot r)
  unfolding reserved_field
  halts_reserved t = halts_seen _ is (λ s1 at1 is1 ar1. halts_map _ (halts_more (part_count s1 (moved spot s1) (refl, refl))
      (behind_byte IsCount IsElement b (λ l h. inl (eqb-true b 0 t, h)) (λ l h. reserved_is b l (eqb-true b 0 t) h) spot s s1 bs here is at1 is1)))

  pub halts_access : (b == 1) ≡ true → Halts access_field s (λ r. AtPart IsElement spot r)
  unfolding access_field
  halts_access t = halts_seen _ is (λ s1 at1 is1 ar1. halts_more (refuses_more 1 _ (λ access. last_byte _) s1 (moved spot s1) (refl, refl))
      (behind_byte (IsNumber 2) IsElement b (λ l h. inr (inl (eqb-true b 1 t, h))) (λ l h. access_is b l (eqb-true b 1 t) h) spot s s1 bs here is at1 is1))

  pub halts_extended : (b == 3) ≡ true → Halts extended_access_field s (λ r. AtPart IsElement spot r)
  unfolding extended_access_field
  halts_extended t = halts_seen _ is (λ s1 at1 is1 ar1. halts_more (refuses_more 2 _ (λ access. refuses_more 1 _ (λ attribute. last_byte _)) s1 (moved spot s1) (refl, refl))
      (behind_byte (IsNumber 3) IsElement b (λ l h. inr (inr (inr (inl (eqb-true b 3 t, h))))) (λ l h. extended_is b l (eqb-true b 3 t) h) spot s s1 bs here is at1 is1))

-- ---- named fields

declared_there : (c : Bool) (path : List Seg) (s s1 : State) (spot : Spot) → StandsAt s spot → (if c then s else adding path 0 false s) ≡ s1 → StandsAt s1 spot
declared_there true path s s1 spot here e = (ap (λ (t : State). t.at) (sym e) ∙ here.0, ap (λ (t : State). t.rest) (sym e) ∙ here.1)
declared_there false path s s1 spot here e = (ap (λ (t : State). t.at) (sym e) ∙ here.0, ap (λ (t : State). t.rest) (sym e) ∙ here.1)

refuses_declaring : {B : Type 0} (context : Context) (path : List Seg) (k : ℕ → B) → Refuses (declare context path 0 false >>= (λ added. bit_count >>= (λ n. give (k n)))) IsCount
refuses_declaring context path k s spot here = halts_then (halts_declare context path 0 false s (λ r. AtPart IsCount spot r)) (λ added s1 e.
    halts_map k (part_count s1 spot (declared_there context.body path s s1 spot here (same_state e))))

pub named_parts : (l : List ℕ) → Segmented l → Then Segment IsCount l
named_parts l h = (h.0.bytes, h.1, h.2, (h.0, refl), h.3)

parts_named : (l : List ℕ) → Then Segment IsCount l → Segmented l
parts_named l h = (h.3.0, h.1, h.2 ∙ ap (λ (m : List ℕ). m ++ h.1) h.3.1, h.4)

no_count : IsCount (0 ∷ [])
no_count = (0, (refl, 0, refl, refl))

refuses_named : (scope : List Seg) (context : Context) → Refuses (named_field scope context) (Then Segment IsCount)
unfolding named_field
refuses_named scope context = part_then Segment IsCount (λ (seg : Seg) (front : List ℕ). front ≡ seg.bytes) segment _ segments_apart (0 ∷ []) no_count takes_segment (λ seg front e. (seg, e)) ends_segment refuses_segment
    (λ seg front e. refuses_declaring context (scope ++ seg ∷ []) _)

pub halts_named : (b : ℕ) (bs : List ℕ) (s : State) (spot : Spot) → StandsAt s spot → s.rest ≡ b ∷ bs → (b == 0) ≡ false → (b == 1) ≡ false → (b == 2) ≡ false → (b == 3) ≡ false → (scope : List Seg) (context : Context) → Halts (named_field scope context) s (λ r. AtPart IsElement spot r)
halts_named b bs s spot here is e f g h scope context = halts_more (refuses_named scope context s spot here)
    (at_like (Then Segment IsCount) IsElement b (λ l k. inr (inr (inr (inr (parts_named (b ∷ l) k))))) (λ l k. named_parts (b ∷ l) (named_is b l e f g h k)) element_none spot bs (sym here.1 ∙ is))

-- ---- connections

abbrev pub Connection : Sort
Connection l = IsElement (2 ∷ l)

pub connection_none : Short Connection []
connection_none = (0x11, [], inr (inr (inl (refl, inr refl))))

buffer_no_name : (b : ℕ) (l : List ℕ) → starts_name b ≡ true → b ∷ l ≡ 0x11 ∷ [] → ⊥
unfolding starts_name
buffer_no_name b l is e = let same : b ≡ 0x11 = (first_is b 0x11 l [] e).0 in cc (subst (λ (c : ℕ). starts_name c ≡ true) same is)

name_only : (b : ℕ) (l : List ℕ) → starts_name b ≡ true → IsName (b ∷ l) ⊎ (b ∷ l ≡ 0x11 ∷ []) → IsName (b ∷ l)
name_only b l is (inl h) = h
name_only b l is (inr h) = absurd (buffer_no_name b l is h)

-- a name's fault where a connection's name stands
pub connected_name : (b : ℕ) (bs : List ℕ) (next : Spot) → next.rest ≡ b ∷ bs → starts_name b ≡ true → (r : Refusal) → AtPart IsName next r → AtPart Connection next r
connected_name b bs next is names r h = at_like IsName Connection b (λ l k. inr (inr (inl (refl, inl k)))) (λ l k. name_only b l names (connection_is 2 (b ∷ l) refl k)) connection_none next bs is r h

neither : (b : ℕ) (more : List ℕ) → starts_name b ≡ false → (b == 0x11) ≡ false → IsName (b ∷ more) ⊎ (b ∷ more ≡ 0x11 ∷ []) → ⊥
neither b more no_name no_buffer (inl h) = cc (no_name, name_begun b more h)
neither b more no_name no_buffer (inr h) = eqb-false b 0x11 no_buffer (first_is b 0x11 more [] h).0

-- what is neither a name nor a Buffer
pub connected_wrong : (b : ℕ) (bs : List ℕ) (next : Spot) → next.rest ≡ b ∷ bs → starts_name b ≡ false → (b == 0x11) ≡ false → Wrong Connection next.rest
connected_wrong b bs next is no_name no_buffer = ([], b, bs, is, connection_none, λ starts. neither b starts.0 no_name no_buffer (connection_is 2 (b ∷ starts.0) refl starts.1))
