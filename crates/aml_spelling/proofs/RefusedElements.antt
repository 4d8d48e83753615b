-- A fault that stands at a field element is what reading it refuses.
use Rattle.std.proofs.Common.{◌≡◌, ℕ, ◌+◌, ◌<◌, List, [], ◌∷◌, ◌++◌, length, Some, Ok, Err, refl, subst, ◌∙◌, sym, ap, length-append, arith, ◌⊎◌, inl, inr}
use Rattle.ar_space.specs.Outcome.{Outcome}
use Rattle.ar_space.specs.declared.refusal.Refusal.{Refusal}
use Rattle.aml_path.specs.declared.segment.Seg.{Seg}
use Rattle.aml_grammar.specs.declared.opcode.TermCode.TheVariants as codes
use Rattle.aml_grammar.specs.declared.context.Context.{Context}
use Rattle.aml_grammar.specs.Names.{starts_name}
use Rattle.aml_grammar.specs.State.{State, little_endian}
use Rattle.aml_grammar.specs.Tree.{Tree, term, name, number, inner, list, no_parts, part}
use Rattle.aml_grammar.specs.Grammar.{Inner, field}
use Rattle.aml_scan.specs.Spelling.{Around, field_element, Begins, Spells}
use Rattle.aml_scan.proofs.SpelledNames.{name_some}
use Rattle.aml_scan.proofs.SpelledNumbers.{stand_for}
use Rattle.aml_scan.proofs.SpelledRows.{around_of}
use Rattle.aml_spelling.specs.Faults.{Spot, Way, here, in_operand, in_argument, at_else, in_else, in_term, in_item, in_connection, a_term, IsName, IsNumber, IsElement, AtPart, FaultyAt}
use Rattle.aml_spelling.proofs.FaultApart.{numbers_apart, counts_apart}
use Rattle.aml_spelling.proofs.FaultElements.{Segmented, no_code, reserved_is, access_is, connection_is, extended_is, named_parts}
use Rattle.aml_spelling.proofs.FaultKinds.{Below, halts_field}
use Rattle.aml_spelling.proofs.FaultLists.{spot_of}
use Rattle.aml_spelling.proofs.FaultNameStrings.{names_apart, name_begun}
use Rattle.aml_spelling.proofs.FaultOnce.{part_once, whole_no_fault}
use Rattle.aml_spelling.proofs.FaultSegments.{Segment, segments_apart}
use Rattle.aml_spelling.proofs.FaultShapes.{then_apart}
use Rattle.aml_spelling.proofs.FaultSorts.{Apart, Whole}
use Rattle.aml_spelling.proofs.FaultTakes.{takes_field}
use Rattle.aml_spelling.proofs.GetsNames.{seg_begins}
use Rattle.aml_spelling.proofs.Refused.{Refused}
use Rattle.aml_spelling.proofs.RowFacts.{no_field}
use Rattle.aml_spelling.specs.Faults.{IsCount}

-- ---- none is the beginning of another one

not_one : (l : List ℕ) (c d : ℕ) (more : List ℕ) → 0 < length l → l ++ c ∷ more ≡ d ∷ [] → ⊥
not_one l c d more some e =
    let k : length (l ++ c ∷ more) ≡ length l + length (c ∷ more) = length-append l (c ∷ more) in
    let n : length (l ++ c ∷ more) ≡ 1 = ap (λ (x : List ℕ). length x) e in
    omega (arith, k, n, some)

eleven_no_name : (more : List ℕ) → IsName (0x11 ∷ more) → ⊥
unfolding starts_name
eleven_no_name more h = cc (name_begun 0x11 more h)

connections_apart : (l : List ℕ) (c : ℕ) (more : List ℕ) → IsName l ⊎ (l ≡ 0x11 ∷ []) → IsName (l ++ c ∷ more) ⊎ (l ++ c ∷ more ≡ 0x11 ∷ []) → ⊥
connections_apart l c more (inl h) (inl i) = names_apart l c more h i
connections_apart l c more (inl h) (inr i) = not_one l c 0x11 more (name_some h.0 l h.1) i
connections_apart l c more (inr h) (inl i) = eleven_no_name (c ∷ more) (subst (λ (k : List ℕ). IsName (k ++ c ∷ more)) h i)
connections_apart l c more (inr h) (inr i) = not_one l c 0x11 more (rw h (omega arith)) i

named_apart : (b : ℕ) (l : List ℕ) (c : ℕ) (more : List ℕ) → Segmented (b ∷ l) → IsElement (b ∷ (l ++ c ∷ more)) → ⊥
named_apart b l c more h (inl i) = no_code b l h (inl i.0)
named_apart b l c more h (inr (inl i)) = no_code b l h (inr (inl i.0))
named_apart b l c more h (inr (inr (inl i))) = no_code b l h (inr (inr (inl i.0)))
named_apart b l c more h (inr (inr (inr (inl i)))) = no_code b l h (inr (inr (inr i.0)))
named_apart b l c more h (inr (inr (inr (inr i)))) = then_apart Segment IsCount segments_apart counts_apart (b ∷ l) c more (named_parts (b ∷ l) h) (named_parts (b ∷ (l ++ c ∷ more)) i)

elements_apart : Apart IsElement
elements_apart [] c more h i = absurd h
elements_apart (b ∷ l) c more (inl h) i = counts_apart l c more h.1 (reserved_is b (l ++ c ∷ more) h.0 i)
elements_apart (b ∷ l) c more (inr (inl h)) i = numbers_apart 2 l c more h.1 (access_is b (l ++ c ∷ more) h.0 i)
elements_apart (b ∷ l) c more (inr (inr (inl h))) i = connections_apart l c more h.1 (connection_is b (l ++ c ∷ more) h.0 i)
elements_apart (b ∷ l) c more (inr (inr (inr (inl h)))) i = numbers_apart 3 l c more h.1 (extended_is b (l ++ c ∷ more) h.0 i)
elements_apart (b ∷ l) c more (inr (inr (inr (inr h)))) i = named_apart b l c more h i

-- ---- an element that is read stands whole

segmented_is : (l : List ℕ) → Segmented l → IsElement l
segmented_is l h =
    let k = seg_begins h.0 in
    let first : l ≡ k.0 ∷ (k.1 ++ h.1) = h.2 ∙ ap (λ (m : List ℕ). m ++ h.1) k.2 in
    subst (λ (m : List ℕ). IsElement m) (sym first) (inr (inr (inr (inr (subst (λ (m : List ℕ). Segmented m) first h)))))

of_size : (n : ℕ) (l : List ℕ) → length l ≡ n → IsNumber n l
of_size n l e = (little_endian l, (e, stand_for l))

buffer_first : (l : List ℕ) → Begins 0x11 0x11 l → (k : List ℕ) × (l ≡ 0x11 ∷ k)
buffer_first [] h = absurd h
buffer_first (b ∷ l) h = let same : b ≡ 0x11 = omega (arith, h.0, h.1) in (l, ap (λ (c : ℕ). c ∷ l) same)

-- an element, or the beginning of a connection to a Buffer
Begun : List ℕ → Type 0
Begun front = IsElement front ⊎ ((l : List ℕ) × (front ≡ 2 ∷ 0x11 ∷ l))

element_whole : (around : Around) (t : Tree) (front : List ℕ) → Spells around field_element t front → Begun front
unfolding Spells Begun
element_whole around (term codes.NamedField (part (name n) (part (number count) no_parts))) front h = inl (segmented_is front (h.0, h.2, h.3, (count, h.4)))
element_whole around (term codes.ReservedField (part (number count) no_parts)) front h = inl (subst (λ (l : List ℕ). IsElement l) (sym h.1) (inl (refl, (count, h.2))))
element_whole around (term codes.AccessField (part (number access) (part (number attribute) no_parts))) front h = inl (subst (λ (l : List ℕ). IsElement l) (sym h) (inr (inl (refl, of_size 2 (access ∷ attribute ∷ []) refl))))
element_whole around (term codes.ExtendedAccessField (part (number access) (part (number attribute) (part (number count) no_parts)))) front h = inl (subst (λ (l : List ℕ). IsElement l) (sym h) (inr (inr (inr (inl (refl, of_size 3 (access ∷ attribute ∷ count ∷ []) refl))))))
element_whole around (term codes.ConnectField (part (name n) no_parts)) front h = inl (subst (λ (l : List ℕ). IsElement l) (sym h.1) (inr (inr (inl (refl, inl (n, h.2))))))
element_whole around (term codes.ConnectField (part (inner t) no_parts)) front h = let k = buffer_first h.0 h.2.0 in inr (k.0, h.1 ∙ ap (λ (l : List ℕ). 2 ∷ l) k.1)
element_whole around (term codes.ConnectField (part p no_parts)) front h = absurd h.2
element_whole around (term (codes.Opcode o) ps) front h = absurd (no_field around h.0.1 h.2)
element_whole around (term codes.MethodInvocation (part (name n) (part (list ts) no_parts))) front h = absurd (cc h.0)
element_whole around t front h = absurd h

buffer_begun : Whole IsElement (2 ∷ 0x11 ∷ [])
buffer_begun = (2 ∷ 0x11 ∷ [], [], refl, inr (inr (inl (refl, inr refl))))

begun_whole : (front rest bytes : List ℕ) → bytes ≡ front ++ rest → Begun front → Whole IsElement bytes
unfolding Begun
begun_whole front rest bytes is (inl h) = (front, rest, is, h)
begun_whole front rest bytes is (inr h) = (2 ∷ 0x11 ∷ [], h.0 ++ rest, is ∙ ap (λ (l : List ℕ). l ++ rest) h.1, inr (inr (inl (refl, inr refl))))

module _ (levels : ℕ) (inner_term : Inner) (below : Below levels inner_term) (scope : List Seg) (context : Context) (item : ℕ) (in_item_at : context.item ≡ Some item) (s : State) (r : Refusal) where
  abbrev spot_here : Spot
  spot_here = spot_of levels scope (around_of context) item s

  told : (q : Refusal) (way : Way) → FaultyAt way (a_term field_element) spot_here q → AtPart IsElement spot_here r → q ≡ r
  unfolding FaultyAt
  told q here f h = part_once IsElement spot_here q r f h
  told q (in_connection way) f h =
      let k = buffer_first f.0 f.2 in
      absurd (whole_no_fault IsElement elements_apart spot_here r (2 ∷ 0x11 ∷ [], k.0, f.1 ∙ ap (λ (l : List ℕ). 2 ∷ l) k.1, inr (inr (inl (refl, inr refl)))) h)
  told q (in_operand o ps way) f h = absurd (no_field (around_of context) f.0.1 f.6.0)
  told q (in_argument n ts way) f h = absurd (cc f.6)
  told q (at_else ps) f h = absurd (no_field (around_of context) f.1.0.1 f.1.9.0)
  told q (in_else ps ts way) f h = absurd (no_field (around_of context) f.1.0.1 f.1.9.0)
  told q (in_term way) f h = absurd f
  told q (in_item ts way) f h = absurd f

  element_by : (p : Outcome Tree × State) → field inner_term scope context s ≡ p → AtPart IsElement spot_here r → Refused (field inner_term scope context) s r
  element_by (Ok t, s2) e h =
      let k = (takes_field inner_term below.takes scope context s).is t s2 e in
      absurd (whole_no_fault IsElement elements_apart spot_here r (begun_whole k.0 s2.rest s.rest k.1 (element_whole (around_of context) t k.0 k.2.0)) h)
  element_by (Err q, s2) e h =
      let k = (halts_field levels inner_term below scope context item in_item_at s).is q s2 e in
      record { is = ap (λ (x : Outcome Tree × State). x.0) e ∙ ap (λ (x : Refusal). Err x) (told q k.0 k.1 h) }

  pub element_refused : AtPart IsElement spot_here r → Refused (field inner_term scope context) s r
  element_refused h = element_by (field inner_term scope context s) refl h
