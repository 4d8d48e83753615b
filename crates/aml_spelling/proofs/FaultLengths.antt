-- A package length has at most one fault, and reading it refuses that one.
use Rattle.std.proofs.Common.{◌≡◌, ℕ, suc, ◌+◌, ◌-◌, ◌/◌, ◌<◌, ◌≤◌, List, [], ◌++◌, length, Bool, true, false, Ok, Err, refl, ◌∙◌, sym, ap, length-append, append-nil, arith, ◌⊎◌, inl, inr}
use Rattle.std.specs.Prelude.{nat_lt, ◌||◌, if◌then◌else◌}
use Rattle.std.proofs.lemmas.Bool.{ltb-false}
use Rattle.ar_space.specs.Outcome.{Outcome}
use Rattle.ar_space.specs.declared.refusal.Refusal.{Refusal}
use Rattle.ar_space.specs.declared.refusal.Refusal.TheVariants as refusals
use Rattle.ar_space.specs.declared.refusal.NameFault.TheVariants.{BadName}
use Rattle.ar_space.specs.declared.refusal.TermFault.TheVariants.{BadPkgLength, Truncated}
use Rattle.aml_grammar.specs.State.{State, length_of, size_after, package_size}
use Rattle.aml_scan.specs.Spelling.{IsLength}
use Rattle.aml_scan.proofs.Takes.{Takes, Gave, same_value, same_state, refused, takes_then, takes_more, takes_look, takes_byte}
use Rattle.aml_scan.proofs.SpelledNumbers.{takes_integer}
use Rattle.aml_spelling.specs.Faults.{Spot, IsCount, AtLength}
use Rattle.aml_spelling.proofs.FaultSorts.{Whole}
use Rattle.aml_spelling.proofs.FaultOnce.{part_once, whole_no_fault}
use Rattle.aml_spelling.proofs.FaultParts.{StandsAt, part_length}
use Rattle.aml_spelling.proofs.FaultApart.{counts_apart}
use Rattle.aml_spelling.proofs.Gets.{gets_bit_count}

-- ---- a length that is read is spelled, and its package fits

size_left : (start spent total : ℕ) (s : State) (short past : Bool) (n : ℕ) (s2 : State) → nat_lt total spent ≡ short → nat_lt (length s.rest) (total - spent) ≡ past
    → Gave (if short || past then (Err (refusals.Term BadPkgLength start), s) else (Ok (total - spent), s)) n s2 → (s ≡ s2) × (n + spent ≡ total) × (n ≤ length s.rest)
size_left start spent total s true past n s2 a b e = absurd (refused e)
size_left start spent total s false true n s2 a b e = absurd (refused e)
size_left start spent total s false false n s2 a b e =
    let v : total - spent ≡ n = same_value e in
    let counted : spent ≤ total = ltb-false total spent a in
    let within : total - spent ≤ length s.rest = ltb-false (length s.rest) (total - spent) b in
    (same_state e, omega (arith, v, counted), omega (arith, v, within))

takes_size_after : (start spent total : ℕ) (s : State) → Takes (size_after start spent total) s (λ n front rest. (front ≡ []) × (n + spent ≡ total) × (n ≤ length rest))
unfolding size_after
takes_size_after start spent total s = record {
  is = λ n s2 e.
      let t = size_left start spent total s (nat_lt total spent) (nat_lt (length s.rest) (total - spent)) n s2 refl refl e in
      ([], ap (λ (u : State). u.rest) t.0, (refl, t.1, rw (← t.0) t.2));
}

counted_whole : (more : List ℕ) (n k total : ℕ) → length more ≡ k → n + (k + 1) ≡ total → suc (length more) + n ≡ total
counted_whole more n k total e f = omega (arith, e, f)

pub takes_size : (s : State) → Takes package_size s (λ n front rest. IsLength (length front + n) front × (n ≤ length rest))
unfolding package_size
takes_size s = takes_look (λ s. s.at) _ (takes_then (takes_byte s) (λ lead f s1 h. takes_then (takes_integer (lead / 64) s1) (λ more g s2 i.
    takes_more (takes_size_after s.at (lead / 64 + 1) (length_of lead more) s2) (λ n l rest j.
    rw (h, j.0, append-nil) ((i.0, more, i.1, counted_whole g n (lead / 64) (length_of lead more) i.0 j.1), j.2)))))

-- ---- one length stands at the front

same_length : (bytes : List ℕ) (n m : ℕ) (one two rest left : List ℕ) → bytes ≡ one ++ rest → bytes ≡ two ++ left → IsLength n one → IsLength m two → (n ≡ m) × (length one ≡ length two)
same_length bytes n m one two rest left e f h i =
    let s : State = record { at = 0; rest = bytes; arities = []; marks = [] } in
    let p = gets_bit_count {s = s} n one h e refl in
    let q = gets_bit_count {s = s} m two i f refl in
    let same = sym p.is ∙ q.is in
    let left_same : rest ≡ left = sym p.left ∙ ap (λ (t : State). t.rest) (same_state same) ∙ q.left in
    let k : length one + length rest ≡ length two + length left = sym (length-append one rest) ∙ ap (λ (l : List ℕ). length l) (sym e ∙ f) ∙ length-append two left in
    let l : length rest ≡ length left = ap (λ (l : List ℕ). length l) left_same in
    (same_value same, omega (arith, k, l))

outside_not : (n l m k w : ℕ) → n ≡ m → l ≡ k → (n < l) ⊎ (w < n) → k ≤ m → m ≤ w → ⊥
outside_not n l m k w e f (inl h) a b = omega (arith, e, f, h, a)
outside_not n l m k w e f (inr h) a b = omega (arith, e, h, b)

-- a length whose package fits has no fault
pub length_no_fault : (spot : Spot) (n : ℕ) (front back : List ℕ) (r : Refusal) → spot.rest ≡ front ++ back → IsLength (length front + n) front → n ≤ length back → AtLength spot r → ⊥
length_no_fault spot n front back (refusals.Term BadPkgLength o) is len fits h =
    let s = same_length spot.rest h.0 (length front + n) h.1 front h.2 back h.3 is h.4 len in
    let w : length spot.rest ≡ length front + length back = ap (λ (l : List ℕ). length l) is ∙ length-append front back in
    outside_not h.0 (length h.1) (length front + n) (length front) (length spot.rest) s.0 s.1 h.5 (omega arith) (omega (arith, w, fits))
length_no_fault spot n front back (refusals.Term Truncated o) is len fits h = whole_no_fault IsCount counts_apart spot (refusals.Term Truncated o) (front, back, is, (length front + n, len)) h
length_no_fault spot n front back (refusals.Name BadName) is len fits h = whole_no_fault IsCount counts_apart spot (refusals.Name BadName) (front, back, is, (length front + n, len)) h
length_no_fault spot n front back r is len fits h = absurd h

whole_count : (spot : Spot) (o : ℕ) → AtLength spot (refusals.Term BadPkgLength o) → Whole IsCount spot.rest
whole_count spot o h = (h.1, h.2, h.3, (h.0, h.4))

pub length_once : (spot : Spot) (r q : Refusal) → AtLength spot r → AtLength spot q → r ≡ q
length_once spot (refusals.Term BadPkgLength o) (refusals.Term BadPkgLength p) h i = ap (λ (k : ℕ). refusals.Term BadPkgLength k) (h.6 ∙ sym i.6)
length_once spot (refusals.Term BadPkgLength o) (refusals.Term Truncated p) h i = absurd (whole_no_fault IsCount counts_apart spot (refusals.Term Truncated p) (whole_count spot o h) i)
length_once spot (refusals.Term BadPkgLength o) (refusals.Name BadName) h i = absurd (whole_no_fault IsCount counts_apart spot (refusals.Name BadName) (whole_count spot o h) i)
length_once spot (refusals.Term BadPkgLength o) q h i = absurd i
length_once spot (refusals.Term Truncated o) (refusals.Term BadPkgLength p) h i = absurd (whole_no_fault IsCount counts_apart spot (refusals.Term Truncated o) (whole_count spot p i) h)
length_once spot (refusals.Name BadName) (refusals.Term BadPkgLength p) h i = absurd (whole_no_fault IsCount counts_apart spot (refusals.Name BadName) (whole_count spot p i) h)
length_once spot (refusals.Term Truncated o) (refusals.Term Truncated p) h i = part_once IsCount spot (refusals.Term Truncated o) (refusals.Term Truncated p) h i
length_once spot (refusals.Term Truncated o) (refusals.Name BadName) h i = part_once IsCount spot (refusals.Term Truncated o) (refusals.Name BadName) h i
length_once spot (refusals.Name BadName) (refusals.Term Truncated p) h i = part_once IsCount spot (refusals.Name BadName) (refusals.Term Truncated p) h i
length_once spot (refusals.Name BadName) (refusals.Name BadName) h i = refl
length_once spot (refusals.Term Truncated o) q h i = absurd i
length_once spot (refusals.Name BadName) q h i = absurd i
length_once spot r q h i = absurd h

refused_as : (s : State) (spot : Spot) → StandsAt s spot → (p : Outcome ℕ × State) → package_size s ≡ p → (r : Refusal) → AtLength spot r → (s2 : State) × (package_size s ≡ (Err r, s2))
refused_as s spot h (Ok n, s2) is r f = let t = (takes_size s).is n s2 is in absurd (length_no_fault spot n t.0 s2.rest r (sym h.1 ∙ t.1) t.2.0 t.2.1 f)
refused_as s spot h (Err q, s2) is r f = (s2, is ∙ ap (λ (x : Refusal). (Err x, s2)) (length_once spot q r ((part_length s spot h).is q s2 is) f))

pub length_refuses : (s : State) (spot : Spot) → StandsAt s spot → (r : Refusal) → AtLength spot r → (s2 : State) × (package_size s ≡ (Err r, s2))
length_refuses s spot h r f = refused_as s spot h (package_size s) refl r f
