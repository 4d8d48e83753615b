-- Where a part that holds no terms is refused, its fault stands there.
use Rattle.std.proofs.Common.{◌≡◌, ℕ, zero, suc, ◌+◌, ◌-◌, ◌/◌, ◌<◌, List, [], ◌∷◌, ◌++◌, length, Bool, true, false, Ok, Err, refl, ◌∙◌, sym, ap, inl, inr, length-append, arith}
use Rattle.std.specs.Prelude.{◌==◌, nat_lt, ◌||◌, if◌then◌else◌, ◌⊎◌}
use Rattle.std.specs.List.{AllByRecursion, prefix_len}
use Rattle.std.proofs.lemmas.Bool.{ltb-true, eqb-true}
use Rattle.std.proofs.lemmas.List.Folds.{length-prefix_len}
use Rattle.ar_space.specs.declared.refusal.Refusal.{Refusal}
use Rattle.ar_space.specs.declared.refusal.Refusal.TheVariants as refusals
use Rattle.ar_space.specs.declared.refusal.TermFault.TheVariants.{Truncated, BadPkgLength}
use Rattle.aml_grammar.specs.State.{State, byte, byte_of, integer, little_endian, length_of, bit_count, size_after, package_size, text, text_length}
use Rattle.aml_grammar.specs.Grammar.{opcode}
use Rattle.aml_scan.specs.Spelling.{IsLength}
use Rattle.aml_scan.proofs.SpelledNumbers.{stand_for, takes_integer}
use Rattle.aml_scan.proofs.Takes.{refused, same_value, same_state}
use Rattle.aml_spelling.specs.Faults.{Spot, Sort, Short, IsNumber, IsCount, IsText, IsSomeCode, AtPart, AtLength}
use Rattle.aml_spelling.proofs.Halts.{Halts, Missing, Stopped, same_refusal, went_on, halts_then, halts_give, halts_if, halts_map, halts_more, halts_look, halts_byte, halts_bytes}

-- reading stands at this place
abbrev pub StandsAt : State → Spot → Type 0
StandsAt s spot = (s.at ≡ spot.at) × (s.rest ≡ spot.rest)

pub at_short : (Is : Sort) (spot : Spot) (r : Refusal) (offset : ℕ) → r ≡ refusals.Term Truncated offset → offset ≡ spot.at + length spot.rest → Short Is spot.rest → AtPart Is spot r
at_short Is spot r offset e f h = rw e (h, f)

zeros : ℕ → List ℕ
zeros zero = []
zeros (suc n) = 0 ∷ zeros n

length_zeros : (n : ℕ) → length (zeros n) ≡ n
unfolding zeros
length_zeros zero = refl
length_zeros (suc n) = ap suc (length_zeros n)

-- fewer bytes than a number has begin one
filled : (n : ℕ) (bs : List ℕ) → length bs < n → length (bs ++ 0 ∷ zeros (n - suc (length bs))) ≡ n
filled n bs less =
    let a : length (bs ++ 0 ∷ zeros (n - suc (length bs))) ≡ length bs + suc (length (zeros (n - suc (length bs)))) = length-append bs (0 ∷ zeros (n - suc (length bs))) in
    let b : length (zeros (n - suc (length bs))) ≡ n - suc (length bs) = length_zeros (n - suc (length bs)) in
    omega (arith, a, b, less)

pub short_number : (n : ℕ) (bs : List ℕ) → length bs < n → Short (IsNumber n) bs
short_number n bs less = (0, zeros (n - suc (length bs)), (little_endian (bs ++ 0 ∷ zeros (n - suc (length bs))), (filled n bs less, stand_for (bs ++ 0 ∷ zeros (n - suc (length bs))))))

pub part_number : (n : ℕ) (s : State) (spot : Spot) → StandsAt s spot → Halts (integer n) s (AtPart (IsNumber n) spot)
unfolding integer
part_number n s spot h = halts_map little_endian (halts_more (halts_bytes n s) (λ r m. at_short (IsNumber n) spot r (s.at + length s.rest) m.0 (rw (h.0, h.1) refl) (rw (← h.1) (short_number n s.rest m.1))))

-- the lead byte of a length, and too few after it
short_count : (lead : ℕ) (bs : List ℕ) → length bs < lead / 64 → Short IsCount (lead ∷ bs)
short_count lead bs less =
    let k = short_number (lead / 64) bs less in
    (k.0, k.1, (length_of lead k.2.0, (k.2.1.0, k.2.0, k.2.1.1, refl)))

no_count : Short IsCount []
no_count = (0, [], (0, (refl, 0, refl, refl)))

pub at_end : (s : State) (spot : Spot) → StandsAt s spot → s.rest ≡ [] → s.at ≡ spot.at + length spot.rest
at_end s spot h e = let n : length s.rest ≡ 0 = ap (λ (l : List ℕ). length l) e in let m : length spot.rest ≡ length s.rest = ap (λ (l : List ℕ). length l) (sym h.1) in omega (arith, n, m, h.0)

part_lead : (s : State) (spot : Spot) → StandsAt s spot → (r : Refusal) → (r ≡ refusals.Term Truncated s.at) × (s.rest ≡ []) → AtPart IsCount spot r
part_lead s spot h r m = at_short IsCount spot r s.at m.0 (at_end s spot h m.1) (rw (← h.1, m.1) no_count)

part_more : (lead : ℕ) (s s1 : State) (spot : Spot) → StandsAt s spot → s.rest ≡ lead ∷ s1.rest → s1.at ≡ s.at + 1 → (r : Refusal) → Missing (lead / 64) s1 r → AtPart IsCount spot r
part_more lead s s1 spot h e f r m =
    let n : length spot.rest ≡ suc (length s1.rest) = ap (λ (l : List ℕ). length l) (sym h.1 ∙ e) in
    at_short IsCount spot r (s1.at + length s1.rest) m.0 (omega (arith, n, f, h.0)) (rw (← h.1, e) (short_count lead s1.rest m.1))

-- behind a byte
byte_past : (bs : List ℕ) (s : State) (b : ℕ) (s1 : State) → s.rest ≡ bs → byte_of bs s ≡ (Ok b, s1) → (s.rest ≡ b ∷ s1.rest) × (s1.at ≡ s.at + 1)
byte_past [] s b s1 is e = absurd (refused e)
byte_past (c ∷ bs) s b s1 is e = (is ∙ rw (same_value e) (ap (λ (l : List ℕ). b ∷ l) (ap (λ (t : State). t.rest) (same_state e))), sym (ap (λ (t : State). t.at) (same_state e)))

pub one_past : (s : State) (b : ℕ) (s1 : State) → byte s ≡ (Ok b, s1) → (s.rest ≡ b ∷ s1.rest) × (s1.at ≡ s.at + 1)
unfolding byte
one_past s b s1 e = byte_past s.rest s b s1 refl e

pub part_count : (s : State) (spot : Spot) → StandsAt s spot → Halts bit_count s (AtPart IsCount spot)
unfolding bit_count integer
part_count s spot h = halts_then (halts_more (halts_byte s) (part_lead s spot h)) (λ lead s1 e.
    let p = one_past s lead s1 e in
    halts_map (length_of lead) (halts_map little_endian (halts_more (halts_bytes (lead / 64) s1) (part_more lead s s1 spot h p.0 p.1))))

-- ---- package lengths

size_fails : (start spent total : ℕ) (s : State) (short past : Bool) (r : Refusal) (s2 : State) → nat_lt total spent ≡ short → nat_lt (length s.rest) (total - spent) ≡ past
    → Stopped {A = ℕ} (if short || past then (Err (refusals.Term BadPkgLength start), s) else (Ok (total - spent), s)) r s2 → (r ≡ refusals.Term BadPkgLength start) × ((total < spent) ⊎ (length s.rest < total - spent))
size_fails start spent total s true past r s2 a b e = (sym (same_refusal e), inl (ltb-true total spent a))
size_fails start spent total s false true r s2 a b e = (sym (same_refusal e), inr (ltb-true (length s.rest) (total - spent) b))
size_fails start spent total s false false r s2 a b e = absurd (went_on e)

halts_size : (start spent total : ℕ) (s : State) → Halts (size_after start spent total) s (λ r. (r ≡ refusals.Term BadPkgLength start) × ((total < spent) ⊎ (length s.rest < total - spent)))
unfolding size_after
halts_size start spent total s = record { is = λ r s2 e. size_fails start spent total s (nat_lt total spent) (nat_lt (length s.rest) (total - spent)) r s2 refl refl e }

count_length : (spot : Spot) (r : Refusal) → AtPart IsCount spot r → AtLength spot r
count_length spot (refusals.Term BadPkgLength offset) h = absurd h
count_length spot r h = h

outside : (n spent l m : ℕ) → m ≡ spent + l → (n < spent) ⊎ (l < n - spent) → (n < spent) ⊎ (m < n)
outside n spent l m e (inl a) = inl a
outside n spent l m e (inr b) = inr (omega (arith, e, b))

one_more : (n : ℕ) → suc n ≡ n + 1
one_more n = omega arith

at_length : (start lead : ℕ) (more rest : List ℕ) (total : ℕ) (spot : Spot) (r : Refusal) → start ≡ spot.at → spot.rest ≡ lead ∷ (more ++ rest) → IsLength total (lead ∷ more) → r ≡ refusals.Term BadPkgLength start → (total < lead / 64 + 1) ⊎ (length rest < total - (lead / 64 + 1)) → AtLength spot r
at_length start lead more rest total spot r here is len e h =
    let n : length spot.rest ≡ suc (length (more ++ rest)) = ap (λ (l : List ℕ). length l) is in
    let m : length (more ++ rest) ≡ length more + length rest = length-append more rest in
    let c : length more ≡ lead / 64 = len.0 in
    let w : length spot.rest ≡ (lead / 64 + 1) + length rest = omega (arith, n, m, c) in
    rw e (total, lead ∷ more, rest, is, len, rw (ap suc c ∙ one_more (lead / 64)) (outside total (lead / 64 + 1) (length rest) (length spot.rest) w h), here)

pub part_length : (s : State) (spot : Spot) → StandsAt s spot → Halts package_size s (AtLength spot)
unfolding package_size integer
part_length s spot h = halts_look (λ s. s.at) _ (halts_then (halts_more (halts_byte s) (λ r m. count_length spot r (part_lead s spot h r m))) (λ lead s1 e.
    let p = one_past s lead s1 e in
    halts_then (halts_map little_endian (halts_more (halts_bytes (lead / 64) s1) (λ r m. count_length spot r (part_more lead s s1 spot h p.0 p.1 r m)))) (λ more s2 f.
    let t = (takes_integer (lead / 64) s1).is more s2 f in
    halts_more (halts_size s.at (lead / 64 + 1) (length_of lead more) s2) (λ r m.
    at_length s.at lead t.0 s2.rest (length_of lead more) spot r h.0 (sym h.1 ∙ p.0 ∙ ap (λ (l : List ℕ). lead ∷ l) t.1) (t.2.0, more, t.2.1, refl) m.0 m.1))))

-- ---- texts

no_zero : (b : ℕ) (bs : List ℕ) → (length bs < prefix_len (λ b. nat_lt 0 b) bs + 1 → AllByRecursion (λ b. 0 < b) bs) → (t : Bool) → nat_lt 0 b ≡ t → suc (length bs) < (if t then 1 + prefix_len (λ b. nat_lt 0 b) bs else 0) + 1 → AllByRecursion (λ b. 0 < b) (b ∷ bs)
no_zero b bs ih true is less = (ltb-true 0 b is, ih (omega (arith, less)))
no_zero b bs ih false is less = absurd (omega (arith, less))

all_above : (bs : List ℕ) → length bs < prefix_len (λ b. nat_lt 0 b) bs + 1 → AllByRecursion (λ b. 0 < b) bs
all_above [] less = tt
all_above (b ∷ bs) less = no_zero b bs (all_above bs) (nat_lt 0 b) refl less

short_text : (bs : List ℕ) → length bs < text_length bs + 1 → Short IsText bs
short_text bs less =
    let counted : text_length bs ≡ prefix_len (λ b. nat_lt 0 b) bs = length-prefix_len (λ b. nat_lt 0 b) bs in
    (0, [], (bs, refl, all_above bs (omega (arith, less, counted))))

pub part_text : (s : State) (spot : Spot) → StandsAt s spot → Halts text s (AtPart IsText spot)
unfolding text
part_text s spot h = halts_look (λ s. text_length s.rest) _ (halts_map _ (halts_more (halts_bytes (text_length s.rest + 1) s) (λ r m.
    at_short IsText spot r (s.at + length s.rest) m.0 (rw (h.0, h.1) refl) (rw (← h.1) (short_text s.rest m.1)))))

-- ---- codes

no_code : Short IsSomeCode []
no_code = (0, [], (0, (refl, λ e. absurd (omega (arith, e)))))

half_code : (b : ℕ) (bs : List ℕ) → b ≡ 0x5B → bs ≡ [] → Short IsSomeCode (b ∷ bs)
half_code b bs e f = rw f (0, [], (0x5B00, (e, refl)))

pub first_missing : (s : State) (spot : Spot) → StandsAt s spot → (r : Refusal) → (r ≡ refusals.Term Truncated s.at) × (s.rest ≡ []) → AtPart IsSomeCode spot r
first_missing s spot h r m = at_short IsSomeCode spot r s.at m.0 (at_end s spot h m.1) (rw (← h.1, m.1) no_code)

second_missing : (b : ℕ) (s s1 : State) (spot : Spot) → StandsAt s spot → s.rest ≡ b ∷ s1.rest → s1.at ≡ s.at + 1 → b ≡ 0x5B → (r : Refusal) → (r ≡ refusals.Term Truncated s1.at) × (s1.rest ≡ []) → AtPart IsSomeCode spot r
second_missing b s s1 spot h e f is r m =
    let n : length spot.rest ≡ suc (length s1.rest) = ap (λ (l : List ℕ). length l) (sym h.1 ∙ e) in
    let z : length s1.rest ≡ 0 = ap (λ (l : List ℕ). length l) m.1 in
    at_short IsSomeCode spot r s1.at m.0 (omega (arith, n, z, f, h.0)) (rw (← h.1, e) (half_code b s1.rest is m.1))

pub part_code : (s : State) (spot : Spot) → StandsAt s spot → Halts opcode s (AtPart IsSomeCode spot)
unfolding opcode
part_code s spot h = halts_then (halts_more (halts_byte s) (first_missing s spot h)) (λ b s1 e.
    let p = one_past s b s1 e in
    halts_if (b == 0x5B) (λ is. halts_map _ (halts_more (halts_byte s1) (second_missing b s s1 spot h p.0 p.1 (eqb-true b 0x5B is)))) (λ _. halts_give b))
