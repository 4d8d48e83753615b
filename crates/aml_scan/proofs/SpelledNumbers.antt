-- Numbers, texts and packages are read as they are spelled.
use Rattle.std.proofs.Common.{◌≡◌, ℕ, zero, suc, ◌+◌, ◌-◌, ◌/◌, ◌<◌, ◌≤◌, List, [], ◌∷◌, ◌++◌, length, take, drop, Bool, true, false, Ok, Err, refl, subst, ◌∙◌, sym, ap, append_assoc, length-append, length-take, arith}
use Rattle.std.specs.Prelude.{nat_lt, ◌||◌, if◌then◌else◌}
use Rattle.std.specs.List.{AllByRecursion, prefix_len}
use Rattle.std.proofs.lemmas.List.{append-nil, take-append-drop}
use Rattle.std.proofs.lemmas.List.Folds.{length-prefix_len}
use Rattle.std.proofs.lemmas.Bool.{ltb-false, ltb-true}
use Rattle.ar_space.specs.declared.refusal.Refusal.TheVariants as refusals
use Rattle.ar_space.specs.declared.refusal.TermFault.TheVariants.{BadPkgLength}
use Rattle.ar_space.specs.Change.{◌>>=◌}
use Rattle.aml_grammar.specs.State.{State, Step, integer, little_endian, length_of, bit_count, size_after, package_size, enter, narrow, leave, text, text_length}
use Rattle.aml_grammar.specs.Grammar.{packed}
use Rattle.aml_scan.specs.Spelling.{StandFor, IsInteger, IsLength, IsPackage, IsContent}
use Rattle.aml_scan.proofs.Takes.{Takes, Gave, same_value, same_state, refused, both, takes_then, takes_more, takes_known, takes_map, takes_look, takes_byte, takes_bytes}

-- ---- integers

pub stand_for : (bs : List ℕ) → StandFor bs (little_endian bs)
stand_for [] = refl
stand_for (b ∷ bs) = (little_endian bs, refl, stand_for bs)

pub takes_integer : (width : ℕ) (s : State) → Takes (integer width) s (λ n front rest. IsInteger width n front)
unfolding integer
takes_integer width s = takes_map little_endian (takes_bytes width s) (λ bs front rest h. rw h.0 (h.1, stand_for bs))

-- ---- lengths

pub takes_bit_count : (s : State) → Takes bit_count s (λ n front rest. IsLength n front)
unfolding bit_count
takes_bit_count s = takes_then (takes_byte s) (λ lead f s1 h. takes_map (length_of lead) (takes_integer (lead / 64) s1) (λ more g rest i. rw h (i.0, more, i.1, refl)))

size_left : (start spent total : ℕ) (s : State) (short past : Bool) (n : ℕ) (s2 : State) → nat_lt total spent ≡ short → nat_lt (length s.rest) (total - spent) ≡ past
    → Gave (if short || past then (Err (refusals.Term BadPkgLength start), s) else (Ok (total - spent), s)) n s2 → (s.rest ≡ s2.rest) × (n + spent ≡ total) × (n ≤ length s2.rest)
size_left start spent total s true past n s2 a b e = absurd (refused e)
size_left start spent total s false true n s2 a b e = absurd (refused e)
size_left start spent total s false false n s2 a b e =
    let t : s.rest ≡ s2.rest = ap (λ (t : State). t.rest) (same_state e) in
    let v : total - spent ≡ n = same_value e in
    let counted : spent ≤ total = ltb-false total spent a in
    let within : total - spent ≤ length s.rest = ltb-false (length s.rest) (total - spent) b in
    (t, omega arith, rw (← t) (omega arith))

takes_size_after : (start spent total : ℕ) (s : State) → Takes (size_after start spent total) s (λ n front rest. (front ≡ []) × (n + spent ≡ total) × (n ≤ length rest))
unfolding size_after
takes_size_after start spent total s = record {
  is = λ n s2 e. let t = size_left start spent total s (nat_lt total spent) (nat_lt (length s.rest) (total - spent)) n s2 refl refl e in ([], t.0, (refl, t.1, t.2));
}

counted_whole : (more : List ℕ) (n k total : ℕ) → length more ≡ k → n + (k + 1) ≡ total → suc (length more) + n ≡ total
counted_whole more n k total e f = omega arith

takes_package_size : (s : State) → Takes package_size s (λ n front rest. IsLength (length front + n) front × (n ≤ length rest))
unfolding package_size
takes_package_size s = takes_look (λ s. s.at) _ (takes_then (takes_byte s) (λ lead f s1 h. takes_then (takes_integer (lead / 64) s1) (λ more g s2 i.
    takes_more (takes_size_after s.at (lead / 64 + 1) (length_of lead more) s2) (λ n l rest j.
    rw (h, j.0, append-nil) ((i.0, more, i.1, counted_whole g n (lead / 64) (length_of lead more) i.0 j.1), j.2)))))

-- ---- packages

package_whole : {bs : List ℕ} (len inside f left : List ℕ) (n : ℕ) → bs ≡ len ++ inside → take n inside ≡ f → drop n inside ≡ left → n ≤ length inside → IsLength (length len + n) len → (bs ≡ (len ++ f) ++ left) × IsPackage f (len ++ f)
package_whole len inside f left n whole front back within size =
    let counted : length (len ++ f) ≡ length len + n = rw (← front, length-append) (ap (λ k. length len + k) (omega (arith, length-take n inside))) in
    (whole ∙ ap (λ l. len ++ l) (sym (take-append-drop n inside)) ∙ rw (front, back) (sym (append_assoc len f _)), (len, refl, rw counted size))

package_taken : {A : Type 0} {x a : A} (R : A → List ℕ → Type 0) (s s0 s1 s3 s2 : State) (n : ℕ) (outer : ℕ × List ℕ) → Gave (narrow n s0) outer s1 → Gave (leave outer x s3) a s2
    → (len : List ℕ) → s.rest ≡ len ++ s0.rest → IsLength (length len + n) len → n ≤ length s0.rest → (f : List ℕ) → s1.rest ≡ f ++ s3.rest → R x f → s3.rest ≡ []
    → (front : List ℕ) × (s.rest ≡ front ++ s2.rest) × ((content : List ℕ) × IsPackage content front × R a content)
package_taken R s s0 s1 s3 s2 n outer into out len whole size within f inside made over =
    let front : take n s0.rest ≡ f = ap (λ (t : State). t.rest) (same_state into) ∙ inside ∙ rw (over, append-nil) refl in
    let back : drop n s0.rest ≡ s2.rest = ap (λ (o : ℕ × List ℕ). o.1) (same_value into) ∙ ap (λ (t : State). t.rest) (same_state out) in
    let all = package_whole len s0.rest f s2.rest n whole front back within size in
    (len ++ f, all.0, (f, all.1, subst (λ y. R y f) (same_value out) made))

-- what is read in a package whose end it reaches
takes_packed : {A : Type 0} {R : A → List ℕ → Type 0} (m : Step A) (s : State) → ((s1 : State) → Takes m s1 (λ a front rest. R a front × (rest ≡ []))) → Takes (packed true m) s (λ a front rest. (content : List ℕ) × IsPackage content front × R a content)
unfolding enter
takes_packed {R = R} m s h = record {
  is = λ a s2 e.
      let p = both enter (λ outer. m >>= (λ x. leave outer x)) s a s2 e in
      let q = both package_size (λ n. narrow n) s p.0 p.1 p.2 in
      let r = both m (λ x. leave p.0 x) p.1 a s2 p.3 in
      let size = (takes_package_size s).is q.0 q.1 q.2 in
      let inside = (h p.1).is r.0 r.1 r.2 in
      package_taken R s q.1 p.1 r.1 s2 q.0 p.0 q.3 r.3 size.0 size.1 size.2.0 size.2.1 inside.0 inside.1 inside.2.0 inside.2.1;
}

-- the same, or what isn't in a package
pub takes_content : {A : Type 0} {R : A → List ℕ → Type 0} (b : Bool) (m : Step A) (s : State) → ((s1 : State) → Takes m s1 (λ a front rest. R a front × (b ≡ true → rest ≡ []))) → Takes (packed b m) s (λ a front rest. (content : List ℕ) × IsContent b content front × R a content)
takes_content true m s h = takes_packed m s (λ s1. takes_more (h s1) (λ a front rest i. (i.0, i.1 refl)))
takes_content false m s h = takes_more (h s) (λ a front rest i. (front, refl, i.0))

-- ---- texts

text_ends : (n b : ℕ) (bs rest : List ℕ) → ((m : ℕ) → m ≡ prefix_len (λ b. nat_lt 0 b) (bs ++ rest) → length bs ≡ m + 1 → (bs ≡ take m bs ++ 0 ∷ []) × AllByRecursion (λ b. 0 < b) (take m bs)) → (t : Bool) → nat_lt 0 b ≡ t
    → n ≡ (if t then 1 + prefix_len (λ b. nat_lt 0 b) (bs ++ rest) else 0) → length bs ≡ n → (b ∷ bs ≡ take n (b ∷ bs) ++ 0 ∷ []) × AllByRecursion (λ b. 0 < b) (take n (b ∷ bs))
text_ends zero b bs rest ih true is e len = absurd (omega (arith, e))
text_ends (suc n) b bs rest ih true is e len = let k = ih n (omega arith) (omega arith) in (ap (λ l. b ∷ l) k.0, (ltb-true 0 b is, k.1))
text_ends (suc n) b bs rest ih false is e len = absurd (omega (arith, e))
text_ends zero b [] rest ih false is e len = let none : b ≡ 0 = omega (arith, ltb-false 0 b is) in (rw none refl, tt)
text_ends zero b (c ∷ bs) rest ih false is e len = absurd (omega (arith, len))

text_is : (bs rest : List ℕ) (n : ℕ) → n ≡ prefix_len (λ b. nat_lt 0 b) (bs ++ rest) → length bs ≡ n + 1 → (bs ≡ take n bs ++ 0 ∷ []) × AllByRecursion (λ b. 0 < b) (take n bs)
text_is [] rest n e len = absurd (omega (arith, len))
text_is (b ∷ bs) rest n e len = text_ends n b bs rest (text_is bs rest) (nat_lt 0 b) refl e (omega (arith, len))

pub takes_text : (s : State) → Takes text s (λ bs front rest. (front ≡ bs ++ 0 ∷ []) × AllByRecursion (λ b. 0 < b) bs)
unfolding text
takes_text s = takes_look (λ s. text_length s.rest) _ (takes_map (λ bs. take (text_length s.rest) bs) (takes_known (takes_bytes (text_length s.rest + 1) s)) (λ bs front rest h.
    let all : s.rest ≡ bs ++ rest = rw (← h.1.0) h.0 in
    let counted : text_length s.rest ≡ prefix_len (λ b. nat_lt 0 b) (bs ++ rest) = length-prefix_len (λ b. nat_lt 0 b) s.rest ∙ ap (λ l. prefix_len (λ b. nat_lt 0 b) l) all in
    rw h.1.0 (text_is bs rest (text_length s.rest) counted h.1.1)))
