-- How paths are written, and which texts are read as a path.
use Rattle.std.proofs.Common.{◌≡◌, ◌<◌, ℕ, List, [], ◌∷◌, ◌++◌, Bool, true, false, Ok, Err, refl, sym, ap, subst, ◌∙◌, map, length, inl, inr, arith}
use Rattle.std.specs.Prelude.{◌==◌, ◌&&◌, ◌↔◌, ◌⊎◌, codes, if◌then◌else◌, nat_le, nat_lt, slice_index_or}
use Rattle.std.specs.List.{All, AllByRecursion, slice_split, join_with_byte}
use Rattle.std.proofs.lemmas.Bool.{eqb-true, ne_eqb}
use Rattle.std.proofs.lemmas.Bool.Decides.{nat_tests}
use Rattle.std.proofs.lemmas.List.{map-append}
use Rattle.std.proofs.lemmas.List.Elements.{All-cons, All-head, All-nil, All-tail}
use Rattle.std.proofs.lemmas.List.Splits.{slice_split_at, slice_split_none, join_with_byte-slice_split, length-slice_split}
use Rattle.ar_space.specs.declared.refusal.NameFault.TheVariants.{BadName}
use Rattle.ar_space.specs.declared.refusal.Refusal.TheVariants as refusals
use Rattle.ar_space.specs.Outcome.{Outcome, ◌>>=◌}
use Rattle.ar_space.specs.Each.{each}
use Rattle.aml_path.specs.Characters.{is_segment}
use Rattle.aml_path.specs.declared.segment.Seg.{Seg}
use Rattle.aml_path.specs.Segments.{tested, seg_of}
use Rattle.aml_path.specs.Text.{text_of, seg_of_text, segments_of_text, path_of_text}
use Rattle.aml_path.proofs.Joining.{join_more}
use Rattle.aml_path.proofs.Segments.{seg_of_bytes}
use Rattle.aml_spelling.specs.NameSegments.{IsLeadCharacter, IsCharacter, IsNameSegment, four}
use Rattle.aml_spelling.specs.PathTexts.{Shortens, AreDotted, IsPathText}
use Rattle.aml_spelling.proofs.SegmentsNamed.{segment_named}

-- ---- how paths are written

pub root_written : text_of [] ≡ codes "\\"
root_written = refl

pub first_written : (s : Seg) → text_of (s ∷ []) ≡ codes "\\" ++ s.bytes
first_written s = refl

pub below_written : (s : Seg) (path : List Seg) (t : Seg) → text_of ((s ∷ path) ++ t ∷ []) ≡ text_of (s ∷ path) ++ (codes "." ++ t.bytes)
below_written s path t = ap (λ names. 92 ∷ names) (ap (join_with_byte 46) (map-append (λ x. x.bytes) (s ∷ path) (t ∷ [])) ∙ join_more 46 s.bytes (map (λ x. x.bytes) path) t.bytes)

pub example_written : (s t : Seg) → s.bytes ≡ codes "_SB_" → t.bytes ≡ codes "LNKA" → text_of (s ∷ t ∷ []) ≡ codes "\\_SB_.LNKA"
example_written s t first second = rw (first, second) refl

pub ruleset a_path_is_written_with_all_its_characters = (root_written, first_written, below_written, example_written)

-- ---- the text of one segment

abbrev BadText : {A : Type 0} → Outcome A
BadText = Err (refusals.Name BadName)

tested_bytes : (bs : List ℕ) (b : Bool) (is : is_segment bs ≡ b) (s : Seg) → tested bs b is ≡ Ok s → s.bytes ≡ bs
tested_bytes bs true is s h = let same : record { bytes = bs; valid = is } ≡ s = cc h in ap (λ (t : Seg). t.bytes) (sym same)
tested_bytes bs false is s h = absurd (cc h)

segment_bytes : (bs : List ℕ) (s : Seg) → seg_of bs ≡ Ok s → s.bytes ≡ bs
unfolding seg_of
segment_bytes bs s h = tested_bytes bs (is_segment bs) refl s h

either_tested : (bs : List ℕ) (b : Bool) (is : is_segment bs ≡ b) → ((s : Seg) × (tested bs b is ≡ Ok s)) ⊎ (tested bs b is ≡ BadText)
either_tested bs true is = inl (record { bytes = bs; valid = is }, refl)
either_tested bs false is = inr refl

either_segment : (bs : List ℕ) → ((s : Seg) × (seg_of bs ≡ Ok s)) ⊎ (seg_of bs ≡ BadText)
unfolding seg_of
either_segment bs = either_tested bs (is_segment bs) refl

too_long : (x y : Bool) (m : Outcome Seg) → y ≡ false → (if x && y then m else BadText) ≡ BadText
too_long true true m fails = absurd (cc fails)
too_long true false m fails = refl
too_long false y m fails = refl

long_refused : (cs : List ℕ) → 4 < length cs → seg_of_text cs ≡ BadText
unfolding seg_of_text
long_refused cs long =
    too_long (nat_lt 0 (length cs)) (nat_le (length cs) 4) (seg_of (slice_index_or cs 0 95 ∷ slice_index_or cs 1 95 ∷ slice_index_or cs 2 95 ∷ slice_index_or cs 3 95 ∷ [])) (grind (arith, nat_tests))

shortened : (cs : List ℕ) (s : Seg) → seg_of_text cs ≡ Ok s → Shortens cs s
unfolding seg_of_text
shortened [] s h = absurd (cc h)
shortened (a ∷ []) s h = (omega arith, 95 ∷ 95 ∷ 95 ∷ [], segment_bytes (a ∷ 95 ∷ 95 ∷ 95 ∷ []) s h, (refl, (refl, (refl, tt))))
shortened (a ∷ b ∷ []) s h = (omega arith, 95 ∷ 95 ∷ [], segment_bytes (a ∷ b ∷ 95 ∷ 95 ∷ []) s h, (refl, (refl, tt)))
shortened (a ∷ b ∷ c ∷ []) s h = (omega arith, 95 ∷ [], segment_bytes (a ∷ b ∷ c ∷ 95 ∷ []) s h, (refl, tt))
shortened (a ∷ b ∷ c ∷ d ∷ []) s h = (omega arith, [], segment_bytes (a ∷ b ∷ c ∷ d ∷ []) s h, tt)
shortened (a ∷ b ∷ c ∷ d ∷ e ∷ more) s h = absurd (cc (sym (long_refused (a ∷ b ∷ c ∷ d ∷ e ∷ more) (omega arith)) ∙ h))

filled : (cs missing : List ℕ) → 0 < length cs → AllByRecursion (λ b. b ≡ 95) missing → is_segment (cs ++ missing) ≡ true → seg_of_text cs ≡ seg_of (cs ++ missing)
unfolding seg_of_text
filled [] missing some all is = absurd (omega (arith, some))
filled (a ∷ []) [] some all is = absurd (cc is)
filled (a ∷ []) (x ∷ []) some all is = absurd (cc is)
filled (a ∷ []) (x ∷ y ∷ []) some all is = absurd (cc is)
filled (a ∷ []) (x ∷ y ∷ z ∷ []) some all is = rw (all.0, all.1.0, all.1.1.0) refl
filled (a ∷ []) (x ∷ y ∷ z ∷ w ∷ more) some all is = absurd (cc is)
filled (a ∷ b ∷ []) [] some all is = absurd (cc is)
filled (a ∷ b ∷ []) (x ∷ []) some all is = absurd (cc is)
filled (a ∷ b ∷ []) (x ∷ y ∷ []) some all is = rw (all.0, all.1.0) refl
filled (a ∷ b ∷ []) (x ∷ y ∷ z ∷ more) some all is = absurd (cc is)
filled (a ∷ b ∷ c ∷ []) [] some all is = absurd (cc is)
filled (a ∷ b ∷ c ∷ []) (x ∷ []) some all is = rw all.0 refl
filled (a ∷ b ∷ c ∷ []) (x ∷ y ∷ more) some all is = absurd (cc is)
filled (a ∷ b ∷ c ∷ d ∷ []) [] some all is = refl
filled (a ∷ b ∷ c ∷ d ∷ []) (x ∷ more) some all is = absurd (cc is)
filled (a ∷ b ∷ c ∷ d ∷ e ∷ more) missing some all is = absurd (cc is)

shortened_read : (cs : List ℕ) (s : Seg) → Shortens cs s → seg_of_text cs ≡ Ok s
shortened_read cs s (some, missing, is, all) = filled cs missing some all (ap is_segment (sym is) ∙ s.valid) ∙ ap seg_of (sym is) ∙ seg_of_bytes s

picked : (b : Bool) (m : Outcome Seg) → ((s : Seg) × (m ≡ Ok s)) ⊎ (m ≡ BadText) → ((s : Seg) × ((if b then m else BadText) ≡ Ok s)) ⊎ ((if b then m else BadText) ≡ BadText)
picked true m h = h
picked false m h = inr refl

either_text : (cs : List ℕ) → ((s : Seg) × (seg_of_text cs ≡ Ok s)) ⊎ (seg_of_text cs ≡ BadText)
unfolding seg_of_text
either_text cs =
    let bytes : List ℕ = slice_index_or cs 0 95 ∷ slice_index_or cs 1 95 ∷ slice_index_or cs 2 95 ∷ slice_index_or cs 3 95 ∷ [] in
    picked (nat_lt 0 (length cs) && nat_le (length cs) 4) (seg_of bytes) (either_segment bytes)

-- ---- dots

abbrev NoDot : ℕ → Type 0
NoDot b = (b == 46) ≡ false

lead_is_no_dot : IsLeadCharacter 46 → ⊥
lead_is_no_dot (inl h) = omega (arith, h.0)
lead_is_no_dot (inr e) = omega (arith, e)

character_is_no_dot : IsCharacter 46 → ⊥
character_is_no_dot (inl lead) = lead_is_no_dot lead
character_is_no_dot (inr h) = omega (arith, h.0)

lead_no_dot : (b : ℕ) → IsLeadCharacter b → NoDot b
lead_no_dot b h = ne_eqb b 46 (λ e. lead_is_no_dot (subst IsLeadCharacter e h))

character_no_dot : (b : ℕ) → IsCharacter b → NoDot b
character_no_dot b h = ne_eqb b 46 (λ e. character_is_no_dot (subst IsCharacter e h))

segment_no_dot : (bytes : List ℕ) → IsNameSegment bytes → All NoDot bytes
segment_no_dot _ (four a b c d first second third last) =
    All-cons NoDot a (b ∷ c ∷ d ∷ []) (lead_no_dot a first) (All-cons NoDot b (c ∷ d ∷ []) (character_no_dot b second) (All-cons NoDot c (d ∷ []) (character_no_dot c third) (All-cons NoDot d [] (character_no_dot d last) (All-nil NoDot))))

front_no_dot : (front back : List ℕ) → All NoDot (front ++ back) → All NoDot front
front_no_dot [] back h = All-nil NoDot
front_no_dot (b ∷ front) back h = All-cons NoDot b front (All-head NoDot b (front ++ back) h) (front_no_dot front back (All-tail NoDot b (front ++ back) h))

shortened_no_dot : (cs : List ℕ) (s : Seg) → Shortens cs s → All NoDot cs
shortened_no_dot cs s (some, missing, is, all) = front_no_dot cs missing (subst (All NoDot) is (segment_no_dot s.bytes (segment_named s)))

-- ---- segments in turn

abbrev split : List ℕ → List (List ℕ)
split = slice_split (λ b. b == 46)

each_either : (parts : List (List ℕ)) → ((path : List Seg) × (each seg_of_text parts ≡ Ok path)) ⊎ (each seg_of_text parts ≡ BadText)
unfolding each ◌>>=◌
each_either [] = inl ([], refl)
each_either (x ∷ xs) = by (either_text x) (each_either xs)
  where
    by : ((s : Seg) × (seg_of_text x ≡ Ok s)) ⊎ (seg_of_text x ≡ BadText) → ((path : List Seg) × (each seg_of_text xs ≡ Ok path)) ⊎ (each seg_of_text xs ≡ BadText)
        → ((path : List Seg) × (each seg_of_text (x ∷ xs) ≡ Ok path)) ⊎ (each seg_of_text (x ∷ xs) ≡ BadText)
    by (inl one) (inl others) = inl (one.0 ∷ others.0, rw (one.1, others.1) refl)
    by (inl one) (inr refused) = inr (rw (one.1, refused) refl)
    by (inr refused) others = inr (rw refused refl)

both_read : (m : Outcome Seg) (n : Outcome (List Seg)) (path : List Seg) → (m >>= (λ y. n >>= (λ ys. Ok (y ∷ ys)))) ≡ Ok path → (s : Seg) × (others : List Seg) × (path ≡ s ∷ others) × (m ≡ Ok s) × (n ≡ Ok others)
unfolding ◌>>=◌
both_read (Ok s) (Ok others) path h = (s, others, cc h, refl, refl)
both_read (Ok s) (Err e) path h = absurd (cc h)
both_read (Err e) n path h = absurd (cc h)

each_read : (x : List ℕ) (xs : List (List ℕ)) (path : List Seg) → each seg_of_text (x ∷ xs) ≡ Ok path → (s : Seg) × (others : List Seg) × (path ≡ s ∷ others) × (seg_of_text x ≡ Ok s) × (each seg_of_text xs ≡ Ok others)
unfolding each
each_read x xs path h = both_read (seg_of_text x) (each seg_of_text xs) path h

none_read : (path : List Seg) → each seg_of_text [] ≡ Ok path → path ≡ []
unfolding each
none_read path h = cc h

dotted : (x : List ℕ) (xs : List (List ℕ)) (path : List Seg) → each seg_of_text (x ∷ xs) ≡ Ok path → AreDotted (join_with_byte 46 (x ∷ xs)) path
dotted x [] path h =
    let k = each_read x [] path h in
    subst (AreDotted x) (sym (k.2 ∙ ap (λ others. k.0 ∷ others) (none_read k.1 k.4))) (shortened x k.0 k.3)
dotted x (y ∷ ys) path h =
    let k = each_read x (y ∷ ys) path h in
    let l = each_read y ys k.1 k.4 in
    let rest : AreDotted (join_with_byte 46 (y ∷ ys)) (l.0 ∷ l.1) = subst (AreDotted (join_with_byte 46 (y ∷ ys))) l.2 (dotted y ys k.1 k.4) in
    subst (AreDotted (join_with_byte 46 (x ∷ y ∷ ys))) (sym (k.2 ∙ ap (λ others. k.0 ∷ others) l.2)) (x, join_with_byte 46 (y ∷ ys), refl, shortened x k.0 k.3, rest)

dotted_parts : (parts : List (List ℕ)) (path : List Seg) → 0 < length parts → each seg_of_text parts ≡ Ok path → AreDotted (join_with_byte 46 parts) path
dotted_parts [] path some h = absurd (omega (arith, some))
dotted_parts (x ∷ xs) path some h = dotted x xs path h

segments_dotted : (segments : List ℕ) (path : List Seg) → each seg_of_text (split segments) ≡ Ok path → AreDotted segments path
segments_dotted segments path h =
    subst (λ text. AreDotted text path) (join_with_byte-slice_split 46 segments) (dotted_parts (split segments) path (omega (arith, length-slice_split (λ b. b == 46) segments)) h)

one_read : (x : List ℕ) (xs : List (List ℕ)) (s : Seg) (path : List Seg) → seg_of_text x ≡ Ok s → each seg_of_text xs ≡ Ok path → each seg_of_text (x ∷ xs) ≡ Ok (s ∷ path)
unfolding each ◌>>=◌
one_read x xs s path first others = rw (first, others) refl

none_to_read : each seg_of_text [] ≡ Ok []
unfolding each
none_to_read = refl

dotted_read : (text : List ℕ) (s : Seg) (path : List Seg) → AreDotted text (s ∷ path) → each seg_of_text (split text) ≡ Ok (s ∷ path)
dotted_read text s [] h =
    ap (each seg_of_text) (slice_split_none (λ b. b == 46) text (shortened_no_dot text s h)) ∙ one_read text [] s [] (shortened_read text s h) none_to_read
dotted_read text s (t ∷ path) (first, rest, is, one, others) =
    ap (λ bs. each seg_of_text (split bs)) is ∙ ap (each seg_of_text) (slice_split_at (λ b. b == 46) first 46 rest (shortened_no_dot first s one) refl)
    ∙ one_read first (split rest) s (t ∷ path) (shortened_read first s one) (dotted_read rest t path others)

-- ---- texts of paths

after_backslash : (bs : List ℕ) (path : List Seg) → segments_of_text bs ≡ Ok path → IsPathText (92 ∷ bs) path
after_backslash [] [] h = refl
after_backslash [] (s ∷ path) h = absurd (cc h)
after_backslash (b ∷ bs) [] h = absurd (segments_dotted (b ∷ bs) [] h)
after_backslash (b ∷ bs) (s ∷ path) h = (b ∷ bs, refl, segments_dotted (b ∷ bs) (s ∷ path) h)

text_read : (text : List ℕ) (path : List Seg) → path_of_text text ≡ Ok path → IsPathText text path
unfolding path_of_text
text_read [] path h = absurd (cc h)
text_read (b ∷ bs) path h = by (b == 92) refl h
  where
    by : (x : Bool) → (b == 92) ≡ x → (if x then segments_of_text bs else BadText) ≡ Ok path → IsPathText (b ∷ bs) path
    by true is h = subst (λ c. IsPathText (c ∷ bs) path) (sym (eqb-true b 92 is)) (after_backslash bs path h)
    by false is h = absurd (cc h)

-- some segments are no empty text
some_segments : (text : List ℕ) (s : Seg) (path : List Seg) → AreDotted text (s ∷ path) → segments_of_text text ≡ each seg_of_text (split text)
some_segments [] s [] h = absurd (omega (arith, h.0))
some_segments [] s (t ∷ path) (first, rest, is, one, others) = absurd (omega (arith, ap length is, length_more first rest))
  where
    length_more : (first rest : List ℕ) → 0 < length (first ++ 46 ∷ rest)
    length_more [] rest = omega arith
    length_more (b ∷ first) rest = omega arith
some_segments (b ∷ bs) s path h = refl

read_text : (text : List ℕ) (path : List Seg) → IsPathText text path → path_of_text text ≡ Ok path
unfolding path_of_text
read_text text [] h = rw h refl
read_text text (s ∷ path) (segments, is, are) = ap path_of_text is ∙ some_segments segments s path are ∙ dotted_read segments s path are

pub path_read : (text : List ℕ) (path : List Seg) → (path_of_text text ≡ Ok path) ↔ IsPathText text path
path_read text path = (text_read text path, read_text text path)

either_segments : (bs : List ℕ) → ((path : List Seg) × (segments_of_text bs ≡ Ok path)) ⊎ (segments_of_text bs ≡ BadText)
either_segments [] = inl ([], refl)
either_segments (b ∷ bs) = each_either (split (b ∷ bs))

either_path : (text : List ℕ) → ((path : List Seg) × (path_of_text text ≡ Ok path)) ⊎ (path_of_text text ≡ BadText)
unfolding path_of_text
either_path [] = inr refl
either_path (b ∷ bs) = by (b == 92) (either_segments bs)
  where
    by : (x : Bool) → ((path : List Seg) × (segments_of_text bs ≡ Ok path)) ⊎ (segments_of_text bs ≡ BadText)
        → ((path : List Seg) × ((if x then segments_of_text bs else BadText) ≡ Ok path)) ⊎ ((if x then segments_of_text bs else BadText) ≡ BadText)
    by true h = h
    by false h = inr refl

pub other_refused : (text : List ℕ) → ((path : List Seg) → IsPathText text path → ⊥) → path_of_text text ≡ Err (refusals.Name BadName)
other_refused text none = by (either_path text)
  where
    by : ((path : List Seg) × (path_of_text text ≡ Ok path)) ⊎ (path_of_text text ≡ BadText) → path_of_text text ≡ BadText
    by (inl read) = absurd (none read.0 (text_read text read.0 read.1))
    by (inr refused) = refused

pub ruleset a_text_is_read_as_the_path_that_it_writes = (path_read, other_refused)
