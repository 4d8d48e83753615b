-- Words without blanks and line feeds.
use Rattle.std.proofs.Common.{◌≡◌, ◌∙◌, ap, sym, refl, subst, ℕ, zero, suc, ◌+◌, ◌/◌, ◌%◌, ◌≤◌, List, [], ◌∷◌, map, get_or, Bool, true, false, ◌==◌, arith, append_assoc, append-nil, if◌then◌else◌, eqb-true}
use Rattle.std.specs.Prelude.{All, decimal, nat_lt, ◌&&◌}
use Rattle.std.specs.List.{join_with_byte}
use Rattle.std.specs.Fmt.{digits, digits_onto, digit_glyph}
use Rattle.std.proofs.lemmas.List.Elements.{All-nil, All-cons, All-head, All-tail, All-append, All-weaker}
use Rattle.std.proofs.lemmas.List.Splits.{slice_split_none, slice_split_at}
use Rattle.hex.specs.Hex.{encode_with, encode_upper, upper_digits}
use Rattle.aml_path.specs.Characters.{is_lead_name_char, is_name_char, is_segment}
use Rattle.aml_path.specs.declared.segment.Seg.{Seg}
use Rattle.aml_path.specs.Text.{text_of}
use Rattle.text_words.specs.Words.{words}
use Rattle.route_report.specs.Lines.{lines, spaced, joined, text_of_lines, without_end}
use Rattle.route_report.proofs.Texts.{more_lines}

-- neither a blank nor a line feed
abbrev pub is_plain : ℕ → Bool
is_plain b = if b == 32 then false else (if b == 10 then false else true)

abbrev pub Plain : ℕ → Type 0
Plain b = is_plain b ≡ true

abbrev pub PlainWords : List (List ℕ) → Type 0
PlainWords = All (All Plain)

no_blank_by : (b : ℕ) (t : Bool) → (b == 32) ≡ t → Plain b → (b == 32) ≡ false
no_blank_by b true is plain = absurd (cc (sym plain ∙ ap (λ u. if u then false else (if b == 10 then false else true)) is))
no_blank_by b false is plain = is

no_blank : (b : ℕ) → Plain b → (b == 32) ≡ false
no_blank b = no_blank_by b (b == 32) refl

no_end_by : (b : ℕ) (t u : Bool) → (b == 32) ≡ t → (b == 10) ≡ u → Plain b → (b == 10) ≡ false
no_end_by b true u is end plain = absurd (cc (sym plain ∙ ap (λ v. if v then false else (if b == 10 then false else true)) is))
no_end_by b false true is end plain = absurd (cc (sym plain ∙ (ap (λ v. if v then false else (if b == 10 then false else true)) is ∙ ap (λ v. if v then false else true) end)))
no_end_by b false false is end plain = end

no_end : (b : ℕ) → Plain b → (b == 10) ≡ false
no_end b = no_end_by b (b == 32) (b == 10) refl refl

-- a word that is written out
abbrev all_plain : List ℕ → Bool
all_plain [] = true
all_plain (b ∷ bs) = if is_plain b then all_plain bs else false

literal_by : (b : ℕ) (bs : List ℕ) (t : Bool) → is_plain b ≡ t → (all_plain bs ≡ true → All Plain bs) → (if t then all_plain bs else false) ≡ true → All Plain (b ∷ bs)
literal_by b bs true is rest h = All-cons Plain b bs is (rest h)
literal_by b bs false is rest h = absurd (cc h)

pub literal : (bs : List ℕ) → all_plain bs ≡ true → All Plain bs
literal [] h = All-nil Plain
literal (b ∷ bs) h = literal_by b bs (is_plain b) refl (literal bs) h

-- digits
above_by : (c : ℕ) (t u : Bool) → (c == 32) ≡ t → (c == 10) ≡ u → 48 ≤ c → Plain c
above_by c true u is end low = let same = eqb-true c 32 is in absurd (omega arith)
above_by c false true is end low = let same = eqb-true c 10 end in absurd (omega arith)
above_by c false false is end low = ap (λ v. if v then false else (if c == 10 then false else true)) is ∙ ap (λ v. if v then false else true) end

above : (c : ℕ) → 48 ≤ c → Plain c
above c = above_by c (c == 32) (c == 10) refl refl

glyph_by : (d : ℕ) (t : Bool) → Plain (if t then 48 + d else (if false then 55 + d else 87 + d))
glyph_by d true = above (48 + d) (omega arith)
glyph_by d false = above (87 + d) (omega arith)

onto_by : (n : ℕ) (acc rest : List ℕ) (t : Bool) → All Plain acc → All Plain rest → All Plain (if t then acc else rest)
onto_by n acc rest true h k = h
onto_by n acc rest false h k = k

onto_plain : (k n : ℕ) (acc : List ℕ) → All Plain acc → All Plain (digits_onto k 10 false n acc)
onto_plain zero n acc h = h
onto_plain (suc k) n acc h =
    let more = All-cons Plain (digit_glyph false (n % 10)) acc (glyph_by (n % 10) (nat_lt (n % 10) 10)) h in
    onto_by n (digit_glyph false (n % 10) ∷ acc) (digits_onto k 10 false (n / 10) (digit_glyph false (n % 10) ∷ acc)) (n / 10 == 0) more (onto_plain k (n / 10) (digit_glyph false (n % 10) ∷ acc) more)

pub decimal_plain : (n : ℕ) → All Plain (decimal n)
unfolding digits
decimal_plain n = onto_plain 64 n [] (All-nil Plain)

plain_at : (bs : List ℕ) → All Plain bs → (i : ℕ) → Plain (get_or bs i 0)
plain_at [] h i = refl
plain_at (b ∷ bs) h zero = All-head Plain b bs h
plain_at (b ∷ bs) h (suc i) = plain_at bs (All-tail Plain b bs h) i

encoded_plain : (t xs : List ℕ) → All Plain t → All Plain (encode_with t xs)
unfolding encode_with
encoded_plain t [] h = All-nil Plain
encoded_plain t (b ∷ bs) h =
    All-cons Plain (get_or t (b / 16) 0) (get_or t (b % 16) 0 ∷ encode_with t bs) (plain_at t h (b / 16))
    (All-cons Plain (get_or t (b % 16) 0) (encode_with t bs) (plain_at t h (b % 16)) (encoded_plain t bs h))

pub upper_plain : (xs : List ℕ) → All Plain (encode_upper xs)
upper_plain xs = encoded_plain upper_digits xs (literal upper_digits refl)

-- paths
both : (p q : Bool) → (p && q) ≡ true → (p ≡ true) × (q ≡ true)
both true true is = (is, is)
both true false is = absurd (cc is)
both false q is = absurd (cc is)

name_by : (c : ℕ) (t u : Bool) → (c == 32) ≡ t → (c == 10) ≡ u → is_name_char c ≡ true → Plain c
name_by c true u is end d = let bad : is_name_char 32 ≡ true = subst (λ b. is_name_char b ≡ true) (eqb-true c 32 is) d in absurd (cc bad)
name_by c false true is end d = let bad : is_name_char 10 ≡ true = subst (λ b. is_name_char b ≡ true) (eqb-true c 10 end) d in absurd (cc bad)
name_by c false false is end d = ap (λ v. if v then false else (if c == 10 then false else true)) is ∙ ap (λ v. if v then false else true) end

name_plain : (c : ℕ) → is_name_char c ≡ true → Plain c
name_plain c = name_by c (c == 32) (c == 10) refl refl

lead_by : (c : ℕ) (t u : Bool) → (c == 32) ≡ t → (c == 10) ≡ u → is_lead_name_char c ≡ true → Plain c
lead_by c true u is end d = let bad : is_lead_name_char 32 ≡ true = subst (λ b. is_lead_name_char b ≡ true) (eqb-true c 32 is) d in absurd (cc bad)
lead_by c false true is end d = let bad : is_lead_name_char 10 ≡ true = subst (λ b. is_lead_name_char b ≡ true) (eqb-true c 10 end) d in absurd (cc bad)
lead_by c false false is end d = ap (λ v. if v then false else (if c == 10 then false else true)) is ∙ ap (λ v. if v then false else true) end

segment_plain : (bs : List ℕ) → is_segment bs ≡ true → All Plain bs
segment_plain (a ∷ b ∷ c ∷ d ∷ []) is =
    let abc = both (is_lead_name_char a && is_name_char b && is_name_char c) (is_name_char d) is in
    let ab = both (is_lead_name_char a && is_name_char b) (is_name_char c) abc.0 in
    let one = both (is_lead_name_char a) (is_name_char b) ab.0 in
    All-cons Plain a (b ∷ c ∷ d ∷ []) (lead_by a (a == 32) (a == 10) refl refl one.0) (All-cons Plain b (c ∷ d ∷ []) (name_plain b one.1) (All-cons Plain c (d ∷ []) (name_plain c ab.1) (All-cons Plain d [] (name_plain d abc.1) (All-nil Plain))))
segment_plain _ is = absurd (cc is)

segments_plain : (path : List Seg) → All Plain (join_with_byte 46 (map (λ s. s.bytes) path))
segments_plain [] = All-nil Plain
segments_plain (s ∷ []) = segment_plain s.bytes s.valid
segments_plain (s ∷ t ∷ ts) = All-append Plain s.bytes (46 ∷ join_with_byte 46 (map (λ x. x.bytes) (t ∷ ts))) (segment_plain s.bytes s.valid) (All-cons Plain 46 _ refl (segments_plain (t ∷ ts)))

pub path_plain : (path : List Seg) → All Plain (text_of path)
path_plain path = All-cons Plain 92 _ refl (segments_plain path)

-- lines of such words are parted again
pub words_again : (w : List ℕ) (ws : List (List ℕ)) → PlainWords (w ∷ ws) → words (joined (w ∷ ws)) ≡ w ∷ ws
words_again w [] h = ap words (append-nil w) ∙ slice_split_none (λ b. b == 32) w (All-weaker Plain (λ b. (b == 32) ≡ false) no_blank w (All-head (All Plain) w [] h))
words_again w (v ∷ vs) h =
    slice_split_at (λ b. b == 32) w 32 (joined (v ∷ vs)) (All-weaker Plain (λ b. (b == 32) ≡ false) no_blank w (All-head (All Plain) w (v ∷ vs) h)) refl
    ∙ ap (λ rest. w ∷ rest) (words_again v vs (All-tail (All Plain) w (v ∷ vs) h))

abbrev NoEnd : ℕ → Type 0
NoEnd b = (b == 10) ≡ false

spaced_whole : (ws : List (List ℕ)) → PlainWords ws → All NoEnd (spaced ws)
spaced_whole [] h = All-nil NoEnd
spaced_whole (w ∷ ws) h = All-cons NoEnd 32 _ refl (All-append NoEnd w (spaced ws) (All-weaker Plain NoEnd no_end w (All-head (All Plain) w ws h)) (spaced_whole ws (All-tail (All Plain) w ws h)))

joined_whole : (ws : List (List ℕ)) → PlainWords ws → All NoEnd (joined ws)
joined_whole [] h = All-nil NoEnd
joined_whole (w ∷ ws) h = All-append NoEnd w (spaced ws) (All-weaker Plain NoEnd no_end w (All-head (All Plain) w ws h)) (spaced_whole ws (All-tail (All Plain) w ws h))

pub lines_again : (ls : List (List (List ℕ))) → All PlainWords ls → lines (text_of_lines ls) ≡ map joined ls
lines_again [] h = refl
lines_again (l ∷ ls) h =
    ap lines (append_assoc (joined l) (10 ∷ []) (text_of_lines ls))
    ∙ (ap without_end (slice_split_at (λ b. b == 10) (joined l) 10 (text_of_lines ls) (joined_whole l (All-head PlainWords l ls h)) refl)
    ∙ (more_lines (joined l) (text_of_lines ls) ∙ ap (λ rest. joined l ∷ rest) (lines_again ls (All-tail PlainWords l ls h))))
