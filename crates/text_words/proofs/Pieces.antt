-- The pieces between the bytes of a kind.
use Rattle.std.proofs.Common.{◌≡◌, ℕ, suc, ◌+◌, ◌≤◌, List, [], ◌∷◌, length, refl, sym, ap, ◌∙◌, arith, Bool, true, false, ◌==◌, inl, inr, Option, Some, None}
use Rattle.std.proofs.lemmas.Bool.{lt-ltb, le-ltb, cases_lt}
use Rattle.std.proofs.lemmas.List.{take_all}
use Rattle.std.proofs.lemmas.List.Splits.{slice_split_first}
use Rattle.std.specs.List.{slice_split, before_first, after_first, position_or_len}
use Rattle.text_words.specs.Words.{words, words_left, tail_at, tail_of}

none_one : (p : ℕ → Bool) (x : ℕ) (xs : List ℕ) (b : Bool) → p x ≡ b → (length xs ≤ position_or_len p xs → slice_split p xs ≡ xs ∷ [])
    → length (x ∷ xs) ≤ position_or_len p (x ∷ xs) → slice_split p (x ∷ xs) ≡ (x ∷ xs) ∷ []
none_one p x xs true is inner le =
    let bad : suc (length xs) ≤ 0 = rw is at le in
    absurd (omega arith)
none_one p x xs false is inner le =
    let less : suc (length xs) ≤ 1 + position_or_len p xs = rw is at le in
    let rest : slice_split p xs ≡ xs ∷ [] = inner (omega arith) in
    rw (is, rest) refl

none_left : (p : ℕ → Bool) (xs : List ℕ) → length xs ≤ position_or_len p xs → slice_split p xs ≡ xs ∷ []
none_left p [] le = refl
none_left p (x ∷ xs) le = none_one p x xs (p x) refl (none_left p xs) le

-- the pieces between such bytes, none where no such byte stood before them
abbrev pub pieces_left : ℕ → Option (List ℕ) → List (List ℕ)
pieces_left byte None = []
pieces_left byte (Some text) = slice_split (λ b. b == byte) text

pub split_cut : (byte : ℕ) (t : List ℕ) → slice_split (λ b. b == byte) t ≡ before_first (λ b. b == byte) t ∷ pieces_left byte (tail_at byte t)
split_cut byte t = elim (cases_lt (position_or_len (λ b. b == byte) t) (length t)) [
  | inl lt ↦ rw (lt-ltb _ _ lt) (slice_split_first (λ b. b == byte) t 0 lt)
  | inr le ↦ rw (le-ltb _ _ le) (none_left (λ b. b == byte) t le ∙ ap (λ u. u ∷ []) (sym (take_all _ t le)))
]

-- such a byte stands between the first piece and the others
pub cut_once : (byte : ℕ) (t rest : List ℕ) → Some rest ≡ tail_at byte t → slice_split (λ b. b == byte) t ≡ before_first (λ b. b == byte) t ∷ slice_split (λ b. b == byte) rest
cut_once byte t rest is = split_cut byte t ∙ ap (λ o. before_first (λ b. b == byte) t ∷ pieces_left byte o) (sym is)

-- there is no such byte
pub uncut : (byte : ℕ) (t : List ℕ) → None ≡ tail_at byte t → slice_split (λ b. b == byte) t ≡ t ∷ []
uncut byte t is = elim (cases_lt (position_or_len (λ b. b == byte) t) (length t)) [
  | inl lt ↦ let other : None ≡ Some (after_first (λ b. b == byte) t) = rw (lt-ltb _ _ lt) at is in absurd (cc other)
  | inr le ↦ none_left (λ b. b == byte) t le
]

left_same : (o : Option (List ℕ)) → pieces_left 32 o ≡ words_left o
left_same None = refl
left_same (Some t) = refl

pub words_cut : (t : List ℕ) → words t ≡ before_first (λ b. b == 32) t ∷ words_left (tail_of t)
words_cut t = split_cut 32 t ∙ ap (λ ws. before_first (λ b. b == 32) t ∷ ws) (left_same (tail_of t))

pub not_ended : (t : List ℕ) → (length (words t) == 0) ≡ false
not_ended t = ap (λ (ws : List (List ℕ)). length ws == 0) (words_cut t) ∙ never_empty (length (words_left (tail_of t)))
  where
    never_empty : (n : ℕ) → (suc n == 0) ≡ false
    never_empty n = grind arith
