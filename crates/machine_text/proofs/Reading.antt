-- The lines of a text, one after the other.
use Rattle.std.proofs.Common.{◌≡◌, ◌∙◌, ap, refl, ℕ, suc, ◌+◌, ◌<◌, List, [], ◌∷◌, length, false, ◌==◌, arith, Ok, Err, Some, None}
use Rattle.std.specs.Prelude.{IsErr, IsErrAnd}
use Rattle.std.specs.List.{slice_split, before_first}
use Rattle.std.specs.Str.Lines.{lines, lines_of_parts, strip_carriage_return}
use Rattle.ar_space.specs.declared.refusal.Refusal.{Refusal}
use Rattle.ar_space.specs.Outcome.{Outcome, Answers, seen, ◌>>=◌}
use Rattle.text_words.specs.Words.{tail_at}
use Rattle.text_words.proofs.Pieces.{split_cut, cut_once, uncut}
use Rattle.machine_text.specs.declared.draft.Draft.{Draft}
use Rattle.machine_text.specs.MachineText.{line, lines_read}
use Rattle.machine_text.proofs.Turns.{taken, stopped}

module _ (n : ℕ) (d : Draft) (l : List ℕ) (us ls : List (List ℕ)) (total : Outcome Draft) (is : us ≡ l ∷ ls) (so_far : total ≡ lines_read n us d) where
  turn : total ≡ (line n l d >>= (λ e. lines_read (n + 1) ls e))
  unfolding lines_read
  turn = so_far ∙ ap (λ xs. lines_read n xs d) is

  pub lines_on : (e : Draft) → Answers (Ok e) (line n l d) → total ≡ lines_read (n + 1) ls e
  lines_on e h = turn ∙ taken (line n l d) (λ e. lines_read (n + 1) ls e) h

  pub lines_fail : {A : Type 0} (e : Refusal) (r : Outcome A) (view : A → Draft) → Answers (Err e) (line n l d) → IsErr r × IsErrAnd r (λ z. z ≡ e) → Answers (seen view r) total
  lines_fail e r view h i = stopped (line n l d) (λ e. lines_read (n + 1) ls e) e r view turn h i

no_lines : (t : List ℕ) → length t ≡ 0 → lines t ≡ []
no_lines [] none = refl
no_lines (b ∷ bs) none = absurd (omega arith)

pub lines_done : (n : ℕ) (d : Draft) (t : List ℕ) (total : Outcome Draft) → length t ≡ 0 → total ≡ lines_read n (lines t) d → Answers (Ok d) total
unfolding lines_read
lines_done n d t total none so_far = record { is = λ _. so_far ∙ ap (λ xs. lines_read n xs d) (no_lines t none) }

more_lines : (x xs : List ℕ) → lines_of_parts (x ∷ slice_split (λ b. b == 10) xs) ≡ strip_carriage_return x ∷ lines xs
more_lines x xs = rw (split_cut 10 xs) refl

pub first_of_lines : (t rest : List ℕ) → Some rest ≡ tail_at 10 t → lines t ≡ strip_carriage_return (before_first (λ b. b == 10) t) ∷ lines rest
first_of_lines t rest is = ap lines_of_parts (cut_once 10 t rest is) ∙ more_lines (before_first (λ b. b == 10) t) rest

last_line : (t : List ℕ) → 0 < length t → lines_of_parts (t ∷ []) ≡ t ∷ lines []
last_line [] some = absurd (omega arith)
last_line (b ∷ bs) some = rw (never_empty (length bs)) refl
  where
    never_empty : (n : ℕ) → (suc n == 0) ≡ false
    never_empty n = grind arith

pub only_line : (t : List ℕ) → 0 < length t → None ≡ tail_at 10 t → lines t ≡ t ∷ lines []
only_line t some is = ap lines_of_parts (uncut 10 t is) ∙ last_line t some
