-- The lines of a text, one after the other.
use Rattle.std.proofs.Common.{◌≡◌, ◌∙◌, ap, refl, ℕ, ◌+◌, ◌<◌, List, [], ◌∷◌, length, ◌==◌, arith, Ok, Err, Some, None}
use Rattle.std.specs.List.{slice_split, before_first}
use Rattle.std.specs.Prelude.{IsErr, IsErrAnd}
use Rattle.ar_space.specs.declared.refusal.Refusal.{Refusal}
use Rattle.ar_space.specs.Outcome.{Outcome, Answers, ◌>>=◌}
use Rattle.route_check.specs.Claims.{RoutingClaim}
use Rattle.text_words.specs.Words.{words, tail_at}
use Rattle.text_words.proofs.Pieces.{split_cut, cut_once, uncut}
use Rattle.route_report.specs.Lines.{lines, without_end}
use Rattle.route_report.specs.declared.version.Version.{Version}
use Rattle.route_report.specs.Reading.{Said, first_said, bad_line, line, heading, claimed, lines_read, all_read, claim_of_text}
use Rattle.route_report.proofs.Turns.{taken, halted, at_last}

pub more_lines : (x xs : List ℕ) → without_end (x ∷ slice_split (λ b. b == 10) xs) ≡ x ∷ lines xs
more_lines x xs = rw (split_cut 10 xs) refl

pub first_of_lines : (t rest : List ℕ) → Some rest ≡ tail_at 10 t → lines t ≡ before_first (λ b. b == 10) t ∷ lines rest
first_of_lines t rest is = ap without_end (cut_once 10 t rest is) ∙ more_lines (before_first (λ b. b == 10) t) rest

last_line : (t : List ℕ) → 0 < length t → without_end (t ∷ []) ≡ t ∷ lines []
last_line [] some = absurd (omega arith)
last_line (b ∷ bs) some = refl

pub only_line : (t : List ℕ) → 0 < length t → None ≡ tail_at 10 t → lines t ≡ t ∷ lines []
only_line t some is = ap without_end (uncut 10 t is) ∙ last_line t some

module _ (n : ℕ) (d : Said) (l : List ℕ) (us ls : List (List ℕ)) (total : Outcome RoutingClaim) (is : us ≡ l ∷ ls) (so_far : total ≡ lines_read n us d) where
  turn : total ≡ (line n (words l) d >>= (λ e. lines_read (n + 1) ls e))
  unfolding lines_read
  turn = so_far ∙ ap (λ xs. lines_read n xs d) is

  pub lines_on : (e : Said) → Answers (Ok e) (line n (words l) d) → total ≡ lines_read (n + 1) ls e
  lines_on e h = turn ∙ taken (line n (words l) d) (λ e. lines_read (n + 1) ls e) h

  pub lines_fail : (e : Refusal) (r : Outcome RoutingClaim) → Answers (Err e) (line n (words l) d) → IsErr r × IsErrAnd r (λ z. z ≡ e) → Answers r total
  lines_fail e r h i = halted (line n (words l) d) (λ e. lines_read (n + 1) ls e) e r turn h i

no_lines : (t : List ℕ) → length t ≡ 0 → lines t ≡ []
no_lines [] none = refl
no_lines (b ∷ bs) none = absurd (omega arith)

pub lines_done : (n : ℕ) (d : Said) (t : List ℕ) (r total : Outcome RoutingClaim) → length t ≡ 0 → total ≡ lines_read n (lines t) d → Answers r (claimed n d) → Answers r total
unfolding lines_read
lines_done n d t r total none so_far h = record { is = λ ne. so_far ∙ ap (λ xs. lines_read n xs d) (no_lines t none) ∙ h.is ne }

-- a text of no lines is refused at its first
pub nothing_read : (t : List ℕ) → length t ≡ 0 → claim_of_text t ≡ bad_line 1
unfolding claim_of_text all_read
nothing_read t none = ap all_read (no_lines t none)

module _ (t l rest : List ℕ) (is : lines t ≡ l ∷ lines rest) where
  begun : claim_of_text t ≡ (heading 1 (words l) >>= (λ v. lines_read 2 (lines rest) (first_said v)))
  unfolding claim_of_text all_read
  begun = ap all_read is

  pub heading_fail : (e : Refusal) (r : Outcome RoutingClaim) → Answers (Err e) (heading 1 (words l)) → IsErr r × IsErrAnd r (λ z. z ≡ e) → Answers r (claim_of_text t)
  heading_fail e r h i = halted (heading 1 (words l)) (λ v. lines_read 2 (lines rest) (first_said v)) e r begun h i

  pub heading_on : (v : Version) (r : Outcome RoutingClaim) → Answers (Ok v) (heading 1 (words l)) → Answers r (lines_read 2 (lines rest) (first_said v)) → Answers r (claim_of_text t)
  heading_on v r h i = at_last (heading 1 (words l)) (λ w. lines_read 2 (lines rest) (first_said w)) r begun h i
