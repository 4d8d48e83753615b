-- The bytes of words, one word after the other.
use Rattle.std.proofs.Common.{◌≡◌, ◌∙◌, ◌==◌, ap, refl, sym, subst, true, ℕ, List, [], ◌∷◌, length, Ok, Err, arith}
use Rattle.std.proofs.lemmas.Bool.{eqb-true}
use Rattle.std.specs.Prelude.{IsErr, IsErrAnd}
use Rattle.ar_space.specs.declared.refusal.Refusal.{Refusal}
use Rattle.ar_space.specs.Outcome.{Outcome, Answers, seen, ◌>>=◌}
use Rattle.ar_space.proofs.Outcomes.{answers_ok}
use Rattle.machine_text.specs.MachineText.{word, with_word, bytes_after, all_bytes}
use Rattle.machine_text.proofs.Turns.{taken, stopped}

module _ (n : ℕ) (a w : List ℕ) (us ws : List (List ℕ)) (total : Outcome (List ℕ)) (is : us ≡ w ∷ ws) (so_far : total ≡ bytes_after n a us) where
  turn : total ≡ (with_word n a w >>= (λ all. bytes_after n all ws))
  unfolding bytes_after
  turn = so_far ∙ ap (bytes_after n a) is

  pub bytes_on : (b : List ℕ) → Answers (Ok b) (with_word n a w) → total ≡ bytes_after n b ws
  bytes_on b h = turn ∙ taken (with_word n a w) (λ all. bytes_after n all ws) h

  pub bytes_fail : {A : Type 0} (e : Refusal) (r : Outcome A) (view : A → List ℕ) → Answers (Err e) (with_word n a w) → IsErr r × IsErrAnd r (λ z. z ≡ e) → Answers (seen view r) total
  bytes_fail e r view h i = stopped (with_word n a w) (λ all. bytes_after n all ws) e r view turn h i

pub bytes_done : (n : ℕ) (a : List ℕ) (us : List (List ℕ)) (total : Outcome (List ℕ)) → us ≡ [] → total ≡ bytes_after n a us → Answers (Ok a) total
unfolding bytes_after
bytes_done n a us total is so_far = record { is = λ _. so_far ∙ ap (bytes_after n a) is }

-- the bytes of a word behind which no other stands
module _ (n : ℕ) (us : List (List ℕ)) (w : List ℕ) (ws : List (List ℕ)) (is : Answers (Ok (w, ws)) (word n us)) (none : (length ws == 0) ≡ true) where
  left : (vs : List (List ℕ)) → (length vs == 0) ≡ true → vs ≡ []
  left [] e = refl
  left (v ∷ vs) e = absurd (omega (arith, eqb-true (length (v ∷ vs)) 0 e))

  pub only_word : (r : Outcome (List ℕ)) → Answers r (bytes_after n [] (w ∷ [])) → Answers r (all_bytes n us)
  unfolding all_bytes
  only_word r h = answers_ok (word n us) (λ p. bytes_after n [] (p.0 ∷ p.1)) is (subst (λ vs. Answers r (bytes_after n [] (w ∷ vs))) (sym (left ws none)) h)

  pub only_fails : {A : Type 0} (e : Refusal) (r : Outcome A) (view : A → List ℕ) → Answers (Err e) (bytes_after n [] (w ∷ [])) → IsErr r × IsErrAnd r (λ z. z ≡ e) → Answers (seen view r) (all_bytes n us)
  only_fails e (Ok a) view h i = absurd (cc i.0)
  only_fails e (Err z) view h i = record { is = λ ne. (only_word (Err e) h).is (λ q. ne (i.1 ∙ q)) ∙ ap Err (sym i.1) }
