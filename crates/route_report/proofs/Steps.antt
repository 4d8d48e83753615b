-- Words that are read one after the other.
use Rattle.std.proofs.Common.{◌≡◌, ◌∙◌, ap, sym, refl, ℕ, suc, ◌-◌, ◌<◌, length, get_or, arith, List, [], ◌∷◌, true, false, Ok, Err, if◌then◌else◌}
use Rattle.std.specs.Prelude.{IsErr, IsErrAnd, nat_lt}
use Rattle.std.specs.Str.{bytes_eq}
use Rattle.ar_space.specs.declared.refusal.Refusal.{Refusal}
use Rattle.ar_space.specs.Outcome.{Outcome, Answers, seen, ◌>>=◌}
use Rattle.route_report.specs.Reading.{ascends, bad_line, until, with_number, numbers_after, with_next, ascending_after}
use Rattle.route_report.proofs.Turns.{taken, stopped}

module _ {A : Type 0} (n : ℕ) (key : List ℕ) (step : List A → List ℕ → Outcome (List A)) (xs : List A) (w : List ℕ) (us ws : List (List ℕ)) (total : Outcome (List A × List (List ℕ))) (is : us ≡ w ∷ ws) (so_far : total ≡ until n key step xs us) where
  turn : total ≡ (if bytes_eq w key then Ok (xs, ws) else (step xs w >>= (λ more. until n key step more ws)))
  unfolding until
  turn = so_far ∙ ap (until n key step xs) is

  pub until_key : bytes_eq w key ≡ true → total ≡ Ok (xs, ws)
  until_key same = turn ∙ ap (λ b. if b then Ok (xs, ws) else (step xs w >>= (λ more. until n key step more ws))) same

  next : bytes_eq w key ≡ false → total ≡ (step xs w >>= (λ more. until n key step more ws))
  next other = turn ∙ ap (λ b. if b then Ok (xs, ws) else (step xs w >>= (λ more. until n key step more ws))) other

  pub until_on : (ys : List A) → bytes_eq w key ≡ false → Answers (Ok ys) (step xs w) → total ≡ until n key step ys ws
  until_on ys other h = next other ∙ taken (step xs w) (λ more. until n key step more ws) h

  pub until_fail : {B : Type 0} (e : Refusal) (r : Outcome B) (view : B → List A × List (List ℕ)) → bytes_eq w key ≡ false → Answers (Err e) (step xs w) → IsErr r × IsErrAnd r (λ z. z ≡ e) → Answers (seen view r) total
  until_fail e r view other h i = stopped (step xs w) (λ more. until n key step more ws) e r view (next other) h i

pub until_none : {A : Type 0} (n : ℕ) (key : List ℕ) (step : List A → List ℕ → Outcome (List A)) (xs : List A) (us : List (List ℕ)) (total : Outcome (List A × List (List ℕ))) → us ≡ [] → total ≡ until n key step xs us → total ≡ bad_line n
unfolding until
until_none n key step xs us total is so_far = so_far ∙ ap (until n key step xs) is

module _ (n : ℕ) (ms : List ℕ) (w : List ℕ) (us ws : List (List ℕ)) (total : Outcome (List ℕ)) (is : us ≡ w ∷ ws) (so_far : total ≡ numbers_after n ms us) where
  number_turn : total ≡ (with_number n ms w >>= (λ more. numbers_after n more ws))
  unfolding numbers_after
  number_turn = so_far ∙ ap (numbers_after n ms) is

  pub numbers_on : (ks : List ℕ) → Answers (Ok ks) (with_number n ms w) → total ≡ numbers_after n ks ws
  numbers_on ks h = number_turn ∙ taken (with_number n ms w) (λ more. numbers_after n more ws) h

  pub numbers_fail : {B : Type 0} (e : Refusal) (r : Outcome B) (view : B → List ℕ) → Answers (Err e) (with_number n ms w) → IsErr r × IsErrAnd r (λ z. z ≡ e) → Answers (seen view r) total
  numbers_fail e r view h i = stopped (with_number n ms w) (λ more. numbers_after n more ws) e r view number_turn h i

pub numbers_done : (n : ℕ) (ms : List ℕ) (us : List (List ℕ)) (total : Outcome (List ℕ)) → us ≡ [] → total ≡ numbers_after n ms us → Answers (Ok ms) total
unfolding numbers_after
numbers_done n ms us total is so_far = record { is = λ _. so_far ∙ ap (numbers_after n ms) is }

module _ (n : ℕ) (os : List ℕ) (w : List ℕ) (us ws : List (List ℕ)) (total : Outcome (List ℕ)) (is : us ≡ w ∷ ws) (so_far : total ≡ ascending_after n os us) where
  ascending_turn : total ≡ (with_next n os w >>= (λ more. ascending_after n more ws))
  unfolding ascending_after
  ascending_turn = so_far ∙ ap (ascending_after n os) is

  pub ascending_on : (ks : List ℕ) → Answers (Ok ks) (with_next n os w) → total ≡ ascending_after n ks ws
  ascending_on ks h = ascending_turn ∙ taken (with_next n os w) (λ more. ascending_after n more ws) h

  pub ascending_fail : {B : Type 0} (e : Refusal) (r : Outcome B) (view : B → List ℕ) → Answers (Err e) (with_next n os w) → IsErr r × IsErrAnd r (λ z. z ≡ e) → Answers (seen view r) total
  ascending_fail e r view h i = stopped (with_next n os w) (λ more. ascending_after n more ws) e r view ascending_turn h i

pub ascending_done : (n : ℕ) (os : List ℕ) (us : List (List ℕ)) (total : Outcome (List ℕ)) → us ≡ [] → total ≡ ascending_after n os us → Answers (Ok os) total
unfolding ascending_after
ascending_done n os us total is so_far = record { is = λ _. so_far ∙ ap (ascending_after n os) is }

-- the last of the numbers decides whether one more ascends
pub last_decides : (xs : List ℕ) (m : ℕ) → 0 < length xs → nat_lt (get_or xs (length xs - 1) 0) m ≡ ascends xs m
last_decides [] m some = absurd (omega arith)
last_decides (k ∷ []) m some = refl
last_decides (k ∷ l ∷ ks) m some =
    let whole : suc (suc (length ks)) - 1 ≡ suc (length ks) = omega arith in
    let rest : suc (length ks) - 1 ≡ length ks = omega arith in
    ap (λ i. nat_lt (get_or (k ∷ l ∷ ks) i 0) m) whole
    ∙ (ap (λ i. nat_lt (get_or (l ∷ ks) i 0) m) (sym rest) ∙ last_decides (l ∷ ks) m (omega arith))

pub first_follows : (xs : List ℕ) (m : ℕ) → length xs ≡ 0 → true ≡ ascends xs m
first_follows [] m none = refl
first_follows (k ∷ ks) m none = absurd (omega arith)
