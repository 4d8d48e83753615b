-- What stands in the output and the errors after a run.
use Rattle.std.proofs.Common.{◌≡◌, ℕ, suc, ◌+◌, Bool, true, false, List, [], ◌∷◌, ◌++◌, Option, length, take, refl, ap, subst, inl, inr, arith, length-append}
use Rattle.std.specs.Prelude.{codes, Ok, Err}
use Rattle.std.specs.Io.KnownBytes.{Appends}
use Rattle.std.specs.Fmt.{digits}
use Rattle.acpiroute_shell.specs.Held.{Held, Takes, TakesUnless}
use Rattle.acpiroute_shell.specs.Deliveries.{Reply, refusal_told, Delivered, Told}
use Rattle.ar_space.specs.Outcome.{Outcome}
use Rattle.ar_space.specs.declared.refusal.Refusal.{Refusal}
use Rattle.ar_space.specs.declared.refusal.Refusal.TheVariants.{OutOfMemory}
use Rattle.acpiroute_shell.specs.Written.{Written, status_of}
use Rattle.acpiroute_shell.proofs.Outputs.{then_more}

take_behind : (front rest : List ℕ) (n : ℕ) → take (length front + n) (front ++ rest) ≡ front ++ take n rest
take_behind [] rest n = ap (λ k. take k rest) (omega arith)
take_behind (x ∷ xs) rest n = let more : length (x ∷ xs) + n ≡ suc (length xs + n) = omega arith in rw more (ap (λ l. x ∷ l) (take_behind xs rest n))

-- a text goes out behind another that went out whole
takes_behind : (f : Bool) (a b c : Option (List ℕ)) (front rest : List ℕ) → Appends a b front → TakesUnless f b c rest → TakesUnless f a c (front ++ rest)
takes_behind false a b c front rest h k = then_more a b c front rest (front ++ rest) h k refl
takes_behind true a b c front rest h (n, less, k) = (length front + n, omega (arith, less, length-append front rest), then_more a b c front (take n rest) (take (length front + n) (front ++ rest)) h k (take_behind front rest n))

-- a write to the output failed, and the lines went out
pub not_all : (r : Reply) (output output2 errors errors1 errors2 : Held) → output2.has_failed ≡ true → Takes output output2 r.text → errors1.has_failed ≡ false → Takes errors errors1 r.line
    → Takes errors1 errors2 (codes "refused 142\n") → Delivered r 1 output output2 errors errors2
unfolding digits
not_all r output output2 errors errors1 errors2 failed text whole lines line = record {
  text = text;
  line = rw failed (takes_behind errors2.has_failed errors.bytes errors1.bytes errors2.bytes r.line (codes "refused 142\n") (subst (λ f. TakesUnless f errors.bytes errors1.bytes r.line) whole lines) line);
  status_is = rw failed refl;
}

-- an answer
pub told_answer : (passed : List ℕ) (outcome : Outcome Written) (answer : Written) (text : List ℕ) (own status : ℕ) (output output2 errors errors2 : Held) → outcome ≡ Ok answer → text ≡ answer.text → own ≡ status_of answer.completion
    → Delivered (record { text = text; line = passed; status = own }) status output output2 errors errors2 → Told passed outcome status output output2 errors errors2
told_answer passed outcome answer text own status output output2 errors errors2 is same same_status d =
    record {
      told = Ok answer;
      is_told = rw is refl;
      delivered = subst (λ n. Delivered (record { text = answer.text; line = passed; status = n }) status output output2 errors errors2) same_status
          (subst (λ x. Delivered (record { text = x; line = passed; status = own }) status output output2 errors errors2) same d);
    }

-- a refusal, with its line behind what was passed over
pub told_refusal : (passed : List ℕ) (outcome : Outcome Written) (r : Refusal) (line : List ℕ) (status : ℕ) (output output2 errors errors2 : Held) → outcome ≡ Err r → line ≡ refusal_told passed r
    → Delivered (record { text = []; line = line; status = 1 }) status output output2 errors errors2 → Told passed outcome status output output2 errors errors2
told_refusal passed outcome r line status output output2 errors errors2 is same d =
    record { told = Err r; is_told = rw is (inl refl); delivered = subst (λ x. Delivered (record { text = []; line = x; status = 1 }) status output output2 errors errors2) same d }

-- no memory for its line
pub told_memory : (passed : List ℕ) (outcome : Outcome Written) (r : Refusal) (status : ℕ) (output output2 errors errors2 : Held) → outcome ≡ Err r
    → Delivered (record { text = []; line = codes "refused 99\n"; status = 1 }) status output output2 errors errors2 → Told passed outcome status output output2 errors errors2
unfolding digits
told_memory passed outcome r status output output2 errors errors2 is d = record { told = Err OutOfMemory; is_told = rw is (inr refl); delivered = d }
