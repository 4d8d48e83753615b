-- Numbers, lengths, texts and codes: none is the beginning of another one, so their steps refuse each fault of them.
use Rattle.std.proofs.Common.{◌≡◌, ℕ, List, [], ◌∷◌, ◌++◌, Err, refl, ◌∙◌, sym, ap, append-nil}
use Rattle.std.specs.Prelude.{◌==◌}
use Rattle.std.proofs.lemmas.Bool.{eqb-true, eqb-false}
use Rattle.ar_space.specs.Outcome.{Outcome}
use Rattle.ar_space.specs.declared.refusal.Refusal.{Refusal}
use Rattle.aml_grammar.specs.State.{State, Step, integer, bit_count, text}
use Rattle.aml_grammar.specs.Grammar.{opcode}
use Rattle.aml_scan.proofs.SpelledNumbers.{takes_integer, takes_bit_count, takes_text}
use Rattle.aml_scan.proofs.Takes.{Takes, takes_then, takes_map, takes_if, takes_give, takes_byte}
use Rattle.aml_spelling.specs.Faults.{Sort, Spot, IsNumber, IsCount, IsText, IsCode, IsSomeCode, AtPart}
use Rattle.aml_spelling.proofs.FaultSorts.{Apart}
use Rattle.aml_spelling.proofs.FaultOnce.{refuses}
use Rattle.aml_spelling.proofs.FaultParts.{StandsAt, part_number, part_count, part_text, part_code}
use Rattle.aml_spelling.proofs.Gets.{Gets, gets_integer, gets_bit_count, gets_text}
use Rattle.aml_spelling.proofs.Halts.{Halts}

nothing_left : (b : ℕ) (more : List ℕ) → b ∷ more ≡ [] → ⊥
nothing_left b more e = cc e

-- a step that gets each spelling, whatever follows it: then none is the beginning of another one
pub got_apart : {A : Type 0} (Is : Sort) (m : Step A) → ((front rest : List ℕ) (s : State) → Is front → s.rest ≡ front ++ rest → (a : A) × Gets m s a rest s.arities) → Apart Is
got_apart {A = A} Is m gets front b more h i =
    let s : State = record { at = 0; rest = front ++ b ∷ more; arities = []; marks = [] } in
    let one = gets front (b ∷ more) s h refl in
    let two = gets (front ++ b ∷ more) [] s i (sym (append-nil (front ++ b ∷ more))) in
    let same : one.1.after ≡ two.1.after = ap (λ (q : Outcome A × State). q.1) (sym one.1.is ∙ two.1.is) in
    nothing_left b more (sym one.1.left ∙ ap (λ (t : State). t.rest) same ∙ two.1.left)

pub numbers_apart : (n : ℕ) → Apart (IsNumber n)
numbers_apart n = got_apart (IsNumber n) (integer n) (λ front rest s h is. (h.0, gets_integer n h.0 front h.1 is refl))

pub counts_apart : Apart IsCount
counts_apart = got_apart IsCount bit_count (λ front rest s h is. (h.0, gets_bit_count h.0 front h.1 is refl))

pub texts_apart : Apart IsText
texts_apart = got_apart IsText text (λ front rest s h is. (h.0, gets_text h.0 h.2 (is ∙ ap (λ (l : List ℕ). l ++ rest) h.1) refl))

pub codes_apart : Apart IsSomeCode
codes_apart [] b more h i = absurd h.1
codes_apart (c ∷ []) b [] h i = h.1.1 i.1.0
codes_apart (c ∷ []) b (d ∷ more) h i = absurd i.1
codes_apart (c ∷ e ∷ []) b more h i = absurd i.1
codes_apart (c ∷ e ∷ f ∷ front) b more h i = absurd h.1

-- a code is read as it is spelled
pub takes_code : (s : State) → Takes opcode s (λ n front rest. IsCode n front)
unfolding opcode
takes_code s = takes_then (takes_byte s) (λ b f s1 h. takes_if (b == 0x5B) (λ extended. takes_map _ (takes_byte s1) (λ e g rest i. rw (h, i) (eqb-true b 0x5B extended, refl)))
    (λ other. takes_give b (rw h (refl, eqb-false b 0x5B other))))

-- ---- a fault of a part is what reading it refuses

pub refused_part : {A : Type 0} (Is : Sort) → Apart Is → (m : Step A) (P : A → List ℕ → Type 0) → ((s : State) → Takes m s (λ a front rest. P a front)) → ((a : A) (front : List ℕ) → P a front → Is front)
    → ((s : State) (spot : Spot) → StandsAt s spot → Halts m s (AtPart Is spot)) → (s : State) (spot : Spot) → StandsAt s spot → (r : Refusal) → AtPart Is spot r → (s2 : State) × (m s ≡ (Err r, s2))
refused_part Is apart m P takes is halts s spot h r f = refuses Is apart m s spot (λ a s2 e. let t = (takes s).is a s2 e in (t.0, s2.rest, sym h.1 ∙ t.1, is a t.0 t.2)) (halts s spot h) r f

pub number_refuses : (n : ℕ) (s : State) (spot : Spot) → StandsAt s spot → (r : Refusal) → AtPart (IsNumber n) spot r → (s2 : State) × (integer n s ≡ (Err r, s2))
number_refuses n = refused_part (IsNumber n) (numbers_apart n) (integer n) _ (takes_integer n) (λ a front h. (a, h)) (part_number n)

pub count_refuses : (s : State) (spot : Spot) → StandsAt s spot → (r : Refusal) → AtPart IsCount spot r → (s2 : State) × (bit_count s ≡ (Err r, s2))
count_refuses = refused_part IsCount counts_apart bit_count _ takes_bit_count (λ a front h. (a, h)) part_count

pub text_refuses : (s : State) (spot : Spot) → StandsAt s spot → (r : Refusal) → AtPart IsText spot r → (s2 : State) × (text s ≡ (Err r, s2))
text_refuses = refused_part IsText texts_apart text _ takes_text (λ a front h. (a, h.0, h.1)) part_text

pub code_refuses : (s : State) (spot : Spot) → StandsAt s spot → (r : Refusal) → AtPart IsSomeCode spot r → (s2 : State) × (opcode s ≡ (Err r, s2))
code_refuses = refused_part IsSomeCode codes_apart opcode _ takes_code (λ a front h. (a, h)) part_code
