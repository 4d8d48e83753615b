-- What a step of reading takes from the front of what is left.
use Rattle.std.proofs.Common.{◌≡◌, ℕ, zero, suc, ◌+◌, ◌<◌, ◌≤◌, List, [], ◌∷◌, ◌++◌, length, take, drop, Bool, true, false, Ok, Err, refl, subst, ◌∙◌, sym, ap, append_assoc, length-append, length-take, arith}
use Rattle.std.specs.Prelude.{nat_lt, if◌then◌else◌}
use Rattle.std.proofs.lemmas.List.{append-nil, take-append-drop}
use Rattle.std.proofs.lemmas.Bool.{ltb-false}
use Rattle.ar_space.specs.declared.refusal.Refusal.{Refusal}
use Rattle.ar_space.specs.declared.refusal.Refusal.TheVariants as refusals
use Rattle.ar_space.specs.declared.refusal.TermFault.TheVariants.{Truncated}
use Rattle.ar_space.specs.Outcome.{Outcome}
use Rattle.ar_space.specs.Change.{give, stop, settle, go_on, ◌>>=◌}
use Rattle.aml_grammar.specs.State.{State, Step, look, byte, byte_of, peek, peek_of, next_bytes, all_bytes, past, times, until_of, until_end}

-- Where the step gives a value, R says what it has to do with the bytes that were taken and with those that are left.
pub record Takes {A : Type 0} (m : Step A) (s : State) (R : A → List ℕ → List ℕ → Type 0) : Type 0 where
  pub is : (a : A) (s2 : State) → m s ≡ (Ok a, s2) → (front : List ℕ) × (s.rest ≡ front ++ s2.rest) × R a front s2.rest

abbrev pub Relation : Type 0 → Type 1
Relation A = A → List ℕ → List ℕ → Type 0

-- ---- outcomes

-- a step gave a value, and left a state
abbrev pub Gave : {A : Type 0} → Outcome A × State → A → State → Type 0
Gave p a s = p ≡ (Ok a, s)

pub same_value : {A : Type 0} {a b : A} {s s2 : State} → Gave (Ok a, s) b s2 → a ≡ b
same_value {a = a} {b = b} e = let x : Outcome _ = Ok a in let y : Outcome _ = Ok b in let v : x ≡ y = ap (λ q. q.0) e in cc v

pub same_state : {A : Type 0} {a b : A} {s s2 : State} → Gave (Ok a, s) b s2 → s ≡ s2
same_state e = ap (λ q. q.1) e

pub refused : {A : Type 0} {b : A} {r : Refusal} {s s2 : State} → Gave (Err r, s) b s2 → ⊥
refused {b = b} {r = r} e = let v : Err r ≡ Ok b = ap (λ q. q.0) e in cc v

-- ---- one step after another

parted : {A B : Type 0} (p : Outcome A × State) (k : A → Step B) (b : B) (s2 : State) → go_on p.0 p.1 k ≡ (Ok b, s2) → (a : A) × (s1 : State) × (p ≡ (Ok a, s1)) × (k a s1 ≡ (Ok b, s2))
unfolding go_on
parted (Ok a, s1) k b s2 e = (a, s1, refl, e)
parted (Err r, s1) k b s2 e = absurd (refused e)

pub both : {A B : Type 0} (m : Step A) (k : A → Step B) (s : State) (b : B) (s2 : State) → (m >>= k) s ≡ (Ok b, s2) → (a : A) × (s1 : State) × (m s ≡ (Ok a, s1)) × (k a s1 ≡ (Ok b, s2))
unfolding ◌>>=◌
both m k s b s2 e = parted (m s) k b s2 e

pub takes_then : {A B : Type 0} {m : Step A} {k : A → Step B} {s : State} {P : Relation A} {R : Relation B} → Takes m s P
    → ((a : A) (front : List ℕ) (s1 : State) → P a front s1.rest → Takes (k a) s1 (λ b back rest. R b (front ++ back) rest)) → Takes (m >>= k) s R
takes_then {m = m} {k = k} {s = s} h i = record {
  is = λ b s2 e.
      let p = both m k s b s2 e in
      let x = h.is p.0 p.1 p.2 in
      let y = (i p.0 x.0 p.1 x.2).is b s2 p.3 in
      (x.0 ++ y.0, x.1 ∙ ap (λ l. x.0 ++ l) y.1 ∙ sym (append_assoc x.0 y.0 s2.rest), y.2);
}

pub takes_more : {A : Type 0} {m : Step A} {s : State} {P R : Relation A} → Takes m s P → ((a : A) (front rest : List ℕ) → P a front rest → R a front rest) → Takes m s R
takes_more h i = record { is = λ a s2 e. let x = h.is a s2 e in (x.0, x.1, i a x.0 s2.rest x.2) }

-- a step that is another one here
pub takes_as : {A : Type 0} {m n : Step A} {s : State} {R : Relation A} → m s ≡ n s → Takes n s R → Takes m s R
takes_as same h = record { is = λ a s2 e. h.is a s2 (sym same ∙ e) }

-- what is taken and what is left are what was there
pub takes_known : {A : Type 0} {m : Step A} {s : State} {P : Relation A} → Takes m s P → Takes m s (λ a front rest. (s.rest ≡ front ++ rest) × P a front rest)
takes_known h = record { is = λ a s2 e. let x = h.is a s2 e in (x.0, x.1, (x.1, x.2)) }

-- a value, and the state as it was
taken_none : {A : Type 0} {a b : A} {s s2 : State} (R : Relation A) → R a [] s.rest → Gave (Ok a, s) b s2 → (front : List ℕ) × (s.rest ≡ front ++ s2.rest) × R b front s2.rest
taken_none {a = a} {b = b} {s = s} R h e = ([], ap (λ (t : State). t.rest) (same_state e), subst (λ (t : State). R b [] t.rest) (same_state e) (subst (λ c. R c [] s.rest) (same_value e) h))

pub takes_give : {A : Type 0} {s : State} {R : Relation A} (a : A) → R a [] s.rest → Takes (give a) s R
unfolding give
takes_give {R = R} a h = record { is = λ b s2 e. taken_none R h e }

-- the last step of some, which gives a value made of theirs
pub takes_map : {A B : Type 0} {m : Step A} {s : State} {P : Relation A} {R : Relation B} (g : A → B) → Takes m s P
    → ((a : A) (front rest : List ℕ) → P a front rest → R (g a) front rest) → Takes (m >>= (λ a. give (g a))) s R
takes_map {R = R} g h i = takes_then h (λ a front s1 p. takes_give (g a) (rw append-nil (i a front s1.rest p)))

pub takes_stop : {A : Type 0} {s : State} {R : Relation A} (e : Refusal) → Takes (stop e) s R
unfolding stop
takes_stop r = record { is = λ a s2 e. absurd (refused e) }

pub takes_look : {A B : Type 0} {s : State} {R : Relation B} (f : State → A) (k : A → Step B) → Takes (k (f s)) s R → Takes (look f >>= k) s R
unfolding ◌>>=◌ go_on look
takes_look f k h = record { is = λ b s2 e. h.is b s2 e }

pub takes_settle : {A B : Type 0} {x : Outcome A} {k : A → Step B} {s : State} {R : Relation B} → ((a : A) → x ≡ Ok a → Takes (k a) s R) → Takes (settle x >>= k) s R
unfolding ◌>>=◌ go_on settle
takes_settle {x = Ok a} h = record { is = λ b s2 e. (h a refl).is b s2 e }
takes_settle {x = Err r} h = record { is = λ b s2 e. absurd (refused e) }

pub takes_settled : {A : Type 0} (x : Outcome A) (s : State) → Takes (settle x) s (λ a front rest. (front ≡ []) × (x ≡ Ok a))
unfolding settle
takes_settled (Ok a) s = record { is = λ b s2 e. let v : a ≡ b = same_value e in ([], ap (λ (t : State). t.rest) (same_state e), (refl, ap (λ y. Ok y) v)) }
takes_settled (Err r) s = record { is = λ b s2 e. absurd (refused e) }

pub takes_if : {A : Type 0} {m n : Step A} {s : State} {R : Relation A} (b : Bool) → (b ≡ true → Takes m s R) → (b ≡ false → Takes n s R) → Takes (if b then m else n) s R
takes_if true h i = h refl
takes_if false h i = i refl

-- ---- bytes

abbrev pub IsByte : Relation ℕ
IsByte b front rest = front ≡ b ∷ []

byte_taken : (bs : List ℕ) (s : State) (b : ℕ) (s2 : State) → s.rest ≡ bs → byte_of bs s ≡ (Ok b, s2) → s.rest ≡ (b ∷ []) ++ s2.rest
byte_taken [] s b s2 is e = absurd (refused e)
byte_taken (c ∷ bs) s b s2 is e = let v : c ≡ b = same_value e in let t : bs ≡ s2.rest = ap (λ (t : State). t.rest) (same_state e) in rw (is, v, t) refl

pub takes_byte : (s : State) → Takes byte s IsByte
unfolding byte
takes_byte s = record { is = λ b s2 e. (b ∷ [], byte_taken s.rest s b s2 refl e, refl) }

peeked : {B : Type 0} (bs : List ℕ) (k : ℕ → Step B) (s : State) (R : Relation B) → s.rest ≡ bs → ((b : ℕ) (bs : List ℕ) → s.rest ≡ b ∷ bs → Takes (k b) s R) → Takes ((λ s. peek_of bs s) >>= k) s R
unfolding ◌>>=◌ go_on
peeked [] k s R is h = record { is = λ b s2 e. absurd (refused e) }
peeked (b ∷ bs) k s R is h = record { is = λ c s2 e. (h b bs is).is c s2 e }

pub takes_peek : {B : Type 0} {k : ℕ → Step B} {s : State} {R : Relation B} → ((b : ℕ) (bs : List ℕ) → s.rest ≡ b ∷ bs → Takes (k b) s R) → Takes (peek >>= k) s R
unfolding ◌>>=◌ go_on peek
takes_peek {k = k} {s = s} {R = R} h = record { is = λ b s2 e. (peeked s.rest k s R refl h).is b s2 e }

pub takes_peeked : {B : Type 0} {b : ℕ} {bs : List ℕ} {s : State} {R : Relation B} (k : ℕ → Step B) → s.rest ≡ b ∷ bs → Takes (k b) s R → Takes (peek >>= k) s R
takes_peeked {b = b} {bs = bs} {s = s} {R = R} k is h = takes_peek (λ c cs js.
    let both : b ∷ bs ≡ c ∷ cs = sym is ∙ js in
    let same : b ≡ c = cc both in
    subst (λ d. Takes (k d) s R) same h)

bytes_taken : (n : ℕ) (s : State) (short : Bool) (bs : List ℕ) (s2 : State) → nat_lt (length s.rest) n ≡ short
    → Gave (if short then (Err (refusals.Term Truncated (s.at + length s.rest)), s) else (Ok (take n s.rest), past n s)) bs s2 → (s.rest ≡ bs ++ s2.rest) × (length bs ≡ n)
bytes_taken n s true bs s2 is e = absurd (refused e)
bytes_taken n s false bs s2 is e =
    let enough : n ≤ length s.rest = ltb-false (length s.rest) n is in
    let v : take n s.rest ≡ bs = same_value e in
    let t : drop n s.rest ≡ s2.rest = ap (λ (t : State). t.rest) (same_state e) in
    (rw (← v, ← t) (sym (take-append-drop n s.rest)), rw (← v) (omega (arith, length-take n s.rest)))

pub takes_bytes : (n : ℕ) (s : State) → Takes (next_bytes n) s (λ bs front rest. (front ≡ bs) × (length bs ≡ n))
unfolding next_bytes
takes_bytes n s = record { is = λ bs s2 e. let t = bytes_taken n s (nat_lt (length s.rest) n) bs s2 refl e in (bs, t.0, (refl, t.1)) }

pub takes_all : (s : State) → Takes all_bytes s (λ bs front rest. (front ≡ bs) × (rest ≡ []))
unfolding all_bytes
takes_all s = record {
  is = λ bs s2 e.
      let v : s.rest ≡ bs = same_value e in
      let t : [] ≡ s2.rest = ap (λ (t : State). t.rest) (same_state e) in
      (bs, rw (v, ← t) (sym (append-nil bs)), (refl, sym t));
}

-- a byte that was seen before
pub takes_seen : {b : ℕ} {bs : List ℕ} {s : State} → s.rest ≡ b ∷ bs → Takes byte s (λ c front rest. (front ≡ b ∷ []) × (c ≡ b) × (rest ≡ bs))
takes_seen {b = b} {bs = bs} {s = s} is = takes_more (takes_known (takes_byte s)) (λ c front rest h.
    let all : b ∷ bs ≡ c ∷ rest = sym is ∙ h.0 ∙ ap (λ l. l ++ rest) h.1 in
    let one : c ≡ b = cc all in
    (h.1 ∙ ap (λ d. d ∷ []) one, one, cc all))

-- ---- one step again and again

-- values, one after another
abbrev pub Each : {A : Type 0} → (A → List ℕ → Type 0) → List A → List ℕ → Type 0
Each P [] spelling = spelling ≡ []
Each P (x ∷ xs) spelling = (front : List ℕ) × (back : List ℕ) × (spelling ≡ front ++ back) × P x front × Each P xs back

pub takes_times : {A : Type 0} {P : A → List ℕ → Type 0} (m : Step A) → ((s : State) → Takes m s (λ a front rest. P a front)) → (n : ℕ) (s : State) → Takes (times m n) s (λ xs front rest. (length xs ≡ n) × Each P xs front)
unfolding times
takes_times m h zero s = takes_give [] (refl, refl)
takes_times m h (suc n) s = takes_then (h s) (λ x f s1 p. takes_map (λ xs. x ∷ xs) (takes_times m h n s1) (λ xs g rest q. (ap suc q.0, (f, g, refl, p, q.1))))

until_over : {A : Type 0} {P : A → List ℕ → Type 0} (m : Step A) (more : Step (List A)) (s : State) (bs : List ℕ) → s.rest ≡ bs → ((s : State) → Takes m s (λ a front rest. P a front × (0 < length front)))
    → ((s1 : State) → length s1.rest < length s.rest → Takes more s1 (λ xs front rest. Each P xs front × (rest ≡ []))) → Takes (until_of m more bs) s (λ xs front rest. Each P xs front × (rest ≡ []))
until_over m more s [] is h i = takes_give [] (refl, is)
until_over m more s (b ∷ bs) is h i = takes_then (takes_known (h s)) (λ x f s1 p.
    let shorter : length s1.rest < length s.rest = rw (p.0, length-append) (omega (arith, p.1.1)) in
    takes_map (λ xs. x ∷ xs) (i s1 shorter) (λ xs g rest q. ((f, g, refl, p.1.0, q.0), q.1)))

none_left : (bs : List ℕ) → length bs ≤ 0 → bs ≡ []
none_left [] le = refl
none_left (b ∷ bs) le = absurd (omega (arith, le))

-- each takes something, so nothing is left
pub takes_until : {A : Type 0} {P : A → List ℕ → Type 0} (m : Step A) → ((s : State) → Takes m s (λ a front rest. P a front × (0 < length front))) → (n : ℕ) (s : State) → length s.rest ≤ n
    → Takes (until_end m n) s (λ xs front rest. Each P xs front × (rest ≡ []))
unfolding until_end
takes_until {P = P} m h zero s le = record { is = λ xs s2 e. taken_none (λ xs front rest. Each P xs front × (rest ≡ [])) (refl, none_left s.rest le) e }
takes_until m h (suc n) s le = record { is = λ xs s2 e. (until_over m (until_end m n) s s.rest refl h (λ s1 lt. takes_until m h n s1 (omega arith))).is xs s2 e }
