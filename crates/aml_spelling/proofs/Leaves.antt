-- Which arities a step of reading leaves.
use Rattle.std.proofs.Common.{◌≡◌, ℕ, zero, suc, ◌+◌, ◌-◌, ◌/◌, List, [], ◌∷◌, length, Bool, true, false, Ok, Err, refl, subst, ◌∙◌, sym, ap}
use Rattle.std.specs.Prelude.{nat_lt, ◌==◌, ◌||◌, if◌then◌else◌}
use Rattle.ar_space.specs.declared.refusal.Refusal.{Refusal}
use Rattle.ar_space.specs.declared.refusal.Refusal.TheVariants as refusals
use Rattle.ar_space.specs.declared.refusal.NameFault.TheVariants.{BadName}
use Rattle.ar_space.specs.Outcome.{Outcome}
use Rattle.ar_space.specs.Change.{give, stop, settle, go_on, ◌>>=◌}
use Rattle.aml_path.specs.Segments.{seg_of}
use Rattle.aml_path.specs.declared.name.Prefix.TheVariants.{Root, Parents}
use Rattle.aml_arities.specs.declared.arities.Arity.{Arity}
use Rattle.aml_grammar.specs.State.{State, Step, look, byte, byte_of, peek, peek_of, next_bytes, all_bytes, text_length, text, little_endian, integer, length_of, bit_count, size_after, package_size, enter, narrow, leave, times}
use Rattle.aml_grammar.specs.Names.{only, lead_name_char, name_char, segment, segments, segments_at, multiple_segments, parents, rooted_name, relative_name, name_string}
use Rattle.aml_grammar.specs.Grammar.{packed}
use Rattle.aml_scan.proofs.Takes.{Gave, same_value, same_state, refused, both}

-- what a value has to do with the arities before it and after it
abbrev pub Effect : Type 0 → Type 1
Effect A = A → List Arity → List Arity → Type 0

-- Where the step gives a value, R says what it has to do with the arities before and after it.
pub record Leaves {A : Type 0} (m : Step A) (s : State) (R : A → List Arity → List Arity → Type 0) : Type 0 where
  pub is : (a : A) (s2 : State) → m s ≡ (Ok a, s2) → R a s.arities s2.arities

-- the arities stay
abbrev pub Same : {A : Type 0} → Effect A
Same a known after = after ≡ known

pub leaves_then : {A B : Type 0} {m : Step A} {k : A → Step B} {s : State} {P : Effect A} {R : Effect B} → Leaves m s P → ((a : A) (s1 : State) → P a s.arities s1.arities → Leaves (k a) s1 (λ b mid after. R b s.arities after)) → Leaves (m >>= k) s R
leaves_then {m = m} {k = k} {s = s} h i = record {
  is = λ b s2 e.
      let p = both m k s b s2 e in
      (i p.0 p.1 (h.is p.0 p.1 p.2)).is b s2 p.3;
}

-- after a step that leaves the arities
pub leaves_after : {A B : Type 0} {m : Step A} {k : A → Step B} {s : State} {R : Effect B} → Leaves m s Same → ((a : A) (s1 : State) → Leaves (k a) s1 R) → Leaves (m >>= k) s R
leaves_after {m = m} {k = k} {s = s} {R = R} h i = record {
  is = λ b s2 e.
      let p = both m k s b s2 e in
      subst (λ (known : List Arity). R b known s2.arities) (h.is p.0 p.1 p.2) ((i p.0 p.1).is b s2 p.3);
}

pub leaves_more : {A : Type 0} {m : Step A} {s : State} {P R : Effect A} → Leaves m s P → ((a : A) (known after : List Arity) → P a known after → R a known after) → Leaves m s R
leaves_more {s = s} h i = record { is = λ a s2 e. i a s.arities s2.arities (h.is a s2 e) }

pub leaves_as : {A : Type 0} {m n : Step A} {s : State} {R : Effect A} → m s ≡ n s → Leaves n s R → Leaves m s R
leaves_as same h = record { is = λ a s2 e. h.is a s2 (sym same ∙ e) }

left_alone : {A : Type 0} {a b : A} {s s2 : State} (R : Effect A) → R a s.arities s.arities → Gave (Ok a, s) b s2 → R b s.arities s2.arities
left_alone {a = a} {b = b} {s = s} R h e = subst (λ (t : State). R b s.arities t.arities) (same_state e) (subst (λ c. R c s.arities s.arities) (same_value e) h)

pub leaves_give : {A : Type 0} {s : State} {R : Effect A} (a : A) → R a s.arities s.arities → Leaves (give a) s R
unfolding give
leaves_give {R = R} a h = record { is = λ b s2 e. left_alone R h e }

pub leaves_map : {A B : Type 0} {m : Step A} {s : State} {P : Effect A} {R : Effect B} (g : A → B) → Leaves m s P → ((a : A) (known after : List Arity) → P a known after → R (g a) known after) → Leaves (m >>= (λ a. give (g a))) s R
leaves_map {s = s} g h i = leaves_then h (λ a s1 p. leaves_give (g a) (i a s.arities s1.arities p))

pub leaves_stop : {A : Type 0} {s : State} {R : Effect A} (e : Refusal) → Leaves (stop e) s R
unfolding stop
leaves_stop r = record { is = λ a s2 e. absurd (refused e) }

pub leaves_look : {A B : Type 0} {s : State} {R : Effect B} (f : State → A) (k : A → Step B) → Leaves (k (f s)) s R → Leaves (look f >>= k) s R
unfolding ◌>>=◌ go_on look
leaves_look f k h = record { is = λ b s2 e. h.is b s2 e }

pub leaves_settle : {A B : Type 0} {x : Outcome A} {k : A → Step B} {s : State} {R : Effect B} → ((a : A) → x ≡ Ok a → Leaves (k a) s R) → Leaves (settle x >>= k) s R
unfolding ◌>>=◌ go_on settle
leaves_settle {x = Ok a} h = record { is = λ b s2 e. (h a refl).is b s2 e }
leaves_settle {x = Err r} h = record { is = λ b s2 e. absurd (refused e) }

leaves_settled : {A : Type 0} (x : Outcome A) (s : State) → Leaves (settle x) s Same
unfolding settle
leaves_settled x s = record { is = λ b s2 e. sym (ap (λ (q : Outcome _ × State). q.1.arities) e) }

pub leaves_if : {A : Type 0} {m n : Step A} {s : State} {R : Effect A} (b : Bool) → (b ≡ true → Leaves m s R) → (b ≡ false → Leaves n s R) → Leaves (if b then m else n) s R
leaves_if true h i = h refl
leaves_if false h i = i refl

-- ---- bytes and numbers

byte_leaves : (bs : List ℕ) (s : State) (b : ℕ) (s2 : State) → byte_of bs s ≡ (Ok b, s2) → s2.arities ≡ s.arities
byte_leaves [] s b s2 e = absurd (refused e)
byte_leaves (c ∷ bs) s b s2 e = sym (ap (λ (t : State). t.arities) (same_state e))

pub leaves_byte : (s : State) → Leaves byte s Same
unfolding byte
leaves_byte s = record { is = λ b s2 e. byte_leaves s.rest s b s2 e }

peeked : {B : Type 0} (bs : List ℕ) (k : ℕ → Step B) (s : State) (R : Effect B) → ((b : ℕ) → Leaves (k b) s R) → Leaves ((λ s. peek_of bs s) >>= k) s R
unfolding ◌>>=◌ go_on
peeked [] k s R h = record { is = λ b s2 e. absurd (refused e) }
peeked (b ∷ bs) k s R h = record { is = λ c s2 e. (h b).is c s2 e }

pub leaves_peek : {B : Type 0} {k : ℕ → Step B} {s : State} {R : Effect B} → ((b : ℕ) → Leaves (k b) s R) → Leaves (peek >>= k) s R
unfolding ◌>>=◌ go_on peek
leaves_peek {k = k} {s = s} {R = R} h = record { is = λ b s2 e. (peeked s.rest k s R h).is b s2 e }

-- a value or a fault, and the arities as they were
pub one_or_fault : {A : Type 0} (c : Bool) (r : Refusal) (a b : A) (s s1 s2 : State) → s1.arities ≡ s.arities → Gave (if c then (Err r, s) else (Ok a, s1)) b s2 → s2.arities ≡ s.arities
one_or_fault true r a b s s1 s2 same e = absurd (refused e)
one_or_fault false r a b s s1 s2 same e = sym (ap (λ (t : State). t.arities) (same_state e)) ∙ same

pub leaves_bytes : (n : ℕ) (s : State) → Leaves (next_bytes n) s Same
unfolding next_bytes
leaves_bytes n s = record { is = λ bs s2 e. one_or_fault (nat_lt (length s.rest) n) _ _ bs s _ s2 refl e }

pub leaves_all : (s : State) → Leaves all_bytes s Same
unfolding all_bytes
leaves_all s = record { is = λ bs s2 e. sym (ap (λ (t : State). t.arities) (same_state e)) }

pub leaves_integer : (n : ℕ) (s : State) → Leaves (integer n) s Same
unfolding integer
leaves_integer n s = leaves_map little_endian (leaves_bytes n s) (λ a known after e. e)

pub leaves_bit_count : (s : State) → Leaves bit_count s Same
unfolding bit_count
leaves_bit_count s = leaves_after (leaves_byte s) (λ lead s1. leaves_map (length_of lead) (leaves_integer (lead / 64) s1) (λ a known after e. e))

pub leaves_text : (s : State) → Leaves text s Same
unfolding text
leaves_text s = leaves_look (λ s. text_length s.rest) _ (leaves_map _ (leaves_bytes _ s) (λ a known after e. e))

leaves_size_after : (start spent total : ℕ) (s : State) → Leaves (size_after start spent total) s Same
unfolding size_after
leaves_size_after start spent total s = record { is = λ n s2 e. one_or_fault (nat_lt total spent || nat_lt (length s.rest) (total - spent)) _ _ n s s s2 refl e }

leaves_package_size : (s : State) → Leaves package_size s Same
unfolding package_size
leaves_package_size s = leaves_look (λ s. s.at) _ (leaves_after (leaves_byte s) (λ lead s1. leaves_after (leaves_integer (lead / 64) s1) (λ more s2. leaves_size_after s.at (lead / 64 + 1) (length_of lead more) s2)))

leaves_narrow : (n : ℕ) (s : State) → Leaves (narrow n) s Same
leaves_narrow n s = record { is = λ outer s2 e. sym (ap (λ (t : State). t.arities) (same_state e)) }

pub leaves_enter : (s : State) → Leaves enter s Same
unfolding enter
leaves_enter s = leaves_after (leaves_package_size s) leaves_narrow

leaves_leave : {A : Type 0} (R : Effect A) (outer : ℕ × List ℕ) (x : A) (known : List Arity) (s : State) → R x known s.arities → Leaves (leave outer x) s (λ a mid after. R a known after)
leaves_leave R outer x known s h = record { is = λ a s2 e. subst (λ (t : State). R a known t.arities) (same_state e) (subst (λ y. R y known s.arities) (same_value e) h) }

pub leaves_packed : {A : Type 0} {R : Effect A} (b : Bool) (m : Step A) → ((s : State) → Leaves m s R) → (s : State) → Leaves (packed b m) s R
leaves_packed {R = R} true m h s = leaves_after (leaves_enter s) (λ outer s1. leaves_then (h s1) (λ x s2 p. leaves_leave R outer x s1.arities s2 p))
leaves_packed false m h s = h s

-- ---- names

leaves_only : (test : ℕ → Bool) (s : State) → Leaves (byte >>= only test) s Same
leaves_only test s = leaves_after (leaves_byte s) (λ b s1. leaves_if (test b) (λ _. leaves_give b refl) (λ _. leaves_stop (refusals.Name BadName)))

pub leaves_segment : (s : State) → Leaves segment s Same
unfolding segment lead_name_char name_char
leaves_segment s = leaves_after (leaves_only _ s) (λ a s1. leaves_after (leaves_only _ s1) (λ b s2. leaves_after (leaves_only _ s2) (λ c s3. leaves_after (leaves_only _ s3) (λ d s4. leaves_settled (seg_of (a ∷ b ∷ c ∷ d ∷ [])) s4))))

leaves_times : (n : ℕ) (s : State) → Leaves (times segment n) s Same
unfolding times
leaves_times zero s = leaves_give [] refl
leaves_times (suc n) s = leaves_after (leaves_segment s) (λ x s1. leaves_map (λ xs. x ∷ xs) (leaves_times n s1) (λ a known after e. e))

leaves_segments_at : (b : ℕ) (s : State) → Leaves (segments_at b) s Same
unfolding multiple_segments
leaves_segments_at b s =
    leaves_if (b == 0) (λ _. leaves_after (leaves_byte s) (λ c s1. leaves_give [] refl))
    (λ _. leaves_if (b == 46) (λ _. leaves_after (leaves_byte s) (λ c s1. leaves_times 2 s1))
    (λ _. leaves_if (b == 47) (λ _. leaves_after (leaves_byte s) (λ c s1. leaves_after (leaves_byte s1) (λ n s2. leaves_if (n == 0) (λ _. leaves_stop (refusals.Name BadName)) (λ _. leaves_times n s2))))
    (λ _. leaves_times 1 s)))

leaves_segments : (s : State) → Leaves segments s Same
unfolding segments
leaves_segments s = leaves_peek (λ b. leaves_segments_at b s)

leaves_parents : (s : State) → Leaves parents s Same
unfolding parents
leaves_parents s = record { is = λ n s2 e. sym (ap (λ (t : State). t.arities) (same_state e)) }

pub leaves_name : (s : State) → Leaves name_string s Same
unfolding name_string rooted_name relative_name
leaves_name s = leaves_peek (λ b. leaves_if (b == 0) (λ _. leaves_stop (refusals.Name BadName)) (λ _. leaves_if (b == 92)
    (λ _. leaves_after (leaves_byte s) (λ c s1. leaves_map (λ ss. record { prefix = Root; segments = ss }) (leaves_segments s1) (λ a known after e. e)))
    (λ _. leaves_after (leaves_parents s) (λ n s1. leaves_map (λ ss. record { prefix = Parents n; segments = ss }) (leaves_segments s1) (λ a known after e. e)))))
