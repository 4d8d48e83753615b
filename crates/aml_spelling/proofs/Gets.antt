-- What a step of reading gets from the front of what is left, and what it leaves.
use Rattle.std.proofs.Common.{◌≡◌, ℕ, ◌+◌, ◌-◌, ◌/◌, ◌<◌, List, [], ◌∷◌, ◌++◌, length, take, drop, Bool, true, false, Ok, refl, ◌∙◌, sym, ap, append_assoc, append-nil, length-append, le-ltb, lt-ltb, arith}
use Rattle.std.specs.Prelude.{nat_lt, if◌then◌else◌}
use Rattle.std.specs.List.{AllByRecursion, prefix_len}
use Rattle.std.proofs.lemmas.List.{take_at, drop_at}
use Rattle.std.proofs.lemmas.List.Folds.{length-prefix_len}
use Rattle.ar_space.specs.Outcome.{Outcome}
use Rattle.ar_space.specs.Change.{give, settle, go_on, ◌>>=◌}
use Rattle.aml_arities.specs.declared.arities.Arity.{Arity}
use Rattle.aml_grammar.specs.State.{State, Step, look, byte, byte_of, peek, peek_of, next_bytes, all_bytes, past, text_length, text, little_endian, integer, length_of, bit_count, size_after, package_size, enter}
use Rattle.aml_grammar.specs.Grammar.{packed}
use Rattle.aml_scan.specs.Spelling.{StandFor, IsInteger, IsLength, IsPackage, IsContent}

-- The step gives this value, and leaves these bytes and these arities.
pub record Gets {A : Type 0} (m : Step A) (s : State) (a : A) (rest : List ℕ) (known : List Arity) : Type 0 where
  pub after : State
  pub is : m s ≡ (Ok a, after)
  pub left : after.rest ≡ rest
  pub knows : after.arities ≡ known

-- ---- one step after another

pub gets_then : {A B : Type 0} {m : Step A} {s : State} {a : A} {b : B} {left rest : List ℕ} {mid known : List Arity} (k : A → Step B) → Gets m s a left mid → ((s1 : State) → s1.rest ≡ left → s1.arities ≡ mid → Gets (k a) s1 b rest known) → Gets (m >>= k) s b rest known
unfolding ◌>>=◌ go_on
gets_then k h i = let g = i h.after h.left h.knows in record { after = g.after; is = rw h.is g.is; left = g.left; knows = g.knows }

pub gets_give : {A : Type 0} {s : State} {rest : List ℕ} {known : List Arity} (a : A) → s.rest ≡ rest → s.arities ≡ known → Gets (give a) s a rest known
unfolding give
gets_give {s = s} a is ar = record { after = s; is = refl; left = is; knows = ar }

pub gets_map : {A B : Type 0} {m : Step A} {s : State} {a : A} {rest : List ℕ} {known : List Arity} (g : A → B) → Gets m s a rest known → Gets (m >>= (λ x. give (g x))) s (g a) rest known
gets_map {a = a} g h = gets_then _ h (λ s1 is ar. gets_give (g a) is ar)

pub gets_value : {A : Type 0} {m : Step A} {s : State} {a b : A} {rest : List ℕ} {known : List Arity} → a ≡ b → Gets m s a rest known → Gets m s b rest known
gets_value e h = record { after = h.after; is = h.is ∙ ap (λ x. (Ok x, h.after)) e; left = h.left; knows = h.knows }

pub gets_known : {A : Type 0} {m : Step A} {s : State} {a : A} {rest : List ℕ} {known after : List Arity} → after ≡ known → Gets m s a rest known → Gets m s a rest after
gets_known e h = record { after = h.after; is = h.is; left = h.left; knows = h.knows ∙ sym e }

pub gets_rest : {A : Type 0} {m : Step A} {s : State} {a : A} {left rest : List ℕ} {known : List Arity} → left ≡ rest → Gets m s a left known → Gets m s a rest known
gets_rest e h = record { after = h.after; is = h.is; left = h.left ∙ e; knows = h.knows }

pub gets_as : {A : Type 0} {m n : Step A} {s : State} {a : A} {rest : List ℕ} {known : List Arity} → m s ≡ n s → Gets n s a rest known → Gets m s a rest known
gets_as e h = record { after = h.after; is = e ∙ h.is; left = h.left; knows = h.knows }

pub gets_yes : {A : Type 0} {m : Step A} {s : State} {a : A} {rest : List ℕ} {known : List Arity} {c : Bool} (n : Step A) → c ≡ true → Gets m s a rest known → Gets (if c then m else n) s a rest known
gets_yes n e h = rw e h

pub gets_no : {A : Type 0} {n : Step A} {s : State} {a : A} {rest : List ℕ} {known : List Arity} {c : Bool} (m : Step A) → c ≡ false → Gets n s a rest known → Gets (if c then m else n) s a rest known
gets_no m e h = rw e h

pub gets_look : {A B : Type 0} {s : State} {b : B} {rest : List ℕ} {known : List Arity} (f : State → A) (k : A → Step B) → Gets (k (f s)) s b rest known → Gets (look f >>= k) s b rest known
unfolding ◌>>=◌ go_on look
gets_look f k h = record { after = h.after; is = h.is; left = h.left; knows = h.knows }

pub gets_settle : {A B : Type 0} {x : Outcome A} {a : A} {s : State} {b : B} {rest : List ℕ} {known : List Arity} (k : A → Step B) → x ≡ Ok a → Gets (k a) s b rest known → Gets (settle x >>= k) s b rest known
unfolding ◌>>=◌ go_on settle
gets_settle k e h = record { after = h.after; is = rw e h.is; left = h.left; knows = h.knows }

pub gets_settled : {A : Type 0} {x : Outcome A} {a : A} {s : State} {rest : List ℕ} {known : List Arity} → x ≡ Ok a → s.rest ≡ rest → s.arities ≡ known → Gets (settle x) s a rest known
unfolding settle
gets_settled {s = s} e is ar = record { after = s; is = ap (λ y. (y, s)) e; left = is; knows = ar }

-- ---- bytes

pub gets_byte : {s : State} {b : ℕ} {rest : List ℕ} {known : List Arity} → s.rest ≡ b ∷ rest → s.arities ≡ known → Gets byte s b rest known
unfolding byte
gets_byte {s = s} {rest = rest} is ar = record { after = record s { at = s.at + 1; rest = rest }; is = ap (λ r. byte_of r s) is; left = refl; knows = ar }

pub gets_peek : {B : Type 0} {s : State} {b : ℕ} {bs : List ℕ} {c : B} {rest : List ℕ} {known : List Arity} (k : ℕ → Step B) → s.rest ≡ b ∷ bs → Gets (k b) s c rest known → Gets (peek >>= k) s c rest known
unfolding ◌>>=◌ go_on peek
gets_peek {s = s} k is h = record { after = h.after; is = ap (λ r. go_on (peek_of r s).0 (peek_of r s).1 k) is ∙ h.is; left = h.left; knows = h.knows }

enough : (bs rest l : List ℕ) (n : ℕ) → l ≡ bs ++ rest → length bs ≡ n → nat_lt (length l) n ≡ false
enough bs rest l n is len = let k : length l ≡ length bs + length rest = ap (λ (x : List ℕ). length x) is ∙ length-append bs rest in le-ltb (length l) n (omega (arith, k, len))

pub gets_bytes : {s : State} {rest : List ℕ} {known : List Arity} (n : ℕ) (bs : List ℕ) → s.rest ≡ bs ++ rest → length bs ≡ n → s.arities ≡ known → Gets (next_bytes n) s bs rest known
unfolding next_bytes
gets_bytes {s = s} {rest = rest} n bs is len ar = record {
  after = past n s;
  is = rw (enough bs rest s.rest n is len) (ap (λ l. (Ok l, past n s)) (ap (λ (l : List ℕ). take n l) is ∙ take_at bs rest n len));
  left = ap (λ (l : List ℕ). drop n l) is ∙ drop_at bs rest n len;
  knows = ar;
}

pub gets_all : {s : State} {bs : List ℕ} {known : List Arity} → s.rest ≡ bs → s.arities ≡ known → Gets all_bytes s bs [] known
unfolding all_bytes
gets_all {s = s} is ar = record { after = record s { at = s.at + length s.rest; rest = [] }; is = ap (λ l. (Ok l, record s { at = s.at + length s.rest; rest = [] })) is; left = refl; knows = ar }

-- ---- numbers

pub number_is : (bs : List ℕ) (n : ℕ) → StandFor bs n → little_endian bs ≡ n
number_is [] n h = sym h
number_is (b ∷ bs) n h = rw (number_is bs h.0 h.2) (sym h.1)

pub gets_integer : {s : State} {rest : List ℕ} {known : List Arity} (width n : ℕ) (bs : List ℕ) → IsInteger width n bs → s.rest ≡ bs ++ rest → s.arities ≡ known → Gets (integer width) s n rest known
unfolding integer
gets_integer width n bs h is ar = gets_value (number_is bs n h.1) (gets_map little_endian (gets_bytes width bs is h.0 ar))

pub gets_bit_count : {s : State} {rest : List ℕ} {known : List Arity} (n : ℕ) (bs : List ℕ) → IsLength n bs → s.rest ≡ bs ++ rest → s.arities ≡ known → Gets bit_count s n rest known
unfolding bit_count
gets_bit_count n [] h is ar = absurd h
gets_bit_count n (lead ∷ more) h is ar = gets_then _ (gets_byte is ar) (λ s1 is1 ar1. gets_value (sym h.3) (gets_map (length_of lead) (gets_integer (lead / 64) h.1 more (h.0, h.2) is1 ar1)))

-- ---- packages

gets_size_after : {s : State} {known : List Arity} (start spent total : ℕ) (content rest : List ℕ) → total ≡ spent + length content → s.rest ≡ content ++ rest → s.arities ≡ known → Gets (size_after start spent total) s (length content) (content ++ rest) known
unfolding size_after
gets_size_after {s = s} start spent total content rest counted is ar =
    let size : total - spent ≡ length content = omega (arith, counted) in
    let counts : nat_lt total spent ≡ false = le-ltb total spent (omega (arith, counted)) in
    let fits : nat_lt (length s.rest) (total - spent) ≡ false = enough content rest s.rest (total - spent) is (sym size) in
    record { after = s; is = rw (counts, fits) (ap (λ n. (Ok n, s)) size); left = is; knows = ar }

pub gets_package_size : {s : State} {known : List Arity} (content lead rest : List ℕ) → IsLength (length (lead ++ content)) lead → s.rest ≡ lead ++ (content ++ rest) → s.arities ≡ known → Gets package_size s (length content) (content ++ rest) known
unfolding package_size
gets_package_size content [] rest h is ar = absurd h
gets_package_size {s = s} content (lead ∷ more) rest h is ar = gets_look (λ s. s.at) _ (gets_then _ (gets_byte is ar) (λ s1 is1 ar1. gets_then _ (gets_integer (lead / 64) h.1 more (h.0, h.2) is1 ar1) (λ s2 is2 ar2.
    let whole : length ((lead ∷ more) ++ content) ≡ length_of lead h.1 = h.3 in
    let parts : length ((lead ∷ more) ++ content) ≡ length (lead ∷ more) + length content = length-append (lead ∷ more) content in
    let size : length more ≡ lead / 64 = h.0 in
    gets_size_after s.at (lead / 64 + 1) (length_of lead h.1) content rest (sym whole ∙ parts ∙ omega (arith, size)) is2 ar2)))

pub gets_packed : {A : Type 0} {m : Step A} {s : State} {a : A} {rest : List ℕ} {known after : List Arity} (content spelling : List ℕ) → IsPackage content spelling → s.rest ≡ spelling ++ rest → s.arities ≡ known
    → ((s1 : State) → s1.rest ≡ content → s1.arities ≡ known → Gets m s1 a [] after) → Gets (packed true m) s a rest after
unfolding enter ◌>>=◌ go_on
gets_packed {m = m} {s = s} {rest = rest} {known = known} content spelling h is ar i =
    let first : s.rest ≡ h.0 ++ (content ++ rest) = is ∙ ap (λ l. l ++ rest) h.1 ∙ append_assoc h.0 content rest in
    let size : IsLength (length (h.0 ++ content)) h.0 = rw (← h.1) h.2 in
    let p = gets_package_size {s = s} {known = known} content h.0 rest size first ar in
    let into = record p.after { rest = take (length content) p.after.rest } in
    let inner = i (record p.after { rest = take (length content) p.after.rest }) (ap (λ (l : List ℕ). take (length content) l) p.left ∙ take_at content rest (length content) refl) p.knows in
    record {
      after = record inner.after { at = p.after.at + length content; rest = drop (length content) p.after.rest };
      is = rw (p.is, inner.is) refl;
      left = ap (λ (l : List ℕ). drop (length content) l) p.left ∙ drop_at content rest (length content) refl;
      knows = inner.knows;
    }

-- the same, or what isn't in a package; then all that is left after it is left
pub gets_content : {A : Type 0} {m : Step A} {s : State} {a : A} {rest : List ℕ} {known after : List Arity} (b : Bool) (content spelling : List ℕ) → IsContent b content spelling → s.rest ≡ spelling ++ rest → s.arities ≡ known
    → ((s1 : State) (left : List ℕ) → (b ≡ true → left ≡ []) → s1.rest ≡ content ++ left → s1.arities ≡ known → Gets m s1 a left after) → Gets (packed b m) s a rest after
gets_content true content spelling h is ar i = gets_packed content spelling h is ar (λ s1 is1 ar1. i s1 [] (λ _. refl) (is1 ∙ sym (append-nil content)) ar1)
gets_content {s = s} {rest = rest} false content spelling h is ar i = i s rest (λ e. absurd (cc e)) (is ∙ ap (λ l. l ++ rest) h) ar

-- ---- texts

text_counts : (bs rest : List ℕ) → AllByRecursion (λ b. 0 < b) bs → prefix_len (λ b. nat_lt 0 b) (bs ++ 0 ∷ rest) ≡ length bs
text_counts [] rest h = refl
text_counts (b ∷ bs) rest h = rw (lt-ltb 0 b h.0, text_counts bs rest h.1) (omega arith)

pub gets_text : {s : State} {rest : List ℕ} {known : List Arity} (bs : List ℕ) → AllByRecursion (λ b. 0 < b) bs → s.rest ≡ (bs ++ 0 ∷ []) ++ rest → s.arities ≡ known → Gets text s bs rest known
unfolding text
gets_text {s = s} {rest = rest} bs some is ar =
    let whole : s.rest ≡ bs ++ 0 ∷ rest = is ∙ append_assoc bs (0 ∷ []) rest in
    let count : text_length s.rest ≡ length bs = length-prefix_len (λ b. nat_lt 0 b) s.rest ∙ ap (λ (l : List ℕ). prefix_len (λ b. nat_lt 0 b) l) whole ∙ text_counts bs rest some in
    let len : length (bs ++ 0 ∷ []) ≡ text_length s.rest + 1 = length-append bs (0 ∷ []) ∙ omega (arith, count) in
    gets_look (λ s. text_length s.rest) _ (gets_value (take_at bs (0 ∷ []) (text_length s.rest) (sym count)) (gets_map (take (text_length s.rest)) (gets_bytes (text_length s.rest + 1) (bs ++ 0 ∷ []) is len ar)))
