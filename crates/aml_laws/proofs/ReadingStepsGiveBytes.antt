-- The steps of reading terms leave bytes, and give bytes.
use Rattle.std.specs.Prelude.{◌≡◌, ℕ, zero, suc, ◌+◌, ◌==◌, nat_lt, List, [], ◌∷◌, length, take, drop, Bool, true, false, Ok, Err, refl, if◌then◌else◌}
use Rattle.std.proofs.Common.{arith, subst}
use Rattle.ar_space.specs.declared.refusal.Refusal.{Refusal}
use Rattle.ar_space.specs.declared.refusal.Refusal.TheVariants as refusals
use Rattle.ar_space.specs.declared.refusal.TermFault.TheVariants.{Truncated}
use Rattle.ar_space.specs.Outcome.{Outcome}
use Rattle.ar_space.specs.Change.{give, stop, settle, go_on, ◌>>=◌}
use Rattle.aml_path.specs.Characters.{is_lead_name_char, is_name_char}
use Rattle.aml_grammar.specs.State.{State, Step, look, past, byte_of, byte, peek_of, peek, next_bytes, all_bytes, text, integer, bit_count, size_after, package_size, narrow, enter, leave, times, until_of, until_end}
use Rattle.aml_grammar.specs.Names.{only, lead_name_char, name_char, segment, skipping, counted_segments, multiple_segments, segments_at, segments, carets, parents, rooted_name, relative_name, name_at, name_string}
use Rattle.aml_laws.specs.Plain.{AreBytes}

-- ---- lists of bytes

pub drop_bytes : (n : ℕ) (bs : List ℕ) → AreBytes bs → AreBytes (drop n bs)
drop_bytes zero bs h = h
drop_bytes (suc n) [] h = h
drop_bytes (suc n) (b ∷ bs) h = drop_bytes n bs (λ i. h (suc i))

pub take_bytes : (n : ℕ) (bs : List ℕ) → AreBytes bs → AreBytes (take n bs)
take_bytes zero bs h i = omega arith
take_bytes (suc n) [] h i = h i
take_bytes (suc n) (b ∷ bs) h zero = h 0
take_bytes (suc n) (b ∷ bs) h (suc i) = take_bytes n bs (λ j. h (suc j)) i

pub no_bytes : AreBytes []
no_bytes i = omega arith

-- ---- a step that leaves bytes, and gives what fits

abbrev pub Any : {A : Type 0} → A → Type 0
Any a = Unit {0}

pub record ReadsBytes {A : Type 0} (Fit : A → Type 0) (m : Step A) : Type 0 where
  pub rest : (s : State) → AreBytes s.rest → AreBytes (m s).1.rest
  pub gives : (s : State) → AreBytes s.rest → (a : A) → (m s).0 ≡ Ok a → Fit a

ok_fits : {A : Type 0} (P : A → Type 0) (x y : A) → ◌≡◌ {A = Outcome A} (Ok x) (Ok y) → P x → P y
ok_fits {A} P x y e h = let same : x ≡ y = cc e in subst P same h

module _ {A : Type 0} {Fit : A → Type 0} where
  pub give_reads_bytes : (a : A) → Fit a → ReadsBytes Fit (give a)
  unfolding give
  give_reads_bytes a fit = record { rest = λ s h. h; gives = λ s h b e. ok_fits Fit a b e fit }

  pub stop_reads_bytes : (e : Refusal) → ReadsBytes Fit (stop e)
  unfolding stop
  stop_reads_bytes e = record { rest = λ s h. h; gives = λ s h b is. absurd (cc is) }

  pub if_reads_bytes : (b : Bool) (m k : Step A) → ReadsBytes Fit m → ReadsBytes Fit k → ReadsBytes Fit (if b then m else k)
  if_reads_bytes true m k h i = h
  if_reads_bytes false m k h i = i

pub settle_reads_bytes : {A : Type 0} (x : Outcome A) → ReadsBytes Any (settle x)
unfolding settle
settle_reads_bytes x = record { rest = λ s h. h; gives = λ s h b e. tt }

pub look_reads_bytes : {A : Type 0} (f : State → A) → ReadsBytes Any (look f)
unfolding look
look_reads_bytes f = record { rest = λ s h. h; gives = λ s h b e. tt }

module _ {A B : Type 0} {Fit : A → Type 0} {Fits : B → Type 0} where
  go_on_rest : (r : Outcome A) (s : State) (k : A → Step B) → ((a : A) → r ≡ Ok a → Fit a) → ((a : A) → Fit a → ReadsBytes Fits (k a)) → AreBytes s.rest → AreBytes (go_on r s k).1.rest
  unfolding go_on
  go_on_rest (Ok a) s k f h b = (h a (f a refl)).rest s b
  go_on_rest (Err e) s k f h b = b

  go_on_gives : (r : Outcome A) (s : State) (k : A → Step B) → ((a : A) → r ≡ Ok a → Fit a) → ((a : A) → Fit a → ReadsBytes Fits (k a)) → AreBytes s.rest → (x : B) → (go_on r s k).0 ≡ Ok x → Fits x
  unfolding go_on
  go_on_gives (Ok a) s k f h b x e = (h a (f a refl)).gives s b x e
  go_on_gives (Err e) s k f h b x is = absurd (cc is)

  pub then_reads_bytes : (m : Step A) (k : A → Step B) → ReadsBytes Fit m → ((a : A) → Fit a → ReadsBytes Fits (k a)) → ReadsBytes Fits (m >>= k)
  unfolding ◌>>=◌
  then_reads_bytes m k h i = record { rest = λ s b. go_on_rest (m s).0 (m s).1 k (h.gives s b) i (h.rest s b); gives = λ s b. go_on_gives (m s).0 (m s).1 k (h.gives s b) i (h.rest s b) }

-- ---- bytes

byte_of_rest : (bs : List ℕ) (s : State) → AreBytes bs → AreBytes s.rest → AreBytes (byte_of bs s).1.rest
byte_of_rest [] s h r = r
byte_of_rest (b ∷ bs) s h r = λ i. h (suc i)

pub byte_reads_bytes : ReadsBytes Any byte
unfolding byte
byte_reads_bytes = record { rest = λ s h. byte_of_rest s.rest s h h; gives = λ s h b e. tt }

peek_of_rest : (bs : List ℕ) (s : State) → AreBytes s.rest → AreBytes (peek_of bs s).1.rest
peek_of_rest [] s h = h
peek_of_rest (b ∷ bs) s h = h

pub peek_reads_bytes : ReadsBytes Any peek
unfolding peek
peek_reads_bytes = record { rest = λ s h. peek_of_rest s.rest s h; gives = λ s h b e. tt }

next_bytes_rest : (b : Bool) (e : Refusal) (n : ℕ) (s : State) → AreBytes s.rest → AreBytes (if◌then◌else◌ {A = Outcome (List ℕ) × State} b (Err e, s) (Ok (take n s.rest), past n s)).1.rest
next_bytes_rest true e n s h = h
next_bytes_rest false e n s h = drop_bytes n s.rest h

next_bytes_are_bytes : (b : Bool) (e : Refusal) (n : ℕ) (s : State) (bs : List ℕ) → AreBytes s.rest → (if◌then◌else◌ {A = Outcome (List ℕ) × State} b (Err e, s) (Ok (take n s.rest), past n s)).0 ≡ Ok bs → AreBytes bs
next_bytes_are_bytes true e n s bs h is = absurd (cc is)
next_bytes_are_bytes false e n s bs h is = ok_fits AreBytes (take n s.rest) bs is (take_bytes n s.rest h)

pub next_bytes_reads_bytes : (n : ℕ) → ReadsBytes AreBytes (next_bytes n)
unfolding next_bytes
next_bytes_reads_bytes n = record { rest = λ s h. next_bytes_rest (nat_lt (length s.rest) n) (refusals.Term Truncated (s.at + length s.rest)) n s h; gives = λ s h bs e. next_bytes_are_bytes (nat_lt (length s.rest) n) (refusals.Term Truncated (s.at + length s.rest)) n s bs h e }

pub all_bytes_reads_bytes : ReadsBytes AreBytes all_bytes
unfolding all_bytes
all_bytes_reads_bytes = record { rest = λ s h. no_bytes; gives = λ s h bs e. ok_fits AreBytes s.rest bs e h }

pub text_reads_bytes : ReadsBytes AreBytes text
unfolding text
text_reads_bytes = then_reads_bytes _ _ (look_reads_bytes _) (λ n u. then_reads_bytes _ _ (next_bytes_reads_bytes (n + 1)) (λ bs h. give_reads_bytes _ (take_bytes n bs h)))

pub integer_reads_bytes : (n : ℕ) → ReadsBytes Any (integer n)
unfolding integer
integer_reads_bytes n = then_reads_bytes _ _ (next_bytes_reads_bytes n) (λ bs h. give_reads_bytes _ tt)

pub bit_count_reads_bytes : ReadsBytes Any bit_count
unfolding bit_count
bit_count_reads_bytes = then_reads_bytes _ _ byte_reads_bytes (λ lead u. then_reads_bytes _ _ (integer_reads_bytes _) (λ more v. give_reads_bytes _ tt))

size_after_rest : (b : Bool) (r q : Outcome ℕ) (s : State) → AreBytes s.rest → AreBytes (if◌then◌else◌ {A = Outcome ℕ × State} b (r, s) (q, s)).1.rest
size_after_rest true r q s h = h
size_after_rest false r q s h = h

size_after_reads_bytes : (start spent total : ℕ) → ReadsBytes Any (size_after start spent total)
unfolding size_after
size_after_reads_bytes start spent total = record { rest = λ s h. size_after_rest _ _ _ s h; gives = λ s h b e. tt }

package_size_reads_bytes : ReadsBytes Any package_size
unfolding package_size
package_size_reads_bytes = then_reads_bytes _ _ (look_reads_bytes _) (λ start u. then_reads_bytes _ _ byte_reads_bytes (λ lead v. then_reads_bytes _ _ (integer_reads_bytes _) (λ more x. size_after_reads_bytes _ _ _)))

-- what stands after a package are bytes
abbrev pub Outer : ℕ × List ℕ → Type 0
Outer x = AreBytes x.1

narrow_reads_bytes : (n : ℕ) → ReadsBytes Outer (narrow n)
narrow_reads_bytes n = record { rest = λ s h. take_bytes n s.rest h; gives = λ s h x e. ok_fits Outer _ x e (drop_bytes n s.rest h) }

pub enter_reads_bytes : ReadsBytes Outer enter
unfolding enter
enter_reads_bytes = then_reads_bytes _ _ package_size_reads_bytes (λ n u. narrow_reads_bytes n)

pub leave_reads_bytes : {A : Type 0} {Fit : A → Type 0} (outer : ℕ × List ℕ) (a : A) → Outer outer → Fit a → ReadsBytes Fit (leave outer a)
leave_reads_bytes {Fit = Fit} outer a h fit = record { rest = λ s b. h; gives = λ s b x e. ok_fits Fit a x e fit }

-- ---- again and again

abbrev pub Each : {A : Type 0} → (A → Type 0) → List A → Type 0
Each Fit [] = Unit {0}
Each Fit (x ∷ xs) = Fit x × Each Fit xs

module _ {A : Type 0} {Fit : A → Type 0} (m : Step A) (h : ReadsBytes Fit m) where
  pub times_reads_bytes : (n : ℕ) → ReadsBytes (Each Fit) (times m n)
  unfolding times
  times_reads_bytes zero = give_reads_bytes _ tt
  times_reads_bytes (suc n) = then_reads_bytes _ _ h (λ x fx. then_reads_bytes _ _ (times_reads_bytes n) (λ xs fxs. give_reads_bytes _ (fx, fxs)))

  until_of_reads_bytes : (more : Step (List A)) → ReadsBytes (Each Fit) more → (bs : List ℕ) → ReadsBytes (Each Fit) (until_of m more bs)
  until_of_reads_bytes more i [] = give_reads_bytes _ tt
  until_of_reads_bytes more i (b ∷ bs) = then_reads_bytes _ _ h (λ x fx. then_reads_bytes _ _ i (λ xs fxs. give_reads_bytes _ (fx, fxs)))

  pub until_end_reads_bytes : (n : ℕ) → ReadsBytes (Each Fit) (until_end m n)
  unfolding until_end
  until_end_reads_bytes zero = record { rest = λ s b. b; gives = λ s b x e. ok_fits (Each Fit) [] x e tt }
  until_end_reads_bytes (suc n) = record { rest = λ s b. (until_of_reads_bytes _ (until_end_reads_bytes n) s.rest).rest s b; gives = λ s b. (until_of_reads_bytes _ (until_end_reads_bytes n) s.rest).gives s b }

-- ---- names

only_reads_bytes : (test : ℕ → Bool) (b : ℕ) → ReadsBytes Any (only test b)
only_reads_bytes test b = if_reads_bytes (test b) _ _ (give_reads_bytes _ tt) (stop_reads_bytes _)

lead_name_char_reads_bytes : ReadsBytes Any lead_name_char
unfolding lead_name_char
lead_name_char_reads_bytes = then_reads_bytes _ _ byte_reads_bytes (λ b u. only_reads_bytes is_lead_name_char b)

name_char_reads_bytes : ReadsBytes Any name_char
unfolding name_char
name_char_reads_bytes = then_reads_bytes _ _ byte_reads_bytes (λ b u. only_reads_bytes is_name_char b)

pub segment_reads_bytes : ReadsBytes Any segment
unfolding segment
segment_reads_bytes = then_reads_bytes _ _ lead_name_char_reads_bytes (λ a u. then_reads_bytes _ _ name_char_reads_bytes (λ b v. then_reads_bytes _ _ name_char_reads_bytes (λ c w. then_reads_bytes _ _ name_char_reads_bytes (λ d x. settle_reads_bytes _))))

pub skipping_reads_bytes : {A : Type 0} {Fit : A → Type 0} (m : Step A) → ReadsBytes Fit m → ReadsBytes Fit (skipping m)
skipping_reads_bytes m h = then_reads_bytes _ _ byte_reads_bytes (λ b u. h)

pub any_reads_bytes : {A : Type 0} {Fit : A → Type 0} (m : Step A) → ReadsBytes Fit m → ReadsBytes Any m
any_reads_bytes m h = record { rest = h.rest; gives = λ s b a e. tt }

counted_segments_reads_bytes : (n : ℕ) → ReadsBytes Any (counted_segments n)
counted_segments_reads_bytes n = if_reads_bytes (n == 0) _ _ (stop_reads_bytes _) (any_reads_bytes _ (times_reads_bytes _ segment_reads_bytes n))

multiple_segments_reads_bytes : ReadsBytes Any multiple_segments
unfolding multiple_segments
multiple_segments_reads_bytes = then_reads_bytes _ _ byte_reads_bytes (λ n u. counted_segments_reads_bytes n)

segments_at_reads_bytes : (b : ℕ) → ReadsBytes Any (segments_at b)
segments_at_reads_bytes b =
    if_reads_bytes (b == 0) _ _ (skipping_reads_bytes _ (give_reads_bytes _ tt)) (if_reads_bytes (b == 46) _ _ (skipping_reads_bytes _ (any_reads_bytes _ (times_reads_bytes _ segment_reads_bytes 2))) (if_reads_bytes (b == 47) _ _ (skipping_reads_bytes _ multiple_segments_reads_bytes) (any_reads_bytes _ (times_reads_bytes _ segment_reads_bytes 1))))

segments_reads_bytes : ReadsBytes Any segments
unfolding segments
segments_reads_bytes = then_reads_bytes _ _ peek_reads_bytes (λ b u. segments_at_reads_bytes b)

parents_reads_bytes : ReadsBytes Any parents
unfolding parents
parents_reads_bytes = record { rest = λ s h. drop_bytes (carets s.rest) s.rest h; gives = λ s h n e. tt }

rooted_name_reads_bytes : ReadsBytes Any rooted_name
unfolding rooted_name
rooted_name_reads_bytes = then_reads_bytes _ _ byte_reads_bytes (λ b u. then_reads_bytes _ _ segments_reads_bytes (λ ss v. give_reads_bytes _ tt))

relative_name_reads_bytes : ReadsBytes Any relative_name
unfolding relative_name
relative_name_reads_bytes = then_reads_bytes _ _ parents_reads_bytes (λ n u. then_reads_bytes _ _ segments_reads_bytes (λ ss v. give_reads_bytes _ tt))

name_at_reads_bytes : (b : ℕ) → ReadsBytes Any (name_at b)
name_at_reads_bytes b = if_reads_bytes (b == 0) _ _ (stop_reads_bytes _) (if_reads_bytes (b == 92) _ _ rooted_name_reads_bytes relative_name_reads_bytes)

pub name_string_reads_bytes : ReadsBytes Any name_string
unfolding name_string
name_string_reads_bytes = then_reads_bytes _ _ peek_reads_bytes (λ b u. name_at_reads_bytes b)
