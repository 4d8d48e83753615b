-- What is left ends where it ended, whatever a step reads of it.
use Rattle.std.proofs.Common.{◌≡◌, ℕ, zero, suc, ◌+◌, ◌-◌, ◌/◌, ◌≤◌, List, [], ◌∷◌, length, drop, take, Bool, true, false, Ok, Err, refl, ◌∙◌, sym, ap, length-drop, arith}
use Rattle.std.specs.Prelude.{nat_lt, ◌==◌, ◌||◌, if◌then◌else◌}
use Rattle.std.specs.List.{prefix_len}
use Rattle.std.proofs.lemmas.Bool.{ltb-false}
use Rattle.std.proofs.lemmas.List.Folds.{length-prefix_len}
use Rattle.std.proofs.lemmas.List.Sums.{prefix_len-le-length}
use Rattle.ar_space.specs.Outcome.{Outcome}
use Rattle.ar_space.specs.Change.{give, stop, settle, go_on, ◌>>=◌}
use Rattle.ar_space.specs.declared.refusal.Refusal.{Refusal}
use Rattle.ar_space.specs.declared.refusal.Refusal.TheVariants as refusals
use Rattle.ar_space.specs.declared.refusal.NameFault.TheVariants.{BadName}
use Rattle.aml_path.specs.Segments.{seg_of}
use Rattle.aml_path.specs.declared.name.Prefix.TheVariants.{Root, Parents}
use Rattle.aml_grammar.specs.State.{State, Step, look, past, byte, byte_of, peek, peek_of, next_bytes, all_bytes, text_length, text, little_endian, integer, length_of, bit_count, size_after, package_size, enter, narrow, leave, times, until_of, until_end}
use Rattle.aml_grammar.specs.Names.{only, lead_name_char, name_char, segment, segments, segments_at, multiple_segments, parents, carets, rooted_name, relative_name, name_string}
use Rattle.aml_grammar.specs.Grammar.{packed}
use Rattle.aml_scan.proofs.Takes.{Gave, same_value, same_state, refused, both}
use Rattle.aml_spelling.proofs.FaultLengths.{takes_size}

-- Where the step gives a value, what is left ends where it ended.
pub record Ends {A : Type 0} (m : Step A) (s : State) : Type 0 where
  pub is : (a : A) (s2 : State) → m s ≡ (Ok a, s2) → s2.at + length s2.rest ≡ s.at + length s.rest

pub ends_then : {A B : Type 0} {m : Step A} {k : A → Step B} {s : State} → Ends m s → ((a : A) (s1 : State) → Ends (k a) s1) → Ends (m >>= k) s
ends_then {m = m} {k = k} {s = s} h i = record { is = λ b s2 e. let p = both m k s b s2 e in (i p.0 p.1).is b s2 p.3 ∙ h.is p.0 p.1 p.2 }

pub ends_kept : {s s2 : State} → s ≡ s2 → s2.at + length s2.rest ≡ s.at + length s.rest
ends_kept e = ap (λ (t : State). t.at + length t.rest) (sym e)

pub ends_give : {A : Type 0} {s : State} (a : A) → Ends (give a) s
unfolding give
ends_give a = record { is = λ b s2 e. ends_kept (same_state e) }

pub ends_map : {A B : Type 0} {m : Step A} {s : State} (g : A → B) → Ends m s → Ends (m >>= (λ a. give (g a))) s
ends_map g h = ends_then h (λ a s1. ends_give (g a))

pub ends_stop : {A : Type 0} {s : State} (r : Refusal) → Ends {A = A} (stop r) s
unfolding stop
ends_stop r = record { is = λ b s2 e. absurd (refused e) }

pub ends_look : {A B : Type 0} {s : State} (f : State → A) (k : A → Step B) → Ends (k (f s)) s → Ends (look f >>= k) s
unfolding ◌>>=◌ go_on look
ends_look f k h = record { is = λ b s2 e. h.is b s2 e }

pub ends_settle : {A B : Type 0} (x : Outcome A) {k : A → Step B} {s : State} → ((a : A) → Ends (k a) s) → Ends (settle x >>= k) s
unfolding ◌>>=◌ go_on settle
ends_settle (Ok a) h = record { is = λ b s2 e. (h a).is b s2 e }
ends_settle (Err r) h = record { is = λ b s2 e. absurd (refused e) }

pub ends_settled : {A : Type 0} (x : Outcome A) (s : State) → Ends (settle x) s
unfolding settle
ends_settled x s = record { is = λ b s2 e. ap (λ (q : Outcome _ × State). q.1.at + length q.1.rest) (sym e) }

pub ends_if : {A : Type 0} {m n : Step A} {s : State} (b : Bool) → Ends m s → Ends n s → Ends (if b then m else n) s
ends_if true h i = h
ends_if false h i = i

pub ends_as : {A : Type 0} {m n : Step A} {s : State} → m s ≡ n s → Ends n s → Ends m s
ends_as same h = record { is = λ a s2 e. h.is a s2 (sym same ∙ e) }

-- ---- bytes and numbers

one_on : (n l : ℕ) → (n + 1) + l ≡ n + suc l
one_on n l = omega arith

byte_ends : (bs : List ℕ) (s : State) (b : ℕ) (s2 : State) → s.rest ≡ bs → byte_of bs s ≡ (Ok b, s2) → s2.at + length s2.rest ≡ s.at + length s.rest
byte_ends [] s b s2 is e = absurd (refused e)
byte_ends (c ∷ bs) s b s2 is e = ap (λ (t : State). t.at + length t.rest) (sym (same_state e)) ∙ one_on s.at (length bs) ∙ ap (λ (l : List ℕ). s.at + length l) (sym is)

pub ends_byte : (s : State) → Ends byte s
unfolding byte
ends_byte s = record { is = λ b s2 e. byte_ends s.rest s b s2 refl e }

peeked : {B : Type 0} (bs : List ℕ) (k : ℕ → Step B) (s : State) → ((b : ℕ) → Ends (k b) s) → Ends ((λ s. peek_of bs s) >>= k) s
unfolding ◌>>=◌ go_on
peeked [] k s h = record { is = λ b s2 e. absurd (refused e) }
peeked (b ∷ bs) k s h = record { is = λ c s2 e. (h b).is c s2 e }

pub ends_peek : {B : Type 0} {k : ℕ → Step B} {s : State} → ((b : ℕ) → Ends (k b) s) → Ends (peek >>= k) s
unfolding ◌>>=◌ go_on peek
ends_peek {k = k} {s = s} h = record { is = λ b s2 e. (peeked s.rest k s h).is b s2 e }

past_ends : (n at l : ℕ) (bs : List ℕ) → n ≤ length bs → (at + n) + length (drop n bs) ≡ at + length bs
past_ends n at l bs le = let d : length (drop n bs) ≡ length bs - n = length-drop n bs in omega (arith, d, le)

bytes_end : (n : ℕ) (s : State) (few : Bool) (r : Refusal) (bs : List ℕ) (s2 : State) → nat_lt (length s.rest) n ≡ few → Gave (if few then (Err r, s) else (Ok (take n s.rest), past n s)) bs s2 → s2.at + length s2.rest ≡ s.at + length s.rest
bytes_end n s true r bs s2 is e = absurd (refused e)
bytes_end n s false r bs s2 is e = ap (λ (t : State). t.at + length t.rest) (sym (same_state e)) ∙ past_ends n s.at 0 s.rest (ltb-false (length s.rest) n is)

pub ends_bytes : (n : ℕ) (s : State) → Ends (next_bytes n) s
unfolding next_bytes
ends_bytes n s = record { is = λ bs s2 e. bytes_end n s (nat_lt (length s.rest) n) _ bs s2 refl e }

pub ends_all : (s : State) → Ends all_bytes s
unfolding all_bytes
ends_all s = record { is = λ bs s2 e. ap (λ (t : State). t.at + length t.rest) (sym (same_state e)) ∙ omega arith }

pub ends_integer : (n : ℕ) (s : State) → Ends (integer n) s
unfolding integer
ends_integer n s = ends_map little_endian (ends_bytes n s)

pub ends_bit_count : (s : State) → Ends bit_count s
unfolding bit_count
ends_bit_count s = ends_then (ends_byte s) (λ lead s1. ends_map (length_of lead) (ends_integer (lead / 64) s1))

pub ends_text : (s : State) → Ends text s
unfolding text
ends_text s = ends_look (λ s. text_length s.rest) _ (ends_map _ (ends_bytes _ s))

-- ---- packages

size_ends : (c : Bool) (r : Refusal) (a n : ℕ) (s s2 : State) → Gave (if c then (Err r, s) else (Ok a, s)) n s2 → s2.at + length s2.rest ≡ s.at + length s.rest
size_ends true r a n s s2 e = absurd (refused e)
size_ends false r a n s s2 e = ends_kept (same_state e)

ends_size_after : (start spent total : ℕ) (s : State) → Ends (size_after start spent total) s
unfolding size_after
ends_size_after start spent total s = record { is = λ n s2 e. size_ends (nat_lt total spent || nat_lt (length s.rest) (total - spent)) _ _ n s s2 e }

pub ends_size : (s : State) → Ends package_size s
unfolding package_size
ends_size s = ends_look (λ s. s.at) _ (ends_then (ends_byte s) (λ lead s1. ends_then (ends_integer (lead / 64) s1) (λ more s2. ends_size_after s.at (lead / 64 + 1) (length_of lead more) s2)))

left_ends : {A : Type 0} (x a : A) (s0 s1 s3 s2 : State) (n : ℕ) (outer : ℕ × List ℕ) → Gave (narrow n s0) outer s1 → Gave (leave outer x s3) a s2 → n ≤ length s0.rest → s2.at + length s2.rest ≡ s0.at + length s0.rest
left_ends x a s0 s1 s3 s2 n outer into out le =
    let o : (s0.at + n, drop n s0.rest) ≡ outer = same_value into in
    ap (λ (t : State). t.at + length t.rest) (sym (same_state out)) ∙ ap (λ (q : ℕ × List ℕ). q.0 + length q.1) (sym o) ∙ past_ends n s0.at 0 s0.rest le

pub ends_packed : {A : Type 0} (b : Bool) (m : Step A) → ((s : State) → Ends m s) → (s : State) → Ends (packed b m) s
unfolding enter
ends_packed false m h s = h s
ends_packed true m h s = record {
  is = λ a s2 e.
      let p = both enter (λ outer. m >>= (λ x. leave outer x)) s a s2 e in
      let q = both package_size (λ n. narrow n) s p.0 p.1 p.2 in
      let r = both m (λ x. leave p.0 x) p.1 a s2 p.3 in
      let size = (takes_size s).is q.0 q.1 q.2 in
      left_ends r.0 a q.1 p.1 r.1 s2 q.0 p.0 q.3 r.3 size.2.1 ∙ (ends_size s).is q.0 q.1 q.2;
}

-- ---- one step again and again

pub ends_times : {A : Type 0} (m : Step A) → ((s : State) → Ends m s) → (n : ℕ) (s : State) → Ends (times m n) s
unfolding times
ends_times m h zero s = ends_give []
ends_times m h (suc n) s = ends_then (h s) (λ x s1. ends_map (λ xs. x ∷ xs) (ends_times m h n s1))

until_of_ends : {A : Type 0} (m : Step A) (more : Step (List A)) → ((s : State) → Ends m s) → ((s : State) → Ends more s) → (rs : List ℕ) (s : State) → Ends (until_of m more rs) s
until_of_ends m more h i [] s = ends_give []
until_of_ends m more h i (b ∷ rs) s = ends_then (h s) (λ x s1. ends_map (λ xs. x ∷ xs) (i s1))

pub ends_until : {A : Type 0} (m : Step A) → ((s : State) → Ends m s) → (n : ℕ) (s : State) → Ends (until_end m n) s
unfolding until_end give
ends_until m h zero s = ends_as {n = give []} refl (ends_give [])
ends_until m h (suc n) s = ends_as {n = until_of m (until_end m n) s.rest} refl (until_of_ends m (until_end m n) h (ends_until m h n) s.rest s)

-- ---- names

pub ends_only : (test : ℕ → Bool) (s : State) → Ends (byte >>= only test) s
ends_only test s = ends_then (ends_byte s) (λ b s1. ends_if (test b) (ends_give b) (ends_stop (refusals.Name BadName)))

pub ends_segment : (s : State) → Ends segment s
unfolding segment lead_name_char name_char
ends_segment s = ends_then (ends_only _ s) (λ a s1. ends_then (ends_only _ s1) (λ b s2. ends_then (ends_only _ s2) (λ c s3. ends_then (ends_only _ s3) (λ d s4. ends_settled (seg_of (a ∷ b ∷ c ∷ d ∷ [])) s4))))

ends_segments_at : (b : ℕ) (s : State) → Ends (segments_at b) s
unfolding multiple_segments
ends_segments_at b s =
    ends_if (b == 0) (ends_then (ends_byte s) (λ c s1. ends_give []))
    (ends_if (b == 46) (ends_then (ends_byte s) (λ c s1. ends_times segment ends_segment 2 s1))
    (ends_if (b == 47) (ends_then (ends_byte s) (λ c s1. ends_then (ends_byte s1) (λ n s2. ends_if (n == 0) (ends_stop (refusals.Name BadName)) (ends_times segment ends_segment n s2))))
    (ends_times segment ends_segment 1 s)))

pub ends_segments : (s : State) → Ends segments s
unfolding segments
ends_segments s = ends_peek (λ b. ends_segments_at b s)

pub ends_parents : (s : State) → Ends parents s
unfolding parents
ends_parents s = record {
  is = λ n s2 e.
      let k : carets s.rest ≡ prefix_len (λ b. b == 94) s.rest = length-prefix_len (λ b. b == 94) s.rest in
      let le : prefix_len (λ b. b == 94) s.rest ≤ length s.rest = prefix_len-le-length (λ b. b == 94) s.rest in
      ap (λ (t : State). t.at + length t.rest) (sym (same_state e)) ∙ past_ends (carets s.rest) s.at 0 s.rest (omega (arith, k, le));
}

pub ends_name : (s : State) → Ends name_string s
unfolding name_string rooted_name relative_name
ends_name s = ends_peek (λ b. ends_if (b == 0) (ends_stop (refusals.Name BadName)) (ends_if (b == 92)
    (ends_then (ends_byte s) (λ c s1. ends_map (λ ss. record { prefix = Root; segments = ss }) (ends_segments s1)))
    (ends_then (ends_parents s) (λ n s1. ends_map (λ ss. record { prefix = Parents n; segments = ss }) (ends_segments s1)))))
