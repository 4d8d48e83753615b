-- Names: how far they go is known of their first bytes, and a segment alone is a name.
use Rattle.std.proofs.Common.{◌≡◌, ℕ, ◌+◌, ◌*◌, ◌<◌, ◌≤◌, List, [], ◌∷◌, length, drop, Bool, true, false, Ok, refl, ◌∙◌, sym, ap, add-zero, length-take, arith}
use Rattle.std.specs.Prelude.{◌==◌, if◌then◌else◌}
use Rattle.std.specs.List.{prefix_len}
use Rattle.std.proofs.lemmas.Bool.{eqb-true}
use Rattle.ar_space.specs.Outcome.{Outcome}
use Rattle.ar_space.specs.Change.{give, stop, ◌>>=◌}
use Rattle.aml_path.specs.Characters.{is_lead_name_char, is_name_char}
use Rattle.aml_path.specs.Segments.{seg_of}
use Rattle.aml_path.specs.Paths.{Name}
use Rattle.aml_path.specs.declared.segment.Seg.{Seg}
use Rattle.aml_path.specs.declared.name.Prefix.TheVariants.{Parents}
use Rattle.aml_grammar.specs.State.{State, Step, bad_name, byte, peek, peek_of, past, times}
use Rattle.aml_grammar.specs.Names.{only, lead_name_char, name_char, segment, multiple_segments, segments_at, segments, carets, parents, rooted_name, relative_name, name_at, name_string}
use Rattle.aml_grammar.specs.Operands.{one_segment}
use Rattle.aml_marks.specs.Marked.{place_of, over, first, or_root, prefix_length, segments_length, name_length, a_name}
use Rattle.aml_marks.proofs.Follows.{same_value, refused, both, FollowsBy, goes_same}
use Rattle.aml_marks.proofs.Moves.{Moves, bind_is, moves_as, moves_then, moves_give, moves_stop, moves_settle, moves_byte, byte_is, moves_peek, moves_times, Takes, takes_moves}

-- ---- segments

only_if : (b : ℕ) (s : State) (c : Bool) → Moves 0 (if c then give b else bad_name) s
only_if b s true = moves_give b
only_if b s false = moves_stop _

moves_lead : (s : State) → Moves 1 lead_name_char s
unfolding lead_name_char
moves_lead s = moves_then (moves_byte s) (λ b t e is. only_if b t (is_lead_name_char b))

moves_char : (s : State) → Moves 1 name_char s
unfolding name_char
moves_char s = moves_then (moves_byte s) (λ b t e is. only_if b t (is_name_char b))

moves_segment : (s : State) → Moves 4 segment s
unfolding segment
moves_segment s = moves_then (moves_lead s) (λ a s1 e is. moves_then (moves_char s1) (λ b s2 e is. moves_then (moves_char s2) (λ c s3 e is. moves_then (moves_char s3) (λ d s4 e is. moves_settle (seg_of (a ∷ b ∷ c ∷ d ∷ []))))))

counted_if : (n : ℕ) (s : State) (none : Bool) → Moves (4 * n) (if none then bad_name else times segment n) s
counted_if n s true = moves_stop _
counted_if n s false = moves_times 4 n s moves_segment

moves_multiple : (s : State) → Moves (1 + 4 * first s.rest) multiple_segments s
unfolding multiple_segments
moves_multiple s = moves_then (moves_byte s) (λ n t e is. moves_as (ap (λ k. 4 * k) (byte_is s n t e)) (counted_if n t (n == 0)))

skips : {A : Type 0} {m : Step A} {s : State} (n : ℕ) → ((t : State) → t ≡ past 1 s → Moves n m t) → Moves (1 + n) (byte >>= (λ skipped. m)) s
skips {s = s} n h = moves_then (moves_byte s) (λ b t e is. h t is)

segments_if : (b : ℕ) (s : State) (none two many : Bool) → Moves (if none then 1 else (if two then 9 else (if many then 2 + 4 * first (drop 1 s.rest) else 4))) (if none then (byte >>= (λ skipped. give [])) else (if two then (byte >>= (λ skipped. times segment 2)) else (if many then (byte >>= (λ skipped. multiple_segments)) else times segment 1))) s
segments_if b s true two many = skips 0 (λ t is. moves_give [])
segments_if b s false true many = skips 8 (λ t is. moves_times 4 2 t moves_segment)
segments_if b s false false true = moves_as (omega arith) (skips (1 + 4 * first (drop 1 s.rest)) (λ t is. moves_as (ap (λ (u : State). 1 + 4 * first u.rest) is) (moves_multiple t)))
segments_if b s false false false = moves_times 4 1 s moves_segment

moves_segments : (s : State) → Moves (segments_length s.rest) segments s
unfolding segments
moves_segments s = moves_peek (λ b is. moves_as (rw is refl) (segments_if b s (b == 0) (b == 46) (b == 47)))

-- ---- names

carets_within : (bs : List ℕ) → carets bs ≤ length bs
carets_within bs = omega (arith, length-take (prefix_len (λ b. b == 94) bs) bs)

moves_parents : (s : State) → Moves (carets s.rest) parents s
unfolding parents
moves_parents s = record { is = λ n t e. rw (← same_value e) (sym (ap (λ q. q.1) e), carets_within s.rest, refl) }

with_segments : {A : Type 0} (s : State) (n : ℕ) (t : State) (make : List Seg → A) → t ≡ past n s → Moves (segments_length (drop n s.rest)) (segments >>= (λ ss. give (make ss))) t
with_segments s n t make is = moves_as (omega (arith, ap (λ (u : State). segments_length u.rest) is)) (moves_then (moves_segments t) (λ ss u e is. moves_give (make ss)))

moves_rooted : (s : State) → Moves (1 + segments_length (drop 1 s.rest)) rooted_name s
unfolding rooted_name
moves_rooted s = moves_then (moves_byte s) (λ root t e is. with_segments s 1 t _ is)

moves_relative : (s : State) → Moves (carets s.rest + segments_length (drop (carets s.rest) s.rest)) relative_name s
unfolding relative_name
moves_relative s = moves_then (moves_parents s) (λ n t e is. with_segments s (carets s.rest) t _ is)

name_if : (s : State) (none root : Bool) → (first s.rest == 92) ≡ root → Moves (name_length s.rest) (if none then bad_name else (if root then rooted_name else relative_name)) s
name_if s true root is = moves_stop _
name_if s false true is = moves_as (rw is refl) (moves_rooted s)
name_if s false false is = moves_as (rw is refl) (moves_relative s)

moves_name : (s : State) → Moves (name_length s.rest) name_string s
unfolding name_string
moves_name s = moves_peek (λ b is. name_if s (b == 0) (b == 92) (ap (λ c. c == 92) is))

pub takes_name : (s : State) → Takes name_string a_name s
unfolding a_name
takes_name s = takes_moves (name_length s.rest) a_name (moves_name s) (λ n t e. ap (λ (r : Outcome Name × State). (or_root r.0, over (name_length s.rest) (place_of s))) ((moves_name s).is n t e).2)

segments_some : (bs : List ℕ) (none two many : Bool) → 1 ≤ (if none then 1 else (if two then 9 else (if many then 2 + 4 * first (drop 1 bs) else 4)))
segments_some bs true two many = omega arith
segments_some bs false true many = omega arith
segments_some bs false false true = omega arith
segments_some bs false false false = omega arith

-- a name has at least one byte
pub name_longer : (s : State) (n : Name) (t : State) → name_string s ≡ (Ok n, t) → s.at < t.at
name_longer s n t e =
    let at_t : t.at ≡ s.at + name_length s.rest = ap (λ (u : State). u.at) ((moves_name s).is n t e).0 in
    let behind = drop (prefix_length s.rest) s.rest in
    let some : 1 ≤ segments_length behind = segments_some behind (first behind == 0) (first behind == 46) (first behind == 47) in
    omega (arith, at_t, some)

-- ---- the name of a field

lead_if : (c n : ℕ) (b : Bool) → (c == n) ≡ b → is_lead_name_char c ≡ true → is_lead_name_char n ≡ false → b ≡ false
lead_if c n true is lead other = let wrong : true ≡ false = sym lead ∙ ap is_lead_name_char (eqb-true c n is) ∙ other in absurd (cc wrong)
lead_if c n false is lead other = refl

lead_not : (c n : ℕ) → is_lead_name_char c ≡ true → is_lead_name_char n ≡ false → (c == n) ≡ false
lead_not c n lead other = lead_if c n (c == n) refl lead other

only_is : (b a : ℕ) (s t : State) (c : Bool) → (if c then give b else bad_name) s ≡ (Ok a, t) → c ≡ true
unfolding stop
only_is b a s t true e = refl
only_is b a s t false e = absurd (refused e)

begins_with_lead : (s : State) (g : Seg) (t : State) → segment s ≡ (Ok g, t) → is_lead_name_char (first s.rest) ≡ true
unfolding segment lead_name_char
begins_with_lead s g t e =
    let p = both (byte >>= only is_lead_name_char) _ s g t e in
    let q = both byte (only is_lead_name_char) s p.0 p.1 p.2 in
    ap is_lead_name_char (sym (byte_is s q.0 q.1 q.2)) ∙ only_is q.0 p.0 q.1 p.1 (is_lead_name_char q.0) q.3

peek_is : (s : State) (bs : List ℕ) → s.rest ≡ bs → 1 ≤ length bs → peek_of bs s ≡ (Ok (first s.rest), s)
peek_is s [] is some = absurd (omega (arith, some))
peek_is s (c ∷ bs) is some = rw is refl

no_carets : (bs : List ℕ) → (first bs == 94) ≡ false → 1 ≤ length bs → carets bs ≡ 0
no_carets [] is some = refl
no_carets (c ∷ bs) is some = rw is refl

parents_none : (s : State) → carets s.rest ≡ 0 → parents s ≡ (Ok 0, s)
unfolding parents
parents_none s is = rw (is, add-zero) refl

peeks : {A : Type 0} (k : ℕ → Step A) (s : State) → 1 ≤ length s.rest → (peek >>= k) s ≡ k (first s.rest) s
unfolding peek
peeks k s some = bind_is peek k (peek_is s s.rest refl some)

one_given : (s t : State) (g : Seg) → segment s ≡ (Ok g, t) → times segment 1 s ≡ (Ok (g ∷ []), t)
unfolding times give
one_given s t g e = bind_is segment (λ x. times segment 0 >>= (λ xs. give (x ∷ xs))) e ∙ bind_is (times segment 0) (λ xs. give (g ∷ xs)) refl

segments_given : (s t : State) (g : Seg) → is_lead_name_char (first s.rest) ≡ true → 1 ≤ length s.rest → segment s ≡ (Ok g, t) → segments s ≡ (Ok (g ∷ []), t)
unfolding segments
segments_given s t g lead some e = peeks segments_at s some ∙ rw (lead_not (first s.rest) 0 lead refl, lead_not (first s.rest) 46 lead refl, lead_not (first s.rest) 47 lead refl) (one_given s t g e)

relative_given : (s t : State) (g : Seg) → is_lead_name_char (first s.rest) ≡ true → 1 ≤ length s.rest → segment s ≡ (Ok g, t) → relative_name s ≡ (Ok (one_segment g), t)
unfolding relative_name give
relative_given s t g lead some e =
    let none = parents_none s (no_carets s.rest (lead_not (first s.rest) 94 lead refl) some) in
    bind_is parents (λ n. segments >>= (λ ss. give (record { prefix = Parents n; segments = ss }))) none ∙ bind_is segments (λ ss. give (record { prefix = Parents 0; segments = ss })) (segments_given s t g lead some e)

name_given : (s t : State) (g : Seg) → is_lead_name_char (first s.rest) ≡ true → 1 ≤ length s.rest → segment s ≡ (Ok g, t) → name_string s ≡ (Ok (one_segment g), t)
unfolding name_string
name_given s t g lead some e = peeks name_at s some ∙ rw (lead_not (first s.rest) 0 lead refl, lead_not (first s.rest) 92 lead refl) (relative_given s t g lead some e)

-- a segment that is read as a name
pub by_segment : {count : ℕ → ℕ} (s : State) → FollowsBy count one_segment segment a_name s
by_segment s = record {
  is = λ g t e.
      let x = (moves_segment s).is g t e in
      let lead = begins_with_lead s g t e in
      let some : 1 ≤ length s.rest = omega (arith, x.1) in
      let y = (takes_name s).is (one_segment g) t (name_given s t g lead some e) in
      (goes_same s t y.1 y.2 y.3, λ fits kept. y.0);
}
