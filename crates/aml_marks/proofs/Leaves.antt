-- Bytes, numbers, texts and packages: the walks go as the steps do.
use Rattle.std.proofs.Common.{◌≡◌, ℕ, ◌+◌, ◌-◌, ◌/◌, ◌≤◌, List, [], length, take, drop, Bool, true, false, Ok, refl, ◌∙◌, sym, ap, length-take, length-drop, take-take, arith}
use Rattle.std.specs.Prelude.{nat_lt}
use Rattle.std.proofs.lemmas.List.{drop_all}
use Rattle.std.proofs.lemmas.Bool.{ltb-false}
use Rattle.ar_space.specs.Change.{give, go_on, ◌>>=◌}
use Rattle.aml_grammar.specs.State.{State, Step, look, byte, next_bytes, all_bytes, text, text_length, integer, little_endian, length_of, bit_count, size_after, package_size, narrow, enter, leave}
use Rattle.aml_grammar.specs.Grammar.{packed}
use Rattle.aml_marks.specs.Marked.{Place, place_of, Walk, gives, past, over, a_byte, an_integer, a_text, all_left, a_bit_count, a_size, inside, inside_of, found_at}
use Rattle.aml_marks.proofs.Follows.{same_value, same_state, refused, both, kept_on, Gone, carry, Follows}
use Rattle.aml_marks.proofs.Moves.{Takes, takes_moves, takes_then, takes_give, takes_look, moves_as, moves_then, moves_give, moves_byte, byte_is, moves_bytes, bytes_are, min_is, over_is}

pub takes_byte : (s : State) → Takes byte a_byte s
takes_byte s = takes_moves 1 a_byte (moves_byte s) (λ b t e. ap (λ x. (x, over 1 (place_of s))) (sym (byte_is s b t e)))

pub takes_integer : (n : ℕ) (s : State) → Takes (integer n) (an_integer n) s
unfolding integer give
takes_integer n s = takes_moves n (an_integer n) (moves_as (omega arith) (moves_then (moves_bytes n s) (λ bs t e is. moves_give (little_endian bs)))) (λ v t e.
    let r = both (next_bytes n) (λ bs. give (little_endian bs)) s v t e in
    let value : little_endian (take n s.rest) ≡ v = ap little_endian (sym (bytes_are n s r.0 r.1 r.2)) ∙ same_value r.3 in
    ap (λ x. (x, over n (place_of s))) value)

text_of : (n : ℕ) (s : State) → n ≡ text_length s.rest → Takes (next_bytes (n + 1) >>= (λ bs. give (take n bs))) a_text s
unfolding give
text_of n s is = takes_moves (n + 1) a_text (moves_as (omega arith) (moves_then (moves_bytes (n + 1) s) (λ bs t e at. moves_give (take n bs)))) (λ v t e.
    let r = both (next_bytes (n + 1)) (λ bs. give (take n bs)) s v t e in
    let front : take n (take (n + 1) s.rest) ≡ take n s.rest = take-take n (n + 1) s.rest (omega arith) in
    let value : take n s.rest ≡ v = sym front ∙ ap (take n) (sym (bytes_are (n + 1) s r.0 r.1 r.2)) ∙ same_value r.3 in
    rw (← is, value) refl)

pub takes_text : (s : State) → Takes text a_text s
unfolding text
takes_text s = takes_look (λ (s : State). text_length s.rest) _ (text_of (text_length s.rest) s refl)

pub takes_all : (s : State) → Takes all_bytes all_left s
unfolding all_bytes
takes_all s = record {
  is = λ bs t e.
      let none : past (length s.rest) (place_of s) ≡ record { at = s.at + length s.rest; rest = [] } = rw (drop_all (length s.rest) s.rest (omega arith)) refl in
      rw (← same_state e, ← same_value e) (ap (λ p. (s.rest, p)) (over_is (length s.rest) (place_of s) (omega arith) ∙ none), omega arith, omega arith, refl);
}

pub takes_bit_count : (s : State) → Takes bit_count a_bit_count s
unfolding bit_count a_bit_count
takes_bit_count s = takes_then (takes_byte s) (λ lead t. takes_then (takes_integer (lead / 64) t) (λ more u. takes_give (length_of lead more)))

-- ---- package lengths

size_if : (start spent total : ℕ) (s : State) (short far : Bool) → nat_lt total spent ≡ short → nat_lt (length s.rest) (total - spent) ≡ far → (n : ℕ) (t : State) → size_after start spent total s ≡ (Ok n, t) → (n ≡ total - spent) × (t ≡ s) × (n ≤ length s.rest)
unfolding size_after
size_if start spent total s true far is is2 n t e = absurd (refused (rw is at e))
size_if start spent total s false true is is2 n t e = absurd (refused (rw (is, is2) at e))
size_if start spent total s false false is is2 n t e =
    let f = rw (is, is2) at e in
    let v : total - spent ≡ n = same_value f in
    (sym v, sym (same_state f), omega (arith, v, ltb-false (length s.rest) (total - spent) is2))

size_is : (start spent total : ℕ) (s : State) (n : ℕ) (t : State) → size_after start spent total s ≡ (Ok n, t) → (n ≡ total - spent) × (t ≡ s) × (n ≤ length s.rest)
size_is start spent total s n t e = size_if start spent total s (nat_lt total spent) (nat_lt (length s.rest) (total - spent)) refl refl n t e

takes_size_after : (start spent total : ℕ) (s : State) → Takes (size_after start spent total) (gives (total - spent)) s
unfolding gives
takes_size_after start spent total s = record { is = λ n t e. let x = size_is start spent total s n t e in rw (x.0, x.1) (refl, omega arith, refl, refl) }

takes_size : (s : State) → Takes package_size a_size s
unfolding package_size a_size
takes_size s = takes_look (λ (s : State). s.at) _ (takes_then (takes_byte s) (λ lead t. takes_then (takes_integer (lead / 64) t) (λ more u. takes_size_after s.at (lead / 64 + 1) (length_of lead more) u)))

-- as many bytes are left as the length says
size_fits : (start : ℕ) (s : State) (n : ℕ) (t : State) → (byte >>= (λ lead. integer (lead / 64) >>= (λ more. size_after start (lead / 64 + 1) (length_of lead more)))) s ≡ (Ok n, t) → n ≤ length t.rest
size_fits start s n t e =
    let p = both byte (λ lead. integer (lead / 64) >>= (λ more. size_after start (lead / 64 + 1) (length_of lead more))) s n t e in
    let q = both (integer (p.0 / 64)) (λ more. size_after start (p.0 / 64 + 1) (length_of p.0 more)) p.1 n t p.3 in
    let x = size_is start (p.0 / 64 + 1) (length_of p.0 q.0) q.1 n t q.3 in
    rw x.1 x.2

looked : {A : Type 0} (s : State) (k : ℕ → Step A) (a : A) (t : State) → (look (λ (s : State). s.at) >>= k) s ≡ (Ok a, t) → k s.at s ≡ (Ok a, t)
unfolding look ◌>>=◌ go_on
looked s k a t e = e

sized : (s : State) (n : ℕ) (t : State) → package_size s ≡ (Ok n, t) → n ≤ length t.rest
unfolding package_size
sized s n t e = size_fits s.at s n t (looked s _ n t e)

-- ---- packages

-- Entering goes over the length to a start, leaves the n bytes of the package alone, and gives what stands behind them.
abbrev Enters : State → ℕ × List ℕ → State → Type 0
Enters s outer q = (n : ℕ) × (start : State) × (a_size (place_of s) ≡ (n, place_of start)) × (n ≤ length start.rest) × (outer ≡ (start.at + n, drop n start.rest)) × (q ≡ record start { rest = take n start.rest }) × (s.at ≤ start.at) × (start.at + length start.rest ≡ s.at + length s.rest) × (start.marks ≡ s.marks)

entering : (s : State) (outer : ℕ × List ℕ) (q : State) → enter s ≡ (Ok outer, q) → Enters s outer q
unfolding enter
entering s outer q e =
    let r = both package_size narrow s outer q e in
    let x = (takes_size s).is r.0 r.1 r.2 in
    (r.0, r.1, x.0, sized s r.0 r.1 r.2, sym (same_value r.3), sym (same_state r.3), x.1, x.2, x.3)

module _ {count : ℕ → ℕ} {A : Type 0} {m : Step A} {w : Walk A} {s : State} where
  left : (outer : ℕ × List ℕ) (q : State) → Enters s outer q → Follows count m w q → (a : A) (s1 : State) → m q ≡ (Ok a, s1) → Gone count (inside true w) s a (record s1 { at = outer.0; rest = outer.1 })
  unfolding inside
  left outer q enters h a s1 e =
      let n = enters.0 in
      let start = enters.1 in
      let x = h.is a s1 e in
      let inner = x.0 in
      let size : length q.rest ≡ n = ap (λ (t : State). length t.rest) enters.5 ∙ length-take n start.rest ∙ min_is n (length start.rest) enters.3 in
      let at_q : q.at ≡ start.at = ap (λ (t : State). t.at) enters.5 in
      let marks_q : q.marks ≡ s.marks = ap (λ (t : State). t.marks) enters.5 ∙ enters.8 in
      let at_outer : outer.0 ≡ start.at + n = ap (λ (o : ℕ × List ℕ). o.0) enters.4 in
      let rest_outer : length outer.1 ≡ length start.rest - n = ap (λ (o : ℕ × List ℕ). length o.1) enters.4 ∙ length-drop n start.rest in
      let below : s1.at ≤ outer.0 = omega (arith, inner.ends, size, at_q, at_outer) in
      let le : s.at ≤ q.at = omega (arith, at_q, enters.6) in (
        record {
          le = omega (arith, at_outer, enters.6);
          ends = omega (arith, at_outer, rest_outer, enters.3, enters.7);
          keeps = λ o lt. inner.keeps o (omega (arith, le, lt)) ∙ ap (λ l. found_at l o) marks_q;
          kept = λ k. kept_on s1 (record s1 { at = outer.0; rest = outer.1 }) below refl (inner.kept (kept_on s q le marks_q k));
        },
        λ fits kept.
            let got : w (place_of q) ≡ (a, place_of s1) = x.1 (λ o lt. fits o (omega (arith, below, lt))) (kept_on s q le marks_q kept) in
            let behind : Place = record { at = outer.0; rest = outer.1 } in
            let v : inside_of w (a_size (place_of s)) ≡ ((w (place_of q)).0, behind) = rw (enters.2, over_is n (place_of start) enters.3, enters.4, enters.5) refl in
            v ∙ ap (λ (r : A × Place). (r.0, behind)) got,
      )

  pub follows_packed : ((q : State) → Follows count m w q) → Follows count (packed true m) (inside true w) s
  follows_packed h = record {
    is = λ a s2 e.
        let p = both enter (λ outer. m >>= (λ x. leave outer x)) s a s2 e in
        let r = both m (λ x. leave p.0 x) p.1 a s2 p.3 in
        let y = left p.0 p.1 (entering s p.0 p.1 p.2) (h p.1) r.0 r.1 r.2 in
        carry count (inside true w) s (same_value r.3) (same_state r.3) y;
  }

pub packed_if : {count : ℕ → ℕ} {A : Type 0} {m : Step A} {w : Walk A} (p : Bool) (s : State) → ((s : State) → Follows count m w s) → Follows count (packed p m) (inside p w) s
unfolding inside
packed_if true s all = follows_packed all
packed_if false s all = record { is = (all s).is }
