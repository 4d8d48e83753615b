-- Calls: the mark of a call stands where its name begins, and says how many arguments follow.
use Rattle.std.proofs.Common.{◌≡◌, ℕ, ◌+◌, ◌<◌, List, [], ◌∷◌, length, false, Ok, ◌∙◌, sym, ap, arith}
use Rattle.std.specs.Prelude.{◌==◌}
use Rattle.ar_space.specs.Outcome.{Outcome}
use Rattle.ar_space.specs.Change.{give, settle, ◌>>=◌}
use Rattle.aml_path.specs.declared.segment.Seg.{Seg}
use Rattle.aml_path.specs.Paths.{Name, resolved}
use Rattle.aml_grammar.specs.declared.opcode.TermCode.TheVariants as codes
use Rattle.aml_grammar.specs.declared.context.Position.TheVariants as positions
use Rattle.aml_grammar.specs.declared.context.Context.{Context}
use Rattle.aml_arities.specs.Arities.{or_none}
use Rattle.aml_grammar.specs.State.{State, times, marking}
use Rattle.aml_grammar.specs.Names.{name_string}
use Rattle.aml_grammar.specs.Tree.{Tree, term, name}
use Rattle.aml_grammar.specs.Shape.{parts_of}
use Rattle.aml_grammar.specs.Grammar.{Inner, Counting, argument_number, invocation}
use Rattle.aml_marks.specs.Marked.{Place, place_of, Walk, Below, after, gives, a_name, list_part, turns_of, a_call, found_at}
use Rattle.aml_marks.proofs.MarksOfLists.{marks_with, marking_state, none_behind, with_other, with_this, ordered_with}
use Rattle.aml_marks.proofs.Follows.{same_value, same_state, both, Kept, Fits, Goes, Gone, Follows, follows_map, follows_times}
use Rattle.aml_marks.proofs.LeafNames.{takes_name, name_longer}
use Rattle.aml_marks.proofs.Inners.{Inners}

settled : {A : Type 0} (x : Outcome A) (a : A) (s t : State) → settle x s ≡ (Ok a, t) → t ≡ s
unfolding settle
settled x a s t e = sym (ap (λ q. q.1) e)

counted : (counting : Counting) (start : ℕ) (scope : List Seg) (n : Name) (path : List Seg) (c : ℕ) (s s1 t : State) → s1 ≡ s → argument_number counting start scope n path s1 ≡ (Ok c, t) → t ≡ marking start c s
unfolding argument_number
counted counting start scope n path c s s1 t same e = sym (same_state e) ∙ ap (λ k. marking start k s1) (same_value e) ∙ ap (marking start c) same

module _ (count : ℕ → ℕ) where
  -- From s over a name to s1, one more mark, and then on to s2.
  called : (s s1 marked s2 : State) (c : ℕ) → s.at < s1.at → s1.marks ≡ s.marks → s1.at + length s1.rest ≡ s.at + length s.rest → marked ≡ marking s.at c s1 → Goes marked s2
      → Goes s s2 × (Fits count s2 → Kept s → Kept marked × (count s.at ≡ c) × (place_of marked ≡ place_of s1))
  called s s1 marked s2 c lt same ends is h =
      let start = s.at in
      let after_mark = marking_state start c s1 in
      let place : place_of marked ≡ place_of s1 = ap place_of is ∙ after_mark.0 in
      let at_is : marked.at ≡ s1.at = ap (λ (p : Place). p.at) place in
      let marks : marked.marks ≡ marks_with start c s.marks = ap (λ (t : State). t.marks) is ∙ after_mark.1 ∙ ap (marks_with start c) same in
      let keeps : Kept s → Kept marked = λ k. rw marks (ordered_with s.marks start c marked.at (omega (arith, lt, at_is)) k) in (
        record {
          le = omega (arith, h.le, at_is, lt);
          ends = h.ends ∙ ap (λ (p : Place). p.at + length p.rest) place ∙ ends;
          keeps = λ o l. let ne : (start == o) ≡ false = grind (arith, l) in h.keeps o (omega (arith, l, lt, at_is)) ∙ ap (λ l. found_at l o) marks ∙ with_other s.marks start c o ne;
          kept = λ k. h.kept (keeps k);
        },
        λ fits kept.
            let its : or_none (found_at marked.marks start) ≡ c = ap (λ l. or_none (found_at l start)) marks ∙ with_this s.marks start c (none_behind s.marks start start (omega arith) kept.1) in
            (keeps kept, fits start (omega (arith, h.le, at_is, lt)) ∙ ap or_none (h.keeps start (omega (arith, lt, at_is))) ∙ its, place),
      )

walked : {A : Type 0} (p p1 p2 : Place) (n : Name) (t : A) (v : Name → ℕ → Walk A) (given c : ℕ) → a_name p ≡ (n, p1) → given ≡ c → (p3 : Place) → p3 ≡ p1 → v n c p3 ≡ (t, p2) → after a_name (λ n. v n given) p ≡ (t, p2)
unfolding after
walked {A = A} p p1 p2 n t v given c named same p3 place e = ap (λ (r : Name × Place). v r.0 given r.1) named ∙ ap (λ k. v n k p1) same ∙ ap (v n c) (sym place) ∙ e

-- the tree of a call
abbrev made : Name → List Tree → Tree
made n ts = term codes.MethodInvocation (parts_of (name n ∷ list_part ts ∷ []))

module _ (counting : Counting) (count : ℕ → ℕ) (i : Inner) (b : Below) (h : Inners count i b) where
  -- its name is read, and its mark is left
  with_arguments : (scope : List Seg) (context : Context) (s s1 marked s2 : State) (n : Name) (c : ℕ) (t : Tree) → name_string s ≡ (Ok n, s1) → marked ≡ marking s.at c s1 → (times (i positions.TermArg scope context) c >>= (λ ts. give (made n ts))) marked ≡ (Ok t, s2) → Gone count (a_call b count) s t s2
  unfolding a_call
  with_arguments scope context s s1 marked s2 n c t named is e =
      let x = (takes_name s).is n s1 named in
      let y = (follows_map (made n) (follows_times (h positions.TermArg scope context) c marked)).is t s2 e in
      let z = called count s s1 marked s2 c (name_longer s n s1 named) x.3 x.2 is y.0 in (
        z.0,
        λ fits kept.
            let w = z.1 fits kept in
            walked (place_of s) (place_of s1) (place_of s2) n t (λ n c. after (turns_of (b false) c) (λ ts. gives (made n ts))) (count s.at) c x.0 w.1 (place_of marked) w.2 (y.1 fits w.0),
      )

  pub follows_call : (scope : List Seg) (context : Context) (s : State) → Follows count (invocation counting i scope context s.at) (a_call b count) s
  unfolding invocation
  follows_call scope context s = record {
    is = λ t s2 e.
        let p = both name_string (λ n. settle (resolved n scope) >>= (λ path. argument_number counting s.at scope n path >>= (λ c. times (i positions.TermArg scope context) c >>= (λ ts. give (made n ts))))) s t s2 e in
        let q = both (settle (resolved p.0 scope)) (λ path. argument_number counting s.at scope p.0 path >>= (λ c. times (i positions.TermArg scope context) c >>= (λ ts. give (made p.0 ts)))) p.1 t s2 p.3 in
        let here = settled (resolved p.0 scope) q.0 p.1 q.1 q.2 in
        let r = both (argument_number counting s.at scope p.0 q.0) (λ c. times (i positions.TermArg scope context) c >>= (λ ts. give (made p.0 ts))) q.1 t s2 q.3 in
        with_arguments scope context s p.1 r.1 s2 p.0 r.0 t p.2 (counted counting s.at scope p.0 q.0 r.0 p.1 q.1 r.1 here r.2) r.3;
  }
