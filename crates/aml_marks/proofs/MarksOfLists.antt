-- Marks in ascending order, and what one more at the end changes.
use Rattle.std.proofs.Common.{◌≡◌, ℕ, ◌<◌, ◌≤◌, List, [], ◌∷◌, ◌++◌, Bool, true, false, Option, Some, None, refl, sym, ap, arith}
use Rattle.std.specs.Prelude.{◌==◌, if◌then◌else◌}
use Rattle.std.specs.List.{AllByRecursion}
use Rattle.std.proofs.lemmas.Bool.{eqb-true}
use Rattle.aml_grammar.specs.declared.marks.Mark.{Mark}
use Rattle.aml_arities.specs.Arities.{or_none}
use Rattle.aml_grammar.specs.State.{State, marking}
use Rattle.aml_marks.specs.Marked.{place_of, Ascending, found_at}

-- each mark stands before this offset
abbrev pub Before : ℕ → List Mark → Type 0
Before n ms = AllByRecursion (λ m. m.offset < n) ms

-- in ascending order, and all before this offset
abbrev pub Ordered : ℕ → List Mark → Type 0
Ordered n ms = Ascending ms × Before n ms

before_on : (ms : List Mark) (n k : ℕ) → n ≤ k → Before n ms → Before k ms
before_on [] n k le h = tt
before_on (m ∷ ms) n k le h = (omega (arith, le, h.0), before_on ms n k le h.1)

pub ordered_on : (ms : List Mark) (n k : ℕ) → n ≤ k → Ordered n ms → Ordered k ms
ordered_on ms n k le h = (h.0, before_on ms n k le h.1)

pub none_behind : (ms : List Mark) (n o : ℕ) → n ≤ o → Before n ms → found_at ms o ≡ None
none_behind [] n o le h = refl
none_behind (m ∷ ms) n o le h = let ne : (m.offset == o) ≡ false = grind (arith, le, h.0) in rw ne (none_behind ms n o le h.1)

-- ---- one more mark

abbrev one_more : ℕ → ℕ → Mark
one_more start c = record { offset = start; count = c }

other_mark : (ms : List Mark) (start c o : ℕ) → (start == o) ≡ false → found_at (ms ++ one_more start c ∷ []) o ≡ found_at ms o
other_mark [] start c o ne = rw ne refl
other_mark (m ∷ ms) start c o ne = ap (λ x. if m.offset == o then Some m.count else x) (other_mark ms start c o ne)

mark_if : (b : Bool) (c : ℕ) (x y z : Option ℕ) → (if b then Some c else x) ≡ None → (x ≡ None → y ≡ z) → (if b then Some c else y) ≡ z
mark_if true c x y z e h = absurd (cc e)
mark_if false c x y z e h = h e

this_mark : (ms : List Mark) (start c : ℕ) → found_at ms start ≡ None → found_at (ms ++ one_more start c ∷ []) start ≡ Some c
this_mark [] start c none = let same : (start == start) ≡ true = grind arith in rw same refl
this_mark (m ∷ ms) start c none = mark_if (m.offset == start) m.count (found_at ms start) (found_at (ms ++ one_more start c ∷ []) start) (Some c) none (this_mark ms start c)

before_more : (ms : List Mark) (start c n : ℕ) → start < n → Before n ms → Before n (ms ++ one_more start c ∷ [])
before_more [] start c n lt h = (lt, tt)
before_more (m ∷ ms) start c n lt h = (h.0, before_more ms start c n lt h.1)

behind_all : (ms : List Mark) (m : Mark) (start c : ℕ) → m.offset < start → AllByRecursion (λ n. m.offset < n.offset) ms → AllByRecursion (λ n. m.offset < n.offset) (ms ++ one_more start c ∷ [])
behind_all [] m start c lt h = (lt, tt)
behind_all (n ∷ ms) m start c lt h = (h.0, behind_all ms m start c lt h.1)

ascending_more : (ms : List Mark) (start c : ℕ) → Ordered start ms → Ascending (ms ++ one_more start c ∷ [])
ascending_more [] start c h = (tt, tt)
ascending_more (m ∷ ms) start c h = (behind_all ms m start c h.1.0 h.0.0, ascending_more ms start c (h.0.1, h.1.1))

-- the marks after a call that takes this many arguments
abbrev pub marks_with : ℕ → ℕ → List Mark → List Mark
marks_with start c ms = if c == 0 then ms else ms ++ one_more start c ∷ []

state_if : (start c : ℕ) (s : State) (b : Bool) → (c == 0) ≡ b → (place_of (marking start c s) ≡ place_of s) × ((marking start c s).marks ≡ marks_with start c s.marks)
state_if start c s true is = rw is (refl, refl)
state_if start c s false is = rw is (refl, refl)

pub marking_state : (start c : ℕ) (s : State) → (place_of (marking start c s) ≡ place_of s) × ((marking start c s).marks ≡ marks_with start c s.marks)
marking_state start c s = state_if start c s (c == 0) refl

other_if : (ms : List Mark) (start c o : ℕ) (b : Bool) → (start == o) ≡ false → found_at (if b then ms else ms ++ one_more start c ∷ []) o ≡ found_at ms o
other_if ms start c o true ne = refl
other_if ms start c o false ne = other_mark ms start c o ne

pub with_other : (ms : List Mark) (start c o : ℕ) → (start == o) ≡ false → found_at (marks_with start c ms) o ≡ found_at ms o
with_other ms start c o ne = other_if ms start c o (c == 0) ne

this_if : (ms : List Mark) (start c : ℕ) (b : Bool) → (c == 0) ≡ b → found_at ms start ≡ None → or_none (found_at (if b then ms else ms ++ one_more start c ∷ []) start) ≡ c
this_if ms start c true is none = rw none (sym (eqb-true c 0 is))
this_if ms start c false is none = rw (this_mark ms start c none) refl

pub with_this : (ms : List Mark) (start c : ℕ) → found_at ms start ≡ None → or_none (found_at (marks_with start c ms) start) ≡ c
with_this ms start c none = this_if ms start c (c == 0) refl none

ordered_if : (ms : List Mark) (start c n : ℕ) (b : Bool) → start < n → Ordered start ms → Ordered n (if b then ms else ms ++ one_more start c ∷ [])
ordered_if ms start c n true lt h = ordered_on ms start n (omega (arith, lt)) h
ordered_if ms start c n false lt h = (ascending_more ms start c h, before_more ms start c n lt (before_on ms start n (omega (arith, lt)) h.1))

pub ordered_with : (ms : List Mark) (start c n : ℕ) → start < n → Ordered start ms → Ordered n (marks_with start c ms)
ordered_with ms start c n lt h = ordered_if ms start c n (c == 0) lt h
