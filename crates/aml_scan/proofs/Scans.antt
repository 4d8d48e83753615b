-- What follows for a chain of steps whose values are left out.
use Rattle.std.specs.Prelude.{◌≡◌, ℕ, ◌-◌, ◌<◌, List, true, false, Ok, Err, IsErr, IsErrAnd, refl}
use Rattle.std.proofs.Common.{◌∙◌, sym, ap}
use Rattle.ar_space.specs.declared.refusal.Refusal.{Refusal}
use Rattle.ar_space.specs.declared.refusal.Refusal.TheVariants as refusals
use Rattle.ar_space.specs.declared.refusal.TermFault.TheVariants.{TooDeep}
use Rattle.ar_space.specs.Outcome.{Outcome, Answers, NotMemory, seen}
use Rattle.ar_space.specs.Change.{Does, give, stop, settle, go_on, ◌>>=◌}
use Rattle.ar_space.proofs.Changes.{does_memory, does_seen_memory}
use Rattle.aml_path.specs.declared.segment.Seg.{Seg}
use Rattle.aml_arities.specs.declared.arities.Arity.{Arity}
use Rattle.aml_grammar.specs.declared.marks.Mark.{Mark}
use Rattle.aml_grammar.specs.declared.context.Context.{Context}
use Rattle.aml_grammar.specs.declared.context.Earlier.{Earlier}
use Rattle.aml_grammar.specs.declared.context.Position.{Position}
use Rattle.aml_grammar.specs.State.{State, Step, look, is_next, leave}
use Rattle.aml_grammar.specs.Operands.{Read}
use Rattle.aml_grammar.specs.Tree.{Tree, Part, inner}
use Rattle.aml_grammar.specs.Grammar.{Inner, Counting, keeping, deeper, below, term_at, term_operand, else_part, else_operand, at_else}
use Rattle.aml_scan.specs.Scanned.{kept, scanned, seen_so, noted}
use Rattle.aml_scan.proofs.Steps.{memory_err, memory_seen_err, memory_answers, no_memory_err}
use Rattle.aml_scan.proofs.Levels.{below_none, below_some}

-- ---- a step whose value is known, and then the rest

pub kept_ok : {A B C : Type 0} {a : A} {r : Outcome C} {s s1 s2 : State} (f : B → C) (m : Step A) (k : A → Step B) → Does (Ok a) s1 m s → Does r s2 (kept f (k a)) s1 → Does r s2 (kept f (m >>= k)) s
unfolding ◌>>=◌ go_on kept
kept_ok f m k h i = record { is = λ ne. rw (h.is tt) (i.is ne) }

pub kept_err : {A B C : Type 0} {e : Refusal} {r : Outcome C} {s s1 : State} (f : B → C) (m : Step A) (k : A → Step B) → Does {A = A} (Err e) s1 m s → IsErr r × IsErrAnd r (λ y. y ≡ e) → Does r s1 (kept f (m >>= k)) s
unfolding ◌>>=◌ go_on kept
kept_err {r = Ok y} f m k h i = absurd (cc i.0)
kept_err {r = Err y} f m k h i = record { is = λ ne. rw (h.is (λ q. ne (i.1 ∙ q)), i.1) refl }

pub kept_seen_err : {A B C D : Type 0} {e : Refusal} {s s1 : State} (r : Outcome D) (view : D → C) (f : B → C) (m : Step A) (k : A → Step B) → Does {A = A} (Err e) s1 m s → IsErr r × IsErrAnd r (λ y. y ≡ e) → Does (seen view r) s1 (kept f (m >>= k)) s
unfolding ◌>>=◌ go_on kept
kept_seen_err (Ok y) view f m k h i = absurd (cc i.0)
kept_seen_err (Err y) view f m k h i = record { is = λ ne. rw (h.is (λ q. ne (i.1 ∙ q)), i.1) refl }

-- ---- an outcome that depends on no state, and then the rest

pub kept_settle_ok : {A B C : Type 0} {a : A} {r : Outcome C} {s s2 : State} (f : B → C) (x : Outcome A) (k : A → Step B) → Answers (Ok a) x → Does r s2 (kept f (k a)) s → Does r s2 (kept f (settle x >>= k)) s
unfolding ◌>>=◌ go_on settle kept
kept_settle_ok f x k h i = record { is = λ ne. rw (h.is tt) (i.is ne) }

pub kept_settle_err : {A B C : Type 0} {e : Refusal} {r : Outcome C} {s : State} (f : B → C) (x : Outcome A) (k : A → Step B) → Answers {A = A} (Err e) x → IsErr r × IsErrAnd r (λ y. y ≡ e) → Does r s (kept f (settle x >>= k)) s
unfolding ◌>>=◌ go_on settle kept
kept_settle_err {r = Ok y} f x k h i = absurd (cc i.0)
kept_settle_err {r = Err y} f x k h i = record { is = λ ne. rw (h.is (λ q. ne (i.1 ∙ q)), i.1) refl }

pub kept_settle_seen_err : {A B C D : Type 0} {e : Refusal} {s : State} (r : Outcome D) (view : D → C) (f : B → C) (x : Outcome A) (k : A → Step B) → Answers {A = A} (Err e) x → IsErr r × IsErrAnd r (λ y. y ≡ e) → Does (seen view r) s (kept f (settle x >>= k)) s
unfolding ◌>>=◌ go_on settle kept
kept_settle_seen_err (Ok y) view f x k h i = absurd (cc i.0)
kept_settle_seen_err (Err y) view f x k h i = record { is = λ ne. rw (h.is (λ q. ne (i.1 ∙ q)), i.1) refl }

-- ---- what is known of the state, and then the rest

pub kept_look : {A B C : Type 0} {r : Outcome C} {s s2 : State} (f : B → C) (g : State → A) (k : A → Step B) → Does r s2 (kept f (k (g s))) s → Does r s2 (kept f (look g >>= k)) s
unfolding ◌>>=◌ go_on look kept
kept_look f g k h = record { is = λ ne. h.is ne }

pub kept_looked : {A B C : Type 0} {a : A} {r : Outcome C} {s s2 : State} (f : B → C) (g : State → A) (k : A → Step B) → Answers (Ok a) (Ok (g s)) → Does r s2 (kept f (k a)) s → Does r s2 (kept f (look g >>= k)) s
unfolding ◌>>=◌ go_on look kept
kept_looked {a = a} {s = s} f g k h i = let e : g s ≡ a = cc (h.is tt) in record { is = λ ne. rw e (i.is ne) }

-- ---- a step of whose value a function alone is known, and then the rest

from_kept : {A B C D : Type 0} {b : D} {r : Outcome C} {s1 s2 : State} (g : A → D) (f : B → C) (p : Outcome A × State) (k : A → Step B) → NotMemory r → seen_so g p ≡ (Ok b, s1) → ((a : A) → g a ≡ b → Does r s2 (kept f (k a)) s1) → seen_so f (go_on p.0 p.1 k) ≡ (r, s2)
unfolding go_on kept
from_kept {b = b} {s1 = s1} g f (Ok a, s) k ne e i =
    let v : Ok (g a) ≡ Ok b = ap (λ q. q.0) e in
    let w : s ≡ s1 = ap (λ q. q.1) e in
    rw w ((i a (cc v)).is ne)
from_kept {b = b} g f (Err x, s) k ne e i = absurd (let v : Err x ≡ Ok b = ap (λ q. q.0) e in cc v)

pub kept_kept_ok : {A B C D : Type 0} {b : D} {r : Outcome C} {s s1 s2 : State} (g : A → D) (f : B → C) (m : Step A) (k : A → Step B) → Does (Ok b) s1 (kept g m) s → ((a : A) → g a ≡ b → Does r s2 (kept f (k a)) s1) → Does r s2 (kept f (m >>= k)) s
unfolding ◌>>=◌ kept
kept_kept_ok {s = s} g f m k h i = record { is = λ ne. from_kept g f (m s) k ne (h.is tt) i }

from_refused : {A B C D : Type 0} {e : Refusal} {s1 : State} (g : A → D) (f : B → C) (p : Outcome A × State) (k : A → Step B) → seen_so g p ≡ (Err e, s1) → seen_so f (go_on p.0 p.1 k) ≡ (Err e, s1)
unfolding go_on
from_refused {e = e} g f (Ok a, s) k h = absurd (let v : Ok (g a) ≡ Err e = ap (λ q. q.0) h in cc v)
from_refused {C = C} {e = e} {s1 = s1} g f (Err x, s) k h =
    let v : Err x ≡ Err e = ap (λ q. q.0) h in
    let w : s ≡ s1 = ap (λ q. q.1) h in
    let u : x ≡ e = cc v in
    rw (w, u) refl

pub kept_kept_err : {A B C D : Type 0} {e : Refusal} {r : Outcome C} {s s1 : State} (g : A → D) (f : B → C) (m : Step A) (k : A → Step B) → Does {A = D} (Err e) s1 (kept g m) s → IsErr r × IsErrAnd r (λ y. y ≡ e) → Does r s1 (kept f (m >>= k)) s
unfolding ◌>>=◌ kept
kept_kept_err {r = Ok y} g f m k h i = absurd (cc i.0)
kept_kept_err {r = Err y} {s = s} g f m k h i = record { is = λ ne. rw i.1 (from_refused g f (m s) k (h.is (λ q. ne (i.1 ∙ q)))) }

-- ---- the last step of a chain

pub kept_give : {A B : Type 0} {b : B} {s : State} (f : A → B) (a : A) → f a ≡ b → Does (Ok b) s (kept f (give a)) s
unfolding give kept
kept_give {s = s} f a e = record { is = λ ne. ap (λ x. (Ok x, s)) e }

pub kept_stop : {A B : Type 0} {e : Refusal} {s : State} (f : A → B) → Does {A = B} (Err e) s (kept f (stop {A = A} e)) s
unfolding stop kept
kept_stop f = record { is = λ _. refl }

pub kept_leave : {A B : Type 0} {b : B} {s s2 : State} (f : A → B) (outer : ℕ × List ℕ) (a : A) → f a ≡ b → record s { at = outer.0; rest = outer.1 } ≡ s2 → Does (Ok b) s2 (kept f (leave outer a)) s
unfolding kept
kept_leave {s2 = s2} f outer a e h = record { is = λ ne. rw (e, h) refl }

-- a step whose value is only wrapped
wrapped : {A B : Type 0} (g : A → B) (o : Outcome A) (s : State) → seen_so {B = Unit {0}} (λ _. tt) (go_on o s (λ a. give (g a))) ≡ seen_so (λ _. tt) (o, s)
unfolding go_on give
wrapped g (Ok a) s = refl
wrapped g (Err e) s = refl

pub scanned_wrapped : {A B : Type 0} {r : Outcome (Unit {0})} {s s2 : State} (g : A → B) (m : Step A) → Does r s2 (scanned m) s → Does r s2 (scanned (m >>= (λ a. give (g a)))) s
unfolding ◌>>=◌ kept
scanned_wrapped {s = s} g m h = record { is = λ ne. wrapped g (m s).0 (m s).1 ∙ h.is ne }

pub scanned_term : {r : Outcome (Unit {0})} {s s2 : State} (inner_term : Inner) (position : Position) (scope : List Seg) (context : Context) → Does r s2 (scanned (inner_term position scope context)) s → Does r s2 (scanned (term_operand inner_term position scope context)) s
unfolding term_operand
scanned_term inner_term position scope context h = scanned_wrapped inner (inner_term position scope context) h

-- an operand that leaves nothing for later ones
left_ok : {u : Unit {0}} {s2 : State} (earlier : Earlier) (p : Outcome Part × State) → seen_so {B = Unit {0}} (λ _. tt) p ≡ (Ok u, s2) → seen_so {A = Read} {B = Earlier} (λ x. x.1) (go_on p.0 p.1 (λ x. give (x, earlier))) ≡ (Ok earlier, s2)
unfolding go_on give
left_ok earlier (Ok a, s) e = ap (λ q. (Ok earlier, q.1)) e
left_ok {u = u} earlier (Err x, s) e = let f : Outcome (Unit {0}) = Err x in let g : Outcome (Unit {0}) = Ok u in let v : f ≡ g = ap (λ q. q.0) e in absurd (cc v)

left_err : {y : Refusal} {s2 : State} (earlier : Earlier) (p : Outcome Part × State) → seen_so {B = Unit {0}} (λ _. tt) p ≡ (Err y, s2) → seen_so {A = Read} {B = Earlier} (λ x. x.1) (go_on p.0 p.1 (λ x. give (x, earlier))) ≡ (Err y, s2)
unfolding go_on give
left_err {y = y} earlier (Ok a, s) e = let f : Outcome (Unit {0}) = Ok tt in let g : Outcome (Unit {0}) = Err y in let v : f ≡ g = ap (λ q. q.0) e in absurd (cc v)
left_err {y = y} {s2 = s2} earlier (Err x, s) e = let f : Outcome (Unit {0}) = Err x in let g : Outcome (Unit {0}) = Err y in let v : f ≡ g = ap (λ q. q.0) e in let w : s ≡ s2 = ap (λ q. q.1) e in let u : x ≡ y = cc v in rw (w, u) refl

pub kept_keeping : {s s2 : State} (r : Outcome (Unit {0})) (earlier : Earlier) (m : Step Part) → Does r s2 (scanned m) s → Does (seen (λ _. earlier) r) s2 (kept (λ x. x.1) (keeping earlier m)) s
unfolding ◌>>=◌ kept
kept_keeping {s = s} (Ok u) earlier m h = record { is = λ ne. left_ok earlier (m s) (h.is tt) }
kept_keeping {s = s} (Err e) earlier m h = record { is = λ ne. left_err earlier (m s) (h.is ne) }

-- ---- levels

pub kept_too_deep : {A B : Type 0} {s : State} (f : A → B) (counting : Counting) (levels item : ℕ) (go : Inner → Step A) → levels ≡ 0 → Does {A = B} (Err (refusals.Term TooDeep item)) s (kept f (deeper (below counting levels) item go)) s
unfolding deeper stop kept
kept_too_deep f counting levels item go e = record { is = λ ne. rw (below_none counting levels e) refl }

pub kept_deeper : {A B : Type 0} {r : Outcome B} {s after : State} (f : A → B) (counting : Counting) (levels item : ℕ) (go : Inner → Step A) → 0 < levels → Does r after (kept f (go (term_at counting (levels - 1)))) s → Does r after (kept f (deeper (below counting levels) item go)) s
unfolding deeper kept
kept_deeper f counting levels item go some i = record { is = λ ne. rw (below_some counting levels some) (i.is ne) }

-- ---- an Else, or none

module _ (inner_term : Inner) (scope : List Seg) (context : Context) (start : ℕ) where
  pub kept_else : {r : Outcome (Unit {0})} {s s2 : State} → is_next 0xA1 s.rest ≡ true → Does r s2 (scanned (else_operand inner_term scope (at_else context start s.at))) s → Does r s2 (scanned (else_part inner_term scope context start)) s
  unfolding else_part kept
  kept_else e h = record { is = λ ne. rw e (h.is ne) }

  pub kept_no_else : {s : State} → is_next 0xA1 s.rest ≡ false → Does (Ok tt) s (scanned (else_part inner_term scope context start)) s
  unfolding else_part kept
  kept_no_else e = record { is = λ ne. rw e refl }

-- these close a chain of `?` whose definition is the same chain, its values left out
pub ruleset scanning = (kept_look, kept_looked, kept_leave, kept_settle_ok, kept_settle_err, kept_settle_seen_err, kept_keeping, kept_kept_ok, kept_kept_err, kept_ok, kept_err, kept_seen_err, kept_give, kept_stop, scanned_wrapped, scanned_term, kept_too_deep, kept_deeper, kept_else, kept_no_else, memory_err, memory_seen_err, no_memory_err, does_memory, does_seen_memory)

-- ---- whole lists

noted_so : {s2 : State} (p : Outcome (List Tree) × State) → seen_so {B = Unit {0}} (λ _. tt) p ≡ (Ok tt, s2) → noted p ≡ Ok (s2.marks, s2.arities)
noted_so {s2 = s2} (Ok ts, s) e = let w : s ≡ s2 = ap (λ q. q.1) e in rw w refl
noted_so (Err x, s) e = let f : Outcome (Unit {0}) = Err x in let g : Outcome (Unit {0}) = Ok tt in let v : f ≡ g = ap (λ q. q.0) e in absurd (cc v)

refused_so : {s2 : State} {x : Refusal} (p : Outcome (List Tree) × State) → seen_so {B = Unit {0}} (λ _. tt) p ≡ (Err x, s2) → noted p ≡ Err x
refused_so {x = x} (Err y, s) e = let f : Outcome (Unit {0}) = Err y in let g : Outcome (Unit {0}) = Err x in let v : f ≡ g = ap (λ q. q.0) e in let u : y ≡ x = cc v in rw u refl
refused_so {x = x} (Ok ts, s) e = let f : Outcome (Unit {0}) = Ok tt in let g : Outcome (Unit {0}) = Err x in let v : f ≡ g = ap (λ q. q.0) e in absurd (cc v)

pub noted_ok : {s s2 : State} {marks : List Mark} {arities : List Arity} (m : Step (List Tree)) → Does (Ok tt) s2 (scanned m) s → marks ≡ s2.marks → arities ≡ s2.arities → Answers (Ok (marks, arities)) (noted (m s))
unfolding kept
noted_ok {s = s} m h e f = record { is = λ ne. noted_so (m s) (h.is tt) ∙ rw (e, f) refl }

pub noted_err : {B : Type 0} {s s2 : State} {x : Refusal} (r : Outcome B) (view : B → List Mark × List Arity) (m : Step (List Tree)) → Does {A = Unit {0}} (Err x) s2 (scanned m) s → IsErr r × IsErrAnd r (λ y. y ≡ x) → Answers (seen view r) (noted (m s))
unfolding kept
noted_err (Ok b) view m h i = absurd (cc i.0)
noted_err {s = s} (Err y) view m h i = record { is = λ ne. refused_so (m s) (h.is (λ q. ne (i.1 ∙ q))) ∙ ap (λ x. Err x) (sym i.1) }

-- these close the scan of a whole list
pub ruleset noting = (noted_ok, noted_err, memory_answers)
