-- The pins that are taken are the first ones of their device number and pin.
use Rattle.std.proofs.Common.{◌≡◌, ℕ, zero, suc, ◌<◌, Bool, true, false, cond, List, [], ◌∷◌, ◌++◌, Option, Some, None, Ok, Err, length, get_or, refl, sym, ◌∙◌, ap, subst, inl, inr, arith, append_assoc, append-nil}
use Rattle.std.specs.Prelude.{Contains, ◌↔◌, find, if◌then◌else◌}
use Rattle.std.specs.List.{cons_option}
use Rattle.std.proofs.lemmas.Bool.{false≢true, eqb-true, eq-eqb, and_parts, and_from, or_cases, or_parts}
use Rattle.std.proofs.lemmas.List.Quantifiers.{all_pairs_push}
use Rattle.ar_space.specs.Accesses.{Accesses}
use Rattle.ar_space.specs.Outcome.{Outcome, seen}
use Rattle.ar_space.specs.Change.{Change, give, go_on, ◌>>=◌}
use Rattle.aml_path.specs.declared.segment.Seg.{Seg}
use Rattle.aml_world.specs.state.Given.{Given}
use Rattle.acpi_machine.specs.MachineStates.{MachineState}
use Rattle.acpi_prt.specs.declared.pin.Pin.{Pin}
use Rattle.acpi_prt.specs.Pins.{is_at, stands, taken_new, taken}
use Rattle.acpi_prt.specs.RoutingTables.{pin_of, pins_from, routing_table}
use Rattle.acpi_prt.specs.Said.{pins_said, IsFirst, NoneTwice}

-- pins of the same device number and pin
same_place : (q p k : Pin) → is_at q p ≡ true → is_at q k ≡ is_at p k
same_place q p k e =
    let parts = and_parts _ _ e in
    let number : q.number ≡ p.number = eqb-true q.number p.number parts.0 in
    let pin : q.pin ≡ p.pin = eqb-true q.pin p.pin parts.1 in
    rw (number, pin) refl

at_itself : (p : Pin) → is_at p p ≡ true
at_itself p = and_from _ _ (eq-eqb p.number p.number refl) (eq-eqb p.pin p.pin refl)

-- the first pin of a device number and pin
abbrev first_at : Pin → List Pin → Option Pin
first_at k pins = find (λ q. is_at q k) pins

elsewhere : (pins : List Pin) (p k : Pin) (rest : List Pin) → is_at p k ≡ false → first_at k (pins ++ p ∷ rest) ≡ first_at k (pins ++ rest)
elsewhere [] p k rest e = ap (λ b. cond b (Some p) (first_at k rest)) e
elsewhere (q ∷ pins) p k rest e = ap (λ o. cond (is_at q k) (Some q) o) (elsewhere pins p k rest e)

-- a later pin of the same place says nothing
later : (pins : List Pin) (p k : Pin) (rest : List Pin) → stands pins p ≡ true → first_at k (pins ++ p ∷ rest) ≡ first_at k (pins ++ rest)
later [] p k rest e = absurd (false≢true e)
later (q ∷ pins) p k rest e = by (is_at q k) refl (later pins p k rest)
  where
    by : (b : Bool) → is_at q k ≡ b → (stands pins p ≡ true → first_at k (pins ++ p ∷ rest) ≡ first_at k (pins ++ rest)) → cond b (Some q) (first_at k (pins ++ p ∷ rest)) ≡ cond b (Some q) (first_at k (pins ++ rest))
    by true h more = refl
    by false h more = elim (or_cases (is_at q p) (stands pins p) e) [ inl same ↦ elsewhere pins p k rest (sym (same_place q p k same) ∙ h) | inr behind ↦ more behind ]

-- pins taken one after another
abbrev all_taken : List Pin → List Pin → List Pin
all_taken pins [] = pins
all_taken pins (p ∷ said) = all_taken (taken_new pins p) said

first_taken : (said pins : List Pin) (k : Pin) → first_at k (all_taken pins said) ≡ first_at k (pins ++ said)
first_taken [] pins k = ap (first_at k) (sym (append-nil pins))
first_taken (p ∷ said) pins k = by (stands pins p) refl (λ more. first_taken said more k)
  where
    by : (b : Bool) → stands pins p ≡ b → ((more : List Pin) → first_at k (all_taken more said) ≡ first_at k (more ++ said)) → first_at k (all_taken (if b then pins else pins ++ p ∷ []) said) ≡ first_at k (pins ++ p ∷ said)
    by true e more = more pins ∙ sym (later pins p k said e)
    by false e more = more (pins ++ p ∷ []) ∙ ap (first_at k) (append_assoc pins (p ∷ []) said)

other_place : (pins : List Pin) (p : Pin) (k : ℕ) (d : Pin) → stands pins p ≡ false → k < length pins → is_at (get_or pins k d) p ≡ false
other_place [] p k d e l = absurd (omega arith)
other_place (q ∷ pins) p zero d e l = (or_parts _ _ e).0
other_place (q ∷ pins) p (suc k) d e l = other_place pins p k d (or_parts (is_at q p) (stands pins p) e).1 (omega arith)

all_other : (said pins : List Pin) → NoneTwice pins → NoneTwice (all_taken pins said)
all_other [] pins none = none
all_other (p ∷ said) pins none = by (stands pins p) refl (all_other said)
  where
    by : (b : Bool) → stands pins p ≡ b → ((more : List Pin) → NoneTwice more → NoneTwice (all_taken more said)) → NoneTwice (all_taken (if b then pins else pins ++ p ∷ []) said)
    by true e more = more pins none
    by false e more = more (pins ++ p ∷ []) (all_pairs_push (λ (q r : Pin). is_at q r ≡ false) pins p none (λ k d l. other_place pins p k d e l))

none_at_all : NoneTwice []
none_at_all i j d l m = absurd (omega arith)

-- where none stands twice, each pin is the first of its place
is_first : (pins : List Pin) (p : Pin) → NoneTwice pins → Contains pins p → IsFirst pins p
is_first [] p none c = absurd (let h = c.1 in omega arith)
is_first (q ∷ pins) p none c = at c.0 c.1 c.2 (is_first pins p (λ i j d l m. none (suc i) (suc j) d (omega arith) (omega arith)))
  where
    at : (k : ℕ) → k < length (q ∷ pins) → get_or (q ∷ pins) k p ≡ p → (Contains pins p → IsFirst pins p) → IsFirst (q ∷ pins) p
    at zero l e more = rw e (ap (λ b. cond b (Some p) (first_at p pins)) (at_itself p))
    at (suc k) l e more =
        let other : is_at q p ≡ false = subst (λ (r : Pin). is_at q r ≡ false) e (none 0 (suc k) p (omega arith) l) in
        ap (λ b. cond b (Some q) (first_at p pins)) other ∙ more (k, omega arith, e)

is_contained : (pins : List Pin) (p k : Pin) → first_at k pins ≡ Some p → Contains pins p
is_contained [] p k e = absurd (cc e)
is_contained (q ∷ pins) p k e = by (is_at q k) e (is_contained pins p k)
  where
    by : (b : Bool) → cond b (Some q) (first_at k pins) ≡ Some p → (first_at k pins ≡ Some p → Contains pins p) → Contains (q ∷ pins) p
    by true h more = (0, omega arith, cc h)
    by false h more = let c = more h in (suc c.0, (let l = c.1 in omega arith), c.2)

firsts_of : (said : List Pin) (pin : Pin) → Contains (all_taken [] said) pin ↔ IsFirst said pin
firsts_of said pin = (
  λ c. sym (first_taken said [] pin) ∙ is_first (all_taken [] said) pin (all_other said [] none_at_all) c,
  λ e. is_contained (all_taken [] said) pin pin (first_taken said [] pin ∙ e),
)

-- what goes before an answer
before_ok : {T A B : Type 0} (m : Change T A) (k : A → Change T B) (b : B) (s t : T) → (m >>= k) s ≡ (Ok b, t) → (a : A) × (u : T) × (k a u ≡ (Ok b, t))
unfolding ◌>>=◌ go_on
before_ok {T} {A} {B} m k b s t e = by (m s).0 (m s).1 e
  where
    by : (o : Outcome A) (u : T) → go_on o u k ≡ (Ok b, t) → (a : A) × (u : T) × (k a u ≡ (Ok b, t))
    by (Ok a) u e = (a, u, e)
    by (Err f) u e = let h = ap (λ (r : Outcome B × T). r.0) e in absurd (cc h)

module _ {S : Type 0} (accesses : Accesses S) where
  abbrev kept : List Pin → Outcome (List Pin) × MachineState S → Outcome (List Pin) × MachineState S
  kept pins r = (seen (all_taken pins) r.0, r.1)

  -- the pins of entries are those that they say, taken one after another
  said_taken : (entries : List Given) (pins : List Pin) (s : MachineState S) → pins_from accesses entries pins s ≡ kept pins (pins_said accesses entries s)
  unfolding pins_from pins_said ◌>>=◌ go_on give
  said_taken [] pins s = refl
  said_taken (entry ∷ entries) pins s = by (pin_of accesses entry s).0 (pin_of accesses entry s).1 (said_taken entries)
    where
      more : (pin : Option Pin) (o : Outcome (List Pin)) (t : MachineState S) → kept (taken pins pin) (o, t) ≡ kept pins (go_on o t (λ list. give (cons_option pin list)))
      more None (Ok list) t = refl
      more (Some p) (Ok list) t = refl
      more pin (Err e) t = refl

      by : (o : Outcome (Option Pin)) (t : MachineState S) → ((next : List Pin) (u : MachineState S) → pins_from accesses entries next u ≡ kept next (pins_said accesses entries u))
          → go_on o t (λ pin. pins_from accesses entries (taken pins pin)) ≡ kept pins (go_on o t (λ pin. pins_said accesses entries >>= (λ list. give (cons_option pin list))))
      by (Ok pin) t rest = rest (taken pins pin) t ∙ more pin (pins_said accesses entries t).0 (pins_said accesses entries t).1
      by (Err e) t rest = refl

  -- the answer to entries
  answered : (entries : List Given) (pins : List Pin) (before after : MachineState S) → pins_from accesses entries [] before ≡ (Ok pins, after)
      → (said : List Pin) × (pins_said accesses entries before ≡ (Ok said, after)) × (pins ≡ all_taken [] said)
  answered entries pins before after e = by (pins_said accesses entries before).0 (pins_said accesses entries before).1 refl (sym (said_taken entries [] before) ∙ e)
    where
      by : (o : Outcome (List Pin)) (t : MachineState S) → pins_said accesses entries before ≡ (o, t) → kept [] (o, t) ≡ (Ok pins, after)
          → (said : List Pin) × (pins_said accesses entries before ≡ (Ok said, after)) × (pins ≡ all_taken [] said)
      by (Ok said) t is h =
          let same : Ok (all_taken [] said) ≡ Ok pins = ap (λ (r : Outcome (List Pin) × MachineState S). r.0) h in
          let end : t ≡ after = ap (λ (r : Outcome (List Pin) × MachineState S). r.1) h in
          (said, is ∙ ap (λ (u : MachineState S). (Ok said, u)) end, cc same)
      by (Err f) t is h = let same = ap (λ (r : Outcome (List Pin) × MachineState S). r.0) h in absurd (cc same)

  table_answered : (device : List Seg) (pins : List Pin) (before after : MachineState S) → routing_table accesses device before ≡ (Ok pins, after) → NoneTwice pins
  unfolding routing_table
  table_answered device pins before after e =
      let name = before_ok _ _ pins before after e in
      let answer = before_ok _ _ pins name.1 after name.2 in
      let entries = before_ok _ _ pins answer.1 after answer.2 in
      let so = answered entries.0 pins entries.1 after entries.2 in
      subst NoneTwice (sym so.2) (all_other so.0 [] none_at_all)

pub none_twice : {S : Type 0} (accesses : Accesses S) (device : List Seg) (pins : List Pin) (before after : MachineState S) → routing_table accesses device before ≡ (Ok pins, after) → NoneTwice pins
none_twice accesses = table_answered accesses

pub first_counts : {S : Type 0} (accesses : Accesses S) (entries : List Given) (pins : List Pin) (before after : MachineState S) → pins_from accesses entries [] before ≡ (Ok pins, after)
    → (said : List Pin) × (pins_said accesses entries before ≡ (Ok said, after)) × ((pin : Pin) → Contains pins pin ↔ IsFirst said pin)
first_counts accesses entries pins before after e =
    let so = answered accesses entries pins before after e in
    (so.0, so.1, λ pin. subst (λ (list : List Pin). Contains list pin ↔ IsFirst so.0 pin) (sym so.2) (firsts_of so.0 pin))
