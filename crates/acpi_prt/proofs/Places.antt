-- The places of some pins are known, one more pin among them.
use Rattle.std.proofs.Common.{◌≡◌, ℕ, Bool, true, false, cond, List, [], ◌∷◌, ◌++◌, Ok, refl, sym, ◌∙◌, ap}
use Rattle.std.specs.Prelude.{◌==◌, ◌&&◌, ◌||◌, not, if◌then◌else◌}
use Rattle.std.proofs.lemmas.Bool.{false≢true}
use Rattle.ar_space.specs.Outcome.{Answers}
use Rattle.std.specs.List.{list_any}
use Rattle.std.specs.BTreeSet.{BTreeSet, contains, Updates}
use Rattle.std.specs.Ordering.{nat_cmp, ordering_then, eq_by_cmp, is_eq}
use Rattle.std.specs.Cmp.{tied_then, unsigned_tied}
use Rattle.acpi_prt.specs.declared.pin.Pin.{Pin}
use Rattle.acpi_prt.specs.declared.first_pins.PinPlace.{PinPlace}
use Rattle.acpi_prt.specs.FirstPins.{place_cmp, place_of, HasPlaces}
use Rattle.acpi_prt.specs.Pins.{is_at, stands, taken_new}

same : (p q : Pin) → eq_by_cmp place_cmp (place_of p) (place_of q) ≡ is_at p q
same p q =
    sym (tied_then (nat_cmp p.number q.number) (nat_cmp p.pin q.pin)) ∙ rw (unsigned_tied p.number q.number, unsigned_tied p.pin q.pin) refl

pub stands_is : (pins : List Pin) (p : Pin) → list_any (λ o. eq_by_cmp place_cmp (place_of o) (place_of p)) pins ≡ stands pins p
stands_is [] p = refl
stands_is (o ∷ pins) p = rw (same o p, stands_is pins p) refl

any_end : (f : Pin → Bool) (pins : List Pin) (p : Pin) → cond (f p) true (list_any f pins) ≡ list_any f (pins ++ p ∷ [])
any_end f [] p = by (f p)
  where
    by : (b : Bool) → cond b true false ≡ (b || false)
    by true = refl
    by false = refl
any_end f (o ∷ pins) p = by (f p) (f o) (any_end f pins p)
  where
    by : (b d : Bool) → cond b true (list_any f pins) ≡ list_any f (pins ++ p ∷ []) → cond b true (d || list_any f pins) ≡ (d || list_any f (pins ++ p ∷ []))
    by true true h = refl
    by true false h = h
    by false true h = refl
    by false false h = h

pub one_more : (pins : List Pin) (s n : BTreeSet PinPlace) (p : Pin) → HasPlaces pins s → Updates place_cmp s n (place_of p) true → HasPlaces (pins ++ p ∷ []) n
one_more pins s n p h u = λ q. u.0 q ∙ rw (h q) (any_end (λ o. eq_by_cmp place_cmp (place_of o) q) pins p)

known : (pins : List Pin) (s : BTreeSet PinPlace) (p : Pin) (q : PinPlace) → HasPlaces pins s → q ≡ place_of p → contains place_cmp s q ≡ stands pins p
known pins s p q h e = rw e (h (place_of p) ∙ stands_is pins p)

-- a pin whose place is known is passed over
pub stood : (first pins : List Pin) (s : BTreeSet PinPlace) (p : Pin) (q : PinPlace) (added : Bool) → pins ≡ first → HasPlaces pins s → q ≡ place_of p → added ≡ not (contains place_cmp s q) → added ≡ false
    → Answers (Ok pins) (Ok (taken_new first p))
stood first pins s p q added f h e is not_added = record { is = λ _. rw (← f) (ap Ok (by (stands pins p) refl)) }
  where
    by : (b : Bool) → stands pins p ≡ b → (if b then pins else pins ++ p ∷ []) ≡ pins
    by true x = refl
    by false x = absurd (false≢true (sym not_added ∙ is ∙ ap not (known pins s p q h e ∙ x)))

-- and any other is taken
pub is_new : (first pins after : List Pin) (s : BTreeSet PinPlace) (p : Pin) (q : PinPlace) (added : Bool) → pins ≡ first → HasPlaces pins s → q ≡ place_of p → added ≡ not (contains place_cmp s q) → added ≡ true
    → after ≡ pins ++ p ∷ [] → Answers (Ok after) (Ok (taken_new first p))
is_new first pins after s p q added f h e is was_added more = record { is = λ _. rw (← f) (ap Ok (by (stands pins p) refl)) }
  where
    by : (b : Bool) → stands pins p ≡ b → (if b then pins else pins ++ p ∷ []) ≡ after
    by true x = absurd (false≢true (sym (is ∙ ap not (known pins s p q h e ∙ x)) ∙ was_added))
    by false x = sym more
