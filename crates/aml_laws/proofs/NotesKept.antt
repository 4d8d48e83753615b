-- What is passed over is counted, and the first of it are kept.
use Rattle.std.specs.Prelude.{◌≡◌, ◌≤◌, ◌<◌, ◌+◌, ◌-◌, ◌^◌, ◌==◌, ◌∷◌, ◌++◌, ℕ, List, [], length, min, take, nat_lt, Bool, true, false, refl, if◌then◌else◌}
use Rattle.std.proofs.Common.{arith, ap, sym, ◌∙◌, append_assoc, length-append}
use Rattle.std.proofs.lemmas.Bool.{ltb-true, ltb-false}
use Rattle.std.proofs.lemmas.Bool.Decides.{nat_tests}
use Rattle.std.proofs.lemmas.List.{append-nil, take_all, take-append-le}
use Rattle.ar_space.specs.declared.integer_width.IntegerWidth.{IntegerWidth}
use Rattle.ar_space.specs.declared.refusal.Refusal.{Refusal}
use Rattle.ar_space.specs.Accesses.{Accesses}
use Rattle.aml_path.specs.declared.segment.Seg.{Seg}
use Rattle.aml_world.specs.declared.state.passed_over.PassedItem.{PassedItem}
use Rattle.aml_world.specs.declared.state.settings.EvaluationSettings.{EvaluationSettings}
use Rattle.aml_world.specs.state.PassedOver.{PassedOver, kept_with, counted_on, passed_with}
use Rattle.aml_world.specs.state.Noting.{with_passed}
use Rattle.aml_world.specs.state.Predefined.{fresh_as, predefined}
use Rattle.aml_world.specs.state.State.{State}
use Rattle.aml_laws.specs.Becomes.{Becomes}
use Rattle.aml_laws.specs.PassedNotes.{KeepsTheFirst, with_one_more, GoesOn}
use Rattle.aml_laws.proofs.WorldRelations.{WorldRelation, plain}
use Rattle.aml_laws.proofs.EvaluationsPreserve.{becomes_preserves, predefined_preserves}

-- ---- one note

counted_by : (b : Bool) (n : ℕ) → (n == 2 ^ 64 - 1) ≡ b → n ≤ (if b then n else n + 1)
counted_by true n is = omega arith
counted_by false n is = omega arith

pub counted_rises : (n : ℕ) → n ≤ counted_on n
counted_rises n = counted_by (n == 2 ^ 64 - 1) n refl

pub counts_one : (n : ℕ) → n < 2 ^ 64 - 1 → counted_on n ≡ n + 1
counts_one n few = grind (arith, nat_tests)

stays_full : (n : ℕ) → n ≡ 2 ^ 64 - 1 → counted_on n ≡ n
stays_full n full = grind (arith, nat_tests)

-- by whether there is room
kept_by : (b : Bool) (item : PassedItem) (kept : List PassedItem) → nat_lt (length kept) 64 ≡ b → length kept ≤ 64 → (if b then kept ++ item ∷ [] else kept) ≡ take 64 (kept ++ item ∷ [])
kept_by true item kept is few =
    let room = ltb-true (length kept) 64 is in
    let all = length-append kept (item ∷ []) in
    sym (take_all 64 (kept ++ item ∷ []) (omega (arith, room, all)))
kept_by false item kept is few =
    let none = ltb-false (length kept) 64 is in
    let full : length kept ≡ 64 = omega (arith, none, few) in
    let fits : 64 ≤ length kept = omega (arith, full) in rw take-append-le (sym (take_all 64 kept (omega (arith, full))))

keeps_one : (item : PassedItem) (kept : List PassedItem) → length kept ≤ 64 → kept_with item kept ≡ take 64 (kept ++ item ∷ [])
keeps_one item kept few = kept_by (nat_lt (length kept) 64) item kept refl few

few_kept : (passed : PassedOver) → KeepsTheFirst passed → length passed.kept ≤ 64
few_kept passed h = omega (arith, h)

pub note_is_one_more : {S : Type 0} (scope : List Seg) (e : Refusal) (w : State S) → KeepsTheFirst w.passed → w.passed.count < 2 ^ 64 - 1 → with_passed scope e w ≡ with_one_more scope e w
note_is_one_more scope e w h few =
    let item : PassedItem = record { refusal = e; scope = scope } in
    ap (λ n. record w { passed = record { count = n; kept = kept_with item w.passed.kept } }) (counts_one w.passed.count few)
    ∙ ap (λ (kept : List PassedItem). record w { passed = record { count = w.passed.count + 1; kept = kept } }) (keeps_one item w.passed.kept (few_kept w.passed h))

full_by : (b : Bool) (item : PassedItem) (kept : List PassedItem) → nat_lt (length kept) 64 ≡ b → length kept ≡ 64 → (if b then kept ++ item ∷ [] else kept) ≡ kept
full_by true item kept is full = let room = ltb-true (length kept) 64 is in absurd (omega (arith, room, full))
full_by false item kept is full = refl

pub note_of_too_many : {S : Type 0} (scope : List Seg) (e : Refusal) (w : State S) → KeepsTheFirst w.passed → w.passed.count ≡ 2 ^ 64 - 1 → with_passed scope e w ≡ w
note_of_too_many scope e w h many =
    let item : PassedItem = record { refusal = e; scope = scope } in
    ap (λ n. record w { passed = record { count = n; kept = kept_with item w.passed.kept } }) (stays_full w.passed.count many)
    ∙ ap (λ (kept : List PassedItem). record w { passed = record { count = w.passed.count; kept = kept } }) (full_by (nat_lt (length w.passed.kept) 64) item w.passed.kept refl (omega (arith, h, many)))

-- ---- whatever is evaluated

pub goes_on_reflexive : (p : PassedOver) → GoesOn p p
goes_on_reflexive p = record { more = []; kept = sym (append-nil p.kept); count = omega arith }

pub goes_on_transitive : (p q r : PassedOver) → GoesOn p q → GoesOn q r → GoesOn p r
goes_on_transitive p q r h i =
    let first = h.count in
    let second = i.count in
    record { more = h.more ++ i.more; kept = i.kept ∙ ap (λ (kept : List PassedItem). kept ++ i.more) h.kept ∙ append_assoc p.kept h.more i.more; count = omega (arith, first, second) }

record Behind (kept after : List PassedItem) : Type 0 where
  more : List PassedItem
  is : after ≡ kept ++ more

behind_by : (b : Bool) (item : PassedItem) (kept : List PassedItem) → Behind kept (if b then kept ++ item ∷ [] else kept)
behind_by true item kept = record { more = item ∷ []; is = refl }
behind_by false item kept = record { more = []; is = sym (append-nil kept) }

pub goes_on_noted : (item : PassedItem) (p : PassedOver) → GoesOn p (passed_with item p)
goes_on_noted item p = let b = behind_by (nat_lt (length p.kept) 64) item p.kept in record { more = b.more; kept = b.is; count = counted_rises p.count }

first_by : (b c : Bool) (item : PassedItem) (p : PassedOver) → (p.count == 2 ^ 64 - 1) ≡ b → nat_lt (length p.kept) 64 ≡ c → KeepsTheFirst p → length (if c then p.kept ++ item ∷ [] else p.kept) ≡ min 64 (if b then p.count else p.count + 1)
first_by true true item p full room h = let r = ltb-true (length p.kept) 64 room in let n : p.count ≡ 2 ^ 64 - 1 = grind (arith, nat_tests) in absurd (omega (arith, r, n, h))
first_by true false item p full room h = h
first_by false true item p full room h = let r = ltb-true (length p.kept) 64 room in let l = length-append p.kept (item ∷ []) in omega (arith, l, r, h)
first_by false false item p full room h = let r = ltb-false (length p.kept) 64 room in omega (arith, r, h)

first_noted : (item : PassedItem) (p : PassedOver) → KeepsTheFirst p → KeepsTheFirst (passed_with item p)
first_noted item p h = first_by (p.count == 2 ^ 64 - 1) (nat_lt (length p.kept) 64) item p refl refl h

module _ {S : Type 0} (accesses : Accesses S) where
  -- what each evaluation makes of what is told of them, where one more note does it too
  abbrev notes_relation : (Leads : PassedOver → PassedOver → Type 0) → ((p : PassedOver) → Leads p p) → ((p q r : PassedOver) → Leads p q → Leads q r → Leads p r) → ((item : PassedItem) (p : PassedOver) → Leads p (passed_with item p)) → WorldRelation accesses
  notes_relation Leads same one_by_one one = plain (record {
    Leads = λ w v. Leads w.passed v.passed;
    reflexive = λ w. same w.passed;
    transitive = λ u v w. one_by_one u.passed v.passed w.passed;
    objects_change = λ w h k. same w.passed;
    name_declared = λ w q o free. same w.passed;
    object_replaced = λ w q o e at is. same w.passed;
    slots_written = λ w frames is. same w.passed;
    frame_closed = λ w v vs h. h;
    names_removed = λ u w q at h. h;
    told = false;
    region_accessed = λ u w field region space s stands at r h. h;
    bridge_asked = λ u w at width wide asks h. h;
    loads = true;
    arities_set = λ loads w list. same w.passed;
    mutexes_released = λ w. same w.passed;
    passed_noted = λ listed u w scope e wide is h. one_by_one u.passed w.passed _ h (one (record { refusal = e; scope = scope }) w.passed);
  })

  abbrev pub goes_on_relation : WorldRelation accesses
  goes_on_relation = notes_relation GoesOn goes_on_reflexive goes_on_transitive goes_on_noted

  abbrev first_relation : WorldRelation accesses
  first_relation = notes_relation (λ p q. KeepsTheFirst p → KeepsTheFirst q) (λ p h. h) (λ p q r h i f. i (h f)) first_noted

  pub notes_go_on : (w v : State S) → Becomes accesses w v → GoesOn w.passed v.passed
  notes_go_on w v h = becomes_preserves goes_on_relation refl w v h

  pub first_are_kept : (w v : State S) → Becomes accesses w v → KeepsTheFirst w.passed → KeepsTheFirst v.passed
  first_are_kept w v h = becomes_preserves first_relation refl w v h

  pub first_are_always_kept : (settings : EvaluationSettings) (width : IntegerWidth) (osi : List (List ℕ)) (space : S) (w : State S) → Becomes accesses (predefined (fresh_as settings width osi space)).1 w → KeepsTheFirst w.passed
  first_are_always_kept settings width osi space w h = first_are_kept _ w h ((predefined_preserves {relation = first_relation} refl).preserves (fresh_as settings width osi space) refl)

pub ruleset the_first_that_are_passed_over_are_kept = (notes_go_on, first_are_kept, first_are_always_kept)
