-- The entries of a record, and what they say of an access.
use native.Mathlib.Omega.{arith}
use Rattle.std.specs.Prelude.{◌≡◌, ℕ, zero, suc, ◌+◌, ◌==◌, Bool, true, false, List, [], ◌∷◌, ◌++◌, length, drop, Option, Some, None, Result, Ok, Err, slice_get, if◌then◌else◌, refl}
use Rattle.std.proofs.Common.{add-one}
use Rattle.ar_space.specs.declared.refusal.SpaceFault.{SpaceFault}
use Rattle.ar_space.specs.declared.space.Width.{Width}
use Rattle.ar_space.specs.declared.space.Width.TheVariants.{W8, W16, W32, W64}
use Rattle.ar_space.specs.declared.space.Place.{Place}
use Rattle.ar_space.specs.declared.space.Place.TheVariants.{Memory, Io, Pci}
use Rattle.recorded_space.specs.declared.exchange.Exchange.{Exchange}
use Rattle.recorded_space.specs.declared.exchange.Exchange.TheVariants.{Read, Write}
use Rattle.recorded_space.specs.Exchanges.{is_same_place, is_same_width, is_same_register, kept, read_answer, write_answer}
use Rattle.recorded_space.specs.Recordings.{said_by}

-- ---- lists

dropped : {X : Type 0} (xs : List X) (i : ℕ) (x : X) → slice_get xs i ≡ Some x → drop i xs ≡ x ∷ drop (suc i) xs
dropped [] i x is = absurd (cc is)
dropped (y ∷ xs) zero x is = cc is
dropped (y ∷ xs) (suc i) x is = dropped xs i x is

pub got_behind : {X : Type 0} (done rest : List X) (x : X) → slice_get (done ++ x ∷ rest) (length done) ≡ Some x
got_behind [] rest x = refl
got_behind (y ∷ done) rest x = got_behind done rest x

-- ---- the same register

same_width : (a b : Width) → is_same_width a b ≡ true → a ≡ b
same_width W8 W8 is = refl
same_width W8 W16 is = absurd (cc is)
same_width W8 W32 is = absurd (cc is)
same_width W8 W64 is = absurd (cc is)
same_width W16 W8 is = absurd (cc is)
same_width W16 W16 is = refl
same_width W16 W32 is = absurd (cc is)
same_width W16 W64 is = absurd (cc is)
same_width W32 W8 is = absurd (cc is)
same_width W32 W16 is = absurd (cc is)
same_width W32 W32 is = refl
same_width W32 W64 is = absurd (cc is)
same_width W64 W8 is = absurd (cc is)
same_width W64 W16 is = absurd (cc is)
same_width W64 W32 is = absurd (cc is)
same_width W64 W64 is = refl

same_place : (a b : Place) → is_same_place a b ≡ true → a ≡ b
same_place (Memory a) (Memory b) is = grind arith
same_place (Memory a) (Io b) is = absurd (cc is)
same_place (Memory a) (Pci seg bus dev func reg) is = absurd (cc is)
same_place (Io a) (Memory b) is = absurd (cc is)
same_place (Io a) (Io b) is = grind arith
same_place (Io a) (Pci seg bus dev func reg) is = absurd (cc is)
same_place (Pci seg bus dev func reg) (Memory b) is = absurd (cc is)
same_place (Pci seg bus dev func reg) (Io b) is = absurd (cc is)
same_place (Pci seg bus dev func reg) (Pci seg2 bus2 dev2 func2 reg2) is = grind arith

kept_is : (width : Width) (answer said : Result ℕ SpaceFault) → kept width answer ≡ Some said → answer ≡ said
kept_is width (Ok value) said is = grind arith
kept_is width (Err fault) said is = cc is

-- ---- an entry that says something is that access

unless_none : {X : Type 0} (b : Bool) (o : Option X) (x : X) → (if b then o else None) ≡ Some x → (b ≡ true) × (o ≡ Some x)
unless_none true o x is = (refl, is)
unless_none false o x is = absurd (cc is)

both : (a b : Bool) → (if a then b else false) ≡ true → (a ≡ true) × (b ≡ true)
both true b is = (refl, is)
both false b is = absurd (cc is)

same_register : (at place : Place) (wide width : Width) → is_same_register at wide place width ≡ true → (at ≡ place) × (wide ≡ width)
same_register at place wide width is = let h = both (is_same_place at place) (is_same_width wide width) is in (same_place at place h.0, same_width wide width h.1)

read_said : (place : Place) (width : Width) (entry : Exchange) (answer : Result ℕ SpaceFault) → read_answer place width entry ≡ Some answer → entry ≡ Read place width answer
read_said place width (Read at wide answer) said is =
    let h = unless_none (is_same_register at wide place width) (kept width answer) said is in
    let r = same_register at place wide width h.0 in
    let k = kept_is width answer said h.1 in
    cc (r.0, r.1, k)
read_said place width (Write at wide value answer) said is = absurd (cc is)

write_said : (place : Place) (width : Width) (value : ℕ) (entry : Exchange) (answer : Result (Unit {0}) SpaceFault) → write_answer place width value entry ≡ Some answer → entry ≡ Write place width value answer
write_said place width value (Read at wide answer) said is = absurd (cc is)
write_said place width value (Write at wide written answer) said is =
    let h = unless_none (is_same_register at wide place width) (if written == value then Some answer else None) said is in
    let r = same_register at place wide width h.0 in
    let v = unless_none (written == value) (Some answer) said h.1 in
    let same : written ≡ value = grind arith in
    cc (r.0, r.1, same, v.1)

found : {A : Type 0} (entry : Option Exchange) (answer : Exchange → Option A) (said : A) → said_by entry answer ≡ Some said → (e : Exchange) × (entry ≡ Some e) × (answer e ≡ Some said)
found None answer said is = absurd (cc is)
found (Some e) answer said is = (e, refl, is)

pub found_read : (entries : List Exchange) (used : ℕ) (place : Place) (width : Width) (answer : Result ℕ SpaceFault)
    → said_by (slice_get entries used) (read_answer place width) ≡ Some answer → drop used entries ≡ Read place width answer ∷ drop (used + 1) entries
found_read entries used place width answer is =
    let f = found (slice_get entries used) (read_answer place width) answer is in
    let e = read_said place width f.0 answer f.2 in
    let d = dropped entries used f.0 f.1 in
    rw (add-one used) (cc (d, e))

pub found_write : (entries : List Exchange) (used : ℕ) (place : Place) (width : Width) (value : ℕ) (answer : Result (Unit {0}) SpaceFault)
    → said_by (slice_get entries used) (write_answer place width value) ≡ Some answer → drop used entries ≡ Write place width value answer ∷ drop (used + 1) entries
found_write entries used place width value answer is =
    let f = found (slice_get entries used) (write_answer place width value) answer is in
    let e = write_said place width value f.0 answer f.2 in
    let d = dropped entries used f.0 f.1 in
    rw (add-one used) (cc (d, e))
