-- A buffer field is written while the bytes of its buffer are out of the heap: what is put back is all that stays.
use Rattle.std.specs.Prelude.{◌≡◌, ◌≤◌, ◌+◌, ◌*◌, ℕ, zero, suc, List, [], ◌∷◌, length, Bool, true, false, ◌&&◌, nat_lt, nat_le, ◌^◌, Option, Some, None, Ok, Err, IsErr, IsErrAnd, refl, slice_get, slice_set}
use Rattle.std.proofs.Common.{◌∙◌, ap, sym, arith}
use Rattle.std.proofs.lemmas.Bool.Decides.{nat_tests}
use Rattle.ar_space.specs.declared.refusal.Refusal.{Refusal}
use Rattle.ar_space.specs.Outcome.{Outcome, NotMemory, Answers}
use Rattle.ar_space.specs.Change.{Change, Does, give, settle, ◌>>=◌}
use Rattle.ar_space.proofs.Changes.{does_ok, settle_ok, does_give}
use Rattle.aml_objects.specs.declared.object.Object.{Object}
use Rattle.aml_objects.specs.declared.object.Object.TheVariants as object
use Rattle.aml_objects.specs.declared.entry.BufferField.{BufferField}
use Rattle.aml_objects.specs.Objects.{Objects, buffer_in, buffer_at, exchanged_with, with_exchanged, exchange_buffer}
use Rattle.aml_fields.specs.BufferFields.{lies_within, still_within, with_field, write_buffer_field}

-- ---- one place of a list, set twice

set_and_got : {A : Type 0} (xs : List A) (i : ℕ) (x y : A) → slice_get xs i ≡ Some x → slice_get (slice_set xs i y) i ≡ Some y
set_and_got [] i x y e = absurd (cc e)
set_and_got (a ∷ xs) zero x y e = refl
set_and_got (a ∷ xs) (suc i) x y e = set_and_got xs i x y e

set_twice : {A : Type 0} (xs : List A) (i : ℕ) (x y : A) → slice_set (slice_set xs i x) i y ≡ slice_set xs i y
set_twice [] i x y = refl
set_twice (a ∷ xs) zero x y = refl
set_twice (a ∷ xs) (suc i) x y = ap (λ l. a ∷ l) (set_twice xs i x y)

-- ---- a buffer that is there

buffer_is : (x : Option Object) (bytes : List ℕ) → buffer_in x ≡ Ok bytes → x ≡ Some (object.Buffer bytes)
buffer_is None bytes e = absurd (cc e)
buffer_is (Some (object.String xs)) bytes e = absurd (cc e)
buffer_is (Some (object.Buffer xs)) bytes e = cc e
buffer_is (Some (object.Package xs)) bytes e = absurd (cc e)

stands : (h : Objects) (o : ℕ) (bytes : List ℕ) → Does (Ok bytes) h (buffer_at o) h → slice_get h o ≡ Some (object.Buffer bytes)
unfolding buffer_at
stands h o bytes d = buffer_is (slice_get h o) bytes (ap (λ p. p.0) (d.is tt))

exchanged : (h : Objects) (o : ℕ) (bytes new : List ℕ) → slice_get h o ≡ Some (object.Buffer bytes) → exchange_buffer o new h ≡ (Ok bytes, slice_set h o (object.Buffer new))
unfolding exchange_buffer
exchanged h o bytes new e = rw e refl

-- ---- what an exchange of a buffer that is there answers and leaves

pub old_bytes : {h h1 : Objects} (o : ℕ) (bytes old new : List ℕ) → Does (Ok bytes) h (buffer_at o) h → Does (Ok old) h1 (exchange_buffer o new) h → old ≡ bytes
old_bytes {h = h} o bytes old new b d = let e : Ok old ≡ Ok bytes = ap (λ p. p.0) (sym (d.is tt) ∙ exchanged h o bytes new (stands h o bytes b)) in cc e

new_heap : {h h1 : Objects} (o : ℕ) (bytes old new : List ℕ) → slice_get h o ≡ Some (object.Buffer bytes) → Does (Ok old) h1 (exchange_buffer o new) h → h1 ≡ slice_set h o (object.Buffer new)
new_heap {h = h} o bytes old new s d = ap (λ p. p.1) (sym (d.is tt) ∙ exchanged h o bytes new s)

new_buffer : {h h1 : Objects} (o : ℕ) (bytes old new : List ℕ) → slice_get h o ≡ Some (object.Buffer bytes) → Does (Ok old) h1 (exchange_buffer o new) h → slice_get h1 o ≡ Some (object.Buffer new)
new_buffer {h = h} o bytes old new s d = rw (new_heap o bytes old new s d) (set_and_got h o (object.Buffer bytes) (object.Buffer new) s)

refused_never : {X : Type 0} {e : Refusal} {h h1 : Objects} (o : ℕ) (bytes new : List ℕ) → slice_get h o ≡ Some (object.Buffer bytes) → Does {A = List ℕ} (Err e) h1 (exchange_buffer o new) h → NotMemory {A = List ℕ} (Err e) → X
refused_never {e = e} {h = h} o bytes new s d ne = let is : Err e ≡ Ok bytes = ap (λ p. p.0) (sym (d.is ne) ∙ exchanged h o bytes new s) in absurd (cc is)

pub not_refused : {X : Type 0} {e : Refusal} {h h1 : Objects} (o : ℕ) (bytes new : List ℕ) → Does (Ok bytes) h (buffer_at o) h → Does {A = List ℕ} (Err e) h1 (exchange_buffer o new) h → NotMemory {A = List ℕ} (Err e) → X
not_refused {h = h} o bytes new b d ne = refused_never o bytes new (stands h o bytes b) d ne

pub not_refused_again : {X : Type 0} {e : Refusal} {h h1 h2 : Objects} (o : ℕ) (bytes old new again : List ℕ) → Does (Ok bytes) h (buffer_at o) h → Does (Ok old) h1 (exchange_buffer o new) h → Does {A = List ℕ} (Err e) h2 (exchange_buffer o again) h1 → NotMemory {A = List ℕ} (Err e) → X
not_refused_again {h = h} o bytes old new again b d d2 ne = refused_never o new again (new_buffer o bytes old new (stands h o bytes b) d) d2 ne

pub lies : (offset count : ℕ) (bytes : List ℕ) → lies_within offset count bytes ≡ true → offset + count ≤ 8 * length bytes
lies offset count bytes e = grind (arith, nat_tests)

-- ---- both exchanges are the one write

pub written : {h h1 h2 : Objects} (f : BufferField) (source bytes old new again given : List ℕ) → Does (Ok bytes) h (buffer_at f.buffer) h → Answers (Ok tt) (still_within f bytes)
    → Does (Ok old) h1 (exchange_buffer f.buffer new) h → again ≡ with_field f source old → Does (Ok given) h2 (exchange_buffer f.buffer again) h1 → Does (Ok tt) h2 (write_buffer_field f source) h
unfolding write_buffer_field
written {h = h} {h1 = h1} {h2 = h2} f source bytes old new again given b a d is d2 =
    let s = stands h f.buffer bytes b in
    let s1 = new_buffer f.buffer bytes old new s d in
    let end : h2 ≡ slice_set h f.buffer (object.Buffer (with_field f source bytes)) = (
    new_heap f.buffer new given again s1 d2
    ∙ ap (λ l. slice_set l f.buffer (object.Buffer again)) (new_heap f.buffer bytes old new s d)
    ∙ set_twice h f.buffer (object.Buffer new) (object.Buffer again)
    ∙ ap (λ l. slice_set h f.buffer (object.Buffer l)) (is ∙ ap (λ l. with_field f source l) (old_bytes f.buffer bytes old new b d))
    ) in
    does_ok _ _ b (settle_ok _ _ a (does_ok _ _ (record { is = λ ne. exchanged h f.buffer bytes (with_field f source bytes) s ∙ ap (λ l. (Ok bytes, l)) (sym end) }) does_give))
