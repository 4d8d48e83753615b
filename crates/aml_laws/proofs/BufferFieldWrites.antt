-- A buffer field is read as it was written, and its write leaves all other bits of the buffer, and all other objects.
use Rattle.std.specs.Prelude.{◌≡◌, ◌≢◌, ◌⊎◌, ◌<◌, ◌≤◌, ℕ, zero, suc, ◌+◌, ◌-◌, ◌*◌, ◌^◌, nat_lt, nat_le, ◌&&◌, Bool, true, false, List, [], ◌∷◌, ◌++◌, length, take, drop, replicate, get_or, slice_get, slice_set, Option, Some, None, Ok, Err, refl, if◌then◌else◌}
use Rattle.std.proofs.Common.{arith, inl, inr, ap, sym, subst, ◌∙◌, append-nil, append_assoc, length-append}
use Rattle.std.proofs.lemmas.List.{drop_at, length-drop, length-take-le, take-append-drop, take_at}
use Rattle.ar_space.specs.declared.refusal.Refusal.{Refusal}
use Rattle.ar_space.specs.declared.refusal.Refusal.TheVariants as refusal
use Rattle.ar_space.specs.declared.refusal.EvaluationFault.TheVariants.{DeadReference}
use Rattle.ar_space.specs.Outcome.{Outcome}
use Rattle.ar_space.specs.Change.{give, settle, go_on, ◌>>=◌}
use Rattle.aml_objects.specs.Objects.{Objects, buffer_in, buffer_at, exchange_buffer, with_exchanged}
use Rattle.aml_objects.specs.declared.object.Object.{Object}
use Rattle.aml_objects.specs.declared.object.Object.TheVariants as object
use Rattle.aml_objects.specs.declared.entry.BufferField.{BufferField}
use Rattle.aml_fields.specs.Bits.{bits_from, bits_of, number_of, bytes_within, extended, field_bits, packed, put}
use Rattle.aml_fields.specs.BufferFields.{lies_within, still_within, with_field, read_buffer_field, write_buffer_field}
use Rattle.aml_fields.proofs.BitLists.{length_of}
use Rattle.aml_fields.proofs.BufferWrites.{lies}
use Rattle.aml_fields.proofs.Putting.{length_extended}
use Rattle.aml_fields.proofs.SpaceBits.{bits_again, length_put, put_before, put_inside, put_behind}

-- ---- bits that are packed into bytes, and taken apart again

no_bits_left : (bits : List Bool) → length bits ≡ 0 → [] ≡ bits
no_bits_left [] h = refl
no_bits_left (b ∷ bits) h = absurd (omega (arith, h))

bits_of_none : bits_of [] ≡ []
unfolding bits_of
bits_of_none = refl

bits_of_more : (b : ℕ) (bytes : List ℕ) → bits_of (b ∷ bytes) ≡ bits_from b 0 8 ++ bits_of bytes
unfolding bits_of
bits_of_more b bytes = refl

pub taken_apart : (n : ℕ) (bits : List Bool) → length bits ≡ 8 * n → bits_of (bytes_within n bits) ≡ bits
unfolding bytes_within
taken_apart zero bits h = bits_of_none ∙ no_bits_left bits (omega (arith, h))
taken_apart (suc n) bits h =
    let long : length (take 8 bits) ≡ 8 = length-take-le 8 bits (omega (arith, h)) in
    let first : bits_from (number_of (take 8 bits)) 0 8 ≡ take 8 bits = ap (λ k. bits_from (number_of (take 8 bits)) 0 k) (sym long) ∙ bits_again (take 8 bits) in
    let behind : length (drop 8 bits) ≡ 8 * n = let l = length-drop 8 bits in omega (arith, l, h) in
    bits_of_more (number_of (take 8 bits)) (bytes_within n (drop 8 bits))
    ∙ ap (λ xs. xs ++ bits_of (bytes_within n (drop 8 bits))) first
    ∙ ap (λ ys. take 8 bits ++ ys) (taken_apart n (drop 8 bits) behind)
    ∙ take-append-drop 8 bits

so_many : (n : ℕ) (bits : List Bool) → length (bytes_within n bits) ≡ n
unfolding bytes_within
so_many zero bits = refl
so_many (suc n) bits = ap suc (so_many n (drop 8 bits))

-- ---- the bits that are put are found again

found_again : (offset count : ℕ) (new old : List Bool) → length new ≡ count → offset + count ≤ length old → extended count (drop offset (put offset new old)) ≡ new
found_again offset count new old is within =
    let front : length (take offset old) ≡ offset = length-take-le offset old (omega (arith, within)) in
    let rest = drop (offset + length new) old in
    let dropped : drop offset (put offset new old) ≡ new ++ rest = ap (drop offset) (append_assoc (take offset old) new rest) ∙ drop_at (take offset old) (new ++ rest) offset front in
    let taken : take count (new ++ rest) ≡ new = take_at new rest count is in
    let long : length (new ++ rest) ≡ length new + length rest = length-append new rest in
    let none : count - length (new ++ rest) ≡ 0 = omega (arith, long, is) in
    ap (extended count) dropped ∙ ap (λ xs. xs ++ replicate (count - length (new ++ rest)) false) taken ∙ ap (λ k. new ++ replicate k false) none ∙ append-nil new

-- ---- a write, step by step

record Written (f : BufferField) (source : List ℕ) (h after : Objects) : Type 0 where
  bytes : List ℕ
  at : slice_get h f.buffer ≡ Some (object.Buffer bytes)
  within : lies_within f.bit_offset f.bits bytes ≡ true
  is : after ≡ slice_set h f.buffer (object.Buffer (with_field f source bytes))

abbrev dead : Refusal
dead = refusal.Evaluation DeadReference

abbrev Then : BufferField → List ℕ → List ℕ → Objects → Option Object → Outcome (Unit {0}) × Objects
Then f source bytes h o = go_on (with_exchanged o f.buffer (with_field f source bytes) h).0 (with_exchanged o f.buffer (with_field f source bytes) h).1 (λ old. give tt)

by_test : (f : BufferField) (source bytes : List ℕ) (h after : Objects) (b : Bool) → lies_within f.bit_offset f.bits bytes ≡ b → slice_get h f.buffer ≡ Some (object.Buffer bytes)
    → go_on (if b then Ok (tt {0}) else Err dead) h (λ whole. λ h1. Then f source bytes h1 (slice_get h1 f.buffer)) ≡ (Ok (tt {0}), after) → Written f source h after
unfolding go_on give
by_test f source bytes h after false is at e = absurd (cc (ap (λ p. p.0) e))
by_test f source bytes h after true is at e =
    record { bytes = bytes; at = at; within = is; is = sym (ap (λ (p : Outcome (Unit {0}) × Objects). p.1) (subst (λ o. Then f source bytes h o ≡ (Ok (tt {0}), after)) at e)) }

abbrev Checked : BufferField → List ℕ → Objects → List ℕ → Outcome (Unit {0}) × Objects
Checked f source h bytes = go_on (still_within f bytes) h (λ whole. λ h1. Then f source bytes h1 (slice_get h1 f.buffer))

by_object : (f : BufferField) (source : List ℕ) (h after : Objects) (o : Option Object) → slice_get h f.buffer ≡ o → go_on (buffer_in o) h (λ bytes. λ h1. Checked f source h1 bytes) ≡ (Ok tt, after) → Written f source h after
unfolding go_on
by_object f source h after None at e = absurd (cc (ap (λ p. p.0) e))
by_object f source h after (Some (object.String bs)) at e = absurd (cc (ap (λ p. p.0) e))
by_object f source h after (Some (object.Package es)) at e = absurd (cc (ap (λ p. p.0) e))
by_object f source h after (Some (object.Buffer bytes)) at e = by_test f source bytes h after (lies_within f.bit_offset f.bits bytes) refl at e

written : (f : BufferField) (source : List ℕ) (h after : Objects) → write_buffer_field f source h ≡ (Ok tt, after) → Written f source h after
unfolding write_buffer_field buffer_at settle exchange_buffer ◌>>=◌
written f source h after e = by_object f source h after (slice_get h f.buffer) refl e

-- ---- one object, set

set_and_got : {A : Type 0} (xs : List A) (i : ℕ) (x y : A) → slice_get xs i ≡ Some x → slice_get (slice_set xs i y) i ≡ Some y
set_and_got [] i x y e = absurd (cc e)
set_and_got (a ∷ xs) zero x y e = refl
set_and_got (a ∷ xs) (suc i) x y e = set_and_got xs i x y e

set_elsewhere : {A : Type 0} (xs : List A) (i j : ℕ) (y : A) → j ≢ i → slice_get (slice_set xs i y) j ≡ slice_get xs j
set_elsewhere [] i j y ne = refl
set_elsewhere (a ∷ xs) zero zero y ne = absurd (ne refl)
set_elsewhere (a ∷ xs) zero (suc j) y ne = refl
set_elsewhere (a ∷ xs) (suc i) zero y ne = refl
set_elsewhere (a ∷ xs) (suc i) (suc j) y ne = set_elsewhere xs i j y (λ e. ne (ap suc e))

-- ---- the buffer after a write

module _ (f : BufferField) (source bytes : List ℕ) (within : lies_within f.bit_offset f.bits bytes ≡ true) where
  many : length (field_bits source 0 f.bits) ≡ f.bits
  many = length_extended f.bits (drop 0 (bits_of source))

  room : f.bit_offset + f.bits ≤ length (bits_of bytes)
  room = let l = lies f.bit_offset f.bits bytes within in let n = length_of bytes in omega (arith, l, n)

  room_for : f.bit_offset + length (field_bits source 0 f.bits) ≤ length (bits_of bytes)
  room_for = let m = many in let r = room in omega (arith, m, r)

  bits_after : bits_of (with_field f source bytes) ≡ put f.bit_offset (field_bits source 0 f.bits) (bits_of bytes)
  bits_after = taken_apart (length bytes) (put f.bit_offset (field_bits source 0 f.bits) (bits_of bytes)) (length_put f.bit_offset (field_bits source 0 f.bits) (bits_of bytes) room_for ∙ length_of bytes)

  field_after : field_bits (with_field f source bytes) f.bit_offset f.bits ≡ field_bits source 0 f.bits
  field_after = ap (λ bits. extended f.bits (drop f.bit_offset bits)) bits_after ∙ found_again f.bit_offset f.bits (field_bits source 0 f.bits) (bits_of bytes) many room

  long_after : length (with_field f source bytes) ≡ length bytes
  long_after = so_many (length bytes) (put f.bit_offset (field_bits source 0 f.bits) (bits_of bytes))

  within_after : lies_within f.bit_offset f.bits (with_field f source bytes) ≡ true
  within_after = ap (λ n. nat_lt (f.bit_offset + f.bits) (2 ^ 64) && nat_le (f.bit_offset + f.bits) (8 * n)) long_after ∙ within

  own_after : (k : ℕ) → k < f.bits → get_or (bits_of (with_field f source bytes)) (f.bit_offset + k) false ≡ get_or (field_bits source 0 f.bits) k false
  own_after k less =
      let m = many in
      ap (λ bits. get_or bits (f.bit_offset + k) false) bits_after
      ∙ put_inside f.bit_offset k (field_bits source 0 f.bits) (bits_of bytes) (omega (arith, m, less)) (let r = room in omega (arith, r))

  others_after : (k : ℕ) → (k < f.bit_offset) ⊎ (f.bit_offset + f.bits ≤ k) → get_or (bits_of (with_field f source bytes)) k false ≡ get_or (bits_of bytes) k false
  others_after k (inl before) = ap (λ bits. get_or bits k false) bits_after ∙ put_before f.bit_offset k (field_bits source 0 f.bits) (bits_of bytes) before (let r = room in omega (arith, r))
  others_after k (inr behind) = ap (λ bits. get_or bits k false) bits_after ∙ put_behind f.bit_offset k (field_bits source 0 f.bits) (bits_of bytes) (let m = many in omega (arith, m, behind)) room_for

-- ---- the laws

module _ (f : BufferField) (source : List ℕ) (h after : Objects) (w : Written f source h after) where
  stands_after : slice_get after f.buffer ≡ Some (object.Buffer (with_field f source w.bytes))
  stands_after = ap (λ hs. slice_get hs f.buffer) w.is ∙ set_and_got h f.buffer (object.Buffer w.bytes) (object.Buffer (with_field f source w.bytes)) w.at

  read_after : read_buffer_field f after ≡ (Ok (packed (field_bits source 0 f.bits)), after)
  unfolding read_buffer_field buffer_at settle give go_on ◌>>=◌
  read_after =
      ap (λ o. go_on (buffer_in o) after (λ bytes. λ h1. go_on (still_within f bytes) h1 (λ whole. λ h2. (Ok (packed (field_bits bytes f.bit_offset f.bits)), h2)))) stands_after
      ∙ ap (λ b. go_on (if b then Ok tt else Err dead) after (λ whole. λ h2. (Ok (packed (field_bits (with_field f source w.bytes) f.bit_offset f.bits)), h2))) (within_after f source w.bytes w.within)
      ∙ ap (λ bits. (Ok (packed bits), after)) (field_after f source w.bytes w.within)

  bytes_are : (before : List ℕ) → (buffer_at f.buffer h).0 ≡ Ok before → w.bytes ≡ before
  unfolding buffer_at
  bytes_are before e = cc (ap buffer_in (sym w.at) ∙ e)

  buffer_after : (buffer_at f.buffer after).0 ≡ Ok (with_field f source w.bytes)
  unfolding buffer_at
  buffer_after = ap buffer_in stands_after

pub reads_as_written : (f : BufferField) (source : List ℕ) (h after : Objects) → write_buffer_field f source h ≡ (Ok tt, after) → read_buffer_field f after ≡ (Ok (packed (field_bits source 0 f.bits)), after)
reads_as_written f source h after e = read_after f source h after (written f source h after e)

pub keeps_length : (f : BufferField) (source : List ℕ) (h after : Objects) (before new : List ℕ) → write_buffer_field f source h ≡ (Ok tt, after) → (buffer_at f.buffer h).0 ≡ Ok before → (buffer_at f.buffer after).0 ≡ Ok new → length new ≡ length before
keeps_length f source h after before new e at at_new =
    let w = written f source h after e in
    let is_new : with_field f source w.bytes ≡ new = cc (sym (buffer_after f source h after w) ∙ at_new) in
    ap length (sym is_new) ∙ long_after f source w.bytes w.within ∙ ap length (bytes_are f source h after w before at)

pub keeps_other_bits : (f : BufferField) (source : List ℕ) (h after : Objects) (before new : List ℕ) (k : ℕ) → write_buffer_field f source h ≡ (Ok tt, after) → (buffer_at f.buffer h).0 ≡ Ok before → (buffer_at f.buffer after).0 ≡ Ok new
    → (k < f.bit_offset) ⊎ (f.bit_offset + f.bits ≤ k) → get_or (bits_of new) k false ≡ get_or (bits_of before) k false
keeps_other_bits f source h after before new k e at at_new outside =
    let w = written f source h after e in
    let is_new : with_field f source w.bytes ≡ new = cc (sym (buffer_after f source h after w) ∙ at_new) in
    ap (λ bytes. get_or (bits_of bytes) k false) (sym is_new) ∙ others_after f source w.bytes w.within k outside ∙ ap (λ bytes. get_or (bits_of bytes) k false) (bytes_are f source h after w before at)

pub puts_bits : (f : BufferField) (source : List ℕ) (h after : Objects) (new : List ℕ) → write_buffer_field f source h ≡ (Ok tt, after) → slice_get after f.buffer ≡ Some (object.Buffer new) → (k : ℕ) → k < f.bits
    → get_or (bits_of new) (f.bit_offset + k) false ≡ get_or (field_bits source 0 f.bits) k false
puts_bits f source h after new e at k less =
    let w = written f source h after e in
    let is_new : with_field f source w.bytes ≡ new = cc (sym (stands_after f source h after w) ∙ at) in
    ap (λ bytes. get_or (bits_of bytes) (f.bit_offset + k) false) (sym is_new) ∙ own_after f source w.bytes w.within k less

pub keeps_other_objects : (f : BufferField) (source : List ℕ) (h after : Objects) (o : ℕ) → write_buffer_field f source h ≡ (Ok tt, after) → o ≢ f.buffer → slice_get after o ≡ slice_get h o
keeps_other_objects f source h after o e ne =
    let w = written f source h after e in
    ap (λ hs. slice_get hs o) w.is ∙ set_elsewhere h f.buffer o (object.Buffer (with_field f source w.bytes)) ne

pub ruleset a_write_of_a_buffer_field_leaves_other_bits = (keeps_length, keeps_other_bits, keeps_other_objects)
