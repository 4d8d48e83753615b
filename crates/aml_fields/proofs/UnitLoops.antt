-- Loops over the units of a field: what such a loop has done, and what is left.
use Rattle.std.proofs.Common.{◌≡◌, ◌<◌, ◌≤◌, ℕ, ◌+◌, Bool, List, [], ◌∷◌, ◌++◌, length, take, drop, replicate, slice_index, Ok, Err, IsErr, IsErrAnd, refl, ap, sym, ◌∙◌, subst, arith, length-append}
use Rattle.std.proofs.Math.Seq.{take-append_seam, drop-append-add}
use Rattle.std.proofs.lemmas.List.{append_assoc, drop-drop, length-replicate, append-nil}
use Rattle.ar_space.specs.declared.space.Width.{Width}
use Rattle.ar_space.specs.declared.space.Width.TheVariants.{W8, W16, W32, W64}
use Rattle.ar_space.specs.Accesses.{bit_count}
use Rattle.ar_space.specs.Outcome.{Outcome, seen}
use Rattle.ar_space.specs.Change.{Change, Does, Same, give, go_on, ◌>>=◌}
use Rattle.ar_space.proofs.Changes.{does_same, does_give, does_err, same_ok}
use Rattle.aml_objects.specs.declared.entry.FieldUnit.{FieldUnit}
use Rattle.aml_fields.specs.declared.field_units.Unit.{Unit as Access}
use Rattle.aml_fields.specs.Bits.{bits_from, bits_of, bytes_within, byte_count, extended, packed, put}
use Rattle.aml_fields.specs.Units.{units_of}
use Rattle.aml_fields.specs.Covering.{Cover}
use Rattle.aml_fields.specs.UnitByUnit.{read_units, bits_read, write_units}
use Rattle.aml_fields.proofs.Covers.{units_cover}
use Rattle.aml_fields.proofs.Numbers.{zeros_behind, zero_bytes, drop_zeros, known_by_bits, small_zeros}
use Rattle.aml_fields.proofs.Putting.{length_extended}

narrow : (w : Width) → bit_count w ≤ 64
narrow W8 = omega arith
narrow W16 = omega arith
narrow W32 = omega arith
narrow W64 = omega arith

pub in_unit : (o n d : ℕ) (w : Width) (u : Access) (us all : List Access) → all ≡ u ∷ us → Cover o n w d all → u.first + u.count ≤ 64
in_unit o n d w u us all e h = let c : Cover o n w d (u ∷ us) = subst (Cover o n w d) e h in let k = narrow w in omega (arith, c.0.inside, k)

pub in_field : (o n d : ℕ) (w : Width) (u : Access) (us all : List Access) → all ≡ u ∷ us → Cover o n w d all → u.position + u.count ≤ n
in_field o n d w u us all e h = let c : Cover o n w d (u ∷ us) = subst (Cover o n w d) e h in omega (arith, c.0.here, c.1)

module _ {S : Type 0} (write : Access → Change S (Unit {0})) (f : FieldUnit) where
  -- what is left to write, and where in the field it begins
  pub record Writing (start : S) (left : List Access) (here : S) : Type 0 where
    pub done : ℕ
    pub cover : Cover f.bit_offset f.bits f.access done left
    pub same : Same (write_units write (units_of f.bit_offset f.bits f.access)) start (write_units write left) here

  pub writing_starts : (start : S) → Writing start (units_of f.bit_offset f.bits f.access) start
  writing_starts start = record { done = 0; cover = units_cover f.bit_offset f.bits f.access; same = record { is = refl } }

  pub writing_goes_on : (start here after : S) (u : Access) (us left : List Access) → left ≡ u ∷ us → Writing start left here → Does (Ok tt) after (write u) here → Writing start us after
  unfolding write_units
  writing_goes_on start here after u us left e h d =
      let c : Cover f.bit_offset f.bits f.access h.done (u ∷ us) = subst (Cover f.bit_offset f.bits f.access h.done) e h.cover in
      let s : Same (write_units write (units_of f.bit_offset f.bits f.access)) start (write_units write (u ∷ us)) here = subst (λ l. Same (write_units write (units_of f.bit_offset f.bits f.access)) start (write_units write l) here) e h.same in
      record { done = h.done + u.count; cover = c.2; same = same_ok _ _ s d }

  pub writing_stops : {e : _} (start here after : S) (u : Access) (us left : List Access) (x : Outcome (Unit {0})) → left ≡ u ∷ us → Writing start left here → Does {A = Unit {0}} (Err e) after (write u) here → IsErr x × IsErrAnd x (λ z. z ≡ e) → Does x after (write_units write (units_of f.bit_offset f.bits f.access)) start
  unfolding write_units
  writing_stops start here after u us left x e h d i =
      let s : Same (write_units write (units_of f.bit_offset f.bits f.access)) start (write_units write (u ∷ us)) here = subst (λ l. Same (write_units write (units_of f.bit_offset f.bits f.access)) start (write_units write l) here) e h.same in
      does_same s (does_err _ _ d i)

  pub writing_ends : (start here : S) (left : List Access) → left ≡ [] → Writing start left here → Does (Ok tt) here (write_units write (units_of f.bit_offset f.bits f.access)) start
  unfolding write_units
  writing_ends start here left e h = does_same (subst (λ l. Same (write_units write (units_of f.bit_offset f.bits f.access)) start (write_units write l) here) e h.same) does_give

-- bits put behind those that were put before
put_on : (done new old : List Bool) (p : ℕ) → length done ≡ p → put p new (put 0 done old) ≡ put 0 (done ++ new) old
put_on done new old p e =
    let z : 0 + length done ≡ length done = omega arith in
    let both : 0 + length (done ++ new) ≡ length done + length new = let h = length-append done new in omega (arith, h) in
    ap (λ k. take k (done ++ drop (0 + length done) old) ++ new ++ drop (k + length new) (done ++ drop (0 + length done) old)) (sym e)
    ∙ ap (λ l. l ++ new ++ drop (length done + length new) (done ++ drop (0 + length done) old)) (take-append_seam done (drop (0 + length done) old))
    ∙ ap (λ l. done ++ new ++ l) (drop-append-add done (drop (0 + length done) old) (length new) ∙ ap (λ k. drop (length new) (drop k old)) z ∙ drop-drop (length new) (length done) old)
    ∙ ap (λ k. (done ++ new) ++ drop k old) (sym both)

module _ {S : Type 0} (read : Access → Change S ℕ) (f : FieldUnit) where
  -- the bits of the units that are left, behind those that were read
  pub read_on : List Bool → List Access → Change S (List ℕ)
  read_on done us = read_units read us >>= (λ bits. give (packed (done ++ bits)))

  -- what is read so far, and what is left
  pub record Reading (start : S) (items : List ℕ) (left : List Access) (here : S) : Type 0 where
    pub done : List Bool
    pub cover : Cover f.bit_offset f.bits f.access (length done) left
    pub size : length items ≡ byte_count f.bits
    pub bits : bits_of items ≡ put 0 done (bits_of (replicate (byte_count f.bits) 0))
    pub bytes : items ≡ bytes_within (byte_count f.bits) (put 0 done (bits_of (replicate (byte_count f.bits) 0)))
    pub same : Same (bits_read read f) start (read_on done left) here

  pub reading_starts : (start : S) (items : List ℕ) → items ≡ replicate (byte_count f.bits) 0 → Reading start items (units_of f.bit_offset f.bits f.access) start
  unfolding bits_read read_on
  reading_starts start items zeros = record {
    done = [];
    cover = units_cover f.bit_offset f.bits f.access;
    size = ap length zeros ∙ length-replicate (byte_count f.bits) 0;
    bits = ap bits_of zeros;
    bytes = known_by_bits items (byte_count f.bits) _ (λ i. subst (λ l. slice_index l i < 256) (sym zeros) (small_zeros (byte_count f.bits) i)) (ap length zeros ∙ length-replicate (byte_count f.bits) 0) (ap bits_of zeros);
    same = record { is = refl };
  }

  by_outcome : (x done : List Bool) (o : Outcome (List Bool)) (s : S) → go_on (go_on o s (λ bits. give (x ++ bits))).0 (go_on o s (λ bits. give (x ++ bits))).1 (λ bits. give (packed (done ++ bits))) ≡ go_on o s (λ bits. give (packed ((done ++ x) ++ bits)))
  unfolding go_on give
  by_outcome x done (Ok bits) s = ap (λ l. (Ok (packed l), s)) (sym (append_assoc done x bits))
  by_outcome x done (Err e) s = refl

  pub reading_goes_on : (start here after : S) (items next : List ℕ) (unit : ℕ) (u : Access) (us left : List Access) → left ≡ u ∷ us → (h : Reading start items left here) → Does (Ok unit) after (read u) here
      → length next ≡ length items
      → bits_of next ≡ put u.position (extended u.count (drop u.first (bits_from unit 0 64))) (bits_of items)
      → next ≡ bytes_within (length items) (put u.position (extended u.count (drop u.first (bits_from unit 0 64))) (bits_of items))
      → Reading start next us after
  unfolding read_units read_on ◌>>=◌ go_on
  reading_goes_on start here after items next unit u us left e h d len bits bytes =
      let new = extended u.count (drop u.first (bits_from unit 0 64)) in
      let zeros = bits_of (replicate (byte_count f.bits) 0) in
      let c : Cover f.bit_offset f.bits f.access (length h.done) (u ∷ us) = subst (Cover f.bit_offset f.bits f.access (length h.done)) e h.cover in
      let put_all : put u.position new (bits_of items) ≡ put 0 (h.done ++ new) zeros = ap (put u.position new) h.bits ∙ put_on h.done new zeros u.position (sym c.0.here) in
      let count : length (h.done ++ new) ≡ length h.done + u.count = length-append h.done new ∙ ap (λ k. length h.done + k) (length_extended u.count (drop u.first (bits_from unit 0 64))) in
      record {
        done = h.done ++ new;
        cover = subst (λ k. Cover f.bit_offset f.bits f.access k us) (sym count) c.2;
        size = len ∙ h.size;
        bits = bits ∙ put_all;
        bytes = bytes ∙ ap (λ k. bytes_within k (put u.position new (bits_of items))) h.size ∙ ap (bytes_within (byte_count f.bits)) put_all;
        same = record { is = (subst (λ l. Same (bits_read read f) start (read_on h.done l) here) e h.same).is ∙ rw (d.is tt) (by_outcome new h.done (read_units read us after).0 (read_units read us after).1) };
      }

  pub reading_stops : {V : Type 0} {e : _} (x : Outcome V) (view : V → List ℕ) (start here after : S) (items : List ℕ) (u : Access) (us left : List Access) → left ≡ u ∷ us → Reading start items left here → Does {A = ℕ} (Err e) after (read u) here → IsErr x × IsErrAnd x (λ z. z ≡ e) → Does (seen view x) after (bits_read read f) start
  unfolding read_units read_on ◌>>=◌ go_on
  reading_stops (Ok y) view start here after items u us left e h d i = absurd (cc i.0)
  reading_stops (Err y) view start here after items u us left e h d i =
      record { is = λ ne. (subst (λ l. Same (bits_read read f) start (read_on h.done l) here) e h.same).is ∙ rw (d.is (λ q. ne (i.1 ∙ q)), i.1) refl }

  whole : (items : List ℕ) (done : List Bool) → length done ≡ f.bits → items ≡ bytes_within (byte_count f.bits) (put 0 done (bits_of (replicate (byte_count f.bits) 0))) → items ≡ packed (done ++ [])
  whole items done e value =
      let zeros = bits_of (replicate (byte_count f.bits) 0) in
      value
      ∙ zeros_behind (byte_count f.bits) done (drop (0 + length done) zeros) (drop_zeros (0 + length done) zeros (zero_bytes (byte_count f.bits)))
      ∙ ap (λ k. bytes_within (byte_count k) done) (sym e)
      ∙ ap packed (sym (append-nil done))

  pub reading_ends : (start here : S) (items : List ℕ) (left : List Access) → left ≡ [] → Reading start items left here → Does (Ok items) here (bits_read read f) start
  unfolding read_units read_on ◌>>=◌ go_on give
  reading_ends start here items left e h =
      let c : length h.done ≡ f.bits = subst (Cover f.bit_offset f.bits f.access (length h.done)) e h.cover in
      record { is = λ _. (subst (λ l. Same (bits_read read f) start (read_on h.done l) here) e h.same).is ∙ ap (λ l. (Ok l, here)) (sym (whole items h.done c h.bytes)) }
