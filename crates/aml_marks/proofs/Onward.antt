-- The place behind a walk is further on in the same bytes, or the same place.
use Rattle.std.specs.Prelude.{◌≡◌, ◌<◌, ◌≤◌, ◌+◌, ◌-◌, ◌*◌, ◌==◌, ℕ, zero, suc, List, [], ◌∷◌, length, drop, min, Bool, true, false, Option, Some, None, if◌then◌else◌, refl}
use Rattle.std.proofs.Common.{◌∙◌, sym, ap, add_assoc, add-zero, length-drop, arith}
use Rattle.std.proofs.lemmas.List.{drop-drop}
use Rattle.aml_grammar.specs.declared.kinds.OperandKind.{OperandKind}
use Rattle.aml_grammar.specs.declared.kinds.OperandKind.TheVariants as kinds
use Rattle.aml_grammar.specs.declared.kinds.Row.{Row}
use Rattle.aml_grammar.specs.declared.opcode.Opcode.{Opcode}
use Rattle.aml_grammar.specs.Tree.{Part, null, name, number, bytes, inner}
use Rattle.aml_grammar.specs.Names.{starts_name}
use Rattle.aml_grammar.specs.State.{is_next}
use Rattle.aml_grammar.specs.Table.{row_of}
use Rattle.aml_grammar.specs.Grammar.{is_if, is_nothing, kinds_of}
use Rattle.aml_marks.specs.Marked.{Place, Walk, Below, past, over, after, gives, first, to_part, list_part, inside, turns_of, to_end, all_of, no_term}
use Rattle.aml_marks.specs.Marked.{a_byte, an_integer, a_text, all_left, a_bit_count, a_size, a_name, prefix_length, segments_length, name_length, opcode_after, an_opcode}
use Rattle.aml_marks.specs.Marked.{a_reserved_field, an_access_field, an_extended_access_field, a_named_field, a_connect_field, field_of, a_field, fields_left, all_items, name_or_term, a_super_name, a_target, an_operand, all_operands, of_row}
use Rattle.aml_marks.specs.Marked.{an_else, else_of, maybe_else, with_else, with_row, a_coded, a_call, a_named, a_term_in, a_term}
use Rattle.aml_marks.specs.Moving.{MovesOn}

-- the walk moves on from any place
pub record Onward {A : Type 0} (m : Walk A) : Type 0 where
  pub from : (p : Place) → MovesOn p (m p).1

-- ---- places

past_past : (m n : ℕ) (p : Place) → past m (past n p) ≡ past (n + m) p
past_past m n p = rw (add_assoc, drop-drop m n p.rest) refl

pub stays : (p : Place) → MovesOn p p
stays p = record { count = 0; within = omega arith; is = rw add-zero refl }

along : {p q r : Place} → MovesOn p q → MovesOn q r → MovesOn p r
along {p = p} {q = q} h i =
    let left : length q.rest ≡ length p.rest - h.count = ap (λ (x : Place). length x.rest) h.is ∙ length-drop h.count p.rest in record {
      count = h.count + i.count;
      within = omega (arith, h.within, i.within, left);
      is = i.is ∙ ap (past i.count) h.is ∙ past_past i.count h.count p;
    }

pub moves_over : (n : ℕ) (p : Place) → MovesOn p (over n p)
moves_over n p = record { count = min n (length p.rest); within = grind arith; is = refl }

-- ---- walks made of walks

on_then : {A B : Type 0} {m : Walk A} {k : A → Walk B} → Onward m → ((x : A) → Onward (k x)) → Onward (after m k)
unfolding after
on_then {m = m} h i = record { from = λ p. along (h.from p) ((i (m p).0).from (m p).1) }

on_gives : {A : Type 0} (a : A) → Onward (gives a)
unfolding gives
on_gives a = record { from = λ p. stays p }

on_part : {A : Type 0} {m : Walk A} (f : A → Part) → Onward m → Onward (to_part f m)
on_part f h = record { from = h.from }

on_if : {A : Type 0} {m n : Walk A} (test : Bool) → Onward m → Onward n → Onward (if test then m else n)
on_if true h i = h
on_if false h i = i

pub on_turns : {A : Type 0} {m : Walk A} → Onward m → (n : ℕ) → Onward (turns_of m n)
unfolding turns_of
on_turns h zero = on_gives []
on_turns h (suc n) = on_then h (λ x. on_then (on_turns h n) (λ xs. on_gives (x ∷ xs)))

on_all : {A : Type 0} {m : Walk A} {more : Walk (List A)} → Onward m → Onward more → (bs : List ℕ) → Onward (all_of m more bs)
on_all h i [] = on_gives []
on_all h i (b ∷ bs) = on_then h (λ x. on_then i (λ xs. on_gives (x ∷ xs)))

on_to_end : {A : Type 0} {m : Walk A} → Onward m → (n : ℕ) → Onward (to_end m n)
unfolding to_end
on_to_end h zero = record { from = λ p. stays p }
on_to_end h (suc n) = record { from = λ p. (on_all h (on_to_end h n) p.rest).from p }

-- ---- bytes and names

on_byte : Onward a_byte
on_byte = record { from = λ p. moves_over 1 p }

on_integer : (n : ℕ) → Onward (an_integer n)
on_integer n = record { from = λ p. moves_over n p }

on_text : Onward a_text
on_text = record { from = λ p. moves_over _ p }

on_left : Onward all_left
on_left = record { from = λ p. moves_over _ p }

on_bit_count : Onward a_bit_count
unfolding a_bit_count
on_bit_count = on_then on_byte (λ lead. on_then (on_integer _) (λ more. on_gives _))

on_size : Onward a_size
unfolding a_size
on_size = on_then on_byte (λ lead. on_then (on_integer _) (λ more. on_gives _))

-- the place behind a package is known without a walk over its bytes
on_inside : {A : Type 0} {m : Walk A} (packed : Bool) → Onward m → Onward (inside packed m)
unfolding inside
on_inside true h = record { from = λ p. along (on_size.from p) (moves_over _ _) }
on_inside false h = record { from = h.from }

on_name : Onward a_name
unfolding a_name
on_name = record { from = λ p. moves_over _ p }

pub on_opcode : Onward an_opcode
unfolding an_opcode
on_opcode = on_then on_byte (λ b. on_if (b == 0x5B) (on_then on_byte (λ e. on_gives _)) (on_gives b))

-- ---- field elements without terms

on_reserved_field : Onward a_reserved_field
unfolding a_reserved_field
on_reserved_field = on_then on_byte (λ code. on_then on_bit_count (λ n. on_gives _))

on_access_field : Onward an_access_field
unfolding an_access_field
on_access_field = on_then on_byte (λ code. on_then on_byte (λ access. on_then on_byte (λ attribute. on_gives _)))

on_extended_access_field : Onward an_extended_access_field
unfolding an_extended_access_field
on_extended_access_field = on_then on_byte (λ code. on_then on_byte (λ access. on_then on_byte (λ attribute. on_then on_byte (λ count. on_gives _))))

on_named_field : Onward a_named_field
unfolding a_named_field
on_named_field = on_then on_name (λ n. on_then on_bit_count (λ bits. on_gives _))

-- ---- operands and terms, over terms one level below

module _ (below : Below) (h : (element : Bool) → Onward (below element)) where
  pub on_items : (element : Bool) → Onward (all_items below element)
  unfolding all_items
  on_items element = record { from = λ p. (on_to_end (h element) (length p.rest)).from p }

  on_name_or_term : (b : ℕ) → Onward (name_or_term below b)
  on_name_or_term b = on_if (starts_name b) (on_part name on_name) (on_part inner (h false))

  pub on_super_name : Onward (a_super_name below)
  unfolding a_super_name
  on_super_name = record { from = λ p. (on_name_or_term (first p.rest)).from p }

  pub on_target : Onward (a_target below)
  unfolding a_target
  on_target = record { from = λ p. (on_if (first p.rest == 0) (on_part (λ _. null) on_byte) (on_name_or_term (first p.rest))).from p }

  on_connect_field : Onward (a_connect_field below)
  unfolding a_connect_field
  on_connect_field = on_then on_byte (λ code. on_then on_super_name (λ p. on_gives _))

  on_field_of : (b : ℕ) → Onward (field_of below b)
  on_field_of b = on_if (b == 0) on_reserved_field (on_if (b == 1) on_access_field (on_if (b == 2) on_connect_field (on_if (b == 3) on_extended_access_field on_named_field)))

  on_field : Onward (a_field below)
  unfolding a_field
  on_field = record { from = λ p. (on_field_of (first p.rest)).from p }

  on_fields : Onward (fields_left below)
  unfolding fields_left
  on_fields = record { from = λ p. (on_to_end on_field (length p.rest)).from p }

  on_operand : (kind : OperandKind) → Onward (an_operand below kind)
  unfolding an_operand
  on_operand kinds.Nothing = on_gives null
  on_operand kinds.NameString = on_part name on_name
  on_operand kinds.ScopeName = on_part name on_name
  on_operand kinds.AliasSource = on_part name on_name
  on_operand kinds.AliasName = on_part name on_name
  on_operand kinds.DeclaredName = on_part name on_name
  on_operand kinds.ExternalName = on_part name on_name
  on_operand kinds.MethodFlags = on_part number on_byte
  on_operand kinds.ObjectType = on_part number on_byte
  on_operand kinds.ArgumentCount = on_part number on_byte
  on_operand kinds.ByteData = on_part number (on_integer 1)
  on_operand kinds.WordData = on_part number (on_integer 2)
  on_operand kinds.DWordData = on_part number (on_integer 4)
  on_operand kinds.QWordData = on_part number (on_integer 8)
  on_operand kinds.AsciiCharList = on_part bytes on_text
  on_operand kinds.TermArg = on_part inner (h false)
  on_operand kinds.DataObject = on_part inner (h false)
  on_operand kinds.SuperName = on_super_name
  on_operand kinds.Target = on_target
  on_operand kinds.SimpleName = on_super_name
  on_operand kinds.TermList = on_part list_part (on_items false)
  on_operand kinds.LoopTermList = on_part list_part (on_items false)
  on_operand kinds.ByteList = on_part bytes on_left
  on_operand kinds.PackageElementList = on_part list_part (on_items true)
  on_operand kinds.FieldList = on_part list_part on_fields

  on_operands : (ks : List OperandKind) → Onward (all_operands below ks)
  unfolding all_operands
  on_operands [] = on_gives []
  on_operands (k ∷ ks) = on_if (is_nothing k) (on_gives []) (on_then (on_operand k) (λ x. on_then (on_operands ks) (λ xs. on_gives (x ∷ xs))))

  on_row : (row : Row) → Onward (of_row below row)
  unfolding of_row
  on_row row = on_inside row.2 (on_operands (kinds_of row.3))

  on_else : Onward (an_else below)
  unfolding an_else
  on_else = on_then on_byte (λ code. on_then (on_inside true (on_part list_part (on_items false))) (λ p. on_gives _))

  on_else_of : (there : Bool) → Onward (else_of below there)
  on_else_of true = on_part inner on_else
  on_else_of false = on_gives null

  pub on_maybe_else : Onward (maybe_else below)
  unfolding maybe_else
  on_maybe_else = record { from = λ p. (on_else_of (is_next 0xA1 p.rest)).from p }

  on_with_else : (opcode : Opcode) (ps : List Part) → Onward (with_else below opcode ps)
  on_with_else opcode ps = on_then on_maybe_else (λ e. on_gives _)

  pub on_with_row : (row : Option Row) → Onward (with_row below row)
  unfolding with_row
  on_with_row None = on_gives no_term
  on_with_row (Some row) = on_then (on_row row) (λ ps. on_if (is_if row.0) (on_with_else row.0 ps) (on_gives _))

  on_coded : Onward (a_coded below)
  unfolding a_coded
  on_coded = on_then on_opcode (λ n. on_with_row (row_of n))

  module _ (count : ℕ → ℕ) where
    on_call : Onward (a_call below count)
    unfolding a_call
    on_call = record { from = λ p. (on_then on_name (λ n. on_then (on_turns (h false) (count p.at)) (λ ts. on_gives _))).from p }

    on_named : (element : Bool) → Onward (a_named below count element)
    on_named true = on_then on_name (λ n. on_gives _)
    on_named false = on_call

    on_term_in : (element : Bool) → Onward (a_term_in below count element)
    unfolding a_term_in
    on_term_in element = record { from = λ p. (on_if (starts_name (first p.rest)) (on_named element) on_coded).from p }

pub on_term : (count : ℕ → ℕ) (levels : ℕ) (element : Bool) → Onward (a_term count levels element)
unfolding a_term
on_term count zero element = on_gives no_term
on_term count (suc levels) element = on_term_in (a_term count levels) (on_term count levels) count element

pub moves_on_term : (count : ℕ → ℕ) (levels : ℕ) (element : Bool) (p : Place) → MovesOn p (a_term count levels element p).1
moves_on_term count levels element p = (on_term count levels element).from p

-- ---- a term takes a byte, where a level and a byte are left

further : (p q r : Place) → p.at < q.at → MovesOn q r → p.at < r.at
further p q r lt h = let e : r.at ≡ q.at + h.count = ap (λ (x : Place). x.at) h.is in omega (arith, lt, e)

over_some : (n : ℕ) (p : Place) → 0 < n → 0 < length p.rest → p.at < (over n p).at
over_some n p some left = grind arith

then_further : {A B : Type 0} (m : Walk A) (k : A → Walk B) (p : Place) → p.at < (m p).1.at → ((x : A) → Onward (k x)) → p.at < (after m k p).1.at
unfolding after
then_further m k p lt h = further p (m p).1 _ lt ((h (m p).0).from (m p).1)

some_of : (a b c : Bool) (n : ℕ) → 0 < (if a then 1 else (if b then 9 else (if c then 2 + n else 4)))
some_of true b c n = omega arith
some_of false true c n = omega arith
some_of false false true n = omega arith
some_of false false false n = omega arith

some_name : (bs : List ℕ) → 0 < name_length bs
some_name bs =
    let more = drop (prefix_length bs) bs in
    let some : 0 < segments_length more = some_of (first more == 0) (first more == 46) (first more == 47) (4 * first (drop 1 more)) in
    omega (arith, some)

name_further : (p : Place) → 0 < length p.rest → p.at < (a_name p).1.at
unfolding a_name
name_further p left = over_some (name_length p.rest) p (some_name p.rest) left

opcode_further : (p : Place) → 0 < length p.rest → p.at < (an_opcode p).1.at
unfolding an_opcode
opcode_further p left = then_further a_byte opcode_after p (over_some 1 p (omega arith) left) (λ b. on_if (b == 0x5B) (on_then on_byte (λ e. on_gives _)) (on_gives b))

module _ (below : Below) (h : (element : Bool) → Onward (below element)) where
  coded_further : (p : Place) → 0 < length p.rest → p.at < (a_coded below p).1.at
  unfolding a_coded
  coded_further p left = then_further an_opcode (λ n. with_row below (row_of n)) p (opcode_further p left) (λ n. on_with_row below h (row_of n))

  named_further : (count : ℕ → ℕ) (element : Bool) (p : Place) → 0 < length p.rest → p.at < (a_named below count element p).1.at
  unfolding a_call
  named_further count true p left = then_further a_name _ p (name_further p left) (λ n. on_gives _)
  named_further count false p left = then_further a_name _ p (name_further p left) (λ n. on_then (on_turns (h false) (count p.at)) (λ ts. on_gives _))

  term_in_if : (count : ℕ → ℕ) (element test : Bool) (p : Place) → 0 < length p.rest → p.at < ((if test then a_named below count element else a_coded below) p).1.at
  term_in_if count element true p left = named_further count element p left
  term_in_if count element false p left = coded_further p left

  term_in_further : (count : ℕ → ℕ) (element : Bool) (p : Place) → 0 < length p.rest → p.at < (a_term_in below count element p).1.at
  unfolding a_term_in
  term_in_further count element p left = term_in_if count element (starts_name (first p.rest)) p left

pub takes_a_byte : (count : ℕ → ℕ) (levels : ℕ) (element : Bool) (p : Place) → 0 < levels → 0 < length p.rest → p.at < (a_term count levels element p).1.at
unfolding a_term
takes_a_byte count zero element p some left = absurd (omega arith)
takes_a_byte count (suc levels) element p some left = term_in_further (a_term count levels) (on_term count levels) count element p left

-- ---- places in the bytes of a list

abbrev pub place_in : List ℕ → ℕ → Place
place_in bs at = record { at = at; rest = drop at bs }

pub next_place : (bs : List ℕ) (at : ℕ) (q : Place) (n : ℕ) → MovesOn (place_in bs at) q → n ≡ q.at → q ≡ place_in bs n
next_place bs at q n h e =
    let behind : q ≡ place_in bs (at + h.count) = h.is ∙ ap (λ r. record { at = at + h.count; rest = r }) (drop-drop h.count at bs) in
    behind ∙ ap (place_in bs) (sym (e ∙ ap (λ (x : Place). x.at) h.is))

pub ends_within : (bs : List ℕ) (at : ℕ) (q : Place) → at ≤ length bs → MovesOn (place_in bs at) q → q.at ≤ length bs
ends_within bs at q le h = let e : q.at ≡ at + h.count = ap (λ (x : Place). x.at) h.is in omega (arith, le, e, h.within, length-drop at bs)

-- ---- walks by marks

module _ (count : ℕ → ℕ) (levels : ℕ) where
  pub moves_on_row : (row : Option Row) (p : Place) → MovesOn p (with_row (a_term count levels) row p).1
  moves_on_row row p = (on_with_row (a_term count levels) (on_term count levels) row).from p

  pub moves_on_target : (p : Place) → MovesOn p (a_target (a_term count levels) p).1
  moves_on_target p = (on_target (a_term count levels) (on_term count levels)).from p

  pub moves_on_super_name : (p : Place) → MovesOn p (a_super_name (a_term count levels) p).1
  moves_on_super_name p = (on_super_name (a_term count levels) (on_term count levels)).from p

  pub moves_on_turns : (n : ℕ) (p : Place) → MovesOn p (turns_of (a_term count levels false) n p).1
  moves_on_turns n p = (on_turns (on_term count levels false) n).from p

  pub moves_on_else : (p : Place) → MovesOn p (maybe_else (a_term count levels) p).1
  moves_on_else p = (on_maybe_else (a_term count levels) (on_term count levels)).from p

pub moves_on_opcode : (p : Place) → MovesOn p (an_opcode p).1
moves_on_opcode p = on_opcode.from p

pub moves_on_size : (p : Place) → MovesOn p (a_size p).1
moves_on_size p = on_size.from p
