-- Taking the first structure off the bytes of a MADT.
use Rattle.std.proofs.Common.{◌≡◌, ℕ, zero, suc, ◌<◌, ◌≤◌, ◌==◌, Bool, true, false, List, [], ◌∷◌, ◌++◌, length, drop, Option, Some, None, refl, sym, ap, ◌∙◌, arith, length-drop, subst}
use Rattle.std.proofs.lemmas.Bool.Decides.{nat_tests}
use Rattle.std.specs.Prelude.{nat_le, ◌&&◌, if◌then◌else◌, slice_index, option_to_list}
use Rattle.ar_tables.specs.declared.madt.MadtEntry.{MadtEntry}
use Rattle.ar_tables.specs.Structures.{least_length, begins_well, entry_in, first_structure, are_behind, are_within, are_structures, entries_behind, entries_within, entries_in}

-- what is left is shorter
abbrev IsShorter : ℕ → Option (Option MadtEntry × List ℕ) → Type 0
IsShorter n None = Unit {0}
IsShorter n (Some found) = length found.1 < n

least_two : (type : ℕ) → 2 ≤ least_length type
least_two type = elim (type == 1) as (λ a. 2 ≤ (if a then 12 else (if type == 2 then 10 else 2))) [
  | true ↦ omega arith
  | false ↦ elim (type == 2) as (λ b. 2 ≤ (if b then 10 else 2)) [ true ↦ omega arith | false ↦ omega arith ]
]

not_nothing : (least n len : ℕ) → 2 ≤ least → (nat_le 2 len && (nat_le least n && nat_le n len)) ≡ true → (0 < len) × (0 < n)
not_nothing least n len h e = (grind (arith, nat_tests), grind (arith, nat_tests))

shorter_by : (bytes : List ℕ) (b : Bool) → (b ≡ true → (0 < length bytes) × (0 < slice_index bytes 1)) → IsShorter (length bytes) (if b then Some (entry_in bytes, drop (slice_index bytes 1) bytes) else None)
shorter_by bytes true h =
    let less = h refl in
    omega (arith, length-drop (slice_index bytes 1) bytes)
shorter_by bytes false h = tt

pub first_structure-shorter : (bytes : List ℕ) → IsShorter (length bytes) (first_structure bytes)
unfolding first_structure begins_well
first_structure-shorter bytes = shorter_by bytes (begins_well bytes) (not_nothing (least_length (slice_index bytes 0)) (slice_index bytes 1) (length bytes) (least_two (slice_index bytes 0)))

-- two ways to go on that agree where bytes are left
same_are : (n : ℕ) (f g : List ℕ → Bool) → ((rest : List ℕ) → length rest < n → f rest ≡ g rest) → (found : Option (Option MadtEntry × List ℕ)) → IsShorter n found → are_behind f found ≡ are_behind g found
same_are n f g same None h = refl
same_are n f g same (Some found) h = same found.1 h

same_entries : (n : ℕ) (f g : List ℕ → List MadtEntry) → ((rest : List ℕ) → length rest < n → f rest ≡ g rest) → (found : Option (Option MadtEntry × List ℕ)) → IsShorter n found → entries_behind f found ≡ entries_behind g found
same_entries n f g same None h = refl
same_entries n f g same (Some found) h = ap (λ entries. option_to_list found.0 ++ entries) (same found.1 h)

-- enough is enough
are_enough : (n m : ℕ) (bytes : List ℕ) → length bytes ≤ n → length bytes ≤ m → are_within n bytes ≡ are_within m bytes
unfolding are_within
are_enough zero zero [] h k = refl
are_enough zero (suc m) [] h k = refl
are_enough (suc n) zero [] h k = refl
are_enough (suc n) (suc m) [] h k = refl
are_enough zero m (b ∷ bytes) h k = absurd (omega arith)
are_enough (suc n) zero (b ∷ bytes) h k = absurd (omega arith)
are_enough (suc n) (suc m) (b ∷ bytes) h k =
    same_are (length (b ∷ bytes)) (λ rest. are_within n rest) (λ rest. are_within m rest) (λ rest less. are_enough n m rest (omega arith) (omega arith)) (first_structure (b ∷ bytes)) (first_structure-shorter (b ∷ bytes))

-- no structure begins where no byte is
first_structure-empty : first_structure [] ≡ None
unfolding first_structure begins_well
first_structure-empty = refl

entries_enough : (n m : ℕ) (bytes : List ℕ) → length bytes ≤ n → length bytes ≤ m → entries_within n bytes ≡ entries_within m bytes
unfolding entries_within
entries_enough zero zero bytes h k = refl
entries_enough zero (suc m) [] h k = sym (ap (entries_behind (λ rest. entries_within m rest)) first_structure-empty)
entries_enough zero (suc m) (b ∷ bytes) h k = absurd (omega arith)
entries_enough (suc n) zero [] h k = ap (entries_behind (λ rest. entries_within n rest)) first_structure-empty
entries_enough (suc n) zero (b ∷ bytes) h k = absurd (omega arith)
entries_enough (suc n) (suc m) bytes h k =
    same_entries (length bytes) (λ rest. entries_within n rest) (λ rest. entries_within m rest) (λ rest less. entries_enough n m rest (omega arith) (omega arith)) (first_structure bytes) (first_structure-shorter bytes)

pub are_none : (bytes : List ℕ) → first_structure bytes ≡ None → are_structures bytes ≡ (length bytes == 0)
unfolding are_structures are_within
are_none [] e = refl
are_none (b ∷ bytes) e = ap (are_behind (λ rest. are_within (length bytes) rest)) e ∙ sym (not_zero (length bytes))
  where
    not_zero : (n : ℕ) → (suc n == 0) ≡ false
    not_zero n = grind arith

pub are_more : (bytes rest : List ℕ) (entry : Option MadtEntry) → first_structure bytes ≡ Some (entry, rest) → are_structures bytes ≡ are_structures rest
unfolding are_structures are_within
are_more [] rest entry e = absurd (cc (e, first_structure-empty))
are_more (b ∷ bytes) rest entry e =
    let left : length rest < suc (length bytes) = subst (IsShorter (suc (length bytes))) e (first_structure-shorter (b ∷ bytes)) in
    ap (are_behind (λ rest. are_within (length bytes) rest)) e ∙ are_enough (length bytes) (length rest) rest (omega arith) (omega arith)

pub entries_none : (bytes : List ℕ) → first_structure bytes ≡ None → entries_in bytes ≡ []
unfolding entries_in entries_within
entries_none [] e = refl
entries_none (b ∷ bytes) e = ap (entries_behind (λ rest. entries_within (length bytes) rest)) e

entries_some : (bytes rest : List ℕ) (entry : Option MadtEntry) → first_structure bytes ≡ Some (entry, rest) → entries_in bytes ≡ option_to_list entry ++ entries_in rest
unfolding entries_in entries_within
entries_some [] rest entry e = absurd (cc (e, first_structure-empty))
entries_some (b ∷ bytes) rest entry e =
    let left : length rest < suc (length bytes) = subst (IsShorter (suc (length bytes))) e (first_structure-shorter (b ∷ bytes)) in
    ap (entries_behind (λ rest. entries_within (length bytes) rest)) e ∙ ap (λ entries. option_to_list entry ++ entries) (entries_enough (length bytes) (length rest) rest (omega arith) (omega arith))

pub entries_known : (bytes rest : List ℕ) (entry : MadtEntry) → first_structure bytes ≡ Some (Some entry, rest) → entries_in bytes ≡ entry ∷ entries_in rest
entries_known bytes rest entry e = entries_some bytes rest (Some entry) e

pub entries_passed : (bytes rest : List ℕ) → first_structure bytes ≡ Some (None, rest) → entries_in bytes ≡ entries_in rest
entries_passed bytes rest e = entries_some bytes rest None e

pub ruleset entries = (entries_none, entries_known, entries_passed)
