-- Bytes that a reader gives, one read after the other, and what they say of the whole input.
use Rattle.std.proofs.Common.{◌≡◌, ℕ, Bool, true, false, ◌<◌, ◌≤◌, List, [], ◌++◌, length, refl, sym, ap, ◌∙◌, arith, Option, Some, None, append_assoc, length-append, take}
use Rattle.std.specs.Prelude.{Result, Ok, Err}
use Rattle.std.specs.Io.KnownBytes.{Consumes, IsAtEnd}
use Rattle.std.proofs.lemmas.List.{append-nil}
use Rattle.acpiroute_shell.specs.declared.input.Stop.TheVariants as stop
use Rattle.acpiroute_shell.specs.Input.{IsRead}

pub consumes_on : (a b c : Option (List ℕ)) (x y z : List ℕ) → Consumes a b x → Consumes b c y → z ≡ x ++ y → Consumes a c z
consumes_on None b c x y z h k is = tt
consumes_on (Some xs) None c x y z h k is = absurd h
consumes_on (Some xs) (Some ys) None x y z h k is = absurd k
consumes_on (Some xs) (Some ys) (Some zs) x y z h k is = rw (is, h, k) (sym (append_assoc x y zs))

-- the end was reached: what was read is the whole input
pub all_read : (a b c : Option (List ℕ)) (x : List ℕ) (limit n : ℕ) (failed : Bool) (buf : List ℕ) → Consumes a b x → n ≡ 0 → Consumes b c (take n buf) → IsAtEnd c → length x ≤ limit → failed ≡ false
    → IsRead limit a failed (Ok x)
all_read None b c x limit n failed buf h none k end le fine = record { input = x; is_input = tt; ends = (fine, refl, le) }
all_read (Some xs) None c x limit n failed buf h none k end le fine = absurd h
all_read (Some xs) (Some ys) None x limit n failed buf h none k end le fine = absurd k
all_read (Some xs) (Some ys) (Some zs) x limit n failed buf h none k end le fine =
    let empty : ys ≡ [] = k ∙ rw (none, end) refl in
    let is : xs ≡ x = h ∙ ap (λ t. x ++ t) empty ∙ append-nil x in
    record { input = x; is_input = is; ends = (fine, refl, le) }

pub too_long : (a b : Option (List ℕ)) (x : List ℕ) (limit : ℕ) (failed : Bool) → Consumes a b x → limit < length x → failed ≡ false → IsRead limit a failed (Err stop.TooLong)
too_long None b x limit failed h lt fine = record { input = x; is_input = tt; ends = (fine, lt) }
too_long (Some xs) None x limit failed h lt fine = absurd h
too_long (Some xs) (Some ys) x limit failed h lt fine =
    record { input = xs; is_input = refl; ends = (fine, rw (h, length-append x ys) (omega arith)) }

pub reader_failed : (a : Option (List ℕ)) (limit : ℕ) (failed : Bool) → failed ≡ true → IsRead limit a failed (Err stop.ReadFault)
reader_failed None limit failed is = record { input = []; is_input = tt; ends = is }
reader_failed (Some xs) limit failed is = record { input = xs; is_input = refl; ends = is }

pub memory_out : (r : Result (List ℕ) _) (a : Option (List ℕ)) (limit : ℕ) (failed : Bool) → r ≡ Err stop.OutOfMemory → failed ≡ false → IsRead limit a failed r
memory_out r None limit failed is fine = rw is (record { input = []; is_input = tt; ends = fine })
memory_out r (Some xs) limit failed is fine = rw is (record { input = xs; is_input = refl; ends = fine })
