-- Each limit is refused exactly above it.
use Rattle.std.specs.Prelude.{◌≡◌, ◌⊎◌, ◌≤◌, ◌<◌, ℕ, nat_le, nat_lt, Bool, true, false, List, [], ◌∷◌, ◌++◌, length, Ok, Err, refl}
use Rattle.std.proofs.Common.{arith, inl, inr}
use Rattle.std.proofs.lemmas.Bool.Decides.{nat_tests}
use Rattle.ar_space.specs.declared.refusal.Refusal.TheVariants as refusal
use Rattle.ar_space.specs.declared.refusal.EvaluationFault.TheVariants.{ObjectLimit, CallDepth, DepthSetting}
use Rattle.ar_space.specs.Accesses.{Accesses}
use Rattle.ar_space.specs.Change.{settle, go_on, ◌>>=◌}
use Rattle.aml_path.specs.declared.segment.Seg.{Seg}
use Rattle.aml_objects.specs.Objects.{Objects, make, fits, few, make_string, make_buffer, make_package}
use Rattle.aml_objects.specs.declared.object.Element.{Element}
use Rattle.aml_objects.specs.declared.object.Object.{Object}
use Rattle.aml_objects.specs.declared.object.Object.TheVariants as object
use Rattle.aml_objects.specs.declared.value.Value.{Value}
use Rattle.aml_world.specs.state.State.{State}
use Rattle.aml_world.specs.state.Run.{lift}
use Rattle.aml_world.specs.state.Invocations.{call_allowed}
use Rattle.aml_meaning.specs.Calls.{invoked}
use Rattle.aml_meaning.specs.Meaning.{meaning}

pub object_made : (x : Object) (h : Objects) → length h < 262144 → make x h ≡ (Ok (length h), h ++ x ∷ [])
unfolding make
object_made x h room = let test : nat_le 262144 (length h) ≡ false = grind (arith, nat_tests) in rw test refl

pub object_refused : (x : Object) (h : Objects) → 262144 ≤ length h → make x h ≡ (Err (refusal.Evaluation ObjectLimit), h)
unfolding make
object_refused x h full = let test : nat_le 262144 (length h) ≡ true = grind (arith, nat_tests) in rw test refl

pub bytes_fit : (bytes : List ℕ) → length bytes ≤ 1048576 → fits bytes ≡ Ok tt
unfolding fits
bytes_fit bytes room = let test : nat_lt 1048576 (length bytes) ≡ false = grind (arith, nat_tests) in rw test refl

bytes_refused : (bytes : List ℕ) → 1048576 < length bytes → fits bytes ≡ Err (refusal.Evaluation ObjectLimit)
unfolding fits
bytes_refused bytes full = let test : nat_lt 1048576 (length bytes) ≡ true = grind (arith, nat_tests) in rw test refl

pub string_refused : (bytes : List ℕ) (h : Objects) → 1048576 < length bytes → make_string bytes h ≡ (Err (refusal.Evaluation ObjectLimit), h)
unfolding make_string settle go_on ◌>>=◌
string_refused bytes h full = rw (bytes_refused bytes full) refl

pub buffer_refused : (bytes : List ℕ) (h : Objects) → 1048576 < length bytes → make_buffer bytes h ≡ (Err (refusal.Evaluation ObjectLimit), h)
unfolding make_buffer settle go_on ◌>>=◌
buffer_refused bytes h full = rw (bytes_refused bytes full) refl

-- a buffer for which there is no room, in either way
no_room_for_buffer : (bytes : List ℕ) (h : Objects) → 262144 ≤ length h → (c : Bool) → nat_lt 1048576 (length bytes) ≡ c → make_buffer bytes h ≡ (Err (refusal.Evaluation ObjectLimit), h)
unfolding make_buffer fits settle go_on ◌>>=◌
no_room_for_buffer bytes h full true is = rw is refl
no_room_for_buffer bytes h full false is = rw (is, object_refused (object.Buffer bytes) h full) refl

pub no_buffer_made : (bytes : List ℕ) (h : Objects) → (1048576 < length bytes) ⊎ (262144 ≤ length h) → make_buffer bytes h ≡ (Err (refusal.Evaluation ObjectLimit), h)
no_buffer_made bytes h (inl many) = buffer_refused bytes h many
no_buffer_made bytes h (inr full) = no_room_for_buffer bytes h full (nat_lt 1048576 (length bytes)) refl

few_refused : (es : List Element) → 65535 < length es → few es ≡ Err (refusal.Evaluation ObjectLimit)
unfolding few
few_refused es full = let test : nat_lt 65535 (length es) ≡ true = grind (arith, nat_tests) in rw test refl

pub package_refused : (es : List Element) (h : Objects) → 65535 < length es → make_package es h ≡ (Err (refusal.Evaluation ObjectLimit), h)
unfolding make_package settle go_on ◌>>=◌
package_refused es h full = rw (few_refused es full) refl

pub call_is_allowed : {S : Type 0} (depth : ℕ) (w : State S) → depth < 32 → depth < w.nesting.calls → call_allowed depth w ≡ (Ok tt, w)
unfolding call_allowed
call_is_allowed depth w less few =
    let test : nat_lt depth 32 ≡ true = grind (arith, nat_tests) in
    let allowed : nat_lt depth w.nesting.calls ≡ true = grind (arith, nat_tests) in
    rw (test, allowed) refl

pub call_deep : {S : Type 0} (depth : ℕ) (w : State S) → 32 ≤ depth → call_allowed depth w ≡ (Err (refusal.Evaluation CallDepth), w)
unfolding call_allowed
call_deep depth w more = let test : nat_lt depth 32 ≡ false = grind (arith, nat_tests) in rw test refl

pub call_set : {S : Type 0} (depth : ℕ) (w : State S) → depth < 32 → w.nesting.calls ≤ depth → call_allowed depth w ≡ (Err (refusal.Evaluation DepthSetting), w)
unfolding call_allowed
call_set depth w less many =
    let test : nat_lt depth 32 ≡ true = grind (arith, nat_tests) in
    let allowed : nat_lt depth w.nesting.calls ≡ false = grind (arith, nat_tests) in
    rw (test, allowed) refl

pub call_refused : {S : Type 0} (accesses : Accesses S) (depth : ℕ) (p : List Seg) (body : List ℕ) (arguments : List Value) (s : State S × ℕ) → 32 ≤ depth → invoked (meaning accesses) depth p body arguments s ≡ (Err (refusal.Evaluation CallDepth), s)
unfolding invoked lift go_on ◌>>=◌
call_refused accesses depth p body arguments s more = rw (call_deep depth s.0 more) refl

pub call_not_allowed : {S : Type 0} (accesses : Accesses S) (depth : ℕ) (p : List Seg) (body : List ℕ) (arguments : List Value) (s : State S × ℕ) → depth < 32 → s.0.nesting.calls ≤ depth → invoked (meaning accesses) depth p body arguments s ≡ (Err (refusal.Evaluation DepthSetting), s)
unfolding invoked lift go_on ◌>>=◌
call_not_allowed accesses depth p body arguments s less many = rw (call_set depth s.0 less many) refl

pub ruleset limits_are_refused = (object_made, object_refused, string_refused, buffer_refused, package_refused, call_refused, call_not_allowed)
