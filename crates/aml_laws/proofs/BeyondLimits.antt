-- Objects that aren't made: too long, or behind the last that there is room for.
use Rattle.std.specs.Prelude.{◌≡◌, ◌⊎◌, ◌≤◌, ◌<◌, ℕ, nat_lt, Bool, true, false, List, length, Err, refl}
use Rattle.std.proofs.Common.{inl, inr}
use Rattle.ar_space.specs.declared.refusal.Refusal.TheVariants as refusal
use Rattle.ar_space.specs.declared.refusal.EvaluationFault.TheVariants.{ObjectLimit}
use Rattle.ar_space.specs.Change.{settle, go_on, ◌>>=◌}
use Rattle.aml_objects.specs.Objects.{Objects, fits, few, make_string, make_buffer, make_package}
use Rattle.aml_objects.specs.declared.object.Element.{Element}
use Rattle.aml_objects.specs.declared.object.Object.TheVariants as object
use Rattle.aml_laws.proofs.LimitsRefused.{object_refused, string_refused, package_refused, no_buffer_made}

string_by_room : (bytes : List ℕ) (h : Objects) → 262144 ≤ length h → (c : Bool) → nat_lt 1048576 (length bytes) ≡ c → make_string bytes h ≡ (Err (refusal.Evaluation ObjectLimit), h)
unfolding make_string fits settle go_on ◌>>=◌
string_by_room bytes h full true is = rw is refl
string_by_room bytes h full false is = rw (is, object_refused (object.String bytes) h full) refl

pub no_room_for_string : (bytes : List ℕ) (h : Objects) → 262144 ≤ length h → make_string bytes h ≡ (Err (refusal.Evaluation ObjectLimit), h)
no_room_for_string bytes h full = string_by_room bytes h full (nat_lt 1048576 (length bytes)) refl

pub no_room_for_buffer : (bytes : List ℕ) (h : Objects) → 262144 ≤ length h → make_buffer bytes h ≡ (Err (refusal.Evaluation ObjectLimit), h)
no_room_for_buffer bytes h full = no_buffer_made bytes h (inr full)

package_by_room : (es : List Element) (h : Objects) → 262144 ≤ length h → (c : Bool) → nat_lt 65535 (length es) ≡ c → make_package es h ≡ (Err (refusal.Evaluation ObjectLimit), h)
unfolding make_package few settle go_on ◌>>=◌
package_by_room es h full true is = rw is refl
package_by_room es h full false is = rw (is, object_refused (object.Package es) h full) refl

pub no_room_for_package : (es : List Element) (h : Objects) → 262144 ≤ length h → make_package es h ≡ (Err (refusal.Evaluation ObjectLimit), h)
no_room_for_package es h full = package_by_room es h full (nat_lt 65535 (length es)) refl

-- in either way
pub no_string_made : (bytes : List ℕ) (h : Objects) → (1048576 < length bytes) ⊎ (262144 ≤ length h) → make_string bytes h ≡ (Err (refusal.Evaluation ObjectLimit), h)
no_string_made bytes h (inl many) = string_refused bytes h many
no_string_made bytes h (inr full) = no_room_for_string bytes h full

pub no_package_made : (es : List Element) (h : Objects) → (65535 < length es) ⊎ (262144 ≤ length h) → make_package es h ≡ (Err (refusal.Evaluation ObjectLimit), h)
no_package_made es h (inl many) = package_refused es h many
no_package_made es h (inr full) = no_room_for_package es h full
