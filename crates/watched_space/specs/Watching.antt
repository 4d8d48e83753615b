-- A register space with its last access.
use Rattle.std.specs.Prelude.{Option, Some, None, Result, Ok, Err, refl}
use Rattle.std.specs.Coded.{Coded, code_by, coded×, coded_option}
use Rattle.ar_space.specs.Accesses.{Accesses}
use Rattle.ar_space.specs.declared.refusal.SpaceFault.{SpaceFault}
use Rattle.watched_space.specs.declared.last_access.Accessed.{Accessed}
use Rattle.watched_space.specs.declared.last_access.Direction.TheVariants.{Read, Write}
use Rattle.watched_space.specs.contracts.last_access.Accessed as accessed_type

-- the space, and the last access to it
pub record Watch (S : Type 0) : Type 0 where
  pub inner : S
  pub last : Option Accessed

abbrev pub watch_code : {S : Type 0} → Coded S → Coded (Watch S)
watch_code {S = S} code =
    code_by (S × Option Accessed) (coded× code (coded_option accessed_type.the_row.coded))
    (λ w. (w.inner, w.last)) (λ p. record { inner = p.0; last = p.1 }) (λ _. refl)

-- why an access was refused
abbrev pub fault_of : {A : Type 0} → Result A SpaceFault → Option SpaceFault
fault_of (Ok a) = None
fault_of (Err fault) = Some fault

-- each access does what it does in the space below, and is the last one then
abbrev pub watched : {S : Type 0} → Accesses S → Accesses (Watch S)
watched below = record {
  reads = λ w place width. let done = below.reads w.inner place width in
      (done.0, record { inner = done.1; last = Some (record { direction = Read; place = place; width = width; fault = fault_of done.0 }) });
  writes = λ w place width value. let done = below.writes w.inner place width value in
      (done.0, record { inner = done.1; last = Some (record { direction = Write; place = place; width = width; fault = fault_of done.0 }) });
}
