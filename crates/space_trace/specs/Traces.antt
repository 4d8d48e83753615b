-- A register space with the list of its accesses.
use Rattle.std.specs.Prelude.{ℕ, ◌+◌, ◌-◌, ◌^◌, nat_lt, List, [], ◌∷◌, ◌++◌, if◌then◌else◌, refl}
use Rattle.std.specs.Coded.{Coded, code_by, coded×, coded_list, coded_ℕ}
use Rattle.ar_space.specs.Accesses.{Accesses}
use Rattle.space_trace.specs.declared.access.Access.{Access}
use Rattle.space_trace.specs.declared.access.Access.TheVariants.{Read, Write}
use Rattle.space_trace.specs.contracts.access.Access as access_type

-- the space, the first 64 accesses to it, and how many were made
pub record Trace (S : Type 0) : Type 0 where
  pub inner : S
  pub kept : List Access
  pub made : ℕ

abbrev pub trace_code : {S : Type 0} → Coded S → Coded (Trace S)
trace_code {S = S} code =
    code_by (S × (List Access × ℕ)) (coded× code (coded× (coded_list access_type.the_row.coded) coded_ℕ))
    (λ t. (t.inner, (t.kept, t.made))) (λ p. record { inner = p.0; kept = p.1.0; made = p.1.1 }) (λ _. refl)

-- no access was made yet
abbrev pub untouched : {S : Type 0} → S → Trace S
untouched inner = record { inner = inner; kept = []; made = 0 }

-- one access more: it is kept where fewer than 64 were made, and counted up to 2^64 - 1
abbrev pub noted : {S : Type 0} → Trace S → Access → Trace S
noted t access = record t {
  kept = if nat_lt t.made 64 then t.kept ++ access ∷ [] else t.kept;
  made = if nat_lt t.made (2 ^ 64 - 1) then t.made + 1 else t.made;
}

-- each access does what it does in the space below, and is noted
abbrev pub traced : {S : Type 0} → Accesses S → Accesses (Trace S)
traced below = record {
  reads = λ t place width. let done = below.reads t.inner place width in (done.0, noted (record t { inner = done.1 }) (Read place width));
  writes = λ t place width value. let done = below.writes t.inner place width value in (done.0, noted (record t { inner = done.1 }) (Write place width value));
}
