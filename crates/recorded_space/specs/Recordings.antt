-- A register space that answers from a record of accesses.
use Rattle.std.specs.Prelude.{ℕ, ◌+◌, List, Option, Some, None, Result, Err, slice_get, refl}
use Rattle.std.specs.Coded.{Coded, code_by, coded×, coded_list, coded_ℕ, coded_option}
use Rattle.ar_space.specs.Accesses.{Accesses}
use Rattle.ar_space.specs.declared.refusal.SpaceFault.{SpaceFault}
use Rattle.ar_space.specs.declared.refusal.SpaceFault.TheVariants.{Device}
use Rattle.space_trace.specs.declared.access.Access.{Access}
use Rattle.space_trace.specs.declared.access.Access.TheVariants.{Read, Write}
use Rattle.space_trace.specs.contracts.access.Access as access_type
use Rattle.recorded_space.specs.declared.exchange.Exchange.{Exchange}
use Rattle.recorded_space.specs.contracts.exchange.Exchange as exchange_type
use Rattle.recorded_space.specs.Exchanges.{read_answer, write_answer}

-- the record, how many of its entries were used, and the first access that it doesn't hold
pub record Recording : Type 0 where
  pub entries : List Exchange
  pub used : ℕ
  pub missing : Option Access

abbrev pub recording_code : Coded Recording
recording_code =
    code_by (List Exchange × (ℕ × Option Access)) (coded× (coded_list exchange_type.the_row.coded) (coded× coded_ℕ (coded_option access_type.the_row.coded)))
    (λ r. (r.entries, (r.used, r.missing))) (λ p. record { entries = p.0; used = p.1.0; missing = p.1.1 }) (λ _. refl)

-- a record of which nothing is used yet
abbrev pub begun : List Exchange → Recording
begun entries = record { entries = entries; used = 0; missing = None }

-- the entry that is next in order, while no access was missing
abbrev pub next_in : List Exchange → ℕ → Option Access → Option Exchange
next_in entries used (Some access) = None
next_in entries used None = slice_get entries used

abbrev pub next_of : Recording → Option Exchange
next_of r = next_in r.entries r.used r.missing

-- the first access that is missing stands
abbrev pub first_missing : Option Access → Access → Option Access
first_missing (Some earlier) access = Some earlier
first_missing None access = Some access

abbrev pub missed : Recording → Access → Recording
missed r access = record r { missing = first_missing r.missing access }

-- what the next entry says of an access
abbrev pub said_by : {A : Type 0} → Option Exchange → (Exchange → Option A) → Option A
said_by None answer = None
said_by (Some entry) answer = answer entry

-- an answer uses an entry; an access without one is missing, and refused
abbrev pub answered : {A : Type 0} → Recording → Access → Option (Result A SpaceFault) → Result A SpaceFault × Recording
answered r access (Some answer) = (answer, record r { used = r.used + 1 })
answered r access None = (Err Device, missed r access)

abbrev pub recorded : Accesses Recording
recorded = record {
  reads = λ r place width. answered r (Read place width) (said_by (next_of r) (read_answer place width));
  writes = λ r place width value. answered r (Write place width value) (said_by (next_of r) (write_answer place width value));
}
