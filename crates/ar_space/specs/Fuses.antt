-- A register space of which one access fails.
use Rattle.std.specs.Prelude.{ℕ, zero, suc, Bool, true, false, Option, Some, None, Err, if◌then◌else◌, refl}
use Rattle.std.specs.Coded.{Coded, code_by, coded×, coded_option, coded_ℕ}
use Rattle.ar_space.specs.Accesses.{Accesses}
use Rattle.ar_space.specs.declared.refusal.SpaceFault.TheVariants.{Device}

-- the space below, and how many accesses come before the one that fails: none once it has failed
pub record Fuse (S : Type 0) : Type 0 where
  pub inner : S
  pub pass : Option ℕ

abbrev pub fuse_code : {S : Type 0} → Coded S → Coded (Fuse S)
fuse_code {S = S} code =
    code_by (S × Option ℕ) (coded× code (coded_option coded_ℕ))
    (λ f. (f.inner, f.pass)) (λ p. record { inner = p.0; pass = p.1 }) (λ _. refl)

-- whether an access is the one that fails, and the count after it
abbrev pub burnt_by : Option ℕ → Bool × Option ℕ
burnt_by None = (false, None)
burnt_by (Some zero) = (true, None)
burnt_by (Some (suc n)) = (false, Some n)

abbrev pub burnt : {S : Type 0} → Fuse S → Bool × Fuse S
burnt f = let b = burnt_by f.pass in (b.0, record f { pass = b.1 })

-- the access that fails answers Device and leaves the space below as it is; every other one is made there
abbrev pub fused : {S : Type 0} → Accesses S → Accesses (Fuse S)
fused below = record {
  reads = λ f place width. let b = burnt f in let done = below.reads f.inner place width in
      if b.0 then (Err Device, b.1) else (done.0, record b.1 { inner = done.1 });
  writes = λ f place width value. let b = burnt f in let done = below.writes f.inner place width value in
      if b.0 then (Err Device, b.1) else (done.0, record b.1 { inner = done.1 });
}
