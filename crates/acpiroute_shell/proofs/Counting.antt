-- Reads that a count of the state tells.
use Rattle.std.proofs.Common.{◌≡◌, ℕ, zero, suc, ◌≤◌, ◌+◌, arith}
use Rattle.acpiroute_shell.specs.Reads.{Reads, ReadsWithin}

module _ {S : Type 0} (one_read : S → S → Type 0) (count : S → ℕ) (counts : (s t : S) → one_read s t → count t ≡ count s + 1) where
  counted : (n : ℕ) (before after : S) → Reads one_read n before after → count after ≡ count before + n
  counted zero before after h = rw h (omega arith)
  counted (suc n) before after h =
      let earlier : count h.0 ≡ count before + n = counted n before h.0 h.1 in
      let last : count after ≡ count h.0 + 1 = counts h.0 after h.2 in
      omega arith

module _ {S : Type 0} {one_read : S → S → Type 0} (count : S → ℕ) (limit : ℕ) (before after : S) where
  pub counted_within : ((s t : S) → one_read s t → count t ≡ count s + 1) → ReadsWithin one_read limit before after → count after ≤ count before + limit
  counted_within counts r =
      let exact : count after ≡ count before + r.count = counted one_read count counts r.count before after r.reads in
      let within : r.count ≤ limit = r.within in
      omega arith
