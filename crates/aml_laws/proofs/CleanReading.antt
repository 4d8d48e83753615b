-- Reading terms answers with no fault of the register space, and with a depth that the setting doesn't allow only where it allows fewer levels.
use Rattle.std.specs.Prelude.{ℕ, nat_lt, Bool, List, Ok, Err}
use Rattle.ar_space.specs.declared.refusal.Refusal.{Refusal}
use Rattle.ar_space.specs.declared.refusal.Refusal.TheVariants as refusals
use Rattle.ar_space.specs.declared.refusal.EvaluationFault.TheVariants.{DepthSetting}
use Rattle.ar_space.specs.Outcome.{Outcome}
use Rattle.aml_path.specs.declared.segment.Seg.{Seg}
use Rattle.aml_arities.specs.declared.arities.Arity.{Arity}
use Rattle.aml_grammar.specs.Grammar.{max_depth, reading_within, table_reading_within}
use Rattle.aml_laws.proofs.ReadingRefusals.{reading_within_reads, table_reading_within_reads}
use Rattle.aml_laws.proofs.SetDepths.{CleanWithin, CleanRefusalWithin}
use Rattle.aml_laws.proofs.TermRefusals.{TellsWithin, ReadsWithin}

refusal_clean : (low : Bool) (e : Refusal) → TellsWithin low e → CleanRefusalWithin low e
refusal_clean low (refusals.Term f n) h = tt
refusal_clean low (refusals.Name f) h = tt
refusal_clean low (refusals.Evaluation DepthSetting) h = h
refusal_clean low _ h = absurd h

reads_clean : {A : Type 0} (low : Bool) (x : Outcome A) → ReadsWithin low x → CleanWithin low x
reads_clean low (Ok a) h = tt
reads_clean low (Err e) h = refusal_clean low e h

pub reading_within_clean : (levels : ℕ) (bs : List ℕ) (scope : List Seg) (body : Bool) (arities : List Arity) → CleanWithin (nat_lt levels max_depth) (reading_within levels bs scope body arities)
reading_within_clean levels bs scope body arities = reads_clean (nat_lt levels max_depth) (reading_within levels bs scope body arities) (reading_within_reads levels bs scope body arities)

pub table_reading_within_clean : (levels : ℕ) (bs : List ℕ) (arities : List Arity) → CleanWithin (nat_lt levels max_depth) (table_reading_within levels bs arities)
table_reading_within_clean levels bs arities = reads_clean (nat_lt levels max_depth) (table_reading_within levels bs arities) (table_reading_within_reads levels bs arities)
