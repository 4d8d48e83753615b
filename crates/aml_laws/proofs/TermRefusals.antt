-- Outcomes that are refused, if at all, by what is told of terms and names: bytes that are no terms, terms that are too deep, and names
-- that are none; and within the levels of a setting, by terms that are deeper than it allows.
use Rattle.std.specs.Prelude.{◌≡◌, List, ℕ, nat_lt, length, Bool, true, false, Ok, Err, refl, if◌then◌else◌}
use Rattle.ar_space.specs.declared.refusal.Refusal.{Refusal}
use Rattle.ar_space.specs.declared.refusal.Refusal.TheVariants as refusals
use Rattle.ar_space.specs.declared.refusal.EvaluationFault.TheVariants.{DepthSetting}
use Rattle.ar_space.specs.declared.refusal.TermFault.{TermFault}
use Rattle.ar_space.specs.declared.refusal.TermFault.TheVariants as faults
use Rattle.ar_space.specs.Outcome.{Outcome, ◌>>=◌}
use Rattle.aml_grammar.specs.Grammar.{max_depth, fault_within, refusal_within, within}
use Rattle.aml_path.specs.Characters.{is_segment}
use Rattle.aml_path.specs.Paths.{Name, from_prefix, is_null, resolved}
use Rattle.aml_path.specs.Segments.{seg_of, tested}
use Rattle.aml_path.specs.declared.name.Prefix.TheVariants.{Parents, Root}
use Rattle.aml_path.specs.declared.name.Prefix.{Prefix}
use Rattle.aml_path.specs.declared.segment.Seg.{Seg}
use Rattle.aml_world.specs.state.PassedOver.{is_passable}

abbrev pub TellsOfTerms : Refusal → Type 0
TellsOfTerms (refusals.Term f n) = Unit {0}
TellsOfTerms (refusals.Name f) = Unit {0}
TellsOfTerms _ = ⊥

abbrev pub Reads : {A : Type 0} → Outcome A → Type 0
Reads (Ok a) = Unit {0}
Reads (Err e) = TellsOfTerms e

pub if_reads : {A : Type 0} (b : Bool) (x y : Outcome A) → Reads x → Reads y → Reads (if b then x else y)
if_reads true x y h i = h
if_reads false x y h i = i

pub followed_reads : {A B : Type 0} (x : Outcome A) (k : A → Outcome B) → Reads x → ((a : A) → Reads (k a)) → Reads (x >>= k)
unfolding ◌>>=◌
followed_reads (Ok a) k h all = all a
followed_reads (Err e) k h all = h

tested_reads : (bs : List ℕ) (b : Bool) (is : is_segment bs ≡ b) → Reads (tested bs b is)
tested_reads bs true is = tt
tested_reads bs false is = tt

pub seg_of_reads : (bs : List ℕ) → Reads (seg_of bs)
unfolding seg_of
seg_of_reads bs = tested_reads bs (is_segment bs) refl

from_prefix_reads : (before : Prefix) (segments scope : List Seg) → Reads (from_prefix before segments scope)
from_prefix_reads Root segments scope = tt
from_prefix_reads (Parents count) segments scope = if_reads (nat_lt (length scope) count) _ _ tt tt

pub resolved_reads : (n : Name) (scope : List Seg) → Reads (resolved n scope)
unfolding resolved
resolved_reads n scope = if_reads (is_null n) _ _ tt (from_prefix_reads n.prefix n.segments scope)

-- ---- within the levels of a setting

-- low: whether the setting allows fewer levels than there may be
abbrev pub TellsWithin : Bool → Refusal → Type 0
TellsWithin low (refusals.Term f n) = Unit {0}
TellsWithin low (refusals.Name f) = Unit {0}
TellsWithin low (refusals.Evaluation DepthSetting) = low ≡ true
TellsWithin low _ = ⊥

abbrev pub ReadsWithin : {A : Type 0} → Bool → Outcome A → Type 0
ReadsWithin low (Ok a) = Unit {0}
ReadsWithin low (Err e) = TellsWithin low e

-- nothing that may be passed over
pub not_passable : (low : Bool) (e : Refusal) → TellsWithin low e → is_passable e ≡ false
not_passable low (refusals.Term f n) h = refl
not_passable low (refusals.Name f) h = refl
not_passable low (refusals.Evaluation DepthSetting) h = refl
not_passable low _ h = absurd h

fault_within_tells : (low : Bool) (fault : TermFault) (offset : ℕ) → TellsWithin low (fault_within low fault offset)
fault_within_tells true faults.TooDeep offset = refl
fault_within_tells true faults.BadOpcode offset = tt
fault_within_tells true faults.BadPkgLength offset = tt
fault_within_tells true faults.Truncated offset = tt
fault_within_tells true faults.NotInBody offset = tt
fault_within_tells false fault offset = tt

refusal_within_tells : (levels : ℕ) (e : Refusal) → TellsOfTerms e → TellsWithin (nat_lt levels max_depth) (refusal_within levels e)
refusal_within_tells levels (refusals.Term fault offset) h = fault_within_tells (nat_lt levels max_depth) fault offset
refusal_within_tells levels (refusals.Name f) h = tt
refusal_within_tells levels _ h = absurd h

pub within_reads : {A : Type 0} (levels : ℕ) (x : Outcome A) → Reads x → ReadsWithin (nat_lt levels max_depth) (within levels x)
within_reads levels (Ok a) h = tt
within_reads levels (Err e) h = refusal_within_tells levels e h
