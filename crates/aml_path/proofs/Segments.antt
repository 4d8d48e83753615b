-- Name segments: which bytes are one, and that a segment is its bytes.
use Rattle.std.specs.Prelude.{◌≡◌, ℕ, List, Bool, true, false, Ok, Err, refl}
use Rattle.std.specs.FinMap.{IsAntisymmetric, nat_cmp-IsAntisymmetric, slice_cmp-IsAntisymmetric}
use Rattle.std.proofs.Common.{ap}
use Rattle.std.proofs.Math.Bool.{Bool-set}
use Rattle.ar_space.specs.declared.refusal.Refusal.TheVariants as refusals
use Rattle.ar_space.specs.declared.refusal.NameFault.TheVariants.{BadName}
use Rattle.aml_path.specs.Characters.{is_segment}
use Rattle.aml_path.specs.declared.segment.Seg.{Seg}
use Rattle.aml_path.specs.Segments.{tested, seg_of, seg_cmp}

tested_true : (bs : List ℕ) (b : Bool) (is : is_segment bs ≡ b) (valid : is_segment bs ≡ true) → tested bs b is ≡ Ok (record { bytes = bs; valid = valid })
tested_true bs true is valid = ap (λ (w : is_segment bs ≡ true). Ok (record { bytes = bs; valid = w })) (Bool-set (is_segment bs) true is valid)
tested_true bs false is valid = absurd (cc (is, valid))

tested_false : (bs : List ℕ) (b : Bool) (is : is_segment bs ≡ b) → is_segment bs ≡ false → tested bs b is ≡ Err (refusals.Name BadName)
tested_false bs true is other = absurd (cc (is, other))
tested_false bs false is other = refl

-- four characters that are a segment are that segment
pub seg_is : (bs : List ℕ) (valid : is_segment bs ≡ true) → seg_of bs ≡ Ok (record { bytes = bs; valid = valid })
unfolding seg_of
seg_is bs valid = tested_true bs (is_segment bs) refl valid

pub seg_of_bytes : (s : Seg) → seg_of s.bytes ≡ Ok s
seg_of_bytes s = seg_is s.bytes s.valid

-- and others are refused
pub seg_not : (bs : List ℕ) → is_segment bs ≡ false → seg_of bs ≡ Err (refusals.Name BadName)
unfolding seg_of
seg_not bs other = tested_false bs (is_segment bs) refl other

-- segments of the same bytes are one
pub same_seg : (s t : Seg) → s.bytes ≡ t.bytes → s ≡ t
same_seg s t e = cc (seg_of_bytes s, seg_of_bytes t, ap seg_of e)

pub seg_cmp_exact : IsAntisymmetric seg_cmp
seg_cmp_exact s t e = same_seg s t (slice_cmp-IsAntisymmetric nat_cmp-IsAntisymmetric s.bytes t.bytes e)

pub ruleset segments = (seg_is, seg_not)
