-- Where the latest frame is taken away, the others stay.
use Rattle.std.specs.Prelude.{◌≡◌, ◌-◌, ◌++◌, ℕ, zero, suc, List, [], ◌∷◌, length, take, refl}
use Rattle.std.proofs.Common.{arith, ap, sym, subst, ◌∙◌}
use Rattle.std.proofs.lemmas.List.{length_push}
use Rattle.aml_world.specs.declared.state.frame.Frame.{Frame}
use Rattle.aml_laws.specs.Ends.{IsFrameEnded}
use Rattle.aml_laws.specs.Numbers.{numbers_of}
use Rattle.aml_laws.proofs.FrameNumbers.{numbers_length}

none_behind : (ns : List ℕ) (n : ℕ) → [] ≡ ns ++ n ∷ [] → ⊥
none_behind [] n e = cc e
none_behind (m ∷ ms) n e = cc e

taken : (frames : List Frame) (ns : List ℕ) (n k : ℕ) → length frames ≡ suc k → numbers_of frames ≡ ns ++ n ∷ [] → IsFrameEnded n frames (take k frames)
taken [] ns n k long is = absurd (none_behind ns n is)
taken (f ∷ []) (m ∷ ms) n k long is = absurd (none_behind ms n (cc is))
taken (f ∷ []) [] n zero long is = record { frame = f; numbered = cc is; latest = refl }
taken (f ∷ []) [] n (suc k) long is = absurd (omega (arith, long))
taken (f ∷ g ∷ fs) [] n k long is = absurd (cc is)
taken (f ∷ g ∷ fs) (m ∷ ms) n zero long is = absurd (omega (arith, long))
taken (f ∷ g ∷ fs) (m ∷ ms) n (suc k) long is =
    let inner = taken (g ∷ fs) ms n k (omega (arith, long)) (cc is) in
    record { frame = inner.frame; numbered = inner.numbered; latest = ap (λ l. f ∷ l) inner.latest }

pub latest_is_taken : (frames : List Frame) (ns : List ℕ) (n : ℕ) → numbers_of frames ≡ ns ++ n ∷ [] → IsFrameEnded n frames (take (length frames - 1) frames)
latest_is_taken frames ns n is =
    let many : length frames ≡ length (ns ++ n ∷ []) = sym (numbers_length frames) ∙ ap length is in
    let longer = length_push ns n in
    let long : length frames ≡ suc (length frames - 1) = omega (arith, many, longer) in
    taken frames ns n (length frames - 1) long is
