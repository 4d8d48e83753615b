-- The interrupts that are avoided ascend in what is read.
use Rattle.std.proofs.Common.{◌≡◌, subst, refl, ℕ, zero, suc, ◌+◌, ◌<◌, List, [], ◌∷◌, ◌++◌, Bool, true, false, Ok, Option, Some, None, arith, codes, bytes_eq, if◌then◌else◌}
use Rattle.std.specs.Prelude.{slice_index}
use Rattle.std.specs.List.Sorted.{IsStrictlyIncreasing}
use Rattle.std.proofs.lemmas.Bool.{ltb-true}
use Rattle.ar_space.specs.Outcome.{◌>>=◌}
use Rattle.route_report.specs.declared.version.Version.{Version}
use Rattle.route_report.specs.declared.version.Version.TheVariants as version
use Rattle.route_report.specs.Reading.{Said, first_said, ascends, bad_line, here, word, ended, number_here, with_next, ascending_after, avoid, line}
use Rattle.route_report.proofs.Kept.{line_keeps}
use Rattle.route_report.proofs.Turns.{went_on}

pub increasing_tail : (k : ℕ) (xs : List ℕ) → IsStrictlyIncreasing (k ∷ xs) → IsStrictlyIncreasing xs
increasing_tail k xs h j l =
    let e : suc j + 1 ≡ suc (j + 1) = omega arith in
    let P : ℕ → Type 0 = λ i. slice_index (k ∷ xs) (suc j) < slice_index (k ∷ xs) i in
    subst P e (h (suc j) (omega arith))

increasing_cons : (k l : ℕ) (ls : List ℕ) → k < l → IsStrictlyIncreasing (l ∷ ls) → IsStrictlyIncreasing (k ∷ l ∷ ls)
increasing_cons k l ls less up zero b = less
increasing_cons k l ls less up (suc j) b =
    let e : suc (j + 1) ≡ suc j + 1 = omega arith in
    let P : ℕ → Type 0 = λ i. slice_index (l ∷ ls) j < slice_index (k ∷ l ∷ ls) i in
    subst P e (up j (omega arith))

one_increases : (k : ℕ) → IsStrictlyIncreasing (k ∷ [])
one_increases k j b = absurd (omega arith)

increasing_push : (os : List ℕ) (m : ℕ) → IsStrictlyIncreasing os → ascends os m ≡ true → IsStrictlyIncreasing (os ++ m ∷ [])
increasing_push [] m up is = one_increases m
increasing_push (k ∷ []) m up is = increasing_cons k m [] (ltb-true k m is) (one_increases m)
increasing_push (k ∷ l ∷ ls) m up is = increasing_cons k l (ls ++ m ∷ []) (up 0 (omega arith)) (increasing_push (l ∷ ls) m (increasing_tail k (l ∷ ls) up) is)

module _ (n : ℕ) where
  pushed_by : (os : List ℕ) (m : ℕ) (more : List ℕ) (b : Bool) → ascends os m ≡ b → (if b then Ok (os ++ m ∷ []) else bad_line n) ≡ Ok more → IsStrictlyIncreasing os → IsStrictlyIncreasing more
  pushed_by os m more true is e up = let same : os ++ m ∷ [] ≡ more = cc e in subst IsStrictlyIncreasing same (increasing_push os m up is)
  pushed_by os m more false is e up = absurd (cc e)

  next_ascends : (os : List ℕ) (w : List ℕ) (more : List ℕ) → with_next n os w ≡ Ok more → IsStrictlyIncreasing os → IsStrictlyIncreasing more
  unfolding with_next
  next_ascends os w more e up = let m = went_on (number_here n w) _ more e in pushed_by os m.0 more (ascends os m.0) refl m.2 up

  all_ascend : (os : List ℕ) (ws : List (List ℕ)) (all : List ℕ) → ascending_after n os ws ≡ Ok all → IsStrictlyIncreasing os → IsStrictlyIncreasing all
  unfolding ascending_after
  all_ascend os [] all e up = let same : os ≡ all = cc e in subst IsStrictlyIncreasing same up
  all_ascend os (w ∷ ws) all e up =
      let more = went_on (with_next n os w) (λ more. ascending_after n more ws) all e in
      all_ascend more.0 ws all more.2 (next_ascends os w more.0 more.1 up)

  none_increases : IsStrictlyIncreasing []
  none_increases j b = absurd (omega arith)

  avoid_by : (b : Bool) (w : List ℕ) (ws : List (List ℕ)) (ns : List ℕ) → (if b then (ended n ws >>= (λ _. Ok [])) else (with_next n [] w >>= (λ first. ascending_after n first ws))) ≡ Ok ns → IsStrictlyIncreasing ns
  avoid_by true w ws ns e = let none = went_on (ended n ws) _ ns e in let same : [] ≡ ns = cc none.2 in subst IsStrictlyIncreasing same none_increases
  avoid_by false w ws ns e =
      let first = went_on (with_next n [] w) (λ first. ascending_after n first ws) ns e in
      all_ascend first.0 ws ns first.2 (next_ascends [] w first.0 first.1 none_increases)

  avoid_ascends : (ws : List (List ℕ)) (ns : List ℕ) → avoid n ws ≡ Ok ns → IsStrictlyIncreasing ns
  unfolding avoid
  avoid_ascends ws ns e = let w = went_on (word n ws) _ ns e in avoid_by (bytes_eq w.0.0 (codes "-")) w.0.0 w.0.1 ns w.2

-- what is avoided ascends, where it is said
abbrev pub AvoidAscends : Option (List ℕ) → Type 0
AvoidAscends None = Unit {0}
AvoidAscends (Some ns) = IsStrictlyIncreasing ns

pub here_ascends : (n : ℕ) (o : Option (List ℕ)) (ns : List ℕ) → AvoidAscends o → here n o ≡ Ok ns → IsStrictlyIncreasing ns
here_ascends n None ns up e = absurd (cc e)
here_ascends n (Some ms) ns up e = let same : ms ≡ ns = cc e in subst IsStrictlyIncreasing same up

pub first_ascends : (v : Version) → AvoidAscends (first_said v).avoid
first_ascends version.One = none_increases 1
first_ascends version.Two = tt
first_ascends version.Three = tt

-- and stays so from line to line
pub line_ascends : (n : ℕ) (d e : Said) (ws : List (List ℕ)) → AvoidAscends d.avoid → line n ws d ≡ Ok e → AvoidAscends e.avoid
line_ascends n d e ws up is = line_keeps (λ s ns ms r. AvoidAscends ns) n d up ws (λ s _. up) (λ us ns _ is _. avoid_ascends n us ns is) (λ ms ns _. up) (λ r _. up) e is
