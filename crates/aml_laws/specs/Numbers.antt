-- The numbers of frames.
use Rattle.std.specs.Prelude.{ℕ, ◌<◌, List, [], ◌∷◌, map}
use Rattle.aml_world.specs.declared.state.frame.Frame.{Frame}

-- the numbers of frames, in their order
abbrev pub numbers_of : List Frame → List ℕ
numbers_of frames = map (λ f. f.number) frames

-- the first of some numbers, and else the next one
abbrev pub first_or : ℕ → List ℕ → ℕ
first_or next [] = next
first_or next (n ∷ ns) = n

-- numbers that rise, all of them below the next one
abbrev pub RiseTo : ℕ → List ℕ → Type 0
RiseTo next [] = Unit {0}
RiseTo next (n ∷ ns) = (n < first_or next ns) × RiseTo next ns
