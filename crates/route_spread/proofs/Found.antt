-- What stands at a place of a list, as the code reads it.
use Rattle.std.proofs.Common.{◌≡◌, ℕ, ◌<◌, ◌≤◌, Bool, false, List, length, get_or, replicate, sym, ◌∙◌, arith, inl, inr}
use Rattle.std.specs.Prelude.{◌⊎◌}
use Rattle.std.proofs.lemmas.Bool.{cases_lt}
use Rattle.std.proofs.lemmas.List.{get_or_default, get_or_past, get_or-replicate, length-replicate}
use Rattle.route_spread.specs.Marks.{at, is_raised}

pub found_at : (xs : List ℕ) (i n : ℕ) → i < length xs → n ≡ get_or xs i n → n ≡ at xs i
found_at xs i n b e = e ∙ sym (get_or_default xs i 0 n b)

pub raised_at : (raised : List Bool) (i : ℕ) (b : Bool) → i < length raised → b ≡ get_or raised i b → is_raised raised i ≡ b
raised_at raised i b bound e = get_or_default raised i false b bound ∙ sym e

pub none_raised : (n x : ℕ) → is_raised (replicate n false) x ≡ false
none_raised n x = go (cases_lt x n)
  where
    go : (x < n) ⊎ (n ≤ x) → is_raised (replicate n false) x ≡ false
    go (inl less) = get_or-replicate n x false false less
    go (inr past) = get_or_past (replicate n false) x false (let l = length-replicate n false in omega arith)
