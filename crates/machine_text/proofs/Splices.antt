-- What stands in a list whose end was put anew.
use Rattle.std.proofs.Common.{◌≡◌, ℕ, ◌+◌, ◌-◌, List, [], ◌++◌, length, length-append, take, drop, append-nil, ap, sym, ◌∙◌, arith}
use Rattle.std.proofs.Math.Seq.{take-append_seam}
use Rattle.std.proofs.lemmas.List.{drop_all, length-drop}

module _ (r out old zeros beyond : List ℕ) (n had : ℕ) (is : r ≡ old ++ zeros) (before : length old ≡ had) (all : length r ≡ n) (count : had + length out ≡ n) where
  abbrev after : List ℕ
  after = drop (length r - had) (drop had r)

  none_after : after ≡ []
  none_after = drop_all (length r - had) (drop had r) (omega (arith, length-drop had r))

  same_front : take had r ≡ old
  same_front = ap (take had) is ∙ ap (λ k. take k (old ++ zeros)) (sym before) ∙ take-append_seam old zeros

  abbrev put : List ℕ
  put = take had r ++ (out ++ after)

  both : put ≡ old ++ out
  both = ap (λ xs. xs ++ (out ++ after)) same_front ∙ ap (λ xs. old ++ (out ++ xs)) none_after ∙ ap (λ xs. old ++ xs) (append-nil out)

  pub end_put : take n (put ++ beyond) ≡ old ++ out
  end_put =
      let whole : n ≡ length put = omega (arith, count, before, ap length both, length-append old out) in
      ap (λ k. take k (put ++ beyond)) whole ∙ take-append_seam put beyond ∙ both
