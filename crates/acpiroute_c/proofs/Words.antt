-- Words that are not all UTF-8.
use Rattle.std.specs.Prelude.{◌≡◌, ℕ, List, map, All, Result, Ok, Err, IfOk, IfErr}
use Rattle.std.specs.Borrow.{Bor}
use Rattle.std.proofs.Math.ListN.{get_or-map}
use Rattle.std.proofs.lemmas.List.{length-map}
use Rattle.std.proofs.lemmas.List.Elements.{All-map}
use Rattle.std.specs.Str.{IsUtf8}
use Rattle.acpiroute_c.specs.declared.call_words.Unsaid.{Unsaid}
use Rattle.acpiroute_c.specs.declared.call_words.Unsaid.TheVariants.{NotUtf8}

all_seen : (texts : List (Bor (List ℕ))) → All IsUtf8 (map (λ (s : Bor (List ℕ)). s.now) texts) → All (λ (s : Bor (List ℕ)). IsUtf8 s.now) texts
all_seen texts h = λ k d within. rw (get_or-map (λ (s : Bor (List ℕ)). s.now) texts k d) at (h k d.now (rw (length-map texts (λ (s : Bor (List ℕ)). s.now)) within))

pub not_all : {A : Type 0} (r : Result A Unsaid) (texts : List (Bor (List ℕ))) (words : List (List ℕ)) → map (λ (s : Bor (List ℕ)). s.now) texts ≡ words
    → IfErr r (λ why. why ≡ NotUtf8 → ¬ (All (λ (s : Bor (List ℕ)). IsUtf8 s.now) texts)) → IfErr r (λ why. why ≡ NotUtf8 → ¬ (All IsUtf8 words))
not_all (Ok a) texts words is h = h
not_all (Err why) texts words is h = λ same all. h same (all_seen texts (rw is all))

seen_all : (texts : List (Bor (List ℕ))) → All (λ (s : Bor (List ℕ)). IsUtf8 s.now) texts → All IsUtf8 (map (λ (s : Bor (List ℕ)). s.now) texts)
seen_all texts h = All-map IsUtf8 (λ (s : Bor (List ℕ)). s.now) texts h

pub all_words : {A : Type 0} (r : Result A Unsaid) (texts : List (Bor (List ℕ))) (words : List (List ℕ)) → map (λ (s : Bor (List ℕ)). s.now) texts ≡ words
    → IfOk r (λ _. All (λ (s : Bor (List ℕ)). IsUtf8 s.now) texts) → IfOk r (λ _. All IsUtf8 words)
all_words (Ok a) texts words is h = rw (← is) (seen_all texts h)
all_words (Err why) texts words is h = h
