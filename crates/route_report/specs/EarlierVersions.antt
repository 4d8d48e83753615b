-- What a report before version 3 says of options: nothing.
use Rattle.std.specs.Prelude.{◌≡◌, ◌⊎◌, ◌||◌, ℕ, Bool, false, List, [], ◌∷◌, ◌++◌, All, Ok, Err, codes, if◌then◌else◌}
use Rattle.std.specs.Str.{bytes_eq}
use Rattle.ar_space.specs.Outcome.{Outcome}
use Rattle.route_check.specs.Claims.{RoutingClaim}
use Rattle.text_words.specs.Words.{words}
use Rattle.route_report.specs.Counting.{first_of}
use Rattle.route_report.specs.Reading.{avoid}

-- the first line of a report of version 1 or 2
abbrev pub IsEarlier : List ℕ → Type 0
IsEarlier first = (first ≡ codes "acpiroute 1") ⊎ (first ≡ codes "acpiroute 2")

-- a line that only version 3 has, by its first word: a device whose interrupts are spared or can't be read, the rule of the choice, how an
-- interrupt is triggered, or the bus of a routing table
abbrev pub is_of_options : List ℕ → Bool
is_of_options key =
    bytes_eq key (codes "spared") || bytes_eq key (codes "unread") || bytes_eq key (codes "first") || bytes_eq key (codes "spread")
    || bytes_eq key (codes "trigger") || bytes_eq key (codes "bus")

abbrev pub tells_of_options : List ℕ → Bool
tells_of_options line = is_of_options (first_of (words line))

abbrev pub or_none : Outcome (List ℕ) → List ℕ
or_none (Ok ns) = ns
or_none (Err e) = []

-- the numbers of a line `avoid`, by its words; any other line has none
abbrev pub avoided_by : List (List ℕ) → List ℕ
avoided_by [] = []
avoided_by (key ∷ ws) = if bytes_eq key (codes "avoid") then or_none (avoid 0 ws) else []

-- the numbers of all lines `avoid`
abbrev pub avoided_in : List (List ℕ) → List ℕ
avoided_in [] = []
avoided_in (line ∷ lines) = avoided_by (words line) ++ avoided_in lines

-- No line tells of options; it isn't claimed that links share interrupts as little as they can; and just those interrupts are avoided that
-- the line `avoid` has, none where there is no such line.
pub record IsWithoutOptions (lines : List (List ℕ)) (claim : RoutingClaim) : Type 0 where
  pub untold : All (λ line. tells_of_options line ≡ false) lines
  pub first : claim.spread ≡ false
  pub avoided : claim.avoid ≡ avoided_in lines
