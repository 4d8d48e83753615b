-- A machine text that is refused, and tables that are, are refused by no fault of the register space.
use Rattle.std.specs.Prelude.{ℕ, ◌+◌, ◌&&◌, nat_le, nat_lt, List, [], ◌∷◌, length, Option, Some, None, codes, is_some}
use Rattle.std.specs.Str.{bytes_eq}
use Rattle.std.specs.Str.Lines.{lines}
use Rattle.ar_space.specs.Bytes.{Bytes}
use Rattle.machine_text.specs.MachineText.{last_of, is_text, here, word, ended, numbered, with_word, bytes_after, all_bytes, placed, configured, root, text, keyed, is_silent, line, lines_read, finished_with, machine_text}
use Rattle.recorded_route.specs.Runs.{described}
use Rattle.aml_laws.proofs.CleanOutcomes.{Clean, followed_clean, if_clean}
use Rattle.recorded_laws.proofs.CleanTables.{tables_of_clean}

module _ (n : ℕ) where
  here_clean : {A : Type 0} (found : Option A) → Clean (here n found)
  here_clean None = tt
  here_clean (Some a) = tt

  word_clean : (ws : List (List ℕ)) → Clean (word n ws)
  word_clean [] = tt
  word_clean (w ∷ ws) = tt

  ended_clean : (ws : List (List ℕ)) → Clean (ended n ws)
  ended_clean [] = tt
  ended_clean (w ∷ ws) = tt

  numbered_clean : (most : ℕ) (ws : List (List ℕ)) → Clean (numbered n most ws)
  unfolding numbered
  numbered_clean most ws = followed_clean _ _ (word_clean ws) (λ p. followed_clean _ _ (here_clean _) (λ a. tt))

  with_word_clean : (before w : List ℕ) → Clean (with_word n before w)
  unfolding with_word
  with_word_clean before w = followed_clean _ _ (here_clean _) (λ bytes. tt)

  bytes_after_clean : (before : List ℕ) (ws : List (List ℕ)) → Clean (bytes_after n before ws)
  unfolding bytes_after
  bytes_after_clean before [] = tt
  bytes_after_clean before (w ∷ ws) = followed_clean _ _ (with_word_clean before w) (λ all. bytes_after_clean all ws)

  all_bytes_clean : (ws : List (List ℕ)) → Clean (all_bytes n ws)
  unfolding all_bytes
  all_bytes_clean ws = followed_clean _ _ (word_clean ws) (λ w. bytes_after_clean [] (w.0 ∷ w.1))

  placed_clean : (in_space : _) (bytes : Bytes) (ws : List (List ℕ)) → Clean (placed n in_space bytes ws)
  unfolding placed
  placed_clean in_space bytes ws =
      followed_clean _ _ (numbered_clean (last_of in_space) ws) (λ a. followed_clean _ _ (all_bytes_clean a.1) (λ more. if_clean (nat_le (a.0 + length more) (last_of in_space + 1)) _ _ tt tt))

  configured_clean : (bytes : Bytes) (ws : List (List ℕ)) → Clean (configured n bytes ws)
  unfolding configured
  configured_clean bytes ws =
      followed_clean _ _ (numbered_clean _ ws) (λ s. followed_clean _ _ (numbered_clean _ s.1) (λ b. followed_clean _ _ (numbered_clean _ b.1) (λ d. followed_clean _ _ (numbered_clean _ d.1) (λ f. placed_clean _ bytes f.1))))

  root_clean : (rsdp : Option ℕ) (ws : List (List ℕ)) → Clean (root n rsdp ws)
  unfolding root
  root_clean rsdp ws = followed_clean _ _ (numbered_clean _ ws) (λ a. followed_clean _ _ (ended_clean a.1) (λ u. if_clean (is_some rsdp) _ _ tt tt))

  text_clean : (osi : List (List ℕ)) (tail : Option (List ℕ)) → Clean (text n osi tail)
  unfolding text
  text_clean osi None = tt
  text_clean osi (Some t) = if_clean (is_text t && nat_lt (length osi) 64) _ _ tt tt

  keyed_clean : (key : List ℕ) (tail : Option (List ℕ)) (d : _) → Clean (keyed n key tail d)
  unfolding keyed
  keyed_clean key tail d =
      if_clean (bytes_eq key (codes "mem")) _ _ (followed_clean _ _ (placed_clean _ _ _) (λ bytes. tt))
      (if_clean (bytes_eq key (codes "io")) _ _ (followed_clean _ _ (placed_clean _ _ _) (λ bytes. tt))
      (if_clean (bytes_eq key (codes "pci")) _ _ (followed_clean _ _ (configured_clean _ _) (λ bytes. tt))
      (if_clean (bytes_eq key (codes "osi")) _ _ (followed_clean _ _ (text_clean _ tail) (λ texts. tt))
      (if_clean (bytes_eq key (codes "rsdp")) _ _ (followed_clean _ _ (root_clean _ _) (λ address. tt)) tt))))

  line_clean : (l : List ℕ) (d : _) → Clean (line n l d)
  unfolding line
  line_clean l d = if_clean (is_silent n l) _ _ tt (keyed_clean _ _ d)

lines_read_clean : (n : ℕ) (ls : List (List ℕ)) (d : _) → Clean (lines_read n ls d)
unfolding lines_read
lines_read_clean n [] d = tt
lines_read_clean n (l ∷ ls) d = followed_clean _ _ (line_clean n l d) (λ e. lines_read_clean (n + 1) ls e)

finished_with_clean : (rsdp : Option ℕ) (space : Bytes) (osi : List (List ℕ)) → Clean (finished_with rsdp space osi)
finished_with_clean None space osi = tt
finished_with_clean (Some address) space osi = tt

pub machine_text_clean : (bytes : List ℕ) → Clean (machine_text bytes)
unfolding machine_text
machine_text_clean bytes = followed_clean _ _ (lines_read_clean 1 (lines bytes) _) (λ d. finished_with_clean d.rsdp d.space d.osi)

pub described_clean : (text : List ℕ) → Clean (described text)
unfolding described
described_clean text = followed_clean _ _ (machine_text_clean text) (λ m. followed_clean _ _ (tables_of_clean m.space.memory m.rsdp) (λ tables. tt))
