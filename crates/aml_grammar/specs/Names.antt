-- How names are spelled (NameString, 20.2.2).
use Rattle.std.specs.Prelude.{ℕ, List, [], ◌∷◌, length, Bool, Ok, ◌==◌, ◌||◌, if◌then◌else◌}
use Rattle.std.specs.List.{take_while}
use Rattle.ar_space.specs.Change.{give, settle, ◌>>=◌}
use Rattle.aml_path.specs.Characters.{is_lead_name_char, is_name_char}
use Rattle.aml_path.specs.Segments.{seg_of}
use Rattle.aml_path.specs.Paths.{Name}
use Rattle.aml_path.specs.declared.segment.Seg.{Seg}
use Rattle.aml_path.specs.declared.name.Prefix.TheVariants.{Root, Parents}
use Rattle.aml_grammar.specs.State.{Step, bad_name, byte, peek, past, times}

-- `\`, `^`, DualNamePrefix, MultiNamePrefix, or a segment's first character
unfoldable pub starts_name : ℕ → Bool
starts_name b = b == 92 || b == 94 || b == 46 || b == 47 || is_lead_name_char b

abbrev pub only : (ℕ → Bool) → ℕ → Step ℕ
only test b = if test b then give b else bad_name

unfoldable pub lead_name_char : Step ℕ
lead_name_char = do
  b ← byte
  only is_lead_name_char b

unfoldable pub name_char : Step ℕ
name_char = do
  b ← byte
  only is_name_char b

-- NameSeg
unfoldable pub segment : Step Seg
segment = do
  a ← lead_name_char
  b ← name_char
  c ← name_char
  d ← name_char
  settle (seg_of (a ∷ b ∷ c ∷ d ∷ []))

abbrev pub skipping : {A : Type 0} → Step A → Step A
skipping m = do
  skipped ← byte
  m

abbrev pub counted_segments : ℕ → Step (List Seg)
counted_segments n = if n == 0 then bad_name else times segment n

-- SegCount and that many segments
unfoldable pub multiple_segments : Step (List Seg)
multiple_segments = do
  n ← byte
  counted_segments n

-- NullName, DualNamePath, MultiNamePath, or a segment
abbrev pub segments_at : ℕ → Step (List Seg)
segments_at b = if b == 0 then skipping (give []) else (if b == 46 then skipping (times segment 2) else (if b == 47 then skipping multiple_segments else times segment 1))

unfoldable pub segments : Step (List Seg)
segments = do
  b ← peek
  segments_at b

abbrev pub carets : List ℕ → ℕ
carets bs = length (take_while (λ b. b == 94) bs)

-- the parents that a name begins with
unfoldable pub parents : Step ℕ
parents s = (Ok (carets s.rest), past (carets s.rest) s)

unfoldable pub rooted_name : Step Name
rooted_name = do
  root ← byte
  ss ← segments
  give (record { prefix = Root; segments = ss })

unfoldable pub relative_name : Step Name
relative_name = do
  n ← parents
  ss ← segments
  give (record { prefix = Parents n; segments = ss })

abbrev pub name_at : ℕ → Step Name
name_at b = if b == 0 then bad_name else (if b == 92 then rooted_name else relative_name)

-- a name, where nothing else may stand: not the null name alone
unfoldable pub name_string : Step Name
name_string = do
  b ← peek
  name_at b
