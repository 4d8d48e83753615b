-- What a call comes to: its words, the reply to them, and the caller's buffers.
use Rattle.std.specs.Prelude.{◌≡◌, ◌⊎◌, ℕ, ◌==◌, nat_lt, Bool, true, false, List, [], ◌∷◌, ◌++◌, length, drop, All, codes, if◌then◌else◌}
use Rattle.std.specs.List.{slice_split}
use Rattle.std.specs.Str.{IsUtf8}
use Rattle.acpiroute_shell.specs.Deliveries.{Reply}
use Rattle.acpiroute_lib.specs.Runs.{IsReply}
use Rattle.acpiroute_c.specs.declared.call_reply.CallReply.{CallReply}
use Rattle.acpiroute_c.specs.declared.call_words.Unsaid.{Unsaid}
use Rattle.acpiroute_c.specs.declared.call_words.Unsaid.TheVariants.{OutOfMemory, NotUtf8}

-- ---- the words

abbrev pub program_name : List ℕ
program_name = codes "acpiroute"

-- options are parted by single blanks; a text without a byte has none
abbrev pub options_of : List ℕ → List (List ℕ)
options_of [] = []
options_of (b ∷ bs) = slice_split (λ c. c == 32) (b ∷ bs)

-- the words of the program's command line
abbrev pub words_of : List ℕ → List ℕ → List (List ℕ)
words_of command options = program_name ∷ command ∷ options_of options

-- ---- the buffers

-- what the caller gives to be filled: a buffer for the text, one for the line, and a place for their sizes
pub record Filled : Type 0 where
  pub text : List ℕ
  pub line : List ℕ
  pub reply : CallReply

-- bytes at the start of a buffer, the rest of which is as it was
abbrev pub put_into : List ℕ → List ℕ → List ℕ
put_into bytes buffer = bytes ++ drop (length bytes) buffer

abbrev pub sizes_of : Reply → CallReply
sizes_of r = record { text_length = length r.text; line_length = length r.line; status = r.status }

-- whether one of the buffers is too small
abbrev pub is_too_small : Reply → Filled → Bool
is_too_small r f = if nat_lt (length f.text) (length r.text) then true else nat_lt (length f.line) (length r.line)

-- 0, or 1 where a buffer is too small
abbrev pub code_of : Reply → Filled → ℕ
code_of r f = if is_too_small r f then 1 else 0

-- the reply in the buffers with its sizes, or the sizes alone where a buffer is too small
abbrev pub filled_by : Reply → Filled → Filled
filled_by r f = if is_too_small r f then record f { reply = sizes_of r } else record { text = put_into r.text f.text; line = put_into r.line f.line; reply = sizes_of r }

-- ---- the call

-- there is a reply: that of the program to the words of a command and its options, which are all UTF-8, over this input
pub record IsReplied (command options input : List ℕ) (code : ℕ) (before after : Filled) : Type 0 where
  pub utf8 : All IsUtf8 (options_of options)
  pub reply : Reply
  pub is_reply : IsReply (words_of command options) false input reply
  pub code_is : code ≡ code_of reply before
  pub is_filled : after ≡ filled_by reply before

abbrev pub code_of_unsaid : Unsaid → ℕ
code_of_unsaid OutOfMemory = 2
code_of_unsaid NotUtf8 = 3

-- there is none, and nothing has changed: memory ran out, or not all of the options are UTF-8
pub record IsUnsaid (options : List (List ℕ)) (code : ℕ) (before after : Filled) : Type 0 where
  pub why : Unsaid
  pub code_is : code ≡ code_of_unsaid why
  pub not_utf8 : why ≡ NotUtf8 → ¬ (All IsUtf8 options)
  pub is_as_before : after ≡ before

abbrev pub IsCall : List ℕ → List ℕ → List ℕ → ℕ → Filled → Filled → Type 0
IsCall command options input code before after =
    IsReplied command options input code before after ⊎ IsUnsaid (options_of options) code before after
