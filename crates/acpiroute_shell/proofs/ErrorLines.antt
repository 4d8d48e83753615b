-- The digits of an opcode in the line that tells of it.
use Rattle.std.proofs.Common.{◌≡◌, ℕ, ◌-◌, ◌^◌, List, [], ◌∷◌, ◌++◌, length, replicate, ap, ap₂, arith, subst, sym, take, length-append, append_assoc, ◌∙◌, ◌+◌, Option, Some, true, false}
use Rattle.std.specs.Prelude.{IfSome, OnOk, option_map, Result, codes, decimal}
use Rattle.std.specs.Fmt.{◌++?◌, char_count, format_spec, padded_integral, radix_digits, shown_prefix}
use Rattle.std.specs.Io.KnownBytes.{Appends}
use Rattle.std.proofs.lemmas.List.{append-nil, take_at}
use Rattle.ar_space.specs.declared.refusal.EvaluationFault.{EvaluationFault}
use Rattle.ar_space.specs.declared.refusal.EvaluationFault.TheVariants.{Unsupported}
use Rattle.acpiroute_shell.specs.ErrorLines.{after_zeros, opcode_digits, evaluation_detail, detail_of, line_with, refusal_words, error_line}
use Rattle.ar_space.specs.Numbers.{number_of}
use Rattle.ar_space.specs.declared.refusal.Refusal.{Refusal}

zeros_first : (digits : List ℕ) → padded_integral (format_spec 32 0 4 4 (2 ^ 64 - 1)) false [] digits ≡ after_zeros digits
unfolding padded_integral char_count
zeros_first digits =
    let same : 4 - length digits - 0 - 0 ≡ 4 - length digits = omega arith in
    ap₂ (λ n rest. replicate n 48 ++ rest) same (append-nil digits)

pub four_digits : (prefix : List ℕ) (digits : Option (List ℕ)) (opcode : ℕ) → digits ≡ Some (radix_digits 16 true opcode)
    → option_map (padded_integral (format_spec 32 0 4 4 (2 ^ 64 - 1)) false (shown_prefix (format_spec 32 0 4 4 (2 ^ 64 - 1)) prefix)) digits ≡ Some (opcode_digits opcode)
four_digits prefix digits opcode is = rw is (ap Some (zeros_first (radix_digits 16 true opcode)))

pub opcode_line : {E : Type 0} (r : Result (Unit {0}) E) (known new : Option (List ℕ)) (number opcode : ℕ) (fault : EvaluationFault) (digits : Option (List ℕ)) → fault ≡ Unsupported opcode → digits ≡ Some (opcode_digits opcode)
    → OnOk r (IfSome (Some (codes "refused ") ++? (Some (decimal number) ++? (Some (codes " op ") ++? (digits ++? Some (10 ∷ []))))) (Appends known new))
    → OnOk r (Appends known new (line_with number (evaluation_detail fault)))
opcode_line r known new number opcode fault digits is written h = rw is (subst (λ o. OnOk r (IfSome (Some (codes "refused ") ++? (Some (decimal number) ++? (Some (codes " op ") ++? (o ++? Some (10 ∷ []))))) (Appends known new))) written h)

-- ---- without the line feed

feed_last : (number : ℕ) (detail : List ℕ) → line_with number detail ≡ (codes "refused " ++ (decimal number ++ detail)) ++ codes "\n"
feed_last number detail = sym (append_assoc (codes "refused ") (decimal number ++ detail) (codes "\n") ∙ ap (λ t. codes "refused " ++ t) (append_assoc (decimal number) detail (codes "\n")))

pub without_feed : (line : List ℕ) (rest : List ℕ) (r : Refusal) → line ≡ error_line r → rest ≡ take (length line - 1) line → rest ≡ refusal_words r
without_feed line rest r is taken =
    let all : line ≡ refusal_words r ++ codes "\n" = is ∙ feed_last (number_of r) (detail_of r) in
    let long : length line ≡ length (refusal_words r) + 1 = ap length all ∙ length-append (refusal_words r) (codes "\n") in
    let front : length (refusal_words r) ≡ length line - 1 = omega arith in
    taken ∙ (ap (λ t. take (length line - 1) t) all ∙ take_at (refusal_words r) (codes "\n") (length line - 1) front)
