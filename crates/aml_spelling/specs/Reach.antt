-- Where a fault is found, and on how many of the first bytes it depends (ACPI 6.5, 20.2).
use Rattle.std.specs.Prelude.{◌≡◌, ℕ, ◌+◌, ◌<◌, ◌≤◌, max, List, [], ◌∷◌, length, Bool, Err}
use Rattle.ar_space.specs.declared.refusal.Refusal.{Refusal}
use Rattle.ar_space.specs.declared.refusal.Refusal.TheVariants as refusals
use Rattle.ar_space.specs.declared.refusal.TermFault.TheVariants.{BadOpcode, BadPkgLength, Truncated, NotInBody}
use Rattle.aml_path.specs.declared.segment.Seg.{Seg}
use Rattle.aml_arities.specs.declared.arities.Arity.{Arity}
use Rattle.aml_grammar.specs.State.{State}
use Rattle.aml_grammar.specs.Grammar.{term_list, by_arities}

-- a list has a first fault, and reading stands here when it is found: behind the bytes that were read
abbrev pub Stops : List ℕ → List Seg → Bool → List Arity → Refusal → State → Type 0
Stops bs scope body arities r s = term_list by_arities bs scope body arities ≡ (Err r, s)

-- 1 where a byte is left, and else 0
abbrev pub ahead : List ℕ → ℕ
ahead [] = 0
ahead (b ∷ bs) = 1

-- How many of the first bytes a fault depends on. A missing byte: on those of its list or package, and on none after its end. A
-- package length, or what may not stand in a body: on those that were read. An opcode: on the byte where it begins, and on the
-- second one where that was read too. Any other: on those that were read, and on the next one.
abbrev pub reach : Refusal → State → ℕ
reach (refusals.Term Truncated offset) s = offset
reach (refusals.Term BadPkgLength offset) s = s.at
reach (refusals.Term NotInBody offset) s = s.at
reach (refusals.Term BadOpcode offset) s = max (offset + 1) s.at
reach _ s = s.at + ahead s.rest

-- Which byte the offset names. A missing byte: the end of the list or package that reading stands in. A package length: one that
-- was read. An opcode: the one where reading stands, or one of the last two that were read.
abbrev pub Placed : Refusal → State → Type 0
Placed (refusals.Term Truncated offset) s = s.at + length s.rest ≡ offset
Placed (refusals.Term BadPkgLength offset) s = offset < s.at
Placed (refusals.Term BadOpcode offset) s = (offset ≤ s.at) × (s.at ≤ offset + 2)
Placed _ s = Unit {0}
