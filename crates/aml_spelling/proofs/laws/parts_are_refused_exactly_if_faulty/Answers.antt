use Rattle.std.proofs.Common.{◌≡◌, Err, ap}
use Rattle.ar_space.specs.declared.refusal.Refusal.{Refusal}
use Rattle.ar_space.specs.Outcome.{Outcome}
use Rattle.aml_grammar.specs.State.{State, Step, integer, bit_count, package_size, text}
use Rattle.aml_grammar.specs.Names.{name_string}
use Rattle.aml_grammar.specs.Grammar.{opcode}
use Rattle.aml_scan.specs.Spelling.{IsNameString}
use Rattle.aml_scan.proofs.SpelledNames.{takes_name}
use Rattle.aml_spelling.specs.Faults.{Spot, IsName, IsNumber, IsCount, IsText, IsSomeCode, AtPart, AtLength}
use Rattle.aml_spelling.proofs.Halts.{Halts}
use Rattle.aml_spelling.proofs.FaultParts.{StandsAt, part_number, part_count, part_length, part_text, part_code}
use Rattle.aml_spelling.proofs.FaultOnce.{whole_no_fault}
use Rattle.aml_spelling.proofs.FaultApart.{numbers_apart, counts_apart, refused_part, number_refuses, count_refuses, text_refuses, code_refuses}
use Rattle.aml_spelling.proofs.FaultNameStrings.{names_apart, refuses_name, begins_name, name_begun}
use Rattle.aml_spelling.proofs.FaultLengths.{length_refuses}
use Rattle.aml_spelling.proofs.laws.parts_are_refused_exactly_if_faulty.Goals as goal

is_fault : {A : Type 0} (m : Step A) (F : Spot → Refusal → Type 0) → ((s : State) (spot : Spot) → StandsAt s spot → Halts m s (λ r. F spot r)) → (s : State) (spot : Spot) (r : Refusal) → StandsAt s spot → (m s).0 ≡ Err r → F spot r
is_fault m F h s spot r at e = (h s spot at).is r (m s).1 (ap (λ (o : Outcome _). (o, (m s).1)) e)

is_refused : {A : Type 0} (m : Step A) (s : State) (r : Refusal) → (s2 : State) × (m s ≡ (Err r, s2)) → (m s).0 ≡ Err r
is_refused m s r h = ap (λ (p : Outcome _ × State). p.0) h.1

pub returns : goal.returns
returns c = record {
  number = λ width s spot r e f. (is_fault (integer width) (AtPart (IsNumber width)) (part_number width) s spot r (e, f), λ h. is_refused (integer width) s r (number_refuses width s spot (e, f) r h));
  count = λ s spot r e f. (is_fault bit_count (AtPart IsCount) part_count s spot r (e, f), λ h. is_refused bit_count s r (count_refuses s spot (e, f) r h));
  package_length = λ s spot r e f. (is_fault package_size AtLength part_length s spot r (e, f), λ h. is_refused package_size s r (length_refuses s spot (e, f) r h));
  string = λ s spot r e f. (is_fault text (AtPart IsText) part_text s spot r (e, f), λ h. is_refused text s r (text_refuses s spot (e, f) r h));
  code = λ s spot r e f. (is_fault opcode (AtPart IsSomeCode) part_code s spot r (e, f), λ h. is_refused opcode s r (code_refuses s spot (e, f) r h));
  name = λ s spot r e f. (is_fault name_string (AtPart IsName) refuses_name s spot r (e, f), λ h. is_refused name_string s r (refused_part IsName names_apart name_string (λ n front. IsNameString n front) takes_name (λ n front i. (n, i)) refuses_name s spot (e, f) r h));
  first_byte = λ b. (λ is. begins_name b is, λ h. name_begun b h.0 h.1);
  whole_number = λ width n front back spot r is h. whole_no_fault (IsNumber width) (numbers_apart width) spot r (front, back, is, (n, h));
  whole_name = λ n front back spot r is h. whole_no_fault IsName names_apart spot r (front, back, is, (n, h));
  whole_count = λ n front back spot r is h. whole_no_fault IsCount counts_apart spot r (front, back, is, (n, h));
}
