-- What is wrong with the words of a command line.
use Rattle.std.proofs.Common.{◌≡◌, List, [], ◌∷◌, refl, ap, ◌∙◌, inl, inr, true, Some, None, Option}
use Rattle.std.specs.Prelude.{Result, Ok, Err, IsErr, IsErrAnd, IfOk}
use Rattle.clap.specs.Kinds.{Kinds, FailsBy, HasKind, or_else}
use Rattle.clap.specs.Words.{App, HasMatchesOf, Text, Row, fault_of, is_simple, is_simple_and_free, kind_of, subcommand_of, subcommand_rows_of}
use Rattle.clap.specs.declared.error.Error.{Error}
use Rattle.clap.specs.declared.parser.matches.ArgMatches.{ArgMatches}
use Rattle.clap.specs.declared.error.kind.ErrorKind.TheVariants as kind
use Rattle.acpiroute_shell.specs.declared.request.Asked.{Asked}
use Rattle.acpiroute_shell.specs.CommandLine.{app, parsed_subcommand, command_of, clap_faults, faults_of, asked_of, value_faults}

same_faults : (a : App) (words : List Text) → a ≡ app → fault_of a words ≡ clap_faults words
unfolding clap_faults
same_faults a words is = ap (λ a. fault_of a words) is

simple_too : (a : App) → a ≡ app → is_simple_and_free a ≡ true
simple_too a is = ap (λ a. is_simple_and_free a) is

pub faults_of_app : {T : Type 0} (a : App) (words : List Text) (r : Result T Error) → a ≡ app → (is_simple_and_free a ≡ true → FailsBy (fault_of a words) r) → FailsBy (clap_faults words) r
faults_of_app a words r is kinds = rw (← same_faults a words is) (kinds (simple_too a is))

or_else_too : (f v : Kinds) (e : Error) → HasKind f e → HasKind (or_else f v) e
or_else_too [] v e (inl h) = inl h
or_else_too [] v e (inr h) = absurd h
or_else_too (k ∷ ks) v e h = h

pub still_faulty : {U : Type 0} (words : List Text) (e : Error) (r : Result U Error) → HasKind (clap_faults words) e → IsErr r × IsErrAnd r (λ x. x ≡ e) → FailsBy (faults_of words) r
unfolding faults_of
still_faulty words e (Ok a) h i = absurd (cc i.0)
still_faulty words e (Err x) h i = rw i.1 (or_else_too (clap_faults words) (value_faults (asked_of words)) e h)

pub no_fault : (words : List Text) (q : Asked) → clap_faults words ≡ [] → asked_of words ≡ Some q → faults_of words ≡ []
unfolding faults_of
no_fault words q none is = rw (none, is) refl

pub asks : (words : List Text) (rows : Option (Text × List Row)) (found : Option Asked) → rows ≡ command_of words → found ≡ parsed_subcommand rows → asked_of words ≡ found
unfolding asked_of
asks words rows found is h = rw (h, is) refl

pub value_fault : (words : List Text) (e : Error) → clap_faults words ≡ [] → asked_of words ≡ None → kind_of e ≡ kind.ValueValidation → HasKind (faults_of words) e
unfolding faults_of
value_fault words e none is k = rw (none, is) (inr (inl k))

-- the command that clap found
pub named_command : (a : App) (words : List Text) (m : ArgMatches) → a ≡ app → HasMatchesOf a words m → subcommand_rows_of m ≡ command_of words
unfolding command_of
named_command a words m is h = (h (ap (λ a. is_simple a) is)).1 ∙ ap (λ a. subcommand_of a words) is

pub named : (a : App) (words : List Text) (r : Result ArgMatches Error) → a ≡ app → IfOk r (HasMatchesOf a words) → IfOk r (λ m. subcommand_rows_of m ≡ command_of words)
named a words (Ok m) is h = named_command a words m is h
named a words (Err e) is h = tt
