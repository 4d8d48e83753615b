-- The second of two values is compared as one of the type of the first.
use Rattle.std.specs.Prelude.{◌≡◌, ℕ, List, Ok, Err, refl}
use Rattle.ar_space.specs.declared.integer_width.IntegerWidth.{IntegerWidth}
use Rattle.ar_space.specs.declared.refusal.Refusal.{Refusal}
use Rattle.ar_space.specs.declared.refusal.Refusal.TheVariants as refusal
use Rattle.ar_space.specs.declared.refusal.ValueFault.TheVariants.{WrongType}
use Rattle.ar_space.specs.Outcome.{◌>>=◌}
use Rattle.aml_objects.specs.Contents.{Content, Integer, String, Buffer, Other}
use Rattle.aml_convert.specs.Conversions.{to_integer_of, to_text_of, to_buffer_of, compared}

module _ (width : IntegerWidth) where
  pub as_integers : (n m : ℕ) (second : Content) → to_integer_of width second ≡ Ok m → compared width (Integer n) second ≡ compared width (Integer n) (Integer m)
  unfolding compared ◌>>=◌
  as_integers n m second is = rw is refl

  pub as_texts : (s t : List ℕ) (second : Content) → to_text_of width second ≡ Ok t → compared width (String s) second ≡ compared width (String s) (String t)
  unfolding compared ◌>>=◌
  as_texts s t second is = rw is refl

  pub as_bytes : (s t : List ℕ) (second : Content) → to_buffer_of width second ≡ Ok t → compared width (Buffer s) second ≡ compared width (Buffer s) (Buffer t)
  unfolding compared ◌>>=◌
  as_bytes s t second is = rw is refl

  pub as_no_integer : (n : ℕ) (second : Content) (e : Refusal) → to_integer_of width second ≡ Err e → compared width (Integer n) second ≡ Err e
  unfolding compared ◌>>=◌
  as_no_integer n second e is = rw is refl

  pub as_no_text : (s : List ℕ) (second : Content) (e : Refusal) → to_text_of width second ≡ Err e → compared width (String s) second ≡ Err e
  unfolding compared ◌>>=◌
  as_no_text s second e is = rw is refl

  pub as_no_bytes : (s : List ℕ) (second : Content) (e : Refusal) → to_buffer_of width second ≡ Err e → compared width (Buffer s) second ≡ Err e
  unfolding compared ◌>>=◌
  as_no_bytes s second e is = rw is refl

  pub no_order : (second : Content) → compared width Other second ≡ Err (refusal.Value WrongType)
  unfolding compared
  no_order second = refl
