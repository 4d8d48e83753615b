-- The items of two buffers that are joined as resource templates, and how many bytes they take.
use Rattle.std.specs.Prelude.{◌≡◌, ◌<◌, ◌≤◌, ℕ, zero, suc, ◌+◌, ◌*◌, ◌==◌, nat_le, Bool, true, false, if◌then◌else◌, List, [], ◌∷◌, ◌++◌, length, take, drop, Option, Some, None, Ok, Err, refl}
use Rattle.std.proofs.Common.{arith, ap, sym, subst, ◌∙◌, append_assoc, length-append}
use Rattle.std.proofs.Math.Seq.{drop-append_seam, take-append-add}
use Rattle.std.proofs.lemmas.Bool.Decides.{nat_tests}
use Rattle.std.proofs.lemmas.List.{length-take-le, take-append-drop, take_at}
use Rattle.std.specs.Option.{option_map}
use Rattle.std.specs.Int.RustNames.{bit_and}
use Rattle.ar_space.specs.Outcome.{Outcome, ◌>>=◌}
use Rattle.acpi_resources.specs.Items.{ResourceItem, with_body, large_item, first_item, items_within, items_of}
use Rattle.acpi_resources.specs.EndTags.{item_length, length_before_end}
use Rattle.acpi_resources.proofs.Splitting.{items_of_none, items_of_some}
use Rattle.aml_objects.specs.Contents.{Buffer}
use Rattle.aml_convert.specs.Concatenation.{front_of, before_end, resources_joined}
use Rattle.aml_laws.specs.ResourceLists.{before_end_tag, end_tag, bytes_taken}

-- ---- the bytes of the first item are read as that item whatever follows

record Front (bytes : List ℕ) (found : ResourceItem × List ℕ) : Type 0 where
  front : List ℕ
  split : bytes ≡ front ++ found.1
  long : length front ≡ item_length found.0
  reads : (rest : List ℕ) → first_item (front ++ rest) ≡ Some (found.0, rest)

abbrev item_with : ℕ → List ℕ → ResourceItem
item_with tag body = record { tag = tag; body = body }

is_within : (k n : ℕ) → nat_le k n ≡ true → k ≤ n
is_within k n h = grind (arith, nat_tests)

within_is : (k n : ℕ) → k ≤ n → nat_le k n ≡ true
within_is k n h = grind (arith, nat_tests)

found_by : (b : Bool) (whole found : ResourceItem × List ℕ) → (if b then Some whole else None) ≡ Some found → (b ≡ true) × (whole ≡ found)
found_by true whole found e = (refl, cc e)
found_by false whole found e = absurd (cc e)

body_found : (tag count : ℕ) (bytes : List ℕ) (found : ResourceItem × List ℕ) → with_body tag count bytes ≡ Some found → (nat_le count (length bytes) ≡ true) × ((item_with tag (take count bytes), drop count bytes) ≡ found)
unfolding with_body
body_found tag count bytes found e = found_by (nat_le count (length bytes)) (item_with tag (take count bytes), drop count bytes) found e

body_again : (tag count : ℕ) (body rest : List ℕ) → length body ≡ count → with_body tag count (body ++ rest) ≡ Some (item_with tag body, rest)
unfolding with_body
body_again tag count body rest is =
    let sum = length-append body rest in
    let F : Bool → List ℕ → List ℕ → Option (ResourceItem × List ℕ) = λ b front back. if b then Some (item_with tag front, back) else None in
    let dropped : drop count (body ++ rest) ≡ rest = ap (λ n. drop n (body ++ rest)) (sym is) ∙ drop-append_seam body rest in
    ap (λ b. F b (take count (body ++ rest)) (drop count (body ++ rest))) (within_is count (length (body ++ rest)) (omega (arith, sum, is)))
    ∙ ap (λ front. F true front (drop count (body ++ rest))) (take_at body rest count is)
    ∙ ap (λ back. F true body back) dropped

one_more : (n : ℕ) → suc n ≡ 1 + n
one_more n = omega arith

three_more : (n : ℕ) → suc (suc (suc n)) ≡ 3 + n
three_more n = omega arith

small_front : (tag : ℕ) (bytes : List ℕ) → (bit_and tag 0x80 == 0) ≡ true → (found : ResourceItem × List ℕ) → with_body tag (bit_and tag 0x07) bytes ≡ Some found → Front (tag ∷ bytes) found
unfolding first_item
small_front tag bytes is found e =
    let count = bit_and tag 0x07 in
    let parts = body_found tag count bytes found e in
    let body = take count bytes in
    let long : length body ≡ count = length-take-le count bytes (is_within count (length bytes) parts.0) in
    subst (Front (tag ∷ bytes)) parts.1 (record {
      front = tag ∷ body;
      split = ap (λ xs. tag ∷ xs) (sym (take-append-drop count bytes));
      long = one_more (length body) ∙ ap (λ b. (if b then 1 else 3) + length body) (sym is);
      reads = λ rest. ap (λ b. if b then with_body tag count (body ++ rest) else large_item tag (body ++ rest)) is ∙ body_again tag count body rest long;
    })

large_front : (tag : ℕ) (bytes : List ℕ) → (bit_and tag 0x80 == 0) ≡ false → (found : ResourceItem × List ℕ) → large_item tag bytes ≡ Some found → Front (tag ∷ bytes) found
unfolding first_item large_item
large_front tag [] is found e = absurd (cc e)
large_front tag (low ∷ []) is found e = absurd (cc e)
large_front tag (low ∷ high ∷ bytes) is found e =
    let count = low + high * 0x100 in
    let parts = body_found tag count bytes found e in
    let body = take count bytes in
    let long : length body ≡ count = length-take-le count bytes (is_within count (length bytes) parts.0) in
    subst (Front (tag ∷ low ∷ high ∷ bytes)) parts.1 (record {
      front = tag ∷ low ∷ high ∷ body;
      split = ap (λ xs. tag ∷ low ∷ high ∷ xs) (sym (take-append-drop count bytes));
      long = three_more (length body) ∙ ap (λ b. (if b then 1 else 3) + length body) (sym is);
      reads = λ rest. ap (λ b. if b then with_body tag (bit_and tag 0x07) (low ∷ high ∷ body ++ rest) else large_item tag (low ∷ high ∷ body ++ rest)) is ∙ body_again tag count body rest long;
    })

front_by : (tag : ℕ) (bytes : List ℕ) (b : Bool) → (bit_and tag 0x80 == 0) ≡ b → (found : ResourceItem × List ℕ) → (if b then with_body tag (bit_and tag 0x07) bytes else large_item tag bytes) ≡ Some found → Front (tag ∷ bytes) found
front_by tag bytes true is found e = small_front tag bytes is found e
front_by tag bytes false is found e = large_front tag bytes is found e

front_found : (bytes : List ℕ) (found : ResourceItem × List ℕ) → first_item bytes ≡ Some found → Front bytes found
unfolding first_item
front_found [] found e = absurd (cc e)
front_found (tag ∷ bytes) found e = front_by tag bytes (bit_and tag 0x80 == 0) refl found e

-- ---- the bytes before the end tag are read as the items before it, and then what follows

some_long : (b : Bool) → 0 < (if b then 1 else 3)
some_long true = omega arith
some_long false = omega arith

abbrev FrontRead : List ℕ → List ℕ → ℕ → Type 0
FrontRead rest bytes n = items_of (take n bytes ++ rest) ≡ before_end_tag (items_of bytes) ++ items_of rest

module _ (rest bytes behind : List ℕ) (item : ResourceItem) (first : first_item bytes ≡ Some (item, behind)) (further : (k : ℕ) → length_before_end (items_of behind) ≡ Some k → FrontRead rest behind k) where
  further_read : (k n : ℕ) → n ≡ item_length item + k → length_before_end (items_of behind) ≡ Some k → items_of (take n bytes ++ rest) ≡ item ∷ (before_end_tag (items_of behind) ++ items_of rest)
  further_read k n is before =
      let f = front_found bytes (item, behind) first in
      let taken : take n bytes ≡ f.front ++ take k behind = ap (λ xs. take n xs) f.split ∙ ap (λ m. take m (f.front ++ behind)) (is ∙ ap (λ l. l + k) (sym f.long)) ∙ take-append-add f.front behind k in
      ap (λ xs. items_of (xs ++ rest)) taken ∙ ap items_of (append_assoc f.front (take k behind) rest)
      ∙ items_of_some (f.front ++ (take k behind ++ rest)) item (take k behind ++ rest) (f.reads (take k behind ++ rest))
      ∙ ap (λ items. item ∷ items) (further k before)

  by_more : (o : Option ℕ) (n : ℕ) → length_before_end (items_of behind) ≡ o → option_map (λ k. item_length item + k) o ≡ Some n → items_of (take n bytes ++ rest) ≡ item ∷ (before_end_tag (items_of behind) ++ items_of rest)
  by_more None n before e = absurd (cc e)
  by_more (Some k) n before e = further_read k n (sym (cc e)) before

  by_tag : (b : Bool) (n : ℕ) → (if b then Some 0 else option_map (λ k. item_length item + k) (length_before_end (items_of behind))) ≡ Some n
      → items_of (take n bytes ++ rest) ≡ (if b then [] else item ∷ before_end_tag (items_of behind)) ++ items_of rest
  by_tag true n e = let none : n ≡ 0 = sym (cc e) in ap (λ k. items_of (take k bytes ++ rest)) none
  by_tag false n e = by_more (length_before_end (items_of behind)) n refl e

  item_read : (n : ℕ) → length_before_end (items_of bytes) ≡ Some n → FrontRead rest bytes n
  unfolding length_before_end
  item_read n e =
      let items = items_of_some bytes item behind first in
      by_tag (item.tag == 0x79) n (subst (λ is. length_before_end is ≡ Some n) items e) ∙ ap (λ is. before_end_tag is ++ items_of rest) (sym items)

none_before : (bytes : List ℕ) (n : ℕ) → first_item bytes ≡ None → length_before_end (items_of bytes) ≡ Some n → ⊥
unfolding length_before_end
none_before bytes n none e = let no : None ≡ Some n = subst (λ is. length_before_end is ≡ Some n) (items_of_none bytes none) e in absurd (cc no)

read_by : (rest bytes : List ℕ) (n : ℕ) (o : Option (ResourceItem × List ℕ)) → first_item bytes ≡ o → ((behind : List ℕ) → length behind < length bytes → (k : ℕ) → length_before_end (items_of behind) ≡ Some k → FrontRead rest behind k)
    → length_before_end (items_of bytes) ≡ Some n → FrontRead rest bytes n
read_by rest bytes n None first further e = absurd (none_before bytes n first e)
read_by rest bytes n (Some (item, behind)) first further e =
    let f = front_found bytes (item, behind) first in
    let sum = ap length f.split ∙ length-append f.front behind in
    let long = f.long in
    let some = some_long (bit_and item.tag 0x80 == 0) in
    item_read rest bytes behind item first (further behind (omega (arith, sum, long, some))) n e

front_read : (turns : ℕ) (rest bytes : List ℕ) (n : ℕ) → length bytes ≤ turns → length_before_end (items_of bytes) ≡ Some n → FrontRead rest bytes n
front_read zero rest bytes n le e = read_by rest bytes n (first_item bytes) refl (λ behind less k before. absurd (omega (arith, less, le))) e
front_read (suc turns) rest bytes n le e = read_by rest bytes n (first_item bytes) refl (λ behind less k before. front_read turns rest behind k (omega (arith, less, le)) before) e

-- ---- both, and an end tag

read_front : (bytes front rest : List ℕ) (o : Option ℕ) → length_before_end (items_of bytes) ≡ o → front_of bytes o ≡ Ok front → items_of (front ++ rest) ≡ before_end_tag (items_of bytes) ++ items_of rest
read_front bytes front rest None before e = absurd (cc e)
read_front bytes front rest (Some n) before e = let taken : take n bytes ≡ front = cc e in subst (λ xs. items_of (xs ++ rest) ≡ before_end_tag (items_of bytes) ++ items_of rest) taken (front_read (length bytes) rest bytes n (omega arith) before)

before_read : (bytes front rest : List ℕ) → before_end bytes ≡ Ok front → items_of (front ++ rest) ≡ before_end_tag (items_of bytes) ++ items_of rest
unfolding items_of items_within
before_read [] front rest e = let none : front ≡ [] = sym (cc e) in ap (λ xs. items_of (xs ++ rest)) none
before_read (b ∷ bs) front rest e = read_front (b ∷ bs) front rest (length_before_end (items_of (b ∷ bs))) refl e

end_read : items_of (0x79 ∷ 0x00 ∷ []) ≡ end_tag ∷ []
unfolding items_of items_within first_item with_body
end_read = refl

both_read : (s t r : List ℕ) (x y : Outcome (List ℕ)) → before_end s ≡ x → before_end t ≡ y → (x >>= (λ front. y >>= (λ back. Ok (front ++ back ++ 0x79 ∷ 0x00 ∷ [])))) ≡ Ok r
    → items_of r ≡ before_end_tag (items_of s) ++ before_end_tag (items_of t) ++ end_tag ∷ []
unfolding ◌>>=◌
both_read s t r (Err e) y sx ty is = absurd (cc is)
both_read s t r (Ok front) (Err e) sx ty is = absurd (cc is)
both_read s t r (Ok front) (Ok back) sx ty is =
    let joined : r ≡ front ++ back ++ 0x79 ∷ 0x00 ∷ [] = sym (cc is) in
    ap items_of (joined ∙ append_assoc front back (0x79 ∷ 0x00 ∷ [])) ∙ before_read s front (back ++ 0x79 ∷ 0x00 ∷ []) sx
    ∙ ap (λ items. before_end_tag (items_of s) ++ items) (before_read t back (0x79 ∷ 0x00 ∷ []) ty ∙ ap (λ items. before_end_tag (items_of t) ++ items) end_read)
    ∙ sym (append_assoc (before_end_tag (items_of s)) (before_end_tag (items_of t)) (end_tag ∷ []))

pub joined_items : (s t r : List ℕ) → resources_joined (Buffer s) (Buffer t) ≡ Ok r → items_of r ≡ before_end_tag (items_of s) ++ before_end_tag (items_of t) ++ end_tag ∷ []
unfolding resources_joined ◌>>=◌
joined_items s t r is = both_read s t r (before_end s) (before_end t) refl refl is

-- ---- as many bytes as the items take

module _ (item : ResourceItem) (items : List ResourceItem) (further : (k : ℕ) → length_before_end items ≡ Some k → k ≡ bytes_taken (before_end_tag items)) where
  more_taken : (o : Option ℕ) (n : ℕ) → length_before_end items ≡ o → option_map (λ k. item_length item + k) o ≡ Some n → n ≡ item_length item + bytes_taken (before_end_tag items)
  more_taken None n before e = absurd (cc e)
  more_taken (Some k) n before e = sym (cc e) ∙ ap (λ k. item_length item + k) (further k before)

  taken_by : (b : Bool) (n : ℕ) → (if b then Some 0 else option_map (λ k. item_length item + k) (length_before_end items)) ≡ Some n → n ≡ bytes_taken (if b then [] else item ∷ before_end_tag items)
  taken_by true n e = sym (cc e)
  taken_by false n e = more_taken (length_before_end items) n refl e

before_taken : (items : List ResourceItem) (n : ℕ) → length_before_end items ≡ Some n → n ≡ bytes_taken (before_end_tag items)
unfolding length_before_end
before_taken [] n e = absurd (cc e)
before_taken (item ∷ items) n e = taken_by item items (λ k before. before_taken items k before) (item.tag == 0x79) n e

module _ (bytes behind : List ℕ) (item : ResourceItem) (first : first_item bytes ≡ Some (item, behind)) (further : (k : ℕ) → length_before_end (items_of behind) ≡ Some k → k ≤ length behind) where
  more_within : (o : Option ℕ) (n : ℕ) → length_before_end (items_of behind) ≡ o → option_map (λ k. item_length item + k) o ≡ Some n → n ≤ length bytes
  more_within None n before e = absurd (cc e)
  more_within (Some k) n before e =
      let f = front_found bytes (item, behind) first in
      let sum = ap length f.split ∙ length-append f.front behind in
      let long = f.long in
      let is : n ≡ item_length item + k = sym (cc e) in
      let within = further k before in
      omega (arith, sum, long, is, within)

  within_by : (b : Bool) (n : ℕ) → (if b then Some 0 else option_map (λ k. item_length item + k) (length_before_end (items_of behind))) ≡ Some n → n ≤ length bytes
  within_by true n e = let none : n ≡ 0 = sym (cc e) in omega (arith, none)
  within_by false n e = more_within (length_before_end (items_of behind)) n refl e

  item_within : (n : ℕ) → length_before_end (items_of bytes) ≡ Some n → n ≤ length bytes
  unfolding length_before_end
  item_within n e = within_by (item.tag == 0x79) n (subst (λ is. length_before_end is ≡ Some n) (items_of_some bytes item behind first) e)

end_within_by : (bytes : List ℕ) (n : ℕ) (o : Option (ResourceItem × List ℕ)) → first_item bytes ≡ o → ((behind : List ℕ) → length behind < length bytes → (k : ℕ) → length_before_end (items_of behind) ≡ Some k → k ≤ length behind)
    → length_before_end (items_of bytes) ≡ Some n → n ≤ length bytes
end_within_by bytes n None first further e = absurd (none_before bytes n first e)
end_within_by bytes n (Some (item, behind)) first further e =
    let f = front_found bytes (item, behind) first in
    let sum = ap length f.split ∙ length-append f.front behind in
    let long = f.long in
    let some = some_long (bit_and item.tag 0x80 == 0) in
    item_within bytes behind item first (further behind (omega (arith, sum, long, some))) n e

end_within : (turns : ℕ) (bytes : List ℕ) (n : ℕ) → length bytes ≤ turns → length_before_end (items_of bytes) ≡ Some n → n ≤ length bytes
end_within zero bytes n le e = end_within_by bytes n (first_item bytes) refl (λ behind less k before. absurd (omega (arith, less, le))) e
end_within (suc turns) bytes n le e = end_within_by bytes n (first_item bytes) refl (λ behind less k before. end_within turns behind k (omega (arith, less, le)) before) e

front_length : (bytes front : List ℕ) (o : Option ℕ) → length_before_end (items_of bytes) ≡ o → front_of bytes o ≡ Ok front → length front ≡ bytes_taken (before_end_tag (items_of bytes))
front_length bytes front None before e = absurd (cc e)
front_length bytes front (Some n) before e =
    let taken : take n bytes ≡ front = cc e in
    ap length (sym taken) ∙ length-take-le n bytes (end_within (length bytes) bytes n (omega arith) before) ∙ before_taken (items_of bytes) n before

before_length : (bytes front : List ℕ) → before_end bytes ≡ Ok front → length front ≡ bytes_taken (before_end_tag (items_of bytes))
unfolding items_of items_within
before_length [] front e = let none : front ≡ [] = sym (cc e) in ap length none
before_length (b ∷ bs) front e = front_length (b ∷ bs) front (length_before_end (items_of (b ∷ bs))) refl e

both_length : (s t r : List ℕ) (x y : Outcome (List ℕ)) → before_end s ≡ x → before_end t ≡ y → (x >>= (λ front. y >>= (λ back. Ok (front ++ back ++ 0x79 ∷ 0x00 ∷ [])))) ≡ Ok r
    → length r ≡ bytes_taken (before_end_tag (items_of s)) + (bytes_taken (before_end_tag (items_of t)) + 2)
unfolding ◌>>=◌
both_length s t r (Err e) y sx ty is = absurd (cc is)
both_length s t r (Ok front) (Err e) sx ty is = absurd (cc is)
both_length s t r (Ok front) (Ok back) sx ty is =
    let joined : r ≡ front ++ back ++ 0x79 ∷ 0x00 ∷ [] = sym (cc is) in
    let one = before_length s front sx in
    let two = before_length t back ty in
    ap length (joined ∙ append_assoc front back (0x79 ∷ 0x00 ∷ [])) ∙ length-append front (back ++ 0x79 ∷ 0x00 ∷ [])
    ∙ ap (λ n. n + length (back ++ 0x79 ∷ 0x00 ∷ [])) one
    ∙ ap (λ n. bytes_taken (before_end_tag (items_of s)) + n) (length-append back (0x79 ∷ 0x00 ∷ []) ∙ ap (λ n. n + 2) two)

pub joined_length : (s t r : List ℕ) → resources_joined (Buffer s) (Buffer t) ≡ Ok r → length r ≡ bytes_taken (before_end_tag (items_of s)) + (bytes_taken (before_end_tag (items_of t)) + 2)
unfolding resources_joined ◌>>=◌
joined_length s t r is = both_length s t r (before_end s) (before_end t) refl refl is
