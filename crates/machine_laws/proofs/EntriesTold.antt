-- What an entry of a routing table tells, part by part.
use Rattle.std.specs.Prelude.{◌≡◌, ◌<◌, ◌≤◌, ◌+◌, ◌*◌, ◌/◌, ◌^◌, ◌==◌, ℕ, zero, suc, List, [], ◌∷◌, length, Bool, true, false, nat_lt, Option, Some, None, Ok, Err, refl, if◌then◌else◌}
use Rattle.std.proofs.Common.{ap, ◌∙◌, arith}
use Rattle.std.proofs.lemmas.Bool.Decides.{nat_tests}
use Rattle.std.proofs.lemmas.Nat.{div-mul-add}
use Rattle.ar_space.specs.Accesses.{Accesses}
use Rattle.ar_space.specs.declared.refusal.Refusal.{Refusal}
use Rattle.ar_space.specs.declared.refusal.Refusal.TheVariants.{RoutingTable}
use Rattle.ar_space.specs.declared.refusal.RoutingTableFault.TheVariants.{BadEntry, BadPin, SourceIndex}
use Rattle.ar_space.specs.Outcome.{Outcome}
use Rattle.ar_space.specs.Change.{Change, give, stop, settle, go_on, ◌>>=◌}
use Rattle.aml_path.specs.declared.segment.Seg.{Seg}
use Rattle.aml_world.specs.state.Given.{Given, Givens, givens}
use Rattle.aml_world.specs.state.Given as given
use Rattle.acpi_machine.specs.MachineStates.{MachineState}
use Rattle.acpi_prt.specs.declared.pin.Pin.{Pin}
use Rattle.acpi_prt.specs.declared.pin.Route.{Route}
use Rattle.acpi_prt.specs.declared.pin.Route.TheVariants.{Wired, Link}
use Rattle.acpi_prt.specs.Entries.{list_of, word_of, source_tested, pin_tested, no_index, device_number}
use Rattle.acpi_prt.specs.Links.{link_at}
use Rattle.acpi_prt.specs.RoutingTables.{linked, route_of, pin_with, pin_among, pin_of}
use Rattle.machine_laws.specs.RoutingEntries.{entry_of, IsAddress, IsWord, word, IsSource, no_link, link, IsNoEntry, no_package, not_four, wrong_address, wrong_pin, wrong_source, wrong_index}

-- ---- one change behind another

pub settled_on : {T A B : Type 0} (x : Outcome A) (a : A) (k : A → Change T B) (s : T) → x ≡ Ok a → (settle x >>= k) s ≡ k a s
unfolding settle ◌>>=◌ go_on
settled_on x a k s is = rw is refl

pub settled_off : {T A B : Type 0} (x : Outcome A) (e : Refusal) (k : A → Change T B) (s : T) → x ≡ Err e → (settle x >>= k) s ≡ (Err e, s)
unfolding settle ◌>>=◌ go_on
settled_off x e k s is = rw is refl

pub answered_on : {T A B : Type 0} (m : Change T A) (a : A) (k : A → Change T B) (s t : T) → m s ≡ (Ok a, t) → (m >>= k) s ≡ k a t
unfolding ◌>>=◌ go_on
answered_on m a k s t is = rw is refl

pub answered_off : {T A B : Type 0} (m : Change T A) (e : Refusal) (k : A → Change T B) (s t : T) → m s ≡ (Err e, t) → (m >>= k) s ≡ (Err e, t)
unfolding ◌>>=◌ go_on
answered_off m e k s t is = rw is refl

pub given_on : {T A B : Type 0} (a : A) (k : A → Change T B) (s : T) → (give a >>= k) s ≡ k a s
unfolding give ◌>>=◌ go_on
given_on a k s = refl

-- ---- the parts

pub is_less : (n k : ℕ) → n < k → nat_lt n k ≡ true
is_less n k less = grind (arith, nat_tests)

pub is_not_less : (n k : ℕ) → k ≤ n → nat_lt n k ≡ false
is_not_less n k more = grind (arith, nat_tests)

pub less_from : (n k : ℕ) → nat_lt n k ≡ true → n < k
less_from n k test = grind (arith, nat_tests)

pub is_not_zero : (n : ℕ) → 0 < n → (n == 0) ≡ false
is_not_zero n some = grind (arith, nat_tests)

word_told : (n : ℕ) → n < 2 ^ 32 → word_of (given.Integer n) ≡ Ok n
word_told n less = ap (λ (b : Bool). if b then Ok n else Err (RoutingTable BadEntry)) (is_less n (2 ^ 32) less)

no_word : (g : Given) → (IsWord g → ⊥) → word_of g ≡ Err (RoutingTable BadEntry)
no_word given.Nothing none = refl
no_word (given.Integer n) none = by (nat_lt n (2 ^ 32)) refl
  where
    by : (b : Bool) → nat_lt n (2 ^ 32) ≡ b → (if b then Ok n else Err (RoutingTable BadEntry)) ≡ Err (RoutingTable BadEntry)
    by true is = absurd (none (word n (less_from n (2 ^ 32) is)))
    by false is = refl
no_word (given.Text bs) none = refl
no_word (given.Bytes bs) none = refl
no_word (given.Package gs) none = refl
no_word (given.Named p) none = refl
no_word given.Reference none = refl

-- nothing where a test holds, and else a refusal
abbrev pub unit_if : Bool → Refusal → Outcome (Unit {0})
unit_if b e = if b then Ok tt else Err e

source_told : (g : Given) → IsSource g → source_tested g ≡ Ok tt
source_told h no_link = refl
source_told h (link p) = refl

no_source_told : (g : Given) → (IsSource g → ⊥) → source_tested g ≡ Err (RoutingTable BadEntry)
no_source_told given.Nothing none = refl
no_source_told (given.Integer zero) none = absurd (none no_link)
no_source_told (given.Integer (suc n)) none = ap (λ (b : Bool). unit_if b (RoutingTable BadEntry)) (is_not_zero (suc n) (omega arith))
no_source_told (given.Text bs) none = refl
no_source_told (given.Bytes bs) none = refl
no_source_told (given.Package gs) none = refl
no_source_told (given.Named p) none = absurd (none (link p))
no_source_told given.Reference none = refl

pin_told : (pin : ℕ) → pin < 4 → pin_tested pin ≡ Ok pin
pin_told pin few = ap (λ (b : Bool). if b then Err (RoutingTable BadPin) else Ok pin) (is_not_less 3 pin (omega arith))

no_pin_past_d : (pin : ℕ) → 4 ≤ pin → pin_tested pin ≡ Err (RoutingTable BadPin)
no_pin_past_d pin more = ap (λ (b : Bool). if b then Err (RoutingTable BadPin) else Ok pin) (is_less 3 pin (omega arith))

index_told : (index : ℕ) → 0 < index → no_index index ≡ Err (RoutingTable SourceIndex)
index_told index some = ap (λ (b : Bool). unit_if b (RoutingTable SourceIndex)) (is_not_zero index some)

device_told : (address device function : ℕ) → IsAddress address device function → device_number address ≡ device
device_told address device function at = ap (λ (n : ℕ). n / 2 ^ 16) at.is ∙ div-mul-add device (2 ^ 16) function at.function_fits

address_fits : (address device function : ℕ) → IsAddress address device function → address < 2 ^ 32
address_fits address device function at =
    let wide : device < 65536 = at.device_fits in
    let low : function < 65536 = at.function_fits in
    let is : address ≡ device * 65536 + function = at.is in
    let fits : address < 4294967296 = omega arith in
    fits

pub same_parts : (parts : List Given) → list_of (givens parts) ≡ parts
same_parts [] = refl
same_parts (g ∷ gs) = ap (λ (l : List Given). g ∷ l) (same_parts gs)

word_refuses : (g : Given) (e : Refusal) → word_of g ≡ Err e → e ≡ RoutingTable BadEntry
word_refuses given.Nothing e is = cc is
word_refuses (given.Integer n) e is = by (nat_lt n (2 ^ 32)) is
  where
    by : (b : Bool) → (if b then Ok n else Err (RoutingTable BadEntry)) ≡ Err e → e ≡ RoutingTable BadEntry
    by true h = absurd (cc h)
    by false h = cc h
word_refuses (given.Text bs) e is = cc is
word_refuses (given.Bytes bs) e is = cc is
word_refuses (given.Package gs) e is = cc is
word_refuses (given.Named p) e is = cc is
word_refuses given.Reference e is = cc is

source_refuses : (g : Given) (e : Refusal) → source_tested g ≡ Err e → e ≡ RoutingTable BadEntry
source_refuses given.Nothing e is = cc is
source_refuses (given.Integer n) e is = by (n == 0) is
  where
    by : (b : Bool) → unit_if b (RoutingTable BadEntry) ≡ Err e → e ≡ RoutingTable BadEntry
    by true h = absurd (cc h)
    by false h = cc h
source_refuses (given.Text bs) e is = cc is
source_refuses (given.Bytes bs) e is = cc is
source_refuses (given.Package gs) e is = cc is
source_refuses (given.Named p) e is = absurd (cc is)
source_refuses given.Reference e is = cc is

module _ {S : Type 0} (accesses : Accesses S) where
  -- what an entry comes to, and the machine that it leaves
  abbrev Told : Type 0
  Told = Outcome (Option Pin) × MachineState S

  abbrev told_of : (number pin : ℕ) → Route → MachineState S → Told
  told_of number pin route m = (Ok (Some (record { number = number; pin = pin; route = route })), m)

  abbrev bad_entry : MachineState S → Told
  bad_entry m = (Err (RoutingTable BadEntry), m)

  -- from its letter on, where all four parts may be what they are
  abbrev from_pin : ℕ → ℕ → Given → ℕ → Change (MachineState S) (Option Pin)
  from_pin address pin source index = settle (pin_tested pin) >>= (λ letter. route_of accesses source index >>= (λ route. give (Some (record { number = device_number address; pin = letter; route = route }))))

  parts_told : (a p s i : Given) (address pin index : ℕ) (m : MachineState S) → word_of a ≡ Ok address → word_of p ≡ Ok pin → source_tested s ≡ Ok tt → word_of i ≡ Ok index → pin_with accesses a p s i m ≡ from_pin address pin s index m
  unfolding pin_with
  parts_told a p s i address pin index m ha hp hs hi =
      settled_on (word_of a) address _ m ha ∙ (settled_on (word_of p) pin _ m hp ∙ (settled_on (source_tested s) tt _ m hs ∙ settled_on (word_of i) index _ m hi))

  -- where the pin leads somewhere
  route_told : (address device function pin : ℕ) (source : Given) (index : ℕ) (route : Route) (m after : MachineState S) → IsAddress address device function → pin < 4 → route_of accesses source index m ≡ (Ok route, after)
      → from_pin address pin source index m ≡ (Ok (Some (record { number = device; pin = pin; route = route })), after)
  unfolding give
  route_told address device function pin source index route m after at few is =
      settled_on (pin_tested pin) pin _ m (pin_told pin few) ∙ (answered_on (route_of accesses source index) route _ m after is ∙ ap (λ (d : ℕ). told_of d pin route after) (device_told address device function at))

  linked_is : (name found : List Seg) (m after : MachineState S) → link_at accesses name m ≡ (Ok found, after) → linked accesses name 0 m ≡ (Ok (Link found), after)
  unfolding linked give
  linked_is name found m after is = answered_on (link_at accesses name) found _ m after is ∙ settled_on (no_index 0) tt _ after refl

  pub wired_told : (address device function pin index : ℕ) (m : MachineState S) → IsAddress address device function → pin < 4 → index < 2 ^ 32
      → pin_of accesses (entry_of (given.Integer address) (given.Integer pin) (given.Integer 0) (given.Integer index)) m ≡ (Ok (Some (record { number = device; pin = pin; route = Wired index })), m)
  unfolding give
  wired_told address device function pin index m at few small =
      let word_pin : pin < 4294967296 = omega (arith, few) in
      parts_told (given.Integer address) (given.Integer pin) (given.Integer 0) (given.Integer index) address pin index m (word_told address (address_fits address device function at)) (word_told pin word_pin) refl (word_told index small)
      ∙ route_told address device function pin (given.Integer 0) index (Wired index) m m at few refl

  pub linked_told : (address device function pin : ℕ) (name found : List Seg) (m after : MachineState S) → IsAddress address device function → pin < 4 → link_at accesses name m ≡ (Ok found, after)
      → pin_of accesses (entry_of (given.Integer address) (given.Integer pin) (given.Named name) (given.Integer 0)) m ≡ (Ok (Some (record { number = device; pin = pin; route = Link found })), after)
  linked_told address device function pin name found m after at few is =
      let word_pin : pin < 4294967296 = omega (arith, few) in
      parts_told (given.Integer address) (given.Integer pin) (given.Named name) (given.Integer 0) address pin 0 m (word_told address (address_fits address device function at)) (word_told pin word_pin) refl (word_told 0 (omega arith))
      ∙ route_told address device function pin (given.Named name) 0 (Link found) m after at few (linked_is name found m after is)

  pub left_out_told : (m : MachineState S) → pin_of accesses given.Nothing m ≡ (Ok None, m)
  unfolding give
  left_out_told m = refl

  -- ---- what is refused

  bad_before : {A : Type 0} (x : Outcome A) (k : A → Change (MachineState S) (Option Pin)) (m : MachineState S) → ((e : Refusal) → x ≡ Err e → e ≡ RoutingTable BadEntry) → ((a : A) → k a m ≡ bad_entry m) → (settle x >>= k) m ≡ bad_entry m
  unfolding settle ◌>>=◌ go_on
  bad_before (Ok a) k m refused more = more a
  bad_before (Err e) k m refused more = ap (λ (f : Refusal). (Err f, m)) (refused e refl)

  bad_address : (a p s i : Given) (m : MachineState S) → word_of a ≡ Err (RoutingTable BadEntry) → pin_with accesses a p s i m ≡ bad_entry m
  unfolding pin_with
  bad_address a p s i m h = settled_off (word_of a) (RoutingTable BadEntry) _ m h

  bad_number : (a p s i : Given) (m : MachineState S) → word_of p ≡ Err (RoutingTable BadEntry) → pin_with accesses a p s i m ≡ bad_entry m
  unfolding pin_with
  bad_number a p s i m h = bad_before (word_of a) _ m (word_refuses a) (λ address. settled_off (word_of p) (RoutingTable BadEntry) _ m h)

  bad_source : (a p s i : Given) (m : MachineState S) → source_tested s ≡ Err (RoutingTable BadEntry) → pin_with accesses a p s i m ≡ bad_entry m
  unfolding pin_with
  bad_source a p s i m h = bad_before (word_of a) _ m (word_refuses a) (λ address. bad_before (word_of p) _ m (word_refuses p) (λ pin. settled_off (source_tested s) (RoutingTable BadEntry) _ m h))

  bad_last : (a p s i : Given) (m : MachineState S) → word_of i ≡ Err (RoutingTable BadEntry) → pin_with accesses a p s i m ≡ bad_entry m
  unfolding pin_with
  bad_last a p s i m h = bad_before (word_of a) _ m (word_refuses a) (λ address. bad_before (word_of p) _ m (word_refuses p) (λ pin. bad_before (source_tested s) _ m (source_refuses s) (λ u. settled_off (word_of i) (RoutingTable BadEntry) _ m h)))

  no_package_refused : (g : Given) (m : MachineState S) → (g ≡ given.Nothing → ⊥) → ((parts : Givens) → g ≡ given.Package parts → ⊥) → pin_of accesses g m ≡ bad_entry m
  unfolding stop
  no_package_refused given.Nothing m absent none = absurd (absent refl)
  no_package_refused (given.Integer n) m absent none = refl
  no_package_refused (given.Text bs) m absent none = refl
  no_package_refused (given.Bytes bs) m absent none = refl
  no_package_refused (given.Package gs) m absent none = absurd (none gs refl)
  no_package_refused (given.Named p) m absent none = refl
  no_package_refused given.Reference m absent none = refl

  not_four_refused : (parts : List Given) (m : MachineState S) → (length parts ≡ 4 → ⊥) → pin_among accesses parts m ≡ bad_entry m
  unfolding stop
  not_four_refused [] m other = refl
  not_four_refused (a ∷ []) m other = refl
  not_four_refused (a ∷ p ∷ []) m other = refl
  not_four_refused (a ∷ p ∷ s ∷ []) m other = refl
  not_four_refused (a ∷ p ∷ s ∷ i ∷ []) m other = absurd (other refl)
  not_four_refused (a ∷ p ∷ s ∷ i ∷ x ∷ xs) m other = refl

  pub no_entry_refused : (g : Given) (m : MachineState S) → IsNoEntry g → pin_of accesses g m ≡ (Err (RoutingTable BadEntry), m)
  no_entry_refused h m (no_package g absent none) = no_package_refused g m absent none
  no_entry_refused h m (not_four parts other) = ap (λ (l : List Given). pin_among accesses l m) (same_parts parts) ∙ not_four_refused parts m other
  no_entry_refused h m (wrong_address a p s i none) = bad_address a p s i m (no_word a none)
  no_entry_refused h m (wrong_pin a p s i none) = bad_number a p s i m (no_word p none)
  no_entry_refused h m (wrong_source a p s i none) = bad_source a p s i m (no_source_told s none)
  no_entry_refused h m (wrong_index a p s i none) = bad_last a p s i m (no_word i none)

  pub no_pin_refused : (address pin index : ℕ) (source : Given) (m : MachineState S) → address < 2 ^ 32 → 4 ≤ pin → pin < 2 ^ 32 → IsSource source → index < 2 ^ 32
      → pin_of accesses (entry_of (given.Integer address) (given.Integer pin) source (given.Integer index)) m ≡ (Err (RoutingTable BadPin), m)
  no_pin_refused address pin index source m fits more small is few =
      parts_told (given.Integer address) (given.Integer pin) source (given.Integer index) address pin index m (word_told address fits) (word_told pin small) (source_told source is) (word_told index few)
      ∙ settled_off (pin_tested pin) (RoutingTable BadPin) _ m (no_pin_past_d pin more)

  -- a route that is refused refuses the entry
  route_refused : (address pin index : ℕ) (name : List Seg) (m after : MachineState S) (e : Refusal) → address < 2 ^ 32 → pin < 4 → index < 2 ^ 32 → linked accesses name index m ≡ (Err e, after)
      → pin_of accesses (entry_of (given.Integer address) (given.Integer pin) (given.Named name) (given.Integer index)) m ≡ (Err e, after)
  route_refused address pin index name m after e fits few small is =
      let word_pin : pin < 4294967296 = omega (arith, few) in
      parts_told (given.Integer address) (given.Integer pin) (given.Named name) (given.Integer index) address pin index m (word_told address fits) (word_told pin word_pin) refl (word_told index small)
      ∙ (settled_on (pin_tested pin) pin _ m (pin_told pin few) ∙ answered_off (linked accesses name index) e _ m after is)

  no_link_is : (index : ℕ) (name : List Seg) (m after : MachineState S) (e : Refusal) → link_at accesses name m ≡ (Err e, after) → linked accesses name index m ≡ (Err e, after)
  unfolding linked
  no_link_is index name m after e is = answered_off (link_at accesses name) e _ m after is

  index_is : (index : ℕ) (name found : List Seg) (m after : MachineState S) → 0 < index → link_at accesses name m ≡ (Ok found, after) → linked accesses name index m ≡ (Err (RoutingTable SourceIndex), after)
  unfolding linked
  index_is index name found m after some is = answered_on (link_at accesses name) found _ m after is ∙ settled_off (no_index index) (RoutingTable SourceIndex) _ after (index_told index some)

  pub no_link_refused : (address pin index : ℕ) (name : List Seg) (m after : MachineState S) (e : Refusal) → address < 2 ^ 32 → pin < 4 → index < 2 ^ 32 → link_at accesses name m ≡ (Err e, after)
      → pin_of accesses (entry_of (given.Integer address) (given.Integer pin) (given.Named name) (given.Integer index)) m ≡ (Err e, after)
  no_link_refused address pin index name m after e fits few small is = route_refused address pin index name m after e fits few small (no_link_is index name m after e is)

  pub index_refused : (address pin index : ℕ) (name found : List Seg) (m after : MachineState S) → address < 2 ^ 32 → pin < 4 → 0 < index → index < 2 ^ 32 → link_at accesses name m ≡ (Ok found, after)
      → pin_of accesses (entry_of (given.Integer address) (given.Integer pin) (given.Named name) (given.Integer index)) m ≡ (Err (RoutingTable SourceIndex), after)
  index_refused address pin index name found m after fits few some small is = route_refused address pin index name m after (RoutingTable SourceIndex) fits few small (index_is index name found m after some is)
