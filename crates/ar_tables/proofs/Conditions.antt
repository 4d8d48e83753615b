-- Tables that are found meet the conditions of the standard.
use Rattle.std.proofs.Common.{◌≡◌, ◌≢◌, ◌≤◌, ◌<◌, ℕ, zero, suc, ◌+◌, ◌-◌, ◌*◌, ◌/◌, ◌%◌, ◌==◌, nat_le, Bool, true, false, cond, not, List, [], ◌∷◌, ◌++◌, length, map, filter, take, drop, ◌⊎◌, inl, inr, Some, None, Ok, refl, ap, sym, ◌∙◌, subst, arith, length-drop, ne_eqb}
use Rattle.std.specs.Prelude.{slice_index, codes, All}
use Rattle.std.specs.List.{range_with_len, Contains}
use Rattle.std.specs.Str.{bytes_eq}
use Rattle.std.specs.FinMap as maps
use Rattle.std.specs.Ordering.{nat_cmp}
use Rattle.std.specs.Cmp.Lexicographic.{same_text}
use Rattle.std.proofs.lemmas.Bool.{leb-true, leb-false, eqb-false}
use Rattle.std.proofs.lemmas.Bool.Decides.{nat_tests}
use Rattle.std.proofs.lemmas.List.{take-append-le, drop-drop}
use Rattle.std.proofs.lemmas.List.Elements.{All-cons, All-nil}
use Rattle.std.proofs.Math.ListN.{get_or-append}
use Rattle.byteorder.specs.Endian.{little_number}
use Rattle.ar_space.specs.Each.{each}
use Rattle.ar_tables.specs.ImageBytes.{bytes_at}
use Rattle.ar_tables.specs.Headers.{is_length, summed, table_at}
use Rattle.ar_tables.specs.RootPointers.{is_extended, rsdp_signed, rsdp_length, first_summed, to_xsdt, first_root, extended_root, root_pointer}
use Rattle.ar_tables.specs.Lists.{table_kind, address_size, addresses_in, entry_kind, entry_at, entries_at, listed, is_kind, addresses_of, few}
use Rattle.ar_tables.specs.Fadts.{dsdt_address}
use Rattle.ar_tables.specs.Structures.{well_structured}
use Rattle.ar_tables.specs.FindTables.{root_table, fadt_at, dsdt_at, ssdts_at, structured_madt, madt_at, width_of, tables_in, tables_of}
use Rattle.ar_tables.specs.Conditions.{StandsAt, SumsToZero, IsFirstPointer, IsExtendedPointer, HasAddress, MeetTheStandard}
use Rattle.ar_tables.specs.declared.root_pointer.RootKind.{RootKind}
use Rattle.ar_tables.specs.declared.root_pointer.RootKind.TheVariants.{Rsdt, Xsdt}
use Rattle.ar_tables.specs.declared.root_pointer.RootPointer.{RootPointer}
use Rattle.ar_tables.specs.declared.root_table.Entry.{Entry}
use Rattle.ar_tables.specs.declared.root_table.EntryKind.{EntryKind}
use Rattle.ar_tables.specs.declared.root_table.EntryKind.TheVariants as entry
use Rattle.ar_tables.specs.declared.table.TableKind.TheVariants as kind
use Rattle.ar_tables.specs.declared.tables.Tables.{Tables}
use Rattle.ar_tables.proofs.TableBytes.{came, came_ok, if_cases, tested, AreAt, bytes_read, stands, are_at, begins, same_bytes, number_early, sum_read, TableRead, table_read}

-- the root pointer
rsdp_signature : (rsdp : List ℕ) (u : Unit {0}) → rsdp_signed rsdp ≡ Ok u → take 8 rsdp ≡ codes "RSD PTR "
unfolding rsdp_signed
rsdp_signature rsdp u e = same_text (take 8 rsdp) (codes "RSD PTR ") (sym (tested (bytes_eq (take 8 rsdp) (codes "RSD PTR ")) tt _ u e).0)

first_pointer : (image : maps.FinMap nat_cmp ℕ) (a : ℕ) (bytes : List ℕ) (root : RootPointer) → AreAt image a bytes → length bytes ≡ 20 → is_extended bytes ≡ false → first_root bytes ≡ Ok root
    → IsFirstPointer image a root
unfolding first_root
first_pointer image a bytes root at long early e =
    let s = came (rsdp_signed bytes) _ root e in
    let z = came (summed bytes) _ root s.rest in
    record {
      bytes = bytes;
      stands = stands image a bytes at;
      length_is = long;
      signature_is = rsdp_signature bytes s.before s.is;
      revision_is = leb-false 2 (slice_index bytes 15) early;
      checksum = sum_read bytes z.before z.is;
      leads = cc z.rest;
    }

extended_by : (image : maps.FinMap nat_cmp ℕ) (a : ℕ) (first header bytes tail rest : List ℕ) (root : RootPointer) → StandsAt image a bytes → length first ≡ 20 → length header ≡ 36
    → bytes ≡ first ++ tail → bytes ≡ header ++ rest → 36 ≤ length bytes → length bytes ≡ little_number 4 (drop 20 header) → take 8 header ≡ codes "RSD PTR " → 2 ≤ slice_index first 15
    → SumsToZero (take 20 bytes) → SumsToZero bytes → root ≡ to_xsdt bytes → IsExtendedPointer image a root
extended_by image a first header bytes tail rest root at short long is so least count signature revision first_zero all_zero leads =
    let same : slice_index bytes 15 ≡ slice_index first 15 = ap (λ x. slice_index x 15) is ∙ get_or-append first tail 0 15 (omega arith) in
    record {
      bytes = bytes;
      stands = at;
      least = least;
      length_is = count ∙ sym (ap (λ x. little_number 4 (drop 20 x)) so ∙ number_early 4 20 header rest (omega arith));
      signature_is = ap (take 8) so ∙ (take-append-le 8 header rest (omega arith) ∙ signature);
      revision_is = subst (λ x. 2 ≤ x) (sym same) revision;
      checksum = first_zero;
      extended_checksum = all_zero;
      leads = leads;
    }

extended_pointer : (image : maps.FinMap nat_cmp ℕ) (a : ℕ) (first : List ℕ) (root : RootPointer) → AreAt image a first → length first ≡ 20 → is_extended first ≡ true
    → extended_root image a ≡ Ok root → IsExtendedPointer image a root
unfolding extended_root rsdp_length first_summed
extended_pointer image a first root at short late e =
    let h = came (bytes_at image a 36) _ root e in
    let s = came (rsdp_signed h.before) _ root h.rest in
    let c = came (rsdp_length h.before) _ root s.rest in
    let r = came (bytes_at image a c.before) _ root c.rest in
    let f = came (first_summed r.before) _ root r.rest in
    let z = came (summed r.before) _ root f.rest in
    let header = bytes_read image a 36 h.before h.is in
    let all = bytes_read image a c.before r.before r.is in
    let fits = tested (nat_le 36 (little_number 4 (drop 20 h.before))) (little_number 4 (drop 20 h.before)) _ c.before c.is in
    let least : 36 ≤ length r.before = let count = fits.1 in let l = all.1 in let m = leb-true 36 (little_number 4 (drop 20 h.before)) fits.0 in omega arith in
    let one = begins image a first r.before at all.0 (let m = header.1 in omega arith) in
    let two = begins image a h.before r.before header.0 all.0 (let m = header.1 in omega arith) in
    extended_by image a first h.before r.before one.0 two.0 root (stands image a r.before all.0) short header.1 one.1 two.1 least (all.1 ∙ sym fits.1)
    (rsdp_signature h.before s.before s.is) (leb-true 2 (slice_index first 15) late) (sum_read (take 20 r.before) f.before f.is) (sum_read r.before z.before z.is) (cc z.rest)

pointer_read : (image : maps.FinMap nat_cmp ℕ) (a : ℕ) (root : RootPointer) → root_pointer image a ≡ Ok root → IsFirstPointer image a root ⊎ IsExtendedPointer image a root
unfolding root_pointer
pointer_read image a root e =
    let f = came (bytes_at image a 20) _ root e in
    let first = bytes_read image a 20 f.before f.is in
    elim (if_cases (is_extended f.before) _ _ _ f.rest) [
      | inl t ↦ inr (extended_pointer image a f.before root first.0 first.1 t.0 t.1)
      | inr t ↦ inl (first_pointer image a f.before root first.0 first.1 t.0 t.1)
    ]

-- the list of the tables
whole_list : (root : RootKind) (n : ℕ) → is_length (table_kind root) n ≡ true → (n - 36) % address_size root ≡ 0
whole_list Rsdt n e = grind (arith, nat_tests)
whole_list Xsdt n e = grind (arith, nat_tests)

-- an address is among some
abbrev Has : List ℕ → ℕ → Type 0
Has [] a = ⊥
Has (x ∷ xs) a = (x ≡ a) ⊎ Has xs a

filtered : (p : ℕ → Bool) (xs : List ℕ) (a : ℕ) → Has (filter p xs) a → Has xs a × (p a ≡ true)
filtered p [] a h = absurd h
filtered p (x ∷ xs) a h = go (p x) refl h (filtered p xs a)
  where
    go : (b : Bool) → p x ≡ b → Has (cond b (x ∷ filter p xs) (filter p xs)) a → (Has (filter p xs) a → Has xs a × (p a ≡ true)) → Has (x ∷ xs) a × (p a ≡ true)
    go true e (inl same) more = (inl same, ap p (sym same) ∙ e)
    go true e (inr i) more = let r = more i in (inr r.0, r.1)
    go false e i more = let r = more i in (inr r.0, r.1)

filtered_in : (p : ℕ → Bool) (xs : List ℕ) (a : ℕ) → Has xs a → p a ≡ true → Has (filter p xs) a
filtered_in p [] a h t = absurd h
filtered_in p (x ∷ xs) a (inl same) t = rw (ap p same ∙ t) (inl same)
filtered_in p (x ∷ xs) a (inr h) t = go (p x) (filtered_in p xs a h t)
  where
    go : (b : Bool) → Has (filter p xs) a → Has (cond b (x ∷ filter p xs) (filter p xs)) a
    go true i = inr i
    go false i = i

in_range : (f : ℕ → ℕ) (n count a : ℕ) → Has (map f (range_with_len n count)) a → (k : ℕ) × ((k < n + count) × (a ≡ f k))
in_range f n zero a h = absurd h
in_range f n (suc count) a (inl same) = (n, (omega arith, sym same))
in_range f n (suc count) a (inr h) = let r = in_range f (n + 1) count a h in let lt = r.1.0 in (r.0, (omega arith, r.1.1))

range_has : (f : ℕ → ℕ) (n count k : ℕ) → k < count → Has (map f (range_with_len n count)) (f (n + k))
range_has f n zero k lt = absurd (omega arith)
range_has f n (suc count) zero lt = inl (ap f (omega arith))
range_has f n (suc count) (suc k) lt = inr (subst (λ m. Has (map f (range_with_len (n + 1) count)) (f m)) (omega arith) (range_has f (n + 1) count k (omega arith)))

within_list : (root : RootKind) (n m : ℕ) → 36 ≤ m → n < (m - 36) / address_size root → 36 + address_size root * (n + 1) ≤ m
within_list Rsdt n m le lt = omega arith
within_list Xsdt n m le lt = omega arith

in_list : (root : RootKind) (n m : ℕ) → 36 + address_size root * (n + 1) ≤ m → n < (m - 36) / address_size root
in_list Rsdt n m le = omega arith
in_list Xsdt n m le = omega arith

some_address : (a : ℕ) → not (a == 0) ≡ true → a ≢ 0
some_address zero e = absurd (cc e)
some_address (suc a) e = λ z. absurd (omega arith)

kept_address : (a : ℕ) → a ≢ 0 → not (a == 0) ≡ true
kept_address a some = ap not (ne_eqb a 0 some)

module _ (root : RootKind) (list : List ℕ) where
  abbrev address_after : ℕ → ℕ
  address_after n = little_number (address_size root) (drop (address_size root * n) (drop 36 list))

  same_address : (n : ℕ) → address_after n ≡ little_number (address_size root) (drop (36 + address_size root * n) list)
  same_address n = ap (little_number (address_size root)) (drop-drop (address_size root * n) 36 list)

  listed_read : (a : ℕ) → 36 ≤ length list → Has (addresses_in root (drop 36 list)) a → HasAddress root list a
  unfolding addresses_in
  listed_read a le h =
      let f = filtered (λ x. not (x == 0)) (map address_after (range_with_len 0 (length (drop 36 list) / address_size root))) a h in
      let r = in_range address_after 0 (length (drop 36 list) / address_size root) a f.0 in
      let within : r.0 < (length list - 36) / address_size root = subst (λ m. r.0 < m / address_size root) (length-drop 36 list) (let lt = r.1.0 in omega arith) in
      record { n = r.0; within = within_list root r.0 (length list) le within; is = r.1.1 ∙ same_address r.0; some = some_address a f.1 }

  listed_has : (a : ℕ) → HasAddress root list a → Has (addresses_in root (drop 36 list)) a
  unfolding addresses_in
  listed_has a l =
      let within : l.n < length (drop 36 list) / address_size root = subst (λ m. l.n < m / address_size root) (sym (length-drop 36 list)) (in_list root l.n (length list) l.within) in
      let at : address_after (0 + l.n) ≡ a = ap address_after (omega arith) ∙ (same_address l.n ∙ sym l.is) in
      filtered_in (λ x. not (x == 0)) (map address_after (range_with_len 0 (length (drop 36 list) / address_size root))) a
      (subst (λ x. Has (map address_after (range_with_len 0 (length (drop 36 list) / address_size root))) x) at (range_has address_after 0 (length (drop 36 list) / address_size root) l.n within))
      (kept_address a l.some)

module _ (image : maps.FinMap nat_cmp ℕ) where
  -- the entries of the list
  record EntryRead (a : ℕ) (e : Entry) : Type 0 where
    signature : List ℕ
    read : bytes_at image a 4 ≡ Ok signature
    kind_is : e.kind ≡ entry_kind signature
    address_is : e.address ≡ a

  entry_read : (a : ℕ) (e : Entry) → entry_at image a ≡ Ok e → EntryRead a e
  unfolding entry_at
  entry_read a e is =
      let s = came (bytes_at image a 4) _ e is in
      let same : record { kind = entry_kind s.before; address = a } ≡ e = cc s.rest in
      record { signature = s.before; read = s.is; kind_is = ap (λ (x : Entry). x.kind) (sym same); address_is = ap (λ (x : Entry). x.address) (sym same) }

  -- the addresses of one kind are addresses of the list
  of_list : (wanted : EntryKind) (addresses : List ℕ) (entries : List Entry) (a : ℕ) → entries_at image addresses ≡ Ok entries → Has (addresses_of wanted entries) a → Has addresses a
  unfolding entries_at each
  of_list wanted [] entries a is h =
      let none : [] ≡ entries = cc is in
      subst (λ es. Has (addresses_of wanted es) a) (sym none) h
  of_list wanted (x ∷ xs) entries a is h =
      let e = came (entry_at image x) _ entries is in
      let es = came (entries_at image xs) (λ ys. Ok (e.before ∷ ys)) entries e.rest in
      let same : e.before ∷ es.before ≡ entries = cc es.rest in
      let r = entry_read x e.before e.is in
      go e.before es.before r.address_is (is_kind e.before.kind wanted) (of_list wanted xs es.before a es.is) (subst (λ ys. Has (addresses_of wanted ys) a) (sym same) h)
    where
      go : (e : Entry) (es : List Entry) → e.address ≡ x → (b : Bool) → (Has (addresses_of wanted es) a → Has xs a)
          → Has (map (λ (y : Entry). y.address) (cond b (e ∷ filter (λ (y : Entry). is_kind y.kind wanted) es) (filter (λ (y : Entry). is_kind y.kind wanted) es))) a → Has (x ∷ xs) a
      go e es at true more (inl here) = inl (sym at ∙ here)
      go e es at true more (inr i) = inr (more i)
      go e es at false more i = inr (more i)

  -- an address of the list whose signature is that of a kind is one of that kind
  of_kind : (wanted : EntryKind) (addresses : List ℕ) (entries : List Entry) (a : ℕ) → entries_at image addresses ≡ Ok entries → Has addresses a
      → ((e : Entry) → EntryRead a e → is_kind e.kind wanted ≡ true) → Has (addresses_of wanted entries) a
  unfolding entries_at each
  of_kind wanted [] entries a is h right = absurd h
  of_kind wanted (x ∷ xs) entries a is h right =
      let e = came (entry_at image x) _ entries is in
      let es = came (entries_at image xs) (λ ys. Ok (e.before ∷ ys)) entries e.rest in
      let same : e.before ∷ es.before ≡ entries = cc es.rest in
      let r = entry_read x e.before e.is in
      subst (λ ys. Has (addresses_of wanted ys) a) same (elim h [
        | inl here ↦ kept e.before es.before r.address_is here (right e.before (subst (λ b. EntryRead b e.before) here r))
        | inr i ↦ passed e.before es.before (is_kind e.before.kind wanted) (of_kind wanted xs es.before a es.is i right)
      ])
    where
      kept : (e : Entry) (es : List Entry) → e.address ≡ x → x ≡ a → is_kind e.kind wanted ≡ true → Has (addresses_of wanted (e ∷ es)) a
      kept e es at here t = rw t (inl (at ∙ here))

      passed : (e : Entry) (es : List Entry) (b : Bool) → Has (addresses_of wanted es) a
          → Has (map (λ (y : Entry). y.address) (cond b (e ∷ filter (λ (y : Entry). is_kind y.kind wanted) es) (filter (λ (y : Entry). is_kind y.kind wanted) es))) a
      passed e es true i = inr i
      passed e es false i = i

  -- a signature that stands in memory is the one that is read
  signature_there : (a : ℕ) (e : Entry) (signature : List ℕ) → length signature ≡ 4 → StandsAt image a signature → EntryRead a e → e.kind ≡ entry_kind signature
  signature_there a e signature four at r =
      let read = bytes_read image a 4 r.signature r.read in
      r.kind_is ∙ ap entry_kind (same_bytes image a r.signature signature read.0 (are_at image a signature at) (read.1 ∙ sym four))

  -- the SSDTs
  each_ssdt : (addresses : List ℕ) (ssdts : List (List ℕ)) → ssdts_at image addresses ≡ Ok ssdts → All (λ t. (a : ℕ) × (Has addresses a × TableRead image kind.Ssdt a t)) ssdts
  unfolding ssdts_at each
  each_ssdt [] ssdts is =
      let none : [] ≡ ssdts = cc is in
      subst (All (λ t. (a : ℕ) × (⊥ × TableRead image kind.Ssdt a t))) none (All-nil (λ t. (a : ℕ) × (⊥ × TableRead image kind.Ssdt a t)))
  each_ssdt (x ∷ xs) ssdts is =
      let t = came (table_at image kind.Ssdt x) _ ssdts is in
      let ts = came (ssdts_at image xs) (λ ys. Ok (t.before ∷ ys)) ssdts t.rest in
      let same : t.before ∷ ts.before ≡ ssdts = cc ts.rest in
      let rest = each_ssdt xs ts.before ts.is in
      subst (All (λ t. (a : ℕ) × (Has (x ∷ xs) a × TableRead image kind.Ssdt a t))) same
      (All-cons (λ t. (a : ℕ) × (Has (x ∷ xs) a × TableRead image kind.Ssdt a t)) t.before ts.before (x, (inl refl, table_read image kind.Ssdt x t.before t.is))
      (λ k d lt. let r = rest k d lt in (r.0, (inr r.1.0, r.1.1))))

  every_ssdt : (addresses : List ℕ) (ssdts : List (List ℕ)) (a : ℕ) → ssdts_at image addresses ≡ Ok ssdts → Has addresses a
      → (t : List ℕ) × ((Contains ssdts t) × TableRead image kind.Ssdt a t)
  unfolding ssdts_at each
  every_ssdt [] ssdts a is h = absurd h
  every_ssdt (x ∷ xs) ssdts a is h =
      let t = came (table_at image kind.Ssdt x) _ ssdts is in
      let ts = came (ssdts_at image xs) (λ ys. Ok (t.before ∷ ys)) ssdts t.rest in
      let same : t.before ∷ ts.before ≡ ssdts = cc ts.rest in
      elim h [
        | inl here ↦ (t.before, (subst (λ ys. Contains ys t.before) same (zero, omega arith, refl), subst (λ b. TableRead image kind.Ssdt b t.before) here (table_read image kind.Ssdt x t.before t.is)))
        | inr i ↦ (let r = every_ssdt xs ts.before a ts.is i in (r.0, (subst (λ ys. Contains ys r.0) same (later r.0 t.before ts.before r.1.0), r.1.1)))
      ]
    where
      later : (u t : List ℕ) (ts : List (List ℕ)) → Contains ts u → Contains (t ∷ ts) u
      later u t ts c = (suc c.0, omega (arith, c.1), c.2)

  -- the first table of a kind
  first_fadt : (addresses : List ℕ) (t : List ℕ) → fadt_at image addresses ≡ Ok t → (a : ℕ) × (Has addresses a × TableRead image kind.Fadt a t)
  unfolding fadt_at
  first_fadt [] t is = absurd (cc is)
  first_fadt (x ∷ xs) t is = (x, (inl refl, table_read image kind.Fadt x t is))

  first_madt : (addresses : List ℕ) (t : List ℕ) → madt_at image addresses ≡ Ok (Some t) → (a : ℕ) × (Has addresses a × TableRead image kind.Madt a t)
  unfolding madt_at structured_madt
  first_madt [] t is = absurd (cc is)
  first_madt (x ∷ xs) t is =
      let m = came (table_at image kind.Madt x) _ (Some t) is in
      let u = came (well_structured m.before) _ (Some t) m.rest in
      let same : m.before ≡ t = cc u.rest in
      (x, (inl refl, subst (TableRead image kind.Madt x) same (table_read image kind.Madt x m.before m.is)))

  no_madt : (addresses : List ℕ) (a : ℕ) → madt_at image addresses ≡ Ok None → Has addresses a → ⊥
  unfolding madt_at structured_madt
  no_madt [] a is h = absurd h
  no_madt (x ∷ xs) a is h =
      let m = came (table_at image kind.Madt x) _ None is in
      let u = came (well_structured m.before) _ None m.rest in
      absurd (cc u.rest)

  dsdt_read : (fadt dsdt : List ℕ) → dsdt_at image fadt ≡ Ok dsdt → (dsdt_address fadt ≢ 0) × TableRead image kind.Dsdt (dsdt_address fadt) dsdt
  unfolding dsdt_at
  dsdt_read fadt dsdt is = elim (if_cases (dsdt_address fadt == 0) _ _ _ is) [
    | inl t ↦ absurd (cc t.1)
    | inr f ↦ (eqb-false (dsdt_address fadt) 0 f.0, table_read image kind.Dsdt (dsdt_address fadt) dsdt f.1)
  ]

least_fadt : (n : ℕ) → is_length kind.Fadt n ≡ true → 44 ≤ n
least_fadt n e = grind (arith, nat_tests)

least_madt : (n : ℕ) → is_length kind.Madt n ≡ true → 44 ≤ n
least_madt n e = grind (arith, nat_tests)

-- the parts of what was found
record Parts (image : maps.FinMap nat_cmp ℕ) (entries : List Entry) (tables : Tables) : Type 0 where
  fadt : fadt_at image (addresses_of entry.Fadt entries) ≡ Ok tables.fadt
  dsdt : dsdt_at image tables.fadt ≡ Ok tables.dsdt
  ssdts : ssdts_at image (addresses_of entry.Ssdt entries) ≡ Ok tables.ssdts
  madt : madt_at image (addresses_of entry.Madt entries) ≡ Ok tables.madt

parts_read : (image : maps.FinMap nat_cmp ℕ) (entries : List Entry) (tables : Tables) → tables_in image entries ≡ Ok tables → Parts image entries tables
unfolding tables_in
parts_read image entries tables e =
    let n = came (few (addresses_of entry.Ssdt entries)) _ tables (came_ok (addresses_of entry.Ssdt entries) _ tables e) in
    let f = came (fadt_at image (addresses_of entry.Fadt entries)) _ tables (came_ok (addresses_of entry.Fadt entries) _ tables n.rest) in
    let d = came (dsdt_at image f.before) _ tables f.rest in
    let s = came (ssdts_at image (addresses_of entry.Ssdt entries)) _ tables d.rest in
    let m = came (madt_at image (addresses_of entry.Madt entries)) _ tables (came_ok (addresses_of entry.Madt entries) _ tables s.rest) in
    let same : record { dsdt = d.before; ssdts = s.before; fadt = f.before; madt = m.before; width = width_of d.before } ≡ tables = cc m.rest in
    subst (λ t. Parts image entries t) same (record { fadt = f.is; dsdt = d.is; ssdts = s.is; madt = m.is })

module _ (image : maps.FinMap nat_cmp ℕ) (root : RootPointer) (list : List ℕ) (entries : List Entry) (least : 36 ≤ length list) (is : listed image root.kind list ≡ Ok entries) where
  entries_are : entries_at image (addresses_in root.kind (drop 36 list)) ≡ Ok entries
  unfolding listed
  entries_are = came_ok (addresses_in root.kind (drop 36 list)) _ entries is

  is_listed : (wanted : EntryKind) (a : ℕ) → Has (addresses_of wanted entries) a → HasAddress root.kind list a
  is_listed wanted a h = listed_read root.kind list a least (of_list image wanted (addresses_in root.kind (drop 36 list)) entries a entries_are h)

  is_wanted : (wanted : EntryKind) (signature : List ℕ) (a : ℕ) → length signature ≡ 4 → is_kind (entry_kind signature) wanted ≡ true → HasAddress root.kind list a → StandsAt image a signature
      → Has (addresses_of wanted entries) a
  is_wanted wanted signature a four kind_is l at =
      of_kind image wanted (addresses_in root.kind (drop 36 list)) entries a entries_are (listed_has root.kind list a l)
      (λ e r. ap (λ k. is_kind k wanted) (signature_there image a e signature four at r) ∙ kind_is)

  parts_meet : (rsdp : ℕ) (tables : Tables) → IsFirstPointer image rsdp root ⊎ IsExtendedPointer image rsdp root → TableRead image (table_kind root.kind) root.address list
      → Parts image entries tables → MeetTheStandard image rsdp tables
  parts_meet rsdp tables pointer list_is parts =
      let f = first_fadt image (addresses_of entry.Fadt entries) tables.fadt parts.fadt in
      let d = dsdt_read image tables.fadt tables.dsdt parts.dsdt in
      record {
        root = root;
        pointer = pointer;
        list = list;
        list_is = list_is.is;
        list_is_whole = whole_list root.kind (length list) list_is.length_is;
        fadt = record { address = f.0; listed = is_listed entry.Fadt f.0 f.1.0; is_table = let t = f.1.1 in t.is };
        fadt_least = let t = f.1.1 in least_fadt (length tables.fadt) t.length_is;
        dsdt_named = d.0;
        dsdt = let t = d.1 in t.is;
        ssdts = λ k x lt.
            let s = each_ssdt image (addresses_of entry.Ssdt entries) tables.ssdts parts.ssdts k x lt in
            record { address = s.0; listed = is_listed entry.Ssdt s.0 s.1.0; is_table = let t = s.1.1 in t.is };
        every_ssdt = λ a l at.
            let s = every_ssdt image (addresses_of entry.Ssdt entries) tables.ssdts a parts.ssdts (is_wanted entry.Ssdt (codes "SSDT") a refl refl l at) in
            (s.0, (s.1.0, let t = s.1.1 in t.is));
        madt = λ m some.
            let s = first_madt image (addresses_of entry.Madt entries) m (parts.madt ∙ ap Ok some) in
            (record { address = s.0; listed = is_listed entry.Madt s.0 s.1.0; is_table = let t = s.1.1 in t.is }, let t = s.1.1 in least_madt (length m) t.length_is);
        no_madt = λ none a l at. no_madt image (addresses_of entry.Madt entries) a (parts.madt ∙ ap Ok none) (is_wanted entry.Madt (codes "APIC") a refl refl l at);
      }

pub meet : (image : maps.FinMap nat_cmp ℕ) (rsdp : ℕ) (tables : Tables) → tables_of image rsdp ≡ Ok tables → MeetTheStandard image rsdp tables
unfolding tables_of root_table
meet image rsdp tables e =
    let r = came (root_pointer image rsdp) _ tables e in
    let l = came (table_at image (table_kind r.before.kind) r.before.address) _ tables r.rest in
    let es = came (listed image r.before.kind l.before) _ tables l.rest in
    let list = table_read image (table_kind r.before.kind) r.before.address l.before l.is in
    parts_meet image r.before l.before es.before (let t = list.is in t.least) es.is rsdp tables (pointer_read image rsdp r.before r.is) list (parts_read image es.before tables es.rest)
