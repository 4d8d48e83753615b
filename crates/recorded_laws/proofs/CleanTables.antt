-- Finding the tables of a machine is refused by no fault of the register space.
use Rattle.std.specs.Prelude.{ℕ, ◌==◌, ◌^◌, ◌%◌, nat_le, nat_lt, List, [], ◌∷◌, length, take, drop, sum, codes}
use Rattle.std.specs.FinMap as maps
use Rattle.std.specs.List.{range_with_len}
use Rattle.std.specs.Ordering.{nat_cmp}
use Rattle.std.specs.Str.{bytes_eq}
use Rattle.byteorder.specs.Endian.{little_number}
use Rattle.ar_space.specs.Each.{each}
use Rattle.ar_space.specs.Outcome.{Outcome}
use Rattle.ar_tables.specs.FindTables.{root_table, fadt_at, dsdt_at, ssdts_at, structured_madt, madt_at, tables_in, tables_of}
use Rattle.ar_tables.specs.Fadts.{dsdt_address}
use Rattle.ar_tables.specs.Headers.{signature_of, is_length, signed, length_in, summed, table_at}
use Rattle.ar_tables.specs.ImageBytes.{byte_at, bytes_at}
use Rattle.ar_tables.specs.Lists.{entry_at, entries_at, listed, few}
use Rattle.ar_tables.specs.RootPointers.{is_extended, rsdp_signed, rsdp_length, first_summed, first_root, extended_root, root_pointer}
use Rattle.ar_tables.specs.Structures.{are_structures, structures_of, well_structured}
use Rattle.aml_laws.proofs.CleanOutcomes.{Clean, followed_clean, if_clean}
use Rattle.machine_laws.proofs.CleanLinks.{ok_or_clean}

pub each_clean : {A B : Type 0} (f : A → Outcome B) → ((x : A) → Clean (f x)) → (xs : List A) → Clean (each f xs)
unfolding each
each_clean f clean [] = tt
each_clean f clean (x ∷ xs) = followed_clean _ _ (clean x) (λ y. followed_clean _ _ (each_clean f clean xs) (λ ys. tt))

-- ---- tables by their headers

signed_clean : (of : _) (header : List ℕ) → Clean (signed of header)
unfolding signed
signed_clean of header = if_clean (bytes_eq (take 4 header) (signature_of of)) _ _ tt tt

length_in_clean : (of : _) (header : List ℕ) → Clean (length_in of header)
unfolding length_in
length_in_clean of header = if_clean (is_length of (little_number 4 (drop 4 header))) _ _ tt tt

summed_clean : (bytes : List ℕ) → Clean (summed bytes)
unfolding summed
summed_clean bytes = if_clean (sum bytes % 256 == 0) _ _ tt tt

few_clean : (addresses : List ℕ) → Clean (few addresses)
unfolding few
few_clean addresses = if_clean (nat_le (length addresses) 256) _ _ tt tt

well_structured_clean : (madt : List ℕ) → Clean (well_structured madt)
unfolding well_structured
well_structured_clean madt = if_clean (are_structures (structures_of madt)) _ _ tt tt

-- ---- the root pointer

rsdp_signed_clean : (rsdp : List ℕ) → Clean (rsdp_signed rsdp)
unfolding rsdp_signed
rsdp_signed_clean rsdp = if_clean (bytes_eq (take 8 rsdp) (codes "RSD PTR ")) _ _ tt tt

rsdp_length_clean : (rsdp : List ℕ) → Clean (rsdp_length rsdp)
unfolding rsdp_length
rsdp_length_clean rsdp = if_clean (nat_le 36 (little_number 4 (drop 20 rsdp))) _ _ tt tt

first_summed_clean : (rsdp : List ℕ) → Clean (first_summed rsdp)
unfolding first_summed
first_summed_clean rsdp = summed_clean (take 20 rsdp)

first_root_clean : (rsdp : List ℕ) → Clean (first_root rsdp)
unfolding first_root
first_root_clean rsdp = followed_clean _ _ (rsdp_signed_clean rsdp) (λ u. followed_clean _ _ (summed_clean rsdp) (λ v. tt))

module _ (image : maps.FinMap nat_cmp ℕ) where
  byte_at_clean : (address : ℕ) → Clean (byte_at image address)
  unfolding byte_at
  byte_at_clean address = if_clean (nat_lt address (2 ^ 64)) _ _ (ok_or_clean (maps.get image address) _ tt) tt

  bytes_at_clean : (address count : ℕ) → Clean (bytes_at image address count)
  unfolding bytes_at
  bytes_at_clean address count = each_clean _ byte_at_clean (range_with_len address count)

  extended_root_clean : (address : ℕ) → Clean (extended_root image address)
  unfolding extended_root
  extended_root_clean address =
      followed_clean _ _ (bytes_at_clean address 36) (λ header. followed_clean _ _ (rsdp_signed_clean header) (λ u. followed_clean _ _ (rsdp_length_clean header) (λ count. followed_clean _ _ (bytes_at_clean address count)
      (λ rsdp. followed_clean _ _ (first_summed_clean rsdp) (λ v. followed_clean _ _ (summed_clean rsdp) (λ w. tt))))))

  root_pointer_clean : (address : ℕ) → Clean (root_pointer image address)
  unfolding root_pointer
  root_pointer_clean address = followed_clean _ _ (bytes_at_clean address 20) (λ first. if_clean (is_extended first) _ _ (extended_root_clean address) (first_root_clean first))

  -- ---- the tables

  table_at_clean : (of : _) (address : ℕ) → Clean (table_at image of address)
  unfolding table_at
  table_at_clean of address =
      followed_clean _ _ (bytes_at_clean address 36) (λ header. followed_clean _ _ (signed_clean of header) (λ u. followed_clean _ _ (length_in_clean of header) (λ count. followed_clean _ _ (bytes_at_clean address count)
      (λ table. followed_clean _ _ (summed_clean table) (λ v. tt)))))

  root_table_clean : (root : _) → Clean (root_table image root)
  unfolding root_table
  root_table_clean root = table_at_clean _ _

  entry_at_clean : (address : ℕ) → Clean (entry_at image address)
  unfolding entry_at
  entry_at_clean address = followed_clean _ _ (bytes_at_clean address 4) (λ signature. tt)

  listed_clean : (root : _) (table : List ℕ) → Clean (listed image root table)
  unfolding listed entries_at
  listed_clean root table = followed_clean _ _ tt (λ addresses. each_clean _ entry_at_clean addresses)

  fadt_at_clean : (addresses : List ℕ) → Clean (fadt_at image addresses)
  unfolding fadt_at
  fadt_at_clean [] = tt
  fadt_at_clean (address ∷ others) = table_at_clean _ address

  dsdt_at_clean : (fadt : List ℕ) → Clean (dsdt_at image fadt)
  unfolding dsdt_at
  dsdt_at_clean fadt = if_clean (dsdt_address fadt == 0) _ _ tt (table_at_clean _ _)

  ssdts_at_clean : (addresses : List ℕ) → Clean (ssdts_at image addresses)
  unfolding ssdts_at
  ssdts_at_clean addresses = each_clean _ (table_at_clean _) addresses

  madt_at_clean : (addresses : List ℕ) → Clean (madt_at image addresses)
  unfolding madt_at structured_madt
  madt_at_clean [] = tt
  madt_at_clean (address ∷ others) = followed_clean _ _ (table_at_clean _ address) (λ madt. followed_clean _ _ (well_structured_clean madt) (λ u. tt))

  tables_in_clean : (entries : _) → Clean (tables_in image entries)
  unfolding tables_in
  tables_in_clean entries =
      followed_clean _ _ tt (λ ssdt_addresses. followed_clean _ _ (few_clean ssdt_addresses) (λ u. followed_clean _ _ tt (λ fadt_addresses. followed_clean _ _ (fadt_at_clean fadt_addresses) (λ fadt. followed_clean _ _ (dsdt_at_clean fadt)
      (λ dsdt. followed_clean _ _ (ssdts_at_clean ssdt_addresses) (λ ssdts. followed_clean _ _ tt (λ madt_addresses. followed_clean _ _ (madt_at_clean madt_addresses) (λ madt. tt))))))))

  pub tables_of_clean : (address : ℕ) → Clean (tables_of image address)
  unfolding tables_of
  tables_of_clean address = followed_clean _ _ (root_pointer_clean address) (λ root. followed_clean _ _ (root_table_clean root) (λ list. followed_clean _ _ (listed_clean root.kind list) (λ entries. tables_in_clean entries)))
