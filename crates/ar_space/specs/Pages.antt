-- Bytes in pages of 64 addresses: what a page has, and the map that a list of pages is.
use Rattle.std.specs.Prelude.{◌≡◌, ◌⊎◌, ℕ, zero, suc, ◌+◌, ◌*◌, ◌==◌, List, [], ◌∷◌, ◌++◌, Option, Some, None, slice_index, if◌then◌else◌}
use Rattle.std.specs.Int.{bit_at}
use Rattle.std.specs.FinMap as map
use Rattle.std.specs.Ordering.{nat_cmp}
use Rattle.ar_space.specs.declared.page.Page.{Page}
use Rattle.ar_space.specs.declared.pages.Pages.{Pages}
use Rattle.ar_space.specs.PagePlaces.{place_of}

-- the byte of a page at a place in it, if one stands there
abbrev pub cell : Page → ℕ → Option ℕ
cell page at = if bit_at page.present at == 1 then Some (slice_index page.bytes at) else None

-- the map with a byte at an address, or without one there
abbrev pub with_cell : map.FinMap nat_cmp ℕ → ℕ → Option ℕ → map.FinMap nat_cmp ℕ
with_cell m address (Some byte) = map.insert m address byte
with_cell m address None = map.remove m address

-- the map with what a page has at its first n places, which stand from an address on
unfoldable pub with_cells : map.FinMap nat_cmp ℕ → ℕ → Page → ℕ → map.FinMap nat_cmp ℕ
with_cells m address page zero = m
with_cells m address page (suc n) = with_cell (with_cells m address page n) (address + n) (cell page n)

-- the map that pages are: the page with the number k has the addresses from 64 * k on
unfoldable pub map_of_pages : List (ℕ × Page) → map.FinMap nat_cmp ℕ
map_of_pages [] = map.empty
map_of_pages (entry ∷ entries) = with_cells (map_of_pages entries) (64 * entry.0) entry.1 64

-- all pages, in the order in which they were made
abbrev pub all_pages : Pages → List (ℕ × Page)
all_pages pages = pages.made.items

-- the page with a number stood, and nothing changes; or it is new behind the others, without bytes
pub record StoodOrNew (number : ℕ) (before after : List (ℕ × Page)) : Type 0 where
  pub is : (after ≡ before) ⊎ ((place_of before number ≡ None) × ((page : Page) × (((at : ℕ) → cell page at ≡ None) × (after ≡ before ++ (number, page) ∷ []))))
