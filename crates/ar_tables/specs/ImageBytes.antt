-- The bytes of an image at a range of addresses.
use Rattle.std.specs.Prelude.{ℕ, ◌^◌, nat_lt, List, Err, ok_or, if◌then◌else◌}
use Rattle.std.specs.List.{range_with_len}
use Rattle.std.specs.FinMap as map
use Rattle.std.specs.Ordering.{nat_cmp}
use Rattle.ar_space.specs.Outcome.{Outcome}
use Rattle.ar_space.specs.Each.{each}
use Rattle.ar_space.specs.declared.refusal.Refusal.TheVariants.{Table}
use Rattle.ar_space.specs.declared.refusal.TableFault.TheVariants.{NotInImage}

-- the byte at an address: addresses have 64 bits
unfoldable pub byte_at : map.FinMap nat_cmp ℕ → ℕ → Outcome ℕ
byte_at image address = if nat_lt address (2 ^ 64) then ok_or (map.get image address) (Table NotInImage) else Err (Table NotInImage)

-- the bytes at so many addresses, the first of them given: each is in the image
unfoldable pub bytes_at : map.FinMap nat_cmp ℕ → ℕ → ℕ → Outcome (List ℕ)
bytes_at image address count = each (byte_at image) (range_with_len address count)
