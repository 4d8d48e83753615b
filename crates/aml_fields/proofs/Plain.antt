-- SystemMemory and SystemIO as address spaces of bytes.
use Rattle.std.proofs.Common.{◌≡◌, ℕ, ◌+◌, ◌*◌, List, Ok, inl, inr, ap, sym, subst, arith}
use Rattle.ar_space.specs.Bytes.{Bytes, byte_accesses}
use Rattle.aml_objects.specs.declared.entry.FieldUnit.{FieldUnit}
use Rattle.aml_objects.specs.declared.entry.UpdateRule.TheVariants.{Preserve}
use Rattle.aml_fields.specs.declared.region.AddressSpace.TheVariants.{Memory, Io}
use Rattle.aml_fields.specs.declared.region.Region.{Region}
use Rattle.aml_fields.specs.Bits.{field_bits, packed}
use Rattle.aml_fields.specs.Regions.{place_in, read_field, write_field}
use Rattle.aml_fields.specs.SpaceBits.{IsPlain, AreBytes, OthersAreSame, IsOutside, bit_of}
use Rattle.aml_fields.proofs.Cells.{Cells, memory_cells, port_cells}
use Rattle.aml_fields.proofs.SpaceBits.{space_bit}
use Rattle.aml_fields.proofs.UnitWrites.{IsOf}
use Rattle.aml_fields.proofs.FieldWrites.{Wrote}
use Rattle.aml_fields.proofs.ReadBack.{field_wrote, read_back}

of_memory : (r : Region) → r.space ≡ Memory → IsOf memory_cells r
of_memory r e n = ap (λ s. place_in s n) e

of_ports : (r : Region) → r.space ≡ Io → IsOf port_cells r
of_ports r e n = ap (λ s. place_in s n) e

outside : (c : Cells) (r : Region) (f : FieldUnit) (source : List ℕ) (b b' : Bytes) → Wrote c (8 * r.offset + f.bit_offset) 0 f.bits source b b' → (k : ℕ) → IsOutside r f k → space_bit c b' k ≡ space_bit c b k
outside c r f source b b' w k (inl l) = w.below k (omega (arith, l))
outside c r f source b b' w k (inr l) = w.above k (omega (arith, l))

pub leaves_others : (r : Region) (f : FieldUnit) (source : List ℕ) (b b' : Bytes) → IsPlain r.space → f.update ≡ Preserve → AreBytes r.space b → write_field byte_accesses r f source b ≡ (Ok tt, b')
    → OthersAreSame r.space b b' × ((k : ℕ) → IsOutside r f k → bit_of r.space b' k ≡ bit_of r.space b k)
leaves_others r f source b b' (inl e) rule small h =
    let w = field_wrote memory_cells r (of_memory r e) f rule source b b' (subst (λ s. AreBytes s b) e small) h in (
      subst (λ s. OthersAreSame s b b') (sym e) (ap (λ x. x.0) w.others, ap (λ x. x.1) w.others),
      λ k l. subst (λ s. bit_of s b' k ≡ bit_of s b k) (sym e) (outside memory_cells r f source b b' w k l),
    )
leaves_others r f source b b' (inr e) rule small h =
    let w = field_wrote port_cells r (of_ports r e) f rule source b b' (subst (λ s. AreBytes s b) e small) h in (
      subst (λ s. OthersAreSame s b b') (sym e) (ap (λ x. x.0) w.others, ap (λ x. x.1) w.others),
      λ k l. subst (λ s. bit_of s b' k ≡ bit_of s b k) (sym e) (outside port_cells r f source b b' w k l),
    )

pub reads_back : (r : Region) (f : FieldUnit) (source : List ℕ) (b b' : Bytes) → IsPlain r.space → f.update ≡ Preserve → AreBytes r.space b → write_field byte_accesses r f source b ≡ (Ok tt, b')
    → read_field byte_accesses r f b' ≡ (Ok (packed (field_bits source 0 f.bits)), b')
reads_back r f source b b' (inl e) rule small h = read_back memory_cells r (of_memory r e) f rule source b b' (subst (λ s. AreBytes s b) e small) h
reads_back r f source b b' (inr e) rule small h = read_back port_cells r (of_ports r e) f rule source b b' (subst (λ s. AreBytes s b) e small) h
