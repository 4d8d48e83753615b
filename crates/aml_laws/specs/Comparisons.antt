-- Which orders a comparison asks for (ACPI 6.5, 19.6: LEqual, LGreater, LLess).
use Rattle.std.specs.declared.cmp.Ordering.{Ordering}
use Rattle.std.specs.declared.cmp.Ordering.TheVariants.{Less, Equal, Greater}
use Rattle.aml_convert.specs.declared.logic.Comparison.{Comparison}
use Rattle.aml_convert.specs.declared.logic.Comparison.TheVariants as comparison

pub data AsksFor : Comparison → Ordering → Type 0 where
  equal : AsksFor comparison.Equal Equal
  greater : AsksFor comparison.Greater Greater
  less : AsksFor comparison.Less Less
