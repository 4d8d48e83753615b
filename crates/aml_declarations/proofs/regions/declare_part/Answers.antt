use Rattle.std.proofs.Common.{refl, rules, arith}
use Rattle.aml_frames.specs.declared.frames.DeclarationPart.TheVariants as parts
use Rattle.aml_frames.specs.declared.frames.Frame.TheVariants as frames
use Rattle.aml_frames.specs.Follow.{place_of}
use Rattle.aml_frames.specs.Places.{behind_term}
use Rattle.aml_frames.specs.RegionTerms.{region_declared}
use Rattle.aml_frames.proofs.Stepping.{leads_value}
use Rattle.aml_declarations.proofs.regions.declare_part.Goals as goal

pub returns-in-RegionOffset : goal.returns-in-RegionOffset
returns-in-RegionOffset g c = record {
  spent = omega arith;
  falls = first_of (search rules, grind arith);
  means =
      let o = c.in-RegionOffset in
      rw c.in-RegionOffset.is (leads_value o.levels (frames.Declaration (parts.RegionLength o.space o.name c.args.value)) (λ u. region_declared o.space (place_of c.args.act.now o.name) c.args.value u (behind_term c.args.act.now o.levels)) refl);
  ends = search rules;
}
