use Rattle.std.proofs.Common.{arith, length, rules}
use Rattle.aml_frames.specs.Addresses.{device_known}
use Rattle.aml_frames.specs.Weights.{behind_weight}
use Rattle.aml_accesses.proofs.Bridging.{falls_device, devices}
use Rattle.aml_accesses.proofs.pci.begin_device.Goals as goal

pub returns : goal.returns
unfolding device_known
returns g c = record {
  spent = omega arith;
  falls =
      let q = c.in_ok-bridges.bridges in
      let ok = q.ok.0 in
      let small = q.small in
      falls_device c.begin_segment.result c.args.access.calls (behind_weight c.args.access) (length q.items) (omega (arith, ok, small)) c.begin_segment.ensures.falls;
  means = search (rules, devices);
  ends = search rules;
}
