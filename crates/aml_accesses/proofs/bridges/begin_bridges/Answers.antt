use Rattle.std.proofs.Common.{sym, ◌∙◌, length, rules, arith}
use Rattle.aml_frames.specs.Weights.{behind_weight}
use Rattle.aml_accesses.proofs.Bridging.{falls_bridge, falls_no_bridge, leads_bridge, leads_no_bridge, no_bridges}
use Rattle.aml_accesses.proofs.bridges.begin_bridges.Goals as goal

pub returns-in-None : goal.returns-in-None
returns-in-None g c = record {
  spent = omega arith;
  falls = falls_no_bridge c.begin_function.result c.args.pci.access.calls (behind_weight c.args.pci.access) (length c.args.pci.bridges.items) c.begin_function.ensures.falls;
  means =
      leads_no_bridge c.args.pci.access c.args.pci.device c.args.pci.bridges.items c.args.segment c.args.bus
      (no_bridges c.args.pci.bridges.items (sym c.args.pci.bridges.ok.0 ∙ c.in-None.ensures.cases.0)) c.begin_function.ensures.means;
  ends = search rules;
}

pub returns-in-Some : goal.returns-in-Some
returns-in-Some g c = record {
  spent = omega arith;
  falls = falls_bridge c.begin_bridge.result c.args.pci.access.calls (behind_weight c.args.pci.access) c.args.pci.bridges.items c.in-Some.bridge c.pop_front.new.self.items c.in-Some.ensures.items c.begin_bridge.ensures.falls;
  means = leads_bridge c.args.pci.access c.args.pci.device c.args.pci.bridges.items c.in-Some.bridge c.pop_front.new.self.items c.args.segment c.args.bus c.in-Some.ensures.items c.begin_bridge.ensures.means;
  ends = search rules;
}
