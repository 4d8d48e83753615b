use Rattle.std.proofs.Common.{◌∙◌, ap}
use Rattle.ar_space.specs.Runs.{with_bytes}
use Rattle.ar_space.proofs.OnOk.{on_ok}
use Rattle.ar_space.proofs.Places.{memory_with, ports_with, registers_with}
use Rattle.ar_space.proofs.sparse.Sparse.put_all.Goals as goal

pub returns-in-Memory-clause-ok : goal.returns-in-Memory-clause-ok
returns-in-Memory-clause-ok c =
    let s = c.self.inside in
    on_ok c.put_all.result (memory_with s.memory s.ports s.registers c.args.self.now c.self.view_is c.args.place c.in-Memory.address c.args.bytes.now c.put_all.new.self c.in-Memory.is c.requires) c.put_all.ensures.ok

pub returns-in-Io-clause-ok : goal.returns-in-Io-clause-ok
returns-in-Io-clause-ok c =
    let s = c.self.inside in
    on_ok c.put_all-in-Io.result (λ put. ports_with s.memory s.ports s.registers c.args.self.now c.self.view_is c.args.place c.in-Io.port c.args.bytes.now c.put_all-in-Io.new.self c.in-Io.is c.requires
    (put ∙ ap (λ a. with_bytes s.ports a c.args.bytes.now) c.from.ensures)) c.put_all-in-Io.ensures.ok

pub returns-in-Pci-clause-ok : goal.returns-in-Pci-clause-ok
returns-in-Pci-clause-ok c =
    let s = c.self.inside in
    let p = c.in-Pci in
    on_ok c.put_all-in-Pci.result (registers_with s.memory s.ports s.registers c.args.self.now c.self.view_is c.args.place p.seg p.bus p.dev p.func p.reg c.args.bytes.now c.put_all-in-Pci.new.self p.is c.requires) c.put_all-in-Pci.ensures.ok
