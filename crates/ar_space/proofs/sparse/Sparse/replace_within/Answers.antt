use Rattle.std.proofs.Common.{◌∙◌, ap, cond, length}
use Rattle.std.specs.Prelude.{is_some}
use Rattle.std.specs.FinMap as map
use Rattle.ar_space.specs.Runs.{with_bytes, number_from}
use Rattle.ar_space.proofs.Places.{number_of_memory, number_of_ports, number_of_registers, memory_replaced, ports_replaced, registers_replaced}
use Rattle.ar_space.proofs.sparse.Sparse.replace_within.Goals as goal

pub returns-in-Memory-clause-stood : goal.returns-in-Memory-clause-stood
returns-in-Memory-clause-stood c =
    let s = c.self.inside in
    c.replace_all.ensures.stood ∙ ap is_some (number_of_memory s.memory s.ports s.registers c.args.self.now c.self.view_is c.args.place c.in-Memory.address (length c.args.bytes.now) c.in-Memory.is c.requires.room)

pub returns-in-Memory-clause-new : goal.returns-in-Memory-clause-new
returns-in-Memory-clause-new c =
    let s = c.self.inside in
    memory_replaced s.memory s.ports s.registers c.args.self.now c.self.view_is c.args.place c.in-Memory.address c.args.bytes.now c.replace_all.new.self c.replace_all.result c.in-Memory.is c.requires.room c.replace_all.ensures.new

pub returns-in-Io-clause-stood : goal.returns-in-Io-clause-stood
returns-in-Io-clause-stood c =
    let s = c.self.inside in
    c.replace_all-in-Io.ensures.stood ∙ ap is_some (ap (λ a. number_from (map.get s.ports) a (length c.args.bytes.now)) c.from.ensures
    ∙ number_of_ports s.memory s.ports s.registers c.args.self.now c.self.view_is c.args.place c.in-Io.port (length c.args.bytes.now) c.in-Io.is c.requires.room)

pub returns-in-Io-clause-new : goal.returns-in-Io-clause-new
returns-in-Io-clause-new c =
    let s = c.self.inside in
    ports_replaced s.memory s.ports s.registers c.args.self.now c.self.view_is c.args.place c.in-Io.port c.args.bytes.now c.replace_all-in-Io.new.self c.replace_all-in-Io.result c.in-Io.is c.requires.room
    (c.replace_all-in-Io.ensures.new ∙ ap (λ a. cond c.replace_all-in-Io.result (with_bytes s.ports a c.args.bytes.now) s.ports) c.from.ensures)

pub returns-in-Pci-clause-stood : goal.returns-in-Pci-clause-stood
returns-in-Pci-clause-stood c =
    let s = c.self.inside in
    let p = c.in-Pci in
    c.replace_all-in-Pci.ensures.stood ∙ ap is_some (number_of_registers s.memory s.ports s.registers c.args.self.now c.self.view_is c.args.place p.seg p.bus p.dev p.func p.reg (length c.args.bytes.now) p.is c.requires.room)

pub returns-in-Pci-clause-new : goal.returns-in-Pci-clause-new
returns-in-Pci-clause-new c =
    let s = c.self.inside in
    let p = c.in-Pci in
    registers_replaced s.memory s.ports s.registers c.args.self.now c.self.view_is c.args.place p.seg p.bus p.dev p.func p.reg c.args.bytes.now c.replace_all-in-Pci.new.self c.replace_all-in-Pci.result p.is c.requires.room c.replace_all-in-Pci.ensures.new
