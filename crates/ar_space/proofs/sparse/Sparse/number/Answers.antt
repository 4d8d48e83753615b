use Rattle.std.proofs.Common.{◌∙◌, ◌-◌, ap, sym, refl}
use Rattle.std.specs.FinMap as map
use Rattle.ar_space.specs.Registers.{register_on}
use Rattle.ar_space.specs.Runs.{number_from}
use Rattle.ar_space.proofs.Places.{past_the_last, has_room, number_of_memory, number_of_ports, number_of_registers}
use Rattle.ar_space.proofs.sparse.Sparse.number.Goals as goal

pub returns-in_err-offset_by-clause-number : goal.returns-in_err-offset_by-clause-number
returns-in_err-offset_by-clause-number c = c.from_residual.ensures
    ∙ sym (past_the_last c.args.self.now c.args.place c.args.count (c.args.count - 1) c.requires.0 refl (sym c.offset_by.ensures ∙ c.in_err-offset_by.was))

pub returns-in-Memory-clause-number : goal.returns-in-Memory-clause-number
returns-in-Memory-clause-number c =
    let s = c.self.inside in
    let room = has_room c.args.place _ c.args.count (c.args.count - 1) c.requires.0 refl (sym c.offset_by.ensures ∙ c.in_ok-offset_by.was) in
    c.number.ensures.number ∙ ap (number_from (map.get s.memory) c.in-Memory.address) c.from-count.ensures
    ∙ number_of_memory s.memory s.ports s.registers c.args.self.now c.self.view_is c.args.place c.in-Memory.address c.args.count c.in-Memory.is room

pub returns-in-Io-clause-number : goal.returns-in-Io-clause-number
returns-in-Io-clause-number c =
    let s = c.self.inside in
    let room = has_room c.args.place _ c.args.count (c.args.count - 1) c.requires.0 refl (sym c.offset_by.ensures ∙ c.in_ok-offset_by.was) in
    c.number-in-Io.ensures.number ∙ ap (number_from (map.get s.ports) c.from.result) c.from-count.ensures ∙ ap (λ a. number_from (map.get s.ports) a c.args.count) c.from.ensures
    ∙ number_of_ports s.memory s.ports s.registers c.args.self.now c.self.view_is c.args.place c.in-Io.port c.args.count c.in-Io.is room

pub returns-in-Pci-clause-number : goal.returns-in-Pci-clause-number
returns-in-Pci-clause-number c =
    let s = c.self.inside in
    let p = c.in-Pci in
    let room = has_room c.args.place _ c.args.count (c.args.count - 1) c.requires.0 refl (sym c.offset_by.ensures ∙ c.in_ok-offset_by.was) in
    c.number-in-Pci.ensures.number ∙ ap (number_from (λ n. map.get s.registers (register_on (record { seg = p.seg; bus = p.bus; dev = p.dev; func = p.func; reg = p.reg }) n)) 0) c.from-count.ensures
    ∙ number_of_registers s.memory s.ports s.registers c.args.self.now c.self.view_is c.args.place p.seg p.bus p.dev p.func p.reg c.args.count p.is room
