use Rattle.std.proofs.Common.{ap, subst}
use Rattle.std.specs.Prelude.{[], ◌∷◌, map}
use Rattle.aml_world.specs.state.Given.{given_of}
use Rattle.aml_world.specs.state.Given as given
use Rattle.acpi_machine.specs.Calls.{mode_number}
use Rattle.acpi_explain.specs.Refused.{TellsRefused}
use Rattle.acpi_explain.specs.Stages.{InitialPaths}
use Rattle.acpi_explain.proofs.Called.{called_with, root_refused, bus_refused, pic_refused, none_refused}
use Rattle.acpi_explain.proofs.calls.refused_call.Goals as goal

pub returns-then-root_refused : goal.returns-then-root_refused
returns-then-root_refused g c =
    let acc = g.S.Space.accesses in
    let mode = c.args.mode in
    let paths : InitialPaths = record { root_ini = c.in_ok-root_ini.root_ini; bus_ini = c.in_ok-bus_ini.bus_ini; pic = c.in_ok-pic.pic; is_root_ini = c.in_ok-root_ini.ensures; is_bus_ini = c.in_ok-bus_ini.ensures; is_pic = c.in_ok-pic.ensures } in
    let s = c.args.machine.now in
    let t = c.call_at-root_outcome.new.machine in
    let d = called_with acc paths.root_ini (map given_of c.new-root_arguments.result.items) [] s t c.call_at-root_outcome.result (ap (map given_of) c.new-root_arguments.ensures.items) c.call_at-root_outcome.ensures in
    let told = subst (λ b. TellsRefused c.call_at-root_outcome.result b) c.if-root_refused.true c.in_ok-root_refused.ensures in
    λ spent. root_refused acc mode paths s t c.call_at-root_outcome.result spent d told

pub returns-then-bus_refused : goal.returns-then-bus_refused
returns-then-bus_refused g c =
    let acc = g.S.Space.accesses in
    let mode = c.args.mode in
    let paths : InitialPaths = record { root_ini = c.in_ok-root_ini.root_ini; bus_ini = c.in_ok-bus_ini.bus_ini; pic = c.in_ok-pic.pic; is_root_ini = c.in_ok-root_ini.ensures; is_bus_ini = c.in_ok-bus_ini.ensures; is_pic = c.in_ok-pic.ensures } in
    let s = c.args.machine.now in
    let t = c.call_at-root_outcome.new.machine in
    let d = called_with acc paths.root_ini (map given_of c.new-root_arguments.result.items) [] s t c.call_at-root_outcome.result (ap (map given_of) c.new-root_arguments.ensures.items) c.call_at-root_outcome.ensures in
    let u = c.call_at-bus_outcome.new.machine in
    let d2 = called_with acc paths.bus_ini (map given_of c.new-bus_arguments.result.items) [] t u c.call_at-bus_outcome.result (ap (map given_of) c.new-bus_arguments.ensures.items) c.call_at-bus_outcome.ensures in
    let told = subst (λ b. TellsRefused c.call_at-root_outcome.result b) c.if-root_refused.false c.in_ok-root_refused.ensures in
    let told2 = subst (λ b. TellsRefused c.call_at-bus_outcome.result b) c.if-bus_refused.true c.in_ok-bus_refused.ensures in
    λ spent. bus_refused acc mode paths s t u c.call_at-root_outcome.result c.call_at-bus_outcome.result spent d told d2 told2

pub returns-then-pic_refused : goal.returns-then-pic_refused
returns-then-pic_refused g c =
    let acc = g.S.Space.accesses in
    let mode = c.args.mode in
    let paths : InitialPaths = record { root_ini = c.in_ok-root_ini.root_ini; bus_ini = c.in_ok-bus_ini.bus_ini; pic = c.in_ok-pic.pic; is_root_ini = c.in_ok-root_ini.ensures; is_bus_ini = c.in_ok-bus_ini.ensures; is_pic = c.in_ok-pic.ensures } in
    let s = c.args.machine.now in
    let t = c.call_at-root_outcome.new.machine in
    let d = called_with acc paths.root_ini (map given_of c.new-root_arguments.result.items) [] s t c.call_at-root_outcome.result (ap (map given_of) c.new-root_arguments.ensures.items) c.call_at-root_outcome.ensures in
    let u = c.call_at-bus_outcome.new.machine in
    let d2 = called_with acc paths.bus_ini (map given_of c.new-bus_arguments.result.items) [] t u c.call_at-bus_outcome.result (ap (map given_of) c.new-bus_arguments.ensures.items) c.call_at-bus_outcome.ensures in
    let v = c.call_at-pic_outcome.new.machine in
    let d3 = called_with acc paths.pic (map given_of c.in_ok-arguments.arguments.items) (given.Integer (mode_number mode) ∷ []) u v c.call_at-pic_outcome.result (ap (map given_of) c.in_ok-arguments.ensures) c.call_at-pic_outcome.ensures in
    let told = subst (λ b. TellsRefused c.call_at-root_outcome.result b) c.if-root_refused.false c.in_ok-root_refused.ensures in
    let told2 = subst (λ b. TellsRefused c.call_at-bus_outcome.result b) c.if-bus_refused.false c.in_ok-bus_refused.ensures in
    let told3 = subst (λ b. TellsRefused c.call_at-pic_outcome.result b) c.if-pic_refused.true c.in_ok-pic_refused.ensures in
    λ spent. pic_refused acc mode paths s t u v c.call_at-root_outcome.result c.call_at-bus_outcome.result c.call_at-pic_outcome.result spent d told d2 told2 d3 told3

pub returns : goal.returns
returns g c =
    let acc = g.S.Space.accesses in
    let mode = c.args.mode in
    let paths : InitialPaths = record { root_ini = c.in_ok-root_ini.root_ini; bus_ini = c.in_ok-bus_ini.bus_ini; pic = c.in_ok-pic.pic; is_root_ini = c.in_ok-root_ini.ensures; is_bus_ini = c.in_ok-bus_ini.ensures; is_pic = c.in_ok-pic.ensures } in
    let s = c.args.machine.now in
    let t = c.call_at-root_outcome.new.machine in
    let d = called_with acc paths.root_ini (map given_of c.new-root_arguments.result.items) [] s t c.call_at-root_outcome.result (ap (map given_of) c.new-root_arguments.ensures.items) c.call_at-root_outcome.ensures in
    let u = c.call_at-bus_outcome.new.machine in
    let d2 = called_with acc paths.bus_ini (map given_of c.new-bus_arguments.result.items) [] t u c.call_at-bus_outcome.result (ap (map given_of) c.new-bus_arguments.ensures.items) c.call_at-bus_outcome.ensures in
    let v = c.call_at-pic_outcome.new.machine in
    let d3 = called_with acc paths.pic (map given_of c.in_ok-arguments.arguments.items) (given.Integer (mode_number mode) ∷ []) u v c.call_at-pic_outcome.result (ap (map given_of) c.in_ok-arguments.ensures) c.call_at-pic_outcome.ensures in
    let told = subst (λ b. TellsRefused c.call_at-root_outcome.result b) c.if-root_refused.false c.in_ok-root_refused.ensures in
    let told2 = subst (λ b. TellsRefused c.call_at-bus_outcome.result b) c.if-bus_refused.false c.in_ok-bus_refused.ensures in
    let told3 = subst (λ b. TellsRefused c.call_at-pic_outcome.result b) c.if-pic_refused.false c.in_ok-pic_refused.ensures in
    λ spent. none_refused acc mode paths s t u v c.call_at-root_outcome.result c.call_at-bus_outcome.result c.call_at-pic_outcome.result spent d told d2 told2 d3 told3
