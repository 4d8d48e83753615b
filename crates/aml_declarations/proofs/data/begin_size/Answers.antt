use Rattle.std.proofs.Common.{rules, arith}
use Rattle.aml_frames.specs.declared.frames.Frame.TheVariants as frames
use Rattle.aml_frames.specs.Data.{buffer_filled}
use Rattle.aml_frames.proofs.Forming.{buffer_known}
use Rattle.aml_frames.proofs.Knowing.{taken_known}
use Rattle.aml_declarations.proofs.MadeValues.{filled_leads}
use Rattle.aml_frames.proofs.Stepping.{leads_err}
use Rattle.aml_declarations.proofs.data.begin_size.Goals as goal

pub returns-in_ok-buffer-in-Some : goal.returns-in_ok-buffer-in-Some
returns-in_ok-buffer-in-Some g c = record {
  spent = omega arith;
  falls = first_of (search rules, grind arith);
  means =
      let integer = rw c.in-Some.is at c.in_ok-size.ensures.integer in
      let behind = rw c.in-Some.is at c.in_ok-size.ensures.behind in
      rw c.leave.ensures (taken_known c.args.act.now c.args.levels c.in-Some.size (frames.Buffer c.args.outer) integer behind (buffer_known c.known_integer.new.act c.in-Some.size c.args.outer (filled_leads c.known_integer.new.act c.in-Some.size _ c.in_ok-buffer-in-Some.ensures.made)));
  ends = search rules;
}

pub returns-in_err-buffer-in-Some : goal.returns-in_err-buffer-in-Some
returns-in_err-buffer-in-Some g c = record {
  spent = omega arith;
  falls = first_of (search rules, grind arith);
  means =
      let integer = rw c.in-Some.is at c.in_ok-size.ensures.integer in
      let behind = rw c.in-Some.is at c.in_ok-size.ensures.behind in
      taken_known c.args.act.now c.args.levels c.in-Some.size (frames.Buffer c.args.outer) integer behind (buffer_known c.known_integer.new.act c.in-Some.size c.args.outer (leads_err (buffer_filled c.in-Some.size c.known_integer.new.act) _ c.in_err-buffer-in-Some.ensures.made c.from_residual-in_err-buffer-in-Some.ensures));
  ends = search rules;
}
