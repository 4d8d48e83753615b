-- What follows from a call's `ok` clause.
use Rattle.std.specs.Prelude.{Result, Ok, Err, OnOk}

pub on_ok : {A E P Q : Type 0} (r : Result A E) → (P → Q) → OnOk r P → OnOk r Q
on_ok (Ok a) f h = f h
on_ok (Err e) f h = h
