-- An event that is found ends within the log.
use Rattle.std.proofs.Common.{◌-◌, ◌∙◌, Ok, ap, arith, length, drop, take, sym}
use Rattle.std.proofs.lemmas.List.{length-drop, take_rest}
use Rattle.cardlog.proofs.Found.{found_within}
use Rattle.cardlog.proofs.Present.{some_bytes}
use Rattle.cardlog.proofs.reader.read.Goals as goal

pub overflow_add-next : goal.overflow_add-next
overflow_add-next c =
    let l = c.args.log.now in
    let m = c.min.result in
    let e = c.in-Ok-Some.event in
    let q = sym c.found_in-found.ensures ∙ c.in-Ok-Some.is ∙ ap Ok (rw c.in-Ok-Some.is at c.in-Ok-Some.field-0-is) in
    let h = rw (take_rest l m) at (found_within (take (length l - m) (drop m l)) e q) in
    omega (arith, h, length-drop m l, c.size.ensures, some_bytes e, c.min.ensures, c.well_formed)
