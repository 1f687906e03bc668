use Rattle.std.proofs.Common.{◌≡◌, ◌<◌, ◌∷◌, length, false, nat_eq, sym, ap, subst, ◌∙◌, arith}
use Rattle.room_script.specs.Grammar.{rows, lines_from}
use Rattle.room_script.proofs.OneByOne.{rows_some, less_behind}
use Rattle.room_access.specs.Grammar.{access_in, access_line}
use Rattle.room_access.specs.Lines.{IsFaultOf, behind}
use Rattle.room_access.specs.View.{access_of}
use Rattle.room_access.proofs.Gathering.{fault_goes}
use Rattle.room_access.proofs.reading.read_access.Goals as goal

pub loop-rest-smaller : goal.loop-rest-smaller
loop-rest-smaller c =
    let some : nat_eq (length c.loop-rest.rest.now) 0 ≡ false = cc in
    rw c.cut_row.ensures.behind (less_behind c.loop-rest.rest.now some)

pub loop-rest-preserved : goal.loop-rest-preserved
loop-rest-preserved c =
    let l = c.loop-rest in
    let some : nat_eq (length l.rest.now) 0 ≡ false = cc in
    let less : length c.cut_row.result.1.now < length l.rest.now = rw c.cut_row.ensures.behind (less_behind l.rest.now some) in
    let cutting : c.cut_row.result.0.now ∷ rows c.cut_row.result.1.now ≡ rows l.rest.now =
    rw (c.cut_row.ensures.row, c.cut_row.ensures.behind) (sym (rows_some l.rest.now some)) in (
      sym (c.in-Ok.ensures.ok (rows c.cut_row.result.1.now))
          ∙ ap (λ rs. behind (access_of l.access) (lines_from access_line l.number rs)) cutting ∙ l.invariant.0,
      omega (arith, less, l.invariant.1),
    )

pub returns-in-Err-clause-err : goal.returns-in-Err-clause-err
returns-in-Err-clause-err c =
    let l = c.loop-rest in
    let some : nat_eq (length l.rest.now) 0 ≡ false = cc in
    let cutting : c.cut_row.result.0.now ∷ rows c.cut_row.result.1.now ≡ rows l.rest.now =
    rw (c.cut_row.ensures.row, c.cut_row.ensures.behind) (sym (rows_some l.rest.now some)) in
    let here : IsFaultOf (lines_from access_line l.number (rows l.rest.now)) c.in-Err.fault =
    subst (λ rs. IsFaultOf (lines_from access_line l.number rs) c.in-Err.fault) cutting (c.in-Err.ensures.err (rows c.cut_row.result.1.now)) in
    fault_goes (access_of l.access) (lines_from access_line l.number (rows l.rest.now)) (access_in c.args.b.now) c.in-Err.fault l.invariant.0 here
