use Rattle.std.proofs.Common.{◌++◌, ap, ◌∙◌, string_bytes, decimal}
use Rattle.room_script.specs.Generator.{whose}
use Rattle.room_script.proofs.Spelled.{last_line}
use Rattle.room_script.proofs.generating.sets_last.Goals as goal

pub returns : goal.returns
returns c =
    c.in_ok-writeln.ensures.bytes
    ∙ rw c.whose.ensures (ap (λ r. string_bytes c.args.out.now ++ r) (last_line (decimal (whose c.args.i)) (decimal c.args.i)))
