use Rattle.std.proofs.Common.{◌++◌, ap, ◌∙◌, string_bytes, decimal}
use Rattle.room_script.specs.Generator.{whose}
use Rattle.room_script.proofs.Spelled.{layer_line}
use Rattle.room_script.proofs.generating.pushes_layer.Goals as goal

pub returns-clause-lines : goal.returns-clause-lines
returns-clause-lines c =
    c.in_ok-writeln.ensures.bytes
    ∙ rw c.whose.ensures (ap (λ r. string_bytes c.args.out.now ++ r) (layer_line (decimal (whose c.args.i)) (decimal c.args.i)))
