use Rattle.std.proofs.Common.{◌++◌, ap, sym, ◌∙◌, append_assoc, string_bytes}
use Rattle.room_script.proofs.Spelled.{opening_spelled}
use Rattle.room_script.proofs.generating.put_opening.Goals as goal

pub returns : goal.returns
returns c =
    rw (c.in_ok-push_str-2.ensures.bytes, c.in_ok-push_str.ensures.bytes)
    (append_assoc (string_bytes c.args.out.now) _ _ ∙ ap (λ t. string_bytes c.args.out.now ++ t) (sym opening_spelled))
