use Rattle.std.proofs.Common.{sym, ◌∙◌}
use Rattle.room_msg.proofs.KeyTexts.{key_parsed}
use Rattle.room_msg.proofs.keys.value_of.Goals as goal

pub unreachable-requires : goal.unreachable-requires
unreachable-requires c =
    let e = key_parsed c.args.digits.now c.from_str_radix.result c.requires.length c.requires.digits c.from_str_radix.ensures.value in
    let bad = sym e ∙ c.in-Err.is in
    cc
