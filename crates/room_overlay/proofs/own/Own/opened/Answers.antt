use Rattle.std.proofs.Common.{◌∙◌, ◌-◌, drop, length, ap, arith}
use Rattle.room_overlay.proofs.Keeping.{opened_seen, told_last}
use Rattle.room_overlay.proofs.own.Own.opened.Goals as goal

pub overflow_sub-self-inside : goal.overflow_sub-self-inside
overflow_sub-self-inside c = told_last _ _ _ _ _ _ c.self.invariant.0

pub behind-requires : goal.behind-requires
behind-requires c =
    let i = c.self.inside in
    omega (arith, ap length c.as_slice.ensures, c.self.invariant.0.within, told_last _ _ _ _ _ _ c.self.invariant.0)

pub returns : goal.returns
returns c =
    c.behind.ensures
    ∙ ap (drop (c.self.inside.last - c.self.inside.told)) c.as_slice.ensures
    ∙ opened_seen _ _ _ _ _ _ c.self.invariant.0 _ c.self.view_is
