use Rattle.std.proofs.Common.{◌∙◌, ◌+◌, ◌-◌, ℕ, cond, nat_lt, ap}
use Rattle.room_overlay.proofs.Keeping.{batches_seen, told_last}
use Rattle.room_overlay.proofs.own.Own.batches.Goals as goal

pub overflow_sub-open : goal.overflow_sub-open
overflow_sub-open c = told_last _ _ _ _ _ _ c.self.invariant.0

pub returns : goal.returns
returns c =
    let s = c.self.inside in
    let some = c.one_if.ensures.value ∙ ap (λ (n : ℕ). cond {A = ℕ} (nat_lt (s.last - s.told) n) 1 0) c.len.ensures in
    (λ i. (c.len-2.ensures ∙ s.lasts.ok.0) i + some i) ∙ batches_seen _ _ _ _ _ _ c.self.invariant.0 _ c.self.view_is
