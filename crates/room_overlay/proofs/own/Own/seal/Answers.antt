use Rattle.std.proofs.Common.{◌≡◌, ◌<◌, ◌+◌, length}
use Rattle.std.proofs.lemmas.Bool.{false≢true}
use Rattle.room_overlay.proofs.Keeping.{open_seen, pushed, sealed_none, sealed_some}
use Rattle.room_overlay.proofs.own.Own.seal.Goals as goal

pub invariant_of-self : goal.invariant_of-self
invariant_of-self c =
    let i = c.self.inside in
    let k = c.self.invariant.0 in
    let l = c.last_clock-last in
    let some : 0 < length i.ops → l.result ≡ i.told + length i.ops =
    λ h. (rw c.as_slice.ensures at l.ensures.some) i.actor i.told k.run h in (
      (sealed_none _ _ _ _ _ _ k _ c.self.view_is l.result (rw c.as_slice.ensures at l.ensures.none) some
          c.if-last-self.true).0,
      λ e. absurd (false≢true e),
    )

pub returns-then-last-self : goal.returns-then-last-self
returns-then-last-self c =
    let i = c.self.inside in
    let k = c.self.invariant.0 in
    let l = c.last_clock-last in
    let some : 0 < length i.ops → l.result ≡ i.told + length i.ops =
    λ h. (rw c.as_slice.ensures at l.ensures.some) i.actor i.told k.run h in
    (sealed_none _ _ _ _ _ _ k _ c.self.view_is l.result (rw c.as_slice.ensures at l.ensures.none) some
    c.if-last-self.true).1

pub invariant_of-self-2 : goal.invariant_of-self-2
invariant_of-self-2 c =
    let i = c.self.inside in
    let k = c.self.invariant.0 in
    let l = c.last_clock-last in
    let some : 0 < length i.ops → l.result ≡ i.told + length i.ops =
    λ h. (rw c.as_slice.ensures at l.ensures.some) i.actor i.told k.run h in
    let none = rw c.as_slice.ensures at l.ensures.none in
    let room =
    c.self.invariant.1 (open_seen _ _ _ _ _ _ k _ c.self.view_is l.result none some c.if-last-self.false) in (
      (sealed_some _ _ _ _ _ _ k _ c.self.view_is l.result none some c.if-last-self.false l.ensures.bound _
          (pushed c.push.result _ _ (c.push.ensures.succeeds room) c.push.ensures.items)).0,
      λ e. absurd (false≢true e),
    )

pub returns : goal.returns
returns c =
    let i = c.self.inside in
    let k = c.self.invariant.0 in
    let l = c.last_clock-last in
    let some : 0 < length i.ops → l.result ≡ i.told + length i.ops =
    λ h. (rw c.as_slice.ensures at l.ensures.some) i.actor i.told k.run h in
    let none = rw c.as_slice.ensures at l.ensures.none in
    let room =
    c.self.invariant.1 (open_seen _ _ _ _ _ _ k _ c.self.view_is l.result none some c.if-last-self.false) in
    (sealed_some _ _ _ _ _ _ k _ c.self.view_is l.result none some c.if-last-self.false l.ensures.bound _
    (pushed c.push.result _ _ (c.push.ensures.succeeds room) c.push.ensures.items)).1
