-- The fuse of a disk beside the model's.
use Rattle.std.proofs.Common.{◌≡◌, ◌≤◌, ◌<◌, ℕ, zero, suc, ◌-◌, nat_le, ◌&&◌, true, false, cond, refl, sym, ap, ◌∙◌}
use Rattle.std.proofs.Common.{arith, Some, None}
use Rattle.std.proofs.lemmas.Bool.Decides.{nat_tests}
use Rattle.room_disk.specs.declared.disk.Stop.{Stop}
use Rattle.room_disk.specs.declared.disk.Stop.TheVariants as stop
use Rattle.room_model.specs.World.{Intact, Fires, leaves_new}
use Rattle.room_moves.specs.Fuses.{how_of, fuse_on, GoesOn, StopsThere, EarlyIsNotKept, LateIsKept}

none_left : (armed : ℕ) (way : Stop) → armed ≡ 0 → None ≡ fuse_on armed way
none_left zero way e = refl
none_left (suc n) way e = absurd (omega (arith, e))

some_left : (armed left : ℕ) (way was : Stop) → 0 < armed → left ≡ armed → way ≡ was
    → Some (record { left = left; how = how_of was }) ≡ fuse_on armed way
some_left zero left way was h e w = absurd (omega (arith, h))
some_left (suc n) left way was h e w =
    ap (λ m. Some (record { left = m; how = how_of was })) e
    ∙ ap (λ v. Some (record { left = suc n; how = how_of v })) (sym w)

above : (n calls : ℕ) → calls < n → nat_le n calls ≡ false
above n calls h = grind (arith, nat_tests)

reached : (n calls : ℕ) → n ≤ calls → nat_le n calls ≡ true
reached n calls h = grind (arith, nat_tests)

pub goes_on : GoesOn
goes_on calls zero before way armed_now now way_now c made =
    ap Intact (none_left armed_now way_now (c.unarmed refl refl refl))
goes_on calls (suc n) before way armed_now now way_now c made =
    let more = c.goes_on refl refl (omega arith) in
    ap (λ b. cond b (Fires (suc n) (how_of way)) (Intact (Some (record { left = suc n - calls; how = how_of way }))))
    (above (suc n) calls (omega (arith, more, made)))
    ∙ ap Intact (some_left armed_now (suc n - calls) way_now way more.0 (omega (arith, more, made)) c.way)

pub stops_there : StopsThere
stops_there calls zero before way armed_now now way_now c within = absurd (omega (arith, (c.fires refl refl).0))
stops_there calls (suc n) before way armed_now now way_now c within =
    let at = c.fires refl refl in
    ap (λ b. cond b (Fires (suc n) (how_of way)) (Intact (Some (record { left = suc n - calls; how = how_of way }))))
    (reached (suc n) calls (omega (arith, at, within)))
    ∙ ap (λ m. Fires m (how_of way)) (omega (arith, at))

pub early_not_kept : EarlyIsNotKept
early_not_kept call way h = ap (λ b. b && leaves_new (how_of way)) (above 3 call (omega (arith, h)))

pub late_kept : LateIsKept
late_kept call stop.Old h = ap (λ b. b && leaves_new (how_of stop.Old)) (reached 3 call h)
late_kept call stop.New h = ap (λ b. b && leaves_new (how_of stop.New)) (reached 3 call h)
late_kept call stop.Torn h = ap (λ b. b && leaves_new (how_of stop.Torn)) (reached 3 call h)

pub ruleset burning = (goes_on, stops_there, early_not_kept, late_kept)
