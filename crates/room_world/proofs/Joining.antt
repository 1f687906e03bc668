-- What images stand for while one thing is tried, and then others.
use Rattle.std.proofs.Common.{◌≡◌, ◌≤◌, ⊎_elim, ℕ, zero, suc, ◌+◌, List, [], ◌∷◌, ◌++◌, length, take, refl, sym, ap}
use Rattle.std.proofs.Common.{◌∙◌, subst, arith, length-append}
use Rattle.std.specs.Prelude.{◌⊎◌}
use Rattle.room_disk.specs.Model.{Reads, Images, WithinWhole}
use Rattle.room_disk.proofs.Moments.{whole_then}
use Rattle.room_log.specs.Log.{State, Entry, state_after}
use Rattle.room_model.specs.World.{Host, Stopped, state_in}
use Rattle.room_moves.specs.Moments.{OfFirst}
use Rattle.room_moves.proofs.Moments.{none_comes, come_then}
use Rattle.room_world.specs.Moving.{Leaves}

front_take : (n : ℕ) (es fs : List Entry) → n ≤ length es → take n (es ++ fs) ≡ take n es
front_take zero es fs h = refl
front_take (suc n) [] fs h = absurd (omega (arith, h))
front_take (suc n) (e ∷ es) fs h = ap (λ l. e ∷ l) (front_take n es fs (omega (arith, h)))

-- a first part of the entries is one of these with more behind them
front : (P : State → Reads → Type 0) (s : State) (es fs : List Entry) (image : Reads)
    → OfFirst P s es image → OfFirst P s (es ++ fs) image
front P s es fs image h = record {
  count = h.count;
  within = omega (arith, h.within, length-append es fs);
  stands = subst (λ l. P (state_after s l) image) (sym (front_take h.count es fs h.within)) h.stands;
}

no_first : (P : State → Reads → Type 0) (s : State) (n : ℕ) (image : Reads) → n ≤ length {A = Entry} []
    → P (state_after s (take n [])) image → P s image
no_first P s zero image h stands = stands
no_first P s (suc n) image h stands = absurd (omega (arith, h))

module _ {D : Type 0} (moment : D → ℕ) (images : D → Images) (P : State → Reads → Type 0) where
  -- nothing more is tried
  pub in_front : (s : State) (es fs : List Entry) (old new : D) → WithinWhole moment images old new (OfFirst P s es)
      → WithinWhole moment images old new (OfFirst P s (es ++ fs))
  in_front s es fs old new run = record {
    later = run.later;
    keeps = run.keeps;
    each = λ m image from till left. front P s es fs image (run.each m image from till left);
  }

  idle : (s : State) (es : List Entry) (old new : D) → WithinWhole moment images old new (OfFirst P s [])
      → WithinWhole moment images old new (OfFirst P s es)
  idle s es old new run = record {
    later = run.later;
    keeps = run.keeps;
    each = λ m image from till left.
        let h = run.each m image from till left in
        none_comes P s es image (no_first P s h.count image h.within h.stands);
  }

  -- what is tried first leaves the server so; then others are tried, unless it is stopped
  pub joins : (s : State) (h : Host) (es fs : List Entry) (old mid new : D) → Leaves s es h
      → ((t : State) → h ≡ Stopped t → fs ≡ [])
      → WithinWhole moment images old mid (OfFirst P s es)
      → WithinWhole moment images mid new (OfFirst P (state_in h) fs)
      → WithinWhole moment images old new (OfFirst P s (es ++ fs))
  joins s h es fs old mid new leaves none first second = ⊎_elim
      (λ (e : state_in h ≡ state_after s es).
      come_then P s es fs (moment old) (moment mid) (moment new) (images old) (images mid) (images new) first
      (subst (λ (t : State). WithinWhole moment images mid new (OfFirst P t fs)) e second))
      (λ (e : h ≡ Stopped s).
      let last : WithinWhole moment images mid new (OfFirst P s []) =
      subst (λ (es : List Entry). WithinWhole moment images mid new (OfFirst P s es)) (none s e)
      (subst (λ (t : State). WithinWhole moment images mid new (OfFirst P t fs)) (ap state_in e) second) in
      whole_then (moment old) (moment mid) (moment new) (images old) (images mid) (images new) (OfFirst P s (es ++ fs))
      (in_front s es fs old mid first) (idle s (es ++ fs) mid new last))
      leaves
