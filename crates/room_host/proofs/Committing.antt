-- What a commit does to the disk, by the entry of a frame, if it has one.
use Rattle.std.proofs.Common.{◌≡◌, ◌⊎◌, ⊎_elim, ◌≤◌, ◌<◌, ℕ, ◌+◌, ◌-◌, Bool, true, false, cond, List, [], ◌∷◌, refl}
use Rattle.std.proofs.Common.{sym, ap, subst, ◌∙◌, arith, Option, Some, None}
use Rattle.std.specs.Prelude.{Result, Ok, Err, IsErr}
use Rattle.room_disk.specs.Model.{Reads, Images, WithinWhole}
use Rattle.room_disk.specs.Stops.{Left}
use Rattle.room_disk.specs.declared.disk.Stop.{Stop}
use Rattle.room_disk.specs.declared.disk.Stop.TheVariants as stop
use Rattle.room_disk.proofs.Moments.{up_to_or_past}
use Rattle.room_journal.specs.Rest.{Place}
use Rattle.room_journal.specs.Appends.{IsClean}
use Rattle.room_log.specs.Log.{State, Entry, after}
use Rattle.room_replay.specs.Files.{StandsFor, stopped_state}
use Rattle.room_store.specs.Calls.{Commits, CommitsOrStops}
use Rattle.room_store.specs.Consistent.{AreWritten}
use Rattle.room_arrivals.specs.Serving.{listed}
use Rattle.room_server.specs.Commit.{Puts, Stops}
use Rattle.room_model.specs.World.{state_with, commit_calls, is_kept, entries_in}
use Rattle.room_moves.specs.Fuses.{how_of, leaves_held}
use Rattle.room_moves.specs.Moments.{OfFirst}
use Rattle.room_moves.proofs.Fuses.{early_not_kept, late_kept}
use Rattle.room_moves.proofs.Moments.{none_comes, one_comes}
use Rattle.room_host.specs.Rests.{Each, Holds}
use Rattle.room_host.proofs.Moments.{unmoved, weaker}

pub not_true : (b : Bool) → (b ≡ true → ⊥) → b ≡ false
not_true true never = absurd (never refl)
not_true false never = refl

pub opposite : (b : Bool) → b ≡ false → b ≡ true → ⊥
opposite true is so = let same : true ≡ false = is in absurd (cc)
opposite false is so = let same : false ≡ true = so in absurd (cc)

module _ {D T E : Type 0} (seen : D → Reads) (moment : D → ℕ) (images : D → Images) (p q : Place) (s t : State)
    (old new : D) (r : Result T E) where
  -- at each moment each image stands for the state before, or with the entry
  pub put_moments : (o : Option Entry) → p.base ≡ 0 → t ≡ state_with s o → Holds (images old (moment old)) s
      → Puts seen moment images p q (listed o) s t old new r
      → WithinWhole moment images old new (OfFirst (StandsFor 0) s (entries_in o))
  put_moments None at is h puts =
      unmoved moment images (OfFirst (StandsFor 0) s []) old new puts
      (λ image each. none_comes (StandsFor 0) s [] image (h.stands image each))
  put_moments (Some e) at is h puts = ⊎_elim
      (λ (nothing : (new ≡ old) × IsErr r).
      unmoved moment images (OfFirst (StandsFor 0) s (e ∷ [])) old new nothing.0
      (λ image each. none_comes (StandsFor 0) s (e ∷ []) image (h.stands image each)))
      (λ (c : Commits seen moment images p q s t old new r).
      weaker moment images (λ image. StandsFor p.base s image ⊎ StandsFor p.base t image)
      (OfFirst (StandsFor 0) s (e ∷ [])) old new
      (λ image at_one.
      one_comes (StandsFor 0) s e image
      (subst (λ (u : State). StandsFor 0 s image ⊎ StandsFor 0 u image) is
      (subst (λ (n : ℕ). StandsFor n s image ⊎ StandsFor n t image) at at_one)))
      c.any_moment)
      puts

  pub put_written : (o : Option Entry) → p.base ≡ 0 → Holds (images old (moment old)) s
      → Puts seen moment images p q (listed o) s t old new r → WithinWhole moment images old new (AreWritten 0)
  put_written None at h puts = unmoved moment images (AreWritten 0) old new puts h.written
  put_written (Some e) at h puts = ⊎_elim
      (λ (nothing : (new ≡ old) × IsErr r). unmoved moment images (AreWritten 0) old new nothing.0 h.written)
      (λ (c : Commits seen moment images p q s t old new r).
      subst (λ (n : ℕ). WithinWhole moment images old new (AreWritten n)) at c.written)
      puts

module _ {D : Type 0} (T E : Type 0) (seen : D → Reads) (moment : D → ℕ) (images : D → Images) (p q : Place)
    (s t : State) (old new : D) (x : T) where
  -- after Ok its calls are made
  pub put_counted : (o : Option Entry) → Puts {E = E} seen moment images p q (listed o) s t old new (Ok x)
      → moment new ≡ moment old + commit_calls o
  put_counted None puts = omega (arith, ap moment puts)
  put_counted (Some e) puts = ⊎_elim
      (λ (nothing : (new ≡ old) × IsErr {E = E} (Ok x)). absurd (opposite false refl nothing.1))
      (λ (c : Commits {E = E} seen moment images p q s t old new (Ok x)). c.counted)
      puts

module _ {D : Type 0} (T E : Type 0) (seen : D → Reads) (moment : D → ℕ) (stopped : D → Bool) (leaves : D → Left)
    (base : ℕ) (s t : State) (old new : D) (x : T) where
  -- after Ok the disk hasn't stopped, and holds nothing back
  pub goes : (o : Option Entry) → stopped old ≡ false
      → Stops {E = E} seen moment stopped leaves base (listed o) s t old new (Ok x) → stopped new ≡ false
  goes None was so = ap stopped so ∙ was
  goes (Some e) was so = ⊎_elim
      (λ (nothing : (new ≡ old) × IsErr {E = E} (Ok x)). absurd (opposite false refl nothing.1))
      (λ (c : CommitsOrStops {E = E} seen moment stopped leaves base s t old new (Ok x)).
      not_true (stopped new) (λ halted. opposite false refl (c.fails halted)))
      so

  pub clean : (o : Option Entry) → IsClean seen leaves old
      → Stops {E = E} seen moment stopped leaves base (listed o) s t old new (Ok x) → IsClean seen leaves new
  clean None was so = subst (λ (d : D). IsClean seen leaves d) (sym so) was
  clean (Some e) was so = ⊎_elim
      (λ (nothing : (new ≡ old) × IsErr {E = E} (Ok x)). absurd (opposite false refl nothing.1))
      (λ (c : CommitsOrStops {E = E} seen moment stopped leaves base s t old new (Ok x)). c.clean was)
      so

-- a disk that stopped in it: after how many calls, and what that leaves

by_way : (s t : State) (w : Stop) → stopped_state w s t ≡ cond (leaves_held w) t s
by_way s t stop.Old = refl
by_way s t stop.New = refl
by_way s t stop.Torn = refl

abbrev pub LeavesAs : {D : Type 0} → (moment : D → ℕ) → (leaves : D → Left) → ℕ → State → D → D → Option Entry → Stop
    → Type 0
LeavesAs moment leaves base s old new o w =
    StandsFor base (cond (is_kept (moment new - moment old) (how_of w)) (state_with s o) s) (leaves new w)

module _ {D T E : Type 0} (seen : D → Reads) (moment : D → ℕ) (stopped : D → Bool) (leaves : D → Left) (base : ℕ)
    (s t : State) (old new : D) (r : Result T E) where
  pub most : (o : Option Entry) → stopped old ≡ false → stopped new ≡ true
      → Stops seen moment stopped leaves base (listed o) s t old new r → moment new ≤ moment old + commit_calls o
  most None was is so = absurd (opposite (stopped new) (ap stopped so ∙ was) is)
  most (Some e) was is so = ⊎_elim
      (λ (nothing : (new ≡ old) × IsErr r). absurd (opposite (stopped new) (ap stopped nothing.0 ∙ was) is))
      (λ (c : CommitsOrStops seen moment stopped leaves base s t old new r). c.bound)
      so

  pub leaves_as : (o : Option Entry) (w : Stop) → stopped old ≡ false → IsClean seen leaves old → stopped new ≡ true
      → t ≡ state_with s o → Stops seen moment stopped leaves base (listed o) s t old new r
      → LeavesAs moment leaves base s old new o w
  leaves_as None w was rest is so stops = absurd (opposite (stopped new) (ap stopped stops ∙ was) is)
  leaves_as (Some e) w was rest is so stops = ⊎_elim
      (λ (nothing : (new ≡ old) × IsErr r). absurd (opposite (stopped new) (ap stopped nothing.0 ∙ was) is))
      (λ (c : CommitsOrStops seen moment stopped leaves base s t old new r).
      ⊎_elim
      (λ (early : moment new ≤ moment old + 2).
      subst (λ (b : Bool). StandsFor base (cond b (after s e) s) (leaves new w))
      (sym (early_not_kept (moment new - moment old) w (omega (arith, early)))) (c.early is early rest w))
      (λ (late : moment old + 2 + 1 ≤ moment new).
      subst (λ (b : Bool). StandsFor base (cond b (after s e) s) (leaves new w))
      (sym (late_kept (moment new - moment old) w (omega (arith, late))))
      (subst (λ (u : State). StandsFor base (cond (leaves_held w) u s) (leaves new w)) so
      (subst (λ (u : State). StandsFor base u (leaves new w)) (by_way s t w) (c.late is (omega (arith, late)) rest w))))
      (up_to_or_past (moment new) (moment old + 2)))
      stops
