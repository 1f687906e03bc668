-- What images stand for within a line of the server.
use Rattle.std.proofs.Common.{◌≡◌, ℕ, List, Option, Some, None, refl, sym, subst, arith}
use Rattle.std.specs.Prelude.{IsSome}
use Rattle.room_disk.specs.Model.{Reads, Images, WithinWhole, StaysBetween}
use Rattle.room_disk.proofs.Moments.{keeps_same}
use Rattle.room_log.specs.Log.{State, Entry}
use Rattle.room_model.specs.World.{state_in}
use Rattle.room_moves.specs.Moments.{OfFirst}
use Rattle.room_moves.proofs.Moments.{none_comes}
use Rattle.room_replay.specs.Files.{StandsFor}
use Rattle.room_server.specs.Hosted.{Hosted}
use Rattle.room_host.specs.Rests.{IsKept}
use Rattle.room_host.specs.Seen.{host_in, room_files, state_in_files}
use Rattle.room_host.proofs.Keeping.{kept_holds}
use Rattle.room_world.specs.Seen.{Peopled}

-- the state that a host stands for, with what a disk's files stand for
abbrev pub state_at : Option Hosted → Reads → State
state_at o seen = state_in (host_in o (room_files seen))

module _ {D : Type 0} (seen : D → Reads) (moment : D → ℕ) (images : D → Images) where
  -- each image is one at the moment before
  pub at_once : (P : State → Reads → Type 0) (s : State) (es : List Entry) (old new : D)
      → StaysBetween (moment old) (moment new) (images old) (images new) (seen old) (seen new)
      → ((image : Reads) → ((f : ℕ) → images old (moment old) f (image f)) → P s image)
      → WithinWhole moment images old new (OfFirst P s es)
  at_once P s es old new stays have = record {
    later = omega (arith, stays.moment);
    keeps = stays.keeps;
    each = λ m image from till left.
        let at : m ≡ moment old = omega (arith, from, till, stays.moment) in
        none_comes P s es image (have image (λ f.
        stays.keeps.nothing_else (moment old) f (image f) (omega arith)
        (subst (λ (n : ℕ). images new n f (image f)) at (left f))));
  }

  pub unmoved : (old new : D) → new ≡ old
      → StaysBetween (moment old) (moment new) (images old) (images new) (seen old) (seen new)
  unmoved old new same = subst
      (λ (d : D). StaysBetween (moment old) (moment d) (images old) (images d) (seen old) (seen d)) (sym same)
      (record { moment = refl; keeps = keeps_same (moment old) (images old); seen = λ f. refl })

  pub none_within : (s : State) (es : List Entry) (old new : D) → WithinWhole moment images old new (StandsFor 0 s)
      → WithinWhole moment images old new (OfFirst (StandsFor 0) s es)
  none_within s es old new run = record {
    later = run.later;
    keeps = run.keeps;
    each = λ m image from till left. none_comes (StandsFor 0) s es image (run.each m image from till left);
  }

  -- a disk that stays, under a host that is kept
  pub stays_within : (o : Option Hosted) (es : List Entry) (old new : D)
      → ((f : ℕ) → images old (moment old) f (seen old f)) → IsKept (seen old) (images old (moment old)) o
      → StaysBetween (moment old) (moment new) (images old) (images new) (seen old) (seen new)
      → WithinWhole moment images old new (OfFirst (StandsFor 0) (state_at o (seen old)) es)
  stays_within o es old new here kept stays =
      at_once (StandsFor 0) (state_at o (seen old)) es old new stays
      (kept_holds (seen old) (images old (moment old)) o here kept).stands

  -- a call that does nothing where no server runs, and else adds nothing
  pub running_within : (o : Option Hosted) (es : List Entry) (old new : D)
      → ((f : ℕ) → images old (moment old) f (seen old f)) → IsKept (seen old) (images old (moment old)) o
      → (o ≡ None → new ≡ old)
      → ((h : Hosted) → o ≡ Some h → WithinWhole moment images old new (StandsFor 0 h.store.state))
      → WithinWhole moment images old new (OfFirst (StandsFor 0) (state_at o (seen old)) es)
  running_within (Some h) es old new here kept idle runs = none_within h.store.state es old new (runs h refl)
  running_within None es old new here kept idle runs =
      stays_within None es old new here kept (unmoved old new (idle refl))

  -- a call that does nothing where a server runs, and else adds nothing
  pub starting_within : (o : Option Hosted) (es : List Entry) (old new : D)
      → ((f : ℕ) → images old (moment old) f (seen old f)) → IsKept (seen old) (images old (moment old)) o
      → (IsSome o → new ≡ old)
      → (o ≡ None → WithinWhole moment images old new (StandsFor 0 (state_in_files (room_files (seen old)))))
      → WithinWhole moment images old new (OfFirst (StandsFor 0) (state_at o (seen old)) es)
  starting_within (Some h) es old new here kept idle starts =
      stays_within (Some h) es old new here kept (unmoved old new (idle refl))
  starting_within None es old new here kept idle starts =
      none_within (state_in_files (room_files (seen old))) es old new (starts refl)

  -- The same of a world, where the calls speak of its parts.

  pub staying_line : (p : Peopled) (es : List Entry) (d : D) → ((f : ℕ) → images d (moment d) f (seen d f))
      → IsKept (seen d) (images d (moment d)) p.hosting.server
      → WithinWhole moment images d d (OfFirst (StandsFor 0) (state_at p.hosting.server (seen d)) es)
  staying_line p es d here kept = stays_within p.hosting.server es d d here kept (unmoved d d refl)

  pub running_line : (p q : Peopled) (es : List Entry) (old new : D) → p ≡ q
      → ((f : ℕ) → images old (moment old) f (seen old f))
      → IsKept (seen old) (images old (moment old)) p.hosting.server
      → (q.hosting.server ≡ None → new ≡ old)
      → ((h : Hosted) → q.hosting.server ≡ Some h → WithinWhole moment images old new (StandsFor 0 h.store.state))
      → WithinWhole moment images old new (OfFirst (StandsFor 0) (state_at p.hosting.server (seen old)) es)
  running_line p q es old new is here kept idle runs =
      subst (λ (x : Peopled). IsKept (seen old) (images old (moment old)) x.hosting.server
      → WithinWhole moment images old new (OfFirst (StandsFor 0) (state_at x.hosting.server (seen old)) es)) (sym is)
      (λ k. running_within q.hosting.server es old new here k idle runs) kept

  pub starting_line : (p q : Peopled) (es : List Entry) (old new : D) → p ≡ q
      → ((f : ℕ) → images old (moment old) f (seen old f))
      → IsKept (seen old) (images old (moment old)) p.hosting.server
      → (IsSome q.hosting.server → new ≡ old)
      → (q.hosting.server ≡ None
      → WithinWhole moment images old new (StandsFor 0 (state_in_files (room_files (seen old)))))
      → WithinWhole moment images old new (OfFirst (StandsFor 0) (state_at p.hosting.server (seen old)) es)
  starting_line p q es old new is here kept idle starts =
      subst (λ (x : Peopled). IsKept (seen old) (images old (moment old)) x.hosting.server
      → WithinWhole moment images old new (OfFirst (StandsFor 0) (state_at x.hosting.server (seen old)) es)) (sym is)
      (λ k. starting_within q.hosting.server es old new here k idle starts) kept
