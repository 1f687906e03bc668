-- The same answers with other values: what a commit and a compaction do says nothing of them but whether they are Ok.
use Rattle.std.proofs.Common.{◌≡◌, ℕ, Bool, sym, subst}
use Rattle.std.specs.Prelude.{Result, Ok, Err}
use Rattle.room_disk.specs.Model.{Reads, Images}
use Rattle.room_disk.specs.Stops.{Left}
use Rattle.room_journal.specs.Rest.{Place}
use Rattle.room_log.specs.Log.{State}
use Rattle.room_store.specs.Calls.{Commits, CommitsOrStops, Compacts}

module _ {D T U E F : Type 0} (seen : D → Reads) (moment : D → ℕ) (images : D → Images) (p q : Place) (s t : State)
    (old new : D) where
  pub commits_ok : (x : T) (y : U) → Commits {T = T} {E = E} seen moment images p q s t old new (Ok x)
      → Commits {T = U} {E = F} seen moment images p q s t old new (Ok y)
  commits_ok x y c = record {
    settled = c.settled;
    counted = c.counted;
    any_moment = c.any_moment;
    others = c.others;
    elsewhere = c.elsewhere;
    bound = c.bound;
    written = c.written;
    same = c.same;
    added = c.added;
  }

  pub commits_err : (e : E) (f : F) → Commits {T = T} {E = E} seen moment images p q s t old new (Err e)
      → Commits {T = U} {E = F} seen moment images p q s t old new (Err f)
  commits_err e f c = record {
    settled = c.settled;
    counted = c.counted;
    any_moment = c.any_moment;
    others = c.others;
    elsewhere = c.elsewhere;
    bound = c.bound;
    written = c.written;
    same = c.same;
    added = c.added;
  }

  pub compacts_ok : (r : Result T E) (z : Result U F) (x : T) (y : U) → r ≡ Ok x → z ≡ Ok y
      → Compacts seen moment images p q s old new r → Compacts seen moment images p q s old new z
  compacts_ok r z x y is to at =
      let c = subst (λ (o : Result T E). Compacts seen moment images p q s old new o) is at in
      subst (λ (o : Result U F). Compacts seen moment images p q s old new o) (sym to) (record {
        settled = c.settled;
        counted = c.counted;
        next = c.next;
        last = c.last;
        any_moment = c.any_moment;
        others = c.others;
        elsewhere = c.elsewhere;
        bound = c.bound;
        written = c.written;
      })

  pub compacts_err : (r : Result T E) (z : Result U F) (x : E) (y : F) → r ≡ Err x → z ≡ Err y
      → Compacts seen moment images p q s old new r → Compacts seen moment images p q s old new z
  compacts_err r z x y is to at =
      let c = subst (λ (o : Result T E). Compacts seen moment images p q s old new o) is at in
      subst (λ (o : Result U F). Compacts seen moment images p q s old new o) (sym to) (record {
        settled = c.settled;
        counted = c.counted;
        next = c.next;
        last = c.last;
        any_moment = c.any_moment;
        others = c.others;
        elsewhere = c.elsewhere;
        bound = c.bound;
        written = c.written;
      })

module _ {D T U E F : Type 0} (seen : D → Reads) (moment : D → ℕ) (stopped : D → Bool) (leaves : D → Left) (base : ℕ)
    (s t : State) (old new : D) where
  pub stops_ok : (x : T) (y : U) → CommitsOrStops {T = T} {E = E} seen moment stopped leaves base s t old new (Ok x)
      → CommitsOrStops {T = U} {E = F} seen moment stopped leaves base s t old new (Ok y)
  stops_ok x y c = record { early = c.early; late = c.late; fails = c.fails; clean = c.clean; bound = c.bound }

  pub stops_err : (e : E) (f : F) → CommitsOrStops {T = T} {E = E} seen moment stopped leaves base s t old new (Err e)
      → CommitsOrStops {T = U} {E = F} seen moment stopped leaves base s t old new (Err f)
  stops_err e f c = record { early = c.early; late = c.late; fails = c.fails; clean = c.clean; bound = c.bound }
