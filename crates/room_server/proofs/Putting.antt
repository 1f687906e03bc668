-- What a commit does to the disk, by the entries of its group.
use Rattle.std.proofs.Common.{◌≡◌, inl, inr, ℕ, Bool, List, [], ◌∷◌, refl, sym, subst}
use Rattle.std.specs.Prelude.{Option, Some, None, Result, IsErr}
use Rattle.room_disk.specs.Model.{Reads, Images}
use Rattle.room_disk.specs.Stops.{Left}
use Rattle.room_journal.specs.Rest.{Place}
use Rattle.room_log.specs.Log.{State, Entry}
use Rattle.room_store.specs.Calls.{Commits, CommitsOrStops}
use Rattle.room_store.specs.Stored.{Grouped, IsOpenFrom, held_state}
use Rattle.room_server.specs.Commit.{Puts, Stops}
use Rattle.room_server.proofs.Groups.{not_empty}

module _ {D T E : Type 0} (seen : D → Reads) (moment : D → ℕ) (images : D → Images) (p q : Place) (old new : D)
    (r : Result T E) where
  by_entries : (s t : State) (es : List Entry) → (es ≡ [] → ⊥) → Commits seen moment images p q s t old new r
      → Puts seen moment images p q es s t old new r
  by_entries s t [] some is = absurd (some refl)
  by_entries s t (e ∷ es) some is = inr is

  pub puts : (o : Option State) (shown : State) (g : Grouped) → IsOpenFrom o shown g → (o ≡ None → new ≡ old)
      → ((s : State) → o ≡ Some s → Commits seen moment images p q s shown old new r)
      → Puts seen moment images p q g.entries (held_state o shown) shown old new r
  puts None shown g is none some =
      subst (λ (es : List Entry). Puts seen moment images p q es shown shown old new r) (sym is) (none refl)
  puts (Some s) shown g is none some = by_entries s shown g.entries (not_empty s shown g is) (some s refl)

  -- a call that fails before its first call of the disk
  pub puts_nothing : (s t : State) (es : List Entry) → new ≡ old → IsErr r → Puts seen moment images p q es s t old new r
  puts_nothing s t [] same fails = same
  puts_nothing s t (e ∷ es) same fails = inl (same, fails)

module _ {D T E : Type 0} (seen : D → Reads) (moment : D → ℕ) (stopped : D → Bool) (leaves : D → Left) (base : ℕ)
    (old new : D) (r : Result T E) where
  stops_by_entries : (s t : State) (es : List Entry) → (es ≡ [] → ⊥)
      → CommitsOrStops seen moment stopped leaves base s t old new r
      → Stops seen moment stopped leaves base es s t old new r
  stops_by_entries s t [] some is = absurd (some refl)
  stops_by_entries s t (e ∷ es) some is = inr is

  pub stops : (o : Option State) (shown : State) (g : Grouped) → IsOpenFrom o shown g → (o ≡ None → new ≡ old)
      → ((s : State) → o ≡ Some s → CommitsOrStops seen moment stopped leaves base s shown old new r)
      → Stops seen moment stopped leaves base g.entries (held_state o shown) shown old new r
  stops None shown g is none some =
      subst (λ (es : List Entry). Stops seen moment stopped leaves base es shown shown old new r) (sym is) (none refl)
  stops (Some s) shown g is none some = stops_by_entries s shown g.entries (not_empty s shown g is) (some s refl)

  pub stops_nothing : (s t : State) (es : List Entry) → new ≡ old → IsErr r
      → Stops seen moment stopped leaves base es s t old new r
  stops_nothing s t [] same fails = same
  stops_nothing s t (e ∷ es) same fails = inl (same, fails)
