-- What a frame puts on the disk, by what it did to the store and the group.
use Rattle.std.proofs.Common.{◌≡◌, ℕ, Bool, List, [], ◌++◌, ap, ◌∙◌, subst}
use Rattle.std.specs.Prelude.{Option, None, Result}
use Rattle.std.specs.Ordering.{nat_cmp}
use Rattle.std.specs.FinMap.{FinMap}
use Rattle.room_disk.specs.Model.{Reads, Images}
use Rattle.room_disk.specs.Stops.{Left}
use Rattle.room_journal.specs.Rest.{Place}
use Rattle.room_log.specs.Log.{State, Entry}
use Rattle.room_model.specs.Server.{Link, Server, Served}
use Rattle.room_store.specs.Stored.{Stored, held, held_state}
use Rattle.room_arrivals.specs.Serving.{server_of, listed, Serves, Keeps}
use Rattle.room_arrivals.specs.declared.draft.Setting.{Setting}
use Rattle.room_arrivals.specs.declared.draft.Draft.{Draft}
use Rattle.room_server.specs.Commit.{Puts, Stops}

module _ (setting : Setting) (s t : Stored) (d e : Draft) (ls : FinMap nat_cmp Link) (step : Server → Served)
    (links : d.links ≡ ls) (nothing : d.group.entries ≡ []) (serves : Serves setting s t d e step) where
  abbrev out : Served
  out = step (server_of s setting ls)

  there : step (server_of s setting d.links) ≡ out
  there = ap (λ (m : FinMap nat_cmp Link). step (server_of s setting m)) links

  entries_are : e.group.entries ≡ listed out.entry
  entries_are =
      serves.2
      ∙ ap (λ (es : List Entry). es ++ listed (step (server_of s setting d.links)).entry) nothing
      ∙ ap (λ (o : Served). listed o.entry) there

  state_is : t.state ≡ out.server.state
  state_is = ap (λ (v : Server). v.state) serves.0 ∙ ap (λ (o : Served). o.server.state) there

  pub no_entry : out.entry ≡ None → e.group.entries ≡ []
  no_entry none = entries_are ∙ ap listed none

  module _ (closed : s.before ≡ None) (keeps : Keeps s t) where
    before_is : held t ≡ s.state
    before_is = keeps.held ∙ ap (λ (o : Option State). held_state o s.state) closed

    pub frame_puts : {D T E : Type 0} (seen : D → Reads) (moment : D → ℕ) (images : D → Images) (q : Place) (old new : D)
        (r : Result T E) → Puts seen moment images t.place q e.group.entries (held t) t.state old new r
        → Puts seen moment images s.place q (listed out.entry) s.state out.server.state old new r
    frame_puts seen moment images q old new r at =
        subst (λ (x : State). Puts seen moment images s.place q (listed out.entry) s.state x old new r) state_is
        (subst (λ (x : State). Puts seen moment images s.place q (listed out.entry) x t.state old new r) before_is
        (subst (λ (es : List Entry). Puts seen moment images s.place q es (held t) t.state old new r) entries_are
        (subst (λ (p : Place). Puts seen moment images p q e.group.entries (held t) t.state old new r) keeps.place at)))

    pub frame_stops : {D T E : Type 0} (seen : D → Reads) (moment : D → ℕ) (stopped : D → Bool) (leaves : D → Left)
        (old new : D) (r : Result T E)
        → Stops seen moment stopped leaves t.place.base e.group.entries (held t) t.state old new r
        → Stops seen moment stopped leaves s.place.base (listed out.entry) s.state out.server.state old new r
    frame_stops seen moment stopped leaves old new r at =
        let b = s.place.base in
        let es = listed out.entry in
        subst (λ (x : State). Stops seen moment stopped leaves b es s.state x old new r) state_is
        (subst (λ (x : State). Stops seen moment stopped leaves b es x t.state old new r) before_is
        (subst (λ (fs : List Entry). Stops seen moment stopped leaves b fs (held t) t.state old new r) entries_are
        (subst (λ (p : Place). Stops seen moment stopped leaves p.base e.group.entries (held t) t.state old new r)
        keeps.place at)))
