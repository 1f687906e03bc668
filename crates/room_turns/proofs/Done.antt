-- A turn: its commit, what is tried, and a compaction.
use Rattle.std.proofs.Common.{◌≡◌, ◌≤◌, ◌<◌, ◌+◌, ℕ, true, List, [], ◌++◌, length, refl, sym, ap, ◌∙◌, subst}
use Rattle.std.proofs.Common.{arith, append-nil, length-append, ◌⊎◌, inl, inr, ⊎_elim}
use Rattle.std.proofs.lemmas.Bool.{cases_lt}
use Rattle.std.specs.Prelude.{Result, Ok, Err, OnOk}
use Rattle.room_disk.specs.Model.{Reads, Images, WithinWhole}
use Rattle.room_disk.proofs.Moments.{whole_then}
use Rattle.room_host.specs.Rests.{Each}
use Rattle.room_hub.specs.declared.hub.Event.{Event}
use Rattle.room_hub.specs.declared.hub.Happening.{Happening}
use Rattle.room_log.specs.Log.{State, Entry, state_after, updates_of}
use Rattle.room_model.specs.Server.{Server}
use Rattle.room_replay.specs.Files.{StandsFor}
use Rattle.room_serving.specs.Serving.{Serving, Ending, group_of, served}
use Rattle.room_serving.specs.Turns.{Turned, turned, is_round}
use Rattle.room_turns.specs.Holding.{StandsWithin, IsCompacted, IsLast, WasLast, after_turns, calls_in}
use Rattle.room_turns.specs.Parts.{trying, Stops}
use Rattle.room_turns.specs.Turning.{CommitsTurn, Settles, TurnDone, TurnStopped, TurnEnds, Turns, commit_calls, compact_calls}
use Rattle.room_turns.specs.declared.fault.ServeFault.{ServeFault}
use Rattle.room_turns.proofs.Calls.{calls_more}
use Rattle.room_turns.proofs.Standing.{stands_less, stands_all, whole_map, after_more}
use Rattle.room_turns.proofs.Turned.{turned_state, turned_count}

module _ {D : Type 0} (seen : D → Reads) (moment : D → ℕ) (images : D → Images) (s : State) (v : Server)
    (es : List Event) (left : ℕ) (ending : Ending) (groups : List (List Entry)) (owed : ℕ) where
  abbrev pub out : Turned
  out = turned v es

  abbrev pub later : List (List Entry)
  later = groups ++ group_of out.entries

  abbrev pub start : Serving
  start = trying out.server left ending out.outs [] later owed

  led : after_turns s groups ≡ v.state → after_turns s later ≡ out.server.state
  led is =
      after_more s groups out.entries ∙ ap (λ (u : State). state_after u out.entries) is ∙ sym (turned_state v es)

  few_later : owed ≤ length groups → owed ≤ length later
  few_later few = omega (arith, few, length-append groups (group_of out.entries))

  -- calls

  total : after_turns s groups ≡ v.state
      → calls_in s later
      ≡ calls_in s groups + (commit_calls out.entries + compact_calls v.state.count (length (updates_of out.entries)))
  total is =
      calls_more s groups out.entries
      ∙ ap (λ (u : State). calls_in s groups
      + (commit_calls out.entries + compact_calls u.count (length (updates_of out.entries)))) is

  commit_most : (from before now : ℕ) → after_turns s groups ≡ v.state → before ≡ from + calls_in s groups
      → now ≤ before + commit_calls out.entries → now ≤ from + calls_in s later
  commit_most from before now is at most = omega (arith, total is, at, most)

  both_most : (from before mid now : ℕ) → after_turns s groups ≡ v.state → before ≡ from + calls_in s groups
      → mid ≡ before + commit_calls out.entries
      → now ≤ mid + compact_calls v.state.count (length (updates_of out.entries)) → now ≤ from + calls_in s later
  both_most from before mid now is at first most = omega (arith, total is, at, first, most)

  both_just : (from before mid now : ℕ) → after_turns s groups ≡ v.state → before ≡ from + calls_in s groups
      → mid ≡ before + commit_calls out.entries
      → now ≡ mid + compact_calls v.state.count (length (updates_of out.entries)) → now ≡ from + calls_in s later
  both_just from before mid now is at first just = omega (arith, total is, at, first, just)

  -- images

  loosely : (old new : D) → WithinWhole moment images old new (StandsWithin s later (length groups))
      → WithinWhole moment images old new (StandsWithin s later 0)
  loosely old new run =
      whole_map (moment old) (moment new) (images old) (images new) _ _
      (λ image h. stands_less s later (length groups) 0 image (omega arith) h) run

  -- the commit failed

  stopped_first : {T U : Type 0} (was : List Happening) (old new : D) (e : ServeFault) (f : ServeFault)
      → owed ≤ length groups → CommitsTurn {T = T} moment images s groups out.entries old new (Err e)
      → TurnStopped {T = U} moment images s out left ending groups owed was was new (Err f)
  stopped_first {T = T} {U = U} was old new e f few made = record {
    stops = record {
      begins = record {
        happened = [];
        happened_is = sym (append-nil was);
        serves = tt;
        more = [];
        groups = sym (append-nil later);
        owed = λ h. h;
      };
      unbroken = λ _. refl;
    };
    holds = λ image at.
        stands_less s later (length groups) owed image few
        (made.moments.each (moment new) image made.moments.later (omega arith) at);
  }

  pub turn_first : {T U : Type 0} (was : List Happening) (u : Server) (old new : D) (e : ServeFault) (f : ServeFault)
      → after_turns s groups ≡ v.state → owed ≤ length groups
      → CommitsTurn {T = T} moment images s groups out.entries old new (Err e)
      → Turns {T = U} seen moment images s out left ending groups owed was was v u old new (Err f)
  turn_first {T = T} {U = U} was u old new e f is few made = record {
    moments = loosely old new made.moments;
    bound = λ from at. commit_most from (moment old) (moment new) is at made.bound;
    ends = stopped_first {T = T} {U = U} was old new e f few made;
  }

  -- the trying ended it

  pub turn_tried : {T U : Type 0} (was is : List Happening) (u : Server) (old new : D) (x : T) (f : ServeFault)
      → after_turns s groups ≡ v.state → owed ≤ length groups
      → CommitsTurn {T = T} moment images s groups out.entries old new (Ok x)
      → Each (images new (moment new)) (StandsFor 0 out.server.state) → Stops {T = U} start was is (Err f)
      → Turns {T = U} seen moment images s out left ending groups owed was is v u old new (Err f)
  turn_tried {T = T} {U = U} was is u old new x f led_to few made holds stops = record {
    moments = loosely old new made.moments;
    bound = λ from at. commit_most from (moment old) (moment new) led_to at made.bound;
    ends = record {
      stops = stops;
      holds = λ image at.
          stands_less s later (length later) (served start stops.begins.happened).owed image
          (stops.begins.owed (few_later few))
          (stands_all s later out.server.state image (led led_to) (holds image at));
    };
  }

  -- it was compacted, or wasn't

  was_last : (old mid new : D) → moment old ≤ moment mid
      → ((f : ℕ) → images mid (moment mid) f (seen mid f))
      → {R : Reads → Type 0} → WithinWhole moment images mid new R → IsLast (seen mid)
      → WasLast (images new) (moment old) (moment new)
  was_last old mid new late here run last = record {
    moment = moment mid;
    since = late;
    until = run.later;
    image = seen mid;
    left = λ f. run.keeps.kept (moment mid) f (seen mid f) (omega arith) (here f);
    last = last;
  }

  -- what is known of the compaction
  pub record Compacts {U : Type 0} (mid new : D) (r : Result U ServeFault) : Type 0 where
    pub moments : WithinWhole moment images mid new (StandsFor 0 out.server.state)
    pub counted : OnOk r (moment new ≡ moment mid + compact_calls v.state.count (length (updates_of out.entries)))
    pub bound : moment new ≤ moment mid + compact_calls v.state.count (length (updates_of out.entries))
    pub compacted : (n : ℕ) → n ≤ v.state.count + length (updates_of out.entries)
        → IsCompacted (seen mid) n ⊎ ((v.state.count < n) × (is_round n ≡ true))
        → OnOk r (IsCompacted (seen new) n ⊎ IsLast (seen mid))

  module _ (was is : List Happening) (u : Server) (old mid new : D) (led_to : after_turns s groups ≡ v.state)
      (few : owed ≤ length groups) (settles : Settles out.server left ending out.outs later owed was is u)
      (state : u.state ≡ out.server.state) where
    done : {T U : Type 0} (x : T) (y : U) → CommitsTurn {T = T} moment images s groups out.entries old mid (Ok x)
        → ((f : ℕ) → images mid (moment mid) f (seen mid f))
        → ((n : ℕ) → IsCompacted (seen old) n → IsCompacted (seen mid) n) → Compacts {U = U} mid new (Ok y)
        → TurnDone seen moment images s out left ending groups owed was is v u old new
    done {T = T} {U = U} x y made here keeps compact = record {
      settles = settles;
      state = led led_to ∙ sym state;
      calls = λ from at. both_just from (moment old) (moment mid) (moment new) led_to at made.counted compact.counted;
      compacted = λ n most round before.
          let counted : n ≤ v.state.count + length (updates_of out.entries) =
          subst (λ (k : ℕ). n ≤ k) (ap (λ (z : State). z.count) state ∙ turned_count v es) most in
          let had : IsCompacted (seen mid) n ⊎ ((v.state.count < n) × (is_round n ≡ true)) =
          ⊎_elim (λ (above : v.state.count < n). inr (above, round))
          (λ (below : n ≤ v.state.count). inl (keeps n (before below))) (cases_lt v.state.count n) in
          ⊎_elim (λ (h : IsCompacted (seen new) n). inl h)
          (λ (h : IsLast (seen mid)). inr (was_last old mid new made.moments.later here compact.moments h))
          (compact.compacted n counted had);
    }

    compact_stops : {T U : Type 0} (x : T) (f : ServeFault)
        → Compacts {U = U} mid new (Err f)
        → TurnStopped {T = U} moment images s out left ending groups owed was is new (Err f)
    compact_stops {T = T} {U = U} x f compact = record {
      stops = record {
        begins = record {
          happened = settles.leads.happened;
          happened_is = settles.leads.happened_is;
          serves = settles.leads.serves;
          more = [];
          groups = ap (λ (z : Serving). z.groups) settles.leads.leads ∙ sym (append-nil later);
          owed = λ most.
              subst (λ (z : Serving). z.owed ≤ length later) (sym settles.leads.leads) (settles.most most);
        };
        unbroken = λ _. settles.leads.unbroken;
      };
      holds = λ image at.
          stands_less s later (length later) (served start settles.leads.happened).owed image
          (subst (λ (z : Serving). z.owed ≤ length later) (sym settles.leads.leads) (settles.most (few_later few)))
          (stands_all s later out.server.state image (led led_to)
          (compact.moments.each (moment new) image compact.moments.later (omega arith) at));
    }

    ends_by : {T U : Type 0} (x : T) (r : Result U ServeFault)
        → CommitsTurn {T = T} moment images s groups out.entries old mid (Ok x)
        → ((f : ℕ) → images mid (moment mid) f (seen mid f))
        → ((n : ℕ) → IsCompacted (seen old) n → IsCompacted (seen mid) n) → Compacts {U = U} mid new r
        → TurnEnds {T = U} seen moment images s out left ending groups owed was is v u old new r
    ends_by {T = T} {U = U} x (Ok y) made here keeps compact = done {T = T} {U = U} x y made here keeps compact
    ends_by {T = T} {U = U} x (Err f) made here keeps compact = compact_stops {T = T} {U = U} x f compact

    pub turn_done : {T U : Type 0} (x : T) (r : Result U ServeFault)
        → CommitsTurn {T = T} moment images s groups out.entries old mid (Ok x)
        → ((f : ℕ) → images mid (moment mid) f (seen mid f))
        → ((n : ℕ) → IsCompacted (seen old) n → IsCompacted (seen mid) n) → Compacts {U = U} mid new r
        → Turns {T = U} seen moment images s out left ending groups owed was is v u old new r
    turn_done {T = T} {U = U} x r made here keeps compact = record {
      moments =
          whole_then (moment old) (moment mid) (moment new) (images old) (images mid) (images new) (StandsWithin s later 0)
          (loosely old mid made.moments)
          (whole_map (moment mid) (moment new) (images mid) (images new) _ _
          (λ image h. stands_less s later (length later) 0 image (omega arith)
          (stands_all s later out.server.state image (led led_to) h)) compact.moments);
      bound = λ from at.
          both_most from (moment old) (moment mid) (moment new) led_to at made.counted compact.bound;
      ends = ends_by {T = T} {U = U} x r made here keeps compact;
    }
