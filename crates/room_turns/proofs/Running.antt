-- Turns one after the other.
use Rattle.std.proofs.Common.{◌≡◌, ◌≤◌, ◌<◌, ◌+◌, ℕ, true, List, [], ◌∷◌, ◌++◌, length, refl, sym, ap}
use Rattle.std.proofs.Common.{◌∙◌, subst, arith, length-append, ◌⊎◌, inl, inr, ⊎_elim, Some, None}
use Rattle.std.proofs.Math.Nat.{le_trans}
use Rattle.std.proofs.lemmas.Bool.{cases_lt}
use Rattle.std.specs.Prelude.{Result, Ok, Err, IsErrOf}
use Rattle.room_disk.specs.Model.{Reads, Images, Keeps, WithinWhole}
use Rattle.room_disk.proofs.Moments.{whole_then}
use Rattle.room_host.specs.Rests.{Each}
use Rattle.room_hub.specs.declared.hub.Event.{Event}
use Rattle.room_hub.specs.declared.hub.Happening.{Happening}
use Rattle.room_log.specs.Log.{State, Entry, state_after}
use Rattle.room_model.specs.Server.{Server}
use Rattle.room_replay.specs.Files.{StandsFor}
use Rattle.room_serving.specs.Serving as serving
use Rattle.room_serving.specs.Serving.{Serving, Serves, Ending, group_of, served, does_turn, is_asking, is_over}
use Rattle.room_serving.specs.Turns.{turned, is_round}
use Rattle.room_turns.specs.Ending.{ending_in}
use Rattle.room_turns.specs.Faults.{IsOfTurn}
use Rattle.room_turns.specs.Holding.{StandsWithin, IsCompacted, WasLast, after_turns, calls_in}
use Rattle.room_turns.specs.Parts.{gathering, trying, Leads, Begins}
use Rattle.room_turns.specs.Serves.{IsDone, Served}
use Rattle.room_turns.specs.Turning.{TurnDone, TurnStopped, Turns}
use Rattle.room_turns.specs.declared.ended.Ended.{Ended}
use Rattle.room_turns.specs.declared.fault.ServeFault.{ServeFault}
use Rattle.room_turns.specs.declared.fault.ServeFault.TheVariants.{Memory, Disk, Hub, Damaged}
use Rattle.room_turns.proofs.Happening.{leads_none, leads_then, serves_then, served_from, midway_from, appended}
use Rattle.room_turns.proofs.Standing.{stands_more, stands_less, stands_all, whole_map, whole_none}

-- more turns want no fewer calls
calls_grow : (s : State) (gs hs : List (List Entry)) → calls_in s gs ≤ calls_in s (gs ++ hs)
calls_grow s [] hs = omega arith
calls_grow s (g ∷ gs) hs = let rest = calls_grow (state_after s g) gs hs in omega (arith, rest)

some_same : (a b : Ending) → Some a ≡ Some b → a ≡ b
some_same a b e = cc e

none_some : (e : Ending) → None ≡ Some e → ⊥
none_some e h = cc

-- a fault of a turn ends nothing
pub no_ending : (f : ServeFault) (e : Ending) → IsOfTurn f → ending_in (Err f) ≡ Some e → ⊥
no_ending Memory e of h = none_some e h
no_ending Disk e of h = none_some e h
no_ending Hub e of h = of
no_ending (Damaged f at) e of h = of

module _ {D : Type 0} (seen : D → Reads) (moment : D → ℕ) (images : D → Images) (s : State) (v : Server) (turns : ℕ) where
  abbrev pub start : Serving
  start = gathering v turns serving.GoesOn [] [] 0

  -- some turns were done, and the disk holds them
  pub record SoFar (was is : List Happening) (old new : D) (left : ℕ) (ending : Ending) (u : Server) : Type 0 where
    pub groups : List (List Entry)
    pub owed : ℕ
    pub few : owed ≤ length groups
    pub leads : Leads start was is (gathering u left ending [] groups owed)
    pub moments : WithinWhole moment images old new (StandsWithin s groups 0)
    pub calls : moment new ≡ moment old + calls_in s groups
    pub state : after_turns s groups ≡ u.state
    pub compacted : (n : ℕ) → s.count < n → n ≤ u.state.count → is_round n ≡ true
        → IsCompacted (seen new) n ⊎ WasLast (images new) (moment old) (moment new)

  plus_none : (n : ℕ) → n ≡ n + 0
  plus_none n = omega arith

  pub so_first : (was : List Happening) (d : D) → s ≡ v.state → Each (images d (moment d)) (StandsFor 0 v.state)
      → SoFar was was d d turns serving.GoesOn v
  so_first was d is holds = record {
    groups = [];
    owed = 0;
    few = omega arith;
    leads = leads_none start was was refl;
    moments =
        whole_none (moment d) (images d) (StandsWithin s [] 0)
        (λ image at. stands_all s [] v.state image is (holds image at));
    calls = plus_none (moment d);
    state = is;
    compacted = λ n low most round.
        absurd (omega (arith, low, subst (λ (z : State). n ≤ z.count) (sym is) most));
  }

  -- a moment of some calls is one of more

  carried : (old mid new : D) {R : Reads → Type 0} → WithinWhole moment images mid new R
      → WasLast (images mid) (moment old) (moment mid) → WasLast (images new) (moment old) (moment new)
  carried old mid new run w = record {
    moment = w.moment;
    since = w.since;
    until = le_trans w.until run.later;
    image = w.image;
    left = λ f. run.keeps.kept w.moment f (w.image f) w.until (w.left f);
    last = w.last;
  }

  widened : (old mid new : D) → moment old ≤ moment mid → WasLast (images new) (moment mid) (moment new)
      → WasLast (images new) (moment old) (moment new)
  widened old mid new late w = record {
    moment = w.moment;
    since = le_trans late w.since;
    until = w.until;
    image = w.image;
    left = w.left;
    last = w.last;
  }

  -- one turn more
  module _ (was so at is : List Happening) (old mid new : D) (before left : ℕ) (ending : Ending) (u w : Server)
      (es : List Event) (t : SoFar was so old mid before serving.GoesOn u) where
    abbrev later : List (List Entry)
    later = t.groups ++ group_of (turned u es).entries

    abbrev tried : Serving
    tried = trying (turned u es).server left ending (turned u es).outs [] later t.owed

    gathered : Leads (gathering u before serving.GoesOn [] t.groups t.owed) so at
        (does_turn (gathering u left ending es t.groups t.owed)) → Leads start was at tried
    gathered more =
        leads_then start (gathering u before serving.GoesOn [] t.groups t.owed) tried was so at t.leads more

    both_moments : WithinWhole moment images mid new (StandsWithin s later 0)
        → WithinWhole moment images old new (StandsWithin s later 0)
    both_moments run =
        whole_then (moment old) (moment mid) (moment new) (images old) (images mid) (images new) (StandsWithin s later 0)
        (whole_map (moment old) (moment mid) (images old) (images mid) _ _
        (λ image h. stands_more s t.groups (group_of (turned u es).entries) 0 image h) t.moments) run

    few_later : t.owed ≤ length later
    few_later = omega (arith, t.few, length-append t.groups (group_of (turned u es).entries))

    pub so_next : {T : Type 0} (x : T)
        → Leads (gathering u before serving.GoesOn [] t.groups t.owed) so at
        (does_turn (gathering u left ending es t.groups t.owed))
        → Turns {T = T} seen moment images s (turned u es) left ending t.groups t.owed at is u w mid new (Ok x)
        → SoFar was is old new left ending w
    so_next {T = T} x more did =
        let done : TurnDone seen moment images s (turned u es) left ending t.groups t.owed at is u w mid new = did.ends in
        record {
          groups = later;
          owed = done.settles.now;
          few = done.settles.most few_later;
          leads =
              leads_then start tried (gathering w left ending [] later done.settles.now) was at is (gathered more)
              done.settles.leads;
          moments = both_moments did.moments;
          calls = done.calls (moment old) t.calls;
          state = done.state;
          compacted = λ n low most round. ⊎_elim
              (λ (above : u.state.count < n). ⊎_elim
              (λ (h : IsCompacted (seen new) n). inl h)
              (λ (h : WasLast (images new) (moment mid) (moment new)).
              inr (widened old mid new t.moments.later h))
              (done.compacted n most round (λ below. absurd (omega (arith, above, below)))))
              (λ (below : n ≤ u.state.count). ⊎_elim
              (λ (have : IsCompacted (seen mid) n). ⊎_elim
              (λ (h : IsCompacted (seen new) n). inl h)
              (λ (h : WasLast (images new) (moment mid) (moment new)).
              inr (widened old mid new t.moments.later h))
              (done.compacted n most round (λ _. have)))
              (λ (h : WasLast (images mid) (moment old) (moment mid)). inr (carried old mid new did.moments h))
              (t.compacted n low below round))
              (cases_lt u.state.count n);
        }

    pub keeps_next : {T : Type 0} (r : Result T ServeFault)
        → Turns {T = T} seen moment images s (turned u es) left ending t.groups t.owed at is u w mid new r
        → Keeps (moment old) (images old) (images new)
    keeps_next r did = (both_moments did.moments).keeps

    -- a turn that ended it
    pub stopped : {T : Type 0} (f : ServeFault) → IsOfTurn f
        → Leads (gathering u before serving.GoesOn [] t.groups t.owed) so at
        (does_turn (gathering u left ending es t.groups t.owed))
        → Turns {T = T} seen moment images s (turned u es) left ending t.groups t.owed at is u w mid new (Err f)
        → Served s start was is (seen new) (images new) (moment old) (moment old) (moment new) (Err f)
    stopped {T = T} f of more did =
        let a = gathered more in
        let ends : TurnStopped {T = T} moment images s (turned u es) left ending t.groups t.owed at is new (Err f) =
        did.ends in
        let b = ends.stops.begins in
        let run = both_moments did.moments in
        let end_is : served start (a.happened ++ b.happened) ≡ served tried b.happened =
        served_from start tried a.happened b.happened a.leads in
        let groups_are : (served start (a.happened ++ b.happened)).groups ≡ later ++ b.more =
        ap (λ (z : Serving). z.groups) end_is ∙ b.groups in
        let owed_is : (served start (a.happened ++ b.happened)).owed ≡ (served tried b.happened).owed =
        ap (λ (z : Serving). z.owed) end_is in
        record {
          happened = a.happened ++ b.happened;
          happened_is = appended was at is a.happened b.happened a.happened_is b.happened_is;
          serves =
              serves_then start a.happened b.happened a.serves
              (subst (λ (z : Serving). Serves z b.happened) (sym a.leads) b.serves);
          stands = λ m image from till left_of.
              subst (λ (gs : List (List Entry)). StandsWithin s gs 0 image) (sym groups_are)
              (stands_more s later b.more 0 image (run.each m image from till left_of));
          holds = λ image left_of.
              subst
              (λ (n : ℕ). StandsWithin s (served start (a.happened ++ b.happened)).groups n image) (sym owed_is)
              (subst (λ (gs : List (List Entry)). StandsWithin s gs (served tried b.happened).owed image)
              (sym groups_are)
              (stands_more s later b.more (served tried b.happened).owed image (ends.holds image left_of)));
          later = run.later;
          calls =
              subst (λ (gs : List (List Entry)). moment new ≤ moment old + calls_in s gs) (sym groups_are)
              (at_most (moment new) (moment old) later b.more (did.bound (moment old) t.calls));
          unbroken = λ is_disk.
              midway_from start tried a.happened b.happened a.leads a.unbroken ∙ ends.stops.unbroken (same_disk is_disk);
          done = λ e h. absurd (no_ending f e of h);
        }
      where
        at_most : (now before : ℕ) (gs hs : List (List Entry)) → now ≤ before + calls_in s gs
            → now ≤ before + calls_in s (gs ++ hs)
        at_most now before gs hs h = omega (arith, h, calls_grow s gs hs)

        same_disk : IsErrOf {T = Ended} (Err f) Disk → IsErrOf {T = T} (Err f) Disk
        same_disk h = cc h

  -- out of memory while events are gathered
  pub not_gathered : (was so is : List Happening) (old new : D) (left : ℕ) (u : Server)
      → (t : SoFar was so old new left serving.GoesOn u) → Each (images new (moment new)) (StandsFor 0 u.state)
      → Begins (gathering u left serving.GoesOn [] t.groups t.owed) so is
      → Served s start was is (seen new) (images new) (moment old) (moment old) (moment new) (Err Memory)
  not_gathered was so is old new left u t holds b =
      let a = t.leads in
      let n = gathering u left serving.GoesOn [] t.groups t.owed in
      let end_is : served start (a.happened ++ b.happened) ≡ served n b.happened =
      served_from start n a.happened b.happened a.leads in
      let groups_are : (served start (a.happened ++ b.happened)).groups ≡ t.groups ++ b.more =
      ap (λ (z : Serving). z.groups) end_is ∙ b.groups in
      let owed_is : (served start (a.happened ++ b.happened)).owed ≡ (served n b.happened).owed =
      ap (λ (z : Serving). z.owed) end_is in
      record {
        happened = a.happened ++ b.happened;
        happened_is = appended was so is a.happened b.happened a.happened_is b.happened_is;
        serves =
            serves_then start a.happened b.happened a.serves
            (subst (λ (z : Serving). Serves z b.happened) (sym a.leads) b.serves);
        stands = λ m image from till left_of.
            subst (λ (gs : List (List Entry)). StandsWithin s gs 0 image) (sym groups_are)
            (stands_more s t.groups b.more 0 image (t.moments.each m image from till left_of));
        holds = λ image left_of.
            subst
            (λ (k : ℕ). StandsWithin s (served start (a.happened ++ b.happened)).groups k image) (sym owed_is)
            (subst (λ (gs : List (List Entry)). StandsWithin s gs (served n b.happened).owed image) (sym groups_are)
            (stands_more s t.groups b.more (served n b.happened).owed image
            (stands_less s t.groups (length t.groups) (served n b.happened).owed image (b.owed t.few)
            (stands_all s t.groups u.state image t.state (holds image left_of)))));
        later = t.moments.later;
        calls =
            subst (λ (gs : List (List Entry)). moment new ≤ moment old + calls_in s gs) (sym groups_are)
            (at_most (moment new) (moment old) t.groups b.more t.calls);
        unbroken = λ h. absurd (not_disk h);
        done = λ e h. absurd (none_some e h);
      }
    where
      at_most : (now before : ℕ) (gs hs : List (List Entry)) → now ≡ before + calls_in s gs
          → now ≤ before + calls_in s (gs ++ hs)
      at_most now before gs hs h = omega (arith, h, calls_grow s gs hs)

      not_disk : IsErrOf {T = Ended} (Err Memory) Disk → ⊥
      not_disk h = cc

  -- all is done
  pub finished : (was is : List Happening) (old new : D) (left : ℕ) (ending : Ending) (u : Server)
      (r : Result Ended ServeFault) → (t : SoFar was is old new left ending u)
      → Each (images new (moment new)) (StandsFor 0 u.state)
      → is_over (gathering u left ending [] t.groups t.owed) ≡ true → ending_in r ≡ Some ending
      → Served s start was is (seen new) (images new) (moment old) (moment old) (moment new) r
  finished was is old new left ending u r t holds over ends =
      let a = t.leads in
      let n = gathering u left ending [] t.groups t.owed in
      record {
        happened = a.happened;
        happened_is = a.happened_is;
        serves = a.serves;
        stands = λ m image from till left_of.
            subst (λ (z : Serving). StandsWithin s z.groups 0 image) (sym a.leads)
            (t.moments.each m image from till left_of);
        holds = λ image left_of.
            subst (λ (z : Serving). StandsWithin s z.groups z.owed image) (sym a.leads)
            (stands_less s t.groups (length t.groups) t.owed image t.few
            (stands_all s t.groups u.state image t.state (holds image left_of)));
        later = t.moments.later;
        calls =
            subst (λ (z : Serving). moment new ≤ moment old + calls_in s z.groups) (sym a.leads)
            (most (moment new) (moment old) (calls_in s t.groups) t.calls);
        unbroken = λ h. a.unbroken;
        done = λ e h.
            subst (λ (z : Serving). IsDone s z e (seen new) (images new) (moment old) (moment new)) (sym a.leads)
            (record {
              over = over;
              ending = some_same ending e (sym ends ∙ h);
              calls = t.calls;
              compacted = t.compacted;
            });
      }
    where
      most : (now before k : ℕ) → now ≡ before + k → now ≤ before + k
      most now before k h = omega (arith, h)

  pub over_ended : (u : Server) (left : ℕ) (groups : List (List Entry)) (owed : ℕ)
      → is_over (gathering u left serving.Ended [] groups owed) ≡ true
  over_ended u left groups owed = refl

  pub over_missed : (u : Server) (left : ℕ) (groups : List (List Entry)) (owed : ℕ)
      → is_over (gathering u left serving.Missed [] groups owed) ≡ true
  over_missed u left groups owed = refl

  pub over_turns : (u : Server) (left : ℕ) (groups : List (List Entry)) (owed : ℕ) → left ≡ 0
      → is_over (gathering u left serving.GoesOn [] groups owed) ≡ true
  over_turns u left groups owed e =
      ap (λ (n : ℕ). is_over (gathering u n serving.GoesOn [] groups owed)) e
