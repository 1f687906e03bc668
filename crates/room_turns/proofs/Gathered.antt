-- Events are gathered into a turn.
use Rattle.std.proofs.Common.{◌≡◌, ◌≤◌, ◌<◌, ◌-◌, ◌==◌, ℕ, suc, Bool, true, false, cond, ◌||◌, nat_lt, nat_le}
use Rattle.std.proofs.Common.{List, [], ◌∷◌, ◌++◌, length, refl, sym, ap, ◌∙◌, subst, arith, append-nil}
use Rattle.std.proofs.lemmas.Bool.Decides.{nat_tests}
use Rattle.room_hub.specs.declared.hub.Event.{Event}
use Rattle.room_hub.specs.declared.hub.Happening.{Happening}
use Rattle.room_log.specs.Log.{Entry}
use Rattle.room_model.specs.Server.{Server}
use Rattle.room_server.specs.declared.arrivals.Came.{Came}
use Rattle.room_server.specs.declared.arrivals.Came.TheVariants as came
use Rattle.room_serving.specs.Turns.{turned}
use Rattle.room_serving.specs.Serving as serving
use Rattle.room_serving.specs.Serving.{Serving, does_turn, is_full, turn_if_full, group_of}
use Rattle.room_turns.specs.Gathering.{event_of, events_of, happening_of, ending_is}
use Rattle.room_turns.specs.Parts.{gathering, Leads, Begins}
use Rattle.room_turns.specs.declared.gathering.Ending.{Ending}
use Rattle.room_turns.specs.declared.gathering.Ending.TheVariants.{GoesOn, Ended, Missed}
use Rattle.room_turns.specs.declared.gathering.Given.TheVariants.{Arrives, Ends}
use Rattle.room_turns.proofs.Happening.{leads_none, leads_then, leads_as, leads_begins}

by_test : (b : Bool) (x y : Serving) → b ≡ false → cond b x y ≡ y
by_test false x y e = refl
by_test true x y e = cc

by_true : (b : Bool) (x y : Serving) → b ≡ true → cond b x y ≡ x
by_true true x y e = refl
by_true false x y e = cc

pub left_some : (n left : ℕ) → (nat_le 64 n || left == 0) ≡ false → 0 < left
left_some n left e = grind (arith, nat_tests)

asks : (left : ℕ) → 0 < left → nat_lt 0 left ≡ true
asks left h = grind (arith, nat_tests)

not_full : (left : ℕ) → 0 < left → (nat_le 64 0 || left == 0) ≡ false
not_full left h = grind (arith, nat_tests)

length-map : (cs : List Came) → length (events_of cs) ≡ length cs
length-map [] = refl
length-map (c ∷ cs) = ap suc (length-map cs)

pub events_push : (cs : List Came) (c : Came) → events_of (cs ++ c ∷ []) ≡ events_of cs ++ event_of c ∷ []
events_push [] c = refl
events_push (d ∷ cs) c = ap (λ (l : List Event). event_of d ∷ l) (events_push cs c)

module _ (v : Server) (first : ℕ) (groups : List (List Entry)) (owed : ℕ) where
  abbrev pub start : Serving
  start = gathering v first serving.GoesOn [] groups owed

  abbrev pub at : (left : ℕ) → List Came → Serving
  at left cs = gathering v left serving.GoesOn (events_of cs) groups owed

  full_is : (left : ℕ) (cs : List Came) → is_full (at left cs) ≡ (nat_le 64 (length cs) || left == 0)
  full_is left cs = ap (λ n. nat_le 64 n || left == 0) (length-map cs)

  -- before the first event
  pub gather_first : (was : List Happening) → 0 < first → Leads start was was (turn_if_full (at first []))
  gather_first was h =
      leads_as start start (turn_if_full (at first [])) was was
      (sym (by_test (is_full (at first [])) (does_turn (at first [])) (at first []) (not_full first h)))
      (leads_none start was was refl)

  -- where it isn't full
  going : (was is : List Happening) (left : ℕ) (cs : List Came) → (nat_le 64 (length cs) || left == 0) ≡ false
      → Leads start was is (turn_if_full (at left cs)) → Leads start was is (at left cs)
  going was is left cs e a =
      leads_as start (turn_if_full (at left cs)) (at left cs) was is
      (by_test (is_full (at left cs)) (does_turn (at left cs)) (at left cs) (full_is left cs ∙ e)) a

  arrived : (so : List Happening) (left : ℕ) (cs : List Came) (c : Came) → 0 < left
      → Leads (at left cs) so (so ++ happening_of (Arrives c) ∷ [])
      (turn_if_full (gathering v (left - 1) serving.GoesOn (events_of cs ++ event_of c ∷ []) groups owed))
  arrived so left cs (came.Opened k key) h =
      record { happened = _; happened_is = refl; serves = (asks left h, tt); leads = refl; unbroken = refl }
  arrived so left cs (came.Frame k text) h =
      record { happened = _; happened_is = refl; serves = (asks left h, tt); leads = refl; unbroken = refl }
  arrived so left cs (came.Gone k) h =
      record { happened = _; happened_is = refl; serves = (asks left h, tt); leads = refl; unbroken = refl }

  ended : (so : List Happening) (left : ℕ) (cs : List Came) (e : Ending) → 0 < left
      → Leads (at left cs) so (so ++ happening_of (Ends e) ∷ [])
      (does_turn (gathering v (left - 1) (ending_is e) (events_of cs) groups owed))
  ended so left cs GoesOn h =
      record { happened = _; happened_is = refl; serves = (asks left h, tt); leads = refl; unbroken = refl }
  ended so left cs Ended h =
      record { happened = _; happened_is = refl; serves = (asks left h, tt); leads = refl; unbroken = refl }
  ended so left cs Missed h =
      record { happened = _; happened_is = refl; serves = (asks left h, tt); leads = refl; unbroken = refl }

  -- one more
  pub gather_next : (was so is : List Happening) (left : ℕ) (cs : List Came) (c : Came)
      → (nat_le 64 (length cs) || left == 0) ≡ false → Leads start was so (turn_if_full (at left cs))
      → is ≡ so ++ happening_of (Arrives c) ∷ [] → Leads start was is (turn_if_full (at (left - 1) (cs ++ c ∷ [])))
  gather_next was so is left cs c e a told =
      let some = left_some (length cs) left e in
      subst (λ (z : List Happening). Leads start was z (turn_if_full (at (left - 1) (cs ++ c ∷ [])))) (sym told)
      (leads_as start (turn_if_full (gathering v (left - 1) serving.GoesOn (events_of cs ++ event_of c ∷ []) groups owed))
      (turn_if_full (at (left - 1) (cs ++ c ∷ []))) was (so ++ happening_of (Arrives c) ∷ [])
      (ap (λ (es : List Event). turn_if_full (gathering v (left - 1) serving.GoesOn es groups owed))
      (sym (events_push cs c)))
      (leads_then start (at left cs)
      (turn_if_full (gathering v (left - 1) serving.GoesOn (events_of cs ++ event_of c ∷ []) groups owed)) was so
      (so ++ happening_of (Arrives c) ∷ []) (going was so left cs e a) (arrived so left cs c some)))

  -- what ends it
  pub gather_end : (was so is : List Happening) (left : ℕ) (cs : List Came) (d : Ending)
      → (nat_le 64 (length cs) || left == 0) ≡ false → Leads start was so (turn_if_full (at left cs))
      → is ≡ so ++ happening_of (Ends d) ∷ []
      → Leads start was is (does_turn (gathering v (left - 1) (ending_is d) (events_of cs) groups owed))
  gather_end was so is left cs d e a told =
      subst
      (λ (z : List Happening).
      Leads start was z (does_turn (gathering v (left - 1) (ending_is d) (events_of cs) groups owed))) (sym told)
      (leads_then start (at left cs) (does_turn (gathering v (left - 1) (ending_is d) (events_of cs) groups owed)) was so
      (so ++ happening_of (Ends d) ∷ []) (going was so left cs e a)
      (ended so left cs d (left_some (length cs) left e)))

  -- where it is full
  pub gather_full : (was is : List Happening) (left : ℕ) (cs : List Came)
      → (nat_le 64 (length cs) || left == 0) ≡ true → Leads start was is (turn_if_full (at left cs))
      → Leads start was is (does_turn (at left cs))
  gather_full was is left cs e a =
      leads_as start (turn_if_full (at left cs)) (does_turn (at left cs)) was is
      (by_true (is_full (at left cs)) (does_turn (at left cs)) (at left cs) (full_is left cs ∙ e)) a

  abbrev more_if : Bool → List (List Entry) → List (List Entry)
  more_if true gs = gs
  more_if false gs = []

  groups_if : (b : Bool) (left : ℕ) (cs : List Came)
      → (cond b (does_turn (at left cs)) (at left cs)).groups
      ≡ groups ++ more_if b (group_of (turned v (events_of cs)).entries)
  groups_if true left cs = refl
  groups_if false left cs = sym (append-nil groups)

  owed_if : (b : Bool) (left : ℕ) (cs : List Came) → owed ≤ length groups
      → (cond b (does_turn (at left cs)) (at left cs)).owed ≤ length groups
  owed_if true left cs h = h
  owed_if false left cs h = h

  -- out of memory on the way
  pub gather_begins : (was is : List Happening) (left : ℕ) (cs : List Came)
      → Leads start was is (turn_if_full (at left cs)) → Begins start was is
  gather_begins was is left cs a =
      leads_begins start (turn_if_full (at left cs)) was is
      (more_if (is_full (at left cs)) (group_of (turned v (events_of cs)).entries))
      (groups_if (is_full (at left cs)) left cs) (owed_if (is_full (at left cs)) left cs) a
