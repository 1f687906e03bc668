-- The headline: what holds of a run at each of its lines.
use Rattle.std.specs.Prelude.{◌≡◌, ◌≤◌, ◌+◌, ◌⊎◌, ℕ, List, [], ◌∷◌, ◌++◌, length, Option, Some, ⊤}
use Rattle.room_nodes.specs.Shape.{Nodes}
use Rattle.room_nodes.specs.Steps.{fold}
use Rattle.room_log.specs.Log.{State, Entry, Update, last_of, tree_after, tree_at, state_after, updates_of}
use Rattle.room_log.specs.Follows.{IsValidLog, IsValidState}
use Rattle.room_model.specs.Account.{Batch, actor, shown, unacknowledged}
use Rattle.room_model.specs.Lines.{Line}
use Rattle.room_model.specs.World.{account, entries_in, opening, state_in}
use Rattle.room_model.specs.Run.{run, opened, IsUndisturbed}
use Rattle.room_laws.specs.Always.{lines_of}
use Rattle.room_laws.specs.Laws.{ShowsLog, Kept}
use Rattle.room_laws.specs.Undo.{Course, Goes, Lies}
use Rattle.room_laws.specs.Undoing.{TakesBack, bodies_after}
use Rattle.room_laws.specs.Validity.{AreLines}
use Rattle.room_world.specs.Trying.{tries}
use Rattle.room_run.specs.Running.{after_lines}

-- the clocks of an actor's operations run on by ones from the clock c
abbrev pub RunOn : (a : ℕ) → (c : ℕ) → List Update → Type 0
RunOn a c [] = ⊤
RunOn a c (u ∷ us) =
    record { own : u.actor ≡ a; first : u.first ≡ c + 1; more : RunOn a (c + length u.bodies) us }
    ⊎ record { other : u.actor ≡ a → ⊥; more : RunOn a c us }

-- A batch that is taken back, both in the log: the tree before it and that on which it was made agree on what it
-- touches, and nothing between the two touches that. Then the tree is as if neither had been.
pub record Undoes (s : State) (done : List (ℕ × Line)) (c : ℕ) : Type 0 where
  -- what a client makes and undoes, or undoes and redoes, in these lines
  pub undone : (q : Course) (t : Nodes) (made back : Batch) (us vs ws : List Update) (b u : Update)
      → lines_of q c ≡ done → Goes s q c t made back → Lies s (run (opened s) done) c t made back us vs ws b u
      → tree_after s.tree (us ++ b ∷ (vs ++ u ∷ [])) ≡ fold (tree_after s.tree us) (bodies_after vs)
  -- and any two batches of which one is the reversal of the other, on the tree t that the client showed after `ls`
  pub reversed : (ls ms : List (ℕ × Line)) (t : Nodes) (made back : Batch) (us vs ws : List Update) (b u : Update)
      → ls ++ ms ≡ done → shown (account (run (opened s) ls).world c) ≡ Some t
      → TakesBack s (run (opened s) done) c t made back us vs ws b u
      → tree_after s.tree (us ++ b ∷ (vs ++ u ∷ [])) ≡ fold (tree_after s.tree us) (bodies_after vs)

-- of a client that alone was ever given its actor
pub record HoldsOf (s : State) (done : List (ℕ × Line)) (c : ℕ) : Type 0 where
  -- each batch once, those that were acknowledged too; all others it holds
  pub once : Kept s (run (opened s) done) c
  -- and whatever valid log goes on from there holds these
  pub recovered : (more : List Entry) → IsValidLog s ((run (opened s) done).log ++ more)
      → (account (run (opened s) done).world c).told
      ≤ last_of (state_after s ((run (opened s) done).log ++ more)).sessions
      (actor (account (run (opened s) done).world c))
  -- what it shows
  pub shows : (t : Nodes) → (account (run (opened s) done).world c).confirmed ≡ Some t
      → ShowsLog s (run (opened s) done) c t
  -- with nothing unacknowledged, the tree after the updates that it took
  pub settled : (t : Nodes) → (account (run (opened s) done).world c).confirmed ≡ Some t
      → unacknowledged (account (run (opened s) done).world c) ≡ 0
      → shown (account (run (opened s) done).world c)
      ≡ Some (tree_at s (run (opened s) done).log (account (run (opened s) done).world c).n)
  pub undoes : Undoes s done c

-- after these lines
pub record Holds (s : State) (done : List (ℕ × Line)) : Type 0 where
  -- the world is that of the run
  pub world : (run (opened s) done).world ≡ after_lines (opening s) done
  -- each entry of the log follows from those before it, so that each actor's clocks run on from where they stood
  pub log : IsValidLog s (run (opened s) done).log
  pub clocks : (a : ℕ) → RunOn a (last_of s.sessions a) (updates_of (run (opened s) done).log)
  -- and the server stands where the log leads
  pub state : state_in (after_lines (opening s) done).host ≡ state_after s (run (opened s) done).log
  pub clients : (c : ℕ) → IsUndisturbed (run (opened s) done) c → HoldsOf s done c

-- What the line behind these does to the log: its entries come behind what was there. It tries to add these, and after
-- them at most the one whose commit the disk stopped in; each follows. So where an image stands for the state before
-- the line with a first part of what it tries, it stands for the state of a first part of the log behind the line, or
-- of that log with the one under way.
pub record Adds (s : State) (done : List (ℕ × Line)) (l : ℕ × Line) : Type 0 where
  pub entries : List Entry
  pub log : (run (opened s) (done ++ l ∷ [])).log ≡ (run (opened s) done).log ++ entries
  pub dropped : Option Entry
  pub tries : tries (after_lines (opening s) done) l.0 l.1 ≡ entries ++ entries_in dropped
  pub valid : IsValidLog s ((run (opened s) done).log ++ (entries ++ entries_in dropped))

-- at every line, and what was there before it stays in the log
pub record Headline (s : State) (ls : List (ℕ × Line)) : Type 0 where
  pub holds : (done left : List (ℕ × Line)) → done ++ left ≡ ls → Holds s done
  pub adds : (done left : List (ℕ × Line)) (l : ℕ × Line) → done ++ l ∷ left ≡ ls → Adds s done l
  pub grows : (done left : List (ℕ × Line)) → done ++ left ≡ ls
      → (more : List Entry) × ((run (opened s) ls).log ≡ (run (opened s) done).log ++ more)

abbrev pub EverywhereHolds : Type 0
EverywhereHolds = (s : State) (ls : List (ℕ × Line)) → IsValidState s → AreLines ls → Headline s ls
