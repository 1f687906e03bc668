-- The batches of an actor against the updates of the log.
use Rattle.std.specs.Prelude.{◌≡◌, ℕ, ◌+◌, ◌⊎◌, List, [], ◌∷◌, ◌++◌, length}
use Rattle.room_nodes.specs.Shape.{Nodes}
use Rattle.room_nodes.specs.Steps.{fold, settle_all}
use Rattle.room_log.specs.Log.{State, Update, tree_after}
use Rattle.room_model.specs.Account.{Batch}
use Rattle.room_model.specs.Sound.{RunsOn}

-- the clock after these batches, from the clock c on
abbrev pub upto : ℕ → List Batch → ℕ
upto c [] = c
upto c (b ∷ bs) = upto (c + length b.bodies) bs

abbrev pub In : Batch → List Batch → Type 0
In b [] = ⊥
In b (x ∷ xs) = (b ≡ x) ⊎ In b xs

-- From the tree t and the clock c, the updates take the batches one after another, each whole and settled where it is
-- taken, up to the clock e; `rest` is what they leave.
abbrev pub Matches : ℕ → Nodes → ℕ → List Update → List Batch → List Batch → ℕ → Type 0
Matches a t c [] bs rest e = record { same : bs ≡ rest; clock : c ≡ e }
Matches a t c (u ∷ us) bs rest e =
    record {
      own : u.actor ≡ a;
      batch : Batch;
      others : List Batch;
      front : bs ≡ batch ∷ others;
      first : u.first ≡ batch.first;
      bodies : u.bodies ≡ settle_all t batch.bodies;
      more : Matches a (fold t u.bodies) (c + length u.bodies) us others rest e;
    }
    ⊎ record { other : u.actor ≡ a → ⊥; more : Matches a (fold t u.bodies) c us bs rest e }

-- All batches that were ever issued, against the log: `done` took those up to `told`, `coming` takes the next up to
-- `last`, and `rest` is left.
pub record Ledger (s : State) (last a : ℕ) (done coming : List Update) (all pending : List Batch)
    (told : ℕ) : Type 0 where
  pub accepted : List Batch
  pub rest : List Batch
  pub all_is : all ≡ accepted ++ rest
  pub last_is : upto 0 accepted ≡ last
  pub chain : RunsOn 0 all
  pub received : Matches a s.tree 0 done all pending told
  pub takes : Matches a (tree_after s.tree done) told coming pending rest last

-- none of these updates is of the actor
abbrev pub Silent : ℕ → List Update → Type 0
Silent a [] = Unit {0}
Silent a (u ∷ us) = record { other : u.actor ≡ a → ⊥; more : Silent a us }
