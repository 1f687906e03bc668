-- Changes of a tree that can be taken back, and made again.
use Rattle.std.specs.Prelude.{◌≡◌, ◌+◌, ◌-◌, ◌<◌, ℕ, List, [], ◌∷◌, ◌++◌, Option, Some, None}
use Rattle.room_nodes.specs.Shape.{Nodes}
use Rattle.room_nodes.specs.Turns.{turned, reverse, CanTurn}
use Rattle.room_nodes.specs.declared.turns.Turn.{Turn}
use Rattle.room_nodes.specs.declared.turns.Turn.TheVariants.{Put, Cut, Fields, Key}

-- a list of them, the last first

abbrev pub turned_all : Nodes → List Turn → Nodes
turned_all t [] = t
turned_all t (c ∷ cs) = turned (turned_all t cs) c

abbrev pub CanTurnAll : Nodes → List Turn → Type 0
CanTurnAll t [] = Unit {0}
CanTurnAll t (c ∷ cs) = CanTurn (turned_all t cs) c × CanTurnAll t cs

abbrev pub reverse_all : Nodes → List Turn → List Turn
reverse_all t [] = []
reverse_all t (c ∷ cs) = reverse_all t cs ++ reverse (turned_all t cs) c ∷ []

-- a change or none
abbrev pub some_turn : Option Turn → List Turn
some_turn None = []
some_turn (Some c) = c ∷ []

-- how many of them put a node, and how many take one out

abbrev pub put_count : Turn → ℕ
put_count (Put x n) = 1
put_count (Cut x) = 0
put_count (Fields x fs) = 0
put_count (Key x k) = 0

abbrev pub cut_count : Turn → ℕ
cut_count (Put x n) = 0
cut_count (Cut x) = 1
cut_count (Fields x fs) = 0
cut_count (Key x k) = 0

abbrev pub puts_in : List Turn → ℕ
puts_in [] = 0
puts_in (c ∷ cs) = put_count c + puts_in cs

abbrev pub cuts_in : List Turn → ℕ
cuts_in [] = 0
cuts_in (c ∷ cs) = cut_count c + cuts_in cs

-- the spare places on the way

abbrev pub places : ℕ → Turn → ℕ
places s (Put x n) = s - 1
places s (Cut x) = s + 1
places s (Fields x fs) = s
places s (Key x k) = s

abbrev pub HasPlace : ℕ → Turn → Type 0
HasPlace s (Put x n) = 0 < s
HasPlace s (Cut x) = Unit {0}
HasPlace s (Fields x fs) = Unit {0}
HasPlace s (Key x k) = Unit {0}

abbrev pub places_all : ℕ → List Turn → ℕ
places_all s [] = s
places_all s (c ∷ cs) = places (places_all s cs) c

abbrev pub HasPlaces : ℕ → List Turn → Type 0
HasPlaces s [] = Unit {0}
HasPlaces s (c ∷ cs) = HasPlace (places_all s cs) c × HasPlaces s cs

-- the changes lead from a tree u with b places back to s with a places
pub record IsUndo (s : Nodes) (a : ℕ) (u : Nodes) (b : ℕ) (cs : List Turn) : Type 0 where
  pub can : CanTurnAll u cs
  pub back : turned_all u cs ≡ s
  pub place : HasPlaces b cs
  pub places : places_all b cs ≡ a

-- whatever the changes cs lead back to, the changes ds lead back to it too
abbrev pub KeepsUndo : Nodes → ℕ → List Turn → Nodes → ℕ → List Turn → Type 0
KeepsUndo u b cs v d ds = (s : Nodes) (a : ℕ) → IsUndo s a u b cs → IsUndo s a v d ds
