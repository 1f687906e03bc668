-- What holds of ids and positions by their definitions.
use Rattle.std.specs.Prelude.{◌≡◌, ◌≤◌, ◌<◌, ◌++◌, ℕ, true, List, [], ◌∷◌, length, replicate, Option, Some, IfSome, ⊤}
use Rattle.room_json.specs.Limits.{max_whole}
use Rattle.room_ids.specs.Bounds.{max_actor, max_position}
use Rattle.room_ids.specs.Stamp.{Stamp}
use Rattle.room_ids.specs.Ids.{number_in, stamp_in, node_in, stamp_text, node_text}
use Rattle.room_ids.specs.Position.{IsBelow, is_pos, first, after, before, between}
use Rattle.room_ids.specs.declared.ids.NodeId.{NodeId}
use Rattle.room_ids.specs.declared.ids.NodeId.TheVariants.{Root, Made}
use Rattle.std.specs.Fmt.{decimal}

-- an actor below 2^32 and a clock of at most 2^53-1
abbrev pub IsInRange : Stamp → Type 0
IsInRange s = (s.actor ≤ max_actor) × (s.clock ≤ max_whole)

abbrev pub IsNodeInRange : NodeId → Type 0
IsNodeInRange Root = ⊤
IsNodeInRange (Made s) = IsInRange s

-- a number that was written is read again
abbrev pub NumbersReadBack : Type 0
NumbersReadBack = (most n : ℕ) → n ≤ most → n ≤ max_whole → number_in most (decimal n) ≡ Some n

-- an id that was written is read again
abbrev pub StampsReadBack : Type 0
StampsReadBack = (s : Stamp) → IsInRange s → stamp_in (stamp_text s) ≡ Some s

abbrev pub NodesReadBack : Type 0
NodesReadBack = (n : NodeId) → IsNodeInRange n → node_in (node_text n) ≡ Some n

-- each id has one text, and is in range
abbrev pub StampsAreSpelledOnce : Type 0
StampsAreSpelledOnce = (t : List ℕ) (s : Stamp) → stamp_in t ≡ Some s → (stamp_text s ≡ t) × IsInRange s

abbrev pub NodesAreSpelledOnce : Type 0
NodesAreSpelledOnce = (t : List ℕ) (n : NodeId) → node_in t ≡ Some n → (node_text n ≡ t) × IsNodeInRange n

-- where the made positions stand

abbrev pub AfterIsAbove : Type 0
AfterIsAbove = (x : List ℕ) → is_pos x ≡ true → IsBelow x (after x)

abbrev pub BeforeIsBelow : Type 0
BeforeIsBelow = (x : List ℕ) → is_pos x ≡ true → IsBelow (before x) x

abbrev pub IsBetween : List ℕ → Option (List ℕ) → Type 0
IsBetween x y = IsBelow x (between x y) × IfSome y (λ (b : List ℕ). IsBelow (between x y) b)

-- the second position may be absent
abbrev pub IsPair : List ℕ → Option (List ℕ) → Type 0
IsPair x y = (is_pos x ≡ true) × IfSome y (λ (b : List ℕ). (is_pos b ≡ true) × IsBelow x b)

abbrev pub BetweenIsBetween : Type 0
BetweenIsBetween = (x : List ℕ) (y : Option (List ℕ)) → IsPair x y → IsBetween x y

-- a made text is a position, unless it is too long
abbrev pub IsPosUnlessLong : List ℕ → Type 0
IsPosUnlessLong x = length x ≤ max_position → is_pos x ≡ true

abbrev pub MadeArePositions : Type 0
MadeArePositions =
    (is_pos first ≡ true)
    × ((x : List ℕ) → is_pos x ≡ true → IsPosUnlessLong (after x) × IsPosUnlessLong (before x))
    × ((x : List ℕ) (y : Option (List ℕ)) → IsPair x y → IsPosUnlessLong (between x y))

-- a made text has at most one byte more than the longest that it is made of
abbrev pub MadeAreShort : Type 0
MadeAreShort =
    (x : List ℕ) → is_pos x ≡ true →
    (length (after x) ≤ 4097)
    × (length (before x) ≤ 4097)
    × ((y : Option (List ℕ)) → IsPair x y → length (between x y) ≤ 4097)

-- there is one position before which there is none of those made: 4,095 spaces and `!`
abbrev pub LowestIsLast : Type 0
LowestIsLast = (x : List ℕ) → is_pos x ≡ true → max_position < length (before x) → x ≡ replicate 4095 32 ++ 33 ∷ []
