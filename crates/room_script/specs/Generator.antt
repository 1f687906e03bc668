-- The schedule that a number and a count stand for: three clients that edit, push, move and speak in turn, a stop in
-- the middle, and an undo at the end. Numbers are drawn by a linear congruential generator.
use Rattle.std.specs.Prelude.{ℕ, zero, suc, ◌+◌, ◌-◌, ◌*◌, ◌/◌, ◌%◌, ◌==◌, nat_le, ◌||◌, if◌then◌else◌, Bool, List}
use Rattle.std.specs.Prelude.{[], ◌∷◌, ◌++◌, codes, decimal}

-- the state after a draw, and the number below k that it gives
abbrev pub drawn : ℕ → ℕ
drawn s = (s * 6364136223846793005 + 1442695040888963407) % 18446744073709551616

abbrev pub pick : ℕ → ℕ → ℕ
pick k s = (drawn s / 8589934592) % k

-- a line

abbrev pub line : List ℕ → List ℕ
line text = text ++ 10 ∷ []

-- {"x":X,"y":Y}
abbrev pub spot : ℕ → ℕ → List ℕ
spot x y = codes "{\"x\":" ++ decimal x ++ codes ",\"y\":" ++ decimal y ++ codes "}"

-- how many of the numbers from 1 to n leave 2 by 4: so many items were pushed by then
abbrev pub pushed_by : ℕ → ℕ
pushed_by n = (n + 2) / 4

-- the client whose turn i is
abbrev pub whose : ℕ → ℕ
whose i = (i - 1) % 3 + 1

abbrev pub edit : ℕ → List ℕ → List ℕ
edit i text = line (codes "edit " ++ decimal (whose i) ++ codes " " ++ text)

-- turn i of a state: its lines, and the state after its draws
pub record Turn : Type 0 where
  pub lines : List ℕ
  pub state : ℕ

-- with the next two numbers
abbrev pub spot_from : ℕ → List ℕ
spot_from s = spot (pick 1000 s) (pick 1000 (drawn s))

abbrev pub moves_shape : ℕ → ℕ → Turn
moves_shape i s = record {
  lines = edit i (codes "update 1:" ++ decimal (2 + pick 3 s) ++ codes " " ++ spot_from (drawn s));
  state = drawn (drawn (drawn s));
}

abbrev pub pushes_layer : ℕ → ℕ → Turn
pushes_layer i s = record { lines = edit i (codes "push 1:5 \"layer " ++ decimal i ++ codes "\""); state = s }

-- the item at `from` of m goes one of m - 1 places on, around the end
abbrev pub place_after : ℕ → ℕ → ℕ → ℕ
place_after m from by = (from + 1 + by) % m

abbrev pub place_picked : ℕ → ℕ → ℕ
place_picked m s = place_after m (pick m s) (pick (m - 1) (drawn s))

abbrev pub moves_layer : ℕ → ℕ → ℕ → Turn
moves_layer m i s = record {
  lines = edit i (codes "move 1:5 " ++ decimal (pick m s) ++ codes " " ++ decimal (place_picked m s));
  state = drawn (drawn s);
}

abbrev pub sets_corner : ℕ → ℕ → Turn
sets_corner i s =
    record { lines = edit i (codes "update 1:2 {\"x\":" ++ decimal (pick 1000 s) ++ codes "}"); state = drawn s }

-- where fewer than two items were pushed in the rounds before, there is nothing to move
abbrev pub moves : ℕ → ℕ → Turn
moves i s =
    let m = pushed_by (3 * ((i - 1) / 3)) in
    if nat_le 2 m then moves_layer m i s else sets_corner i s

abbrev pub speaks : ℕ → ℕ → Turn
speaks i s = record {
  lines =
      line (codes "presence " ++ decimal (whose i) ++ codes " " ++ spot_from s)
      ++ edit i (codes "set root last " ++ decimal i);
  state = drawn (drawn s);
}

abbrev pub turn : ℕ → ℕ → Turn
turn i s =
    if i % 4 == 1 then moves_shape i s
    else if i % 4 == 2 then pushes_layer i s
    else if i % 4 == 3 then moves i s
    else speaks i s

-- after a round of three turns, and after the last, everything is sent; after the round in the middle the server stops
abbrev pub sent : List ℕ
sent = line (codes "flush 1") ++ line (codes "flush 2") ++ line (codes "flush 3") ++ line (codes "drain 1000")

abbrev pub stopped : List ℕ
stopped =
    line (codes "stop") ++ line (codes "start") ++ line (codes "dial 1") ++ line (codes "dial 2")
    ++ line (codes "dial 3") ++ line (codes "drain 1000")

abbrev pub is_sent : ℕ → ℕ → Bool
is_sent count i = i % 3 == 0 || i == count

abbrev pub after_turn : ℕ → ℕ → List ℕ
after_turn count i =
    (if is_sent count i then sent else []) ++ (if i == 3 * (count / 6) then stopped else [])

-- so many turns from turn i on
abbrev pub turns : ℕ → ℕ → ℕ → ℕ → List ℕ
turns count zero i s = []
turns count (suc left) i s =
    (turn i s).lines ++ after_turn count i ++ turns count left (i + 1) (turn i s).state

-- a live object at 0, 0, by its name
abbrev pub corner : List ℕ → List ℕ
corner name = codes "\"" ++ name ++ codes "\":{\"$object\":" ++ spot 0 0 ++ codes "}"

abbrev pub corners : List ℕ
corners = corner (codes "a") ++ codes "," ++ corner (codes "b") ++ codes "," ++ corner (codes "c")

abbrev pub opening : List ℕ
opening =
    line (codes "dial 1") ++ line (codes "drain 1000")
    ++ line (codes "dial 2") ++ line (codes "drain 1000")
    ++ line (codes "dial 3") ++ line (codes "drain 1000")
    ++ line (codes "edit 1 set root shapes {\"$map\":{" ++ corners ++ codes "}}")
    ++ line (codes "edit 1 set root layers {\"$list\":[]}")
    ++ line (codes "flush 1") ++ line (codes "drain 1000")

abbrev pub ending : List ℕ
ending =
    line (codes "begin 1")
    ++ line (codes "edit 1 update 1:2 {\"x\":1}") ++ line (codes "edit 1 update 1:2 {\"x\":2}")
    ++ line (codes "end 1") ++ line (codes "undo 1") ++ line (codes "flush 1") ++ line (codes "drain 1000")
    ++ line (codes "brief 1") ++ line (codes "brief 2") ++ line (codes "brief 3") ++ line (codes "brief server")

abbrev pub schedule_of : ℕ → ℕ → List ℕ
schedule_of number count = opening ++ turns count count 1 number ++ ending
