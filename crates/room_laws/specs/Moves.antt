-- A drain as the lines that it stands for, one for each frame that it moves; and every moment of a run, those within a
-- drain too.
use Rattle.std.specs.Prelude.{◌≡◌, ℕ, zero, suc, List, [], ◌∷◌, ◌++◌, Option, Some, None}
use Rattle.std.specs.FinMap.{entries}
use Rattle.room_log.specs.Log.{State}
use Rattle.room_model.specs.Lines as lines
use Rattle.room_model.specs.Lines.{Line, Traffic}
use Rattle.room_model.specs.World.{World, conn_line, has_inbound, has_outbound, least, opening, step}
use Rattle.room_model.specs.Run.{Run, run, opened}

-- what a drain does next: up for the least connection with something up, else down for the least with something down

abbrev pub move : Option ℕ → Option ℕ → Option (ℕ × Traffic)
move (Some k) outbound = Some (k, lines.Up)
move None (Some k) = Some (k, lines.Down)
move None None = None

abbrev pub next_move : World → Option (ℕ × Traffic)
next_move w = move (least has_inbound (entries w.conns)) (least has_outbound (entries w.conns))

abbrev pub where_some : {A B : Type 0} → Option A → (A → List B) → List B
where_some None f = []
where_some (Some x) f = f x

-- so many times, in the line of that number
abbrev pub moves : ℕ → World → ℕ → List (ℕ × Traffic)
moves zero w number = []
moves (suc n) w number = where_some (next_move w) (λ m. m ∷ moves n (conn_line w number m.0 m.1).world number)

abbrev pub move_lines : ℕ → List (ℕ × Traffic) → List (ℕ × Line)
move_lines number [] = []
move_lines number (m ∷ ms) = (number, lines.OfConnection m.0 m.1) ∷ move_lines number ms

abbrev pub single : World → ℕ → Line → List (ℕ × Line)
single w number (lines.OfClient c call) = (number, lines.OfClient c call) ∷ []
single w number (lines.AsksClient c question) = (number, lines.AsksClient c question) ∷ []
single w number (lines.OfConnection k traffic) = (number, lines.OfConnection k traffic) ∷ []
single w number (lines.OfServer service) = (number, lines.OfServer service) ∷ []
single w number (lines.Drain n) = move_lines number (moves n w number)
single w number lines.Link = (number, lines.Link) ∷ []

-- the lines with each drain spelled out
abbrev pub singly : World → List (ℕ × Line) → List (ℕ × Line)
singly w [] = []
singly w (l ∷ ls) = single w l.0 l.1 ++ singly (step w l.0 l.1).world ls

-- which is the same run
abbrev pub RunsSingly : Type 0
RunsSingly = (r : Run) (ls : List (ℕ × Line)) → run r (singly r.world ls) ≡ run r ls

-- what the run over these lines is at some moment
pub record Moment (s : State) (ls : List (ℕ × Line)) (r : Run) : Type 0 where
  pub front : List (ℕ × Line)
  pub rest : List (ℕ × Line)
  pub lines : singly (opening s) ls ≡ front ++ rest
  pub is : run (opened s) front ≡ r
