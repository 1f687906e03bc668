-- How many bytes the frame of operations has.
use Rattle.std.specs.Prelude.{ℕ, ◌+◌, max, List, [], ◌∷◌, length}
use Rattle.room_json.specs.Value.{text_of}
use Rattle.room_nodes.specs.declared.nodes.Op.{Op}
use Rattle.room_wire.specs.Written.{op_out}

-- of each its text and a comma
abbrev pub bytes_of : List Op → ℕ
bytes_of [] = 0
bytes_of (o ∷ os) = (length (text_of (op_out o)) + 1) + bytes_of os

-- with what stands around them; the last has no comma
abbrev pub frame_bytes : ℕ → ℕ
frame_bytes bytes = 22 + max 1 bytes
