-- Texts of ids: `actor:clock`, or `root` for the root.
use Rattle.std.specs.Prelude.{ℕ, Bool, false, ◌&&◌, not, if◌then◌else◌, nat_eq, nat_le, List, [], ◌∷◌, ◌++◌, codes}
use Rattle.std.specs.Prelude.{Option, Some, None, option_map, option_and_then}
use Rattle.std.specs.Fmt.{decimal}
use Rattle.std.specs.Str.{all_ascii_digits, bytes_eq}
use Rattle.std.specs.Str.Parse.{digits_value}
use Rattle.room_json.specs.Limits.{max_whole}
use Rattle.room_ids.specs.Bounds.{max_actor}
use Rattle.room_ids.specs.Stamp.{Stamp}
use Rattle.room_ids.specs.Position.{is_some_text}
use Rattle.room_ids.specs.declared.ids.OpId.{OpId}
use Rattle.room_ids.specs.declared.ids.NodeId.{NodeId}
use Rattle.room_ids.specs.declared.ids.NodeId.TheVariants.{Root, Made}

-- digits, of which the first is no zero unless it stands alone
abbrev pub is_number : List ℕ → Bool
is_number [] = false
is_number (c ∷ cs) = all_ascii_digits (c ∷ cs) && not (nat_eq c 48 && is_some_text cs)

-- the number that such digits write, unless it is over a greatest one
unfoldable pub number_in : ℕ → List ℕ → Option ℕ
number_in most t = if is_number t && nat_le (digits_value 10 t) most then Some (digits_value 10 t) else None

-- what stands before the first colon, and what behind it
abbrev pub parts_of : List ℕ → Option (List ℕ × List ℕ)
parts_of [] = None
parts_of (c ∷ cs) = if nat_eq c 58 then Some ([], cs) else option_map (λ p. (c ∷ p.0, p.1)) (parts_of cs)

abbrev pub stamp_of_parts : List ℕ × List ℕ → Option Stamp
stamp_of_parts p =
    option_and_then (λ a.
    option_map (λ c. record { actor = a; clock = c }) (number_in max_whole p.1)) (number_in max_actor p.0)

-- the stamp that a text spells
unfoldable pub stamp_in : List ℕ → Option Stamp
stamp_in t = option_and_then stamp_of_parts (parts_of t)

-- the node id that a text spells
unfoldable pub node_in : List ℕ → Option NodeId
node_in t = if bytes_eq t (codes "root") then Some Root else option_map Made (stamp_in t)

unfoldable pub stamp_text : Stamp → List ℕ
stamp_text s = decimal s.actor ++ 58 ∷ decimal s.clock

unfoldable pub node_text : NodeId → List ℕ
node_text Root = codes "root"
node_text (Made s) = stamp_text s

-- operations are named by the text of a stamp
abbrev pub op_id_in : List ℕ → Option OpId
op_id_in t = option_map (λ s. record { 0 = s }) (stamp_in t)
