-- Whether two operations are equal, as a test.
use Rattle.std.specs.Prelude.{ℤ, pos, negsuc, Bool, true, false, ◌&&◌, nat_eq, List, [], ◌∷◌, Option, Some, None}
use Rattle.std.specs.Str.{bytes_eq}
use Rattle.room_json.specs.Value.{Value, nothing, flag, whole, text, list, members}
use Rattle.room_json.specs.Value.{Values, no_values, value, Fields, no_fields, field, fields_of}
use Rattle.room_json.specs.View.{json_of}
use Rattle.room_ids.specs.Order.{is_same}
use Rattle.room_ids.specs.declared.ids.NodeId.{NodeId}
use Rattle.room_nodes.specs.declared.nodes.Kind.{Kind}
use Rattle.room_nodes.specs.declared.nodes.Kind.TheVariants.{Object, List as Listed, Map, Register}
use Rattle.room_nodes.specs.declared.nodes.Op.{Op}
use Rattle.room_nodes.specs.declared.nodes.Body.{Body}
use Rattle.room_nodes.specs.declared.nodes.Body.TheVariants.{SetKey, Create, Update, Delete, DeleteKey}

abbrev pub same_bit : Bool → Bool → Bool
same_bit true b = b
same_bit false true = false
same_bit false false = true

abbrev pub same_whole : ℤ → ℤ → Bool
same_whole (pos m) (pos n) = nat_eq m n
same_whole (negsuc m) (negsuc n) = nat_eq m n
same_whole (pos m) (negsuc n) = false
same_whole (negsuc m) (pos n) = false

abbrev mutual
  pub same_value : Value → Value → Bool
  same_value nothing nothing = true
  same_value (flag a) (flag b) = same_bit a b
  same_value (whole y) (whole z) = same_whole y z
  same_value (text s) (text t) = bytes_eq s t
  same_value (list vs) (list ws) = same_values vs ws
  same_value (members fs) (members gs) = same_fields fs gs
  same_value _ _ = false

  pub same_values : Values → Values → Bool
  same_values no_values no_values = true
  same_values (value v vs) (value w ws) = same_value v w && same_values vs ws
  same_values _ _ = false

  pub same_fields : Fields → Fields → Bool
  same_fields no_fields no_fields = true
  same_fields (field j v fs) (field k w gs) = bytes_eq j k && (same_value v w && same_fields fs gs)
  same_fields _ _ = false

abbrev pub same_kind : Kind → Kind → Bool
same_kind (Object fs) (Object gs) = same_fields (fields_of fs) (fields_of gs)
same_kind Listed Listed = true
same_kind Map Map = true
same_kind (Register v) (Register w) = same_value (json_of v) (json_of w)
same_kind _ _ = false

abbrev pub same_id_in : Option NodeId → Option NodeId → Bool
same_id_in None None = true
same_id_in (Some x) (Some y) = is_same x y
same_id_in _ _ = false

abbrev pub same_body : Body → Body → Bool
same_body (SetKey x j) (SetKey y k) = is_same x y && bytes_eq j k
same_body (Create x p j r a) (Create y q k s b) =
    is_same x y && (is_same p q && (bytes_eq j k && (same_id_in r s && same_kind a b)))
same_body (Update x fs) (Update y gs) = is_same x y && same_fields (fields_of fs) (fields_of gs)
same_body (Delete x) (Delete y) = is_same x y
same_body (DeleteKey x j) (DeleteKey y k) = is_same x y && bytes_eq j k
same_body _ _ = false

abbrev pub same_bodies : List Body → List Body → Bool
same_bodies [] [] = true
same_bodies (a ∷ xs) (b ∷ ys) = same_body a b && same_bodies xs ys
same_bodies _ _ = false

abbrev pub same_op : Op → Op → Bool
same_op o q = nat_eq o.id.0.actor q.id.0.actor && (nat_eq o.id.0.clock q.id.0.clock && same_body o.body q.body)

-- whether the second list begins with the first
abbrev pub are_first : List Op → List Op → Bool
are_first [] qs = true
are_first (o ∷ os) [] = false
are_first (o ∷ os) (q ∷ qs) = same_op o q && are_first os qs
