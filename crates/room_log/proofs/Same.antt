-- The tests of equality hold exactly where things are equal.
use Rattle.std.proofs.Common.{◌≡◌, ℕ, ℤ, pos, negsuc, Bool, true, false, List, [], ◌∷◌, ◌++◌, Option, Some, None, refl, sym, ap, ◌∙◌}
use Rattle.std.specs.Bool.{Decides}
use Rattle.std.proofs.lemmas.Bool.Decides.{Decides-and, Decides-eqb, Decides-like}
use Rattle.std.proofs.lemmas.Slice.Eq.{bytes_eq-Decides}
use Rattle.room_json.specs.Value.{Value, nothing, flag, whole, text, list, members, Values, no_values, value, Fields, no_fields, field, values_of, fields_of, values_list, fields_list}
use Rattle.room_json.specs.View.{json_of}
use Rattle.room_json.specs.declared.tree.Json.{Json}
use Rattle.room_json.specs.declared.tree.Json.TheVariants.{Null, Flag, Int, Text, List as Items, Object as Entries}
use Rattle.room_json.proofs.Values.{values_list-values_of, fields_list-fields_of}
use Rattle.room_ids.specs.Order.{is_same}
use Rattle.room_ids.specs.declared.ids.NodeId.{NodeId}
use Rattle.room_nodes.specs.declared.nodes.Kind.{Kind}
use Rattle.room_nodes.specs.declared.nodes.Kind.TheVariants.{Object, List as Listed, Map, Register}
use Rattle.room_nodes.specs.declared.nodes.Op.{Op}
use Rattle.room_nodes.specs.declared.nodes.Body.{Body}
use Rattle.room_nodes.specs.declared.nodes.Body.TheVariants.{SetKey, Create, Update, Delete, DeleteKey}
use Rattle.room_nodes.specs.Equal.{same_bit, same_whole, same_value, same_values, same_fields, same_kind, same_id_in, same_body, same_bodies, same_op, are_first}
use Rattle.room_nodes.proofs.Gets.{same, same_self}
use Rattle.room_log.specs.Log.{op_of}

-- values

bit_same : (a b : Bool) → Decides (same_bit a b) (a ≡ b)
bit_same true b = (λ e. sym e, λ e. sym e)
bit_same false true = (λ e. cc, λ e. e)
bit_same false false = (λ e. refl, λ e. refl)

whole_same : (y z : ℤ) → Decides (same_whole y z) (y ≡ z)
whole_same (pos m) (pos n) = Decides-like _ (ap pos) (λ e. cc) (Decides-eqb m n)
whole_same (negsuc m) (negsuc n) = Decides-like _ (ap negsuc) (λ e. cc) (Decides-eqb m n)
whole_same (pos m) (negsuc n) = (λ e. cc, λ e. cc)
whole_same (negsuc m) (pos n) = (λ e. cc, λ e. cc)

mutual
  pub value_same : (v w : Value) → Decides (same_value v w) (v ≡ w)
  value_same nothing nothing = (λ e. refl, λ e. refl)
  value_same (flag a) (flag b) = Decides-like _ (ap flag) (λ e. cc) (bit_same a b)
  value_same (whole y) (whole z) = Decides-like _ (ap whole) (λ e. cc) (whole_same y z)
  value_same (text s) (text t) = Decides-like _ (ap text) (λ e. cc) (bytes_eq-Decides s t)
  value_same (list vs) (list ws) = Decides-like _ (ap list) (λ e. cc) (values_same vs ws)
  value_same (members fs) (members gs) = Decides-like _ (ap members) (λ e. cc) (fields_same fs gs)
  value_same _ _ = (λ e. cc, λ e. cc)

  pub values_same : (vs ws : Values) → Decides (same_values vs ws) (vs ≡ ws)
  values_same no_values no_values = (λ e. refl, λ e. refl)
  values_same (value v vs) (value w ws) = Decides-like _ (λ p. cc) (λ e. (cc, cc)) (Decides-and _ _ (value_same v w) (values_same vs ws))
  values_same _ _ = (λ e. cc, λ e. cc)

  pub fields_same : (fs gs : Fields) → Decides (same_fields fs gs) (fs ≡ gs)
  fields_same no_fields no_fields = (λ e. refl, λ e. refl)
  fields_same (field j v fs) (field k w gs) =
      Decides-like _ (λ p. cc) (λ e. (cc, (cc, cc))) (Decides-and _ _ (bytes_eq-Decides j k) (Decides-and _ _ (value_same v w) (fields_same fs gs)))
  fields_same _ _ = (λ e. cc, λ e. cc)

-- members and values of a register are told by the values that they are seen as

values_inj : (xs ys : List Value) → values_of xs ≡ values_of ys → xs ≡ ys
values_inj xs ys e = sym (values_list-values_of xs) ∙ ap values_list e ∙ values_list-values_of ys

fields_inj : (fs gs : List (List ℕ × Value)) → fields_of fs ≡ fields_of gs → fs ≡ gs
fields_inj fs gs e = sym (fields_list-fields_of fs) ∙ ap fields_list e ∙ fields_list-fields_of gs

pub json_inj : (v w : Json) → json_of v ≡ json_of w → v ≡ w
json_inj Null Null e = refl
json_inj (Flag a) (Flag b) e = cc
json_inj (Int y) (Int z) e = cc
json_inj (Text s) (Text t) e = cc
json_inj (Items xs) (Items ys) e = ap Items (values_inj xs ys (cc))
json_inj (Entries fs) (Entries gs) e = ap Entries (fields_inj fs gs (cc))
json_inj _ _ e = cc

pub members_same : (fs gs : List (List ℕ × Value)) → Decides (same_fields (fields_of fs) (fields_of gs)) (fs ≡ gs)
members_same fs gs = Decides-like _ (fields_inj fs gs) (ap fields_of) (fields_same (fields_of fs) (fields_of gs))

pub json_same : (v w : Json) → Decides (same_value (json_of v) (json_of w)) (v ≡ w)
json_same v w = Decides-like _ (json_inj v w) (ap json_of) (value_same (json_of v) (json_of w))

-- operations

id_same : (x y : NodeId) → Decides (is_same x y) (x ≡ y)
id_same x y = (same x y, λ e. ap (is_same x) (sym e) ∙ same_self x)

id_in_same : (x y : Option NodeId) → Decides (same_id_in x y) (x ≡ y)
id_in_same None None = (λ e. refl, λ e. refl)
id_in_same (Some x) (Some y) = Decides-like _ (ap Some) (λ e. cc) (id_same x y)
id_in_same _ _ = (λ e. cc, λ e. cc)

pub kind_same : (k l : Kind) → Decides (same_kind k l) (k ≡ l)
kind_same (Object fs) (Object gs) = Decides-like _ (ap Object) (λ e. cc) (members_same fs gs)
kind_same Listed Listed = (λ e. refl, λ e. refl)
kind_same Map Map = (λ e. refl, λ e. refl)
kind_same (Register v) (Register w) = Decides-like _ (ap Register) (λ e. cc) (json_same v w)
kind_same _ _ = (λ e. cc, λ e. cc)

pub body_same : (a b : Body) → Decides (same_body a b) (a ≡ b)
body_same (SetKey x j) (SetKey y k) = Decides-like _ (λ p. cc) (λ e. (cc, cc)) (Decides-and _ _ (id_same x y) (bytes_eq-Decides j k))
body_same (Create x p j r a) (Create y q k s b) =
    Decides-like _ (λ p. cc) (λ e. (cc, (cc, (cc, (cc, cc)))))
    (Decides-and _ _ (id_same x y) (Decides-and _ _ (id_same p q) (Decides-and _ _ (bytes_eq-Decides j k) (Decides-and _ _ (id_in_same r s) (kind_same a b)))))
body_same (Update x fs) (Update y gs) = Decides-like _ (λ p. cc) (λ e. (cc, cc)) (Decides-and _ _ (id_same x y) (members_same fs gs))
body_same (Delete x) (Delete y) = Decides-like _ (ap Delete) (λ e. cc) (id_same x y)
body_same (DeleteKey x j) (DeleteKey y k) = Decides-like _ (λ p. cc) (λ e. (cc, cc)) (Decides-and _ _ (id_same x y) (bytes_eq-Decides j k))
body_same _ _ = (λ e. cc, λ e. cc)

pub bodies_same : (xs ys : List Body) → Decides (same_bodies xs ys) (xs ≡ ys)
bodies_same [] [] = (λ e. refl, λ e. refl)
bodies_same (a ∷ xs) (b ∷ ys) = Decides-like _ (λ p. cc) (λ e. (cc, cc)) (Decides-and _ _ (body_same a b) (bodies_same xs ys))
bodies_same _ _ = (λ e. cc, λ e. cc)

op_inj : (o q : Op) → o.id.0.actor ≡ q.id.0.actor → o.id.0.clock ≡ q.id.0.clock → o.body ≡ q.body → o ≡ q
op_inj o q a c b =
    ap (λ x. op_of x o.id.0.clock o.body) a ∙ ap (λ x. op_of q.id.0.actor x o.body) c ∙ ap (op_of q.id.0.actor q.id.0.clock) b

pub op_same : (o q : Op) → Decides (same_op o q) (o ≡ q)
op_same o q = Decides-like _ (λ p. op_inj o q p.0 p.1.0 p.1.1)
    (λ e. (ap (λ (x : Op). x.id.0.actor) e, (ap (λ (x : Op). x.id.0.clock) e, ap (λ (x : Op). x.body) e)))
    (Decides-and _ _ (Decides-eqb o.id.0.actor q.id.0.actor) (Decides-and _ _ (Decides-eqb o.id.0.clock q.id.0.clock) (body_same o.body q.body)))

-- a list that the other begins with, and what is left of that
pub first_same : (os qs : List Op) → Decides (are_first os qs) ((rest : List Op) × (qs ≡ os ++ rest))
first_same [] qs = (λ e. (qs, refl), λ h. refl)
first_same (o ∷ os) [] = (λ e. cc, λ h. let p = h.1 in cc)
first_same (o ∷ os) (q ∷ qs) = Decides-like _ (λ p. (p.1.0, cc (p.0, p.1.1))) (λ h. let p = h.1 in (cc, (h.0, cc))) (Decides-and _ _ (op_same o q) (first_same os qs))
