-- A step of a well-formed tree is well-formed.
use Rattle.std.proofs.Common.{◌≡◌, ◌≢◌, ◌<◌, ◌+◌, ℕ, ◌⊎◌, inl, inr, Bool, true, false, cond, not, ◌&&◌, ◌||◌, nat_eq, List, [], ◌∷◌, Option, Some, None, is_some, refl, sym, ap, ◌∙◌, subst, arith, Equal}
use Rattle.std.specs.Ordering.{nat_cmp, eq_by_cmp, is_eq}
use Rattle.std.specs.Cmp.Lexicographic.{slice_cmp}
use Rattle.std.proofs.lemmas.Cmp.{nat_list_cmp_total, tied_itself}
use Rattle.std.specs.FinMap.{get, insert, find, put}
use Rattle.std.specs.FinMap.Entries.{find-put, find-where_key}
use Rattle.room_json.specs.Value.{Value}
use Rattle.room_nodes.specs.Shape.{Nodes, IsFormed, IsFree, fits_under, is_root_node, is_object, is_list, is_register, has_field, child_at, is_below}
use Rattle.room_ids.specs.Order.{is_same}
use Rattle.room_nodes.specs.Steps.{effect, without, without_replaced, without_child, without_children, changed, changed_at, on_fields, fields_kind, with_fields, without_field, holds_object, cleared, depth_in}
use Rattle.room_nodes.specs.Primitives.{CanHold, fields_in, kind_fields, with_fields_at}
use Rattle.room_nodes.proofs.Gets.{here_or_old, get_here, get_other, some_inj, same, true_false, get_kept, kept}
use Rattle.room_nodes.proofs.Fitting.{Fits, fits_from, the_parent}
use Rattle.room_nodes.proofs.Listing.{is_equal}
use Rattle.room_nodes.proofs.Undoing.{parent_other}
use Rattle.room_ids.specs.Position.{is_pos, is_some_text}
use Rattle.room_nodes.proofs.Below.{below_self, parent_not_below}
use Rattle.room_nodes.proofs.Children.{text_exact, child_at_some, child_at_none}
use Rattle.room_nodes.proofs.Formed.{formed-removed, formed-insert}
use Rattle.room_nodes.proofs.Putting.{formed-put}
use Rattle.room_ids.specs.declared.ids.NodeId.{NodeId}
use Rattle.room_ids.specs.declared.ids.NodeId.TheVariants.{Root}
use Rattle.room_nodes.specs.declared.nodes.Node.{Node}
use Rattle.room_nodes.specs.declared.nodes.Kind.{Kind}
use Rattle.room_nodes.specs.declared.nodes.Kind.TheVariants.{Object, List as Listed, Map as Mapped, Register}
use Rattle.room_nodes.specs.declared.nodes.Body.TheVariants.{Create, Update, DeleteKey}

-- u is t without some nodes, none of them p
pub record IsPruned (t u : Nodes) (p : NodeId) : Type 0 where
  pub formed : IsFormed u
  pub kept : (q : NodeId) (n : Node) → get u q ≡ Some n → get t q ≡ Some n
  pub here : get u p ≡ get t p

-- no child of p has the key k
abbrev pub NoChild : Nodes → NodeId → List ℕ → Type 0
NoChild t p k = (y : NodeId) (n : Node) → y ≢ Root → get t y ≡ Some n → n.parent ≡ p → n.key ≡ k → ⊥

module _ (p : NodeId) where
  cut_some : (t : Nodes) → IsFormed t → (k : List ℕ) (o : Option NodeId) → child_at t p k ≡ o → IsPruned t (without t o) p × NoChild (without t o) p k
  cut_some t f k None e = (record { formed = f; kept = λ q n h. h; here = refl }, child_at_none t p k e)
  cut_some t f k (Some c) e =
      let h = child_at_some t p k c e in (
        record {
          formed = formed-removed t c f h.2;
          kept = λ q n g. (kept t c q n g).0;
          here = get_kept t c p (ap (is_below t c) (sym h.3) ∙ parent_not_below t f c h.0 h.2 h.1);
        },
        λ y n made g parent key. let k = kept t c y n g in
            true_false (sym (ap (is_below t c) (same y c (f.keys y c n h.0 made h.2 k.0 h.1 (parent ∙ sym h.3) (key ∙ sym h.4))) ∙ below_self t c) ∙ k.1),
      )

  -- the child at a key goes
  pub cut_child : (t : Nodes) → IsFormed t → (k : List ℕ) → IsPruned t (without_child t p k) p × NoChild (without_child t p k) p k
  cut_child t f k = cut_some t f k _ refl

  chained : (t u v : Nodes) → IsPruned t u p → IsPruned u v p → IsPruned t v p
  chained t u v a b = record { formed = b.formed; kept = λ q n h. a.kept q n (b.kept q n h); here = b.here ∙ a.here }

  still_none : (t u : Nodes) (k : List ℕ) → IsPruned t u p → NoChild t p k → NoChild u p k
  still_none t u k a none y n made e = none y n made (a.kept y n e)

  -- a key among the names
  abbrev pub Named : {V : Type 0} → List ℕ → List (List ℕ × V) → Type 0
  Named k [] = ⊥
  Named k (e ∷ es) = (e.0 ≡ k) ⊎ Named k es

  pub cut_children : {V : Type 0} → (t : Nodes) → IsFormed t → (es : List (List ℕ × V)) → IsPruned t (without_children t p es) p × ((k : List ℕ) → Named k es → NoChild (without_children t p es) p k)
  cut_children t f [] = (record { formed = f; kept = λ q n h. h; here = refl }, λ k h. absurd h)
  cut_children t f (e ∷ es) =
      let a = cut_child t f e.0 in
      let u = without_child t p e.0 in
      let b = cut_children u a.0.formed es in (
        chained t u _ a.0 b.0,
        λ k h. elim h [
          | inl is ↦ subst (NoChild (without_children u p es) p) is (still_none u _ e.0 b.0 a.1)
          | inr m ↦ b.1 k m
        ],
      )

-- fields

key_same : (k j : List ℕ) → eq_by_cmp (slice_cmp nat_cmp) k j ≡ true → k ≡ j
key_same k j e = text_exact k j (is_equal _ e)

by_no : (b : Bool) → (b ≡ true → ⊥) → b ≡ false
by_no true h = absurd (h refl)
by_no false h = refl

put_absent : (k j : List ℕ) (v : Value) (fs : List (List ℕ × Value)) → (j ≡ k → ⊥) → is_some (find (slice_cmp nat_cmp) k fs) ≡ false → is_some (find (slice_cmp nat_cmp) k (put (slice_cmp nat_cmp) j v fs)) ≡ false
put_absent k j v fs n e =
    ap is_some (find-put (slice_cmp nat_cmp) nat_list_cmp_total k j v fs)
    ∙ ap (λ b. is_some (cond b (Some v) (find (slice_cmp nat_cmp) k fs))) (by_no (eq_by_cmp (slice_cmp nat_cmp) k j) (λ h. n (sym (key_same k j h)))) ∙ e

set_absent : (p : NodeId) (k : List ℕ) (es fs : List (List ℕ × Value)) → (Named p k es → ⊥) → is_some (find (slice_cmp nat_cmp) k fs) ≡ false → is_some (find (slice_cmp nat_cmp) k (with_fields es fs)) ≡ false
set_absent p k [] fs n e = e
set_absent p k (f ∷ es) fs n e = set_absent p k es (put (slice_cmp nat_cmp) f.0 f.1 fs) (λ h. n (inr h)) (put_absent k f.0 f.1 fs (λ h. n (inl h)) e)

none_kept : (b : Bool) (o : Option Value) → is_some o ≡ false → is_some (cond b o None) ≡ false
none_kept true o e = e
none_kept false o e = refl

alike_key : (k q x : List ℕ) → slice_cmp nat_cmp q x ≡ Equal → not (eq_by_cmp (slice_cmp nat_cmp) k x) ≡ not (eq_by_cmp (slice_cmp nat_cmp) k q)
alike_key k q x e = ap (λ y. not (eq_by_cmp (slice_cmp nat_cmp) k y)) (sym (text_exact q x e))

find_without : (k j : List ℕ) (fs : List (List ℕ × Value)) → find (slice_cmp nat_cmp) j (without_field k fs) ≡ cond (not (eq_by_cmp (slice_cmp nat_cmp) k j)) (find (slice_cmp nat_cmp) j fs) None
find_without k j fs = find-where_key (slice_cmp nat_cmp) (λ x. not (eq_by_cmp (slice_cmp nat_cmp) k x)) j (alike_key k j) fs

without_absent : (k j : List ℕ) (fs : List (List ℕ × Value)) → is_some (find (slice_cmp nat_cmp) j fs) ≡ false → is_some (find (slice_cmp nat_cmp) j (without_field k fs)) ≡ false
without_absent k j fs e = ap is_some (find_without k j fs) ∙ none_kept _ _ e

without_itself : (k : List ℕ) (fs : List (List ℕ × Value)) → is_some (find (slice_cmp nat_cmp) k (without_field k fs)) ≡ false
without_itself k fs = ap is_some (find_without k k fs) ∙ ap (λ b. is_some (cond (not b) (find (slice_cmp nat_cmp) k fs) None)) (ap is_eq (tied_itself nat_list_cmp_total k))

abbrev pub FieldsOf : Type 0
FieldsOf = List (List ℕ × Value)

module _ (g : FieldsOf → FieldsOf) where
  pub object_same : (k : Kind) → is_object (fields_kind g k) ≡ is_object k
  object_same (Object fs) = refl
  object_same Listed = refl
  object_same Mapped = refl
  object_same (Register v) = refl

  list_same : (k : Kind) → is_list (fields_kind g k) ≡ is_list k
  list_same (Object fs) = refl
  list_same Listed = refl
  list_same Mapped = refl
  list_same (Register v) = refl

  register_same : (k : Kind) → is_register (fields_kind g k) ≡ is_register k
  register_same (Object fs) = refl
  register_same Listed = refl
  register_same Mapped = refl
  register_same (Register v) = refl

  under_same : (o : Option Node) (n : Node) → fits_under o n ≡ true → fits_under o (on_fields g n) ≡ true
  under_same None n e = e
  under_same (Some p) n e = e

  -- a node whose fields change, where no child's key becomes a field
  pub formed_fields : (u : Nodes) → IsFormed u → (x : NodeId) (n : Node) → get u x ≡ Some n
      → ((y : NodeId) (k : Node) → y ≢ Root → get u y ≡ Some k → k.parent ≡ x → has_field k.key n.kind ≡ false → has_field k.key (fields_kind g n.kind) ≡ false)
      → IsFormed (insert u x (on_fields g n))
  formed_fields u f x n e plain = formed-put u f x (on_fields g n) (record {
    root = λ r. ap (λ b. nat_eq n.depth 0 && (is_same n.parent Root && (not (is_some_text n.key) && b))) (object_same n.kind) ∙ ap is_root_node (sym e ∙ ap (get u) r) ∙ f.root;
    parent = λ made. (parent_other u f x n made e, under_same (get u n.parent) n (f.parents x n made e));
    children = λ y k made other h parent.
        let p = the_parent u f y k made h in
        let is : p.0 ≡ n = some_inj p.0 n (sym p.1 ∙ ap (get u) parent ∙ e) in
        let old : Fits n k = subst (λ (v : Node). Fits v k) is p.2 in
        fits_from (on_fields g n) k (record {
          depth = old.depth;
          deep = old.deep;
          holds = register_same n.kind ∙ old.holds;
          plain = plain y k made h parent old.plain;
          place = ap (λ b. not b || is_pos k.key) (list_same n.kind) ∙ old.place;
        });
    key = λ made y k own other h parent key. other (same y x (f.keys y x k n own made h e parent key));
  })

set_plain : (p : NodeId) (key : List ℕ) (es : FieldsOf) (k : Kind) → (Named p key es → ⊥) → has_field key k ≡ false → has_field key (fields_kind (with_fields es) k) ≡ false
set_plain p key es (Object fs) n e = set_absent p key es fs n e
set_plain p key es Listed n e = refl
set_plain p key es Mapped n e = refl
set_plain p key es (Register v) n e = refl

drop_plain : (key j : List ℕ) (k : Kind) → has_field j k ≡ false → has_field j (fields_kind (without_field key) k) ≡ false
drop_plain key j (Object fs) e = without_absent key j fs e
drop_plain key j Listed e = refl
drop_plain key j Mapped e = refl
drop_plain key j (Register v) e = refl

drop_itself : (key : List ℕ) (k : Kind) → has_field key (fields_kind (without_field key) k) ≡ false
drop_itself key (Object fs) = without_itself key fs
drop_itself key Listed = refl
drop_itself key Mapped = refl
drop_itself key (Register v) = refl

-- the steps

pub object_there : (o : Option Node) → holds_object o ≡ true → (n : Node) × (o ≡ Some n)
object_there None e = cc
object_there (Some n) e = (n, refl)

plain_kind : (k : List ℕ) (kind : Kind) → is_object kind ≡ true → has_field k kind ≡ false → is_some (find (slice_cmp nat_cmp) k (kind_fields kind)) ≡ false
plain_kind k (Object gs) o e = e
plain_kind k Listed o e = cc
plain_kind k Mapped o e = cc
plain_kind k (Register v) o e = cc

-- no child's key is a field
plain_child : (u : Nodes) → IsFormed u → (x : NodeId) (n : Node) → get u x ≡ Some n → is_object n.kind ≡ true → (y : NodeId) (m : Node) → y ≢ Root → get u y ≡ Some m → m.parent ≡ x
    → is_some (find (slice_cmp nat_cmp) m.key (kind_fields n.kind)) ≡ false
plain_child u f x n e object y m own g parent =
    let q = the_parent u f y m own g in
    let fit : Fits n m = subst (λ (v : Node). Fits v m) (some_inj q.0 n (sym q.1 ∙ ap (get u) parent ∙ e)) q.2 in
    plain_kind m.key n.kind object fit.plain

fields_are : (g : FieldsOf → FieldsOf) (kind : Kind) → is_object kind ≡ true → fields_kind (λ _. g (kind_fields kind)) kind ≡ fields_kind g kind
fields_are g (Object fs) e = refl
fields_are g Listed e = cc
fields_are g Mapped e = cc
fields_are g (Register v) e = cc

fields_at : (g : FieldsOf → FieldsOf) (u : Nodes) (x : NodeId) (o : Option Node) → holds_object o ≡ true → changed_at u x (on_fields (λ _. g (fields_in o))) o ≡ changed_at u x (on_fields g) o
fields_at g u x None e = cc
fields_at g u x (Some n) e = ap (λ k. insert u x (record n { kind = k })) (fields_are g n.kind e)

-- changed fields are other fields
pub fields_changed : (g : FieldsOf → FieldsOf) (u : Nodes) (x : NodeId) → holds_object (get u x) ≡ true → with_fields_at u x (g (fields_in (get u x))) ≡ changed u x (on_fields g)
fields_changed g u x h = fields_at g u x (get u x) h

pub at_node : (u : Nodes) (x : NodeId) (g : Node → Node) (n : Node) → get u x ≡ Some n → changed u x g ≡ insert u x (g n)
at_node u x g n e = ap (changed_at u x g) e

pub formed-update : (t : Nodes) → IsFormed t → (x : NodeId) (fs : FieldsOf) → holds_object (get t x) ≡ true → IsFormed (effect t (Update x fs))
formed-update t f x fs h =
    let n = object_there (get t x) h in
    let c = cut_children x t f fs in
    let u = without_children t x fs in
    let e : get u x ≡ Some n.0 = c.0.here ∙ n.1 in
    subst IsFormed (sym (at_node u x (on_fields (with_fields fs)) n.0 e))
    (formed_fields (with_fields fs) u c.0.formed x n.0 e (λ y k made there parent old.
    set_plain x k.key fs n.0.kind (λ named. c.1 k.key named y k made there parent refl) old))

pub formed-delete_key : (t : Nodes) → IsFormed t → (x : NodeId) (k : List ℕ) → holds_object (get t x) ≡ true → IsFormed (effect t (DeleteKey x k))
formed-delete_key t f x k h =
    let n = object_there (get t x) h in
    let c = cut_child x t f k in
    let u = without_child t x k in
    let e : get u x ≡ Some n.0 = c.0.here ∙ n.1 in
    subst IsFormed (sym (at_node u x (on_fields (without_field k)) n.0 e))
    (formed_fields (without_field k) u c.0.formed x n.0 e (λ y m made there parent old. drop_plain k m.key n.0.kind old))

-- the fields that an update and a delete key leave
pub can_update : (t : Nodes) → IsFormed t → (x : NodeId) (fs : FieldsOf) → holds_object (get t x) ≡ true
    → CanHold (without_children t x fs) x (with_fields fs (fields_in (get (without_children t x fs) x)))
can_update t f x fs h =
    let n = object_there (get t x) h in
    let c = cut_children x t f fs in
    let u = without_children t x fs in
    let e : get u x ≡ Some n.0 = c.0.here ∙ n.1 in
    let object : is_object n.0.kind ≡ true = ap holds_object (sym n.1) ∙ h in
    record {
      object = ap holds_object e ∙ object;
      free = λ y m own g parent. ap (λ o. is_some (find (slice_cmp nat_cmp) m.key (with_fields fs (fields_in o)))) e
          ∙ set_absent x m.key fs (kind_fields n.0.kind) (λ named. c.1 m.key named y m own g parent refl) (plain_child u c.0.formed x n.0 e object y m own g parent);
    }

pub can_clear : (u : Nodes) → IsFormed u → (x : NodeId) (k : List ℕ) → holds_object (get u x) ≡ true → CanHold u x (without_field k (fields_in (get u x)))
can_clear u f x k h =
    let n = object_there (get u x) h in
    let object : is_object n.0.kind ≡ true = ap holds_object (sym n.1) ∙ h in
    record {
      object = h;
      free = λ y m own g parent. ap (λ o. is_some (find (slice_cmp nat_cmp) m.key (without_field k (fields_in o)))) n.1
          ∙ without_absent k m.key (kind_fields n.0.kind) (plain_child u f x n.0 n.1 object y m own g parent);
    }

pub absent : (t u : Nodes) (x : NodeId) → ((n : Node) → get u x ≡ Some n → get t x ≡ Some n) → is_some (get t x) ≡ false → is_some (get u x) ≡ false
absent t u x h e = elim (get u x) as (λ o. get u x ≡ o → is_some o ≡ false) [
  | None ↦ λ g. refl
  | Some n ↦ λ g. absurd (true_false (sym (ap is_some (h n g)) ∙ e))
] refl

-- a create under an object or a map
module _ (t : Nodes) (f : IsFormed t) (x p : NodeId) (k : List ℕ) (n : Node) (e : get t p ≡ Some n) where
  there_still : get (without_child t p k) p ≡ Some n
  there_still = (cut_child p t f k).0.here ∙ e

  cleared_is : changed (without_child t p k) p (on_fields (without_field k)) ≡ insert (without_child t p k) p (on_fields (without_field k) n)
  cleared_is = at_node (without_child t p k) p (on_fields (without_field k)) n there_still

  -- what stood at the key is gone
  pub formed-cleared : IsFormed (changed (without_child t p k) p (on_fields (without_field k)))
  formed-cleared = subst IsFormed (sym cleared_is) (formed_fields (without_field k) (without_child t p k) (cut_child p t f k).0.formed p n there_still (λ y j own h parent old. drop_plain k j.key n.kind old))

  module _ (kind : Kind) (list : is_list n.kind ≡ false) (register : is_register n.kind ≡ false) (deep : n.depth < 60) (fresh : is_some (get t x) ≡ false) where
    -- and the new node may stand there
    pub free-create : IsFree (changed (without_child t p k) p (on_fields (without_field k))) x (record { parent = p; key = k; depth = n.depth + 1; kind = kind })
    free-create =
        let c = cut_child p t f k in
        let u = without_child t p k in
        let m = on_fields (without_field k) n in
        let made : Node = record { parent = p; key = k; depth = n.depth + 1; kind = kind } in
        let other : x ≢ p = λ h. true_false (sym (ap is_some (ap (get t) h ∙ e)) ∙ fresh) in
        subst (λ (v : Nodes). IsFree v x made) (sym cleared_is) (record {
          fresh = ap is_some (get_other u p m x other) ∙ absent t u x (λ q g. c.0.kept x q g) fresh;
          parent = ap (λ o. fits_under o made) (get_here u p m) ∙ fits_from m made (record {
            depth = refl;
            deep = omega arith;
            holds = register_same (without_field k) n.kind ∙ register;
            plain = drop_itself k n.kind;
            place = ap (λ b. not b || is_pos k) (list_same (without_field k) n.kind ∙ list);
          });
          key = λ y q own g parent key. elim (here_or_old u p m y q g) [
            | inl h ↦ parent_other u c.0.formed p n (λ z. own (h.0 ∙ z)) there_still (sym (ap (λ (w : Node). w.parent) h.1) ∙ parent)
            | inr old ↦ c.1 y q own old.1 parent key
          ];
        })

    pub effect-create : (r : Option NodeId) → effect t (Create x p k r kind) ≡ insert (changed (without_child t p k) p (on_fields (without_field k))) x (record { parent = p; key = k; depth = n.depth + 1; kind = kind })
    effect-create r =
        ap (λ o. insert (cleared t p k r o) x (record { parent = p; key = k; depth = depth_in o + 1; kind = kind })) e
        ∙ ap (λ b. insert (cond b (without_replaced t p r) (changed (without_child t p k) p (on_fields (without_field k)))) x (record { parent = p; key = k; depth = n.depth + 1; kind = kind })) list

    pub formed-create : (r : Option NodeId) → IsFormed (effect t (Create x p k r kind))
    formed-create r = subst IsFormed (sym (effect-create r)) (formed-insert _ x (record { parent = p; key = k; depth = n.depth + 1; kind = kind }) formed-cleared free-create)
