-- The nodes of a live value, put under a node one after another: what is shown there then.
use Rattle.std.proofs.Common.{◌≡◌, ◌≢◌, ◌≤◌, ◌+◌, ℕ, Bool, true, false, cond, List, [], ◌∷◌, ◌++◌, Option, Some, None, option_map, Less, refl, sym, ap, ◌∙◌, subst, arith}
use Rattle.std.specs.Prelude.{⊤}
use Rattle.std.specs.BTreeMap.{insert_entry}
use Rattle.std.specs.Cmp.Lexicographic.{slice_cmp}
use Rattle.std.specs.FinMap.{get, find, put}
use Rattle.std.specs.FinMap.Entries.{find-put}
use Rattle.std.specs.List.{AllByRecursion}
use Rattle.std.specs.Map.{keys_of}
use Rattle.std.specs.Ordering.{nat_cmp, eq_by_cmp}
use Rattle.std.proofs.lemmas.Cmp.{nat_list_cmp_total}
use Rattle.room_ids.specs.Position.{is_pos}
use Rattle.room_ids.specs.declared.ids.NodeId.{NodeId}
use Rattle.room_json.specs.Value.{merged}
use Rattle.room_nodes.specs.declared.nodes.Body.{Body}
use Rattle.room_nodes.specs.declared.nodes.Node.{Node}
use Rattle.room_nodes.specs.Shape.{Nodes, IsFormed, child_at, has_field, is_list, is_register}
use Rattle.room_nodes.specs.Steps.{fold}
use Rattle.room_nodes.proofs.Fitting.{the_parent}
use Rattle.room_nodes.proofs.Gets.{true_false}
use Rattle.room_nodes.proofs.Places.{not_below_itself}
use Rattle.room_steps.proofs.Kin.{child_of}
use Rattle.room_steps.proofs.Fields.{same_fields, ordered_put, same_name, key_self}
use Rattle.room_steps.proofs.Restoring.{fold-append}
use Rattle.room_items.specs.View.{view_at, view_within}
use Rattle.room_model.specs.Edits.{too_long}
use Rattle.room_model.specs.Init.{Init, made_id, creates, init_view, nodes_in, node_depth, positions_in}
use Rattle.room_model.specs.Sound.{IsSoundInit}
use Rattle.room_effect.specs.Effect.{AreLive}
use Rattle.room_effect.proofs.Created.{FreshFrom, Grown, grown_local, grown_then, live_append}
use Rattle.room_effect.proofs.Keyed.{kids_of, find_kids, kids_ordered, kid_shown}
use Rattle.room_effect.proofs.Local.{Pair, enough}
use Rattle.room_effect.proofs.Members.{insert_put}

-- i may be put under the node p of x at k
pub record MayStand (u : Nodes) (x : NodeId) (p : Node) (k : List ℕ) (i : Init) : Type 0 where
  pub free : child_at u x k ≡ None
  pub plain : has_field k p.kind ≡ false
  pub place : is_list p.kind ≡ true → is_pos k ≡ true
  pub deep : node_depth (p.depth + 1) i ≤ 60
  pub short : too_long (positions_in i) ≡ None
  pub sound : IsSoundInit i

-- what came of it
pub record Grafted (u w : Nodes) (x : NodeId) (k : List ℕ) (a c : ℕ) (i : Init) (bs : List Body) : Type 0 where
  pub is : fold u bs ≡ w
  pub live : AreLive u bs
  pub grown : Grown u w x a (c + nodes_in i)
  pub child : child_at w x k ≡ Some (made_id a c)
  pub beside : (j : List ℕ) → j ≢ k → child_at w x j ≡ child_at u x j
  pub shown : view_at w (made_id a c) ≡ init_view i

abbrev pub Grafts : Init → Type 0
Grafts i = (u : Nodes) (a c : ℕ) (x : NodeId) (p : Node) (k : List ℕ) → IsFormed u → FreshFrom u a c → get u x ≡ Some p → is_register p.kind ≡ false → MayStand u x p k i
    → (w : Nodes) × Grafted u w x k a c i (creates a c x k None i)

-- with it, the children of x show it too

module _ (u w : Nodes) (f : IsFormed u) (x : NodeId) (p : Node) (there : get u x ≡ Some p) (k : List ℕ) (a c : ℕ) (i : Init) (bs : List Body) (new : get u (made_id a c) ≡ None) (r : Grafted u w x k a c i bs) where
  id_shown : (o : Option NodeId) → child_at w x k ≡ o → o ≡ Some (made_id a c) → view_within 59 w (made_id a c) ≡ view_at w (made_id a c)
  unfolding view_at
  id_shown o e is =
      let h = child_of w x k (made_id a c) (e ∙ is) in
      let q = the_parent w r.grown.formed (made_id a c) h.node h.made h.there in
      enough w r.grown.formed 59 60 (made_id a c) h.node h.there (omega (arith, q.2.depth)) (omega arith)

  name_by : (q : List ℕ) (b : Bool) → eq_by_cmp (slice_cmp nat_cmp) q k ≡ b
      → find (slice_cmp nat_cmp) q (kids_of 59 w x) ≡ cond b (Some (init_view i)) (find (slice_cmp nat_cmp) q (kids_of 59 u x))
  name_by q true e =
      find_kids 59 w x q ∙ ap (λ j. option_map (view_within 59 w) (child_at w x j)) (same_name q k e) ∙ ap (option_map (view_within 59 w)) r.child
      ∙ ap Some (id_shown _ refl r.child ∙ r.shown)
  name_by q false e =
      let other : q ≢ k = λ is. true_false (sym (key_self q) ∙ ap (eq_by_cmp (slice_cmp nat_cmp) q) is ∙ e) in
      kid_shown u w f x (λ y. false) (grown_local u w x a (c + nodes_in i) r.grown) p there 59 q (sym (r.beside q other)) (λ y at. refl)

  pub graft_kids : kids_of 59 w x ≡ insert_entry (slice_cmp nat_cmp) (kids_of 59 u x) k (init_view i)
  graft_kids =
      same_fields (kids_of 59 w x) (put (slice_cmp nat_cmp) k (init_view i) (kids_of 59 u x)) (kids_ordered 59 w x) (ordered_put k (init_view i) (kids_of 59 u x) (kids_ordered 59 u x))
      (λ q. name_by q (eq_by_cmp (slice_cmp nat_cmp) q k) refl ∙ sym (find-put (slice_cmp nat_cmp) nat_list_cmp_total q k (init_view i) (kids_of 59 u x)))
      ∙ sym (insert_put (kids_of 59 u x) k (init_view i))

-- several live values, by key

abbrev pub Entry : Type 0
Entry = List ℕ × Init

abbrev pub entry_nodes : List Entry → ℕ
entry_nodes [] = 0
entry_nodes (e ∷ es) = nodes_in e.1 + entry_nodes es

abbrev pub entry_creates : ℕ → ℕ → NodeId → List Entry → List Body
entry_creates a c x [] = []
entry_creates a c x (e ∷ es) = creates a c x e.0 None e.1 ++ entry_creates a (c + nodes_in e.1) x es

abbrev pub entry_views : List Entry → List Pair
entry_views [] = []
entry_views (e ∷ es) = (e.0, init_view e.1) ∷ entry_views es

abbrev pub AllGraft : List Entry → Type 0
AllGraft [] = ⊤
AllGraft (e ∷ es) = Grafts e.1 × AllGraft es

abbrev pub AllMayStand : Nodes → NodeId → Node → List Entry → Type 0
AllMayStand u x p [] = ⊤
AllMayStand u x p (e ∷ es) = MayStand u x p e.0 e.1 × AllByRecursion (λ n. slice_cmp nat_cmp e.0 n ≡ Less) (keys_of es) × AllMayStand u x p es

pub record Planted (u w : Nodes) (x : NodeId) (a c : ℕ) (es : List Entry) (bs : List Body) : Type 0 where
  pub is : fold u bs ≡ w
  pub live : AreLive u bs
  pub grown : Grown u w x a (c + entry_nodes es)
  pub kids : kids_of 59 w x ≡ merged (kids_of 59 u x) (entry_views es)

less_other : (j k : List ℕ) → slice_cmp nat_cmp k j ≡ Less → j ≢ k
less_other j k l is = not_below_itself k (ap (slice_cmp nat_cmp k) (sym is) ∙ l)

-- those to come may stand still
still_may : (u w : Nodes) (x : NodeId) (p : Node) (k : List ℕ) → ((j : List ℕ) → j ≢ k → child_at w x j ≡ child_at u x j) → (es : List Entry)
    → AllByRecursion (λ n. slice_cmp nat_cmp k n ≡ Less) (keys_of es) → AllMayStand u x p es → AllMayStand w x p es
still_may u w x p k same [] l m = tt
still_may u w x p k same (e ∷ es) l m = (
  record { free = same e.0 (less_other e.0 k l.0) ∙ m.0.free; plain = m.0.plain; place = m.0.place; deep = m.0.deep; short = m.0.short; sound = m.0.sound },
  m.1,
  still_may u w x p k same es l.1 m.2,
)

pub planted : (es : List Entry) → AllGraft es → (u : Nodes) (a c : ℕ) (x : NodeId) (p : Node) → IsFormed u → FreshFrom u a c → get u x ≡ Some p → is_register p.kind ≡ false → AllMayStand u x p es
    → (w : Nodes) × Planted u w x a c es (entry_creates a c x es)
planted [] each u a c x p f new there holds may = (
  u,
  record {
    is = refl;
    live = tt;
    grown = record { formed = f; node = λ q n e. e; kids = λ q n e o. refl; fresh = λ j l. new j (omega (arith, l)) };
    kids = refl;
  },
)
planted (e ∷ es) each u a c x p f new there holds may =
    let g = each.0 u a c x p e.0 f new there holds may.0 in
    let v = g.0 in
    let r = g.1 in
    let h = planted es each.1 v a (c + nodes_in e.1) x p r.grown.formed r.grown.fresh (r.grown.node x p there) holds (still_may u v x p e.0 r.beside es may.1 may.2) in
    let w = h.0 in
    let s = h.1 in
    let all : c + nodes_in e.1 + entry_nodes es ≡ c + (nodes_in e.1 + entry_nodes es) = omega arith in (
      w,
      record {
        is = fold-append u (creates a c x e.0 None e.1) (entry_creates a (c + nodes_in e.1) x es) ∙ ap (λ (z : Nodes). fold z (entry_creates a (c + nodes_in e.1) x es)) r.is ∙ s.is;
        live = live_append u (creates a c x e.0 None e.1) (entry_creates a (c + nodes_in e.1) x es) r.live (subst (λ (z : Nodes). AreLive z (entry_creates a (c + nodes_in e.1) x es)) (sym r.is) s.live);
        grown = subst (λ d. Grown u w x a d) all (grown_then u v w x a (c + nodes_in e.1) (c + nodes_in e.1 + entry_nodes es) r.grown s.grown);
        kids = s.kids ∙ ap (λ ks. merged ks (entry_views es)) (graft_kids u v f x p there e.0 a c e.1 (creates a c x e.0 None e.1) (new c (omega arith)) r);
      },
    )
