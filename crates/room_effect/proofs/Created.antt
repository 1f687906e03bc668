-- A new node where nothing stands, and what new nodes under a node leave as it is.
use Rattle.std.proofs.Common.{◌≡◌, ◌≢◌, ◌≤◌, ◌<◌, ◌+◌, ℕ, suc, inl, inr, Bool, true, false, cond, not, ◌&&◌, ◌||◌, nat_le, nat_lt, List, [], ◌∷◌, ◌++◌, length, Option, Some, None, is_some, refl, sym, ap, ◌∙◌, subst, arith}
use Rattle.std.proofs.lemmas.Bool.Decides.{nat_tests}
use Rattle.std.specs.FinMap.{get, insert}
use Rattle.room_ids.specs.Position.{is_pos, is_some_text, between}
use Rattle.room_ids.specs.declared.ids.NodeId.{NodeId}
use Rattle.room_ids.specs.declared.ids.NodeId.TheVariants.{Root, Made}
use Rattle.room_nodes.specs.declared.nodes.Body.{Body}
use Rattle.room_nodes.specs.declared.nodes.Body.TheVariants.{Create}
use Rattle.room_nodes.specs.declared.nodes.Kind.{Kind}
use Rattle.room_nodes.specs.declared.nodes.Node.{Node}
use Rattle.room_nodes.specs.Shape.{Nodes, IsFormed, child_at, children, has_field, is_list, is_register}
use Rattle.room_nodes.specs.Steps.{step, fold, is_void, settled_body, settled_key, next_key, is_other, is_placed, has_room, holds_list}
use Rattle.room_nodes.proofs.Fitting.{both, the_parent}
use Rattle.room_nodes.proofs.Gets.{get_here, get_other, here_or_old, some_none}
use Rattle.room_nodes.proofs.Steps.{formed-step}
use Rattle.room_steps.proofs.Kin.{IsChild, child_of, found, same_child, same_children}
use Rattle.room_steps.proofs.Restoring.{created_plain}
use Rattle.room_model.specs.Init.{made_id}
use Rattle.room_effect.specs.Effect.{AreLive}
use Rattle.room_effect.proofs.Local.{IsLocal}

-- ids of an actor

abbrev pub FreshFrom : Nodes → ℕ → ℕ → Type 0
FreshFrom t a c = (j : ℕ) → c ≤ j → get t (made_id a j) ≡ None

abbrev clock_in : NodeId → ℕ
clock_in Root = 0
clock_in (Made s) = s.clock

pub other_id : (a c j : ℕ) → suc c ≤ j → made_id a j ≢ made_id a c
other_id a c j l e = let is : j ≡ c = ap clock_in e in omega (arith, l, is)

pub not_root : (a c : ℕ) → made_id a c ≢ Root
not_root a c e = cc

-- u has grown to w by nodes under x, which took the actor's clocks up to c

pub record Grown (u w : Nodes) (x : NodeId) (a c : ℕ) : Type 0 where
  pub formed : IsFormed w
  pub node : (q : NodeId) (n : Node) → get u q ≡ Some n → get w q ≡ Some n
  pub kids : (q : NodeId) (n : Node) → get u q ≡ Some n → q ≢ x → children w q ≡ children u q
  pub fresh : FreshFrom w a c

pub grown_local : (u w : Nodes) (x : NodeId) (a c : ℕ) → Grown u w x a c → IsLocal u w x (λ q. false)
grown_local u w x a c g = record {
  node = λ q n e s o. (n, g.node q n e, refl);
  kids = λ q n e s o. g.kids q n e o;
  closed = λ q n e r o s. refl;
}

pub grown_then : (u v w : Nodes) (x : NodeId) (a c d : ℕ) → Grown u v x a c → Grown v w x a d → Grown u w x a d
grown_then u v w x a c d g h = record {
  formed = h.formed;
  node = λ q n e. h.node q n (g.node q n e);
  kids = λ q n e o. h.kids q n (g.node q n e) o ∙ g.kids q n e o;
  fresh = h.fresh;
}

-- and then under one of these nodes
pub grown_under : (u v w : Nodes) (x y : NodeId) (a c d : ℕ) → get u y ≡ None → Grown u v x a c → Grown v w y a d → Grown u w x a d
grown_under u v w x y a c d new g h = record {
  formed = h.formed;
  node = λ q n e. h.node q n (g.node q n e);
  kids = λ q n e o. h.kids q n (g.node q n e) (λ is. some_none n (sym e ∙ ap (get u) is ∙ new)) ∙ g.kids q n e o;
  fresh = h.fresh;
}

-- operations that are live, in two parts
pub live_append : (t : Nodes) (bs cs : List Body) → AreLive t bs → AreLive (fold t bs) cs → AreLive t (bs ++ cs)
live_append t [] cs h k = k
live_append t (b ∷ bs) cs h k = (h.0, h.1, live_append (step t b) bs cs h.2 k)

-- one create

pub not_void : (a r l q : Bool) → a ≡ false → r ≡ true → (l ≡ true → q ≡ true) → (a || (not r || (l && not q))) ≡ false
not_void a r true q e h g = rw (e, h, g refl) refl
not_void a r false q e h g = rw (e, h) refl

pub fits_length : (k : List ℕ) → is_pos k ≡ true → nat_le (length k) 4096 ≡ true
fits_length k h = (both (nat_le (length k) 4096) _ (both (is_some_text k) _ h).1).0

pub either_way : {A : Type 0} (b : Bool) (x : A) → cond b x x ≡ x
either_way true x = refl
either_way false x = refl

pub has_room_there : (r : Bool) (d : ℕ) → r ≡ false → d < 60 → (not r && nat_lt d 60) ≡ true
has_room_there true d e h = cc
has_room_there false d e h = grind (arith, nat_tests)

module _ (u : Nodes) (f : IsFormed u) (a c : ℕ) (new : FreshFrom u a c) (x : NodeId) (k : List ℕ) (kind : Kind) (p : Node) (there : get u x ≡ Some p) (holds : is_register p.kind ≡ false)
    (low : p.depth < 60) (free : child_at u x k ≡ None) (place : is_list p.kind ≡ true → is_pos k ≡ true) (plain : has_field k p.kind ≡ false) where
  abbrev pub id : NodeId
  id = made_id a c

  abbrev pub node : Node
  node = record { parent = x; key = k; depth = p.depth + 1; kind = kind }

  abbrev pub body : Body
  body = Create (made_id a c) x k None kind

  abbrev pub now : Nodes
  now = insert u (made_id a c) (record { parent = x; key = k; depth = p.depth + 1; kind = kind })

  pub fresh_id : get u id ≡ None
  fresh_id = new c (omega arith)

  settled_there : settled_key u x id k ≡ k
  settled_there = ap (λ o. cond (is_other id o) (between k (next_key u x k)) k) free

  pub create_live : is_void u body ≡ false
  create_live = not_void (is_some (get u id)) (has_room (get u x)) (holds_list (get u x)) (is_placed u x id k)
      (ap is_some fresh_id) (ap has_room there ∙ has_room_there (is_register p.kind) p.depth holds low)
      (λ h. let pos = place (ap holds_list (sym there) ∙ h) in rw (settled_there, pos, fits_length k pos) refl)

  pub create_settled : settled_body u body ≡ body
  create_settled = ap (λ z. cond (is_void u body || not (holds_list (get u x))) body (Create id x z None kind)) settled_there ∙ either_way _ body

  pub create_step : step u body ≡ now
  create_step = created_plain u id x k kind p fresh_id there holds low free place plain

  pub create_formed : IsFormed now
  create_formed = subst IsFormed create_step (formed-step u f body)

  pub create_here : get now id ≡ Some node
  create_here = get_here u id node

  old : (q : NodeId) (n : Node) → get u q ≡ Some n → get now q ≡ Some n
  old q n e = get_other u id node q (λ is. some_none n (sym e ∙ ap (get u) is ∙ fresh_id)) ∙ e

  kid_stays : (q : NodeId) (j : List ℕ) (y : NodeId) → IsChild u q j y → IsChild now q j y
  kid_stays q j y e = record { node = e.node; there = old y e.node e.there; made = e.made; parent = e.parent; key = e.key }

  -- a child of another node, or at another key, was there
  kid_was : (q : NodeId) (j : List ℕ) (y : NodeId) → (q ≡ x → j ≡ k → ⊥) → IsChild now q j y → IsChild u q j y
  kid_was q j y other e = elim (here_or_old u id node y e.node e.there) [
    | inl h ↦ absurd (other (sym e.parent ∙ ap (λ (n : Node). n.parent) h.1) (sym e.key ∙ ap (λ (n : Node). n.key) h.1))
    | inr h ↦ record { node = e.node; there = h.1; made = e.made; parent = e.parent; key = e.key }
  ]

  pub create_grown : Grown u now x a (suc c)
  create_grown = record {
    formed = create_formed;
    node = old;
    kids = λ q n e o. same_children now u q (λ j. same_child now u f q j (λ y h. kid_was q j y (λ is same. o is) h) (λ y h. kid_stays q j y h));
    fresh = λ j l. get_other u id node (made_id a j) (other_id a c j l) ∙ new j (omega (arith, l));
  }

  pub create_child : child_at now x k ≡ Some id
  create_child = found now create_formed x k id (record { node = node; there = create_here; made = not_root a c; parent = refl; key = refl })

  pub create_beside : (j : List ℕ) → j ≢ k → child_at now x j ≡ child_at u x j
  create_beside j other = same_child now u f x j (λ y h. kid_was x j y (λ is same. other same) h) (λ y h. kid_stays x j y h)

  -- nothing stands under it
  pub create_bare : (j : List ℕ) (o : Option NodeId) → child_at now id j ≡ o → o ≡ None
  create_bare j None e = refl
  create_bare j (Some y) e =
      let h = child_of now id j y e in
      absurd (elim (here_or_old u id node y h.node h.there) [
        | inl i ↦ under_itself (ap (λ (n : Node). n.parent) (sym i.1) ∙ h.parent)
        | inr i ↦ orphan y h.node i.1 h.made h.parent
      ])
    where
      under_itself : x ≡ made_id a c → ⊥
      under_itself e = some_none p (sym there ∙ ap (get u) e ∙ new c (omega arith))

      orphan : (y : NodeId) (n : Node) → get u y ≡ Some n → y ≢ Root → n.parent ≡ made_id a c → ⊥
      orphan y n e made up = let q = the_parent u f y n made e in some_none q.0 (sym q.1 ∙ ap (get u) up ∙ new c (omega arith))
