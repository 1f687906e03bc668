-- A part of a tree has no more nodes.
use Rattle.std.proofs.Common.{◌≡◌, ◌⊎◌, inl, inr, ◌≤◌, ◌<◌, ◌-◌, ℕ, zero, suc, Bool, true, false, cond, List, [], ◌∷◌, length, Some, None, is_some, refl, sym, ap, ◌∙◌, arith}
use Rattle.std.specs.FinMap.{get, remove, len, len-remove, len-entries, entries, contains_key}
use Rattle.room_ids.proofs.IdOrder.{node_cmp-total}
use Rattle.room_nodes.specs.Shape.{Nodes}
use Rattle.room_nodes.proofs.Gets.{some_none, get_without, get_beside, one_or_two}
use Rattle.room_nodes.proofs.Children.{answer_of}
use Rattle.room_nodes.proofs.Cutting.{some_len}
use Rattle.room_ids.specs.declared.ids.NodeId.{NodeId}
use Rattle.room_nodes.specs.declared.nodes.Node.{Node}

abbrev pub IsPart : Nodes → Nodes → Type 0
IsPart t u = (q : NodeId) → (get u q ≡ get t q) ⊎ (get u q ≡ None)

len_less : (b : Bool) (m k : ℕ) → b ≡ true → m ≡ cond b (k - 1) k → m ≡ k - 1
len_less true m k e h = h
len_less false m k e h = cc

pub len_without : (t : Nodes) (x : NodeId) (n : Node) → get t x ≡ Some n → len (remove t x) ≡ len t - 1
len_without t x n e = len_less (contains_key t x) _ (len t) (ap is_some e) (len-remove node_cmp-total t x)

part_without : (t u : Nodes) → IsPart t u → (x : NodeId) → IsPart (remove t x) (remove u x)
part_without t u h x q = elim (one_or_two q x) [
  | inl s ↦ inr (ap (get (remove u x)) s ∙ get_without u x)
  | inr s ↦ elim (h q) [
    | inl e ↦ inl (get_beside u x q s ∙ e ∙ sym (get_beside t x q s))
    | inr e ↦ inr (get_beside u x q s ∙ e)
  ]
]

shorter : (k l m n : ℕ) → l ≡ suc k → k ≤ m → m ≡ n - 1 → 1 ≤ n → l ≤ n
shorter k l m n a b c d = omega arith

first_of : (es : List (NodeId × Node)) (k : ℕ) → length es ≡ suc k → (e : NodeId × Node) × (fs : List (NodeId × Node)) × (es ≡ e ∷ fs)
first_of [] k h = cc
first_of (e ∷ fs) k h = (e, fs, refl)

has_first : (u : Nodes) (e : NodeId × Node) (fs : List (NodeId × Node)) → entries u ≡ e ∷ fs → get u e.0 ≡ Some e.1
has_first u e fs h = answer_of u e (rw h (inl refl))

pub part_len : (n : ℕ) (t u : Nodes) → len u ≡ n → IsPart t u → len u ≤ len t
part_len zero t u e h = omega arith
part_len (suc k) t u e h =
    let f = first_of (entries u) k (sym (len-entries u) ∙ e) in
    let x = f.0.0 in
    let here : get u x ≡ Some f.0.1 = has_first u f.0 f.1 f.2 in
    elim (h x) [
      | inl s ↦
          let less : len (remove u x) ≡ k = (let a = len_without u x f.0.1 here in omega (arith, a, e)) in
          shorter k (len u) (len (remove t x)) (len t) e (let r = part_len k (remove t x) (remove u x) less (part_without t u h x) in omega (arith, less, r)) (len_without t x f.0.1 (sym s ∙ here)) (some_len t x f.0.1 (sym s ∙ here))
      | inr s ↦ absurd (some_none f.0.1 (sym here ∙ s))
    ]

-- and fewer, where one is missing
pub part_less : (t u : Nodes) (y : NodeId) (n : Node) → IsPart t u → get t y ≡ Some n → get u y ≡ None → len u < len t
part_less t u y n h e none =
    let p : IsPart (remove t y) u = λ q. elim (one_or_two q y) [
      | inl s ↦ inr (ap (get u) s ∙ none)
      | inr s ↦ elim (h q) [ inl g ↦ inl (g ∙ sym (get_beside t y q s)) | inr g ↦ inr g ]
    ] in
    let a = part_len (len u) (remove t y) u refl p in
    let b = len_without t y n e in
    let c = some_len t y n e in
    omega (arith, a, b, c)
