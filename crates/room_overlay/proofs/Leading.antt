-- Steps that are taken back together: one more at the end, and one less.
use Rattle.std.proofs.Common.{◌≡◌, ◌≤◌, ◌+◌, ℕ, List, [], ◌∷◌, ◌++◌, ◌∙◌, refl, sym, ap, subst, arith}
use Rattle.std.specs.FinMap.{len}
use Rattle.room_nodes.specs.Shape.{Nodes}
use Rattle.room_nodes.specs.Steps.{fold, step}
use Rattle.room_nodes.specs.declared.nodes.Body.{Body}
use Rattle.room_nodes.specs.declared.nodes.Op.{Op}
use Rattle.room_log.specs.Log.{bodies_of}
use Rattle.room_apply.specs.Ways.{Way, CanGoBack, AreEdits, before, nodes_of}
use Rattle.room_overlay.specs.Together.{Leads, LeadBack}

more : (v : Nodes) (e : Way) (s : Nodes) (m n : ℕ) → Leads v e s m → m ≤ n → Leads v e s n
more v e s m n h le =
    record { undone = h.undone; can = h.can; before_is = h.before_is; place = let p = h.place in omega (arith, p, le) }

pub lead_more : (s : Nodes) (es : List Way) (u : Nodes) (m n : ℕ) → LeadBack s es u m → m ≤ n → LeadBack s es u n
lead_more s [] u m n h le = h
lead_more s (e ∷ es) u m n h le = (h.0, more h.0 e s m n h.1 le, lead_more h.0 es u m n h.2 le)

lead_push : (s : Nodes) (es : List Way) (u : Nodes) (m : ℕ) (e : Way) (v : Nodes)
    → LeadBack s es u m → Leads v e u m → LeadBack s (es ++ e ∷ []) v m
lead_push s [] u m e v h g = (v, subst (λ w. Leads v e w m) h g, refl)
lead_push s (x ∷ es) u m e v h g = (h.0, h.1, lead_push h.0 es u m e v h.2 g)

-- a step's edits, where there are spare places for them
leads_of : (t : Nodes) (b : Body) (u : Nodes) (e : Way) (d : ℕ) → AreEdits t b u e → nodes_of e ≤ d → Leads u e t (len u + d)
leads_of t b u e d h le = record {
  undone = h.goes.undone;
  can = h.can;
  before_is = h.before;
  place = let p = h.removed in let n = h.nodes in omega (arith, p, n, le);
}

pub lead_step : (s : Nodes) (es : List Way) (t : Nodes) (a : ℕ) (b : Body) (u : Nodes) (e : Way) (d : ℕ)
    → LeadBack s es t (len t + a) → AreEdits t b u e → nodes_of e ≤ d → len t + a ≤ len u + d
    → LeadBack s (es ++ e ∷ []) u (len u + d)
lead_step s es t a b u e d h edits le sum =
    lead_push s es t (len u + d) e u (lead_more s es t (len t + a) (len u + d) h sum) (leads_of t b u e d edits le)

abbrev Popped : Nodes → List Way → Way → Nodes → ℕ → Type 0
Popped s es e u m = (w : Nodes) × LeadBack s es w m × Leads u e w m

lead_pop : (s : Nodes) (es : List Way) (e : Way) (u : Nodes) (m : ℕ) → LeadBack s (es ++ e ∷ []) u m → Popped s es e u m
lead_pop s [] e u m h = (s, refl, subst (λ w. Leads w e s m) (sym h.2) h.1)
lead_pop s (x ∷ es) e u m h = let p = lead_pop h.0 es e u m h.2 in (p.0, (h.0, h.1, p.1), p.2)

-- what goes back on u with b spare places can go back, and where it leads

pub can_pop : (s : Nodes) (all es : List Way) (e : Way) (u : Nodes) (b : ℕ) → all ≡ es ++ e ∷ []
    → LeadBack s all u (len u + b) → CanGoBack u b e
can_pop s all es e u b last h =
    let p = lead_pop s es e u (len u + b) (subst (λ xs. LeadBack s xs u (len u + b)) last h) in
    (p.2.undone, (p.2.can, (let q = p.2.place in omega (arith, q))))

pub lead_back : (s : Nodes) (all es : List Way) (e : Way) (u : Nodes) (b : ℕ) (v : Nodes) (d : ℕ)
    → all ≡ es ++ e ∷ [] → v ≡ before u e → len v + d ≡ len u + b
    → LeadBack s all u (len u + b) → LeadBack s es v (len v + d)
lead_back s all es e u b v d last there sum h =
    let p = lead_pop s es e u (len u + b) (subst (λ xs. LeadBack s xs u (len u + b)) last h) in
    subst (λ w. LeadBack s es w (len v + d)) (sym (there ∙ p.2.before_is))
    (lead_more s es p.0 (len u + b) (len v + d) p.1 (omega (arith, sum)))

pub fold_more : (all rest : List Op) (o : Op) → all ≡ o ∷ rest → (t v w : Nodes) → v ≡ step t o.body
    → fold t (bodies_of all) ≡ w → fold v (bodies_of rest) ≡ w
fold_more all rest o here t v w e h =
    ap (λ z. fold z (bodies_of rest)) e ∙ sym (ap (λ xs. fold t (bodies_of xs)) here) ∙ h
