-- A group without entries isn't open.
use Rattle.std.proofs.Common.{◌≡◌, ℕ, zero, suc, List, [], ◌∷◌, Bool, true, false, cond, nat_lt, nat_eq, length, refl, sym, ap, ◌∙◌, arith}
use Rattle.std.specs.Prelude.{Option, Some, None}
use Rattle.std.proofs.lemmas.Bool.Decides.{nat_tests}
use Rattle.room_log.specs.Log.{State, Entry}
use Rattle.room_bytes.specs.Reading.{◌>>=◌, group_of, each_at, ended, entry_at, u32_at}
use Rattle.room_bytes.specs.declared.entries.Format.TheVariants.{Two}
use Rattle.room_journal.specs.Rest.{body_of}
use Rattle.room_store.specs.Stored.{Stored, Grouped, LeadsTo, IsOpen, IsOpenFrom}

pub none_some : {X : Type 0} (x : X) → None ≡ Some x → ⊥
none_some x e = cc

filled : (b c : Bool) (x : Entry) (xs : List Entry) → cond b (cond c (Some (x ∷ xs)) None) None ≡ Some [] → ⊥
filled true true x xs e = apart e
  where
    apart : Some (x ∷ xs) ≡ Some [] → ⊥
    apart i = cc
filled true false x xs e = none_some [] e
filled false c x xs e = none_some [] e

abbrev finished : ℕ → List Entry × List ℕ → Option (List Entry)
finished n es = cond (nat_lt 0 n) (ended es) None

abbrev from_rest : Entry → Option (List Entry × List ℕ) → Option (List Entry × List ℕ)
from_rest x o = o >>= (λ xs. Some (x ∷ xs.0, xs.1))

by_rest : (n : ℕ) (x : Entry) (o : Option (List Entry × List ℕ)) → (from_rest x o >>= finished (suc n)) ≡ Some [] → ⊥
by_rest n x None e = none_some [] e
by_rest n x (Some xs) e = filled (nat_lt 0 (suc n)) (nat_eq (length xs.1) 0) x xs.0 e

by_first : (n : ℕ) (o : Option (Entry × List ℕ))
    → ((o >>= (λ x. from_rest x.0 (each_at (entry_at Two) n x.1))) >>= finished (suc n)) ≡ Some [] → ⊥
by_first n None e = none_some [] e
by_first n (Some x) e = by_rest n x.0 (each_at (entry_at Two) n x.1) e

no_count : (es : List Entry × List ℕ) → finished 0 es ≡ None
no_count es = ap (λ b. cond b (ended es) None) (no_less)
  where
    no_less : nat_lt 0 0 ≡ false
    no_less = grind (arith, nat_tests)

by_count : (n : ℕ) (bs : List ℕ) → (each_at (entry_at Two) n bs >>= finished n) ≡ Some [] → ⊥
unfolding each_at
by_count zero bs e = none_some [] (sym (no_count ([], bs)) ∙ e)
by_count (suc n) bs e = by_first n (entry_at Two bs) e

by_head : (o : Option (ℕ × List ℕ)) → (o >>= (λ n. each_at (entry_at Two) n.0 n.1 >>= finished n.0)) ≡ Some [] → ⊥
by_head None e = none_some [] e
by_head (Some n) e = by_count n.0 n.1 e

no_group : (bytes : List ℕ) → group_of bytes ≡ Some [] → ⊥
unfolding group_of
no_group bytes e = by_head (u32_at bytes) e

pub not_empty : (s shown : State) (g : Grouped) → LeadsTo s shown g → g.entries ≡ [] → ⊥
not_empty s shown g is none = no_group (body_of g.ready) (is.reads ∙ ap (λ (es : List Entry). Some es) none)

open_none : (o : Option State) (shown : State) (g : Grouped) → IsOpenFrom o shown g → g.entries ≡ [] → o ≡ None
open_none None shown g is none = refl
open_none (Some s) shown g is none = absurd (not_empty s shown g is none)

pub none_open : (s : Stored) (g : Grouped) → IsOpen s g → g.entries ≡ [] → s.before ≡ None
none_open s g is none = open_none s.before s.state g is none
