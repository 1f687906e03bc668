-- A map that gets what it has.
use Rattle.std.proofs.Common.{◌≡◌, ℕ, cond, Some, Less, Equal, Greater, Ordering, refl, sym, ap, ◌∙◌, nat_cmp}
use Rattle.std.specs.Ordering.{is_eq}
use Rattle.std.specs.Cmp.{nat_cmp_total}
use Rattle.std.specs.FinMap.{FinMap, get, insert, get-insert, same_map, nat_cmp-IsAntisymmetric}

module _ {X : Type 0} where
  there_by : (o : Ordering) (m : FinMap nat_cmp X) (k q : ℕ) (v : X) → nat_cmp q k ≡ o → get m k ≡ Some v
      → cond (is_eq o) (Some v) (get m q) ≡ get m q
  there_by Less m k q v is h = refl
  there_by Equal m k q v is h = sym h ∙ ap (get m) (sym (nat_cmp-IsAntisymmetric q k is))
  there_by Greater m k q v is h = refl

  pub insert_there : (m : FinMap nat_cmp X) (k : ℕ) (v : X) → get m k ≡ Some v → insert m k v ≡ m
  insert_there m k v h = same_map nat_cmp_total nat_cmp-IsAntisymmetric _ _ (λ q.
      get-insert nat_cmp_total m k v q ∙ there_by (nat_cmp q k) m k q v refl h)
