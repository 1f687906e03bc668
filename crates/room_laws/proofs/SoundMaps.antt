-- What holds of each entry of a map from numbers.
use Rattle.std.proofs.Common.{◌≡◌, ℕ, Bool, true, false, cond, sym, ap, ◌∙◌, subst, ⊎_elim, nat_cmp}
use Rattle.std.specs.Prelude.{Option, Some, None}
use Rattle.std.proofs.lemmas.Bool.{cases_eq}
use Rattle.std.specs.FinMap.{FinMap, get, insert, remove}
use Rattle.room_model.specs.Server.{Link, not_held_by, without_actor}
use Rattle.room_laws.proofs.Maps.{get_same, get_other, removed_same, removed_other}
use Rattle.room_laws.proofs.Resumes.{without_at}

some_is : {X : Type 0} (x y : X) → Some x ≡ Some y → x ≡ y
some_is x y e = cc

none_some : {X : Type 0} (x : X) → None ≡ Some x → ⊥
none_some x e = cc

abbrev pub Each : (Link → Type 0) → FinMap nat_cmp Link → Type 0
Each P m = (k : ℕ) (l : Link) → get m k ≡ Some l → P l

module _ (P : Link → Type 0) (m : FinMap nat_cmp Link) (h : Each P m) where
  pub each_put : (k : ℕ) (x : Link) → P x → Each P (insert m k x)
  each_put k x p j l e = ⊎_elim
      (λ i. subst P (some_is x l (sym (get_same m k x) ∙ sym (ap (get (insert m k x)) i) ∙ e)) p)
      (λ i. h j l (sym (get_other m k x j i) ∙ e))
      (cases_eq j k)

  pub each_out : (k : ℕ) → Each P (remove m k)
  each_out k j l e = ⊎_elim
      (λ i. absurd (none_some l (sym (removed_same m k) ∙ sym (ap (get (remove m k)) i) ∙ e)))
      (λ i. h j l (sym (removed_other m k j i) ∙ e))
      (cases_eq j k)

  there : (b : Bool) (o : Option Link) (l : Link) → cond b o None ≡ Some l → o ≡ Some l
  there true o l e = e
  there false o l e = absurd (none_some l e)

  pub each_without : (a : ℕ) → Each P (without_actor m a)
  each_without a j l e = h j l (there (not_held_by a (get m j)) (get m j) l (sym (without_at m a j) ∙ e))
