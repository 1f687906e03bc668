-- The log only grows.
use Rattle.std.proofs.Common.{◌≡◌, ℕ, ◌+◌, ◌-◌, List, [], ◌∷◌, ◌++◌, length, take, refl, sym, ap, ◌∙◌, subst, arith, append-nil, append_assoc}
use Rattle.room_log.specs.Log.{State, Entry, Join, Updated, after, state_after, tree_after, tree_at, updates_of}
use Rattle.room_log.specs.Follows.{IsValidLog}
use Rattle.room_model.specs.Lines.{Line}
use Rattle.room_model.specs.World.{step}
use Rattle.room_model.specs.Run.{Run, run, line, opened}
use Rattle.room_laws.specs.Accounts.{KeepsSound}
use Rattle.room_laws.specs.Growth.{LogGrows, state_of}
use Rattle.room_laws.specs.Validity.{ItemsOfValid}
use Rattle.room_laws.proofs.RunSteps.{updates_of-append}
use Rattle.room_laws.proofs.SoundLines.{state_after-append}
use Rattle.room_laws.proofs.UndoSound.{lines_front, run-append}
use Rattle.room_laws.proofs.ValidRuns.{good}

-- what lines add to a log
pub record Adds (log later : List Entry) : Type 0 where
  pub more : List Entry
  pub is : later ≡ log ++ more

pub adds : (r : Run) (ls : List (ℕ × Line)) → Adds r.log (run r ls).log
adds r [] = record { more = []; is = sym (append-nil r.log) }
adds r (l ∷ ls) =
    let rest = adds (line r l.0 l.1) ls in
    record { more = (step r.world l.0 l.1).entries ++ rest.more; is = rest.is ∙ append_assoc r.log (step r.world l.0 l.1).entries rest.more }

-- what is behind a valid log is valid from where that leads
valid_rest : (s : State) (es fs : List Entry) → IsValidLog s (es ++ fs) → IsValidLog (state_after s es) fs
valid_rest s [] fs h = h
valid_rest s (e ∷ es) fs h = valid_rest (after s e) es fs h.1

-- the number of updates, and the tree, where a log leads

count_after : (s : State) (es : List Entry) → (state_after s es).count ≡ s.count + length (updates_of es)
count_after s [] = omega arith
count_after s (Join a key name ∷ es) = count_after (after s (Join a key name)) es
count_after s (Updated u ∷ es) = let r = count_after (after s (Updated u)) es in omega (arith, r)

tree_of : (s : State) (es : List Entry) → (state_after s es).tree ≡ tree_after s.tree (updates_of es)
tree_of s [] = refl
tree_of s (Join a key name ∷ es) = tree_of (after s (Join a key name)) es
tree_of s (Updated u ∷ es) = tree_of (after s (Updated u)) es

take_front : {A : Type 0} (xs ys : List A) (n : ℕ) → n ≡ length xs → take n (xs ++ ys) ≡ xs
take_front [] ys n e = rw e refl
take_front (x ∷ xs) ys n e = rw e (ap (λ zs. x ∷ zs) (take_front xs ys (length xs) refl))

front_tree : (s : State) (es fs : List Entry) → (state_after s es).tree ≡ tree_at s (es ++ fs) (state_after s es).count
front_tree s es fs =
    let n = (state_after s es).count - s.count in
    let c = count_after s es in
    let front : take n (updates_of (es ++ fs)) ≡ updates_of es =
    ap (take n) (updates_of-append es fs) ∙ take_front (updates_of es) (updates_of fs) n (omega (arith, c)) in
    tree_of s es ∙ ap (tree_after s.tree) (sym front)

module _ (keep : KeepsSound) (items : ItemsOfValid) where
  pub log_grows : LogGrows
  log_grows s ls ms h l =
      let r = run (opened s) ls in
      let later = run (opened s) (ls ++ ms) in
      let g = good keep items s ls h (lines_front ls ms l) in
      let all = good keep items s (ls ++ ms) h l in
      let a : Adds r.log later.log = subst (λ (z : Run). Adds r.log z.log) (sym (run-append ls ms (opened s))) (adds r ms) in
      let valid : IsValidLog (state_after s r.log) a.more = valid_rest s r.log a.more (subst (IsValidLog s) a.is all.log) in
      record {
        more = a.more;
        log = a.is;
        stands = g.state;
        goes_on = all.state ∙ ap (state_after s) a.is ∙ state_after-append s r.log a.more ∙ ap (λ (z : State). state_after z a.more) (sym g.state);
        valid = subst (λ (z : State). IsValidLog z a.more) (sym g.state) valid;
        tree = ap (λ (z : State). z.tree) g.state ∙ front_tree s r.log a.more ∙ ap (tree_at s (r.log ++ a.more)) (ap (λ (z : State). z.count) (sym g.state)) ∙ ap (λ (z : List Entry). tree_at s z (state_of r).count) (sym a.is);
      }
