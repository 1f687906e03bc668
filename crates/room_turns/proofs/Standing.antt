-- What images stand for while turns are committed.
use Rattle.std.proofs.Common.{◌≡◌, ◌≤◌, ◌+◌, ℕ, List, [], ◌∷◌, ◌++◌, length, refl, sym, ap, ◌∙◌, subst}
use Rattle.std.proofs.Common.{arith, ⊎_elim, ◌⊎◌, length-append}
use Rattle.std.proofs.Math.Seq.{take-length}
use Rattle.std.proofs.lemmas.List.{take-append-le}
use Rattle.std.specs.Prelude.{Ok, Err}
use Rattle.room_disk.specs.Model.{Reads, Images, WholeBetween, WithinWhole}
use Rattle.room_host.specs.Rests.{Each}
use Rattle.room_journal.specs.Rest.{Place}
use Rattle.room_nodes.proofs.Gets.{true_false}
use Rattle.room_log.specs.Log.{State, Entry, state_after}
use Rattle.room_replay.specs.Files.{StandsFor}
use Rattle.room_server.specs.Commit.{Puts}
use Rattle.room_server.specs.declared.fault.ServerFault.{ServerFault}
use Rattle.room_serving.specs.Serving.{group_of}
use Rattle.room_store.specs.Calls.{Commits}
use Rattle.room_turns.specs.Holding.{StandsWithin, after_turns}
use Rattle.room_turns.specs.Turning.{CommitsTurn}
use Rattle.room_turns.specs.declared.fault.ServeFault.{ServeFault}

-- some turns, and then others

pub after_then : (s : State) (gs hs : List (List Entry)) → after_turns s (gs ++ hs) ≡ after_turns (after_turns s gs) hs
after_then s [] hs = refl
after_then s (g ∷ gs) hs = after_then (state_after s g) gs hs

pub after_group : (t : State) (es : List Entry) → after_turns t (group_of es) ≡ state_after t es
after_group t [] = refl
after_group t (e ∷ es) = refl

pub after_more : (s : State) (gs : List (List Entry)) (es : List Entry)
    → after_turns s (gs ++ group_of es) ≡ state_after (after_turns s gs) es
after_more s gs es = after_then s gs (group_of es) ∙ after_group (after_turns s gs) es

-- an image stands within them

pub stands_more : (s : State) (gs hs : List (List Entry)) (least : ℕ) (image : Reads) → StandsWithin s gs least image
    → StandsWithin s (gs ++ hs) least image
stands_more s gs hs least image h = record {
  count = h.count;
  enough = h.enough;
  within = omega (arith, h.within, length-append gs hs);
  stands =
      subst (λ (l : List (List Entry)). StandsFor 0 (after_turns s l) image)
      (sym (take-append-le h.count gs hs h.within)) h.stands;
}

pub stands_less : (s : State) (gs : List (List Entry)) (least less : ℕ) (image : Reads) → less ≤ least
    → StandsWithin s gs least image → StandsWithin s gs less image
stands_less s gs least less image h w = record {
  count = w.count;
  enough = omega (arith, h, w.enough);
  within = w.within;
  stands = w.stands;
}

pub stands_all : (s : State) (gs : List (List Entry)) (t : State) (image : Reads) → after_turns s gs ≡ t
    → StandsFor 0 t image → StandsWithin s gs (length gs) image
stands_all s gs t image is h = record {
  count = length gs;
  enough = omega arith;
  within = omega arith;
  stands =
      subst (λ (u : State). StandsFor 0 u image)
      (sym (ap (λ (l : List (List Entry)). after_turns s l) (take-length gs) ∙ is)) h;
}

-- images over several calls

pub whole_map : (before now : ℕ) (was is : Images) (R Q : Reads → Type 0) → ((image : Reads) → R image → Q image)
    → WholeBetween before now was is R → WholeBetween before now was is Q
whole_map before now was is R Q to run = record {
  later = run.later;
  keeps = run.keeps;
  each = λ m image from till left. to image (run.each m image from till left);
}

pub whole_none : (before : ℕ) (was : Images) (R : Reads → Type 0) → Each (was before) R
    → WholeBetween before before was was R
whole_none before was R now = record {
  later = omega arith;
  keeps = record { kept = λ m f c le left. left; nothing_else = λ m f c le left. left };
  each = λ m image from till left.
      let same : m ≡ before = omega (arith, from, till) in now image (λ f. subst (λ (n : ℕ). was n f (image f)) same (left f));
}

module _ {D : Type 0} (moment : D → ℕ) (images : D → Images) where
  pub whole_same : (old new : D) (R : Reads → Type 0) → new ≡ old → Each (images old (moment old)) R
      → WithinWhole moment images old new R
  whole_same old new R same now =
      subst (λ (d : D). WithinWhole moment images old d R) (sym same) (whole_none (moment old) (images old) R now)

  -- a turn is committed

  module _ (s : State) (groups : List (List Entry)) (p q : Place) (st : State) where
    both : (es : List Entry) (t : State) → p.base ≡ 0 → after_turns s groups ≡ st → t ≡ state_after st es
        → (image : Reads) → StandsFor p.base st image ⊎ StandsFor p.base t image
        → StandsWithin s (groups ++ group_of es) (length groups) image
    both es t base is leads image h = ⊎_elim
        (λ (old : StandsFor p.base st image).
        stands_more s groups (group_of es) (length groups) image
        (stands_all s groups st image is (subst (λ (b : ℕ). StandsFor b st image) base old)))
        (λ (new : StandsFor p.base t image).
        stands_less s (groups ++ group_of es) (length (groups ++ group_of es)) (length groups) image
        (omega (arith, length-append groups (group_of es)))
        (stands_all s (groups ++ group_of es) t image
        (after_more s groups es ∙ ap (λ (u : State). state_after u es) is ∙ sym leads)
        (subst (λ (b : ℕ). StandsFor b t image) base new)))
        h

    here : (old : D) → after_turns s groups ≡ st → Each (images old (moment old)) (StandsFor 0 st) → (es : List Entry)
        → Each (images old (moment old)) (StandsWithin s (groups ++ group_of es) (length groups))
    here old is holds es image left =
        stands_more s groups (group_of es) (length groups) image (stands_all s groups st image is (holds image left))

    -- of what was put it is so, by its result
    pub put_ok : {T U : Type 0} (seen : D → Reads) (es : List Entry) (t : State) (old new : D) (x : T) (y : U)
        → p.base ≡ 0 → after_turns s groups ≡ st → t ≡ state_after st es
        → Each (images old (moment old)) (StandsFor 0 st)
        → Puts {E = ServerFault} seen moment images p q es st t old new (Ok x)
        → CommitsTurn {T = U} moment images s groups es old new (Ok y)
    put_ok seen [] t old new x y base is leads holds puts = record {
      moments = whole_same old new _ puts (here old is holds []);
      counted = unmoved old new puts;
      bound = omega (arith, unmoved old new puts);
    }
      where
        unmoved : (a b : D) → b ≡ a → moment b ≡ moment a + 0
        unmoved a b e = ap moment e ∙ sym (plus_none (moment a))
          where
            plus_none : (n : ℕ) → n + 0 ≡ n
            plus_none n = omega arith
    put_ok seen (e ∷ es) t old new x y base is leads holds puts = ⊎_elim
        (λ early. absurd (true_false (sym early.1)))
        (λ (made : Commits {E = ServerFault} seen moment images p q st t old new (Ok x)). record {
          moments = whole_map (moment old) (moment new) (images old) (images new) _ _ (both (e ∷ es) t base is leads) made.any_moment;
          counted = made.counted;
          bound = made.bound;
        }) puts

    pub put_err : (T : Type 0) {U : Type 0} (seen : D → Reads) (es : List Entry) (t : State) (old new : D) (x : ServerFault)
        (y : ServeFault) → p.base ≡ 0 → after_turns s groups ≡ st → t ≡ state_after st es
        → Each (images old (moment old)) (StandsFor 0 st)
        → Puts {T = T} seen moment images p q es st t old new (Err x)
        → CommitsTurn {T = U} moment images s groups es old new (Err y)
    put_err T seen [] t old new x y base is leads holds puts = record {
      moments = whole_same old new _ puts (here old is holds []);
      counted = tt;
      bound = unmoved old new puts;
    }
      where
        unmoved : (a b : D) → b ≡ a → moment b ≤ moment a + 0
        unmoved a b e = subst (λ (d : D). moment d ≤ moment a + 0) (sym e) (omega arith)
    put_err T seen (e ∷ es) t old new x y base is leads holds puts = ⊎_elim
        (λ early. record {
          moments = whole_same old new _ early.0 (here old is holds (e ∷ es));
          counted = tt;
          bound = unmoved old new early.0;
        })
        (λ (made : Commits {T = T} seen moment images p q st t old new (Err x)). record {
          moments = whole_map (moment old) (moment new) (images old) (images new) _ _ (both (e ∷ es) t base is leads) made.any_moment;
          counted = tt;
          bound = made.bound;
        }) puts
      where
        unmoved : (a b : D) → b ≡ a → moment b ≤ moment a + 4
        unmoved a b same = subst (λ (d : D). moment d ≤ moment a + 4) (sym same) (omega arith)

    -- nothing came
    pub put_none : {U : Type 0} (es : List Entry) (d : D) (y : U) → es ≡ [] → after_turns s groups ≡ st
        → Each (images d (moment d)) (StandsFor 0 st) → CommitsTurn {T = U} moment images s groups es d d (Ok y)
    put_none {U = U} es d y none is holds =
        subst (λ (l : List Entry). CommitsTurn {T = U} moment images s groups l d d (Ok y)) (sym none)
        (record {
          moments = whole_same d d _ refl (here d is holds []);
          counted = same (moment d);
          bound = most (moment d);
        })
      where
        same : (n : ℕ) → n ≡ n + 0
        same n = omega arith

        most : (n : ℕ) → n ≤ n + 0
        most n = omega arith
