-- Calls of a fuse and of its inner disk, side by side.
use Rattle.std.proofs.Common.{◌≡◌, ℕ, zero, suc, ◌+◌, ◌-◌, ◌<◌, List, Bool, true, false, [], ◌∷◌, length, reverse, refl, sym, ◌∙◌, subst, arith}
use Rattle.room_disk.specs.Model.{Images, Only, Keeps, StaysBetween, RunsBetween}
use Rattle.std.specs.Prelude.{Result, Ok, Err, OnOk, OnErr}
use Rattle.room_disk.specs.declared.disk.DiskFault.{DiskFault}
use Rattle.room_disk.specs.declared.disk.Stop.{Stop}
use Rattle.room_disk.specs.declared.disk.Stop.TheVariants.{Old, New, Torn}
use Rattle.room_disk.proofs.Moments.{keeps_same}
use Rattle.room_fuse.specs.Held.{content_over, left_by, torn, Others, Rest}
use Rattle.room_fuse.specs.Past.{LeftNow, images_at, StepsThrough, IsMarked}
use Rattle.room_fuse.specs.Mirrors.{CountsDownBetween, IsCounted}
use Rattle.room_fuse.specs.Laws.{counts_same, now_of, of_now, inner_is_left, inner_here, mirrored_same, MirroredTo}
use Rattle.room_fuse.specs.declared.past.Mark.{Mark}
use Rattle.room_fuse.proofs.Lists.{Calls, Reads, over_skip, over_more, content_same, content_skip, others_reverse}
use Rattle.room_fuse.proofs.Rests.{rest_settled}
use Rattle.room_fuse.proofs.Holding.{past_stays, size_marked}
use Rattle.room_fuse.proofs.Passing.{still}

-- What settling leaves, behind a sync.

pub left_others : (how : Stop) (S T : Reads) (held left : Calls) (file f : ℕ) → (f ≡ file → ⊥) → T f ≡ S f → content_over T (reverse left) f ≡ content_over S (reverse held) f → Rest file held left
    → left_by how T (reverse left) f ≡ left_by how S (reverse held) f
left_others Old S T held left file f other same reads rest = same
left_others New S T held left file f other same reads rest = reads
left_others Torn S T held left file f other same reads rest = rest_settled file T held left f other rest ∙ content_same T S (torn (reverse held)) f same

torn_others : (xs : Calls) (f : ℕ) → Others f xs → Others f (torn xs)
torn_others [] f others = tt
torn_others (x ∷ xs) f others = (others.0, torn_others xs f others.1)

pub left_none : (how : Stop) (T : Reads) (left : Calls) (f : ℕ) → Others f left → left_by how T (reverse left) f ≡ T f
left_none Old T left f none = refl
left_none New T left f none = content_skip T (reverse left) f (others_reverse f left none)
left_none Torn T left f none = content_skip T (torn (reverse left)) f (torn_others (reverse left) f (others_reverse f left none))

pub left_same : (how : Stop) (S T : Reads) (xs : Calls) (f : ℕ) → T f ≡ S f → left_by how T xs f ≡ left_by how S xs f
left_same Old S T xs f same = same
left_same New S T xs f same = content_same T S xs f same
left_same Torn S T xs f same = content_same T S (torn xs) f same

-- The count down.

at_stop : (armed n m : ℕ) → armed ≡ 1 → m ≡ n + 1 → (0 < armed) × (m ≡ n + armed)
at_stop armed n m one size = (omega (arith, one), omega (arith, one, size))

down : (armed next n m : ℕ) → 0 < armed → (armed ≡ 1 → ⊥) → next ≡ armed - 1 → m ≡ n + 1 → (0 < next) × (m + next ≡ n + armed)
down zero next n m some other left size = absurd (omega (arith, some))
down (suc zero) next n m some other left size = absurd (other refl)
down (suc (suc k)) next n m some other left size = (omega (arith, left), omega (arith, left, size))

counts_marked : (armed armed_now n m : ℕ) (fired_now : Bool) (how : Stop) → m ≡ n + 1 → IsCounted armed armed_now fired_now → CountsDownBetween false armed n how fired_now armed_now m how
counts_marked armed armed_now n m fired_now how size counted = record {
  unarmed = λ a b none. omega (arith, counted.down, none);
  goes_on = λ a b some. down armed armed_now n m some (λ one. absurd (cc (b, counted.at_one one))) counted.down size;
  fires = λ a b. at_stop armed n m (counted.fires b) size;
  stands = λ a. absurd (cc (a));
  way = refl;
}

-- the same where it is known that nothing had fired
pub counts_on : (fired : Bool) (armed armed_now n m : ℕ) (fired_now : Bool) (how : Stop) → fired ≡ false → m ≡ n + 1 → IsCounted armed armed_now fired_now → CountsDownBetween fired armed n how fired_now armed_now m how
counts_on fired armed armed_now n m fired_now how calm size counted = subst (λ b. CountsDownBetween b armed n how fired_now armed_now m how) (sym calm) (counts_marked armed armed_now n m fired_now how size counted)

pub on_both : (r : Result Unit DiskFault) (A B C : Type 0) → OnOk r A → OnOk r B → (A → B → C) → OnOk r C
on_both (Ok u) A B C a b to = to a b
on_both (Err e) A B C a b to = tt

pub on_err : (r : Result Unit DiskFault) (A : Type 0) → A → OnErr r A
on_err (Ok u) A a = tt
on_err (Err e) A a = a

pub always : (r : Result Unit DiskFault) (A : Type 0) → A → OnOk r A
always (Ok u) A a = a
always (Err e) A a = tt

module _ {D : Type 0} (images : D → Images) (moment : D → ℕ) where
  pub mirrored_still : (past ps : List (Mark D)) (inner : D) (held after : Calls) → ps ≡ past → after ≡ held → MirroredTo images moment past inner held ps inner after
  mirrored_still past ps inner held after moved kept =
      subst (λ (l : List (Mark D)). MirroredTo images moment past inner held l inner after) (sym moved)
      (subst (λ (l : Calls). MirroredTo images moment past inner held past inner l) (sym kept) (mirrored_same images moment past inner held))

  -- nothing was done
  pub stood : (came : D → D → Type 0) → ((a : D) → came a a) → (told : Bool) (fired : Bool) (armed : ℕ) (how : Stop) (past ps : List (Mark D)) (inner : D) (held after : Calls) → ps ≡ past → after ≡ held
      → came inner inner × CountsDownBetween fired armed (length past) how fired armed (length ps) how × (told ≡ true → MirroredTo images moment past inner held ps inner after)
  stood came same told fired armed how past ps inner held after moved kept =
      (same inner, subst (λ (l : List (Mark D)). CountsDownBetween fired armed (length past) how fired armed (length l) how) (sym moved) (counts_same fired armed (length past) how), λ t. mirrored_still past ps inner held after moved kept)

  -- one moment more, within which each image of the inner disk is one of the fuse from before
  pub mirrored_marked : (past ps : List (Mark D)) (inner later : D) (held after : Calls) → IsMarked past inner held ps
      → RunsBetween (moment inner) (moment later) (images inner) (images later) (LeftNow images moment inner held) → MirroredTo images moment past inner held ps later after
  mirrored_marked past ps inner later held after marked within =
      let size = size_marked past ps inner held marked in
      let keeps = past_stays images moment past ps inner later held after marked in
      record {
        later = omega (arith, size);
        keeps = keeps;
        inner_later = within.later;
        inner_keeps = within.keeps;
        each = λ m image from till left. (
          length past,
          omega arith,
          omega (arith, size),
          λ f. keeps.kept (length past) f (image f) (omega arith) (now_of images moment past inner held f (image f) (within.each m f (image f) from till (left f))),
        );
      }

  -- the same where the inner disk wasn't called
  pub mirrored_held : (past ps : List (Mark D)) (inner : D) (held after : Calls) → IsMarked past inner held ps → MirroredTo images moment past inner held ps inner after
  mirrored_held past ps inner held after marked = mirrored_marked past ps inner inner held after marked
      (still (moment inner) (images inner) (LeftNow images moment inner held) (inner_is_left (images inner (moment inner)) (reverse held)))

  pub mirrored_steps : (seen : D → Reads) (file : ℕ) (step : List ℕ → List ℕ → Type 0) (past ps : List (Mark D)) (inner later : D) (held after : Calls) → later ≡ inner
      → StepsThrough seen moment images file step past inner held ps later after → MirroredTo images moment past inner held ps later after
  mirrored_steps seen file step past ps inner later held after same steps = subst (λ d. MirroredTo images moment past inner held ps d after) (sym same) (
      let goes = subst (λ d. StepsThrough seen moment images file step past inner held ps d after) same steps in
      record {
        later = goes.later;
        keeps = goes.keeps;
        inner_later = omega arith;
        inner_keeps = keeps_same (moment inner) (images inner);
        each = λ m image from till left. let at : m ≡ moment inner = omega (arith, from, till) in let late = goes.later in
            (length past, omega arith, late, λ f. goes.keeps.kept (length past) f (image f) (omega arith) (inner_here images moment past inner held f (image f) (subst (λ (n : ℕ). images inner n f (image f)) at (left f))));
      })

  -- behind a sync a stop leaves what a read gives
  pub synced_only : (seen : D → Reads) (ps : List (Mark D)) (inner later : D) (held left : Calls) (file : ℕ) → ((f : ℕ) → content_over (seen later) (reverse left) f ≡ content_over (seen inner) (reverse held) f)
      → Others file left → Only (seen later file) (images later (moment later) file) → Only (content_over (seen inner) (reverse held) file) (images_at images moment ps later left (length ps) file)
  synced_only seen ps inner later held left file reads none only c there =
      let apart = others_reverse file left none in
      only c (over_skip (images later (moment later)) (reverse left) file apart c (of_now images moment ps later left file c there)) ∙ sym (content_skip (seen later) (reverse left) file apart) ∙ reads file

  -- a call that changed nothing of the inner disk
  module _ (seen : D → Reads) (inner later : D) (held : Calls) (stays : StaysBetween (moment inner) (moment later) (images inner) (images later) (seen inner) (seen later)) where
    to_later : (f : ℕ) (c : List ℕ) → LeftNow images moment inner held f c → LeftNow images moment later held f c
    to_later f c left = over_more (images inner (moment inner)) (images later (moment later)) (reverse held) f
        (λ d here. subst (λ (n : ℕ). images later n f d) (sym stays.moment) (stays.keeps.kept (moment inner) f d (omega arith) here)) c left

    from_later : (f : ℕ) (c : List ℕ) → LeftNow images moment later held f c → LeftNow images moment inner held f c
    from_later f c left = over_more (images later (moment later)) (images inner (moment inner)) (reverse held) f
        (λ d here. stays.keeps.nothing_else (moment inner) f d (omega arith) (subst (λ (n : ℕ). images later n f d) stays.moment here)) c left

    at_to : (past : List (Mark D)) (m f : ℕ) (c : List ℕ) → images_at images moment past inner held m f c → images_at images moment past later held m f c
    at_to [] m f c left = to_later f c left
    at_to (p ∷ past) zero f c left = left
    at_to (p ∷ past) (suc m) f c left = at_to past m f c left

    at_from : (past : List (Mark D)) (m f : ℕ) (c : List ℕ) → images_at images moment past later held m f c → images_at images moment past inner held m f c
    at_from [] m f c left = from_later f c left
    at_from (p ∷ past) zero f c left = left
    at_from (p ∷ past) (suc m) f c left = at_from past m f c left

    keeps_stays : (past : List (Mark D)) → Keeps (length past) (images_at images moment past inner held) (images_at images moment past later held)
    keeps_stays past = record { kept = λ m f c le left. at_to past m f c left; nothing_else = λ m f c le left. at_from past m f c left }

    pub fuse_stays : (past : List (Mark D)) → StaysBetween (length past) (length past) (images_at images moment past inner held) (images_at images moment past later held) (content_over (seen inner) (reverse held)) (content_over (seen later) (reverse held))
    fuse_stays past = record { moment = refl; keeps = keeps_stays past; seen = λ f. content_same (seen later) (seen inner) (reverse held) f (stays.seen f) }

    pub mirrored_stays : (past : List (Mark D)) → MirroredTo images moment past inner held past later held
    mirrored_stays past = record {
      later = omega arith;
      keeps = keeps_stays past;
      inner_later = let e = stays.moment in omega (arith, e);
      inner_keeps = stays.keeps;
      each = λ m image from till left. let same : m ≡ moment later = (let e = stays.moment in omega (arith, e, from, till)) in
          (length past, omega arith, omega arith, λ f. now_of images moment past later held f (image f) (inner_is_left (images later (moment later)) (reverse held) f (image f) (subst (λ (n : ℕ). images later n f (image f)) same (left f))));
    }
