-- What holds of a fuse at each moment, and what calls of it keep.
use Rattle.std.specs.Prelude.{◌≡◌, ◌≤◌, ◌<◌, ◌^◌, ℕ, zero, suc, ◌+◌, ◌-◌, ◌==◌, min, Bool}
use Rattle.std.specs.Prelude.{true, false, List, [], ◌∷◌, ◌++◌, length, take, drop, reverse, cond, refl}
use Rattle.std.proofs.Common.{⊎_elim, sym, ◌∙◌, ap, subst, length-append, length-drop}
use Rattle.std.proofs.Math.Nat.{le_refl, le_trans, le_antisymm, le_of_lt, lt_irrefl, zero-lt-suc}
use Rattle.std.proofs.Math.Bridge.{le_prop}
use Rattle.std.proofs.lemmas.Bool.{eqb-true, cases_lt, false≢true}
use Rattle.std.proofs.lemmas.List.{length-take, length-map, reverse-append}
use Rattle.room_disk.specs.Model.{Images, Keeps, Follows, written, WrittenInPart}
use Rattle.room_disk.specs.Changes.{changed, ChangedInPart, place, reach}
use Rattle.room_disk.specs.Parts.{change_done, change_undone, changed_below}
use Rattle.room_disk.specs.Record.{Chosen}
use Rattle.room_disk.specs.Stops.{torn_bytes}
use Rattle.room_disk.specs.declared.disk.Stop.{Stop}
use Rattle.room_disk.specs.declared.disk.Stop.TheVariants.{Old, New, Torn}
use Rattle.room_disk.specs.declared.change.FileChange.{FileChange}
use Rattle.room_disk.specs.declared.change.FileChange.TheVariants.{Write, Cut}
use Rattle.room_fuse.specs.Held.{content_over, LeftOver, Fits, StaysBelow, torn_change, torn, left_by}
use Rattle.room_fuse.specs.Past.{inner_at, held_at, LeftNow, images_at}
use Rattle.room_fuse.specs.Mirrors.{MirrorsBetween, CountsDownBetween}
use Rattle.room_fuse.specs.declared.held.Held.{Held}
use Rattle.room_fuse.specs.declared.past.Mark.{Mark}

abbrev Reads : Type 0
Reads = ℕ → List ℕ

abbrev Leaves : Type 1
Leaves = ℕ → List ℕ → Type 0

-- A fact that a fuse keeps has one proof at most.

fits_prop : (S : Reads) (xs : List Held) → (p q : Fits S xs) → p ≡ q
fits_prop S [] p q = refl
fits_prop S (x ∷ xs) p q = λ i. (le_prop p.0 q.0 i, fits_prop S xs p.1 q.1 i)

pub told_fits_prop : (told : Bool) (S : Reads) (xs : List Held) → (p q : told ≡ true → Fits S xs) → p ≡ q
told_fits_prop told S xs p q = λ i t. fits_prop S xs (p t) (q t) i

pub below_prop : (xs : List Held) → (p q : StaysBelow xs) → p ≡ q
below_prop [] p q = refl
below_prop (x ∷ xs) p q = λ i. (le_prop p.0 q.0 i, below_prop xs p.1 q.1 i)

-- What is seen of it stays below the bound.

below_append : (us vs : List Held) → StaysBelow us → StaysBelow vs → StaysBelow (us ++ vs)
below_append [] vs first last = last
below_append (u ∷ us) vs first last = (first.0, below_append us vs first.1 last)

pub below_reverse : (xs : List Held) → StaysBelow xs → StaysBelow (reverse xs)
below_reverse [] below = tt
below_reverse (x ∷ xs) below =
    subst StaysBelow (sym (reverse-append (x ∷ []) xs))
    (below_append (reverse xs) (x ∷ []) (below_reverse xs below.1) (below.0, tt))

below_by : (b : Bool) (x : FileChange) (old : List ℕ) → (b ≡ true → place x ≤ length old) → reach x < 2 ^ 62
    → length old < 2 ^ 62 → length (cond b (changed x old) old) < 2 ^ 62
below_by true x old within end small = changed_below x old (2 ^ 62) (within refl) end small
below_by false x old within end small = small

pub content_below : (S : Reads) (xs : List Held) → Fits S xs → StaysBelow xs → ((f : ℕ) → length (S f) < 2 ^ 62)
    → (f : ℕ) → length (content_over S xs f) < 2 ^ 62
content_below S [] fits below small f = small f
content_below S (x ∷ older) fits below small f = below_by (x.file == f) x.change (content_over S older f)
    (λ is. subst (λ (n : ℕ). place x.change ≤ length (content_over S older n)) (eqb-true x.file f is) fits.0) below.0
    (content_below S older fits.1 below.1 small f)

-- What a stop leaves of the inner disk is left of the fuse too.

inner_by : (b : Bool) (x : Held) (P : List ℕ → Type 0) (c : List ℕ) → P c
    → Chosen b (Follows (ChangedInPart x.change) P c) (P c)
inner_by true x P c left = (c, left, change_undone x.change c)
inner_by false x P c left = left

pub inner_is_left : (B : Leaves) (xs : List Held) (f : ℕ) (c : List ℕ) → B f c → LeftOver B xs f c
inner_is_left B [] f c left = left
inner_is_left B (x ∷ xs) f c left = inner_by (x.file == f) x (LeftOver B xs f) c (inner_is_left B xs f c left)

-- So is what a read gives.

content_by : (b : Bool) (x : FileChange) (P : List ℕ → Type 0) (old : List ℕ) → P old
    → (b ≡ true → place x ≤ length old)
    → Chosen b (Follows (ChangedInPart x) P (cond b (changed x old) old)) (P (cond b (changed x old) old))
content_by true x P old p within = (old, p, change_done x old (within refl))
content_by false x P old p within = p

pub content_is_left : (S : Reads) (B : Leaves) (xs : List Held) → Fits S xs → ((f : ℕ) → B f (S f)) → (f : ℕ)
    → LeftOver B xs f (content_over S xs f)
content_is_left S B [] fits here f = here f
content_is_left S B (x ∷ older) fits here f =
    content_by (x.file == f) x.change (LeftOver B older f) (content_over S older f)
    (content_is_left S B older fits.1 here f)
    (λ is. subst (λ (n : ℕ). place x.change ≤ length (content_over S older n)) (eqb-true x.file f is) fits.0)

-- So is what settling leaves. Tearing a write changes no length.

length_of_written : (at : ℕ) (bytes old : List ℕ)
    → length (written at bytes old) ≡ min at (length old) + length bytes + (length old - (at + length bytes))
length_of_written at bytes old =
    length-append (take at old ++ bytes) (drop (at + length bytes) old)
    ∙ ap (λ n. n + length (drop (at + length bytes) old))
    (length-append (take at old) bytes ∙ ap (λ n. n + length bytes) (length-take at old))
    ∙ ap (λ n. min at (length old) + length bytes + n) (length-drop (at + length bytes) old)

pub length_torn : (bytes : List ℕ) → length (torn_bytes bytes) ≡ length bytes
length_torn bytes = length-map bytes (λ b. 255)

torn_length : (x : FileChange) (old new : List ℕ) → length new ≡ length old
    → length (changed (torn_change x) new) ≡ length (changed x old)
torn_length (Write at bytes) old new same =
    length_of_written at (torn_bytes bytes) new
    ∙ ap (λ n. min at (length new) + n + (length new - (at + n))) (length_torn bytes)
    ∙ ap (λ n. min at n + length bytes + (n - (at + length bytes))) same ∙ sym (length_of_written at bytes old)
torn_length (Cut n) old new same = length-take n new ∙ ap (min n) same ∙ sym (length-take n old)

torn_lengths_by : (b : Bool) (x : FileChange) (old new : List ℕ) → length new ≡ length old
    → length (cond b (changed (torn_change x) new) new) ≡ length (cond b (changed x old) old)
torn_lengths_by true x old new same = torn_length x old new same
torn_lengths_by false x old new same = same

torn_lengths : (S : Reads) (xs : List Held) (f : ℕ) → length (content_over S (torn xs) f) ≡ length (content_over S xs f)
torn_lengths S [] f = refl
torn_lengths S (x ∷ xs) f =
    torn_lengths_by (x.file == f) x.change (content_over S xs f) (content_over S (torn xs) f) (torn_lengths S xs f)

place_torn : (x : FileChange) → place (torn_change x) ≡ place x
place_torn (Write at bytes) = refl
place_torn (Cut n) = refl

pub torn_fits : (S : Reads) (xs : List Held) → Fits S xs → Fits S (torn xs)
torn_fits S [] fits = tt
torn_fits S (x ∷ xs) fits = (
  subst (λ n. n ≤ length (content_over S (torn xs) x.file)) (sym (place_torn x.change))
      (subst (λ n. place x.change ≤ n) (sym (torn_lengths S xs x.file)) fits.0),
  torn_fits S xs fits.1,
)

torn_step : (x : FileChange) (d c : List ℕ) → ChangedInPart (torn_change x) d c → ChangedInPart x d c
torn_step (Write at bytes) d c step = subst (λ n. WrittenInPart at n d c) (length_torn bytes) step
torn_step (Cut n) d c step = step

torn_by : (b : Bool) (x : FileChange) (P Q : List ℕ → Type 0) (c : List ℕ) → ((d : List ℕ) → P d → Q d)
    → Chosen b (Follows (ChangedInPart (torn_change x)) P c) (P c)
    → Chosen b (Follows (ChangedInPart x) Q c) (Q c)
torn_by true x P Q c to left = (left.0, to left.0 left.1, torn_step x left.0 c left.2)
torn_by false x P Q c to left = to c left

pub torn_is_left : (B : Leaves) (xs : List Held) (f : ℕ) (c : List ℕ) → LeftOver B (torn xs) f c → LeftOver B xs f c
torn_is_left B [] f c left = left
torn_is_left B (x ∷ xs) f c left =
    torn_by (x.file == f) x.change (LeftOver B (torn xs) f) (LeftOver B xs f) c (torn_is_left B xs f) left

pub settled_is_left : (how : Stop) (S : Reads) (B : Leaves) (xs : List Held) → Fits S xs → ((f : ℕ) → B f (S f))
    → (f : ℕ) → LeftOver B xs f (left_by how S xs f)
settled_is_left Old S B xs fits here f = inner_is_left B xs f (S f) (here f)
settled_is_left New S B xs fits here f = content_is_left S B xs fits here f
settled_is_left Torn S B xs fits here f =
    torn_is_left B xs f (content_over S (torn xs) f) (content_is_left S B (torn xs) (torn_fits S xs fits) here f)

bare_by : (how : Stop) (S : Reads) (f : ℕ) → left_by how S [] f ≡ S f
bare_by Old S f = refl
bare_by New S f = refl
bare_by Torn S f = refl

pub bare_left : (S : Reads) (held : List Held) → held ≡ [] → (how : Stop) (f : ℕ) → left_by how S (reverse held) f ≡ S f
bare_left S held none how f = ap (λ (l : List Held). left_by how S (reverse l) f) none ∙ bare_by how S f

-- The count down.

pub counts_same : (fired : Bool) (armed n : ℕ) (how : Stop) → CountsDownBetween fired armed n how fired armed n how
counts_same fired armed n how = record {
  unarmed = λ a b zero. zero;
  goes_on = λ a b some. (some, refl);
  fires = λ a b. absurd (false≢true (sym a ∙ b));
  stands = λ a. (a, refl);
  way = refl;
}

counts_fires : (armed before armed_mid at now : ℕ) → 0 < armed_mid → now ≡ at + armed_mid → (armed ≡ 0 → armed_mid ≡ 0)
    → (0 < armed → (0 < armed_mid) × (at + armed_mid ≡ before + armed))
    → (0 < armed) × (now ≡ before + armed)
counts_fires zero before armed_mid at now some is none goes = absurd (lt_irrefl 0 (subst (λ n. 0 < n) (none refl) some))
counts_fires (suc armed) before armed_mid at now some is none goes =
    let g = goes (zero-lt-suc armed) in (zero-lt-suc armed, is ∙ g.1)

counts_by : (mid : Bool) (fired : Bool) (armed before : ℕ) (how : Stop) (armed_mid at : ℕ) (how_mid : Stop)
    (last : Bool) (armed_now now : ℕ) (how_now : Stop)
    → CountsDownBetween fired armed before how mid armed_mid at how_mid
    → CountsDownBetween mid armed_mid at how_mid last armed_now now how_now
    → CountsDownBetween fired armed before how last armed_now now how_now
counts_by true fired armed before how armed_mid at how_mid last armed_now now how_now first second = record {
  unarmed = λ a b zero. absurd (false≢true (sym b ∙ (second.stands refl).0));
  goes_on = λ a b some. absurd (false≢true (sym b ∙ (second.stands refl).0));
  fires = λ a b. let c = first.fires a refl in (c.0, (second.stands refl).1 ∙ c.1);
  stands = λ a. let d = second.stands refl in (d.0, d.1 ∙ (first.stands a).1);
  way = second.way ∙ first.way;
}
counts_by false fired armed before how armed_mid at how_mid last armed_now now how_now first second = record {
  unarmed = λ a b zero. second.unarmed refl b (first.unarmed a refl zero);
  goes_on = λ a b some. let c = first.goes_on a refl some in let d = second.goes_on refl b c.0 in (d.0, d.1 ∙ c.1);
  fires = λ a b. let d = second.fires refl b in
      counts_fires armed before armed_mid at now d.0 d.1 (first.unarmed a refl) (first.goes_on a refl);
  stands = λ a. absurd (false≢true (first.stands a).0);
  way = second.way ∙ first.way;
}

pub counts_then : (fired : Bool) (armed before : ℕ) (how : Stop) (mid : Bool) (armed_mid at : ℕ) (how_mid : Stop)
    (last : Bool) (armed_now now : ℕ) (how_now : Stop)
    → CountsDownBetween fired armed before how mid armed_mid at how_mid
    → CountsDownBetween mid armed_mid at how_mid last armed_now now how_now
    → CountsDownBetween fired armed before how last armed_now now how_now
counts_then fired armed before how mid armed_mid at how_mid last armed_now now how_now first second =
    counts_by mid fired armed before how armed_mid at how_mid last armed_now now how_now first second

-- The inner disk's images.

keeps_same : (before : ℕ) (was : Images) → Keeps before was was
keeps_same before was = record { kept = λ m f c le left. left; nothing_else = λ m f c le left. left }

keeps_then : (before mid : ℕ) (was so is : Images) → before ≤ mid → Keeps before was so → Keeps mid so is
    → Keeps before was is
keeps_then before mid was so is late first second = record {
  kept = λ m f c le left. second.kept m f c (le_trans le late) (first.kept m f c le left);
  nothing_else = λ m f c le left. first.nothing_else m f c le (second.nothing_else m f c (le_trans le late) left);
}

mirrors_same : (now : ℕ) (is : Images) (inner_now : ℕ) (inner : Images)
    → ((image : Reads) → ((f : ℕ) → inner inner_now f (image f)) → (f : ℕ) → is now f (image f))
    → MirrorsBetween now now is is inner_now inner_now inner inner
mirrors_same now is inner_now inner here = record {
  later = le_refl now;
  keeps = keeps_same now is;
  inner_later = le_refl inner_now;
  inner_keeps = keeps_same inner_now inner;
  each = λ m image from till left. let same : m ≡ inner_now = le_antisymm till from in
      (now, le_refl now, le_refl now, here image (λ f. subst (λ (n : ℕ). inner n f (image f)) same (left f)));
}

pub mirrors_then : (before mid now : ℕ) (was so is : Images) (inner_before inner_mid inner_now : ℕ)
    (inner_was inner_so inner_is : Images) → MirrorsBetween before mid was so inner_before inner_mid inner_was inner_so
    → MirrorsBetween mid now so is inner_mid inner_now inner_so inner_is
    → MirrorsBetween before now was is inner_before inner_now inner_was inner_is
mirrors_then before mid now was so is inner_before inner_mid inner_now inner_was inner_so inner_is first second =
    record {
      later = le_trans first.later second.later;
      keeps = keeps_then before mid was so is first.later first.keeps second.keeps;
      inner_later = le_trans first.inner_later second.inner_later;
      inner_keeps =
          keeps_then inner_before inner_mid inner_was inner_so inner_is first.inner_later first.inner_keeps
          second.inner_keeps;
      each = λ m image from till left. ⊎_elim
          (λ (early : m < inner_mid).
          let there = first.each m image from (le_of_lt early)
          (λ f. second.inner_keeps.nothing_else m f (image f) (le_of_lt early) (left f)) in (
            there.0,
            there.1,
            le_trans there.2 second.later,
            λ f. second.keeps.kept there.0 f (image f) there.2 (there.3 f),
          ))
          (λ (late : inner_mid ≤ m).
          let there = second.each m image late till left in
          (there.0, le_trans first.later there.1, there.2, there.3))
          (cases_lt m inner_mid);
    }

module _ {D : Type 0} where
  pub inner_now : (past : List (Mark D)) (inner : D) → inner_at past inner (length past) ≡ inner
  inner_now [] inner = refl
  inner_now (p ∷ past) inner = inner_now past inner

  pub held_now : (past : List (Mark D)) (held : List Held) → held_at past held (length past) ≡ held
  held_now [] held = refl
  held_now (p ∷ past) held = held_now past held

  module _ (images : D → Images) (moment : D → ℕ) where
    pub both : (d e : D) (h k : List Held) (f : ℕ) (c : List ℕ) → d ≡ e → h ≡ k → LeftNow images moment d h f c
        → LeftNow images moment e k f c
    both d e h k f c same alike left =
        subst (λ i. LeftNow images moment i k f c) same
        (subst (λ (l : List Held). LeftNow images moment d l f c) alike left)

    -- the images of this moment are what is left now
    pub now_of : (past : List (Mark D)) (inner : D) (held : List Held) (f : ℕ) (c : List ℕ)
        → LeftNow images moment inner held f c → images_at images moment past inner held (length past) f c
    now_of past inner held f c left =
        both inner (inner_at past inner (length past)) held (held_at past held (length past)) f c
        (sym (inner_now past inner)) (sym (held_now past held)) left

    pub of_now : (past : List (Mark D)) (inner : D) (held : List Held) (f : ℕ) (c : List ℕ)
        → images_at images moment past inner held (length past) f c → LeftNow images moment inner held f c
    of_now past inner held f c left =
        both (inner_at past inner (length past)) inner (held_at past held (length past)) held f c (inner_now past inner)
        (held_now past held) left

    pub content_now : (seen : D → Reads) (past : List (Mark D)) (inner : D) (held : List Held)
        → Fits (seen inner) (reverse held) → ((f : ℕ) → images inner (moment inner) f (seen inner f)) → (f : ℕ)
        → images_at images moment past inner held (length past) f (content_over (seen inner) (reverse held) f)
    content_now seen past inner held fits here f =
        now_of past inner held f _
        (content_is_left (seen inner) (images inner (moment inner)) (reverse held) fits here f)

    pub settled_now : (seen : D → Reads) (past : List (Mark D)) (inner : D) (held : List Held)
        → Fits (seen inner) (reverse held) → ((f : ℕ) → images inner (moment inner) f (seen inner f))
        → (how : Stop) (f : ℕ)
        → images_at images moment past inner held (length past) f (left_by how (seen inner) (reverse held) f)
    settled_now seen past inner held fits here how f =
        now_of past inner held f _
        (settled_is_left how (seen inner) (images inner (moment inner)) (reverse held) fits here f)

    -- each image of the inner disk now is one of the fuse now
    pub inner_here : (past : List (Mark D)) (inner : D) (held : List Held) (f : ℕ) (c : List ℕ)
        → images inner (moment inner) f c → images_at images moment past inner held (length past) f c
    inner_here past inner held f c left =
        now_of past inner held f c (inner_is_left (images inner (moment inner)) (reverse held) f c left)

    -- where nothing is held back, what is left is left of the inner disk
    pub bare_images : (past : List (Mark D)) (inner : D) (held : List Held) → held ≡ [] → (f : ℕ) (c : List ℕ)
        → images_at images moment past inner held (length past) f c → images inner (moment inner) f c
    bare_images past inner held none f c left =
        subst (λ (l : List Held). LeftNow images moment inner l f c) none (of_now past inner held f c left)

    abbrev pub MirroredTo : List (Mark D) → D → List Held → List (Mark D) → D → List Held → Type 0
    MirroredTo past inner held ps later after =
        MirrorsBetween (length past) (length ps) (images_at images moment past inner held)
        (images_at images moment ps later after) (moment inner) (moment later) (images inner) (images later)

    pub mirrored_same : (past : List (Mark D)) (inner : D) (held : List Held)
        → MirroredTo past inner held past inner held
    mirrored_same past inner held =
        mirrors_same (length past) (images_at images moment past inner held) (moment inner) (images inner)
        (λ image left f. inner_here past inner held f (image f) (left f))

    pub mirrored_then : (past : List (Mark D)) (inner : D) (held : List Held) (ps : List (Mark D)) (later : D)
        (after : List Held) (qs : List (Mark D)) (last : D) (then : List Held)
        → MirroredTo past inner held ps later after → MirroredTo ps later after qs last then
        → MirroredTo past inner held qs last then
    mirrored_then past inner held ps later after qs last then first second =
        mirrors_then (length past) (length ps) (length qs) (images_at images moment past inner held)
        (images_at images moment ps later after) (images_at images moment qs last then)
        (moment inner) (moment later) (moment last) (images inner) (images later) (images last) first second
