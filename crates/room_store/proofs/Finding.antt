-- What was found of the files, and the state that they stand for.
use Rattle.std.proofs.Common.{◌≡◌, ◌⊎◌, inl, inr, ⊎_elim, ℕ, ◌+◌, ◌≤◌, List, [], ◌∷◌, length, Bool, true, false, refl, sym, ◌∙◌, ap, subst, arith}
use Rattle.std.specs.Prelude.{nat_lt, Option, Some, None, Result, Ok, Err, OnOk, IfOk, IfErr, IsErr}
use Rattle.room_disk.specs.Model.{Reads, Images, Only, RunsBetween, WholeBetween}
use Rattle.room_disk.proofs.Moments.{on_whole, whole_then, keeps_then, sooner_or_later}
use Rattle.room_nodes.specs.Shape.{Nodes, empty_tree}
use Rattle.room_bytes.specs.declared.entries.Session.{Session as Here}
use Rattle.room_snapshot.specs.Bounds.{state_of}
use Rattle.room_log.specs.Log.{State, empty_state}
use Rattle.room_log.specs.Follows.{IsValidState}
use Rattle.room_bytes.specs.declared.entries.Format.{Format}
use Rattle.room_bytes.specs.declared.entries.Format.TheVariants.{One}
use Rattle.room_snapshot.specs.Reading.{snapshot_of}
use Rattle.room_journal.specs.declared.fault.JournalFault.{JournalFault}
use Rattle.room_journal.specs.declared.fault.JournalFault.TheVariants as journal
use Rattle.room_journal.specs.declared.reading.Found.{Found}
use Rattle.room_journal.specs.Files.{Held, Reading, New, Holds, Damaged, Says, Opens, Closed, Headless, chosen, counted, greater, reading, says}
use Rattle.room_journal.specs.Found.{IsFound}
use Rattle.room_journal.specs.Rest.{Place, place_at, end_of}
use Rattle.room_replay.specs.Files.{Files, Room, taken, held_of, or_damaged, replayed, opened, files_read, files, Stands, StandsFor}
use Rattle.room_replay.specs.Files.{New as NewFiles}
use Rattle.room_replay.specs.Faults.{IsFault as IsReplayFault}
use Rattle.room_store.specs.declared.fault.StoreFault.{StoreFault}
use Rattle.room_store.specs.declared.fault.StoreFault.TheVariants.{Disk, Memory}
use Rattle.room_store.specs.Consistent.{IsBelow, AreTwo, Settled, IsKept, AsNew, Elsewhere, BeforeOr, Since, IsWritten, IsDamaged, IsStill}
use Rattle.room_store.specs.Faults.{IsFault, as_store}
use Rattle.room_store.proofs.Generations.{is_less}

pub ok_is : {T E : Type 0} (r : Result T E) (x : T) (P : Type 0) → OnOk r P → r ≡ Ok x → P
ok_is (Ok y) x P is at = is
ok_is (Err e) x P is at = cc at

pub all_ok : {T E : Type 0} (r : Result T E) (P : Type 0) → P → OnOk r P
all_ok (Ok y) P is = is
all_ok (Err e) P is = tt

-- both files of a new room are closed

counted_new : (file g : ℕ) (f : Format) (h : Option Held) → counted file f g h ≡ New → ⊥
counted_new file g f None is = cc is
counted_new file g f (Some h) is = cc is

greater_new : (base : ℕ) (r q : Reading) (a b : Bool) → (r ≡ New → ⊥) → (q ≡ New → ⊥) → greater base r q a b ≡ New → ⊥
greater_new base r q a true one another is = another is
greater_new base r q true false one another is = one is
greater_new base r q false false one another is = cc is

both_closed : (base : ℕ) (x y : Says) → chosen base x y ≡ New → (x ≡ Closed) × (y ≡ Closed)
both_closed base Headless y is = cc is
both_closed base Closed Closed is = (refl, refl)
both_closed base Closed Headless is = cc is
both_closed base Closed (Opens e k i) is = absurd (counted_new (base + 1) k e i is)
both_closed base (Opens f g h) Closed is = absurd (counted_new base g f h is)
both_closed base (Opens f g h) Headless is = cc is
both_closed base (Opens f g h) (Opens e k i) is =
    absurd (greater_new base (counted base f g h) (counted (base + 1) e k i) (nat_lt k g) (nat_lt g k) (counted_new base g f h) (counted_new (base + 1) k e i) is)

pub kept_new : (base : ℕ) (seen : Reads) (now : ℕ → List ℕ → Type 0) (j : Place) → reading base (seen base) (seen (base + 1)) ≡ New → j ≡ place_at base (base + 1) 0 0
    → Only (seen base) (now base) → Only (seen (base + 1)) (now (base + 1)) → IsKept seen now j empty_state
kept_new base seen now j is place first second =
    let both = both_closed base (says (seen base)) (says (seen (base + 1))) is in
    subst (λ (n : Place). IsKept seen now n empty_state) (sym place) (AsNew (record {
      file_is = refl;
      generation_is = refl;
      closed = both.0;
      closed_too = both.1;
      first = first;
      second = second;
      empty = refl;
    }))

-- the file that counts, and that the other is lower

record Counts (base : ℕ) (seen : Reads) (file : ℕ) (f : Format) (g : ℕ) (h : Held) : Type 0 where
  pub other : ℕ
  pub two : AreTwo base file other
  pub is : says (seen file) ≡ Opens f g (Some h)
  pub below : IsBelow g (says (seen other))

counted_is : (n k file g : ℕ) (e f : Format) (i : Option Held) (h : Held) → counted n e k i ≡ Holds file f g h → (n ≡ file) × ((e ≡ f) × ((k ≡ g) × (i ≡ Some h)))
counted_is n k file g e f None h is = cc is
counted_is n k file g e f (Some j) h is = (cc is, (cc is, (cc is, cc is)))

counted_at : (base n other k file g : ℕ) (e f : Format) (i : Option Held) (h : Held) (seen : Reads) → AreTwo base n other → says (seen n) ≡ Opens e k i → IsBelow k (says (seen other))
    → counted n e k i ≡ Holds file f g h → Counts base seen file f g h
counted_at base n other k file g e f i h seen two one below is =
    let same = counted_is n k file g e f i h is in
    subst (λ (m : ℕ). Counts base seen m f g h) same.0
    (subst (λ (d : Format). Counts base seen n d g h) same.1.0
    (subst (λ (m : ℕ). Counts base seen n e m h) same.1.1.0
    (record { other = other; two = two; is = one ∙ ap (Opens e k) same.1.1.1; below = below })))

greater_at : (base k m file g : ℕ) (d e f : Format) (i o : Option Held) (h : Held) (seen : Reads) (a b : Bool) → nat_lt m k ≡ a → nat_lt k m ≡ b
    → says (seen base) ≡ Opens d k i → says (seen (base + 1)) ≡ Opens e m o → greater base (counted base d k i) (counted (base + 1) e m o) a b ≡ Holds file f g h → Counts base seen file f g h
greater_at base k m file g d e f i o h seen a true at bt one another is =
    counted_at base (base + 1) base m file g e f o h seen (inr (refl, refl)) another (subst (λ (x : Says). IsBelow m x) (sym one) (is_less k m bt)) is
greater_at base k m file g d e f i o h seen true false at bt one another is =
    counted_at base base (base + 1) k file g d f i h seen (inl (refl, refl)) one (subst (λ (x : Says). IsBelow k x) (sym another) (is_less m k at)) is
greater_at base k m file g d e f i o h seen false false at bt one another is = cc is

counts_by : (base file g : ℕ) (f : Format) (h : Held) (seen : Reads) (x y : Says) → says (seen base) ≡ x → says (seen (base + 1)) ≡ y → chosen base x y ≡ Holds file f g h → Counts base seen file f g h
counts_by base file g f h seen Headless y one another is = cc is
counts_by base file g f h seen Closed Closed one another is = cc is
counts_by base file g f h seen Closed Headless one another is = cc is
counts_by base file g f h seen Closed (Opens e k i) one another is =
    counted_at base (base + 1) base k file g e f i h seen (inr (refl, refl)) another (subst (λ (x : Says). IsBelow k x) (sym one) tt) is
counts_by base file g f h seen (Opens e k i) Closed one another is =
    counted_at base base (base + 1) k file g e f i h seen (inl (refl, refl)) one (subst (λ (x : Says). IsBelow k x) (sym another) tt) is
counts_by base file g f h seen (Opens e k i) Headless one another is = cc is
counts_by base file g f h seen (Opens d k i) (Opens e m o) one another is = greater_at base k m file g d e f i o h seen (nat_lt m k) (nat_lt k m) refl refl one another is

-- a state that was opened broke off nowhere

some_room : (o : Option State) (to : State → Files) (file at : ℕ) (t : State) (P : Type 0) → ((v : State) → to v ≡ Room t → P) → or_damaged file at o to ≡ Room t → P
some_room (Some v) to file at t P onward is = onward v is
some_room None to file at t P onward is = cc is

replay_whole : (file : ℕ) (f : Format) (at : ℕ) (s : State) (bs : List (List ℕ)) (broken : Option ℕ) (t : State) → replayed file f at s bs broken ≡ Room t → broken ≡ None
replay_whole file f at s [] None t is = refl
replay_whole file f at s [] (Some e) t is = cc is
replay_whole file f at s (b ∷ bs) broken t is =
    some_room (taken f s b) (λ v. replayed file f (at + (5 + length b)) v bs broken) file at t (broken ≡ None) (λ v here. replay_whole file f (at + (5 + length b)) v bs broken t here) is

-- what was found

pub found_new : (r : Reading) (base : ℕ) (found : Found) → IsFound base r found → found.snapshot ≡ None → r ≡ New
found_new New base found is none = refl
found_new (Damaged f at) base found is none = absurd is
found_new (Holds file f g h) base found is none = let e : Some h.snapshot ≡ None = sym is.snapshot_is ∙ none in cc e

pub record FoundAt (base : ℕ) (r : Reading) (found : Found) (sn : List ℕ) : Type 0 where
  pub generation : ℕ
  pub reading_is : r ≡ Holds found.file found.format generation (held_of sn found.bodies found.broken)
  pub place_is : found.journal ≡ place_at base found.file generation (end_of sn found.bodies)

pub found_at : (r : Reading) (base : ℕ) (found : Found) (sn : List ℕ) → IsFound base r found → found.snapshot ≡ Some sn → FoundAt base r found sn
found_at New base found sn is some = let e : None ≡ Some sn = sym is.snapshot_is ∙ some in cc e
found_at (Damaged f at) base found sn is some = absurd is
found_at (Holds file f g h) base found sn is some =
    let same : h.snapshot ≡ sn = let e : Some h.snapshot ≡ Some sn = sym is.snapshot_is ∙ some in cc e in
    record {
      generation = g;
      reading_is = ap (λ (n : ℕ). Holds n f g h) (sym is.file_is) ∙ ap (λ (e : Format). Holds found.file e g h) (sym is.format_is)
          ∙ ap (λ (s : List ℕ). Holds found.file found.format g (held_of s h.bodies h.broken)) same
          ∙ ap (λ (b : List (List ℕ)). Holds found.file found.format g (held_of sn b h.broken)) (sym is.bodies_are)
          ∙ ap (λ (o : Option ℕ). Holds found.file found.format g (held_of sn found.bodies o)) (sym is.broken_is);
      place_is = is.place ∙ ap (λ (n : ℕ). place_at base n g (end_of h.snapshot h.bodies)) (sym is.file_is)
          ∙ ap (λ (s : List ℕ). place_at base found.file g (end_of s h.bodies)) same
          ∙ ap (λ (b : List (List ℕ)). place_at base found.file g (end_of sn b)) (sym is.bodies_are);
    }

-- the files that were found hold this state, in their format

pub held_found : (base : ℕ) (seen : Reads) (now : ℕ → List ℕ → Type 0) (found : Found) (sn : List ℕ) (s : State) → FoundAt base (reading base (seen base) (seen (base + 1))) found sn
    → opened found.file found.format (held_of sn found.bodies found.broken) ≡ Room s → IsValidState s → Only (seen base) (now base) → Only (seen (base + 1)) (now (base + 1))
    → Settled found.format seen now found.journal s
held_found base seen now found sn s at opens valid first second =
    let none : found.broken ≡ None =
    some_room (snapshot_of found.format sn) (λ t. replayed found.file found.format (25 + length sn) t found.bodies found.broken) found.file 0 s (found.broken ≡ None)
    (λ v here. replay_whole found.file found.format (25 + length sn) v found.bodies found.broken s here) opens in
    let is : reading base (seen base) (seen (base + 1)) ≡ Holds found.file found.format at.generation (held_of sn found.bodies None) =
    at.reading_is ∙ ap (λ (o : Option ℕ). Holds found.file found.format at.generation (held_of sn found.bodies o)) none in
    let c = counts_by base found.file at.generation found.format (held_of sn found.bodies None) seen (says (seen base)) (says (seen (base + 1))) refl refl is in
    subst (λ (n : Place). Settled found.format seen now n s) (sym at.place_is) (record {
      holds = record {
        other = c.other;
        two = c.two;
        snapshot = sn;
        bodies = found.bodies;
        is = c.is;
        below = c.below;
        ends = refl;
        state_is = subst (λ (o : Option ℕ). opened found.file found.format (held_of sn found.bodies o) ≡ Room s) none opens;
      };
      first = first;
      second = second;
      valid = valid;
    })

pub held_files : (base : ℕ) (seen : Reads) (found : Found) (sn : List ℕ) (fs : Files) → FoundAt base (reading base (seen base) (seen (base + 1))) found sn
    → opened found.file found.format (held_of sn found.bodies found.broken) ≡ fs → files base (seen base) (seen (base + 1)) ≡ fs
held_files base seen found sn fs at opens = ap files_read at.reading_is ∙ opens

-- two states that the same files stand for

pub one_state : (s t : State) (fs : Files) → Stands s fs → Stands t fs → s ≡ t
one_state s t fs (inl a) (inl b) = let e : Room s ≡ Room t = sym a ∙ b in cc e
one_state s t fs (inl a) (inr b) = let e : Room s ≡ NewFiles = sym a ∙ b.0 in cc e
one_state s t fs (inr a) (inl b) = let e : NewFiles ≡ Room t = sym a.0 ∙ b in cc e
one_state s t fs (inr a) (inr b) = a.1 ∙ sym b.1

-- where nothing is done, images stand for what the files do

pub image_stands : (base : ℕ) (s : State) (seen : Reads) (now : ℕ → List ℕ → Type 0) → Stands s (files base (seen base) (seen (base + 1))) → Only (seen base) (now base) → Only (seen (base + 1)) (now (base + 1))
    → (image : Reads) → ((f : ℕ) → now f (image f)) → StandsFor base s image
image_stands base s seen now is first second image each =
    subst (λ (x : List ℕ). Stands s (files base x (image (base + 1)))) (sym (first (image base) (each base)))
    (subst (λ (y : List ℕ). Stands s (files base (seen base) y)) (sym (second (image (base + 1)) (each (base + 1)))) is)

pub nothing_done : (before : ℕ) (was : Images) (R : Reads → Type 0) → ((image : Reads) → ((f : ℕ) → was before f (image f)) → R image) → WholeBetween before before was was R
nothing_done before was R now = record {
  later = omega arith;
  keeps = record { kept = λ m f c le left. left; nothing_else = λ m f c le left. left };
  each = λ m image from till left. let same : m ≡ before = omega (arith, from, till) in now image (λ f. subst (λ (n : ℕ). was n f (image f)) same (left f));
}

-- answers of a call that began anew

pub moved : {S E : Type 0} (r : Result S E) (view : S → State) (s : State) (P : S → State → Type 0) → IfOk r (λ x. view x ≡ s) → IfOk r (λ x. P x s) → IfOk r (λ x. P x (view x))
moved (Ok x) view s P same is = subst (λ (t : State). P x t) (sym same) is
moved (Err e) view s P same is = tt

pub all_stand : {S E : Type 0} (r : Result S E) (view : S → State) (s : State) (fs : Files) → Stands s fs → IfOk r (λ x. view x ≡ s) → IfOk r (λ x. Stands (view x) fs)
all_stand (Ok x) view s fs is same = subst (λ (t : State). Stands t fs) (sym same) is
all_stand (Err e) view s fs is same = tt

pub disk_or_full : {S : Type 0} (r : Result S StoreFault) (fs : Files) → IfErr r (λ e. (e ≡ Disk) ⊎ (e ≡ Memory)) → IfErr r (λ e. (e ≡ Disk) ⊎ IsFault fs e)
disk_or_full (Ok x) fs is = tt
disk_or_full (Err e) fs is =
    ⊎_elim (λ (d : e ≡ Disk). inl d) (λ (m : e ≡ Memory). inr (subst (λ (x : StoreFault). IsFault fs x) (sym m) tt)) is

pub as_fault : (e : JournalFault) (fs : Files) → IsReplayFault fs e → IsFault fs (as_store e)
as_fault journal.Memory fs is = tt
as_fault journal.Disk fs is = absurd is
as_fault (journal.Damaged f at) fs is = is

-- the first state of a new room

pub empty_is : (ss : List Here) (t : Nodes) → ss ≡ [] → t ≡ empty_tree → state_of 0 ss t ≡ empty_state
empty_is ss t none bare = ap (λ (l : List Here). state_of 0 l t) none ∙ ap (λ (u : Nodes). state_of 0 [] u) bare

pub opened_same : (file : ℕ) (f : Format) (a x : List ℕ) (b y : List (List ℕ)) (o : Option ℕ) (fs : Files) → a ≡ x → b ≡ y → opened file f (held_of a b o) ≡ fs → opened file f (held_of x y o) ≡ fs
opened_same file f a x b y o fs first second is =
    subst (λ (l : List (List ℕ)). opened file f (held_of x l o) ≡ fs) second (subst (λ (l : List ℕ). opened file f (held_of l b o) ≡ fs) first is)

pub whole_as : (b c : ℕ) (s t : State) (before now : ℕ) (was is : Images) → b ≡ c → s ≡ t → WholeBetween before now was is (StandsFor b s) → WholeBetween before now was is (StandsFor c t)
whole_as b c s t before now was is based same run =
    subst (λ (u : State). WholeBetween before now was is (StandsFor c u)) same (subst (λ (n : ℕ). WholeBetween before now was is (StandsFor n s)) based run)

-- at each moment of a recovery

pub still_old : (before now : ℕ) (was is : Images) (R : Reads → Type 0) → RunsBetween before now was is (was before) → WholeBetween before now was is (BeforeOr (was before) R)
still_old before now was is R run = on_whole before now was is (was before) (BeforeOr (was before) R) run (λ image each. inl each)

pub old_then : (before mid now : ℕ) (was so is : Images) (R : Reads → Type 0) → RunsBetween before mid was so (was before) → WholeBetween mid now so is R → WholeBetween before now was is (BeforeOr (was before) R)
old_then before mid now was so is R first second =
    whole_then before mid now was so is (BeforeOr (was before) R) (still_old before mid was so R first)
    (record { later = second.later; keeps = second.keeps; each = λ m image from till left. inr (second.each m image from till left) })

pub stands_same : (base : ℕ) (s : State) (seen later : Reads) → ((f : ℕ) → later f ≡ seen f) → Stands s (files base (seen base) (seen (base + 1))) → Stands s (files base (later base) (later (base + 1)))
stands_same base s seen later same is =
    subst (λ (x : List ℕ). Stands s (files base x (later (base + 1)))) (sym (same base))
    (subst (λ (y : List ℕ). Stands s (files base (seen base) y)) (sym (same (base + 1))) is)

pub since_of : {S E : Type 0} (r : Result S E) (view : S → State) (base from mid now : ℕ) (was is : Images) (fs : Files) → IfOk r (λ x. Stands (view x) fs)
    → ((s : State) → Stands s fs → WholeBetween mid now was is (StandsFor base s)) → mid ≡ from → IfOk r (λ x. Since from now is (StandsFor base (view x)))
since_of (Ok x) view base from mid now was is fs stands run same = λ m image early late left. (run (view x) stands).each m image (omega (arith, early, same)) late left
since_of (Err e) view base from mid now was is fs stands run same = tt

-- a disk whose call was done goes on

not_err : {T E : Type 0} (r : Result T E) (x : T) → r ≡ Ok x → IsErr r → ⊥
not_err (Ok y) x at is = absurd (cc is)
not_err (Err e) x at is = cc at

not_true : (b : Bool) → (b ≡ true → ⊥) → b ≡ false
not_true true never = absurd (never refl)
not_true false never = refl

pub goes_on : {T E : Type 0} (r : Result T E) (x : T) (b : Bool) → r ≡ Ok x → (b ≡ true → IsErr r) → b ≡ false
goes_on r x b at fails = not_true b (λ stopped. not_err r x at (fails stopped))

-- files for which no other is made

pub never_new : (base : ℕ) (seen : Reads) → reading base (seen base) (seen (base + 1)) ≡ New → IsStill (reading base (seen base) (seen (base + 1))) → ⊥
never_new base seen is (inl written) = subst IsWritten is written
never_new base seen is (inr damaged) = subst IsDamaged (ap files_read is) damaged

pub never_one : (base : ℕ) (seen : Reads) (file g : ℕ) (f : Format) (h : Held) (s : State) → reading base (seen base) (seen (base + 1)) ≡ Holds file f g h → f ≡ One
    → files base (seen base) (seen (base + 1)) ≡ Room s → IsStill (reading base (seen base) (seen (base + 1))) → ⊥
never_one base seen file g f h s is one room (inl written) = subst IsWritten (is ∙ ap (λ (e : Format). Holds file e g h) one) written
never_one base seen file g f h s is one room (inr damaged) = subst IsDamaged room damaged

pub reading_same : (base : ℕ) (seen later : Reads) → ((f : ℕ) → later f ≡ seen f) → reading base (later base) (later (base + 1)) ≡ reading base (seen base) (seen (base + 1))
reading_same base seen later same = ap (λ (x : List ℕ). reading base x (later (base + 1))) (same base) ∙ ap (λ (y : List ℕ). reading base (seen base) y) (same (base + 1))

pub still_same : (base : ℕ) (seen later : Reads) → ((f : ℕ) → later f ≡ seen f) → IsStill (reading base (seen base) (seen (base + 1))) → IsStill (reading base (later base) (later (base + 1)))
still_same base seen later same is = subst IsStill (sym (reading_same base seen later same)) is

-- the other files

pub nothing_elsewhere : (base before : ℕ) (was : Images) → RunsBetween before before was was (Elsewhere base (was before))
nothing_elsewhere base before was = record {
  later = omega arith;
  keeps = record { kept = λ m f c le left. left; nothing_else = λ m f c le left. left };
  each = λ m f c from till left one another. let same : m ≡ before = omega (arith, from, till) in subst (λ (n : ℕ). was n f c) same left;
}

pub elsewhere_as : (b c before now : ℕ) (was is : Images) → b ≡ c → RunsBetween before now was is (Elsewhere b (was before)) → RunsBetween before now was is (Elsewhere c (was before))
elsewhere_as b c before now was is same run = subst (λ (n : ℕ). RunsBetween before now was is (Elsewhere n (was before))) same run

pub still_elsewhere : (base before now : ℕ) (was is : Images) → RunsBetween before now was is (was before) → RunsBetween before now was is (Elsewhere base (was before))
still_elsewhere base before now was is run = record {
  later = run.later;
  keeps = run.keeps;
  each = λ m f c from till left one another. run.each m f c from till left;
}

pub elsewhere_then : (base before mid now : ℕ) (was so is : Images) → RunsBetween before mid was so (was before) → RunsBetween mid now so is (Elsewhere base (so mid))
    → RunsBetween before now was is (Elsewhere base (was before))
elsewhere_then base before mid now was so is first second = record {
  later = omega (arith, first.later, second.later);
  keeps = keeps_then before mid was so is first.later first.keeps second.keeps;
  each = λ m f c from till left one another. ⊎_elim
      (λ (early : m ≤ mid). first.each m f c from early (second.keeps.nothing_else m f c early left))
      (λ (late : mid ≤ m). first.each mid f c first.later (omega arith) (second.each m f c late till left one another))
      (sooner_or_later m mid);
}
