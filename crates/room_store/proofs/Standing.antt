-- For which state the files stand, by what each of them says.
use Rattle.std.proofs.Common.{◌≡◌, inl, inr, ℕ, ◌+◌, ◌<◌, ◌==◌, List, [], ◌∷◌, ◌++◌, length, true, false, refl, sym, ◌∙◌, ap, subst, arith}
use Rattle.std.specs.Prelude.{nat_lt, Option, Some, None}
use Rattle.std.proofs.lemmas.Bool.Decides.{nat_tests}
use Rattle.room_disk.specs.Model.{Reads, Images, Only, OnFile, RunsBetween}
use Rattle.room_log.specs.Log.{State}
use Rattle.room_bytes.specs.declared.entries.Format.{Format}
use Rattle.room_snapshot.specs.Reading.{snapshot_of}
use Rattle.room_bytes.specs.declared.entries.Format.TheVariants.{Two}
use Rattle.room_journal.specs.Files.{Held, Holds, Says, Opens, Closed, Headless, chosen, reading, says}
use Rattle.room_journal.specs.Rest.{Place, other_of}
use Rattle.room_replay.specs.Files.{Files, Room, taken, held_of, or_damaged, replayed, opened, files_read, StandsFor}
use Rattle.room_store.specs.Consistent.{IsBelow, AreTwo, Settled, Elsewhere, IsWritten, AreWritten}

pub same_test : (a b : ℕ) → a ≡ b → (a == b) ≡ true
same_test a b is = grind (arith, nat_tests)

pub other_test : (a b : ℕ) → (a ≡ b → ⊥) → (a == b) ≡ false
other_test a b is = grind (arith, nat_tests)

less : (k g : ℕ) → k < g → nat_lt k g ≡ true
less k g lt = grind (arith, nat_tests)

not_less : (g k : ℕ) → k < g → nat_lt g k ≡ false
not_less g k lt = grind (arith, nat_tests)

low : (base g : ℕ) (f : Format) (h : Held) (y : Says) → IsBelow g y → chosen base (Opens f g (Some h)) y ≡ Holds base f g h
low base g f h Closed below = refl
low base g f h Headless below = absurd below
low base g f h (Opens e k i) lt = rw (less k g lt, not_less g k lt) refl

high : (base g : ℕ) (f : Format) (h : Held) (x : Says) → IsBelow g x → chosen base x (Opens f g (Some h)) ≡ Holds (base + 1) f g h
high base g f h Closed below = refl
high base g f h Headless below = absurd below
high base g f h (Opens e k i) lt = rw (less k g lt) refl

pub counts : (base file other g : ℕ) (f : Format) (h : Held) (image : Reads) → AreTwo base file other → says (image file) ≡ Opens f g (Some h) → IsBelow g (says (image other))
    → reading base (image base) (image (base + 1)) ≡ Holds file f g h
counts base file other g f h image (inl two) is below =
    let at : says (image base) ≡ Opens f g (Some h) = subst (λ (n : ℕ). says (image n) ≡ Opens f g (Some h)) two.0 is in
    let under : IsBelow g (says (image (base + 1))) = subst (λ (n : ℕ). IsBelow g (says (image n))) two.1 below in
    ap (λ (x : Says). chosen base x (says (image (base + 1)))) at ∙ low base g f h (says (image (base + 1))) under ∙ ap (λ (n : ℕ). Holds n f g h) (sym two.0)
counts base file other g f h image (inr two) is below =
    let at : says (image (base + 1)) ≡ Opens f g (Some h) = subst (λ (n : ℕ). says (image n) ≡ Opens f g (Some h)) two.0 is in
    let under : IsBelow g (says (image base)) = subst (λ (n : ℕ). IsBelow g (says (image n))) two.1 below in
    ap (λ (y : Says). chosen base (says (image base)) y) at ∙ high base g f h (says (image base)) under ∙ ap (λ (n : ℕ). Holds n f g h) (sym two.0)

pub stands : (base file other g : ℕ) (f : Format) (h : Held) (s : State) (image : Reads) → AreTwo base file other → says (image file) ≡ Opens f g (Some h) → IsBelow g (says (image other))
    → opened file f h ≡ Room s → StandsFor base s image
stands base file other g f h s image two is below state = inl (ap files_read (counts base file other g f h image two is below) ∙ state)

-- and that they hold a room in the format that is written
pub two_written : (base file other g : ℕ) (h : Held) (image : Reads) → AreTwo base file other → says (image file) ≡ Opens Two g (Some h) → IsBelow g (says (image other)) → AreWritten base image
two_written base file other g h image two is below = subst IsWritten (sym (counts base file other g Two h image two is below)) tt

-- one body more

last_of : (s t u : State) (b : List ℕ) (file at : ℕ) → Room s ≡ Room t → taken Two t b ≡ Some u → or_damaged file at (taken Two s b) (λ v. Room v) ≡ Room u
last_of s t u b file at is next =
    let same : s ≡ t = cc is in
    ap (λ (o : Option State). or_damaged file at o (λ v. Room v)) (ap (λ (r : State). taken Two r b) same ∙ next)

more_on : (o : Option State) (to more : State → Files) (file at : ℕ) (t u : State) → ((v : State) → to v ≡ Room t → more v ≡ Room u) → or_damaged file at o to ≡ Room t → or_damaged file at o more ≡ Room u
more_on (Some v) to more file at t u onward is = onward v is
more_on None to more file at t u onward is = cc is

replay_more : (file at : ℕ) (s : State) (bs : List (List ℕ)) (b : List ℕ) (t u : State) → replayed file Two at s bs None ≡ Room t → taken Two t b ≡ Some u → replayed file Two at s (bs ++ b ∷ []) None ≡ Room u
replay_more file at s [] b t u is next = last_of s t u b file at is next
replay_more file at s (x ∷ bs) b t u is next =
    more_on (taken Two s x) (λ v. replayed file Two (at + (5 + length x)) v bs None) (λ v. replayed file Two (at + (5 + length x)) v (bs ++ b ∷ []) None) file at t u
    (λ v here. replay_more file (at + (5 + length x)) v bs b t u here next) is

pub opened_more : (file : ℕ) (snapshot : List ℕ) (bs : List (List ℕ)) (b : List ℕ) (t u : State) → opened file Two (held_of snapshot bs None) ≡ Room t → taken Two t b ≡ Some u
    → opened file Two (held_of snapshot (bs ++ b ∷ []) None) ≡ Room u
opened_more file snapshot bs b t u is next =
    more_on (snapshot_of Two snapshot) (λ v. replayed file Two (25 + length snapshot) v bs None) (λ v. replayed file Two (25 + length snapshot) v (bs ++ b ∷ []) None) file 0 t u
    (λ v here. replay_more file (25 + length snapshot) v bs b t u here next) is

pub opened_new : (file : ℕ) (snapshot : List ℕ) (s : State) → snapshot_of Two snapshot ≡ Some s → opened file Two (held_of snapshot [] None) ≡ Room s
opened_new file snapshot s reads = ap (λ (o : Option State). or_damaged file 0 o (λ v. replayed file Two (25 + length snapshot) v [] None)) reads

-- the two files

pub apart : (base file other : ℕ) → AreTwo base file other → other ≡ file → ⊥
apart base file other (inl two) same = omega (arith, two.0, two.1, same)
apart base file other (inr two) same = omega (arith, two.0, two.1, same)

pub turned : (base file other : ℕ) → AreTwo base file other → AreTwo base other file
turned base file other (inl two) = inr (two.1, two.0)
turned base file other (inr two) = inl (two.1, two.0)

pub is_other : (base file other : ℕ) → AreTwo base file other → other ≡ other_of base file
is_other base file other (inl two) = rw (same_test file base two.0) two.1
is_other base file other (inr two) = rw (other_test file base (omega (arith, two.0))) two.1

pub only_other : (base file other : ℕ) (seen : Reads) (now : ℕ → List ℕ → Type 0) → AreTwo base file other → Only (seen base) (now base) → Only (seen (base + 1)) (now (base + 1)) → Only (seen other) (now other)
only_other base file other seen now (inl two) first second = subst (λ (f : ℕ). Only (seen f) (now f)) (sym two.1) second
only_other base file other seen now (inr two) first second = subst (λ (f : ℕ). Only (seen f) (now f)) (sym two.1) first

pub only_both : (base file other : ℕ) (seen : Reads) (now : ℕ → List ℕ → Type 0) → AreTwo base file other → Only (seen file) (now file) → Only (seen other) (now other)
    → Only (seen base) (now base) × Only (seen (base + 1)) (now (base + 1))
only_both base file other seen now (inl two) one another = (subst (λ (f : ℕ). Only (seen f) (now f)) two.0 one, subst (λ (f : ℕ). Only (seen f) (now f)) two.1 another)
only_both base file other seen now (inr two) one another = (subst (λ (f : ℕ). Only (seen f) (now f)) two.1 another, subst (λ (f : ℕ). Only (seen f) (now f)) two.0 one)

pub not_file : (base file other f : ℕ) → AreTwo base file other → (f ≡ base → ⊥) → (f ≡ base + 1 → ⊥) → f ≡ file → ⊥
not_file base file other f (inl two) one another is = one (is ∙ two.0)
not_file base file other f (inr two) one another is = another (is ∙ two.0)

-- runs

-- a file that a run left alone, on the disk as before
pub left_alone : (f file before now : ℕ) (was is : Images) (P : List ℕ → Type 0) (old new : List ℕ) → (f ≡ file → ⊥) → RunsBetween before now was is (OnFile file P (was before)) → new ≡ old → Only old (was before f) → Only new (is now f)
left_alone f file before now was is P old new other run same only c left = let late = run.later in only c ((run.each now f c late (omega arith) left).1 other) ∙ sym same

pub elsewhere : (base file other before now : ℕ) (was is : Images) (P : List ℕ → Type 0) → AreTwo base file other → RunsBetween before now was is (OnFile file P (was before))
    → RunsBetween before now was is (Elsewhere base (was before))
elsewhere base file other before now was is P two run = record {
  later = run.later;
  keeps = run.keeps;
  each = λ m f c from till left one another. (run.each m f c from till left).1 (not_file base file other f two one another);
}

pub standing : (f : Format) (p : Place) (s : State) (seen : Reads) (now : ℕ → List ℕ → Type 0) → Settled f seen now p s → (image : Reads) → ((n : ℕ) → now n (image n)) → StandsFor p.base s image
standing f p s seen now st image each =
    let h = st.holds in
    let here : image p.file ≡ seen p.file = only_other p.base h.other p.file seen now (turned p.base p.file h.other h.two) st.first st.second (image p.file) (each p.file) in
    let there : image h.other ≡ seen h.other = only_other p.base p.file h.other seen now h.two st.first st.second (image h.other) (each h.other) in
    stands p.base p.file h.other p.generation f (held_of h.snapshot h.bodies None) s image h.two (ap says here ∙ h.is) (subst (λ (l : List ℕ). IsBelow p.generation (says l)) (sym there) h.below) h.state_is

pub on_other : (f : Format) (p : Place) (s : State) (seen : Reads) (now : ℕ → List ℕ → Type 0) (st : Settled f seen now p s) → Only (seen st.holds.other) (now st.holds.other)
on_other f p s seen now st = only_other p.base p.file st.holds.other seen now st.holds.two st.first st.second

pub on_file : (f : Format) (p : Place) (s : State) (seen : Reads) (now : ℕ → List ℕ → Type 0) (st : Settled f seen now p s) → Only (seen p.file) (now p.file)
on_file f p s seen now st = only_other p.base st.holds.other p.file seen now (turned p.base p.file st.holds.other st.holds.two) st.first st.second
