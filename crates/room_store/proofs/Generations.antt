-- The last generation is one of the format that is written.
use Rattle.std.proofs.Common.{◌≡◌, ℕ, ◌<◌, ◌≤◌, ◌+◌, ◌==◌, List, Bool, true, false, refl, sym, ◌∙◌, length, arith}
use Rattle.std.specs.Prelude.{cond, ◌||◌, nat_lt, nat_le, Option, Some, None}
use Rattle.std.proofs.lemmas.Bool.Decides.{nat_tests}
use Rattle.room_bytes.specs.declared.entries.Format.{Format}
use Rattle.room_bytes.specs.declared.entries.Format.TheVariants.{One, Two}
use Rattle.room_journal.specs.declared.heading.Heading.{Heading}
use Rattle.room_journal.specs.declared.heading.Heading.TheVariants.{Shut, Wrong, Opened}
use Rattle.room_journal.specs.Files.{Held, Opens, heading, saying, says, held_in, is_open, format_of, generation_in, number_at, last_generation}
use Rattle.room_journal.specs.Rest.{Place, place_at, other_of, renewed}
use Rattle.room_store.proofs.Standing.{same_test, other_test}

saying_opens : (k : Heading) (i h : Option Held) (f : Format) (g : ℕ) → saying k i ≡ Opens f g h → k ≡ Opened f g
saying_opens Shut i h f g is = cc is
saying_opens Wrong i h f g is = cc is
saying_opens (Opened e n) i h f g is = cc is

heading_by : (a b : Bool) (k : Heading) (f : Format) (g : ℕ) → cond a (cond b k Wrong) Shut ≡ Opened f g → k ≡ Opened f g
heading_by true true k f g is = is
heading_by true false k f g is = cc is
heading_by false b k f g is = cc is

as_two : (b : Bool) (f : Format) (n g : ℕ) → cond b Wrong (Opened Two n) ≡ Opened f g → f ≡ Two
as_two true f n g is = cc is
as_two false f n g is = let e : Opened Two n ≡ Opened f g = is in cc e

or_last : (a b : Bool) → b ≡ true → (a || b) ≡ true
or_last true b is = refl
or_last false b is = is

as_one : (b : Bool) (f : Format) (n g : ℕ) → (n == 0 || n == last_generation) ≡ b → cond b Wrong (Opened One n) ≡ Opened f g → g ≡ last_generation → f ≡ Two
as_one true f n g by is last = cc is
as_one false f n g by is last =
    let same : n ≡ g = let e : Opened One n ≡ Opened f g = is in cc e in
    let yes : (n == 0 || n == last_generation) ≡ true = or_last (n == 0) (n == last_generation) (same_test n last_generation (same ∙ last)) in
    let no : true ≡ false = sym yes ∙ by in
    absurd (cc no)

generation_two : (o : Option Format) (f : Format) (n g : ℕ) → generation_in o n ≡ Opened f g → g ≡ last_generation → f ≡ Two
generation_two None f n g is last = cc is
generation_two (Some Two) f n g is last = as_two (n == 0) f n g is
generation_two (Some One) f n g is last = as_one (n == 0 || n == last_generation) f n g refl is last

pub two_at_last : (file : List ℕ) (f : Format) (g : ℕ) (h : Option Held) → says file ≡ Opens f g h → g ≡ last_generation → f ≡ Two
two_at_last file f g h is last =
    generation_two (format_of (number_at 1 file)) f (number_at 9 file) g
    (heading_by (is_open file) (nat_le 17 (length file)) (generation_in (format_of (number_at 1 file)) (number_at 9 file)) f g
    (saying_opens (heading file) (held_in file) h f g is)) last

-- the place after a renewal

pub renewed_next : (p : Place) (ready : List ℕ) → p.generation < last_generation → renewed p ready ≡ place_at p.base (other_of p.base p.file) (p.generation + 1) (length ready)
renewed_next p ready lt = rw (other_test p.generation last_generation (λ e. omega (arith, lt, e))) refl

pub renewed_last : (p : Place) (ready : List ℕ) → p.generation ≡ last_generation → renewed p ready ≡ p
renewed_last p ready is = rw (same_test p.generation last_generation is) refl

pub is_less : (g n : ℕ) → nat_lt g n ≡ true → g < n
is_less g n is = grind (arith, nat_tests)

pub is_last : (g n : ℕ) → g ≤ n → nat_lt g n ≡ false → g ≡ n
is_last g n le is = grind (arith, nat_tests)
