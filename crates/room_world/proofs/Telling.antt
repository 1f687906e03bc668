-- A line of the program beside the model's.
use Rattle.std.proofs.Common.{◌≡◌, ℕ, List, Option, Some, None, Result, Ok, Err, refl, sym, ap, ◌∙◌, subst, IfOk}
use Rattle.room_json.specs.declared.memory.NoMemory.{NoMemory}
use Rattle.room_replay.specs.Files.{Files, New}
use Rattle.room_model.specs.Lines as model
use Rattle.room_model.specs.World.{Fuse}
use Rattle.room_moves.specs.Reading.{Reads, DownReads}
use Rattle.room_script.specs.Told.{Told, Scheduled, Taken, scheduled, line_of}
use Rattle.room_script.specs.declared.lines.Line.{Line}
use Rattle.room_script.specs.declared.lines.Line.TheVariants as line
use Rattle.room_model.specs.World.{step}
use Rattle.room_world.specs.Did.{Did, Does}
use Rattle.room_world.specs.Kinds.{IsTaken}
use Rattle.room_world.specs.Seen.{Peopled, world_in}

some_is : (x y : model.Line) → Some x ≡ Some y → x ≡ y
some_is x y e = cc

none_is : (x : model.Line) → None ≡ Some x → ⊥
none_is x e = cc

-- a line of a script is none of a schedule
pub untold : (t : Told) (l : model.Line) → IsTaken t → scheduled t ≡ Some l → ⊥
untold (Scheduled m) l taken is = taken
untold (Taken n m) l taken is = none_is l is

pub told_as : (x a : Line) (l m : model.Line) → x ≡ a → line_of a ≡ Some m → line_of x ≡ Some l → l ≡ m
told_as x a l m is at told = some_is l m (sym told ∙ ap line_of is ∙ at)

-- what was done of the line m

pub does_as : (p q : Peopled) (number : ℕ) (x a : Line) (l m : model.Line) (lines : List (List ℕ)) → x ≡ a
    → line_of a ≡ Some m → line_of x ≡ Some l → Does p q number m lines → Does p q number l lines
does_as p q number x a l m lines is at told does =
    subst (λ (y : model.Line). Does p q number y lines) (sym (told_as x a l m is at told)) does

pub reads_as : (p q : Peopled) (number : ℕ) (x a : Line) (l m : model.Line) (r : Result (List (List ℕ)) NoMemory)
    → x ≡ a → line_of a ≡ Some m → line_of x ≡ Some l
    → ((fs : Files) (fuse : Option Fuse) → Reads (world_in p fs fuse) number l)
    → (Reads (world_in p New None) number m → IfOk r (Does p q number m)) → IfOk r (Does p q number l)
reads_as p q number x a l m r is at told reads does =
    let same = told_as x a l m is at told in
    subst (λ (y : model.Line). IfOk r (Does p q number y)) (sym same)
    (does (subst (λ (y : model.Line). Reads (world_in p New None) number y) same (reads New None)))

down_each : (p q : Peopled) (number k : ℕ) (r : Result (List (List ℕ)) NoMemory)
    → ((fs : Files) (fuse : Option Fuse) → DownReads (world_in p fs fuse) k)
    → ((fs : Files) (fuse : Option Fuse) → DownReads (world_in p fs fuse) k → IfOk r (λ ls.
    Did (step (world_in p fs fuse) number (model.OfConnection k model.Down)) ls (world_in q fs fuse)))
    → IfOk r (Does p q number (model.OfConnection k model.Down))
down_each p q number k (Ok ls) reads does = λ fs fuse. does fs fuse (reads fs fuse)
down_each p q number k (Err e) reads does = tt

pub down_as : (p q : Peopled) (number k : ℕ) (x : Line) (l : model.Line) (r : Result (List (List ℕ)) NoMemory)
    → x ≡ line.Down k → line_of x ≡ Some l
    → ((fs : Files) (fuse : Option Fuse) → Reads (world_in p fs fuse) number l)
    → ((fs : Files) (fuse : Option Fuse) → DownReads (world_in p fs fuse) k → IfOk r (λ ls.
    Did (step (world_in p fs fuse) number (model.OfConnection k model.Down)) ls (world_in q fs fuse)))
    → IfOk r (Does p q number l)
down_as p q number k x l r is told reads does =
    let same = told_as x (line.Down k) l (model.OfConnection k model.Down) is refl told in
    subst (λ (y : model.Line). IfOk r (Does p q number y)) (sym same)
    (down_each p q number k r
    (λ fs fuse. subst (λ (y : model.Line). Reads (world_in p fs fuse) number y) same (reads fs fuse)) does)
