-- A choice by a test.
use Rattle.std.proofs.Common.{◌≡◌, true, false, Bool, sym}
use Rattle.std.proofs.lemmas.Bool.{false≢true}
use Rattle.room_disk.specs.Record.{Chosen}

pub chosen : (b : Bool) (A B : Type 0) → b ≡ true → Chosen b A B → A
chosen true A B is a = a
chosen false A B is b = absurd (false≢true is)

pub passed_over : (b : Bool) (A B : Type 0) → b ≡ false → Chosen b A B → B
passed_over false A B is b = b
passed_over true A B is a = absurd (false≢true (sym is))

pub choose : (b : Bool) (A B : Type 0) → b ≡ true → A → Chosen b A B
choose true A B is a = a
choose false A B is a = absurd (false≢true is)

pub pass_over : (b : Bool) (A B : Type 0) → b ≡ false → B → Chosen b A B
pass_over false A B is b = b
pass_over true A B is b = absurd (false≢true (sym is))

pub chosen_map : (b : Bool) (A B C D : Type 0) → (A → C) → (B → D) → Chosen b A B → Chosen b C D
chosen_map true A B C D g h a = g a
chosen_map false A B C D g h b = h b
