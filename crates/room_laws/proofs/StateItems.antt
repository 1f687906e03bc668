-- The items of a valid tree, and the tree that items spell.
use Rattle.room_items.proofs.SoundItems.{items_sound, items_shallow}
use Rattle.room_items.proofs.SoundTrees.{trees_formed, trees_sound, trees_shallow}
use Rattle.room_laws.specs.Accounts.{TreesAreValid}
use Rattle.room_laws.specs.Validity.{ItemsOfValid}

pub trees_valid : TreesAreValid
trees_valid vs t h e = record { formed = trees_formed vs t e; sound = trees_sound vs t e h.json; shallow = trees_shallow vs t e h.shallow }

pub items_of_valid : ItemsOfValid
items_of_valid t h = record { json = items_sound t h.sound; shallow = items_shallow t h.shallow }
